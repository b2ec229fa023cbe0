-- Standing names and their holders.
use Rattle.std.proofs.Common.{◌≡◌, ℕ, true, false, ◌&&◌, not, List, [], ◌∷◌, refl, ap, sym, ◌∙◌, subst, inl, inr, Option, Some, None, cond, nat_eq}
use Rattle.std.specs.Prelude.{◌⊎◌, fold, filter}
use Rattle.std.specs.List.{AllByRecursion}
use Rattle.std.proofs.lemmas.Bool.{true≢false, and_parts, or_cases, or_left, or_right, or_from, and_right, not_from_false}
use Rattle.byte_fields.specs.Reading.{read_of}
use Rattle.store_model.proofs.Lists.{one_passes, passes, in_filter}
use Rattle.key_kind.specs.declared.key.Holder.{Holder}
use Rattle.key_kind.specs.Names.{Name, same_name}
use Rattle.key_kind.specs.Keys.{same_holder}
use Rattle.key_kind.proofs.KeyTests.{same_name_is, same_name_self, same_holder_is, same_holder_self}
use Rattle.bucket_core.specs.declared.event.Change.{Change}
use Rattle.bucket_core.specs.declared.event.Change.TheVariants as changes
use Rattle.bucket_core.specs.declared.event.Event.{Event}
use Rattle.bucket_core.specs.declared.event.Event.TheVariants as events
use Rattle.key_kind.specs.declared.key.Key.{Key}
use Rattle.bucket_core.specs.History.{History, Bytes, StandsAsPut}
use Rattle.store_model.proofs.Histories.{stands_at_name, stands_at_unname}
use Rattle.store_model.specs.declared.chain.LinkRow.{LinkRow}
use Rattle.store_model.specs.declared.snapshot.SnapBody.{SnapBody}
use Rattle.store_model.specs.ChainText.{snap_of}
use Rattle.store_model.specs.Library.{State, Hold, state_of, after_change, staged_key}
use Rattle.store_model.specs.Snapshots.{snap_body}
use Rattle.store_model.specs.Holders.{IsHeldRow, holder_is, has_name, has_unnamed, is_held_by}
use Rattle.store_model.specs.Commits.{FitsChange, FitsMark, FitsReleased, MayRefer}
use Rattle.store_model.specs.Law.{MayName}
use Rattle.store_model.specs.Intact.{IsIntact}

-- a standing name was given to its holder
pub standing_has_name : (h : History) (snap : Name) (body : SnapBody) → snap_body h snap ≡ Some body → has_name h body.holder ≡ true
standing_has_name [] snap body e = absurd cc
standing_has_name (events.Name c name bytes ∷ h) snap body e =
    elim (same_name name snap) as (λ t. cond t (read_of (snap_of bytes)) (snap_body h snap) ≡ Some body → has_name (events.Name c name bytes ∷ h) body.holder ≡ true) [
      | true ↦ λ f. or_left _ _ (subst (λ o. holder_is body.holder o ≡ true) (sym f) (same_holder_self body.holder))
      | false ↦ λ f. or_right _ _ (standing_has_name h snap body f)
    ] e
standing_has_name (events.Unname c name ∷ h) snap body e =
    elim (same_name name snap) as (λ t. cond t None (snap_body h snap) ≡ Some body → has_name h body.holder ≡ true) [
      | true ↦ λ f. absurd cc
      | false ↦ λ f. standing_has_name h snap body f
    ] e
standing_has_name (events.Put c key bytes ∷ h) snap body e = standing_has_name h snap body e
standing_has_name (events.Refer c s was entry list ∷ h) snap body e = standing_has_name h snap body e
standing_has_name (events.Drop c key ∷ h) snap body e = standing_has_name h snap body e

-- the holder of a name that the store has
pub held_name : (h : History) (snap : Name) (holder : Holder) (o : Option SnapBody) → snap_body h snap ≡ o → holder_is holder o ≡ true → has_name h holder ≡ true
held_name h snap holder None e f = absurd (true≢false (sym f))
held_name h snap holder (Some body) e f = subst (λ x. has_name h x ≡ true) (same_holder_is body.holder holder f) (standing_has_name h snap body e)

-- a name that was taken away was given
pub unnamed_has_name : (h : History) (client : ℕ) (holder : Holder) → has_unnamed h client holder ≡ true → has_name h holder ≡ true
unnamed_has_name [] client holder e = absurd (true≢false (sym e))
unnamed_has_name (events.Unname c snap ∷ h) client holder e = elim (or_cases _ _ e) [
  | inl this ↦ held_name h snap holder (snap_body h snap) refl (and_parts (nat_eq c client) _ this).1
  | inr older ↦ unnamed_has_name h client holder older
]
unnamed_has_name (events.Name c snap bytes ∷ h) client holder e = or_right _ _ (unnamed_has_name h client holder e)
unnamed_has_name (events.Put c key bytes ∷ h) client holder e = unnamed_has_name h client holder e
unnamed_has_name (events.Refer c s was entry list ∷ h) client holder e = unnamed_has_name h client holder e
unnamed_has_name (events.Drop c key ∷ h) client holder e = unnamed_has_name h client holder e

-- ---- what a standing name holds is not released

-- the holder of a standing name is none that may be released
pub may_not_release : (h : History) (client : ℕ) (symbol : Name) (holder : Holder) (snap : Name) (body : SnapBody) → IsIntact h → snap_body h snap ≡ Some body
    → FitsReleased h client symbol holder → same_holder holder body.holder ≡ false
may_not_release h client symbol holder snap body i e f =
    elim (same_holder holder body.holder) as (λ t. same_holder holder body.holder ≡ t → t ≡ false) [
      | true ↦ λ s.
          let is : holder ≡ body.holder = same_holder_is holder body.holder s in
          elim f.allowed [
            | inl own ↦ absurd (true≢false (sym (subst (λ x. has_name h x ≡ true) (sym is) (standing_has_name h snap body e)) ∙ own.1))
            | inr gone ↦ absurd (true≢false (sym (subst (λ x. has_unnamed h client x ≡ true) is gone) ∙ i.unnamed snap body client e))
          ]
      | false ↦ λ s. refl
    ] refl

-- a hold of this holder is still there after a change
hold_stays : (h : History) (client : ℕ) (symbol : Name) (holder : Holder) (n : ℕ) (st : State) (c : Change) → FitsMark h client symbol c
    → ((other : Holder) → FitsReleased h client symbol other → same_holder other holder ≡ false)
    → is_held_by st holder n ≡ true → is_held_by (after_change st c) holder n ≡ true
hold_stays h client symbol holder n st (changes.Wrote frame at) fits kept e = e
hold_stays h client symbol holder n st (changes.Appended frame at) fits kept e = e
hold_stays h client symbol holder n st (changes.Updated frame range at) fits kept e = e
hold_stays h client symbol holder n st (changes.Removed versions) fits kept e = e
hold_stays h client symbol holder n st (changes.Held other version) fits kept e = or_right _ _ e
hold_stays h client symbol holder n st (changes.Released other) fits kept e =
    let test = λ (w : Hold). same_holder holder w.holder && nat_eq n w.version in
    let r = one_passes test st.holds e in
    let is : holder ≡ r.0.holder = same_holder_is holder r.0.holder (and_parts (same_holder holder r.0.holder) (nat_eq n r.0.version) r.2).0 in
    let apart : same_holder other r.0.holder ≡ false = subst (λ x. same_holder other x ≡ false) is (kept other fits) in
    passes test (filter (λ (w : Hold). not (same_holder other w.holder)) st.holds) r.0 (in_filter (λ (w : Hold). not (same_holder other w.holder)) st.holds r.0 r.1 (not_from_false _ apart)) r.2
hold_stays h client symbol holder n st (changes.Discarded pieces) fits kept e = e
hold_stays h client symbol holder n st changes.Restated fits kept e = absurd fits

holds_stay : (h : History) (client : ℕ) (symbol : Name) (row : LinkRow) (holder : Holder) (n : ℕ) (list : List Change) (st : State) → AllByRecursion (FitsChange h client symbol row) list
    → ((other : Holder) → FitsReleased h client symbol other → same_holder other holder ≡ false)
    → is_held_by st holder n ≡ true → is_held_by (fold after_change st list) holder n ≡ true
holds_stay h client symbol row holder n [] st fits kept e = e
holds_stay h client symbol row holder n (c ∷ list) st fits kept e =
    holds_stay h client symbol row holder n list (after_change st c) fits.1 kept (hold_stays h client symbol holder n st c fits.0.1 kept e)

-- so after a Refer
pub refer_holds_stay : (h : History) (client : ℕ) (symbol : Name) (was : Option Key) (entry : Key) (list : List Change) (holder : Holder) (n : ℕ) → MayRefer h client symbol was entry list
    → ((other : Holder) → FitsReleased h client symbol other → same_holder other holder ≡ false)
    → is_held_by (state_of h symbol) holder n ≡ true → is_held_by (fold after_change (state_of h symbol) list) holder n ≡ true
refer_holds_stay h client symbol was entry list holder n may kept e = elim may.how [
  | inl change ↦ holds_stay h client symbol change.row holder n list (state_of h symbol) change.fits kept e
  | inr restate ↦ subst (λ l. is_held_by (fold after_change (state_of h symbol) l) holder n ≡ true) (sym restate.alone) e
]

-- ---- the steps of names

some_same : {x y : SnapBody} → Some x ≡ Some y → x ≡ y
some_same e = cc

module _ (h : History) (client : ℕ) (snap : Name) (bytes : Bytes) (may : MayName h client bytes) (i : IsIntact h) where
  abbrev named : Event
  named = events.Name client snap bytes

  stays_named : (key : Key) → StandsAsPut h key → StandsAsPut (named ∷ h) key
  stays_named key s = stands_at_name h client snap bytes key (i.numbered key s.body s.put).1 s

  -- what stands under a name afterwards: the new snapshot under the new name, and what stood before under another
  stands_after : (x : Name) (body : SnapBody) → snap_body (named ∷ h) x ≡ Some body → ((snap ≡ x) × (may.snapshot ≡ body)) ⊎ (snap_body h x ≡ Some body)
  stands_after x body =
      elim (same_name snap x) as (λ t. same_name snap x ≡ t → cond t (read_of (snap_of bytes)) (snap_body h x) ≡ Some body → ((snap ≡ x) × (may.snapshot ≡ body)) ⊎ (snap_body h x ≡ Some body)) [
        | true ↦ λ e f. inl (same_name_is snap x e, some_same (sym (ap read_of may.spelled) ∙ f))
        | false ↦ λ e f. inr f
      ] refl

  -- no standing name has the new holder
  new_holder : (x : Name) (body : SnapBody) → snap_body h x ≡ Some body → same_holder may.snapshot.holder body.holder ≡ true → ⊥
  new_holder x body e s =
      true≢false (sym (standing_has_name h x body e) ∙ (ap (has_name h) (sym (same_holder_is may.snapshot.holder body.holder s)) ∙ may.unnamed))

  pub name_keeps : IsIntact (named ∷ h)
  name_keeps = record {
    once = i.once;
    numbered = i.numbered;
    table_keys = i.table_keys;
    needed = λ s l key there need reach. stays_named key (i.needed s l key there need reach);
    element_keys = i.element_keys;
    elements = λ s key there. stays_named key (i.elements s key there);
    pieces = λ s p there. stays_named (staged_key s p) (i.pieces s p there);
    versions = i.versions;
    below = i.below;
    chain = i.chain;
    buried = i.buried;
    held = λ x body e. elim (stands_after x body e) [
      | inl new ↦ subst (λ (b : SnapBody). AllByRecursion (IsHeldRow h b.holder) b.rows) new.1 may.rows
      | inr old ↦ i.held x body old
    ];
    one_name = λ a b x y e f s. elim (stands_after a x e) [
      | inl new ↦ elim (stands_after b y f) [
        | inl new' ↦ sym new.0 ∙ new'.0
        | inr old' ↦ absurd (new_holder b y old' (subst (λ (z : SnapBody). same_holder z.holder y.holder ≡ true) (sym new.1) s))
      ]
      | inr old ↦ elim (stands_after b y f) [
        | inl new' ↦ absurd (new_holder a x old (subst (λ (z : SnapBody). same_holder z.holder x.holder ≡ true) (sym new'.1) (same_holder_back x.holder y.holder s)))
        | inr old' ↦ i.one_name a b x y old old' s
      ]
    ];
    unnamed = λ x body c e. elim (stands_after x body e) [
      | inl new ↦ not_yet_unnamed body c (subst (λ (z : SnapBody). has_name h z.holder ≡ false) new.1 may.unnamed)
      | inr old ↦ i.unnamed x body c old
    ];
  }
    where
      same_holder_back : (a b : Holder) → same_holder a b ≡ true → same_holder b a ≡ true
      same_holder_back a b e = subst (λ x. same_holder b x ≡ true) (sym (same_holder_is a b e)) (same_holder_self b)

      not_yet_unnamed : (body : SnapBody) (c : ℕ) → has_name h body.holder ≡ false → has_unnamed h c body.holder ≡ false
      not_yet_unnamed body c e =
          elim (has_unnamed h c body.holder) as (λ t. has_unnamed h c body.holder ≡ t → t ≡ false) [
            | true ↦ λ u. absurd (true≢false (sym (unnamed_has_name h c body.holder u) ∙ e))
            | false ↦ λ u. refl
          ] refl

module _ (h : History) (client : ℕ) (snap : Name) (i : IsIntact h) where
  abbrev unnames : Event
  unnames = events.Unname client snap

  stays_unnamed : (key : Key) → StandsAsPut h key → StandsAsPut (unnames ∷ h) key
  stays_unnamed key s = stands_at_unname h client snap key (i.numbered key s.body s.put).1 s

  -- what stands afterwards stood before, under another name
  stood_before : (x : Name) (body : SnapBody) → snap_body (unnames ∷ h) x ≡ Some body → (same_name snap x ≡ false) × (snap_body h x ≡ Some body)
  stood_before x body =
      elim (same_name snap x) as (λ t. same_name snap x ≡ t → cond t None (snap_body h x) ≡ Some body → (t ≡ false) × (snap_body h x ≡ Some body)) [
        | true ↦ λ e f. absurd cc
        | false ↦ λ e f. (refl, f)
      ] refl

  -- the name that goes has another holder
  another_holder : (x : Name) (body : SnapBody) (o : Option SnapBody) → same_name snap x ≡ false → snap_body h x ≡ Some body → snap_body h snap ≡ o → holder_is body.holder o ≡ false
  another_holder x body None e f g = refl
  another_holder x body (Some gone) e f g =
      elim (same_holder gone.holder body.holder) as (λ t. same_holder gone.holder body.holder ≡ t → t ≡ false) [
        | true ↦ λ s. absurd (true≢false (sym (subst (λ n. same_name snap n ≡ true) (i.one_name snap x gone body g f s) (same_name_self snap)) ∙ e))
        | false ↦ λ s. refl
      ] refl

  pub unname_keeps : IsIntact (unnames ∷ h)
  unname_keeps = record {
    once = i.once;
    numbered = i.numbered;
    table_keys = i.table_keys;
    needed = λ s l key there need reach. stays_unnamed key (i.needed s l key there need reach);
    element_keys = i.element_keys;
    elements = λ s key there. stays_unnamed key (i.elements s key there);
    pieces = λ s p there. stays_unnamed (staged_key s p) (i.pieces s p there);
    versions = i.versions;
    below = i.below;
    chain = i.chain;
    buried = i.buried;
    held = λ x body e. i.held x body (stood_before x body e).1;
    one_name = λ a b x y e f s. i.one_name a b x y (stood_before a x e).1 (stood_before b y f).1 s;
    unnamed = λ x body c e.
        let r = stood_before x body e in
        or_from _ _ (and_right (nat_eq client c) _ (another_holder x body (snap_body h snap) r.0 r.1 refl)) (i.unnamed x body c r.1);
  }
