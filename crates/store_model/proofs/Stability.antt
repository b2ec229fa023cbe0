-- What is claimed of an event stays so while others add lawful events that do not touch it.
use Rattle.std.proofs.Common.{◌≡◌, ℕ, suc, Bool, true, false, ◌&&◌, List, [], ◌∷◌, ◌++◌, refl, ap, sym, ◌∙◌, subst, inl, inr, Option, cond}
use Rattle.std.specs.Prelude.{◌⊎◌, Contains, fold}
use Rattle.std.specs.List.{list_any}
use Rattle.std.proofs.lemmas.Bool.{true≢false, and_parts, and_from, and_left, or_from, or_left, or_right, ne_eqb}
use Rattle.std.proofs.lemmas.List.Folds.{list_any-append}
use Rattle.byte_fields.specs.Reading.{read_of}
use Rattle.store_model.proofs.Lists.{contains_append, none_passes, one_passes, passes, all_weaker, mapped_of, contains_first, contains_later}
use Rattle.index_tree.specs.declared.index.Slot.{Slot}
use Rattle.index_tree.specs.PageRules.{Page}
use Rattle.key_kind.specs.declared.key.Key.{Key}
use Rattle.key_kind.specs.declared.key.Holder.{Holder}
use Rattle.key_kind.specs.Names.{Name}
use Rattle.key_kind.specs.Keys.{same_key, same_holder}
use Rattle.key_kind.proofs.KeyTests.{same_key_is, same_holder_is}
use Rattle.bucket_core.specs.declared.event.PieceName.{PieceName}
use Rattle.bucket_core.specs.declared.event.Change.{Change}
use Rattle.bucket_core.specs.declared.event.Change.TheVariants as changes
use Rattle.bucket_core.specs.declared.event.Event.{Event}
use Rattle.bucket_core.specs.declared.event.Event.TheVariants as events
use Rattle.bucket_core.specs.History.{History, Bytes, author, puts_by}
use Rattle.store_model.specs.declared.chain.LinkRow.{LinkRow}
use Rattle.store_model.specs.declared.snapshot.SnapRow.{SnapRow}
use Rattle.store_model.specs.Library.{State, Version, state_of, after_change, is_live, same_piece, after_changes}
use Rattle.store_model.specs.Links.{Linked, links, links_at, reached, reaches, is_needed, is_reached, is_reached_by_needed, entries, is_entry, restates, left_behind, chain_entries, IsRetold}
use Rattle.store_model.specs.Holders.{IsHeldRow, is_held_by, has_index, holder_is, has_name}
use Rattle.store_model.specs.Commits.{MayRefer, FitsLink, FitsReleased, IsFresh, IsNewIndex, MayNameKey, newest_reaches}
use Rattle.store_model.specs.Law.{IsClaimed, MayPut, MayName, IsDead}
use Rattle.store_model.specs.Intact.{IsIntact}
use Rattle.store_model.proofs.Dropping.{it_is_reached}
use Rattle.store_model.proofs.Needing.{refer_keeps_no_more}
use Rattle.store_model.proofs.Naming.{refer_holds_stay, unnamed_has_name}
use Rattle.store_model.proofs.Referring.{at_symbol, linked_row, reached_cases, new_link}

-- ---- tests that fail

pub is_false : (b : Bool) → (b ≡ true → ⊥) → b ≡ false
is_false b apart = elim b as (λ t. b ≡ t → t ≡ false) [ true ↦ λ e. absurd (apart e) | false ↦ λ e. refl ] refl

pub none_pass : {X : Type 0} (p : X → Bool) (xs : List X) → ((x : X) → Contains xs x → p x ≡ false) → list_any p xs ≡ false
none_pass p [] apart = refl
none_pass p (x ∷ xs) apart = or_from _ _ (apart x (contains_first x xs)) (none_pass p xs (λ y c. apart y (contains_later y x xs c)))

pub other_holder : (a b : Holder) → (a.client ≡ b.client → ⊥) → same_holder a b ≡ false
other_holder a b apart = and_left _ _ (ne_eqb a.client b.client apart)

-- ---- Put

pub puts_other : (h : History) (x : Event) (client : ℕ) → (author x ≡ client → ⊥) → puts_by client (x ∷ h) ≡ puts_by client h
puts_other h (events.Put c key body) client apart = ap (λ b. cond b (suc (puts_by client h)) (puts_by client h)) (ne_eqb c client apart)
puts_other h (events.Refer c s was entry list) client apart = refl
puts_other h (events.Name c snap body) client apart = refl
puts_other h (events.Unname c snap) client apart = refl
puts_other h (events.Drop c key) client apart = refl

pub put_claim_stays : (h : History) (x : Event) (client : ℕ) (key : Key) (body : Bytes) → (author x ≡ client → ⊥) → MayPut h client key body → MayPut (x ∷ h) client key body
put_claim_stays h x client key body apart may = record { key_is = may.key_is; fits = may.fits; own = may.own; next = may.next ∙ sym (puts_other h x client apart); spelled = may.spelled }

-- ---- Name

-- others give no name to a client's holder
pub unnamed_stays : (h : History) (x : Event) (holder : Holder) → IsClaimed h x → (author x ≡ holder.client → ⊥) → has_name h holder ≡ false → has_name (x ∷ h) holder ≡ false
unnamed_stays h (events.Name c snap body) holder claim apart e =
    or_from _ _ (subst (λ o. holder_is holder o ≡ false) (sym (ap read_of claim.spelled)) (other_holder claim.snapshot.holder holder (λ s. apart (sym claim.own ∙ s)))) e
unnamed_stays h (events.Put c key body) holder claim apart e = e
unnamed_stays h (events.Refer c s was entry list) holder claim apart e = e
unnamed_stays h (events.Unname c snap) holder claim apart e = e
unnamed_stays h (events.Drop c key) holder claim apart e = e

-- others release no hold of a holder of the client that has no name
pub may_not_release_others : (h : History) (client : ℕ) (symbol : Name) (other holder : Holder) → (client ≡ holder.client → ⊥) → has_name h holder ≡ false → FitsReleased h client symbol other → same_holder other holder ≡ false
may_not_release_others h client symbol other holder apart unnamed f = is_false (same_holder other holder) (λ s.
    let is : other ≡ holder = same_holder_is other holder s in
    elim f.allowed [
      | inl own ↦ apart (sym own.0 ∙ ap (λ (a : Holder). a.client) is)
      | inr gone ↦ true≢false (sym (subst (λ a. has_name h a ≡ true) is (unnamed_has_name h client other gone)) ∙ unnamed)
    ])

pub held_row_stays : (h : History) (x : Event) (holder : Holder) (r : SnapRow) → IsClaimed h x → (author x ≡ holder.client → ⊥) → has_name h holder ≡ false → IsHeldRow h holder r → IsHeldRow (x ∷ h) holder r
held_row_stays h (events.Refer c s was entry list) holder r claim apart unnamed k = (
  at_symbol s r.symbol (λ t. is_held_by (cond t (after_changes (state_of h r.symbol) list) (state_of h r.symbol)) holder r.version ≡ true)
      (λ same. let m : MayRefer h c r.symbol was entry list = subst (λ n. MayRefer h c n was entry list) same claim in
      refer_holds_stay h c r.symbol was entry list holder r.version m (λ other f. may_not_release_others h c r.symbol other holder apart unnamed f) k.0)
      k.0,
  at_symbol s r.symbol (λ t. has_index (cond t (links_at h entry ++ links h r.symbol) (links h r.symbol)) r.version r.index ≡ true)
      (λ same. list_any-append _ (links_at h entry) (links h r.symbol) ∙ or_right _ _ k.1)
      k.1,
)
held_row_stays h (events.Put c key body) holder r claim apart unnamed k = k
held_row_stays h (events.Name c snap body) holder r claim apart unnamed k = k
held_row_stays h (events.Unname c snap) holder r claim apart unnamed k = k
held_row_stays h (events.Drop c key) holder r claim apart unnamed k = k

pub name_claim_stays : (h : History) (x : Event) (client : ℕ) (body : Bytes) → IsClaimed h x → (author x ≡ client → ⊥) → MayName h client body → MayName (x ∷ h) client body
name_claim_stays h x client body claim apart may =
    let distinct : author x ≡ may.snapshot.holder.client → ⊥ = λ e. apart (e ∙ may.own) in
    record {
      snapshot = may.snapshot;
      spelled = may.spelled;
      own = may.own;
      unnamed = unnamed_stays h x may.snapshot.holder claim distinct may.unnamed;
      rows = all_weaker (IsHeldRow h may.snapshot.holder) (IsHeldRow (x ∷ h) may.snapshot.holder) (λ r k. held_row_stays h x may.snapshot.holder r claim distinct may.unnamed k) may.snapshot.rows may.rows;
    }

-- ---- Drop

-- a key of a link that may be made is fresh, or reached by a needed link
pub newest_is_needed : (st : State) (list : List Linked) (key : Key) → newest_reaches st list key ≡ true → (l : Linked) × Contains list l × (is_needed st l ≡ true) × (reaches l key ≡ true)
newest_is_needed st [] key e = absurd (true≢false (sym e))
newest_is_needed st (l ∷ older) key e =
    elim (is_live st l.row.version) as (λ t. is_live st l.row.version ≡ t → cond t (reaches l key) (newest_reaches st older key) ≡ true → (l' : Linked) × Contains (l ∷ older) l' × (is_needed st l' ≡ true) × (reaches l' key ≡ true)) [
      | true ↦ λ live f. (l, contains_first l older, or_left _ _ live, f)
      | false ↦ λ live f. let r = newest_is_needed st older key f in (r.0, contains_later r.0 l older r.1, r.2, r.3)
    ] refl e

pub fits_source : (h : History) (client : ℕ) (symbol : Name) (row : LinkRow) (v : Version) (f : FitsLink h client symbol row v) (key : Key) → Contains (reached f.link) key
    → IsFresh h client row.version key ⊎ (newest_reaches (state_of h symbol) (links h symbol) key ≡ true)
fits_source h client symbol row v f key c =
    let is : f.link.row ≡ row = linked_row h row f.link f.link_is in
    elim (reached_cases f.link key c) [
      | inl e ↦ inl (subst (IsFresh h client row.version) (ap (λ (r : LinkRow). r.index) (sym is) ∙ e) f.new_index.fresh)
      | inr rest ↦ elim rest [
        | inl d ↦
            let r = mapped_of (λ (p : Page). IsNewIndex h client row.version symbol p.row.key) (λ (p : Page). p.row.key) f.link.pages key f.new_pages d in
            inl (subst (IsFresh h client row.version) r.3 r.2.fresh)
        | inr d ↦
            let r = mapped_of (λ (s : Slot). MayNameKey h client row.version symbol s.key) (λ (s : Slot). s.key) f.link.index.slots key f.keys d in
            subst (λ k. IsFresh h client row.version k ⊎ (newest_reaches (state_of h symbol) (links h symbol) k ≡ true)) r.3 r.2.fresh_or_shared
      ]
    ]

-- where a new link reaches a key, the key is new to the client, or some needed link reaches it
new_source : (h : History) (client : ℕ) (was : Option Key) (entry : Key) (list : List Change) (key : Key) (may : MayRefer h client key.name was entry list) (i : IsIntact h) (l : Linked)
    → Contains (links_at h entry) l → reaches l key ≡ true → ((version : ℕ) × IsFresh h client version key) ⊎ (is_reached_by_needed h key ≡ true)
new_source h client was entry list key may i l there e =
    let m = new_link h client key.name was entry list may i l there in
    let reach : Contains (reached m.one.fits.link) key = subst (λ k. Contains (reached k) key) (sym m.is) (it_is_reached l key e) in
    elim (fits_source h client key.name m.row m.one.made m.one.fits key reach) [
      | inl fresh ↦ inl (m.row.version, fresh)
      | inr newest ↦
          let n = newest_is_needed (state_of h key.name) (links h key.name) key newest in
          inr (passes (λ l. is_needed (state_of h key.name) l && reaches l key) (links h key.name) n.0 n.1 (and_from _ _ n.2 n.3))
    ]

module _ (h : History) (client : ℕ) (was : Option Key) (entry : Key) (list : List Change) (key : Key) (may : MayRefer h client key.name was entry list) (i : IsIntact h) where
  -- a key that is not needed is not needed after a Refer
  unneeded_stays : is_reached h key ≡ true → is_reached_by_needed h key ≡ false
      → list_any (λ l. is_needed (fold after_change (state_of h key.name) list) l && reaches l key) (links_at h entry ++ links h key.name) ≡ false
  unneeded_stays once no_more = none_pass _ _ (λ l there. is_false _ (λ both.
      let r = and_parts (is_needed (fold after_change (state_of h key.name) list) l) (reaches l key) both in
      elim (contains_append (links_at h entry) (links h key.name) l there) [
        | inl new ↦ elim (new_source h client was entry list key may i l new r.1) [
          | inl fresh ↦ true≢false (sym once ∙ fresh.1.unreached)
          | inr needed ↦ true≢false (sym needed ∙ no_more)
        ]
        | inr old ↦
            let before : is_needed (state_of h key.name) l ≡ true = (refer_keeps_no_more h client key.name was entry list may).kept l.row.version (i.below key.name l old) r.0 in
            true≢false (sym (and_from _ _ before r.1) ∙ none_passes (λ l. is_needed (state_of h key.name) l && reaches l key) (links h key.name) l no_more old)
      ]))

  -- a key of another client that apart link reached is reached by none after a Refer
  pub unreached_stays : (owner : ℕ) → (client ≡ owner → ⊥) → key.client ≡ owner → is_reached h key ≡ false → list_any (λ l. reaches l key) (links_at h entry ++ links h key.name) ≡ false
  unreached_stays owner apart own e = none_pass _ _ (λ l there. is_false _ (λ reach.
      elim (contains_append (links_at h entry) (links h key.name) l there) [
        | inl new ↦ elim (new_source h client was entry list key may i l new reach) [
          | inl fresh ↦ apart (sym fresh.1.own ∙ own)
          | inr needed ↦
              let n = one_passes (λ l. is_needed (state_of h key.name) l && reaches l key) (links h key.name) needed in
              true≢false (sym (passes (λ l. reaches l key) (links h key.name) n.0 n.1 (and_parts (is_needed (state_of h key.name) n.0) (reaches n.0 key) n.2).1) ∙ e)
        ]
        | inr old ↦ true≢false (sym reach ∙ none_passes (λ l. reaches l key) (links h key.name) l e old)
      ]))

  pub no_entry_stays : (owner : ℕ) → (client ≡ owner → ⊥) → key.client ≡ owner → is_entry h key.name key ≡ false → list_any (λ k. same_key k key) (entry ∷ entries h key.name) ≡ false
  no_entry_stays owner apart own e = or_from _ _ (is_false (same_key entry key) (λ s. apart (sym may.own ∙ (ap (λ (k : Key). k.client) (same_key_is entry key s) ∙ own)))) e

consumed_grows : (list : List Change) (st : State) (name : PieceName) → list_any (same_piece name) st.consumed ≡ true → list_any (same_piece name) (fold after_change st list).consumed ≡ true
consumed_grows [] st name e = e
consumed_grows (changes.Discarded pieces ∷ list) st name e = consumed_grows list (after_change st (changes.Discarded pieces)) name (list_any-append (same_piece name) pieces st.consumed ∙ or_right _ _ e)
consumed_grows (changes.Wrote frame at ∷ list) st name e = consumed_grows list (after_change st (changes.Wrote frame at)) name e
consumed_grows (changes.Appended frame at ∷ list) st name e = consumed_grows list (after_change st (changes.Appended frame at)) name e
consumed_grows (changes.Updated frame range at ∷ list) st name e = consumed_grows list (after_change st (changes.Updated frame range at)) name e
consumed_grows (changes.Removed versions ∷ list) st name e = consumed_grows list (after_change st (changes.Removed versions)) name e
consumed_grows (changes.Held holder version ∷ list) st name e = consumed_grows list (after_change st (changes.Held holder version)) name e
consumed_grows (changes.Released holder ∷ list) st name e = consumed_grows list (after_change st (changes.Released holder)) name e
consumed_grows (changes.Restated ∷ list) st name e = consumed_grows list (after_change st changes.Restated) name e

-- an element that was told anew is not taken into the chain again
retold_stays : (h : History) (client : ℕ) (was : Option Key) (entry : Key) (list : List Change) (key : Key) → MayRefer h client key.name was entry list → IsRetold h key
    → list_any (λ k. same_key k key) (entry ∷ left_behind list (chain_entries h key.name)) ≡ false
retold_stays h client was entry list key may r =
    or_from _ _ (is_false (same_key entry key) (λ s. true≢false (sym (subst (λ k. is_entry h key.name k ≡ true) (sym (same_key_is entry key s)) r.once) ∙ may.fresh)))
    (elim (restates list) as (λ b. list_any (λ k. same_key k key) (cond b [] (chain_entries h key.name)) ≡ false) [ true ↦ refl | false ↦ r.no_more ])

-- a key that is dead stays dead
pub dead_stays : (h : History) (x : Event) (key : Key) (client : ℕ) → IsClaimed h x → IsIntact h → (author x ≡ client → ⊥) → IsDead h key client → IsDead (x ∷ h) key client
dead_stays h (events.Refer c s was entry list) key client claim i apart dead = elim dead [
  | inl u ↦ inl (record {
    once = at_symbol s key.name (λ t. list_any (λ l. reaches l key) (cond t (links_at h entry ++ links h key.name) (links h key.name)) ≡ true)
        (λ e. list_any-append _ (links_at h entry) (links h key.name) ∙ or_right _ _ u.once) u.once;
    no_more = at_symbol s key.name (λ t. list_any (λ l. is_needed (cond t (after_changes (state_of h key.name) list) (state_of h key.name)) l && reaches l key) (cond t (links_at h entry ++ links h key.name) (links h key.name)) ≡ false)
        (λ e. unneeded_stays h c was entry list key (may_at e) i u.once u.no_more) u.no_more;
  })
  | inr rest ↦ inr (elim rest [
    | inl p ↦ inl (record {
      staged = p.staged;
      consumed = at_symbol s key.name (λ t. list_any (same_piece (record { client = key.client; serial = key.serial })) (cond t (after_changes (state_of h key.name) list) (state_of h key.name)).consumed ≡ true)
          (λ e. consumed_grows list (state_of h key.name) (record { client = key.client; serial = key.serial }) p.consumed) p.consumed;
    })
    | inr later ↦ inr (elim later [
      | inl o ↦ inl (record {
        own = o.own;
        table = o.table;
        unreached = at_symbol s key.name (λ t. list_any (λ l. reaches l key) (cond t (links_at h entry ++ links h key.name) (links h key.name)) ≡ false)
            (λ e. unreached_stays h c was entry list key (may_at e) i client apart o.own o.unreached) o.unreached;
        no_entry = at_symbol s key.name (λ t. list_any (λ k. same_key k key) (cond t (entry ∷ entries h key.name) (entries h key.name)) ≡ false)
            (λ e. no_entry_stays h c was entry list key (may_at e) i client apart o.own o.no_entry) o.no_entry;
      })
      | inr r ↦ inr (record {
        not_yet = r.not_yet;
        once = at_symbol s key.name (λ t. list_any (λ k. same_key k key) (cond t (entry ∷ entries h key.name) (entries h key.name)) ≡ true) (λ e. or_right _ _ r.once) r.once;
        no_more = at_symbol s key.name (λ t. list_any (λ k. same_key k key) (cond t (entry ∷ left_behind list (chain_entries h key.name)) (chain_entries h key.name)) ≡ false)
            (λ e. retold_stays h c was entry list key (may_at e) r) r.no_more;
      })
    ])
  ])
]
  where
    may_at : s ≡ key.name → MayRefer h c key.name was entry list
    may_at e = subst (λ n. MayRefer h c n was entry list) e claim
dead_stays h (events.Put c k body) key client claim i apart dead = elim dead [
  | inl u ↦ inl (record { once = u.once; no_more = u.no_more })
  | inr rest ↦ inr (elim rest [
    | inl p ↦ inl (record { staged = p.staged; consumed = p.consumed })
    | inr later ↦ inr (elim later [
      | inl o ↦ inl (record { own = o.own; table = o.table; unreached = o.unreached; no_entry = o.no_entry })
      | inr r ↦ inr (record { not_yet = r.not_yet; once = r.once; no_more = r.no_more })
    ])
  ])
]
dead_stays h (events.Name c snap body) key client claim i apart dead = elim dead [
  | inl u ↦ inl (record { once = u.once; no_more = u.no_more })
  | inr rest ↦ inr (elim rest [
    | inl p ↦ inl (record { staged = p.staged; consumed = p.consumed })
    | inr later ↦ inr (elim later [
      | inl o ↦ inl (record { own = o.own; table = o.table; unreached = o.unreached; no_entry = o.no_entry })
      | inr r ↦ inr (record { not_yet = r.not_yet; once = r.once; no_more = r.no_more })
    ])
  ])
]
dead_stays h (events.Unname c snap) key client claim i apart dead = elim dead [
  | inl u ↦ inl (record { once = u.once; no_more = u.no_more })
  | inr rest ↦ inr (elim rest [
    | inl p ↦ inl (record { staged = p.staged; consumed = p.consumed })
    | inr later ↦ inr (elim later [
      | inl o ↦ inl (record { own = o.own; table = o.table; unreached = o.unreached; no_entry = o.no_entry })
      | inr r ↦ inr (record { not_yet = r.not_yet; once = r.once; no_more = r.no_more })
    ])
  ])
]
dead_stays h (events.Drop c k) key client claim i apart dead = elim dead [
  | inl u ↦ inl (record { once = u.once; no_more = u.no_more })
  | inr rest ↦ inr (elim rest [
    | inl p ↦ inl (record { staged = p.staged; consumed = p.consumed })
    | inr later ↦ inr (elim later [
      | inl o ↦ inl (record { own = o.own; table = o.table; unreached = o.unreached; no_entry = o.no_entry })
      | inr r ↦ inr (record { not_yet = r.not_yet; once = r.once; no_more = r.no_more })
    ])
  ])
]
