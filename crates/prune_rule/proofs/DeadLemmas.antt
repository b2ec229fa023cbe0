-- Links and the keys that they reach: kinds, one link for an index, and that dead keys stay dead.
use Rattle.std.proofs.Common.{◌≡◌, ℕ, suc, true, false, ◌||◌, [], ◌∷◌, ◌++◌, map, refl, ap, sym, ◌∙◌, subst, inl, inr, arith, cond, Option, Some, None}
use Rattle.std.specs.Prelude.{◌⊎◌, Contains, is_some}
use Rattle.std.specs.List.{list_any, AllByRecursion}
use Rattle.std.proofs.lemmas.Bool.{true≢false}
use denote.Struct.Props.{props}
use mathlib.Core.Logic.{∥∥₁_elim}
use Rattle.index_tree.specs.declared.index.Slot.{Slot}
use Rattle.key_kind.specs.declared.key.KeyKind.TheVariants as kinds
use Rattle.key_kind.specs.declared.key.Key.{Key}
use Rattle.key_kind.specs.Names.{Name, same_name}
use Rattle.key_kind.specs.Keys.{is_put, same_kind}
use Rattle.key_kind.proofs.KeyTests.{same_name_is}
use Rattle.bucket_core.specs.declared.event.Event.{Event}
use Rattle.bucket_core.specs.declared.event.Event.TheVariants as events
use Rattle.bucket_core.specs.History.{History, author, stored, body_put}
use Rattle.store_model.specs.declared.chain.LinkRow.{LinkRow}
use Rattle.store_model.specs.Links.{Linked, links, links_at, reached, reaches, is_reached, IsUnneeded, IsConsumedPiece, links_of, links_in}
use Rattle.store_model.specs.Commits.{MayRefer, MayNameKey, marks_of}
use Rattle.store_model.specs.Law.{IsLawful}
use Rattle.store_model.specs.Intact.{IsTableKey}
use Rattle.store_model.proofs.Lists.{contains_first, contains_cases, contains_none, contains_append, one_passes, none_passes, passes, mapped_of, all_weaker}
use Rattle.store_model.proofs.Lawful.{lawful_is_intact}
use Rattle.store_model.proofs.Dropping.{reaches_it, it_is_reached, reached_is_table, table_is_not_staged}
use Rattle.store_model.proofs.Histories.{stands_from}
use Rattle.store_model.proofs.Stability.{dead_stays}
use Rattle.store_model.proofs.OwnPuts.{unput_is_unreached}
use Rattle.store_model.proofs.Referring.{linked_row, new_link}
use Rattle.store_model.proofs.Plainly.{is_commit, none_retold}
use Rattle.store_model.specs.PlainLinks.{flat_put}
use Rattle.store_model.proofs.PlainLinks.{plain_reach, linked_flat}
use Rattle.store_model.proofs.Linking.{refer_makes}
use Rattle.frame_read.proofs.FetchLemmas.{links_later}
use Rattle.prune_rule.specs.DropCalls.{IsDroppable}
use Rattle.prune_rule.proofs.GoneLemmas.{still_put}

-- ---- kinds

-- an index key, and keys of tiles
pub record HasKinds (l : Linked) : Type 0 where
  pub index : l.row.index.kind ≡ kinds.TableIndex
  pub tiles : AllByRecursion (λ (s : Slot). s.key.kind ≡ kinds.TableData) l.index.slots

-- a link of a Refer that was just made
new_kinds : (h : History) (client : ℕ) (symbol : Name) (was : Option Key) (entry : Key) (list : _) (may : MayRefer h client symbol was entry list) → IsLawful h → (l : Linked) → Contains (links_at h entry) l → HasKinds l
new_kinds h client symbol was entry list may lawful l new =
    let m = new_link h client symbol was entry list may (lawful_is_intact h lawful) l new in
    subst HasKinds m.is (record {
      index = ap (λ (r : LinkRow). r.index.kind) (linked_row h m.row m.one.fits.link m.one.fits.link_is) ∙ m.one.fits.new_index.kind;
      tiles = all_weaker (λ (s : Slot). MayNameKey h client m.row.version symbol s.key) (λ (s : Slot). s.key.kind ≡ kinds.TableData) (λ s k. k.kind) m.one.fits.link.index.slots m.one.fits.keys;
    })

-- each link has the key of an index and keys of tiles
pub link_kinds : (h : History) → IsLawful h → (symbol : Name) (l : Linked) → Contains (links h symbol) l → HasKinds l
link_kinds [] lawful symbol l c = absurd (contains_none l c)
link_kinds (events.Refer client s was entry list ∷ h) lawful symbol l c =
    elim (same_name s symbol) as (λ t. same_name s symbol ≡ t → Contains (cond t (links_at h entry ++ links h symbol) (links h symbol)) l → HasKinds l) [
      | true ↦ λ e d. elim (contains_append (links_at h entry) (links h symbol) l d) [
        | inl new ↦ new_kinds h client s was entry list lawful.0.1 lawful.1 l new
        | inr old ↦ link_kinds h lawful.1 symbol l old
      ]
      | false ↦ λ e d. link_kinds h lawful.1 symbol l d
    ] refl c
link_kinds (events.Put client key body ∷ h) lawful symbol l c = link_kinds h lawful.1 symbol l c
link_kinds (events.Name client snap body ∷ h) lawful symbol l c = link_kinds h lawful.1 symbol l c
link_kinds (events.Unname client snap ∷ h) lawful symbol l c = link_kinds h lawful.1 symbol l c
link_kinds (events.Drop client key ∷ h) lawful symbol l c = link_kinds h lawful.1 symbol l c

-- a key of an index that a link without pages reaches is its own
pub own_index : (l : Linked) (key : Key) → HasKinds l → l.pages ≡ [] → Contains (reached l) key → key.kind ≡ kinds.TableIndex → l.row.index ≡ key
own_index l key k none reach kind = elim (contains_cases key l.row.index (map (λ (s : Slot). s.key) l.index.slots) (subst (λ ks. Contains ks key) (plain_reach l none) reach)) [
  | inl is ↦ is
  | inr tile ↦
      let r = mapped_of (λ (s : Slot). s.key.kind ≡ kinds.TableData) (λ (s : Slot). s.key) l.index.slots key k.tiles tile in
      absurd (apart (ap (λ (x : Key). x.kind) (sym r.3) ∙ r.2) kind)
]
  where
    apart : key.kind ≡ kinds.TableData → key.kind ≡ kinds.TableIndex → ⊥
    apart a b = cc

-- ---- one link for an index

module _ (h : History) (client : ℕ) (symbol : Name) (was : Option Key) (entry : Key) (list : _) (may : MayRefer h client symbol was entry list) (lawful : IsLawful h) where
  -- no older link reaches the index of a new one
  new_alone : (l m : Linked) → Contains (links_at h entry) l → Contains (links h symbol) m → Contains (reached m) l.row.index → ⊥
  new_alone l m new old reach =
      let n = new_link h client symbol was entry list may (lawful_is_intact h lawful) l new in
      let row : l.row ≡ n.row = ap (λ (k : Linked). k.row) (sym n.is) ∙ linked_row h n.row n.one.fits.link n.one.fits.link_is in
      let name : n.row.index.name ≡ symbol = n.one.fits.new_index.name in
      let none : list_any (λ (k : Linked). reaches k n.row.index) (links h symbol) ≡ false = subst (λ s. list_any (λ (k : Linked). reaches k n.row.index) (links h s) ≡ false) name n.one.fits.new_index.fresh.unreached in
      true≢false (sym (reaches_it m n.row.index (subst (λ (r : LinkRow). Contains (reached m) r.index) row reach)) ∙ none_passes (λ (k : Linked). reaches k n.row.index) (links h symbol) m none old)

  -- a Refer makes one link at most
  new_same : (l m : Linked) → Contains (links_at h entry) l → Contains (links_at h entry) m → l.row ≡ m.row
  new_same l m a b =
      let change = is_commit h client symbol was entry list may in
      let spelled : links_at h entry ≡ links_in h (marks_of change.row list) = ap (links_of h) change.spelled in
      elim (refer_makes h client symbol change.row list change.form change.fits) [
        | inl none ↦ absurd (contains_none l (subst (λ ls. Contains ls l) (spelled ∙ none.links) a))
        | inr one ↦
            let here : links_at h entry ≡ one.fits.link ∷ [] = spelled ∙ one.links in
            ap (λ (k : Linked). k.row) (sym (only one.fits.link l (subst (λ ls. Contains ls l) here a)) ∙ only one.fits.link m (subst (λ ls. Contains ls m) here b))
      ]
    where
      only : (one k : Linked) → Contains (one ∷ []) k → one ≡ k
      only one k c = elim (contains_cases k one [] c) [ inl is ↦ is | inr none ↦ absurd (contains_none k none) ]

-- links that have one index have one row
pub index_once : (h : History) → IsLawful h → (symbol : Name) (l m : Linked) → Contains (links h symbol) l → Contains (links h symbol) m → l.row.index ≡ m.row.index → l.row ≡ m.row
index_once [] lawful symbol l m a b is = absurd (contains_none l a)
index_once (events.Refer client s was entry list ∷ h) lawful symbol l m a b is =
    elim (same_name s symbol) as (λ t. same_name s symbol ≡ t → Contains (cond t (links_at h entry ++ links h symbol) (links h symbol)) l → Contains (cond t (links_at h entry ++ links h symbol) (links h symbol)) m → l.row ≡ m.row) [
      | true ↦ λ e c d.
          let may : MayRefer h client symbol was entry list = subst (λ n. MayRefer h client n was entry list) (same_name_is s symbol e) lawful.0.1 in
          elim (contains_append (links_at h entry) (links h symbol) l c) [
            | inl new ↦ elim (contains_append (links_at h entry) (links h symbol) m d) [
              | inl again ↦ new_same h client symbol was entry list may lawful.1 l m new again
              | inr old ↦ absurd (new_alone h client symbol was entry list may lawful.1 l m new old (subst (λ k. Contains (reached m) k) (sym is) (contains_first m.row.index _)))
            ]
            | inr older ↦ elim (contains_append (links_at h entry) (links h symbol) m d) [
              | inl new ↦ absurd (new_alone h client symbol was entry list may lawful.1 m l new older (subst (λ k. Contains (reached l) k) is (contains_first l.row.index _)))
              | inr old ↦ index_once h lawful.1 symbol l m older old is
            ]
          ]
      | false ↦ λ e c d. index_once h lawful.1 symbol l m c d is
    ] refl a b
index_once (events.Put client key body ∷ h) lawful symbol l m a b is = index_once h lawful.1 symbol l m a b is
index_once (events.Name client snap body ∷ h) lawful symbol l m a b is = index_once h lawful.1 symbol l m a b is
index_once (events.Unname client snap ∷ h) lawful symbol l m a b is = index_once h lawful.1 symbol l m a b is
index_once (events.Drop client key ∷ h) lawful symbol l m a b is = index_once h lawful.1 symbol l m a b is

-- ---- what a link reaches was put

pub reached_put : (h : History) → IsLawful h → (symbol : Name) (l : Linked) (key : Key) → Contains (links h symbol) l → Contains (reached l) key → is_some (body_put h key) ≡ true
reached_put h lawful symbol l key there reach = by (body_put h key) refl
  where
    name : key.name ≡ symbol
    name = ((lawful_is_intact h lawful).table_keys symbol l key there reach).name

    by : (o : Option _) → body_put h key ≡ o → is_some (body_put h key) ≡ true
    by (Some body) is = ap is_some is
    by None is =
        let none : list_any (λ (k : Linked). reaches k key) (links h symbol) ≡ false = subst (λ s. list_any (λ (k : Linked). reaches k key) (links h s) ≡ false) name (unput_is_unreached h lawful key is) in
        absurd (true≢false (sym (reaches_it l key reach) ∙ none_passes (λ (k : Linked). reaches k key) (links h symbol) l none there))

-- so was a key that nobody needs any more, and one that is stored
pub unneeded_put : (h : History) (key : Key) → ∥ IsLawful h ∥₁ → IsUnneeded h key → is_some (body_put h key) ≡ true
unneeded_put h key lawful u =
    let r = one_passes (λ (l : Linked). reaches l key) (links h key.name) u.once in
    ∥∥₁_elim lawful (hlevel props) (λ l. reached_put h l key.name r.0 key r.1 (it_is_reached r.0 key r.2))

pub stored_was_put : (h : History) (key : Key) → is_put key.kind ≡ true → is_some (stored h key) ≡ true → is_some (body_put h key) ≡ true
stored_was_put h key kind stands = ap is_some (stands_from h key kind stands).put

-- the index that was put under a link's key is its own
pub index_is : (h : History) → IsLawful h → (symbol : Name) (l : Linked) → Contains (links h symbol) l → flat_put h l.row.index ≡ Some l.index
index_is = linked_flat

-- ---- dead keys stay dead, whoever adds events

pub table_is_put : (symbol : Name) (key : Key) → IsTableKey symbol key → is_put key.kind ≡ true
table_is_put symbol key t = elim t.kind [ inl d ↦ ap is_put d | inr d ↦ ap is_put d ]

another : (n : ℕ) → n ≡ suc n → ⊥
another n e = omega (arith, e)

reached_stays : (x : Event) (h : History) (key : Key) → is_reached h key ≡ true → is_reached (x ∷ h) key ≡ true
reached_stays x h key once =
    let r = one_passes (λ (l : Linked). reaches l key) (links h key.name) once in
    passes (λ (l : Linked). reaches l key) (links (x ∷ h) key.name) r.0 (links_later (x ∷ []) h key.name r.0 r.1) r.2

unneeded_once : (x : Event) (h : History) (key : Key) → IsLawful (x ∷ h) → IsUnneeded h key → IsUnneeded (x ∷ h) key
unneeded_once x h key lawful u = elim (dead_stays h x key (suc (author x)) lawful.0.1 (lawful_is_intact h lawful.1) (another (author x)) (inl u)) [
  | inl v ↦ v
  | inr rest ↦ elim rest [
    | inl p ↦ absurd (table_is_not_staged key.name key (reached_is_table h key (lawful_is_intact h lawful.1) u.once) p.staged)
    | inr (inl o) ↦ absurd (true≢false (sym (reached_stays x h key u.once) ∙ o.unreached))
    | inr (inr r) ↦ absurd (none_retold (x ∷ h) key r)
  ]
]

consumed_once : (x : Event) (h : History) (key : Key) → IsLawful (x ∷ h) → IsConsumedPiece h key → IsConsumedPiece (x ∷ h) key
consumed_once x h key lawful p = elim (dead_stays h x key (suc (author x)) lawful.0.1 (lawful_is_intact h lawful.1) (another (author x)) (inr (inl p))) [
  | inl u ↦ absurd (table_is_not_staged key.name key (reached_is_table (x ∷ h) key (lawful_is_intact (x ∷ h) lawful) u.once) p.staged)
  | inr rest ↦ elim rest [
    | inl q ↦ q
    | inr (inl o) ↦ absurd (true≢false (sym o.table ∙ ap (λ k. same_kind k kinds.TableData || same_kind k kinds.TableIndex || same_kind k kinds.Version) p.staged))
    | inr (inr r) ↦ absurd (none_retold (x ∷ h) key r)
  ]
]

unneeded_later : (more h : History) (key : Key) → IsLawful (more ++ h) → IsUnneeded h key → IsUnneeded (more ++ h) key
unneeded_later [] h key lawful u = u
unneeded_later (x ∷ more) h key lawful u = unneeded_once x (more ++ h) key lawful (unneeded_later more h key lawful.1 u)

consumed_later : (more h : History) (key : Key) → IsLawful (more ++ h) → IsConsumedPiece h key → IsConsumedPiece (more ++ h) key
consumed_later [] h key lawful p = p
consumed_later (x ∷ more) h key lawful p = consumed_once x (more ++ h) key lawful (consumed_later more h key lawful.1 p)

-- a key that may be dropped is of a kind that clients put
pub droppable_is_put : (h : History) (key : Key) → ∥ IsLawful h ∥₁ → IsDroppable h key → is_put key.kind ≡ true
droppable_is_put h key lawful d = elim d.dead [
  | inl u ↦ ∥∥₁_elim lawful (hlevel props) (λ l. table_is_put key.name key (reached_is_table h key (lawful_is_intact h l) u.once))
  | inr p ↦ ap is_put p.staged
]

-- and may be dropped later
pub droppable_later : (more h new : History) (key : Key) → new ≡ more ++ h → ∥ IsLawful new ∥₁ → IsDroppable h key → IsDroppable new key
droppable_later more h new key is lawful d =
    let there : ∥ IsLawful (more ++ h) ∥₁ = subst (λ g. ∥ IsLawful g ∥₁) is lawful in
    record {
      dead = subst (λ g. IsUnneeded g key ⊎ IsConsumedPiece g key) (sym is) (elim d.dead [
        | inl u ↦ inl (record {
          once = ∥∥₁_elim there (hlevel props) (λ l. (unneeded_later more h key l u).once);
          no_more = ∥∥₁_elim there (hlevel props) (λ l. (unneeded_later more h key l u).no_more);
        })
        | inr p ↦ inr (record { staged = p.staged; consumed = ∥∥₁_elim there (hlevel props) (λ l. (consumed_later more h key l p).consumed) })
      ]);
      put = still_put more h new key is lawful d.put;
    }
