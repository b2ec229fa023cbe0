-- A Refer keeps a history intact.
use Rattle.std.proofs.Common.{◌≡◌, ℕ, suc, ◌<◌, Bool, true, false, List, [], ◌∷◌, ◌++◌, refl, ap, sym, ◌∙◌, subst, inl, inr, Option, Some, cond, arith}
use Rattle.std.specs.Prelude.{Contains, fold}
use Rattle.std.specs.List.{AllZip, cons_option}
use Rattle.std.proofs.lemmas.Bool.{or_right}
use Rattle.std.proofs.lemmas.List.Folds.{list_any-append}
use Rattle.store_model.proofs.Lists.{contains_append, contains_cases, contains_none, mapped_of, all_weaker}
use Rattle.index_tree.specs.declared.index.Slot.{Slot}
use Rattle.index_tree.specs.PageRules.{Page}
use Rattle.key_kind.specs.declared.key.KeyKind.TheVariants as kinds
use Rattle.key_kind.specs.declared.key.Key.{Key}
use Rattle.key_kind.specs.Names.{Name, same_name}
use Rattle.key_kind.specs.Keys.{is_put}
use Rattle.key_kind.proofs.KeyTests.{same_name_is}
use Rattle.bucket_core.specs.declared.event.Change.{Change}
use Rattle.bucket_core.specs.declared.event.Event.{Event}
use Rattle.bucket_core.specs.declared.event.Event.TheVariants as events
use Rattle.bucket_core.specs.History.{History, StandsAsPut, reference}
use Rattle.store_model.proofs.Histories.{stands_at_refer, stands_from}
use Rattle.store_model.specs.declared.chain.LinkRow.{LinkRow}
use Rattle.store_model.specs.declared.snapshot.SnapRow.{SnapRow}
use Rattle.store_model.specs.declared.snapshot.SnapBody.{SnapBody}
use Rattle.store_model.specs.Library.{Version, state_of, is_buried, is_linked, number_after, next_number, after_change, open_pieces, staged_key, after_changes}
use Rattle.store_model.specs.Snapshots.{snap_body}
use Rattle.store_model.specs.Links.{Linked, links, links_at, links_of, reached, is_needed, entries, left_behind, chain_entries, element}
use Rattle.store_model.specs.Holders.{IsHeldRow, is_held_by, has_index}
use Rattle.store_model.specs.Commits.{MayRefer, FitsLink, IsNewIndex, MayNameKey}
use Rattle.store_model.specs.Intact.{IsIntact, IsTableKey, IsLinkOf}
use Rattle.store_model.specs.Walks.{chain, Tell}
use Rattle.store_model.proofs.Needing.{refer_keeps_no_more, refer_opens_none, refer_buries_made}
pub use Rattle.store_model.proofs.Linking.{linked_row, reached_cases}
use Rattle.store_model.proofs.Linking.{MakesOne, refer_makes}
use Rattle.store_model.proofs.Dropping.{left_is_there}
use Rattle.store_model.proofs.Telling.{refer_tells}
use Rattle.store_model.proofs.Naming.{refer_holds_stay, may_not_release}

-- a new index key is a key of the symbol's tables, and stands
new_index_key : (h : History) (client version : ℕ) (symbol : Name) (key : Key) → IsNewIndex h client version symbol key → IsTableKey symbol key × StandsAsPut h key
new_index_key h client version symbol key n = (record { name = n.name; kind = inr n.kind }, stands_from h key (ap is_put n.kind) n.stands)

-- the keys of a link that may be made are keys of the symbol's tables, and stand
fits_keys : (h : History) (client : ℕ) (symbol : Name) (row : LinkRow) (v : Version) (f : FitsLink h client symbol row v) (key : Key)
    → Contains (reached f.link) key → IsTableKey symbol key × StandsAsPut h key
fits_keys h client symbol row v f key c =
    let is : f.link.row ≡ row = linked_row h row f.link f.link_is in
    elim (reached_cases f.link key c) [
      | inl e ↦
          let this : row.index ≡ key = ap (λ (r : LinkRow). r.index) (sym is) ∙ e in
          subst (λ k. IsTableKey symbol k × StandsAsPut h k) this (new_index_key h client row.version symbol row.index f.new_index)
      | inr rest ↦ elim rest [
        | inl d ↦
            let r = mapped_of (λ (p : Page). IsNewIndex h client row.version symbol p.row.key) (λ (p : Page). p.row.key) f.link.pages key f.new_pages d in
            subst (λ k. IsTableKey symbol k × StandsAsPut h k) r.3 (new_index_key h client row.version symbol r.0.row.key r.2)
        | inr d ↦
            let r = mapped_of (λ (s : Slot). MayNameKey h client row.version symbol s.key) (λ (s : Slot). s.key) f.link.index.slots key f.keys d in
            let stands : StandsAsPut h r.0.key = stands_from h r.0.key (ap is_put r.2.kind) r.2.stands in
            let table : IsTableKey symbol r.0.key = record { name = r.2.name; kind = inl r.2.kind } in
            (subst (IsTableKey symbol) r.3 table, subst (StandsAsPut h) r.3 stands)
      ]
    ]

-- a Refer makes no link and no version, or one version and its link
data Makes (h : History) (client : ℕ) (symbol : Name) (entry : Key) (list : List Change) : Type 0 where
  makes_none : links_at h entry ≡ [] → (fold after_change (state_of h symbol) list).versions ≡ (state_of h symbol).versions → Makes h client symbol entry list
  makes_one : (row : LinkRow) (one : MakesOne h client symbol row (state_of h symbol) list) → links_at h entry ≡ one.fits.link ∷ [] → Makes h client symbol entry list

-- a link that a Refer makes is that of the one version
pub record NewLink (h : History) (client : ℕ) (symbol : Name) (list : List Change) (l : Linked) : Type 0 where
  pub row : LinkRow
  pub one : MakesOne h client symbol row (state_of h symbol) list
  pub is : one.fits.link ≡ l

-- ---- of the symbol that is referred

module _ (h : History) (client : ℕ) (symbol : Name) (was : Option Key) (entry : Key) (list : List Change) (may : MayRefer h client symbol was entry list) (i : IsIntact h) where
  -- the Refer makes no link and no version, or one of each
  refer_does : Makes h client symbol entry list
  refer_does = elim may.how [
    | inl change ↦ elim (refer_makes h client symbol change.row list change.form change.fits) [
      | inl none ↦ makes_none (ap (links_of h) change.spelled ∙ none.links) none.versions
      | inr one ↦ makes_one change.row one (ap (links_of h) change.spelled ∙ one.links)
    ]
    | inr restate ↦ makes_none (ap (links_of h) restate.spelled) (ap (λ l. (fold after_change (state_of h symbol) l).versions) restate.alone)
  ]

  -- a new link is that of the one version
  pub new_link : (l : Linked) → Contains (links_at h entry) l → NewLink h client symbol list l
  new_link l c = elim refer_does [
    | makes_none links versions ↦ absurd (contains_none l (subst (λ ls. Contains ls l) links c))
    | makes_one row one links ↦ elim (contains_cases l one.fits.link [] (subst (λ ls. Contains ls l) links c)) [
      | inl e ↦ record { row = row; one = one; is = e }
      | inr d ↦ absurd (contains_none l d)
    ]
  ]

  -- each link's keys stand, where it is needed afterwards
  needed_here : (l : Linked) (key : Key) → Contains (links_at h entry ++ links h symbol) l → is_needed (fold after_change (state_of h symbol) list) l ≡ true → Contains (reached l) key → StandsAsPut h key
  needed_here l key there need reach = elim (contains_append (links_at h entry) (links h symbol) l there) [
    | inl new ↦
        let m = new_link l new in
        (fits_keys h client symbol m.row m.one.made m.one.fits key (subst (λ l. Contains (reached l) key) (sym m.is) reach)).1
    | inr old ↦ i.needed symbol l key old ((refer_keeps_no_more h client symbol was entry list may).kept l.row.version (i.below symbol l old) need) reach
  ]

  table_keys_here : (l : Linked) (key : Key) → Contains (links_at h entry ++ links h symbol) l → Contains (reached l) key → IsTableKey symbol key
  table_keys_here l key there reach = elim (contains_append (links_at h entry) (links h symbol) l there) [
    | inl new ↦
        let m = new_link l new in
        (fits_keys h client symbol m.row m.one.made m.one.fits key (subst (λ l. Contains (reached l) key) (sym m.is) reach)).0
    | inr old ↦ i.table_keys symbol l key old reach
  ]

  entry_stands : StandsAsPut h entry
  entry_stands = stands_from h entry (ap is_put may.kind) may.stands

  elements_here : (key : Key) → Contains (entry ∷ left_behind list (chain_entries h symbol)) key → StandsAsPut h key
  elements_here key c = elim (contains_cases key entry (left_behind list (chain_entries h symbol)) c) [
    | inl e ↦ subst (StandsAsPut h) e entry_stands
    | inr d ↦ i.elements symbol key (left_is_there list (chain_entries h symbol) key d)
  ]

  element_keys_here : (key : Key) → Contains (entry ∷ entries h symbol) key → (key.name ≡ symbol) × (key.kind ≡ kinds.Version)
  element_keys_here key c = elim (contains_cases key entry (entries h symbol) c) [
    | inl e ↦ subst (λ (k : Key). (k.name ≡ symbol) × (k.kind ≡ kinds.Version)) e (may.name, may.kind)
    | inr d ↦ i.element_keys symbol key d
  ]

  -- the new link is the new version's
  makes_link_of : (row : LinkRow) (m : MakesOne h client symbol row (state_of h symbol) list) → IsLinkOf m.fits.link m.made
  makes_link_of row m =
      let is : m.fits.link.row ≡ row = linked_row h row m.fits.link m.fits.link_is in
      record {
        number = ap (λ (r : LinkRow). r.version) is ∙ m.fits.number;
        stamp = ap (λ (r : LinkRow). r.stamp) is ∙ m.fits.stamp;
        rows = ap (λ (r : LinkRow). r.rows) is ∙ m.fits.rows;
        schema = m.fits.schema;
        assembled = m.fits.tiled;
      }

  versions_here : AllZip IsLinkOf (links_at h entry ++ links h symbol) (fold after_change (state_of h symbol) list).versions
  versions_here = elim refer_does [
    | makes_none none versions ↦
        let no : links_at h entry ++ links h symbol ≡ links h symbol = ap (λ ls. ls ++ links h symbol) none in
        subst (λ vs. AllZip IsLinkOf (links_at h entry ++ links h symbol) vs) (sym versions) (subst (λ ls. AllZip IsLinkOf ls (state_of h symbol).versions) (sym no) (i.versions symbol))
    | makes_one row one made ↦
        let more : links_at h entry ++ links h symbol ≡ one.fits.link ∷ links h symbol = ap (λ ls. ls ++ links h symbol) made in
        subst (λ vs. AllZip IsLinkOf (links_at h entry ++ links h symbol) vs) (sym one.versions)
        (subst (λ ls. AllZip IsLinkOf ls (one.made ∷ (state_of h symbol).versions)) (sym more) (makes_link_of row one, i.versions symbol))
  ]

  -- the numbers of the links lie below the next one
  below_here : (l : Linked) → Contains (links_at h entry ++ links h symbol) l → l.row.version < next_number (fold after_change (state_of h symbol) list)
  below_here l there = elim (contains_append (links_at h entry) (links h symbol) l there) [
    | inl new ↦
        let m = new_link l new in
        let next : next_number (fold after_change (state_of h symbol) list) ≡ suc m.one.made.number = ap number_after m.one.versions in
        let this : l.row.version ≡ m.one.made.number = ap (λ (k : Linked). k.row.version) (sym m.is) ∙ (makes_link_of m.row m.one).number in
        omega (arith, next, this)
    | inr old ↦
        let b : l.row.version < next_number (state_of h symbol) = i.below symbol l old in
        omega (arith, b, (refer_keeps_no_more h client symbol was entry list may).later)
  ]

-- ---- of any symbol

-- a fact about what the Refer leaves of a symbol, whether it is the one that is referred or another
pub at_symbol : (symbol other : Name) (P : Bool → Type 0) → (symbol ≡ other → P true) → P false → P (same_name symbol other)
at_symbol symbol other P this that =
    elim (same_name symbol other) as (λ t. same_name symbol other ≡ t → P t) [ true ↦ λ e. this (same_name_is symbol other e) | false ↦ λ e. that ] refl

module _ (h : History) (client : ℕ) (symbol : Name) (was : Option Key) (entry : Key) (list : List Change) (may : MayRefer h client symbol was entry list) (was_is : reference h symbol ≡ was) (i : IsIntact h) where
  abbrev event : Event
  event = events.Refer client symbol was entry list

  may_at : (other : Name) → symbol ≡ other → MayRefer h client other was entry list
  may_at other e = subst (λ s. MayRefer h client s was entry list) e may

  -- what stands as it was put still does
  stays : (key : Key) → StandsAsPut h key → StandsAsPut (event ∷ h) key
  stays key s = stands_at_refer h client symbol was entry list key (i.numbered key s.body s.put).1 s

  held_row : (snap : Name) (body : SnapBody) → snap_body h snap ≡ Some body → (r : SnapRow) → IsHeldRow h body.holder r → IsHeldRow (event ∷ h) body.holder r
  held_row snap body e r k = (
    at_symbol symbol r.symbol (λ t. is_held_by (cond t (after_changes (state_of h r.symbol) list) (state_of h r.symbol)) body.holder r.version ≡ true)
        (λ same. refer_holds_stay h client r.symbol was entry list body.holder r.version (may_at r.symbol same) (λ other f. may_not_release h client r.symbol other snap body i e f) k.0)
        k.0,
    at_symbol symbol r.symbol (λ t. has_index (cond t (links_at h entry ++ links h r.symbol) (links h r.symbol)) r.version r.index ≡ true)
        (λ same. list_any-append _ (links_at h entry) (links h r.symbol) ∙ or_right _ _ k.1)
        k.1,
  )

  pub refer_keeps : IsIntact (event ∷ h)
  refer_keeps = record {
    once = i.once;
    numbered = i.numbered;
    table_keys = λ s l key. at_symbol symbol s (λ t. Contains (cond t (links_at h entry ++ links h s) (links h s)) l → Contains (reached l) key → IsTableKey s key)
        (λ e. table_keys_here h client s was entry list (may_at s e) i l key) (i.table_keys s l key);
    needed = λ s l key there need reach. stays key (at_symbol symbol s
        (λ t. Contains (cond t (links_at h entry ++ links h s) (links h s)) l → is_needed (cond t (after_changes (state_of h s) list) (state_of h s)) l ≡ true → Contains (reached l) key → StandsAsPut h key)
        (λ e. needed_here h client s was entry list (may_at s e) i l key) (i.needed s l key) there need reach);
    element_keys = λ s key. at_symbol symbol s (λ t. Contains (cond t (entry ∷ entries h s) (entries h s)) key → (key.name ≡ s) × (key.kind ≡ kinds.Version))
        (λ e. element_keys_here h client s was entry list (may_at s e) i key) (i.element_keys s key);
    elements = λ s key there. stays key (at_symbol symbol s (λ t. Contains (cond t (entry ∷ left_behind list (chain_entries h s)) (chain_entries h s)) key → StandsAsPut h key)
        (λ e. elements_here h client s was entry list (may_at s e) i key) (i.elements s key) there);
    pieces = λ s p there. stays (staged_key s p) (i.pieces s p (at_symbol symbol s (λ t. Contains (open_pieces (cond t (after_changes (state_of h s) list) (state_of h s))) p → Contains (open_pieces (state_of h s)) p)
        (λ e. refer_opens_none (state_of h s) list p) (λ c. c) there));
    versions = λ s. at_symbol symbol s (λ t. AllZip IsLinkOf (cond t (links_at h entry ++ links h s) (links h s)) (cond t (after_changes (state_of h s) list) (state_of h s)).versions)
        (λ e. versions_here h client s was entry list (may_at s e) i) (i.versions s);
    below = λ s l. at_symbol symbol s (λ t. Contains (cond t (links_at h entry ++ links h s) (links h s)) l → l.row.version < next_number (cond t (after_changes (state_of h s) list) (state_of h s)))
        (λ e. below_here h client s was entry list (may_at s e) i l) (i.below s l);
    chain = λ s. at_symbol symbol s (λ t. Tell (cond t (cons_option (element h entry) (left_behind list (chain h s))) (chain h s)) (cond t (links_at h entry ++ links h s) (links h s))
        (cond t (after_changes (state_of h s) list) (state_of h s)))
        (λ e. refer_tells h client s was entry list (may_at s e) (i.versions s) (i.buried s) (i.chain s)) (i.chain s);
    buried = λ s n. at_symbol symbol s (λ t. is_buried (cond t (after_changes (state_of h s) list) (state_of h s)) n ≡ true → is_linked (cond t (after_changes (state_of h s) list) (state_of h s)) n ≡ true)
        (λ e. refer_buries_made h client s was entry list (may_at s e) (i.buried s) n) (i.buried s n);
    held = λ snap body e. all_weaker (IsHeldRow h body.holder) (IsHeldRow (event ∷ h) body.holder) (held_row snap body e) body.rows (i.held snap body e);
    one_name = i.one_name;
    unnamed = i.unnamed;
  }
