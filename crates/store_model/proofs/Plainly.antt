-- Where no index was put in pages and no chain was told anew, no link has pages, the chain is all entries, and no element was told anew.
use Rattle.std.proofs.Common.{◌≡◌, ℕ, true, false, List, [], ◌∷◌, ◌++◌, refl, ap, sym, ◌∙◌, subst, inl, inr, Option, Some, None, cond, Result, Ok, Err}
use Rattle.std.specs.Prelude.{⊤, Contains, IsOk, option_map, option_and_then}
use Rattle.std.proofs.lemmas.Bool.{true≢false}
use Rattle.byte_fields.specs.Reading.{read_of}
use Rattle.segment_cut.specs.Tiles.{Tile}
use Rattle.index_tree.specs.declared.index.Index.{Index}
use Rattle.index_tree.specs.IndexText.{index_of}
use Rattle.index_tree.specs.PageText.{object_of}
use Rattle.index_tree.specs.PageRules.{Page}
use Rattle.key_kind.specs.declared.key.KeyKind.TheVariants as kinds
use Rattle.key_kind.specs.declared.key.Key.{Key}
use Rattle.key_kind.specs.Names.{Name, same_name}
use Rattle.key_kind.specs.Keys.{same_key}
use Rattle.key_kind.proofs.KeyTests.{same_key_is}
use Rattle.bucket_core.specs.declared.event.Change.{Change}
use Rattle.bucket_core.specs.declared.event.Event.TheVariants as events
use Rattle.bucket_core.specs.History.{History, Bytes, body_put, StandsAsPut}
use Rattle.store_model.specs.declared.chain.LinkRow.{LinkRow}
use Rattle.store_model.specs.Links.{Linked, linked, links, links_at, Paged, whole_index, tiles_put, entries, restates, left_behind, chain_entries, IsRetold}
use Rattle.store_model.specs.Commits.{MayRefer, MayChange}
use Rattle.store_model.specs.Law.{IsLawful, SpellsKind}
use Rattle.store_model.proofs.Telling.{commit_restates_none}
use Rattle.store_model.proofs.Lists.{contains_append, contains_none}
use Rattle.store_model.proofs.Flat.{flat_object}
use Rattle.store_model.proofs.Referring.{at_symbol, linked_row, new_link}
use Rattle.store_model.proofs.Lawful.{lawful_is_intact}

-- each index is put whole, and no Refer tells a state anew
abbrev pub IsPlain : History → Type 0
IsPlain [] = ⊤
IsPlain (events.Put c key body ∷ h) = (key.kind ≡ kinds.TableIndex → IsOk (index_of body)) × IsPlain h
IsPlain (events.Refer c s was entry list ∷ h) = (restates list ≡ false) × IsPlain h
IsPlain (_ ∷ h) = IsPlain h

-- ---- chains

-- while no client may tell a state anew, a Refer makes the changes of a commit
pub is_commit : (h : History) (client : ℕ) (symbol : Name) (was : Option Key) (entry : Key) (list : List Change) → MayRefer h client symbol was entry list → MayChange h client symbol was entry list
is_commit h client symbol was entry list may = elim may.how [ inl change ↦ change | inr restate ↦ absurd restate.not_yet ]

-- the chain has all entries
pub plain_chain : (h : History) → IsPlain h → (symbol : Name) → chain_entries h symbol ≡ entries h symbol
plain_chain [] plain symbol = refl
plain_chain (events.Refer c s was entry list ∷ h) plain symbol =
    elim (same_name s symbol) as (λ b. cond b (entry ∷ left_behind list (chain_entries h symbol)) (chain_entries h symbol) ≡ cond b (entry ∷ entries h symbol) (entries h symbol)) [
      | true ↦ ap (λ b. entry ∷ cond b [] (chain_entries h symbol)) plain.0 ∙ ap (λ keys. entry ∷ keys) (plain_chain h plain.1 symbol)
      | false ↦ plain_chain h plain.1 symbol
    ]
plain_chain (events.Put c key body ∷ h) plain symbol = plain_chain h plain.1 symbol
plain_chain (events.Name c snap body ∷ h) plain symbol = plain_chain h plain symbol
plain_chain (events.Unname c snap ∷ h) plain symbol = plain_chain h plain symbol
plain_chain (events.Drop c key ∷ h) plain symbol = plain_chain h plain symbol

-- while no element may be dropped because it was told anew, none is retold
pub none_retold : (h : History) (key : Key) → IsRetold h key → ⊥
none_retold h key r = r.not_yet

-- ---- links

pub plain_body : (h : History) → IsPlain h → (key : Key) (body : Bytes) → key.kind ≡ kinds.TableIndex → body_put h key ≡ Some body → IsOk (index_of body)
plain_body [] plain key body kind put = absurd cc
plain_body (events.Put c k b ∷ h) plain key body kind put =
    elim (same_key k key) as (λ t. same_key k key ≡ t → cond t (Some b) (body_put h key) ≡ Some body → IsOk (index_of body)) [
      | true ↦ λ same f. subst (λ x. IsOk (index_of x)) (some_is b body f) (plain.0 (ap (λ (x : Key). x.kind) (same_key_is k key same) ∙ kind))
      | false ↦ λ same f. plain_body h plain.1 key body kind f
    ] refl put
  where
    some_is : (a b : Bytes) → Some a ≡ Some b → a ≡ b
    some_is a b e = cc
plain_body (events.Refer c s was entry list ∷ h) plain key body kind put = plain_body h plain.1 key body kind put
plain_body (events.Name c snap b ∷ h) plain key body kind put = plain_body h plain key body kind put
plain_body (events.Unname c snap ∷ h) plain key body kind put = plain_body h plain key body kind put
plain_body (events.Drop c k ∷ h) plain key body kind put = plain_body h plain key body kind put

-- a link that was put under a whole index has no pages
linked_plainly : (h : History) → IsPlain h → (row : LinkRow) (l : Linked) → row.index.kind ≡ kinds.TableIndex → linked h row ≡ Some l → l.pages ≡ []
linked_plainly h plain row l kind e = by (body_put h row.index) refl e
  where
    pages_of : Option Linked → List Page
    pages_of None = []
    pages_of (Some m) = m.pages

    tiled : (i : Index) (o : Option (List Tile)) → option_map (λ t. record { row = row; pages = []; index = i; tiles = t }) o ≡ Some l → l.pages ≡ []
    tiled i None f = absurd cc
    tiled i (Some t) f = ap (λ (o : Option Linked). pages_of o) (sym f)

    of : (body : Bytes) (r : Result Index ℕ) → index_of body ≡ r → IsOk r
        → option_and_then (λ i. option_map (λ t. record { row = row; pages = i.pages; index = i.index; tiles = t }) (tiles_put h i.index.slots)) (option_and_then (whole_index h) (read_of (object_of body))) ≡ Some l → l.pages ≡ []
    of body (Err n) is ok f = absurd (true≢false (sym ok))
    of body (Ok i) is ok f = tiled i (tiles_put h i.slots)
        (subst (λ r. option_and_then (λ (j : Paged). option_map (λ t. record { row = row; pages = j.pages; index = j.index; tiles = t }) (tiles_put h j.index.slots)) (option_and_then (whole_index h) (read_of r)) ≡ Some l) (flat_object body i is) f)

    by : (o : Option Bytes) → body_put h row.index ≡ o
        → option_and_then (λ i. option_map (λ t. record { row = row; pages = i.pages; index = i.index; tiles = t }) (tiles_put h i.index.slots)) (option_and_then (whole_index h) (option_and_then (λ body. read_of (object_of body)) o)) ≡ Some l → l.pages ≡ []
    by None put f = absurd cc
    by (Some body) put f = of body (index_of body) refl (plain_body h plain row.index body kind put) f

-- no link has pages
pub plain_links : (h : History) → IsLawful h → IsPlain h → (symbol : Name) (l : Linked) → Contains (links h symbol) l → l.pages ≡ []
plain_links [] lawful plain symbol l c = absurd (contains_none l c)
plain_links (events.Refer d s was entry list ∷ h) lawful plain symbol l c =
    at_symbol s symbol (λ t. Contains (cond t (links_at h entry ++ links h symbol) (links h symbol)) l → l.pages ≡ [])
    (λ same there.
    let may : MayRefer h d symbol was entry list = subst (λ n. MayRefer h d n was entry list) same lawful.0.1 in
    elim (contains_append (links_at h entry) (links h symbol) l there) [
      | inl new ↦
          let m = new_link h d symbol was entry list may (lawful_is_intact h lawful.1) l new in
          subst (λ (k : Linked). k.pages ≡ []) m.is (linked_plainly h plain.1 m.row m.one.fits.link m.one.fits.new_index.kind m.one.fits.link_is)
      | inr old ↦ plain_links h lawful.1 plain.1 symbol l old
    ])
    (plain_links h lawful.1 plain.1 symbol l) c
plain_links (events.Put d key body ∷ h) lawful plain symbol l c = plain_links h lawful.1 plain.1 symbol l c
plain_links (events.Name d snap body ∷ h) lawful plain symbol l c = plain_links h lawful.1 plain symbol l c
plain_links (events.Unname d snap ∷ h) lawful plain symbol l c = plain_links h lawful.1 plain symbol l c
plain_links (events.Drop d key ∷ h) lawful plain symbol l c = plain_links h lawful.1 plain symbol l c

-- each link has the key of an index
pub index_kinds : (h : History) → IsLawful h → (symbol : Name) (l : Linked) → Contains (links h symbol) l → l.row.index.kind ≡ kinds.TableIndex
index_kinds [] lawful symbol l c = absurd (contains_none l c)
index_kinds (events.Refer d s was entry list ∷ h) lawful symbol l c =
    at_symbol s symbol (λ t. Contains (cond t (links_at h entry ++ links h symbol) (links h symbol)) l → l.row.index.kind ≡ kinds.TableIndex)
    (λ same there.
    let may : MayRefer h d symbol was entry list = subst (λ n. MayRefer h d n was entry list) same lawful.0.1 in
    elim (contains_append (links_at h entry) (links h symbol) l there) [
      | inl new ↦
          let m = new_link h d symbol was entry list may (lawful_is_intact h lawful.1) l new in
          subst (λ (k : Linked). k.row.index.kind ≡ kinds.TableIndex) m.is (ap (λ (r : LinkRow). r.index.kind) (linked_row h m.row m.one.fits.link m.one.fits.link_is) ∙ m.one.fits.new_index.kind)
      | inr old ↦ index_kinds h lawful.1 symbol l old
    ])
    (index_kinds h lawful.1 symbol l) c
index_kinds (events.Put d key body ∷ h) lawful symbol l c = index_kinds h lawful.1 symbol l c
index_kinds (events.Name d snap body ∷ h) lawful symbol l c = index_kinds h lawful.1 symbol l c
index_kinds (events.Unname d snap ∷ h) lawful symbol l c = index_kinds h lawful.1 symbol l c
index_kinds (events.Drop d key ∷ h) lawful symbol l c = index_kinds h lawful.1 symbol l c

-- ---- each lawful history is plain

-- while no client may put a page or tell a state anew, each lawful history is plain
pub lawful_is_plain : (h : History) → IsLawful h → IsPlain h
lawful_is_plain [] lawful = tt
lawful_is_plain (events.Put c key body ∷ h) lawful = (λ kind. subst (λ k. SpellsKind key k body) kind lawful.0.1.spelled, lawful_is_plain h lawful.1)
lawful_is_plain (events.Refer c s was entry list ∷ h) lawful = (
  (let change = is_commit h c s was entry list lawful.0.1 in commit_restates_none h c s change.row list change.fits),
  lawful_is_plain h lawful.1,
)
lawful_is_plain (events.Name c snap body ∷ h) lawful = lawful_is_plain h lawful.1
lawful_is_plain (events.Unname c snap ∷ h) lawful = lawful_is_plain h lawful.1
lawful_is_plain (events.Drop c key ∷ h) lawful = lawful_is_plain h lawful.1

-- so the chain of a lawful history has all entries, and no link of one has pages
pub lawful_chain : (h : History) → IsLawful h → (symbol : Name) → chain_entries h symbol ≡ entries h symbol
lawful_chain h lawful = plain_chain h (lawful_is_plain h lawful)

pub lawful_links : (h : History) → IsLawful h → (symbol : Name) (l : Linked) → Contains (links h symbol) l → l.pages ≡ []
lawful_links h lawful = plain_links h lawful (lawful_is_plain h lawful)

-- and each entry stands as it was put
pub entries_stand : (h : History) → IsLawful h → (symbol : Name) (key : Key) → Contains (entries h symbol) key → StandsAsPut h key
entries_stand h lawful symbol key there = (lawful_is_intact h lawful).elements symbol key (subst (λ keys. Contains keys key) (sym (lawful_chain h lawful symbol)) there)
