-- Which link a Refer makes: that of the version that its changes make, or none.
use Rattle.std.proofs.Common.{◌≡◌, ℕ, true, false, List, [], ◌∷◌, ◌++◌, refl, ap, sym, ◌∙◌, inl, inr, Option, Some, None}
use Rattle.std.specs.Prelude.{◌⊎◌, Contains, IfSome, fold, map, option_map, option_and_then}
use Rattle.std.specs.List.{AllByRecursion, cons_option}
use Rattle.std.proofs.lemmas.Bool.{true≢false}
use Rattle.index_tree.specs.declared.index.Slot.{Slot}
use Rattle.index_tree.specs.PageRules.{Page}
use Rattle.segment_cut.specs.Tiles.{Tile}
use Rattle.key_kind.specs.declared.key.Key.{Key}
use Rattle.key_kind.specs.Names.{Name}
use Rattle.bucket_core.specs.declared.event.Change.{Change}
use Rattle.bucket_core.specs.declared.event.Change.TheVariants as changes
use Rattle.bucket_core.specs.History.{History}
use Rattle.store_model.specs.declared.chain.LinkRow.{LinkRow}
use Rattle.store_model.specs.declared.chain.ChainMark.{ChainMark}
use Rattle.store_model.specs.declared.chain.ChainMark.TheVariants as marks
use Rattle.store_model.specs.Library.{State, Version, state_of, next_number, new_version, after_change}
use Rattle.store_model.specs.Links.{Linked, Paged, linked, reached, index_put, tiles_put, links_in}
use Rattle.store_model.proofs.Lists.{contains_append, contains_cases}
use Rattle.store_model.specs.Commits.{FitsChange, FitsLink, marks_of, is_version, Consumes, no_pieces, some_pieces, Buries, no_tombs, some_tombs, IsCommit, making, marking}

-- ---- links

-- a link has the row that it was made of
pub linked_row : (h : History) (row : LinkRow) (l : Linked) → linked h row ≡ Some l → l.row ≡ row
linked_row h row l e = by (index_put h row.index) e
  where
    of : (i : Paged) (tiles : Option (List Tile)) → option_map (λ t. record { row = row; pages = i.pages; index = i.index; tiles = t }) tiles ≡ Some l → l.row ≡ row
    of i None e = absurd cc
    of i (Some tiles) e = ap (λ (o : Linked). o.row) (sym (some_same e))
      where
        some_same : {x y : Linked} → Some x ≡ Some y → x ≡ y
        some_same e = cc

    by : (i : Option Paged) → option_and_then (λ i. option_map (λ t. record { row = row; pages = i.pages; index = i.index; tiles = t }) (tiles_put h i.index.slots)) i ≡ Some l → l.row ≡ row
    by None e = absurd cc
    by (Some i) e = of i (tiles_put h i.index.slots) e

-- a key that a link reaches is that of its index, of a page or of a slot
pub reached_cases : (l : Linked) (key : Key) → Contains (reached l) key → (l.row.index ≡ key) ⊎ Contains (map (λ (p : Page). p.row.key) l.pages) key ⊎ Contains (map (λ (s : Slot). s.key) l.index.slots) key
reached_cases l key c = elim (contains_cases key l.row.index (map (λ (p : Page). p.row.key) l.pages ++ map (λ (s : Slot). s.key) l.index.slots) c) [
  | inl e ↦ inl e
  | inr d ↦ inr (contains_append (map (λ (p : Page). p.row.key) l.pages) (map (λ (s : Slot). s.key) l.index.slots) key d)
]

-- ---- what changes make

-- the changes make no version, and no link
pub record MakesNone (h : History) (row : LinkRow) (st : State) (list : List Change) : Type 0 where
  pub links : links_in h (marks_of row list) ≡ []
  pub versions : (fold after_change st list).versions ≡ st.versions

-- the changes make one version, and its link
pub record MakesOne (h : History) (client : ℕ) (symbol : Name) (row : LinkRow) (st : State) (list : List Change) : Type 0 where
  pub made : Version
  pub number : made.number ≡ next_number st
  pub fits : FitsLink h client symbol row made
  pub links : links_in h (marks_of row list) ≡ fits.link ∷ []
  pub versions : (fold after_change st list).versions ≡ made ∷ st.versions

-- ---- what follows a version

tombs_make_none : (h : History) (numbers : List ℕ) (more : List ChainMark) → links_in h (map marks.Tomb numbers ++ more) ≡ links_in h more
tombs_make_none h [] more = refl
tombs_make_none h (n ∷ numbers) more = tombs_make_none h numbers more

consumes_none : (h : History) (row : LinkRow) (st : State) (rest : List Change) → Consumes rest → MakesNone h row st rest
consumes_none h row st rest no_pieces = record { links = refl; versions = refl }
consumes_none h row st rest (some_pieces names) = record { links = refl; versions = refl }

pub buries_none : (h : History) (row : LinkRow) (st : State) (rest : List Change) → Buries rest → MakesNone h row st rest
buries_none h row st rest (no_tombs c) = consumes_none h row st rest c
buries_none h row st _ (some_tombs numbers {rest = rest} c) =
    let after = consumes_none h row (after_change st (changes.Removed numbers)) rest c in
    record { links = tombs_make_none h numbers (marks_of row rest) ∙ after.links; versions = after.versions }

-- ---- one change

pub marks_make_none : (h : History) (row : LinkRow) (st : State) (c : Change) → is_version c ≡ false → MakesNone h row st (c ∷ [])
marks_make_none h row st (changes.Wrote frame at) e = absurd (true≢false e)
marks_make_none h row st (changes.Appended frame at) e = absurd (true≢false e)
marks_make_none h row st (changes.Updated frame range at) e = absurd (true≢false e)
marks_make_none h row st (changes.Removed versions) e = record { links = tombs_make_none h versions []; versions = refl }
marks_make_none h row st (changes.Held holder version) e = record { links = refl; versions = refl }
marks_make_none h row st (changes.Released holder) e = record { links = refl; versions = refl }
marks_make_none h row st (changes.Discarded pieces) e = record { links = refl; versions = refl }
marks_make_none h row st changes.Restated e = record { links = refl; versions = refl }

-- the version of a change, behind which no more are made
version_makes : (h : History) (client : ℕ) (symbol : Name) (row : LinkRow) (st : State) (c : Change) (rest : List Change) (v : Version)
    → v.number ≡ next_number st → links_in h (marks_of row (c ∷ rest)) ≡ cons_option (linked h row) (links_in h (marks_of row rest))
    → new_version st c ≡ Some v → FitsLink h client symbol row v → Buries rest → MakesOne h client symbol row st (c ∷ rest)
version_makes h client symbol row st c rest v number heads new fits buries =
    let none = buries_none h row (after_change st c) rest buries in
    record {
      made = v;
      number = number;
      fits = fits;
      links = heads ∙ (ap (λ o. cons_option o (links_in h (marks_of row rest))) fits.link_is ∙ ap (λ ls. fits.link ∷ ls) none.links);
      versions = none.versions ∙ ap (λ o. cons_option o st.versions) new;
    }

pub refer_makes : (h : History) (client : ℕ) (symbol : Name) (row : LinkRow) (list : List Change) → IsCommit list → AllByRecursion (FitsChange h client symbol row) list
    → MakesNone h row (state_of h symbol) list ⊎ MakesOne h client symbol row (state_of h symbol) list
refer_makes h client symbol row _ (marking c e) fits = inl (marks_make_none h row (state_of h symbol) c e)
refer_makes h client symbol row _ (making c {rest = rest} e buries) fits = inr (by c fits.0.0 e)
  where
    by : (c : Change) → (IfSome (new_version (state_of h symbol) c) (FitsLink h client symbol row)) → is_version c ≡ true → MakesOne h client symbol row (state_of h symbol) (c ∷ rest)
    by (changes.Wrote frame at) f e = version_makes h client symbol row (state_of h symbol) (changes.Wrote frame at) rest _ refl refl refl f buries
    by (changes.Appended frame at) f e = version_makes h client symbol row (state_of h symbol) (changes.Appended frame at) rest _ refl refl refl f buries
    by (changes.Updated frame range at) f e = version_makes h client symbol row (state_of h symbol) (changes.Updated frame range at) rest _ refl refl refl f buries
    by (changes.Removed versions) f e = absurd (true≢false (sym e))
    by (changes.Held holder version) f e = absurd (true≢false (sym e))
    by (changes.Released holder) f e = absurd (true≢false (sym e))
    by (changes.Discarded pieces) f e = absurd (true≢false (sym e))
    by changes.Restated f e = absurd (true≢false (sym e))
