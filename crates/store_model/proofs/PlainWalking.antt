-- A walk along all elements of a symbol gives its state in its order, while no client may tell a state anew.
use Rattle.std.proofs.Common.{◌≡◌, ℕ, true, false, List, [], ◌∷◌, ◌++◌, map, refl, ap, sym, ◌∙◌, subst, Option, Some, cond}
use Rattle.std.specs.Prelude.{IfSome, flat_map, filter_map, fold}
use Rattle.std.specs.List.{AllZip, AllByRecursion, cons_option}
use Rattle.std.proofs.lemmas.Bool.{true≢false}
use Rattle.key_kind.specs.declared.key.Key.{Key}
use Rattle.key_kind.specs.Names.{Name, same_name}
use Rattle.bucket_core.specs.declared.event.Change.{Change}
use Rattle.bucket_core.specs.declared.event.Change.TheVariants as changes
use Rattle.bucket_core.specs.declared.event.Event.TheVariants as events
use Rattle.bucket_core.specs.History.{History, PutsStay}
use Rattle.store_model.proofs.Histories.{put_stays}
use Rattle.store_model.specs.declared.chain.LinkRow.{LinkRow}
use Rattle.store_model.specs.declared.chain.ChainMark.{ChainMark}
use Rattle.store_model.specs.declared.chain.ChainMark.TheVariants as marks
use Rattle.store_model.specs.declared.chain.Entry.{Entry}
use Rattle.store_model.specs.ChainText.{tomb_of}
use Rattle.store_model.specs.Library.{State, Version, Hold, state_of, new_version, after_change, after_changes}
use Rattle.store_model.specs.Links.{Linked, linked, links, links_at, links_of, links_in, entries, element}
use Rattle.store_model.specs.Commits.{MayRefer, MayChange, FitsLink, FitsChange, marks_of, IsCommit, making, marking, Buries, no_tombs, some_tombs, Consumes, no_pieces, some_pieces, is_version}
use Rattle.store_model.specs.Law.{IsLawful}
use Rattle.store_model.proofs.Linking.{buries_none, marks_make_none}
use Rattle.store_model.proofs.Referring.{at_symbol, linked_row}
use Rattle.store_model.proofs.AsPut.{element_stays}
use Rattle.store_model.proofs.Lawful.{lawful_is_intact}
use Rattle.store_model.specs.PlainWalks.{row_of, pieces_of, holds_after_mark, tombs_in, rows_in, pieces_in, holds_in, chain, HasElements, WalkIsState, PlainWalks}
use Rattle.store_model.proofs.Plainly.{is_commit, lawful_chain, lawful_links, entries_stand}

-- ---- the marks of one commit

-- many Tombs
tombs_of_tombs : (ns : List ℕ) (more : List ChainMark) → filter_map tomb_of (map marks.Tomb ns ++ more) ≡ ns ++ filter_map tomb_of more
tombs_of_tombs [] more = refl
tombs_of_tombs (n ∷ ns) more = ap (λ xs. n ∷ xs) (tombs_of_tombs ns more)

pieces_of_tombs : (ns : List ℕ) (more : List ChainMark) → flat_map pieces_of (map marks.Tomb ns ++ more) ≡ flat_map pieces_of more
pieces_of_tombs [] more = refl
pieces_of_tombs (n ∷ ns) more = pieces_of_tombs ns more

holds_of_tombs : (ns : List ℕ) (more : List ChainMark) (holds : List Hold) → fold holds_after_mark holds (map marks.Tomb ns ++ more) ≡ fold holds_after_mark holds more
holds_of_tombs [] more holds = refl
holds_of_tombs (n ∷ ns) more holds = holds_of_tombs ns more holds

-- what the marks of some changes add is what the changes add to a state
record Adds (row : LinkRow) (list : List Change) (st : State) : Type 0 where
  tombs : filter_map tomb_of (marks_of row list) ++ st.buried ≡ (fold after_change st list).buried
  pieces : flat_map pieces_of (marks_of row list) ++ st.consumed ≡ (fold after_change st list).consumed
  holds : fold holds_after_mark st.holds (marks_of row list) ≡ (fold after_change st list).holds

append_nil : {A : Type 0} (xs : List A) → xs ++ [] ≡ xs
append_nil [] = refl
append_nil (x ∷ xs) = ap (λ ys. x ∷ ys) (append_nil xs)

consumes_adds : (row : LinkRow) (st : State) (list : List Change) → Consumes list → Adds row list st
consumes_adds row st list no_pieces = record { tombs = refl; pieces = refl; holds = refl }
consumes_adds row st list (some_pieces names) = record { tombs = refl; pieces = ap (λ xs. xs ++ st.consumed) (append_nil names); holds = refl }

-- a Removed, behind which no number is buried
consumes_no_tombs : (row : LinkRow) (list : List Change) → Consumes list → filter_map tomb_of (marks_of row list) ≡ []
consumes_no_tombs row list no_pieces = refl
consumes_no_tombs row list (some_pieces names) = refl

consumes_buried : (st : State) (list : List Change) → Consumes list → (fold after_change st list).buried ≡ st.buried
consumes_buried st list no_pieces = refl
consumes_buried st list (some_pieces names) = refl

removed_adds : (row : LinkRow) (st : State) (numbers : List ℕ) (rest : List Change) → Consumes rest → Adds row (changes.Removed numbers ∷ rest) st
removed_adds row st numbers rest c =
    let after = consumes_adds row (after_change st (changes.Removed numbers)) rest c in
    record {
      tombs = ap (λ xs. xs ++ st.buried) (tombs_of_tombs numbers (marks_of row rest) ∙ (ap (λ xs. numbers ++ xs) (consumes_no_tombs row rest c) ∙ append_nil numbers))
          ∙ sym (consumes_buried (after_change st (changes.Removed numbers)) rest c);
      pieces = ap (λ xs. xs ++ st.consumed) (pieces_of_tombs numbers (marks_of row rest)) ∙ after.pieces;
      holds = holds_of_tombs numbers (marks_of row rest) st.holds ∙ after.holds;
    }

buries_adds : (row : LinkRow) (st : State) (list : List Change) → Buries list → Adds row list st
buries_adds row st list (no_tombs c) = consumes_adds row st list c
buries_adds row st _ (some_tombs numbers {rest = rest} c) = removed_adds row st numbers rest c

commit_adds : (row : LinkRow) (st : State) (list : List Change) → IsCommit list → Adds row list st
commit_adds row st _ (making c {rest = rest} e b) = by c e
  where
    by : (c : Change) → is_version c ≡ true → Adds row (c ∷ rest) st
    by (changes.Wrote frame at) e = let a = buries_adds row (after_change st (changes.Wrote frame at)) rest b in record { tombs = a.tombs; pieces = a.pieces; holds = a.holds }
    by (changes.Appended frame at) e = let a = buries_adds row (after_change st (changes.Appended frame at)) rest b in record { tombs = a.tombs; pieces = a.pieces; holds = a.holds }
    by (changes.Updated frame range at) e = let a = buries_adds row (after_change st (changes.Updated frame range at)) rest b in record { tombs = a.tombs; pieces = a.pieces; holds = a.holds }
    by (changes.Removed versions) e = absurd (true≢false (sym e))
    by (changes.Held holder version) e = absurd (true≢false (sym e))
    by (changes.Released holder) e = absurd (true≢false (sym e))
    by (changes.Discarded pieces) e = absurd (true≢false (sym e))
    by changes.Restated e = absurd (true≢false (sym e))
commit_adds row st _ (marking (changes.Wrote frame at) e) = absurd (true≢false e)
commit_adds row st _ (marking (changes.Appended frame at) e) = absurd (true≢false e)
commit_adds row st _ (marking (changes.Updated frame range at) e) = absurd (true≢false e)
commit_adds row st _ (marking (changes.Removed versions) e) = removed_adds row st versions [] no_pieces
commit_adds row st _ (marking (changes.Held holder version) e) = record { tombs = refl; pieces = refl; holds = refl }
commit_adds row st _ (marking (changes.Released holder) e) = record { tombs = refl; pieces = refl; holds = refl }
commit_adds row st _ (marking (changes.Discarded pieces) e) = consumes_adds row st (changes.Discarded pieces ∷ []) (some_pieces pieces)
commit_adds row st _ (marking changes.Restated e) = record { tombs = refl; pieces = refl; holds = refl }

-- ---- the links of one commit

rows_of_tombs : (ns : List ℕ) (more : List ChainMark) → filter_map row_of (map marks.Tomb ns ++ more) ≡ filter_map row_of more
rows_of_tombs [] more = refl
rows_of_tombs (n ∷ ns) more = rows_of_tombs ns more

consumes_no_rows : (row : LinkRow) (rest : List Change) → Consumes rest → filter_map row_of (marks_of row rest) ≡ []
consumes_no_rows row rest no_pieces = refl
consumes_no_rows row rest (some_pieces names) = refl

buries_no_rows : (row : LinkRow) (rest : List Change) → Buries rest → filter_map row_of (marks_of row rest) ≡ []
buries_no_rows row rest (no_tombs c) = consumes_no_rows row rest c
buries_no_rows row _ (some_tombs numbers {rest = rest} c) = rows_of_tombs numbers (marks_of row rest) ∙ consumes_no_rows row rest c

mark_rows : (row : LinkRow) (c : Change) → is_version c ≡ false → filter_map row_of (marks_of row (c ∷ [])) ≡ []
mark_rows row (changes.Wrote frame at) e = absurd (true≢false e)
mark_rows row (changes.Appended frame at) e = absurd (true≢false e)
mark_rows row (changes.Updated frame range at) e = absurd (true≢false e)
mark_rows row (changes.Removed versions) e = rows_of_tombs versions []
mark_rows row (changes.Held holder version) e = refl
mark_rows row (changes.Released holder) e = refl
mark_rows row (changes.Discarded pieces) e = refl
mark_rows row changes.Restated e = refl

-- the rows among the marks are those of the links that they make
module _ (h : History) (client : ℕ) (symbol : Name) (row : LinkRow) where
  -- where the first mark is a Link, whose version fits
  link_rows : (v : Version) (rest : List Change) → Buries rest → FitsLink h client symbol row v
      → row ∷ filter_map row_of (marks_of row rest) ≡ map (λ (l : Linked). l.row) (cons_option (linked h row) (links_in h (marks_of row rest)))
  link_rows v rest b f =
      let none = buries_none h row (state_of h symbol) rest b in
      let links : cons_option (linked h row) (links_in h (marks_of row rest)) ≡ f.link ∷ [] =
      ap (λ o. cons_option o (links_in h (marks_of row rest))) f.link_is ∙ ap (λ ls. f.link ∷ ls) none.links in
      ap (λ rs. row ∷ rs) (buries_no_rows row rest b) ∙ (ap (λ r. r ∷ []) (sym (linked_row h row f.link f.link_is)) ∙ sym (ap (map (λ (l : Linked). l.row)) links))

  version_rows : (c : Change) (rest : List Change) → is_version c ≡ true → Buries rest → IfSome (new_version (state_of h symbol) c) (FitsLink h client symbol row)
      → filter_map row_of (marks_of row (c ∷ rest)) ≡ map (λ (l : Linked). l.row) (links_in h (marks_of row (c ∷ rest)))
  version_rows (changes.Wrote frame at) rest e b f = link_rows _ rest b f
  version_rows (changes.Appended frame at) rest e b f = link_rows _ rest b f
  version_rows (changes.Updated frame range at) rest e b f = link_rows _ rest b f
  version_rows (changes.Removed versions) rest e b f = absurd (true≢false (sym e))
  version_rows (changes.Held holder version) rest e b f = absurd (true≢false (sym e))
  version_rows (changes.Released holder) rest e b f = absurd (true≢false (sym e))
  version_rows (changes.Discarded pieces) rest e b f = absurd (true≢false (sym e))
  version_rows changes.Restated rest e b f = absurd (true≢false (sym e))

  commit_rows : (list : List Change) → IsCommit list → AllByRecursion (FitsChange h client symbol row) list → filter_map row_of (marks_of row list) ≡ map (λ (l : Linked). l.row) (links_in h (marks_of row list))
  commit_rows _ (marking c e) fits = mark_rows row c e ∙ sym (ap (map (λ (l : Linked). l.row)) (marks_make_none h row (state_of h symbol) c e).links)
  commit_rows _ (making c {rest = rest} e b) fits = version_rows c rest e b fits.0.0

-- ---- the whole chain

map_append : {A B : Type 0} (f : A → B) (xs ys : List A) → map f (xs ++ ys) ≡ map f xs ++ map f ys
map_append f [] ys = refl
map_append f (x ∷ xs) ys = ap (λ zs. f x ∷ zs) (map_append f xs ys)

-- one commit more
commit_walks : (h : History) (client : ℕ) (symbol : Name) (was : Option Key) (entry : Key) (list : List Change) → MayChange h client symbol was entry list → (elements : List Entry)
    → rows_in elements ≡ map (λ (l : Linked). l.row) (links h symbol) → tombs_in elements ≡ (state_of h symbol).buried → holds_in elements ≡ (state_of h symbol).holds → pieces_in elements ≡ (state_of h symbol).consumed
    → (rows_in (cons_option (element h entry) elements) ≡ map (λ (l : Linked). l.row) (links_at h entry ++ links h symbol))
    × (tombs_in (cons_option (element h entry) elements) ≡ (fold after_change (state_of h symbol) list).buried)
    × (holds_in (cons_option (element h entry) elements) ≡ (fold after_change (state_of h symbol) list).holds)
    × (pieces_in (cons_option (element h entry) elements) ≡ (fold after_change (state_of h symbol) list).consumed)
commit_walks h client symbol was entry list may elements rows tombs holds pieces =
    let adds = commit_adds may.row (state_of h symbol) list may.form in
    let made : links_at h entry ≡ links_in h (marks_of may.row list) = ap (links_of h) may.spelled in
    let here = λ (o : Option Entry). cons_option o elements in (
      ap (λ o. rows_in (here o)) may.spelled ∙ ((λ i. commit_rows h client symbol may.row list may.form may.fits i ++ rows i)
          ∙ (ap (λ ls. map (λ (l : Linked). l.row) ls ++ map (λ (l : Linked). l.row) (links h symbol)) (sym made) ∙ sym (map_append (λ (l : Linked). l.row) (links_at h entry) (links h symbol)))),
      ap (λ o. tombs_in (here o)) may.spelled ∙ (ap (λ xs. filter_map tomb_of (marks_of may.row list) ++ xs) tombs ∙ adds.tombs),
      ap (λ o. holds_in (here o)) may.spelled ∙ (ap (λ hs. fold holds_after_mark hs (marks_of may.row list)) holds ∙ adds.holds),
      ap (λ o. pieces_in (here o)) may.spelled ∙ (ap (λ xs. flat_map pieces_of (marks_of may.row list) ++ xs) pieces ∙ adds.pieces),
    )

pub walk_is_state : (h : History) → IsLawful h → (symbol : Name) → WalkIsState h symbol
walk_is_state [] lawful symbol = record { rows = refl; tombs = refl; holds = refl; pieces = refl }
walk_is_state (events.Refer c t was entry list ∷ h) lawful symbol =
    let old = walk_is_state h lawful.1 symbol in
    let all = at_symbol t symbol
    (λ b. (rows_in (cond b (cons_option (element h entry) (chain h symbol)) (chain h symbol)) ≡ map (λ (l : Linked). l.row) (cond b (links_at h entry ++ links h symbol) (links h symbol)))
    × (tombs_in (cond b (cons_option (element h entry) (chain h symbol)) (chain h symbol)) ≡ (cond b (after_changes (state_of h symbol) list) (state_of h symbol)).buried)
    × (holds_in (cond b (cons_option (element h entry) (chain h symbol)) (chain h symbol)) ≡ (cond b (after_changes (state_of h symbol) list) (state_of h symbol)).holds)
    × (pieces_in (cond b (cons_option (element h entry) (chain h symbol)) (chain h symbol)) ≡ (cond b (after_changes (state_of h symbol) list) (state_of h symbol)).consumed))
    (λ e. commit_walks h c symbol was entry list (is_commit h c symbol was entry list (subst (λ s. MayRefer h c s was entry list) e lawful.0.1)) (chain h symbol) old.rows old.tombs old.holds old.pieces)
    (old.rows, old.tombs, old.holds, old.pieces) in
    record { rows = all.0; tombs = all.1; holds = all.2; pieces = all.3 }
walk_is_state (events.Put c key body ∷ h) lawful symbol = let old = walk_is_state h lawful.1 symbol in record { rows = old.rows; tombs = old.tombs; holds = old.holds; pieces = old.pieces }
walk_is_state (events.Name c snap body ∷ h) lawful symbol = let old = walk_is_state h lawful.1 symbol in record { rows = old.rows; tombs = old.tombs; holds = old.holds; pieces = old.pieces }
walk_is_state (events.Unname c snap ∷ h) lawful symbol = let old = walk_is_state h lawful.1 symbol in record { rows = old.rows; tombs = old.tombs; holds = old.holds; pieces = old.pieces }
walk_is_state (events.Drop c key ∷ h) lawful symbol = let old = walk_is_state h lawful.1 symbol in record { rows = old.rows; tombs = old.tombs; holds = old.holds; pieces = old.pieces }

-- ---- the elements are still under their entries

elements_later : (h later : History) → PutsStay h later → (keys : List Key) (es : List Entry) → AllZip (λ key e. element h key ≡ Some e) keys es → AllZip (λ key e. element later key ≡ Some e) keys es
elements_later h later stay [] [] z = tt
elements_later h later stay (k ∷ keys) (e ∷ es) z = (element_stays h later stay k e z.0, elements_later h later stay keys es z.1)
elements_later h later stay [] (e ∷ es) z = absurd z
elements_later h later stay (k ∷ keys) [] z = absurd z

pub has_elements : (h : History) → IsLawful h → (symbol : Name) → HasElements h symbol
has_elements [] lawful symbol = tt
has_elements (events.Put c key body ∷ h) lawful symbol =
    elements_later h (events.Put c key body ∷ h) (put_stays h (events.Put c key body) (lawful_is_intact (events.Put c key body ∷ h) lawful).once) (entries h symbol) (chain h symbol) (has_elements h lawful.1 symbol)
has_elements (events.Refer c t was entry list ∷ h) lawful symbol =
    let spelled = (is_commit h c t was entry list lawful.0.1).spelled in
    elim (same_name t symbol) as (λ b. AllZip (λ key e. element h key ≡ Some e) (cond b (entry ∷ entries h symbol) (entries h symbol)) (cond b (cons_option (element h entry) (chain h symbol)) (chain h symbol))) [
      | true ↦ subst (λ o. AllZip (λ key e. element h key ≡ Some e) (entry ∷ entries h symbol) (cons_option o (chain h symbol))) (sym spelled) (spelled, has_elements h lawful.1 symbol)
      | false ↦ has_elements h lawful.1 symbol
    ]
has_elements (events.Name c snap body ∷ h) lawful symbol = has_elements h lawful.1 symbol
has_elements (events.Unname c snap ∷ h) lawful symbol = has_elements h lawful.1 symbol
has_elements (events.Drop c key ∷ h) lawful symbol = has_elements h lawful.1 symbol

pub plain_walks : PlainWalks
plain_walks h lawful symbol = record {
  elements = has_elements h lawful symbol;
  state = walk_is_state h lawful symbol;
  whole = lawful_chain h lawful symbol;
  stand = entries_stand h lawful symbol;
  no_pages = lawful_links h lawful symbol;
}
