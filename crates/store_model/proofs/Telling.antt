-- What the element of a Refer tells: what its changes add to the state, or the whole state.
use Rattle.std.proofs.Common.{◌≡◌, ℕ, Bool, true, false, ◌||◌, ◌&&◌, not, List, [], ◌∷◌, ◌++◌, map, refl, ap, sym, ◌∙◌, subst, inl, inr, Option, Some, None, cond, nat_eq}
use Rattle.std.specs.Prelude.{Contains, IfSome, filter, flat_map, fold, reverse}
use Rattle.std.specs.List.{AllZip, AllByRecursion, cons_option, list_any}
use Rattle.std.proofs.lemmas.Bool.{true≢false, and_parts, and_from, or_cases, or_left, or_right, eq-eqb, eqb-true, not-true}
use Rattle.std.proofs.lemmas.List.{reverse-append, reverse-reverse}
use Rattle.std.proofs.lemmas.List.Folds.{list_any-append}
use Rattle.key_kind.specs.declared.key.Key.{Key}
use Rattle.key_kind.specs.Keys.{same_holder}
use Rattle.key_kind.specs.Names.{Name}
use Rattle.bucket_core.specs.declared.event.Change.{Change}
use Rattle.bucket_core.specs.declared.event.Change.TheVariants as changes
use Rattle.bucket_core.specs.History.{History}
use Rattle.store_model.specs.declared.chain.LinkRow.{LinkRow}
use Rattle.store_model.specs.declared.chain.ToldLink.{ToldLink}
use Rattle.store_model.specs.declared.chain.ChainMark.{ChainMark}
use Rattle.store_model.specs.declared.chain.ChainMark.TheVariants as marks
use Rattle.store_model.specs.declared.chain.Entry.{Entry}
use Rattle.store_model.specs.Library.{State, Version, Hold, hold_of, state_of, is_buried, is_linked, is_live, new_version, after_change, after_changes}
use Rattle.store_model.specs.Links.{Linked, linked, links, links_at, links_of, links_in, restates, left_behind, element}
use Rattle.store_model.specs.Commits.{MayRefer, MayChange, MayRestate, FitsLink, FitsChange, AsOften, told_link, marks_of, IsCommit, making, marking, Buries, no_tombs, some_tombs, Consumes, no_pieces, some_pieces, is_version}
use Rattle.store_model.specs.Walks.{rows_of, tombs_of, pieces_of, holds_after_mark, tombs_in, rows_in, pieces_in, holds_in, chain, Tell}
use Rattle.store_model.specs.Intact.{IsLinkOf}
use Rattle.store_model.proofs.Lists.{contains_cases, contains_none, one_passes, passes}
use Rattle.store_model.proofs.Often.{often_self, often_as, often_then, often_cons, often_behind, often_filter}
use Rattle.store_model.proofs.Linking.{linked_row, buries_none, marks_make_none}

-- ---- the marks of one commit

-- many Tombs
tombs_of_tombs : (ns : List ℕ) (more : List ChainMark) → flat_map tombs_of (map marks.Tomb ns ++ more) ≡ ns ++ flat_map tombs_of more
tombs_of_tombs [] more = refl
tombs_of_tombs (n ∷ ns) more = ap (λ xs. n ∷ xs) (tombs_of_tombs ns more)

pieces_of_tombs : (ns : List ℕ) (more : List ChainMark) → flat_map pieces_of (map marks.Tomb ns ++ more) ≡ flat_map pieces_of more
pieces_of_tombs [] more = refl
pieces_of_tombs (n ∷ ns) more = pieces_of_tombs ns more

holds_of_tombs : (ns : List ℕ) (more : List ChainMark) (holds : List Hold) → fold holds_after_mark holds (map marks.Tomb ns ++ more) ≡ fold holds_after_mark holds more
holds_of_tombs [] more holds = refl
holds_of_tombs (n ∷ ns) more holds = holds_of_tombs ns more holds

-- what the marks of some changes add is what the changes add to a state
record Adds (row : LinkRow) (list : List Change) (st : State) : Type 0 where
  tombs : flat_map tombs_of (marks_of row list) ++ st.buried ≡ (fold after_change st list).buried
  pieces : flat_map pieces_of (marks_of row list) ++ st.consumed ≡ (fold after_change st list).consumed
  holds : fold holds_after_mark st.holds (marks_of row list) ≡ (fold after_change st list).holds

append_nil : {A : Type 0} (xs : List A) → xs ++ [] ≡ xs
append_nil [] = refl
append_nil (x ∷ xs) = ap (λ ys. x ∷ ys) (append_nil xs)

consumes_adds : (row : LinkRow) (st : State) (list : List Change) → Consumes list → Adds row list st
consumes_adds row st list no_pieces = record { tombs = refl; pieces = refl; holds = refl }
consumes_adds row st list (some_pieces names) = record { tombs = refl; pieces = ap (λ xs. xs ++ st.consumed) (append_nil names); holds = refl }

-- a Removed, behind which no number is buried
consumes_no_tombs : (row : LinkRow) (list : List Change) → Consumes list → flat_map tombs_of (marks_of row list) ≡ []
consumes_no_tombs row list no_pieces = refl
consumes_no_tombs row list (some_pieces names) = refl

consumes_buried : (st : State) (list : List Change) → Consumes list → (fold after_change st list).buried ≡ st.buried
consumes_buried st list no_pieces = refl
consumes_buried st list (some_pieces names) = refl

removed_adds : (row : LinkRow) (st : State) (numbers : List ℕ) (rest : List Change) → Consumes rest → Adds row (changes.Removed numbers ∷ rest) st
removed_adds row st numbers rest c =
    let after = consumes_adds row (after_change st (changes.Removed numbers)) rest c in
    record {
      tombs = ap (λ xs. xs ++ st.buried) (tombs_of_tombs numbers (marks_of row rest) ∙ (ap (λ xs. numbers ++ xs) (consumes_no_tombs row rest c) ∙ append_nil numbers))
          ∙ sym (consumes_buried (after_change st (changes.Removed numbers)) rest c);
      pieces = ap (λ xs. xs ++ st.consumed) (pieces_of_tombs numbers (marks_of row rest)) ∙ after.pieces;
      holds = holds_of_tombs numbers (marks_of row rest) st.holds ∙ after.holds;
    }

buries_adds : (row : LinkRow) (st : State) (list : List Change) → Buries list → Adds row list st
buries_adds row st list (no_tombs c) = consumes_adds row st list c
buries_adds row st _ (some_tombs numbers {rest = rest} c) = removed_adds row st numbers rest c

commit_adds : (row : LinkRow) (st : State) (list : List Change) → IsCommit list → Adds row list st
commit_adds row st _ (making c {rest = rest} e b) = by c e
  where
    by : (c : Change) → is_version c ≡ true → Adds row (c ∷ rest) st
    by (changes.Wrote frame at) e = let a = buries_adds row (after_change st (changes.Wrote frame at)) rest b in record { tombs = a.tombs; pieces = a.pieces; holds = a.holds }
    by (changes.Appended frame at) e = let a = buries_adds row (after_change st (changes.Appended frame at)) rest b in record { tombs = a.tombs; pieces = a.pieces; holds = a.holds }
    by (changes.Updated frame range at) e = let a = buries_adds row (after_change st (changes.Updated frame range at)) rest b in record { tombs = a.tombs; pieces = a.pieces; holds = a.holds }
    by (changes.Removed versions) e = absurd (true≢false (sym e))
    by (changes.Held holder version) e = absurd (true≢false (sym e))
    by (changes.Released holder) e = absurd (true≢false (sym e))
    by (changes.Discarded pieces) e = absurd (true≢false (sym e))
    by changes.Restated e = absurd (true≢false (sym e))
commit_adds row st _ (marking (changes.Wrote frame at) e) = absurd (true≢false e)
commit_adds row st _ (marking (changes.Appended frame at) e) = absurd (true≢false e)
commit_adds row st _ (marking (changes.Updated frame range at) e) = absurd (true≢false e)
commit_adds row st _ (marking (changes.Removed versions) e) = removed_adds row st versions [] no_pieces
commit_adds row st _ (marking (changes.Held holder version) e) = record { tombs = refl; pieces = refl; holds = refl }
commit_adds row st _ (marking (changes.Released holder) e) = record { tombs = refl; pieces = refl; holds = refl }
commit_adds row st _ (marking (changes.Discarded pieces) e) = consumes_adds row st (changes.Discarded pieces ∷ []) (some_pieces pieces)
commit_adds row st _ (marking changes.Restated e) = record { tombs = refl; pieces = refl; holds = refl }

-- ---- the links of one commit

rows_of_tombs : (ns : List ℕ) (more : List ChainMark) → flat_map rows_of (map marks.Tomb ns ++ more) ≡ flat_map rows_of more
rows_of_tombs [] more = refl
rows_of_tombs (n ∷ ns) more = rows_of_tombs ns more

consumes_no_rows : (row : LinkRow) (rest : List Change) → Consumes rest → flat_map rows_of (marks_of row rest) ≡ []
consumes_no_rows row rest no_pieces = refl
consumes_no_rows row rest (some_pieces names) = refl

buries_no_rows : (row : LinkRow) (rest : List Change) → Buries rest → flat_map rows_of (marks_of row rest) ≡ []
buries_no_rows row rest (no_tombs c) = consumes_no_rows row rest c
buries_no_rows row _ (some_tombs numbers {rest = rest} c) = rows_of_tombs numbers (marks_of row rest) ∙ consumes_no_rows row rest c

mark_rows : (row : LinkRow) (c : Change) → is_version c ≡ false → flat_map rows_of (marks_of row (c ∷ [])) ≡ []
mark_rows row (changes.Wrote frame at) e = absurd (true≢false e)
mark_rows row (changes.Appended frame at) e = absurd (true≢false e)
mark_rows row (changes.Updated frame range at) e = absurd (true≢false e)
mark_rows row (changes.Removed versions) e = rows_of_tombs versions []
mark_rows row (changes.Held holder version) e = refl
mark_rows row (changes.Released holder) e = refl
mark_rows row (changes.Discarded pieces) e = refl
mark_rows row changes.Restated e = refl

-- the rows among the marks are those of the links that they make
module _ (h : History) (client : ℕ) (symbol : Name) (row : LinkRow) where
  -- where the first mark is a Link, whose version fits
  link_rows : (v : Version) (rest : List Change) → Buries rest → FitsLink h client symbol row v
      → row ∷ flat_map rows_of (marks_of row rest) ≡ map (λ (l : Linked). l.row) (cons_option (linked h row) (links_in h (marks_of row rest)))
  link_rows v rest b f =
      let none = buries_none h row (state_of h symbol) rest b in
      let links : cons_option (linked h row) (links_in h (marks_of row rest)) ≡ f.link ∷ [] =
      ap (λ o. cons_option o (links_in h (marks_of row rest))) f.link_is ∙ ap (λ ls. f.link ∷ ls) none.links in
      ap (λ rs. row ∷ rs) (buries_no_rows row rest b) ∙ (ap (λ r. r ∷ []) (sym (linked_row h row f.link f.link_is)) ∙ sym (ap (map (λ (l : Linked). l.row)) links))

  version_rows : (c : Change) (rest : List Change) → is_version c ≡ true → Buries rest → IfSome (new_version (state_of h symbol) c) (FitsLink h client symbol row)
      → flat_map rows_of (marks_of row (c ∷ rest)) ≡ map (λ (l : Linked). l.row) (links_in h (marks_of row (c ∷ rest)))
  version_rows (changes.Wrote frame at) rest e b f = link_rows _ rest b f
  version_rows (changes.Appended frame at) rest e b f = link_rows _ rest b f
  version_rows (changes.Updated frame range at) rest e b f = link_rows _ rest b f
  version_rows (changes.Removed versions) rest e b f = absurd (true≢false (sym e))
  version_rows (changes.Held holder version) rest e b f = absurd (true≢false (sym e))
  version_rows (changes.Released holder) rest e b f = absurd (true≢false (sym e))
  version_rows (changes.Discarded pieces) rest e b f = absurd (true≢false (sym e))
  version_rows changes.Restated rest e b f = absurd (true≢false (sym e))

  commit_rows : (list : List Change) → IsCommit list → AllByRecursion (FitsChange h client symbol row) list → flat_map rows_of (marks_of row list) ≡ map (λ (l : Linked). l.row) (links_in h (marks_of row list))
  commit_rows _ (marking c e) fits = mark_rows row c e ∙ sym (ap (map (λ (l : Linked). l.row)) (marks_make_none h row (state_of h symbol) c e).links)
  commit_rows _ (making c {rest = rest} e b) fits = version_rows c rest e b fits.0.0

-- ---- one commit more

map_append : {A B : Type 0} (f : A → B) (xs ys : List A) → map f (xs ++ ys) ≡ map f xs ++ map f ys
map_append f [] ys = refl
map_append f (x ∷ xs) ys = ap (λ zs. f x ∷ zs) (map_append f xs ys)

-- holds that are as often before some marks are so behind them
marks_often : (list : List ChainMark) (xs ys : List Hold) → AsOften xs ys → AsOften (fold holds_after_mark xs list) (fold holds_after_mark ys list)
marks_often [] xs ys a = a
marks_often (marks.Link row ∷ list) xs ys a = marks_often list xs ys a
marks_often (marks.Tomb version ∷ list) xs ys a = marks_often list xs ys a
marks_often (marks.Hold holder version ∷ list) xs ys a =
    marks_often list (record { holder = holder; version = version } ∷ xs) (record { holder = holder; version = version } ∷ ys) (often_cons (record { holder = holder; version = version }) xs ys a)
marks_often (marks.Release holder ∷ list) xs ys a =
    let keep = λ (w : Hold). not (same_holder holder w.holder) in marks_often list (filter keep xs) (filter keep ys) (often_filter keep xs ys a)
marks_often (marks.Discard pieces ∷ list) xs ys a = marks_often list xs ys a
marks_often (marks.Compact told ∷ list) xs ys a = marks_often list (map hold_of told.holds) (map hold_of told.holds) (often_self (map hold_of told.holds))

-- the changes of a commit restate nothing
pub commit_restates_none : (h : History) (client : ℕ) (symbol : Name) (row : LinkRow) (list : List Change) → AllByRecursion (FitsChange h client symbol row) list → restates list ≡ false
commit_restates_none h client symbol row [] fits = refl
commit_restates_none h client symbol row (changes.Wrote frame at ∷ list) fits = refl
commit_restates_none h client symbol row (changes.Appended frame at ∷ list) fits = refl
commit_restates_none h client symbol row (changes.Updated frame range at ∷ list) fits = refl
commit_restates_none h client symbol row (changes.Removed versions ∷ list) fits = refl
commit_restates_none h client symbol row (changes.Held holder version ∷ list) fits = refl
commit_restates_none h client symbol row (changes.Released holder ∷ list) fits = refl
commit_restates_none h client symbol row (changes.Discarded pieces ∷ list) fits = refl
commit_restates_none h client symbol row (changes.Restated ∷ list) fits = absurd fits.0.1

commit_tells : (h : History) (client : ℕ) (symbol : Name) (was : Option Key) (entry : Key) (list : List Change) → MayChange h client symbol was entry list → (elements : List Entry)
    → Tell elements (links h symbol) (state_of h symbol) → Tell (cons_option (element h entry) elements) (links_at h entry ++ links h symbol) (after_changes (state_of h symbol) list)
commit_tells h client symbol was entry list may elements old =
    let st : State = state_of h symbol in
    let here = marks_of may.row list in
    let adds = commit_adds may.row st list may.form in
    let made : links_at h entry ≡ links_in h here = ap (links_of h) may.spelled in
    let whole = λ (o : Option Entry). cons_option o elements in
    record {
      rows = ap (λ o. rows_in (whole o)) may.spelled ∙ ((λ i. commit_rows h client symbol may.row list may.form may.fits i ++ old.rows i)
          ∙ (ap (λ ls. map (λ (l : Linked). l.row) ls ++ map (λ (l : Linked). l.row) (links h symbol)) (sym made) ∙ sym (map_append (λ (l : Linked). l.row) (links_at h entry) (links h symbol))));
      tombs = λ n. ap (λ o. list_any (nat_eq n) (tombs_in (whole o))) may.spelled
          ∙ (list_any-append (nat_eq n) (flat_map tombs_of here) (tombs_in elements)
          ∙ (ap (λ b. list_any (nat_eq n) (flat_map tombs_of here) || b) (old.tombs n)
          ∙ (sym (list_any-append (nat_eq n) (flat_map tombs_of here) st.buried) ∙ ap (list_any (nat_eq n)) adds.tombs)));
      holds = often_then (holds_in (whole (element h entry))) (fold holds_after_mark (holds_in elements) here) (fold after_change st list).holds
          (often_as _ _ (ap (λ o. holds_in (whole o)) may.spelled))
          (often_then (fold holds_after_mark (holds_in elements) here) (fold holds_after_mark st.holds here) (fold after_change st list).holds
          (marks_often here (holds_in elements) st.holds old.holds) (often_as _ _ adds.holds));
      pieces = often_then (pieces_in (whole (element h entry))) (flat_map pieces_of here ++ pieces_in elements) (fold after_change st list).consumed
          (often_as _ _ (ap (λ o. pieces_in (whole o)) may.spelled))
          (often_then (flat_map pieces_of here ++ pieces_in elements) (flat_map pieces_of here ++ st.consumed) (fold after_change st list).consumed
          (often_behind (flat_map pieces_of here) (pieces_in elements) st.consumed old.pieces) (often_as _ _ adds.pieces));
    }

-- ---- a state that is told anew

reverse_last : {A : Type 0} (x : A) (xs : List A) → reverse (x ∷ xs) ≡ reverse xs ++ x ∷ []
reverse_last x xs = reverse-append (x ∷ []) xs

map_reverse : {A B : Type 0} (f : A → B) (xs : List A) → map f (reverse xs) ≡ reverse (map f xs)
map_reverse f [] = refl
map_reverse f (x ∷ xs) = ap (map f) (reverse_last x xs) ∙ (map_append f (reverse xs) (x ∷ []) ∙ (ap (λ ys. ys ++ f x ∷ []) (map_reverse f xs) ∙ sym (reverse_last (f x) (map f xs))))

map_map : {A B C : Type 0} (g : B → C) (f : A → B) (xs : List A) → map g (map f xs) ≡ map (λ x. g (f x)) xs
map_map g f [] = refl
map_map g f (x ∷ xs) = ap (λ ys. g (f x) ∷ ys) (map_map g f xs)

-- the links that are told are the symbol's
told_rows : (st : State) (ls : List Linked) (told : List ToldLink) → told ≡ reverse (map (told_link st) ls) → reverse (map (λ (t : ToldLink). t.row) told) ≡ map (λ (l : Linked). l.row) ls
told_rows st ls told is =
    ap (λ ts. reverse (map (λ (t : ToldLink). t.row) ts)) is ∙ (ap reverse (map_reverse (λ (t : ToldLink). t.row) (map (told_link st) ls))
    ∙ (reverse-reverse (map (λ (t : ToldLink). t.row) (map (told_link st) ls)) ∙ map_map (λ (t : ToldLink). t.row) (told_link st) ls))

-- which numbers are told as buried
abbrev buried_in : List ToldLink → List ℕ
buried_in told = map (λ (t : ToldLink). t.row.version) (filter (λ (t : ToldLink). not t.live) told)

-- a told link that is not live
tells_buried : (n : ℕ) (told : List ToldLink) → list_any (nat_eq n) (buried_in told) ≡ list_any (λ (t : ToldLink). not t.live && nat_eq n t.row.version) told
tells_buried n [] = refl
tells_buried n (t ∷ told) =
    elim (not t.live) as (λ b. list_any (nat_eq n) (map (λ (t : ToldLink). t.row.version) (cond b (t ∷ filter (λ (t : ToldLink). not t.live) told) (filter (λ (t : ToldLink). not t.live) told)))
    ≡ ((b && nat_eq n t.row.version) || list_any (λ (t : ToldLink). not t.live && nat_eq n t.row.version) told)) [
      | true ↦ ap (λ b. nat_eq n t.row.version || b) (tells_buried n told)
      | false ↦ tells_buried n told
    ]

any_reverse : {A : Type 0} (p : A → Bool) (xs : List A) → list_any p (reverse xs) ≡ list_any p xs
any_reverse p [] = refl
any_reverse p (x ∷ xs) =
    ap (list_any p) (reverse_last x xs) ∙ (list_any-append p (reverse xs) (x ∷ []) ∙ (ap (λ b. b || (p x || false)) (any_reverse p xs) ∙ turned (list_any p xs) (p x)))
  where
    turned : (a b : Bool) → (a || (b || false)) ≡ (b || a)
    turned true true = refl
    turned true false = refl
    turned false true = refl
    turned false false = refl

pub any_map : {A B : Type 0} (p : B → Bool) (f : A → B) (xs : List A) → list_any p (map f xs) ≡ list_any (λ x. p (f x)) xs
any_map p f [] = refl
any_map p f (x ∷ xs) = ap (λ b. p (f x) || b) (any_map p f xs)

-- the versions of links were made, and each version that was made has its link
link_is_made : (st : State) (ls : List Linked) (vs : List Version) (l : Linked) → AllZip IsLinkOf ls vs → Contains ls l → list_any (λ (v : Version). nat_eq l.row.version v.number) vs ≡ true
link_is_made st [] vs l z c = absurd (contains_none l c)
link_is_made st (x ∷ ls) [] l z c = absurd z
link_is_made st (x ∷ ls) (v ∷ vs) l z c = elim (contains_cases l x ls c) [
  | inl same ↦ or_left _ _ (eq-eqb l.row.version v.number (ap (λ (k : Linked). k.row.version) (sym same) ∙ z.0.number))
  | inr later ↦ or_right _ _ (link_is_made st ls vs l z.1 later)
]

made_has_link : (n : ℕ) (ls : List Linked) (vs : List Version) → AllZip IsLinkOf ls vs → list_any (λ (v : Version). nat_eq n v.number) vs ≡ true → list_any (λ (l : Linked). nat_eq n l.row.version) ls ≡ true
made_has_link n [] [] z e = e
made_has_link n [] (v ∷ vs) z e = absurd z
made_has_link n (l ∷ ls) [] z e = absurd z
made_has_link n (l ∷ ls) (v ∷ vs) z e = elim (or_cases (nat_eq n v.number) (list_any (λ (v : Version). nat_eq n v.number) vs) e) [
  | inl this ↦ or_left _ _ (subst (λ m. nat_eq n m ≡ true) (sym z.0.number) this)
  | inr older ↦ or_right _ _ (made_has_link n ls vs z.1 older)
]

-- the numbers that are told as buried are the buried ones
told_tombs : (st : State) (ls : List Linked) → AllZip IsLinkOf ls st.versions → ((n : ℕ) → is_buried st n ≡ true → is_linked st n ≡ true) → (n : ℕ)
    → list_any (λ (l : Linked). not (is_live st l.row.version) && nat_eq n l.row.version) ls ≡ is_buried st n
told_tombs st ls zip made n = same_truth _ (is_buried st n) forth back
  where
    same_truth : (a b : Bool) → (a ≡ true → b ≡ true) → (b ≡ true → a ≡ true) → a ≡ b
    same_truth true true f g = refl
    same_truth true false f g = sym (f refl)
    same_truth false true f g = g refl
    same_truth false false f g = refl

    forth : list_any (λ (l : Linked). not (is_live st l.row.version) && nat_eq n l.row.version) ls ≡ true → is_buried st n ≡ true
    forth e =
        let found = one_passes (λ (l : Linked). not (is_live st l.row.version) && nat_eq n l.row.version) ls e in
        let parts = and_parts (not (is_live st found.0.row.version)) (nat_eq n found.0.row.version) found.2 in
        let linked : is_linked st found.0.row.version ≡ true = link_is_made st ls st.versions found.0 zip found.1 in
        let same : n ≡ found.0.row.version = eqb-true n found.0.row.version parts.1 in
        subst (λ m. is_buried st m ≡ true) (sym same) (dead (is_linked st found.0.row.version) (is_buried st found.0.row.version) linked (not-true _ parts.0))
      where
        dead : (a b : Bool) → a ≡ true → (a && not b) ≡ false → b ≡ true
        dead true true e f = refl
        dead true false e f = absurd (true≢false f)
        dead false b e f = absurd (true≢false (sym e))

    back : is_buried st n ≡ true → list_any (λ (l : Linked). not (is_live st l.row.version) && nat_eq n l.row.version) ls ≡ true
    back e =
        let found = one_passes (λ (l : Linked). nat_eq n l.row.version) ls (made_has_link n ls st.versions zip (made n e)) in
        let same : n ≡ found.0.row.version = eqb-true n found.0.row.version found.2 in
        passes (λ (l : Linked). not (is_live st l.row.version) && nat_eq n l.row.version) ls found.0 found.1
        (and_from _ _ (subst (λ m. not (is_live st m) ≡ true) same (gone (is_linked st n) (is_buried st n) e)) found.2)
      where
        gone : (a b : Bool) → b ≡ true → not (a && not b) ≡ true
        gone true true e = refl
        gone false true e = refl
        gone a false e = absurd (true≢false (sym e))

append_none : {A : Type 0} (xs : List A) → (xs ++ []) ++ [] ≡ xs
append_none xs = append_nil (xs ++ []) ∙ append_nil xs

restated_tells : (h : History) (symbol : Name) (entry : Key) (list : List Change) → MayRestate h symbol entry list → (elements : List Entry)
    → AllZip IsLinkOf (links h symbol) (state_of h symbol).versions → ((n : ℕ) → is_buried (state_of h symbol) n ≡ true → is_linked (state_of h symbol) n ≡ true)
    → Tell (cons_option (element h entry) (left_behind list elements)) (links_at h entry ++ links h symbol) (after_changes (state_of h symbol) list)
restated_tells h symbol entry list may elements zip made =
    let st : State = state_of h symbol in
    let told = may.told in
    let alone : Tell (record { prev = None; changes = marks.Compact told ∷ [] } ∷ []) (links h symbol) st = record {
      rows = append_none (reverse (map (λ (t : ToldLink). t.row) told.links)) ∙ told_rows st (links h symbol) told.links may.tells.links;
      tombs = λ n. ap (list_any (nat_eq n)) (append_none (buried_in told.links)) ∙ (tells_buried n told.links
          ∙ (ap (list_any (λ (t : ToldLink). not t.live && nat_eq n t.row.version)) may.tells.links
          ∙ (any_reverse (λ (t : ToldLink). not t.live && nat_eq n t.row.version) (map (told_link st) (links h symbol))
          ∙ (any_map (λ (t : ToldLink). not t.live && nat_eq n t.row.version) (told_link st) (links h symbol) ∙ told_tombs st (links h symbol) zip made n))));
      holds = may.tells.holds;
      pieces = often_then ((told.pieces ++ []) ++ []) told.pieces st.consumed (often_as _ _ (append_none told.pieces)) may.tells.pieces;
    } in
    let here : Tell (cons_option (element h entry) []) (links_at h entry ++ links h symbol) st =
    subst (λ ls. Tell (cons_option (element h entry) []) (ls ++ links h symbol) st) (sym (ap (links_of h) may.spelled))
    (subst (λ o. Tell (cons_option o []) (links h symbol) st) (sym may.spelled) alone) in
    subst (λ l. Tell (cons_option (element h entry) (left_behind l elements)) (links_at h entry ++ links h symbol) (after_changes st l)) (sym may.alone)
    (record { rows = here.rows; tombs = here.tombs; holds = here.holds; pieces = here.pieces })

-- behind a Refer the chain tells the state
pub refer_tells : (h : History) (client : ℕ) (symbol : Name) (was : Option Key) (entry : Key) (list : List Change) → MayRefer h client symbol was entry list
    → AllZip IsLinkOf (links h symbol) (state_of h symbol).versions → ((n : ℕ) → is_buried (state_of h symbol) n ≡ true → is_linked (state_of h symbol) n ≡ true)
    → Tell (chain h symbol) (links h symbol) (state_of h symbol)
    → Tell (cons_option (element h entry) (left_behind list (chain h symbol))) (links_at h entry ++ links h symbol) (after_changes (state_of h symbol) list)
refer_tells h client symbol was entry list may zip made old = elim may.how [
  | inl change ↦ subst (λ b. Tell (cons_option (element h entry) (cond b [] (chain h symbol))) (links_at h entry ++ links h symbol) (after_changes (state_of h symbol) list))
      (sym (commit_restates_none h client symbol change.row list change.fits)) (commit_tells h client symbol was entry list change (chain h symbol) old)
  | inr restate ↦ restated_tells h symbol entry list restate (chain h symbol) zip made
]

-- the element of a Refer was put
pub element_there : (h : History) (client : ℕ) (symbol : Name) (was : Option Key) (entry : Key) (list : List Change) → MayRefer h client symbol was entry list → (e : Entry) × (element h entry ≡ Some e)
element_there h client symbol was entry list may = elim may.how [
  | inl change ↦ (record { prev = was; changes = marks_of change.row list }, change.spelled)
  | inr restate ↦ (record { prev = None; changes = marks.Compact restate.told ∷ [] }, restate.spelled)
]

-- changes that do not restate are those of a commit
pub is_change : (h : History) (client : ℕ) (symbol : Name) (was : Option Key) (entry : Key) (list : List Change) → restates list ≡ false → MayRefer h client symbol was entry list → MayChange h client symbol was entry list
is_change h client symbol was entry list e may = elim may.how [
  | inl change ↦ change
  | inr restate ↦ absurd (true≢false (sym (ap restates restate.alone) ∙ e))
]
