-- In each lawful history no holder holds a symbol twice and no piece is consumed twice: so the holds and pieces of a Compact can rise.
use Rattle.std.proofs.Common.{◌≡◌, ℕ, ◌<◌, ◌≤◌, Bool, true, false, ◌||◌, ◌&&◌, not, List, [], ◌∷◌, ◌++◌, refl, ap, sym, ◌∙◌, subst, inl, inr, Option, cond, nat_eq, arith}
use Rattle.std.specs.Prelude.{◌⊎◌, ⊤, fold, filter, nat_lt}
use Rattle.std.specs.List.{list_any, AllByRecursion}
use Rattle.std.proofs.lemmas.Bool.{true≢false, and_parts, or_cases, or_parts, or_left, or_right, or_from, eqb-true, ltb-true}
use Rattle.std.proofs.lemmas.List.Folds.{list_any-append}
use Rattle.key_kind.specs.declared.key.Key.{Key}
use Rattle.key_kind.specs.declared.key.Holder.{Holder}
use Rattle.key_kind.specs.Names.{Name, same_name}
use Rattle.key_kind.specs.Keys.{same_holder}
use Rattle.key_kind.proofs.KeyTests.{same_holder_is, same_holder_self}
use Rattle.bucket_core.specs.declared.event.PieceName.{PieceName}
use Rattle.bucket_core.specs.declared.event.Change.{Change}
use Rattle.bucket_core.specs.declared.event.Change.TheVariants as changes
use Rattle.bucket_core.specs.declared.event.Event.TheVariants as events
use Rattle.bucket_core.specs.History.{History}
use Rattle.store_model.specs.declared.chain.LinkRow.{LinkRow}
use Rattle.store_model.specs.ChainText.{piece_before}
use Rattle.store_model.specs.Library.{State, Hold, Piece, state_of, is_consumed, same_piece, after_change, after_changes}
use Rattle.store_model.specs.Holders.{has_hold, holds_in}
use Rattle.store_model.specs.Commits.{MayRefer, MayChange, FitsChange, PiecesRise, FitsMark, IsCommit, making, marking, is_version, Buries, no_tombs, some_tombs, Consumes, no_pieces, some_pieces}
use Rattle.store_model.specs.Law.{IsLawful}
use Rattle.store_model.proofs.Lists.{one_passes, passes, filter_in, all_weaker}
use Rattle.store_model.proofs.Lawful.{consumes_new}
use Rattle.store_model.proofs.Stability.{is_false}
use Rattle.store_model.proofs.Referring.{at_symbol}

-- no two elements are the same by this test
abbrev pub Distinct : {X : Type 0} → (X → X → Bool) → List X → Type 0
Distinct same [] = ⊤
Distinct same (x ∷ xs) = (list_any (same x) xs ≡ false) × Distinct same xs

distinct_filter : {X : Type 0} (same : X → X → Bool) (keep : X → Bool) (xs : List X) → Distinct same xs → Distinct same (filter keep xs)
distinct_filter same keep [] d = tt
distinct_filter same keep (x ∷ xs) d =
    elim (keep x) as (λ b. Distinct same (cond b (x ∷ filter keep xs) (filter keep xs))) [
      | true ↦ (
        is_false (list_any (same x) (filter keep xs)) (λ e.
            let found = one_passes (same x) (filter keep xs) e in
            true≢false (sym (passes (same x) xs found.0 (filter_in keep xs found.0 found.1).0 found.2) ∙ d.0)),
        distinct_filter same keep xs d.1,
      )
      | false ↦ distinct_filter same keep xs d.1
    ]

-- ---- holds

abbrev of_holder : Holder → Hold → Bool
of_holder holder w = same_holder holder w.holder

-- two holds of one holder
abbrev pub same_hold : Hold → Hold → Bool
same_hold a b = same_holder a.holder b.holder

same_back : (a b : Holder) → same_holder a b ≡ true → same_holder b a ≡ true
same_back a b e = subst (λ x. same_holder b x ≡ true) (sym (same_holder_is a b e)) (same_holder_self b)

-- what is held behind some changes was held before them, or they hold it
fold_known : (list : List Change) (st : State) (holder : Holder) → list_any (of_holder holder) (fold after_change st list).holds ≡ true → (list_any (of_holder holder) st.holds ≡ true) ⊎ (holds_in list holder ≡ true)
fold_known [] st holder e = inl e
fold_known (changes.Held other version ∷ list) st holder e = elim (fold_known list (after_change st (changes.Held other version)) holder e) [
  | inl f ↦ elim (or_cases (same_holder holder other) (list_any (of_holder holder) st.holds) f) [ inl this ↦ inr (or_left _ _ (same_back holder other this)) | inr older ↦ inl older ]
  | inr g ↦ inr (or_right _ _ g)
]
fold_known (changes.Released other ∷ list) st holder e = elim (fold_known list (after_change st (changes.Released other)) holder e) [
  | inl f ↦
      let keep = λ (w : Hold). not (same_holder other w.holder) in
      let found = one_passes (of_holder holder) (filter keep st.holds) f in
      inl (passes (of_holder holder) st.holds found.0 (filter_in keep st.holds found.0 found.1).0 found.2)
  | inr g ↦ inr g
]
fold_known (changes.Wrote frame at ∷ list) st holder e = fold_known list (after_change st (changes.Wrote frame at)) holder e
fold_known (changes.Appended frame at ∷ list) st holder e = fold_known list (after_change st (changes.Appended frame at)) holder e
fold_known (changes.Updated frame range at ∷ list) st holder e = fold_known list (after_change st (changes.Updated frame range at)) holder e
fold_known (changes.Removed versions ∷ list) st holder e = fold_known list (after_change st (changes.Removed versions)) holder e
fold_known (changes.Discarded pieces ∷ list) st holder e = fold_known list (after_change st (changes.Discarded pieces)) holder e
fold_known (changes.Restated ∷ list) st holder e = fold_known list (after_change st changes.Restated) holder e

-- a holder that holds has a Hold in the history
held_is_known : (h : History) (symbol : Name) (holder : Holder) → list_any (of_holder holder) (state_of h symbol).holds ≡ true → has_hold h symbol holder ≡ true
held_is_known [] symbol holder e = absurd (true≢false (sym e))
held_is_known (events.Refer c s was entry list ∷ h) symbol holder e =
    elim (same_name s symbol) as (λ b. list_any (of_holder holder) (cond b (after_changes (state_of h symbol) list) (state_of h symbol)).holds ≡ true → ((b && holds_in list holder) || has_hold h symbol holder) ≡ true) [
      | true ↦ λ f. elim (fold_known list (state_of h symbol) holder f) [
        | inl old ↦ or_right _ _ (held_is_known h symbol holder old)
        | inr new ↦ or_left _ _ new
      ]
      | false ↦ λ f. held_is_known h symbol holder f
    ] e
held_is_known (events.Put c key body ∷ h) symbol holder e = held_is_known h symbol holder e
held_is_known (events.Name c snap body ∷ h) symbol holder e = held_is_known h symbol holder e
held_is_known (events.Unname c snap ∷ h) symbol holder e = held_is_known h symbol holder e
held_is_known (events.Drop c key ∷ h) symbol holder e = held_is_known h symbol holder e

buries_holds : (st : State) (rest : List Change) → Buries rest → (fold after_change st rest).holds ≡ st.holds
buries_holds st _ (no_tombs no_pieces) = refl
buries_holds st _ (no_tombs (some_pieces names)) = refl
buries_holds st _ (some_tombs numbers no_pieces) = refl
buries_holds st _ (some_tombs numbers (some_pieces names)) = refl

commit_distinct : (h : History) (client : ℕ) (symbol : Name) (row : LinkRow) (list : List Change) → IsCommit list → AllByRecursion (FitsChange h client symbol row) list
    → Distinct same_hold (state_of h symbol).holds → Distinct same_hold (fold after_change (state_of h symbol) list).holds
commit_distinct h client symbol row _ (marking c e) fits d = by c e fits.0.1
  where
    by : (c : Change) → is_version c ≡ false → FitsMark h client symbol c → Distinct same_hold (after_change (state_of h symbol) c).holds
    by (changes.Held holder version) e f = (is_false _ (λ held. true≢false (sym (held_is_known h symbol holder held) ∙ f.unused)), d)
    by (changes.Released holder) e f = distinct_filter same_hold (λ (w : Hold). not (same_holder holder w.holder)) (state_of h symbol).holds d
    by (changes.Removed versions) e f = d
    by (changes.Discarded pieces) e f = d
    by changes.Restated e f = d
    by (changes.Wrote frame at) e f = absurd (true≢false e)
    by (changes.Appended frame at) e f = absurd (true≢false e)
    by (changes.Updated frame range at) e f = absurd (true≢false e)
commit_distinct h client symbol row _ (making c {rest = rest} e buries) fits d = by c e
  where
    by : (c : Change) → is_version c ≡ true → Distinct same_hold (fold after_change (after_change (state_of h symbol) c) rest).holds
    by (changes.Wrote frame at) e = subst (Distinct same_hold) (sym (buries_holds (after_change (state_of h symbol) (changes.Wrote frame at)) rest buries)) d
    by (changes.Appended frame at) e = subst (Distinct same_hold) (sym (buries_holds (after_change (state_of h symbol) (changes.Appended frame at)) rest buries)) d
    by (changes.Updated frame range at) e = subst (Distinct same_hold) (sym (buries_holds (after_change (state_of h symbol) (changes.Updated frame range at)) rest buries)) d
    by (changes.Held holder version) e = absurd (true≢false (sym e))
    by (changes.Released holder) e = absurd (true≢false (sym e))
    by (changes.Removed versions) e = absurd (true≢false (sym e))
    by (changes.Discarded pieces) e = absurd (true≢false (sym e))
    by changes.Restated e = absurd (true≢false (sym e))

-- each holder has at most one hold of a symbol
pub holds_distinct : (h : History) → IsLawful h → (symbol : Name) → Distinct same_hold (state_of h symbol).holds
holds_distinct [] lawful symbol = tt
holds_distinct (events.Refer c s was entry list ∷ h) lawful symbol =
    at_symbol s symbol (λ b. Distinct same_hold (cond b (after_changes (state_of h symbol) list) (state_of h symbol)).holds)
    (λ same. elim (subst (λ n. MayRefer h c n was entry list) same lawful.0.1).how [
      | inl change ↦ commit_distinct h c symbol change.row list change.form change.fits (holds_distinct h lawful.1 symbol)
      | inr restate ↦ subst (λ l. Distinct same_hold (fold after_change (state_of h symbol) l).holds) (sym restate.alone) (holds_distinct h lawful.1 symbol)
    ])
    (holds_distinct h lawful.1 symbol)
holds_distinct (events.Put c key body ∷ h) lawful symbol = holds_distinct h lawful.1 symbol
holds_distinct (events.Name c snap body ∷ h) lawful symbol = holds_distinct h lawful.1 symbol
holds_distinct (events.Unname c snap ∷ h) lawful symbol = holds_distinct h lawful.1 symbol
holds_distinct (events.Drop c key ∷ h) lawful symbol = holds_distinct h lawful.1 symbol

-- ---- pieces

-- the one stands before the other, by client and serial
abbrev Before : PieceName → PieceName → Type 0
Before a b = (a.client < b.client) ⊎ ((a.client ≡ b.client) × (a.serial < b.serial))

before_of : (a b : PieceName) → piece_before a b ≡ true → Before a b
before_of a b e = elim (or_cases (nat_lt a.client b.client) (nat_eq a.client b.client && nat_lt a.serial b.serial) e) [
  | inl below ↦ inl (ltb-true a.client b.client below)
  | inr both ↦ let parts = and_parts (nat_eq a.client b.client) (nat_lt a.serial b.serial) both in inr (eqb-true a.client b.client parts.0, ltb-true a.serial b.serial parts.1)
]

before_then : (a b c : PieceName) → Before a b → Before b c → Before a c
before_then a b c (inl x) (inl y) = inl (omega (arith, x, y))
before_then a b c (inl x) (inr y) = inl (omega (arith, x, y.0))
before_then a b c (inr x) (inl y) = inl (omega (arith, x.0, y))
before_then a b c (inr x) (inr y) = inr (x.0 ∙ y.0, omega (arith, x.1, y.1))

before_is_other : (a b : PieceName) → Before a b → same_piece a b ≡ false
before_is_other a b before = is_false (same_piece a b) (λ e.
    let parts = and_parts (nat_eq a.client b.client) (nat_eq a.serial b.serial) e in
    let client : a.client ≡ b.client = eqb-true a.client b.client parts.0 in
    let serial : a.serial ≡ b.serial = eqb-true a.serial b.serial parts.1 in
    elim before [ inl x ↦ omega (arith, x, client) | inr y ↦ omega (arith, y.1, serial) ])

all_behind : (p : PieceName) (rest : List PieceName) → PiecesRise (p ∷ rest) → AllByRecursion (Before p) rest
all_behind p [] rise = tt
all_behind p (q ∷ more) rise =
    let first : Before p q = before_of p q rise.0 in (first, all_weaker (Before q) (Before p) (λ x later. before_then p q x first later) more (all_behind q more rise.1))

none_same : (p : PieceName) (rest : List PieceName) → AllByRecursion (Before p) rest → list_any (same_piece p) rest ≡ false
none_same p [] all = refl
none_same p (q ∷ rest) all = or_from _ _ (before_is_other p q all.0) (none_same p rest all.1)

rising_distinct : (names : List PieceName) → PiecesRise names → Distinct same_piece names
rising_distinct [] rise = tt
rising_distinct (p ∷ []) rise = (refl, tt)
rising_distinct (p ∷ q ∷ more) rise = (none_same p (q ∷ more) (all_behind p (q ∷ more) rise), rising_distinct (q ∷ more) rise.1)

distinct_append : {X : Type 0} (same : X → X → Bool) (xs ys : List X) → Distinct same xs → Distinct same ys → AllByRecursion (λ x. list_any (same x) ys ≡ false) xs → Distinct same (xs ++ ys)
distinct_append same [] ys d e none = e
distinct_append same (x ∷ xs) ys d e none = (list_any-append (same x) xs ys ∙ or_from _ _ d.0 none.0, distinct_append same xs ys d.1 e none.1)

module _ (h : History) (client : ℕ) (symbol : Name) (row : LinkRow) (d : Distinct same_piece (state_of h symbol).consumed) where
  -- pieces that are consumed now were not consumed
  discarded_distinct : (names : List PieceName) → FitsMark h client symbol (changes.Discarded names) → Distinct same_piece (names ++ (state_of h symbol).consumed)
  discarded_distinct names f = distinct_append same_piece names (state_of h symbol).consumed (rising_distinct names f.rising) d
      (all_weaker (λ name. (is_consumed (state_of h symbol) name ≡ false) × (list_any (λ (p : Piece). same_piece name p.name) (state_of h symbol).staged ≡ true)) (λ name. list_any (same_piece name) (state_of h symbol).consumed ≡ false)
      (λ name new. new.0) names (consumes_new h client symbol (changes.Discarded names) f))

  buried_distinct : (st : State) (rest : List Change) → Buries rest → AllByRecursion (FitsChange h client symbol row) rest → st.consumed ≡ (state_of h symbol).consumed → Distinct same_piece (fold after_change st rest).consumed
  buried_distinct st _ (no_tombs no_pieces) fits same = subst (Distinct same_piece) (sym same) d
  buried_distinct st _ (no_tombs (some_pieces names)) fits same = subst (λ c. Distinct same_piece (names ++ c)) (sym same) (discarded_distinct names fits.0.1)
  buried_distinct st _ (some_tombs numbers no_pieces) fits same = subst (Distinct same_piece) (sym same) d
  buried_distinct st _ (some_tombs numbers (some_pieces names)) fits same = subst (λ c. Distinct same_piece (names ++ c)) (sym same) (discarded_distinct names fits.1.0.1)

  pieces_behind : (list : List Change) → IsCommit list → AllByRecursion (FitsChange h client symbol row) list → Distinct same_piece (fold after_change (state_of h symbol) list).consumed
  pieces_behind _ (marking c e) fits = by c e fits.0.1
    where
      by : (c : Change) → is_version c ≡ false → FitsMark h client symbol c → Distinct same_piece (after_change (state_of h symbol) c).consumed
      by (changes.Discarded names) e f = discarded_distinct names f
      by (changes.Held holder version) e f = d
      by (changes.Released holder) e f = d
      by (changes.Removed versions) e f = d
      by changes.Restated e f = d
      by (changes.Wrote frame at) e f = absurd (true≢false e)
      by (changes.Appended frame at) e f = absurd (true≢false e)
      by (changes.Updated frame range at) e f = absurd (true≢false e)
  pieces_behind _ (making c {rest = rest} e buries) fits = by c e
    where
      by : (c : Change) → is_version c ≡ true → Distinct same_piece (fold after_change (after_change (state_of h symbol) c) rest).consumed
      by (changes.Wrote frame at) e = buried_distinct (after_change (state_of h symbol) (changes.Wrote frame at)) rest buries fits.1 refl
      by (changes.Appended frame at) e = buried_distinct (after_change (state_of h symbol) (changes.Appended frame at)) rest buries fits.1 refl
      by (changes.Updated frame range at) e = buried_distinct (after_change (state_of h symbol) (changes.Updated frame range at)) rest buries fits.1 refl
      by (changes.Held holder version) e = absurd (true≢false (sym e))
      by (changes.Released holder) e = absurd (true≢false (sym e))
      by (changes.Removed versions) e = absurd (true≢false (sym e))
      by (changes.Discarded pieces) e = absurd (true≢false (sym e))
      by changes.Restated e = absurd (true≢false (sym e))

-- each piece is consumed at most once
pub pieces_distinct : (h : History) → IsLawful h → (symbol : Name) → Distinct same_piece (state_of h symbol).consumed
pieces_distinct [] lawful symbol = tt
pieces_distinct (events.Refer c s was entry list ∷ h) lawful symbol =
    at_symbol s symbol (λ b. Distinct same_piece (cond b (after_changes (state_of h symbol) list) (state_of h symbol)).consumed)
    (λ same. elim (subst (λ n. MayRefer h c n was entry list) same lawful.0.1).how [
      | inl change ↦ pieces_behind h c symbol change.row (pieces_distinct h lawful.1 symbol) list change.form change.fits
      | inr restate ↦ subst (λ l. Distinct same_piece (fold after_change (state_of h symbol) l).consumed) (sym restate.alone) (pieces_distinct h lawful.1 symbol)
    ])
    (pieces_distinct h lawful.1 symbol)
pieces_distinct (events.Put c key body ∷ h) lawful symbol = pieces_distinct h lawful.1 symbol
pieces_distinct (events.Name c snap body ∷ h) lawful symbol = pieces_distinct h lawful.1 symbol
pieces_distinct (events.Unname c snap ∷ h) lawful symbol = pieces_distinct h lawful.1 symbol
pieces_distinct (events.Drop c key ∷ h) lawful symbol = pieces_distinct h lawful.1 symbol
