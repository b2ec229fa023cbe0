-- What the changes of a Refer leave of a symbol's state: no old version is needed that was not needed before, and no piece is opened.
use Rattle.std.proofs.Common.{◌≡◌, ℕ, ◌<◌, ◌≤◌, Bool, true, false, ◌||◌, ◌&&◌, List, [], ◌∷◌, ◌++◌, ap, sym, ◌∙◌, subst, inl, inr, not, nat_eq, arith, Option}
use Rattle.std.specs.Prelude.{Contains, fold, filter}
use Rattle.std.specs.List.{list_any, AllByRecursion}
use Rattle.std.proofs.lemmas.Bool.{and_parts, and_from, or_cases, or_parts, or_left, or_right, eqb-true, ne_eqb, not-true}
use Rattle.std.proofs.lemmas.List.Folds.{list_any-append}
use Rattle.store_model.proofs.Lists.{one_passes, passes, filter_in, in_filter, contains_none, contains_cases}
use Rattle.key_kind.specs.declared.key.Key.{Key}
use Rattle.key_kind.specs.Names.{Name}
use Rattle.key_kind.specs.Keys.{same_holder}
use Rattle.bucket_core.specs.declared.event.Change.{Change}
use Rattle.bucket_core.specs.declared.event.Change.TheVariants as changes
use Rattle.bucket_core.specs.History.{History}
use Rattle.store_model.specs.declared.chain.LinkRow.{LinkRow}
use Rattle.store_model.specs.Library.{State, Hold, Piece, state_of, is_buried, is_linked, is_live, is_held, is_kept, next_number, after_change, is_consumed, open_pieces}
use Rattle.store_model.specs.Commits.{FitsChange, FitsMark, MayRefer}

-- each old version that is kept after was kept before
pub record KeepsNoMore (before after : State) : Type 0 where
  pub later : next_number before ≤ next_number after
  pub kept : (n : ℕ) → n < next_number before → is_kept after n ≡ true → is_kept before n ≡ true

keeps_no_more_self : (st : State) → KeepsNoMore st st
keeps_no_more_self st = record { later = omega arith; kept = λ n b h. h }

-- a version that is made anew is no old one
fresh_number : (n next : ℕ) → n < next → nat_eq n next ≡ false
fresh_number n next h = ne_eqb n next (λ e. omega (arith, e))

-- the state with one version more
kept_after_version : (st0 st : State) (n : ℕ) (rest : Bool) → KeepsNoMore st0 st → n < next_number st0
    → (((nat_eq n (next_number st) || is_linked st n) && not (is_buried st n)) || is_held st n) ≡ true → is_kept st0 n ≡ true
kept_after_version st0 st n rest k below h =
    let no : nat_eq n (next_number st) ≡ false = fresh_number n (next_number st) (omega (arith, k.later)) in
    k.kept n below (subst (λ b. (((b || is_linked st n) && not (is_buried st n)) || is_held st n) ≡ true) no h)

change_keeps : (h : History) (client : ℕ) (symbol : Name) (st : State) (c : Change) → FitsMark h client symbol c → KeepsNoMore (state_of h symbol) st → KeepsNoMore (state_of h symbol) (after_change st c)
change_keeps h client symbol st (changes.Wrote frame at) fits k = record { later = omega (arith, k.later); kept = λ n b e. kept_after_version (state_of h symbol) st n true k b e }
change_keeps h client symbol st (changes.Appended frame at) fits k = record { later = omega (arith, k.later); kept = λ n b e. kept_after_version (state_of h symbol) st n true k b e }
change_keeps h client symbol st (changes.Updated frame range at) fits k = record { later = omega (arith, k.later); kept = λ n b e. kept_after_version (state_of h symbol) st n true k b e }
change_keeps h client symbol st (changes.Removed versions) fits k = record {
  later = k.later;
  kept = λ n b e. k.kept n b (elim (or_cases (is_linked st n && not (list_any (nat_eq n) (versions ++ st.buried))) (is_held st n) e) [
    | inl live ↦
        let r = and_parts (is_linked st n) (not (list_any (nat_eq n) (versions ++ st.buried))) live in
        let none : (list_any (nat_eq n) versions || list_any (nat_eq n) st.buried) ≡ false = sym (list_any-append (nat_eq n) versions st.buried) ∙ not-true _ r.1 in
        or_left _ _ (and_from _ _ r.0 (ap not (or_parts _ _ none).1))
    | inr held ↦ or_right _ _ held
  ]);
}
change_keeps h client symbol st (changes.Held holder version) fits k = record {
  later = k.later;
  kept = λ n b e. elim (or_cases (is_live st n) (nat_eq n version || is_held st n) e) [
    | inl live ↦ k.kept n b (or_left _ _ live)
    | inr held ↦ elim (or_cases (nat_eq n version) (is_held st n) held) [
      | inl this ↦ or_left _ _ (subst (λ m. is_live (state_of h symbol) m ≡ true) (sym (eqb-true n version this)) fits.live)
      | inr other ↦ k.kept n b (or_right _ _ other)
    ]
  ];
}
change_keeps h client symbol st (changes.Released holder) fits k = record {
  later = k.later;
  kept = λ n b e. k.kept n b (elim (or_cases (is_live st n) (list_any (λ w. nat_eq n w.version) (filter (λ (w : Hold). not (same_holder holder w.holder)) st.holds)) e) [
    | inl live ↦ or_left _ _ live
    | inr held ↦
        let r = one_passes (λ (w : Hold). nat_eq n w.version) (filter (λ (w : Hold). not (same_holder holder w.holder)) st.holds) held in
        or_right _ _ (passes (λ (w : Hold). nat_eq n w.version) st.holds r.0 (filter_in (λ (w : Hold). not (same_holder holder w.holder)) st.holds r.0 r.1).0 r.2)
  ]);
}
change_keeps h client symbol st (changes.Discarded pieces) fits k = record { later = k.later; kept = k.kept }
change_keeps h client symbol st changes.Restated fits k = absurd fits

changes_keep : (h : History) (client : ℕ) (symbol : Name) (row : LinkRow) (list : List Change) (st : State) → AllByRecursion (FitsChange h client symbol row) list
    → KeepsNoMore (state_of h symbol) st → KeepsNoMore (state_of h symbol) (fold after_change st list)
changes_keep h client symbol row [] st fits k = k
changes_keep h client symbol row (c ∷ list) st fits k =
    changes_keep h client symbol row list (after_change st c) fits.1 (change_keeps h client symbol st c fits.0.1 k)

-- after a Refer's changes each old version that is kept was kept before
pub refer_keeps_no_more : (h : History) (client : ℕ) (symbol : Name) (was : Option Key) (entry : Key) (list : List Change) → MayRefer h client symbol was entry list
    → KeepsNoMore (state_of h symbol) (fold after_change (state_of h symbol) list)
refer_keeps_no_more h client symbol was entry list may = elim may.how [
  | inl change ↦ changes_keep h client symbol change.row list (state_of h symbol) change.fits (keeps_no_more_self (state_of h symbol))
  | inr restate ↦ subst (λ l. KeepsNoMore (state_of h symbol) (fold after_change (state_of h symbol) l)) (sym restate.alone)
      (record { later = omega arith; kept = λ n b e. e })
]

-- ---- pieces

-- a piece that is open after was open before
consumed_stays : (st : State) (c : Change) (p : Piece) → is_consumed (after_change st c) p.name ≡ false → is_consumed st p.name ≡ false
consumed_stays st (changes.Wrote frame at) p e = e
consumed_stays st (changes.Appended frame at) p e = e
consumed_stays st (changes.Updated frame range at) p e = e
consumed_stays st (changes.Removed versions) p e = e
consumed_stays st (changes.Held holder version) p e = e
consumed_stays st (changes.Released holder) p e = e
consumed_stays st changes.Restated p e = e
consumed_stays st (changes.Discarded pieces) p e = (or_parts _ _ (sym (list_any-append _ pieces st.consumed) ∙ e)).1

open_before : (list : List Change) (st : State) (p : Piece) → Contains (open_pieces (fold after_change st list)) p → Contains (open_pieces st) p
open_before [] st p c = c
open_before (x ∷ list) st p c =
    let d : Contains (open_pieces (after_change st x)) p = open_before list (after_change st x) p c in
    let r = filter_in (λ p. not (is_consumed (after_change st x) p.name)) st.staged p d in
    in_filter (λ p. not (is_consumed st p.name)) st.staged p r.0 (ap not (consumed_stays st x p (not-true _ r.1)))

pub refer_opens_none : (st : State) (list : List Change) (p : Piece) → Contains (open_pieces (fold after_change st list)) p → Contains (open_pieces st) p
refer_opens_none st list p c = open_before list st p c

-- ---- what is buried was made

linked_stays_linked : (st : State) (c : Change) (n : ℕ) → is_linked st n ≡ true → is_linked (after_change st c) n ≡ true
linked_stays_linked st (changes.Wrote frame at) n e = or_right _ _ e
linked_stays_linked st (changes.Appended frame at) n e = or_right _ _ e
linked_stays_linked st (changes.Updated frame range at) n e = or_right _ _ e
linked_stays_linked st (changes.Removed versions) n e = e
linked_stays_linked st (changes.Held holder version) n e = e
linked_stays_linked st (changes.Released holder) n e = e
linked_stays_linked st (changes.Discarded pieces) n e = e
linked_stays_linked st changes.Restated n e = e

-- a change buries only what was made before its Refer
buries_made : (h : History) (client : ℕ) (symbol : Name) (st : State) (c : Change) (n : ℕ) → FitsMark h client symbol c → ((m : ℕ) → is_linked (state_of h symbol) m ≡ true → is_linked st m ≡ true)
    → (is_buried st n ≡ true → is_linked st n ≡ true) → is_buried (after_change st c) n ≡ true → is_linked (after_change st c) n ≡ true
buries_made h client symbol st (changes.Wrote frame at) n fits made old e = or_right _ _ (old e)
buries_made h client symbol st (changes.Appended frame at) n fits made old e = or_right _ _ (old e)
buries_made h client symbol st (changes.Updated frame range at) n fits made old e = or_right _ _ (old e)
buries_made h client symbol st (changes.Removed versions) n fits made old e =
    elim (or_cases (list_any (nat_eq n) versions) (list_any (nat_eq n) st.buried) (sym (list_any-append (nat_eq n) versions st.buried) ∙ e)) [
      | inl this ↦
          let r = one_passes (nat_eq n) versions this in
          let live : is_live (state_of h symbol) r.0 ≡ true = all_in versions r.0 fits.live r.1 in
          made n (subst (λ m. is_linked (state_of h symbol) m ≡ true) (sym (eqb-true n r.0 r.2)) (and_parts (is_linked (state_of h symbol) r.0) _ live).0)
      | inr older ↦ old older
    ]
  where
    all_in : (ms : List ℕ) (m : ℕ) → AllByRecursion (λ k. is_live (state_of h symbol) k ≡ true) ms → Contains ms m → is_live (state_of h symbol) m ≡ true
    all_in [] m all c = absurd (contains_none m c)
    all_in (k ∷ ms) m all c = elim (contains_cases m k ms c) [
      | inl same ↦ subst (λ x. is_live (state_of h symbol) x ≡ true) same all.0
      | inr d ↦ all_in ms m all.1 d
    ]
buries_made h client symbol st (changes.Held holder version) n fits made old e = old e
buries_made h client symbol st (changes.Released holder) n fits made old e = old e
buries_made h client symbol st (changes.Discarded pieces) n fits made old e = old e
buries_made h client symbol st changes.Restated n fits made old e = absurd fits

all_bury_made : (h : History) (client : ℕ) (symbol : Name) (row : LinkRow) (list : List Change) (st : State) → AllByRecursion (FitsChange h client symbol row) list
    → ((m : ℕ) → is_linked (state_of h symbol) m ≡ true → is_linked st m ≡ true) → ((n : ℕ) → is_buried st n ≡ true → is_linked st n ≡ true)
    → (n : ℕ) → is_buried (fold after_change st list) n ≡ true → is_linked (fold after_change st list) n ≡ true
all_bury_made h client symbol row [] st fits made old n e = old n e
all_bury_made h client symbol row (c ∷ list) st fits made old n e =
    all_bury_made h client symbol row list (after_change st c) fits.1 (λ m f. linked_stays_linked st c m (made m f)) (λ m f. buries_made h client symbol st c m fits.0.1 made (old m) f) n e

-- after a Refer what is buried was made
pub refer_buries_made : (h : History) (client : ℕ) (symbol : Name) (was : Option Key) (entry : Key) (list : List Change) → MayRefer h client symbol was entry list
    → ((n : ℕ) → is_buried (state_of h symbol) n ≡ true → is_linked (state_of h symbol) n ≡ true)
    → (n : ℕ) → is_buried (fold after_change (state_of h symbol) list) n ≡ true → is_linked (fold after_change (state_of h symbol) list) n ≡ true
refer_buries_made h client symbol was entry list may old n = elim may.how [
  | inl change ↦ all_bury_made h client symbol change.row list (state_of h symbol) change.fits (λ m e. e) old n
  | inr restate ↦ subst (λ l. is_buried (fold after_change (state_of h symbol) l) n ≡ true → is_linked (fold after_change (state_of h symbol) l) n ≡ true) (sym restate.alone) (old n)
]
