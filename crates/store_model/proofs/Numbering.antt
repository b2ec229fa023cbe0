-- The numbers of a symbol's versions rise, and so do those of its live ones.
use Rattle.std.proofs.Common.{◌≡◌, ℕ, suc, ◌<◌, Bool, true, false, not, List, [], ◌∷◌, ◌++◌, refl, sym, subst, cond, nat_eq, arith}
use Rattle.std.specs.Prelude.{⊤, Contains, filter, fold, map, reverse}
use Rattle.std.specs.List.{AllByRecursion}
use Rattle.std.proofs.lemmas.Bool.{and_from, eq-eqb}
use Rattle.std.proofs.lemmas.List.{reverse-append}
use Rattle.key_kind.specs.Names.{Name, same_name}
use Rattle.bucket_core.specs.declared.event.Change.{Change}
use Rattle.bucket_core.specs.declared.event.Change.TheVariants as changes
use Rattle.bucket_core.specs.declared.event.Event.TheVariants as events
use Rattle.bucket_core.specs.History.{History}
use Rattle.store_model.specs.Library.{State, Version, state_of, number_after, after_change, is_buried, is_live, live_versions}
use Rattle.store_model.specs.Commits.{Rising, IsFilled, FitsRemoved}
use Rattle.store_model.proofs.Lists.{contains_first, contains_later, filter_in, passes, all_weaker}

-- each version has the number behind the one before it
abbrev pub AreNumbered : List Version → Type 0
AreNumbered [] = ⊤
AreNumbered (v ∷ older) = (v.number ≡ number_after older) × AreNumbered older

change_numbers : (st : State) (c : Change) → AreNumbered st.versions → AreNumbered (after_change st c).versions
change_numbers st (changes.Wrote frame at) n = (refl, n)
change_numbers st (changes.Appended frame at) n = (refl, n)
change_numbers st (changes.Updated frame range at) n = (refl, n)
change_numbers st (changes.Removed versions) n = n
change_numbers st (changes.Held holder version) n = n
change_numbers st (changes.Released holder) n = n
change_numbers st (changes.Discarded pieces) n = n
change_numbers st changes.Restated n = n

changes_number : (st : State) (list : List Change) → AreNumbered st.versions → AreNumbered (fold after_change st list).versions
changes_number st [] n = n
changes_number st (c ∷ list) n = changes_number (after_change st c) list (change_numbers st c n)

pub versions_numbered : (h : History) (symbol : Name) → AreNumbered (state_of h symbol).versions
versions_numbered [] symbol = tt
versions_numbered (events.Put c key body ∷ h) symbol = versions_numbered h symbol
versions_numbered (events.Refer c s was entry list ∷ h) symbol =
    elim (same_name s symbol) as (λ t. AreNumbered (cond t (record (fold after_change (state_of h symbol) list) { has_reference = true }) (state_of h symbol)).versions) [
      | true ↦ changes_number (state_of h symbol) list (versions_numbered h symbol)
      | false ↦ versions_numbered h symbol
    ]
versions_numbered (events.Name c snap body ∷ h) symbol = versions_numbered h symbol
versions_numbered (events.Unname c snap ∷ h) symbol = versions_numbered h symbol
versions_numbered (events.Drop c key ∷ h) symbol = versions_numbered h symbol

-- ---- those that pass a test, the oldest first

abbrev numbers_where : (Version → Bool) → List Version → List ℕ
numbers_where test vs = reverse (map (λ (v : Version). v.number) (filter test vs))

rising_last : (ns : List ℕ) (n : ℕ) → Rising ns → AllByRecursion (λ m. m < n) ns → Rising (ns ++ n ∷ [])
rising_last [] n r below = tt
rising_last (m ∷ []) n r below = (below.0, tt)
rising_last (m ∷ k ∷ ns) n r below = (r.0, rising_last (k ∷ ns) n r.1 below.1)

all_last : {X : Type 0} (P : X → Type 0) (xs : List X) (x : X) → AllByRecursion P xs → P x → AllByRecursion P (xs ++ x ∷ [])
all_last P [] x all p = (p, tt)
all_last P (y ∷ xs) x all p = (all.0, all_last P xs x all.1 p)

reversed : (n : ℕ) (ns : List ℕ) → reverse (n ∷ ns) ≡ reverse ns ++ n ∷ []
reversed n ns = reverse-append (n ∷ []) ns

numbers_rise : (test : Version → Bool) (vs : List Version) → AreNumbered vs → Rising (numbers_where test vs) × AllByRecursion (λ m. m < number_after vs) (numbers_where test vs)
numbers_rise test [] n = (tt, tt)
numbers_rise test (v ∷ older) n =
    let before = numbers_rise test older n.1 in
    let here : number_after older ≡ v.number = sym n.0 in
    let below : AllByRecursion (λ m. m < v.number) (numbers_where test older) = subst (λ k. AllByRecursion (λ m. m < k) (numbers_where test older)) here before.1 in
    let later : AllByRecursion (λ m. m < suc v.number) (numbers_where test older) = all_weaker (λ m. m < v.number) (λ m. m < suc v.number) (λ m b. omega (arith, b)) (numbers_where test older) below in
    elim (test v) as (λ t. Rising (reverse (map (λ (v : Version). v.number) (cond t (v ∷ filter test older) (filter test older))))
    × AllByRecursion (λ m. m < suc v.number) (reverse (map (λ (v : Version). v.number) (cond t (v ∷ filter test older) (filter test older))))) [
      | true ↦ subst (λ ns. Rising ns × AllByRecursion (λ m. m < suc v.number) ns) (sym (reversed v.number (map (λ (v : Version). v.number) (filter test older))))
          (rising_last (numbers_where test older) v.number before.0 below, all_last (λ m. m < suc v.number) (numbers_where test older) v.number later (omega arith))
      | false ↦ (before.0, later)
    ]

-- what holds of each passing version's number holds of them all
all_numbers : (P : ℕ → Type 0) (vs : List Version) → ((v : Version) → Contains vs v → P v.number) → AllByRecursion P (reverse (map (λ (v : Version). v.number) vs))
all_numbers P [] each = tt
all_numbers P (v ∷ vs) each = subst (AllByRecursion P) (sym (reversed v.number (map (λ (v : Version). v.number) vs)))
    (all_last P (reverse (map (λ (v : Version). v.number) vs)) v.number (all_numbers P vs (λ w c. each w (contains_later w v vs c))) (each v (contains_first v vs)))

filled_reversed : (n : ℕ) (ns : List ℕ) → IsFilled (reverse (n ∷ ns))
filled_reversed n ns = subst IsFilled (sym (reversed n ns)) (filled_last (reverse ns))
  where
    filled_last : (ms : List ℕ) → IsFilled (ms ++ n ∷ [])
    filled_last [] = tt
    filled_last (m ∷ ms) = tt

-- all live versions may be buried at once, where there are any
pub live_may_be_buried : (st : State) → AreNumbered st.versions → IsFilled (live_versions st) → FitsRemoved st (reverse (map (λ (v : Version). v.number) (live_versions st)))
live_may_be_buried st numbered some = record {
  some = filled (live_versions st) some;
  rising = (numbers_rise (λ v. not (is_buried st v.number)) st.versions numbered).0;
  live = all_numbers (λ n. is_live st n ≡ true) (live_versions st) (λ v c.
      let r = filter_in (λ v. not (is_buried st v.number)) st.versions v c in
      and_from _ _ (passes (λ (w : Version). nat_eq v.number w.number) st.versions v r.0 (eq-eqb v.number v.number refl)) r.1);
}
  where
    filled : (vs : List Version) → IsFilled vs → IsFilled (reverse (map (λ (v : Version). v.number) vs))
    filled [] f = f
    filled (v ∷ vs) f = filled_reversed v.number (map (λ (v : Version). v.number) vs)
