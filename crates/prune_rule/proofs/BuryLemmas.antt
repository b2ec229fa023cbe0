-- What is chosen is what the library buries, and it may be buried.
use Rattle.std.proofs.Common.{◌≡◌, ℕ, ◌<◌, Bool, true, false, cond, not, List, [], ◌∷◌, ◌++◌, map, reverse, refl, ap, sym, ◌∙◌, subst, Option, Some, None, Result, Ok, Err, nat_eq, arith}
use Rattle.std.proofs.lemmas.Bool.Decides.{nat_tests}
use Rattle.std.specs.Prelude.{is_some, nat_lt, take, length, suc, ◌-◌, ⊤}
use Rattle.std.specs.List.{AllByRecursion}
use Rattle.std.specs.Ordering.{nat_cmp, match_ordering}
use Rattle.std.specs.declared.cmp.Ordering.TheVariants.{Less, Equal, Greater}
use Rattle.std.specs.BTreeSet.{insert_key}
use Rattle.std.proofs.lemmas.Bool.{eqb-true, ltb-true}
use Rattle.std.proofs.lemmas.List.{reverse-append}
use Rattle.frame_core.specs.declared.refusal.Asked.TheVariants as asks
use Rattle.frame_core.specs.declared.refusal.Refusal.{Refusal}
use Rattle.frame_core.specs.declared.refusal.Refusal.TheVariants as refusals
use Rattle.frame_core.specs.RawFrames.{unless}
use Rattle.key_kind.specs.Names.{Name}
use Rattle.bucket_core.specs.History.{History}
use Rattle.store_model.specs.Law.{IsLawful}
use Rattle.store_model.specs.Library.{State, Version, Piece, state_of, is_live, live_versions}
use Rattle.store_model.specs.Commits.{Rising, IsFilled, FitsRemoved}
use Rattle.store_model.proofs.Numbering.{AreNumbered, live_may_be_buried}
use Rattle.store_model.proofs.StableRefer.{staging}
use Rattle.version_chain.specs.declared.state.SymbolState.{SymbolState}
use Rattle.version_chain.specs.States.{IsStateOf}
use Rattle.reply_model.specs.Answering.{refuse_if, live_numbers}
use Rattle.reply_model.specs.Kinds.{Burial, Listed, Older}
use Rattle.reply_model.specs.CommitAnswers.{first_absent, insert_number, ascending, older_live, to_bury, bury_answer}
use Rattle.frame_read.proofs.ChoosingLemmas.{has_reference_told}
use Rattle.prune_rule.specs.declared.choosing.Wish.{Wish}
use Rattle.prune_rule.specs.declared.choosing.Wish.TheVariants as wishes
use Rattle.prune_rule.specs.Burials.{burial_of, without_last, chosen_in, state_answer}
use Rattle.prune_rule.proofs.StateLemmas.{live_told, absent_told}

-- the answer that buries these
abbrev chose : List ℕ → Result (List ℕ) Refusal
chose numbers = Ok numbers

-- what is staged does not matter
pub bury_staging : (burial : Burial) (more : List Piece) (st : State) → bury_answer burial (staging more st) ≡ bury_answer burial st
bury_staging (Listed None) more st = refl
bury_staging (Listed (Some numbers)) more st = refl
bury_staging Older more st = refl

-- ---- all but the newest

without_last-append : (xs : List ℕ) (n : ℕ) → without_last (xs ++ n ∷ []) ≡ xs
without_last-append [] n = refl
without_last-append (x ∷ []) n = refl
without_last-append (x ∷ y ∷ xs) n = ap (λ l. x ∷ l) (without_last-append (y ∷ xs) n)

-- the first ones, as many as there are but one
pub take_older : (ns : List ℕ) → take (length ns - 1) ns ≡ without_last ns
take_older [] = refl
take_older (n ∷ []) = refl
take_older (n ∷ m ∷ ns) =
    let long : suc (suc (length ns)) - 1 ≡ suc (length ns) = omega arith in
    let short : suc (length ns) - 1 ≡ length ns = omega arith in
    ap (λ k. take k (n ∷ m ∷ ns)) long ∙ ap (λ l. n ∷ l) (ap (λ k. take k (m ∷ ns)) (sym short) ∙ take_older (m ∷ ns))

pub older_are : (st : State) → without_last (live_numbers st) ≡ older_live st
older_are st = by (live_versions st) refl
  where
    by : (vs : List Version) → live_versions st ≡ vs → without_last (live_numbers st) ≡ older_live st
    by [] e = rw (e, older_live) refl
    by (v ∷ vs) e = rw (e, older_live) (ap without_last (reverse-append (v.number ∷ []) (map (λ (w : Version). w.number) vs)) ∙ without_last-append (reverse (map (λ (w : Version). w.number) vs)) v.number)

-- ---- numbers in order

pub insert_as : (ms : List ℕ) (n : ℕ) → insert_key nat_cmp ms n ≡ insert_number n ms
insert_as [] n = refl
insert_as (m ∷ ms) n =
    elim (nat_lt n m) as (λ a. nat_lt n m ≡ a → match_ordering (cond a Less (cond (nat_eq n m) Equal Greater)) (n ∷ m ∷ ms) (m ∷ ms) (m ∷ insert_key nat_cmp ms n) ≡ cond (nat_eq n m) (m ∷ ms) (cond a (n ∷ m ∷ ms) (m ∷ insert_number n ms))) [
      | true ↦ λ less. elim (nat_eq n m) as (λ b. nat_eq n m ≡ b → (n ∷ m ∷ ms) ≡ cond b (m ∷ ms) (n ∷ m ∷ ms)) [
        | true ↦ λ same. absurd (apart less same)
        | false ↦ λ other. refl
      ] refl
      | false ↦ λ more. elim (nat_eq n m) as (λ b. match_ordering (cond b Equal Greater) (n ∷ m ∷ ms) (m ∷ ms) (m ∷ insert_key nat_cmp ms n) ≡ cond b (m ∷ ms) (m ∷ insert_number n ms)) [
        | true ↦ refl
        | false ↦ ap (λ l. m ∷ l) (insert_as ms n)
      ]
    ] refl
  where
    apart : nat_lt n m ≡ true → nat_eq n m ≡ true → ⊥
    apart less same = let a : n < m = ltb-true n m less in let b : n ≡ m = eqb-true n m same in omega (arith, a, b)

-- ---- what is chosen

module _ (h : History) (symbol : Name) (state : SymbolState) (lawful : ∥ IsLawful h ∥₁) (is : IsStateOf h symbol state) where
  chosen_told : (wish : Wish) → chosen_in wish state ≡ to_bury (burial_of wish) (state_of h symbol)
  chosen_told wishes.All = ap Ok (live_told h symbol state lawful is)
  chosen_told (wishes.These asked) = ap (λ o. unless o (λ n. refusals.NoSuchVersion (asks.Number n)) (Ok (ascending asked.now))) (absent_told h symbol state asked.now lawful is)
  chosen_told wishes.ButNewest = ap Ok (ap without_last (live_told h symbol state lawful is) ∙ older_are (state_of h symbol))

  -- a walked state gives the library's answer
  pub answer_told : (wish : Wish) → state_answer wish state ≡ bury_answer (burial_of wish) (state_of h symbol)
  answer_told wish =
      ap (λ (b : Bool). refuse_if (not b) refusals.NoSuchSymbol (chosen_in wish state)) (sym (has_reference_told h symbol ∙ ap is_some (sym is.was)))
      ∙ ap (refuse_if (not (state_of h symbol).has_reference) refusals.NoSuchSymbol) (chosen_told wish)

-- without a reference, and with one
pub unreferred_state : (wish : Wish) (state : SymbolState) → is_some state.was ≡ false → state_answer wish state ≡ Err refusals.NoSuchSymbol
unreferred_state wish state none = ap (λ (b : Bool). refuse_if (not b) refusals.NoSuchSymbol (chosen_in wish state)) none

pub referred_state : (wish : Wish) (state : SymbolState) → is_some state.was ≡ true → state_answer wish state ≡ chosen_in wish state
referred_state wish state some = ap (λ (b : Bool). refuse_if (not b) refusals.NoSuchSymbol (chosen_in wish state)) some

-- ---- what is chosen may be buried

all_live : (st : State) (numbers : List ℕ) → first_absent st numbers ≡ None → AllByRecursion (λ n. is_live st n ≡ true) numbers
all_live st [] e = tt
all_live st (n ∷ ns) e =
    elim (is_live st n) as (λ b. is_live st n ≡ b → cond (not b) (Some n) (first_absent st ns) ≡ None → AllByRecursion (λ n. is_live st n ≡ true) (n ∷ ns)) [
      | true ↦ λ on f. (on, all_live st ns f)
      | false ↦ λ off f. cc
    ] refl e

-- a number in its place among rising ones
insert_all : (P : ℕ → Type 0) (n : ℕ) (ms : List ℕ) → P n → AllByRecursion P ms → AllByRecursion P (insert_number n ms)
insert_all P n [] p all = (p, tt)
insert_all P n (m ∷ ms) p all =
    elim (nat_eq n m) as (λ b. AllByRecursion P (cond b (m ∷ ms) (cond (nat_lt n m) (n ∷ m ∷ ms) (m ∷ insert_number n ms)))) [
      | true ↦ all
      | false ↦ elim (nat_lt n m) as (λ b. AllByRecursion P (cond b (n ∷ m ∷ ms) (m ∷ insert_number n ms))) [
        | true ↦ (p, all)
        | false ↦ (all.0, insert_all P n ms p all.1)
      ]
    ]

-- above a number
abbrev Above : ℕ → List ℕ → Type 0
Above k [] = ⊤
Above k (m ∷ ms) = k < m

rising_below : (k : ℕ) (ms : List ℕ) → Above k ms → Rising ms → Rising (k ∷ ms)
rising_below k [] above r = tt
rising_below k (m ∷ ms) above r = (above, r)

rising_rest : (m : ℕ) (ms : List ℕ) → Rising (m ∷ ms) → Rising ms
rising_rest m [] r = tt
rising_rest m (k ∷ ms) r = r.1

rising_above : (m : ℕ) (ms : List ℕ) → Rising (m ∷ ms) → Above m ms
rising_above m [] r = tt
rising_above m (k ∷ ms) r = r.0

insert_above : (k n : ℕ) (ms : List ℕ) → k < n → Above k ms → Above k (insert_number n ms)
insert_above k n [] less above = less
insert_above k n (m ∷ ms) less above =
    elim (nat_eq n m) as (λ b. Above k (cond b (m ∷ ms) (cond (nat_lt n m) (n ∷ m ∷ ms) (m ∷ insert_number n ms)))) [
      | true ↦ above
      | false ↦ elim (nat_lt n m) as (λ b. Above k (cond b (n ∷ m ∷ ms) (m ∷ insert_number n ms))) [
        | true ↦ less
        | false ↦ above
      ]
    ]

insert_rising : (n : ℕ) (ms : List ℕ) → Rising ms → Rising (insert_number n ms)
insert_rising n [] r = tt
insert_rising n (m ∷ ms) r =
    elim (nat_eq n m) as (λ b. nat_eq n m ≡ b → Rising (cond b (m ∷ ms) (cond (nat_lt n m) (n ∷ m ∷ ms) (m ∷ insert_number n ms)))) [
      | true ↦ λ e. r
      | false ↦ λ apart. elim (nat_lt n m) as (λ b. nat_lt n m ≡ b → Rising (cond b (n ∷ m ∷ ms) (m ∷ insert_number n ms))) [
        | true ↦ λ less. (ltb-true n m less, r)
        | false ↦ λ more. rising_below m (insert_number n ms) (insert_above m n ms (beyond apart more) (rising_above m ms r)) (insert_rising n ms (rising_rest m ms r))
      ] refl
    ] refl
  where
    beyond : nat_eq n m ≡ false → nat_lt n m ≡ false → m < n
    beyond apart more = grind (arith, nat_tests)

ascending_rising : (ns : List ℕ) → Rising (ascending ns)
ascending_rising [] = tt
ascending_rising (n ∷ ns) = insert_rising n (ascending ns) (ascending_rising ns)

ascending_all : (P : ℕ → Type 0) (ns : List ℕ) → AllByRecursion P ns → AllByRecursion P (ascending ns)
ascending_all P [] all = tt
ascending_all P (n ∷ ns) all = insert_all P n (ascending ns) all.0 (ascending_all P ns all.1)

without_last_rising : (ns : List ℕ) → Rising ns → Rising (without_last ns)
without_last_rising [] r = tt
without_last_rising (n ∷ []) r = tt
without_last_rising (n ∷ m ∷ []) r = tt
without_last_rising (n ∷ m ∷ k ∷ ns) r = (r.0, without_last_rising (m ∷ k ∷ ns) r.1)

without_last_all : (P : ℕ → Type 0) (ns : List ℕ) → AllByRecursion P ns → AllByRecursion P (without_last ns)
without_last_all P [] all = tt
without_last_all P (n ∷ []) all = tt
without_last_all P (n ∷ m ∷ ns) all = (all.0, without_last_all P (m ∷ ns) all.1)

live_filled : (st : State) → IsFilled (live_numbers st) → IsFilled (live_versions st)
live_filled st = elim (live_versions st) as (λ vs. IsFilled (reverse (map (λ (v : Version). v.number) vs)) → IsFilled vs) [ [] ↦ λ f. absurd f | v ∷ vs ↦ λ f. tt ]

was_filled : (ns : List ℕ) → IsFilled (without_last ns) → IsFilled ns
was_filled [] f = f
was_filled (n ∷ ns) f = tt

module _ (st : State) (numbered : AreNumbered st.versions) where
  live_fits : IsFilled (live_numbers st) → FitsRemoved st (live_numbers st)
  live_fits f = live_may_be_buried st numbered (live_filled st f)

  -- what is to bury fits
  to_bury_fits : (burial : Burial) (numbers : List ℕ) → to_bury burial st ≡ Ok numbers → IsFilled numbers → FitsRemoved st numbers
  to_bury_fits (Listed None) numbers e f = subst (FitsRemoved st) (same (live_numbers st) numbers e) (live_fits (subst IsFilled (sym (same (live_numbers st) numbers e)) f))
    where
      same : (a b : List ℕ) → chose a ≡ chose b → a ≡ b
      same a b e = cc
  to_bury_fits Older numbers e f =
      let is : without_last (live_numbers st) ≡ numbers = older_are st ∙ same (older_live st) numbers e in
      let g : IsFilled (without_last (live_numbers st)) = subst IsFilled (sym is) f in
      let all = live_fits (was_filled (live_numbers st) g) in
      subst (FitsRemoved st) is (record { some = g; rising = without_last_rising (live_numbers st) all.rising; live = without_last_all (λ n. is_live st n ≡ true) (live_numbers st) all.live })
    where
      same : (a b : List ℕ) → chose a ≡ chose b → a ≡ b
      same a b e = cc
  to_bury_fits (Listed (Some asked)) numbers e f = by (first_absent st asked) refl e
    where
      by : (o : Option ℕ) → first_absent st asked ≡ o → unless o (λ n. refusals.NoSuchVersion (asks.Number n)) (Ok (ascending asked)) ≡ Ok numbers → FitsRemoved st numbers
      by None none g = subst (FitsRemoved st) (same (ascending asked) numbers g) (record {
        some = subst IsFilled (sym (same (ascending asked) numbers g)) f;
        rising = ascending_rising asked;
        live = ascending_all (λ n. is_live st n ≡ true) asked (all_live st asked none);
      })
        where
          same : (a b : List ℕ) → chose a ≡ chose b → a ≡ b
          same a b e = cc
      by (Some n) some g = cc

  pub bury_fits : (burial : Burial) (numbers : List ℕ) → bury_answer burial st ≡ Ok numbers → IsFilled numbers → FitsRemoved st numbers
  bury_fits burial numbers e f = to_bury_fits burial numbers (by st.has_reference e) f
    where
      by : (b : Bool) → refuse_if (not b) refusals.NoSuchSymbol (to_bury burial st) ≡ Ok numbers → to_bury burial st ≡ Ok numbers
      by true g = g
      by false g = cc
