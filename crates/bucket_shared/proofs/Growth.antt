-- How what a seat has seen grows, as buckets tell it.
use Rattle.std.proofs.Common.{◌≡◌, ℕ, suc, true, false, cond, nat_eq, List, [], ◌∷◌, ◌++◌, length, reverse, refl, sym, ap, ◌∙◌, subst, arith, length-append, eqb-true, append-nil}
use Rattle.std.specs.Prelude.{◌==◌}
use mathlib.Core.List.{IsPrefix}
use Rattle.std.proofs.lemmas.Bool.{true≢false, eq-eqb}
use Rattle.std.proofs.lemmas.List.{reverse-append}
use Rattle.std.proofs.lemmas.List.Elements.{filter-append}
use Rattle.turn_cell.specs.declared.view.View.{View}
use Rattle.turn_cell.specs.Entries.{entries_by}
use Rattle.turn_cell.specs.Finds.{Finds}
use Rattle.bucket_core.specs.declared.event.Event.{Event}
use Rattle.bucket_core.specs.declared.event.Event.TheVariants as events
use Rattle.bucket_core.specs.History.{History, author, puts_by, AllByOthers}
use Rattle.bucket_core.specs.Laws.{IsLawful, Looks}
use Rattle.store_model.specs.Law.{IsClaimed}
use Rattle.bucket_shared.specs.Sole.{is_sole}
use Rattle.bucket_shared.specs.Stories.{event_row}
use Rattle.bucket_shared.proofs.SoleSeats.{IsSole-found}

-- ---- lists

nothing_more : {A : Type 0} (xs ys : List A) → xs ++ ys ≡ xs → ys ≡ []
nothing_more xs [] e = refl
nothing_more xs (z ∷ zs) e = absurd (omega (arith, length-append xs (z ∷ zs), ap length e))

no_list : {A : Type 0} (x : A) (xs : List A) → x ∷ xs ≡ [] → ⊥
no_list x xs e = absurd (omega (arith, ap length e))

-- ---- events of others

pub others_append : (n : ℕ) (xs ys : History) → AllByOthers n xs → AllByOthers n ys → AllByOthers n (xs ++ ys)
others_append n [] ys a b = b
others_append n (x ∷ xs) ys a b = (a.0, others_append n xs ys a.1 b)

pub others_reverse : (n : ℕ) (xs : History) → AllByOthers n xs → AllByOthers n (reverse xs)
others_reverse n [] a = tt
others_reverse n (x ∷ xs) a = subst (AllByOthers n) (sym (reverse-append (x ∷ []) xs)) (others_append n (reverse xs) (x ∷ []) (others_reverse n xs a.1) (a.0, tt))

none_by : (n : ℕ) (es : History) → entries_by author n es ≡ [] → AllByOthers n es
none_by n [] h = tt
none_by n (e ∷ es) h =
    elim (author e == n) as (λ b. (author e == n) ≡ b → cond b (e ∷ entries_by author n es) (entries_by author n es) ≡ [] → AllByOthers n (e ∷ es)) [
      | true ↦ λ is x. absurd (no_list e (entries_by author n es) x)
      | false ↦ λ is x. ((λ (same : author e ≡ n). true≢false (sym (eq-eqb (author e) n same) ∙ is)), none_by n es x)
    ] refl h

-- where a client has no new entries, the added events are of others
pub others_behind : (n : ℕ) (xs ys : List Event) (p : IsPrefix xs ys) → entries_by author n ys ≡ entries_by author n xs → AllByOthers n p.0
others_behind n xs ys p same =
    let more : entries_by author n xs ++ entries_by author n p.0 ≡ entries_by author n xs = sym (filter-append (λ e. author e == n) xs p.0) ∙ (ap (entries_by author n) p.1 ∙ same) in
    none_by n p.0 (nothing_more (entries_by author n xs) (entries_by author n p.0) more)

pub others_added : (n : ℕ) (xs ys : List Event) (p : IsPrefix xs ys) → entries_by author n ys ≡ entries_by author n xs → AllByOthers n (reverse p.0)
others_added n xs ys p same = others_reverse n p.0 (others_behind n xs ys p same)

-- events of others are no Puts of this client
pub puts_by-others : (n : ℕ) (more h : History) → AllByOthers n more → puts_by n (more ++ h) ≡ puts_by n h
puts_by-others n [] h a = refl
puts_by-others n (events.Put c key body ∷ more) h a =
    elim (nat_eq c n) as (λ b. nat_eq c n ≡ b → cond b (suc (puts_by n (more ++ h))) (puts_by n (more ++ h)) ≡ puts_by n h) [
      | true ↦ λ is. absurd (a.0 (eqb-true c n is))
      | false ↦ λ is. puts_by-others n more h a.1
    ] refl
puts_by-others n (events.Refer c s was entry list ∷ more) h a = puts_by-others n more h a.1
puts_by-others n (events.Name c snap body ∷ more) h a = puts_by-others n more h a.1
puts_by-others n (events.Unname c snap ∷ more) h a = puts_by-others n more h a.1
puts_by-others n (events.Drop c key ∷ more) h a = puts_by-others n more h a.1

-- ---- what is seen

-- a longer list, the newest event first
pub later_is : (xs ys : List Event) (p : IsPrefix xs ys) → reverse ys ≡ reverse p.0 ++ reverse xs
later_is xs ys p = ap reverse (sym p.1) ∙ reverse-append xs p.0

-- what a seat learns with the turn, as a bucket's look
pub Looks-finds : (v w : View Event) → Finds author event_row v w → entries_by author v.badge.number w.seen ≡ entries_by author v.badge.number v.seen → IsLawful IsClaimed (reverse w.seen) → Looks IsClaimed v.badge.number (is_sole v.badge) (reverse v.seen) (reverse w.seen)
Looks-finds v w finds own lawful = record {
  others = reverse finds.later.0;
  is = later_is v.seen w.seen finds.later;
  by_others = others_added v.badge.number v.seen w.seen finds.later own;
  alone = λ sole. ap reverse (nothing_more v.seen finds.later.0 (finds.later.1 ∙ finds.sole_seen (IsSole-found v.badge sole)));
  lawful = λ _. lawful;
}

-- the client's Puts stay as many
pub puts_by-later : (n : ℕ) (xs ys : List Event) (p : IsPrefix xs ys) → entries_by author n ys ≡ entries_by author n xs → puts_by n (reverse ys) ≡ puts_by n (reverse xs)
puts_by-later n xs ys p same = ap (puts_by n) (later_is xs ys p) ∙ puts_by-others n (reverse p.0) (reverse xs) (others_added n xs ys p same)

-- nothing is by a number that has no entries
pub nothing_by : (n : ℕ) (xs : List Event) → entries_by author n xs ≡ [] → AllByOthers n (reverse xs)
nothing_by n xs none = others_reverse n xs (none_by n xs none)

-- and so it has made no Puts
pub puts_by-none : (n : ℕ) (h : History) → AllByOthers n h → puts_by n h ≡ 0
puts_by-none n h none = ap (puts_by n) (sym (append-nil h)) ∙ puts_by-others n h [] none

-- what a list adds to an earlier one, as a bucket's look
pub Looks-later : (n : ℕ) (xs ys : List Event) → IsPrefix xs ys → entries_by author n ys ≡ entries_by author n xs → IsLawful IsClaimed (reverse ys) → Looks IsClaimed n false (reverse xs) (reverse ys)
Looks-later n xs ys p own lawful = record {
  others = reverse p.0;
  is = later_is xs ys p;
  by_others = others_added n xs ys p own;
  alone = λ never. absurd (true≢false (sym never));
  lawful = λ _. lawful;
}
