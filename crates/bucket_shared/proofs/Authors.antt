-- Who made the events that a seat has seen, as its calls keep it.
use Rattle.std.proofs.Common.{◌≡◌, ◌≢◌, ℕ, ◌<◌, ◌≤◌, true, false, ◌⊎◌, List, [], ◌∷◌, ◌++◌, length, drop, refl, sym, ap, ◌∙◌, subst, inl, inr, arith, length-append, eqb-true}
use Rattle.std.specs.List.{list_all}
use Rattle.std.specs.Prelude.{All, ◌&&◌, ◌||◌, ◌==◌}
use mathlib.Core.List.{IsPrefix}
use Rattle.std.proofs.lemmas.Bool.{and_parts, true≢false}
use Rattle.std.proofs.lemmas.List.{drop-append-le}
use Rattle.std.proofs.Math.Seq.{drop-append_seam}
use Rattle.std.proofs.lemmas.List.Elements.{All-append, All-cons}
use Rattle.turn_cell.specs.declared.badge.Badge.{Badge}
use Rattle.turn_cell.specs.declared.badge.Joined.{Joined}
use Rattle.turn_cell.specs.declared.view.View.{View}
use Rattle.turn_cell.specs.Badges.{Among, Has, joined_at, badge_after_split, new_badge, joined_badge}
use Rattle.turn_cell.specs.Entries.{entries_by}
use Rattle.turn_cell.specs.Finds.{Finds}
use Rattle.turn_cell.proofs.Membership.{among_either}
use Rattle.turn_cell.proofs.Prefixes.{prefix_length}
use Rattle.bucket_core.specs.declared.event.Event.{Event}
use Rattle.bucket_core.specs.History.{author, AllByOthers}
use Rattle.bucket_shared.specs.Authors.{HasEnded, AreEnded, AreHad}
use Rattle.bucket_shared.specs.Sole.{has_number, is_sole}
use Rattle.bucket_shared.specs.Stories.{event_row}
use Rattle.bucket_shared.proofs.Growth.{others_append, others_behind}
use Rattle.bucket_shared.proofs.SoleSeats.{either, and_true, IsSole-found}

-- ---- ended clients

-- where a client has no new entries, it makes none after the place either
HasEnded-later : (n l : ℕ) (xs ys : List Event) → IsPrefix xs ys → entries_by author n ys ≡ entries_by author n xs → HasEnded n l xs → HasEnded n l ys
HasEnded-later n l xs ys p same h =
    let le : length xs ≤ length ys = prefix_length xs ys p in
    record {
      within = omega (arith, h.within, le);
      none_after = subst (λ (log : List Event). AllByOthers n (drop l log)) p.1
          (subst (λ (log : List Event). AllByOthers n log) (sym (drop-append-le l xs p.0 h.within)) (others_append n (drop l xs) p.0 h.none_after (others_behind n xs ys p same)));
    }

-- nor after all that was seen
HasEnded-seen : (n : ℕ) (xs ys : List Event) → IsPrefix xs ys → entries_by author n ys ≡ entries_by author n xs → HasEnded n (length xs) ys
HasEnded-seen n xs ys p same = record {
  within = prefix_length xs ys p;
  none_after = subst (λ (log : List Event). AllByOthers n (drop (length xs) log)) p.1 (subst (λ (log : List Event). AllByOthers n log) (sym (drop-append_seam xs p.0)) (others_behind n xs ys p same));
}

-- where no entry of a number that the seat has came in
pub AreEnded-later : (b : Badge) (xs ys : List Event) → IsPrefix xs ys → ((n : ℕ) → Has b n → entries_by author n ys ≡ entries_by author n xs) → AreEnded b xs → AreEnded b ys
AreEnded-later b xs ys p same k = record {
  ended = λ n l a. HasEnded-later n l xs ys p (same n (inr (l, a))) (k.ended n l a);
  apart = k.apart;
}

-- an event of the own client is added
pub AreEnded-add : (b : Badge) (xs : List Event) (e : Event) → author e ≡ b.number → AreEnded b xs → AreEnded b (xs ++ e ∷ [])
AreEnded-add b xs e own k = record {
  ended = λ n l a. let h = k.ended n l a in record {
    within = omega (arith, h.within, length-append xs (e ∷ []));
    none_after = subst (λ (log : List Event). AllByOthers n log) (sym (drop-append-le l xs (e ∷ []) h.within)) (others_append n (drop l xs) (e ∷ []) h.none_after ((λ (is : author e ≡ n). k.apart n l a (sym is ∙ own)), tt));
  };
  apart = k.apart;
}

-- a number is given out
pub AreEnded-split : (b : Badge) (n : ℕ) (log : List Event) → AreEnded b log → AreEnded (badge_after_split b n) log
AreEnded-split b n log k = record { ended = k.ended; apart = k.apart }

pub AreEnded-new : (b : Badge) (n : ℕ) (log : List Event) → AreEnded (new_badge b n) log
AreEnded-new b n log = record { ended = λ m l a. absurd a; apart = λ m l a. absurd a }

-- two seats are joined
pub AreEnded-join : (v w : View Event) (log : List Event) → IsPrefix v.seen log → IsPrefix w.seen log → ((n : ℕ) → Has v.badge n → entries_by author n log ≡ entries_by author n v.seen)
    → ((n : ℕ) → Has w.badge n → entries_by author n log ≡ entries_by author n w.seen) → w.badge.in_use ≡ true → ((n l : ℕ) → Among (joined_at n l) (joined_badge v.badge w.badge (length w.seen)).joined → n ≢ v.badge.number)
    → AreEnded v.badge v.seen → AreEnded w.badge w.seen → AreEnded (joined_badge v.badge w.badge (length w.seen)) log
AreEnded-join v w log p q left right used apart kv kw = record {
  ended = λ n l a. of n l (among_either (joined_at n l) v.badge.joined (joined_at w.badge.number (length w.seen) ∷ w.badge.joined) a);
  apart = apart;
}
  where
    of : (n l : ℕ) → Among (joined_at n l) v.badge.joined ⊎ Among (joined_at n l) (joined_at w.badge.number (length w.seen) ∷ w.badge.joined) → HasEnded n l log
    of n l (inl a) = HasEnded-later n l v.seen log p (left n (inr (l, a))) (kv.ended n l a)
    of n l (inr (inl is)) =
        let number : n ≡ w.badge.number = ap (λ (j : Joined). j.number) is in
        let place : l ≡ length w.seen = ap (λ (j : Joined). j.length) is in
        subst (λ (z : ℕ × ℕ). HasEnded z.0 z.1 log) (λ i. (sym number i, sym place i)) (HasEnded-seen w.badge.number w.seen log q (right w.badge.number (inl (used, refl))))
    of n l (inr (inr a)) = HasEnded-later n l w.seen log q (right n (inr (l, a))) (kw.ended n l a)

-- ---- clients that the seat has

-- what a seat finds with the turn
pub AreHad-finds : (v w : View Event) → Finds author event_row v w → AreHad w.badge w.seen
AreHad-finds v w finds = record {
  each = λ sole.
      let same : w.badge ≡ v.badge = ap (λ (x : View Event). x.badge) finds.same in
      subst (λ (b : Badge). All (λ e. Has b (author e)) w.seen) (sym same) (finds.sole_authors (IsSole-found v.badge (sym (ap is_sole same) ∙ sole)));
}

-- an event of the own client is added
pub AreHad-add : (b : Badge) (xs : List Event) (e : Event) → b.in_use ≡ true → author e ≡ b.number → AreHad b xs → AreHad b (xs ++ e ∷ [])
AreHad-add b xs e used own had = record {
  each = λ sole. All-append (λ x. Has b (author x)) xs (e ∷ []) (had.each sole) (All-cons (λ x. Has b (author x)) e [] (inl (used, own)) (λ k d lt. absurd (omega (arith, lt))));
}

-- a number is given out
pub AreHad-split : (b : Badge) (n : ℕ) (log : List Event) → AreHad b log → AreHad (badge_after_split b n) log
AreHad-split b n log had = record { each = λ sole. had.each (before sole) }
  where
    before : is_sole (badge_after_split b n) ≡ true → is_sole b ≡ true
    before sole =
        let used = and_parts b.in_use (has_number b b.first && (has_number b n && list_all (has_number b) b.gave)) sole in
        let rest = and_parts (has_number b b.first) (has_number b n && list_all (has_number b) b.gave) used.1 in
        let gave = and_parts (has_number b n) (list_all (has_number b) b.gave) rest.1 in
        and_true b.in_use (has_number b b.first && list_all (has_number b) b.gave) used.0 (and_true (has_number b b.first) (list_all (has_number b) b.gave) rest.0 gave.1)

-- the seat that got it is not the first one
pub AreHad-new : (b : Badge) (n : ℕ) (log : List Event) → b.first < n → AreHad (new_badge b n) log
AreHad-new b n log less = record { each = λ sole. absurd (not_first (either (n == b.first) false (and_parts ((n == b.first) || false) true sole).0)) }
  where
    not_first : ((n == b.first) ≡ true) ⊎ (false ≡ true) → ⊥
    not_first (inl is) = let same : n ≡ b.first = eqb-true n b.first is in omega (arith, less, same)
    not_first (inr never) = true≢false (sym never)
