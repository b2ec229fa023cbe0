-- The step of the count keeps the rule: the holder of the turn adds an entry.
use Rattle.std.proofs.Common.{◌≡◌, ◌≢◌, ℕ, ◌+◌, ◌%◌, ◌^◌, ◌<◌, ◌≤◌, true, List, [], ◌∷◌, ◌++◌, map, length, get_or, sym, refl, ap, ◌∙◌, inl, inr, ⊎_elim, arith, subst, append-nil, length-append}
use mathlib.Core.Option.{none}
use Rattle.std.specs.Prelude.{Option}
use Rattle.atomic_table.specs.Table.{State, Act, Me, step, keeps, stepped, Valid, carried_after, Allows}
use Rattle.atomic_table.proofs.Lists.{at_map, at_snoc, set_here}
use Rattle.turn_cell.specs.declared.view.View.{View}
use Rattle.turn_cell.specs.Badges.{Among, Has, joined_at}
use Rattle.turn_cell.specs.Numbers.{Had, Numbered}
use Rattle.turn_cell.specs.Rule.{badge_of, Fits, IsHome, IsOut, Turned}
use Rattle.turn_cell.specs.Views.{stepped_view}
use Rattle.turn_cell.specs.Steps.{CountsEntry}
use Rattle.turn_cell.proofs.Places.{at_below, each_set}
use Rattle.turn_cell.proofs.Prefixes.{prefix_longer}
use Rattle.turn_cell.proofs.RowsKept.{rowed_longer}
use Rattle.turn_cell.proofs.ViewsKept.{same_badges}

module _ {V E : Type 0} (stands : V → List E → Type 0) (author : E → ℕ) (row : E → Option ℕ) (greatest : V → ℕ) where
  abbrev St : Type 0
  St = State (Option V) (View E)

  abbrev Sa : Type 0
  Sa = Me (Option V) (View E)

  abbrev Rule : St → Type 0
  Rule = Turned stands author row greatest

  -- the list gets an entry of another seat
  fits_longer : (log : List E) (v : View E) (e : E) → Fits author log v → (Has v.badge (author e) → ⊥) → Fits author (log ++ e ∷ []) v
  fits_longer log v e f other = record {
    is_seen = prefix_longer v.seen log e f.is_seen;
    is_told = prefix_longer v.told log e f.is_told;
    until_seen = f.until_seen;
    own = λ live k x at is. ⊎_elim (λ p. f.own live k x p is) (λ (same : e ≡ x). absurd (other (inl (live, ap author same ∙ is)))) (at_snoc log e x k at);
    kept = λ n l a. let old = f.kept n l a in (
      old.0,
      λ k x at is. ⊎_elim (λ p. old.1 k x p is)
          (λ (same : e ≡ x). absurd (other (inr (l, subst (λ (z : ℕ). Among (joined_at z l) v.badge.joined) (sym (ap author same ∙ is)) a)))) (at_snoc log e x k at),
    );
  }

  -- the list gets an entry of this seat, which has seen the list
  fits_mine : (log : List E) (v : View E) (e : E) → Fits author log v → v.seen ≡ log → author e ≡ v.badge.number → ((n l : ℕ) → Among (joined_at n l) v.badge.joined → n ≢ v.badge.number) → Fits author (log ++ e ∷ []) (stepped_view v e)
  fits_mine log v e f all mine apart = record {
    is_seen = ([], append-nil (v.seen ++ e ∷ []) ∙ ap (λ (l : List E). l ++ e ∷ []) all);
    is_told = prefix_longer v.told log e f.is_told;
    until_seen = omega (arith, length-append v.seen (e ∷ []));
    own = λ live k x at is. let b = at_below (log ++ e ∷ []) k x at in let l = ap length all in omega (arith, length-append log (e ∷ []));
    kept = λ n l a. let old = f.kept n l a in let b : l ≤ length v.seen = old.0 in (
      omega (arith, length-append v.seen (e ∷ [])),
      λ k x at is. ⊎_elim (λ p. old.1 k x p is)
          (λ (same : e ≡ x). absurd (apart n l a (sym is ∙ (ap author (sym same) ∙ mine)))) (at_snoc log e x k at),
    );
  }

  abbrev StepGoal : ℕ → ℕ → E → Sa → St → Type 0
  StepGoal slots id e me z = (w : View E) × (a : Act (Option V)) × Valid z.homes me.1 a × Rule (stepped z 0 ((get_or z.words 0 0 + 1) % 2 ^ 64) id me.1 w a)
      × CountsEntry e (step slots 0 1 0 none) me (get_or z.words 0 0) (w, carried_after me.1 a)

  -- the holder of the turn adds an entry of its own
  pub counts_entry : (slots id : ℕ) (me : Sa) (e : E) → me.0.badge.in_use ≡ true → me.0.turn ≡ true → author e ≡ me.0.badge.number → row e ≡ me.0.begun → length me.0.seen < 2 ^ 62
      → Allows Rule slots id me 0 (λ n. (n + 1) % 2 ^ 64) (CountsEntry e (step slots 0 1 0 none) me)
  counts_entry slots id me e live on mine of short s r wide at small = let f = r.each id me.0 at in let log : List E = r.log in let top : ℕ = r.top in let v : View E = me.0 in
      let b_at = at_map badge_of s.views id v at in ⊎_elim
      (λ (h : IsHome stands greatest r.log r.top r.begun s). absurd (let off = h.free id v at in cc))
      (λ (h : IsOut r.log r.top r.begun s). let words_are = h.words_are in let homes_are = h.away in let w : View E = stepped_view v e in let same = same_badges s.views id v w at refl in let holder = h.only id v at on in let all : v.seen ≡ log = holder.1 in
      let up : (length log + 1) % 2 ^ 64 ≡ length (log ++ e ∷ []) = (let l = ap length all in omega (arith, length-append log (e ∷ []))) in
      subst (StepGoal slots id e me) (λ i. record { words = sym words_are i; homes = sym homes_are i; views = s.views }) (
        w,
        keeps,
        tt,
        record {
          log = log ++ e ∷ [];
          first = r.first;
          top = top;
          begun = r.begun;
          rowed = rowed_longer row log r.begun s.views r.rowed id v w e at refl refl of (λ j u p turn. (h.only j u p turn).0 ∙ sym holder.0);
          place = inr record {
            holder = id;
            view = w;
            words_are = λ i. up i ∷ 1 ∷ r.begun;
            away = refl;
            there = set_here s.views id w (at_below s.views id v at);
            holds = on;
            only = each_set (λ j u. u.turn ≡ true → (j ≡ id) × (u.seen ≡ log ++ e ∷ []) × (u.top ≡ top)) s.views id w (λ _. (refl, ap (λ (l : List E). l ++ e ∷ []) all, holder.2))
                (λ j u other p turn. absurd (other ((h.only j u p turn).0 ∙ sym holder.0)));
          };
          numbered = subst (Numbered r.first top) (sym same) r.numbered;
          authored = λ k x there. subst (λ bs. Had bs (author x)) (sym same) (⊎_elim (λ p. r.authored k x p)
              (λ (is : e ≡ x). subst (λ (y : E). Had (map badge_of s.views) (author y)) is (id, v.badge, b_at, inl (live, mine))) (at_snoc log e x k there));
          each = each_set (λ _ u. Fits author (log ++ e ∷ []) u) s.views id w (fits_mine log v e f all mine (λ n l a. r.numbered.apart id n l v.badge b_at a))
              (λ j u other p. fits_longer log u e (r.each j u p)
              (λ has. other (r.numbered.had_once id j (author e) v.badge u.badge b_at (at_map badge_of s.views j u p) (inl (live, mine)) has)));
        },
        refl,
      )) r.place
