-- The store to the word of a row keeps the rule: the holder of the turn begins a row.
use Rattle.std.proofs.Common.{◌≡◌, ℕ, suc, ◌+◌, ◌-◌, ◌<◌, ◌≤◌, true, List, length, set, sym, refl, ap, ◌∙◌, inr, ⊎_elim, arith, subst}
use mathlib.Core.Option.{none}
use Rattle.std.specs.Prelude.{Option, None}
use Rattle.atomic_table.specs.Table.{State, Act, Me, step, keeps, stepped, Valid, carried_after, Allows}
use Rattle.atomic_table.proofs.Lists.{set_here}
use Rattle.turn_cell.specs.declared.view.View.{View}
use Rattle.turn_cell.specs.Numbers.{Had, Numbered}
use Rattle.turn_cell.specs.Rows.{Rowed}
use Rattle.turn_cell.specs.Rule.{Fits, IsHome, IsOut, Turned}
use Rattle.turn_cell.specs.Views.{begun_view}
use Rattle.turn_cell.specs.Steps.{BeginsRow}
use Rattle.turn_cell.proofs.Places.{at_below, each_set}
use Rattle.turn_cell.proofs.RowsKept.{rowed_begun}
use Rattle.turn_cell.proofs.ViewsKept.{same_badges}

module _ {V E : Type 0} (stands : V → List E → Type 0) (author : E → ℕ) (row : E → Option ℕ) (greatest : V → ℕ) where
  abbrev St : Type 0
  St = State (Option V) (View E)

  abbrev Sa : Type 0
  Sa = Me (Option V) (View E)

  abbrev Rule : St → Type 0
  Rule = Turned stands author row greatest

  abbrev BeginGoal : ℕ → ℕ → ℕ → ℕ → ℕ → Sa → St → Type 0
  BeginGoal slots id i q n me z = (w : View E) × (a : Act (Option V)) × Valid z.homes me.1 a × Rule (stepped z (suc (suc q)) n id me.1 w a)
      × BeginsRow (step slots i n 0 none) me n (w, carried_after me.1 a)

  -- the holder of the turn, which has begun no row, begins one
  pub begins_row : (slots id : ℕ) (me : Sa) (i n : ℕ) → 2 ≤ i → i < 258 → n ≡ length me.0.seen + 1 → me.0.turn ≡ true → me.0.begun ≡ None → Allows Rule slots id me i (λ _. n) (λ _ m. BeginsRow (step slots i n 0 none) me n m)
  begins_row slots id me i n low high next on none_begun s r wide at small = let v : View E = me.0 in let q : ℕ = i - 2 in let log : List E = r.log in let top : ℕ = r.top in ⊎_elim
      (λ (h : IsHome stands greatest r.log r.top r.begun s). absurd (let off = h.free id v at in cc))
      (λ (h : IsOut r.log r.top r.begun s). let words_are = h.words_are in let homes_are = h.away in let w : View E = begun_view v q in let same = same_badges s.views id v w at refl in let holder = h.only id v at on in let f = r.each id v at in
      let count : n ≡ length log + 1 = next ∙ ap (λ (l : List E). length l + 1) holder.1 in let place : suc (suc q) ≡ i = omega arith in
      subst (λ (k : ℕ). (w : View E) × (a : Act (Option V)) × Valid s.homes me.1 a × Rule (stepped s k n id me.1 w a) × BeginsRow (step slots i n 0 none) me n (w, carried_after me.1 a)) place
      (subst (BeginGoal slots id i q n me) (λ i. record { words = sym words_are i; homes = sym homes_are i; views = s.views }) (
        w,
        keeps,
        tt,
        record {
          log = log;
          first = r.first;
          top = top;
          begun = set r.begun q n;
          rowed = subst (λ (z : ℕ). Rowed row log (set r.begun q z) (set s.views id w)) (sym count)
              (rowed_begun row log r.begun s.views r.rowed id v q at none_begun on (omega arith) (λ j u p turn. (h.only j u p turn).0 ∙ sym holder.0));
          place = inr record {
            holder = id;
            view = w;
            words_are = refl;
            away = refl;
            there = set_here s.views id w (at_below s.views id v at);
            holds = on;
            only = each_set (λ j u. u.turn ≡ true → (j ≡ id) × (u.seen ≡ log) × (u.top ≡ top)) s.views id w (λ _. (refl, holder.1, holder.2))
                (λ j u other p turn. absurd (other ((h.only j u p turn).0 ∙ sym holder.0)));
          };
          numbered = subst (Numbered r.first top) (sym same) r.numbered;
          authored = λ k e there. subst (λ bs. Had bs (author e)) (sym same) (r.authored k e there);
          each = each_set (λ _ u. Fits author log u) s.views id w record { is_seen = f.is_seen; is_told = (log, refl); until_seen = f.until_seen; own = f.own; kept = f.kept } (λ j u _. r.each j u);
        },
        refl,
      ))) r.place
