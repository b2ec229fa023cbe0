-- The badges, and who holds the turn, where one view changes.
use Rattle.std.proofs.Common.{◌≡◌, ℕ, true, List, map, set, sym, ap, ◌∙◌, subst}
use mathlib.Core.Logic.{dite}
use mathlib.Core.Option.{some}
use native.Mathlib.Decide.{ℕ_discrete}
use lib.ListN.{get_elem?}
use lib.Seq.{map-set}
use Rattle.atomic_table.proofs.Lists.{at_map, set_again, set_else, set_here}
use Rattle.turn_cell.specs.declared.view.View.{View}
use Rattle.turn_cell.specs.Rule.{badge_of}
use Rattle.turn_cell.proofs.Places.{at_below, one_at}

module _ {E : Type 0} where
  -- where no badge changes, all badges are as they were
  pub same_badges : (vs : List (View E)) (i : ℕ) (v w : View E) → get_elem? vs i ≡ some v → w.badge ≡ v.badge → map badge_of (set vs i w) ≡ map badge_of vs
  same_badges vs i v w at e = map-set badge_of vs i w ∙ (ap (set (map badge_of vs) i) e ∙ set_again (map badge_of vs) i v.badge (at_map badge_of vs i v at))

  -- the holder is still there, where a view changes and not whether it has the turn
  pub still : (vs : List (View E)) (i : ℕ) (v w : View E) → get_elem? vs i ≡ some v → w.turn ≡ v.turn → (h : ℕ) (u : View E) → get_elem? vs h ≡ some u → u.turn ≡ true → (x : View E) × (get_elem? (set vs i w) h ≡ some x) × (x.turn ≡ true)
  still vs i v w at same h u there on = dite (ℕ_discrete h i)
      (λ e. (w, subst (λ (k : ℕ). get_elem? (set vs i w) k ≡ some w) (sym e) (set_here vs i w (at_below vs i v at)), same ∙ (ap (λ (z : View E). z.turn) (one_at vs i h v u (sym e) at there) ∙ on)))
      (λ ne. (u, set_else vs i h w ne ∙ there, on))
