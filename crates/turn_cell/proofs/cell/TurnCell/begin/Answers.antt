use Rattle.std.proofs.Common.{rules, ◌+◌, ℕ, arith, sym, ap, ◌∙◌, length}
use Rattle.turn_cell.proofs.LoadSteps.{loads_count}
use Rattle.turn_cell.proofs.BeginSteps.{begins_row}
use Rattle.turn_cell.proofs.cell.TurnCell.begin.Goals as goal

pub load-count-requires : goal.load-count-requires
load-count-requires g c = (search rules, search rules, loads_count _ _ _ _ _ _ _ c.requires.holds.0)

pub store-requires : goal.store-requires
store-requires g c = let now = c.load-count.ensures.2 in let k = c.requires.row in (
  search rules,
  search rules,
  begins_row _ _ _ _ _ _ _ _ _ (omega arith) (omega arith) (ap (λ (n : ℕ). n + 1) (now.count c.requires.holds.1 ∙ sym (ap (λ m. length m.0.seen) now.after))) (ap (λ m. m.0.turn) now.after ∙ c.requires.holds.1)
      (ap (λ m. m.0.begun) now.after ∙ c.requires.none_begun),
)
