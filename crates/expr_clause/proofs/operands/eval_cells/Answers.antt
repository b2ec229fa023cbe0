use Rattle.std.proofs.Common.{◌≡◌, [], ◌∙◌, List}
use Rattle.std.specs.Prelude.{◌++◌, ◌∷◌}
use Rattle.std.proofs.Common.{refl, ap}
use Rattle.frame_core.specs.declared.cell.Cell.{Cell}
use Rattle.expr_clause.proofs.operands.eval_cells.Goals as goal

none_more : (cells : List Cell) → cells ≡ cells ++ []
none_more [] = refl
none_more (c ∷ cells) = ap (λ more. c ∷ more) (none_more cells)

pub returns : goal.returns
returns c = λ columns row given. (c.value_from.ensures columns row [] (given ∙ none_more _)).0
