use Rattle.std.proofs.Common.{◌≡◌, ◌∷◌, ◌++◌, List, [], Option, Some, ap, sym, subst, ◌∙◌}
use Rattle.std.specs.Prelude.{replicate}
use Rattle.atomic_table.specs.Table.{opening}
use Rattle.turn_cell.specs.Rule.{Turned}
use Rattle.turn_cell.specs.Views.{first_view}
use Rattle.turn_cell.proofs.SeatSteps.{starts}
use Rattle.turn_cell.proofs.cell.TurnCell.make.Goals as goal

pub new-requires : goal.new-requires
new-requires g c = let T = g.V.Storied in let x = c.args.value in
    let items : c.push.new.self.items ≡ Some x ∷ [] = c.in_ok-push.ensures.items ∙ ap (λ (l : List (Option g.row.V.Denot)). l ++ Some x ∷ []) c.new-slots.ensures.items in
    subst (λ (l : List (Option g.row.V.Denot)). Turned T.stands T.author T.row_of T.greatest (opening (replicate 258 0) l (first_view (T.greatest c.of-about.result.value)))) (sym items)
    (starts T.stands T.author T.row_of T.greatest x (T.greatest c.of-about.result.value) (ap T.greatest c.of-about.ensures) c.requires.stands)
