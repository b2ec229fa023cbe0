use Rattle.std.proofs.Common.{◌≡◌, true, false, not, ap, ◌∙◌}
use Rattle.std.specs.Prelude.{is_some}
use Rattle.prune_rule.proofs.FindingEnds.{unknown_of}
use Rattle.prune_rule.proofs.finding.part_symbol.Goals as goal

pub returns-then-is_none-clause-refused : goal.returns-then-is_none-clause-refused
returns-then-is_none-clause-refused g c =
    let none : is_some c.in_ok-state.state.was ≡ false = c.is_none.ensures ∙ ap not c.if-is_none.true in
    unknown_of _ _ _ _ _ c.in_ok-state.state c.in_ok-state.ensures.state c.in_ok-state.ensures.place none

pub returns-in-Ok-clause-parted : goal.returns-in-Ok-clause-parted
returns-in-Ok-clause-parted g c =
    let some : is_some c.in_ok-state.state.was ≡ true = c.is_none.ensures ∙ ap not c.if-is_none.false in
    record { state = c.in_ok-state.state; at = c.in_ok-state.ensures.state; from = c.in_ok-state.ensures.place.from; referred = some; parts = c.in-Ok.ensures }
