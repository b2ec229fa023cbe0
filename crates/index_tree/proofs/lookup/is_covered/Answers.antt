use Rattle.std.proofs.Common.{◌∙◌, Bool, ◌&&◌, sym, ap}
use Rattle.index_tree.specs.Covering.{has_one}
use Rattle.index_tree.proofs.lookup.is_covered.Goals as goal

pub returns-then-shares_stamps : goal.returns-then-shares_stamps
returns-then-shares_stamps c = λ key. c.has_one.ensures ∙ ap (λ (b : Bool). b && has_one c.args.columns.now c.args.span.now.part) (sym c.if-shares_stamps.true ∙ c.shares_stamps.ensures key)

pub returns-else-shares_stamps : goal.returns-else-shares_stamps
returns-else-shares_stamps c = λ key. c.if-shares_stamps.false ∙ ap (λ (b : Bool). b && has_one c.args.columns.now c.args.span.now.part) (sym c.if-shares_stamps.false ∙ c.shares_stamps.ensures key)
