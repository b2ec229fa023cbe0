use Rattle.std.proofs.Common.{sym, ◌∙◌}
use Rattle.expr_clause.proofs.ViewLemmas.{place_within}
use Rattle.expr_clause.proofs.viewed.cell_in.Goals as goal

pub cell-requires-clause-col : goal.cell-requires-clause-col
cell-requires-clause-col c = place_within c.args.name.now c.args.view.now.schema.columns c.in-Some.place (sym c.place_in.ensures ∙ c.in-Some.is)
