use Rattle.std.proofs.Common.{sym, ◌∙◌}
use Rattle.expr_clause.proofs.ViewLemmas.{place_within}
use Rattle.expr_clause.proofs.typing.with_one.Goals as goal

pub replaced-requires : goal.replaced-requires
replaced-requires c = place_within c.args.name.now c.columns-columns.result.now c.in-Some.place (sym c.place_of_name.ensures ∙ c.in-Some.is)
