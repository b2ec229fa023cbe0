use Rattle.std.proofs.Common.{◌∙◌, sym, arith, rules}
use Rattle.std.proofs.lemmas.List.{drop_more}
use Rattle.row_clauses.proofs.RunLaws.{plain_one}
use Rattle.row_clauses.proofs.applying.end_of_part.Goals as goal

pub loop-place-preserved : goal.loop-place-preserved
loop-place-preserved c =
    plain_one c.args.clauses.now c.args.at c.loop-place.place c.index-clauses-place.result (omega (arith, c.loop-place.auto.place)) (omega (arith, c.loop-place-test.true))
    (search (rules, drop_more, c.index-clauses-place.is)) (sym c.is_group-in-loop-place.ensures ∙ c.if-is_group-2.false) c.loop-place.invariant
