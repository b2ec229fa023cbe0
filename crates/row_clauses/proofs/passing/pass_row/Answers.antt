use Rattle.std.proofs.Common.{refl, arith, rules}
use Rattle.std.proofs.lemmas.List.{drop_more}
use Rattle.row_clauses.proofs.WayLaws.{rest_first, more_at}
use Rattle.row_clauses.proofs.passing.pass_row.Goals as goal

pub loop-place-init : goal.loop-place-init
loop-place-init c = λ spots all. rest_first _ _ _ _ c.args.first _ _ _ _ (omega arith) c.clear.ensures.items all spots refl refl

pub loop-place-preserved : goal.loop-place-preserved
loop-place-preserved c = λ spots all.
    more_at _ _ _ _ c.args.first c.loop-place.place c.args.clauses.now c.args.spots.now _ _ _ _ _ (c.loop-place.invariant spots all)
    (search (rules, drop_more, c.index-clauses-place.is)) (search (rules, drop_more, c.index-spots-place.is, c.items-spots.ensures)) c.in_ok-one_clause.ensures c.in-GoesOn.is
