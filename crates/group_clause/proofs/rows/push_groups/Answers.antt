use Rattle.std.proofs.Common.{rules, subst, false, true, ◌≡◌}
use Rattle.group_clause.proofs.RowLemmas.{aggs_of}
use Rattle.group_clause.proofs.MadeRows.{AddsRow, made_more, made_stops}
use Rattle.group_clause.proofs.rows.push_groups.Goals as goal

pub loop-place-preserved : goal.loop-place-preserved
loop-place-preserved c =
    let done : c.in_ok-push_group.field-0 ≡ true = search rules in
    made_more c.args.maker.now.schema (aggs_of c.args.outs.now) c.args.groups.now c.loop-place.place c.loop-place.maker c.index-groups-place.result c.loop-place-test.true c.index-groups-place.is
    c.loop-place.invariant c.push_group.new.maker
    (subst (AddsRow (aggs_of c.args.outs.now) c.index-groups-place.result c.loop-place.maker c.push_group.new.maker) done c.in_ok-push_group.ensures.row)

pub returns-then-not-branch-clause-rows : goal.returns-then-not-branch-clause-rows
returns-then-not-branch-clause-rows c =
    let done : c.in_ok-push_group.field-0 ≡ false = search rules in
    made_stops c.args.maker.now.schema (aggs_of c.args.outs.now) c.args.groups.now c.loop-place.place c.loop-place.maker c.index-groups-place.result c.loop-place-test.true c.index-groups-place.is
    c.loop-place.invariant c.push_group.new.maker
    (subst (AddsRow (aggs_of c.args.outs.now) c.index-groups-place.result c.loop-place.maker c.push_group.new.maker) done c.in_ok-push_group.ensures.row)
