use Rattle.std.proofs.Common.{◌+◌, ◌<◌, length, refl, ap, sym, ◌∙◌, subst, arith}
use Rattle.frame_core.specs.Schemas.{Schema}
use Rattle.expr_clause.specs.Asking.{pass}
use Rattle.row_clauses.specs.declared.passing.Passed.TheVariants as ways
use Rattle.row_clauses.specs.Lying.{row_lying}
use Rattle.row_clauses.proofs.PlanLaws.{spots_length}
use Rattle.row_clauses.proofs.ThroughLaws.{Through, through_first, through_more, through_ended, through_over, follows_last, zero_stamp, all_timed, passed_is, passed_typed}
use Rattle.row_clauses.proofs.running.each_row.Goals as goal
use Rattle.row_clauses.proofs.running.each_row.Goals.{in-Through+in_ok-add_row-in-Through, in-Ended}

pub loop-row-init : goal.loop-row-init
loop-row-init c = through_first c.args.frame.now c.args.plan.now.schema _ c.args.out.now c.requires.way.frame c.requires.new

pub pass_row-requires-clause-count : goal.pass_row-requires-clause-count
pass_row-requires-clause-count c = ap length (c.items-spots.ensures ∙ c.requires.way.plan_is.spots) ∙ spots_length _ _ _ c.args.clauses.now

pub add_row-requires-clause-typed : goal.add_row-requires-clause-typed
add_row-requires-clause-typed c =
    let lt : c.loop-row.row < length c.args.frame.now.rows = omega (arith, c.loop-row-test.true, c.rows-row-end.ensures.rows) in
    rw (c.loop-row.invariant.schema_is, c.deref.ensures.value, c.deref-in-Through.ensures.value)
    (passed_typed c.args.frame.now c.loop-row.row c.args.first c.args.clauses.now c.args.plan.now c.items-spots.result.now _ _ ways.Through c.requires.way.frame lt c.requires.way.plan_is c.items-spots.ensures
    c.in_ok-pass_row.ensures c.in-Through.is c.requires.way.plain c.requires.way.fit refl)

pub add_row-requires-clause-rising : goal.add_row-requires-clause-rising
add_row-requires-clause-rising c =
    let lt : c.loop-row.row < length c.args.frame.now.rows = omega (arith, c.loop-row-test.true, c.rows-row-end.ensures.rows) in
    follows_last c.args.frame.now c.args.plan.now.schema _ c.loop-row.row c.loop-row.out lt c.loop-row.invariant

pub add_row-requires-clause-untimed : goal.add_row-requires-clause-untimed
add_row-requires-clause-untimed c = λ untimed.
    let lt : c.loop-row.row < length c.args.frame.now.rows = omega (arith, c.loop-row-test.true, c.rows-row-end.ensures.rows) in
    zero_stamp c.args.frame.now c.loop-row.row c.requires.way.frame lt
    (sym (all_timed c.args.clauses.now c.args.frame.now.schema c.requires.way.plain) ∙ ap (λ (s : Schema). s.timed) (sym c.requires.way.plan_is.schema) ∙ ap (λ (s : Schema). s.timed) (sym c.loop-row.invariant.schema_is) ∙ untimed)

pub returns-in-Overflows : goal.returns-in-Overflows
returns-in-Overflows c =
    let lt : c.loop-row.row < length c.args.frame.now.rows = omega (arith, c.loop-row-test.true, c.rows-row-end.ensures.rows) in
    record {
      rows = through_over c.args.frame.now c.args.plan.now.schema (pass c.args.first c.args.frame.now.schema c.args.clauses.now) c.loop-row.row c.loop-row.out lt c.loop-row.invariant c.in-Overflows.clause
          (sym (passed_is c.args.frame.now c.loop-row.row c.args.first c.args.clauses.now c.args.plan.now c.items-spots.result.now _ _ (ways.Overflows c.in-Overflows.clause) c.requires.way.frame lt c.requires.way.plan_is
          c.items-spots.ensures c.in_ok-pass_row.ensures c.in-Overflows.is));
      schema = tt;
      whole = tt;
    }

pub loop-row-preserved : goal.loop-row-preserved
loop-row-preserved c =
    let lt : c.loop-row.row < length c.args.frame.now.rows = omega (arith, c.loop-row-test.true, c.rows-row-end.ensures.rows) in
    elim c.match-branch-2.branch [
      | in-Through+in_ok-add_row-in-Through w ↦
          through_more c.args.frame.now c.args.plan.now.schema (pass c.args.first c.args.frame.now.schema c.args.clauses.now) c.loop-row.row c.loop-row.out lt c.loop-row.invariant
          (row_lying c.args.frame.now c.loop-row.row w.deref.result.now w.deref-in-Through.result.now) c.match-branch-2.out
          (sym (rw (w.deref.ensures.value, w.deref-in-Through.ensures.value)
          (passed_is c.args.frame.now c.loop-row.row c.args.first c.args.clauses.now c.args.plan.now c.items-spots.result.now _ _ ways.Through c.requires.way.frame lt c.requires.way.plan_is c.items-spots.ensures
          c.in_ok-pass_row.ensures w.in-Through.is)))
          refl (w.out-is ∙ w.in_ok-add_row-in-Through.ensures)
      | in-Ended w ↦
          subst (Through c.args.frame.now c.args.plan.now.schema (pass c.args.first c.args.frame.now.schema c.args.clauses.now) (c.loop-row.row + 1)) (sym w.out-is)
          (through_ended c.args.frame.now c.args.plan.now.schema (pass c.args.first c.args.frame.now.schema c.args.clauses.now) c.loop-row.row c.loop-row.out lt c.loop-row.invariant
          (sym (passed_is c.args.frame.now c.loop-row.row c.args.first c.args.clauses.now c.args.plan.now c.items-spots.result.now _ _ ways.Ended c.requires.way.frame lt c.requires.way.plan_is c.items-spots.ensures
          c.in_ok-pass_row.ensures w.in-Ended.is)))
    ]
