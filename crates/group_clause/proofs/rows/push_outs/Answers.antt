use Rattle.std.proofs.Common.{◌≡◌, ◌∙◌, ◌++◌, sym, subst, refl, ap, false, true}
use Rattle.std.specs.Prelude.{MatchOption}
use Rattle.expr_clause.specs.declared.clause.Out.{Out}
use Rattle.group_clause.specs.Partials.{tally_makes}
use Rattle.group_clause.proofs.RowLemmas.{at_place, tally_there, takes_made, stops, step_left, step_made, same_maker}
use Rattle.group_clause.proofs.rows.push_outs.Goals as goal

pub bounds-kept-place : goal.bounds-kept-place
bounds-kept-place c = tally_there _ c.args.outs.now c.args.kept.now c.loop-place.place c.loop-place.invariant.left.fits c.loop-place-test.true

pub made-requires : goal.made-requires
made-requires c =
    let here = at_place _ c.args.outs.now c.args.kept.now c.loop-place.place c.index-outs-place.result c.index-kept-place.result _ _ _ c.loop-place-test.true c.index-outs-place.is c.index-kept-place.is
    c.loop-place.invariant.left c.loop-place.invariant.made in
    here.left.few.0

pub cell-requires : goal.cell-requires
cell-requires c =
    let here = at_place _ c.args.outs.now c.args.kept.now c.loop-place.place c.index-outs-place.result c.index-kept-place.result _ _ _ c.loop-place-test.true c.index-outs-place.is c.index-kept-place.is
    c.loop-place.invariant.left c.loop-place.invariant.made in
    takes_made _ _ _ _ _ _ _ _ here _ (c.in-Some.ensures ∙ ap (λ (o : Out). tally_makes o.agg c.index-kept-place.result) (sym c.index-outs-place.is))

pub returns-in-None-clause-cells : goal.returns-in-None-clause-cells
returns-in-None-clause-cells c =
    let here = at_place _ c.args.outs.now c.args.kept.now c.loop-place.place c.index-outs-place.result c.index-kept-place.result _ _ _ c.loop-place-test.true c.index-outs-place.is c.index-kept-place.is
    c.loop-place.invariant.left c.loop-place.invariant.made in
    subst (λ o. MatchOption o (false ≡ false) (λ cs. (false ≡ true) × (c.loop-place.maker ≡ record c.args.maker.now { begun = c.args.maker.now.begun ++ cs }))) (sym (stops _ _ _ _ _ _ _ _ here (c.in-None.ensures ∙ ap (λ (o : Out). tally_makes o.agg c.index-kept-place.result) (sym c.index-outs-place.is)))) refl

pub loop-place-preserved : goal.loop-place-preserved
loop-place-preserved c =
    let here = at_place _ c.args.outs.now c.args.kept.now c.loop-place.place c.index-outs-place.result c.index-kept-place.result _ _ _ c.loop-place-test.true c.index-outs-place.is c.index-kept-place.is
    c.loop-place.invariant.left c.loop-place.invariant.made in
    let made = c.in-Some.ensures ∙ ap (λ (o : Out). tally_makes o.agg c.index-kept-place.result) (sym c.index-outs-place.is) in
    record {
      left = step_left _ _ _ _ _ _ _ _ here c.loop-place.maker c.cell.new.self _ refl refl c.in_ok-cell-in-Some.ensures.ok;
      made = step_made _ _ _ _ _ _ _ _ here c.loop-place.maker c.cell.new.self _ made refl c.in_ok-cell-in-Some.ensures.ok;
      same = same_maker c.args.maker.now _ _ _ c.loop-place.invariant.same c.in_ok-cell-in-Some.ensures.ok;
    }
