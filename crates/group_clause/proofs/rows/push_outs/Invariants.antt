use Rattle.std.proofs.Common.{◌≡◌, drop}
use Rattle.group_clause.specs.Tallies.{made_all}
use Rattle.group_clause.specs.Partials.{tallies}
use Rattle.group_clause.proofs.RowLemmas.{aggs_of, Appends, OutsLeft}
use Rattle.group_clause.proofs.rows.push_outs.Given as goal

-- what was made so far, and what is left of the outputs
abbrev pub invariant-loop-place : goal.invariant-loop-place
invariant-loop-place l = record {
  left : OutsLeft l.maker.schema.columns (drop l.place l.outs) (drop l.place l.kept) l.maker.begun;
  made : Appends l.fn.maker.begun (made_all tallies (aggs_of l.outs) l.kept) l.maker.begun (made_all tallies (aggs_of (drop l.place l.outs)) (drop l.place l.kept));
  same : l.maker ≡ record l.fn.maker { begun = l.maker.begun };
}
