use Rattle.std.proofs.Common.{subst, sym, arith, map}
use Rattle.expr_clause.specs.Asking.{line_of}
use Rattle.group_clause.specs.Tallies.{kept}
use Rattle.group_clause.specs.Partials.{tallies}
use Rattle.group_clause.specs.Keeping.{IsKeeping}
use Rattle.group_clause.proofs.KeptLines.{keeping_kept}
use Rattle.group_clause.proofs.partial.Partial.add_tile.Goals as goal

pub invariant_of-merge : goal.invariant_of-merge
invariant_of-merge c =
    let frame = c.args.rows.now in
    subst (λ l. IsKeeping c.rows-rows.result l) (sym c.in_ok-groups.ensures)
    (subst (λ n. IsKeeping n (kept tallies (map (line_of frame.schema.columns c.args.key.now c.args.outs.now) frame.rows))) (sym c.rows-rows.ensures.rows)
    (keeping_kept frame.schema.columns c.args.key.now c.args.outs.now frame.rows c.rows-rows.ensures.frame.fitting (omega (arith, c.requires.rows))))
