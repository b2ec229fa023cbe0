use Rattle.std.proofs.Common.{◌≡◌, ◌||◌, not, [], rules}
use Rattle.store_model.specs.declared.chain.LinkRow.{LinkRow}
use Rattle.prune_rule.specs.DeadKeys.{keeps_in, keeps}
use Rattle.prune_rule.proofs.SetLemmas.{parted_more, parted_end}
use Rattle.prune_rule.proofs.parting.part_rows.Goals as goal

pub loop-row-preserved : goal.loop-row-preserved
loop-row-preserved c = record {
  kept = parted_more (keeps_in c.in_ok-buried.buried c.in_ok-held.held) _ _ _ _ _ c.in-Some.row c.in_ok-add_row.ensures.kept c.in-Some.ensures.items c.loop-row.invariant.kept;
  dead = parted_more (λ row. not (keeps_in c.in_ok-buried.buried c.in_ok-held.held row)) _ _ _ _ _ c.in-Some.row c.in_ok-add_row.ensures.dead c.in-Some.ensures.items c.loop-row.invariant.dead;
}

pub returns : goal.returns
returns c =
    let none : c.loop-row.rest.items ≡ [] = search rules in
    let same : (row : LinkRow) → keeps_in c.in_ok-buried.buried c.in_ok-held.held row ≡ keeps c.args.tombs.now c.args.holds.now row = λ row i. not (c.in_ok-buried.ensures row.version i) || c.in_ok-held.ensures row.version i in
    record {
      kept = parted_end (keeps_in c.in_ok-buried.buried c.in_ok-held.held) (keeps c.args.tombs.now c.args.holds.now) same c.loop-row.rows.kept c.loop-row.rest.items c.args.links none c.loop-row.invariant.kept;
      dead = parted_end (λ row. not (keeps_in c.in_ok-buried.buried c.in_ok-held.held row)) (λ row. not (keeps c.args.tombs.now c.args.holds.now row)) (λ row i. not (same row i)) c.loop-row.rows.dead c.loop-row.rest.items c.args.links none c.loop-row.invariant.dead;
    }
