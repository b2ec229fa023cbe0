use Rattle.std.proofs.Common.{refl}
use Rattle.version_chain.proofs.Walked.{looks_then}
use Rattle.prune_rule.proofs.SetLemmas.{empty_lacks}
use Rattle.prune_rule.proofs.FindingLemmas.{rows_put_later}
use Rattle.prune_rule.proofs.finding.dead_keys.Goals as goal

pub returns-then-kept-clause-reached : goal.returns-then-kept-clause-reached
returns-then-kept-clause-reached g c = record {
  kept = c.in_ok-kept.kept;
  reached = record { none = c.new-none.result; empty = empty_lacks c.new-none.result c.new-none.ensures.empty; reached = c.in_ok-kept.ensures.reached };
  gone = c.if-kept.true;
}

pub reach-requires-2 : goal.reach-requires-2
reach-requires-2 g c = record { put = rows_put_later c.reach.ensures.looks.others _ _ c.args.rows.dead c.reach.ensures.looks.is (g.met.B.Bucket.lawful c.reach.new.bucket) c.requires.dead_put }

pub returns-in_err-dead-clause-looks : goal.returns-in_err-dead-clause-looks
returns-in_err-dead-clause-looks g c = looks_then _ _ _ _ _ _ _ c.reach.ensures.steady.same_number c.reach.ensures.steady.stays_sole c.reach.ensures.looks c.reach-2.ensures.looks

pub returns-clause-looks : goal.returns-clause-looks
returns-clause-looks g c = looks_then _ _ _ _ _ _ _ c.reach.ensures.steady.same_number c.reach.ensures.steady.stays_sole c.reach.ensures.looks c.reach-2.ensures.looks

pub returns-clause-reached : goal.returns-clause-reached
returns-clause-reached g c = record {
  middle = g.B.Bucket.seen c.reach.new.bucket;
  first = c.reach.ensures.looks.others;
  first_is = c.reach.ensures.looks.is;
  second = c.reach-2.ensures.looks.others;
  second_is = c.reach-2.ensures.looks.is;
  kept = c.in_ok-kept.kept;
  reached = record { none = c.new-none.result; empty = empty_lacks c.new-none.result c.new-none.ensures.empty; reached = c.in_ok-kept.ensures.reached };
  there = c.if-kept.false;
  dead = c.in_ok-dead.dead;
  others = c.in_ok-dead.ensures.reached;
  keys_are = refl;
}
