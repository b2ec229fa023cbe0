use Rattle.std.proofs.Common.{refl, arith}
use Rattle.version_chain.proofs.Walked.{looks_none, looks_then}
use Rattle.version_chain.proofs.SteadyLemmas.{steady_then}
use Rattle.prune_rule.proofs.SetLemmas.{empty_lacks}
use Rattle.prune_rule.proofs.ReachLemmas.{reaches_none, row_put, reaches_more}
use Rattle.prune_rule.proofs.reaching.reach.Goals as goal

pub loop-row-init : goal.loop-row-init
loop-row-init g c = record {
  looks = looks_none _ _ _;
  steady = record { same_number = refl; same_limit = refl; faults_rise = omega arith; stays_sole = λ e. e };
  so_far = reaches_none _ _ _ _ _ c.into_vec-rest.ensures refl (empty_lacks c.new.result c.new.ensures.empty);
}

pub reach_row-requires : goal.reach_row-requires
reach_row-requires g c = record {
  put = row_put _ _ _ _ _ _ _ _ _ c.loop-row.invariant.looks.is (g.met.B.Bucket.lawful c.loop-row.bucket) c.requires.put c.in-Some.ensures.items c.loop-row.invariant.so_far;
}

pub loop-row-preserved : goal.loop-row-preserved
loop-row-preserved g c = record {
  looks = looks_then _ _ _ _ _ _ _ c.loop-row.invariant.steady.same_number c.loop-row.invariant.steady.stays_sole c.loop-row.invariant.looks c.reach_row.ensures.looks;
  steady = steady_then g.B.Bucket.number g.B.Bucket.limit g.B.Bucket.faults g.B.Bucket.sole c.args.bucket.now c.loop-row.bucket c.loop-row.invariant.steady c.reach_row.new.bucket c.reach_row.ensures.steady;
  so_far = reaches_more _ _ _ _ _ _ _ _ _ _ _ _ c.loop-row.invariant.looks.is c.reach_row.ensures.looks.is (g.met.B.Bucket.lawful c.loop-row.bucket) (g.met.B.Bucket.lawful c.reach_row.new.bucket) c.requires.put c.in-Some.ensures.items
      c.loop-row.invariant.so_far c.in_ok-reach_row.ensures.reached;
}

pub returns-in_err-reach_row-clause-looks : goal.returns-in_err-reach_row-clause-looks
returns-in_err-reach_row-clause-looks g c =
    looks_then _ _ _ _ _ _ _ c.loop-row.invariant.steady.same_number c.loop-row.invariant.steady.stays_sole c.loop-row.invariant.looks c.reach_row.ensures.looks
