use Rattle.std.proofs.Common.{refl, arith}
use Rattle.version_chain.proofs.SteadyLemmas.{on_err, steady_then}
use Rattle.prune_rule.specs.DropCalls.{DidDrops}
use Rattle.prune_rule.proofs.DropLemmas.{drops_none, next_may, drops_more, drops_stop, drops_wanting, one_steady, stopped_steady}
use Rattle.prune_rule.proofs.dropping.drop_all.Goals as goal

pub returns-in_default-clause-did : goal.returns-in_default-clause-did
returns-in_default-clause-did g c = drops_wanting _ _ _ _ _ _ _ _ _ c.place.ensures c.out_of_memory.ensures

pub loop-key-init : goal.loop-key-init
loop-key-init g c = record {
  steady = record { same_number = refl; same_limit = refl; faults_rise = omega arith; stays_sole = λ e. e };
  so_far = drops_none _ _ _ _ _ c.in-Ok.ensures;
}

pub drop_one-requires : goal.drop_one-requires
drop_one-requires g c = record { dead = next_may _ _ _ _ _ _ _ c.requires.dead c.loop-key.invariant.so_far _ _ c.in-Some.ensures.removal (g.met.B.Bucket.lawful c.loop-key.bucket) }

pub loop-key-preserved : goal.loop-key-preserved
loop-key-preserved g c = record {
  steady = steady_then g.B.Bucket.number g.B.Bucket.limit g.B.Bucket.faults g.B.Bucket.sole c.args.bucket.now c.loop-key.bucket c.loop-key.invariant.steady c.drop_one.new.bucket c.drop_one.ensures.steady;
  so_far = drops_more _ _ _ _ _ _ _ c.requires.dead c.loop-key.invariant.so_far (g.B.Bucket.seen c.drop_one.new.bucket) c.in-Some.key c.pop_first.new.self.keys c.drop_one.new.freed c.in-Some.ensures.removal
      (g.met.B.Bucket.lawful c.loop-key.bucket) (g.met.B.Bucket.lawful c.drop_one.new.bucket)
      (one_steady g.B.Bucket.number g.B.Bucket.limit g.B.Bucket.faults g.B.Bucket.sole c.args.bucket.now c.loop-key.bucket c.loop-key.invariant.steady (g.B.Bucket.seen c.loop-key.bucket) (g.B.Bucket.seen c.drop_one.new.bucket) c.in-Some.key c.loop-key.freed c.drop_one.new.freed c.in_ok-drop_one.ensures.did);
}

pub returns-in_err-drop_one-clause-did : goal.returns-in_err-drop_one-clause-did
returns-in_err-drop_one-clause-did g c =
    on_err (DidDrops (g.B.Bucket.number c.args.bucket.now) (g.B.Bucket.sole c.args.bucket.now) (g.B.Bucket.limit c.args.bucket.now) (g.B.Bucket.faults c.args.bucket.now) (g.B.Bucket.faults c.drop_one.new.bucket) (g.B.Bucket.seen c.args.bucket.now) (g.B.Bucket.seen c.drop_one.new.bucket) c.args.dead.keys)
    c.from_residual.result c.in_err-drop_one.field-0.0 c.from_residual.ensures.0 c.from_residual.ensures.1
    (drops_stop _ _ _ _ _ _ _ c.requires.dead c.loop-key.invariant.so_far (g.B.Bucket.limit c.args.bucket.now) (g.B.Bucket.faults c.args.bucket.now) (g.B.Bucket.faults c.drop_one.new.bucket) (g.B.Bucket.seen c.drop_one.new.bucket) c.in-Some.key c.pop_first.new.self.keys c.in_err-drop_one.field-0.0 c.in-Some.ensures.removal
    (stopped_steady g.B.Bucket.number g.B.Bucket.limit g.B.Bucket.faults g.B.Bucket.sole c.args.bucket.now c.loop-key.bucket c.loop-key.invariant.steady (g.B.Bucket.faults c.drop_one.new.bucket) (g.B.Bucket.seen c.loop-key.bucket) (g.B.Bucket.seen c.drop_one.new.bucket) c.in-Some.key c.in_err-drop_one.field-0.0 c.in_err-drop_one.ensures.did))
