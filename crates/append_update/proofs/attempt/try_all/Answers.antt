use Rattle.std.proofs.Common.{◌≡◌, ◌+◌, ◌<◌, inl, inr, length, refl, arith, subst, Ok, Err, rules}
use Rattle.frame_write.specs.Tries.{IsMet, MetTries, DidRefused}
use Rattle.append_update.specs.Asking.{Wants, Loses}
use Rattle.frame_write.proofs.TriesLemmas.{tries_none}
use Rattle.version_chain.proofs.SteadyLemmas.{steady_then}
use Rattle.append_update.proofs.LoopLemmas.{attempt_steady, end_else, met_place, met_more, met_last, met_each}
use Rattle.append_update.proofs.attempt.try_all.Goals as goal

pub returns-in-Ok-clause-did : goal.returns-in-Ok-clause-did
returns-in-Ok-clause-did g c =
    let few : c.loop.counter < c.args.options.now.tries = search rules in
    record {
      count = c.loop.counter;
      few = few;
      mid = g.B.Bucket.seen c.loop.bucket;
      refused = c.loop.invariant.so_far;
      last = attempt_steady g.B.Bucket.number g.B.Bucket.limit g.B.Bucket.faults g.B.Bucket.sole c.args.bucket.now c.loop.bucket c.loop.invariant.steady c.args.symbol.now c.args.wish.now c.args.options.now (g.B.Bucket.faults c.attempt.new.bucket) (g.B.Bucket.seen c.loop.bucket) (g.B.Bucket.seen c.attempt.new.bucket) (Ok c.in-Ok.committed) c.in-Ok.ensures.did;
    }

pub returns-in_default-clause-did : goal.returns-in_default-clause-did
returns-in_default-clause-did g c =
    let few : c.loop.counter < c.args.options.now.tries = search rules in
    inr (record {
      count = c.loop.counter;
      few = few;
      mid = g.B.Bucket.seen c.loop.bucket;
      refused = c.loop.invariant.so_far;
      last = end_else (g.B.Bucket.number c.args.bucket.now) (g.B.Bucket.sole c.args.bucket.now) c.args.symbol.now c.args.wish.now c.args.options.now (g.B.Bucket.limit c.args.bucket.now) (g.B.Bucket.faults c.args.bucket.now) (g.B.Bucket.faults c.attempt.new.bucket) (g.B.Bucket.seen c.loop.bucket) (g.B.Bucket.seen c.attempt.new.bucket) c.in-Err.refused
          (attempt_steady g.B.Bucket.number g.B.Bucket.limit g.B.Bucket.faults g.B.Bucket.sole c.args.bucket.now c.loop.bucket c.loop.invariant.steady c.args.symbol.now c.args.wish.now c.args.options.now (g.B.Bucket.faults c.attempt.new.bucket) (g.B.Bucket.seen c.loop.bucket) (g.B.Bucket.seen c.attempt.new.bucket) (Err c.in-Err.refused) c.in-Err.ensures.did)
          c.in_default.not-Moved;
    })

pub loop-init : goal.loop-init
loop-init g c = record {
  steady = record { same_number = refl; same_limit = refl; faults_rise = omega arith; stays_sole = λ s. s };
  so_far = tries_none (g.B.Bucket.number c.args.bucket.now) (g.B.Bucket.sole c.args.bucket.now) c.args.symbol.now (g.B.Bucket.seen c.args.bucket.now);
  each = refl;
  met = λ some. absurd (omega (arith, some));
}

pub loop-preserved : goal.loop-preserved
loop-preserved g c =
    let did = attempt_steady g.B.Bucket.number g.B.Bucket.limit g.B.Bucket.faults g.B.Bucket.sole c.args.bucket.now c.loop.bucket c.loop.invariant.steady c.args.symbol.now c.args.wish.now c.args.options.now (g.B.Bucket.faults c.attempt.new.bucket) (g.B.Bucket.seen c.loop.bucket) (g.B.Bucket.seen c.attempt.new.bucket) (Err c.in-Err.refused) c.in-Err.ensures.did in
    let place = met_place (g.B.Bucket.number c.args.bucket.now) (g.B.Bucket.sole c.args.bucket.now) c.args.symbol.now c.args.wish.now c.args.options.now (g.B.Bucket.limit c.args.bucket.now) (g.B.Bucket.faults c.args.bucket.now) (g.B.Bucket.faults c.attempt.new.bucket) (g.B.Bucket.seen c.loop.bucket) (g.B.Bucket.seen c.attempt.new.bucket) c.in-Err.refused did c.in-Moved.now c.in-Moved.is in
    record {
      steady = steady_then g.B.Bucket.number g.B.Bucket.limit g.B.Bucket.faults g.B.Bucket.sole c.args.bucket.now c.loop.bucket c.loop.invariant.steady c.attempt.new.bucket c.attempt.ensures.steady;
      so_far = met_more (g.B.Bucket.number c.args.bucket.now) (g.B.Bucket.sole c.args.bucket.now) c.args.symbol.now c.args.wish.now c.args.options.now (g.B.Bucket.limit c.args.bucket.now) (g.B.Bucket.faults c.args.bucket.now) (g.B.Bucket.faults c.attempt.new.bucket) (g.B.Bucket.seen c.loop.bucket) (g.B.Bucket.seen c.attempt.new.bucket) c.in-Err.refused did
          (g.B.Bucket.seen c.args.bucket.now) c.loop.counter c.in-Moved.now c.in-Moved.is c.loop.invariant.so_far;
      each = subst (MetTries (g.B.Bucket.number c.args.bucket.now) c.args.symbol.now (Wants c.args.symbol.now c.args.wish.now c.args.options.now) (Loses c.args.symbol.now c.args.wish.now) (c.loop.counter + 1) (g.B.Bucket.seen c.args.bucket.now) (g.B.Bucket.seen c.attempt.new.bucket)) place
          (met_each (g.B.Bucket.number c.args.bucket.now) (g.B.Bucket.sole c.args.bucket.now) c.args.symbol.now c.args.wish.now c.args.options.now (g.B.Bucket.limit c.args.bucket.now) (g.B.Bucket.faults c.args.bucket.now) (g.B.Bucket.faults c.attempt.new.bucket) (g.B.Bucket.seen c.loop.bucket) (g.B.Bucket.seen c.attempt.new.bucket) c.in-Err.refused did
          (g.B.Bucket.seen c.args.bucket.now) c.loop.counter c.loop.met c.in-Moved.now c.in-Moved.is c.loop.invariant.each);
      met = λ some. subst (IsMet (g.B.Bucket.number c.args.bucket.now) c.args.symbol.now (length (g.B.Bucket.seen c.args.bucket.now)) (g.B.Bucket.seen c.attempt.new.bucket)) place
          (met_last (g.B.Bucket.number c.args.bucket.now) (g.B.Bucket.sole c.args.bucket.now) c.args.symbol.now c.args.wish.now c.args.options.now (g.B.Bucket.limit c.args.bucket.now) (g.B.Bucket.faults c.args.bucket.now) (g.B.Bucket.faults c.attempt.new.bucket) (g.B.Bucket.seen c.loop.bucket) (g.B.Bucket.seen c.attempt.new.bucket) c.in-Err.refused did
          (g.B.Bucket.seen c.args.bucket.now) c.loop.counter c.in-Moved.now c.in-Moved.is c.loop.invariant.so_far);
    }

pub returns-clause-did : goal.returns-clause-did
returns-clause-did g c =
    let ends : c.loop.counter ≡ c.args.options.now.tries = omega (arith, c.loop-test.false, c.loop.auto.counter-end) in
    inl (record {
      all = subst (DidRefused (g.B.Bucket.number c.args.bucket.now) (g.B.Bucket.sole c.args.bucket.now) c.args.symbol.now (g.B.Bucket.seen c.args.bucket.now) (g.B.Bucket.seen c.loop.bucket)) ends c.loop.invariant.so_far;
      each = subst (λ n. MetTries (g.B.Bucket.number c.args.bucket.now) c.args.symbol.now (Wants c.args.symbol.now c.args.wish.now c.args.options.now) (Loses c.args.symbol.now c.args.wish.now) n (g.B.Bucket.seen c.args.bucket.now) (g.B.Bucket.seen c.loop.bucket) c.loop.met) ends c.loop.invariant.each;
      met = c.loop.invariant.met (omega (arith, c.requires.some_tries, ends));
      why = refl;
    })
