use Rattle.std.proofs.Common.{◌≡◌, ◌<◌, inl, inr, length, subst, refl, true, arith, Ok, Err, rules}
use Rattle.bucket_core.specs.History.{history_at}
use Rattle.reply_model.specs.Moves.{IsMetTry}
use Rattle.frame_write.specs.Tries.{IsMet, MetTries, DidRefused}
use Rattle.frame_write.specs.Writes.{IsWritten, Always, Whole}
use Rattle.frame_write.proofs.MeetLemmas.{met_went}
use Rattle.frame_write.proofs.MetTries.{met_one}
use Rattle.reply_model.proofs.MetTries.{met_more}
use Rattle.version_chain.proofs.SteadyLemmas.{steady_then}
use Rattle.frame_write.proofs.TriesLemmas.{tries_more, last_met, try_steady, met_where_moved, failed_else, moved_place, busy_always}
use Rattle.frame_write.proofs.write.try_all.Goals as goal

pub returns-in-Ok-clause-did : goal.returns-in-Ok-clause-did
returns-in-Ok-clause-did g c =
    let few : c.loop.counter < c.args.options.now.tries = search rules in
    record {
      count = c.loop.counter;
      few = few;
      mid = (g.B.Bucket.seen c.loop.bucket);
      refused = c.loop.invariant.so_far;
      last = try_steady g.B.Bucket.number g.B.Bucket.limit g.B.Bucket.faults g.B.Bucket.sole c.args.bucket.now c.loop.bucket c.loop.invariant.steady c.args.symbol.now (g.B.Bucket.faults c.attempt.new.bucket) (length (g.B.Bucket.seen c.loop.bucket)) (g.B.Bucket.seen c.loop.bucket) (g.B.Bucket.seen c.attempt.new.bucket) (λ n. (IsWritten c.args.symbol.now c.args.frame.now c.args.options.now)) (Ok c.in-Ok.committed) c.in-Ok.ensures.did;
    }

pub returns-in_default-clause-did : goal.returns-in_default-clause-did
returns-in_default-clause-did g c =
    let few : c.loop.counter < c.args.options.now.tries = search rules in
    let did = try_steady g.B.Bucket.number g.B.Bucket.limit g.B.Bucket.faults g.B.Bucket.sole c.args.bucket.now c.loop.bucket c.loop.invariant.steady c.args.symbol.now (g.B.Bucket.faults c.attempt.new.bucket) (length (g.B.Bucket.seen c.loop.bucket)) (g.B.Bucket.seen c.loop.bucket) (g.B.Bucket.seen c.attempt.new.bucket) (λ n. (IsWritten c.args.symbol.now c.args.frame.now c.args.options.now)) (Err c.in-Err.refused) c.in-Err.ensures.did in
    inr (record {
      count = c.loop.counter;
      few = few;
      mid = (g.B.Bucket.seen c.loop.bucket);
      refused = c.loop.invariant.so_far;
      last = inl (
        failed_else (g.B.Bucket.number c.args.bucket.now) (g.B.Bucket.sole c.args.bucket.now) c.args.symbol.now (IsWritten c.args.symbol.now c.args.frame.now c.args.options.now) (g.B.Bucket.limit c.args.bucket.now) (g.B.Bucket.faults c.args.bucket.now) (g.B.Bucket.faults c.attempt.new.bucket) (length (g.B.Bucket.seen c.loop.bucket)) (g.B.Bucket.seen c.loop.bucket) (g.B.Bucket.seen c.attempt.new.bucket) c.in-Err.refused did c.in_default.not-Moved,
        busy_always (g.B.Bucket.number c.args.bucket.now) (g.B.Bucket.sole c.args.bucket.now) c.args.symbol.now (IsWritten c.args.symbol.now c.args.frame.now c.args.options.now) (g.B.Bucket.limit c.args.bucket.now) (g.B.Bucket.faults c.args.bucket.now) (g.B.Bucket.faults c.attempt.new.bucket) (length (g.B.Bucket.seen c.loop.bucket)) (g.B.Bucket.seen c.loop.bucket) (g.B.Bucket.seen c.attempt.new.bucket) c.in-Err.refused did c.in_default.not-Moved,
      );
    })

pub loop-preserved : goal.loop-preserved
loop-preserved g c =
    let did = try_steady g.B.Bucket.number g.B.Bucket.limit g.B.Bucket.faults g.B.Bucket.sole c.args.bucket.now c.loop.bucket c.loop.invariant.steady c.args.symbol.now (g.B.Bucket.faults c.attempt.new.bucket) (length (g.B.Bucket.seen c.loop.bucket)) (g.B.Bucket.seen c.loop.bucket) (g.B.Bucket.seen c.attempt.new.bucket) (λ n. (IsWritten c.args.symbol.now c.args.frame.now c.args.options.now)) (Err c.in-Err.refused) c.in-Err.ensures.did in
    let met = met_where_moved (g.B.Bucket.number c.args.bucket.now) (g.B.Bucket.sole c.args.bucket.now) c.args.symbol.now (IsWritten c.args.symbol.now c.args.frame.now c.args.options.now) (g.B.Bucket.limit c.args.bucket.now) (g.B.Bucket.faults c.args.bucket.now) (g.B.Bucket.faults c.attempt.new.bucket) (length (g.B.Bucket.seen c.loop.bucket)) (g.B.Bucket.seen c.loop.bucket) (g.B.Bucket.seen c.attempt.new.bucket) c.in-Err.refused did c.in-Moved.now c.in-Moved.is in
    let place = moved_place (g.B.Bucket.number c.args.bucket.now) (g.B.Bucket.sole c.args.bucket.now) c.args.symbol.now (length (g.B.Bucket.seen c.loop.bucket)) (g.B.Bucket.seen c.loop.bucket) (g.B.Bucket.seen c.attempt.new.bucket) c.in-Err.refused c.in-Moved.now c.in-Moved.is met in
    let went = met_went (g.B.Bucket.number c.args.bucket.now) (g.B.Bucket.sole c.args.bucket.now) c.args.symbol.now (length (g.B.Bucket.seen c.loop.bucket)) (g.B.Bucket.seen c.loop.bucket) (g.B.Bucket.seen c.attempt.new.bucket) c.in-Err.refused met in
    record {
      steady = steady_then g.B.Bucket.number g.B.Bucket.limit g.B.Bucket.faults g.B.Bucket.sole c.args.bucket.now c.loop.bucket c.loop.invariant.steady c.attempt.new.bucket c.attempt.ensures.steady;
      so_far = tries_more (g.B.Bucket.number c.args.bucket.now) (g.B.Bucket.sole c.args.bucket.now) c.args.symbol.now (g.B.Bucket.seen c.args.bucket.now) (g.B.Bucket.seen c.loop.bucket) (g.B.Bucket.seen c.attempt.new.bucket) c.loop.counter c.in-Err.refused c.loop.invariant.so_far met;
      each = met_more (g.B.Bucket.number c.args.bucket.now) c.args.symbol.now true Always Whole (λ h more q z a b l. l) c.loop.counter (g.B.Bucket.seen c.args.bucket.now) (g.B.Bucket.seen c.loop.bucket) (g.B.Bucket.seen c.attempt.new.bucket) went.more c.loop.met c.in-Moved.now went.is c.loop.invariant.each
          (subst (IsMetTry (g.B.Bucket.seen c.attempt.new.bucket) (g.B.Bucket.number c.args.bucket.now) c.args.symbol.now true (λ q. Always (history_at (g.B.Bucket.seen c.attempt.new.bucket) q)) (Whole (g.B.Bucket.seen c.attempt.new.bucket)) (length (g.B.Bucket.seen c.loop.bucket)) (length (g.B.Bucket.seen c.attempt.new.bucket))) place
          (met_one (g.B.Bucket.number c.args.bucket.now) (g.B.Bucket.sole c.args.bucket.now) c.args.symbol.now Always Whole (length (g.B.Bucket.seen c.loop.bucket)) (g.B.Bucket.seen c.loop.bucket) (g.B.Bucket.seen c.attempt.new.bucket) c.in-Err.refused (omega arith) met tt));
      met = λ some. subst (IsMet (g.B.Bucket.number c.args.bucket.now) c.args.symbol.now (length (g.B.Bucket.seen c.args.bucket.now)) (g.B.Bucket.seen c.attempt.new.bucket)) place (last_met (g.B.Bucket.number c.args.bucket.now) (g.B.Bucket.sole c.args.bucket.now) c.args.symbol.now (g.B.Bucket.seen c.args.bucket.now) (g.B.Bucket.seen c.loop.bucket) (g.B.Bucket.seen c.attempt.new.bucket) c.loop.counter c.in-Err.refused c.loop.invariant.so_far met);
    }

pub returns-clause-did : goal.returns-clause-did
returns-clause-did g c =
    let ends : c.loop.counter ≡ c.args.options.now.tries = omega (arith, c.loop-test.false, c.loop.auto.counter-end) in
    inl (record {
      all = subst (DidRefused (g.B.Bucket.number c.args.bucket.now) (g.B.Bucket.sole c.args.bucket.now) c.args.symbol.now (g.B.Bucket.seen c.args.bucket.now) (g.B.Bucket.seen c.loop.bucket)) ends c.loop.invariant.so_far;
      each = subst (λ n. MetTries (g.B.Bucket.number c.args.bucket.now) c.args.symbol.now Always Whole n (g.B.Bucket.seen c.args.bucket.now) (g.B.Bucket.seen c.loop.bucket) c.loop.met) ends c.loop.invariant.each;
      met = c.loop.invariant.met (omega (arith, c.requires.some_tries, ends));
      why = refl;
    })
