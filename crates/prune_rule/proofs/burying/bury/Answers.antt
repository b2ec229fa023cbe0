use Rattle.std.proofs.Common.{◌≡◌, ◌<◌, inl, inr, refl, subst, false, arith, Ok, Err, rules}
use Rattle.version_chain.proofs.SteadyLemmas.{on_err, steady_then}
use Rattle.prune_rule.specs.Burials.{burial_of}
use Rattle.prune_rule.specs.declared.burying.Tried.{Tried}
use Rattle.reply_model.proofs.MetTries.{met_more}
use Rattle.prune_rule.specs.Tries.{DidAttempt, DidTries, DidRefused, MetTries, Buries, Whole}
use Rattle.prune_rule.proofs.TriesLemmas.{met_one, met_went, tries_more, last_met, end_steady, meet_steady}
use Rattle.prune_rule.proofs.burying.bury.Goals as goal

pub returns-in_err-buried-clause-did : goal.returns-in_err-buried-clause-did
returns-in_err-buried-clause-did g c =
    let few : c.loop.counter < c.args.tries = search rules in
    on_err (DidTries (g.B.Bucket.number c.args.bucket.now) (g.B.Bucket.sole c.args.bucket.now) c.args.symbol.now (burial_of c.args.wish) c.args.tries (g.B.Bucket.limit c.args.bucket.now) (g.B.Bucket.faults c.args.bucket.now) (g.B.Bucket.faults c.attempt.new.bucket) (g.B.Bucket.seen c.args.bucket.now) (g.B.Bucket.seen c.attempt.new.bucket))
    c.from_residual.result c.in_err-buried.field-0.0 c.from_residual.ensures.0 c.from_residual.ensures.1
    (inr (record {
      count = c.loop.counter;
      few = few;
      mid = g.B.Bucket.seen c.loop.bucket;
      refused = c.loop.invariant.so_far;
      last = end_steady g.B.Bucket.number g.B.Bucket.limit g.B.Bucket.faults g.B.Bucket.sole c.args.bucket.now c.loop.bucket c.loop.invariant.steady c.args.symbol.now (burial_of c.args.wish) (g.B.Bucket.faults c.attempt.new.bucket) (g.B.Bucket.seen c.loop.bucket) (g.B.Bucket.seen c.attempt.new.bucket) (Err c.in_err-buried.field-0.0) c.in_err-buried.ensures.did;
    }))

pub loop-preserved : goal.loop-preserved
loop-preserved g c =
    let did = meet_steady g.B.Bucket.number g.B.Bucket.limit g.B.Bucket.faults g.B.Bucket.sole c.args.bucket.now c.loop.bucket c.loop.invariant.steady c.args.symbol.now (burial_of c.args.wish) (g.B.Bucket.faults c.attempt.new.bucket) (g.B.Bucket.seen c.loop.bucket) (g.B.Bucket.seen c.attempt.new.bucket) c.in-Met.place
    (subst (λ (t : Tried). DidAttempt (g.B.Bucket.number c.loop.bucket) (g.B.Bucket.sole c.loop.bucket) c.args.symbol.now (burial_of c.args.wish) (g.B.Bucket.limit c.loop.bucket) (g.B.Bucket.faults c.loop.bucket) (g.B.Bucket.faults c.attempt.new.bucket) (g.B.Bucket.seen c.loop.bucket) (g.B.Bucket.seen c.attempt.new.bucket) (Ok t)) c.in-Met.is c.in_ok-buried.ensures.did) in
    let went = met_went (g.B.Bucket.number c.args.bucket.now) (g.B.Bucket.sole c.args.bucket.now) c.args.symbol.now (burial_of c.args.wish) (g.B.Bucket.seen c.loop.bucket) (g.B.Bucket.seen c.attempt.new.bucket) c.in-Met.place did in
    record {
      steady = steady_then g.B.Bucket.number g.B.Bucket.limit g.B.Bucket.faults g.B.Bucket.sole c.args.bucket.now c.loop.bucket c.loop.invariant.steady c.attempt.new.bucket c.attempt.ensures.steady;
      so_far = tries_more (g.B.Bucket.number c.args.bucket.now) (g.B.Bucket.sole c.args.bucket.now) c.args.symbol.now (burial_of c.args.wish) (g.B.Bucket.seen c.args.bucket.now) (g.B.Bucket.seen c.loop.bucket) (g.B.Bucket.seen c.attempt.new.bucket) c.loop.counter c.in-Met.place c.loop.invariant.so_far did;
      each = met_more (g.B.Bucket.number c.args.bucket.now) c.args.symbol.now false (Buries c.args.symbol.now (burial_of c.args.wish)) Whole (λ h more q z a b l. l) c.loop.counter (g.B.Bucket.seen c.args.bucket.now) (g.B.Bucket.seen c.loop.bucket) (g.B.Bucket.seen c.attempt.new.bucket)
          went.more c.loop.met c.in-Met.place went.is c.loop.invariant.each
          (met_one (g.B.Bucket.number c.args.bucket.now) (g.B.Bucket.sole c.args.bucket.now) c.args.symbol.now (burial_of c.args.wish) (g.B.Bucket.seen c.loop.bucket) (g.B.Bucket.seen c.attempt.new.bucket) c.in-Met.place did);
      met = λ some. last_met (g.B.Bucket.number c.args.bucket.now) (g.B.Bucket.sole c.args.bucket.now) c.args.symbol.now (burial_of c.args.wish) (g.B.Bucket.seen c.args.bucket.now) (g.B.Bucket.seen c.loop.bucket) (g.B.Bucket.seen c.attempt.new.bucket) c.loop.counter c.in-Met.place c.loop.invariant.so_far did;
    }

pub returns-clause-did : goal.returns-clause-did
returns-clause-did g c =
    let ends : c.loop.counter ≡ c.args.tries = omega (arith, c.loop-test.false, c.loop.auto.counter-end) in
    inl (record {
      all = subst (DidRefused (g.B.Bucket.number c.args.bucket.now) (g.B.Bucket.sole c.args.bucket.now) c.args.symbol.now (g.B.Bucket.seen c.args.bucket.now) (g.B.Bucket.seen c.loop.bucket)) ends c.loop.invariant.so_far;
      each = subst (λ n. MetTries (g.B.Bucket.number c.args.bucket.now) c.args.symbol.now (burial_of c.args.wish) n (g.B.Bucket.seen c.args.bucket.now) (g.B.Bucket.seen c.loop.bucket) c.loop.met) ends c.loop.invariant.each;
      met = c.loop.invariant.met (omega (arith, c.requires.some_tries, ends));
      why = refl;
    })
