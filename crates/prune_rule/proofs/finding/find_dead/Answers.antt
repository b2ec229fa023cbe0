use Rattle.std.proofs.Common.{◌≡◌, false, length, inl, inr, subst, refl, arith, Ok, []}
use Rattle.std.specs.Prelude.{IfErr}
use Rattle.version_chain.specs.Marking.{IsMet}
use Rattle.version_chain.proofs.MeetLemmas.{met_sooner}
use Rattle.version_chain.proofs.SteadyLemmas.{on_err, steady_then, grown_steady}
use Rattle.version_chain.proofs.Walked.{looks_then, looks_length}
use Rattle.prune_rule.specs.declared.finding.Looked.{Looked}
use Rattle.prune_rule.specs.Finding.{DidLook, RefusesDead, MetLooks}
use Rattle.reply_model.specs.Losses.{LosesIndex}
use Rattle.reply_model.proofs.MetTries as tries
use Rattle.prune_rule.proofs.FindingEnds.{found_sooner, refused_sooner, all_met_at, lost_later, look_seen}
use Rattle.prune_rule.proofs.ReachLemmas.{met_none, met_more}
use Rattle.prune_rule.proofs.finding.find_dead.Goals as goal

pub loop-init : goal.loop-init
loop-init g c = record {
  steady = record { same_number = refl; same_limit = refl; faults_rise = omega arith; stays_sole = λ e. e };
  so_far = met_none _ _ _ _;
  each = refl;
  met = λ some. absurd (omega (arith, some));
}

pub returns-in_err-dead-clause-looks : goal.returns-in_err-dead-clause-looks
returns-in_err-dead-clause-looks g c = looks_then _ _ _ _ _ _ _ c.loop.invariant.steady.same_number c.loop.invariant.steady.stays_sole c.loop.invariant.so_far.looks c.look_once.ensures.looks

pub returns-in_err-dead-clause-refused : goal.returns-in_err-dead-clause-refused
returns-in_err-dead-clause-refused g c =
    on_err (λ r. IfErr r (RefusesDead (g.B.Bucket.number c.args.bucket.now) (g.B.Bucket.sole c.args.bucket.now) c.args.symbol.now c.args.tries (g.B.Bucket.faults c.args.bucket.now) (g.B.Bucket.faults c.look_once.new.bucket) (g.B.Bucket.seen c.args.bucket.now) (g.B.Bucket.seen c.look_once.new.bucket)))
    c.from_residual.result c.in_err-dead.field-0.0 c.from_residual.ensures.0 c.from_residual.ensures.1
    (inl (refused_sooner _ _ _ _ _ _ _ _ c.loop.invariant.steady.faults_rise (looks_length _ _ _ _ c.loop.invariant.so_far.looks) c.in_err-dead.ensures.did))

pub returns-in-Found-clause-looks : goal.returns-in-Found-clause-looks
returns-in-Found-clause-looks g c = looks_then _ _ _ _ _ _ _ c.loop.invariant.steady.same_number c.loop.invariant.steady.stays_sole c.loop.invariant.so_far.looks c.look_once.ensures.looks

pub returns-in-Found-clause-found : goal.returns-in-Found-clause-found
returns-in-Found-clause-found g c =
    found_sooner _ _ _ _ _ _ _ c.in-Found.dead c.loop.invariant.so_far
    (subst (λ (t : Looked). DidLook (g.B.Bucket.number c.loop.bucket) c.args.symbol.now (g.B.Bucket.faults c.loop.bucket) (g.B.Bucket.faults c.look_once.new.bucket) (g.B.Bucket.seen c.loop.bucket) (g.B.Bucket.seen c.look_once.new.bucket) (Ok t)) c.in-Found.is c.in_ok-dead.ensures.did)

pub loop-preserved : goal.loop-preserved
loop-preserved g c =
    let did =
    (subst (λ (t : Looked). DidLook (g.B.Bucket.number c.loop.bucket) c.args.symbol.now (g.B.Bucket.faults c.loop.bucket) (g.B.Bucket.faults c.look_once.new.bucket) (g.B.Bucket.seen c.loop.bucket) (g.B.Bucket.seen c.look_once.new.bucket) (Ok t)) c.in-Met.is c.in_ok-dead.ensures.did) in
    let m : IsMet (g.B.Bucket.number c.args.bucket.now) c.args.symbol.now (length (g.B.Bucket.seen c.loop.bucket)) (g.B.Bucket.seen c.look_once.new.bucket) c.in-Met.place =
    subst (λ n. IsMet n c.args.symbol.now (length (g.B.Bucket.seen c.loop.bucket)) (g.B.Bucket.seen c.look_once.new.bucket) c.in-Met.place) c.loop.invariant.steady.same_number did.0 in
    let looks = (grown_steady g.B.Bucket.number g.B.Bucket.limit g.B.Bucket.faults g.B.Bucket.sole c.args.bucket.now c.loop.bucket c.loop.invariant.steady (g.B.Bucket.seen c.loop.bucket) (g.B.Bucket.seen c.look_once.new.bucket) (λ n. []) c.look_once.ensures.looks) in
    record {
      steady = steady_then g.B.Bucket.number g.B.Bucket.limit g.B.Bucket.faults g.B.Bucket.sole c.args.bucket.now c.loop.bucket c.loop.invariant.steady c.look_once.new.bucket c.look_once.ensures.steady;
      so_far = met_more _ _ _ _ _ _ _ _ c.loop.invariant.so_far
          (grown_steady g.B.Bucket.number g.B.Bucket.limit g.B.Bucket.faults g.B.Bucket.sole c.args.bucket.now c.loop.bucket c.loop.invariant.steady (g.B.Bucket.seen c.loop.bucket) (g.B.Bucket.seen c.look_once.new.bucket) (λ n. []) c.look_once.ensures.looks) m;
      each = tries.met_more (g.B.Bucket.number c.args.bucket.now) c.args.symbol.now false (λ h. ⊥) (λ h. LosesIndex h c.args.symbol.now) (λ h more q z a b l. lost_later c.args.symbol.now h more q z a b l) c.loop.counter (g.B.Bucket.seen c.args.bucket.now) (g.B.Bucket.seen c.loop.bucket) (g.B.Bucket.seen c.look_once.new.bucket)
          looks.others c.loop.met c.in-Met.place looks.is c.loop.invariant.each
          (look_seen (g.B.Bucket.number c.args.bucket.now) (g.B.Bucket.sole c.args.bucket.now) c.args.symbol.now (g.B.Bucket.seen c.loop.bucket) (g.B.Bucket.seen c.look_once.new.bucket) c.in-Met.place looks did.1);
      met = λ some. met_sooner _ _ _ _ _ _ (looks_length _ _ _ _ c.loop.invariant.so_far.looks) m;
    }

pub returns-clause-refused : goal.returns-clause-refused
returns-clause-refused g c =
    let ends : c.loop.counter ≡ c.args.tries = omega (arith, c.loop-test.false, c.loop.auto.counter-end) in
    inr (all_met_at _ _ _ c.loop.counter c.args.tries _ _ c.loop.met c.loop.invariant.so_far c.loop-test.false (c.loop.invariant.met (omega (arith, c.requires.some_tries, c.loop-test.false)))
    (subst (λ n. MetLooks (g.B.Bucket.number c.args.bucket.now) c.args.symbol.now n (g.B.Bucket.seen c.args.bucket.now) (g.B.Bucket.seen c.loop.bucket) c.loop.met) ends c.loop.invariant.each))
