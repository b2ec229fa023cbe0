use Rattle.std.proofs.Common.{◌≡◌, ◌≤◌, length, sym, subst, false}
use Rattle.std.specs.List.{list_any}
use Rattle.bucket_core.specs.History.{AllByOthers, history_at, puts_by}
use Rattle.store_model.specs.Library.{state_of}
use Rattle.store_model.specs.Law.{IsClaimed}
use Rattle.version_chain.specs.Marking.{own_refers}
use Rattle.version_chain.proofs.SteadyLemmas.{on_err}
use Rattle.version_chain.proofs.TraceLemmas.{went_looks}
use Rattle.frame_read.proofs.LoopLemmas.{looks_more, steady_more}
use Rattle.frame_write.specs.Links.{FitsPlan, IsLinkMade}
use Rattle.frame_write.proofs.MeetLemmas.{later_not_own, none_in_both, others_refer_not}
use Rattle.frame_write.proofs.TriesLemmas.{try_steady}
use Rattle.append_update.specs.Asking.{answer_to, IsPlanOf, FitsBase}
use Rattle.append_update.specs.Looking.{RefusesPlan}
use Rattle.append_update.proofs.BaseLemmas.{walked_here}
use Rattle.append_update.proofs.TryLemmas.{tip_later, Did, look_ends, plan_wider, plan_ends, commit_ends}
use Rattle.append_update.proofs.attempt.attempt.Goals as goal

pub plan_on-requires : goal.plan_on-requires
plan_on-requires g c =
    let walked = c.in_ok-tip.ensures.tip in
    record {
      walked = (
        walked,
        later_not_own (g.B.Bucket.number c.walk_tip.new.bucket) c.args.symbol.now (g.B.Bucket.seen c.args.bucket.now) (g.B.Bucket.seen c.walk_tip.new.bucket) walked.later walked.before (sym walked.split) c.walk_tip.ensures.looks.others c.walk_tip.ensures.looks.is
            (subst (λ n. AllByOthers n c.walk_tip.ensures.looks.others) (sym c.walk_tip.ensures.steady.same_number) c.walk_tip.ensures.looks.by_others) (subst (λ n. length (g.B.Bucket.seen c.args.bucket.now) ≤ n) walked.place c.in_ok-tip.ensures.place.from),
      );
      wish = c.requires.wish;
    }

pub link_on-requires : goal.link_on-requires
link_on-requires g c =
    let walked = c.in_ok-tip.ensures.tip in
    let number = g.B.Bucket.number c.plan_on.new.bucket in
    let same = c.plan_on.ensures.steady.same_number in
    let none = later_not_own (g.B.Bucket.number c.walk_tip.new.bucket) c.args.symbol.now (g.B.Bucket.seen c.args.bucket.now) (g.B.Bucket.seen c.walk_tip.new.bucket) walked.later walked.before (sym walked.split) c.walk_tip.ensures.looks.others c.walk_tip.ensures.looks.is
    (subst (λ n. AllByOthers n c.walk_tip.ensures.looks.others) (sym c.walk_tip.ensures.steady.same_number) c.walk_tip.ensures.looks.by_others) (subst (λ n. length (g.B.Bucket.seen c.args.bucket.now) ≤ n) walked.place c.in_ok-tip.ensures.place.from) in
    record {
      linkable = record {
        walked = tip_later (g.B.Bucket.seen c.walk_tip.new.bucket) (g.B.Bucket.seen c.plan_on.new.bucket) c.plan_on.ensures.looks.others c.args.symbol.now c.args.options.now.prune c.in_ok-tip.tip c.plan_on.ensures.looks.is walked;
        none_own = none_in_both (own_refers number c.args.symbol.now) c.plan_on.ensures.looks.others walked.later
            (others_refer_not number c.args.symbol.now c.plan_on.ensures.looks.others (subst (λ n. AllByOthers n c.plan_on.ensures.looks.others) (sym same) c.plan_on.ensures.looks.by_others))
            (subst (λ n. list_any (own_refers n c.args.symbol.now) walked.later ≡ false) (sym same) none);
        fits = subst (λ h. FitsPlan h c.args.symbol.now c.args.options.now.at c.in_ok-plan.plan) (walked_here (g.B.Bucket.seen c.walk_tip.new.bucket) c.args.symbol.now c.args.options.now.prune c.in_ok-tip.tip walked) c.in_ok-plan.ensures.plan.fits;
      };
    }

pub returns-in_err-tip-clause-did : goal.returns-in_err-tip-clause-did
returns-in_err-tip-clause-did g c =
    on_err (Did (g.B.Bucket.number c.args.bucket.now) (g.B.Bucket.sole c.args.bucket.now) c.args.symbol.now c.args.wish.now c.args.options.now (g.B.Bucket.limit c.args.bucket.now) (g.B.Bucket.faults c.args.bucket.now) (g.B.Bucket.faults c.walk_tip.new.bucket) (g.B.Bucket.seen c.args.bucket.now) (g.B.Bucket.seen c.walk_tip.new.bucket))
    c.from_residual.result c.in_err-tip.field-0.0 c.from_residual.ensures.0 c.from_residual.ensures.1
    (look_ends (g.B.Bucket.number c.args.bucket.now) (g.B.Bucket.sole c.args.bucket.now) c.args.symbol.now c.args.wish.now c.args.options.now (g.B.Bucket.limit c.args.bucket.now) (g.B.Bucket.faults c.args.bucket.now) (g.B.Bucket.faults c.walk_tip.new.bucket) (g.B.Bucket.seen c.args.bucket.now) (g.B.Bucket.seen c.walk_tip.new.bucket)
    c.in_err-tip.field-0.0 c.walk_tip.ensures.looks c.in_err-tip.ensures.refused)

pub returns-in_err-plan-clause-did : goal.returns-in_err-plan-clause-did
returns-in_err-plan-clause-did g c =
    let walked = c.in_ok-tip.ensures.tip in
    let looks = looks_more IsClaimed (g.B.Bucket.number c.args.bucket.now) (g.B.Bucket.sole c.args.bucket.now) (g.B.Bucket.number c.walk_tip.new.bucket) (g.B.Bucket.sole c.walk_tip.new.bucket)
    (g.B.Bucket.seen c.args.bucket.now) (g.B.Bucket.seen c.walk_tip.new.bucket) (g.B.Bucket.seen c.plan_on.new.bucket) c.walk_tip.ensures.steady.same_number c.walk_tip.ensures.steady.stays_sole c.walk_tip.ensures.looks c.plan_on.ensures.looks in
    let here = walked_here (g.B.Bucket.seen c.walk_tip.new.bucket) c.args.symbol.now c.args.options.now.prune c.in_ok-tip.tip walked in
    let answer = answer_to c.args.wish.now c.args.options.now.prune c.args.options.now.at in
    let refuses = subst (λ n. RefusesPlan n c.args.symbol.now (FitsBase c.args.wish.now) answer walked.before (g.B.Bucket.faults c.walk_tip.new.bucket) (g.B.Bucket.faults c.plan_on.new.bucket) (g.B.Bucket.seen c.walk_tip.new.bucket) (g.B.Bucket.seen c.plan_on.new.bucket) c.in_err-plan.field-0.0) c.walk_tip.ensures.steady.same_number
    (subst (λ h. RefusesPlan (g.B.Bucket.number c.walk_tip.new.bucket) c.args.symbol.now (FitsBase c.args.wish.now) answer h (g.B.Bucket.faults c.walk_tip.new.bucket) (g.B.Bucket.faults c.plan_on.new.bucket) (g.B.Bucket.seen c.walk_tip.new.bucket) (g.B.Bucket.seen c.plan_on.new.bucket) c.in_err-plan.field-0.0) here c.in_err-plan.ensures.refused) in
    on_err (Did (g.B.Bucket.number c.args.bucket.now) (g.B.Bucket.sole c.args.bucket.now) c.args.symbol.now c.args.wish.now c.args.options.now (g.B.Bucket.limit c.args.bucket.now) (g.B.Bucket.faults c.args.bucket.now) (g.B.Bucket.faults c.plan_on.new.bucket) (g.B.Bucket.seen c.args.bucket.now) (g.B.Bucket.seen c.plan_on.new.bucket))
    c.from_residual-in_err-plan.result c.in_err-plan.field-0.0 c.from_residual-in_err-plan.ensures.0 c.from_residual-in_err-plan.ensures.1
    (plan_ends (g.B.Bucket.number c.args.bucket.now) (g.B.Bucket.sole c.args.bucket.now) c.args.symbol.now c.args.wish.now c.args.options.now (g.B.Bucket.limit c.args.bucket.now) (g.B.Bucket.faults c.args.bucket.now) (g.B.Bucket.faults c.plan_on.new.bucket) (g.B.Bucket.seen c.args.bucket.now) (g.B.Bucket.seen c.plan_on.new.bucket)
    c.in_ok-tip.tip c.in_err-plan.field-0.0 looks (tip_later (g.B.Bucket.seen c.walk_tip.new.bucket) (g.B.Bucket.seen c.plan_on.new.bucket) c.plan_on.ensures.looks.others c.args.symbol.now c.args.options.now.prune c.in_ok-tip.tip c.plan_on.ensures.looks.is walked) c.in_ok-tip.ensures.place.from
    (plan_wider (g.B.Bucket.number c.args.bucket.now) c.args.symbol.now (FitsBase c.args.wish.now) answer walked.before (g.B.Bucket.faults c.args.bucket.now) (g.B.Bucket.faults c.walk_tip.new.bucket) (g.B.Bucket.faults c.plan_on.new.bucket) c.walk_tip.ensures.looks.others
    (g.B.Bucket.seen c.args.bucket.now) (g.B.Bucket.seen c.walk_tip.new.bucket) (g.B.Bucket.seen c.plan_on.new.bucket) c.in_err-plan.field-0.0 c.walk_tip.ensures.steady.faults_rise c.walk_tip.ensures.looks.is refuses))

pub returns-clause-did : goal.returns-clause-did
returns-clause-did g c =
    let walked = c.in_ok-tip.ensures.tip in
    let looks = looks_more IsClaimed (g.B.Bucket.number c.args.bucket.now) (g.B.Bucket.sole c.args.bucket.now) (g.B.Bucket.number c.walk_tip.new.bucket) (g.B.Bucket.sole c.walk_tip.new.bucket)
    (g.B.Bucket.seen c.args.bucket.now) (g.B.Bucket.seen c.walk_tip.new.bucket) (g.B.Bucket.seen c.plan_on.new.bucket) c.walk_tip.ensures.steady.same_number c.walk_tip.ensures.steady.stays_sole c.walk_tip.ensures.looks c.plan_on.ensures.looks in
    let steady = steady_more g.B.Bucket.number g.B.Bucket.limit g.B.Bucket.faults g.B.Bucket.sole c.args.bucket.now c.walk_tip.new.bucket c.plan_on.new.bucket c.walk_tip.ensures.steady c.plan_on.ensures.steady in
    let mid = g.B.Bucket.seen c.plan_on.new.bucket in
    let answer = answer_to c.args.wish.now c.args.options.now.prune c.args.options.now.at in
    commit_ends (g.B.Bucket.number c.args.bucket.now) (g.B.Bucket.sole c.args.bucket.now) c.args.symbol.now c.args.wish.now c.args.options.now (g.B.Bucket.limit c.args.bucket.now) (g.B.Bucket.faults c.args.bucket.now) (g.B.Bucket.faults c.link_on.new.bucket) (g.B.Bucket.seen c.args.bucket.now)
    mid (g.B.Bucket.seen c.link_on.new.bucket) (went_looks (g.B.Bucket.number c.args.bucket.now) (g.B.Bucket.sole c.args.bucket.now) (g.B.Bucket.seen c.args.bucket.now) mid looks) c.in_ok-tip.tip
    (tip_later (g.B.Bucket.seen c.walk_tip.new.bucket) mid c.plan_on.ensures.looks.others c.args.symbol.now c.args.options.now.prune c.in_ok-tip.tip c.plan_on.ensures.looks.is walked) c.in_ok-tip.ensures.place.from c.in_ok-plan.plan
    (subst (λ h. IsPlanOf h c.args.symbol.now c.args.options.now answer c.in_ok-plan.plan) (walked_here (g.B.Bucket.seen c.walk_tip.new.bucket) c.args.symbol.now c.args.options.now.prune c.in_ok-tip.tip walked) c.in_ok-plan.ensures.plan)
    c.link_on.ensures.grown.more c.link_on.ensures.grown.is c.link_on.result
    (try_steady g.B.Bucket.number g.B.Bucket.limit g.B.Bucket.faults g.B.Bucket.sole c.args.bucket.now c.plan_on.new.bucket steady c.args.symbol.now (g.B.Bucket.faults c.link_on.new.bucket) c.in_ok-tip.tip.place mid (g.B.Bucket.seen c.link_on.new.bucket)
    (λ n. IsLinkMade n (puts_by n mid) c.args.symbol.now (state_of (history_at mid c.in_ok-tip.tip.place) c.args.symbol.now) c.in_ok-plan.plan c.args.options.now) c.link_on.result c.link_on.ensures.did)
