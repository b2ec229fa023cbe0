use Rattle.std.proofs.Common.{ℕ, [], length, refl, sym, subst, inl, inr}
use Rattle.bucket_core.specs.History.{puts_by, history_at}
use Rattle.store_model.specs.Library.{State, state_of}
use Rattle.version_chain.proofs.Walked.{looks_none}
use Rattle.frame_write.specs.Links.{IsLinkMade}
use Rattle.frame_write.specs.Plans.{IsMadeBy}
use Rattle.frame_write.specs.Tries.{Made, DidTry}
use Rattle.frame_write.specs.Versions.{MayPlan}
use Rattle.frame_write.proofs.CommitLemmas.{plan_stops}
use Rattle.frame_write.proofs.LinkLemmas.{may_plan, made_told, planned, walked_state, link_made}
use Rattle.frame_write.proofs.ReplyLemmas.{try_goes_on}
use Rattle.frame_write.proofs.StateLemmas.{walked_lawful, was_told, rising_buried}
use Rattle.frame_write.proofs.TriesLemmas.{try_weaker}
use Rattle.frame_write.proofs.link.link_on.Goals as goal

pub plan_link-requires : goal.plan_link-requires
plan_link-requires g c =
    let l = c.requires.linkable in
    let lawful = g.met.B.Bucket.lawful c.args.bucket.now in
    let before_lawful = walked_lawful _ l.walked.later l.walked.before l.walked.split lawful in
    let may = may_plan (g.B.Bucket.number c.args.bucket.now) (g.B.Bucket.seen c.args.bucket.now) c.args.symbol.now c.args.tip.now c.args.options.now c.args.plan.now lawful l in
    record {
      was = was_told l.walked.before c.args.symbol.now c.args.options.now.prune c.args.tip.now before_lawful l.walked.is;
      rising = rising_buried l.walked.before c.args.symbol.now c.args.options.now.prune c.args.tip.now l.walked.is;
      fits = (
        l.walked.before,
        subst (λ n. MayPlan n c.serial.result l.walked.before c.args.symbol.now c.args.options.now.prune c.args.tip.now) (sym c.client.ensures)
            (subst (λ n. MayPlan (g.B.Bucket.number c.args.bucket.now) n l.walked.before c.args.symbol.now c.args.options.now.prune c.args.tip.now) (sym c.serial.ensures) may),
        l.fits,
      );
    }

pub commit-requires : goal.commit-requires
commit-requires g c =
    let l = c.requires.linkable in
    let may = may_plan (g.B.Bucket.number c.args.bucket.now) (g.B.Bucket.seen c.args.bucket.now) c.args.symbol.now c.args.tip.now c.args.options.now c.args.plan.now (g.met.B.Bucket.lawful c.args.bucket.now) l in
    let p = made_told (g.B.Bucket.number c.args.bucket.now) (puts_by (g.B.Bucket.number c.args.bucket.now) (g.B.Bucket.seen c.args.bucket.now)) c.client.result c.serial.result c.client.ensures c.serial.ensures l.walked.before c.args.symbol.now c.args.tip.now c.args.plan.now c.args.options.now c.in-Ok.made may
    (λ m. c.in-Ok.ensures l.walked.before m l.fits) in
    record { planned = (p.index, planned (g.B.Bucket.number c.args.bucket.now) (g.B.Bucket.seen c.args.bucket.now) c.args.symbol.now c.args.tip.now c.args.plan.now c.args.options.now c.in-Ok.made l p) }

pub returns-in_default-clause-grown : goal.returns-in_default-clause-grown
returns-in_default-clause-grown g c = record { more = []; is = refl; alone = λ e. tt; lawful = λ l. l }

pub returns-in_default-clause-did : goal.returns-in_default-clause-did
returns-in_default-clause-did g c = inr (inl (plan_stops (g.B.Bucket.number c.args.bucket.now) (g.B.Bucket.sole c.args.bucket.now) c.args.symbol.now (g.B.Bucket.limit c.args.bucket.now) (g.B.Bucket.faults c.args.bucket.now) (g.B.Bucket.faults c.args.bucket.now) c.args.tip.now.place (g.B.Bucket.seen c.args.bucket.now) (g.B.Bucket.seen c.args.bucket.now) c.place.result (looks_none (g.B.Bucket.number c.args.bucket.now) (g.B.Bucket.sole c.args.bucket.now) (g.B.Bucket.seen c.args.bucket.now)) c.place.ensures))

pub returns-clause-grown : goal.returns-clause-grown
returns-clause-grown g c =
    let l = c.requires.linkable in
    let may = may_plan (g.B.Bucket.number c.args.bucket.now) (g.B.Bucket.seen c.args.bucket.now) c.args.symbol.now c.args.tip.now c.args.options.now c.args.plan.now (g.met.B.Bucket.lawful c.args.bucket.now) l in
    let p = made_told (g.B.Bucket.number c.args.bucket.now) (puts_by (g.B.Bucket.number c.args.bucket.now) (g.B.Bucket.seen c.args.bucket.now)) c.client.result c.serial.result c.client.ensures c.serial.ensures l.walked.before c.args.symbol.now c.args.tip.now c.args.plan.now c.args.options.now c.in-Ok.made may
    (λ m. c.in-Ok.ensures l.walked.before m l.fits) in
    try_goes_on (g.B.Bucket.number c.args.bucket.now) (g.B.Bucket.sole c.args.bucket.now) c.args.symbol.now (IsMadeBy c.args.symbol.now (state_of l.walked.before c.args.symbol.now) p.index c.in-Ok.made) (g.B.Bucket.limit c.args.bucket.now) (g.B.Bucket.faults c.args.bucket.now) (g.B.Bucket.faults c.commit.new.bucket) (length l.walked.before) (g.B.Bucket.seen c.args.bucket.now) (g.B.Bucket.seen c.commit.new.bucket) c.commit.result
    (c.commit.ensures.did p.index (planned (g.B.Bucket.number c.args.bucket.now) (g.B.Bucket.seen c.args.bucket.now) c.args.symbol.now c.args.tip.now c.args.plan.now c.args.options.now c.in-Ok.made l p))

pub returns-clause-did : goal.returns-clause-did
returns-clause-did g c =
    let l = c.requires.linkable in
    let serial : ℕ = puts_by (g.B.Bucket.number c.args.bucket.now) (g.B.Bucket.seen c.args.bucket.now) in
    let may = may_plan (g.B.Bucket.number c.args.bucket.now) (g.B.Bucket.seen c.args.bucket.now) c.args.symbol.now c.args.tip.now c.args.options.now c.args.plan.now (g.met.B.Bucket.lawful c.args.bucket.now) l in
    let p = made_told (g.B.Bucket.number c.args.bucket.now) serial c.client.result c.serial.result c.client.ensures c.serial.ensures l.walked.before c.args.symbol.now c.args.tip.now c.args.plan.now c.args.options.now c.in-Ok.made may (λ m. c.in-Ok.ensures l.walked.before m l.fits) in
    let walked = walked_state (g.B.Bucket.number c.args.bucket.now) (g.B.Bucket.seen c.args.bucket.now) c.args.symbol.now c.args.tip.now c.args.options.now c.args.plan.now l in
    let follows : (m : Made) → IsMadeBy c.args.symbol.now (state_of l.walked.before c.args.symbol.now) p.index c.in-Ok.made m → IsLinkMade (g.B.Bucket.number c.args.bucket.now) serial c.args.symbol.now (state_of (history_at (g.B.Bucket.seen c.args.bucket.now) c.args.tip.now.place) c.args.symbol.now) c.args.plan.now c.args.options.now m =
    λ m b. subst (λ (st : State). IsLinkMade (g.B.Bucket.number c.args.bucket.now) serial c.args.symbol.now st c.args.plan.now c.args.options.now m) walked (link_made (g.B.Bucket.number c.args.bucket.now) serial c.args.symbol.now l.walked.before c.args.plan.now c.args.options.now c.in-Ok.made p m b) in
    subst (λ n. DidTry (g.B.Bucket.number c.args.bucket.now) (g.B.Bucket.sole c.args.bucket.now) c.args.symbol.now (IsLinkMade (g.B.Bucket.number c.args.bucket.now) serial c.args.symbol.now (state_of (history_at (g.B.Bucket.seen c.args.bucket.now) c.args.tip.now.place) c.args.symbol.now) c.args.plan.now c.args.options.now) (g.B.Bucket.limit c.args.bucket.now) (g.B.Bucket.faults c.args.bucket.now) (g.B.Bucket.faults c.commit.new.bucket) n (g.B.Bucket.seen c.args.bucket.now) (g.B.Bucket.seen c.commit.new.bucket) c.commit.result) (sym l.walked.place)
    (try_weaker (g.B.Bucket.number c.args.bucket.now) (g.B.Bucket.sole c.args.bucket.now) c.args.symbol.now (IsMadeBy c.args.symbol.now (state_of l.walked.before c.args.symbol.now) p.index c.in-Ok.made) (IsLinkMade (g.B.Bucket.number c.args.bucket.now) serial c.args.symbol.now (state_of (history_at (g.B.Bucket.seen c.args.bucket.now) c.args.tip.now.place) c.args.symbol.now) c.args.plan.now c.args.options.now) follows (g.B.Bucket.limit c.args.bucket.now) (g.B.Bucket.faults c.args.bucket.now) (g.B.Bucket.faults c.commit.new.bucket) (length l.walked.before) (g.B.Bucket.seen c.args.bucket.now) (g.B.Bucket.seen c.commit.new.bucket) c.commit.result
    (c.commit.ensures.did p.index (planned (g.B.Bucket.number c.args.bucket.now) (g.B.Bucket.seen c.args.bucket.now) c.args.symbol.now c.args.tip.now c.args.plan.now c.args.options.now c.in-Ok.made l p)))
