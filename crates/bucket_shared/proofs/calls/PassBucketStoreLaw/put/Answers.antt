use Rattle.std.proofs.Common.{rules, ◌≡◌, refl, arith}
use Rattle.std.specs.Prelude.{is_ok, true, ⊤}
use Rattle.bucket_shared.specs.Changes.{OrNoMemory}
use Rattle.std.specs.Arc.{arc_value}
use Rattle.bucket_core.specs.Calls.{put_event, RefusesPut}
use Rattle.bucket_shared.specs.SeatCalls.{number_at, badge_at, seen_at}
use Rattle.bucket_shared.specs.Sole.{is_sole}
use Rattle.bucket_shared.proofs.Adding.{claim-later}
use Rattle.bucket_shared.proofs.Trying.{served_put}
use Rattle.bucket_shared.proofs.calls.PassBucketStoreLaw.put.Goals as goal

pub change-answer-requires : goal.change-answer-requires
change-answer-requires g c = λ now looks lawful tested.
    let s = c.args.self.now.seated in
    claim-later (number_at s) (is_sole (badge_at s)) (seen_at s) now (put_event (number_at s) c.args.key (arc_value c.args.body)) looks lawful refl tt c.requires.claim

-- the put was added
pub overflow_add-self : goal.overflow_add-self
overflow_add-self g c =
    let s = c.args.self.now.seated in
    let ok : is_ok c.change-answer.result ≡ true = search rules in
    let put = served_put s c.change-answer.new.self c.args.key (arc_value c.args.body) (λ h. ⊤) (OrNoMemory (RefusesPut s.limit)) c.change-answer.result ok c.change-answer.ensures.did in
    omega (arith, c.args.self.now.served, put.room)
