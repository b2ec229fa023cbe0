use Rattle.std.proofs.Common.{refl}
use Rattle.bucket_core.specs.Calls.{unname_event}
use Rattle.bucket_shared.specs.SeatCalls.{number_at, badge_at, seen_at}
use Rattle.bucket_shared.specs.Sole.{is_sole}
use Rattle.bucket_shared.proofs.Adding.{claim-later}
use Rattle.bucket_shared.proofs.calls.PassBucketStoreLaw.unname.Goals as goal

pub change-requires : goal.change-requires
change-requires g c = λ now looks lawful tested.
    let s = c.args.self.now.seated in
    claim-later (number_at s) (is_sole (badge_at s)) (seen_at s) now (unname_event (number_at s) c.args.snap.now) looks lawful refl tt c.requires.claim
