use Rattle.bucket_shared.specs.SeatCalls.{number_at, badge_at, seen_at}
use Rattle.bucket_shared.specs.Sole.{is_sole}
use Rattle.bucket_shared.proofs.Gone.{drop-later}
use Rattle.bucket_shared.proofs.calls.PassBucketStoreLaw.drop_key.Goals as goal

pub change-requires : goal.change-requires
change-requires g c = λ now looks lawful stands.
    let s = c.args.self.now.seated in
    drop-later (number_at s) (is_sole (badge_at s)) (seen_at s) now c.args.key.now looks lawful c.requires.may stands
