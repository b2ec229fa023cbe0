use Rattle.std.proofs.Common.{refl, arith}
use Rattle.std.specs.Arc.{arc_value}
use Rattle.bucket_core.specs.Calls.{put_event}
use Rattle.bucket_shared.proofs.putting.PutChange.make.Goals as goal

pub returns-in-Ok-clause-made : goal.returns-in-Ok-clause-made
returns-in-Ok-clause-made c = λ client h shows. record {
  room = omega (arith, c.in_ok-test_room.ensures.room, shows.count);
  test = tt;
  may = tt;
  shows = c.in-Ok.ensures.ok h (put_event client c.args.self.key (arc_value c.args.self.body)) shows refl refl (λ s. refl);
}
