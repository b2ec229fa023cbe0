use Rattle.std.proofs.Common.{refl, sym, arith}
use Rattle.bucket_core.specs.Calls.{unname_event}
use Rattle.bucket_shared.proofs.unnaming.ClearNameChange.make.Goals as goal

pub returns-clause-made : goal.returns-clause-made
returns-clause-made c = λ client h shows.
    let stands = c.in_default.ensures h shows in
    record {
      room = omega (arith, c.in_ok-test_room.ensures.room, shows.count);
      test = stands;
      may = stands.0;
      shows = c.drop_key.ensures h (unname_event client c.args.self.snap.now) shows (sym c.args.self.key_is) refl (λ s. refl);
    }
