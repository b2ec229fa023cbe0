use Rattle.std.proofs.Common.{rules, ◌≡◌, refl, sym, ◌∙◌, arith}
use Rattle.std.specs.Prelude.{is_some, true}
use Rattle.bucket_core.specs.History.{stored}
use Rattle.bucket_core.specs.Calls.{drop_event}
use Rattle.bucket_shared.proofs.Adding.{set_tells}
use Rattle.bucket_shared.proofs.dropping.DropObjectChange.make.Goals as goal

pub returns-clause-made : goal.returns-clause-made
returns-clause-made c = λ client h shows.
    let there : is_some c.set_at.result ≡ true = search rules in
    let stands : is_some (stored h c.args.self.key.now) ≡ true = sym (set_tells h c.args.self.key.now c.set_at.result (c.set_at.ensures h shows)) ∙ there in
    record {
      room = omega (arith, c.in_ok-test_room.ensures.room, shows.count);
      test = stands;
      may = stands;
      shows = c.drop_key.ensures h (drop_event client c.args.self.key.now) shows refl refl (λ s. refl);
    }
