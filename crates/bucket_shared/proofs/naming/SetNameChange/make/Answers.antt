use Rattle.std.proofs.Common.{rules, ◌≡◌, refl, sym, ◌∙◌, subst, arith}
use Rattle.std.specs.Prelude.{is_some, false}
use Rattle.std.specs.Arc.{arc_value}
use Rattle.key_kind.specs.declared.key.Key.{Key}
use Rattle.key_kind.specs.Keys.{snapshot_key}
use Rattle.bucket_core.specs.History.{stored}
use Rattle.bucket_core.specs.Calls.{name_event}
use Rattle.bucket_shared.proofs.Adding.{set_tells}
use Rattle.bucket_shared.proofs.naming.SetNameChange.make.Goals as goal

pub returns-in-Ok-clause-made : goal.returns-in-Ok-clause-made
returns-in-Ok-clause-made c = λ client h shows.
    let none : is_some c.set_at.result ≡ false = search rules in
    let free : is_some (stored h (snapshot_key c.args.self.snap.now)) ≡ false =
    subst (λ (key : Key). is_some (stored h key) ≡ false) c.args.self.key_is (sym (set_tells h c.args.self.key c.set_at.result (c.set_at.ensures h shows)) ∙ none) in
    record {
      room = omega (arith, c.in_ok-test_room.ensures.room, shows.count);
      test = free;
      may = free;
      shows = c.in-Ok.ensures.ok h (name_event client c.args.self.snap.now (arc_value c.args.self.body)) shows (sym c.args.self.key_is) refl (λ s. refl);
    }
