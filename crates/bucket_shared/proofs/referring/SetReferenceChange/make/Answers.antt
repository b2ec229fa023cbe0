use Rattle.std.proofs.Common.{◌∷◌, sym, ap, ◌∙◌, subst, arith, option_copied}
use Rattle.key_kind.specs.Names.{Name}
use Rattle.key_kind.specs.Keys.{reference_key}
use Rattle.bucket_core.specs.Calls.{refer_event}
use Rattle.bucket_core.specs.Showing.{Shows}
use Rattle.bucket_shared.proofs.referring.SetReferenceChange.make.Goals as goal

pub returns-in-Ok-clause-made : goal.returns-in-Ok-clause-made
returns-in-Ok-clause-made c = λ client h shows.
    let s = c.args.self in
    let was = c.in_default.ensures h shows in
    record {
      room = omega (arith, c.in_ok-test_room.ensures.room, shows.count);
      test = was;
      may = was;
      shows = subst (λ (symbol : Name). Shows c.refer.new.self (refer_event client symbol (option_copied s.was) s.entry s.changes.now ∷ h)) s.name_is
          (c.in-Ok.ensures.ok h client (option_copied s.was) s.changes.now shows (s.key_is ∙ ap (λ (symbol : Name). reference_key symbol) (sym s.name_is)) s.mark_is);
    }
