use Rattle.std.proofs.Common.{[], ◌∷◌, ◌++◌, ap, refl, ◌∙◌}
use Rattle.std.specs.Arc.{arc_value}
use Rattle.key_kind.specs.Keys.{reference_key}
use Rattle.bucket_core.specs.declared.event.Event.{Event}
use Rattle.bucket_core.proofs.ShowingLemmas.{Shows-referred}
use Rattle.bucket_core.proofs.event_log.EventLog.refer.Goals as goal

pub invariant_of-self-2 : goal.invariant_of-self-2
invariant_of-self-2 c =
    Shows-referred c.self.inside.events.items c.add_reference.new.events.items c.args.client c.args.symbol.now _ c.args.entry.now _
    c.self.inside.contents c.add_reference.new.contents (reference_key c.args.symbol.now) (arc_value c.args.mark) c.self.invariant
    (c.in_ok-add_reference.ensures.events
    ∙ ap (λ (event : Event). c.self.inside.events.items ++ event ∷ []) c.in_ok-event.ensures)
    c.in_ok-add_reference.ensures.contents
    refl
    c.requires.mark
