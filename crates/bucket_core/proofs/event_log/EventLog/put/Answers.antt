use Rattle.std.proofs.Common.{Some, [], ◌∷◌, ◌++◌, refl, ap, ◌∙◌}
use Rattle.std.specs.Arc.{arc_value}
use Rattle.bucket_core.specs.declared.event.Event.{Event}
use Rattle.bucket_core.specs.Calls.{put_event}
use Rattle.bucket_core.proofs.ShowingLemmas.{Shows-added}
use Rattle.bucket_core.proofs.event_log.EventLog.put.Goals as goal

pub invariant_of-self-2 : goal.invariant_of-self-2
invariant_of-self-2 c =
    Shows-added c.self.inside.events.items c.add_body.new.events.items (put_event c.args.client c.args.key (arc_value c.args.body))
    c.self.inside.contents c.add_body.new.contents c.args.key (Some (arc_value c.args.body)) c.self.invariant
    (c.in_ok-add_body.ensures.events
    ∙ ap (λ (event : Event). c.self.inside.events.items ++ event ∷ []) c.in_ok-event.ensures)
    c.in_ok-add_body.ensures.contents
    refl refl (λ s. refl)
