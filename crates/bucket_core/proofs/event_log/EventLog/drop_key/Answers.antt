use Rattle.std.proofs.Common.{None, refl}
use Rattle.bucket_core.specs.Calls.{drop_event}
use Rattle.bucket_core.proofs.ShowingLemmas.{Shows-added}
use Rattle.bucket_core.proofs.event_log.EventLog.drop_key.Goals as goal

pub invariant_of-self-2 : goal.invariant_of-self-2
invariant_of-self-2 c =
    Shows-added c.self.inside.events.items c.push_event.new.events.items (drop_event c.args.client c.in_ok-copy.field-0)
    c.self.inside.contents c.drop_key.new.self c.args.key.now None c.self.invariant
    c.in_ok-push_event.ensures.ok c.drop_key.ensures c.in_ok-copy.ensures refl (λ s. refl)
