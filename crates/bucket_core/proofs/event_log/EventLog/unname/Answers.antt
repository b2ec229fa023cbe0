use Rattle.std.proofs.Common.{None, refl, ap, sym, ◌∙◌}
use Rattle.key_kind.specs.Names.{Name}
use Rattle.key_kind.specs.Keys.{snapshot_key}
use Rattle.bucket_core.specs.Calls.{unname_event}
use Rattle.bucket_core.proofs.ShowingLemmas.{Shows-added}
use Rattle.bucket_core.proofs.event_log.EventLog.unname.Goals as goal

pub invariant_of-self-2 : goal.invariant_of-self-2
invariant_of-self-2 c =
    Shows-added c.self.inside.events.items c.push_event.new.events.items (unname_event c.args.client c.in_ok-copy.field-0)
    c.self.inside.contents c.drop_key.new.self c.args.key.now None c.self.invariant
    c.in_ok-push_event.ensures.ok c.drop_key.ensures
    (ap (λ (n : Name). snapshot_key n) c.in_ok-copy.ensures ∙ sym c.requires.key) refl (λ s. refl)
