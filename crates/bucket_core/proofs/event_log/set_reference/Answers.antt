use Rattle.std.proofs.Common.{subst}
use Rattle.std.specs.Prelude.{OnOk}
use Rattle.std.specs.Arc.{arc_value}
use Rattle.key_kind.specs.Names.{Name}
use Rattle.key_kind.specs.declared.key.Key.{Key}
use Rattle.bucket_core.specs.Showing.{SetsReference}
use Rattle.bucket_core.proofs.event_log.set_reference.Goals as goal

pub returns-clause-ok : goal.returns-clause-ok
returns-clause-ok c =
    subst (λ (parts : (Name × Key) × Key). OnOk c.refer.result (SetsReference c.args.contents.now c.refer.new.self parts.0.0 parts.0.1 parts.1 (arc_value c.args.mark)))
    (λ i. (c.in_ok-name.ensures i, c.in_ok-entry.ensures i)) c.refer.ensures.ok
