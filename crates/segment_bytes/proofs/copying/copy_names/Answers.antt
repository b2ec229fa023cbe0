use Rattle.std.proofs.Common.{map}
use Rattle.frame_core.specs.Schemas.{Head}
use Rattle.segment_bytes.proofs.Copies.{copied_same, name_at}
use Rattle.segment_bytes.proofs.copying.copy_names.Goals as goal

pub loop-col-preserved : goal.loop-col-preserved
loop-col-preserved c = copied_same c.loop-col.names c.push.new.self c.in-Ok.name (map (λ (h : Head). h.0) c.args.view.now.schema.columns) c.name.result.now c.loop-col.col c.loop-col.invariant (name_at c.args.view.now c.loop-col.col c.name.result.now c.name.ensures) c.in_ok-push-in-Ok.ensures.ok c.in-Ok.ensures.name
