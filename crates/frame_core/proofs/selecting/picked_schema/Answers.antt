use Rattle.std.proofs.Common.{◌∙◌, ap, get_or}
use Rattle.frame_core.specs.Schemas.{Schema}
use Rattle.frame_core.proofs.SelectLemmas.{picked_more, copied_head}
use Rattle.frame_core.proofs.selecting.picked_schema.Goals as goal

pub loop-place-preserved : goal.loop-place-preserved
loop-place-preserved c = record {
  timed = ap (λ (s : Schema). s.timed) c.in_ok-push.ensures.ok ∙ c.loop-place.invariant.timed;
  columns = picked_more _ _ _ _ _ _ c.loop-place-test.true (copied_head c.args.schema.now.columns (get_or c.args.places.now c.loop-place.place-index 0) _ _ c.at.ensures c.in_ok-copy.ensures.copy) c.loop-place.invariant.columns (ap (λ (s : Schema). s.columns) c.in_ok-push.ensures.ok);
}
