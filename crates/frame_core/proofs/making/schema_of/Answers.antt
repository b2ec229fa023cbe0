use Rattle.std.proofs.Common.{◌∙◌, ap}
use Rattle.frame_core.specs.Schemas.{Schema}
use Rattle.frame_core.proofs.RawLemmas.{heads_pushed, named_pushed}
use Rattle.frame_core.proofs.making.schema_of.Goals as goal

pub loop-place-preserved : goal.loop-place-preserved
loop-place-preserved c =
    let pushed = ap (λ (s : Schema). s.columns) c.in_ok-push.ensures.ok in
    record {
      timed = ap (λ (s : Schema). s.timed) c.in_ok-push.ensures.ok ∙ c.loop-place.invariant.timed;
      columns = heads_pushed _ _ _ _ _ _ _ _ _ c.loop-place-test.true c.requires c.index-names-place.is c.index-columns-place.is c.in_ok-copy.ensures.copy c.kind.ensures c.loop-place.invariant.columns pushed;
      named = named_pushed _ _ _ _ _ c.loop-place.invariant.named c.in_ok-copy.ensures.name c.in_ok-copy.ensures.copy pushed;
    }
