use Rattle.std.proofs.lemmas.Result.{on_ok_weaker}
use Rattle.frame_core.specs.Columns.{column_type}
use Rattle.frame_core.proofs.MakerLemmas.{map-set_same, within_mapped}
use Rattle.segment_cut.proofs.JoinSteps.{set-appended}
use Rattle.segment_cut.proofs.joining.append_at.Goals as goal

pub returns-clause-ok : goal.returns-clause-ok
returns-clause-ok c = on_ok_weaker c.append.result (set-appended _ _ _ _ _ (within_mapped column_type _ _ _ c.requires) c.index_mut.ensures.value) c.append.ensures.ok

pub returns-clause-kinds : goal.returns-clause-kinds
returns-clause-kinds c = map-set_same column_type _ _ _ _ (within_mapped column_type _ _ _ c.requires) c.index_mut.ensures.value c.append.ensures.kind
