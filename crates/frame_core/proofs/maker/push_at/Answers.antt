use Rattle.std.proofs.lemmas.Result.{on_ok_weaker, on_err_weaker}
use Rattle.frame_core.specs.Columns.{column_type, column_cells}
use Rattle.frame_core.proofs.MakerLemmas.{map-set_same, map-set_pushed, within_mapped}
use Rattle.frame_core.proofs.maker.push_at.Goals as goal

pub returns-clause-ok : goal.returns-clause-ok
returns-clause-ok c = on_ok_weaker c.push_cell.result (map-set_pushed column_cells _ _ _ _ _ (within_mapped column_type _ _ _ c.requires) c.index_mut.ensures.value) c.push_cell.ensures.ok

pub returns-clause-err : goal.returns-clause-err
returns-clause-err c = on_err_weaker c.push_cell.result (map-set_same column_cells _ _ _ _ (within_mapped column_type _ _ _ c.requires) c.index_mut.ensures.value) c.push_cell.ensures.err

pub returns-clause-kinds : goal.returns-clause-kinds
returns-clause-kinds c = map-set_same column_type _ _ _ _ (within_mapped column_type _ _ _ c.requires) c.index_mut.ensures.value c.push_cell.ensures.kind
