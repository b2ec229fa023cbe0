use Rattle.frame_core.specs.declared.cell.ColType.TheVariants as types
use Rattle.segment_bytes.proofs.Getters.{cells_seen, flag_at}
use Rattle.segment_bytes.proofs.column_view.ColumnView.flag.Goals as goal

pub bounds-self-inside-row : goal.bounds-self-inside-row
bounds-self-inside-row c = (flag_at _ _ _ _ (cells_seen _ types.Flag _ _ _ c.self.invariant c.self.view_is c.requires.kind) c.requires.row).long

pub returns : goal.returns
returns c = (flag_at _ _ _ _ (cells_seen _ types.Flag _ _ _ c.self.invariant c.self.view_is c.requires.kind) c.requires.row).is
