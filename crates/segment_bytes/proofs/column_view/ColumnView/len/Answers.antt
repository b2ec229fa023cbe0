use Rattle.segment_bytes.proofs.Getters.{column_len}
use Rattle.segment_bytes.proofs.column_view.ColumnView.len.Goals as goal

pub returns : goal.returns
returns c = column_len _ _ _ _ c.self.invariant c.self.view_is
