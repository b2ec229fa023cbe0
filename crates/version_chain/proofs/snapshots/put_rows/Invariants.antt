use Rattle.std.proofs.Common.{take}
use Rattle.std.specs.List.{AllByRecursion}
use Rattle.byte_fields.proofs.Written.{Written}
use Rattle.store_model.specs.ChainText.{snap_row_text}
use Rattle.version_chain.specs.SnapBodies.{FitsSnapRow}
use Rattle.version_chain.proofs.snapshots.put_rows.Given as goal

-- the rows so far were written, and their numbers fit
abbrev pub invariant-loop-row : goal.invariant-loop-row
invariant-loop-row l = record {
  text : Written snap_row_text (take l.row-index l.rows) l.fn.out.items l.out.items;
  fits : AllByRecursion FitsSnapRow (take l.row-index l.rows);
}
