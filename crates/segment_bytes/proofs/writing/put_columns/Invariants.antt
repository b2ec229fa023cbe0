use Rattle.std.proofs.Common.{take}
use Rattle.byte_fields.proofs.Written.{Written}
use Rattle.segment_bytes.specs.Sheets.{series_from, series_text}
use Rattle.segment_bytes.proofs.writing.put_columns.Given as goal

-- the columns so far were written
abbrev pub invariant-loop-place : goal.invariant-loop-place
invariant-loop-place l = Written series_text (take l.place (series_from 0 l.frame.schema.columns l.frame.rows)) l.fn.out.items l.out.items
