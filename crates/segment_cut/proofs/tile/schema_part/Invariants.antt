use Rattle.std.proofs.Common.{◌≡◌, ◌+◌, take}
use Rattle.std.specs.Prelude.{slice_range}
use Rattle.segment_cut.proofs.tile.schema_part.Given as goal

-- the columns so far were copied
abbrev pub invariant-loop-name : goal.invariant-loop-name
invariant-loop-name l = record {
  timed : l.cols.timed ≡ l.schema.timed;
  columns : l.cols.columns ≡ take l.name-index (slice_range l.schema.columns l.fn.part.first_col (l.fn.part.first_col + l.fn.part.cols));
}
