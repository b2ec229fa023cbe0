use Rattle.std.proofs.Common.{◌≡◌, ◌-◌}
use Rattle.byte_fields.specs.Reading.{list_at}
use Rattle.byte_fields.specs.Readers.{rest_of}
use Rattle.segment_bytes.specs.CellTexts.{flag_cell_at}
use Rattle.segment_bytes.proofs.cells.skip_flags.Given as goal

-- what is left gives what the whole gives
abbrev pub invariant-loop : goal.invariant-loop
invariant-loop l = rest_of (list_at flag_cell_at (l.count - l.counter) l.rest) ≡ rest_of (list_at flag_cell_at l.count l.bytes)
