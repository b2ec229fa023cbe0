use Rattle.std.proofs.Common.{◌≡◌, ◌-◌}
use Rattle.byte_fields.specs.Readers.{seen_by}
use Rattle.segment_bytes.specs.CellTexts.{ends_at}
use Rattle.segment_bytes.specs.Skipping.{last_from}
use Rattle.segment_bytes.proofs.cells.skip_ends.Given as goal

-- what is left gives what the whole gives
abbrev pub invariant-loop : goal.invariant-loop
invariant-loop l = seen_by (last_from l.start) (ends_at l.so_far l.start (l.count - l.counter) l.rest) ≡ seen_by (last_from 0) (ends_at l.so_far 0 l.count l.bytes)
