use Rattle.std.proofs.Common.{◌≡◌, ◌-◌, None}
use Rattle.byte_fields.specs.Readers.{rest_of}
use Rattle.segment_bytes.specs.Sheets.{stamps_at}
use Rattle.segment_bytes.proofs.sheet.skip_stamps.Given as goal

-- what is left gives what the whole gives
abbrev pub invariant-loop : goal.invariant-loop
invariant-loop l = rest_of (stamps_at (l.count - l.counter) l.before l.rest) ≡ rest_of (stamps_at l.count None l.bytes)
