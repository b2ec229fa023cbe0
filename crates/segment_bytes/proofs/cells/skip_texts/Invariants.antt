use Rattle.std.proofs.Common.{◌≡◌, ◌≤◌, ◌-◌, ◌*◌, length}
use Rattle.byte_fields.specs.Readers.{rest_of}
use Rattle.segment_bytes.specs.CellTexts.{texts_at}
use Rattle.segment_bytes.specs.Skipping.{ends_in}
use Rattle.segment_bytes.proofs.cells.skip_texts.Given as goal

-- the ends that are left are there, and what is left gives what the whole gives
abbrev pub invariant-loop : goal.invariant-loop
invariant-loop l = record {
  long : 4 * (l.count - l.counter) ≤ length l.others;
  same : rest_of (texts_at l.start (ends_in (l.count - l.counter) l.others) l.rest) ≡ rest_of (texts_at 0 (ends_in l.count l.ends) l.bytes);
}
