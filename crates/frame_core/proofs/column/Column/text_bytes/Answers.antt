use Rattle.frame_core.proofs.Totals.{ints_bytes, flags_bytes, stamps_bytes}
use Rattle.frame_core.proofs.column.Column.text_bytes.Goals as goal

pub returns-in-Ints : goal.returns-in-Ints
returns-in-Ints c = (ints_bytes _ _ c.in-Ints.is).0

pub returns-in-Flags : goal.returns-in-Flags
returns-in-Flags c = (flags_bytes _ _ c.in-Flags.is).0

pub returns-in-Stamps : goal.returns-in-Stamps
returns-in-Stamps c = (stamps_bytes _ _ c.in-Stamps.is).0
