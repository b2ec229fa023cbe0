use Rattle.std.proofs.Common.{None}
use Rattle.version_chain.proofs.Steps.{SoFar, row_step, last_symbol}
use Rattle.version_chain.proofs.snapshots.read_rows.Given as goal

-- the rows so far were read, and what is left gives what the whole gives
abbrev pub invariant-loop : goal.invariant-loop
invariant-loop l = SoFar row_step None l.count l.bytes l.counter l.rows (last_symbol l.rows) l.rest
