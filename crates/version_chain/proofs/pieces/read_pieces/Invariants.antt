use Rattle.std.proofs.Common.{None}
use Rattle.version_chain.proofs.Steps.{SoFar, piece_step}
use Rattle.version_chain.proofs.pieces.read_pieces.Given as goal

-- the pieces so far were read, and what is left gives what the whole gives
abbrev pub invariant-loop : goal.invariant-loop
invariant-loop l = SoFar piece_step None l.count l.bytes l.counter l.pieces l.before l.rest
