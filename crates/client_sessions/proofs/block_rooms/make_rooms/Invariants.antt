use Rattle.std.proofs.Common.{◌≡◌, take, length}
use Rattle.std.specs.Prelude.{map}
use Rattle.client_sessions.specs.Rooms.{counts}
use Rattle.client_sessions.proofs.block_rooms.make_rooms.Given as goal

-- there is memory for the blocks so far
abbrev pub invariant-loop-block : goal.invariant-loop-block
invariant-loop-block l = counts l.rooms.items ≡ map length (take l.block-index l.blocks)
