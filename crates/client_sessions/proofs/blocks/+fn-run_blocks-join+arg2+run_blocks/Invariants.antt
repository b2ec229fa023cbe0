use Rattle.std.proofs.Common.{length, ◌+◌, ◌*◌}
use Rattle.client_sessions.proofs.blocks.+fn-run_blocks-join+arg2+run_blocks.Given as goal

-- the blocks that are left, twice, since each call runs the next in a closure
abbrev pub decreases-run_blocks : goal.decreases-run_blocks
decreases-run_blocks g l = 2 * length l.blocks.now

abbrev pub decreases-join+arg2 : goal.decreases-join+arg2
decreases-join+arg2 g l = 2 * length l.rest.now + 1
