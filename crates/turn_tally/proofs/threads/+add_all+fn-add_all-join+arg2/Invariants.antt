use Rattle.std.proofs.Common.{length, ◌+◌, ◌*◌}
use Rattle.turn_tally.proofs.threads.+add_all+fn-add_all-join+arg2.Given as goal

-- the jobs that are left, twice, since each call runs the next in a closure
abbrev pub decreases-add_all : goal.decreases-add_all
decreases-add_all g l = 2 * length l.jobs.now

abbrev pub decreases-join+arg2 : goal.decreases-join+arg2
decreases-join+arg2 g l = 2 * length l.rest.now + 1
