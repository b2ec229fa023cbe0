use Rattle.std.proofs.Common.{length}
use Rattle.program_run.proofs.words.+value_given.Given as goal

-- each call is over fewer words
abbrev pub decreases-value_given : goal.decreases-value_given
decreases-value_given l = length l.options.now
