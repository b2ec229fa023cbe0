use Rattle.std.proofs.Common.{length}
use Rattle.program_run.proofs.words.+are_options.Given as goal

-- each call is over fewer words
abbrev pub decreases-are_options : goal.decreases-are_options
decreases-are_options l = length l.options.now
