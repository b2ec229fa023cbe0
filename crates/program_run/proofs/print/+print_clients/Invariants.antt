use Rattle.std.proofs.Common.{length}
use Rattle.program_run.proofs.print.+print_clients.Given as goal

-- each call is over fewer names
abbrev pub decreases-print_clients : goal.decreases-print_clients
decreases-print_clients g l = length l.names.now
