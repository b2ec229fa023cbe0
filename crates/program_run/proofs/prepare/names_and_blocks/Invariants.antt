use Rattle.std.proofs.Common.{◌≡◌, ◌++◌, length}
use Rattle.program_run.specs.Jobs.{client_names, client_blocks}
use Rattle.program_run.proofs.prepare.names_and_blocks.Given as goal

-- the names and the commands so far and those of the clients that are left are all of them
abbrev pub invariant-loop-rest : goal.invariant-loop-rest
invariant-loop-rest l = record {
  names : l.names ++ client_names l.rest.items ≡ client_names l.fn.clients;
  blocks : l.blocks ++ client_blocks l.rest.items ≡ client_blocks l.fn.clients;
}

abbrev pub decreases-loop-rest : goal.decreases-loop-rest
decreases-loop-rest l = length l.rest.items
