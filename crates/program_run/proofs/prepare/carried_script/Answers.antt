use Rattle.std.proofs.Common.{sym}
use Rattle.program_run.proofs.Ready.{ready-script}
use Rattle.program_run.proofs.prepare.carried_script.Goals as goal

pub returns-then-is_carried_script-clause-ready : goal.returns-then-is_carried_script-clause-ready
returns-then-is_carried_script-clause-ready c = ready-script c.in_ok-script.script c.in_ok-script.ensures.loaded (sym c.if-is_carried_script.ensures)
