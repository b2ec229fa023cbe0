use Rattle.program_run.specs.Program.{run_of}
use Rattle.program_run.proofs.Running.{printed-ends}
use Rattle.program_run.proofs.script_run.run_replies.Goals as goal

pub returns : goal.returns
returns g c = printed-ends (run_of c.args.names.now c.args.replies.now c.args.end) _ _ _ _ c.status_of.result _ c.print_transcript-printed.result c.status_of.ensures c.print_transcript-printed.ensures
    c.status_after.ensures.all c.status_after.ensures.failed c.status_after.ensures.memory
