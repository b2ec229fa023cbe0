use Rattle.program_run.specs.Program.{stopped}
use Rattle.program_run.proofs.Running.{printed-ends, stop-printed}
use Rattle.program_run.proofs.script_run.run_stop.Goals as goal

pub returns : goal.returns
returns g c = printed-ends (stopped c.args.stop.now) _ _ _ _ c.status_of_stop.result _ c.print_stop-printed.result c.status_of_stop.ensures
    (stop-printed (g.S.Sink.written c.args.out.now) (g.S.Sink.written c.print_stop-printed.new.out) (g.S.Sink.faults c.args.out.now) (g.S.Sink.faults c.print_stop-printed.new.out) c.args.stop.now c.print_stop-printed.result c.print_stop-printed.ensures)
    c.status_after.ensures.all c.status_after.ensures.failed c.status_after.ensures.memory
