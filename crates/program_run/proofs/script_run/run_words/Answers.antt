use Rattle.std.proofs.Common.{rules, w64, SFits, map}
use Rattle.std.specs.String.{string_bytes}
use Rattle.program_run.specs.Preparing.{job_in}
use Rattle.program_run.specs.Endings.{start_of}
use Rattle.program_run.proofs.Running.{stop-plan, job-ends, stop-ends, told-again}
use Rattle.program_run.proofs.script_run.run_words.Goals as goal

-- what was prepared is carried out
pub returns-in-Ok-clause-ends : goal.returns-in-Ok-clause-ends
returns-in-Ok-clause-ends g c = λ reading told.
    job-ends (start_of (map string_bytes c.args.words.now) (g.F.Shelf.holds c.args.shelf.now) reading c.args.pass) _ _ _ _ _ _ _ _ (job_in c.in-Ok.plan) c.in-Ok.ensures.plan
    (c.run_plan.ensures.ends (map string_bytes c.args.words.now) (g.F.Shelf.holds c.args.shelf.now) reading (let fits : SFits w64 c.args.moment = search rules in told-again reading c.args.moment fits told))

-- why nothing was prepared is printed
pub returns-in-Err-Stop-clause-ends : goal.returns-in-Err-Stop-clause-ends
returns-in-Err-Stop-clause-ends g c = λ reading told.
    stop-ends (start_of (map string_bytes c.args.words.now) (g.F.Shelf.holds c.args.shelf.now) reading c.args.pass) _ _ _ _ _ _ _ c.in-Err-Stop.stop
    (stop-plan (g.F.Shelf.holds c.args.shelf.now) (g.F.Shelf.faults c.args.shelf.now) (g.F.Shelf.faults c.prepare.new.shelf) (map string_bytes c.args.words.now) c.in-Err-Stop.field-0 c.in-Err-Stop.stop c.in-Err-Stop.field-0-is c.in-Err-Stop.ensures.plan)
    c.run_stop.ensures
