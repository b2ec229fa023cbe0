use Rattle.std.proofs.Common.{rules, w64, SFits, List, subst}
use Rattle.std.specs.Prelude.{IfOk}
use mir.Val.{to_z, of_z}
use Rattle.bucket_shared.specs.Passes.{seen_of}
use Rattle.frame_core.specs.Texts.{Text}
use Rattle.program_run.specs.Program.{run_of}
use Rattle.program_run.specs.Preparing.{job_in}
use Rattle.program_run.specs.Endings.{start_of, RunEnds}
use Rattle.program_run.proofs.Running.{told-again, parts-end, unchanged}
use Rattle.program_run.proofs.script_run.run_plan.Goals as goal

pub returns-clause-ends : goal.returns-clause-ends
returns-clause-ends g c = λ words holds reading told.
    parts-end (start_of words holds reading c.args.pass) (job_in c.args.plan.now) (to_z w64 (of_z w64 c.args.moment)) (g.S.Sink.faults c.args.out.now) (g.S.Sink.faults c.end_run-status.new.out) (g.S.Sink.written c.args.out.now) (g.S.Sink.written c.end_run-status.new.out) c.end_run-status.result c.place.result (seen_of c.carry_out_parts-pass.result.0) c.carry_out_parts-pass.result.1
    (let fits : SFits w64 c.args.moment = search rules in told-again reading c.args.moment fits told) c.place.ensures
    c.carry_out_parts-pass.ensures.ran (unchanged c.carry_out_parts-pass.result.1 c.args.pass c.carry_out_parts-pass.result.0 c.carry_out_parts-pass.ensures.memory)
    (subst (λ (names : List Text). IfOk c.carry_out_parts-pass.result.1 (λ replies. RunEnds (run_of names replies c.place.result) (g.S.Sink.faults c.args.out.now) (g.S.Sink.faults c.end_run-status.new.out) (g.S.Sink.written c.args.out.now) (g.S.Sink.written c.end_run-status.new.out) c.end_run-status.result)) c.items.ensures c.end_run-status.ensures.told) c.end_run-status.ensures.memory
