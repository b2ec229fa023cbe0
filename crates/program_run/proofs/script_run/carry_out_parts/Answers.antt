use Rattle.reply_model.specs.Blocks.{run_cutting}
use Rattle.bucket_shared.specs.Passes.{seen_of, number_of, limit_of}
use Rattle.program_run.proofs.Running.{ran-items}
use Rattle.program_run.proofs.script_run.carry_out_parts.Goals as goal

pub returns-clause-ran : goal.returns-clause-ran
returns-clause-ran g c =
    ran-items c.run_parts.result.1 (run_cutting c.args.settings.cutting) c.args.settings (limit_of c.args.pass) (number_of c.args.pass) (seen_of c.args.pass) (seen_of c.run_parts.result.0)
    _ _ _ _ _ _ _ _ c.items.ensures c.items-2.ensures c.items-3.ensures c.items-4.ensures c.run_parts.ensures.ran
