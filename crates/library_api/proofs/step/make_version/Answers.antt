use Rattle.std.proofs.Common.{refl}
use Rattle.expr_clause.specs.declared.command.Command.TheVariants as commands
use Rattle.reply_model.specs.CommitAnswers.{append_answer, update_answer}
use Rattle.library_api.proofs.LayLemmas.{append_done, update_done}
use Rattle.library_api.proofs.StepLemmas.{table_command, stamped_command, write_lays, table_lays, range_lays}
use Rattle.library_api.proofs.step.make_version.Goals as goal

pub returns-in-Write-clause-legal : goal.returns-in-Write-clause-legal
returns-in-Write-clause-legal g c =
    table_command c.args.frames.now c.args.settings (g.B.Bucket.number c.args.bucket.now) (g.B.Bucket.limit c.args.bucket.now) (g.B.Bucket.faults c.args.bucket.now) (g.B.Bucket.faults c.write.new.bucket)
    (g.B.Bucket.seen c.args.bucket.now) (g.B.Bucket.seen c.write.new.bucket) c.args.command.now c.write.result
    (λ o n asked. commands.Write c.in-Write.symbol n asked o.prune) c.in-Write.frame c.in-Write.at c.in-Write.prune c.options-options.result c.frame_at-raw.result.now c.in-Write.is c.options-options.ensures c.frame_at-raw.ensures c.write.ensures.legal

pub returns-in-Write-clause-lays : goal.returns-in-Write-clause-lays
returns-in-Write-clause-lays g c grows =
    write_lays c.args.frames.now c.args.settings (g.B.Bucket.number c.args.bucket.now) (g.B.Bucket.limit c.args.bucket.now) (g.B.Bucket.seen c.args.bucket.now) (g.B.Bucket.seen c.write.new.bucket) c.args.command.now c.write.result
    c.in-Write.symbol c.in-Write.frame c.in-Write.at c.in-Write.prune c.options-options.result c.frame_at-raw.result.now c.in-Write.is c.options-options.ensures c.frame_at-raw.ensures (c.write.ensures.lays grows)

pub returns-in-Append-clause-legal : goal.returns-in-Append-clause-legal
returns-in-Append-clause-legal g c =
    table_command c.args.frames.now c.args.settings (g.B.Bucket.number c.args.bucket.now) (g.B.Bucket.limit c.args.bucket.now) (g.B.Bucket.faults c.args.bucket.now) (g.B.Bucket.faults c.append.new.bucket)
    (g.B.Bucket.seen c.args.bucket.now) (g.B.Bucket.seen c.append.new.bucket) c.args.command.now c.append.result
    (λ o n asked. commands.Append c.in-Append.symbol n asked o.prune) c.in-Append.frame c.in-Append.at c.in-Append.prune c.options-options-in-Append.result c.frame_at-raw-in-Append.result.now c.in-Append.is c.options-options-in-Append.ensures c.frame_at-raw-in-Append.ensures c.append.ensures.legal

pub returns-in-Append-clause-lays : goal.returns-in-Append-clause-lays
returns-in-Append-clause-lays g c grows =
    table_lays c.args.frames.now c.args.settings (g.B.Bucket.number c.args.bucket.now) (g.B.Bucket.limit c.args.bucket.now) (g.B.Bucket.seen c.args.bucket.now) (g.B.Bucket.seen c.append.new.bucket) c.args.command.now c.append.result
    c.in-Append.symbol c.in-Append.frame c.in-Append.at c.in-Append.prune c.options-options-in-Append.result c.frame_at-raw-in-Append.result.now
    (commands.Append c.in-Append.symbol c.in-Append.frame c.in-Append.at c.in-Append.prune) (λ o f st. append_answer st o.prune o.at f) refl c.in-Append.is c.options-options-in-Append.ensures c.frame_at-raw-in-Append.ensures
    (λ l q. refl) (λ o f st. append_done st o.prune o.at f) (c.append.ensures.lays grows)

pub returns-in-Update-clause-legal : goal.returns-in-Update-clause-legal
returns-in-Update-clause-legal g c =
    table_command c.args.frames.now c.args.settings (g.B.Bucket.number c.args.bucket.now) (g.B.Bucket.limit c.args.bucket.now) (g.B.Bucket.faults c.args.bucket.now) (g.B.Bucket.faults c.update.new.bucket)
    (g.B.Bucket.seen c.args.bucket.now) (g.B.Bucket.seen c.update.new.bucket) c.args.command.now c.update.result
    (λ o n asked. commands.Update c.in-Update.symbol n c.in-Update.range c.in-Update.upsert asked o.prune) c.in-Update.frame c.in-Update.at c.in-Update.prune c.options-options-in-Update.result c.frame_at-raw-in-Update.result.now c.in-Update.is c.options-options-in-Update.ensures c.frame_at-raw-in-Update.ensures c.update.ensures.legal

pub returns-in-Update-clause-lays : goal.returns-in-Update-clause-lays
returns-in-Update-clause-lays g c grows =
    table_lays c.args.frames.now c.args.settings (g.B.Bucket.number c.args.bucket.now) (g.B.Bucket.limit c.args.bucket.now) (g.B.Bucket.seen c.args.bucket.now) (g.B.Bucket.seen c.update.new.bucket) c.args.command.now c.update.result
    c.in-Update.symbol c.in-Update.frame c.in-Update.at c.in-Update.prune c.options-options-in-Update.result c.frame_at-raw-in-Update.result.now
    (commands.Update c.in-Update.symbol c.in-Update.frame c.in-Update.range c.in-Update.upsert c.in-Update.at c.in-Update.prune) (λ o f st. update_answer st c.in-Update.upsert o.prune o.at c.in-Update.range f) refl c.in-Update.is c.options-options-in-Update.ensures c.frame_at-raw-in-Update.ensures
    (λ l q. refl) (λ o f st. update_done st c.in-Update.upsert o.prune o.at c.in-Update.range f) (c.update.ensures.lays grows)

pub returns-in-DeleteRange-clause-legal : goal.returns-in-DeleteRange-clause-legal
returns-in-DeleteRange-clause-legal g c =
    stamped_command c.args.frames.now c.args.settings (g.B.Bucket.number c.args.bucket.now) (g.B.Bucket.limit c.args.bucket.now) (g.B.Bucket.faults c.args.bucket.now) (g.B.Bucket.faults c.delete_range.new.bucket)
    (g.B.Bucket.seen c.args.bucket.now) (g.B.Bucket.seen c.delete_range.new.bucket) c.args.command.now c.delete_range.result
    (λ o asked. commands.DeleteRange c.in-DeleteRange.symbol c.in-DeleteRange.range asked o.prune) c.in-DeleteRange.at c.in-DeleteRange.prune c.options-options-in-DeleteRange.result c.in-DeleteRange.is c.options-options-in-DeleteRange.ensures c.delete_range.ensures.legal

pub returns-in-DeleteRange-clause-lays : goal.returns-in-DeleteRange-clause-lays
returns-in-DeleteRange-clause-lays g c grows =
    range_lays c.args.frames.now c.args.settings (g.B.Bucket.number c.args.bucket.now) (g.B.Bucket.limit c.args.bucket.now) (g.B.Bucket.seen c.args.bucket.now) (g.B.Bucket.seen c.delete_range.new.bucket) c.args.command.now c.delete_range.result
    c.in-DeleteRange.symbol c.in-DeleteRange.range c.in-DeleteRange.at c.in-DeleteRange.prune c.options-options-in-DeleteRange.result c.in-DeleteRange.is c.options-options-in-DeleteRange.ensures (c.delete_range.ensures.lays grows)
