use Rattle.std.proofs.Common.{ℕ, ℤ, Option, Result, subst, sym}
use Rattle.frame_core.specs.declared.refusal.Refusal.{Refusal}
use Rattle.frame_core.specs.Frames.{Frame}
use Rattle.frame_core.specs.RawFrames.{table_of}
use Rattle.bucket_core.specs.History.{History}
use Rattle.store_model.specs.Library.{State}
use Rattle.reply_model.specs.Answering.{Answer}
use Rattle.version_chain.proofs.Walked.{looks_none}
use Rattle.expr_clause.specs.declared.command.Command.{Command}
use Rattle.expr_clause.specs.declared.command.Command.TheVariants as commands
use Rattle.reply_model.specs.CommitAnswers.{append_answer}
use Rattle.library_api.specs.Frames.{IsLegalForTable, LaysForTable}
use Rattle.library_api.proofs.LayLemmas.{refused_lays, result_lays}
use Rattle.library_api.proofs.NoEvents.{looks_go_on}
use Rattle.library_api.proofs.WriteLemmas.{append_takes, unmade_legal, tried_legal}
use Rattle.library_api.proofs.appending.append.Goals as goal

pub returns-in-Ok-clause-legal : goal.returns-in-Ok-clause-legal
returns-in-Ok-clause-legal g c =
    let limit : ℕ = g.B.Bucket.limit c.args.bucket.now in
    let number : ℕ = g.B.Bucket.number c.args.bucket.now in
    let before : ℕ = g.B.Bucket.faults c.args.bucket.now in
    let now : ℕ = g.B.Bucket.faults c.append-done.new.bucket in
    let old : History = g.B.Bucket.seen c.args.bucket.now in
    let new : History = g.B.Bucket.seen c.append-done.new.bucket in
    let options = c.args.options.now in
    let command : ℕ → Option ℤ → Command = λ n asked. commands.Append c.args.symbol.now n asked options.prune in
    subst (IsLegalForTable limit number options.tries (table_of c.args.raw.now) options.at command before now old new) (sym c.committed.ensures)
    (tried_legal command limit number options.tries (table_of c.args.raw.now) options.at before now old new c.in-Ok.prepared.frame c.append-done.result c.in-Ok.ensures.frame c.append-done.ensures.legal)

pub returns-in-Err-clause-grown : goal.returns-in-Err-clause-grown
returns-in-Err-clause-grown g c = looks_go_on _ _ _ _ (looks_none (g.B.Bucket.number c.args.bucket.now) (g.B.Bucket.sole c.args.bucket.now) (g.B.Bucket.seen c.args.bucket.now))

pub returns-in-Err-clause-legal : goal.returns-in-Err-clause-legal
returns-in-Err-clause-legal g c =
    let limit : ℕ = g.B.Bucket.limit c.args.bucket.now in
    let number : ℕ = g.B.Bucket.number c.args.bucket.now in
    let faults : ℕ = g.B.Bucket.faults c.args.bucket.now in
    let old : History = g.B.Bucket.seen c.args.bucket.now in
    let options = c.args.options.now in
    let command : ℕ → Option ℤ → Command = λ n asked. commands.Append c.args.symbol.now n asked options.prune in
    subst (IsLegalForTable limit number options.tries (table_of c.args.raw.now) options.at command faults faults old old) (sym c.refusal.ensures)
    (unmade_legal command (append_takes c.args.symbol.now options.prune) limit number options.tries (table_of c.args.raw.now) options.at faults old c.place.result c.in-Err.refused c.place.ensures c.in-Err.ensures.refused)

pub returns-in-Ok-clause-lays : goal.returns-in-Ok-clause-lays
returns-in-Ok-clause-lays g c grows =
    let old : History = g.B.Bucket.seen c.args.bucket.now in
    let new : History = g.B.Bucket.seen c.append-done.new.bucket in
    let options = c.args.options.now in
    let next : Frame → State → Result Answer Refusal = (λ frame st. append_answer st options.prune options.at frame) in
    subst (LaysForTable options.cutting c.args.symbol.now (table_of c.args.raw.now) next old new) (sym c.committed.ensures)
    (result_lays options.cutting c.args.symbol.now old new (table_of c.args.raw.now) next c.in-Ok.prepared.frame c.append-done.result c.in-Ok.ensures.frame (c.append-done.ensures.lays grows))

pub returns-in-Err-clause-lays : goal.returns-in-Err-clause-lays
returns-in-Err-clause-lays g c grows =
    let old : History = g.B.Bucket.seen c.args.bucket.now in
    let options = c.args.options.now in
    let next : Frame → State → Result Answer Refusal = (λ frame st. append_answer st options.prune options.at frame) in
    subst (LaysForTable options.cutting c.args.symbol.now (table_of c.args.raw.now) next old old) (sym c.refusal.ensures)
    (refused_lays options.cutting c.args.symbol.now old old (table_of c.args.raw.now) next c.in-Err.refused)
