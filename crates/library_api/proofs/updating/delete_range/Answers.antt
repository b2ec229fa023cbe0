use Rattle.std.proofs.Common.{ℕ, ℤ, Option, refl, sym, ap, ◌∙◌, subst}
use Rattle.bucket_core.specs.History.{History}
use Rattle.version_chain.proofs.Walked.{looks_none}
use Rattle.expr_clause.specs.declared.command.Command.{Command}
use Rattle.expr_clause.specs.declared.command.Command.TheVariants as commands
use Rattle.library_api.specs.Steps.{refusal_reply}
use Rattle.reply_model.specs.CommitAnswers.{clear_answer}
use Rattle.library_api.specs.Frames.{IsLegalWithStamp, LaysDone}
use Rattle.library_api.proofs.LayLemmas.{refused_done, result_done}
use Rattle.library_api.proofs.NoEvents.{looks_go_on}
use Rattle.library_api.proofs.WriteLemmas.{stamp_wants_memory}
use Rattle.library_api.proofs.updating.delete_range.Goals as goal

pub returns-in_default-clause-grown : goal.returns-in_default-clause-grown
returns-in_default-clause-grown g c = looks_go_on _ _ _ _ (looks_none (g.B.Bucket.number c.args.bucket.now) (g.B.Bucket.sole c.args.bucket.now) (g.B.Bucket.seen c.args.bucket.now))

pub returns-in_default-clause-legal : goal.returns-in_default-clause-legal
returns-in_default-clause-legal g c =
    let limit : ℕ = g.B.Bucket.limit c.args.bucket.now in
    let number : ℕ = g.B.Bucket.number c.args.bucket.now in
    let faults : ℕ = g.B.Bucket.faults c.args.bucket.now in
    let old : History = g.B.Bucket.seen c.args.bucket.now in
    let options = c.args.options.now in
    let command : Option ℤ → Command = λ asked. commands.DeleteRange c.args.symbol.now c.args.range asked options.prune in
    subst (IsLegalWithStamp limit number options.tries options.at command faults faults old old) (sym (c.refusal.ensures ∙ ap refusal_reply c.out_of_memory.ensures))
    (stamp_wants_memory command (λ asked. refl) limit number options.tries options.at faults old c.place.result c.place.ensures)

pub returns-clause-legal : goal.returns-clause-legal
returns-clause-legal g c =
    let limit : ℕ = g.B.Bucket.limit c.args.bucket.now in
    let number : ℕ = g.B.Bucket.number c.args.bucket.now in
    let before : ℕ = g.B.Bucket.faults c.args.bucket.now in
    let now : ℕ = g.B.Bucket.faults c.delete_range-done.new.bucket in
    let old : History = g.B.Bucket.seen c.args.bucket.now in
    let new : History = g.B.Bucket.seen c.delete_range-done.new.bucket in
    let options = c.args.options.now in
    let command : Option ℤ → Command = λ asked. commands.DeleteRange c.args.symbol.now c.args.range asked options.prune in
    subst (IsLegalWithStamp limit number options.tries options.at command before now old new) (sym c.committed.ensures) c.delete_range-done.ensures.legal

pub returns-in_default-clause-lays : goal.returns-in_default-clause-lays
returns-in_default-clause-lays g c grows =
    let old : History = g.B.Bucket.seen c.args.bucket.now in
    let options = c.args.options.now in
    let next = clear_answer c.args.range options.prune options.at in
    subst (LaysDone options.cutting c.args.symbol.now next old old) (sym c.refusal.ensures) (refused_done options.cutting c.args.symbol.now old old next c.out_of_memory.result)

pub returns-clause-lays : goal.returns-clause-lays
returns-clause-lays g c grows =
    let old : History = g.B.Bucket.seen c.args.bucket.now in
    let new : History = g.B.Bucket.seen c.delete_range-done.new.bucket in
    let options = c.args.options.now in
    let next = clear_answer c.args.range options.prune options.at in
    subst (LaysDone options.cutting c.args.symbol.now next old new) (sym c.committed.ensures) (result_done options.cutting c.args.symbol.now old new next c.delete_range-done.result (c.delete_range-done.ensures.lays grows))
