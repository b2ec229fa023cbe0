use Rattle.std.proofs.Common.{ℕ, Ok, Err, sym, ap, ◌∙◌, subst}
use Rattle.std.proofs.lemmas.Bool.{true≢false}
use Rattle.bucket_core.specs.History.{History}
use Rattle.expr_clause.specs.declared.command.Command.TheVariants as commands
use Rattle.reply_model.specs.declared.reply.Reply.{Reply}
use Rattle.library_api.specs.Steps.{plain_reply, IsLegalWithTries, LooksFirst}
use Rattle.library_api.proofs.BuryLemmas.{freed_outcome, reclaim_legal}
use Rattle.library_api.proofs.reclaiming.reclaim.Goals as goal

pub returns-in-Ok-clause-legal : goal.returns-in-Ok-clause-legal
returns-in-Ok-clause-legal g c =
    let limit : ℕ = g.B.Bucket.limit c.args.bucket.now in
    let number : ℕ = g.B.Bucket.number c.args.bucket.now in
    let before : ℕ = g.B.Bucket.faults c.args.bucket.now in
    let now : ℕ = g.B.Bucket.faults c.reclaim.new.bucket in
    let old : History = g.B.Bucket.seen c.args.bucket.now in
    let new : History = g.B.Bucket.seen c.reclaim.new.bucket in
    subst (IsLegalWithTries limit number c.args.tries before now old new (commands.Reclaim c.args.symbol.now)) (sym (c.plain.ensures ∙ ap (plain_reply c.in-Ok.freed.place) (c.freed_of.ensures ∙ ap freed_outcome c.items.ensures)))
    (reclaim_legal limit number c.args.tries before now old new c.args.symbol.now (Ok c.in-Ok.freed) c.in-Ok.ensures.legal)

pub returns-in-Err-clause-legal : goal.returns-in-Err-clause-legal
returns-in-Err-clause-legal g c =
    let limit : ℕ = g.B.Bucket.limit c.args.bucket.now in
    let number : ℕ = g.B.Bucket.number c.args.bucket.now in
    let before : ℕ = g.B.Bucket.faults c.args.bucket.now in
    let now : ℕ = g.B.Bucket.faults c.reclaim.new.bucket in
    let old : History = g.B.Bucket.seen c.args.bucket.now in
    let new : History = g.B.Bucket.seen c.reclaim.new.bucket in
    subst (IsLegalWithTries limit number c.args.tries before now old new (commands.Reclaim c.args.symbol.now)) (sym c.refusal.ensures)
    (reclaim_legal limit number c.args.tries before now old new c.args.symbol.now (Err c.in-Err.refused) c.in-Err.ensures.legal)

-- where it is done, its place is that of its look
pub returns-in-Ok-clause-looked : goal.returns-in-Ok-clause-looked
returns-in-Ok-clause-looked g c =
    subst (λ (r : Reply). LooksFirst (g.B.Bucket.number c.args.bucket.now) (g.B.Bucket.seen c.args.bucket.now) (g.B.Bucket.seen c.reclaim.new.bucket) r) (sym c.plain.ensures)
    (λ grows done. c.in-Ok.ensures.looked grows)

pub returns-in-Err-clause-looked : goal.returns-in-Err-clause-looked
returns-in-Err-clause-looked g c =
    subst (λ (r : Reply). LooksFirst (g.B.Bucket.number c.args.bucket.now) (g.B.Bucket.seen c.args.bucket.now) (g.B.Bucket.seen c.reclaim.new.bucket) r) (sym c.refusal.ensures)
    (λ grows done. absurd (true≢false done))
