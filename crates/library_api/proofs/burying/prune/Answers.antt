use Rattle.std.proofs.Common.{ℕ, Ok, Err, refl, sym, ap, ◌∙◌, subst}
use Rattle.bucket_core.specs.History.{History}
use Rattle.version_chain.proofs.Walked.{looks_none}
use Rattle.reply_model.specs.Kinds.{burial_command, Older}
use Rattle.library_api.specs.Steps.{refusal_reply, IsLegalWithTries}
use Rattle.library_api.proofs.NoEvents.{looks_go_on}
use Rattle.library_api.proofs.BuryLemmas.{burial_legal, burial_wants_memory}
use Rattle.library_api.proofs.burying.prune.Goals as goal

pub returns-in_default-clause-grown : goal.returns-in_default-clause-grown
returns-in_default-clause-grown g c = looks_go_on _ _ _ _ (looks_none (g.B.Bucket.number c.args.bucket.now) (g.B.Bucket.sole c.args.bucket.now) (g.B.Bucket.seen c.args.bucket.now))

pub returns-in_default-clause-legal : goal.returns-in_default-clause-legal
returns-in_default-clause-legal g c =
    let limit : ℕ = g.B.Bucket.limit c.args.bucket.now in
    let number : ℕ = g.B.Bucket.number c.args.bucket.now in
    let faults : ℕ = g.B.Bucket.faults c.args.bucket.now in
    let old : History = g.B.Bucket.seen c.args.bucket.now in
    let command = burial_command c.args.symbol.now Older in
    subst (IsLegalWithTries limit number c.args.tries faults faults old old command) (sym (c.refusal.ensures ∙ ap refusal_reply c.out_of_memory.ensures))
    (burial_wants_memory limit number c.args.tries faults old command c.place.result refl c.place.ensures)

pub returns-in-Ok-prune-clause-legal : goal.returns-in-Ok-prune-clause-legal
returns-in-Ok-prune-clause-legal g c =
    let limit : ℕ = g.B.Bucket.limit c.args.bucket.now in
    let number : ℕ = g.B.Bucket.number c.args.bucket.now in
    let before : ℕ = g.B.Bucket.faults c.args.bucket.now in
    let now : ℕ = g.B.Bucket.faults c.prune.new.bucket in
    let old : History = g.B.Bucket.seen c.args.bucket.now in
    let new : History = g.B.Bucket.seen c.prune.new.bucket in
    let command = burial_command c.args.symbol.now Older in
    subst (IsLegalWithTries limit number c.args.tries before now old new command) (sym c.buried.ensures)
    (burial_legal limit number c.args.tries before now old new c.args.symbol.now Older (Ok c.in-Ok-prune.done) c.in-Ok-prune.ensures.legal)

pub returns-in-Err-clause-legal : goal.returns-in-Err-clause-legal
returns-in-Err-clause-legal g c =
    let limit : ℕ = g.B.Bucket.limit c.args.bucket.now in
    let number : ℕ = g.B.Bucket.number c.args.bucket.now in
    let before : ℕ = g.B.Bucket.faults c.args.bucket.now in
    let now : ℕ = g.B.Bucket.faults c.prune.new.bucket in
    let old : History = g.B.Bucket.seen c.args.bucket.now in
    let new : History = g.B.Bucket.seen c.prune.new.bucket in
    let command = burial_command c.args.symbol.now Older in
    subst (IsLegalWithTries limit number c.args.tries before now old new command) (sym c.refusal-in-Err.ensures)
    (burial_legal limit number c.args.tries before now old new c.args.symbol.now Older (Err c.in-Err.refused) c.in-Err.ensures.legal)
