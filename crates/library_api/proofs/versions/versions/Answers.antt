use Rattle.std.proofs.Common.{ℕ, sym, subst}
use Rattle.bucket_core.specs.History.{History}
use Rattle.expr_clause.specs.declared.command.Command.TheVariants as commands
use Rattle.library_api.specs.Steps.{IsLegalForAll}
use Rattle.library_api.proofs.VersionsLemmas.{versions_legal, versions_refused_legal}
use Rattle.library_api.proofs.versions.versions.Goals as goal

pub returns-in-Ok-clause-legal : goal.returns-in-Ok-clause-legal
returns-in-Ok-clause-legal g c =
    let number : ℕ = g.B.Bucket.number c.args.bucket.now in
    let before : ℕ = g.B.Bucket.faults c.args.bucket.now in
    let now : ℕ = g.B.Bucket.faults c.list_versions.new.bucket in
    let old : History = g.B.Bucket.seen c.args.bucket.now in
    let new : History = g.B.Bucket.seen c.list_versions.new.bucket in
    subst (IsLegalForAll number before now old new (commands.Versions c.args.symbol.now)) (sym c.plain.ensures)
    (versions_legal number (g.B.Bucket.sole c.args.bucket.now) before now old new c.list_versions.ensures.looks c.args.symbol.now c.in-Ok.list c.in-Ok.ensures.listed)

pub returns-in-Err-clause-legal : goal.returns-in-Err-clause-legal
returns-in-Err-clause-legal g c =
    let number : ℕ = g.B.Bucket.number c.args.bucket.now in
    let before : ℕ = g.B.Bucket.faults c.args.bucket.now in
    let now : ℕ = g.B.Bucket.faults c.list_versions.new.bucket in
    let old : History = g.B.Bucket.seen c.args.bucket.now in
    let new : History = g.B.Bucket.seen c.list_versions.new.bucket in
    subst (IsLegalForAll number before now old new (commands.Versions c.args.symbol.now)) (sym c.refusal.ensures)
    (versions_refused_legal number (g.B.Bucket.sole c.args.bucket.now) before now old new c.list_versions.ensures.looks c.args.symbol.now c.in-Err.refused c.in-Err.ensures.refused)
