use Rattle.std.proofs.Common.{ℕ, option_copied, sym, subst}
use Rattle.bucket_core.specs.History.{History}
use Rattle.expr_clause.specs.declared.command.Command.TheVariants as commands
use Rattle.library_api.specs.Steps.{IsLegalForAll}
use Rattle.library_api.proofs.reading.read.Goals as goal

pub returns-in-Ok-clause-legal : goal.returns-in-Ok-clause-legal
returns-in-Ok-clause-legal g c =
    let before : ℕ = g.B.Bucket.faults c.args.bucket.now in
    let now : ℕ = g.B.Bucket.faults c.read_frame.new.bucket in
    let old : History = g.B.Bucket.seen c.args.bucket.now in
    let new : History = g.B.Bucket.seen c.read_frame.new.bucket in
    subst (IsLegalForAll (g.B.Bucket.number c.args.bucket.now) before now old new (commands.Read c.args.symbol.now c.args.as_of.now c.args.range (option_copied c.args.columns) c.args.clauses.now))
    (sym c.plain.ensures) c.in-Ok.ensures.whole

pub returns-in-Err-clause-legal : goal.returns-in-Err-clause-legal
returns-in-Err-clause-legal g c =
    let before : ℕ = g.B.Bucket.faults c.args.bucket.now in
    let now : ℕ = g.B.Bucket.faults c.read_frame.new.bucket in
    let old : History = g.B.Bucket.seen c.args.bucket.now in
    let new : History = g.B.Bucket.seen c.read_frame.new.bucket in
    subst (IsLegalForAll (g.B.Bucket.number c.args.bucket.now) before now old new (commands.Read c.args.symbol.now c.args.as_of.now c.args.range (option_copied c.args.columns) c.args.clauses.now))
    (sym c.refusal.ensures) c.in-Err.ensures.refused
