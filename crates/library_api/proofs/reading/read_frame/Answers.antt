use Rattle.std.proofs.Common.{ℕ, option_copied}
use Rattle.bucket_core.specs.History.{History}
use Rattle.version_chain.proofs.Walked.{looks_then}
use Rattle.expr_clause.specs.declared.command.Command.TheVariants as commands
use Rattle.library_api.specs.Steps.{refusal_reply, IsLegalForAll}
use Rattle.library_api.proofs.ReadLemmas.{resolve_refused_legal, err_holds}
use Rattle.library_api.proofs.reading.read_frame.Goals as goal

pub returns-in_err-target-clause-refused : goal.returns-in_err-target-clause-refused
returns-in_err-target-clause-refused g c =
    let number : ℕ = g.B.Bucket.number c.args.bucket.now in
    let before : ℕ = g.B.Bucket.faults c.args.bucket.now in
    let now : ℕ = g.B.Bucket.faults c.resolve.new.bucket in
    let old : History = g.B.Bucket.seen c.args.bucket.now in
    let new : History = g.B.Bucket.seen c.resolve.new.bucket in
    let columns = option_copied c.args.columns in
    err_holds (λ refused. IsLegalForAll number before now old new (commands.Read c.args.symbol.now c.args.as_of.now c.args.range columns c.args.clauses.now) (refusal_reply refused))
    c.from_residual.result c.in_err-target.field-0.0 c.from_residual.ensures.0 c.from_residual.ensures.1
    (resolve_refused_legal c.args.symbol.now c.args.as_of.now c.args.range columns c.args.clauses.now number (g.B.Bucket.sole c.args.bucket.now) before now old new c.resolve.ensures.looks c.in_err-target.field-0.0 c.in_err-target.ensures.refused)

pub frame_of-requires : goal.frame_of-requires
frame_of-requires g c = record {
  found = (
    g.B.Bucket.number c.args.bucket.now,
    g.B.Bucket.sole c.args.bucket.now,
    g.B.Bucket.faults c.args.bucket.now,
    g.B.Bucket.seen c.args.bucket.now,
    c.args.symbol.now,
    c.args.as_of.now,
    record { same_number = c.resolve.ensures.steady.same_number; stays_sole = c.resolve.ensures.steady.stays_sole; faults_rise = c.resolve.ensures.steady.faults_rise; looks = c.resolve.ensures.looks; target_is = c.in_ok-target.ensures.target },
  );
  small = c.requires.small;
}

pub returns-in-Ok-clause-looks : goal.returns-in-Ok-clause-looks
returns-in-Ok-clause-looks g c =
    looks_then (g.B.Bucket.number c.args.bucket.now) (g.B.Bucket.sole c.args.bucket.now) (g.B.Bucket.number c.resolve.new.bucket) (g.B.Bucket.sole c.resolve.new.bucket)
    (g.B.Bucket.seen c.args.bucket.now) (g.B.Bucket.seen c.resolve.new.bucket) (g.B.Bucket.seen c.frame_of.new.bucket)
    c.resolve.ensures.steady.same_number c.resolve.ensures.steady.stays_sole c.resolve.ensures.looks c.frame_of.ensures.looks

pub returns-in-Ok-clause-whole : goal.returns-in-Ok-clause-whole
returns-in-Ok-clause-whole g c =
    c.in-Ok.ensures.whole (g.B.Bucket.number c.args.bucket.now) (g.B.Bucket.sole c.args.bucket.now) (g.B.Bucket.faults c.args.bucket.now) (g.B.Bucket.seen c.args.bucket.now) c.args.symbol.now c.args.as_of.now
    (record { same_number = c.resolve.ensures.steady.same_number; stays_sole = c.resolve.ensures.steady.stays_sole; faults_rise = c.resolve.ensures.steady.faults_rise; looks = c.resolve.ensures.looks; target_is = c.in_ok-target.ensures.target })

pub returns-clause-looks : goal.returns-clause-looks
returns-clause-looks g c =
    looks_then (g.B.Bucket.number c.args.bucket.now) (g.B.Bucket.sole c.args.bucket.now) (g.B.Bucket.number c.resolve.new.bucket) (g.B.Bucket.sole c.resolve.new.bucket)
    (g.B.Bucket.seen c.args.bucket.now) (g.B.Bucket.seen c.resolve.new.bucket) (g.B.Bucket.seen c.frame_of.new.bucket)
    c.resolve.ensures.steady.same_number c.resolve.ensures.steady.stays_sole c.resolve.ensures.looks c.frame_of.ensures.looks

pub returns-clause-refused : goal.returns-clause-refused
returns-clause-refused g c =
    c.in-Err.ensures.refused (g.B.Bucket.number c.args.bucket.now) (g.B.Bucket.sole c.args.bucket.now) (g.B.Bucket.faults c.args.bucket.now) (g.B.Bucket.seen c.args.bucket.now) c.args.symbol.now c.args.as_of.now
    (record { same_number = c.resolve.ensures.steady.same_number; stays_sole = c.resolve.ensures.steady.stays_sole; faults_rise = c.resolve.ensures.steady.faults_rise; looks = c.resolve.ensures.looks; target_is = c.in_ok-target.ensures.target })
