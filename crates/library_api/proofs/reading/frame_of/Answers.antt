use Rattle.std.proofs.Common.{ℕ, option_copied, sym, subst}
use Rattle.bucket_core.specs.History.{History}
use Rattle.version_chain.proofs.Walked.{looks_then}
use Rattle.expr_clause.specs.declared.command.Command.TheVariants as commands
use Rattle.library_api.specs.Steps.{refusal_reply, IsLegalForAll}
use Rattle.library_api.proofs.ReadLemmas.{target_linked, fetch_refused_legal, tiles_are_of_frame, whole_legal, query_refused_legal, no_memory_at_end, err_holds}
use Rattle.library_api.proofs.reading.frame_of.Goals as goal

pub fetch-requires : goal.fetch-requires
fetch-requires g c =
    let f = c.requires.found in
    record { linked = target_linked f.4 f.5 c.args.range (option_copied c.args.columns) c.args.clauses.now f.3 (g.B.Bucket.seen c.args.bucket.now) c.args.target.now f.6.target_is }

pub returns-in_err-tiles-clause-refused : goal.returns-in_err-tiles-clause-refused
returns-in_err-tiles-clause-refused g c = λ client sole before old symbol as_of found.
    let now : ℕ = g.B.Bucket.faults c.fetch.new.bucket in
    let mid : History = g.B.Bucket.seen c.args.bucket.now in
    let new : History = g.B.Bucket.seen c.fetch.new.bucket in
    let columns = option_copied c.args.columns in
    let looks = looks_then client sole (g.B.Bucket.number c.args.bucket.now) (g.B.Bucket.sole c.args.bucket.now) old mid new found.same_number found.stays_sole found.looks c.fetch.ensures.looks in
    err_holds (λ refused. IsLegalForAll client before now old new (commands.Read symbol as_of c.args.range columns c.args.clauses.now) (refusal_reply refused))
    c.from_residual.result c.in_err-tiles.field-0.0 c.from_residual.ensures.0 c.from_residual.ensures.1
    (fetch_refused_legal symbol as_of c.args.range columns c.args.clauses.now client sole before (g.B.Bucket.faults c.args.bucket.now) now old mid c.fetch.ensures.looks.others new looks found.faults_rise c.args.target.now found.target_is c.fetch.ensures.looks.is (g.met.B.Bucket.lawful c.fetch.new.bucket)
    c.in_err-tiles.field-0.0 c.in_err-tiles.ensures.refused c.in_err-tiles.ensures.lacks)

pub run_clauses-requires : goal.run_clauses-requires
run_clauses-requires g c =
    let f = c.requires.found in
    let mid : History = g.B.Bucket.seen c.args.bucket.now in
    let new : History = g.B.Bucket.seen c.fetch.new.bucket in
    let looks = looks_then f.0 f.1 (g.B.Bucket.number c.args.bucket.now) (g.B.Bucket.sole c.args.bucket.now) f.3 mid new f.6.same_number f.6.stays_sole f.6.looks c.fetch.ensures.looks in
    let fetched =
    tiles_are_of_frame f.4 f.5 c.args.range (option_copied c.args.columns) c.args.clauses.now f.0 f.1 f.2 (g.B.Bucket.faults c.args.bucket.now) (g.B.Bucket.faults c.fetch.new.bucket) f.3 mid c.fetch.ensures.looks.others new looks f.6.faults_rise c.args.target.now f.6.target_is c.fetch.ensures.looks.is (g.met.B.Bucket.lawful c.fetch.new.bucket)
    c.fetched_tiles_have_what_is_asked.ensures c.in_ok-tiles.tiles c.in_ok-tiles.ensures.tiles in
    record { frame = fetched; fits = c.requires.small }

pub returns-in-Ok-clause-whole : goal.returns-in-Ok-clause-whole
returns-in-Ok-clause-whole g c = λ client sole before old symbol as_of found.
    let mid : History = g.B.Bucket.seen c.args.bucket.now in
    let new : History = g.B.Bucket.seen c.fetch.new.bucket in
    let looks = looks_then client sole (g.B.Bucket.number c.args.bucket.now) (g.B.Bucket.sole c.args.bucket.now) old mid new found.same_number found.stays_sole found.looks c.fetch.ensures.looks in
    whole_legal symbol as_of c.args.range (option_copied c.args.columns) c.args.clauses.now client sole before (g.B.Bucket.faults c.args.bucket.now) (g.B.Bucket.faults c.fetch.new.bucket) old mid c.fetch.ensures.looks.others new looks found.faults_rise c.args.target.now found.target_is c.fetch.ensures.looks.is (g.met.B.Bucket.lawful c.fetch.new.bucket)
    c.fetched_tiles_have_what_is_asked.ensures c.in_ok-tiles.tiles c.in_ok-tiles.ensures.tiles c.in-Ok.frame c.in-Ok.ensures

pub returns-clause-refused : goal.returns-clause-refused
returns-clause-refused g c = λ client sole before old symbol as_of found.
    let mid : History = g.B.Bucket.seen c.args.bucket.now in
    let new : History = g.B.Bucket.seen c.fetch.new.bucket in
    let looks = looks_then client sole (g.B.Bucket.number c.args.bucket.now) (g.B.Bucket.sole c.args.bucket.now) old mid new found.same_number found.stays_sole found.looks c.fetch.ensures.looks in
    query_refused_legal symbol as_of c.args.range (option_copied c.args.columns) c.args.clauses.now client sole before (g.B.Bucket.faults c.args.bucket.now) (g.B.Bucket.faults c.fetch.new.bucket) old mid c.fetch.ensures.looks.others new looks found.faults_rise c.args.target.now found.target_is c.fetch.ensures.looks.is (g.met.B.Bucket.lawful c.fetch.new.bucket)
    c.fetched_tiles_have_what_is_asked.ensures c.in_ok-tiles.tiles c.in_ok-tiles.ensures.tiles c.in-Err.why c.in-Err.ensures

pub returns-in-Err-NoMemory-clause-refused : goal.returns-in-Err-NoMemory-clause-refused
returns-in-Err-NoMemory-clause-refused g c = λ client sole before old symbol as_of found.
    let mid : History = g.B.Bucket.seen c.args.bucket.now in
    let new : History = g.B.Bucket.seen c.fetch.new.bucket in
    let columns = option_copied c.args.columns in
    let looks = looks_then client sole (g.B.Bucket.number c.args.bucket.now) (g.B.Bucket.sole c.args.bucket.now) old mid new found.same_number found.stays_sole found.looks c.fetch.ensures.looks in
    subst (λ refused. IsLegalForAll client before (g.B.Bucket.faults c.fetch.new.bucket) old new (commands.Read symbol as_of c.args.range columns c.args.clauses.now) (refusal_reply refused)) (sym c.out_of_memory.ensures)
    (no_memory_at_end symbol as_of c.args.range columns c.args.clauses.now client sole before (g.B.Bucket.faults c.fetch.new.bucket) old new looks c.place.result c.place.ensures)
