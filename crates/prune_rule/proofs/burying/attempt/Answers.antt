use Rattle.std.proofs.Common.{◌∙◌, sym, subst}
use Rattle.bucket_core.specs.declared.event.Change.TheVariants as changes
use Rattle.version_chain.specs.Marking.{MayMark}
use Rattle.version_chain.proofs.ElementForms.{walked_lawful}
use Rattle.version_chain.proofs.SteadyLemmas.{on_err}
use Rattle.prune_rule.specs.Burials.{burial_of}
use Rattle.prune_rule.specs.Tries.{DidAttempt}
use Rattle.prune_rule.proofs.BuryLemmas.{answer_told}
use Rattle.prune_rule.proofs.AttemptLemmas.{walk_stops, may_mark}
use Rattle.prune_rule.proofs.MarkedLemmas.{on_steady, attempt_ends}
use Rattle.prune_rule.proofs.burying.attempt.Goals as goal

pub returns-in_err-state-clause-did : goal.returns-in_err-state-clause-did
returns-in_err-state-clause-did g c =
    on_err (DidAttempt (g.B.Bucket.number c.args.bucket.now) (g.B.Bucket.sole c.args.bucket.now) c.args.symbol.now (burial_of c.args.wish) (g.B.Bucket.limit c.args.bucket.now) (g.B.Bucket.faults c.args.bucket.now) (g.B.Bucket.faults c.walk.new.bucket) (g.B.Bucket.seen c.args.bucket.now) (g.B.Bucket.seen c.walk.new.bucket))
    c.from_residual.result c.in_err-state.field-0.0 c.from_residual.ensures.0 c.from_residual.ensures.1
    (walk_stops (g.B.Bucket.number c.args.bucket.now) (g.B.Bucket.sole c.args.bucket.now) c.args.symbol.now (burial_of c.args.wish) (g.B.Bucket.limit c.args.bucket.now) (g.B.Bucket.faults c.args.bucket.now) (g.B.Bucket.faults c.walk.new.bucket)
    (g.B.Bucket.seen c.args.bucket.now) (g.B.Bucket.seen c.walk.new.bucket) c.in_err-state.field-0.0 c.walk.ensures.looks c.in_err-state.ensures.refused)

pub attempt_on-requires : goal.attempt_on-requires
attempt_on-requires g c =
    let seen = c.in_ok-state.ensures.state in
    let told = answer_told seen.before c.args.symbol.now c.in_ok-state.state (walked_lawful _ seen.later seen.before seen.split (g.met.B.Bucket.lawful c.walk.new.bucket)) seen.is c.args.wish in
    record {
      may = λ numbers filled answered. subst (λ n. MayMark (g.B.Bucket.seen c.walk.new.bucket) n c.args.symbol.now c.in_ok-state.state (changes.Removed numbers)) (sym c.walk.ensures.steady.same_number)
          (may_mark (g.B.Bucket.number c.args.bucket.now) (g.B.Bucket.sole c.args.bucket.now) c.args.symbol.now (burial_of c.args.wish) (g.B.Bucket.limit c.args.bucket.now) (g.B.Bucket.faults c.args.bucket.now) (g.B.Bucket.seen c.args.bucket.now) (g.B.Bucket.seen c.walk.new.bucket) c.in_ok-state.state c.walk.ensures.looks seen c.in_ok-state.ensures.place numbers filled (sym told ∙ answered));
    }

pub returns-clause-did : goal.returns-clause-did
returns-clause-did g c =
    let seen = c.in_ok-state.ensures.state in
    let told = answer_told seen.before c.args.symbol.now c.in_ok-state.state (walked_lawful _ seen.later seen.before seen.split (g.met.B.Bucket.lawful c.walk.new.bucket)) seen.is c.args.wish in
    attempt_ends (g.B.Bucket.number c.args.bucket.now) (g.B.Bucket.sole c.args.bucket.now) c.args.symbol.now c.args.wish (burial_of c.args.wish) (g.B.Bucket.limit c.args.bucket.now) (g.B.Bucket.faults c.args.bucket.now) (g.B.Bucket.seen c.args.bucket.now) (g.B.Bucket.seen c.walk.new.bucket) c.in_ok-state.state c.walk.ensures.looks seen c.in_ok-state.ensures.place told (g.B.Bucket.faults c.attempt_on.new.bucket) (g.B.Bucket.seen c.attempt_on.new.bucket) c.attempt_on.result
    (on_steady g.B.Bucket.number g.B.Bucket.limit g.B.Bucket.faults g.B.Bucket.sole c.args.bucket.now c.walk.new.bucket c.walk.ensures.steady c.args.symbol.now c.args.wish c.in_ok-state.state (g.B.Bucket.faults c.attempt_on.new.bucket) (g.B.Bucket.seen c.walk.new.bucket) (g.B.Bucket.seen c.attempt_on.new.bucket) c.attempt_on.result c.attempt_on.ensures.did)
