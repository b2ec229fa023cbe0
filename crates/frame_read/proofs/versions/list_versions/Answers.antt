use Rattle.std.proofs.Common.{◌≡◌, List, [], sym, subst, Ok}
use Rattle.std.proofs.lemmas.Result.{IfOk-weaker, IfErr-weaker}
use Rattle.frame_core.specs.declared.refusal.Refused.{Refused}
use Rattle.bucket_core.specs.History.{history_at}
use Rattle.store_model.specs.Library.{state_of}
use Rattle.version_chain.specs.States.{IsWithin}
use Rattle.reply_model.specs.declared.outcome.Outcome.TheVariants as outcomes
use Rattle.reply_model.specs.ReadAnswers.{versions_answer}
use Rattle.frame_read.specs.declared.versions.VersionList.{VersionList}
use Rattle.frame_read.specs.Versions.{IsVersionList, IsVersionsRefusal, RefusesVersions}
use Rattle.frame_read.proofs.ResolvingLemmas.{state_at, lawful_at}
use Rattle.frame_read.proofs.versions.list_versions.Goals as goal

pub returns-clause-listed : goal.returns-clause-listed
returns-clause-listed g c =
    let old = g.B.Bucket.seen c.args.bucket.now in
    let new = g.B.Bucket.seen c.walk.new.bucket in
    let state = c.in_ok-state.state in
    IfOk-weaker c.listed.result (λ (list : VersionList). (list.place ≡ state.place) × (versions_answer (state_of (history_at new state.place) c.args.symbol.now) ≡ Ok (record { outcome = outcomes.Versions list.rows; marks = [] })))
    (IsVersionList old new c.args.symbol.now)
    (λ list is. record {
      place = subst (IsWithin old new) (sym is.0) c.in_ok-state.ensures.place;
      rows = subst (λ n. versions_answer (state_of (history_at new n) c.args.symbol.now) ≡ Ok (record { outcome = outcomes.Versions list.rows; marks = [] })) (sym is.0) is.1;
    })
    (c.listed.ensures.listed (history_at new state.place) c.args.symbol.now (lawful_at new state.place (g.met.B.Bucket.lawful c.walk.new.bucket)) (state_at new c.args.symbol.now state c.in_ok-state.ensures.state))

pub returns-clause-refused : goal.returns-clause-refused
returns-clause-refused g c =
    let before = g.B.Bucket.faults c.args.bucket.now in
    let now = g.B.Bucket.faults c.walk.new.bucket in
    let old = g.B.Bucket.seen c.args.bucket.now in
    let new = g.B.Bucket.seen c.walk.new.bucket in
    let state = c.in_ok-state.state in
    IfErr-weaker c.listed.result (λ (refused : Refused). (refused.place ≡ state.place) × IsVersionsRefusal before now (history_at new state.place) c.args.symbol.now refused.why)
    (RefusesVersions before now old new c.args.symbol.now)
    (λ refused is. record {
      why = subst (λ n. IsVersionsRefusal before now (history_at new n) c.args.symbol.now refused.why) (sym is.0) is.1;
      place = subst (IsWithin old new) (sym is.0) c.in_ok-state.ensures.place;
    })
    (c.listed.ensures.refused before now (history_at new state.place) c.args.symbol.now (state_at new c.args.symbol.now state c.in_ok-state.ensures.state))
