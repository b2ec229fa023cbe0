use Rattle.std.proofs.Common.{rules, ◌≡◌, w64, to_z, of_z, ◌+◌, ◌≤◌, ◌++◌, length, sym, ap, ◌∙◌, subst, inl, inr, Err}
use Rattle.std.specs.Prelude.{IfErr}
use Rattle.std.proofs.lemmas.Bool.{true≢false, cases_lt}
use Rattle.bucket_core.specs.declared.event.Change.TheVariants as changes
use Rattle.store_model.specs.Library.{state_of}
use Rattle.version_chain.proofs.SteadyLemmas.{on_err}
use Rattle.reply_model.specs.CommitAnswers.{append_answer}
use Rattle.append_update.specs.Asking.{MayStandBehind}
use Rattle.append_update.specs.Looking.{AnyBase, RefusesBase, RefusesPlan}
use Rattle.append_update.proofs.LaterLemmas.{base_fits, base_before}
use Rattle.append_update.specs.Bases.{IsIndexOf}
use Rattle.append_update.specs.Replacing.{appended}
use Rattle.append_update.specs.Sizes.{text_total}
use Rattle.append_update.proofs.AppendLemmas.{append_large}
use Rattle.append_update.proofs.PlanLemmas.{behind_texts, behind_fits, append_over_is}
use Rattle.append_update.proofs.asking.append_over.Goals as goal

pub returns-then-exceeds-clause-refused : goal.returns-then-exceeds-clause-refused
returns-then-exceeds-clause-refused g c = λ b.
    let v = b.version in
    let fits = c.in-Ok.ensures.judged v.frame (subst (IsIndexOf v.frame) (sym c.index.ensures) b.newest.index_of) in
    inr (record {
      place = c.place-place.ensures ∙ b.place;
      answered = append_large (state_of b.before c.args.symbol.now) c.args.options.now.prune c.args.options.now.at c.args.frame.now v _ b.newest.is fits.same fits.order (behind_texts v.frame c.args.frame.now b.newest.index_of.storable c.requires.storable fits ((c.in_ok-exceeds.ensures.exceeds b).0 c.if-exceeds.true))
          ∙ ap Err (sym c.too_many_texts.ensures);
    })

pub returns-in-Ok-plan_append-clause-plan : goal.returns-in-Ok-plan_append-clause-plan
returns-in-Ok-plan_append-clause-plan g c = λ b.
    let v = b.version in
    let fits = c.in-Ok.ensures.judged v.frame (subst (IsIndexOf v.frame) (sym c.index.ensures) b.newest.index_of) in
    let few : text_total v.frame.rows + text_total c.args.frame.now.rows ≤ 67108864 = elim (cases_lt 67108864 (text_total v.frame.rows + text_total c.args.frame.now.rows)) [
      | inl many ↦ absurd (true≢false (sym ((c.in_ok-exceeds.ensures.exceeds b).1 many) ∙ c.if-exceeds.false))
      | inr few ↦ few
    ] in
    let at : to_z w64 (of_z w64 c.stamp_of.result) ≡ c.args.options.now.at = search rules in
    append_over_is b.before c.args.symbol.now c.args.options.now v c.args.base.now c.args.frame.now _ b.newest c.requires.storable (behind_fits v.frame c.args.frame.now b.newest.index_of.storable c.requires.storable fits few)
    (c.in-Ok-plan_append.ensures ∙ (λ i. record { schema = c.args.frame.now.schema; pieces = appended (c.index-2.ensures i).slots c.args.frame.now; change = changes.Appended c.args.frame.now (at i) }))

pub returns-in_err-exceeds-clause-refused : goal.returns-in_err-exceeds-clause-refused
returns-in_err-exceeds-clause-refused g c = λ b.
    let v = b.version in
    let old = g.B.Bucket.seen c.args.bucket.now in
    let new = g.B.Bucket.seen c.append_exceeds.new.bucket in
    let fits = c.in-Ok.ensures.judged v.frame (subst (IsIndexOf v.frame) (sym c.index.ensures) b.newest.index_of) in
    on_err (λ r. IfErr r (RefusesPlan (g.B.Bucket.number c.args.bucket.now) c.args.symbol.now (MayStandBehind c.args.frame.now) (λ st. append_answer st c.args.options.now.prune c.args.options.now.at c.args.frame.now) b.before (g.B.Bucket.faults c.args.bucket.now) (g.B.Bucket.faults c.append_exceeds.new.bucket) old new))
    c.from_residual.result c.in_err-exceeds.field-0.0 c.from_residual.ensures.0 c.from_residual.ensures.1
    (inl (base_fits (g.B.Bucket.number c.args.bucket.now) c.args.symbol.now AnyBase (MayStandBehind c.args.frame.now) (length b.before) (g.B.Bucket.faults c.args.bucket.now) (g.B.Bucket.faults c.append_exceeds.new.bucket) old new c.in_err-exceeds.field-0.0
    (λ w e any. subst (MayStandBehind c.args.frame.now) (base_before c.append_exceeds.ensures.looks.others b.later b.before new c.args.symbol.now v w (c.append_exceeds.ensures.looks.is ∙ ap (λ h. c.append_exceeds.ensures.looks.others ++ h) b.split) b.newest.is e)
    fits)
    (subst (λ n. RefusesBase (g.B.Bucket.number c.args.bucket.now) c.args.symbol.now AnyBase n (g.B.Bucket.faults c.args.bucket.now) (g.B.Bucket.faults c.append_exceeds.new.bucket) old new c.in_err-exceeds.field-0.0) b.place c.in_err-exceeds.ensures.refused)))
