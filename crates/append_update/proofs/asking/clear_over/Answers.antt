use Rattle.std.proofs.Common.{◌≡◌, [], length, sym, ap, ◌∙◌, subst, refl, inl, inr, Some, None, false}
use Rattle.std.specs.Prelude.{IfOk, IfErr}
use Rattle.frame_core.specs.Schemas.{Schema}
use Rattle.frame_core.specs.Frames.{Frame}
use Rattle.frame_core.specs.Limits.{IsStorable}
use Rattle.reply_model.specs.CommitAnswers.{update_answer, outside}
use Rattle.append_update.specs.Asking.{HasColumnsOf, IsPlanOf}
use Rattle.append_update.specs.Looking.{AnyBase, RefusesPlan}
use Rattle.append_update.proofs.LaterLemmas.{base_fits, if_err}
use Rattle.append_update.proofs.UpdateLemmas.{storable-slice}
use Rattle.append_update.proofs.asking.clear_over.Goals as goal

pub no_rows-requires : goal.no_rows-requires
no_rows-requires g c = record { columns = c.requires.base.newest.index_of.rules.columns }

pub replace_over-requires-clause-storable : goal.replace_over-requires-clause-storable
replace_over-requires-clause-storable g c =
    let b = c.requires.base in
    let made : c.in-Ok.frame ≡ record b.version.frame { rows = [] } = c.in-Ok.ensures ∙ ap (λ (s : Schema). record { schema = s; rows = [] }) b.newest.index_of.schema in
    subst IsStorable (sym made) (storable-slice b.version.frame 0 0 b.newest.index_of.storable)

pub replace_over-requires-clause-inside : goal.replace_over-requires-clause-inside
replace_over-requires-clause-inside g c = subst (λ (f : Frame). outside 1 c.args.range f.rows ≡ None) (sym c.in-Ok.ensures) refl

pub returns-in-Ok-clause-plan : goal.returns-in-Ok-clause-plan
returns-in-Ok-clause-plan g c = λ b.
    let made : c.in-Ok.frame ≡ record b.version.frame { rows = [] } = c.in-Ok.ensures ∙ ap (λ (s : Schema). record { schema = s; rows = [] }) b.newest.index_of.schema in
    subst (λ (f : Frame). IfOk c.replace_over.result (IsPlanOf b.before c.args.symbol.now c.args.options.now (λ st. update_answer st false c.args.options.now.prune c.args.options.now.at (Some c.args.range) f))) made (c.replace_over.ensures.plan b false)

pub returns-in-Ok-clause-refused : goal.returns-in-Ok-clause-refused
returns-in-Ok-clause-refused g c = λ b.
    let made : c.in-Ok.frame ≡ record b.version.frame { rows = [] } = c.in-Ok.ensures ∙ ap (λ (s : Schema). record { schema = s; rows = [] }) b.newest.index_of.schema in
    subst (λ (f : Frame). IfErr c.replace_over.result (RefusesPlan (g.B.Bucket.number c.args.bucket.now) c.args.symbol.now AnyBase (λ st. update_answer st false c.args.options.now.prune c.args.options.now.at (Some c.args.range) f) b.before (g.B.Bucket.faults c.args.bucket.now) (g.B.Bucket.faults c.replace_over.new.bucket) (g.B.Bucket.seen c.args.bucket.now) (g.B.Bucket.seen c.replace_over.new.bucket)))
    made (if_err _ _ c.replace_over.result (λ refused p. elim p [
      | inl look ↦ inl (base_fits (g.B.Bucket.number c.args.bucket.now) c.args.symbol.now (HasColumnsOf c.in-Ok.frame) AnyBase (length b.before) (g.B.Bucket.faults c.args.bucket.now) (g.B.Bucket.faults c.replace_over.new.bucket) (g.B.Bucket.seen c.args.bucket.now) (g.B.Bucket.seen c.replace_over.new.bucket) refused (λ v e f. tt) look)
      | inr d ↦ inr d
    ]) (c.replace_over.ensures.refused b false))
