use Rattle.std.proofs.Common.{◌∙◌, sym, ap, length, Err}
use Rattle.frame_core.specs.Schemas.{Schema, schemas_differ}
use Rattle.frame_core.specs.Frames.{first_stamp}
use Rattle.reply_model.specs.Answering.{append_before}
use Rattle.append_update.proofs.LastLemmas.{last_of_index}
use Rattle.append_update.proofs.AppendLemmas.{append_early, append_large}
use Rattle.append_update.proofs.PlanLemmas.{same_limits, behind_many}
use Rattle.append_update.proofs.judging.judge_append.Goals as goal

pub returns-in-Some-begins_before-clause-refused : goal.returns-in-Some-begins_before-clause-refused
returns-in-Some-begins_before-clause-refused c = λ v st prune at of is.
    append_early st prune at c.args.frame.now v c.in-Some-begins_before.ends.0 c.in-Some-begins_before.ends.1 is
    (ap (λ (s : Schema). schemas_differ s c.args.frame.now.schema) (sym of.schema) ∙ (ap (λ (s : Schema). schemas_differ s c.args.frame.now.schema) (sym c.schema.ensures) ∙ (ap (schemas_differ c.schema.result.now) (sym c.schema-2.ensures.schema) ∙ (sym c.first_difference.ensures ∙ c.in_default.is))))
    (ap (λ o. append_before o (first_stamp c.args.frame.now.rows)) (sym (c.last_stamp_of.ensures ∙ last_of_index v.frame c.args.index.now of))
    ∙ (ap (append_before c.last_stamp_of.result) (sym c.first_stamp.ensures) ∙ (sym c.begins_before.ensures ∙ c.in-Some-begins_before.is)))
    ∙ ap Err (sym c.early.ensures)

pub returns-in-Some-exceeded-clause-refused : goal.returns-in-Some-exceeded-clause-refused
returns-in-Some-exceeded-clause-refused c = λ v st prune at of is.
    append_large st prune at c.args.frame.now v _ is
    (ap (λ (s : Schema). schemas_differ s c.args.frame.now.schema) (sym of.schema) ∙ (ap (λ (s : Schema). schemas_differ s c.args.frame.now.schema) (sym c.schema.ensures) ∙ (ap (schemas_differ c.schema.result.now) (sym c.schema-2.ensures.schema) ∙ (sym c.first_difference.ensures ∙ c.in_default.is))))
    (ap (λ o. append_before o (first_stamp c.args.frame.now.rows)) (sym (c.last_stamp_of.ensures ∙ last_of_index v.frame c.args.index.now of))
    ∙ (ap (append_before c.last_stamp_of.result) (sym c.first_stamp.ensures) ∙ (sym c.begins_before.ensures ∙ c.in_default-begins_before.is)))
    (behind_many v.frame c.args.frame.now of.storable c.requires.storable _
    (same_limits _ _ _ _ _ _ _ (c.rows.ensures ∙ of.rows) c.rows-2.ensures.rows (c.len-columns.ensures ∙ ap (λ (s : Schema). length s.columns) c.schema-3.ensures.schema) c.exceeded.ensures ∙ c.in-Some-exceeded.is))

pub returns-clause-judged : goal.returns-clause-judged
returns-clause-judged c = λ base of. record {
  same = ap (λ (s : Schema). schemas_differ s c.args.frame.now.schema) (sym of.schema) ∙ (ap (λ (s : Schema). schemas_differ s c.args.frame.now.schema) (sym c.schema.ensures) ∙ (ap (schemas_differ c.schema.result.now) (sym c.schema-2.ensures.schema) ∙ (sym c.first_difference.ensures ∙ c.in_default.is)));
  order = ap (λ o. append_before o (first_stamp c.args.frame.now.rows)) (sym (c.last_stamp_of.ensures ∙ last_of_index base c.args.index.now of))
      ∙ (ap (append_before c.last_stamp_of.result) (sym c.first_stamp.ensures) ∙ (sym c.begins_before.ensures ∙ c.in_default-begins_before.is));
  few = same_limits _ _ _ _ _ _ _ (c.rows.ensures ∙ of.rows) c.rows-2.ensures.rows (c.len-columns.ensures ∙ ap (λ (s : Schema). length s.columns) c.schema-3.ensures.schema) c.exceeded.ensures ∙ c.in_default-exceeded.is;
}
