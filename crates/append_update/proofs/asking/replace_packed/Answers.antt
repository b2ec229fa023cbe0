use Rattle.std.proofs.Common.{Bool, subst, Some}
use Rattle.std.specs.Prelude.{IfOk, IfErr}
use Rattle.reply_model.specs.CommitAnswers.{update_answer}
use Rattle.append_update.specs.declared.base.Base.{Base}
use Rattle.append_update.specs.Asking.{HasColumnsOf, IsPlanOf}
use Rattle.append_update.specs.Newest.{IsBaseAt}
use Rattle.append_update.specs.Looking.{RefusesPlan}
use Rattle.append_update.proofs.asking.replace_packed.Goals as goal

pub returns-in-Ok-clause-plan : goal.returns-in-Ok-clause-plan
returns-in-Ok-clause-plan g c =
    subst (λ (x : Base). (b : IsBaseAt (g.B.Bucket.number c.args.bucket.now) (g.B.Bucket.seen c.args.bucket.now) c.args.symbol.now x) (upsert : Bool)
    → IfOk c.replace_over.result (IsPlanOf b.before c.args.symbol.now c.args.options.now (λ st. update_answer st upsert c.args.options.now.prune c.args.options.now.at (Some c.args.range) c.args.frame.now))) c.in-Ok.ensures c.replace_over.ensures.plan

pub returns-in-Ok-clause-refused : goal.returns-in-Ok-clause-refused
returns-in-Ok-clause-refused g c =
    subst (λ (x : Base). (b : IsBaseAt (g.B.Bucket.number c.args.bucket.now) (g.B.Bucket.seen c.args.bucket.now) c.args.symbol.now x) (upsert : Bool)
    → IfErr c.replace_over.result (RefusesPlan (g.B.Bucket.number c.args.bucket.now) c.args.symbol.now (HasColumnsOf c.args.frame.now) (λ st. update_answer st upsert c.args.options.now.prune c.args.options.now.at (Some c.args.range) c.args.frame.now) b.before (g.B.Bucket.faults c.args.bucket.now) (g.B.Bucket.faults c.replace_over.new.bucket) (g.B.Bucket.seen c.args.bucket.now) (g.B.Bucket.seen c.replace_over.new.bucket))) c.in-Ok.ensures c.replace_over.ensures.refused
