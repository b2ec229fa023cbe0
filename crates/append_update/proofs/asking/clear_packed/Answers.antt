use Rattle.std.proofs.Common.{false, [], subst, Some}
use Rattle.std.specs.Prelude.{IfOk, IfErr}
use Rattle.reply_model.specs.CommitAnswers.{update_answer}
use Rattle.append_update.specs.declared.base.Base.{Base}
use Rattle.append_update.specs.Asking.{IsPlanOf}
use Rattle.append_update.specs.Newest.{IsBaseAt}
use Rattle.append_update.specs.Looking.{AnyBase, RefusesPlan}
use Rattle.append_update.proofs.asking.clear_packed.Goals as goal

pub returns-in-Ok-clause-plan : goal.returns-in-Ok-clause-plan
returns-in-Ok-clause-plan g c =
    subst (λ (x : Base). (b : IsBaseAt (g.B.Bucket.number c.args.bucket.now) (g.B.Bucket.seen c.args.bucket.now) c.args.symbol.now x)
    → IfOk c.clear_over.result (IsPlanOf b.before c.args.symbol.now c.args.options.now (λ st. update_answer st false c.args.options.now.prune c.args.options.now.at (Some c.args.range) (record b.version.frame { rows = [] })))) c.in-Ok.ensures c.clear_over.ensures.plan

pub returns-in-Ok-clause-refused : goal.returns-in-Ok-clause-refused
returns-in-Ok-clause-refused g c =
    subst (λ (x : Base). (b : IsBaseAt (g.B.Bucket.number c.args.bucket.now) (g.B.Bucket.seen c.args.bucket.now) c.args.symbol.now x)
    → IfErr c.clear_over.result (RefusesPlan (g.B.Bucket.number c.args.bucket.now) c.args.symbol.now AnyBase (λ st. update_answer st false c.args.options.now.prune c.args.options.now.at (Some c.args.range) (record b.version.frame { rows = [] })) b.before (g.B.Bucket.faults c.args.bucket.now) (g.B.Bucket.faults c.clear_over.new.bucket) (g.B.Bucket.seen c.args.bucket.now) (g.B.Bucket.seen c.clear_over.new.bucket))) c.in-Ok.ensures c.clear_over.ensures.refused
