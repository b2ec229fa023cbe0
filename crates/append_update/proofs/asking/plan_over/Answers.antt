use Rattle.std.proofs.Common.{sym, subst}
use Rattle.std.specs.Prelude.{IfOk, IfErr}
use Rattle.append_update.specs.Asking.{answer_to, IsPlanOf, FitsBase}
use Rattle.append_update.specs.Looking.{RefusesPlan}
use Rattle.append_update.proofs.ReplacePlans.{clear_plans, clear_refusals}
use Rattle.append_update.proofs.asking.plan_over.Goals as goal

pub returns-in-Append-clause-plan : goal.returns-in-Append-clause-plan
returns-in-Append-clause-plan g c = λ b.
    subst (λ w. IfOk c.append_over.result (IsPlanOf b.before c.args.symbol.now c.args.options.now (answer_to w c.args.options.now.prune c.args.options.now.at))) (sym c.in-Append.is) (c.append_over.ensures.plan b)

pub returns-in-Append-clause-refused : goal.returns-in-Append-clause-refused
returns-in-Append-clause-refused g c = λ b.
    subst (λ w. IfErr c.append_over.result (RefusesPlan (g.B.Bucket.number c.args.bucket.now) c.args.symbol.now (FitsBase w) (answer_to w c.args.options.now.prune c.args.options.now.at) b.before (g.B.Bucket.faults c.args.bucket.now) (g.B.Bucket.faults c.append_over.new.bucket) (g.B.Bucket.seen c.args.bucket.now) (g.B.Bucket.seen c.append_over.new.bucket)))
    (sym c.in-Append.is) (c.append_over.ensures.refused b)

pub returns-in-Replace-clause-plan : goal.returns-in-Replace-clause-plan
returns-in-Replace-clause-plan g c = λ b.
    subst (λ w. IfOk c.replace_packed.result (IsPlanOf b.before c.args.symbol.now c.args.options.now (answer_to w c.args.options.now.prune c.args.options.now.at))) (sym c.in-Replace.is) (c.replace_packed.ensures.plan b _)

pub returns-in-Replace-clause-refused : goal.returns-in-Replace-clause-refused
returns-in-Replace-clause-refused g c = λ b.
    subst (λ w. IfErr c.replace_packed.result (RefusesPlan (g.B.Bucket.number c.args.bucket.now) c.args.symbol.now (FitsBase w) (answer_to w c.args.options.now.prune c.args.options.now.at) b.before (g.B.Bucket.faults c.args.bucket.now) (g.B.Bucket.faults c.replace_packed.new.bucket) (g.B.Bucket.seen c.args.bucket.now) (g.B.Bucket.seen c.replace_packed.new.bucket)))
    (sym c.in-Replace.is) (c.replace_packed.ensures.refused b _)

pub returns-in-Clear-clause-plan : goal.returns-in-Clear-clause-plan
returns-in-Clear-clause-plan g c = λ b.
    subst (λ w. IfOk c.clear_packed.result (IsPlanOf b.before c.args.symbol.now c.args.options.now (answer_to w c.args.options.now.prune c.args.options.now.at))) (sym c.in-Clear.is)
    (clear_plans b.before c.args.symbol.now c.args.options.now b.version b.newest.is c.in-Clear.range c.clear_packed.result (c.clear_packed.ensures.plan b))

pub returns-in-Clear-clause-refused : goal.returns-in-Clear-clause-refused
returns-in-Clear-clause-refused g c = λ b.
    subst (λ w. IfErr c.clear_packed.result (RefusesPlan (g.B.Bucket.number c.args.bucket.now) c.args.symbol.now (FitsBase w) (answer_to w c.args.options.now.prune c.args.options.now.at) b.before (g.B.Bucket.faults c.args.bucket.now) (g.B.Bucket.faults c.clear_packed.new.bucket) (g.B.Bucket.seen c.args.bucket.now) (g.B.Bucket.seen c.clear_packed.new.bucket)))
    (sym c.in-Clear.is) (clear_refusals b.before c.args.symbol.now c.args.options.now b.version b.newest.is c.in-Clear.range (g.B.Bucket.number c.args.bucket.now) (g.B.Bucket.faults c.args.bucket.now) (g.B.Bucket.faults c.clear_packed.new.bucket) (g.B.Bucket.seen c.args.bucket.now) (g.B.Bucket.seen c.clear_packed.new.bucket) c.clear_packed.result (c.clear_packed.ensures.refused b))
