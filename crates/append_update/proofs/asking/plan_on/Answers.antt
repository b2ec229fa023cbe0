use Rattle.std.proofs.Common.{rules, ◌≡◌, length, sym, subst, ap, ◌∙◌, inl, inr, None, Some, Option, Result, Ok, Err, false, w64, to_z, of_z}
use Rattle.std.specs.List.{list_any}
use Rattle.std.specs.Prelude.{IfOk, IfErr, IfSome}
use Rattle.bucket_core.specs.History.{AllByOthers, history_at}
use Rattle.version_chain.proofs.SteadyLemmas.{on_err}
use Rattle.version_chain.specs.Tips.{IsTipOf}
use Rattle.version_chain.specs.Marking.{own_refers}
use Rattle.frame_write.specs.declared.pieces.LinkPlan.{LinkPlan}
use Rattle.store_model.specs.Law.{IsClaimed}
use Rattle.store_model.specs.Library.{state_of, is_buried}
use Rattle.frame_read.specs.Fetches.{IsTargetIndex}
use Rattle.frame_read.proofs.LoopLemmas.{looks_more}
use Rattle.append_update.specs.declared.base.Base.{Base}
use Rattle.append_update.specs.Asking.{answer_to, IsPlanOf, IsAlone, FitsBase}
use Rattle.append_update.specs.Looking.{NoBase, RefusesBase, RefusesPlan}
use Rattle.append_update.specs.Newest.{IsBase}
use Rattle.append_update.proofs.LaterLemmas.{if_err, base_fits}
use Rattle.append_update.proofs.BaseLemmas.{walked_here}
use Rattle.append_update.proofs.PlanLemmas.{base_found, alone_plan, alone_refused}
use Rattle.append_update.proofs.TryLemmas.{plan_wider}
use Rattle.append_update.proofs.asking.plan_on.Goals as goal

-- what holds of what is there holds of it
if_some : (P : Base → Type 0) (o : Option Base) (base : Base) → o ≡ Some base → IfSome o P → P base
if_some P o base is p = subst (λ (x : Option Base). IfSome x P) is p

if_ok : {A E : Type 0} (P Q : A → Type 0) (r : Result A E) → ((a : A) → P a → Q a) → IfOk r P → IfOk r Q
if_ok P Q (Ok a) f p = f a p
if_ok P Q (Err e) f p = tt

pub base_of-requires : goal.base_of-requires
base_of-requires g c = record { walked = (c.args.options.now.prune, c.requires.walked.0, c.requires.walked.1) }

pub plan_over-requires-clause-base : goal.plan_over-requires-clause-base
plan_over-requires-clause-base g c =
    let number = g.B.Bucket.number c.base_of.new.bucket in
    let same = c.base_of.ensures.steady.same_number in
    let at = c.requires.walked.0 in
    let b = base_found number (g.B.Bucket.seen c.args.bucket.now) (g.B.Bucket.seen c.base_of.new.bucket) c.base_of.ensures.looks.others c.args.symbol.now c.args.options.now.prune c.args.tip.now c.in-Some.base at
    (subst (λ n. list_any (own_refers n c.args.symbol.now) at.later ≡ false) (sym same) c.requires.walked.1) c.base_of.ensures.looks.is (subst (λ n. AllByOthers n c.base_of.ensures.looks.others) (sym same) c.base_of.ensures.looks.by_others)
    (subst (IsBase (history_at (g.B.Bucket.seen c.args.bucket.now) c.args.tip.now.place) c.args.symbol.now) c.in-Some.is c.in_ok-base.ensures.base)
    (if_some (λ (it : Base). IsTargetIndex (g.B.Bucket.seen c.base_of.new.bucket) it.target it.index) c.in_ok-base.base c.in-Some.base c.in-Some.is c.in_ok-base.ensures.target)
    (if_some (λ (it : Base). it.target.symbol ≡ c.args.symbol.now) c.in_ok-base.base c.in-Some.base c.in-Some.is c.in_ok-base.ensures.symbol)
    (if_some (λ (it : Base). it.target.place ≡ c.args.tip.now.place) c.in_ok-base.base c.in-Some.base c.in-Some.is c.in_ok-base.ensures.place)
    (if_some (λ (it : Base). is_buried (state_of (history_at (g.B.Bucket.seen c.args.bucket.now) c.args.tip.now.place) c.args.symbol.now) it.target.version ≡ false) c.in_ok-base.base c.in-Some.base c.in-Some.is c.in_ok-base.ensures.live) in
    b

pub returns-in-Some-clause-looks : goal.returns-in-Some-clause-looks
returns-in-Some-clause-looks g c =
    looks_more IsClaimed (g.B.Bucket.number c.args.bucket.now) (g.B.Bucket.sole c.args.bucket.now) (g.B.Bucket.number c.base_of.new.bucket) (g.B.Bucket.sole c.base_of.new.bucket)
    (g.B.Bucket.seen c.args.bucket.now) (g.B.Bucket.seen c.base_of.new.bucket) (g.B.Bucket.seen c.plan_over.new.bucket)
    c.base_of.ensures.steady.same_number c.base_of.ensures.steady.stays_sole c.base_of.ensures.looks c.plan_over.ensures.looks

pub returns-in-Some-clause-plan : goal.returns-in-Some-clause-plan
returns-in-Some-clause-plan g c =
    let number = g.B.Bucket.number c.base_of.new.bucket in
    let same = c.base_of.ensures.steady.same_number in
    let at = c.requires.walked.0 in
    let b = base_found number (g.B.Bucket.seen c.args.bucket.now) (g.B.Bucket.seen c.base_of.new.bucket) c.base_of.ensures.looks.others c.args.symbol.now c.args.options.now.prune c.args.tip.now c.in-Some.base at
    (subst (λ n. list_any (own_refers n c.args.symbol.now) at.later ≡ false) (sym same) c.requires.walked.1) c.base_of.ensures.looks.is (subst (λ n. AllByOthers n c.base_of.ensures.looks.others) (sym same) c.base_of.ensures.looks.by_others)
    (subst (IsBase (history_at (g.B.Bucket.seen c.args.bucket.now) c.args.tip.now.place) c.args.symbol.now) c.in-Some.is c.in_ok-base.ensures.base)
    (if_some (λ (it : Base). IsTargetIndex (g.B.Bucket.seen c.base_of.new.bucket) it.target it.index) c.in_ok-base.base c.in-Some.base c.in-Some.is c.in_ok-base.ensures.target)
    (if_some (λ (it : Base). it.target.symbol ≡ c.args.symbol.now) c.in_ok-base.base c.in-Some.base c.in-Some.is c.in_ok-base.ensures.symbol)
    (if_some (λ (it : Base). it.target.place ≡ c.args.tip.now.place) c.in_ok-base.base c.in-Some.base c.in-Some.is c.in_ok-base.ensures.place)
    (if_some (λ (it : Base). is_buried (state_of (history_at (g.B.Bucket.seen c.args.bucket.now) c.args.tip.now.place) c.args.symbol.now) it.target.version ≡ false) c.in_ok-base.base c.in-Some.base c.in-Some.is c.in_ok-base.ensures.live) in
    subst (λ h. IfOk c.plan_over.result (IsPlanOf h c.args.symbol.now c.args.options.now (answer_to c.args.wish.now c.args.options.now.prune c.args.options.now.at)))
    (sym (walked_here (g.B.Bucket.seen c.args.bucket.now) c.args.symbol.now c.args.options.now.prune c.args.tip.now at)) (c.plan_over.ensures.plan b)

pub returns-in-Some-clause-refused : goal.returns-in-Some-clause-refused
returns-in-Some-clause-refused g c =
    let number = g.B.Bucket.number c.base_of.new.bucket in
    let same = c.base_of.ensures.steady.same_number in
    let at = c.requires.walked.0 in
    let b = base_found number (g.B.Bucket.seen c.args.bucket.now) (g.B.Bucket.seen c.base_of.new.bucket) c.base_of.ensures.looks.others c.args.symbol.now c.args.options.now.prune c.args.tip.now c.in-Some.base at
    (subst (λ n. list_any (own_refers n c.args.symbol.now) at.later ≡ false) (sym same) c.requires.walked.1) c.base_of.ensures.looks.is (subst (λ n. AllByOthers n c.base_of.ensures.looks.others) (sym same) c.base_of.ensures.looks.by_others)
    (subst (IsBase (history_at (g.B.Bucket.seen c.args.bucket.now) c.args.tip.now.place) c.args.symbol.now) c.in-Some.is c.in_ok-base.ensures.base)
    (if_some (λ (it : Base). IsTargetIndex (g.B.Bucket.seen c.base_of.new.bucket) it.target it.index) c.in_ok-base.base c.in-Some.base c.in-Some.is c.in_ok-base.ensures.target)
    (if_some (λ (it : Base). it.target.symbol ≡ c.args.symbol.now) c.in_ok-base.base c.in-Some.base c.in-Some.is c.in_ok-base.ensures.symbol)
    (if_some (λ (it : Base). it.target.place ≡ c.args.tip.now.place) c.in_ok-base.base c.in-Some.base c.in-Some.is c.in_ok-base.ensures.place)
    (if_some (λ (it : Base). is_buried (state_of (history_at (g.B.Bucket.seen c.args.bucket.now) c.args.tip.now.place) c.args.symbol.now) it.target.version ≡ false) c.in_ok-base.base c.in-Some.base c.in-Some.is c.in_ok-base.ensures.live) in
    let answer = answer_to c.args.wish.now c.args.options.now.prune c.args.options.now.at in
    if_err _ _ c.plan_over.result (λ e p.
    plan_wider (g.B.Bucket.number c.args.bucket.now) c.args.symbol.now (FitsBase c.args.wish.now) answer (history_at (g.B.Bucket.seen c.args.bucket.now) c.args.tip.now.place) (g.B.Bucket.faults c.args.bucket.now) (g.B.Bucket.faults c.base_of.new.bucket) (g.B.Bucket.faults c.plan_over.new.bucket) c.base_of.ensures.looks.others
    (g.B.Bucket.seen c.args.bucket.now) (g.B.Bucket.seen c.base_of.new.bucket) (g.B.Bucket.seen c.plan_over.new.bucket) e c.base_of.ensures.steady.faults_rise c.base_of.ensures.looks.is
    (subst (λ n. RefusesPlan n c.args.symbol.now (FitsBase c.args.wish.now) answer (history_at (g.B.Bucket.seen c.args.bucket.now) c.args.tip.now.place) (g.B.Bucket.faults c.base_of.new.bucket) (g.B.Bucket.faults c.plan_over.new.bucket) (g.B.Bucket.seen c.base_of.new.bucket) (g.B.Bucket.seen c.plan_over.new.bucket) e) same
    (subst (λ h. RefusesPlan number c.args.symbol.now (FitsBase c.args.wish.now) answer h (g.B.Bucket.faults c.base_of.new.bucket) (g.B.Bucket.faults c.plan_over.new.bucket) (g.B.Bucket.seen c.base_of.new.bucket) (g.B.Bucket.seen c.plan_over.new.bucket) e)
    (sym (walked_here (g.B.Bucket.seen c.args.bucket.now) c.args.symbol.now c.args.options.now.prune c.args.tip.now at)) p))) (c.plan_over.ensures.refused b)

pub returns-in-Ok-clause-plan : goal.returns-in-Ok-clause-plan
returns-in-Ok-clause-plan g c =
    let h = history_at (g.B.Bucket.seen c.args.bucket.now) c.args.tip.now.place in
    let at = c.requires.walked.0 in
    let walked = subst (λ x. IsTipOf x c.args.symbol.now c.args.options.now.prune c.args.tip.now) (sym (walked_here (g.B.Bucket.seen c.args.bucket.now) c.args.symbol.now c.args.options.now.prune c.args.tip.now at)) at.is in
    let none = subst (IsBase h c.args.symbol.now) c.in-None.is c.in_ok-base.ensures.base in
    let stamp : to_z w64 (of_z w64 c.stamp_of.result) ≡ c.args.options.now.at = search rules in
    if_ok _ _ c.or_missing.result (λ plan is.
    alone_plan h c.args.symbol.now c.args.options.now.prune c.args.tip.now walked c.args.options.now none c.args.wish.now plan c.requires.wish
    (subst (λ t. IsAlone c.args.wish.now t (Some plan)) stamp
    (subst (λ (o : Option LinkPlan). IsAlone c.args.wish.now (to_z w64 (of_z w64 c.stamp_of.result)) o) is c.in-Ok.ensures))) c.or_missing.ensures.plan

pub returns-in-Ok-clause-refused : goal.returns-in-Ok-clause-refused
returns-in-Ok-clause-refused g c =
    let h = history_at (g.B.Bucket.seen c.args.bucket.now) c.args.tip.now.place in
    let at = c.requires.walked.0 in
    let here = walked_here (g.B.Bucket.seen c.args.bucket.now) c.args.symbol.now c.args.options.now.prune c.args.tip.now at in
    let walked = subst (λ x. IsTipOf x c.args.symbol.now c.args.options.now.prune c.args.tip.now) (sym here) at.is in
    let none = subst (IsBase h c.args.symbol.now) c.in-None.is c.in_ok-base.ensures.base in
    let stamp : to_z w64 (of_z w64 c.stamp_of.result) ≡ c.args.options.now.at = search rules in
    if_err _ _ c.or_missing.result (λ refused m. inr (record {
      place = m.place ∙ (at.place ∙ ap length (sym here));
      answered = alone_refused h c.args.symbol.now c.args.options.now.prune c.args.tip.now walked c.args.options.now none c.args.wish.now c.requires.wish
          (subst (λ t. IsAlone c.args.wish.now t None) stamp
          (subst (λ (o : Option LinkPlan). IsAlone c.args.wish.now (to_z w64 (of_z w64 c.stamp_of.result)) o) m.none c.in-Ok.ensures))
          ∙ ap Err (sym m.why);
    })) c.or_missing.ensures.refused

pub returns-in_err-base-clause-refused : goal.returns-in_err-base-clause-refused
returns-in_err-base-clause-refused g c =
    let old = g.B.Bucket.seen c.args.bucket.now in
    let new = g.B.Bucket.seen c.base_of.new.bucket in
    let h = history_at old c.args.tip.now.place in
    let at = c.requires.walked.0 in
    let place : c.args.tip.now.place ≡ length h = at.place ∙ ap length (sym (walked_here old c.args.symbol.now c.args.options.now.prune c.args.tip.now at)) in
    on_err (λ r. IfErr r (RefusesPlan (g.B.Bucket.number c.args.bucket.now) c.args.symbol.now (FitsBase c.args.wish.now) (answer_to c.args.wish.now c.args.options.now.prune c.args.options.now.at) h (g.B.Bucket.faults c.args.bucket.now) (g.B.Bucket.faults c.base_of.new.bucket) old new))
    c.from_residual.result c.in_err-base.field-0.0 c.from_residual.ensures.0 c.from_residual.ensures.1
    (inl (base_fits (g.B.Bucket.number c.args.bucket.now) c.args.symbol.now NoBase (FitsBase c.args.wish.now) (length h) (g.B.Bucket.faults c.args.bucket.now) (g.B.Bucket.faults c.base_of.new.bucket) old new c.in_err-base.field-0.0 (λ v e none. absurd none)
    (subst (λ n. RefusesBase (g.B.Bucket.number c.args.bucket.now) c.args.symbol.now NoBase n (g.B.Bucket.faults c.args.bucket.now) (g.B.Bucket.faults c.base_of.new.bucket) old new c.in_err-base.field-0.0) place c.in_err-base.ensures.refused)))
