-- The plan of an update or a delete of a range over the newest live version.
use Rattle.std.proofs.Common.{◌≡◌, ℕ, Bool, true, false, cond, [], ◌∷◌, refl, sym, ap, ◌∙◌, subst, inl, inr, Option, Some, None, Result, Ok, Err}
use Rattle.std.specs.Prelude.{◌⊎◌, IfOk, IfErr, option_map}
use Rattle.std.proofs.lemmas.Bool.{true≢false}
use Rattle.frame_core.specs.declared.refusal.Extent.{Extent}
use Rattle.frame_core.specs.declared.refusal.Refusal.{Refusal}
use Rattle.frame_core.specs.declared.refusal.Refused.{Refused}
use Rattle.frame_core.specs.Ranges.{Range}
use Rattle.frame_core.specs.Frames.{Frame}
use Rattle.frame_core.specs.Limits.{IsStorable, frame_too_large, refuse_large}
use Rattle.key_kind.specs.Names.{Name, same_name}
use Rattle.bucket_core.specs.declared.event.Change.TheVariants as changes
use Rattle.bucket_core.specs.declared.event.Event.TheVariants as events
use Rattle.bucket_core.specs.History.{History}
use Rattle.store_model.specs.Library.{Version, state_of, base_of, after_changes}
use Rattle.reply_model.specs.CommitAnswers.{update_answer, outside}
use Rattle.frame_write.specs.declared.options.Options.{Options}
use Rattle.frame_write.specs.declared.pieces.LinkPlan.{LinkPlan}
use Rattle.append_update.specs.declared.cuts.Cuts.{Cuts}
use Rattle.append_update.specs.declared.pieces.Edges.{Edges}
use Rattle.append_update.specs.declared.base.Base.{Base}
use Rattle.append_update.specs.declared.wish.Wish.TheVariants as wishes
use Rattle.append_update.specs.Asking.{answer_to, IsPlanOf}
use Rattle.append_update.specs.Bases.{Divides}
use Rattle.append_update.specs.Looking.{AnyBase, RefusesPlan}
use Rattle.append_update.specs.Newest.{IsNewest}
use Rattle.append_update.specs.Replacing.{replaced, AreEdges}
use Rattle.append_update.specs.TooLarge.{IsTooLarge, IsJudged}
use Rattle.append_update.proofs.PlanLemmas.{inside_range}
use Rattle.append_update.proofs.UpdateAnswers.{MayReplace, update_plan_fits, update_answers}
use Rattle.append_update.proofs.ReplacedParts.{replaced_parts, replaced_keep}
use Rattle.append_update.proofs.ShareLemmas.{replaces_over}

-- the plan of the pieces makes the version
pub replace_over_is : (h : History) (symbol : Name) (options : Options) (v : Version) (base : Base) (range : Range) (cuts : Cuts) (edges : Edges) (frame : Frame) (plan : LinkPlan) → IsNewest h symbol v base.index → Divides range base.index.slots cuts
    → AreEdges v.frame range base.index.slots cuts edges → IsStorable frame → MayReplace range v.frame frame → outside 1 range frame.rows ≡ None → (upsert : Bool)
    → plan ≡ record { schema = frame.schema; pieces = replaced base.index.slots cuts edges frame; change = changes.Updated frame range options.at }
    → IsPlanOf h symbol options (λ st. update_answer st upsert options.prune options.at (Some range) frame) plan
replace_over_is h symbol options v base range cuts edges frame plan n divides are f may inside upsert is =
    subst (IsPlanOf h symbol options (λ st. update_answer st upsert options.prune options.at (Some range) frame)) (sym is) (record {
      fits = update_plan_fits h symbol options.at v base.index range cuts edges frame n divides are f may;
      answered = update_answers (state_of h symbol) upsert options.prune options.at (Some range) frame range (inside_range range frame inside) v n.is may;
      blocks = λ cut small. replaced_parts options.cutting cut h symbol v base.index range cuts edges frame options.at n may.order divides are small;
      keys = λ cut small. replaced_keep options.cutting cut h symbol v base.index range cuts edges frame options.at n may.order divides are small;
      slots = replaces_over options.cutting h symbol v base.index range cuts edges frame n divides are;
    })

-- ---- a version is made behind a reference

no_versions : (h : History) (symbol : Name) → (state_of h symbol).has_reference ≡ false → (state_of h symbol).versions ≡ []
no_versions [] symbol e = refl
no_versions (events.Put c key body ∷ h) symbol e = no_versions h symbol e
no_versions (events.Refer c s was entry list ∷ h) symbol e = by (no_versions h symbol) (same_name s symbol) e
  where
    by : ((state_of h symbol).has_reference ≡ false → (state_of h symbol).versions ≡ []) → (b : Bool) → (cond b (after_changes (state_of h symbol) list) (state_of h symbol)).has_reference ≡ false → (cond b (after_changes (state_of h symbol) list) (state_of h symbol)).versions ≡ []
    by earlier true e = absurd (true≢false e)
    by earlier false e = earlier e
no_versions (events.Name c snap body ∷ h) symbol e = no_versions h symbol e
no_versions (events.Unname c snap ∷ h) symbol e = no_versions h symbol e
no_versions (events.Drop c key ∷ h) symbol e = no_versions h symbol e

pub base_has_reference : (h : History) (symbol : Name) (v : Version) → base_of (state_of h symbol) ≡ Some v → (state_of h symbol).has_reference ≡ true
base_has_reference h symbol v is = by (state_of h symbol).has_reference refl
  where
    none_some : None ≡ Some v → ⊥
    none_some e = cc

    by : (b : Bool) → (state_of h symbol).has_reference ≡ b → (state_of h symbol).has_reference ≡ true
    by true e = e
    by false e = absurd (none_some (sym (ap (λ vs. base_of (record (state_of h symbol) { versions = vs })) (no_versions h symbol e)) ∙ is))

-- ---- a delete of a range is an update by no rows

module _ (h : History) (symbol : Name) (options : Options) (v : Version) (is : base_of (state_of h symbol) ≡ Some v) (range : Range) where
  clear_answer : answer_to (wishes.Clear range) options.prune options.at (state_of h symbol) ≡ update_answer (state_of h symbol) false options.prune options.at (Some range) (record v.frame { rows = [] })
  clear_answer = rw (base_has_reference h symbol v is, is) refl

  -- so are its plans
  pub clear_plans : (r : Result LinkPlan Refused) → IfOk r (IsPlanOf h symbol options (λ st. update_answer st false options.prune options.at (Some range) (record v.frame { rows = [] })))
      → IfOk r (IsPlanOf h symbol options (answer_to (wishes.Clear range) options.prune options.at))
  clear_plans (Ok plan) p = record { fits = p.fits; answered = clear_answer ∙ p.answered; blocks = p.blocks; keys = p.keys; slots = p.slots }
  clear_plans (Err refused) p = tt

  -- and its refusals
  pub clear_refusals : (client before now : ℕ) (old new : History) (r : Result LinkPlan Refused) → IfErr r (RefusesPlan client symbol AnyBase (λ st. update_answer st false options.prune options.at (Some range) (record v.frame { rows = [] })) h before now old new)
      → IfErr r (RefusesPlan client symbol AnyBase (answer_to (wishes.Clear range) options.prune options.at) h before now old new)
  clear_refusals client before now old new (Ok plan) p = tt
  clear_refusals client before now old new (Err refused) p = elim p [
    | inl look ↦ inl look
    | inr d ↦ inr (record { place = d.place; answered = clear_answer ∙ d.answered })
  ]

-- ---- the refusals of a size

pub large_some : (o : Option (Extent × ℕ)) (why : Refusal) → option_map refuse_large o ≡ Some why → (x : Extent × ℕ) × (o ≡ Some x) × (refuse_large x ≡ why)
large_some None why e = absurd (none_is e)
  where
    none_is : None ≡ Some why → ⊥
    none_is e = cc
large_some (Some x) why e = (x, refl, some_same e)
  where
    some_same : {a b : Refusal} → Some a ≡ Some b → a ≡ b
    some_same e = cc

pub large_none : (o : Option (Extent × ℕ)) → option_map refuse_large o ≡ None → o ≡ None
large_none None e = refl
large_none (Some x) e = absurd (some_is e)
  where
    some_is : {a : Refusal} → Some a ≡ None → ⊥
    some_is e = cc

-- ---- a judged frame

-- what holds of edges holds of the same ones
pub same_edges : (P : Edges → Type 0) (edges : Edges) (r : Result Edges Refused) → P edges → IfOk r (λ same. same ≡ edges) → IfOk r P
same_edges P edges (Ok same) p is = subst P (sym is) p
same_edges P edges (Err refused) p is = tt

pub judged_small : (place : ℕ) (frame : Frame) (r : Result Edges Refused) → IsJudged place frame r → IfOk r (λ _edges. frame_too_large frame ≡ None)
judged_small place frame (Ok edges) j = j
judged_small place frame (Err refused) j = tt

pub judged_large : (P : Refused → Type 0) (place : ℕ) (frame : Frame) (r : Result Edges Refused) → IsJudged place frame r → IfErr r (λ refused. P refused ⊎ IsTooLarge place frame refused)
judged_large P place frame (Ok edges) j = tt
judged_large P place frame (Err refused) j = inr j
