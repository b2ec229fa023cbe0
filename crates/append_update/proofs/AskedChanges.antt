-- The change that the library answers to a command.
use Rattle.std.proofs.Common.{◌≡◌, not, ℤ, Bool, true, false, List, [], ◌∷◌, ◌++◌, refl, sym, ap, ◌∙◌, Option, Some, None, Result, Ok, Err}
use Rattle.frame_core.specs.declared.refusal.Refusal.{Refusal}
use Rattle.frame_core.specs.declared.refusal.Refusal.TheVariants as refusals
use Rattle.frame_core.specs.declared.refusal.Asked.TheVariants as asks
use Rattle.frame_core.specs.Ranges.{Range}
use Rattle.frame_core.specs.Frames.{Row, Frame, replace_range}
use Rattle.frame_core.specs.RawFrames.{unless}
use Rattle.bucket_core.specs.declared.event.Change.{Change}
use Rattle.bucket_core.specs.declared.event.Change.TheVariants as changes
use Rattle.store_model.specs.Library.{State, Version, base_of, on_base}
use Rattle.reply_model.specs.Answering.{Answer, ◌then◌, refuse_if, or_refuse, committed, fits_schema, in_order, may_append, within_limits, joined_within}
use Rattle.reply_model.specs.CommitAnswers.{append_answer, update_range, may_update, update_answer, clear_answer}

-- it is this, if it is not refused
abbrev Gives : {A : Type 0} → Result A Refusal → A → Type 0
Gives {A} r x = (a : A) → r ≡ Ok a → a ≡ x

gives_ok : {A : Type 0} (x : A) → Gives (Ok x) x
gives_ok {A} x a e = same e
  where
    same : {x y : A} → ◌≡◌ {A = Result A Refusal} (Ok x) (Ok y) → y ≡ x
    same e = cc

gives_then : {A B : Type 0} (r : Result A Refusal) (f : A → Result B Refusal) (x : A) (y : B) → Gives r x → Gives (f x) y → Gives (r then f) y
gives_then (Ok a) f x y g h b e = h b (ap f (sym (g a refl)) ∙ e)
gives_then (Err w) f x y g h b e = absurd cc

gives_unless : {A X : Type 0} (o : Option X) (f : X → Refusal) (x : A) → Gives (unless o f (Ok x)) x
gives_unless None f x a e = gives_ok x a e
gives_unless (Some y) f x a e = absurd cc

gives_if : {A : Type 0} (b : Bool) (w : Refusal) (next : Result A Refusal) (x : A) → Gives next x → Gives (refuse_if b w next) x
gives_if true w next x g a e = absurd cc
gives_if false w next x g a e = g a e

gives_joined : (join : List Row → List Row → List Row) (base : Option Version) (frame : Frame) → Gives (joined_within join base frame) frame
gives_joined join None frame = gives_ok frame
gives_joined join (Some base) frame = gives_then (within_limits (on_base join (Some base) frame)) (λ whole. Ok frame) (on_base join (Some base) frame) frame (gives_unless _ _ (on_base join (Some base) frame)) (gives_ok frame)

gives_may_append : (base : Option Version) (frame : Frame) → Gives (may_append base frame) frame
gives_may_append None frame = gives_ok frame
gives_may_append (Some base) frame = gives_then (fits_schema base.frame frame) (λ f. in_order base.frame f) frame frame (gives_unless _ refusals.SchemaDiffers frame) (gives_unless _ _ frame)

gives_may_update : (st : State) (upsert : Bool) (base : Option Version) (frame : Frame) → Gives (may_update st upsert base frame) frame
gives_may_update st upsert None frame =
    gives_if _ refusals.NoSuchSymbol (refuse_if _ (refusals.NoSuchVersion (asks.Back 1)) (Ok frame)) frame (gives_if _ (refusals.NoSuchVersion (asks.Back 1)) (Ok frame) frame (gives_ok frame))
gives_may_update st upsert (Some base) frame = gives_unless _ refusals.SchemaDiffers frame

-- the first change of a commit
change_same : (st : State) (prune : Bool) (c d : Change) → committed st prune c ≡ committed st prune d → c ≡ d
change_same st prune c d e = first_same (ap (λ (a : Answer). a.marks) e)
  where
    first_same : {x y : Change} {xs ys : List Change} → x ∷ xs ≡ y ∷ ys → x ≡ y
    first_same e = cc

module _ (st : State) (prune : Bool) (at : ℤ) where
  pub appended_change : (frame : Frame) (c : Change) → append_answer st prune at frame ≡ Ok (committed st prune c) → c ≡ changes.Appended frame at
  appended_change frame c e =
      change_same st prune c (changes.Appended frame at)
      (gives_then (may_append (base_of st) frame) _ frame _ (gives_may_append (base_of st) frame)
      (gives_then (joined_within (λ old new. old ++ new) (base_of st) frame) _ frame _ (gives_joined (λ old new. old ++ new) (base_of st) frame) (gives_ok (committed st prune (changes.Appended frame at))))
      (committed st prune c) e)

  pub updated_change : (upsert : Bool) (range : Range) (frame : Frame) (c : Change) → update_answer st upsert prune at (Some range) frame ≡ Ok (committed st prune c) → c ≡ changes.Updated frame range at
  updated_change upsert range frame c e =
      change_same st prune c (changes.Updated frame range at)
      (gives_then (update_range (Some range) frame) _ range _ (gives_unless _ refusals.OutsideRange range)
      (gives_then (may_update st upsert (base_of st) frame) _ frame _ (gives_may_update st upsert (base_of st) frame)
      (gives_then (joined_within (λ old new. replace_range range new old) (base_of st) frame) _ frame _ (gives_joined (λ old new. replace_range range new old) (base_of st) frame)
      (gives_ok (committed st prune (changes.Updated frame range at)))))
      (committed st prune c) e)

  -- a delete of a range is an update of the base
  pub cleared_change : (range : Range) (c : Change) → clear_answer range prune at st ≡ Ok (committed st prune c)
      → (v : Version) × (base_of st ≡ Some v) × (c ≡ changes.Updated (record v.frame { rows = [] }) range at)
  cleared_change range c e = by (not st.has_reference) (base_of st) refl e
    where
      by : (b : Bool) (o : Option Version) → base_of st ≡ o
          → (refuse_if b refusals.NoSuchSymbol (or_refuse o (refusals.NoSuchVersion (asks.Back 1))) then λ v. update_answer st false prune at (Some range) (record v.frame { rows = [] })) ≡ Ok (committed st prune c)
          → (v : Version) × (base_of st ≡ Some v) × (c ≡ changes.Updated (record v.frame { rows = [] }) range at)
      by true o is e = absurd cc
      by false None is e = absurd cc
      by false (Some v) is e = (v, is, updated_change false range (record v.frame { rows = [] }) c e)
