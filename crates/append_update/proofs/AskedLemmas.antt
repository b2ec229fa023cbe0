-- What a command asks, as the one-thread library answers it.
use Rattle.std.proofs.Common.{◌&&◌, not, ◌≡◌, ℕ, ℤ, Bool, true, false, List, [], ◌++◌, refl, sym, ap, ◌∙◌, subst, inl, Option, Some, None, Result, Ok, Err}
use Rattle.frame_core.specs.declared.refusal.Asked.TheVariants as asks
use Rattle.frame_core.specs.declared.refusal.Refusal.{Refusal}
use Rattle.frame_core.specs.declared.refusal.Refusal.TheVariants as refusals
use Rattle.frame_core.specs.Ranges.{Range}
use Rattle.frame_core.specs.Frames.{Row, Frame}
use Rattle.frame_core.specs.RawFrames.{unless}
use Rattle.key_kind.specs.Names.{Name}
use Rattle.bucket_core.specs.History.{History}
use Rattle.store_model.specs.Library.{State, Version, Piece, state_of, base_of, next_number}
use Rattle.reply_model.specs.declared.reply.Reply.{Reply}
use Rattle.reply_model.specs.Losses.{FindsGone}
use Rattle.reply_model.specs.declared.outcome.Outcome.TheVariants as outcomes
use Rattle.store_model.specs.Snapshots.{Library, library_of}
use Rattle.store_model.specs.Commits.{IsFilled}
use Rattle.expr_clause.specs.declared.command.Command.{Command}
use Rattle.reply_model.specs.Answering.{Session, answered, ◌then◌, refuse_if, or_refuse, committed, fits_schema, in_order, may_append, joined_within, base_or}
use Rattle.reply_model.specs.CommitAnswers.{append_answer, update_range, may_update, update_answer}
use Rattle.reply_model.specs.Answers.{answer}
use Rattle.reply_model.specs.Causes.{MarksAt}
use Rattle.frame_write.specs.declared.options.Options.{Options}
use Rattle.frame_write.specs.Plans.{IsUnmoved}
use Rattle.frame_write.proofs.CommandLemmas.{MakesVersion, is_answer, IsAskedBy}
use Rattle.append_update.specs.declared.wish.Wish.{Wish}
use Rattle.append_update.specs.declared.wish.Wish.TheVariants as wishes
use Rattle.append_update.specs.Asking.{answer_to, IsAnswered, Declines, Wants, Loses}

-- ---- each refusal is one that the library may give

-- whatever it refuses
abbrev pub IsGood : {A : Type 0} → Result A Refusal → Type 0
IsGood r = (why : Refusal) → r ≡ Err why → is_answer why ≡ true

good_ok : {A : Type 0} (a : A) → IsGood (Ok a)
good_ok a why e = absurd cc

good_err : {A : Type 0} (w : Refusal) → is_answer w ≡ true → IsGood {A = A} (Err w)
good_err {A} w t why e = subst (λ x. is_answer x ≡ true) (same e) t
  where
    same : {x y : Refusal} → ◌≡◌ {A = Result A Refusal} (Err x) (Err y) → x ≡ y
    same e = cc

good_then : {A B : Type 0} (r : Result A Refusal) (f : A → Result B Refusal) → IsGood r → ((a : A) → IsGood (f a)) → IsGood (r then f)
good_then (Ok a) f g h = h a
good_then (Err w) f g h = good_err w (g w refl)

good_unless : {A X : Type 0} (o : Option X) (f : X → Refusal) (next : Result A Refusal) → ((x : X) → is_answer (f x) ≡ true) → IsGood next → IsGood (unless o f next)
good_unless None f next each g = g
good_unless (Some x) f next each g = good_err (f x) (each x)

good_if : {A : Type 0} (b : Bool) (w : Refusal) (next : Result A Refusal) → is_answer w ≡ true → IsGood next → IsGood (refuse_if b w next)
good_if true w next t g = good_err w t
good_if false w next t g = g

good_or : {A : Type 0} (o : Option A) (w : Refusal) → is_answer w ≡ true → IsGood (or_refuse o w)
good_or None w t = good_err w t
good_or (Some a) w t = good_ok a

good_fits : (base frame : Frame) → IsGood (fits_schema base frame)
good_fits base frame = good_unless _ refusals.SchemaDiffers (Ok frame) (λ column. refl) (good_ok frame)

good_joined : (join : List Row → List Row → List Row) (base : Option Version) (frame : Frame) → IsGood (joined_within join base frame)
good_joined join None frame = good_ok frame
good_joined join (Some base) frame = good_then _ _ (good_unless _ _ _ (λ x. refl) (good_ok _)) (λ whole. good_ok frame)

good_may_append : (base : Option Version) (frame : Frame) → IsGood (may_append base frame)
good_may_append None frame = good_ok frame
good_may_append (Some base) frame = good_then (fits_schema base.frame frame) (λ f. in_order base.frame f) (good_fits base.frame frame) (λ f. good_unless _ _ (Ok f) (λ p. refl) (good_ok f))

good_append : (st : State) (prune : Bool) (at : ℤ) (frame : Frame) → IsGood (append_answer st prune at frame)
good_append st prune at frame =
    good_then (may_append (base_of st) frame) _ (good_may_append (base_of st) frame)
    (λ f. good_then (joined_within (λ old new. old ++ new) (base_of st) f) _ (good_joined (λ old new. old ++ new) (base_of st) f) (λ g. good_ok _))

pub good_range : (asked : Option Range) (frame : Frame) → IsGood (update_range asked frame)
good_range (Some range) frame = good_unless _ refusals.OutsideRange (Ok range) (λ row. refl) (good_ok range)
good_range None frame = good_then _ _ (good_or _ refusals.EmptyUpdate refl) (λ first. good_ok _)

good_may_update : (st : State) (upsert : Bool) (base : Option Version) (frame : Frame) → IsGood (may_update st upsert base frame)
good_may_update st upsert None frame =
    good_if (not upsert && not st.has_reference) refusals.NoSuchSymbol (refuse_if (not upsert) (refusals.NoSuchVersion (asks.Back 1)) (Ok frame)) refl
    (good_if (not upsert) (refusals.NoSuchVersion (asks.Back 1)) (Ok frame) refl (good_ok frame))
good_may_update st upsert (Some base) frame = good_fits base.frame frame

good_update : (st : State) (upsert prune : Bool) (at : ℤ) (asked : Option Range) (frame : Frame) → IsGood (update_answer st upsert prune at asked frame)
good_update st upsert prune at asked frame =
    good_then (update_range asked frame) _ (good_range asked frame)
    (λ range. good_then (may_update st upsert (base_of st) frame) _ (good_may_update st upsert (base_of st) frame)
    (λ f. good_then (joined_within _ (base_of st) f) _ (good_joined _ (base_of st) f) (λ g. good_ok _)))

pub good_answer : (wish : Wish) (prune : Bool) (at : ℤ) (st : State) → IsGood (answer_to wish prune at st)
good_answer (wishes.Append frame) prune at st = good_append st prune at frame.now
good_answer (wishes.Replace frame range upsert) prune at st = good_update st upsert prune at (Some range) frame.now
good_answer (wishes.Clear range) prune at st =
    good_then (base_or st) _ (good_if (not st.has_reference) refusals.NoSuchSymbol (or_refuse (base_of st) (refusals.NoSuchVersion (asks.Back 1))) refl (good_or (base_of st) (refusals.NoSuchVersion (asks.Back 1)) refl))
    (λ v. good_update st false prune at (Some range) (record v.frame { rows = [] }))

-- ---- more staged pieces change no answer

pub answer_staged : (wish : Wish) (prune : Bool) (at : ℤ) (st : State) (more : List Piece) → answer_to wish prune at (record st { staged = more }) ≡ answer_to wish prune at st
answer_staged (wishes.Append frame) prune at st more = refl
answer_staged (wishes.Replace frame range upsert) prune at st more = refl
answer_staged (wishes.Clear range) prune at st more = refl

pub answer_unmoved : (wish : Wish) (options : Options) (st now : State) (c : _) → IsUnmoved st now → answer_to wish options.prune options.at st ≡ Ok (committed st options.prune c)
    → answer_to wish options.prune options.at now ≡ Ok (committed now options.prune c)
answer_unmoved wish options st now c u e =
    subst (λ x. answer_to wish options.prune options.at x ≡ Ok (committed x options.prune c)) (sym u.is) (answer_staged wish options.prune options.at st (u.more ++ st.staged) ∙ e)

-- ---- a command that asks so

pub asked_by : (s : Session) (c : Command) (symbol : Name) (wish : Wish) (options : Options) → MakesVersion c symbol
    → ((listed l : Library) (p : ℕ) → answer s listed l p c ≡ Some (answered (answer_to wish options.prune options.at (l.state symbol))))
    → ((h : History) (limit : ℕ) (reply : Reply) (look showed : ℕ) → Loses symbol wish h look showed → FindsGone h (record { session = s; limit = limit }) c reply symbol look showed)
    → IsAskedBy s c symbol (IsAnswered s.client symbol wish options) (Declines symbol wish options) (Wants symbol wish options) (Loses symbol wish)
asked_by s c symbol wish options makes is loses = record {
  makes = makes;
  answers = λ m a l p. is l (library_of m.before) p ∙ (ap (λ r. Some (answered r)) a.answered ∙ ap (λ marks. Some (record { outcome = outcomes.Committed (next_number (state_of m.before symbol)); marks = marks })) (sym a.list));
  filled = λ m a. subst IsFilled (sym a.list) tt;
  refuses = λ h why r. (good_answer wish options.prune options.at (state_of h symbol) why r, λ l p. is l (library_of h) p ∙ ap (λ r. Some (answered r)) r);
  wants = λ h w l p. subst MarksAt (sym (is l (library_of h) p ∙ ap (λ r. Some (answered r)) w.1)) (inl (λ e. absurd cc));
  loses = loses;
}
