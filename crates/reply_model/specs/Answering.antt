-- What answers are made of.
--     Session                 what a session brings: its frames, its moment, its tries and its client
--     Answer                  an outcome, and for a committing command the changes of its symbol
--     then, refuse_if, or_refuse      an answer in steps, each of which may refuse (`then` is that of a query)
--     committed               the answer of a commit, with what it buries
--     version_or, base_or     a version, or why there is none
--     may_append, joined_within      whether a frame may be joined to the base
use Rattle.std.specs.Prelude.{ℕ, ℤ, Bool, true, false, not, if◌then◌else◌, List, [], ◌∷◌, map, reverse, slice_get, Option, Some, None, Result, Ok, Err, int_lt, unwrap_or, option_map}
use Rattle.frame_core.specs.declared.refusal.Asked.{Asked}
use Rattle.frame_core.specs.declared.refusal.Asked.TheVariants as asks
use Rattle.frame_core.specs.declared.refusal.Refusal.{Refusal}
use Rattle.frame_core.specs.declared.refusal.Refusal.TheVariants as refusals
use Rattle.frame_core.specs.Frames.{Row, Frame, first_stamp, last_stamp}
use Rattle.frame_core.specs.Schemas.{schemas_differ}
use Rattle.frame_core.specs.Limits.{frame_too_large, refuse_large}
use Rattle.frame_core.specs.RawFrames.{Table, frame_of_table, unless}
use Rattle.bucket_core.specs.declared.event.Change.{Change}
use Rattle.bucket_core.specs.declared.event.Change.TheVariants as changes
use Rattle.store_model.specs.Library.{State, Version, base_of, live_versions, next_number, on_base}
pub use Rattle.expr_clause.specs.Asking.{◌then◌}
use Rattle.reply_model.specs.declared.outcome.Outcome.{Outcome}
use Rattle.reply_model.specs.declared.outcome.Outcome.TheVariants as outcomes

-- the raw frames of a session as tables, its moment, its number of tries and its client
pub record Session : Type 0 where
  pub frames : List Table
  pub moment : ℤ
  pub tries : ℕ
  pub client : ℕ

-- an outcome, and the changes of the symbol
pub record Answer : Type 0 where
  pub outcome : Outcome
  pub marks : List Change

-- the answer of a refusal
abbrev pub refused : Refusal → Answer
refused why = record { outcome = outcomes.Refused why; marks = [] }

-- the answer, or the refusal
abbrev pub answered : Result Answer Refusal → Answer
answered (Ok a) = a
answered (Err why) = refused why

-- refuses where the test holds
abbrev pub refuse_if : {A : Type 0} → Bool → Refusal → Result A Refusal → Result A Refusal
refuse_if true why next = Err why
refuse_if false why next = next

-- the value, or this refusal where there is none
abbrev pub or_refuse : {A : Type 0} → Option A → Refusal → Result A Refusal
or_refuse None why = Err why
or_refuse (Some a) why = Ok a

-- ---- parts of answers

-- the session's frame of this number, counted from 0, or the first refusal of it
abbrev pub frame_of : Session → ℕ → Option (Result Frame Refusal)
frame_of s n = option_map frame_of_table (slice_get s.frames n)

-- the answer that goes on with the session's frame of this number; there is none where no frame has it
abbrev pub with_frame : Session → ℕ → (Frame → Result Answer Refusal) → Option Answer
with_frame s n next = option_map (λ frame. answered (frame then next)) (frame_of s n)

-- the stamp of a change: the command's, or the session's moment
abbrev pub stamp_of : Session → Option ℤ → ℤ
stamp_of s at = unwrap_or at s.moment

-- the numbers of the live versions, ascending
abbrev pub live_numbers : State → List ℕ
live_numbers st = reverse (map (λ v. v.number) (live_versions st))

-- the change that buries these, where there are any
abbrev pub removed : List ℕ → List Change
removed [] = []
removed (n ∷ ns) = changes.Removed (n ∷ ns) ∷ []

-- with prune, what was live before is buried
abbrev pub pruned : State → Bool → List Change
pruned st prune = if prune then removed (live_numbers st) else []

-- the answer of a commit of one change, with what it buries
abbrev pub committed : State → Bool → Change → Answer
committed st prune c = record { outcome = outcomes.Committed (next_number st); marks = c ∷ pruned st prune }

-- 3 without a reference, and 4 where the version asked is not there
abbrev pub version_or : State → Asked → Option Version → Result Version Refusal
version_or st asked found = refuse_if (not st.has_reference) refusals.NoSuchSymbol (or_refuse found (refusals.NoSuchVersion asked))

-- the base, or why there is none
abbrev pub base_or : State → Result Version Refusal
base_or st = version_or st (asks.Back 1) (base_of st)

-- the frame, unless its columns are not the base's
abbrev pub fits_schema : Frame → Frame → Result Frame Refusal
fits_schema base frame = unless (schemas_differ base.schema frame.schema) refusals.SchemaDiffers (Ok frame)

-- the frame, unless it exceeds a limit
abbrev pub within_limits : Frame → Result Frame Refusal
within_limits frame = unless (frame_too_large frame) refuse_large (Ok frame)

-- both have rows, and the first stamp lies below the base's last
abbrev pub append_before : Option ℤ → Option ℤ → Option (ℤ × ℤ)
append_before (Some last) (Some first) = if int_lt first last then Some (last, first) else None
append_before last first = None

-- the frame, unless it begins before the base ends
abbrev pub in_order : Frame → Frame → Result Frame Refusal
in_order base frame = unless (append_before (last_stamp base.rows) (first_stamp frame.rows)) (λ p. refusals.AppendBefore p.0 p.1) (Ok frame)

-- the frame may be appended to the base, if there is one
abbrev pub may_append : Option Version → Frame → Result Frame Refusal
may_append None frame = Ok frame
may_append (Some base) frame = fits_schema base.frame frame then λ f. in_order base.frame f

-- the frame, unless it exceeds a limit when it is joined to the base
abbrev pub joined_within : (List Row → List Row → List Row) → Option Version → Frame → Result Frame Refusal
joined_within join None frame = Ok frame
joined_within join (Some base) frame = within_limits (on_base join (Some base) frame) then λ whole. Ok frame
