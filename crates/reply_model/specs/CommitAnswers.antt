-- The answers of append, update, delete_range and of burials.
--     append_answer, update_answer, clear_answer
--     to_bury, bury_answer      the versions that a burial buries, or why it buries none
--     buried_outcome, burial_answer      its outcome and its answer
use Rattle.std.specs.Prelude.{ℕ, ◌+◌, ℤ, Bool, false, ◌&&◌, not, if◌then◌else◌, List, [], ◌∷◌, ◌++◌, map, reverse, length, find, Option, Some, None, Result, Ok, nat_eq, nat_lt}
use Rattle.frame_core.specs.Ranges.{Range}
use Rattle.frame_core.specs.declared.refusal.Asked.TheVariants as asks
use Rattle.frame_core.specs.declared.refusal.Refusal.{Refusal}
use Rattle.frame_core.specs.declared.refusal.Refusal.TheVariants as refusals
use Rattle.frame_core.specs.Frames.{Row, Frame, replace_range, first_stamp, last_stamp}
use Rattle.frame_core.specs.Ranges.{is_within}
use Rattle.frame_core.specs.RawFrames.{unless}
use Rattle.bucket_core.specs.declared.event.Change.TheVariants as changes
use Rattle.store_model.specs.Library.{State, Version, is_live, base_of, live_versions}
use Rattle.reply_model.specs.declared.outcome.Outcome.{Outcome}
use Rattle.reply_model.specs.declared.outcome.Outcome.TheVariants as outcomes
use Rattle.reply_model.specs.Kinds.{Burial, Listed, Older}
use Rattle.reply_model.specs.Answering.{Answer, ◌then◌, refuse_if, or_refuse, live_numbers, removed, committed, base_or, fits_schema, may_append, joined_within}

-- the answer of append
abbrev pub append_answer : State → Bool → ℤ → Frame → Result Answer Refusal
append_answer st prune at frame =
    may_append (base_of st) frame then λ f. joined_within (λ old new. old ++ new) (base_of st) f then λ g. Ok (committed st prune (changes.Appended g at))

-- the least row, from n, outside the range
abbrev pub outside : ℕ → Range → List Row → Option ℕ
outside n range [] = None
outside n range (r ∷ rows) = if is_within range r.stamp then outside (n + 1) range rows else Some n

-- the range of an update: the given one, or from the first to the last stamp
abbrev pub update_range : Option Range → Frame → Result Range Refusal
update_range (Some range) frame = unless (outside 1 range frame.rows) refusals.OutsideRange (Ok range)
update_range None frame = or_refuse (first_stamp frame.rows) refusals.EmptyUpdate then λ first. Ok (record { from = Some first; to = last_stamp frame.rows })

-- on a base the schema fits; without one the command must be an upsert
abbrev pub may_update : State → Bool → Option Version → Frame → Result Frame Refusal
may_update st upsert None frame = refuse_if (not upsert && not st.has_reference) refusals.NoSuchSymbol (refuse_if (not upsert) (refusals.NoSuchVersion (asks.Back 1)) (Ok frame))
may_update st upsert (Some base) frame = fits_schema base.frame frame

-- the answer of update
abbrev pub update_answer : State → Bool → Bool → ℤ → Option Range → Frame → Result Answer Refusal
update_answer st upsert prune at asked frame =
    update_range asked frame then λ range.
    may_update st upsert (base_of st) frame then λ f.
    joined_within (λ old new. replace_range range new old) (base_of st) f then λ g. Ok (committed st prune (changes.Updated g range at))

-- the answer of delete_range: that of update by no rows of the base's columns
abbrev pub clear_answer : Range → Bool → ℤ → State → Result Answer Refusal
clear_answer range prune at st = base_or st then λ v. update_answer st false prune at (Some range) (record v.frame { rows = [] })

-- the first number that is not live
abbrev pub first_absent : State → List ℕ → Option ℕ
first_absent st numbers = find (λ n. not (is_live st n)) numbers

-- numbers in order, each once
abbrev pub insert_number : ℕ → List ℕ → List ℕ
insert_number n [] = n ∷ []
insert_number n (m ∷ ms) = if nat_eq n m then m ∷ ms else if nat_lt n m then n ∷ m ∷ ms else m ∷ insert_number n ms

-- these numbers ascending, each once
abbrev pub ascending : List ℕ → List ℕ
ascending [] = []
ascending (n ∷ ns) = insert_number n (ascending ns)

-- every live version but the base
abbrev pub older_live : State → List ℕ
older_live st = reverse (map (λ v. v.number) (but_first (live_versions st)))
  where
    but_first : List Version → List Version
    but_first [] = []
    but_first (v ∷ vs) = vs

-- the versions of a burial, ascending: every live one, or the listed ones, each once, where all are live; or every live one but the base
abbrev pub to_bury : Burial → State → Result (List ℕ) Refusal
to_bury (Listed None) st = Ok (live_numbers st)
to_bury (Listed (Some numbers)) st = unless (first_absent st numbers) (λ n. refusals.NoSuchVersion (asks.Number n)) (Ok (ascending numbers))
to_bury Older st = Ok (older_live st)

-- the same, where the symbol has a reference
abbrev pub bury_answer : Burial → State → Result (List ℕ) Refusal
bury_answer burial st = refuse_if (not st.has_reference) refusals.NoSuchSymbol (to_bury burial st)

-- the outcome where so many are buried
abbrev pub buried_outcome : Burial → ℕ → Outcome
buried_outcome (Listed versions) n = outcomes.Deleted n
buried_outcome Older n = outcomes.Pruned n

-- the answer of a burial
abbrev pub burial_answer : Burial → State → Result Answer Refusal
burial_answer burial st = bury_answer burial st then λ numbers. Ok (record { outcome = buried_outcome burial (length numbers); marks = removed numbers })
