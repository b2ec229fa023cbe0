-- The asked columns of a frame, in the order asked.
--     place_of, places_of         the places of the asked names, or the position that is refused
--     pick_columns                the columns at these places
--     select, refuse_position     the asked columns of a frame, or the position that is refused; its refusal
use Rattle.std.specs.Prelude.{ℕ, ◌+◌, if◌then◌else◌, List, [], ◌∷◌, map, filter_map, slice_get, Option, Some, None, Result, Ok, Err}
use Rattle.std.specs.List.{list_any, position_from}
use Rattle.frame_core.specs.declared.refusal.Refusal.{Refusal}
use Rattle.frame_core.specs.declared.refusal.Refusal.TheVariants as refusals
use Rattle.frame_core.specs.Texts.{Text, same_text}
use Rattle.frame_core.specs.Schemas.{Head}
use Rattle.frame_core.specs.Frames.{Row, Frame}

-- the place of a name among the columns, counted from 0
abbrev pub place_of : Text → List Head → Option ℕ
place_of name columns = position_from (λ c. same_text name c.0) 0 columns

-- the answer with its value changed
abbrev pub then_map : {A B E : Type 0} → (A → B) → Result A E → Result B E
then_map f (Ok a) = Ok (f a)
then_map f (Err e) = Err e

-- the places of the names, or the position, from n, of the first name that is absent or repeats one before it
abbrev pub places_of : ℕ → List Text → List Text → List Head → Result (List ℕ) ℕ
places_of n earlier [] columns = Ok []
places_of n earlier (name ∷ names) columns =
    elim (place_of name columns) [
      | None ↦ Err n
      | Some k ↦ if list_any (same_text name) earlier then Err n else then_map (λ ks. k ∷ ks) (places_of (n + 1) (name ∷ earlier) names columns)
    ]

-- the elements at these places
abbrev pub at_places : {X : Type 0} → List ℕ → List X → List X
at_places ks xs = filter_map (slice_get xs) ks

-- the cells of a row at these places
abbrev pub pick_cells : List ℕ → Row → Row
pick_cells ks r = record r { cells = at_places ks r.cells }

-- the columns at these places of a frame
abbrev pub pick_columns : Frame → List ℕ → Frame
pick_columns f ks = record { schema = record f.schema { columns = at_places ks f.schema.columns }; rows = map (pick_cells ks) f.rows }

-- the asked columns of a frame, or the position, counted from 1, that is refused
abbrev pub select : List Text → Frame → Result Frame ℕ
select names f = then_map (pick_columns f) (places_of 1 [] names f.schema.columns)

-- a position that is refused, as the refusal of clause 0
abbrev pub refuse_position : {A : Type 0} → Result A ℕ → Result A Refusal
refuse_position (Ok a) = Ok a
refuse_position (Err position) = Err (refusals.NoSuchColumn 0 position)
