-- The slots that a range and columns ask for.
--     shares_stamps, has_one      a slot's stamps against the range, and its columns against those asked
--     covers, places_where        the slots that are asked, and the places of such
use Rattle.std.specs.Prelude.{ℕ, Bool, ◌&&◌, not, List, [], map, nat_eq}
use Rattle.std.specs.List.{filter, list_any, enumerate_from}
use Rattle.frame_core.specs.declared.part.Part.{Part}
use Rattle.frame_core.specs.Parts.{has_column}
use Rattle.frame_core.specs.Ranges.{Range, is_below, is_above}
use Rattle.index_tree.specs.declared.index.Slot.{Slot}

-- the stamps of the slot do not all lie below the range, nor all above it
abbrev pub shares_stamps : Range → Slot → Bool
shares_stamps range s = not (is_below range s.last) && not (is_above range s.first)

-- the part has one of the columns; where none is asked, it begins at column 0
abbrev pub has_one : List ℕ → Part → Bool
has_one [] part = nat_eq part.first_col 0
has_one columns part = list_any (has_column part) columns

-- the slot shares a stamp interval with the range and has one of the columns
abbrev pub covers : Range → List ℕ → Slot → Bool
covers range columns s = shares_stamps range s && has_one columns s.part

-- the places at which the test holds, in order, counted from 0
abbrev pub places_where : {X : Type 0} → (X → Bool) → List X → List ℕ
places_where {X} test xs = map (λ (x : ℕ × X). x.0) (filter (λ (x : ℕ × X). test x.1) (enumerate_from 0 xs))
