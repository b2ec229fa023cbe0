-- Fields and commas of a line that is being made.
--     behind_commas           fields behind commas
--     comma_before            the comma before a field
--     further_fields          fields behind what stands already
use Rattle.std.specs.Prelude.{ℕ, zero, suc, Bool, true, false, if◌then◌else◌, List, [], ◌∷◌}
use Rattle.std.specs.List.{join_with_byte, flat_map}
use Rattle.frame_core.specs.Texts.{Text}

-- the fields, each behind a comma
abbrev pub behind_commas : List Text → Text
behind_commas = flat_map (λ field. 44 ∷ field)

-- the comma before the field of a place, counted from 0; before the first one only where something stands before it
abbrev pub comma_before : Bool → ℕ → Text
comma_before stands zero = if stands then 44 ∷ [] else []
comma_before stands (suc place) = 44 ∷ []

-- the fields between commas, or each behind a comma where something stands before them
abbrev pub further_fields : Bool → List Text → Text
further_fields true fields = behind_commas fields
further_fields false fields = join_with_byte 44 fields
