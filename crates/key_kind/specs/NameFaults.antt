-- What a text that is no name breaks.
--     name_fault          the first rule that bytes break, if any: the length comes before the bytes
--     IsFaultOf           such an answer; where memory ran out, no rule is broken
use Rattle.std.specs.Prelude.{◌≡◌, ℕ, ◌&&◌, List, length, not, nat_le, Option, Some, None, option_map, if◌then◌else◌}
use Rattle.std.specs.List.{position}
use Rattle.key_kind.specs.Names.{is_graphic}
use Rattle.key_kind.specs.declared.name.NameFault.{NameFault}
use Rattle.key_kind.specs.declared.name.NameFault.TheVariants as faults

-- the first rule of a name that these bytes break
abbrev pub name_fault : List ℕ → Option NameFault
name_fault bytes =
    if nat_le 1 (length bytes) && nat_le (length bytes) 255
    then option_map (λ at. faults.Byte at) (position (λ c. not (is_graphic c)) bytes)
    else Some faults.Length

-- the first rule that is broken, or none where memory ran out
abbrev pub IsFaultOf : List ℕ → NameFault → Type 0
IsFaultOf bytes faults.NoMemory = name_fault bytes ≡ None
IsFaultOf bytes fault = name_fault bytes ≡ Some fault
