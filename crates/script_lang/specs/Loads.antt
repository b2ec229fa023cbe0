-- The loads of a script.
--     types_of                the types of a frame's columns
--     frame_names, new_name_of      the names of the loaded frames, and one that no load before has
--     load_of                 one more load
use Rattle.std.specs.Prelude.{List, [], ◌∷◌, length, map, Option, Some, None, is_none, nat_le, codes}
use Rattle.frame_core.specs.declared.cell.ColType.{ColType}
use Rattle.frame_core.specs.declared.cell.ColType.TheVariants as types
use Rattle.frame_core.specs.Texts.{Text}
use Rattle.script_lang.specs.declared.load.Load.{Load}
use Rattle.script_lang.specs.Fronts.{◌>>=◌, where_true, whole, each, identifier_at}
use Rattle.script_lang.specs.Lines.{between}
use Rattle.script_lang.specs.Words.{under, plain_of, frame_of}

-- the names of types
abbrev pub type_names : List (Text × ColType)
type_names = (codes "int", types.Int) ∷ []

-- a type by its name
abbrev pub type_of : Text → Option ColType
type_of word = under word type_names

-- the types of these names
abbrev pub each_type : List Text → Option (List ColType)
each_type words = each (map type_of words)

-- 1 to 127 types between commas
abbrev pub types_of : Text → Option (List ColType)
types_of word = each_type (between 44 word) >>= λ kinds. where_true (nat_le (length kinds) 127) kinds

-- the names of the loaded frames
abbrev pub frame_names : List Load → List Text
frame_names loads = map (λ (l : Load). l.name) loads

-- a word that is an identifier
abbrev pub whole_identifier : Text → Option Text
whole_identifier word = whole identifier_at word

-- a frame's name that no load before has
abbrev pub new_name_of : List Load → Text → Option Text
new_name_of loads word = whole_identifier word >>= λ name. where_true (is_none (frame_of (frame_names loads) name)) name

-- `FRAME FILE TYPES`
abbrev pub load_of : List Load → List Text → Option Load
load_of loads (frame ∷ file ∷ list ∷ []) = do
  name ← new_name_of loads frame
  path ← plain_of file
  kinds ← types_of list
  Some (record { name = name; file = path; types = kinds })
load_of loads _ = None
