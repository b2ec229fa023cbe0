-- The words of the command line, without the program's name.
--     Verb, Limits, Allowed   which first words and options there are, and how they are told to a user
--     Words                   what the words say
--     number_within           a number within limits
--     value_given, are_options      options of two words each: a name and its number
--     IsTries                 how often a commit may be tried
--     plain_words_of          what these words say, if they are of the command set
--     first_set               the command set: `run SCRIPT`, with options
use Rattle.std.specs.Prelude.{ℕ, ◌≤◌, Bool, true, false, ◌&&◌, not, if◌then◌else◌, List, [], ◌∷◌, length, Option, Some, None, is_some, is_none, nat_eq, nat_le, codes, unwrap_or}
use Rattle.std.specs.List.{starts_with}
use Rattle.frame_core.specs.Texts.{Text, same_text}
use Rattle.script_lang.specs.Fronts.{◌>>=◌, where_true, whole, digits_at}
use Rattle.script_lang.specs.Words.{under}

-- what the program is to do
pub data Verb : Type 0 where
  run : Verb

-- the least and the greatest number that an option may have
pub record Limits : Type 0 where
  pub low : ℕ
  pub high : ℕ

-- the first words, the options with the limits of their numbers, and how the words are told to a user
pub record Allowed : Type 0 where
  pub verbs : List (Text × Verb)
  pub numbers : List (Text × Limits)
  pub usage : Text

-- what the words say: a file, the most rows and columns of a tile, and how often a commit is tried
pub record Words : Type 0 where
  pub verb : Verb
  pub word : Text
  pub rows : ℕ
  pub cols : ℕ
  pub tries : ℕ

-- ---- words

-- a file is not empty and does not begin with `-`
abbrev pub is_file : Text → Bool
is_file text = nat_le 1 (length text) && not (starts_with nat_eq text (codes "-"))

-- 1 to 7 digits whose number lies within these limits
unfoldable pub number_within : ℕ → ℕ → Text → Option ℕ
number_within low high text = whole (digits_at 7) text >>= λ n. where_true (nat_le low n && nat_le n high) n

-- ---- options

-- an option of this name may have this value
abbrev pub is_option : Allowed → Text → Text → Bool
is_option a name value = is_some (under name a.numbers >>= λ limits. number_within limits.low limits.high value)

-- the value that is given to the option of a name
abbrev pub value_given : Text → List Text → Option Text
value_given name [] = None
value_given name (option ∷ []) = None
value_given name (option ∷ value ∷ more) = if same_text name option then Some value else value_given name more

-- options of two words each, no two of one name
abbrev pub are_options : Allowed → List Text → Bool
are_options a [] = true
are_options a (name ∷ []) = false
are_options a (name ∷ value ∷ more) = is_option a name value && is_none (value_given name more) && are_options a more

-- the number that is given to an option, or else this one
abbrev pub number_or : ℕ → Text × Limits → List Text → ℕ
number_or default option words = unwrap_or (value_given option.0 words >>= λ value. number_within option.1.low option.1.high value) default

-- the most rows of a tile
abbrev pub rows_option : Text × Limits
rows_option = (codes "--rows", record { low = 1; high = 100000 })

-- the most columns of a tile
abbrev pub cols_option : Text × Limits
cols_option = (codes "--cols", record { low = 1; high = 127 })

-- how often a commit is tried
abbrev pub tries_option : Text × Limits
tries_option = (codes "--tries", record { low = 1; high = 1000 })

-- a commit is tried so often at least and at most
abbrev pub IsTries : ℕ → Type 0
IsTries tries = (1 ≤ tries) × (tries ≤ 1000)

-- ---- all words

-- what a first word, a file and options say
abbrev pub said_by : Verb → Text → List Text → Words
said_by verb word options = record { verb = verb; word = word; rows = number_or 100000 rows_option options; cols = number_or 127 cols_option options; tries = number_or 8 tries_option options }

-- what these words say, if they are of the command set: a first word, a file, and options
abbrev pub plain_words_of : Allowed → List Text → Option Words
plain_words_of a (first ∷ word ∷ options) = under first a.verbs >>= λ verb. where_true (is_file word && are_options a options) (said_by verb word options)
plain_words_of a _ = None

-- `run SCRIPT`, with options
abbrev pub first_set : Allowed
first_set = record {
  verbs = (codes "run", run) ∷ [];
  numbers = rows_option ∷ cols_option ∷ tries_option ∷ [];
  usage = codes "usage: arctic run SCRIPT or arctic gen N, with --workers --rows --cols --tries";
}
