-- The words of a line.
--     under                   what stands under a name
--     is_short                a word of 1 to 32 bytes of one kind
--     plain_of, symbol_of     a word of letters, digits, `_` and `.`, and a symbol
--     frame_of                the place of a loaded frame
use Rattle.std.specs.Prelude.{ℕ, Bool, ◌==◌, ◌&&◌, ◌||◌, List, length, find, Option, nat_le, option_map}
use Rattle.std.specs.List.{list_all, position_from}
use Rattle.std.specs.Char.{is_ascii_alphanumeric}
use Rattle.std.specs.Str.{byte}
use Rattle.frame_core.specs.Texts.{Text, same_text}
use Rattle.script_lang.specs.Fronts.{where_true}

-- what stands under a name
abbrev pub under : {A : Type 0} → Text → List (Text × A) → Option A
under name table = option_map (λ x. x.1) (find (λ x. same_text name x.0) table)

-- a letter, a digit, `_` or `.`
abbrev pub is_plain_byte : ℕ → Bool
is_plain_byte c = is_ascii_alphanumeric c || (c == byte "_") || (c == byte ".")

-- 1 to 32 bytes of this kind
abbrev pub is_short : (ℕ → Bool) → Text → Bool
is_short kind word = nat_le 1 (length word) && nat_le (length word) 32 && list_all kind word

-- 1 to 32 letters, digits, `_` and `.`
abbrev pub is_plain : Text → Bool
is_plain word = is_short is_plain_byte word

-- such a word
abbrev pub plain_of : Text → Option Text
plain_of word = where_true (is_plain word) word

-- a symbol
abbrev pub symbol_of : Text → Option Text
symbol_of = plain_of

-- the place of a loaded frame
abbrev pub frame_of : List Text → Text → Option ℕ
frame_of frames word = position_from (same_text word) 0 frames
