-- The lines of a plain text, and the words of a line.
--     part_at, between        the bytes before the first of a kind, and the parts between such bytes
--     lines_of                the lines of a text, each of which LF ends
--     words_of                the words of a line, between which one space stands
use Rattle.std.specs.Prelude.{ℕ, ◌==◌, not, take_while, List, [], ◌∷◌, length, Option, Some, None, nat_eq}
use Rattle.std.specs.List.{slice_split}
use Rattle.frame_core.specs.Texts.{Text}
use Rattle.script_lang.specs.Fronts.{◌>>=◌, where_true}

-- the bytes before the first of this kind
abbrev pub part_at : ℕ → Text → Text
part_at c text = take_while (λ b. not (b == c)) text

-- the parts between such bytes
abbrev pub between : ℕ → Text → List Text
between c text = slice_split (λ b. b == c) text

-- all parts but the last, which has to be empty
abbrev pub ended : List Text → Option (List Text)
ended [] = None
ended (last ∷ []) = where_true (nat_eq (length last) 0) []
ended (part ∷ next ∷ parts) = ended (next ∷ parts) >>= λ lines. Some (part ∷ lines)

-- the lines of a text, each of which LF ends
abbrev pub lines_of : Text → Option (List Text)
lines_of text = ended (between 10 text)

-- the words of a line, between which one space stands
abbrev pub words_of : Text → List Text
words_of line = between 32 line
