-- Texts, and lists of texts in one buffer.
--     Text, same_text             the bytes of a text, and a test of equality
--     texts_between, AreEnds      the texts that end at these places of a buffer, and when places are ends of texts
use Rattle.std.specs.Prelude.{◌≡◌, ◌≤◌, ℕ, Bool, List, [], ◌∷◌, length, slice_range, nat_eq}
use Rattle.std.specs.Prelude.{IsUtf8}
use Rattle.std.specs.Cmp.Lexicographic.{pointwise}

-- the bytes of a name or of a text
abbrev pub Text : Type 0
Text = List ℕ

-- a test of equality of texts
abbrev pub same_text : Text → Text → Bool
same_text = pointwise nat_eq

-- the texts of a buffer, the first of which begins at `start`, by the places where they end
abbrev pub texts_between : ℕ → List ℕ → Text → List Text
texts_between start [] buffer = []
texts_between start (end ∷ ends) buffer = slice_range buffer start end ∷ texts_between end ends buffer

-- the places never fall, the last is the buffer's length, and what stands between two of them is UTF-8
abbrev pub AreEnds : ℕ → List ℕ → Text → Type 0
AreEnds start [] buffer = start ≡ length buffer
AreEnds start (end ∷ ends) buffer = (start ≤ end) × IsUtf8 (slice_range buffer start end) × AreEnds end ends buffer
