-- Forms that stand at the front of a text: what is read, and the text after it.
--     Front                   what reads such a form
--     ◌>>=◌, where_true       one form after another, and a value where a test holds
--     whole, each             a form that is all of a text, and values where each is there
--     byte_at, sign_at        this byte, and these bytes
--     digits_at, whole_number_at      digits and their number; the same with an optional `-`
--     identifier_at           a letter or `_`, then letters, digits and `_`, and no reserved word
--     field_at                a value and the byte that ends it
--     line_at                 so many of a form, with commas between them and a line end behind
--     all_of                  the values of a form that stand one behind another and are all of the text
use Rattle.std.specs.Prelude.{ℕ, zero, suc, ◌+◌, ◌*◌, ◌-◌, ℤ, pos, neg_ℤ, Bool, true, false, ◌==◌, ◌&&◌, ◌||◌, not, if◌then◌else◌, List, [], ◌∷◌, length, take, drop, fold, take_while, Option, Some, None, option_map, nat_eq, nat_le, codes}
use Rattle.std.specs.List.{list_any}
use Rattle.std.specs.Char.{is_ascii_digit, is_ascii_alphabetic, is_ascii_alphanumeric}
use Rattle.std.specs.Str.{byte}
use Rattle.frame_core.specs.Texts.{Text, same_text}

-- a value and the text after it, if the text begins with its form
abbrev pub Front : Type 0 → Type 0
Front A = Text → Option (A × Text)

-- one reading after another
infixl 10 ◌>>=◌
abbrev pub ◌>>=◌ : {A B : Type 0} → Option A → (A → Option B) → Option B
None >>= f = None
(Some a) >>= f = f a

-- the value, where the test holds
abbrev pub where_true : {A : Type 0} → Bool → A → Option A
where_true true a = Some a
where_true false a = None

-- the value, where nothing is left behind it
abbrev pub if_nothing_left : {A : Type 0} → A × Text → Option A
if_nothing_left x = where_true (nat_eq (length x.1) 0) x.0

-- a form that is all of the text
abbrev pub whole : {A : Type 0} → Front A → Text → Option A
whole form text = form text >>= if_nothing_left

-- the values of these options, where each has one
abbrev pub each : {A : Type 0} → List (Option A) → Option (List A)
each [] = Some []
each (o ∷ os) = o >>= λ a. each os >>= λ more. Some (a ∷ more)

-- the text after this byte, if it begins with it
abbrev pub byte_at : ℕ → Text → Option Text
byte_at c [] = None
byte_at c (b ∷ rest) = where_true (b == c) rest

-- the text after these bytes, if it begins with them
abbrev pub sign_at : Text → Text → Option Text
sign_at sign text = where_true (same_text (take (length sign) text) sign) (drop (length sign) text)

-- ---- numbers

-- the number that is left after one more digit
abbrev pub with_digit : ℕ → ℕ → ℕ
with_digit n c = n * 10 + (c - 48)

-- the number of decimal digits
abbrev pub value_of : Text → ℕ
value_of = fold with_digit 0

-- the digits at the front
abbrev pub digits_of : Text → Text
digits_of = take_while is_ascii_digit

-- all digits at the front, which are so many at most and at least one
unfoldable pub digits_at : ℕ → Front ℕ
digits_at most text = where_true (nat_le 1 (length (digits_of text)) && nat_le (length (digits_of text)) most) (value_of (digits_of text), drop (length (digits_of text)) text)

-- a whole number: an optional `-`, and 1 to 18 digits
unfoldable pub whole_number_at : Front ℤ
whole_number_at [] = None
whole_number_at (c ∷ rest) =
    if c == byte "-" then option_map (λ x. (neg_ℤ (pos x.0), x.1)) (digits_at 18 rest)
    else option_map (λ x. (pos x.0, x.1)) (digits_at 18 (c ∷ rest))

-- ---- names

-- the words that are no identifiers
abbrev pub reserved : List Text
reserved = codes "true" ∷ codes "false" ∷ codes "ts" ∷ codes "abs" ∷ codes "isin" ∷ codes "isnotin" ∷ codes "agg" ∷ []

-- whether the word is reserved
abbrev pub is_reserved : Text → Bool
is_reserved word = list_any (same_text word) reserved

-- a letter or `_`
abbrev pub begins_word : ℕ → Bool
begins_word c = is_ascii_alphabetic c || (c == byte "_")

-- a letter, a digit or `_`
abbrev pub is_wordy : ℕ → Bool
is_wordy c = is_ascii_alphanumeric c || (c == byte "_")

-- the letters, digits and `_` at the front
abbrev pub word_of : Text → Text
word_of = take_while is_wordy

-- whether a word that begins with this byte is an identifier
abbrev pub is_identifier : Text → Bool
is_identifier [] = false
is_identifier (c ∷ rest) = begins_word c && not (is_reserved (c ∷ rest))

-- a letter or `_`, then letters, digits and `_`, and no reserved word
unfoldable pub identifier_at : Front Text
identifier_at text = where_true (is_identifier (word_of text)) (word_of text, drop (length (word_of text)) text)

-- ---- lists of forms

-- what stands behind a value when so many are left: a line end behind the last, and a comma behind each other one
abbrev pub stop_before : ℕ → ℕ
stop_before left = if nat_eq left 0 then 10 else 44

-- a value and the text after the byte that ends it
abbrev pub ended_by : {A : Type 0} → ℕ → A × Text → Option (A × Text)
ended_by stop x = option_map (λ rest. (x.0, rest)) (byte_at stop x.1)

-- a value and the byte that ends it
abbrev pub field_at : {A : Type 0} → Front A → ℕ → Front A
field_at form stop text = form text >>= ended_by stop

-- so many of a form, with commas between them and a line end behind
unfoldable pub line_at : {A : Type 0} → Front A → ℕ → Front (List A)
line_at form zero text = Some ([], text)
line_at form (suc left) text = do
  x ← field_at form (stop_before left) text
  more ← line_at form left x.1
  Some (x.0 ∷ more.0, more.1)

-- the values of a form that stand one behind another and are all of the text, at most so many
unfoldable pub all_of : {A : Type 0} → Front A → ℕ → Text → Option (List A)
all_of form zero text = where_true (nat_eq (length text) 0) []
all_of form (suc most) text =
    if nat_eq (length text) 0 then Some [] else (do
      x ← form text
      more ← all_of form most x.1
      Some (x.0 ∷ more))
