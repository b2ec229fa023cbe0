-- Identifiers are names of columns.
use Rattle.std.proofs.Common.{◌≡◌, ℕ, zero, suc, ◌<◌, ◌≤◌, Bool, true, false, cond, [], ◌∷◌, length, get_or, drop, Option, Some, None, refl, sym, ap, ◌∙◌, subst, lit<, arith}
use Rattle.std.specs.Prelude.{IsUtf8, ◌&&◌, not, nat_le, nat_eq}
use Rattle.std.specs.List.{list_all}
use Rattle.std.proofs.lemmas.Bool.Decides.{nat_tests}
use Rattle.std.proofs.lemmas.List.Sums.{take_while-cons}
use Rattle.std.proofs.lemmas.Str.{IsUtf8-from_ascii}
use Rattle.frame_core.specs.Texts.{Text}
use Rattle.frame_core.specs.Schemas.{IsColName}
use Rattle.script_lang.specs.Words.{is_short, is_plain_byte, is_plain}
use Rattle.script_lang.specs.Clients.{is_client_byte, is_part_name, is_client_name}
use Rattle.script_lang.specs.Fronts.{◌>>=◌, where_true, whole, if_nothing_left, is_wordy, word_of, is_identifier, identifier_at}
use Rattle.script_lang.specs.PlainFiles.{short_name, column_name_at}

wordy-small : (c : ℕ) → is_wordy c ≡ true → c < 128
wordy-small c wordy = grind (arith, nat_tests)

ascii_if : (b : Bool) (c : ℕ) (rest : Text) (i : ℕ) → (b ≡ true → c < 128) → ((k : ℕ) → get_or rest k 0 < 128) → get_or (cond b (c ∷ rest) []) i 0 < 128
ascii_if false c rest i small others = lit< tt
ascii_if true c rest zero small others = small refl
ascii_if true c rest (suc i) small others = others i

word_of-ascii : (text : Text) (i : ℕ) → get_or (word_of text) i 0 < 128
word_of-ascii [] i = lit< tt
word_of-ascii (c ∷ rest) i = rw (take_while-cons is_wordy c rest) (ascii_if (is_wordy c) c (word_of rest) i (wordy-small c) (word_of-ascii rest))

is_identifier-some : (word : Text) → is_identifier word ≡ true → 1 ≤ length word
is_identifier-some [] is = absurd cc
is_identifier-some (c ∷ word) is = omega arith

-- a word that was read is the text's, and an identifier
record Read (word name : Text) : Type 0 where
  same : word ≡ name
  identifier : is_identifier word ≡ true

word-read : (b : Bool) (word name : Text) (after rest : Text) → is_identifier word ≡ b → where_true {A = Text × Text} b (word, after) ≡ Some (name, rest) → Read word name
word-read false word name after rest is read = absurd cc
word-read true word name after rest is read =
    let both : (word, after) ≡ (name, rest) = cc in
    record { same = ap (λ (x : Text × Text). x.0) both; identifier = is }

identifier_at-read : (text name rest : Text) → identifier_at text ≡ Some (name, rest) → Read (word_of text) name
unfolding identifier_at
identifier_at-read text name rest = word-read (is_identifier (word_of text)) (word_of text) name (drop (length (word_of text)) text) rest refl

-- an identifier is UTF-8
pub identifier_at-utf8 : (text name rest : Text) → identifier_at text ≡ Some (name, rest) → IsUtf8 name
identifier_at-utf8 text name rest read = subst IsUtf8 (identifier_at-read text name rest read).same (IsUtf8-from_ascii (word_of text) (word_of-ascii text))

-- an identifier of at most 255 bytes is the name of a column
pub identifier_at-name : (text name rest : Text) → identifier_at text ≡ Some (name, rest) → length name ≤ 255 → IsColName name
identifier_at-name text name rest read few =
    let word = identifier_at-read text name rest read in
    let some : 1 ≤ length name = rw (← word.same) (is_identifier-some (word_of text) word.identifier) in
    record { some = some; most = few; text = identifier_at-utf8 text name rest read }

-- ---- names of columns

short-then : (few all : Bool) (name rest : Text) → nat_le (length name) 255 ≡ few → nat_eq (length rest) 0 ≡ all →
    (short_name (name, rest) >>= if_nothing_left) ≡ (if_nothing_left (name, rest) >>= λ n. where_true (nat_le (length n) 255) n)
short-then true true name rest few all = rw (few, all, few) refl
short-then true false name rest few all = rw (few, all) refl
short-then false true name rest few all = rw (few, all, few) refl
short-then false false name rest few all = rw (few, all) refl

then-short : (read : Option (Text × Text)) → ((read >>= short_name) >>= if_nothing_left) ≡ ((read >>= if_nothing_left) >>= λ n. where_true (nat_le (length n) 255) n)
then-short None = refl
then-short (Some x) = short-then (nat_le (length x.0) 255) (nat_eq (length x.1) 0) x.0 x.1 refl refl

-- a word is the name of a column where it is an identifier of at most 255 bytes
column_name-whole : (word : Text) → whole column_name_at word ≡ (whole identifier_at word >>= λ n. where_true (nat_le (length n) 255) n)
unfolding column_name_at
column_name-whole word = then-short (identifier_at word)

-- a word that is no identifier is no name of a column
pub column_name-none : (word : Text) → None ≡ whole identifier_at word → whole column_name_at word ≡ None
column_name-none word none = column_name-whole word ∙ ap (λ read. read >>= λ n. where_true (nat_le (length n) 255) n) (sym none)

-- an identifier of at most 255 bytes is one
pub column_name-some : (word name : Text) → Some name ≡ whole identifier_at word → length name ≤ 255 → whole column_name_at word ≡ Some name
column_name-some word name some few =
    let short : nat_le (length name) 255 ≡ true = grind (arith, nat_tests) in
    column_name-whole word ∙ ap (λ read. read >>= λ n. where_true (nat_le (length n) 255) n) (sym some) ∙ ap (λ b. where_true b name) short

-- a longer one is none
pub column_name-long : (word name : Text) → Some name ≡ whole identifier_at word → 255 < length name → whole column_name_at word ≡ None
column_name-long word name some many =
    let long : nat_le (length name) 255 ≡ false = grind (arith, nat_tests) in
    column_name-whole word ∙ ap (λ read. read >>= λ n. where_true (nat_le (length n) 255) n) (sym some) ∙ ap (λ b. where_true b name) long

-- ---- plain words

and-right : (a b : Bool) → (a && b) ≡ true → b ≡ true
and-right true b h = h
and-right false b h = absurd cc

and-left : (a b : Bool) → (a && b) ≡ true → a ≡ true
and-left true b h = refl
and-left false b h = absurd cc

short-ascii : (kind : ℕ → Bool) (word : Text) → ((c : ℕ) → kind c ≡ true → c < 128) → list_all kind word ≡ true → (i : ℕ) → get_or word i 0 < 128
short-ascii kind [] small all i = lit< tt
short-ascii kind (c ∷ word) small all zero = small c (and-left (kind c) (list_all kind word) all)
short-ascii kind (c ∷ word) small all (suc i) = short-ascii kind word small (and-right (kind c) (list_all kind word) all) i

is_short-utf8 : (kind : ℕ → Bool) (word : Text) → ((c : ℕ) → kind c ≡ true → c < 128) → is_short kind word ≡ true → IsUtf8 word
is_short-utf8 kind word small short = IsUtf8-from_ascii word (short-ascii kind word small (and-right (nat_le 1 (length word) && nat_le (length word) 32) (list_all kind word) short))

plain-small : (c : ℕ) → is_plain_byte c ≡ true → c < 128
plain-small c plain = grind (arith, nat_tests)

-- a word of letters, digits, `_` and `.` is UTF-8
pub is_plain-utf8 : (word : Text) → is_plain word ≡ true → IsUtf8 word
is_plain-utf8 word plain = is_short-utf8 is_plain_byte word plain-small plain

client-small : (c : ℕ) → is_client_byte c ≡ true → c < 128
client-small c client = grind (arith, nat_tests)

-- a client's name is UTF-8
pub is_client_name-utf8 : (word : Text) → is_client_name word ≡ true → IsUtf8 word
is_client_name-utf8 word name = is_short-utf8 is_client_byte word client-small (and-left (is_short is_client_byte word) (not (is_part_name word)) name)
