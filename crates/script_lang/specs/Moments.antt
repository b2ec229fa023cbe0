-- Moments, versions and ranges, as they are written in a script.
--     int_at                  a whole number in 64 bits with a sign
--     moment_at, moment_of    a moment, in nanoseconds since 1970
--     version_of              the number of a version
--     as_of_of                which version a read takes
--     range_at, range_of      a range of stamps, of which one end may be left out
use Rattle.std.specs.Prelude.{ℕ, ℤ, pos, neg_ℤ, negsuc, int_le, Bool, true, false, ◌==◌, ◌&&◌, if◌then◌else◌, [], ◌∷◌, length, drop, Option, Some, None, nat_le, codes, unwrap_or, option_map}
use Rattle.std.specs.Str.{byte}
use Rattle.frame_core.specs.Texts.{Text}
use Rattle.frame_core.specs.Ranges.{Range}
use Rattle.expr_clause.specs.declared.command.AsOf.{AsOf}
use Rattle.expr_clause.specs.declared.command.AsOf.TheVariants as moments
use Rattle.script_lang.specs.Fronts.{Front, ◌>>=◌, where_true, whole, sign_at, value_of, digits_of, digits_at}

-- ---- moments

-- the number has 64 bits with a sign
abbrev pub is_i64 : ℤ → Bool
is_i64 z = int_le (negsuc 9_223_372_036_854_775_807) z && int_le z (pos 9_223_372_036_854_775_807)

-- the number, or the negative one where a `-` stood before it
abbrev pub signed : Bool → ℕ → ℤ
signed negative n = if negative then neg_ℤ (pos n) else pos n

-- all digits at the front, at least one, whose number has 64 bits with its sign
unfoldable pub signed_at : Bool → Front ℤ
signed_at negative text =
    where_true (nat_le 1 (length (digits_of text)) && is_i64 (signed negative (value_of (digits_of text))))
    (signed negative (value_of (digits_of text)), drop (length (digits_of text)) text)

-- a whole number in 64 bits with a sign: an optional `-`, and digits
unfoldable pub int_at : Front ℤ
int_at [] = None
int_at (c ∷ rest) = if c == byte "-" then signed_at true rest else signed_at false (c ∷ rest)

-- a moment in nanoseconds since 1970
abbrev pub moment_at : Front ℤ
moment_at = int_at

-- a word that is a moment
abbrev pub moment_of : Text → Option ℤ
moment_of = whole moment_at

-- ---- versions

-- the number of a version: 1 to 18 digits
abbrev pub version_of : Text → Option ℕ
version_of = whole (digits_at 18)

-- so many versions back, from 1 on
abbrev pub back_of : Text → Option AsOf
back_of word = version_of word >>= λ back. where_true (nat_le 1 back) (moments.Back back)

-- which version a read takes: a number, what stands behind `-`, or the moment behind `time:`
abbrev pub either_of : Option ℕ → Option Text → Option Text → Option AsOf
either_of (Some number) back time = Some (moments.Number number)
either_of None (Some back) time = back_of back
either_of None None (Some time) = option_map moments.Moment (moment_of time)
either_of None None None = None

-- which version a read takes: `N`, `-N` from 1 on, or `time:M`
abbrev pub as_of_of : Text → Option AsOf
as_of_of word = either_of (version_of word) (sign_at (codes "-") word) (sign_at (codes "time:") word)

-- ---- ranges

-- an end of a range and the text after it: a moment, or nothing where none stands there
abbrev pub end_at : Text → Option ℤ × Text
end_at text = unwrap_or (option_map (λ x. (Some x.0, x.1)) (moment_at text)) (None, text)

-- one end is there, and the first is at most the second
abbrev pub is_range : Option ℤ → Option ℤ → Bool
is_range None None = false
is_range (Some from) (Some to) = int_le from to
is_range from to = true

-- the ends of a range, where they are one
abbrev pub range_between : Option ℤ → Option ℤ × Text → Option (Range × Text)
range_between from x = where_true (is_range from x.0) (record { from = from; to = x.0 }, x.1)

-- `M..M`, `M..` or `..M`, the first at most the second
abbrev pub range_at : Front Range
range_at text = sign_at (codes "..") (end_at text).1 >>= λ rest. range_between (end_at text).0 (end_at rest)

-- a word that is a range
abbrev pub range_of : Text → Option Range
range_of = whole range_at
