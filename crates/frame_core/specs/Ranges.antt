-- Ranges of stamps.
--     Range, IsRange      the first and the last stamp that are asked, an open end left out; they stand in order
--     is_below, is_above, is_within      where a stamp lies
use Rattle.std.specs.Prelude.{ℤ, ◌≤ℤ◌, Bool, false, ◌&&◌, not, int_lt, Option, Some, ⊤}
use Rattle.std.specs.Option.{option_map_or}

-- the first and the last stamp that are asked
pub record Range : Type 0 where
  pub from : Option ℤ
  pub to : Option ℤ

-- the one end is at most the other, where both are given
abbrev pub InOrder : Option ℤ → Option ℤ → Type 0
InOrder (Some from) (Some to) = from ≤ℤ to
InOrder from to = ⊤

-- the ends stand in order
abbrev pub IsRange : Range → Type 0
IsRange range = InOrder range.from range.to

-- whether a stamp lies below the range
abbrev pub is_below : Range → ℤ → Bool
is_below range t = option_map_or (λ from. int_lt t from) range.from false

-- whether a stamp lies above the range
abbrev pub is_above : Range → ℤ → Bool
is_above range t = option_map_or (λ to. int_lt to t) range.to false

-- whether a stamp lies in the range
abbrev pub is_within : Range → ℤ → Bool
is_within range t = not (is_below range t) && not (is_above range t)
