-- The rows of symbols: 256 classes, by which a pass learns without waiting that a symbol has no newer Refer.
--     row      the row of a symbol
use Rattle.std.specs.Prelude.{ℕ, ◌%◌}
use Rattle.std.specs.List.{sum_by}
use Rattle.key_kind.specs.Names.{Name}

-- the sum of the symbol's bytes, modulo 256
abbrev pub row : Name → ℕ
row symbol = sum_by (λ byte. byte) symbol % 256
