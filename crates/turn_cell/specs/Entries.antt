-- Facts about a list of entries, oldest first.
-- entries_by: those of one author. IsRowAt: an entry of a row stands at a place.
use Rattle.std.specs.Prelude.{◌≡◌, ℕ, ◌+◌, List, filter, ◌==◌, slice_get, Option, Some}

-- the entries that n has made, in order
abbrev pub entries_by : {E : Type 0} → (E → ℕ) → ℕ → List E → List E
entries_by author n log = filter (λ e. author e == n) log

-- the entry at the place n, counted from 1, is of the row q
abbrev pub IsRowAt : {E : Type 0} → (E → Option ℕ) → List E → ℕ → ℕ → Type 0
IsRowAt {E} row log q n = (k : ℕ) × (e : E) × (n ≡ k + 1) × (slice_get log k ≡ Some e) × (row e ≡ Some q)
