-- What the readers in code answer.
--     Gives               the answer, seen as a value of contracts, is what a reading gives
--     seen_by, rest_of    what was read, seen by a function, and the bytes after it alone
--     IsBytes             numbers that bytes hold
use Rattle.std.specs.Prelude.{◌≡◌, ◌<◌, ℕ, List, Result, Ok, Err, slice_index}
use Rattle.byte_fields.specs.Reading.{Reading, ◌>>=◌}

-- the answer, seen by `view`, is what the reading gives: the same value, or the same number of bytes left
abbrev pub Gives : {X Y : Type 0} → (X → Y) → Result X ℕ → Result Y ℕ → Type 0
Gives view (Ok x) reading = reading ≡ Ok (view x)
Gives view (Err left) reading = reading ≡ Err left

-- what was read, seen by a function
abbrev pub seen_by : {A B : Type 0} → (A → B) → Result A ℕ → Result B ℕ
seen_by f reading = reading >>= λ x. Ok (f x)

-- the bytes after what was read
abbrev pub rest_of : {A : Type 0} → Reading A → Result (List ℕ) ℕ
rest_of reading = seen_by (λ x. x.1) reading

-- each number fits in a byte
abbrev pub IsBytes : List ℕ → Type 0
IsBytes bytes = (i : ℕ) → slice_index bytes i < 256
