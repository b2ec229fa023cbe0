-- Which calls of a flaky bucket fail.
--     planned      whether the call of a number fails, and when
use Rattle.std.specs.Prelude.{ℕ, List, Option, nat_eq}
use Rattle.std.specs.Map.{lookup}
use Rattle.bucket_core.specs.declared.flaky.When.{When}

-- when the call of this number fails, if it does: as the first that tells of it
abbrev pub planned : List (ℕ × When) → ℕ → Option When
planned fails call = lookup (nat_eq call) fails
