-- Whether a seat is the only one of its store.
--     has_number      whether a seat has a number
--     is_sole         whether it has the first number and all that it gave out
use Rattle.std.specs.Prelude.{ℕ, Bool, ◌&&◌, ◌||◌, ◌==◌}
use Rattle.std.specs.List.{list_any, list_all}
use Rattle.turn_cell.specs.declared.badge.Badge.{Badge}

-- the number is the seat's own, or that of a seat that was joined into it
abbrev pub has_number : Badge → ℕ → Bool
has_number b n = (b.in_use && (b.number == n)) || list_any (λ j. j.number == n) b.joined

-- no other seat is in use
abbrev pub is_sole : Badge → Bool
is_sole b = b.in_use && (has_number b b.first && list_all (has_number b) b.gave)
