-- The newest Refer of each symbol, as a plain bucket keeps it.
--     no_head, head_of      the head of no Refer, and that of a symbol after a history
--     head_in, has_room     the head that a list of heads has for a symbol; whether the list has an entry of the symbol
--     HasMoved              where a reference is another than was said
use Rattle.std.specs.Prelude.{◌≡◌, ◌≢◌, ℕ, Bool, List, Option, Some, None, is_some, unwrap_or}
use Rattle.std.specs.Map.{lookup}
use Rattle.std.specs.BTreeMap.{is_at}
use Rattle.std.specs.Cmp.Lexicographic.{slice_cmp}
use Rattle.std.specs.Ordering.{nat_cmp}
use Rattle.key_kind.specs.Names.{Name}
use Rattle.key_kind.specs.declared.key.Key.{Key}
use Rattle.bucket_core.specs.declared.head.Head.{Head}
use Rattle.bucket_core.specs.History.{History, reference, referred_at}

-- the head of a symbol that has no Refer
abbrev pub no_head : Head
no_head = record { entry = None; since = 0 }

-- the head of the symbol after the history: its reference, and the place of its newest Refer
abbrev pub head_of : History → Name → Head
head_of h symbol = record { entry = reference h symbol; since = referred_at h symbol }

-- the head that the list has for the symbol
abbrev pub head_in : List (Name × Head) → Name → Head
head_in heads symbol = unwrap_or (lookup (is_at (slice_cmp nat_cmp symbol)) heads) no_head

-- whether the list has an entry of the symbol
abbrev pub has_room : List (Name × Head) → Name → Bool
has_room heads symbol = is_some (lookup (is_at (slice_cmp nat_cmp symbol)) heads)

-- the reference is another than `was`, and its Refer has this place, or 0; or it is `was`
abbrev pub HasMoved : History → Name → Option Key → Option ℕ → Type 0
HasMoved h symbol was None = reference h symbol ≡ was
HasMoved h symbol was (Some at) = (reference h symbol ≢ was) × (at ≡ referred_at h symbol)
