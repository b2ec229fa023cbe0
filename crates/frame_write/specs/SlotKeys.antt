-- The key of the index of slots.
--     first_of, last_of   the stamps of the first and of the last row of slots
--     slots_key           the key of their index
use Rattle.std.specs.Prelude.{ℕ, ℤ, pos, List, [], ◌∷◌}
use Rattle.index_tree.specs.declared.index.Slot.{Slot}
use Rattle.key_kind.specs.declared.key.KeyKind.TheVariants as kinds
use Rattle.key_kind.specs.declared.key.Key.{Key}
use Rattle.key_kind.specs.Names.{Name}

-- the stamp of the first row of slots, or 0
abbrev pub first_of : List Slot → ℤ
first_of [] = pos 0
first_of (s ∷ more) = s.first

-- the stamp of their last row, or 0
abbrev pub last_of : List Slot → ℤ
last_of [] = pos 0
last_of (s ∷ []) = s.last
last_of (s ∷ t ∷ more) = last_of (t ∷ more)

-- the key of the index of these slots: with the stamps of the first and the last row
abbrev pub slots_key : ℕ → Name → ℕ → ℕ → List Slot → Key
slots_key client symbol version serial slots = record {
  kind = kinds.TableIndex;
  name = symbol;
  client = client;
  serial = serial;
  version = version;
  first = first_of slots;
  last = last_of slots;
}
