-- Why bytes are not read as a key.
--     IsKeyFault          no key begins the bytes, or memory ran out
use Rattle.std.specs.Prelude.{◌≡◌, ℕ, true, false, List}
use Rattle.std.specs.Result.{is_err}
use Rattle.key_kind.specs.declared.key_bytes.KeyFault.{KeyFault}
use Rattle.key_kind.specs.declared.key_bytes.KeyFault.TheVariants as faults
use Rattle.key_kind.specs.KeyText.{key_at}

-- no key begins the bytes; or one does, and memory ran out
abbrev pub IsKeyFault : List ℕ → KeyFault → Type 0
IsKeyFault bytes faults.NotAKey = is_err (key_at bytes) ≡ true
IsKeyFault bytes faults.NoMemory = is_err (key_at bytes) ≡ false
