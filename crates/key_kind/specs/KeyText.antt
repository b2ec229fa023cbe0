-- The one spelling of a key, and how a key is read at the front of bytes.
--     name_text, key_text      the spelling of a name and of a key
--     key_at              the key that bytes begin with
--     key_of_at           such a key of one kind
use Rattle.std.specs.Prelude.{ℕ, ℤ, pos, Bool, ◌||◌, List, [], ◌∷◌, ◌++◌, length, Ok, Err, Option, Some, None, find, nat_le, nat_eq}
use Rattle.std.specs.List.{list_all}
use Rattle.std.specs.Int.{w8, w32, w64, to_be_bytes}
use Rattle.std.specs.Ordering.{int_eq}
use Rattle.byte_fields.specs.Reading.{Reading, ◌>>=◌, wanted, number_at, signed_at, bytes_at, signed_text}
use Rattle.key_kind.specs.declared.key.KeyKind.{KeyKind}
use Rattle.key_kind.specs.declared.key.KeyKind.TheVariants as kinds
use Rattle.key_kind.specs.declared.key.Key.{Key}
use Rattle.key_kind.specs.Names.{Name, is_graphic}
use Rattle.key_kind.specs.Keys.{kind_code, same_kind, is_put, has_version, has_stamps}

-- a length of one byte, and the name
abbrev pub name_text : Name → List ℕ
name_text name = length name ∷ name

-- the spelling of a key
unfoldable pub key_text : Key → List ℕ
key_text k =
    (kind_code k.kind ∷ name_text k.name) ++ to_be_bytes w32 k.client ++ to_be_bytes w64 k.serial ++ to_be_bytes w64 k.version
    ++ signed_text k.first ++ signed_text k.last

-- the kinds, in the order of their numbers
abbrev pub all_kinds : List KeyKind
all_kinds = kinds.TableData ∷ kinds.TableIndex ∷ kinds.Version ∷ kinds.VersionRef ∷ kinds.Snapshot ∷ kinds.Staged ∷ []

-- the kind of a number
abbrev pub kind_of : ℕ → Option KeyKind
kind_of code = find (λ kind. nat_eq (kind_code kind) code) all_kinds

-- the kind, or a fault at its field
abbrev pub kind_found : List ℕ → List ℕ → Option KeyKind → Reading KeyKind
kind_found field rest None = Err (length field)
kind_found field rest (Some kind) = Ok (kind, rest)

-- the next kind
abbrev pub kind_at : List ℕ → Reading KeyKind
kind_at bytes = do
  code ← number_at w8 bytes
  kind_found bytes code.1 (kind_of code.0)

-- a length from 1 to 255, and so many bytes that may stand in a name
abbrev pub name_at : List ℕ → Reading Name
name_at bytes = do
  n ← number_at w8 bytes
  name ← wanted (nat_le 1 n.0) bytes (bytes_at n.0 n.1)
  wanted (list_all is_graphic name.0) n.1 (Ok name)

-- a number, which is 0 unless it may be another
abbrev pub zero_unless : Bool → List ℕ → Reading ℕ → Reading ℕ
zero_unless free field reading = do
  n ← reading
  wanted (free || nat_eq n.0 0) field (Ok n)

-- a signed number, which is 0 unless it may be another
abbrev pub int_zero_unless : Bool → List ℕ → Reading ℤ → Reading ℤ
int_zero_unless free field reading = do
  n ← reading
  wanted (free || int_eq n.0 (pos 0)) field (Ok n)

-- the key that the bytes begin with
unfoldable pub key_at : List ℕ → Reading Key
key_at bytes = do
  kind ← kind_at bytes
  name ← name_at kind.1
  client ← zero_unless (is_put kind.0) name.1 (number_at w32 name.1)
  serial ← zero_unless (is_put kind.0) client.1 (number_at w64 client.1)
  version ← zero_unless (has_version kind.0) serial.1 (number_at w64 serial.1)
  first ← int_zero_unless (has_stamps kind.0) version.1 (signed_at version.1)
  last ← int_zero_unless (has_stamps kind.0) first.1 (signed_at first.1)
  Ok (record { kind = kind.0; name = name.0; client = client.0; serial = serial.0; version = version.0; first = first.0; last = last.0 }, last.1)

-- the next key is of this kind, which its first field tells
abbrev pub key_of_at : KeyKind → List ℕ → Reading Key
key_of_at kind bytes = do
  first ← kind_at bytes
  wanted (same_kind first.0 kind) bytes (key_at bytes)
