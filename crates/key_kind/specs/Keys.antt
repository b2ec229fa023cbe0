-- Keys and names.
--     IsName, IsKey              the rules of a name, and of a key by its kind
--     same_key, same_name        tests of equality
--     key_cmp, key_before        the order of keys: by their fields, in the order written
--     reference_key, snapshot_key      the key of a symbol's reference, and of a snapshot
use Rattle.std.specs.Int.{w64}
use Rattle.std.specs.Prelude.{◌^◌, ◌<◌, FitsSigned, ◌≡◌, ℕ, pos, Bool, true, false, ◌&&◌, nat_eq}
use Rattle.std.specs.Cmp.Lexicographic.{slice_cmp}
use Rattle.std.specs.Ordering.{nat_cmp, int_cmp, int_eq, ordering_then, is_lt}
use Rattle.std.specs.declared.cmp.Ordering.{Ordering}
use Rattle.key_kind.specs.Names.{Name, IsName, same_name}
use Rattle.key_kind.specs.declared.key.KeyKind.{KeyKind}
use Rattle.key_kind.specs.declared.key.KeyKind.TheVariants as kinds
use Rattle.key_kind.specs.declared.key.Key.{Key}
use Rattle.key_kind.specs.declared.key.Holder.{Holder}

-- the number of a kind in a key's bytes, which also orders the kinds
abbrev pub kind_code : KeyKind → ℕ
kind_code kinds.TableData = 1
kind_code kinds.TableIndex = 2
kind_code kinds.Version = 3
kind_code kinds.VersionRef = 4
kind_code kinds.Snapshot = 5
kind_code kinds.Staged = 6

-- a test of equality of kinds
abbrev pub same_kind : KeyKind → KeyKind → Bool
same_kind a b = nat_eq (kind_code a) (kind_code b)

-- whether a key of this kind is put by a client, has a version, and has stamps
abbrev pub is_put : KeyKind → Bool
is_put kinds.VersionRef = false
is_put kinds.Snapshot = false
is_put _ = true

-- whether a key of this kind has a version
abbrev pub has_version : KeyKind → Bool
has_version kinds.TableData = true
has_version kinds.TableIndex = true
has_version _ = false

-- whether a key of this kind has stamps
abbrev pub has_stamps : KeyKind → Bool
has_stamps kinds.Staged = true
has_stamps kind = has_version kind

-- what each key keeps
pub record IsKey (key : Key) : Type 0 where
  pub name : IsName key.name
  pub made : is_put key.kind ≡ false → (key.client ≡ 0) × (key.serial ≡ 0)
  pub version : has_version key.kind ≡ false → key.version ≡ 0
  pub stamps : has_stamps key.kind ≡ false → (key.first ≡ pos 0) × (key.last ≡ pos 0)

-- the numbers of a key fit their fields
pub record FitsFields (key : Key) : Type 0 where
  pub client : key.client < 2 ^ 32
  pub serial : key.serial < 2 ^ 64
  pub version : key.version < 2 ^ 64
  pub first : FitsSigned w64 key.first
  pub last : FitsSigned w64 key.last

-- a test of equality of keys
abbrev pub same_key : Key → Key → Bool
same_key a b =
    same_kind a.kind b.kind && same_name a.name b.name && nat_eq a.client b.client && nat_eq a.serial b.serial
    && nat_eq a.version b.version && int_eq a.first b.first && int_eq a.last b.last

-- a test of equality of holders
abbrev pub same_holder : Holder → Holder → Bool
same_holder a b = nat_eq a.client b.client && nat_eq a.serial b.serial

-- the order of keys: by their fields, in the order written
abbrev pub key_cmp : Key → Key → Ordering
key_cmp a b =
    ordering_then (ordering_then (ordering_then (ordering_then (ordering_then (ordering_then
    (nat_cmp (kind_code a.kind) (kind_code b.kind))
    (slice_cmp nat_cmp a.name b.name))
    (nat_cmp a.client b.client))
    (nat_cmp a.serial b.serial))
    (nat_cmp a.version b.version))
    (int_cmp a.first b.first))
    (int_cmp a.last b.last)

-- the key stands before the other
abbrev pub key_before : Key → Key → Bool
key_before a b = is_lt (key_cmp a b)

-- the key of a symbol's reference
abbrev pub reference_key : Name → Key
reference_key symbol = record { kind = kinds.VersionRef; name = symbol; client = 0; serial = 0; version = 0; first = pos 0; last = pos 0 }

-- the key of a snapshot
abbrev pub snapshot_key : Name → Key
snapshot_key snap = record { kind = kinds.Snapshot; name = snap; client = 0; serial = 0; version = 0; first = pos 0; last = pos 0 }
