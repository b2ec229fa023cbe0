-- Keys as they lie in bytes.
--     key_of              the key that is seen
use Rattle.key_kind.specs.declared.key.Key.{Key}
use Rattle.key_kind.specs.declared.key_view.KeyView.{KeyView}

-- the key that is seen
abbrev pub key_of : KeyView → Key
key_of v = record { kind = v.kind; name = v.name.now; client = v.client; serial = v.serial; version = v.version; first = v.first; last = v.last }
