-- The index that was put under a key while gate P is closed. It goes with that gate; `index_put` of Links is what holds then.
--     flat_put            the index that was put whole under a key
use Rattle.std.specs.Prelude.{Option, option_and_then}
use Rattle.byte_fields.specs.Reading.{read_of}
use Rattle.index_tree.specs.declared.index.Index.{Index}
use Rattle.index_tree.specs.IndexText.{index_of}
use Rattle.key_kind.specs.declared.key.Key.{Key}
use Rattle.bucket_core.specs.History.{History, body_put}

-- the index that was put whole under a key
abbrev pub flat_put : History → Key → Option Index
flat_put h key = option_and_then (λ body. read_of (index_of body)) (body_put h key)
