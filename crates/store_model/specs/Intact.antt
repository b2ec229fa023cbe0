-- What holds of every lawful history: nothing that is needed was dropped, and the chains tell what is.
--     IsIntact            one record of facts, which each lawful event keeps
--     IsAsPut             links, pieces and elements are still what was put, whatever was dropped since
--     IsShown             what stands under references and snapshots
use Rattle.std.specs.Prelude.{option_map, ◌≡◌, ◌⊎◌, ℕ, ◌<◌, true, false, Some, Contains, length, is_some, Ok}
use Rattle.std.specs.List.{AllZip, AllByRecursion}
use Rattle.segment_cut.specs.Tiles.{Tiled}
use Rattle.key_kind.specs.declared.key.KeyKind.TheVariants as kinds
use Rattle.key_kind.specs.declared.key.Key.{Key}
use Rattle.key_kind.specs.Names.{Name}
use Rattle.key_kind.specs.Keys.{is_put, same_holder, reference_key, snapshot_key}
use Rattle.key_kind.specs.KeyText.{key_text}
use Rattle.bucket_core.specs.History.{History, stored, Bytes, body_put, reference, puts_by, StandsAsPut, PutOnce}
use Rattle.store_model.specs.declared.snapshot.SnapBody.{SnapBody}
use Rattle.store_model.specs.Library.{Version, Piece, state_of, is_buried, is_linked, next_number, open_pieces, staged_key}
use Rattle.store_model.specs.Snapshots.{snap_body}
use Rattle.store_model.specs.Links.{Linked, linked, frame_put, links, reached, is_needed, entries, chain_entries, element}
use Rattle.store_model.specs.Holders.{IsHeldRow, has_unnamed}
use Rattle.store_model.specs.Walks.{WalkIsState}
use Rattle.store_model.specs.ChainText.{snap_of}

-- a key of the symbol, of a tile or an index
pub record IsTableKey (symbol : Name) (key : Key) : Type 0 where
  pub name : key.name ≡ symbol
  pub kind : (key.kind ≡ kinds.TableData) ⊎ (key.kind ≡ kinds.TableIndex)

-- the link's tiles are the frame of the version
pub record IsLinkOf (l : Linked) (v : Version) : Type 0 where
  pub number : l.row.version ≡ v.number
  pub stamp : l.row.stamp ≡ v.stamp
  pub rows : l.row.rows ≡ length v.frame.rows
  pub schema : l.index.schema ≡ v.frame.schema
  pub assembled : Tiled v.frame l.tiles

-- the serial of a key that was put lies below its client's next one, and clients put keys of its kind
abbrev pub IsNumbered : History → Key → Type 0
IsNumbered h key = (key.serial < puts_by key.client h) × (is_put key.kind ≡ true)

-- the facts that each lawful event keeps. What nobody may lose stands as it was put; the chains spell what was told; and some facts
-- about numbers and holders, by which the others are kept
pub record IsIntact (h : History) : Type 0 where
  -- no key is put twice
  pub once : PutOnce h
  -- each key that a live or held link reaches stands as it was put
  pub needed : (symbol : Name) (l : Linked) (key : Key) → Contains (links h symbol) l → is_needed (state_of h symbol) l ≡ true → Contains (reached l) key → StandsAsPut h key
  -- so does each element of a chain, from the reference back to the last Compact
  pub elements : (symbol : Name) (key : Key) → Contains (chain_entries h symbol) key → StandsAsPut h key
  -- and each staged piece that is not consumed
  pub pieces : (symbol : Name) (p : Piece) → Contains (open_pieces (state_of h symbol)) p → StandsAsPut h (staged_key symbol p)
  -- the links of a symbol are its versions, one for one, and their tiles are the versions' whole frames
  pub versions : (symbol : Name) → AllZip IsLinkOf (links h symbol) (state_of h symbol).versions
  -- these elements tell the symbol's state, with each link's own rows and index key
  pub chain : (symbol : Name) → WalkIsState h symbol
  -- the versions of each standing snapshot are held under its holder
  pub held : (snap : Name) (body : SnapBody) → snap_body h snap ≡ Some body → AllByRecursion (IsHeldRow h body.holder) body.rows
  -- a key that was put has a serial below its client's next one, and is of a kind that clients put
  pub numbered : (key : Key) (body : Bytes) → body_put h key ≡ Some body → IsNumbered h key
  -- links reach tiles and indexes of their own symbol, and entries are elements of it
  pub table_keys : (symbol : Name) (l : Linked) (key : Key) → Contains (links h symbol) l → Contains (reached l) key → IsTableKey symbol key
  pub element_keys : (symbol : Name) (key : Key) → Contains (entries h symbol) key → (key.name ≡ symbol) × (key.kind ≡ kinds.Version)
  -- the versions of links lie below the next number
  pub below : (symbol : Name) (l : Linked) → Contains (links h symbol) l → l.row.version < next_number (state_of h symbol)
  -- what is buried was made
  pub buried : (symbol : Name) (number : ℕ) → is_buried (state_of h symbol) number ≡ true → is_linked (state_of h symbol) number ≡ true
  -- no two standing snapshots have one holder, and the holder of a standing one was never unnamed
  pub one_name : (a b : Name) (x y : SnapBody) → snap_body h a ≡ Some x → snap_body h b ≡ Some y → same_holder x.holder y.holder ≡ true → a ≡ b
  pub unnamed : (snap : Name) (body : SnapBody) (client : ℕ) → snap_body h snap ≡ Some body → has_unnamed h client body.holder ≡ false

-- the links and the pieces are still what was put under their keys, whatever was dropped since
pub record IsAsPut (h : History) : Type 0 where
  pub links : (symbol : Name) (l : Linked) → Contains (links h symbol) l → linked h l.row ≡ Some l
  pub pieces : (symbol : Name) (p : Piece) → Contains (state_of h symbol).staged p → frame_put h (staged_key symbol p) ≡ Some p.frame
  pub elements : (symbol : Name) (key : Key) → Contains (entries h symbol) key → is_some (element h key) ≡ true

-- a reference stands as the spelling of its entry, and a snapshot as a spelling of its body
pub record IsShown (h : History) : Type 0 where
  pub references : (symbol : Name) → stored h (reference_key symbol) ≡ option_map key_text (reference h symbol)
  pub snapshots : (snap : Name) → option_map (λ body. snap_of body) (stored h (snapshot_key snap)) ≡ option_map Ok (snap_body h snap)
