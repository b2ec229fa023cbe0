-- The newest live version of a symbol, on which a new one is made.
--     IsNewest            it, with the index of its link
--     IsBase              what a look at a walked symbol's newest live version finds
--     IsBaseAt            a base that was found, behind whose place no own commit stands
use Rattle.std.specs.Prelude.{◌≡◌, ℕ, false, ◌++◌, length, Option, Some, None, Contains}
use Rattle.std.specs.List.{list_any}
use Rattle.index_tree.specs.declared.index.Index.{Index}
use Rattle.segment_cut.specs.Tiles.{Tiled}
use Rattle.key_kind.specs.Names.{Name}
use Rattle.bucket_core.specs.History.{History}
use Rattle.store_model.specs.Library.{Version, state_of, base_of, is_buried}
use Rattle.store_model.specs.Links.{Linked, links}
use Rattle.version_chain.specs.Marking.{own_refers}
use Rattle.reply_model.specs.Keyed.{block_keys}
use Rattle.reply_model.specs.Standing.{row_sizes, base_rows, base_keys}
use Rattle.frame_read.specs.Fetches.{IsTargetIndex}
use Rattle.append_update.specs.declared.base.Base.{Base}
use Rattle.append_update.specs.Bases.{IsIndexOf}
use Rattle.append_update.specs.Shares.{base_slots}

-- the newest live version, whose frame may be written, and the index of a link of it, which has its row blocks with their keys and whose tiles are those of the frame
pub record IsNewest (h : History) (symbol : Name) (version : Version) (index : Index) : Type 0 where
  pub is : base_of (state_of h symbol) ≡ Some version
  pub index_of : IsIndexOf version.frame index
  pub link : Linked
  pub link_is : Contains (links h symbol) link
  pub number : link.row.version ≡ version.number
  pub index_is : link.index ≡ index
  pub slots_are : base_slots h symbol ≡ index.slots
  pub rows_are : base_rows h symbol ≡ row_sizes index.slots
  pub keys_are : base_keys h symbol ≡ block_keys index.slots
  pub tiled : ∥ Tiled version.frame link.tiles ∥₁

-- the newest live version, or there is none
abbrev pub IsBase : History → Name → Option Base → Type 0
IsBase h symbol None = base_of (state_of h symbol) ≡ None
IsBase h symbol (Some base) = (version : Version) × IsNewest h symbol version base.index × (base.target.version ≡ version.number)

-- the newest live version at its target's place of what a client has seen, with its index; no own commit stands behind this place
pub record IsBaseAt (client : ℕ) (seen : History) (symbol : Name) (base : Base) : Type 0 where
  pub later : History
  pub before : History
  pub split : seen ≡ later ++ before
  pub place : base.target.place ≡ length before
  pub none_own : list_any (own_refers client symbol) later ≡ false
  pub version : Version
  pub newest : IsNewest before symbol version base.index
  pub number_is : base.target.version ≡ version.number
  pub target : IsTargetIndex seen base.target base.index
  pub symbol_is : base.target.symbol ≡ symbol
  pub live : is_buried (state_of before symbol) base.target.version ≡ false
