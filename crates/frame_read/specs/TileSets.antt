-- The tiles that a fetch gives.
--     IsAskedSchema, RefusesColumns      the schema of the asked columns, or why there is none
--     IsGot, IsFetched    tiles as they were put, those of a target's version
--     IsFetchKey, RefusesFetch    the keys that a fetch gets; its refusals
use Rattle.std.specs.Prelude.{◌≡◌, ◌⊎◌, ℕ, List, [], map, filter, Option, Some, Ok, Err, ⊤, Contains}
use Rattle.std.specs.List.{AllZip}
use Rattle.std.specs.Arc.{arc_value}
use Rattle.frame_core.specs.declared.refusal.Refusal.{Refusal}
use Rattle.frame_core.specs.declared.refusal.Refusal.TheVariants as refusals
use Rattle.frame_core.specs.declared.refusal.Refused.{Refused}
use Rattle.frame_core.specs.Ranges.{Range}
use Rattle.frame_core.specs.Texts.{Text}
use Rattle.frame_core.specs.Schemas.{Schema}
use Rattle.frame_core.specs.Frames.{Frame}
use Rattle.frame_core.specs.Selecting.{then_map}
use Rattle.index_tree.specs.declared.index.Slot.{Slot}
use Rattle.index_tree.specs.declared.index.Index.{Index}
use Rattle.index_tree.specs.Covering.{covers}
use Rattle.key_kind.specs.declared.key.Key.{Key}
use Rattle.bucket_core.specs.History.{History, body_put}
use Rattle.store_model.specs.Links.{Linked}
use Rattle.reply_model.specs.ReadAnswers.{select_columns, places_asked}
use Rattle.frame_read.specs.declared.target.Target.{Target}
use Rattle.frame_read.specs.declared.tiles.FetchedTile.{FetchedTile}
use Rattle.frame_read.specs.declared.tiles.Tiles.{Tiles}
use Rattle.frame_read.specs.Fetches.{IsTargetIndex, RefusesGet}

-- ---- the columns

-- a frame of these columns without rows
abbrev pub no_rows : Schema → Frame
no_rows schema = record { schema = schema; rows = [] }

-- the schema of the asked columns of a schema, in the order asked
abbrev pub IsAskedSchema : Schema → Option (List Text) → Schema → Type 0
IsAskedSchema schema columns asked = then_map (λ (f : Frame). f.schema) (select_columns columns (no_rows schema)) ≡ Ok asked

-- the asked columns are refused, or memory is wanting
abbrev pub RefusesColumns : Schema → Option (List Text) → Refusal → Type 0
RefusesColumns schema columns refusals.NoMemory = ⊤
RefusesColumns schema columns (refusals.NoSuchColumn clause position) = select_columns columns (no_rows schema) ≡ Err (refusals.NoSuchColumn clause position)
RefusesColumns schema columns _ = ⊥

-- ---- of a history

-- the tile is the slot's, as it was put
pub record IsGot (h : History) (slot : Slot) (tile : FetchedTile) : Type 0 where
  pub part : tile.part ≡ slot.part
  pub body : body_put h slot.key ≡ Some (arc_value tile.body)

-- the tiles are those that the target's index names for the range and the asked columns, in its order, and no others
pub record IsFetched (h : History) (target : Target) (range : Range) (columns : Option (List Text)) (tiles : Tiles) : Type 0 where
  pub index : Index
  pub index_is : IsTargetIndex h target index
  pub range_is : tiles.range ≡ range
  pub schema : IsAskedSchema index.schema columns tiles.schema
  pub got : AllZip (IsGot h) (filter (covers range (places_asked columns index)) index.slots) tiles.tiles

-- ---- refusals

-- a key that a fetch gets: that of the index; or, where the index has the asked columns, that of a slot that the range and these columns want
abbrev pub IsFetchKey : Range → Option (List Text) → Linked → Key → Type 0
IsFetchKey range columns link key =
    (key ≡ link.row.index)
    ⊎ ((asked : Schema) × IsAskedSchema link.index.schema columns asked × Contains (map (λ (s : Slot). s.key) (filter (covers range (places_asked columns link.index)) link.index.slots)) key)

-- the columns of the target's index refuse what is asked, at the target's place
pub record LacksColumn (h : History) (target : Target) (columns : Option (List Text)) (refused : Refused) : Type 0 where
  pub place : refused.place ≡ target.place
  pub index : Index
  pub index_is : IsTargetIndex h target index
  pub refuses : select_columns columns (no_rows index.schema) ≡ Err refused.why

-- a get refuses; or, with the index at hand, the columns do
abbrev pub RefusesFetch : ℕ → ℕ → History → History → Target → Option (List Text) → Refused → Type 0
RefusesFetch before now old new target columns refused = RefusesGet before now old new target.symbol target.version refused ⊎ LacksColumn new target columns refused
