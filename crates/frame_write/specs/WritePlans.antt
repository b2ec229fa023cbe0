-- The plan of a write.
--     IsTable             the tiles of a frame and their index, as they are put
--     IsWritePlan         a plan over a symbol's state that writes a frame, with what it buries
use Rattle.std.specs.Prelude.{◌≡◌, ◌+◌, ◌<◌, ◌^◌, ℕ, suc, List, [], ◌∷◌, ◌++◌, length, map, Ok}
use Rattle.std.specs.Arc.{arc_value}
use Rattle.frame_core.specs.Frames.{Frame}
use Rattle.segment_cut.specs.Grids.{parts, grid_of}
use Rattle.index_tree.specs.declared.index.Slot.{Slot}
use Rattle.index_tree.specs.declared.index.Index.{Index}
use Rattle.index_tree.specs.IndexText.{index_of}
use Rattle.key_kind.specs.Names.{Name, IsName}
use Rattle.bucket_core.specs.declared.event.Change.TheVariants as changes
use Rattle.bucket_core.specs.History.{History}
use Rattle.store_model.specs.Library.{state_of}
use Rattle.store_model.specs.OwnPuts.{slots_of}
use Rattle.reply_model.specs.Answering.{pruned}
use Rattle.frame_write.specs.declared.options.Options.{Options}
use Rattle.frame_write.specs.declared.plan.Plan.{Plan}
use Rattle.frame_write.specs.declared.plan.Table.{Table}
use Rattle.frame_write.specs.declared.puts.Prepared.{Prepared}
use Rattle.frame_write.specs.declared.tiles.Tile.{Tile}
use Rattle.frame_write.specs.Placing.{placed, tile_puts, index_key}
use Rattle.frame_write.specs.Plans.{IsPlan, puts_seen}

-- the tiles of the frame under one serial after another, and behind them its index under the next
pub record IsTable (client serial : ℕ) (symbol : Name) (version : ℕ) (frame : Frame) (tiles : List Tile) (table : Table) : Type 0 where
  pub made : List Prepared
  pub index : Prepared
  pub puts : table.puts ≡ made ++ index ∷ []
  pub made_are : puts_seen made ≡ tile_puts (placed client symbol version serial tiles)
  pub index_key_is : index.key ≡ index_key client symbol version (serial + length tiles) frame
  pub index_spelled : index_of (arc_value index.body) ≡ Ok (record { schema = frame.schema; rows = length frame.rows; slots = slots_of (placed client symbol version serial tiles) })
  pub key : table.index ≡ index.key
  pub next : table.next ≡ suc (serial + length tiles)
  pub fits : suc (serial + length tiles) < 2 ^ 64
  pub is_name : IsName symbol

-- the plan writes the frame and buries what is to be buried; it puts a tile for each part of the frame's grid, the index of these parts
-- and an element
pub record IsWritePlan (client serial : ℕ) (before : History) (symbol : Name) (frame : Frame) (options : Options) (plan : Plan) : Type 0 where
  pub index : Index
  pub is_plan : IsPlan client serial before symbol index plan
  pub changes : arc_value plan.changes ≡ changes.Wrote frame options.at ∷ pruned (state_of before symbol) options.prune
  pub puts : length (puts_seen plan.puts) ≡ length (parts (grid_of frame options.cutting)) + 2
  pub parts_are : map (λ (s : Slot). s.part) index.slots ≡ parts (grid_of frame options.cutting)
