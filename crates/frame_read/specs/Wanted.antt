-- What a fetch takes of an index.
--     IsWanted    the schema of the asked columns, and the slots whose tiles are got
use Rattle.std.specs.Prelude.{◌≡◌, List, filter, Option}
use Rattle.frame_core.specs.Ranges.{Range}
use Rattle.frame_core.specs.Texts.{Text}
use Rattle.frame_core.specs.Schemas.{Schema}
use Rattle.index_tree.specs.declared.index.Slot.{Slot}
use Rattle.index_tree.specs.declared.index.Index.{Index}
use Rattle.index_tree.specs.Covering.{covers}
use Rattle.reply_model.specs.ReadAnswers.{places_asked}
use Rattle.frame_read.specs.TileSets.{IsAskedSchema}

-- the schema of the asked columns of an index, and its slots that the range and these columns want
pub record IsWanted (index : Index) (range : Range) (columns : Option (List Text)) (asked : Schema) (slots : List Slot) : Type 0 where
  pub schema : IsAskedSchema index.schema columns asked
  pub slots_are : slots ≡ filter (covers range (places_asked columns index)) index.slots
