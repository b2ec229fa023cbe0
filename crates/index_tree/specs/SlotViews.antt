-- Slots as they lie in bytes.
--     slot_seen           the slot that is seen
use Rattle.key_kind.specs.KeyViews.{key_of}
use Rattle.index_tree.specs.declared.index.Slot.{Slot}
use Rattle.index_tree.specs.declared.slot_view.SlotView.{SlotView}

-- the slot that is seen
abbrev pub slot_seen : SlotView → Slot
slot_seen v = record {
  key = key_of v.key;
  part = record { first_row = v.first_row; rows = v.rows; first_col = v.first_col; cols = v.cols };
  first = v.first;
  last = v.last;
}
