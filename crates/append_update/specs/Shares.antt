-- What a new version shares with the newest live one, its base, whatever other clients do.
--     base_slots, base_frame      the slots of the base's index, and its frame
--     AppendsSlots        the base's slots, and behind them those of a frame
--     ReplacesSlots, UpdatesSlots, ClearsSlots      the base's slots outside a range, and between them those of a frame
--     MakesSlots          those of the version that a change makes
--     SharesAs            the last event that was seen is a commit, whose index has such slots
use Rattle.std.specs.Prelude.{◌≡◌, ◌≤◌, ℕ, List, [], ◌∷◌, ◌++◌, find, length, Option, Some, None, Ok, nat_eq}
use Rattle.std.specs.Option.{option_map_or}
use Rattle.frame_core.specs.Ranges.{Range}
use Rattle.frame_core.specs.Frames.{Frame}
use Rattle.segment_cut.specs.Cuttings.{Cutting}
use Rattle.segment_cut.specs.Grids.{parts, grid_of}
use Rattle.index_tree.specs.declared.index.Slot.{Slot}
use Rattle.index_tree.specs.declared.index.Index.{Index}
use Rattle.key_kind.specs.declared.key.Key.{Key}
use Rattle.key_kind.specs.Names.{Name}
use Rattle.bucket_core.specs.declared.event.Change.{Change}
use Rattle.bucket_core.specs.declared.event.Change.TheVariants as changes
use Rattle.bucket_core.specs.declared.event.Event.TheVariants as events
use Rattle.bucket_core.specs.History.{History, puts_by}
use Rattle.store_model.specs.Library.{Version, state_of, base_of, next_number}
use Rattle.store_model.specs.Links.{Linked, links}
use Rattle.reply_model.specs.CommitAnswers.{update_range}
use Rattle.frame_write.specs.Pieces.{end_of, fresh_slots, laid}
use Rattle.frame_write.specs.Writes.{newest_index}
use Rattle.append_update.specs.declared.cuts.Cuts.{Cuts}
use Rattle.append_update.specs.declared.pieces.Edges.{Edges}
use Rattle.append_update.specs.Bases.{Divides}
use Rattle.append_update.specs.Replacing.{replaced, AreEdges}

-- the slots of a version, as its index has them, and of the newest live one; there are none where it is not there
abbrev pub slots_of_version : List Linked → Option Version → List Slot
slots_of_version links None = []
slots_of_version links (Some v) = option_map_or (λ (l : Linked). l.index.slots) (find (λ (l : Linked). nat_eq v.number l.row.version) links) []

abbrev pub base_slots : History → Name → List Slot
base_slots h symbol = slots_of_version (links h symbol) (base_of (state_of h symbol))

-- the frame of the newest live version, or another one where it is not there
abbrev pub base_frame : History → Name → Frame → Frame
base_frame h symbol other = option_map_or (λ (v : Version). v.frame) (base_of (state_of h symbol)) other

-- ---- the slots of a new version, of which the new ones have keys of this client from a serial on

-- each slot of the base as it was, and behind them those of the frame's grid
abbrev pub AppendsSlots : Name → Cutting → Frame → ℕ → ℕ → History → List Slot → Type 0
AppendsSlots symbol cutting frame client serial before slots =
    slots ≡ base_slots before symbol ++ fresh_slots client symbol (next_number (state_of before symbol)) (end_of (base_slots before symbol)) serial frame (parts (grid_of frame cutting))

-- the base's slots below the range and above it, with their keys; and between them those of what is left of the row blocks that the range
-- cuts, and of the frame
pub record ReplacesSlots (symbol : Name) (cutting : Cutting) (range : Range) (frame : Frame) (client serial : ℕ) (before : History) (slots : List Slot) : Type 0 where
  pub cuts : Cuts
  pub edges : Edges
  pub divides : Divides range (base_slots before symbol) cuts
  pub are : AreEdges (base_frame before symbol frame) range (base_slots before symbol) cuts edges
  pub is : slots ≡ laid cutting client symbol (next_number (state_of before symbol)) 0 serial (replaced (base_slots before symbol) cuts edges frame)

-- so for the range of an update
abbrev pub UpdatesSlots : Name → Cutting → Option Range → Frame → ℕ → ℕ → History → List Slot → Type 0
UpdatesSlots symbol cutting asked frame client serial before slots =
    (range : Range) × (update_range asked frame ≡ Ok range) × ReplacesSlots symbol cutting range frame client serial before slots

-- and for no rows of the base's columns
abbrev pub ClearsSlots : Name → Cutting → Range → ℕ → ℕ → History → List Slot → Type 0
ClearsSlots symbol cutting range client serial before slots =
    (base : Version) × (base_of (state_of before symbol) ≡ Some base) × ReplacesSlots symbol cutting range (record base.frame { rows = [] }) client serial before slots

-- the slots of the version that a change makes on the base
abbrev pub MakesSlots : Change → Name → Cutting → ℕ → ℕ → History → List Slot → Type 0
MakesSlots (changes.Appended frame at) symbol cutting = AppendsSlots symbol cutting frame
MakesSlots (changes.Updated frame range at) symbol cutting = ReplacesSlots symbol cutting range frame
MakesSlots change symbol cutting = λ client serial before slots. ⊥

-- ---- a commit

-- the last event is the client's Refer of the symbol, at this place; the index of the newest link has such slots on the base just before
-- it; and the serials of the new ones were not used before the call
pub record SharesAs (client : ℕ) (symbol : Name) (Slots : ℕ → ℕ → History → List Slot → Type 0) (place : ℕ) (old new : History) : Type 0 where
  pub was : Option Key
  pub entry : Key
  pub list : List Change
  pub before : History
  pub last : new ≡ events.Refer client symbol was entry list ∷ before
  pub place_is : place ≡ length new
  pub index : Index
  pub newest : newest_index new symbol ≡ Some index
  pub serial : ℕ
  pub unused : puts_by client old ≤ serial
  pub slots : Slots client serial before index.slots
