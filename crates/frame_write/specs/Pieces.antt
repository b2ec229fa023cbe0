-- A frame in pieces: row blocks that the newest live version has, and rows that get tiles of their own.
--     begin_of, end_of, size_of      the rows that a run of slots has: the first, the one behind the last, and how many
--     IsRun               slots of whole row blocks, one behind the other
--     HasBase             the schema, the rows and the slots of the newest live version
--     IsPiece, rows_held      a piece, and its rows
--     ArePieces           the pieces of a frame
--     fresh_slots, laid   the slots of the new index
--     new_tiles           the parts of the fresh pieces, which get tiles
use Rattle.std.specs.Prelude.{◌≡◌, ◌⊎◌, ℕ, suc, ◌+◌, ◌-◌, ℤ, pos, List, [], ◌∷◌, ◌++◌, map, flat_map, length, slice_range, unwrap_or, Some, Contains, ⊤}
use Rattle.std.specs.List.{AllByRecursion}
use Rattle.frame_core.specs.declared.part.Part.{Part}
use Rattle.frame_core.specs.Schemas.{Schema}
use Rattle.frame_core.specs.Frames.{Row, Frame, first_stamp, last_stamp}
use Rattle.frame_core.specs.Limits.{IsStorable}
use Rattle.segment_cut.specs.Cuttings.{Cutting}
use Rattle.segment_cut.specs.Grids.{parts, grid_of}
use Rattle.index_tree.specs.declared.index.Slot.{Slot}
use Rattle.index_tree.specs.IndexRules.{IsSlot, LeadOn}
use Rattle.index_tree.specs.SlotTexts.{moved}
use Rattle.key_kind.specs.declared.key.KeyKind.TheVariants as kinds
use Rattle.key_kind.specs.Names.{Name}
use Rattle.bucket_core.specs.History.{History}
use Rattle.store_model.specs.Library.{Version, state_of, base_of}
use Rattle.store_model.specs.Links.{Linked, links}
use Rattle.frame_write.specs.declared.pieces.Piece.{Piece}
use Rattle.frame_write.specs.declared.pieces.Piece.TheVariants as pieces

-- ---- runs of slots

-- the first row of a run
abbrev pub begin_of : List Slot → ℕ
begin_of [] = 0
begin_of (s ∷ more) = s.part.first_row

-- the row behind the last of a run
abbrev pub end_of : List Slot → ℕ
end_of [] = 0
end_of (s ∷ []) = s.part.first_row + s.part.rows
end_of (s ∷ t ∷ more) = end_of (t ∷ more)

-- how many rows a run has
abbrev pub size_of : List Slot → ℕ
size_of slots = end_of slots - begin_of slots

-- slots of whole row blocks, one behind the other, of a frame of so many columns
abbrev pub IsRun : ℕ → List Slot → Type 0
IsRun columns [] = ⊤
IsRun columns (s ∷ more) = (s.part.first_col ≡ 0) × LeadOn (end_of (s ∷ more)) columns s more

-- ---- pieces

-- the newest live version has this schema and these rows, and the index of its link these slots
pub record HasBase (h : History) (symbol : Name) (schema : Schema) (rows : List Row) (slots : List Slot) : Type 0 where
  pub version : Version
  pub is : base_of (state_of h symbol) ≡ Some version
  pub schema_is : version.frame.schema ≡ schema
  pub rows_are : version.frame.rows ≡ rows
  pub link : Linked
  pub link_is : Contains (links h symbol) link
  pub number : link.row.version ≡ version.number
  pub slots_are : link.index.slots ≡ slots

-- a run of the base's slots, each of which keeps the rules of an index; or rows of the schema that may be written
abbrev pub IsPiece : Schema → List Slot → Piece → Type 0
IsPiece schema slots (pieces.Shared run) = AllByRecursion (λ s. Contains slots s × IsSlot (length schema.columns) s) run × IsRun (length schema.columns) run
IsPiece schema slots (pieces.Fresh frame) = IsStorable frame × (frame.schema ≡ schema)

-- the rows of a piece, of which the shared ones are among the base's
abbrev pub rows_held : List Row → Piece → List Row
rows_held rows (pieces.Shared run) = slice_range rows (begin_of run) (end_of run)
rows_held rows (pieces.Fresh frame) = frame.rows

-- the pieces hold the rows of the frame, in order; where something is shared there is a base of the frame's schema
pub record ArePieces (h : History) (symbol : Name) (frame : Frame) (list : List Piece) : Type 0 where
  pub rows : List Row
  pub slots : List Slot
  pub base : (slots ≡ []) ⊎ HasBase h symbol frame.schema rows slots
  pub each : AllByRecursion (IsPiece frame.schema slots) list
  pub held : frame.rows ≡ flat_map (rows_held rows) list

-- ---- the new index

-- the stamps of a part's rows
abbrev pub part_first : Frame → Part → ℤ
part_first frame part = unwrap_or (first_stamp (slice_range frame.rows part.first_row (part.first_row + part.rows))) (pos 0)

abbrev pub part_last : Frame → Part → ℤ
part_last frame part = unwrap_or (last_stamp (slice_range frame.rows part.first_row (part.first_row + part.rows))) (pos 0)

-- the slot of a part of a fresh piece, whose first row is the row `to` of the new frame, with its key under this serial
abbrev pub fresh_slot : ℕ → Name → ℕ → ℕ → ℕ → Frame → Part → Slot
fresh_slot client symbol version to serial frame part = record {
  key = record { kind = kinds.TableData; name = symbol; client = client; serial = serial; version = version; first = part_first frame part; last = part_last frame part };
  part = record part { first_row = part.first_row + to };
  first = part_first frame part;
  last = part_last frame part;
}

-- the slots of its parts, one serial after another
abbrev pub fresh_slots : ℕ → Name → ℕ → ℕ → ℕ → Frame → List Part → List Slot
fresh_slots client symbol version to serial frame [] = []
fresh_slots client symbol version to serial frame (part ∷ list) = fresh_slot client symbol version to serial frame part ∷ fresh_slots client symbol version to (suc serial) frame list

-- the slots of pieces from the row `to` and from a serial on
abbrev pub laid : Cutting → ℕ → Name → ℕ → ℕ → ℕ → List Piece → List Slot
laid cutting client symbol version to serial [] = []
laid cutting client symbol version to serial (pieces.Shared run ∷ list) =
    map (moved (begin_of run) to) run ++ laid cutting client symbol version (to + size_of run) serial list
laid cutting client symbol version to serial (pieces.Fresh frame ∷ list) =
    fresh_slots client symbol version to serial frame (parts (grid_of frame cutting))
    ++ laid cutting client symbol version (to + length frame.rows) (serial + length (parts (grid_of frame cutting))) list

-- how many new tiles the pieces have
abbrev pub new_tiles : Cutting → List Piece → ℕ
new_tiles cutting [] = 0
new_tiles cutting (pieces.Shared run ∷ list) = new_tiles cutting list
new_tiles cutting (pieces.Fresh frame ∷ list) = length (parts (grid_of frame cutting)) + new_tiles cutting list
