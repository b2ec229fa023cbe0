-- How pieces are laid out as the slots of a new index.
--     piece_rows, rows_in      how many rows a piece and several have
--     Laid                a slot, and the body of its tile where it is a new one
--     slots_laid, puts_laid      the slots, and what is put for the new ones
--     IsTiledPiece        the tiles of a piece
--     tiles_in            how many tiles several pieces have
--     MayMove, MayLay     a run that may be moved; a run that may be moved, or a frame that may be cut
--     FitsAt              a tile whose numbers fit an index
--     fresh_laid          the slots of tiles, with their bodies
--     laid_piece, laid_pieces      the slots of a piece and of several, with their tiles
use Rattle.std.specs.Prelude.{◌≡◌, ◌≤◌, ◌<◌, ◌^◌, ℕ, suc, ◌+◌, List, [], ◌∷◌, ◌++◌, map, length, Option, Some, None, FitsSigned}
use Rattle.std.specs.Int.{w64}
use Rattle.std.specs.Arc.{arc_value}
use Rattle.std.specs.List.{cons_option, AllByRecursion}
use Rattle.frame_core.specs.Limits.{IsStorable}
use Rattle.segment_cut.specs.Cuttings.{Cutting}
use Rattle.index_tree.specs.declared.index.Slot.{Slot}
use Rattle.index_tree.specs.SlotTexts.{moved}
use Rattle.key_kind.specs.declared.key.Key.{Key}
use Rattle.key_kind.specs.Names.{Name}
use Rattle.bucket_core.specs.History.{Bytes}
use Rattle.frame_write.specs.declared.pieces.Piece.{Piece}
use Rattle.frame_write.specs.declared.pieces.Piece.TheVariants as pieces
use Rattle.frame_write.specs.declared.tiles.Tile.{Tile}
use Rattle.frame_write.specs.Pieces.{begin_of, end_of, size_of}
use Rattle.frame_write.specs.Placing.{AreTilesOf, slot_at}

-- how many rows a piece has
abbrev pub piece_rows : Piece → ℕ
piece_rows (pieces.Shared run) = size_of run
piece_rows (pieces.Fresh frame) = length frame.rows

-- how many rows pieces have
abbrev pub rows_in : List Piece → ℕ
rows_in [] = 0
rows_in (p ∷ list) = piece_rows p + rows_in list

-- a slot, and the body of its tile where it is a new one
abbrev pub Laid : Type 0
Laid = Slot × Option Bytes

-- the slots
abbrev pub slots_laid : List Laid → List Slot
slots_laid = map (λ (x : Laid). x.0)

-- the key and the body of a new tile
abbrev pub put_laid : Laid → Option (Key × Bytes)
put_laid (s, None) = None
put_laid (s, Some body) = Some (s.key, body)

-- what is put for the new ones
abbrev pub puts_laid : List Laid → List (Key × Bytes)
puts_laid [] = []
puts_laid (x ∷ list) = cons_option (put_laid x) (puts_laid list)

-- the slot so many rows further
abbrev pub behind : ℕ → Slot → Slot
behind begin s = record s { part = record s.part { first_row = s.part.first_row + begin } }

-- a shared piece has no new tiles; a fresh one those of its grid
abbrev pub IsTiledPiece : Cutting → Piece → List Tile → Type 0
IsTiledPiece cutting (pieces.Shared run) tiles = tiles ≡ []
IsTiledPiece cutting (pieces.Fresh frame) tiles = AreTilesOf frame cutting tiles

-- how many tiles there are
abbrev pub tiles_in : List (List Tile) → ℕ
tiles_in [] = 0
tiles_in (t ∷ tiles) = length t + tiles_in tiles

-- the slots lie between the first row of the first and the end of the last, and their numbers are small enough to be moved
abbrev pub MayMove : List Slot → Type 0
MayMove run = (begin_of run ≤ end_of run) × (end_of run < 2 ^ 32) × AllByRecursion (λ (s : Slot). (begin_of run ≤ s.part.first_row) × (s.part.first_row + s.part.rows ≤ end_of run)) run

-- the tile of a frame that begins at a row has numbers that fit their fields in an index
pub record FitsAt (begin : ℕ) (t : Tile) : Type 0 where
  pub first_row : t.part.first_row + begin < 2 ^ 32
  pub rows : t.part.rows < 2 ^ 32
  pub first_col : t.part.first_col < 2 ^ 16
  pub cols : t.part.cols < 2 ^ 16
  pub first : FitsSigned w64 t.first
  pub last : FitsSigned w64 t.last

-- a run that may be moved, or a frame that may be cut
abbrev pub MayLay : Piece → Type 0
MayLay (pieces.Shared run) = MayMove run
MayLay (pieces.Fresh frame) = IsStorable frame

-- the slots of tiles of a frame that begins at a row, with their bodies, under one serial after another
abbrev pub fresh_laid : ℕ → Name → ℕ → ℕ → ℕ → List Tile → List Laid
fresh_laid client symbol version begin serial [] = []
fresh_laid client symbol version begin serial (t ∷ tiles) = (behind begin (slot_at client symbol version serial t), Some (arc_value t.body)) ∷ fresh_laid client symbol version begin (suc serial) tiles

-- the slots of a piece that begins at a row, with its tiles, whose keys begin with a serial
abbrev pub laid_piece : ℕ → Name → ℕ → ℕ → ℕ → Piece → List Tile → List Laid
laid_piece client symbol version begin serial (pieces.Shared run) tiles = map {B = Laid} (λ (s : Slot). (moved (begin_of run) begin s, None)) run
laid_piece client symbol version begin serial (pieces.Fresh frame) tiles = fresh_laid client symbol version begin serial tiles

-- the slots of pieces with their tiles
abbrev pub laid_pieces : ℕ → Name → ℕ → ℕ → ℕ → List Piece → List (List Tile) → List Laid
laid_pieces client symbol version begin serial (p ∷ list) (t ∷ tiles) =
    laid_piece client symbol version begin serial p t ++ laid_pieces client symbol version (begin + piece_rows p) (serial + length t) list tiles
laid_pieces client symbol version begin serial _ _ = []
