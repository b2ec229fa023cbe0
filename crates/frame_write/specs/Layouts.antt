-- Pieces that were laid out.
--     AddsPiece           a piece was laid out behind the others
--     IsLaid              the slots of pieces, and what is put for the new ones
use Rattle.std.specs.Prelude.{◌≡◌, ◌<◌, ◌^◌, ℕ, ◌+◌, List, ◌++◌, length}
use Rattle.std.specs.List.{AllZip}
use Rattle.segment_cut.specs.Cuttings.{Cutting}
use Rattle.key_kind.specs.Names.{Name}
use Rattle.frame_write.specs.declared.laying.Layout.{Layout}
use Rattle.frame_write.specs.declared.pieces.Piece.{Piece}
use Rattle.frame_write.specs.declared.tiles.Tile.{Tile}
use Rattle.frame_write.specs.Plans.{puts_seen}
use Rattle.frame_write.specs.Laying.{slots_laid, puts_laid, piece_rows, rows_in, IsTiledPiece, laid_piece, laid_pieces, tiles_in}

-- a piece was laid out behind what was there
pub record AddsPiece (client : ℕ) (symbol : Name) (version : ℕ) (cutting : Cutting) (p : Piece) (old new : Layout) : Type 0 where
  pub tiles : List Tile
  pub tiled : IsTiledPiece cutting p tiles
  pub slots : new.slots ≡ old.slots ++ slots_laid (laid_piece client symbol version old.rows old.next p tiles)
  pub puts : puts_seen new.puts ≡ puts_seen old.puts ++ puts_laid (laid_piece client symbol version old.rows old.next p tiles)
  pub rows : new.rows ≡ old.rows + piece_rows p
  pub next : new.next ≡ old.next + length tiles
  pub fits : old.next < 2 ^ 64 → new.next < 2 ^ 64

-- the pieces were laid out from row 0 on, with keys from this serial on
pub record IsLaid (client : ℕ) (symbol : Name) (version : ℕ) (cutting : Cutting) (serial : ℕ) (list : List Piece) (all : Layout) : Type 0 where
  pub tiles : List (List Tile)
  pub tiled : AllZip (IsTiledPiece cutting) list tiles
  pub slots : all.slots ≡ slots_laid (laid_pieces client symbol version 0 serial list tiles)
  pub puts : puts_seen all.puts ≡ puts_laid (laid_pieces client symbol version 0 serial list tiles)
  pub rows : all.rows ≡ rows_in list
  pub next : all.next ≡ serial + tiles_in tiles
  pub fits : all.next < 2 ^ 64
