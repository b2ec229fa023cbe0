use Rattle.std.proofs.Common.{◌≡◌, ◌++◌, drop}
use Rattle.frame_core.specs.Columns.{column_type, column_cells}
use Rattle.frame_read.specs.Gathers.{cells_gathered}
use Rattle.frame_read.proofs.gathering.gathered_column.Given as goal

-- the tiles that are left put behind the cells so far what all tiles have
abbrev pub invariant-loop-tile : goal.invariant-loop-tile
invariant-loop-tile l = record {
  kind : column_type l.column ≡ l.head.1;
  cells : column_cells l.column ++ cells_gathered l.range l.head.0 l.reached (drop l.tile-index l.tiles) ≡ cells_gathered l.range l.head.0 0 l.tiles;
}
