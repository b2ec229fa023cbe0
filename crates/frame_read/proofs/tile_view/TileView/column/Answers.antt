use Rattle.std.proofs.Common.{◌≡◌, ◌∙◌, List, Some, length, sym, ap, arith}
use Rattle.std.specs.Prelude.{slice_get}
use Rattle.frame_core.specs.declared.cell.ColType.{ColType}
use Rattle.frame_core.specs.declared.cell.Cell.{Cell}
use Rattle.frame_core.specs.Frames.{Frame}
use Rattle.segment_bytes.specs.Sheets.{Series, sheet_of}
use Rattle.segment_bytes.proofs.Turning.{length-series_from}
use Rattle.frame_read.proofs.SearchLemmas.{column-sheet}
use Rattle.frame_read.proofs.tile_view.TileView.column.Goals as goal

pub at-requires : goal.at-requires
at-requires c =
    let f = c.self.inside.segment in
    omega (arith, c.requires, ap (λ (g : Frame). length g.schema.columns) c.self.view_is, ap (λ (cs : List Series). length cs) c.self.invariant, length-series_from 0 f.schema.columns f.rows)

pub returns-clause-kind : goal.returns-clause-kind
returns-clause-kind c =
    let at : slice_get (sheet_of c.args.self.now).columns c.args.col ≡ Some c.at.result.now = ap (λ (f : Frame). slice_get (sheet_of f).columns c.args.col) (sym c.self.view_is) ∙ ap (λ (cs : List Series). slice_get cs c.args.col) (sym c.self.invariant) ∙ c.at.ensures in
    (column-sheet c.args.self.now c.args.col c.at.result.now c.requires at).0 ∙ ap (λ (x : ColType × List Cell). Some x.0) (sym c.cells.ensures)

pub returns-clause-cells : goal.returns-clause-cells
returns-clause-cells c =
    let at : slice_get (sheet_of c.args.self.now).columns c.args.col ≡ Some c.at.result.now = ap (λ (f : Frame). slice_get (sheet_of f).columns c.args.col) (sym c.self.view_is) ∙ ap (λ (cs : List Series). slice_get cs c.args.col) (sym c.self.invariant) ∙ c.at.ensures in
    ap (λ (x : ColType × List Cell). x.1) c.cells.ensures ∙ (column-sheet c.args.self.now c.args.col c.at.result.now c.requires at).1
