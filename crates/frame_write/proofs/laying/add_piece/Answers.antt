use Rattle.std.proofs.Common.{◌+◌, ◌≤◌, length, sym, subst}
use Rattle.std.specs.List.{AllByRecursion}
use Rattle.frame_core.specs.Limits.{IsStorable}
use Rattle.frame_write.specs.declared.pieces.Piece.{Piece}
use Rattle.frame_write.specs.Laying.{FitsAt, MayLay, piece_rows}
use Rattle.frame_write.proofs.LayoutLemmas.{shared_adds, tiles_fit}
use Rattle.frame_write.proofs.laying.add_piece.Goals as goal

pub add_fresh-requires-clause-each : goal.add_fresh-requires-clause-each
add_fresh-requires-clause-each c =
    let storable : IsStorable c.in-Fresh.frame = subst MayLay c.in-Fresh.is c.requires.piece in
    let few : c.args.layout.now.rows + length c.in-Fresh.frame.rows ≤ 2000000 = subst (λ (p : Piece). c.args.layout.now.rows + piece_rows p ≤ 2000000) c.in-Fresh.is c.requires.few in
    subst (AllByRecursion (FitsAt c.args.layout.now.rows)) (sym c.items.ensures) (tiles_fit c.in-Fresh.frame c.args.cutting c.in_ok-tiles-in-Fresh.tiles c.args.layout.now.rows storable c.in_ok-tiles-in-Fresh.ensures few)

pub returns-in-Shared : goal.returns-in-Shared
returns-in-Shared c =
    shared_adds c.args.client c.args.name.now c.args.version c.args.cutting c.args.piece.now c.in-Shared.run' c.args.layout.now c.add_shared.new.self c.add_shared.result
    c.in-Shared.is c.add_shared.ensures.slots c.add_shared.ensures.puts c.add_shared.ensures.rows c.add_shared.ensures.next
