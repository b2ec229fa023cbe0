use Rattle.std.proofs.Common.{sym, subst, arith}
use Rattle.frame_write.specs.Layouts.{AddsPiece, IsLaid}
use Rattle.frame_write.proofs.ListLemmas.{read_at, take_at}
use Rattle.frame_write.proofs.LayoutLemmas.{rows_at, laid_more, laid_none}
use Rattle.frame_write.proofs.laying.lay_out.Goals as goal

pub loop-piece-init : goal.loop-piece-init
loop-piece-init c = laid_none c.args.client c.args.symbol.now c.args.version c.args.cutting c.args.serial c.new-layout.result c.ranges.serial.fits c.new-layout.ensures

pub add_piece-requires-clause-few : goal.add_piece-requires-clause-few
add_piece-requires-clause-few c =
    let here = read_at c.args.pieces.now c.loop-piece.piece-index c.piece-item.result c.loop-piece-test.true c.piece-item.is in
    let rows = rows_at c.args.pieces.now c.loop-piece.piece-index c.piece-item.result here in
    omega (arith, rows, c.loop-piece.invariant.rows, c.requires.few)

pub loop-piece-preserved : goal.loop-piece-preserved
loop-piece-preserved c =
    let here = read_at c.args.pieces.now c.loop-piece.piece-index c.piece-item.result c.loop-piece-test.true c.piece-item.is in
    let adds = subst (λ n. AddsPiece c.args.client n c.args.version c.args.cutting c.piece-item.result c.loop-piece.layout c.add_piece.new.layout) c.name-name.ensures.same c.in_ok-add_piece.ensures in
    subst (λ ps. IsLaid c.args.client c.args.symbol.now c.args.version c.args.cutting c.args.serial ps c.add_piece.new.layout) (sym (take_at c.args.pieces.now c.loop-piece.piece-index c.piece-item.result here))
    (laid_more c.args.client c.args.symbol.now c.args.version c.args.cutting c.args.serial _ c.piece-item.result c.loop-piece.layout c.add_piece.new.layout c.loop-piece.invariant adds)
