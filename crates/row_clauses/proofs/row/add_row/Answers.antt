use Rattle.std.proofs.Common.{ap, sym, ◌∙◌, arith, subst}
use Rattle.frame_core.specs.Making.{Making}
use Rattle.row_clauses.specs.Lying.{AreTyped, cells_at, lying}
use Rattle.row_clauses.proofs.RowCells.{next_type, all_begun}
use Rattle.std.proofs.lemmas.List.{take_all}
use Rattle.row_clauses.proofs.row.add_row.Goals as goal

pub cell-requires : goal.cell-requires
cell-requires c =
    let cells = cells_at c.args.frame.now c.args.row c.args.made.now in
    let same = ap (λ (m : Making). m.schema.columns) c.loop-place.invariant in
    next_type c.loop-place.out.schema.columns cells c.args.layout.now c.loop-place.place-index c.loop-place.out.begun _
    (subst (λ columns. AreTyped columns (lying cells c.args.layout.now)) (sym same) c.requires.typed) (omega (arith, c.loop-place-test.true)) (ap (λ (m : Making). m.begun) c.loop-place.invariant) c.cell_in.ensures

pub end_row-requires-clause-full : goal.end_row-requires-clause-full
end_row-requires-clause-full c =
    let cells = cells_at c.args.frame.now c.args.row c.args.made.now in
    let same = ap (λ (m : Making). m.schema.columns) c.loop-place.invariant in
    all_begun c.loop-place.out.schema.columns cells c.args.layout.now c.loop-place.out.begun (subst (λ columns. AreTyped columns (lying cells c.args.layout.now)) (sym same) c.requires.typed)
    (ap (λ (m : Making). m.begun) c.loop-place.invariant ∙ ap (lying cells) (take_all c.loop-place.place-index c.args.layout.now (omega (arith, c.loop-place-test.false))))
