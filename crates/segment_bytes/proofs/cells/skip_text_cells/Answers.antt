use Rattle.std.proofs.Common.{arith, sym, ap, ◌∙◌}
use Rattle.std.proofs.lemmas.Result.{err_from_is_err_and}
use Rattle.segment_bytes.proofs.AsciiTexts.{ascii_cells}
use Rattle.segment_bytes.proofs.Skips.{ends_known, text_cells, text_cells_ends, text_cells_texts}
use Rattle.segment_bytes.proofs.cells.skip_text_cells.Goals as goal

pub returns-in_err-length : goal.returns-in_err-length
returns-in_err-length c =
    let p = err_from_is_err_and c.from_residual.result c.from_residual.ensures.1 in
    rw (p.1, p.2) (text_cells_ends _ _ _ _ c.in_err-length.ensures)

pub skip_texts-requires : goal.skip_texts-requires
skip_texts-requires c = ends_known _ _ _ _ _ (λ i. omega (arith, c.type_inv.bytes i)) c.in_ok-length.ensures

pub returns-in_err-rest : goal.returns-in_err-rest
returns-in_err-rest c =
    let p = err_from_is_err_and c.from_residual-in_err-rest.result c.from_residual-in_err-rest.ensures.1 in
    rw (p.1, p.2) (text_cells_texts _ _ _ _ _ _ c.in_ok-length.ensures c.in_err-rest.ensures)

pub returns : goal.returns
returns c = text_cells _ _ _ _ _ _ (λ i. omega (arith, c.type_inv.bytes i)) c.in_ok-length.ensures c.in_ok-rest.ensures

pub returns-in-Some : goal.returns-in-Some
returns-in-Some c = rw c.in-Some.ensures.rest (ascii_cells _ _ _ _ _ (λ i. omega (arith, c.type_inv.bytes i)) c.in_ok-length.ensures c.in-Some.ensures.whole c.in-Some.ensures.ascii)
