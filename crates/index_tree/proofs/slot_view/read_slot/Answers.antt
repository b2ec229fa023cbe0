use Rattle.std.proofs.Common.{◌∙◌, refl, rules, w64, SFits}
use Rattle.std.proofs.lemmas.Int.{to_z-of_z}
use Rattle.std.proofs.lemmas.Result.{err_from_is_err_and}
use Rattle.index_tree.proofs.SlotPartLaws.{slot_by_parts}
use Rattle.index_tree.proofs.slot_view.read_slot.Goals as goal

pub returns-in_err-first_row-clause-gives : goal.returns-in_err-first_row-clause-gives
returns-in_err-first_row-clause-gives c =
    let p = err_from_is_err_and c.from_residual-in_err-first_row.result c.from_residual-in_err-first_row.ensures.1 in
    rw (p.1, p.2) (slot_by_parts c.args.total c.args.columns c.args.reach.now c.args.bytes.now
    ∙ rw (c.in_ok-key.ensures.gives, c.in_err-first_row.ensures) refl)

pub returns-in_err-first-clause-gives : goal.returns-in_err-first-clause-gives
returns-in_err-first-clause-gives c =
    let p = err_from_is_err_and c.from_residual-in_err-first.result c.from_residual-in_err-first.ensures.1 in
    rw (p.1, p.2) (slot_by_parts c.args.total c.args.columns c.args.reach.now c.args.bytes.now
    ∙ rw (c.in_ok-key.ensures.gives, c.in_ok-first_row.ensures, c.in_err-first.ensures c.args.total) refl)

pub returns-in_err-first_col-clause-gives : goal.returns-in_err-first_col-clause-gives
returns-in_err-first_col-clause-gives c =
    let p = err_from_is_err_and c.from_residual-in_err-first_col.result c.from_residual-in_err-first_col.ensures.1 in
    rw (p.1, p.2) (slot_by_parts c.args.total c.args.columns c.args.reach.now c.args.bytes.now
    ∙ rw (c.in_ok-key.ensures.gives, c.in_ok-first_row.ensures, c.in_ok-first.ensures c.args.total, c.in_err-first_col.ensures c.args.total) refl)

pub returns-clause-gives : goal.returns-clause-gives
returns-clause-gives c =
    let first_fits : SFits w64 c.in_ok-first.first = search rules in
    let last_fits : SFits w64 c.in_ok-first.last = search rules in
    rw (to_z-of_z w64 c.in_ok-first.first first_fits, to_z-of_z w64 c.in_ok-first.last last_fits) (slot_by_parts c.args.total c.args.columns c.args.reach.now c.args.bytes.now
    ∙ rw (c.in_ok-key.ensures.gives, c.in_ok-first_row.ensures, c.in_ok-first.ensures c.args.total, c.in_ok-first_col.ensures c.args.total) refl)
