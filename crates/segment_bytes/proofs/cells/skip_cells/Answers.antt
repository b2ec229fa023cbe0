use Rattle.std.proofs.lemmas.Result.{err_from_is_err_and}
use Rattle.segment_bytes.proofs.Skips.{ints_counted, stamps_counted, flags_counted, none_err, none_ok}
use Rattle.segment_bytes.proofs.cells.skip_cells.Goals as goal

pub returns-in_err-skip_numbers-in-Int : goal.returns-in_err-skip_numbers-in-Int
returns-in_err-skip_numbers-in-Int c =
    let p = err_from_is_err_and c.from_residual.result c.from_residual.ensures.1 in
    rw (p.1, p.2) (none_err _ _ _ (ints_counted c.args.kind c.in-Int.is c.args.so_far c.args.rows c.args.bytes.now) c.in_err-skip_numbers-in-Int.ensures)

pub returns-in_ok-skip_numbers-in-Int : goal.returns-in_ok-skip_numbers-in-Int
returns-in_ok-skip_numbers-in-Int c = none_ok _ _ _ (ints_counted c.args.kind c.in-Int.is c.args.so_far c.args.rows c.args.bytes.now) c.in_ok-skip_numbers-in-Int.ensures

pub returns-in_ok-skip_flags-in-Flag : goal.returns-in_ok-skip_flags-in-Flag
returns-in_ok-skip_flags-in-Flag c = none_ok _ _ _ (flags_counted c.args.kind c.in-Flag.is c.args.so_far c.args.rows c.args.bytes.now) c.in_ok-skip_flags-in-Flag.ensures

pub returns-in_err-skip_numbers-in-Stamp : goal.returns-in_err-skip_numbers-in-Stamp
returns-in_err-skip_numbers-in-Stamp c =
    let p = err_from_is_err_and c.from_residual-in_err-skip_numbers-in-Stamp.result c.from_residual-in_err-skip_numbers-in-Stamp.ensures.1 in
    rw (p.1, p.2) (none_err _ _ _ (stamps_counted c.args.kind c.in-Stamp.is c.args.so_far c.args.rows c.args.bytes.now) c.in_err-skip_numbers-in-Stamp.ensures)

pub returns-in_ok-skip_numbers-in-Stamp : goal.returns-in_ok-skip_numbers-in-Stamp
returns-in_ok-skip_numbers-in-Stamp c = none_ok _ _ _ (stamps_counted c.args.kind c.in-Stamp.is c.args.so_far c.args.rows c.args.bytes.now) c.in_ok-skip_numbers-in-Stamp.ensures
