use Rattle.std.proofs.Common.{rules, ◌*◌, ◌≤◌}
use Rattle.segment_cut.proofs.GridLemmas.{begins-within, begins-within-max}
use Rattle.segment_cut.proofs.grid.Grid.part.Goals as goal

pub overflow_mul-first_row : goal.overflow_mul-first_row
overflow_mul-first_row c =
    let within : c.args.block * c.args.self.now.cutting.rows ≤ c.args.self.now.rows = begins-within _ _ c.args.block (rw (← c.self.view_is) c.self.invariant.some_rows) c.requires.block in
    search rules

pub overflow_mul-first_col : goal.overflow_mul-first_col
overflow_mul-first_col c =
    let within : c.args.slice * c.args.self.now.cutting.cols ≤ c.args.self.now.cols = begins-within-max _ _ c.args.slice (rw (← c.self.view_is) c.self.invariant.some_cols) c.requires.slice in
    search rules
