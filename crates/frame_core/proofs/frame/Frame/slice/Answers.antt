use Rattle.std.proofs.Common.{◌≤◌, ap, length, arith, rules}
use Rattle.frame_core.proofs.WholeFrames.{count_rows}
use Rattle.frame_core.proofs.Parts.{columns_reach, whole_part, part_is, sliced}
use Rattle.frame_core.proofs.frame.Frame.slice.Goals as goal

pub slice_bounds-from_slice-end : goal.slice_bounds-from_slice-end
slice_bounds-from_slice-end c = omega (arith, count_rows _ _ _ _ c.self.view_is, ap length c.items.ensures, c.requires.within)

pub offset_bounds-items-from : goal.offset_bounds-items-from
offset_bounds-items-from c =
    let within : c.args.from ≤ length c.items.result.now = omega (arith, count_rows _ _ _ _ c.self.view_is, ap length c.items.ensures, c.requires.ordered, c.requires.within) in
    search rules

pub column_parts-requires-clause-within : goal.column_parts-requires-clause-within
column_parts-requires-clause-within c = rw c.items-2.ensures (columns_reach _ _ _ _ _ c.self.view_is c.self.invariant c.requires.within)

pub invariant_of-result : goal.invariant_of-result
invariant_of-result c =
    whole_part _ _ _ _ _ c.args.from c.args.to _ _ c.self.invariant c.self.view_is c.requires.ordered c.requires.within c.in_ok-schema.ensures.copy (sliced _ _ _ c.args.from c.args.to c.in_ok-stamps.ensures c.items.ensures) (rw c.items-2.ensures at c.in_ok-columns.ensures.kinds) (rw c.items-2.ensures at c.in_ok-columns.ensures.cells)

pub returns : goal.returns
returns c =
    part_is _ _ _ _ _ c.args.from c.args.to _ _ c.self.view_is c.in_ok-schema.ensures.copy (sliced _ _ _ c.args.from c.args.to c.in_ok-stamps.ensures c.items.ensures) (rw c.items-2.ensures at c.in_ok-columns.ensures.cells)
