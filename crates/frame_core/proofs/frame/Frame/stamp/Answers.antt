use Rattle.std.proofs.Common.{◌<◌, ◌∙◌, ap, sym, length, arith, rules, pos, Some, get_or, w64, SFits}
use Rattle.std.proofs.lemmas.Int.{to_z-of_z}
use Rattle.frame_core.proofs.WholeFrames.{count_rows, stamp_is}
use Rattle.frame_core.proofs.frame.Frame.stamp.Goals as goal

pub offset_bounds-items-row : goal.offset_bounds-items-row
offset_bounds-items-row c = let within : c.args.row < length c.items.result.now = omega (arith, count_rows _ _ _ _ c.self.view_is, ap length c.items.ensures) in search rules

pub bounds-items-row : goal.bounds-items-row
bounds-items-row c = omega (arith, count_rows _ _ _ _ c.self.view_is, ap length c.items.ensures)

pub returns : goal.returns
returns c =
    let fits : SFits w64 (get_or c.items.result.now c.args.row (pos 0)) = search rules in
    stamp_is _ _ _ _ _ c.args.row (pos 0) c.self.view_is c.items.ensures c.requires ∙ ap Some (sym (to_z-of_z w64 (get_or c.items.result.now c.args.row (pos 0)) fits))
