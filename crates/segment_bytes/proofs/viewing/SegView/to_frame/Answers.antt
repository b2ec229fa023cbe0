use Rattle.std.proofs.Common.{◌≡◌, Result, Ok}
use Rattle.frame_core.specs.declared.raw.RawFrame.{RawFrame}
use Rattle.frame_core.specs.declared.refusal.Refusal.{Refusal}
use Rattle.frame_core.specs.Frames.{Frame}
use Rattle.segment_bytes.proofs.SegmentGetters.{view_storable}
use Rattle.segment_bytes.proofs.Copies.{PartsOf, remade}
use Rattle.segment_bytes.proofs.viewing.SegView.to_frame.Goals as goal

same_frame : (a b : Frame) (r : Result Frame Refusal) → r ≡ Ok a → r ≡ Ok b → a ≡ b
same_frame a b r h k = cc

pub returns-in-Ok : goal.returns-in-Ok
returns-in-Ok c =
    let raw : RawFrame = record { stamps = c.in_ok-copy_stamps.field-0; names = c.in_ok-copy_names.field-0; columns = c.in_ok-copy_columns.field-0 } in
    let parts : PartsOf c.args.self.now raw = record { stamps = c.in_ok-copy_stamps.ensures; names = c.in_ok-copy_names.ensures; types = c.in_ok-copy_columns.ensures.types; cells = c.in_ok-copy_columns.ensures.cells } in
    same_frame c.in-Ok.frame c.args.self.now _ c.in-Ok.ensures.frame (remade c.args.self.now raw (view_storable _ _ _ _ _ _ c.self.invariant c.self.view_is) parts)
