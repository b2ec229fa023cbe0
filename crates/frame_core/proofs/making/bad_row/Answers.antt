use Rattle.std.proofs.Common.{◌∙◌, sym}
use Rattle.frame_core.proofs.RawLemmas.{rows_end}
use Rattle.frame_core.proofs.making.bad_row.Goals as goal

pub returns : goal.returns
returns c = sym (rows_end _ _ c.loop-place-test.false) ∙ c.loop-place.invariant
