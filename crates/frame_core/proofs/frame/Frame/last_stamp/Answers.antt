use Rattle.std.proofs.Common.{◌∙◌}
use Rattle.frame_core.proofs.MakerLemmas.{last_lent}
use Rattle.frame_core.proofs.frame.Frame.last_stamp.Goals as goal

pub returns : goal.returns
returns c = last_lent _ _ _ _ _ _ c.self.view_is c.items.ensures (c.copied.ensures ∙ c.last.ensures.value)
