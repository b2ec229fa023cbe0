use Rattle.std.proofs.Common.{ap, length, List, string_bytes, arith}
use Rattle.std.specs.Prelude.{sum_by}
use Rattle.frame_core.specs.Texts.{Text}
use Rattle.frame_core.proofs.Totals.{bytes_of_spans}
use Rattle.frame_core.proofs.texts.TextList.bytes.Goals as goal

pub returns : goal.returns
returns c = omega (arith, ap length c.as_str.ensures.value, bytes_of_spans 0 c.self.inside.ends.items (string_bytes c.self.inside.buffer) c.self.invariant, ap (λ (ts : List Text). sum_by (λ (t : Text). length t) ts) c.self.view_is)
