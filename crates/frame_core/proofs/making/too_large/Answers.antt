use Rattle.std.proofs.Common.{◌∙◌, sym}
use Rattle.frame_core.proofs.RawLemmas.{table_limits}
use Rattle.frame_core.proofs.making.too_large.Goals as goal

pub returns : goal.returns
returns c = c.exceeded.ensures ∙ rw (c.longest_text.ensures, c.text_bytes.ensures.sum, c.len.ensures, c.count_of.ensures, c.items-columns.ensures) (sym (table_limits c.args.raw.now))
