use Rattle.std.proofs.Common.{length, sym, ap, ◌∙◌, string_bytes}
use Rattle.frame_core.proofs.TextLemmas.{length-texts_between, texts-utf8}
use Rattle.frame_core.proofs.texts.TextList.len.Goals as goal

pub returns-clause-len : goal.returns-clause-len
returns-clause-len c = c.len.ensures ∙ c.self.inside.ends.ok.0 ∙ sym (length-texts_between 0 c.self.inside.ends.items (string_bytes c.self.inside.buffer)) ∙ ap length c.self.view_is

pub returns-clause-texts : goal.returns-clause-texts
returns-clause-texts c = rw (← c.self.view_is) (texts-utf8 0 c.self.inside.ends.items (string_bytes c.self.inside.buffer) c.self.invariant)
