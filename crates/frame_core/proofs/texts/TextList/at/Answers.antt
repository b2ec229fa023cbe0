use Rattle.std.proofs.Common.{length, sym, ap, ◌∙◌, string_bytes, arith, Some}
use Rattle.frame_core.proofs.TextLemmas.{found, length-texts_between}
use Rattle.frame_core.proofs.texts.TextList.at.Goals as goal

pub start_of-start-requires : goal.start_of-start-requires
start_of-start-requires c = omega (arith, ap length c.self.view_is, ap length c.deref.ensures.value, length-texts_between 0 c.self.inside.ends.items (string_bytes c.self.inside.buffer))

pub index-requires : goal.index-requires
index-requires c = omega (arith, ap length c.self.view_is, ap length c.deref.ensures.value, length-texts_between 0 c.self.inside.ends.items (string_bytes c.self.inside.buffer))

pub range-requires-clause-start_le_end : goal.range-requires-clause-start_le_end
range-requires-clause-start_le_end c = (found _ _ _ _ _ _ _ _ c.self.invariant c.self.view_is c.requires c.deref.ensures.value c.start_of-start.ensures c.index.ensures c.as_str.ensures.value).order

pub range-requires-clause-start_boundary : goal.range-requires-clause-start_boundary
range-requires-clause-start_boundary c = λ _. (found _ _ _ _ _ _ _ _ c.self.invariant c.self.view_is c.requires c.deref.ensures.value c.start_of-start.ensures c.index.ensures c.as_str.ensures.value).begins

pub range-requires-clause-end_boundary : goal.range-requires-clause-end_boundary
range-requires-clause-end_boundary c = (found _ _ _ _ _ _ _ _ c.self.invariant c.self.view_is c.requires c.deref.ensures.value c.start_of-start.ensures c.index.ensures c.as_str.ensures.value).ends_at

pub returns : goal.returns
returns c = (found _ _ _ _ _ _ _ _ c.self.invariant c.self.view_is c.requires c.deref.ensures.value c.start_of-start.ensures c.index.ensures c.as_str.ensures.value).is ∙ ap Some (sym c.range.ensures.value)
