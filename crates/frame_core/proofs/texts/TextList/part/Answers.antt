use Rattle.std.proofs.Common.{◌≤◌, ap, length, string_bytes, arith, rules}
use Rattle.frame_core.proofs.TextLemmas.{length-texts_between}
use Rattle.frame_core.proofs.TextParts.{part_found, part_made}
use Rattle.frame_core.proofs.texts.TextList.part.Goals as goal

pub start_of-start-requires : goal.start_of-start-requires
start_of-start-requires c = omega (arith, ap length c.self.view_is, ap length c.deref.ensures.value, length-texts_between 0 c.self.inside.ends.items (string_bytes c.self.inside.buffer), c.requires.ordered, c.requires.within)

pub start_of-end-requires : goal.start_of-end-requires
start_of-end-requires c = omega (arith, ap length c.self.view_is, ap length c.deref-2.ensures.value, length-texts_between 0 c.self.inside.ends.items (string_bytes c.self.inside.buffer), c.requires.within)

pub range-requires-clause-start_le_end : goal.range-requires-clause-start_le_end
range-requires-clause-start_le_end c = (part_found _ _ _ _ _ _ c.args.from c.args.to _ _ c.self.invariant c.self.view_is c.requires.ordered c.requires.within c.deref.ensures.value c.start_of-start.ensures c.deref-2.ensures.value c.start_of-end.ensures c.as_str.ensures.value).order

pub range-requires-clause-start_boundary : goal.range-requires-clause-start_boundary
range-requires-clause-start_boundary c = λ _. (part_found _ _ _ _ _ _ c.args.from c.args.to _ _ c.self.invariant c.self.view_is c.requires.ordered c.requires.within c.deref.ensures.value c.start_of-start.ensures c.deref-2.ensures.value c.start_of-end.ensures c.as_str.ensures.value).begins

pub range-requires-clause-end_boundary : goal.range-requires-clause-end_boundary
range-requires-clause-end_boundary c = (part_found _ _ _ _ _ _ c.args.from c.args.to _ _ c.self.invariant c.self.view_is c.requires.ordered c.requires.within c.deref.ensures.value c.start_of-start.ensures c.deref-2.ensures.value c.start_of-end.ensures c.as_str.ensures.value).ends_at

pub slice_bounds-lowered-end : goal.slice_bounds-lowered-end
slice_bounds-lowered-end c = omega (arith, ap length c.self.view_is, ap length c.deref-3.ensures.value, length-texts_between 0 c.self.inside.ends.items (string_bytes c.self.inside.buffer), c.requires.within)

pub offset_bounds-deref-from : goal.offset_bounds-deref-from
offset_bounds-deref-from c =
    let within : c.args.from ≤ length c.deref-3.result.now = omega (arith, ap length c.self.view_is, ap length c.deref-3.ensures.value, length-texts_between 0 c.self.inside.ends.items (string_bytes c.self.inside.buffer), c.requires.ordered, c.requires.within) in
    search rules

pub lowered-requires : goal.lowered-requires
lowered-requires c =
    let p = part_found _ _ _ _ _ _ c.args.from c.args.to _ _ c.self.invariant c.self.view_is c.requires.ordered c.requires.within c.deref.ensures.value c.start_of-start.ensures c.deref-2.ensures.value c.start_of-end.ensures c.as_str.ensures.value in
    rw c.deref-3.ensures.value p.low

pub invariant_of-result : goal.invariant_of-result
invariant_of-result c =
    let p = part_found _ _ _ _ _ _ c.args.from c.args.to _ _ c.self.invariant c.self.view_is c.requires.ordered c.requires.within c.deref.ensures.value c.start_of-start.ensures c.deref-2.ensures.value c.start_of-end.ensures c.as_str.ensures.value in
    (part_made _ _ _ _ _ _ _ c.args.from c.args.to _ _ p c.deref-3.ensures.value c.in_ok-ends.ensures c.range.ensures.value c.in_ok-buffer.ensures.ok).0

pub returns : goal.returns
returns c =
    let p = part_found _ _ _ _ _ _ c.args.from c.args.to _ _ c.self.invariant c.self.view_is c.requires.ordered c.requires.within c.deref.ensures.value c.start_of-start.ensures c.deref-2.ensures.value c.start_of-end.ensures c.as_str.ensures.value in
    (part_made _ _ _ _ _ _ _ c.args.from c.args.to _ _ p c.deref-3.ensures.value c.in_ok-ends.ensures c.range.ensures.value c.in_ok-buffer.ensures.ok).1
