use Rattle.std.proofs.Common.{◌<◌, ◌+◌, ◌^◌, length, rules}
use Rattle.frame_core.proofs.TextParts.{raise_fits, joined_made}
use Rattle.frame_core.proofs.texts.TextList.joined.Goals as goal

pub raised-requires : goal.raised-requires
raised-requires c =
    let small : length c.as_str-more.result.now + length c.as_str-first.result.now < 2 ^ 64 = search rules in
    raise_fits _ _ _ _ _ c.other.invariant c.deref-2.ensures.value c.as_str-more.ensures.value small

pub invariant_of-result : goal.invariant_of-result
invariant_of-result c = (joined_made _ _ _ _ _ _ _ _ _ _ _ _ _ _ c.self.invariant c.other.invariant c.self.view_is c.other.view_is c.deref.ensures.value c.deref-2.ensures.value c.as_str-first.ensures.value c.as_str-more.ensures.value c.in_ok-buffer.ensures.bytes c.in_ok-push_str.ensures.bytes c.in_ok-push_str-2.ensures.bytes c.in_ok-ends.ensures).0

pub returns : goal.returns
returns c = (joined_made _ _ _ _ _ _ _ _ _ _ _ _ _ _ c.self.invariant c.other.invariant c.self.view_is c.other.view_is c.deref.ensures.value c.deref-2.ensures.value c.as_str-first.ensures.value c.as_str-more.ensures.value c.in_ok-buffer.ensures.bytes c.in_ok-push_str.ensures.bytes c.in_ok-push_str-2.ensures.bytes c.in_ok-ends.ensures).1
