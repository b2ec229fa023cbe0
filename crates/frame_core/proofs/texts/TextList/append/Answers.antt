use Rattle.std.proofs.Common.{◌<◌, ◌+◌, ◌^◌, length, rules, refl}
use Rattle.frame_core.proofs.TextParts.{raise_fits, appended_made}
use Rattle.frame_core.proofs.texts.TextList.append.Goals as goal

pub push_raised-requires : goal.push_raised-requires
push_raised-requires c =
    let small : length c.as_str.result.now + length c.as_str-by.result.now < 2 ^ 64 = search rules in
    raise_fits _ _ _ _ _ c.more.invariant c.deref.ensures.value c.as_str.ensures.value small

pub invariant_of-self-2 : goal.invariant_of-self-2
invariant_of-self-2 c = (appended_made _ _ _ _ _ _ _ _ _ _ _ _ _ c.self.invariant c.more.invariant c.self.view_is c.more.view_is c.in_ok-reserve.ensures.items c.deref.ensures.value c.as_str-by.ensures.value refl c.as_str.ensures.value c.in_ok-push_str.ensures.bytes c.in_ok-push_raised.ensures.ok).0

pub returns-clause-ok : goal.returns-clause-ok
returns-clause-ok c = (appended_made _ _ _ _ _ _ _ _ _ _ _ _ _ c.self.invariant c.more.invariant c.self.view_is c.more.view_is c.in_ok-reserve.ensures.items c.deref.ensures.value c.as_str-by.ensures.value refl c.as_str.ensures.value c.in_ok-push_str.ensures.bytes c.in_ok-push_raised.ensures.ok).1
