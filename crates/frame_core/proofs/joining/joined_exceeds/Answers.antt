use Rattle.std.proofs.Common.{◌≡◌, ◌∙◌, max, refl, sym, rules}
use Rattle.frame_core.proofs.JoinLemmas.{limits_joined}
use Rattle.frame_core.proofs.joining.joined_exceeds.Goals as goal

pub returns : goal.returns
returns c =
    let longest : c.max-one_text.result ≡ max c.longest_text.result c.longest_text-2.result = search rules in
    c.exceeded.ensures
    ∙ rw (longest, c.longest_text.ensures, c.longest_text-2.ensures, c.text_bytes.ensures.sum, c.text_bytes-2.ensures.sum, c.len-columns.ensures, c.items.ensures, c.items-2.ensures, c.items-3.ensures, c.items-4.ensures, c.items-5.ensures, c.items-6.ensures) refl
    ∙ sym (limits_joined _ _ _ _ _ _ _ _ c.first.invariant c.more.invariant c.first.view_is c.more.view_is)
