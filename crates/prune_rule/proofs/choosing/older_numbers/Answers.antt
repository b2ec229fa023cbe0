use Rattle.std.proofs.Common.{◌≡◌, ◌-◌, length, take, ap, ◌∙◌}
use Rattle.prune_rule.specs.Burials.{without_last}
use Rattle.prune_rule.proofs.BuryLemmas.{take_older}
use Rattle.prune_rule.proofs.choosing.older_numbers.Goals as goal

pub returns : goal.returns
returns c =
    let older : c.saturating_sub-older.result ≡ length c.in_ok-numbers.numbers - 1 = c.saturating_sub-older.ensures ∙ ap (λ n. n - 1) c.len.ensures in
    c.from_vec.ensures ∙ (c.truncate.ensures.items
    ∙ ((λ i. take (older i) (c.into_vec-numbers.ensures i))
    ∙ (take_older c.in_ok-numbers.numbers ∙ ap without_last c.in_ok-numbers.ensures)))
