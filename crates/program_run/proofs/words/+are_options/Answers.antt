use Rattle.std.proofs.Common.{rules, ◌≡◌, ◌∙◌, true, Bor, map, take, drop, length, ap, sym}
use Rattle.std.specs.Prelude.{◌-◌}
use Rattle.std.specs.String.{string_bytes}
use Rattle.frame_core.specs.Texts.{Text}
use Rattle.program_run.specs.CommandLine.{first_set, is_option, value_given}
use Rattle.program_run.proofs.WordPairs.{options-behind, given-some, given-none, and-out, and-in}
use Rattle.program_run.proofs.words.+are_options.Goals as goal

pub returns-then-is_some : goal.returns-then-is_some
returns-then-is_some t c =
    sym (options-behind first_set string_bytes c.args.options.now c.name-item.result c.value-item.result c.in-len2-up.len_at_least c.name-item.is c.value-item.is
    ∙ and-out _ _ _ (given-some (λ (v : Bor Text). v.now) c.value_given.result _ c.if-is_some.ensures (c.value_given.ensures ∙ ap (λ (n : Text). value_given n (map string_bytes (take (length c.args.options.now - 2) (drop 2 c.args.options.now)))) c.as_str-in-len2-up-2.ensures.value)))

pub returns-else-is_some : goal.returns-else-is_some
returns-else-is_some t c =
    let allowed : is_option first_set (string_bytes c.name-item.result) (string_bytes c.value-item.result) ≡ true = search rules in
    c.are_options.ensures
    ∙ sym (options-behind first_set string_bytes c.args.options.now c.name-item.result c.value-item.result c.in-len2-up.len_at_least c.name-item.is c.value-item.is
    ∙ and-in _ _ _ allowed
    (given-none (λ (v : Bor Text). v.now) c.value_given.result _ c.if-is_some.ensures (c.value_given.ensures ∙ ap (λ (n : Text). value_given n (map string_bytes (take (length c.args.options.now - 2) (drop 2 c.args.options.now)))) c.as_str-in-len2-up-2.ensures.value)))
