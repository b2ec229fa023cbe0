use Rattle.std.proofs.Common.{◌∙◌, ap, sym}
use Rattle.std.specs.String.{string_bytes}
use Rattle.frame_core.specs.Texts.{same_text}
use Rattle.program_run.proofs.WordPairs.{given-behind}
use Rattle.program_run.proofs.words.+value_given.Goals as goal

pub returns-else-eq : goal.returns-else-eq
returns-else-eq t c = c.value_given.ensures ∙ given-behind string_bytes c.args.name.now c.args.options.now c.option-item.result c.in-len2-up.len_at_least c.option-item.is
    (sym (c.if-eq.ensures ∙ ap (same_text c.args.name.now) c.as_str.ensures.value))
