use Rattle.std.proofs.Common.{◌≡◌, map, drop}
use Rattle.script_lang.specs.Options.{options, read_settings, read_options}
use Rattle.script_lang.proofs.options.read_options.Given as goal

-- the words that are left make of the options so far what all words make of none
abbrev pub invariant-loop-word : goal.invariant-loop-word
invariant-loop-word l = options read_settings l.options (map (λ word. word.now) (drop l.word-index l.words)) ≡ read_options (map (λ word. word.now) l.words)
