use Rattle.std.proofs.Common.{◌≡◌, map, drop}
use Rattle.script_lang.specs.Options.{options, commit_settings, commit_options}
use Rattle.script_lang.proofs.options.commit_options.Given as goal

-- the words that are left make of the options so far what all words make of none
abbrev pub invariant-loop-word : goal.invariant-loop-word
invariant-loop-word l = options commit_settings l.options (map (λ word. word.now) (drop l.word-index l.words)) ≡ commit_options (map (λ word. word.now) l.words)
