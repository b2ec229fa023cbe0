use Rattle.std.proofs.Common.{◌≡◌, ◌++◌, map, drop}
use Rattle.std.specs.Prelude.{option_map}
use Rattle.script_lang.specs.Loads.{each_type}
use Rattle.script_lang.proofs.load.all_types.Given as goal

-- the types so far and those of the words that are left are all of them
abbrev pub invariant-loop-word : goal.invariant-loop-word
invariant-loop-word l = option_map (λ more. l.types ++ more) (each_type (map (λ word. word.now) (drop l.word-index l.words))) ≡ each_type (map (λ word. word.now) l.words)
