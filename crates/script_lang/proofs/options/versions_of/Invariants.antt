use Rattle.std.proofs.Common.{◌≡◌, ◌++◌, map, drop}
use Rattle.std.specs.Prelude.{option_map}
use Rattle.script_lang.specs.Fronts.{each}
use Rattle.script_lang.specs.Moments.{version_of}
use Rattle.script_lang.specs.Options.{versions_of}
use Rattle.script_lang.proofs.options.versions_of.Given as goal

-- the versions so far and those of the parts that are left are all of them
abbrev pub invariant-loop-part : goal.invariant-loop-part
invariant-loop-part l = option_map (λ more. l.versions ++ more) (each (map version_of (map (λ part. part.now) (drop l.part-index l.part-items)))) ≡ versions_of l.word
