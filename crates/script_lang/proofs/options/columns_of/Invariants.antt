use Rattle.std.proofs.Common.{◌≡◌, ◌++◌, map, drop}
use Rattle.std.specs.Prelude.{option_map}
use Rattle.script_lang.specs.Fronts.{whole, each}
use Rattle.script_lang.specs.PlainFiles.{column_name_at}
use Rattle.script_lang.specs.Options.{columns_of}
use Rattle.script_lang.proofs.options.columns_of.Given as goal

-- the names so far and those of the parts that are left are all of them
abbrev pub invariant-loop-part : goal.invariant-loop-part
invariant-loop-part l = option_map (λ more. l.columns ++ more) (each (map (whole column_name_at) (map (λ part. part.now) (drop l.part-index l.part-items)))) ≡ columns_of l.word
