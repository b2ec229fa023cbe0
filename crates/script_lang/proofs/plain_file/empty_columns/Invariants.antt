use Rattle.std.proofs.Common.{◌≡◌, take}
use Rattle.script_lang.specs.Rows.{no_rows}
use Rattle.script_lang.proofs.plain_file.empty_columns.Given as goal

-- the columns so far are those of the types so far
abbrev pub invariant-loop-type : goal.invariant-loop-type
invariant-loop-type l = l.columns.items ≡ no_rows (take l._type-index l.types)
