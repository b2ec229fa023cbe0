use Rattle.std.proofs.Common.{◌≡◌, ◌++◌, List, [], take, drop}
use Rattle.std.specs.List.{flat_map}
use Rattle.segment_bytes.specs.Sheets.{Series, series_text}
use Rattle.segment_bytes.specs.Lying.{SpellsAll}
use Rattle.segment_bytes.proofs.named_column.split_columns.Given as goal

-- the columns so far were found, and those from here on are left
abbrev pub invariant-loop : goal.invariant-loop
invariant-loop l = (all : List Series) → SpellsAll l.rows l.count l.columns all → (l.made ≡ take l.counter all) × (l.rest ≡ flat_map series_text (drop l.counter all) ++ [])
