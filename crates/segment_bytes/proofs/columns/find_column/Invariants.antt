use Rattle.std.proofs.Common.{◌≡◌, ◌++◌, List, [], drop}
use Rattle.std.specs.List.{flat_map}
use Rattle.segment_bytes.specs.Sheets.{Series, series_text}
use Rattle.segment_bytes.specs.Lying.{Spells}
use Rattle.segment_bytes.proofs.columns.find_column.Given as goal

-- the columns from here on are left
abbrev pub invariant-loop : goal.invariant-loop
invariant-loop l = (all : List Series) → Spells l.rows l.place l.columns all → l.rest ≡ flat_map series_text (drop l.counter all) ++ []
