use Rattle.std.proofs.Common.{◌≡◌, drop}
use Rattle.std.specs.List.{position_from}
use Rattle.frame_core.specs.Texts.{same_text}
use Rattle.segment_bytes.specs.Sheets.{Series}
use Rattle.frame_read.proofs.tile_view.place_among.Given as goal

-- the columns that are left have the place that all have
abbrev pub invariant-loop-place : goal.invariant-loop-place
invariant-loop-place l = position_from (λ (column : Series). same_text l.name column.0.0) l.place (drop l.place l.columns) ≡ position_from (λ (column : Series). same_text l.name column.0.0) 0 l.columns
