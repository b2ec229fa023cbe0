use Rattle.std.proofs.Common.{◌≡◌, drop}
use Rattle.std.specs.List.{position_from}
use Rattle.frame_core.specs.Texts.{same_text}
use Rattle.frame_core.specs.Schemas.{Head}
use Rattle.frame_core.specs.Selecting.{place_of}
use Rattle.expr_clause.proofs.viewed.place_in.Given as goal

-- the columns that are left have the place that all have
abbrev pub invariant-loop-place : goal.invariant-loop-place
invariant-loop-place l = position_from (λ (c : Head). same_text l.name c.0) l.place (drop l.place l.view.schema.columns) ≡ place_of l.name l.view.schema.columns
