-- What is finished is the group of the lines that were added.
use Rattle.std.proofs.Common.{◌≡◌, ℕ, refl, ap, sym, ◌∙◌}
use Rattle.std.specs.Prelude.{List, map, Result, Ok, Err, IsPermutation}
use Rattle.frame_core.specs.declared.refusal.Refusal.{Refusal}
use Rattle.frame_core.specs.Schemas.{Schema}
use Rattle.frame_core.specs.Frames.{Row, Frame}
use Rattle.frame_core.specs.Selecting.{then_map}
use Rattle.expr_clause.specs.declared.clause.Agg.{Agg}
use Rattle.expr_clause.specs.Groups.{Line, group}
use Rattle.expr_clause.specs.Asking.{group_row}
use Rattle.group_clause.specs.Partials.{Partial, IsPartialOf, finish_partial}
use Rattle.group_clause.specs.Finished.{group_frame}
use Rattle.group_clause.proofs.TallyLaws.{merged_in_any_order}

module _ (clause : ℕ) (schema : Schema) (list : List Agg) (p : Partial) (all lines : List Line) (is : IsPartialOf lines p) (moved : IsPermutation all lines) where
  abbrev as_frame : List Row → Frame
  as_frame rows = record { schema = schema; rows = rows }

  by_rows : (r : Result (List Line) Refusal) → then_map (λ done. as_frame (map group_row done)) r ≡ then_map as_frame (then_map (map group_row) r)
  by_rows (Ok lines) = refl
  by_rows (Err why) = refl

  finished : group_frame clause schema list all ≡ then_map as_frame (then_map (map group_row) (finish_partial clause list p))
  finished = by_rows (group clause list all) ∙ ap (λ r. then_map as_frame (then_map (map group_row) r)) (sym (merged_in_any_order all lines p is moved clause list))

  pub frame_made : (rows : List Row) → then_map (map group_row) (finish_partial clause list p) ≡ Ok rows → group_frame clause schema list all ≡ Ok (as_frame rows)
  frame_made rows e = finished ∙ ap (then_map as_frame) e

  pub frame_refused : (why : Refusal) → finish_partial clause list p ≡ Err why → group_frame clause schema list all ≡ Err why
  frame_refused why e = finished ∙ ap (λ r. then_map as_frame (then_map (map group_row) r)) e
