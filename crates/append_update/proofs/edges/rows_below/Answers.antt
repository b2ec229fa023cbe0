use Rattle.std.proofs.Common.{◌≡◌, ℕ, List, sym, ap, ◌∙◌, subst}
use Rattle.std.specs.Prelude.{slice_range, IfOk}
use Rattle.frame_core.specs.Frames.{Row, rows_below}
use Rattle.append_update.proofs.SizeLemmas.{below_first}
use Rattle.append_update.proofs.edges.rows_below.Goals as goal

pub returns : goal.returns
returns c =
    let rows : List Row = c.args.frame.rows in
    let same : slice_range rows 0 c.rows_between-below.result.0 ≡ rows_below c.args.range rows =
    ap (λ (p : ℕ × ℕ). slice_range rows 0 p.0) c.rows_between-below.ensures ∙ sym (below_first c.args.range rows c.requires.storable.is_frame.ascending) in
    subst (λ (rs : List Row). IfOk c.slice.result (λ made. made ≡ record c.args.frame { rows = rs })) same c.slice.ensures
