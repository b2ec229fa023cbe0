use Rattle.std.proofs.Common.{◌≡◌, ℕ, List, sym, ap, ◌∙◌, subst}
use Rattle.std.specs.Prelude.{slice_range, IfOk}
use Rattle.frame_core.specs.Frames.{Row, rows_above, rows_between}
use Rattle.append_update.proofs.SizeLemmas.{above_last}
use Rattle.append_update.proofs.edges.rows_above.Goals as goal

pub returns : goal.returns
returns c =
    let rows : List Row = c.args.frame.rows in
    let same : slice_range rows c.rows_between-reached.result.1 c.rows.result ≡ rows_above c.args.range rows =
    ap (λ (p : ℕ × ℕ). slice_range rows p.1 c.rows.result) c.rows_between-reached.ensures
    ∙ (ap (λ n. slice_range rows (rows_between c.args.range c.args.frame).1 n) c.rows.ensures.rows ∙ sym (above_last c.args.range rows c.requires.storable.is_frame.ascending)) in
    subst (λ (rs : List Row). IfOk c.slice.result (λ made. made ≡ record c.args.frame { rows = rs })) same c.slice.ensures
