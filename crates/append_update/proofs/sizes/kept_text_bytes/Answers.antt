use Rattle.std.proofs.Common.{◌≡◌, ℕ, ◌+◌, sym, subst, ap, ◌∙◌, arith, Option, Some}
use Rattle.std.specs.Prelude.{slice_range}
use Rattle.frame_core.specs.Ranges.{Range}
use Rattle.frame_core.specs.Frames.{Frame, rows_below, rows_above, rows_between}
use Rattle.frame_core.specs.Limits.{IsStorable}
use Rattle.append_update.specs.Sizes.{text_total, kept_rows}
use Rattle.append_update.proofs.UpdateLemmas.{storable-slice}
use Rattle.append_update.proofs.SizeLemmas.{below_first, above_last, total-append}
use Rattle.append_update.proofs.sizes.kept_text_bytes.Goals as goal

pub text_bytes-requires-2 : goal.text_bytes-requires-2
text_bytes-requires-2 c = record { storable = subst IsStorable (sym c.in_ok-first.ensures) (storable-slice c.args.base.now _ _ c.requires.storable) }

pub text_bytes-requires-3 : goal.text_bytes-requires-3
text_bytes-requires-3 c = record { storable = subst IsStorable (sym c.in_ok-last.ensures) (storable-slice c.args.base.now _ _ c.requires.storable) }

pub returns-clause-bytes : goal.returns-clause-bytes
returns-clause-bytes c =
    let rows = c.args.base.now.rows in
    let rising = c.requires.storable.is_frame.ascending in
    let one : c.text_bytes-2.result ≡ text_total (rows_below c.in-Some.range rows) =
    c.text_bytes-2.ensures.bytes ∙ (ap (λ (f : Frame). text_total f.rows) c.in_ok-first.ensures
    ∙ (ap (λ (p : ℕ × ℕ). text_total (slice_range rows 0 p.0)) c.rows_between-below.ensures ∙ ap text_total (sym (below_first c.in-Some.range rows rising)))) in
    let two : c.text_bytes-3.result ≡ text_total (rows_above c.in-Some.range rows) =
    c.text_bytes-3.ensures.bytes ∙ (ap (λ (f : Frame). text_total f.rows) c.in_ok-last.ensures
    ∙ (ap (λ (p : ℕ × ℕ). text_total (slice_range rows p.1 c.rows.result)) c.rows_between-below.ensures
    ∙ (ap (λ n. text_total (slice_range rows (rows_between c.in-Some.range c.args.base.now).1 n)) c.rows.ensures.rows ∙ ap text_total (sym (above_last c.in-Some.range rows rising))))) in
    let both : c.text_bytes-2.result + c.text_bytes-3.result ≡ text_total (kept_rows (Some c.in-Some.range) rows) = omega (arith, one, two, total-append (rows_below c.in-Some.range rows) (rows_above c.in-Some.range rows)) in
    subst (λ (o : Option Range). c.text_bytes-2.result + c.text_bytes-3.result ≡ text_total (kept_rows o rows)) (sym c.in-Some.is) both
