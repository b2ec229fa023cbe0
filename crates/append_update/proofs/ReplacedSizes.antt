-- How large the frame of an update is.
use Rattle.std.proofs.Common.{◌≡◌, ℕ, ◌+◌, ◌<◌, ◌≤◌, List, ◌++◌, length, ap, ◌∙◌, arith, Some, None}
use Rattle.frame_core.specs.declared.refusal.Extent.{Extent}
use Rattle.frame_core.specs.declared.refusal.Extent.TheVariants as extents
use Rattle.frame_core.specs.Ranges.{Range, is_below, is_above}
use Rattle.frame_core.specs.Frames.{Row, Frame, rows_below, rows_above, replace_range}
use Rattle.frame_core.specs.Limits.{IsStorable, too_large, frame_too_large}
use Rattle.append_update.specs.Sizes.{text_total, kept_rows}
use Rattle.append_update.proofs.FrameLemmas.{longest, longest-append, longest-kept, within_from, within_to, frame_within}
use Rattle.append_update.proofs.SizeLemmas.{total-append}
use Rattle.append_update.proofs.PlanLemmas.{large_anyway, texts_only}

module _ (base frame : Frame) (range : Range) (b : IsStorable base) (f : IsStorable frame) where
  abbrev rows : List Row
  rows = replace_range range frame.rows base.rows

  abbrev columns : ℕ
  columns = length frame.schema.columns

  one_text : longest rows ≤ 65535
  one_text =
      omega (
        arith,
        longest-append (rows_below range base.rows ++ frame.rows) (rows_above range base.rows),
        longest-append (rows_below range base.rows) frame.rows,
        longest-kept (λ (r : Row). is_below range r.stamp) base.rows,
        longest-kept (λ (r : Row). is_above range r.stamp) base.rows,
        (frame_within base b.within).one_is,
        (frame_within frame f.within).one_is,
      )

  all_texts : text_total rows ≡ text_total (kept_rows (Some range) base.rows) + text_total frame.rows
  all_texts =
      omega (
        arith,
        total-append (rows_below range base.rows ++ frame.rows) (rows_above range base.rows),
        total-append (rows_below range base.rows) frame.rows,
        total-append (rows_below range base.rows) (rows_above range base.rows),
      )

  module _ (n : ℕ) (count : length rows ≡ n) where
    -- rows, columns or cells are too many
    pub replaced_many : (x : Extent × ℕ) → too_large n columns 0 0 ≡ Some x → frame_too_large (record frame { rows = rows }) ≡ Some x
    replaced_many x e = ap (λ k. too_large k columns (longest rows) (text_total rows)) count ∙ large_anyway n columns (longest rows) (text_total rows) x e

    module _ (few : too_large n columns 0 0 ≡ None) where
      -- or the bytes of all texts
      pub replaced_texts : 67108864 < text_total (kept_rows (Some range) base.rows) + text_total frame.rows → frame_too_large (record frame { rows = rows }) ≡ Some (extents.TextBytes, 67108864)
      replaced_texts many =
          let w = within_from n columns 0 0 few in
          ap (λ k. too_large k columns (longest rows) (text_total rows)) count ∙ texts_only n columns (longest rows) (text_total rows) w.rows_are w.columns_are w.cells_are one_text (omega (arith, many, all_texts))

      -- or nothing is
      pub replaced_small : text_total (kept_rows (Some range) base.rows) + text_total frame.rows ≤ 67108864 → frame_too_large (record frame { rows = rows }) ≡ None
      replaced_small less =
          let w = within_from n columns 0 0 few in
          ap (λ k. too_large k columns (longest rows) (text_total rows)) count
          ∙ within_to n columns (longest rows) (text_total rows) (record {
            rows_are = w.rows_are;
            columns_are = w.columns_are;
            cells_are = w.cells_are;
            one_is = one_text;
            all_are = omega (arith, less, all_texts);
          })
