-- The pieces of an update are those of the frame that it makes.
use Rattle.std.proofs.Common.{◌≡◌, ℕ, not, List, length, take, drop, refl, sym, ap, ◌∙◌, subst, inr, Option, Some, None}
use Rattle.std.specs.Prelude.{Contains, slice_range}
use Rattle.std.specs.List.{AllByRecursion}
use Rattle.frame_core.specs.Ranges.{Range, is_below, is_above}
use Rattle.frame_core.specs.Schemas.{Schema}
use Rattle.frame_core.specs.Frames.{Row, Frame, replace_range}
use Rattle.frame_core.specs.Limits.{IsStorable}
use Rattle.index_tree.specs.declared.index.Slot.{Slot}
use Rattle.index_tree.specs.declared.index.Index.{Index}
use Rattle.index_tree.specs.IndexRules.{IsSlot}
use Rattle.key_kind.specs.Names.{Name}
use Rattle.bucket_core.specs.History.{History}
use Rattle.store_model.specs.Library.{Version}
use Rattle.frame_write.specs.Pieces.{begin_of, end_of, IsRun, IsPiece, ArePieces}
use Rattle.append_update.specs.declared.cuts.Cuts.{Cuts}
use Rattle.append_update.specs.declared.pieces.Edges.{Edges}
use Rattle.append_update.specs.Bases.{IsIndexOf, rows_of_slots, Divides}
use Rattle.append_update.specs.Newest.{IsNewest}
use Rattle.append_update.specs.Replacing.{fresh, replaced, IsLeft, AreEdges}
use Rattle.append_update.proofs.ListLemmas.{passing, take_all_of, drop_all_of}
use Rattle.append_update.proofs.FrameLemmas.{storable-kept, all-both}
use Rattle.append_update.proofs.ReplaceLemmas.{run_cut_below, run_cut_above, rows_run, first_run, last_run, replaced_rows}
use Rattle.append_update.proofs.AppendLemmas.{slots_keep, has_base}
use Rattle.append_update.proofs.UpdateLemmas.{storable-slice}

module _ (base : Frame) (index : Index) (of : IsIndexOf base index) (range : Range) (cuts : Cuts) (divides : Divides range index.slots cuts) where
  abbrev columns : ℕ
  columns = length index.schema.columns

  pub cut_below : IsRun columns (slice_range index.slots cuts.below cuts.begun)
  cut_below =
      subst (λ n. IsRun columns (slice_range index.slots n cuts.begun)) (sym divides.below)
      (subst (λ n. IsRun columns (slice_range index.slots (passing (λ (s : Slot). is_below range s.last) index.slots) n)) (sym divides.begun) (run_cut_below base index of range))

  pub cut_above : IsRun columns (slice_range index.slots cuts.ended cuts.reached)
  cut_above =
      subst (λ n. IsRun columns (slice_range index.slots n cuts.reached)) (sym divides.ended)
      (subst (λ n. IsRun columns (slice_range index.slots (passing (λ (s : Slot). not (is_above range s.last)) index.slots) n)) (sym divides.reached) (run_cut_above base index of range))

  -- the rows of a run of the base's slots may be written
  pub run_storable : (from to : ℕ) → IsRun columns (slice_range index.slots from to) → IsStorable (record base { rows = rows_of_slots base (slice_range index.slots from to) })
  run_storable from to run =
      let slots : List Slot = slice_range index.slots from to in
      subst (λ (rows : List Row). IsStorable (record base { rows = rows }))
      (rows_run base index of range slots (take_all_of (IsSlot columns) _ (drop from index.slots) (drop_all_of (IsSlot columns) from index.slots of.rules.each)) run)
      (storable-slice base (begin_of slots) (end_of slots) of.storable)

  left_piece : (schema : Schema) → base.schema ≡ schema → (rows : List Row) (o : Option Frame) → IsStorable (record base { rows = rows }) → IsLeft base rows o → AllByRecursion (IsPiece schema index.slots) (fresh o)
  left_piece schema same rows None storable is = tt
  left_piece schema same rows (Some f) storable is = ((subst IsStorable (sym is) storable, ap (λ (g : Frame). g.schema) is ∙ same), tt)

-- the pieces hold the rows of the frame with the range replaced
pub replaced_pieces : (h : History) (symbol : Name) (v : Version) (index : Index) (range : Range) (cuts : Cuts) (edges : Edges) (frame : Frame) → IsNewest h symbol v index → Divides range index.slots cuts
    → AreEdges v.frame range index.slots cuts edges → IsStorable frame → v.frame.schema ≡ frame.schema
    → ArePieces h symbol (record frame { rows = replace_range range frame.rows v.frame.rows }) (replaced index.slots cuts edges frame)
replaced_pieces h symbol v index range cuts edges frame n divides are f same =
    let of = n.index_of in
    let columns_is : length index.schema.columns ≡ length frame.schema.columns = ap (λ (s : Schema). length s.columns) (of.schema ∙ same) in
    let low = storable-kept (λ (r : Row). is_below range r.stamp) _ (run_storable v.frame index of range cuts divides cuts.below cuts.begun (cut_below v.frame index of range cuts divides)) in
    let high = storable-kept (λ (r : Row). is_above range r.stamp) _ (run_storable v.frame index of range cuts divides cuts.ended cuts.reached (cut_above v.frame index of range cuts divides)) in
    record {
      rows = v.frame.rows;
      slots = index.slots;
      base = inr (has_base h symbol v index frame.schema n same);
      each = (
        (take_all_of (λ s. Contains index.slots s × IsSlot (length frame.schema.columns) s) cuts.below index.slots (slots_keep v.frame index frame.schema of same), subst (λ c. IsRun c (take cuts.below index.slots)) columns_is (first_run v.frame index of range cuts divides edges are frame)),
        all-both (IsPiece frame.schema index.slots) (fresh edges.below) _ (left_piece v.frame index of range cuts divides frame.schema same _ edges.below low are.below) (
          (f, refl),
          all-both (IsPiece frame.schema index.slots) (fresh edges.above) _ (left_piece v.frame index of range cuts divides frame.schema same _ edges.above high are.above) (
            (drop_all_of (λ s. Contains index.slots s × IsSlot (length frame.schema.columns) s) cuts.reached index.slots (slots_keep v.frame index frame.schema of same), subst (λ c. IsRun c (drop cuts.reached index.slots)) columns_is (last_run v.frame index of range cuts divides edges are frame)),
            tt,
          ),
        ),
      );
      held = replaced_rows v.frame index of range cuts divides edges are frame;
    }
