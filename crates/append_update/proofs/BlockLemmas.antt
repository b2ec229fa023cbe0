-- The tiles of a run of slots are those of the rows that the run has, as a frame of its own.
use Rattle.std.proofs.Common.{◌≡◌, ℕ, zero, suc, ◌+◌, ◌-◌, ◌≤◌, List, [], ◌∷◌, map, take, drop, refl, sym, ap, ◌∙◌, arith, inl, inr}
use Rattle.std.specs.Prelude.{slice_range}
use Rattle.std.specs.List.{AllByRecursion}
use Rattle.std.proofs.lemmas.List.{drop-take, drop-drop}
use Rattle.frame_core.specs.declared.part.Part.{Part}
use Rattle.frame_core.specs.Frames.{Row, Frame, slice}
use Rattle.segment_cut.specs.Tiles.{cut, cut_row}
use Rattle.index_tree.specs.declared.index.Slot.{Slot}
use Rattle.index_tree.specs.IndexRules.{LeadOn}
use Rattle.frame_write.specs.Pieces.{begin_of, end_of, IsRun}
use Rattle.append_update.specs.Blocks.{from_place}
use Rattle.append_update.proofs.SlotLemmas.{lead-reaches}

take_less : (n m : ℕ) (rows : List Row) → n ≤ m → take n (take m rows) ≡ take n rows
take_less zero m rows le = refl
take_less (suc n) zero rows le = absurd (omega (arith, le))
take_less (suc n) (suc m) [] le = refl
take_less (suc n) (suc m) (r ∷ rows) le = ap (λ rs. r ∷ rs) (take_less n m rows (omega (arith, le)))

-- a part of a part
pub slice_slice : (rows : List Row) (begin end first n : ℕ) → begin ≤ first → first + n ≤ end → slice_range (slice_range rows begin end) (first - begin) (first - begin + n) ≡ slice_range rows first (first + n)
slice_slice rows begin end first n low high =
    let k : ℕ = first - begin in
    let m : ℕ = end - first in
    let size : first - begin + n - (first - begin) ≡ n = omega arith in
    let size' : first + n - first ≡ n = omega arith in
    let whole : end - begin ≡ k + m = omega (arith, low, high) in
    let place : begin + k ≡ first = omega (arith, low) in
    let back : k + begin ≡ first = omega (arith, low) in
    ap (λ i. take i (drop k (take (end - begin) (drop begin rows)))) size
    ∙ (ap (λ i. take n (drop k (take i (drop begin rows)))) whole
    ∙ (ap (take n) (drop-take k m (drop begin rows))
    ∙ (take_less n m (drop k (drop begin rows)) (omega (arith, high))
    ∙ (ap (take n) (drop-drop k begin rows ∙ ap (λ i. drop i rows) place)
    ∙ ap (λ i. take i (drop first rows)) (sym size')))))

-- what the part has of the rows from a place on is what it has of the whole
pub cut_slice : (f : Frame) (part : Part) (begin end : ℕ) → begin ≤ part.first_row → part.first_row + part.rows ≤ end → cut (slice f begin end) (from_place begin part) ≡ cut f part
cut_slice f part begin end low high =
    ap (λ (rows : List Row). record { schema = record f.schema { columns = slice_range f.schema.columns part.first_col (part.first_col + part.cols) }; rows = map (cut_row part) rows })
    (slice_slice f.rows begin end part.first_row part.rows low high)

-- ---- the slots of a run lie in its rows

abbrev pub LiesBetween : ℕ → ℕ → Slot → Type 0
LiesBetween begin end s = (begin ≤ s.part.first_row) × (s.part.first_row + s.part.rows ≤ end)

lies_from : (begin last columns : ℕ) (s : Slot) (more : List Slot) → begin ≤ s.part.first_row → LeadOn last columns s more → AllByRecursion (LiesBetween begin last) (s ∷ more)
lies_from begin last columns s [] low lead = ((low, omega (arith, lead.0)), tt)
lies_from begin last columns s (t ∷ more) low lead =
    ((low, lead-reaches last columns s (t ∷ more) lead), lies_from begin last columns t more (elim lead.0 [ inl same ↦ omega (arith, same.first_row, low) | inr block ↦ omega (arith, block.first_row, low) ]) lead.1)

pub run_lies : (columns : ℕ) (slots : List Slot) → IsRun columns slots → AllByRecursion (LiesBetween (begin_of slots) (end_of slots)) slots
run_lies columns [] run = tt
run_lies columns (s ∷ more) run = lies_from s.part.first_row (end_of (s ∷ more)) columns s more (omega arith) run.1
