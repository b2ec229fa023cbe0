-- The slots that the plans of appends and updates lay out.
use Rattle.std.proofs.Common.{◌≡◌, ℕ, ◌+◌, ◌-◌, List, [], ◌∷◌, ◌++◌, map, refl, sym, ap, ◌∙◌, subst, arith, Option, None}
use Rattle.std.specs.Option.{option_map_or}
use Rattle.std.proofs.lemmas.List.{append-nil}
use Rattle.frame_core.specs.Ranges.{Range}
use Rattle.frame_core.specs.Frames.{Frame}
use Rattle.segment_cut.specs.Cuttings.{Cutting}
use Rattle.segment_cut.specs.Grids.{parts, grid_of}
use Rattle.index_tree.specs.declared.index.Slot.{Slot}
use Rattle.index_tree.specs.declared.index.Index.{Index}
use Rattle.index_tree.specs.IndexRules.{Cover}
use Rattle.index_tree.specs.SlotTexts.{moved}
use Rattle.key_kind.specs.Names.{Name}
use Rattle.bucket_core.specs.History.{History}
use Rattle.store_model.specs.Library.{Version, state_of, base_of, next_number}
use Rattle.store_model.specs.Links.{links}
use Rattle.frame_write.specs.declared.pieces.Piece.TheVariants as pieces
use Rattle.frame_write.specs.Pieces.{begin_of, end_of, size_of, fresh_slots, laid}
use Rattle.append_update.specs.declared.cuts.Cuts.{Cuts}
use Rattle.append_update.specs.declared.pieces.Edges.{Edges}
use Rattle.append_update.specs.Bases.{Divides}
use Rattle.append_update.specs.Newest.{IsNewest}
use Rattle.append_update.specs.Replacing.{appended, replaced, AreEdges}
use Rattle.append_update.specs.Shares.{slots_of_version, base_slots, base_frame, AppendsSlots, ReplacesSlots}

-- ---- slots that stay where they are

begins_first : (rows columns : ℕ) (slots : List Slot) → Cover rows columns slots → begin_of slots ≡ 0
begins_first rows columns [] cover = refl
begins_first rows columns (s ∷ more) cover = cover.0

stays : (s : Slot) → moved 0 0 s ≡ s
stays s = ap (λ n. record s { part = record s.part { first_row = n } }) same
  where
    same : (s.part.first_row - 0) + 0 ≡ s.part.first_row
    same = omega arith

all_stay : (slots : List Slot) → map (moved 0 0) slots ≡ slots
all_stay [] = refl
all_stay (s ∷ more) = ap (λ t. t ∷ map (moved 0 0) more) (stays s) ∙ ap (λ ts. s ∷ ts) (all_stay more)

-- ---- an append

module _ (cutting : Cutting) (client number serial : ℕ) (symbol : Name) (frame : Frame) where
  abbrev behind : ℕ → List Slot
  behind row = fresh_slots client symbol number row serial frame (parts (grid_of frame cutting))

  laid_behind : (slots : List Slot) → begin_of slots ≡ 0 → laid cutting client symbol number 0 serial (appended slots frame) ≡ slots ++ behind (end_of slots)
  laid_behind slots begins =
      let row : 0 + (end_of slots - begin_of slots) ≡ end_of slots = omega (arith, begins) in
      ap (λ n. map (moved n 0) slots ++ (behind (0 + size_of slots) ++ [])) begins
      ∙ (ap (λ ts. ts ++ (behind (0 + size_of slots) ++ [])) (all_stay slots)
      ∙ ap (λ ts. slots ++ ts) (append-nil (behind (0 + size_of slots)) ∙ ap behind row))

-- behind a base
pub appends_over : (cutting : Cutting) (h : History) (symbol : Name) (v : Version) (index : Index) (frame : Frame) → IsNewest h symbol v index → (client serial : ℕ)
    → AppendsSlots symbol cutting frame client serial h (laid cutting client symbol (next_number (state_of h symbol)) 0 serial (appended index.slots frame))
appends_over cutting h symbol v index frame n client serial =
    let number = next_number (state_of h symbol) in
    laid_behind cutting client number serial symbol frame index.slots (begins_first _ _ index.slots n.index_of.rules.cover)
    ∙ ap (λ slots. slots ++ fresh_slots client symbol number (end_of slots) serial frame (parts (grid_of frame cutting))) (sym n.slots_are)

no_slots : (h : History) (symbol : Name) → base_of (state_of h symbol) ≡ None → base_slots h symbol ≡ []
no_slots h symbol none = ap (slots_of_version (links h symbol)) none

-- and without one
pub appends_alone : (cutting : Cutting) (h : History) (symbol : Name) (frame : Frame) → base_of (state_of h symbol) ≡ None → (client serial : ℕ)
    → AppendsSlots symbol cutting frame client serial h (laid cutting client symbol (next_number (state_of h symbol)) 0 serial (pieces.Fresh frame ∷ []))
appends_alone cutting h symbol frame none client serial =
    let number = next_number (state_of h symbol) in
    append-nil (fresh_slots client symbol number 0 serial frame (parts (grid_of frame cutting)))
    ∙ ap (λ slots. slots ++ fresh_slots client symbol number (end_of slots) serial frame (parts (grid_of frame cutting))) (sym (no_slots h symbol none))

-- ---- an update

pub replaces_over : (cutting : Cutting) (h : History) (symbol : Name) (v : Version) (index : Index) (range : Range) (cuts : Cuts) (edges : Edges) (frame : Frame) → IsNewest h symbol v index → Divides range index.slots cuts
    → AreEdges v.frame range index.slots cuts edges → (client serial : ℕ)
    → ReplacesSlots symbol cutting range frame client serial h (laid cutting client symbol (next_number (state_of h symbol)) 0 serial (replaced index.slots cuts edges frame))
replaces_over cutting h symbol v index range cuts edges frame n divides are client serial =
    let of_base : base_frame h symbol frame ≡ v.frame = ap (λ (o : Option Version). option_map_or (λ (v : Version). v.frame) o frame) n.is in
    record {
      cuts = cuts;
      edges = edges;
      divides = subst (λ slots. Divides range slots cuts) (sym n.slots_are) divides;
      are = subst (λ f. AreEdges f range (base_slots h symbol) cuts edges) (sym of_base) (subst (λ slots. AreEdges v.frame range slots cuts edges) (sym n.slots_are) are);
      is = ap (λ slots. laid cutting client symbol (next_number (state_of h symbol)) 0 serial (replaced slots cuts edges frame)) (sym n.slots_are);
    }

pub replaces_alone : (cutting : Cutting) (h : History) (symbol : Name) (range : Range) (frame : Frame) → base_of (state_of h symbol) ≡ None → (client serial : ℕ)
    → ReplacesSlots symbol cutting range frame client serial h (laid cutting client symbol (next_number (state_of h symbol)) 0 serial (pieces.Fresh frame ∷ []))
replaces_alone cutting h symbol range frame none client serial =
    let cuts : Cuts = record { below = 0; begun = 0; ended = 0; reached = 0 } in
    let edges : Edges = record { below = None; above = None } in
    let empty = no_slots h symbol none in
    record {
      cuts = cuts;
      edges = edges;
      divides = subst (λ slots. Divides range slots cuts) (sym empty) (record { below = refl; begun = refl; ended = refl; reached = refl });
      are = subst (λ slots. AreEdges (base_frame h symbol frame) range slots cuts edges) (sym empty) (record { below = refl; above = refl });
      is = ap (λ slots. laid cutting client symbol (next_number (state_of h symbol)) 0 serial (replaced slots cuts edges frame)) (sym empty);
    }
