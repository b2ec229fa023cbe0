-- The pieces of an update have the row blocks of the parts that its change makes of the base's.
use Rattle.std.proofs.Common.{◌≡◌, ℕ, zero, suc, ◌+◌, ◌-◌, ◌≤◌, ℤ, Bool, true, false, not, List, [], ◌∷◌, ◌++◌, length, map, take, drop, refl, sym, ap, ◌∙◌, subst, arith, cond, Option, Some, None, length-append}
use Rattle.std.specs.Prelude.{slice_range}
use Rattle.std.specs.List.{AllByRecursion}
use Rattle.std.proofs.lemmas.Bool.{true≢false}
use Rattle.std.proofs.lemmas.Int.{ints}
use Rattle.std.proofs.lemmas.List.{take-append-drop}
use Rattle.std.proofs.lemmas.List.Sums.{length-filter, count_by-le-length}
use Rattle.frame_core.specs.Ranges.{Range, IsRange, InOrder, is_below, is_above}
use Rattle.frame_core.specs.Frames.{Row, Frame, NeverFall, stamps_of, first_stamp, last_stamp, rows_below, rows_above, rows_between}
use Rattle.segment_cut.specs.Cuttings.{Cutting as Sizes, IsCutting}
use Rattle.index_tree.specs.declared.index.Slot.{Slot}
use Rattle.index_tree.specs.declared.index.Index.{Index}
use Rattle.index_tree.specs.IndexRules.{IsSlot, Cover}
use Rattle.key_kind.specs.declared.key.Key.{Key}
use Rattle.key_kind.specs.Names.{Name}
use Rattle.bucket_core.specs.declared.event.Change.TheVariants as changes
use Rattle.bucket_core.specs.History.{History}
use Rattle.store_model.specs.Commits.{HasSlotStamps}
use Rattle.store_model.specs.Library.{Version}
use Rattle.reply_model.specs.Blocks.{Cutting, Block, Part, shared, some_rows, block_sizes, cut_rows, parts_before, parts_behind, parts_replaced, parts_of}
use Rattle.reply_model.specs.Blocks as blocks
use Rattle.reply_model.specs.Keyed.{begins_block, block_keys}
use Rattle.reply_model.specs.Standing.{row_sizes, base_rows, bare_block, part_rows, fresh_in, parts_laid}
use Rattle.frame_write.specs.declared.pieces.Piece.{Piece}
use Rattle.frame_write.specs.declared.pieces.Piece.TheVariants as pieces
use Rattle.frame_write.specs.Pieces.{end_of, IsRun}
use Rattle.append_update.specs.declared.cuts.Cuts.{Cuts}
use Rattle.append_update.specs.declared.pieces.Edges.{Edges}
use Rattle.append_update.specs.Bases.{IsIndexOf, rows_of_slots, Divides}
use Rattle.append_update.specs.Newest.{IsNewest}
use Rattle.append_update.specs.Replacing.{fresh, replaced, AreEdges, left_rows}
use Rattle.append_update.specs.RowBlocks.{new_blocks, AreParts, keys_in, kept_keys, KeepKeys, AreSmall}
use Rattle.reply_model.specs.Blocks.{run_cutting}
use Rattle.append_update.proofs.BlockParts.{rows_of, before_are, behind_are}
use Rattle.append_update.proofs.CountLemmas.{cover_ends, slice_count, left_count}
use Rattle.append_update.proofs.ListLemmas.{passing-le, take_all_of, drop_all_of}
use Rattle.append_update.proofs.BlockSizes.{total, total-append, HaveRows, IsCut, Begin, cut_few, behind_few}
use Rattle.append_update.proofs.KeyedSlots.{begins-take, run_begins_block, block_keys-append, keys_for_rows}
use Rattle.append_update.proofs.PartKeys.{front_has, back_has, kept_shared, kept_fresh}
use Rattle.append_update.proofs.PieceBlocks.{five, five_mapped, five_same, small_block, replaced_told, sizes_told, kept_of, none_of, keys_told}
use Rattle.append_update.proofs.RangeCounts.{both_counted, few_below, few_above}
use Rattle.append_update.proofs.ReplaceLemmas.{cover, below_rows, above_rows, last_run, run_behind, behind_fail, reached_pass, run_reached}
use Rattle.append_update.proofs.RowSizes.{fresh_all, rows_fresh}
use Rattle.append_update.proofs.SlotLemmas.{cover_is_run}
use Rattle.append_update.proofs.SlotSizes.{begins, row_sizes-append, row_sizes-cons, at_begin, sizes_all, cover_total, cover_at, run_begins}

-- ---- lists

new_blocks-append : (c : Cutting) (xs ys : List Piece) → new_blocks c (xs ++ ys) ≡ new_blocks c xs + new_blocks c ys
new_blocks-append c [] ys = omega arith
new_blocks-append c (pieces.Shared run ∷ xs) ys = new_blocks-append c xs ys
new_blocks-append c (pieces.Fresh frame ∷ xs) ys = omega (arith, new_blocks-append c xs ys)

fresh_in-append : (xs ys : List Part) → fresh_in (xs ++ ys) ≡ fresh_in xs + fresh_in ys
fresh_in-append [] ys = omega arith
fresh_in-append (blocks.shared x ∷ xs) ys = fresh_in-append xs ys
fresh_in-append (blocks.fresh n ∷ xs) ys = omega (arith, fresh_in-append xs ys)

fresh_none : (xs : List Block) → fresh_in (map shared xs) ≡ 0
fresh_none [] = refl
fresh_none (x ∷ xs) = fresh_none xs

shared_rows : (xs : List Block) → map part_rows (map shared xs) ≡ rows_of xs
shared_rows [] = refl
shared_rows (x ∷ xs) = ap (λ ns. x.rows ∷ ns) (shared_rows xs)

bare_rows : (rows : List ℕ) → rows_of (map bare_block rows) ≡ rows
bare_rows [] = refl
bare_rows (n ∷ rows) = ap (λ ns. n ∷ ns) (bare_rows rows)

parts_of_all : (P : ℕ → Type 0) (xs ys : List ℕ) → AllByRecursion P (xs ++ ys) → AllByRecursion P xs × AllByRecursion P ys
parts_of_all P [] ys all = (tt, all)
parts_of_all P (x ∷ xs) ys all = let parts = parts_of_all P xs ys all.1 in ((all.0, parts.0), parts.1)

-- ---- a block of which rows are left

edge_blocks : (c : Cutting) (o : Option Frame) → suc (left_rows o) ≤ c.rows → new_blocks c (fresh o) ≡ length (some_rows (left_rows o))
edge_blocks c None less = refl
edge_blocks c (Some f) less = omega (arith, ap (λ (ns : List ℕ). length ns) (small_block c (length f.rows) less))

-- ---- the range

-- what lies below a range does not lie above it
below_by : (range : Range) → IsRange range → (t : ℤ) → is_below range t ≡ true → not (is_above range t) ≡ true
below_by range order t e = by range.from range.to order e
  where
    by : (from to : Option ℤ) → InOrder from to → is_below (record { from = from; to = to }) t ≡ true → not (is_above (record { from = from; to = to }) t) ≡ true
    by None to o e = absurd (true≢false (sym e))
    by (Some from) None o e = refl
    by (Some from) (Some to) o e = grind (arith, ints)

not_true : (b : Bool) → not b ≡ true → b ≡ false
not_true true e = absurd (true≢false (sym e))
not_true false e = refl

-- ---- the row blocks of the base

module _ (base : Frame) (index : Index) (of : IsIndexOf base index) (range : Range) where
  abbrev slots : List Slot
  slots = index.slots

  abbrev columns : ℕ
  columns = length index.schema.columns

  -- how many rows lie below the range, and how many not above it
  abbrev low : ℕ
  low = (rows_between range base).0

  abbrev up_to : ℕ
  up_to = (rows_between range base).1

  rising : NeverFall (stamps_of base.rows)
  rising = of.storable.is_frame.ascending

  covers : Cover (length base.rows) columns slots
  covers = cover base index of range

  abbrev Ends : Slot → Type 0
  Ends s = s.part.first_row + s.part.rows ≤ length base.rows

  ends : AllByRecursion Ends slots
  ends = cover_ends (length base.rows) columns slots covers

  in_two : (k : ℕ) → row_sizes slots ≡ row_sizes (take k slots) ++ row_sizes (drop k slots)
  in_two k = ap row_sizes (sym (take-append-drop k slots)) ∙ row_sizes-append (take k slots) (drop k slots)

  keys_in_two : (k : ℕ) → begins_block (drop k slots) ≡ true → block_keys slots ≡ block_keys (take k slots) ++ block_keys (drop k slots)
  keys_in_two k begins = ap block_keys (sym (take-append-drop k slots)) ∙ block_keys-append (take k slots) (drop k slots) begins

  -- the first slots have as many row blocks with keys as with rows
  first_many : (k : ℕ) → length (block_keys (take k slots)) ≡ length (row_sizes (take k slots))
  first_many k = keys_for_rows (take k slots) (begins-take k slots (run_begins_block columns slots (cover_is_run (length base.rows) columns slots covers)))

  all_rows : (k : ℕ) → total (row_sizes (take k slots)) + total (row_sizes (drop k slots)) ≡ length base.rows
  all_rows k =
      sym (total-append (row_sizes (take k slots)) (row_sizes (drop k slots))) ∙ (ap total (sym (in_two k)) ∙ cover_total columns (length base.rows) slots of.rules.each covers)

  have_rows : (xs : List Slot) → AllByRecursion (IsSlot columns) xs → HaveRows (row_sizes xs)
  have_rows xs each = sizes_all (λ n. 1 ≤ n) xs (some xs each)
    where
      some : (xs : List Slot) → AllByRecursion (IsSlot columns) xs → AllByRecursion (λ (s : Slot). 1 ≤ s.part.rows) xs
      some [] each = tt
      some (s ∷ xs) each = (each.0.some_rows, some xs each.1)

  -- slots have the rows of their blocks
  counted : (xs : List Slot) → AllByRecursion Ends xs → length (rows_of_slots base xs) ≡ total (row_sizes xs)
  counted [] all = refl
  counted (s ∷ xs) all =
      let here : List Row = slice_range base.rows s.part.first_row (s.part.first_row + s.part.rows) in
      let rest = counted xs all.1 in
      elim (begins s) as (λ b. length (cond b here [] ++ rows_of_slots base xs) ≡ total (cond b (s.part.rows ∷ row_sizes xs) (row_sizes xs))) [
        | true ↦ omega (arith, length-append here (rows_of_slots base xs), slice_count base.rows s.part.first_row (s.part.first_row + s.part.rows) all.0, rest)
        | false ↦ rest
      ] ∙ ap total (sym (row_sizes-cons s xs))

  few : IsRange range → low ≤ up_to
  few order =
      omega (
        arith,
        passing-le (λ (r : Row). is_below range r.stamp) (λ (r : Row). not (is_above range r.stamp)) base.rows (each base.rows),
        length-filter (λ (r : Row). is_below range r.stamp) base.rows,
        length-filter (λ (r : Row). not (is_above range r.stamp)) base.rows,
      )
    where
      each : (rows : List Row) → AllByRecursion (λ (r : Row). is_below range r.stamp ≡ true → not (is_above range r.stamp) ≡ true) rows
      each [] = tt
      each (r ∷ rows) = (below_by range order r.stamp, each rows)

  module _ (cuts : Cuts) (divides : Divides range slots cuts) (edges : Edges) (are_edges : AreEdges base range slots cuts edges) where
    abbrev whole_below : List ℕ
    whole_below = row_sizes (take cuts.below slots)

    abbrev behind_below : List ℕ
    behind_below = row_sizes (drop cuts.below slots)

    abbrev up_to_reached : List ℕ
    up_to_reached = row_sizes (take cuts.reached slots)

    abbrev whole_above : List ℕ
    whole_above = row_sizes (drop cuts.reached slots)

    -- the rows below the range are those of whole blocks, and the edge
    below_is : low ≡ total whole_below + left_rows edges.below
    below_is =
        let first : List Row = rows_of_slots base (take cuts.below slots) in
        let cut : List Row = rows_below range (rows_of_slots base (slice_range slots cuts.below cuts.begun)) in
        let whole : length (rows_below range base.rows) ≡ length (first ++ cut) = ap length (below_rows base index of range cuts divides edges are_edges base) in
        omega (arith, length-filter (λ (r : Row). is_below range r.stamp) base.rows, whole, length-append first cut, counted (take cuts.below slots) (take_all_of Ends cuts.below slots ends), left_count base cut edges.below are_edges.below)

    -- those up to the range's end are those of the blocks that begin in it or below, but for the edge
    above_is : total up_to_reached ≡ up_to + left_rows edges.above
    above_is =
        let last : List Row = rows_of_slots base (drop cuts.reached slots) in
        let cut : List Row = rows_above range (rows_of_slots base (slice_range slots cuts.ended cuts.reached)) in
        let whole : length (rows_above range base.rows) ≡ length (cut ++ last) = ap length (above_rows base index of range cuts divides edges are_edges base) in
        omega (arith, both_counted (λ (r : Row). is_above range r.stamp) base.rows, whole, length-append cut last, counted (drop cuts.reached slots) (drop_all_of Ends cuts.reached slots ends), left_count base cut edges.above are_edges.above, all_rows cuts.reached)

    -- the edge has not all rows of the block behind the whole ones
    cut_is : IsCut (left_rows edges.below) behind_below
    cut_is = by (drop cuts.below slots) refl
      where
        by : (xs : List Slot) → drop cuts.below slots ≡ xs → IsCut (left_rows edges.below) (row_sizes xs)
        by [] is =
            let none : total behind_below ≡ 0 = ap (λ (l : List Slot). total (row_sizes l)) is in
            omega (arith, none, below_is, all_rows cuts.below, count_by-le-length (λ (r : Row). is_below range r.stamp) base.rows)
        by (s ∷ more) is =
            let k : ℕ = cuts.below in
            let whole : slots ≡ take k slots ++ s ∷ more = sym (take-append-drop k slots) ∙ ap (λ l. take k slots ++ l) is in
            let run : IsRun columns (s ∷ more) = subst (IsRun columns) is (subst (λ n. IsRun columns (drop n slots)) (sym divides.below) (run_behind base index of range)) in
            let fail : AllByRecursion (λ (t : Slot). is_below range t.last ≡ false) (s ∷ more) =
            subst (AllByRecursion (λ (t : Slot). is_below range t.last ≡ false)) is (subst (λ n. AllByRecursion (λ (t : Slot). is_below range t.last ≡ false) (drop n slots)) (sym divides.below) (behind_fail base index of range)) in
            let stamps : AllByRecursion (HasSlotStamps base) (s ∷ more) = subst (AllByRecursion (HasSlotStamps base)) is (drop_all_of (HasSlotStamps base) k slots of.stamps) in
            let size : s.part.first_row + s.part.rows - s.part.first_row ≡ s.part.rows = omega arith in
            let last : last_stamp (take s.part.rows (drop s.part.first_row base.rows)) ≡ Some s.last = subst (λ n. last_stamp (take n (drop s.part.first_row base.rows)) ≡ Some s.last) size stamps.0.last in
            let place : s.part.first_row ≡ total whole_below =
            cover_at columns (length base.rows) (take k slots) s more (subst (AllByRecursion (IsSlot columns)) whole of.rules.each) (subst (Cover (length base.rows) columns) whole covers) run.0 in
            let less = few_below range s.part.first_row s.part.rows base.rows s.last rising last fail.0 in
            let part : suc (left_rows edges.below) ≤ s.part.rows = omega (arith, less, place, below_is, length-filter (λ (r : Row). is_below range r.stamp) base.rows) in
            subst (IsCut (left_rows edges.below)) (sym (at_begin s more run.0)) part

    -- each block up to the range's end begins before it
    starts : (xs : List Slot) → AllByRecursion (HasSlotStamps base) xs → AllByRecursion (λ (s : Slot). not (is_above range s.first) ≡ true) xs → AllByRecursion (λ (s : Slot). suc s.part.first_row ≤ up_to) xs
    starts [] stamps pass = tt
    starts (s ∷ xs) stamps pass =
        let size : s.part.first_row + s.part.rows - s.part.first_row ≡ s.part.rows = omega arith in
        let first : first_stamp (take s.part.rows (drop s.part.first_row base.rows)) ≡ Some s.first = subst (λ n. first_stamp (take n (drop s.part.first_row base.rows)) ≡ Some s.first) size stamps.0.first in (
          omega (arith, few_above range s.part.first_row s.part.rows base.rows s.first rising first (not_true (is_above range s.first) pass.0), both_counted (λ (r : Row). is_above range r.stamp) base.rows),
          starts xs stamps.1 pass.1,
        )

    begin_is : Begin up_to 0 up_to_reached
    begin_is =
        by cuts.reached slots of.rules.each covers (subst (λ n. IsRun columns (take n slots)) (sym divides.reached) (run_reached base index of range))
        (starts (take cuts.reached slots) (take_all_of (HasSlotStamps base) cuts.reached slots of.stamps) (subst (λ n. AllByRecursion (λ (s : Slot). not (is_above range s.first) ≡ true) (take n slots)) (sym divides.reached) (reached_pass base index of range)))
      where
        by : (n : ℕ) (xs : List Slot) → AllByRecursion (IsSlot columns) xs → Cover (length base.rows) columns xs → IsRun columns (take n xs) → AllByRecursion (λ (s : Slot). suc s.part.first_row ≤ up_to) (take n xs)
            → Begin up_to 0 (row_sizes (take n xs))
        by zero xs each covered run all = tt
        by (suc n) [] each covered run all = tt
        by (suc n) (s ∷ xs) each covered run all =
            run_begins columns (end_of (s ∷ take n xs)) up_to s (take n xs) (each.0, take_all_of (IsSlot columns) n xs each.1) covered.0 run.0 run.1 all

    -- the row blocks that a range leaves
    module _ (cutting : Sizes) (cut : IsCutting cutting) (order : IsRange range) (small : AllByRecursion (λ n. n ≤ cutting.rows) (row_sizes slots)) (frame : Frame) where
      abbrev c : Cutting
      c = run_cutting cutting

      abbrev left_below : List ℕ
      left_below = some_rows (left_rows edges.below)

      abbrev left_above : List ℕ
      left_above = some_rows (left_rows edges.above)

      abbrev new_sizes : List ℕ
      new_sizes = block_sizes c (length frame.rows)

      few_below_left : suc (left_rows edges.below) ≤ c.rows
      few_below_left = cut_few (left_rows edges.below) c.rows behind_below cut_is (parts_of_all (λ n. n ≤ c.rows) whole_below behind_below (subst (AllByRecursion (λ n. n ≤ c.rows)) (in_two cuts.below) small)).1 cut.some_rows

      few_above_left : suc (left_rows edges.above) ≤ c.rows
      few_above_left =
          behind_few up_to (left_rows edges.above) c.rows up_to_reached above_is begin_is (parts_of_all (λ n. n ≤ c.rows) up_to_reached whole_above (subst (AllByRecursion (λ n. n ≤ c.rows)) (in_two cuts.reached) small)).0 cut.some_rows

      -- of the base's, however they are told apart: whole ones below, what is left of one, new ones, what is left of another, and whole ones above
      module _ (list : List Block) (rows_are : rows_of list ≡ row_sizes slots) where
        abbrev front : List Block
        front = take (length whole_below) list

        abbrev back : List Block
        back = drop (length up_to_reached) list

        front_rows : rows_of front ≡ whole_below
        front_rows = front_has (λ (x : Block). x.rows) (length whole_below) list whole_below behind_below refl (rows_are ∙ in_two cuts.below)

        behind_rows : rows_of (drop (length whole_below) list) ≡ behind_below
        behind_rows = back_has (λ (x : Block). x.rows) (length whole_below) list whole_below behind_below refl (rows_are ∙ in_two cuts.below)

        reached_rows : rows_of (take (length up_to_reached) list) ≡ up_to_reached
        reached_rows = front_has (λ (x : Block). x.rows) (length up_to_reached) list up_to_reached whole_above refl (rows_are ∙ in_two cuts.reached)

        back_rows : rows_of back ≡ whole_above
        back_rows = back_has (λ (x : Block). x.rows) (length up_to_reached) list up_to_reached whole_above refl (rows_are ∙ in_two cuts.reached)

        before : parts_before low up_to 0 list ≡ map shared front ++ map blocks.fresh left_below
        before =
            let none : 0 + total whole_below + left_rows edges.below ≡ low = omega (arith, below_is) in
            ap (parts_before low up_to 0) (sym (take-append-drop (length whole_below) list))
            ∙ before_are low up_to (left_rows edges.below) 0 front (drop (length whole_below) list) (subst HaveRows (sym behind_rows) (have_rows (drop cuts.below slots) (drop_all_of (IsSlot columns) cuts.below slots of.rules.each)))
            (subst (λ ns. 0 + total ns + left_rows edges.below ≡ low) (sym front_rows) none) (few order) (subst (IsCut (left_rows edges.below)) (sym behind_rows) cut_is)

        behind : parts_behind low up_to 0 list ≡ map blocks.fresh left_above ++ map shared back
        behind =
            ap (parts_behind low up_to 0) (sym (take-append-drop (length up_to_reached) list))
            ∙ behind_are low up_to (left_rows edges.above) (take (length up_to_reached) list) back (subst HaveRows (sym back_rows) (have_rows (drop cuts.reached slots) (drop_all_of (IsSlot columns) cuts.reached slots of.rules.each)))
            (ap total reached_rows ∙ above_is) (few order) (subst (Begin up_to 0) (sym reached_rows) begin_is)

        parts_are : parts_replaced c (rows_between range base) (length frame.rows) list ≡ five (map shared front) (map blocks.fresh left_below) (map blocks.fresh new_sizes) (map blocks.fresh left_above) (map shared back)
        parts_are =
            ap (λ ps. (ps ++ cut_rows c (length frame.rows)) ++ parts_behind low up_to 0 list) before
            ∙ ap (λ ps. ((map shared front ++ map blocks.fresh left_below) ++ map blocks.fresh new_sizes) ++ ps) behind

        told : {X : Type 0} (f : Part → X) → map f (parts_replaced c (rows_between range base) (length frame.rows) list)
            ≡ five (map f (map shared front)) (map f (map blocks.fresh left_below)) (map f (map blocks.fresh new_sizes)) (map f (map blocks.fresh left_above)) (map f (map shared back))
        told f = ap (map f) parts_are ∙ five_mapped f (map shared front) (map blocks.fresh left_below) (map blocks.fresh new_sizes) (map blocks.fresh left_above) (map shared back)

      -- the pieces have their rows
      pub pieces_are : AreParts c (replaced slots cuts edges frame) (parts_replaced c (rows_between range base) (length frame.rows) (map bare_block (row_sizes slots)))
      pieces_are =
          let list : List Block = map bare_block (row_sizes slots) in
          let are : rows_of list ≡ row_sizes slots = bare_rows (row_sizes slots) in
          let first : List Part = map shared (front list are) ++ map blocks.fresh left_below in
          let last : List Part = map blocks.fresh left_above ++ map shared (back list are) in
          record {
            rows = sizes_told c (replaced slots cuts edges frame)
                ∙ (replaced_told row_sizes (λ sizes. sizes) c refl slots cuts edges frame few_below_left few_above_left
                ∙ sym (told list are part_rows
                ∙ five_same _ _ _ _ _ whole_below left_below new_sizes left_above whole_above (shared_rows (front list are) ∙ front_rows list are) (rows_fresh left_below) (rows_fresh new_sizes) (rows_fresh left_above) (shared_rows (back list are) ∙ back_rows list are)));
            fresh = omega (
              arith,
              new_blocks-append c (fresh edges.below) (pieces.Fresh frame ∷ fresh edges.above ++ (pieces.Shared (drop cuts.reached slots) ∷ [])),
              edge_blocks c edges.below few_below_left,
              new_blocks-append c (fresh edges.above) (pieces.Shared (drop cuts.reached slots) ∷ []),
              edge_blocks c edges.above few_above_left,
              ap fresh_in (parts_are list are),
              fresh_in-append (first ++ map blocks.fresh new_sizes) last,
              fresh_in-append first (map blocks.fresh new_sizes),
              fresh_in-append (map shared (front list are)) (map blocks.fresh left_below),
              fresh_in-append (map blocks.fresh left_above) (map shared (back list are)),
              fresh_none (front list are),
              fresh_none (back list are),
              fresh_all left_below,
              fresh_all new_sizes,
              fresh_all left_above,
            );
          }

      -- and keep their keys
      pub pieces_keep : (list : List Block) (names : Block → List Key) → rows_of list ≡ row_sizes slots → map names list ≡ block_keys slots
          → keys_in c (replaced slots cuts edges frame) ≡ map (kept_keys names) (parts_replaced c (rows_between range base) (length frame.rows) list)
      pieces_keep list names are keys_are =
          let first = take cuts.below slots in
          let last = drop cuts.reached slots in
          let front_keys : map names (front list are) ≡ block_keys first =
          front_has names (length whole_below) list (block_keys first) (block_keys (drop cuts.below slots)) (first_many cuts.below) (keys_are ∙ keys_in_two cuts.below (run_begins_block columns (drop cuts.below slots) (subst (λ n. IsRun columns (drop n slots)) (sym divides.below) (run_behind base index of range)))) in
          let back_keys : map names (back list are) ≡ block_keys last =
          back_has names (length up_to_reached) list (block_keys (take cuts.reached slots)) (block_keys last) (first_many cuts.reached) (keys_are ∙ keys_in_two cuts.reached (run_begins_block columns last (last_run base index of range cuts divides edges are_edges frame))) in
          keys_told c (replaced slots cuts edges frame)
          ∙ (replaced_told kept_of none_of c refl slots cuts edges frame few_below_left few_above_left
          ∙ sym (told list are (kept_keys names)
          ∙ five_same _ _ _ _ _ (kept_of first) (none_of left_below) (none_of new_sizes) (none_of left_above) (kept_of last) (kept_shared names (front list are) ∙ ap (map (λ keys. Some keys)) front_keys) (kept_fresh names left_below)
          (kept_fresh names new_sizes) (kept_fresh names left_above) (kept_shared names (back list are) ∙ ap (map (λ keys. Some keys)) back_keys)))

-- of an update of the newest live version
module _ (cutting : Sizes) (cut : IsCutting cutting) (h : History) (symbol : Name) (v : Version) (index : Index) (range : Range) (cuts : Cuts) (edges : Edges) (frame : Frame) (at : ℤ) (n : IsNewest h symbol v index) (order : IsRange range)
    (divides : Divides range index.slots cuts) (are : AreEdges v.frame range index.slots cuts edges) (small : AreSmall (run_cutting cutting) h symbol) where
  most : AllByRecursion (λ n. n ≤ cutting.rows) (row_sizes index.slots)
  most = subst (AllByRecursion (λ n. n ≤ cutting.rows)) n.rows_are small

  pub replaced_parts : AreParts (run_cutting cutting) (replaced index.slots cuts edges frame) (parts_laid (run_cutting cutting) h symbol (changes.Updated frame range at))
  replaced_parts =
      let c = run_cutting cutting in
      subst (AreParts c (replaced index.slots cuts edges frame))
      (ap (λ ns. parts_of c (Some v) (map bare_block ns) (changes.Updated frame range at)) (sym n.rows_are) ∙ ap (λ o. parts_of c o (map bare_block (base_rows h symbol)) (changes.Updated frame range at)) (sym n.is))
      (pieces_are v.frame index n.index_of range cuts divides edges are cutting cut order most frame)

  pub replaced_keep : KeepKeys (run_cutting cutting) h symbol (changes.Updated frame range at) (replaced index.slots cuts edges frame)
  replaced_keep list names rows_is names_is =
      pieces_keep v.frame index n.index_of range cuts divides edges are cutting cut order most frame list names (rows_is ∙ n.rows_are) (names_is ∙ n.keys_are)
      ∙ ap (λ o. map (kept_keys names) (parts_of (run_cutting cutting) o list (changes.Updated frame range at))) (sym n.is)
