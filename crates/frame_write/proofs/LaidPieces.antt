-- Pieces that are laid out one behind the other are stretches of the whole frame, so their slots are an index of it.
use Rattle.std.proofs.Common.{◌≡◌, ℕ, suc, ◌+◌, ◌-◌, ◌<◌, ◌≤◌, ◌^◌, List, [], ◌∷◌, ◌++◌, length, map, take, drop, length-drop, length-append, None, refl, sym, ap, ◌∙◌, subst, inl, inr, arith}
use Rattle.std.specs.Prelude.{◌⊎◌, Contains, slice_range, flat_map}
use Rattle.std.specs.List.{AllByRecursion, AllZip}
use Rattle.std.proofs.lemmas.List.{drop-drop}
use Rattle.frame_core.specs.Frames.{Row, Frame}
use Rattle.frame_core.specs.Schemas.{Schema}
use Rattle.frame_core.specs.Limits.{IsStorable}
use Rattle.segment_cut.specs.Cuttings.{Cutting}
use Rattle.segment_cut.specs.Tiles.{Tiled, cut}
use Rattle.index_tree.specs.declared.index.Slot.{Slot}
use Rattle.index_tree.specs.IndexRules.{IsSlot, Cover, IsIndex}
use Rattle.key_kind.specs.declared.key.Key.{Key}
use Rattle.key_kind.specs.Names.{Name}
use Rattle.bucket_core.specs.History.{History}
use Rattle.store_model.specs.Commits.{HasSlotStamps}
use Rattle.store_model.specs.Law.{IsLawful}
use Rattle.store_model.specs.OwnPuts.{slots_of}
use Rattle.store_model.proofs.Lists.{contains_none, all_weaker}
use Rattle.frame_write.specs.declared.pieces.Piece.{Piece}
use Rattle.frame_write.specs.declared.pieces.Piece.TheVariants as pieces
use Rattle.frame_write.specs.declared.tiles.Tile.{Tile}
use Rattle.index_tree.specs.SlotTexts.{moved}
use Rattle.frame_write.specs.Pieces.{begin_of, end_of, size_of, IsRun, HasBase, IsPiece, rows_held}
use Rattle.frame_write.specs.Placing.{IsTileOf, AreTilesOf, slot_at, placed}
use Rattle.frame_write.specs.Laying.{Laid, slots_laid, behind, fresh_laid, rows_in, tiles_in, MayMove, MayLay, IsTiledPiece, laid_pieces}
use Rattle.frame_write.proofs.RowStamps.{length_slice}
use Rattle.frame_write.proofs.CutLimits.{frame_within}
use Rattle.frame_write.proofs.GridSlots.{grid_covers, slot_rules}
use Rattle.frame_write.proofs.PlanLemmas.{FitsTry, slot_stamps, slot_keys, slot_parts}
use Rattle.frame_write.proofs.CoverTiles.{cover_tiled}
use Rattle.frame_write.proofs.Runs.{IsMoved, CoverFrom, moved_is}
use Rattle.frame_write.proofs.Stretches.{IsPlaced, IsStretch, IsLaidSlot, AreBetween, cover_between, AreStretches, no_stretch, stretch, stretches_slots, stretches_cover}
use Rattle.frame_write.proofs.BaseTold.{IsSharedIn, stamps_told, lies_told, small_told, shared_told}
use Rattle.frame_write.proofs.FewSlots.{few_slots}

-- ---- a run

run_cover : (columns : ℕ) (run : List Slot) → IsRun columns run → CoverFrom (begin_of run) (end_of run) columns run
run_cover columns [] r = refl
run_cover columns (s ∷ more) r = (refl, r.0, r.1)

run_between : (columns : ℕ) (run : List Slot) → IsRun columns run → AreBetween (begin_of run) (end_of run) run
run_between columns run r = cover_between (begin_of run) (end_of run) columns run (run_cover columns run r)

run_ordered : (columns : ℕ) (run : List Slot) → IsRun columns run → begin_of run ≤ end_of run
run_ordered columns [] r = omega arith
run_ordered columns (s ∷ more) r = let between = run_between columns (s ∷ more) r in omega (arith, between.0.0, between.0.1)

run_within : (n : ℕ) (run : List Slot) → AllByRecursion (λ (s : Slot). s.part.first_row + s.part.rows ≤ n) run → end_of run ≤ n
run_within n [] all = omega arith
run_within n (s ∷ []) all = all.0
run_within n (s ∷ t ∷ more) all = run_within n (t ∷ more) all.1

run_placed : (Shares : Frame → Key → Type 0) (g : Frame) (from to : ℕ) (list : List Slot) → AllByRecursion (λ (s : Slot). from ≤ s.part.first_row) list → AllByRecursion (λ (s : Slot). Shares (cut g s.part) s.key) list
    → AllZip (IsPlaced Shares g from to) list (map {B = Laid} (λ (s : Slot). (moved from to s, None)) list)
run_placed Shares g from to [] low shared = tt
run_placed Shares g from to (s ∷ list) low shared = (record { moved = moved_is from to s low.0; holds = shared.0 }, run_placed Shares g from to list low.1 shared.1)

-- a run of the base's slots ends within the base
run_ends : (h : History) → ∥ IsLawful h ∥₁ → (symbol : Name) (schema : Schema) (rows : List Row) (slots : List Slot) (b : HasBase h symbol schema rows slots) (run : List Slot)
    → AllByRecursion (λ (s : Slot). Contains slots s × IsSlot (length schema.columns) s) run → end_of run ≤ length b.version.frame.rows
run_ends h lawful symbol schema rows slots b run each =
    run_within (length b.version.frame.rows) run
    (all_weaker _ (λ (s : Slot). s.part.first_row + s.part.rows ≤ length b.version.frame.rows) (λ s e. lies_told h lawful symbol schema rows slots b s e.0) run each)

-- a run of the base's slots, moved behind the rows before it
pub run_stretch : (h : History) → ∥ IsLawful h ∥₁ → (client : ℕ) (symbol : Name) (f : Frame) (rows : List Row) (slots : List Slot) (b : HasBase h symbol f.schema rows slots) (run : List Slot)
    → AllByRecursion (λ (s : Slot). Contains slots s × IsSlot (length f.schema.columns) s) run → IsRun (length f.schema.columns) run
    → (to : ℕ) (rest : List Row) → drop to f.rows ≡ slice_range rows (begin_of run) (end_of run) ++ rest
    → IsStretch (IsSharedIn h client symbol) f to (size_of run) (map {B = Laid} (λ (s : Slot). (moved (begin_of run) to s, None)) run)
run_stretch h lawful client symbol f rows slots b run each r to rest is = record {
  source = b.version.frame;
  from = begin_of run;
  end = end_of run;
  rest = rest;
  slots = run;
  schema = sym b.schema_is;
  ordered = run_ordered (length f.schema.columns) run r;
  within = run_ends h lawful symbol f.schema rows slots b run each;
  size_is = refl;
  rows_are = subst (λ (rs : List Row). drop to f.rows ≡ slice_range rs (begin_of run) (end_of run) ++ rest) (sym b.rows_are) is;
  cover = run_cover (length f.schema.columns) run r;
  rules = all_weaker _ (IsSlot (length f.schema.columns)) (λ s e. e.1) run each;
  stamps = all_weaker _ (HasSlotStamps b.version.frame) (λ s e. stamps_told h lawful symbol f.schema rows slots b s e.0) run each;
  placed = run_placed (IsSharedIn h client symbol) b.version.frame (begin_of run) to run
      (all_weaker _ (λ (s : Slot). begin_of run ≤ s.part.first_row) (λ s e. e.0) run (run_between (length f.schema.columns) run r))
      (all_weaker _ (λ (s : Slot). IsSharedIn h client symbol (cut b.version.frame s.part) s.key) (λ s e. shared_told h lawful symbol f.schema rows slots b s e.0 client (length f.schema.columns) e.1) run each);
}

-- no slots
no_run : (Shares : Frame → Key → Type 0) (f : Frame) (to : ℕ) → IsStretch Shares f to 0 []
no_run Shares f to = record {
  source = f;
  from = 0;
  end = 0;
  rest = drop to f.rows;
  slots = [];
  schema = refl;
  ordered = omega arith;
  within = omega arith;
  size_is = refl;
  rows_are = refl;
  cover = refl;
  rules = tt;
  stamps = tt;
  placed = tt;
}

-- ---- a fresh frame

take_whole : {X : Type 0} (xs : List X) → take (length xs) xs ≡ xs
take_whole [] = refl
take_whole (x ∷ xs) = ap (λ l. x ∷ l) (take_whole xs)

whole_slice : {X : Type 0} (xs : List X) → slice_range xs 0 (length xs) ≡ xs
whole_slice xs = let long : length xs - 0 ≡ length xs = omega arith in ap (λ k. take k xs) long ∙ take_whole xs

cover_zero : (rows columns : ℕ) (slots : List Slot) → Cover rows columns slots → CoverFrom 0 rows columns slots
cover_zero rows columns [] c = sym c
cover_zero rows columns (s ∷ more) c = c

zero_cover : (rows columns : ℕ) (slots : List Slot) → CoverFrom 0 rows columns slots → Cover rows columns slots
zero_cover rows columns [] c = sym c
zero_cover rows columns (s ∷ more) c = c

behind_is : (to : ℕ) (s : Slot) → IsMoved 0 to s (behind to s)
behind_is to s = record { first_row = omega arith; rows = refl; first_col = refl; cols = refl; first = refl; last = refl; key = refl }

module _ (Shares : Frame → Key → Type 0) (client : ℕ) (symbol : Name) (version : ℕ) (g : Frame) (cutting : Cutting) (storable : IsStorable g) (fits : FitsTry client symbol version) where
  fresh_placed : (to serial : ℕ) (tiles : List Tile) → AllByRecursion (IsTileOf g) tiles
      → AllZip (IsPlaced Shares g 0 to) (slots_of (placed client symbol version serial tiles)) (fresh_laid client symbol version to serial tiles)
  fresh_placed to serial [] each = tt
  fresh_placed to serial (t ∷ tiles) each = (record { moved = behind_is to (slot_at client symbol version serial t); holds = each.0.spelled }, fresh_placed to (suc serial) tiles each.1)

  -- its tiles, behind the rows before it
  pub fresh_stretch : (serial : ℕ) (tiles : List Tile) (f : Frame) → f.schema ≡ g.schema → AreTilesOf g cutting tiles → serial + length tiles < 2 ^ 64 → (to : ℕ) (rest : List Row) → drop to f.rows ≡ g.rows ++ rest
      → IsStretch Shares f to (length g.rows) (fresh_laid client symbol version to serial tiles)
  fresh_stretch serial tiles f schema tiled small to rest is =
      let slots : List Slot = slots_of (placed client symbol version serial tiles) in
      let stamps = slot_stamps client symbol version g fits serial tiles tiled.each in
      let parts_are = slot_parts client symbol version g fits serial tiles ∙ tiled.parts_are in
      let keys = slot_keys client symbol version g fits serial tiles small tiled.each in
      record {
        source = g;
        from = 0;
        end = length g.rows;
        rest = rest;
        slots = slots;
        schema = schema;
        ordered = omega arith;
        within = omega arith;
        size_is = omega arith;
        rows_are = is ∙ ap (λ l. l ++ rest) (sym (whole_slice g.rows));
        cover = subst (λ (sch : Schema). CoverFrom 0 (length g.rows) (length sch.columns) slots) (sym schema)
            (cover_zero (length g.rows) (length g.schema.columns) slots (grid_covers g cutting slots storable.is_frame tiled.cutting_is parts_are stamps));
        rules = subst (λ (sch : Schema). AllByRecursion (IsSlot (length sch.columns)) slots) (sym schema) (slot_rules g cutting slots storable.is_frame tiled.cutting_is parts_are stamps keys);
        stamps = stamps;
        placed = fresh_placed to serial tiles tiled.each;
      }

-- ---- all pieces

drop_front : {X : Type 0} (ys zs : List X) → drop (length ys) (ys ++ zs) ≡ zs
drop_front [] zs = refl
drop_front (y ∷ ys) zs = drop_front ys zs

-- what is behind some rows
record IsBehind {X : Type 0} (to size : ℕ) (xs zs : List X) : Type 0 where
  pub rows_are : drop (to + size) xs ≡ zs
  pub within : to + size ≤ length xs

behind_rows : {X : Type 0} (to size : ℕ) (xs ys zs : List X) → to ≤ length xs → drop to xs ≡ ys ++ zs → length ys ≡ size → IsBehind to size xs zs
behind_rows to size xs ys zs within is long =
    let both : length (drop to xs) ≡ length ys + length zs = ap length is ∙ length-append ys zs in
    record {
      rows_are = sym (drop-drop size to xs) ∙ (ap (drop size) is ∙ (ap (λ n. drop n (ys ++ zs)) (sym long) ∙ drop_front ys zs));
      within = omega (arith, within, both, long, length-drop to xs);
    }

-- a run ends below the bound of each of its slots
end_small : (run : List Slot) → AllByRecursion (λ (s : Slot). s.part.first_row + s.part.rows < 2 ^ 32) run → end_of run < 2 ^ 32
end_small [] all = omega arith
end_small (s ∷ []) all = all.0
end_small (s ∷ t ∷ more) all = end_small (t ∷ more) all.1

module _ (h : History) (lawful : ∥ IsLawful h ∥₁) (symbol : Name) (f : Frame) (rows : List Row) (slots : List Slot) (base : (slots ≡ []) ⊎ HasBase h symbol f.schema rows slots) where
  -- how many rows a run has
  run_size : (run : List Slot) → AllByRecursion (λ (s : Slot). Contains slots s × IsSlot (length f.schema.columns) s) run → length (slice_range rows (begin_of run) (end_of run)) ≡ size_of run
  run_size [] each = refl
  run_size (s ∷ more) each = elim base [
    | inl none ↦ absurd (contains_none s (subst (λ xs. Contains xs s) none each.0.0))
    | inr b ↦
        let within : end_of (s ∷ more) ≤ length rows = subst (λ (rs : List Row). end_of (s ∷ more) ≤ length rs) b.rows_are (run_ends h lawful symbol f.schema rows slots b (s ∷ more) each) in
        length_slice (begin_of (s ∷ more)) (end_of (s ∷ more)) rows within
  ]

  -- a run may be moved
  run_may_move : (run : List Slot) → AllByRecursion (λ (s : Slot). Contains slots s × IsSlot (length f.schema.columns) s) run → IsRun (length f.schema.columns) run → MayMove run
  run_may_move [] each r = (omega arith, omega arith, tt)
  run_may_move (s ∷ more) each r = elim base [
    | inl none ↦ absurd (contains_none s (subst (λ xs. Contains xs s) none each.0.0))
    | inr b ↦ (
      run_ordered (length f.schema.columns) (s ∷ more) r,
      end_small (s ∷ more) (all_weaker _ (λ (t : Slot). t.part.first_row + t.part.rows < 2 ^ 32) (λ t e. small_told h lawful symbol f.schema rows slots b t e.0) (s ∷ more) each),
      run_between (length f.schema.columns) (s ∷ more) r,
    )
  ]

  -- the pieces may be laid out, and have as many rows as they hold
  pub pieces_may_lay : (list : List Piece) → AllByRecursion (IsPiece f.schema slots) list → AllByRecursion MayLay list
  pieces_may_lay [] each = tt
  pieces_may_lay (pieces.Shared run ∷ list) each = (run_may_move run each.0.0 each.0.1, pieces_may_lay list each.1)
  pieces_may_lay (pieces.Fresh g ∷ list) each = (each.0.0, pieces_may_lay list each.1)

  -- the rows of pieces are as many as their sizes say
  pub pieces_rows : (list : List Piece) → AllByRecursion (IsPiece f.schema slots) list → length (flat_map (rows_held rows) list) ≡ rows_in list
  pieces_rows [] each = refl
  pieces_rows (pieces.Shared run ∷ list) each =
      let rest = pieces_rows list each.1 in
      let here = run_size run each.0.0 in
      length-append (slice_range rows (begin_of run) (end_of run)) (flat_map (rows_held rows) list) ∙ (λ i. here i + rest i)
  pieces_rows (pieces.Fresh g ∷ list) each = length-append g.rows (flat_map (rows_held rows) list) ∙ ap (λ n. length g.rows + n) (pieces_rows list each.1)

module _ (h : History) (lawful : ∥ IsLawful h ∥₁) (client : ℕ) (symbol : Name) (version : ℕ) (cutting : Cutting) (f : Frame) (rows : List Row) (slots : List Slot)
    (base : (slots ≡ []) ⊎ HasBase h symbol f.schema rows slots) (fits : FitsTry client symbol version) where
  -- a run is a stretch
  run_laid : (run : List Slot) → AllByRecursion (λ (s : Slot). Contains slots s × IsSlot (length f.schema.columns) s) run → IsRun (length f.schema.columns) run → (to : ℕ) (rest : List Row)
      → drop to f.rows ≡ slice_range rows (begin_of run) (end_of run) ++ rest
      → IsStretch (IsSharedIn h client symbol) f to (size_of run) (map {B = Laid} (λ (s : Slot). (moved (begin_of run) to s, None)) run)
  run_laid [] each r to rest is = no_run (IsSharedIn h client symbol) f to
  run_laid (s ∷ more) each r to rest is = elim base [
    | inl none ↦ absurd (contains_none s (subst (λ xs. Contains xs s) none each.0.0))
    | inr b ↦ run_stretch h lawful client symbol f rows slots b (s ∷ more) each r to rest is
  ]

  -- the pieces are the frame's rows from the row `to` on
  pub pieces_laid : (list : List Piece) (tiles : List (List Tile)) (to serial : ℕ) → AllByRecursion (IsPiece f.schema slots) list → AllZip (IsTiledPiece cutting) list tiles → serial + tiles_in tiles < 2 ^ 64
      → to ≤ length f.rows → drop to f.rows ≡ flat_map (rows_held rows) list
      → AreStretches (IsSharedIn h client symbol) f to (laid_pieces client symbol version to serial list tiles) × (to + rows_in list ≡ length f.rows)
  pieces_laid [] [] to serial each z small within is =
      let none : length (drop to f.rows) ≡ 0 = ap length is in
      (no_stretch (omega (arith, within, none, length-drop to f.rows)), omega (arith, within, none, length-drop to f.rows))
  pieces_laid [] (t ∷ tiles) to serial each z small within is = absurd z
  pieces_laid (p ∷ list) [] to serial each z small within is = absurd z
  pieces_laid (pieces.Shared run ∷ list) (t ∷ tiles) to serial each z small within is =
      let one = run_laid run each.0.0 each.0.1 to (flat_map (rows_held rows) list) is in
      let next = behind_rows to (size_of run) f.rows (slice_range rows (begin_of run) (end_of run)) (flat_map (rows_held rows) list) within is (run_size h lawful symbol f rows slots base run each.0.0) in
      let rest = pieces_laid list tiles (to + size_of run) (serial + length t) each.1 z.1 (omega (arith, small)) next.within next.rows_are in
      (stretch (size_of run) one rest.0, omega (arith, rest.1))
  pieces_laid (pieces.Fresh g ∷ list) (t ∷ tiles) to serial each z small within is =
      let one = fresh_stretch (IsSharedIn h client symbol) client symbol version g cutting each.0.0 fits serial t f (sym each.0.1) z.0 (omega (arith, small)) to (flat_map (rows_held rows) list) is in
      let next = behind_rows to (length g.rows) f.rows g.rows (flat_map (rows_held rows) list) within is refl in
      let rest = pieces_laid list tiles (to + length g.rows) (serial + length t) each.1 z.1 (omega (arith, small)) next.within next.rows_are in
      (stretch (length g.rows) one rest.0, omega (arith, rest.1))

-- ---- the index

-- the slots of a frame that may be written, in stretches, are an index of it
pub laid_index : (Shares : Frame → Key → Type 0) (f : Frame) (xs : List Laid) → IsStorable f → AreStretches Shares f 0 xs → IsIndex (record { schema = f.schema; rows = length f.rows; slots = slots_laid xs })
laid_index Shares f xs storable all =
    let w = frame_within f storable.within in
    let cover = stretches_cover Shares f storable.is_frame 0 xs all in
    let each = rules xs (stretches_slots Shares f 0 xs all) in
    record {
      timed = storable.timed;
      columns = storable.is_frame.columns;
      few_columns = omega (arith, w.columns_are);
      few_rows = omega (arith, w.rows_are);
      few_slots = few_slots f (slots_laid xs) storable.within each cover;
      each = each;
      cover = zero_cover (length f.rows) (length f.schema.columns) (slots_laid xs) cover;
    }
  where
    rules : (ys : List Laid) → AllByRecursion (IsLaidSlot Shares f) ys → AllByRecursion (IsSlot (length f.schema.columns)) (slots_laid ys)
    rules [] each = tt
    rules (y ∷ ys) each = (each.0.rule, rules ys each.1)

-- and their tiles tile it
pub laid_tiled : (Shares : Frame → Key → Type 0) (f : Frame) (xs : List Laid) → IsStorable f → AreStretches Shares f 0 xs → Tiled f (map (λ (s : Slot). (s.part, cut f s.part)) (slots_laid xs))
laid_tiled Shares f xs storable all = let i = laid_index Shares f xs storable all in cover_tiled f (slots_laid xs) i.each i.cover
