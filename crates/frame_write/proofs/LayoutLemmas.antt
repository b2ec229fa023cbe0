-- One piece more is laid out.
use Rattle.std.proofs.Common.{◌≡◌, ℕ, zero, suc, ◌+◌, ◌-◌, ◌<◌, ◌≤◌, ◌^◌, map, Ok, Err, Result, List, [], ◌∷◌, ◌++◌, length, take, refl, ap, sym, ◌∙◌, subst, arith, append_assoc, Option, Some, None}
use Rattle.std.specs.Prelude.{slice_get, option_map, pos, OnOk}
use Rattle.std.proofs.lemmas.Option.{slice_get-get_or}
use Rattle.std.specs.List.{AllByRecursion, AllZip}
use Rattle.std.proofs.lemmas.List.{append-nil}
use Rattle.frame_core.specs.declared.part.Part.{Part}
use Rattle.frame_core.specs.Frames.{Frame}
use Rattle.frame_core.specs.Limits.{IsStorable}
use Rattle.segment_cut.specs.Cuttings.{Cutting}
use Rattle.segment_cut.specs.Grids.{parts, grid_of}
use Rattle.segment_cut.specs.Tiles.{LiesIn, cut}
use Rattle.segment_cut.specs.Tiles.{Tile as CutTile}
use Rattle.segment_cut.proofs.GridLemmas.{tiled-grid}
use Rattle.index_tree.specs.declared.span.Span.{Span}
use Rattle.index_tree.specs.SlotTexts.{span_of}
use Rattle.index_tree.specs.SlotTexts.{MayMove as MoveFits}
use Rattle.index_tree.specs.declared.index.Slot.{Slot}
use Rattle.key_kind.specs.Names.{Name}
use Rattle.frame_write.specs.declared.laying.Layout.{Layout}
use Rattle.frame_write.specs.declared.pieces.Piece.{Piece}
use Rattle.frame_write.specs.declared.pieces.Piece.TheVariants as pieces
use Rattle.frame_write.specs.declared.tiles.Tile.{Tile}
use Rattle.index_tree.specs.SlotTexts.{moved}
use Rattle.frame_write.specs.Pieces.{begin_of, end_of, size_of}
use Rattle.frame_write.specs.Plans.{puts_seen}
use Rattle.frame_write.specs.Placing.{IsTileOf, AreTilesOf}
use Rattle.frame_write.proofs.CutLimits.{frame_within}
use Rattle.frame_write.specs.Laying.{FitsAt, MayMove, Laid, slots_laid, puts_laid, piece_rows, rows_in, IsTiledPiece, laid_piece, laid_pieces, tiles_in}
use Rattle.frame_write.specs.Layouts.{AddsPiece, IsLaid}
use Rattle.frame_write.specs.SlotKeys.{first_of, last_of}
use Rattle.frame_write.proofs.ListLemmas.{map_append}
use Rattle.frame_write.proofs.LaidPuts.{puts_append, shared_puts, run_slots}

zip_last : {A B : Type 0} (R : A → B → Type 0) (xs : List A) (ys : List B) (x : A) (y : B) → AllZip R xs ys → R x y → AllZip R (xs ++ x ∷ []) (ys ++ y ∷ [])
zip_last R [] [] x y z r = (r, tt)
zip_last R [] (b ∷ ys) x y z r = absurd z
zip_last R (a ∷ xs) [] x y z r = absurd z
zip_last R (a ∷ xs) (b ∷ ys) x y z r = (z.0, zip_last R xs ys x y z.1 r)

rows_last : (list : List Piece) (p : Piece) → rows_in (list ++ p ∷ []) ≡ rows_in list + piece_rows p
rows_last [] p = omega arith
rows_last (q ∷ list) p = let rest = rows_last list p in omega (arith, rest)

tiles_last : (tiles : List (List Tile)) (t : List Tile) → tiles_in (tiles ++ t ∷ []) ≡ tiles_in tiles + length t
tiles_last [] t = omega arith
tiles_last (u ∷ tiles) t = let rest = tiles_last tiles t in omega (arith, rest)

-- the rows up to a piece and its own are no more than all
pub rows_at : (list : List Piece) (i : ℕ) (p : Piece) → slice_get list i ≡ Some p → rows_in (take i list) + piece_rows p ≤ rows_in list
rows_at [] i p e = absurd cc
rows_at (q ∷ list) zero p e =
    let same : q ≡ p = cc in
    let rows : piece_rows q ≡ piece_rows p = ap piece_rows same in
    omega (arith, rows)
rows_at (q ∷ list) (suc i) p e = let rest = rows_at list i p e in omega (arith, rest)

module _ (client : ℕ) (symbol : Name) (version : ℕ) where
  pieces_last : (list : List Piece) (tiles : List (List Tile)) (begin serial : ℕ) (cutting : Cutting) (p : Piece) (t : List Tile) → AllZip (IsTiledPiece cutting) list tiles
      → laid_pieces client symbol version begin serial (list ++ p ∷ []) (tiles ++ t ∷ []) ≡ laid_pieces client symbol version begin serial list tiles ++ laid_piece client symbol version (begin + rows_in list) (serial + tiles_in tiles) p t
  pieces_last [] [] begin serial cutting p t z =
      let row : begin ≡ begin + 0 = omega arith in
      let place : serial ≡ serial + 0 = omega arith in
      append-nil (laid_piece client symbol version begin serial p t) ∙ (λ i. laid_piece client symbol version (row i) (place i) p t)
  pieces_last [] (u ∷ tiles) begin serial cutting p t z = absurd z
  pieces_last (q ∷ list) [] begin serial cutting p t z = absurd z
  pieces_last (q ∷ list) (u ∷ tiles) begin serial cutting p t z =
      let row : (begin + piece_rows q) + rows_in list ≡ begin + (piece_rows q + rows_in list) = omega arith in
      let place : (serial + length u) + tiles_in tiles ≡ serial + (length u + tiles_in tiles) = omega arith in
      let first : List Laid = laid_piece client symbol version begin serial q u in
      let mid : List Laid = laid_pieces client symbol version (begin + piece_rows q) (serial + length u) list tiles in
      ap (λ l. first ++ l) (pieces_last list tiles (begin + piece_rows q) (serial + length u) cutting p t z.1 ∙ (λ i. mid ++ laid_piece client symbol version (row i) (place i) p t))
      ∙ sym (append_assoc first mid (laid_piece client symbol version (begin + (piece_rows q + rows_in list)) (serial + (length u + tiles_in tiles)) p t))

  -- one more piece behind those that are laid out
  pub laid_more : (cutting : Cutting) (serial : ℕ) (list : List Piece) (p : Piece) (old new : Layout) → IsLaid client symbol version cutting serial list old → AddsPiece client symbol version cutting p old new
      → IsLaid client symbol version cutting serial (list ++ p ∷ []) new
  laid_more cutting serial list p old new laid adds =
      let before : List Laid = laid_pieces client symbol version 0 serial list laid.tiles in
      let row : old.rows ≡ 0 + rows_in list = omega (arith, laid.rows) in
      let here : laid_piece client symbol version old.rows old.next p adds.tiles ≡ laid_piece client symbol version (0 + rows_in list) (serial + tiles_in laid.tiles) p adds.tiles = λ i. laid_piece client symbol version (row i) (laid.next i) p adds.tiles in
      let piece : List Laid = laid_piece client symbol version (0 + rows_in list) (serial + tiles_in laid.tiles) p adds.tiles in
      let all : before ++ piece ≡ laid_pieces client symbol version 0 serial (list ++ p ∷ []) (laid.tiles ++ adds.tiles ∷ []) = sym (pieces_last list laid.tiles 0 serial cutting p adds.tiles laid.tiled) in
      record {
        tiles = laid.tiles ++ adds.tiles ∷ [];
        tiled = zip_last (IsTiledPiece cutting) list laid.tiles p adds.tiles laid.tiled adds.tiled;
        slots = adds.slots ∙ ((λ i. laid.slots i ++ slots_laid (here i)) ∙ (sym (map_append (λ (x : Laid). x.0) before piece) ∙ ap slots_laid all));
        puts = adds.puts ∙ ((λ i. laid.puts i ++ puts_laid (here i)) ∙ (sym (puts_append before piece) ∙ ap puts_laid all));
        rows = adds.rows ∙ (ap (λ n. n + piece_rows p) laid.rows ∙ sym (rows_last list p));
        next = let tiles = tiles_last laid.tiles adds.tiles in omega (arith, adds.next, laid.next, tiles);
        fits = adds.fits laid.fits;
      }

  -- no piece is laid out at first
  pub laid_none : (cutting : Cutting) (serial : ℕ) (all : Layout) → serial < 2 ^ 64 → all ≡ record { slots = []; puts = []; rows = 0; next = serial } → IsLaid client symbol version cutting serial [] all
  laid_none cutting serial all small is = record {
    tiles = [];
    tiled = tt;
    slots = ap (λ (l : Layout). l.slots) is;
    puts = ap (λ (l : Layout). puts_seen l.puts) is;
    rows = ap (λ (l : Layout). l.rows) is;
    next = ap (λ (l : Layout). l.next) is ∙ omega arith;
    fits = subst (λ n. n < 2 ^ 64) (sym (ap (λ (l : Layout). l.next) is)) small;
  }

-- ---- a run

-- the last slot of a run ends where the run ends
pub end_at : (run : List Slot) (s : Slot) → Some s ≡ slice_get run (length run - 1) → s.part.first_row + s.part.rows ≡ end_of run
end_at [] s e = absurd cc
end_at (x ∷ []) s e =
    let place : length (x ∷ []) - 1 ≡ 0 = omega arith in
    let found : Some s ≡ Some x = e ∙ ap (slice_get (x ∷ [])) place in
    let same : s ≡ x = cc in
    ap (λ (t : Slot). t.part.first_row + t.part.rows) same
end_at (x ∷ y ∷ more) s e =
    let place : length (x ∷ y ∷ more) - 1 ≡ suc (length (y ∷ more) - 1) = omega arith in
    end_at (y ∷ more) s (e ∙ ap (slice_get (x ∷ y ∷ more)) place)

-- so the stamp of its last row is the run's
pub last_at : (run : List Slot) (s : Slot) → Some s ≡ slice_get run (length run - 1) → s.last ≡ last_of run
last_at [] s e = absurd cc
last_at (x ∷ []) s e =
    let place : length (x ∷ []) - 1 ≡ 0 = omega arith in
    let found : Some s ≡ Some x = e ∙ ap (slice_get (x ∷ [])) place in
    let same : s ≡ x = cc in
    ap (λ (t : Slot). t.last) same
last_at (x ∷ y ∷ more) s e =
    let place : length (x ∷ y ∷ more) - 1 ≡ suc (length (y ∷ more) - 1) = omega arith in
    last_at (y ∷ more) s (e ∙ ap (slice_get (x ∷ y ∷ more)) place)

-- ---- the ends of slots, as a text of them tells them

-- the span that is seen is that of a slot
seen : (o : Option Slot) (span : Span) → Some span ≡ option_map span_of o → (s : Slot) × (Some s ≡ o) × (span ≡ span_of s)
seen None span e = absurd cc
seen (Some s) span e = let same : span ≡ span_of s = cc in (s, refl, same)

unseen : (o : Option Slot) → option_map span_of o ≡ None → o ≡ None
unseen None e = refl
unseen (Some s) e = absurd cc

-- no slot is the first, nor the last, only where there is none
none_first : (slots : List Slot) → slice_get slots 0 ≡ None → slots ≡ []
none_first [] e = refl
none_first (s ∷ more) e = absurd cc

none_last : (slots : List Slot) → slice_get slots (length slots - 1) ≡ None → slots ≡ []
none_last [] e = refl
none_last (s ∷ more) e =
    let there = slice_get-get_or (s ∷ more) (length (s ∷ more) - 1) s (omega arith) in
    absurd cc

pub begin_seen : (slots : List Slot) (span : Span) → Some span ≡ option_map span_of (slice_get slots 0) → span.part.first_row ≡ begin_of slots
begin_seen [] span e = absurd cc
begin_seen (s ∷ more) span e = let same : span ≡ span_of s = cc in ap (λ (x : Span). x.part.first_row) same

pub begin_none : (slots : List Slot) → None ≡ option_map span_of (slice_get slots 0) → 0 ≡ begin_of slots
begin_none slots e = ap begin_of (sym (none_first slots (unseen _ (sym e))))

pub first_seen : (slots : List Slot) (span : Span) → Some span ≡ option_map span_of (slice_get slots 0) → span.first ≡ first_of slots
first_seen [] span e = absurd cc
first_seen (s ∷ more) span e = let same : span ≡ span_of s = cc in ap (λ (x : Span). x.first) same

pub first_none : (slots : List Slot) → None ≡ option_map span_of (slice_get slots 0) → pos 0 ≡ first_of slots
first_none slots e = ap first_of (sym (none_first slots (unseen _ (sym e))))

pub end_seen : (slots : List Slot) (span : Span) → Some span ≡ option_map span_of (slice_get slots (length slots - 1)) → span.part.first_row + span.part.rows ≡ end_of slots
end_seen slots span e =
    let s = seen _ span e in
    ap (λ (x : Span). x.part.first_row + x.part.rows) s.2 ∙ end_at slots s.0 s.1

pub end_none : (slots : List Slot) → None ≡ option_map span_of (slice_get slots (length slots - 1)) → 0 ≡ end_of slots
end_none slots e = ap end_of (sym (none_last slots (unseen _ (sym e))))

pub last_seen : (slots : List Slot) (span : Span) → Some span ≡ option_map span_of (slice_get slots (length slots - 1)) → span.last ≡ last_of slots
last_seen slots span e =
    let s = seen _ span e in
    ap (λ (x : Span). x.last) s.2 ∙ last_at slots s.0 s.1

pub last_none : (slots : List Slot) → None ≡ option_map span_of (slice_get slots (length slots - 1)) → pos 0 ≡ last_of slots
last_none slots e = ap last_of (sym (none_last slots (unseen _ (sym e))))

-- ---- what fits an index

-- the tiles of a frame that may be written fit an index behind few rows
pub tiles_fit : (frame : Frame) (cutting : Cutting) (tiles : List Tile) (begin : ℕ) → IsStorable frame → AreTilesOf frame cutting tiles → begin + length frame.rows ≤ 2000000 → AllByRecursion (FitsAt begin) tiles
tiles_fit frame cutting tiles begin storable are few = each tiles (subst (AllByRecursion (LiesIn frame)) (sym are.parts_are) (on_parts (parts (grid_of frame cutting)) (tiled-grid frame cutting are.cutting_is).inside)) are.each
  where
    columns : length frame.schema.columns ≤ 4096
    columns = (frame_within frame storable.within).columns_are

    on_parts : (ps : List Part) → AllByRecursion (λ (t : CutTile). LiesIn frame t.0) (map (λ (p : Part). (p, cut frame p)) ps) → AllByRecursion (LiesIn frame) ps
    on_parts [] all = tt
    on_parts (p ∷ ps) all = (all.0, on_parts ps all.1)

    each : (ts : List Tile) → AllByRecursion (LiesIn frame) (map (λ (t : Tile). t.part) ts) → AllByRecursion (IsTileOf frame) ts → AllByRecursion (FitsAt begin) ts
    each [] lie tiled = tt
    each (t ∷ ts) lie tiled = (
      record {
        first_row = omega (arith, lie.0.0);
        rows = omega (arith, lie.0.0);
        first_col = omega (arith, lie.0.1, columns);
        cols = omega (arith, lie.0.1, columns);
        first = tiled.0.first_fits;
        last = tiled.0.last_fits;
      },
      each ts lie.1 tiled.1,
    )

-- the slots of a run may be moved to a row from which on they are few
pub run_moves : (run : List Slot) (to : ℕ) → MayMove run → to + size_of run < 2 ^ 32 → AllByRecursion (MoveFits (begin_of run) to) run
run_moves run to may few = each (begin_of run) (end_of run) may.0 few run may.2
  where
    each : (from end : ℕ) → from ≤ end → to + (end - from) < 2 ^ 32 → (slots : List Slot) → AllByRecursion (λ (s : Slot). (from ≤ s.part.first_row) × (s.part.first_row + s.part.rows ≤ end)) slots → AllByRecursion (MoveFits from to) slots
    each from end le small [] all = tt
    each from end le small (s ∷ slots) all = ((all.0.0, omega (arith, all.0.0, all.0.1)), each from end le small slots all.1)

-- a moved run is laid out
pub shared_adds : {A E : Type 0} (client : ℕ) (symbol : Name) (version : ℕ) (cutting : Cutting) (p : Piece) (run : List Slot) (old new : Layout) (r : Result A E) → p ≡ pieces.Shared run
    → OnOk r (new.slots ≡ old.slots ++ map (moved (begin_of run) old.rows) run) → OnOk r (new.puts ≡ old.puts) → OnOk r (new.rows ≡ old.rows + size_of run) → OnOk r (new.next ≡ old.next)
    → OnOk r (AddsPiece client symbol version cutting p old new)
shared_adds client symbol version cutting p run old new (Err e) is slots puts rows next = tt
shared_adds client symbol version cutting p run old new (Ok u) is slots puts rows next = subst (λ q. AddsPiece client symbol version cutting q old new) (sym is) (record {
  tiles = [];
  tiled = refl;
  slots = slots ∙ ap (λ l. old.slots ++ l) (sym (run_slots (begin_of run) old.rows run));
  puts = ap puts_seen puts ∙ (sym (append-nil (puts_seen old.puts)) ∙ ap (λ l. puts_seen old.puts ++ l) (sym (shared_puts (begin_of run) old.rows run)));
  rows = rows;
  next = next ∙ omega arith;
  fits = λ small. subst (λ n. n < 2 ^ 64) (sym next) small;
})
