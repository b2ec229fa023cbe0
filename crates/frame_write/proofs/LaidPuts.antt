-- What is put for pieces that are laid out: the tiles of the fresh ones, under one serial after another; and their slots.
use Rattle.std.proofs.Common.{◌≡◌, ℕ, suc, ◌+◌, ◌<◌, ◌^◌, pos, List, [], ◌∷◌, ◌++◌, length, map, refl, ap, sym, ◌∙◌, subst, arith, Some, None, append_assoc, length-append}
use Rattle.std.specs.Prelude.{unwrap_or}
use Rattle.std.specs.Arc.{arc_value}
use Rattle.std.specs.List.{AllByRecursion, AllZip}
use Rattle.std.proofs.lemmas.List.{length-map}
use Rattle.frame_core.specs.Frames.{Frame}
use Rattle.segment_cut.specs.Cuttings.{Cutting}
use Rattle.segment_cut.specs.Grids.{parts, grid_of}
use Rattle.index_tree.specs.declared.index.Slot.{Slot}
use Rattle.key_kind.specs.declared.key.KeyKind.TheVariants as kinds
use Rattle.key_kind.specs.declared.key.Key.{Key}
use Rattle.key_kind.specs.Names.{Name}
use Rattle.bucket_core.specs.History.{Bytes}
use Rattle.reply_model.specs.Tries.{IsKeyOf}
use Rattle.frame_write.specs.declared.pieces.Piece.{Piece}
use Rattle.frame_write.specs.declared.pieces.Piece.TheVariants as pieces
use Rattle.frame_write.specs.declared.tiles.Tile.{Tile}
use Rattle.index_tree.specs.SlotTexts.{moved}
use Rattle.frame_write.specs.Pieces.{begin_of, size_of, part_first, part_last, fresh_slot, fresh_slots, laid, new_tiles}
use Rattle.frame_write.specs.Placing.{IsTileOf, AreTilesOf, slot_at, placed, tile_puts}
use Rattle.frame_write.specs.Plans.{ArePutsFrom}
use Rattle.frame_write.specs.Laying.{Laid, slots_laid, puts_laid, behind, fresh_laid, IsTiledPiece, laid_pieces, tiles_in}
use Rattle.frame_write.proofs.ListLemmas.{map_append}
use Rattle.frame_write.proofs.PlanLemmas.{FitsTry, tiles_from}

-- ---- the puts of several

-- the puts of slots behind others
pub puts_append : (xs ys : List Laid) → puts_laid (xs ++ ys) ≡ puts_laid xs ++ puts_laid ys
puts_append [] ys = refl
puts_append ((s, None) ∷ xs) ys = puts_append xs ys
puts_append ((s, Some body) ∷ xs) ys = ap (λ l. (s.key, body) ∷ l) (puts_append xs ys)

-- a run puts nothing
abbrev pub run_laid : ℕ → ℕ → List Slot → List Laid
run_laid from to run = map {B = Laid} (λ (s : Slot). (moved from to s, None)) run

-- nothing is put for a shared run
pub shared_puts : (from to : ℕ) (run : List Slot) → puts_laid (run_laid from to run) ≡ []
shared_puts from to [] = refl
shared_puts from to (s ∷ run) = shared_puts from to run

-- the slots of a shared run are its moved ones
pub run_slots : (from to : ℕ) (run : List Slot) → slots_laid (run_laid from to run) ≡ map (moved from to) run
run_slots from to [] = refl
run_slots from to (s ∷ run) = ap (λ l. moved from to s ∷ l) (run_slots from to run)

all_append : {X : Type 0} (P : X → Type 0) (xs ys : List X) → AllByRecursion P xs → AllByRecursion P ys → AllByRecursion P (xs ++ ys)
all_append P [] ys a b = b
all_append P (x ∷ xs) ys a b = (a.0, all_append P xs ys a.1 b)

module _ (client : ℕ) (symbol : Name) (version : ℕ) where
  -- what is put for the tiles of a new piece
  pub fresh_puts : (to serial : ℕ) (tiles : List Tile) → puts_laid (fresh_laid client symbol version to serial tiles) ≡ tile_puts (placed client symbol version serial tiles)
  fresh_puts to serial [] = refl
  fresh_puts to serial (t ∷ tiles) = ap (λ l. ((slot_at client symbol version serial t).key, arc_value t.body) ∷ l) (fresh_puts to (suc serial) tiles)

  -- the puts of a run and of what follows; and of a fresh piece and of what follows
  puts_behind_run : (from to : ℕ) (run : List Slot) (more : List Laid) → puts_laid (run_laid from to run ++ more) ≡ puts_laid more
  puts_behind_run from to run more = puts_append (run_laid from to run) more ∙ ap (λ ps. ps ++ puts_laid more) (shared_puts from to run)

  puts_behind_fresh : (to serial : ℕ) (tiles : List Tile) (more : List Laid) → puts_laid (fresh_laid client symbol version to serial tiles ++ more) ≡ tile_puts (placed client symbol version serial tiles) ++ puts_laid more
  puts_behind_fresh to serial tiles more = puts_append (fresh_laid client symbol version to serial tiles) more ∙ ap (λ ps. ps ++ puts_laid more) (fresh_puts to serial tiles)

  tiles_counted : (frame : Frame) (cutting : Cutting) (serial : ℕ) (tiles : List Tile) → AreTilesOf frame cutting tiles → length (tile_puts (placed client symbol version serial tiles)) ≡ length (parts (grid_of frame cutting))
  tiles_counted frame cutting serial tiles tiled = counted serial tiles ∙ (sym (length-map tiles (λ (t : Tile). t.part)) ∙ ap length tiled.parts_are)
    where
      counted : (serial : ℕ) (ts : List Tile) → length (tile_puts (placed client symbol version serial ts)) ≡ length ts
      counted serial [] = refl
      counted serial (t ∷ ts) = ap suc (counted (suc serial) ts)

  -- so many are put
  pub puts_counted : (cutting : Cutting) (list : List Piece) (tiles : List (List Tile)) (to serial : ℕ) → AllZip (IsTiledPiece cutting) list tiles
      → length (puts_laid (laid_pieces client symbol version to serial list tiles)) ≡ new_tiles cutting list
  puts_counted cutting [] [] to serial z = refl
  puts_counted cutting [] (t ∷ tiles) to serial z = absurd z
  puts_counted cutting (p ∷ list) [] to serial z = absurd z
  puts_counted cutting (pieces.Shared run ∷ list) (t ∷ tiles) to serial z =
      ap length (puts_behind_run (begin_of run) to run (laid_pieces client symbol version (to + size_of run) (serial + length t) list tiles)) ∙ puts_counted cutting list tiles (to + size_of run) (serial + length t) z.1
  puts_counted cutting (pieces.Fresh g ∷ list) (t ∷ tiles) to serial z =
      let rest : List Laid = laid_pieces client symbol version (to + length g.rows) (serial + length t) list tiles in
      let later : length (puts_laid rest) ≡ new_tiles cutting list = puts_counted cutting list tiles (to + length g.rows) (serial + length t) z.1 in
      let here : length (tile_puts (placed client symbol version serial t)) ≡ length (parts (grid_of g cutting)) = tiles_counted g cutting serial t z.0 in
      ap length (puts_behind_fresh to serial t rest) ∙ (length-append (tile_puts (placed client symbol version serial t)) (puts_laid rest) ∙ (λ i. here i + later i))

  -- what holds of the put of each tile, under whatever serial, holds of each
  pieces_all : (P : Key × Bytes → Type 0) → ((serial : ℕ) (t : Tile) → P ((slot_at client symbol version serial t).key, arc_value t.body)) → (list : List Piece) (tiles : List (List Tile)) (to serial : ℕ)
      → AllByRecursion P (puts_laid (laid_pieces client symbol version to serial list tiles))
  pieces_all P one [] [] to serial = tt
  pieces_all P one [] (t ∷ tiles) to serial = tt
  pieces_all P one (p ∷ list) [] to serial = tt
  pieces_all P one (pieces.Shared run ∷ list) (t ∷ tiles) to serial =
      subst (AllByRecursion P) (sym (puts_behind_run (begin_of run) to run (laid_pieces client symbol version (to + size_of run) (serial + length t) list tiles)))
      (pieces_all P one list tiles (to + size_of run) (serial + length t))
  pieces_all P one (pieces.Fresh g ∷ list) (t ∷ tiles) to serial =
      let rest : List Laid = laid_pieces client symbol version (to + length g.rows) (serial + length t) list tiles in
      subst (AllByRecursion P) (sym (puts_behind_fresh to serial t rest))
      (all_append P (tile_puts (placed client symbol version serial t)) (puts_laid rest) (each serial t) (pieces_all P one list tiles (to + length g.rows) (serial + length t)))
    where
      each : (serial : ℕ) (ts : List Tile) → AllByRecursion P (tile_puts (placed client symbol version serial ts))
      each serial [] = tt
      each serial (t ∷ ts) = (one serial t, each (suc serial) ts)

  -- each is a tile of the symbol, and its key tells the version
  pub pieces_of_symbol : (list : List Piece) (tiles : List (List Tile)) (to serial : ℕ) → AllByRecursion (λ (p : Key × Bytes). IsKeyOf kinds.TableData symbol p.0) (puts_laid (laid_pieces client symbol version to serial list tiles))
  pieces_of_symbol = pieces_all (λ (p : Key × Bytes). IsKeyOf kinds.TableData symbol p.0) (λ serial t. (refl, refl))

  pub pieces_of_version : (list : List Piece) (tiles : List (List Tile)) (to serial : ℕ) → AllByRecursion (λ (p : Key × Bytes). p.0.version ≡ version) (puts_laid (laid_pieces client symbol version to serial list tiles))
  pieces_of_version = pieces_all (λ (p : Key × Bytes). p.0.version ≡ version) (λ serial t. refl)

  -- they may be put one after another, and what follows behind them
  pub pieces_from : (fits : FitsTry client symbol version) (cutting : Cutting) (list : List Piece) (tiles : List (List Tile)) (to serial : ℕ) (rest : List (Key × Bytes)) → AllZip (IsTiledPiece cutting) list tiles
      → serial + tiles_in tiles < 2 ^ 64 → ArePutsFrom client (serial + tiles_in tiles) rest → ArePutsFrom client serial (puts_laid (laid_pieces client symbol version to serial list tiles) ++ rest)
  pieces_from fits cutting [] [] to serial rest z small more = subst (λ n. ArePutsFrom client n rest) (omega arith) more
  pieces_from fits cutting [] (t ∷ tiles) to serial rest z small more = absurd z
  pieces_from fits cutting (p ∷ list) [] to serial rest z small more = absurd z
  pieces_from fits cutting (pieces.Shared run ∷ list) (t ∷ tiles) to serial rest z small more =
      let later_laid : List Laid = laid_pieces client symbol version (to + size_of run) (serial + length t) list tiles in
      let none : length t ≡ 0 = ap length z.0 in
      let next : serial + length t ≡ serial = omega (arith, none) in
      let place : serial + (length t + tiles_in tiles) ≡ (serial + length t) + tiles_in tiles = omega arith in
      let later = pieces_from fits cutting list tiles (to + size_of run) (serial + length t) rest z.1 (omega (arith, small)) (subst (λ n. ArePutsFrom client n rest) place more) in
      subst (λ ps. ArePutsFrom client serial (ps ++ rest)) (sym (puts_behind_run (begin_of run) to run later_laid)) (subst (λ n. ArePutsFrom client n (puts_laid later_laid ++ rest)) next later)
  pieces_from fits cutting (pieces.Fresh g ∷ list) (t ∷ tiles) to serial rest z small more =
      let later_laid : List Laid = laid_pieces client symbol version (to + length g.rows) (serial + length t) list tiles in
      let place : serial + (length t + tiles_in tiles) ≡ (serial + length t) + tiles_in tiles = omega arith in
      let later = pieces_from fits cutting list tiles (to + length g.rows) (serial + length t) rest z.1 (omega (arith, small)) (subst (λ n. ArePutsFrom client n rest) place more) in
      let first = tiles_from client symbol version g fits serial t (puts_laid later_laid ++ rest) (omega (arith, small)) z.0.each later in
      subst (ArePutsFrom client serial) (sym (ap (λ ps. ps ++ rest) (puts_behind_fresh to serial t later_laid) ∙ append_assoc (tile_puts (placed client symbol version serial t)) (puts_laid later_laid) rest)) first

  -- ---- the slots

  fresh_slots_are : (g : Frame) (to serial : ℕ) (tiles : List Tile) → AllByRecursion (IsTileOf g) tiles
      → slots_laid (fresh_laid client symbol version to serial tiles) ≡ fresh_slots client symbol version to serial g (map (λ (t : Tile). t.part) tiles)
  fresh_slots_are g to serial [] each = refl
  fresh_slots_are g to serial (t ∷ tiles) each =
      let first : t.first ≡ part_first g t.part = ap (λ o. unwrap_or o (pos 0)) (sym each.0.first) in
      let last : t.last ≡ part_last g t.part = ap (λ o. unwrap_or o (pos 0)) (sym each.0.last) in
      let here : behind to (slot_at client symbol version serial t) ≡ fresh_slot client symbol version to serial g t.part = λ i. record {
        key = record { kind = kinds.TableData; name = symbol; client = client; serial = serial; version = version; first = first i; last = last i };
        part = record t.part { first_row = t.part.first_row + to };
        first = first i;
        last = last i;
      } in
      let rest : slots_laid (fresh_laid client symbol version to (suc serial) tiles) ≡ fresh_slots client symbol version to (suc serial) g (map (λ (t : Tile). t.part) tiles) = fresh_slots_are g to (suc serial) tiles each.1 in
      λ i. here i ∷ rest i

  -- they are those of the pieces
  pub slots_are_laid : (cutting : Cutting) (list : List Piece) (tiles : List (List Tile)) (to serial : ℕ) → AllZip (IsTiledPiece cutting) list tiles
      → slots_laid (laid_pieces client symbol version to serial list tiles) ≡ laid cutting client symbol version to serial list
  slots_are_laid cutting [] [] to serial z = refl
  slots_are_laid cutting [] (t ∷ tiles) to serial z = absurd z
  slots_are_laid cutting (p ∷ list) [] to serial z = absurd z
  slots_are_laid cutting (pieces.Shared run ∷ list) (t ∷ tiles) to serial z =
      let rest : List Laid = laid_pieces client symbol version (to + size_of run) (serial + length t) list tiles in
      let none : length t ≡ 0 = ap length z.0 in
      let next : serial + length t ≡ serial = omega (arith, none) in
      let later : slots_laid rest ≡ laid cutting client symbol version (to + size_of run) serial list =
      slots_are_laid cutting list tiles (to + size_of run) (serial + length t) z.1 ∙ ap (λ n. laid cutting client symbol version (to + size_of run) n list) next in
      let here : slots_laid (run_laid (begin_of run) to run) ≡ map (moved (begin_of run) to) run = run_slots (begin_of run) to run in
      map_append (λ (x : Laid). x.0) (run_laid (begin_of run) to run) rest ∙ (λ i. here i ++ later i)
  slots_are_laid cutting (pieces.Fresh g ∷ list) (t ∷ tiles) to serial z =
      let rest : List Laid = laid_pieces client symbol version (to + length g.rows) (serial + length t) list tiles in
      let count : length t ≡ length (parts (grid_of g cutting)) = sym (length-map t (λ (u : Tile). u.part)) ∙ ap length z.0.parts_are in
      let later : slots_laid rest ≡ laid cutting client symbol version (to + length g.rows) (serial + length (parts (grid_of g cutting))) list =
      slots_are_laid cutting list tiles (to + length g.rows) (serial + length t) z.1 ∙ ap (λ n. laid cutting client symbol version (to + length g.rows) (serial + n) list) count in
      let here : slots_laid (fresh_laid client symbol version to serial t) ≡ fresh_slots client symbol version to serial g (parts (grid_of g cutting)) =
      fresh_slots_are g to serial t z.0.each ∙ ap (fresh_slots client symbol version to serial g) z.0.parts_are in
      map_append (λ (x : Laid). x.0) (fresh_laid client symbol version to serial t) rest ∙ (λ i. here i ++ later i)
