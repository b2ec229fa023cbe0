-- The tiles of a grid, one by one.
use Rattle.std.proofs.Common.{◌≡◌, ℕ, zero, suc, ◌+◌, List, [], ◌∷◌, ◌++◌, map, refl, sym, ap, ◌∙◌, arith}
use Rattle.std.specs.List.{flat_map, range_with_len}
use Rattle.std.proofs.lemmas.List.{map-append, append_assoc, append-nil}
use Rattle.frame_core.specs.declared.part.Part.{Part}
use Rattle.frame_core.specs.Frames.{Frame}
use Rattle.segment_cut.specs.Tiles.{Tile, cut}
use Rattle.segment_cut.specs.Grids.{Grid, part_at, block_parts}

range-more : (a n : ℕ) → range_with_len a (n + 1) ≡ range_with_len a n ++ (a + n) ∷ []
range-more a zero = let same : a + 0 ≡ a = omega arith in rw same refl
range-more a (suc n) =
    let one : suc n + 1 ≡ suc (n + 1) = omega arith in
    let place : (a + 1) + n ≡ a + suc n = omega arith in
    rw one (ap (λ (ks : List ℕ). a ∷ ks) (range-more (a + 1) n ∙ rw place refl))

-- one tile of a block more
pub tile-more : (f : Frame) (g grid : Grid) (block slice : ℕ) (part : Part) (tile : Frame) (olds tiles new : List Tile) → grid ≡ g → part ≡ part_at grid block slice → tile ≡ cut f part → new ≡ tiles ++ (part, tile) ∷ [] → tiles ≡ olds ++ map (λ p. (p, cut f p)) (map (part_at g block) (range_with_len 0 slice)) → new ≡ olds ++ map (λ p. (p, cut f p)) (map (part_at g block) (range_with_len 0 (slice + 1)))
tile-more f g grid block slice part tile olds tiles new grid_is part_is tile_is more are =
    let place : 0 + slice ≡ slice = omega arith in
    let last : range_with_len 0 (slice + 1) ≡ range_with_len 0 slice ++ slice ∷ [] = range-more 0 slice ∙ ap (λ k. range_with_len 0 slice ++ k ∷ []) place in
    let tile_of : Part → Tile = λ p. (p, cut f p) in
    let grown : map tile_of (map (part_at g block) (range_with_len 0 (slice + 1))) ≡ map tile_of (map (part_at g block) (range_with_len 0 slice)) ++ tile_of (part_at g block slice) ∷ [] = ap (λ ks. map tile_of (map (part_at g block) ks)) last ∙ ap (map tile_of) (map-append (part_at g block) (range_with_len 0 slice) (slice ∷ [])) ∙ map-append tile_of (map (part_at g block) (range_with_len 0 slice)) (part_at g block slice ∷ []) in
    let made : (part, tile) ≡ tile_of (part_at g block slice) = rw (tile_is, part_is, grid_is) refl in
    more ∙ ap (λ (ts : List Tile). ts ++ (part, tile) ∷ []) are ∙ append_assoc olds _ ((part, tile) ∷ []) ∙ ap (λ (t : Tile). olds ++ (map tile_of (map (part_at g block) (range_with_len 0 slice)) ++ t ∷ [])) made ∙ sym (ap (λ (ts : List Tile). olds ++ ts) grown)

flat_map-more : (h : ℕ → List Part) (ks : List ℕ) (k : ℕ) → flat_map h (ks ++ k ∷ []) ≡ flat_map h ks ++ h k
flat_map-more h [] k = append-nil (h k)
flat_map-more h (j ∷ ks) k = ap (λ (ps : List Part). h j ++ ps) (flat_map-more h ks k) ∙ sym (append_assoc (h j) (flat_map h ks) (h k))

-- the tiles of one block more
pub block-more : (f : Frame) (g : Grid) (block : ℕ) (tiles new : List Tile) → new ≡ tiles ++ map (λ p. (p, cut f p)) (block_parts g block) → tiles ≡ map (λ p. (p, cut f p)) (flat_map (block_parts g) (range_with_len 0 block)) → new ≡ map (λ p. (p, cut f p)) (flat_map (block_parts g) (range_with_len 0 (block + 1)))
block-more f g block tiles new more are =
    let place : 0 + block ≡ block = omega arith in
    let last : range_with_len 0 (block + 1) ≡ range_with_len 0 block ++ block ∷ [] = range-more 0 block ∙ ap (λ k. range_with_len 0 block ++ k ∷ []) place in
    let tile_of : Part → Tile = λ p. (p, cut f p) in
    let grown : map tile_of (flat_map (block_parts g) (range_with_len 0 (block + 1))) ≡ map tile_of (flat_map (block_parts g) (range_with_len 0 block)) ++ map tile_of (block_parts g block) = ap (λ ks. map tile_of (flat_map (block_parts g) ks)) last ∙ ap (map tile_of) (flat_map-more (block_parts g) (range_with_len 0 block) block) ∙ map-append tile_of (flat_map (block_parts g) (range_with_len 0 block)) (block_parts g block) in
    more ∙ ap (λ (ts : List Tile). ts ++ map tile_of (block_parts g block)) are ∙ sym grown
