-- The tiles of a grid, one by one.
use Rattle.std.proofs.Common.{◌≡◌, ℕ, zero, suc, ◌+◌, List, [], ◌∷◌, ◌++◌, map, refl, sym, ap, ◌∙◌, subst, arith}
use Rattle.std.specs.List.{flat_map, range_with_len, AllByRecursion}
use Rattle.std.proofs.lemmas.List.{map-append, append_assoc, append-nil}
use Rattle.frame_core.specs.declared.part.Part.{Part}
use Rattle.segment_cut.specs.Grids.{Grid, part_at, block_parts}
use Rattle.frame_write.specs.declared.tiles.Tile.{Tile}

range-more : (a n : ℕ) → range_with_len a (n + 1) ≡ range_with_len a n ++ (a + n) ∷ []
range-more a zero = let same : a + 0 ≡ a = omega arith in rw same refl
range-more a (suc n) =
    let one : suc n + 1 ≡ suc (n + 1) = omega arith in
    let place : (a + 1) + n ≡ a + suc n = omega arith in
    rw one (ap (λ (ks : List ℕ). a ∷ ks) (range-more (a + 1) n ∙ rw place refl))

range_last : (n : ℕ) → range_with_len 0 (n + 1) ≡ range_with_len 0 n ++ n ∷ []
range_last n = let place : 0 + n ≡ n = omega arith in range-more 0 n ∙ ap (λ k. range_with_len 0 n ++ k ∷ []) place

abbrev parts_seen : List Tile → List Part
parts_seen tiles = map (λ (t : Tile). t.part) tiles

-- one part of a block more
pub part_more : (g grid : Grid) (block slice : ℕ) (part : Part) (t : Tile) (olds : List Part) (tiles new : List Tile) → grid ≡ g → part ≡ part_at grid block slice → t.part ≡ part → new ≡ tiles ++ t ∷ []
    → parts_seen tiles ≡ olds ++ map (part_at g block) (range_with_len 0 slice) → parts_seen new ≡ olds ++ map (part_at g block) (range_with_len 0 (slice + 1))
part_more g grid block slice part t olds tiles new grid_is part_is is more are =
    let here : t.part ≡ part_at g block slice = is ∙ (part_is ∙ ap (λ d. part_at d block slice) grid_is) in
    let grown : map (part_at g block) (range_with_len 0 (slice + 1)) ≡ map (part_at g block) (range_with_len 0 slice) ++ part_at g block slice ∷ [] = ap (map (part_at g block)) (range_last slice) ∙ map-append (part_at g block) (range_with_len 0 slice) (slice ∷ []) in
    ap parts_seen more ∙ (map-append (λ (u : Tile). u.part) tiles (t ∷ []) ∙ (ap (λ ps. ps ++ t.part ∷ []) are ∙ (append_assoc olds _ (t.part ∷ []) ∙ (ap (λ p. olds ++ (map (part_at g block) (range_with_len 0 slice) ++ p ∷ [])) here ∙ sym (ap (λ ps. olds ++ ps) grown)))))

-- one tile more
pub each_more : (P : Tile → Type 0) (tiles new : List Tile) (t : Tile) → new ≡ tiles ++ t ∷ [] → AllByRecursion P tiles → P t → AllByRecursion P new
each_more P tiles new t more each here = subst (AllByRecursion P) (sym more) (last tiles each)
  where
    last : (ts : List Tile) → AllByRecursion P ts → AllByRecursion P (ts ++ t ∷ [])
    last [] all = (here, tt)
    last (u ∷ ts) all = (all.0, last ts all.1)

flat_map-more : (h : ℕ → List Part) (ks : List ℕ) (k : ℕ) → flat_map h (ks ++ k ∷ []) ≡ flat_map h ks ++ h k
flat_map-more h [] k = append-nil (h k)
flat_map-more h (j ∷ ks) k = ap (λ (ps : List Part). h j ++ ps) (flat_map-more h ks k) ∙ sym (append_assoc (h j) (flat_map h ks) (h k))

-- one block more
pub block_more : (g : Grid) (block : ℕ) (olds news : List Part) → news ≡ olds ++ block_parts g block → olds ≡ flat_map (block_parts g) (range_with_len 0 block) → news ≡ flat_map (block_parts g) (range_with_len 0 (block + 1))
block_more g block olds news more are =
    more ∙ (ap (λ ps. ps ++ block_parts g block) are ∙ sym (ap (flat_map (block_parts g)) (range_last block) ∙ flat_map-more (block_parts g) (range_with_len 0 block) block))
