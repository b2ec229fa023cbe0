-- A frame is cut into as many tiles as its blocks have.
use Rattle.std.proofs.Common.{◌≡◌, ℕ, zero, suc, ◌+◌, ◌-◌, ◌≤◌, ◌<◌, Bool, true, false, ◌++◌, Some, subst, List, [], ◌∷◌, map, length, refl, sym, ◌∙◌, ap, arith, length-append, cond}
use Rattle.std.specs.Prelude.{ℤ, filter, nat_eq, ◌*◌, ◌/◌, ◌%◌, min, max, replicate, sum_by}
use Rattle.std.specs.List.{flat_map, range_with_len, AllByRecursion, AllZip}
use Rattle.std.specs.Int.{div_ceil}
use Rattle.std.proofs.Math.Nat.{suc-mul, mod-lt, mul-le-mul, mul-le-mul_right}
use Rattle.std.proofs.lemmas.Nat.{div-add-mod'}
use Rattle.std.proofs.lemmas.Bool.{ne_eqb}
use Rattle.std.proofs.lemmas.List.Concat.{flat_map-cons}
use Rattle.frame_core.specs.declared.part.Part as frame_parts
use Rattle.index_tree.specs.declared.index.Slot.{Slot}
use Rattle.key_kind.specs.Names.{Name}
use Rattle.key_kind.specs.declared.key.Key.{Key}
use Rattle.bucket_core.specs.declared.event.Change.TheVariants as changes
use Rattle.bucket_core.specs.History.{History}
use Rattle.store_model.specs.Library.{first_of}
use Rattle.store_model.specs.Links.{Linked, links}
use Rattle.std.proofs.lemmas.Bool.{eq-eqb}
use Rattle.std.proofs.lemmas.List.{length-replicate}
use Rattle.std.proofs.lemmas.List.Sums.{sum_by-cons}
use Rattle.std.proofs.lemmas.List.Concat.{length-flat_map}
use Rattle.std.proofs.lemmas.List.FromFn.{length-range_with_len, length-map-range_with_len}
use Rattle.frame_core.specs.Frames.{Frame}
use Rattle.segment_cut.specs.Grids.{Grid, row_blocks, col_blocks, part_at, block_parts, parts, grid_of}
use Rattle.reply_model.specs.Blocks.{Cutting, Block, some_rows, block_sizes, tiles_across, fresh, cut_rows, blocks_from, tiles_in, made_for}
use Rattle.reply_model.specs.Keyed.{with_key, begins_block, block_keys, IsKeyedPart}
use Rattle.reply_model.specs.Standing.{grid_cutting, tiles_cut, row_sizes, part_rows, fresh_in, IsLaid}

-- the sum of one number
sum_of_one : {X : Type 0} (f : X → ℕ) (k : ℕ) → ((x : X) → f x ≡ k) → (xs : List X) → sum_by f xs ≡ length xs * k
sum_of_one f k each [] = omega arith
sum_of_one f k each (x ∷ xs) = sum_by-cons f x xs ∙ (omega (arith, each x, sum_of_one f k each xs, suc-mul (length xs) k))

-- a part of the rest is one block or none
rest_counted : (m : ℕ) → length (some_rows m) ≡ min 1 m
rest_counted zero = refl
rest_counted (suc n) = omega arith

-- the blocks of rows are as many as those of the grid
sizes_counted : (c : Cutting) (rows : ℕ) → length (block_sizes c rows) ≡ div_ceil rows c.rows
sizes_counted c rows = length-append (replicate (rows / c.rows) c.rows) (some_rows (rows % c.rows))
    ∙ (ap (λ k. k + length (some_rows (rows % c.rows))) (length-replicate (rows / c.rows) c.rows) ∙ ap (λ k. rows / c.rows + k) (rest_counted (rows % c.rows)))

-- and the slices of columns too
pub across_counted : (c : Cutting) (columns : ℕ) → tiles_across c columns ≡ max 1 (div_ceil columns c.columns)
across_counted c columns = ap (λ k. max 1 (columns / c.columns + k)) (rest_counted (columns % c.columns))

-- new blocks of one version, of so many tiles each
fresh_counted : (version tiles n : ℕ) (sizes : List ℕ) → tiles_in (made_for version (blocks_from version tiles n (map fresh sizes))) ≡ length sizes * tiles
fresh_counted version tiles n [] = omega arith
fresh_counted version tiles n (rows ∷ sizes) =
    let block : Block = record { version = version; number = n; rows = rows; tiles = tiles } in
    let more = made_for version (blocks_from version tiles (suc n) (map fresh sizes)) in
    ap (λ b. tiles_in (cond b (block ∷ more) more)) (eq-eqb version version refl)
    ∙ (sum_by-cons (λ (x : Block). x.tiles) block more ∙ omega (arith, fresh_counted version tiles (suc n) sizes, suc-mul (length sizes) tiles))

-- the parts of a grid
parts_counted : (grid : Grid) → length (parts grid) ≡ row_blocks grid * col_blocks grid
parts_counted grid = length-flat_map (block_parts grid) (range_with_len 0 (row_blocks grid))
    ∙ (sum_of_one (λ block. length (block_parts grid block)) (col_blocks grid) (λ block. length-map-range_with_len (part_at grid block) 0 (col_blocks grid)) (range_with_len 0 (row_blocks grid))
    ∙ ap (λ k. k * col_blocks grid) (length-range_with_len 0 (row_blocks grid)))

-- the tiles of new blocks for all rows of a frame are as many as the parts of its grid
pub tiles_counted : (c : Cutting) (frame : Frame) (version : ℕ)
    → tiles_in (made_for version (blocks_from version (tiles_across c (length frame.schema.columns)) 0 (cut_rows c (length frame.rows)))) ≡ tiles_cut c frame
tiles_counted c frame version = fresh_counted version (tiles_across c (length frame.schema.columns)) 0 (block_sizes c (length frame.rows))
    ∙ (ap (λ k. k * tiles_across c (length frame.schema.columns)) (sizes_counted c (length frame.rows))
    ∙ (ap (λ k. div_ceil (length frame.rows) c.rows * k) (across_counted c (length frame.schema.columns))
    ∙ sym (parts_counted (grid_of frame (grid_cutting c)))))

-- so are the tiles of a write
pub write_counted : (c : Cutting) (frame : Frame) → fresh_in (cut_rows c (length frame.rows)) * tiles_across c (length frame.schema.columns) ≡ tiles_cut c frame
write_counted c frame =
    ap (λ k. k * tiles_across c (length frame.schema.columns)) (fresh_all (block_sizes c (length frame.rows)) ∙ sizes_counted c (length frame.rows))
    ∙ (ap (λ k. div_ceil (length frame.rows) c.rows * k) (across_counted c (length frame.schema.columns)) ∙ sym (parts_counted (grid_of frame (grid_cutting c))))
  where
    fresh_all : (sizes : List ℕ) → fresh_in (map fresh sizes) ≡ length sizes
    fresh_all [] = refl
    fresh_all (n ∷ sizes) = ap (λ k. suc k) (fresh_all sizes)

-- ---- the rows of the parts

-- full blocks
full_rows : (n size a q : ℕ) → (a + q) * size ≤ n → map (λ k. min size (n - k * size)) (range_with_len a q) ≡ replicate q size
full_rows n size a zero within = refl
full_rows n size a (suc q) within =
    let next : (a + 1) * size ≤ (a + suc q) * size = mul-le-mul_right size (omega arith) in
    let step : (a + 1) * size ≡ a * size + size = omega arith in
    let first : min size (n - a * size) ≡ size = omega (arith, within, next, step) in
    let later : ((a + 1) + q) * size ≤ n = subst (λ k. k * size ≤ n) (omega arith) within in
    ap (λ k. k ∷ map (λ x. min size (n - x * size)) (range_with_len (a + 1) q)) first ∙ ap (λ ks. size ∷ ks) (full_rows n size (a + 1) q later)

-- and a last one
last_rows : (n size q r : ℕ) → n ≡ q * size + r → r < size → map (λ k. min size (n - k * size)) (range_with_len q (min 1 r)) ≡ some_rows r
last_rows n size q zero is less = refl
last_rows n size q (suc r) is less =
    let one : min 1 (suc r) ≡ 1 = omega arith in
    let first : min size (n - q * size) ≡ suc r = omega (arith, is, less) in
    ap (λ m. map (λ k. min size (n - k * size)) (range_with_len q m)) one ∙ ap (λ k. k ∷ []) first

ranges_split : (f : ℕ → ℕ) (a q m : ℕ) → map f (range_with_len a (q + m)) ≡ map f (range_with_len a q) ++ map f (range_with_len (a + q) m)
ranges_split f a zero m =
    let none : zero + m ≡ m = omega arith in
    let same : a ≡ a + zero = omega arith in
    ap (λ k. map f (range_with_len a k)) none ∙ ap (λ k. map f (range_with_len k m)) same
ranges_split f a (suc q) m =
    let more : suc q + m ≡ suc (q + m) = omega arith in
    let same : (a + 1) + q ≡ a + suc q = omega arith in
    ap (λ k. map f (range_with_len a k)) more ∙ ap (λ ks. f a ∷ ks) (ranges_split f (a + 1) q m ∙ ap (λ k. map f (range_with_len (a + 1) q) ++ map f (range_with_len k m)) same)

blocks_sized : (c : Cutting) (n : ℕ) → 1 ≤ c.rows → map (λ k. min c.rows (n - k * c.rows)) (range_with_len 0 (div_ceil n c.rows)) ≡ block_sizes c n
blocks_sized c n some =
    let q : ℕ = n / c.rows in
    let r : ℕ = n % c.rows in
    let is : q * c.rows + r ≡ n = div-add-mod' n c.rows in
    let less : r < c.rows = mod-lt n some in
    let within : (0 + q) * c.rows ≤ n = omega (arith, is) in
    let from : 0 + q ≡ q = omega arith in
    ranges_split (λ k. min c.rows (n - k * c.rows)) 0 q (min 1 r)
    ∙ (ap (λ ks. ks ++ map (λ k. min c.rows (n - k * c.rows)) (range_with_len (0 + q) (min 1 r))) (full_rows n c.rows 0 q within)
    ∙ ap (λ ks. replicate q c.rows ++ ks) (ap (λ a. map (λ k. min c.rows (n - k * c.rows)) (range_with_len a (min 1 r))) from ∙ last_rows n c.rows q r (sym is) less))

-- ---- the tiles of the first columns

-- a part of the first columns
abbrev leads : frame_parts.Part → Bool
leads x = nat_eq x.first_col 0

none_lead : (grid : Grid) (block a m : ℕ) → 1 ≤ a → 1 ≤ grid.cutting.cols → filter leads (map (part_at grid block) (range_with_len a m)) ≡ []
none_lead grid block a zero some cols = refl
none_lead grid block a (suc m) some cols =
    let more : 1 * 1 ≤ a * grid.cutting.cols = mul-le-mul some cols in
    let no : nat_eq (a * grid.cutting.cols) 0 ≡ false = ne_eqb (a * grid.cutting.cols) 0 (λ e. omega (arith, e, more)) in
    ap (λ b. cond b (part_at grid block a ∷ filter leads (map (part_at grid block) (range_with_len (a + 1) m))) (filter leads (map (part_at grid block) (range_with_len (a + 1) m)))) no
    ∙ none_lead grid block (a + 1) m (omega arith) cols

first_leads : (grid : Grid) (block m : ℕ) → 1 ≤ m → 1 ≤ grid.cutting.cols → filter leads (map (part_at grid block) (range_with_len 0 m)) ≡ part_at grid block 0 ∷ []
first_leads grid block zero some cols = absurd (omega (arith, some))
first_leads grid block (suc m) some cols =
    let first : 0 * grid.cutting.cols ≡ 0 = omega arith in
    ap (λ b. cond b (part_at grid block 0 ∷ filter leads (map (part_at grid block) (range_with_len (0 + 1) m))) (filter leads (map (part_at grid block) (range_with_len (0 + 1) m)))) (eq-eqb (0 * grid.cutting.cols) 0 first)
    ∙ ap (λ ps. part_at grid block 0 ∷ ps) (none_lead grid block (0 + 1) m (omega arith) cols)

filtered_append : (xs ys : List frame_parts.Part) → filter leads (xs ++ ys) ≡ filter leads xs ++ filter leads ys
filtered_append [] ys = refl
filtered_append (x ∷ xs) ys = elim (leads x) as (λ b. cond b (x ∷ filter leads (xs ++ ys)) (filter leads (xs ++ ys)) ≡ cond b (x ∷ filter leads xs) (filter leads xs) ++ filter leads ys) [
  | true ↦ ap (λ ps. x ∷ ps) (filtered_append xs ys)
  | false ↦ filtered_append xs ys
]

rows_lead : (grid : Grid) (blocks : List ℕ) → 1 ≤ grid.cutting.cols
    → map (λ (x : frame_parts.Part). x.rows) (filter leads (flat_map (block_parts grid) blocks)) ≡ map (λ k. min grid.cutting.rows (grid.rows - k * grid.cutting.rows)) blocks
rows_lead grid [] cols = refl
rows_lead grid (k ∷ blocks) cols =
    ap (λ ps. map (λ (x : frame_parts.Part). x.rows) (filter leads ps)) (flat_map-cons (block_parts grid) k blocks)
    ∙ (ap (λ ps. map (λ (x : frame_parts.Part). x.rows) ps) (filtered_append (block_parts grid k) (flat_map (block_parts grid) blocks))
    ∙ (ap (λ ps. map (λ (x : frame_parts.Part). x.rows) (ps ++ filter leads (flat_map (block_parts grid) blocks))) (first_leads grid k (col_blocks grid) (omega arith) cols)
    ∙ ap (λ ns. min grid.cutting.rows (grid.rows - k * grid.cutting.rows) ∷ ns) (rows_lead grid blocks cols)))

slots_lead : (slots : List Slot) → row_sizes slots ≡ map (λ (x : frame_parts.Part). x.rows) (filter leads (map (λ (s : Slot). s.part) slots))
slots_lead [] = refl
slots_lead (s ∷ slots) = elim (leads s.part) as (λ b. map (λ (x : Slot). x.part.rows) (cond b (s ∷ filter (λ (x : Slot). nat_eq x.part.first_col 0) slots) (filter (λ (x : Slot). nat_eq x.part.first_col 0) slots))
    ≡ map (λ (x : frame_parts.Part). x.rows) (cond b (s.part ∷ filter leads (map (λ (x : Slot). x.part) slots)) (filter leads (map (λ (x : Slot). x.part) slots)))) [
      | true ↦ ap (λ ns. s.part.rows ∷ ns) (slots_lead slots)
      | false ↦ slots_lead slots
    ]

-- an index of a frame's grid has the rows of its blocks
pub grid_rows : (c : Cutting) (frame : Frame) (slots : List Slot) → 1 ≤ c.rows → 1 ≤ c.columns → map (λ (s : Slot). s.part) slots ≡ parts (grid_of frame (grid_cutting c)) → row_sizes slots ≡ block_sizes c (length frame.rows)
grid_rows c frame slots rows columns are =
    slots_lead slots ∙ (ap (λ ps. map (λ (x : frame_parts.Part). x.rows) (filter leads ps)) are
    ∙ (rows_lead (grid_of frame (grid_cutting c)) (range_with_len 0 (row_blocks (grid_of frame (grid_cutting c)))) columns ∙ blocks_sized c (length frame.rows) rows))

-- ---- the keys of the row blocks

-- here a row block begins, or there are no more parts
abbrev begins : List frame_parts.Part → Bool
begins [] = true
begins (x ∷ ps) = leads x

-- one tile more in the first row block
abbrev one_tile : List ℕ → List ℕ
one_tile [] = 1 ∷ []
one_tile (n ∷ ns) = suc n ∷ ns

-- how many parts each row block has
abbrev block_lengths : List frame_parts.Part → List ℕ
block_lengths [] = []
block_lengths (x ∷ ps) = cond (begins ps) (1 ∷ block_lengths ps) (one_tile (block_lengths ps))

begins_same : (slots : List Slot) → begins_block slots ≡ begins (map (λ (s : Slot). s.part) slots)
begins_same [] = refl
begins_same (s ∷ slots) = refl

one_key : (key : Key) (blocks : List (List Key)) → map (λ (ks : List Key). length ks) (with_key key blocks) ≡ one_tile (map (λ (ks : List Key). length ks) blocks)
one_key key [] = refl
one_key key (ks ∷ blocks) = refl

-- an index has as many keys in each
keys_counted : (slots : List Slot) → map (λ (ks : List Key). length ks) (block_keys slots) ≡ block_lengths (map (λ (s : Slot). s.part) slots)
keys_counted [] = refl
keys_counted (s ∷ slots) =
    elim (begins_block slots) as (λ b. map (λ (ks : List Key). length ks) (cond b ((s.key ∷ []) ∷ block_keys slots) (with_key s.key (block_keys slots)))
    ≡ cond b (1 ∷ map (λ (ks : List Key). length ks) (block_keys slots)) (one_tile (map (λ (ks : List Key). length ks) (block_keys slots)))) [
      | true ↦ refl
      | false ↦ one_key s.key (block_keys slots)
    ]
    ∙ (ap (λ b. cond b (1 ∷ map (λ (ks : List Key). length ks) (block_keys slots)) (one_tile (map (λ (ks : List Key). length ks) (block_keys slots)))) (begins_same slots)
    ∙ ap (λ ns. cond (begins (map (λ (x : Slot). x.part) slots)) (1 ∷ ns) (one_tile ns)) (keys_counted slots))

others_follow : (grid : Grid) (block a m : ℕ) → 1 ≤ a → 1 ≤ grid.cutting.cols → AllByRecursion (λ (x : frame_parts.Part). leads x ≡ false) (map (part_at grid block) (range_with_len a m))
others_follow grid block a zero some cols = tt
others_follow grid block a (suc m) some cols =
    let more : 1 * 1 ≤ a * grid.cutting.cols = mul-le-mul some cols in
    (ne_eqb (a * grid.cutting.cols) 0 (λ e. omega (arith, e, more)), others_follow grid block (a + 1) m (omega arith) cols)

-- a block's first part, others that do not begin one, and what is behind it
one_block : (x : frame_parts.Part) (others rest : List frame_parts.Part) → AllByRecursion (λ (p : frame_parts.Part). leads p ≡ false) others → begins rest ≡ true
    → block_lengths (x ∷ others ++ rest) ≡ suc (length others) ∷ block_lengths rest
one_block x [] rest all first = ap (λ b. cond b (1 ∷ block_lengths rest) (one_tile (block_lengths rest))) first
one_block x (p ∷ others) rest all first =
    ap (λ b. cond b (1 ∷ block_lengths (p ∷ others ++ rest)) (one_tile (block_lengths (p ∷ others ++ rest)))) all.0 ∙ ap one_tile (one_block p others rest all.1 first)

block_counted : (grid : Grid) (block m : ℕ) (rest : List frame_parts.Part) → 1 ≤ m → 1 ≤ grid.cutting.cols → begins rest ≡ true → block_lengths (map (part_at grid block) (range_with_len 0 m) ++ rest) ≡ m ∷ block_lengths rest
block_counted grid block zero rest some cols first = absurd (omega (arith, some))
block_counted grid block (suc m) rest some cols first =
    one_block (part_at grid block 0) (map (part_at grid block) (range_with_len (0 + 1) m)) rest (others_follow grid block (0 + 1) m (omega arith) cols) first
    ∙ ap (λ n. suc n ∷ block_lengths rest) (length-map-range_with_len (part_at grid block) (0 + 1) m)

blocks_begin : (grid : Grid) (blocks : List ℕ) → begins (flat_map (block_parts grid) blocks) ≡ true
blocks_begin grid [] = refl
blocks_begin grid (k ∷ blocks) = ap begins (flat_map-cons (block_parts grid) k blocks) ∙ first (col_blocks grid) (omega arith) (flat_map (block_parts grid) blocks)
  where
    first : (m : ℕ) → 1 ≤ m → (rest : List frame_parts.Part) → begins (map (part_at grid k) (range_with_len 0 m) ++ rest) ≡ true
    first zero some rest = absurd (omega (arith, some))
    first (suc m) some rest = let none : 0 * grid.cutting.cols ≡ 0 = omega arith in eq-eqb (0 * grid.cutting.cols) 0 none

-- each block of a grid has a part for each slice
grid_counted : (grid : Grid) (blocks : List ℕ) → 1 ≤ grid.cutting.cols → block_lengths (flat_map (block_parts grid) blocks) ≡ map (λ k. col_blocks grid) blocks
grid_counted grid [] cols = refl
grid_counted grid (k ∷ blocks) cols =
    ap block_lengths (flat_map-cons (block_parts grid) k blocks)
    ∙ (block_counted grid k (col_blocks grid) (flat_map (block_parts grid) blocks) (omega arith) cols (blocks_begin grid blocks) ∙ ap (λ ns. col_blocks grid ∷ ns) (grid_counted grid blocks cols))

-- new parts have so many keys each
fresh_keyed : (names : Block → List Key) (slices : ℕ) (sizes : List ℕ) (blocks : List (List Key)) (ks : List ℕ) → map (λ (keys : List Key). length keys) blocks ≡ map (λ k. slices) ks → length ks ≡ length sizes
    → AllZip (IsKeyedPart names slices) (map fresh sizes) blocks
fresh_keyed names slices [] [] ks is size = tt
fresh_keyed names slices [] (keys ∷ blocks) [] is size = absurd cc
fresh_keyed names slices [] (keys ∷ blocks) (k ∷ ks) is size = absurd (omega (arith, size))
fresh_keyed names slices (n ∷ sizes) blocks [] is size = absurd (omega (arith, size))
fresh_keyed names slices (n ∷ sizes) [] (k ∷ ks) is size = absurd cc
fresh_keyed names slices (n ∷ sizes) (keys ∷ blocks) (k ∷ ks) is size =
    (first_is (length keys) slices (map (λ (x : List Key). length x) blocks) (map (λ x. slices) ks) is, fresh_keyed names slices sizes blocks ks (rest_is (length keys) slices (map (λ (x : List Key). length x) blocks) (map (λ x. slices) ks) is) (omega (arith, size)))
  where
    first_is : (a b : ℕ) (xs ys : List ℕ) → a ∷ xs ≡ b ∷ ys → a ≡ b
    first_is a b xs ys e = cc

    rest_is : (a b : ℕ) (xs ys : List ℕ) → a ∷ xs ≡ b ∷ ys → xs ≡ ys
    rest_is a b xs ys e = cc

-- ---- a write that cuts its whole frame is laid out

pub write_is_laid : (c : Cutting) (symbol : Name) (whole : Frame) (at : ℤ) (place : ℕ) (old new : History) (link : Linked) → 1 ≤ c.rows → 1 ≤ c.columns → first_of (links new symbol) ≡ Some link
    → map (λ (s : Slot). s.part) link.index.slots ≡ parts (grid_of whole (grid_cutting c)) → place ≡ length old + (tiles_cut c whole + 3) → IsLaid c symbol (changes.Wrote whole at) place old new
write_is_laid c symbol whole at place old new link rows columns newest are here = record {
  some_rows = rows;
  tiles = here ∙ ap (λ n. length old + (n + 3)) (sym (write_counted c whole));
  link = link;
  newest = newest;
  rows = grid_rows c whole link.index.slots rows columns are ∙ sizes_of (block_sizes c (length whole.rows));
  keys = λ blocks names rows_are names_are. fresh_keyed names (tiles_across c (length whole.schema.columns)) (block_sizes c (length whole.rows)) (block_keys link.index.slots)
      (range_with_len 0 (row_blocks (grid_of whole (grid_cutting c))))
      (keys_counted link.index.slots ∙ (ap block_lengths are ∙ (grid_counted (grid_of whole (grid_cutting c)) (range_with_len 0 (row_blocks (grid_of whole (grid_cutting c)))) columns
      ∙ ap (λ n. map (λ k. n) (range_with_len 0 (row_blocks (grid_of whole (grid_cutting c))))) (sym (across_counted c (length whole.schema.columns))))))
      (length-range_with_len 0 (row_blocks (grid_of whole (grid_cutting c))) ∙ sym (sizes_counted c (length whole.rows)));
}
  where
    sizes_of : (sizes : List ℕ) → sizes ≡ map part_rows (map fresh sizes)
    sizes_of [] = refl
    sizes_of (n ∷ sizes) = ap (λ ns. n ∷ ns) (sizes_of sizes)
