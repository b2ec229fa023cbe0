-- The row blocks of versions: how rows are cut, which blocks a new version shares with its base, and which are stored.
--     Cutting, run_cutting      the most rows of a block, and the most columns of a tile; those of a cutting of frames
--     Block               a row block: by which version it was made, its number there, its rows and its tiles
--     parts_of            what a change makes of its base's blocks: shared ones, and new ones of so many rows
--     Shape               of a symbol: the blocks of its versions, and what is stored
--     shape_after, swept  a commit makes blocks, an index and an element; a reclaim drops what is not needed
use Rattle.std.specs.Prelude.{ℕ, zero, suc, ◌+◌, ◌-◌, ◌/◌, ◌%◌, max, Bool, ◌&&◌, not, if◌then◌else◌, List, [], ◌∷◌, ◌++◌, map, length, filter, flat_map, find, replicate, sum_by, Option, Some, None, nat_eq, nat_le}
use Rattle.std.specs.Option.{option_map_or}
use Rattle.std.specs.List.{list_any}
use Rattle.frame_core.specs.Frames.{rows_between}
use Rattle.segment_cut.specs.Cuttings.{Cutting as Sizes}
use Rattle.bucket_core.specs.declared.event.PieceName.{PieceName}
use Rattle.bucket_core.specs.declared.event.Change.{Change}
use Rattle.bucket_core.specs.declared.event.Change.TheVariants as changes
use Rattle.store_model.specs.Library.{State, Version, base_of, is_kept, is_consumed, new_version}

-- the most rows of a block, and the most columns of a tile
pub record Cutting : Type 0 where
  pub rows : ℕ
  pub columns : ℕ

-- the cutting of frames, as a run of one client alone has it
abbrev pub run_cutting : Sizes → Cutting
run_cutting c = record { rows = c.rows; columns = c.cols }

-- a row block: the version that it was made for, its number among those made with it, its rows and its tiles
pub record Block : Type 0 where
  pub version : ℕ
  pub number : ℕ
  pub rows : ℕ
  pub tiles : ℕ

-- ---- cutting

-- a part of the rest, where there is one
abbrev pub some_rows : ℕ → List ℕ
some_rows zero = []
some_rows (suc n) = suc n ∷ []

-- so many rows in blocks, all full but the last
abbrev pub block_sizes : Cutting → ℕ → List ℕ
block_sizes c rows = replicate (rows / c.rows) c.rows ++ some_rows (rows % c.rows)

-- how many tiles a block of so many columns has: a block without columns has one
abbrev pub tiles_across : Cutting → ℕ → ℕ
tiles_across c columns = max 1 (columns / c.columns + length (some_rows (columns % c.columns)))

-- a part of a new version: a block of its base, or a new block of so many rows
pub data Part : Type 0 where
  shared : Block → Part
  fresh : ℕ → Part

-- new blocks of these rows
abbrev pub cut_rows : Cutting → ℕ → List Part
cut_rows c rows = map fresh (block_sizes c rows)

-- what is left before rows a + 1 to b, of blocks that begin behind `start` rows: whole blocks are shared, and of one that is cut the rows up to a are a new block
abbrev pub parts_before : ℕ → ℕ → ℕ → List Block → List Part
parts_before a b start [] = []
parts_before a b start (x ∷ xs) =
    (if nat_le (start + x.rows) a then shared x ∷ [] else if nat_le b start then [] else map fresh (some_rows (a - start)))
    ++ parts_before a b (start + x.rows) xs

-- what is left behind rows a + 1 to b
abbrev pub parts_behind : ℕ → ℕ → ℕ → List Block → List Part
parts_behind a b start [] = []
parts_behind a b start (x ∷ xs) =
    (if nat_le (start + x.rows) a then [] else if nat_le b start then shared x ∷ [] else map fresh (some_rows (start + x.rows - b)))
    ++ parts_behind a b (start + x.rows) xs

-- the base's blocks with rows a + 1 to b replaced
abbrev pub parts_replaced : Cutting → ℕ × ℕ → ℕ → List Block → List Part
parts_replaced c between rows blocks = parts_before between.0 between.1 0 blocks ++ cut_rows c rows ++ parts_behind between.0 between.1 0 blocks

-- the parts of the version that a change makes, on a base with these blocks or on none
abbrev pub parts_of : Cutting → Option Version → List Block → Change → List Part
parts_of c base blocks (changes.Wrote frame at) = cut_rows c (length frame.rows)
parts_of c base blocks (changes.Appended frame at) = map shared blocks ++ cut_rows c (length frame.rows)
parts_of c None blocks (changes.Updated frame range at) = cut_rows c (length frame.rows)
parts_of c (Some v) blocks (changes.Updated frame range at) = parts_replaced c (rows_between range v.frame) (length frame.rows) blocks
parts_of c base blocks _ = []

-- the blocks of a new version, whose new ones are numbered in order
abbrev pub blocks_from : ℕ → ℕ → ℕ → List Part → List Block
blocks_from version tiles n [] = []
blocks_from version tiles n (shared x ∷ parts) = x ∷ blocks_from version tiles n parts
blocks_from version tiles n (fresh rows ∷ parts) = record { version = version; number = n; rows = rows; tiles = tiles } ∷ blocks_from version tiles (suc n) parts

-- ---- the shape of a symbol

-- the blocks of each version, and what is stored: versions by their indexes, blocks by their tiles, elements and staged pieces
pub record Shape : Type 0 where
  pub versions : List (ℕ × List Block)
  pub indexes : List ℕ
  pub blocks : List Block
  pub elements : ℕ
  pub pieces : List PieceName

-- nothing is stored
abbrev pub no_shape : Shape
no_shape = record { versions = []; indexes = []; blocks = []; elements = 0; pieces = [] }

-- the blocks of a version
abbrev pub blocks_of : Shape → ℕ → List Block
blocks_of s version = option_map_or (λ (x : ℕ × List Block). x.1) (find (λ (x : ℕ × List Block). nat_eq version x.0) s.versions) []

-- those of the base, if there is one
abbrev pub base_blocks : Shape → Option Version → List Block
base_blocks s base = option_map_or (λ (v : Version). blocks_of s v.number) base []

-- the tiles of these blocks
abbrev pub tiles_in : List Block → ℕ
tiles_in = sum_by (λ (x : Block). x.tiles)

-- the blocks of the version that a change makes in this state, if it makes one
abbrev pub blocks_made : Cutting → State → Shape → Change → Option (ℕ × List Block)
blocks_made c st s change = elim (new_version st change) [
  | None ↦ None
  | Some v ↦ Some (v.number, blocks_from v.number (tiles_across c (length v.frame.schema.columns)) 0 (parts_of c (base_of st) (base_blocks s (base_of st)) change))
]

-- those of the blocks that were made for this version
abbrev pub made_for : ℕ → List Block → List Block
made_for version = filter (λ (x : Block). nat_eq version x.version)

-- a version with these blocks is put: its new tiles and its index
abbrev pub with_version : Option (ℕ × List Block) → Shape → Shape
with_version None s = s
with_version (Some x) s = record s { versions = x ∷ s.versions; indexes = x.0 ∷ s.indexes; blocks = made_for x.0 x.1 ++ s.blocks }

-- the changes of a commit, of which the first may make a version, and its element
abbrev pub shape_after : Cutting → State → Shape → List Change → Shape
shape_after c st s [] = s
shape_after c st s (change ∷ more) = record (with_version (blocks_made c st s change) s) { elements = suc s.elements }

-- how many objects a commit puts: new tiles and an index, where it makes a version, and its element
abbrev pub puts_of_version : Option (ℕ × List Block) → ℕ
puts_of_version None = 0
puts_of_version (Some x) = suc (tiles_in (made_for x.0 x.1))

-- ---- a reclaim

-- the same block
abbrev pub same_block : Block → Block → Bool
same_block a b = nat_eq a.version b.version && nat_eq a.number b.number

-- the blocks of live and held versions
abbrev pub needed_blocks : State → Shape → List Block
needed_blocks st s = flat_map (λ (x : ℕ × List Block). if is_kept st x.0 then x.1 else []) s.versions

-- a block that no live or held version has
abbrev pub is_unneeded : State → Shape → Block → Bool
is_unneeded st s x = not (list_any (same_block x) (needed_blocks st s))

-- what a reclaim drops: blocks and indexes that no live or held version has, and pieces that are consumed
abbrev pub dead_blocks : State → Shape → List Block
dead_blocks st s = filter (is_unneeded st s) s.blocks

-- the indexes of versions that are neither live nor held
abbrev pub dead_indexes : State → Shape → List ℕ
dead_indexes st s = filter (λ n. not (is_kept st n)) s.indexes

-- the consumed pieces that are stored
abbrev pub dead_pieces : State → Shape → List PieceName
dead_pieces st s = filter (is_consumed st) s.pieces

-- what is stored behind it
abbrev pub swept : State → Shape → Shape
swept st s = record s {
  indexes = filter (is_kept st) s.indexes;
  blocks = filter (λ x. not (is_unneeded st s x)) s.blocks;
  pieces = filter (λ p. not (is_consumed st p)) s.pieces;
}
