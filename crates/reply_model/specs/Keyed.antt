-- The keys of row blocks: how the blocks of a run alone are tied to what is stored.
--     block_keys           the keys of each row block of an index
--     standing_blocks      the blocks of the versions whose index is stored
--     HasKeys              the blocks and indexes of a shape have the keys of the links
--     IsKeyedPart          the keys of a part of a new version
use Rattle.std.specs.Prelude.{◌≡◌, ℕ, if◌then◌else◌, Bool, true, List, [], ◌∷◌, ◌++◌, map, filter, length, flat_map, nat_eq, is_some}
use Rattle.std.specs.List.{list_any, AllByRecursion, AllZip, IsDistinct}
use Rattle.index_tree.specs.declared.index.Slot.{Slot}
use Rattle.key_kind.specs.declared.key.Key.{Key}
use Rattle.key_kind.specs.declared.key.KeyKind.TheVariants as kinds
use Rattle.key_kind.specs.Names.{Name}
use Rattle.key_kind.specs.Keys.{same_key}
use Rattle.bucket_core.specs.History.{History, stored}
use Rattle.store_model.specs.Links.{Linked, links}
use Rattle.reply_model.specs.Tries.{IsKeyOf}
use Rattle.reply_model.specs.Blocks.{Block, Part, shared, fresh, Shape, same_block}

-- ---- the keys of an index

-- one key more in the first row block
abbrev pub with_key : Key → List (List Key) → List (List Key)
with_key key [] = (key ∷ []) ∷ []
with_key key (keys ∷ blocks) = (key ∷ keys) ∷ blocks

-- here a row block begins, or there are no more slots
abbrev pub begins_block : List Slot → Bool
begins_block [] = true
begins_block (x ∷ slots) = nat_eq x.part.first_col 0

-- the keys of each row block of an index: each begins with its tile in the first columns
abbrev pub block_keys : List Slot → List (List Key)
block_keys [] = []
block_keys (x ∷ slots) = if begins_block slots then (x.key ∷ []) ∷ block_keys slots else with_key x.key (block_keys slots)

-- ---- the keys of a shape

-- the index of the link is stored
abbrev pub has_index : History → Linked → Bool
has_index h l = is_some (stored h l.row.index)

-- the blocks of the versions whose index is stored
abbrev pub standing_blocks : History → List Linked → List (ℕ × List Block) → List Block
standing_blocks h [] xs = []
standing_blocks h (l ∷ ls) [] = []
standing_blocks h (l ∷ ls) (x ∷ xs) = (if has_index h l then x.1 else []) ++ standing_blocks h ls xs

-- the keys of these blocks, each named by its version and number
abbrev pub keys_named : (ℕ → ℕ → List Key) → List Block → List Key
keys_named names blocks = flat_map (λ (b : Block). names b.version b.number) blocks

-- the blocks of a version have the keys of its link's row blocks
abbrev pub HasNames : (ℕ → ℕ → List Key) → Linked → ℕ × List Block → Type 0
HasNames names l x = block_keys l.index.slots ≡ map (λ (b : Block). names b.version b.number) x.1

-- a link names an index and tiles of the symbol
abbrev pub NamesTable : Name → Linked → Type 0
NamesTable symbol l = IsKeyOf kinds.TableIndex symbol l.row.index × AllByRecursion (λ (s : Slot). IsKeyOf kinds.TableData symbol s.key) l.index.slots

-- each block has keys: as many as its tiles, other ones than any other block, and those of the links of the versions that have the block; the
-- shape's blocks are those of versions whose index is stored, and all their keys are stored; no piece is staged
pub record HasKeys (h : History) (symbol : Name) (s : Shape) : Type 0 where
  pub names : ℕ → ℕ → List Key
  pub named : AllZip (HasNames names) (links h symbol) s.versions
  pub tables : AllByRecursion (NamesTable symbol) (links h symbol)
  pub apart : IsDistinct same_key (map (λ (l : Linked). l.row.index) (links h symbol))
  pub sizes : AllByRecursion (λ (b : Block). length (names b.version b.number) ≡ b.tiles) s.blocks
  pub distinct : IsDistinct same_key (keys_named names s.blocks)
  pub stand : AllByRecursion (λ key. IsKeyOf kinds.TableData symbol key × (is_some (stored h key) ≡ true)) (keys_named names s.blocks)
  pub indexes : s.indexes ≡ map (λ (l : Linked). l.row.version) (filter (has_index h) (links h symbol))
  pub blocks : (b : Block) → list_any (same_block b) s.blocks ≡ list_any (same_block b) (standing_blocks h (links h symbol) s.versions)
  pub pieces : s.pieces ≡ []

-- ---- the keys of a new version

-- a block of the base keeps its keys, and a new one has one key for each slice
abbrev pub IsKeyedPart : (Block → List Key) → ℕ → Part → List Key → Type 0
IsKeyedPart names slices (shared x) keys = keys ≡ names x
IsKeyedPart names slices (fresh rows) keys = length keys ≡ slices
