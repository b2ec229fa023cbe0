-- What a commit makes of a run's blocks.
use Rattle.std.proofs.Common.{◌≡◌, ℕ, suc, ◌≤◌, ◌<◌, Bool, List, [], ◌∷◌, map, Option, Some, None, arith, fold}
use Rattle.std.specs.Prelude.{MatchBool, ◌*◌, ⊤}
use Rattle.std.specs.List.{list_any, AllByRecursion, AllZip}
use Rattle.std.specs.Prelude.{true, false}
use Rattle.key_kind.specs.declared.key.Key.{Key}
use Rattle.bucket_core.specs.declared.event.Change.{Change}
use Rattle.bucket_core.specs.declared.event.Change.TheVariants as changes
use Rattle.store_model.specs.Library.{State, base_of, next_number, after_change, after_changes}
use Rattle.store_model.specs.Links.{Linked}
use Rattle.store_model.specs.Commits.{is_version}
use Rattle.store_model.proofs.Lists.{all_weaker}
use Rattle.reply_model.specs.Blocks.{Cutting, Block, Part, shared, fresh, Shape, tiles_in, made_for, same_block, base_blocks, blocks_from, blocks_made}
use Rattle.reply_model.specs.Keyed.{block_keys, HasNames, IsKeyedPart}
use Rattle.reply_model.specs.Standing.{fresh_in, row_sizes}

-- ---- numbers of versions

-- a change takes no number back
number_kept : (st : State) (c : Change) → next_number st ≤ next_number (after_change st c)
number_kept st (changes.Wrote frame at) = omega arith
number_kept st (changes.Appended frame at) = omega arith
number_kept st (changes.Updated frame range at) = omega arith
number_kept st (changes.Removed versions) = omega arith
number_kept st (changes.Held holder version) = omega arith
number_kept st (changes.Released holder) = omega arith
number_kept st (changes.Discarded pieces) = omega arith
number_kept st changes.Restated = omega arith

pub numbers_kept : (st : State) (list : List Change) → next_number st ≤ next_number (fold after_change st list)
numbers_kept st [] = omega arith
numbers_kept st (c ∷ list) = omega (arith, number_kept st c, numbers_kept (after_change st c) list)

-- blocks that were made for versions below a number
abbrev pub AreMade : ℕ → List Block → Type 0
AreMade number blocks = AllByRecursion (λ (b : Block). b.version < number) blocks

pub made_later : (n m : ℕ) → n ≤ m → (versions : List (ℕ × List Block)) → AllByRecursion (λ (x : ℕ × List Block). AreMade n x.1) versions → AllByRecursion (λ (x : ℕ × List Block). AreMade m x.1) versions
made_later n m le versions all =
    all_weaker (λ (x : ℕ × List Block). AreMade n x.1) (λ (x : ℕ × List Block). AreMade m x.1)
    (λ x made. all_weaker (λ (b : Block). b.version < n) (λ (b : Block). b.version < m) (λ b low. omega (arith, le, low)) x.1 made) versions all

-- ---- one commit

-- the block that a part shares is among these, and was made for a version below a number
abbrev pub shares : ℕ → List Block → Part → Type 0
shares n blocks (shared x) = (list_any (same_block x) blocks ≡ true) × (x.version < n)
shares n blocks (fresh rows) = ⊤

abbrev pub SharesBlocks : ℕ → List Block → List Part → Type 0
SharesBlocks n blocks parts = AllByRecursion (shares n blocks) parts

-- the version that a commit makes: its number, so many new tiles, blocks that were made for versions that there then are, and the rows of the newest link
pub record MakesVersion (c : Cutting) (st : State) (s : Shape) (before : List Linked) (newest : Option Linked) (tiles : ℕ) (first : Change) (rest : List Change) : Type 0 where
  pub parts : List Part
  pub slices : ℕ
  pub blocks : List Block
  pub blocks_are : blocks ≡ blocks_from (next_number st) slices 0 parts
  pub version : is_version first ≡ true
  pub based : SharesBlocks (next_number st) (base_blocks s (base_of st)) parts
  pub is : blocks_made c st s first ≡ Some (next_number st, blocks)
  pub counted : tiles_in (made_for (next_number st) blocks) ≡ tiles
  pub more : suc (next_number st) ≤ next_number (after_changes st (first ∷ rest))
  pub made : AreMade (next_number (after_changes st (first ∷ rest))) blocks
  pub link : Linked
  pub link_is : newest ≡ Some link
  pub rows : map (λ (b : Block). b.rows) blocks ≡ row_sizes link.index.slots
  pub fresh : tiles ≡ fresh_in parts * slices
  pub keyed : (names : ℕ → ℕ → List Key) → AllZip (HasNames names) before s.versions → AllZip (IsKeyedPart (λ (b : Block). names b.version b.number) slices) parts (block_keys link.index.slots)
  pub within : AllByRecursion (λ n. n ≤ c.rows) (row_sizes link.index.slots)

-- or it makes none
pub record MakesMark (c : Cutting) (st : State) (s : Shape) (first : Change) : Type 0 where
  pub is : blocks_made c st s first ≡ None
  pub mark : is_version first ≡ false

abbrev pub Makes : Cutting → State → Shape → Bool → List Linked → Option Linked → ℕ → Change → List Change → Type 0
Makes c st s makes before newest tiles first rest = MatchBool makes (MakesVersion c st s before newest tiles first rest) (MakesMark c st s first)
