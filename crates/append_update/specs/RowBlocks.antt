-- The row blocks of the version that a commit makes.
--     sizes_in, new_blocks      the rows of the row blocks of pieces; how many of them are new
--     AreParts            pieces that have the row blocks of these parts
--     keys_in, kept_keys, KeepKeys      the keys that the row blocks of pieces keep: those that the parts of the version keep
--     AreSmall            no row block of the base has more rows than the cutting's
--     HavePartKeys        the slots of a version's index have the keys of its parts
--     IsPutAs, IsBuiltOn  what a commit put and what it built, by the row blocks of its version
--     LaysAs              where nobody else makes events, the version that the library answers is laid out so
use Rattle.std.specs.Prelude.{◌≡◌, ◌≤◌, ℕ, ◌+◌, ◌*◌, true, List, [], ◌∷◌, ◌++◌, map, length, Option, Some, None, Result, Ok}
use Rattle.std.specs.List.{AllByRecursion, AllZip}
use Rattle.frame_core.specs.declared.refusal.Refusal.{Refusal}
use Rattle.segment_cut.specs.Cuttings.{Cutting as Sizes, IsCutting}
use Rattle.index_tree.specs.declared.index.Slot.{Slot}
use Rattle.key_kind.specs.declared.key.Key.{Key}
use Rattle.key_kind.specs.Names.{Name}
use Rattle.bucket_core.specs.declared.event.Change.{Change}
use Rattle.bucket_core.specs.History.{History, puts_by}
use Rattle.store_model.specs.Commits.{is_version}
use Rattle.store_model.specs.Library.{State, state_of, base_of}
use Rattle.reply_model.specs.declared.outcome.Outcome.{Outcome}
use Rattle.reply_model.specs.Answering.{Answer}
use Rattle.reply_model.specs.Blocks.{Cutting, run_cutting, Block, Part, shared, fresh, block_sizes, parts_of}
use Rattle.reply_model.specs.Keyed.{block_keys, IsKeyedPart}
use Rattle.reply_model.specs.Standing.{row_sizes, base_rows, base_keys, part_rows, fresh_in, slices, parts_laid, IsLaid}
use Rattle.frame_write.specs.declared.pieces.Piece.{Piece}
use Rattle.frame_write.specs.declared.pieces.Piece.TheVariants as pieces
use Rattle.frame_write.specs.Plans.{IsUnmoved}
use Rattle.frame_write.specs.Tries.{Made}
use Rattle.append_update.specs.Shares.{MakesSlots}

-- the rows of the row blocks of pieces
abbrev pub sizes_in : Cutting → List Piece → List ℕ
sizes_in c [] = []
sizes_in c (pieces.Shared run ∷ list) = row_sizes run ++ sizes_in c list
sizes_in c (pieces.Fresh frame ∷ list) = block_sizes c (length frame.rows) ++ sizes_in c list

-- how many of these row blocks are new
abbrev pub new_blocks : Cutting → List Piece → ℕ
new_blocks c [] = 0
new_blocks c (pieces.Shared run ∷ list) = new_blocks c list
new_blocks c (pieces.Fresh frame ∷ list) = length (block_sizes c (length frame.rows)) + new_blocks c list

-- the pieces have the row blocks of these parts
pub record AreParts (c : Cutting) (list : List Piece) (parts : List Part) : Type 0 where
  pub rows : sizes_in c list ≡ map part_rows parts
  pub fresh : new_blocks c list ≡ fresh_in parts

-- the keys that each row block of pieces keeps: those of its slots where it is shared, and none where it is new
abbrev pub keys_in : Cutting → List Piece → List (Option (List Key))
keys_in c [] = []
keys_in c (pieces.Shared run ∷ list) = map (λ keys. Some keys) (block_keys run) ++ keys_in c list
keys_in c (pieces.Fresh frame ∷ list) = map (λ rows. None) (block_sizes c (length frame.rows)) ++ keys_in c list

-- the keys that a part keeps, where the base's blocks have these keys
abbrev pub kept_keys : (Block → List Key) → Part → Option (List Key)
kept_keys names (shared x) = Some (names x)
kept_keys names (fresh rows) = None

-- however the base's blocks are told apart, each row block of the pieces keeps the keys that its part of the version keeps
abbrev pub KeepKeys : Cutting → History → Name → Change → List Piece → Type 0
KeepKeys c h symbol change list = (blocks : List Block) (names : Block → List Key) → map (λ (b : Block). b.rows) blocks ≡ base_rows h symbol → map names blocks ≡ base_keys h symbol
    → keys_in c list ≡ map (kept_keys names) (parts_of c (base_of (state_of h symbol)) blocks change)

-- however the base's blocks are told apart, each part of the version has its keys in these slots: those of its block where it is shared, and
-- one for each slice of the columns where it is new
abbrev pub HavePartKeys : Cutting → History → Name → Change → List Slot → Type 0
HavePartKeys c h symbol change slots = (blocks : List Block) (names : Block → List Key) → map (λ (b : Block). b.rows) blocks ≡ base_rows h symbol → map names blocks ≡ base_keys h symbol
    → AllZip (IsKeyedPart names (slices c (state_of h symbol) change)) (parts_of c (base_of (state_of h symbol)) blocks change) (block_keys slots)

-- no row block of the base has more rows than a full one
abbrev pub AreSmall : Cutting → History → Name → Type 0
AreSmall c h symbol = AllByRecursion (λ n. n ≤ c.rows) (base_rows h symbol)

-- a put for each tile of the new row blocks of a version on the base, the index and the element; the index has the rows and the keys of all blocks
pub record IsPutAs (c : Cutting) (h : History) (symbol : Name) (change : Change) (m : Made) : Type 0 where
  pub tiles : length m.puts ≡ fresh_in (parts_laid c h symbol change) * slices c (state_of h symbol) change + 2
  pub rows : row_sizes m.index.slots ≡ map part_rows (parts_laid c h symbol change)
  pub keys : HavePartKeys c h symbol change m.index.slots

-- the change makes a version on the base of a history that was walked, whose state was left as it was; its row blocks were put, and its
-- new slots have the serials of these puts
pub record IsBuiltOn (client : ℕ) (cutting : Sizes) (symbol : Name) (change : Change) (m : Made) : Type 0 where
  pub version : is_version change ≡ true
  pub walked : History
  pub later : History
  pub split : m.before ≡ later ++ walked
  pub unmoved : IsUnmoved (state_of walked symbol) (state_of m.before symbol)
  pub put : IsCutting cutting → AreSmall (run_cutting cutting) walked symbol → IsPutAs (run_cutting cutting) walked symbol change m
  pub serial : ℕ
  pub counted : serial + length m.puts ≡ puts_by client m.before
  pub slots : MakesSlots change symbol cutting client serial walked m.index.slots

-- where no row block of the base has more rows than a full one, the version that the library answers in the old history is laid out by the
-- commit at the place
abbrev pub LaysAs : Cutting → Name → (State → Result Answer Refusal) → ℕ → History → History → Type 0
LaysAs c symbol answer place old new = AreSmall c old symbol → (change : Change) (rest : List Change) (outcome : Outcome)
    → answer (state_of old symbol) ≡ Ok (record { outcome = outcome; marks = change ∷ rest }) → IsLaid c symbol change place old new
