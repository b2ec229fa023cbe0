-- What is legal in a window without events of others is what a run alone gives.
--     HasShape             a symbol's shape counts its stored keys
--     StandsAs             what a run alone tells is what a history tells
--     StepsTo, IsStep      a run alone gives this reply, and then stands as the history behind it
--     GrowsAlone           a history goes on by events of one client alone
--     is_served_of, is_served      the commands of which this is shown
--     row_sizes, HasBlocks, IsCutBy      the rows of the blocks of a version, by its index; none has more than a cutting's
--     tiles_cut, parts_laid, IsLaid, LaysOut      how a commit cuts its version, which a legal reply leaves open
--     LegalAloneSteps      each legal reply is such a step
--     LegalReclaimsAlone   so is each legal reclaim that looked where the window begins
--     RunsTo, RunsAlone    a run alone gives these replies to a list of commands
--     RunsGrow, RunsAreSole, BlocksAreSole      runs grow by steps, and from the empty history they are the replies of one client alone
use Rattle.std.specs.Prelude.{◌≡◌, ℕ, suc, ◌+◌, ◌*◌, ◌<◌, ◌≤◌, if◌then◌else◌, Bool, true, false, List, [], ◌∷◌, ◌++◌, map, filter, find, length, Option, Some, None, nat_eq}
use Rattle.std.specs.Option.{option_map_or}
use Rattle.std.specs.List.{AllByRecursion, AllZip}
use Rattle.frame_core.specs.Frames.{Frame}
use Rattle.segment_cut.specs.Cuttings as cuttings
use Rattle.segment_cut.specs.Grids.{parts, grid_of}
use Rattle.key_kind.specs.Names.{Name}
use Rattle.key_kind.specs.declared.key.Key.{Key}
use Rattle.key_kind.specs.declared.key.KeyKind.TheVariants as kinds
use Rattle.bucket_core.specs.History.{History, author}
use Rattle.store_model.specs.Law.{IsLawful}
use Rattle.store_model.specs.Library.{State, Version, state_of, base_of, first_of, new_version, next_number}
use Rattle.store_model.specs.Links.{Linked, links}
use Rattle.store_model.specs.Commits.{is_version}
use Rattle.index_tree.specs.declared.index.Slot.{Slot}
use Rattle.bucket_core.specs.declared.event.Change.{Change}
use Rattle.store_model.specs.Snapshots.{library_of}
use Rattle.expr_clause.specs.declared.command.Command.{Command}
use Rattle.expr_clause.specs.declared.command.Command.TheVariants as commands
use Rattle.reply_model.specs.declared.reply.Reply.{Reply}
use Rattle.reply_model.specs.Kinds.{Kind, kind_of, Finalizes, Discards, Stages, Reclaims, Holds, Unholds}
use Rattle.reply_model.specs.Answering.{Session}
use Rattle.reply_model.specs.Answers.{answer}
use Rattle.reply_model.specs.Windows.{Client, symbol_of, is_refused, is_cut}
use Rattle.reply_model.specs.Legal.{IsLegalReply}
use Rattle.reply_model.specs.Rows.{keys_of}
use Rattle.reply_model.specs.Blocks.{Cutting, Block, Part, shared, fresh, parts_of, tiles_across, Shape, tiles_in}
use Rattle.reply_model.specs.Keyed.{block_keys, HasKeys, IsKeyedPart}
use Rattle.reply_model.specs.Sole.{Alone, step_alone, alone, sole}

-- ---- where a run stands

-- the rows of each row block of an index: those of its tile in the first columns
abbrev pub row_sizes : List Slot → List ℕ
row_sizes slots = map (λ (x : Slot). x.part.rows) (filter (λ (x : Slot). nat_eq x.part.first_col 0) slots)

-- no row block of a link has more rows than the cutting's
abbrev pub IsCutBy : Cutting → History → Type 0
IsCutBy c h = (symbol : Name) → AllByRecursion (λ (l : Linked). AllByRecursion (λ n. n ≤ c.rows) (row_sizes l.index.slots)) (links h symbol)

-- a version of a shape is that of a link, and its blocks have the rows of the link's index
abbrev pub HasBlocks : Linked → ℕ × List Block → Type 0
HasBlocks l x = (l.row.version ≡ x.0) × (map (λ (b : Block). b.rows) x.1 ≡ row_sizes l.index.slots)

-- the shape has as many tiles, indexes, elements and pieces as are stored of the symbol, and the blocks of each of its versions, which
-- were made for versions that there are; one reference is stored where the symbol has one; and its blocks have the keys of the links
pub record HasShape (h : History) (symbol : Name) (s : Shape) : Type 0 where
  pub tiles : keys_of h symbol kinds.TableData ≡ tiles_in s.blocks
  pub indexes : keys_of h symbol kinds.TableIndex ≡ length s.indexes
  pub elements : keys_of h symbol kinds.Version ≡ s.elements
  pub references : keys_of h symbol kinds.VersionRef ≡ (if (state_of h symbol).has_reference then 1 else 0)
  pub pieces : keys_of h symbol kinds.Staged ≡ length s.pieces
  pub made : AllByRecursion (λ x. AllByRecursion (λ (b : Block). b.version < next_number (state_of h symbol)) x.1) s.versions
  pub versions : AllZip HasBlocks (links h symbol) s.versions
  pub keys : HasKeys h symbol s

-- what a run alone of this cutting tells is what the history tells: how many events there are, the symbols, the state of each, the
-- snapshots, and the shape of each symbol; and all versions were cut so
pub record StandsAs (c : Cutting) (h : History) (r : Alone) : Type 0 where
  pub events : r.events ≡ length h
  pub symbols : r.library.symbols ≡ (library_of h).symbols
  pub states : (symbol : Name) → r.library.state symbol ≡ state_of h symbol
  pub snapshots : r.library.snapshots ≡ (library_of h).snapshots
  pub shapes : (symbol : Name) → HasShape h symbol (r.shape symbol)
  pub cut : IsCutBy c h

-- there is a next reply, it is this one, and behind it the run stands as this history
abbrev pub StepsTo : Cutting → Option (Reply × Alone) → Reply → History → Type 0
StepsTo c None reply new = ⊥
StepsTo c (Some x) reply new = (reply ≡ x.0) × StandsAs c new x.1

-- wherever a run stands as the old history, the command's reply is this one, and the run then stands as the new history
abbrev pub IsStep : Cutting → Session → Command → Reply → History → History → Type 0
IsStep c s command reply old new = (r : Alone) → StandsAs c old r → StepsTo c (step_alone c s command r) reply new

-- ---- windows without events of others

-- the history goes on from the old one by events of this client alone
pub record GrowsAlone (client : ℕ) (old new : History) : Type 0 where
  pub more : History
  pub is : new ≡ more ++ old
  pub own : AllByRecursion (λ e. author e ≡ client) more

-- the kinds of command whose legal replies are shown to be those of a run alone: all but these
abbrev pub is_served_of : Kind → Bool
is_served_of (Finalizes symbol) = false
is_served_of (Discards symbol) = false
is_served_of (Stages symbol frame) = false
is_served_of (Reclaims symbol) = false
is_served_of (Holds snap picks) = false
is_served_of (Unholds snap) = false
is_served_of _ = true

abbrev pub is_served : Command → Bool
is_served c = is_served_of (kind_of c)

-- the cutting of a run, as that of a grid
abbrev pub grid_cutting : Cutting → cuttings.Cutting
grid_cutting c = record { rows = c.rows; cols = c.columns }

-- how many tiles a frame is cut into: one for each part of its grid
abbrev pub tiles_cut : Cutting → Frame → ℕ
tiles_cut c frame = length (parts (grid_of frame (grid_cutting c)))

-- the rows of the row blocks of a version, as its index has them, and of the base
abbrev pub rows_of_version : List Linked → Option Version → List ℕ
rows_of_version links None = []
rows_of_version links (Some v) = option_map_or (λ (l : Linked). row_sizes l.index.slots) (find (λ (l : Linked). nat_eq v.number l.row.version) links) []

abbrev pub base_rows : History → Name → List ℕ
base_rows h symbol = rows_of_version (links h symbol) (base_of (state_of h symbol))

-- the keys of the row blocks of a version, as its index has them, and of the base
abbrev pub keys_of_version : List Linked → Option Version → List (List Key)
keys_of_version links None = []
keys_of_version links (Some v) = option_map_or (λ (l : Linked). block_keys l.index.slots) (find (λ (l : Linked). nat_eq v.number l.row.version) links) []

abbrev pub base_keys : History → Name → List (List Key)
base_keys h symbol = keys_of_version (links h symbol) (base_of (state_of h symbol))

-- a block of which only the rows are told
abbrev pub bare_block : ℕ → Block
bare_block rows = record { version = 0; number = 0; rows = rows; tiles = 0 }

-- the parts of the version that a change makes in a history: blocks of the base by their rows, and new blocks
abbrev pub parts_laid : Cutting → History → Name → Change → List Part
parts_laid c h symbol change = parts_of c (base_of (state_of h symbol)) (map bare_block (base_rows h symbol)) change

-- the rows of a part, and how many new blocks there are
abbrev pub part_rows : Part → ℕ
part_rows (shared x) = x.rows
part_rows (fresh rows) = rows

abbrev pub fresh_in : List Part → ℕ
fresh_in [] = 0
fresh_in (shared x ∷ more) = fresh_in more
fresh_in (fresh rows ∷ more) = suc (fresh_in more)

-- the tiles of a new block: one for each slice of the columns of the version that a change makes
abbrev pub slices : Cutting → State → Change → ℕ
slices c st change = option_map_or (λ (v : Version). tiles_across c (length v.frame.schema.columns)) (new_version st change) 0

-- the commit of a version put the tiles of its new blocks, the index and the element, and its index has the rows and the keys of all parts:
-- however the base's blocks are told apart, each that is shared keeps its keys
pub record IsLaid (c : Cutting) (symbol : Name) (change : Change) (place : ℕ) (old new : History) : Type 0 where
  pub some_rows : 1 ≤ c.rows
  pub tiles : place ≡ length old + (fresh_in (parts_laid c old symbol change) * slices c (state_of old symbol) change + 3)
  pub link : Linked
  pub newest : first_of (links new symbol) ≡ Some link
  pub rows : row_sizes link.index.slots ≡ map part_rows (parts_laid c old symbol change)
  pub keys : (blocks : List Block) (names : Block → List Key) → map (λ (b : Block). b.rows) blocks ≡ base_rows old symbol → map names blocks ≡ base_keys old symbol
      → AllZip (IsKeyedPart names (slices c (state_of old symbol) change)) (parts_of c (base_of (state_of old symbol)) blocks change) (block_keys link.index.slots)

-- where all versions were cut so, a command that is done lays out the version that the one-thread library answers; other commands leave
-- nothing open
abbrev pub LaysOut : Cutting → Session → Command → Reply → History → History → Type 0
LaysOut c s command reply old new = IsCutBy c old → (symbol : Name) (change : Change) (rest : List Change) → symbol_of command ≡ Some symbol
    → answer s (library_of old) (library_of old) (length old) command ≡ Some (record { outcome = reply.outcome; marks = change ∷ rest }) → is_version change ≡ true
    → IsLaid c symbol change reply.place old new

-- each legal reply for a window without events of others is a step of the run alone, want of memory, failures and a full store aside
abbrev pub LegalAloneSteps : Type 0
LegalAloneSteps = (old new : History) (c : Cutting) (client : Client) (command : Command) (reply : Reply) (faulted : Bool) → IsLawful new
    → GrowsAlone client.session.client old new
    → IsLegalReply new client command reply (record { start = length old; stop = length new; faulted = faulted }) → is_served command ≡ true
    → is_cut reply.outcome ≡ false → LaysOut c client.session command reply old new → IsStep c client.session command reply old new

-- so is each legal reclaim that is refused, or whose place is where the window begins: what it drops was dead there
abbrev pub LegalReclaimsAlone : Type 0
LegalReclaimsAlone = (old new : History) (c : Cutting) (client : Client) (symbol : Name) (reply : Reply) (faulted : Bool) → IsLawful new
    → GrowsAlone client.session.client old new
    → IsLegalReply new client (commands.Reclaim symbol) reply (record { start = length old; stop = length new; faulted = faulted })
    → is_cut reply.outcome ≡ false → (is_refused reply.outcome ≡ false → reply.place ≡ length old) → IsStep c client.session (commands.Reclaim symbol) reply old new

-- ---- runs

-- there are these replies, and behind them the run stands as this history
abbrev pub RunsTo : Cutting → Option (List Reply × Alone) → List Reply → History → Type 0
RunsTo c None replies new = ⊥
RunsTo c (Some x) replies new = (replies ≡ x.0) × StandsAs c new x.1

-- wherever a run stands as the old history, the replies of the commands are these, and the run then stands as the new history
abbrev pub RunsAlone : Cutting → Session → List Command → List Reply → History → History → Type 0
RunsAlone c s list replies old new = (r : Alone) → StandsAs c old r → RunsTo c (alone c s list r) replies new

-- no commands run to no replies, and one more step makes a run of one command more; so it does where run and step are known of what
-- grows by events of this client alone
pub record RunsGrow : Type 0 where
  pub none : (c : Cutting) (s : Session) (h : History) → RunsAlone c s [] [] h h
  pub one_more : (c : Cutting) (s : Session) (list : List Command) (replies : List Reply) (command : Command) (reply : Reply) (first old new : History)
      → RunsAlone c s list replies first old → IsStep c s command reply old new → RunsAlone c s (list ++ command ∷ []) (replies ++ reply ∷ []) first new
  pub one_more_alone : (c : Cutting) (s : Session) (list : List Command) (replies : List Reply) (command : Command) (reply : Reply) (first old new before more : History)
      → old ≡ before ++ first → new ≡ more ++ old → (GrowsAlone s.client first old → RunsAlone c s list replies first old) → (GrowsAlone s.client old new → IsStep c s command reply old new)
      → GrowsAlone s.client first new → RunsAlone c s (list ++ command ∷ []) (replies ++ reply ∷ []) first new

-- a run of client 1 from the empty history has the replies of one client alone, whatever its session's tries
abbrev pub RunsAreSole : Type 0
RunsAreSole = (c : Cutting) (s : Session) (list : List Command) (replies : List Reply) (h : History) → s.client ≡ 1 → RunsAlone c s list replies [] h
    → sole c s.frames s.moment list [] [] ≡ Some (record { first = replies; block = []; last = []; events = length h })

-- so have first commands of client 1, a block of client 2 behind them, and last commands of client 1 behind the block
abbrev pub BlocksAreSole : Type 0
BlocksAreSole = (c : Cutting) (s t : Session) (first block last : List Command) (begun met ended : List Reply) (h g k : History) → s.client ≡ 1 → t.client ≡ 2 → t.frames ≡ s.frames → t.moment ≡ s.moment
    → RunsAlone c s first begun [] h → RunsAlone c t block met h g → RunsAlone c s last ended g k
    → sole c s.frames s.moment first block last ≡ Some (record { first = begun; block = met; last = ended; events = length k })
