-- What a try without events found gone.
--     FitsBehind           a frame may be appended to a base, as its index tells
--     LosesBase            a key of the version that was the base
--     PiecesFit, LosesPiece      the pieces that a finalize takes can be joined; one of them is gone
--     LosesIndex           the index of a live or held version
--     FindsGone            so by the command
use Rattle.std.specs.Prelude.{◌≡◌, ◌⊎◌, ℕ, ◌+◌, ◌≤◌, Bool, true, false, if◌then◌else◌, List, length, Option, Some, None, Ok, ⊤, Contains}
use Rattle.frame_core.specs.Schemas.{Schema, schemas_differ}
use Rattle.frame_core.specs.Frames.{Frame, first_stamp, last_stamp}
use Rattle.frame_core.specs.Limits.{too_large}
use Rattle.frame_core.specs.Ranges.{Range}
use Rattle.key_kind.specs.declared.key.Key.{Key}
use Rattle.key_kind.specs.Names.{Name}
use Rattle.bucket_core.specs.History.{History, stored, history_at}
use Rattle.store_model.specs.Library.{State, Version, Piece, state_of, base_of, staged_key}
use Rattle.store_model.specs.Links.{Linked, links, reached, is_needed}
use Rattle.expr_clause.specs.declared.command.Command.{Command}
use Rattle.expr_clause.specs.declared.command.Command.TheVariants as commands
use Rattle.reply_model.specs.declared.reply.Reply.{Reply}
use Rattle.reply_model.specs.Answering.{frame_of, fits_schema, append_before}
use Rattle.reply_model.specs.CommitAnswers.{update_range}
use Rattle.reply_model.specs.PieceAnswers.{stands_before, in_piece_order, taken, odd_column, overlap, first_schema, finalized_rows}
use Rattle.reply_model.specs.Windows.{Client, listed_at}

-- the base's columns, a first stamp that does not lie below the base's last, and no more rows, columns or cells than the limits allow:
-- what a base's index tells of a frame that is to be appended
pub record FitsBehind (base frame : Frame) : Type 0 where
  pub same : schemas_differ base.schema frame.schema ≡ None
  pub order : append_before (last_stamp base.rows) (first_stamp frame.rows) ≡ None
  pub few : too_large (length base.rows + length frame.rows) (length frame.schema.columns) 0 0 ≡ None

-- behind the look a key is gone of the version that was the symbol's base there: the key of its index, or another one where what its index tells fits
pub record LosesBase (h : History) (symbol : Name) (Fits : Version → Type 0) (look showed : ℕ) : Type 0 where
  pub version : Version
  pub base : base_of (state_of (history_at h look) symbol) ≡ Some version
  pub place : ℕ
  pub behind : look ≤ place
  pub before : place ≤ showed
  pub link : Linked
  pub link_is : Contains (links (history_at h place) symbol) link
  pub number : link.row.version ≡ version.number
  pub key : Key
  pub reached_by : Contains (reached link) key
  pub gone : stored (history_at h place) key ≡ None
  pub judged : (key ≡ link.row.index) ⊎ Fits version

-- the pieces that a finalize takes in a state, of those that were listed
abbrev pub taken_pieces : State → State → List Piece
taken_pieces listed st = in_piece_order stands_before (taken listed st)

-- there are some with these columns, all have them, and none begins before the one before it ends, unless they are to be sorted
pub record PiecesFit (listed st : State) (sorted : Bool) (schema : Schema) : Type 0 where
  pub first : first_schema (taken_pieces listed st) ≡ Some schema
  pub alike : odd_column schema (taken_pieces listed st) ≡ None
  pub apart : (if sorted then None else overlap 1 None (taken_pieces listed st)) ≡ None

-- the frame of these pieces
abbrev pub joined_pieces : State → State → Bool → Schema → Frame
joined_pieces listed st sorted schema = record { schema = schema; rows = finalized_rows sorted (taken_pieces listed st) }

-- behind the look a piece is gone that a finalize takes there, of those that were listed
pub record LosesPiece (h : History) (symbol : Name) (listed look showed : ℕ) : Type 0 where
  pub piece : Piece
  pub is_taken : Contains (taken (state_of (history_at h listed) symbol) (state_of (history_at h look) symbol)) piece
  pub place : ℕ
  pub behind : look ≤ place
  pub before : place ≤ showed
  pub gone : stored (history_at h place) (staged_key symbol piece) ≡ None

-- behind the look the index of a version is gone that was live or held there
pub record LosesIndex (h : History) (symbol : Name) (look showed : ℕ) : Type 0 where
  pub link : Linked
  pub link_is : Contains (links (history_at h look) symbol) link
  pub needed : is_needed (state_of (history_at h look) symbol) link ≡ true
  pub place : ℕ
  pub behind : look ≤ place
  pub before : place ≤ showed
  pub gone : stored (history_at h place) link.row.index ≡ None

-- pieces that could be joined lost the base of the symbol that they were to stand behind
pub record LosesBaseOfPieces (h : History) (symbol : Name) (sorted : Bool) (listed look showed : ℕ) : Type 0 where
  pub schema : Schema
  pub fit : PiecesFit (state_of (history_at h listed) symbol) (state_of (history_at h look) symbol) sorted schema
  pub base : LosesBase h symbol (λ v. FitsBehind v.frame (joined_pieces (state_of (history_at h listed) symbol) (state_of (history_at h look) symbol) sorted schema)) look showed

-- what a try of the command found gone, where the library had no refusal to give before it reads that
abbrev pub FindsGone : History → Client → Command → Reply → Name → ℕ → ℕ → Type 0
FindsGone h client (commands.Append own frame at prune) reply symbol look showed =
    (f : Frame) × (frame_of client.session frame ≡ Some (Ok f)) × LosesBase h symbol (λ v. FitsBehind v.frame f) look showed
FindsGone h client (commands.Update own frame range upsert at prune) reply symbol look showed =
    (f : Frame) × (frame_of client.session frame ≡ Some (Ok f)) × (r : Range) × (update_range range f ≡ Ok r) × LosesBase h symbol (λ v. fits_schema v.frame f ≡ Ok f) look showed
FindsGone h client (commands.DeleteRange own range at prune) reply symbol look showed = LosesBase h symbol (λ v. ⊤) look showed
FindsGone h client (commands.Finalize own true sorted at prune) reply symbol look showed =
    LosesPiece h symbol (listed_at reply) look showed ⊎ LosesBaseOfPieces h symbol sorted (listed_at reply) look showed
FindsGone h client (commands.Finalize own false sorted at prune) reply symbol look showed = LosesPiece h symbol (listed_at reply) look showed
FindsGone h client (commands.Reclaim own) reply symbol look showed = LosesIndex h symbol look showed
FindsGone h client c reply symbol look showed = ⊥
