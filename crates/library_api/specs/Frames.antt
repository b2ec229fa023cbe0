-- What the steps that make a version answer.
--     BringsTable         a session that brings raw columns as one of its frames, with its client, tries and stamp
--     IsLegalForTable     the reply of a command that names such a frame is legal for each such session
--     IsLegalWithStamp    the reply of a command without a frame is legal for each session that gives it a stamp
--     RefusesTable        raw columns are refused before any call
--     IsWrittenAlone, StandsBehindPuts      the commit of a write, if nobody else makes events
--     LaysDone, LaysForTable      that of a command that shares row blocks of the base
use Rattle.std.specs.Prelude.{◌≡◌, ℕ, ◌+◌, ℤ, false, length, slice_get, Option, Some, Result, Ok, Err}
use Rattle.frame_core.specs.declared.refusal.Refusal.{Refusal}
use Rattle.frame_core.specs.declared.refusal.Refused.{Refused}
use Rattle.frame_core.specs.Refusals.{Answers}
use Rattle.frame_core.specs.Frames.{Frame}
use Rattle.frame_core.specs.RawFrames.{Table, frame_of_table}
use Rattle.segment_cut.specs.Cuttings.{Cutting}
use Rattle.segment_cut.specs.Grids.{parts, grid_of}
use Rattle.key_kind.specs.Names.{Name}
use Rattle.bucket_core.specs.History.{History}
use Rattle.expr_clause.specs.declared.command.Command.{Command}
use Rattle.reply_model.specs.declared.reply.Reply.{Reply}
use Rattle.store_model.specs.Library.{State}
use Rattle.reply_model.specs.Answering.{Session, Answer, stamp_of}
use Rattle.reply_model.specs.Windows.{is_refused}
use Rattle.frame_write.specs.Writes.{IsGridLinked}
use Rattle.append_update.specs.Replies.{Runs}
use Rattle.append_update.specs.RowBlocks.{LaysAs}
use Rattle.reply_model.specs.Blocks.{run_cutting}
use Rattle.library_api.specs.Steps.{IsLegalIn}

-- a session of this client, with so many tries, whose frame n is this table; a command of it that asks for this stamp has that one
pub record BringsTable (s : Session) (client tries n : ℕ) (table : Table) (asked : Option ℤ) (at : ℤ) : Type 0 where
  pub client_is : s.client ≡ client
  pub tries_are : s.tries ≡ tries
  pub table_is : slice_get s.frames n ≡ Some table
  pub stamp_is : stamp_of s asked ≡ at

-- for each session that brings the table the reply of the command that names it is legal
abbrev pub IsLegalForTable : ℕ → ℕ → ℕ → Table → ℤ → (ℕ → Option ℤ → Command) → ℕ → ℕ → History → History → Reply → Type 0
IsLegalForTable limit client tries table at command before now old new reply =
    (s : Session) (n : ℕ) (asked : Option ℤ) → BringsTable s client tries n table asked at → IsLegalIn (record { session = s; limit = limit }) before now old new (command n asked) reply

-- for each session of the client that gives the command this stamp its reply is legal
abbrev pub IsLegalWithStamp : ℕ → ℕ → ℕ → ℤ → (Option ℤ → Command) → ℕ → ℕ → History → History → Reply → Type 0
IsLegalWithStamp limit client tries at command before now old new reply =
    (s : Session) (asked : Option ℤ) → Runs s client tries asked at → IsLegalIn (record { session = s; limit = limit }) before now old new (command asked) reply

-- a refusal at this place: that of the table's frame, or want of memory
pub record RefusesTable (table : Table) (place : ℕ) (refused : Refused) : Type 0 where
  pub place_is : refused.place ≡ place
  pub why : Answers (Err refused.why) (frame_of_table table)

-- a commit of the frame stands at this place behind its puts: the frame's tiles, the index and the element; and the symbol's newest link has
-- the tiles of the frame's grid
pub record IsWrittenAlone (symbol : Name) (whole : Frame) (cutting : Cutting) (old new : History) (place : ℕ) : Type 0 where
  pub stands : place ≡ length old + (length (parts (grid_of whole cutting)) + 3)
  pub linked : IsGridLinked new symbol whole cutting

-- a write that is not refused makes such a commit of the table's frame
abbrev pub StandsBehindPuts : Name → Table → Cutting → History → History → Reply → Type 0
StandsBehindPuts symbol table cutting old new reply =
    (whole : Frame) → frame_of_table table ≡ Ok whole → is_refused reply.outcome ≡ false → IsWrittenAlone symbol whole cutting old new reply.place

-- a command that is not refused lays out the version that the library answers
abbrev pub LaysDone : Cutting → Name → (State → Result Answer Refusal) → History → History → Reply → Type 0
LaysDone cutting symbol answer old new reply = is_refused reply.outcome ≡ false → LaysAs (run_cutting cutting) symbol answer reply.place old new

-- so does one that brings a frame, for the table's
abbrev pub LaysForTable : Cutting → Name → Table → (Frame → State → Result Answer Refusal) → History → History → Reply → Type 0
LaysForTable cutting symbol table answer old new reply = (whole : Frame) → frame_of_table table ≡ Ok whole → LaysDone cutting symbol (answer whole) old new reply
