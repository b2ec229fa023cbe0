-- What a command that makes a new version answers, as a reply of its client.
--     Brings              a session that brings the frame of a write, with its client, tries and stamp
--     reply_to            the result as a reply
--     IsLegalWrite        the reply to a write is legal for each such session
--     IsWritten, Never, Always, Whole      what a write asks of its commit; no library refuses it, it has a change to make always, and finds nothing lost
--     StandsAlone         the place of a commit where nobody else makes events
--     newest_index, IsGridLinked      the index of a symbol's newest link; it is that of a frame's grid
use Rattle.std.specs.Prelude.{◌≡◌, ℕ, ◌+◌, ℤ, Bool, true, [], ◌∷◌, length, map, Option, Some, None, option_map, Result, Ok, Err, ⊤}
use Rattle.base_types.specs.Faults.{Rose}
use Rattle.frame_core.specs.Frames.{Frame}
use Rattle.frame_core.specs.declared.refusal.Refusal.{Refusal}
use Rattle.frame_core.specs.declared.refusal.Refused.{Refused}
use Rattle.segment_cut.specs.Cuttings.{Cutting, IsCutting}
use Rattle.segment_cut.specs.Grids.{parts, grid_of}
use Rattle.index_tree.specs.declared.index.Slot.{Slot}
use Rattle.index_tree.specs.declared.index.Index.{Index}
use Rattle.key_kind.specs.Names.{Name}
use Rattle.bucket_core.specs.declared.event.Change.TheVariants as changes
use Rattle.bucket_core.specs.History.{History}
use Rattle.store_model.specs.Library.{state_of, first_of}
use Rattle.store_model.specs.Links.{Linked, links}
use Rattle.expr_clause.specs.declared.command.Command.{Command}
use Rattle.expr_clause.specs.declared.command.Command.TheVariants as commands
use Rattle.reply_model.specs.declared.outcome.Outcome.TheVariants as outcomes
use Rattle.reply_model.specs.declared.reply.Reply.{Reply}
use Rattle.reply_model.specs.Answering.{Session, frame_of, stamp_of, pruned}
use Rattle.reply_model.specs.Legal.{IsLegalReply}
use Rattle.frame_write.specs.declared.options.Committed.{Committed}
use Rattle.frame_write.specs.declared.options.Options.{Options}
use Rattle.frame_write.specs.Tries.{Made}

-- a session of this client, with so many tries, whose frame n is this one; a command of it that asks for this stamp has that one
pub record Brings (s : Session) (client tries n : ℕ) (frame : Frame) (asked : Option ℤ) (at : ℤ) : Type 0 where
  pub client_is : s.client ≡ client
  pub tries_are : s.tries ≡ tries
  pub frame_is : frame_of s n ≡ Some (Ok frame)
  pub stamp_is : stamp_of s asked ≡ at

-- the result of a command, as a reply
abbrev pub reply_to : Result Committed Refused → Reply
reply_to (Ok done) = record { place = done.place; listed = None; commits = done.place ∷ []; left = []; outcome = outcomes.Committed done.version }
reply_to (Err refused) = record { place = refused.place; listed = None; commits = []; left = []; outcome = outcomes.Refused refused.why }

-- the reply to a command of the session is legal, with the window that the call added and a flag that is set where the faults rose
abbrev pub IsLegalCall : Session → Command → ℕ → ℕ → ℕ → History → History → Result Committed Refused → Type 0
IsLegalCall s command limit before now old new result =
    (faulted : Bool) → (Rose before now → faulted ≡ true)
    → IsLegalReply new (record { session = s; limit = limit }) command (reply_to result) (record { start = length old; stop = length new; faulted = faulted })

-- for each session that brings the frame the reply is legal
abbrev pub IsLegalWrite : ℕ → ℕ → ℕ → Name → Frame → ℤ → Bool → ℕ → ℕ → History → History → Result Committed Refused → Type 0
IsLegalWrite limit client tries symbol frame at prune before now old new result =
    (s : Session) (n : ℕ) (asked : Option ℤ) → Brings s client tries n frame asked at → IsLegalCall s (commands.Write symbol n asked prune) limit before now old new result

-- ---- what a write makes

-- the frame, with what it buries; a put for each part of its grid, the index and the element; the index has these parts
pub record IsWritten (symbol : Name) (frame : Frame) (options : Options) (m : Made) : Type 0 where
  pub list : m.list ≡ changes.Wrote frame options.at ∷ pruned (state_of m.before symbol) options.prune
  pub puts : length m.puts ≡ length (parts (grid_of frame options.cutting)) + 2
  pub parts_are : map (λ (s : Slot). s.part) m.index.slots ≡ parts (grid_of frame options.cutting)

-- no library refuses a write
abbrev pub Never : History → Refusal → Type 0
Never h why = ⊥

-- a write has a change to make in every history
abbrev pub Always : History → Type 0
Always h = ⊤

-- a write reads nothing that may be lost
abbrev pub Whole : History → ℕ → ℕ → Type 0
Whole h look showed = ⊥

-- where nobody else makes events, a commit stands behind its puts: so many tiles, the index and the element
abbrev pub StandsAlone : ℕ → History → Committed → Type 0
StandsAlone tiles old done = done.place ≡ length old + tiles + 3

-- the index of the symbol's newest link
abbrev pub newest_index : History → Name → Option Index
newest_index h symbol = option_map (λ (l : Linked). l.index) (first_of (links h symbol))

-- the slots of that index are the parts of the frame's grid
pub record IsGridLinked (h : History) (symbol : Name) (frame : Frame) (cutting : Cutting) : Type 0 where
  pub cutting_is : IsCutting cutting
  pub index : Index
  pub newest : newest_index h symbol ≡ Some index
  pub parts_are : map (λ (s : Slot). s.part) index.slots ≡ parts (grid_of frame cutting)
