-- The kinds of command, and of the causes of refusals.
--     Burial               what is buried
--     Kind, kind_of        what a command does, and on what
--     burial_command       the command of a burial
--     kind_symbol, kind_meets, kind_makes      of a kind: its symbol; whether a try of it may meet another's Refer; whether it makes a version
--     Cause, cause_of      why a command is refused
--     cuts, faults, tells  whether a call may have failed, the store has, or the one-thread library refuses
use Rattle.std.specs.Prelude.{ℕ, Bool, true, false, List, Option, Some, None}
use Rattle.frame_core.specs.declared.refusal.Refusal.{Refusal}
use Rattle.frame_core.specs.declared.refusal.Refusal.TheVariants as refusals
use Rattle.key_kind.specs.Names.{Name}
use Rattle.expr_clause.specs.declared.command.Pick.{Pick}
use Rattle.expr_clause.specs.declared.command.Command.{Command}
use Rattle.expr_clause.specs.declared.command.Command.TheVariants as commands

-- the listed versions, or every live one; or every live one but the newest
pub data Burial : Type 0 where
  Listed : Option (List ℕ) → Burial
  Older : Burial

-- makes a version of a symbol, or makes it of staged pieces; buries versions; consumes pieces; puts a piece; drops what is dead; reads a symbol, or
-- counts its keys; lists; holds, or gives up, what is under a name
pub data Kind : Type 0 where
  Makes : Name → Kind
  Finalizes : Name → Kind
  Buries : Name → Burial → Kind
  Discards : Name → Kind
  Stages : Name → ℕ → Kind
  Reclaims : Name → Kind
  Reads : Name → Kind
  Counts : Name → Kind
  Lists : Kind
  Holds : Name → List Pick → Kind
  Unholds : Name → Kind

-- the kind of a command
abbrev pub kind_of : Command → Kind
kind_of (commands.Write symbol frame at prune) = Makes symbol
kind_of (commands.Append symbol frame at prune) = Makes symbol
kind_of (commands.Update symbol frame range upsert at prune) = Makes symbol
kind_of (commands.DeleteRange symbol range at prune) = Makes symbol
kind_of (commands.Finalize symbol append sorted at prune) = Finalizes symbol
kind_of (commands.Discard symbol) = Discards symbol
kind_of (commands.Delete symbol versions) = Buries symbol (Listed versions)
kind_of (commands.Prune symbol) = Buries symbol Older
kind_of (commands.Stage symbol frame) = Stages symbol frame
kind_of (commands.Reclaim symbol) = Reclaims symbol
kind_of (commands.Versions symbol) = Reads symbol
kind_of (commands.Read symbol as_of range columns clauses) = Reads symbol
kind_of (commands.Keys symbol) = Counts symbol
kind_of commands.Symbols = Lists
kind_of commands.Snapshots = Lists
kind_of (commands.Snapshot snap picks) = Holds snap picks
kind_of (commands.DeleteSnapshot snap) = Unholds snap

-- the command of a burial
abbrev pub burial_command : Name → Burial → Command
burial_command symbol (Listed versions) = commands.Delete symbol versions
burial_command symbol Older = commands.Prune symbol

-- the symbol of a kind of command of one symbol
abbrev pub kind_symbol : Kind → Option Name
kind_symbol (Makes symbol) = Some symbol
kind_symbol (Finalizes symbol) = Some symbol
kind_symbol (Buries symbol burial) = Some symbol
kind_symbol (Discards symbol) = Some symbol
kind_symbol (Stages symbol frame) = Some symbol
kind_symbol (Reclaims symbol) = Some symbol
kind_symbol (Reads symbol) = Some symbol
kind_symbol (Counts symbol) = Some symbol
kind_symbol Lists = None
kind_symbol (Holds snap picks) = None
kind_symbol (Unholds snap) = None

-- a try of the command may meet another's Refer
abbrev pub kind_meets : Kind → Bool
kind_meets (Stages symbol frame) = false
kind_meets (Reads symbol) = false
kind_meets (Counts symbol) = false
kind_meets Lists = false
kind_meets _ = true

-- the command makes a version
abbrev pub kind_makes : Kind → Bool
kind_makes (Makes symbol) = true
kind_makes (Finalizes symbol) = true
kind_makes _ = false

-- ---- causes of refusals

-- free; the store failed; it is full; the tries were met; a version is gone; the one-thread library gives it
pub data Cause : Type 0 where
  Free : Cause
  Faulted : Cause
  Full : ℕ → Cause
  Met : ℕ → Cause
  Gone : ℕ → Cause
  Told : Cause

-- the cause of a refusal
abbrev pub cause_of : Refusal → Cause
cause_of refusals.NoMemory = Free
cause_of refusals.StoreFault = Faulted
cause_of (refusals.Spent count) = Full count
cause_of (refusals.Moved now) = Met now
cause_of (refusals.VersionGone number) = Gone number
cause_of _ = Told

-- a call of the command may have failed
abbrev pub cuts : Cause → Bool
cuts Free = true
cuts Faulted = true
cuts (Full count) = true
cuts _ = false

-- the store failed
abbrev pub faults : Cause → Bool
faults Faulted = true
faults _ = false

-- the one-thread library gives it
abbrev pub tells : Cause → Bool
tells Told = true
tells _ = false
