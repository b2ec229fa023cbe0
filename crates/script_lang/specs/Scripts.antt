-- The plain script.
--     Draft                   the loads and the parts of a script, up to some line
--     after_line              what one more line makes of it, if some rule allows this line
--     plain_script_of         the script of a text
--     AreLoaded               what each script keeps: commands of the plain form, whose frames are loaded
use Rattle.std.specs.Prelude.{ℕ, ◌<◌, ⊤, Bool, true, false, List, [], ◌∷◌, ◌++◌, length, Option, Some, None, option_map, nat_le, codes}
use Rattle.std.specs.List.{AllByRecursion}
use Rattle.frame_core.specs.Texts.{Text}
use Rattle.expr_clause.specs.declared.command.Command.{Command}
use Rattle.expr_clause.specs.declared.command.Command.TheVariants as commands
use Rattle.script_lang.specs.declared.client.ClientPart.{ClientPart}
use Rattle.script_lang.specs.declared.draft.Stage.{Stage}
use Rattle.script_lang.specs.declared.draft.Stage.TheVariants as stages
use Rattle.script_lang.specs.declared.load.Load.{Load}
use Rattle.script_lang.specs.declared.script.Script.{Script}
use Rattle.script_lang.specs.Fronts.{◌>>=◌, where_true}
use Rattle.script_lang.specs.Lines.{lines_of, words_of}
use Rattle.script_lang.specs.Words.{under}
use Rattle.script_lang.specs.Loads.{frame_names, load_of}
use Rattle.script_lang.specs.Clients.{new_client_of, in_last_client}
use Rattle.script_lang.specs.Commands.{command_of}

-- the loads, the commands of each part in order, and what the lines so far have come to
pub record Draft : Type 0 where
  pub loads : List Load
  pub first : List Command
  pub clients : List ClientPart
  pub last : List Command
  pub stage : Stage

-- a script before its first line
abbrev pub no_lines : Draft
no_lines = record { loads = []; first = []; clients = []; last = []; stage = stages.Loads }

-- no part has begun
abbrev pub before_parts : Stage → Bool
before_parts stages.Loads = true
before_parts _ = false

-- the part `last` has not begun
abbrev pub before_last : Stage → Bool
before_last stages.Last = false
before_last _ = true

-- ---- lines

-- what a line makes of a draft by the words behind its first one
abbrev pub LineForm : Type 0
LineForm = Draft → List Text → Option Draft

-- `load FRAME FILE TYPES`, before each part
abbrev pub after_load : LineForm
after_load d words = where_true (before_parts d.stage) words >>= load_of d.loads >>= λ load. Some (record d { loads = d.loads ++ load ∷ [] })

-- `first`, before the other parts
abbrev pub after_first : LineForm
after_first d [] = where_true (before_parts d.stage) (record d { stage = stages.First })
after_first d _ = None

-- one more client of this name, before `last`
abbrev pub with_client : Draft → Text → Option Draft
with_client d word = where_true (before_last d.stage) word >>= new_client_of d.clients >>= λ name. Some (record d { clients = d.clients ++ record { name = name; commands = [] } ∷ []; stage = stages.Clients })

-- the word that stands alone
abbrev pub only_word : List Text → Option Text
only_word (word ∷ []) = Some word
only_word _ = None

-- `client NAME`
abbrev pub after_client : LineForm
after_client d words = only_word words >>= with_client d

-- `last`, once
abbrev pub after_last : LineForm
after_last d [] = where_true (before_last d.stage) (record d { stage = stages.Last })
after_last d _ = None

-- the command stands behind those of the part that the lines have come to
abbrev pub in_part : Stage → Draft → Command → Option Draft
in_part stages.Loads d c = None
in_part stages.First d c = Some (record d { first = d.first ++ c ∷ [] })
in_part stages.Clients d c = in_last_client d.clients c >>= λ parts. Some (record d { clients = parts })
in_part stages.Last d c = Some (record d { last = d.last ++ c ∷ [] })

-- a command stands behind those before
abbrev pub with_command : Draft → Command → Option Draft
with_command d c = in_part d.stage d c

-- the lines that begin with their own word and are no command
abbrev pub line_forms : List (Text × LineForm)
line_forms = (codes "load", after_load) ∷ (codes "first", after_first) ∷ (codes "client", after_client) ∷ (codes "last", after_last) ∷ []

-- what a line makes of the draft by the form of its first word, or else as a command
abbrev pub after_form : Option LineForm → Draft → Text → List Text → Option Draft
after_form (Some form) d verb words = form d words
after_form None d verb words = command_of (frame_names d.loads) verb words >>= with_command d

-- what a line of this first word and these behind it makes of the draft, if a rule allows it
abbrev pub after_verb : Draft → Text → List Text → Option Draft
after_verb d verb words = after_form (under verb line_forms) d verb words

-- what these words make of the draft, if a rule allows them
abbrev pub after_words : LineForm
after_words d [] = None
after_words d (verb ∷ words) = after_verb d verb words

-- what one more line makes of the draft, if a rule allows it
abbrev pub after_line : Draft → Text → Option Draft
after_line d line = after_words d (words_of line)

-- the draft after these lines, if a rule allows each of them
abbrev pub after_lines : Draft → List Text → Option Draft
after_lines d [] = Some d
after_lines d (line ∷ lines) = after_line d line >>= λ next. after_lines next lines

-- ---- the script

-- the script of a draft
abbrev pub finished : Draft → Script
finished d = record { loads = d.loads; first = d.first; clients = d.clients; last = d.last }

-- a plain script has so many lines at most
abbrev pub most_lines : ℕ
most_lines = 1000

-- the script of a text
abbrev pub plain_script_of : Text → Option Script
plain_script_of text = lines_of text >>= λ lines. where_true (nat_le (length lines) most_lines) lines >>= after_lines no_lines >>= λ draft. Some (finished draft)

-- ---- what each script keeps

-- the command is one of a plain script, and its frame, if it has one, is one of so many loads
abbrev pub IsLoaded : ℕ → Command → Type 0
IsLoaded loads (commands.Write symbol frame at prune) = frame < loads
IsLoaded loads (commands.Append symbol frame at prune) = frame < loads
IsLoaded loads (commands.Update symbol frame range upsert at prune) = frame < loads
IsLoaded loads (commands.Stage symbol frame) = ⊥
IsLoaded loads (commands.Finalize symbol append sorted at prune) = ⊥
IsLoaded loads (commands.Discard symbol) = ⊥
IsLoaded loads (commands.Snapshot snap picks) = ⊥
IsLoaded loads (commands.DeleteSnapshot snap) = ⊥
IsLoaded loads commands.Symbols = ⊥
IsLoaded loads commands.Snapshots = ⊥
IsLoaded loads _ = ⊤

-- each of these commands is so
abbrev pub AllLoaded : ℕ → List Command → Type 0
AllLoaded loads list = AllByRecursion (IsLoaded loads) list

-- each command of each part is one of a plain script, and its frame is loaded
pub record AreLoaded (script : Script) : Type 0 where
  pub first : AllLoaded (length script.loads) script.first
  pub clients : AllByRecursion (λ (part : ClientPart). AllLoaded (length script.loads) part.commands) script.clients
  pub last : AllLoaded (length script.loads) script.last
