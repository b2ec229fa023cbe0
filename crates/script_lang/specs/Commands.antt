-- The commands of a plain script, by the words of a line.
--     Form                    how the words behind a command's own make it
--     commit_form, update_form, delete_range_form     the commands that make a version
--     delete_form, symbol_form, read_form     the other commands
--     forms                   each command by the word that begins it
--     command_of              the command of a line's first word and those behind it
use Rattle.std.specs.Prelude.{ℕ, ℤ, Bool, List, [], ◌∷◌, Option, Some, None, codes, unwrap_or, option_map}
use Rattle.frame_core.specs.Texts.{Text}
use Rattle.frame_core.specs.Ranges.{Range}
use Rattle.expr_clause.specs.declared.command.AsOf.TheVariants as moments
use Rattle.expr_clause.specs.declared.command.Command.{Command}
use Rattle.expr_clause.specs.declared.command.Command.TheVariants as commands
use Rattle.script_lang.specs.declared.command.Commit.{Commit}
use Rattle.script_lang.specs.Fronts.{◌>>=◌, sign_at}
use Rattle.script_lang.specs.Words.{under, symbol_of, frame_of}
use Rattle.script_lang.specs.Moments.{range_of}
use Rattle.script_lang.specs.Options.{commit_options, update_options, versions_given, read_options}

-- the names of the loaded frames, and the words after the command's own: its command
abbrev pub Form : Type 0
Form = List Text → List Text → Option Command

-- ---- commits

-- `SYM FRAME`, and the options of a commit
abbrev pub commit_of : List Text → List Text → Option Commit
commit_of frames (symbol ∷ frame ∷ more) = do
  s ← symbol_of symbol
  f ← frame_of frames frame
  o ← commit_options more
  Some (record { symbol = s; frame = f; options = o })
commit_of frames _ = None

-- a command of a symbol, a frame and the options of a commit
abbrev pub commit_form : (Text → ℕ → Option ℤ → Bool → Command) → Form
commit_form command frames words = option_map (λ (c : Commit). command c.symbol c.frame c.options.at c.options.prune) (commit_of frames words)

-- `update SYM FRAME`, and `range=R`, `upsert` and the options of a commit
abbrev pub update_form : Form
update_form frames (symbol ∷ frame ∷ more) = do
  s ← symbol_of symbol
  f ← frame_of frames frame
  o ← update_options more
  Some (commands.Update s f o.range o.upsert o.commit.at o.commit.prune)
update_form frames _ = None

-- `range=R`
abbrev pub required_range : Text → Option Range
required_range word = sign_at (codes "range=") word >>= range_of

-- `delete_range SYM range=R`, and the options of a commit
abbrev pub delete_range_form : List Text → Option Command
delete_range_form (symbol ∷ range ∷ more) = do
  s ← symbol_of symbol
  r ← required_range range
  o ← commit_options more
  Some (commands.DeleteRange s r o.at o.prune)
delete_range_form _ = None

-- ---- other commands

-- `delete SYM`, and its versions
abbrev pub delete_form : List Text → Option Command
delete_form (symbol ∷ more) = do
  s ← symbol_of symbol
  v ← versions_given more
  Some (commands.Delete s v)
delete_form _ = None

-- a symbol alone
abbrev pub only_symbol : List Text → Option Text
only_symbol (symbol ∷ []) = symbol_of symbol
only_symbol _ = None

-- a command of a symbol alone
abbrev pub symbol_form : (Text → Command) → List Text → Option Command
symbol_form command words = option_map command (only_symbol words)

-- every stamp
abbrev pub whole_range : Range
whole_range = record { from = None; to = None }

-- `read SYM`, and its options: the latest version, every row and all columns, where nothing else is said
abbrev pub read_form : List Text → Option Command
read_form (symbol ∷ more) = do
  s ← symbol_of symbol
  o ← read_options more
  Some (commands.Read s (unwrap_or o.as_of (moments.Back 1)) (unwrap_or o.range whole_range) o.columns [])
read_form _ = None

-- each command by the word that begins it
abbrev pub forms : List (Text × Form)
forms =
    (codes "write", commit_form commands.Write)
    ∷ (codes "append", commit_form commands.Append)
    ∷ (codes "update", update_form)
    ∷ (codes "delete_range", λ frames. delete_range_form)
    ∷ (codes "delete", λ frames. delete_form)
    ∷ (codes "prune", λ frames. symbol_form commands.Prune)
    ∷ (codes "reclaim", λ frames. symbol_form commands.Reclaim)
    ∷ (codes "versions", λ frames. symbol_form commands.Versions)
    ∷ (codes "keys", λ frames. symbol_form commands.Keys)
    ∷ (codes "read", λ frames. read_form)
    ∷ []

-- the command of a line's first word and those behind it
abbrev pub command_of : List Text → Text → List Text → Option Command
command_of frames verb words = under verb forms >>= λ form. form frames words
