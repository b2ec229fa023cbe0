-- What a run rests on before its first command, by the answers of the shelf.
--     HeldAs, IsMissing       what is held under a name, where the shelf tells
--     NotFetched              why a fetch gave nothing
--     FindsScript             the words name a script that the shelf holds
--     GivesTable, ReachesLoad     the raw frame of a load, and a load before which all others are good
--     IsBadScript, IsUnreadable, IsBadFile      why a run stops
--     IsPrepared, Prepares    the job of the words, or why the run stops
use Rattle.std.specs.Prelude.{◌≡◌, ◌⊎◌, ℕ, ⊤, List, ◌∷◌, ◌++◌, Some, None, Result, Ok, Err}
use Rattle.std.specs.List.{AllZip}
use Rattle.base_types.specs.Faults.{Rose}
use Rattle.frame_core.specs.Texts.{Text}
use Rattle.frame_core.specs.RawFrames.{Table}
use Rattle.program_edge.specs.Shelves.{Held}
use Rattle.script_lang.specs.declared.load.Load.{Load}
use Rattle.script_lang.specs.declared.script.Script.{Script}
use Rattle.program_run.specs.Jobs.{script_in}
use Rattle.program_run.specs.declared.stop.Stop.{Stop}
use Rattle.program_run.specs.declared.stop.Stop.TheVariants as stops
use Rattle.program_run.specs.CommandLine.{Words, plain_words_of, first_set}
use Rattle.program_run.specs.Program.{Job, job_of, table_in_file}

-- ---- the shelf

-- the shelf holds these bytes under the name, where it tells
abbrev pub HeldAs : Held → Text → Text → Type 0
HeldAs None name bytes = ⊤
HeldAs (Some held) name bytes = held name ≡ Some bytes

-- the shelf does not hold the name, where it tells
abbrev pub IsMissing : Held → Text → Type 0
IsMissing None name = ⊤
IsMissing (Some held) name = held name ≡ None

-- a fetch gave nothing: the count of faults rose, or the name is not held
abbrev pub NotFetched : Held → ℕ → ℕ → Text → Type 0
NotFetched holds before now name = Rose before now ⊎ IsMissing holds name

-- ---- the script and its loads

-- the words name a script that the shelf holds
pub record FindsScript (holds : Held) (words : List Text) (script : Script) : Type 0 where
  pub said : Words
  pub words_are : plain_words_of first_set words ≡ Some said
  pub bytes : Text
  pub held : HeldAs holds said.word bytes
  pub script_is : script_in bytes ≡ Some script

-- the shelf holds the file of a load, which is that of a raw frame
pub record GivesTable (holds : Held) (load : Load) (table : Table) : Type 0 where
  pub bytes : Text
  pub held : HeldAs holds load.file bytes
  pub table_is : table_in_file load bytes ≡ Some table

-- a load of the script, before which all others are good
pub record ReachesLoad (holds : Held) (words : List Text) (load : Load) : Type 0 where
  pub script : Script
  pub found : FindsScript holds words script
  pub earlier : List Load
  pub later : List Load
  pub loads_are : script.loads ≡ earlier ++ load ∷ later
  pub frames : List Table
  pub loaded : AllZip (GivesTable holds) earlier frames

-- ---- why a run stops

-- the words name a script that the shelf holds, which is outside its form
pub record IsBadScript (holds : Held) (words : List Text) : Type 0 where
  pub said : Words
  pub words_are : plain_words_of first_set words ≡ Some said
  pub bytes : Text
  pub held : HeldAs holds said.word bytes
  pub script_bad : script_in bytes ≡ None

-- the script's name
pub record NamesScript (words : List Text) (name : Text) : Type 0 where
  pub said : Words
  pub words_are : plain_words_of first_set words ≡ Some said
  pub name_is : said.word ≡ name

-- the file of a load, before which all others are good
pub record NamesLoad (holds : Held) (words : List Text) (name : Text) : Type 0 where
  pub load : Load
  pub reached : ReachesLoad holds words load
  pub name_is : load.file ≡ name

-- a name that is wanted, and gave nothing
pub record IsUnreadable (holds : Held) (before now : ℕ) (words : List Text) (name : Text) : Type 0 where
  pub wanted : NamesScript words name ⊎ NamesLoad holds words name
  pub missed : NotFetched holds before now name

-- the file of a load, before which all others are good, is outside its form
pub record IsBadFile (holds : Held) (words : List Text) (name : Text) : Type 0 where
  pub named : NamesLoad holds words name
  pub bytes : Text
  pub held : HeldAs holds name bytes
  pub file_bad : table_in_file named.load bytes ≡ None

-- why a run stops
abbrev pub StopsBy : Held → ℕ → ℕ → List Text → Stop → Type 0
StopsBy holds before now words stops.Usage = plain_words_of first_set words ≡ None
StopsBy holds before now words stops.BadScript = IsBadScript holds words
StopsBy holds before now words (stops.Unreadable name) = IsUnreadable holds before now words name
StopsBy holds before now words (stops.BadFile name) = IsBadFile holds words name

-- ---- what is prepared

-- the job of the words, of their script and of the raw frames of its loads
pub record IsPrepared (holds : Held) (words : List Text) (job : Job) : Type 0 where
  pub script : Script
  pub found : FindsScript holds words script
  pub frames : List Table
  pub loaded : AllZip (GivesTable holds) script.loads frames
  pub job_is : job ≡ job_of found.said script frames

-- the job, or why the run stops
abbrev pub Prepares : Held → ℕ → ℕ → List Text → Result Job Stop → Type 0
Prepares holds before now words (Ok job) = IsPrepared holds words job
Prepares holds before now words (Err s) = StopsBy holds before now words s
