-- What the steps of preparing a run answer; they halt by a stop or by want of memory.
--     KeepsUnlessRead         no failure of the shelf was passed over
--     FetchHalts, LoadHalts       why the file of a name gave no bytes, and that of a load no frame
--     FailsAt, LoadsHalt      the load at which loading halted, before which all are good
--     ScriptHalts             why there is no script
--     said, FindsJob          what the words say; the script that they name, and their options
--     parts_in, job_in, PlanIs      the commands of a plan, and its job; the plan of the words, or why there is none
use Rattle.std.specs.Prelude.{◌≡◌, ℕ, ⊤, List, ◌∷◌, ◌++◌, map, None, Result, Ok, Err}
use Rattle.std.specs.List.{AllZip}
use Rattle.frame_core.specs.Texts.{Text}
use Rattle.frame_core.specs.RawFrames.{Table, table_of}
use Rattle.program_edge.specs.Shelves.{Held}
use Rattle.reply_model.specs.Blocks.{run_cutting}
use Rattle.client_sessions.specs.Parts.{Parts}
use Rattle.script_lang.specs.declared.load.Load.{Load}
use Rattle.script_lang.specs.declared.script.Script.{Script}
use Rattle.program_run.specs.declared.stop.Stop.TheVariants as stops
use Rattle.program_run.specs.declared.stop.Halt.{Halt}
use Rattle.program_run.specs.declared.stop.Halt.TheVariants as halts
use Rattle.program_run.specs.declared.prepare.Plan.{Plan}
use Rattle.program_run.specs.declared.words.Options.{Options}
use Rattle.program_run.specs.CommandLine.{run, Words}
use Rattle.program_run.specs.Program.{Job, table_in_file}
use Rattle.program_run.specs.Causes.{HeldAs, NotFetched, FindsScript, GivesTable, IsPrepared, StopsBy}

-- the count of faults stood still where a run halts for another cause than memory and a file that could not be read
abbrev pub KeepsUnlessRead : ℕ → ℕ → Halt → Type 0
KeepsUnlessRead before now halts.NoMemory = ⊤
KeepsUnlessRead before now (halts.Stop (stops.Unreadable file)) = ⊤
KeepsUnlessRead before now (halts.Stop stops.Usage) = now ≡ before
KeepsUnlessRead before now (halts.Stop stops.BadScript) = now ≡ before
KeepsUnlessRead before now (halts.Stop (stops.BadFile file)) = now ≡ before

-- a file of this name gave no bytes
abbrev pub FetchHalts : Held → ℕ → ℕ → Text → Halt → Type 0
FetchHalts holds before now name halts.NoMemory = ⊤
FetchHalts holds before now name (halts.Stop (stops.Unreadable file)) = (file ≡ name) × NotFetched holds before now name
FetchHalts holds before now name (halts.Stop _) = ⊥

-- a file is held, and is no file of the load's frame
pub record HoldsBadFile (holds : Held) (load : Load) : Type 0 where
  pub bytes : Text
  pub held : HeldAs holds load.file bytes
  pub file_bad : table_in_file load bytes ≡ None

-- a load gave no frame
abbrev pub LoadHalts : Held → ℕ → ℕ → Load → Halt → Type 0
LoadHalts holds before now load halts.NoMemory = ⊤
LoadHalts holds before now load (halts.Stop (stops.Unreadable file)) = (file ≡ load.file) × NotFetched holds before now load.file
LoadHalts holds before now load (halts.Stop (stops.BadFile file)) = (file ≡ load.file) × HoldsBadFile holds load
LoadHalts holds before now load (halts.Stop _) = ⊥

-- the load at which loading halted, before which all are good
pub record FailsAt (holds : Held) (before now : ℕ) (loads : List Load) (halt : Halt) : Type 0 where
  pub load : Load
  pub earlier : List Load
  pub later : List Load
  pub loads_are : loads ≡ earlier ++ load ∷ later
  pub frames : List Table
  pub loaded : AllZip (GivesTable holds) earlier frames
  pub fails : LoadHalts holds before now load halt

-- the loads gave no frames
abbrev pub LoadsHalt : Held → ℕ → ℕ → List Load → Halt → Type 0
LoadsHalt holds before now loads halts.NoMemory = ⊤
LoadsHalt holds before now loads (halts.Stop s) = FailsAt holds before now loads (halts.Stop s)

-- the words gave no script
abbrev pub ScriptHalts : Held → ℕ → ℕ → List Text → Halt → Type 0
ScriptHalts holds before now words halts.NoMemory = ⊤
ScriptHalts holds before now words (halts.Stop s) = StopsBy holds before now words s

-- what the words say, by the script's name and the options
abbrev pub said : Text → Options → Words
said name options = record { verb = run; word = name; rows = options.cutting.rows; cols = options.cutting.cols; tries = options.tries }

-- the script that the words name, and the options that they say
pub record FindsJob (holds : Held) (words : List Text) (script : Script) (options : Options) : Type 0 where
  pub found : FindsScript holds words script
  pub says : found.said ≡ said found.said.word options

-- the commands of a plan's parts
abbrev pub parts_in : Plan → Parts
parts_in plan = record { first = plan.first; blocks = plan.blocks; last = plan.last }

-- the job of a plan
abbrev pub job_in : Plan → Job
job_in plan = record { cutting = run_cutting plan.options.cutting; tries = plan.options.tries; names = plan.names; parts = parts_in plan; frames = map table_of plan.frames }

-- the plan of the words, or why there is none
abbrev pub PlanIs : Held → ℕ → ℕ → List Text → Result Plan Halt → Type 0
PlanIs holds before now words (Ok plan) = IsPrepared holds words (job_in plan)
PlanIs holds before now words (Err halts.NoMemory) = ⊤
PlanIs holds before now words (Err (halts.Stop s)) = StopsBy holds before now words s
