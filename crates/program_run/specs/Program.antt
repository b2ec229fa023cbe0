-- What a run is to do, and what it gives.
--     stop_status, stop_line  the status and the line of a run that ends before its first command
--     Shelf                   the bytes of a file that the shelf holds
--     Job, job_of             what a run is to do
--     prepared                the job of the words, or why the run stops
--     replies_status          the status of replies
--     Run, run_of, stopped    a status, and the lines that are put, each by a put of its own
--     run_alone               the run of a script with at most one block, from the empty history
use Rattle.std.specs.Prelude.{ℕ, ℤ, Bool, true, false, ◌||◌, if◌then◌else◌, List, [], ◌∷◌, ◌++◌, Option, Some, None, option_map, Result, Ok, Err, codes}
use Rattle.std.specs.List.{list_any}
use Rattle.frame_core.specs.Texts.{Text}
use Rattle.frame_core.specs.declared.refusal.Refusal.TheVariants as refusals
use Rattle.frame_core.specs.RawFrames.{Table}
use Rattle.expr_clause.specs.declared.command.Command.{Command}
use Rattle.reply_model.specs.declared.outcome.Outcome.{Outcome}
use Rattle.reply_model.specs.declared.outcome.Outcome.TheVariants as outcomes
use Rattle.reply_model.specs.declared.reply.Reply.{Reply}
use Rattle.reply_model.specs.Windows.{is_refused}
use Rattle.reply_model.specs.Blocks.{Cutting, run_cutting}
use Rattle.reply_model.specs.Sole.{SoleRun, sole}
use Rattle.client_sessions.specs.declared.parts.PartReplies.{PartReplies}
use Rattle.client_sessions.specs.Parts.{Parts}
use Rattle.script_lang.specs.declared.load.Load.{Load}
use Rattle.script_lang.specs.declared.script.Script.{Script}
use Rattle.script_lang.specs.Fronts.{◌>>=◌}
use Rattle.script_lang.specs.PlainFiles.{plain_table_of}
use Rattle.program_run.specs.Jobs.{client_names, parts_of, script_in}
use Rattle.program_run.specs.declared.stop.Stop.{Stop}
use Rattle.program_run.specs.declared.stop.Stop.TheVariants as stops
use Rattle.program_run.specs.CommandLine.{Words, plain_words_of, first_set}
use Rattle.reply_text.specs.FrameText.{ended}
use Rattle.program_run.specs.Transcript.{transcript}

-- the status of a stop
abbrev pub stop_status : Stop → ℕ
stop_status stops.Usage = 2
stop_status stops.BadScript = 3
stop_status (stops.Unreadable name) = 4
stop_status (stops.BadFile file) = 7

-- what is said of a stop
unfoldable pub stop_text : Stop → Text
stop_text stops.Usage = first_set.usage
stop_text stops.BadScript = codes "script"
stop_text (stops.Unreadable name) = codes "cannot read " ++ name
stop_text (stops.BadFile file) = file

-- the line of a stop
unfoldable pub stop_line : Stop → Text
stop_line s = ended (codes "arctic: " ++ stop_text s)

-- ---- the job

-- the bytes of a file that the shelf holds
abbrev pub Shelf : Type 0
Shelf = Text → Option Text

-- how frames are cut, how often a commit is tried, the clients' names, the commands of the parts, and the frames that they name, not tested
pub record Job : Type 0 where
  pub cutting : Cutting
  pub tries : ℕ
  pub names : List Text
  pub parts : Parts
  pub frames : List Table

-- the job of what the words say, of a script and of the files that it loads
abbrev pub job_of : Words → Script → List Table → Job
job_of said script frames = record { cutting = run_cutting (record { rows = said.rows; cols = said.cols }); tries = said.tries; names = client_names script.clients; parts = parts_of script; frames = frames }

-- the value, or the stop where there is none
abbrev pub or_stop : {A : Type 0} → Stop → Option A → Result A Stop
or_stop stop (Some a) = Ok a
or_stop stop None = Err stop

-- one step after another
infixl 10 ◌then◌
abbrev pub ◌then◌ : {A B : Type 0} → Result A Stop → (A → Result B Stop) → Result B Stop
(Ok a) then f = f a
(Err s) then f = Err s

-- the raw frame of a loaded file
abbrev pub table_in_file : Load → Text → Option Table
table_in_file l bytes = plain_table_of l.types bytes

-- the bytes of a file
abbrev pub fetched : Shelf → Text → Result Text Stop
fetched shelf name = or_stop (stops.Unreadable name) (shelf name)

-- the raw frame of one load
abbrev pub loaded : Shelf → Load → Result Table Stop
loaded shelf l = fetched shelf l.file then λ bytes. or_stop (stops.BadFile l.file) (table_in_file l bytes)

-- the raw frames of the loads, fetched and read one after another
abbrev pub all_loaded : Shelf → List Load → Result (List Table) Stop
all_loaded shelf [] = Ok []
all_loaded shelf (l ∷ loads) = loaded shelf l then λ frame. all_loaded shelf loads then λ frames. Ok (frame ∷ frames)

-- the job of these words
abbrev pub prepared : Shelf → List Text → Result Job Stop
prepared shelf words =
    or_stop stops.Usage (plain_words_of first_set words) then λ said. fetched shelf said.word then λ bytes. or_stop stops.BadScript (script_in bytes) then λ script.
    all_loaded shelf script.loads then λ frames. Ok (job_of said script frames)

-- ---- the run

-- want of memory
abbrev pub wants_memory : Outcome → Bool
wants_memory (outcomes.Refused refusals.NoMemory) = true
wants_memory _ = false

-- a reply has such an outcome
abbrev pub some_outcome : (Outcome → Bool) → List Reply → Bool
some_outcome test replies = list_any (λ (r : Reply). test r.outcome) replies

-- a reply of some part has such an outcome
abbrev pub some_reply : (Outcome → Bool) → PartReplies → Bool
some_reply test r = some_outcome test r.first || list_any (some_outcome test) r.blocks || some_outcome test r.last

-- the status of replies: 6 where one is want of memory, else 1 where one is a refusal, else 0
abbrev pub replies_status : PartReplies → ℕ
replies_status replies = if some_reply wants_memory replies then 6 else if some_reply is_refused replies then 1 else 0

-- a status and lines
pub record Run : Type 0 where
  pub status : ℕ
  pub lines : List Text

-- the run of these replies, of clients of these names, where the history ends at this place
abbrev pub run_of : List Text → PartReplies → ℕ → Run
run_of names replies end = record { status = replies_status replies; lines = transcript names replies end }

-- the run of a stop
abbrev pub stopped : Stop → Run
stopped s = record { status = stop_status s; lines = stop_line s ∷ [] }

-- the commands of the one block, or none where there is no block
abbrev pub one_block : List (List Command) → Option (List Command)
one_block [] = Some []
one_block (block ∷ []) = Some block
one_block (block ∷ next ∷ more) = None

-- the replies of one client after another, for parts of such blocks
abbrev pub replies_alone : List (List Command) → SoleRun → PartReplies
replies_alone [] r = record { first = r.first; blocks = []; last = r.last }
replies_alone (block ∷ more) r = record { first = r.first; blocks = r.block ∷ []; last = r.last }

-- the run of a job, or of a stop, from the empty history, with at most one block: the first and the last commands as client 1 alone, and
-- between them the block as client 2 alone; there is none where no frame has a command's number
abbrev pub run_from : ℤ → Result Job Stop → Option Run
run_from moment (Ok job) = one_block job.parts.blocks >>= λ block.
    option_map (λ (r : SoleRun). run_of job.names (replies_alone job.parts.blocks r) r.events) (sole job.cutting job.frames moment job.parts.first block job.parts.last)
run_from moment (Err s) = Some (stopped s)

-- the whole run over a shelf
abbrev pub run_alone : ℤ → Shelf → List Text → Option Run
run_alone moment shelf words = run_from moment (prepared shelf words)
