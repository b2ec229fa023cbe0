-- How a run ends.
--     Wrote, WrotePart        what was added to the output, where it tells
--     Printed, Prints         what printing a text did
--     Start                   what a run begins with
--     Performs, IsDue         a run that the job of the words makes due, and the history that it leaves
--     AllWritten, RunEnds     how the lines of a run came to be written, or not
--     JobEnds, Ends           the endings of a job, and all endings
--     IsTranscript, StopsByUsage, StopsByScript, StopsByFetch, StopsByPut, WantsMemory, StopsByFile      the ending of each status
--     HasOneBlock, IsOfOne      one client alone at a time runs on an empty store, and all is told of it
--     IsRun, IsRunOrFails     exactly the status and the output of a run; or that, unless something failed
use Rattle.std.specs.Prelude.{◌≡◌, ◌⊎◌, ⊤, ◌<◌, ◌≤◌, ℕ, ℤ, List, [], ◌++◌, length, take, Option, Some, None, Result, Ok, Err}
use Rattle.std.specs.List.{concat}
use Rattle.base_types.specs.Faults.{Rose}
use Rattle.frame_core.specs.Texts.{Text}
use Rattle.bucket_core.specs.History.{History}
use Rattle.bucket_shared.specs.declared.pass.Pass.{Pass}
use Rattle.bucket_shared.specs.Passes.{seen_of, number_of, limit_of}
use Rattle.reply_model.specs.Windows.{Client}
use Rattle.client_sessions.specs.declared.parts.PartReplies.{PartReplies}
use Rattle.client_sessions.specs.Parts as sessions
use Rattle.program_edge.specs.Shelves.{Held}
use Rattle.program_edge.specs.Clocks.{IsReading}
use Rattle.program_edge.specs.declared.sink.SinkErr.{SinkErr}
use Rattle.program_edge.specs.declared.sink.SinkErr.TheVariants as sinks
use Rattle.program_run.specs.declared.stop.Stop.{Stop}
use Rattle.program_run.specs.declared.stop.Stop.TheVariants as stops
use Rattle.program_run.specs.CommandLine.{plain_words_of, first_set}
use Rattle.program_run.specs.Program.{Shelf, Job, prepared, stop_line, Run, run_of, stopped}
use Rattle.program_run.specs.Causes.{IsBadScript, IsUnreadable, IsBadFile, IsPrepared, Prepares}

-- ---- the output

-- the text stands behind what was written before, where the output tells
abbrev pub Wrote : Option Text → Option Text → Text → Type 0
Wrote None after text = after ≡ None
Wrote (Some before) after text = after ≡ Some (before ++ text)

-- a front of the text stands behind what was written before
pub record WrotePart (before after : Option Text) (text : Text) : Type 0 where
  pub count : ℕ
  pub wrote : Wrote before after (take count text)

-- a text was printed: all of it, or a front of it, with the cause; the count of faults rose where a put failed, and stood still else
abbrev pub Printed : Option Text → Option Text → ℕ → ℕ → Text → Result (Unit {0}) SinkErr → Type 0
Printed before after faults now text (Ok done) = Wrote before after text × (now ≡ faults)
Printed before after faults now text (Err sinks.NoMemory) = WrotePart before after text × (now ≡ faults)
Printed before after faults now text (Err sinks.Failed) = WrotePart before after text × Rose faults now

-- what printing a text did to an output, by what is told of it
abbrev pub Prints : {S : Type 0} → (S → Option Text) → (S → ℕ) → S → S → Text → Result (Unit {0}) SinkErr → Type 0
Prints written faults old new text result = Printed (written old) (written new) (faults old) (faults new) text result

-- ---- the whole run

-- the words, what the shelf holds, the clock's reading, the store's limit, the pass's client, and the history
pub record Start : Type 0 where
  pub words : List Text
  pub holds : Held
  pub reading : Option ℤ
  pub limit : ℕ
  pub client : ℕ
  pub history : History

-- what a run of these words begins with, over a shelf that holds these files, a clock that reads this moment, and a pass
abbrev pub start_of : List Text → Held → Option ℤ → Pass → Start
start_of words holds reading pass = record { words = words; holds = holds; reading = reading; limit = limit_of pass; client = number_of pass; history = seen_of pass }

-- a client of the store, with the frames and the tries of a job and with a moment
abbrev pub client_of : Start → Job → ℤ → ℕ → Client
client_of start job moment number = record { session = record { frames = job.frames; moment = moment; tries = job.tries; client = number }; limit = start.limit }

-- the parts of a job were carried out at the clock's reading: there are replies and windows for all commands, legal in the history that
-- goes on lawfully from the one before, and each added event lies in a window of its own client; and the run is that of the replies
pub record Performs (start : Start) (job : Job) (run : Run) (new : History) : Type 0 where
  pub moment : ℤ
  pub told : IsReading start.reading moment
  pub replies : PartReplies
  pub ran : sessions.IsRun job.cutting (client_of start job moment) start.client job.parts replies start.history new
  pub run_is : run ≡ run_of job.names replies (length new)

-- the run that is due by what was prepared: that of the job, or a stop, which leaves the history as it was
abbrev pub IsDue : Start → Result Job Stop → Run → History → Type 0
IsDue start (Ok job) run new = Performs start job run new
IsDue start (Err s) run new = (run ≡ stopped s) × (new ≡ start.history)

-- all lines of a run were written
pub record AllWritten (run : Run) (before after : Option Text) (status : ℕ) : Type 0 where
  pub status_is : status ≡ run.status
  pub output : Wrote before after (concat run.lines)

-- a run ended by writing all its lines, or by a refused put, after which nothing more was put; the count of faults rose where a put failed,
-- and stood still else
abbrev pub RunEnds : Run → ℕ → ℕ → Option Text → Option Text → ℕ → Type 0
RunEnds run faults now before after status =
    ((now ≡ faults) × AllWritten run before after status)
    ⊎ ((status ≡ 5) × Rose faults now × WrotePart before after (concat run.lines)) ⊎ ((status ≡ 6) × (now ≡ faults) × WrotePart before after (concat run.lines))

-- memory was wanted before the first command and before anything was put
pub record Halted (before after : Option Text) (old new : History) : Type 0 where
  pub output : Wrote before after []
  pub unchanged : new ≡ old

-- the commands of a job were carried out and the run of their replies ended so, or memory was wanted before the first
abbrev pub JobEnds : Start → Job → ℕ → ℕ → Option Text → Option Text → ℕ → History → Type 0
JobEnds start job faults now before after status new =
    ((run : Run) × Performs start job run new × RunEnds run faults now before after status) ⊎ ((status ≡ 6) × (now ≡ faults) × Halted before after start.history new)

-- a run that is due, by what was prepared of the words and the shelf, whose faults are counted
pub record Due (start : Start) (before now : ℕ) (new : History) : Type 0 where
  pub plan : Result Job Stop
  pub prepares : Prepares start.holds before now start.words plan
  pub run : Run
  pub is_due : IsDue start plan run new

-- a run that is due ended so, or memory was wanted before it
abbrev pub Ends : Start → ℕ → ℕ → ℕ → ℕ → Option Text → Option Text → ℕ → History → Type 0
Ends start shelf_faults shelf_now faults now before after status new =
    ((due : Due start shelf_faults shelf_now new) × RunEnds due.run faults now before after status)
    ⊎ ((status ≡ 6) × (now ≡ faults) × Halted before after start.history new)

-- ---- each status

-- the commands of a good script were carried out over the files of its loads, and the transcript of their replies was written
pub record IsTranscript (start : Start) (before after : Option Text) (status : ℕ) (new : History) : Type 0 where
  pub job : Job
  pub prepared : IsPrepared start.holds start.words job
  pub run : Run
  pub performs : Performs start job run new
  pub written : AllWritten run before after status

-- the run stopped for this reason: its line alone was written, and the history is as it was
pub record IsStop (stop : Stop) (reason : Type 0) (before after : Option Text) (old new : History) : Type 0 where
  pub why : reason
  pub output : Wrote before after (stop_line stop)
  pub unchanged : new ≡ old

-- the words are not of the command set
abbrev pub StopsByUsage : Start → Option Text → Option Text → History → Type 0
StopsByUsage start before after new = IsStop stops.Usage (plain_words_of first_set start.words ≡ None) before after start.history new

-- the script is outside its form
abbrev pub StopsByScript : Start → Option Text → Option Text → History → Type 0
StopsByScript start before after new = IsStop stops.BadScript (IsBadScript start.holds start.words) before after start.history new

-- a file gave nothing; its name is printed
abbrev pub StopsByFetch : Start → ℕ → ℕ → Option Text → Option Text → History → Type 0
StopsByFetch start shelf_faults shelf_now before after new =
    (name : Text) × IsStop (stops.Unreadable name) (IsUnreadable start.holds shelf_faults shelf_now start.words name) before after start.history new

-- a loaded file is outside its form; its name is printed
abbrev pub StopsByFile : Start → Option Text → Option Text → History → Type 0
StopsByFile start before after new = (name : Text) × IsStop (stops.BadFile name) (IsBadFile start.holds start.words name) before after start.history new

-- a put was refused: what was written is a front of what was due
abbrev pub StopsByPut : Start → ℕ → ℕ → Option Text → Option Text → History → Type 0
StopsByPut start shelf_faults shelf_now before after new = (due : Due start shelf_faults shelf_now new) × WrotePart before after (concat due.run.lines)

-- memory was wanted: in a command, whose transcript was written; while a line was printed; or before the first command
abbrev pub WantsMemory : Start → ℕ → ℕ → Option Text → Option Text → History → Type 0
WantsMemory start shelf_faults shelf_now before after new =
    IsTranscript start before after 6 new ⊎ StopsByPut start shelf_faults shelf_now before after new ⊎ Halted before after start.history new

-- ---- completeness

-- the job, if there is one, has at most one block
abbrev pub HasOneBlock : Result Job Stop → Type 0
HasOneBlock (Ok job) = length job.parts.blocks ≤ 1
HasOneBlock (Err stop) = ⊤

-- one client alone at a time runs on an empty store: shelf, output and clock tell what they hold; the store is empty; the limit was not
-- reached; and there is at most one block
pub record IsOfOne (start : Start) (held : Shelf) (told : Text) (moment : ℤ) (before : Option Text) (new : History) : Type 0 where
  pub tells : start.holds ≡ Some held
  pub written : before ≡ Some told
  pub reading : start.reading ≡ Some moment
  pub empty : start.history ≡ []
  pub room : length new < start.limit
  pub few : HasOneBlock (prepared held start.words)

-- the status and the output are those of the run, if there is one
abbrev pub IsRun : Option Run → Text → Option Text → ℕ → Type 0
IsRun None told after status = ⊥
IsRun (Some run) told after status = (status ≡ run.status) × (after ≡ Some (told ++ concat run.lines))

-- the run ended as this one; or memory was wanted; or the output failed; or the shelf failed, and the run stopped there
abbrev pub IsRunOrFails : Option Run → ℕ → ℕ → ℕ → ℕ → Text → Option Text → ℕ → Type 0
IsRunOrFails run shelf_faults shelf_now faults now told after status =
    IsRun run told after status ⊎ (status ≡ 6) ⊎ ((status ≡ 5) × Rose faults now) ⊎ ((status ≡ 4) × Rose shelf_faults shelf_now)
