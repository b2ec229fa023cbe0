-- How a run ends whose lines were printed.
use Rattle.std.proofs.Common.{◌≡◌, ℤ, w64, SFits, ℕ, List, [], length, Option, Result, Ok, Err, refl, sym, ap, ◌∙◌, subst, inl, inr}
use Rattle.std.specs.Prelude.{IsOk, IsErrOf, IfOk, OnErr}
use Rattle.std.specs.List.{concat}
use Rattle.std.proofs.lemmas.List.{append-nil}
use Rattle.std.proofs.lemmas.Int.{to_z-of_z}
use mir.Val.{to_z, of_z}
use Rattle.program_edge.specs.Clocks.{IsReading}
use Rattle.frame_core.specs.Texts.{Text}
use Rattle.frame_core.specs.declared.raw.RawFrame.{RawFrame}
use Rattle.bucket_core.specs.History.{History}
use Rattle.bucket_shared.specs.declared.pass.Pass.{Pass}
use Rattle.bucket_shared.specs.Passes.{seen_of}
use Rattle.expr_clause.specs.declared.command.Command.{Command}
use Rattle.reply_model.specs.Blocks.{Cutting}
use Rattle.library_api.specs.declared.settings.Settings.{Settings}
use Rattle.client_sessions.specs.declared.parts.PartReplies.{PartReplies}
use Rattle.client_sessions.specs.Blocks.{clients_of}
use Rattle.client_sessions.specs.Parts as sessions
use Rattle.program_edge.specs.Shelves.{Held}
use Rattle.program_edge.specs.declared.sink.SinkErr.{SinkErr}
use Rattle.program_edge.specs.declared.sink.SinkErr.TheVariants as sinks
use Rattle.program_run.specs.declared.stop.Stop.{Stop}
use Rattle.program_run.specs.declared.stop.Halt.{Halt}
use Rattle.program_run.specs.declared.stop.Halt.TheVariants as halts
use Rattle.program_run.specs.Program.{Job, Run, run_of, stop_line, stopped}
use Rattle.program_run.specs.Causes.{StopsBy, IsPrepared}
use Rattle.program_run.specs.Endings.{Wrote, Printed, Start, client_of, RunEnds, JobEnds, Ends}
use Rattle.program_run.specs.Preparing.{PlanIs}
use Rattle.program_run.proofs.Prints.{wrote-nothing}

-- all lines were written, or a put was refused
pub printed-ends : (run : Run) (f g : ℕ) (a b : Option Text) (status final : ℕ) (printed : Result (Unit {0}) SinkErr) →
    status ≡ run.status → Printed a b f g (concat run.lines) printed →
    (IsOk printed → final ≡ status) → (IsErrOf printed sinks.Failed → final ≡ 5) → (IsErrOf printed sinks.NoMemory → final ≡ 6) → RunEnds run f g a b final
printed-ends run f g a b status final (Ok done) s p all failed memory = inl (p.1, record { status_is = all refl ∙ s; output = p.0 })
printed-ends run f g a b status final (Err sinks.Failed) s p all failed memory = inr (inl (failed refl, p.1, p.0))
printed-ends run f g a b status final (Err sinks.NoMemory) s p all failed memory = inr (inr (memory refl, p.1, p.0))

-- the line of a stop is all that is put
pub stop-printed : (w0 w1 : Option Text) (f g : ℕ) (s : Stop) (r : Result (Unit {0}) SinkErr) → Printed w0 w1 f g (stop_line s) r → Printed w0 w1 f g (concat (stopped s).lines) r
stop-printed w0 w1 f g s r p = subst (λ (t : Text). Printed w0 w1 f g t r) (sym (append-nil (stop_line s))) p

-- why nothing was prepared
pub stop-plan : (holds : Held) (before now : ℕ) (words : List Text) (halt : Halt) (s : Stop) → halt ≡ halts.Stop s → PlanIs holds before now words (Err halt) → StopsBy holds before now words s
stop-plan holds before now words halt s is plan = subst (λ (h : Halt). PlanIs holds before now words (Err h)) is plan

-- a moment of 64 bits
pub told-again : (reading : Option ℤ) (moment : ℤ) → SFits w64 moment → IsReading reading moment → IsReading reading (to_z w64 (of_z w64 moment))
told-again reading moment fits told = subst (λ (z : ℤ). IsReading reading z) (sym (to_z-of_z w64 moment fits)) told

-- a job's ending is one of the run
pub job-ends : (start : Start) (f0 f1 g0 g1 : ℕ) (w0 w1 : Option Text) (status : ℕ) (new : History) (job : Job) → IsPrepared start.holds start.words job → JobEnds start job g0 g1 w0 w1 status new → Ends start f0 f1 g0 g1 w0 w1 status new
job-ends start f0 f1 g0 g1 w0 w1 status new job prepared (inl e) = inl (record { plan = Ok job; prepares = prepared; run = e.0; is_due = e.1 }, e.2)
job-ends start f0 f1 g0 g1 w0 w1 status new job prepared (inr e) = inr e

-- so is a stop's
pub stop-ends : (start : Start) (f0 f1 g0 g1 : ℕ) (w0 w1 : Option Text) (status : ℕ) (s : Stop) → StopsBy start.holds f0 f1 start.words s → RunEnds (stopped s) g0 g1 w0 w1 status → Ends start f0 f1 g0 g1 w0 w1 status start.history
stop-ends start f0 f1 g0 g1 w0 w1 status s why e = inl (record { plan = Err s; prepares = why; run = stopped s; is_due = (refl, refl) }, e)

-- ---- parts

-- replies of parts that were lent as items
pub ran-items : {E : Type 0} (answer : Result PartReplies E) (cutting : Cutting) (settings : Settings) (limit number : ℕ) (old new : History) (lent frames : List RawFrame) (one first : List Command)
    (many blocks : List (List Command)) (two last : List Command) → lent ≡ frames → one ≡ first → many ≡ blocks → two ≡ last →
    IfOk answer (λ replies. sessions.IsRun cutting (clients_of lent settings limit) number (record { first = one; blocks = many; last = two }) replies old new) →
    IfOk answer (λ replies. sessions.IsRun cutting (clients_of frames settings limit) number (record { first = first; blocks = blocks; last = last }) replies old new)
ran-items answer cutting settings limit number old new lent frames one first many blocks two last lent_are one_is many_are two_is ran =
    subst (λ (list : List Command). IfOk answer (λ replies. sessions.IsRun cutting (clients_of frames settings limit) number (record { first = first; blocks = blocks; last = list }) replies old new)) two_is
    (subst (λ (list : List (List Command)). IfOk answer (λ replies. sessions.IsRun cutting (clients_of frames settings limit) number (record { first = first; blocks = list; last = two }) replies old new)) many_are
    (subst (λ (list : List Command). IfOk answer (λ replies. sessions.IsRun cutting (clients_of frames settings limit) number (record { first = list; blocks = many; last = two }) replies old new)) one_is
    (subst (λ (list : List RawFrame). IfOk answer (λ replies. sessions.IsRun cutting (clients_of list settings limit) number (record { first = one; blocks = many; last = two }) replies old new)) lent_are ran)))

-- the parts of a job were carried out and the run of their replies ended, or memory was wanted before the first command
pub parts-end : {E : Type 0} (start : Start) (job : Job) (moment : ℤ) (f g : ℕ) (w0 w1 : Option Text) (status end : ℕ) (new : History) (answer : Result PartReplies E) → IsReading start.reading moment → end ≡ length new →
    IfOk answer (λ replies. sessions.IsRun job.cutting (client_of start job moment) start.client job.parts replies start.history new) → OnErr answer (new ≡ start.history) →
    IfOk answer (λ replies. RunEnds (run_of job.names replies end) f g w0 w1 status) → OnErr answer ((status ≡ 6) × (g ≡ f) × (w1 ≡ w0)) → JobEnds start job f g w0 w1 status new
parts-end start job moment f g w0 w1 status end new (Ok replies) told end_is ran same ends memory = inl (
  run_of job.names replies (length new),
  record { moment = moment; told = told; replies = replies; ran = ran; run_is = refl },
  subst (λ (n : ℕ). RunEnds (run_of job.names replies n) f g w0 w1 status) end_is ends,
)
parts-end start job moment f g w0 w1 status end new (Err e) told end_is ran same ends memory =
    inr (memory.0, memory.1, record { output = subst (λ (o : Option Text). Wrote w0 o []) (sym memory.2) (wrote-nothing w0); unchanged = same })

-- a pass that is as it was has seen what it had
pub unchanged : {E : Type 0} (answer : Result PartReplies E) (old new : Pass) → OnErr answer (new ≡ old) → OnErr answer (seen_of new ≡ seen_of old)
unchanged (Ok replies) old new same = same
unchanged (Err e) old new same = ap seen_of same
