-- What each status of a run tells.
use Rattle.std.proofs.Common.{◌≡◌, ℕ, ◌≤◌, ◌⊎◌, Bool, true, false, cond, Option, Result, Ok, Err, refl, ap, ◌∙◌, subst, inl, inr, arith}
use Rattle.std.specs.List.{concat}
use Rattle.std.proofs.lemmas.List.{append-nil}
use Rattle.base_types.specs.Faults.{Rose}
use Rattle.frame_core.specs.Texts.{Text}
use Rattle.bucket_core.specs.History.{History}
use Rattle.reply_model.specs.Windows.{is_refused}
use Rattle.client_sessions.specs.declared.parts.PartReplies.{PartReplies}
use Rattle.program_run.specs.declared.stop.Stop.{Stop}
use Rattle.program_run.specs.declared.stop.Stop.TheVariants as stops
use Rattle.program_run.specs.Program.{Job, Run, stop_status, stop_line, wants_memory, some_reply, replies_status}
use Rattle.program_run.specs.Causes.{StopsBy, Prepares}
use Rattle.program_run.specs.Endings.{Wrote, Start, IsDue, Due, AllWritten, RunEnds, Ends, IsTranscript, StopsByUsage, StopsByScript, StopsByFetch, StopsByFile, StopsByPut, WantsMemory}

-- the status of replies is 0, 1 or 6
status-kinds : (replies : PartReplies) → (replies_status replies ≤ 1) ⊎ (replies_status replies ≡ 6)
status-kinds replies = of (some_reply wants_memory replies) (some_reply is_refused replies)
  where
    of : (m b : Bool) → (cond {A = ℕ} m 6 (cond b 1 0) ≤ 1) ⊎ (◌≡◌ {A = ℕ} (cond m 6 (cond b 1 0)) 6)
    of true b = inr refl
    of false true = inl (omega arith)
    of false false = inl (omega arith)

-- the run of a transcript
pub record Told (start : Start) (w0 w1 : Option Text) (status : ℕ) (new : History) : Type 0 where
  pub few : status ≤ 1
  pub transcript : IsTranscript start w0 w1 status new

-- a stop, whose line was written
pub record Stopped (start : Start) (f0 f1 : ℕ) (w0 w1 : Option Text) (status : ℕ) (new : History) : Type 0 where
  pub stop : Stop
  pub status_is : status ≡ stop_status stop
  pub why : StopsBy start.holds f0 f1 start.words stop
  pub output : Wrote w0 w1 (stop_line stop)
  pub unchanged : new ≡ start.history

-- the four ways of an ending
pub data Way (start : Start) (f0 f1 g0 g1 : ℕ) (w0 w1 : Option Text) (status : ℕ) (new : History) : Type 0 where
  told : Told start w0 w1 status new → Way start f0 f1 g0 g1 w0 w1 status new
  stopped_by : Stopped start f0 f1 w0 w1 status new → Way start f0 f1 g0 g1 w0 w1 status new
  refused : status ≡ 5 → Rose g0 g1 → StopsByPut start f0 f1 w0 w1 new → Way start f0 f1 g0 g1 w0 w1 status new
  wanted : status ≡ 6 → WantsMemory start f0 f1 w0 w1 new → Way start f0 f1 g0 g1 w0 w1 status new

-- all was written of the replies' transcript
transcript-written : (start : Start) (f0 f1 g0 g1 : ℕ) (w0 w1 : Option Text) (status : ℕ) (new : History) → (t : IsTranscript start w0 w1 status new) → Way start f0 f1 g0 g1 w0 w1 status new
transcript-written start f0 f1 g0 g1 w0 w1 status new t = of (status-kinds t.performs.replies)
  where
    same : status ≡ replies_status t.performs.replies
    same = t.written.status_is ∙ ap (λ (r : Run). r.status) t.performs.run_is

    of : (replies_status t.performs.replies ≤ 1) ⊎ (replies_status t.performs.replies ≡ 6) → Way start f0 f1 g0 g1 w0 w1 status new
    of (inl few) = told (record { few = omega (arith, same, few); transcript = t })
    of (inr six) = wanted (same ∙ six) (inl (subst (λ (n : ℕ). IsTranscript start w0 w1 n new) (same ∙ six) t))

-- all was written
way-written : (start : Start) (f0 f1 g0 g1 : ℕ) (w0 w1 : Option Text) (status : ℕ) (new : History) (plan : Result Job Stop) (run : Run) →
    Prepares start.holds f0 f1 start.words plan → IsDue start plan run new → AllWritten run w0 w1 status → Way start f0 f1 g0 g1 w0 w1 status new
way-written start f0 f1 g0 g1 w0 w1 status new (Ok job) run p due w = transcript-written start f0 f1 g0 g1 w0 w1 status new (record { job = job; prepared = p; run = run; performs = due; written = w })
way-written start f0 f1 g0 g1 w0 w1 status new (Err s) run p due w = stopped_by (record {
  stop = s;
  status_is = w.status_is ∙ ap (λ (r : Run). r.status) due.0;
  why = p;
  output = subst (λ (t : Text). Wrote w0 w1 t) (ap (λ (r : Run). concat r.lines) due.0 ∙ append-nil (stop_line s)) w.output;
  unchanged = due.1;
})

way-due : (start : Start) (f0 f1 g0 g1 : ℕ) (w0 w1 : Option Text) (status : ℕ) (new : History) (due : Due start f0 f1 new) → RunEnds due.run g0 g1 w0 w1 status → Way start f0 f1 g0 g1 w0 w1 status new
way-due start f0 f1 g0 g1 w0 w1 status new due (inl e) = way-written start f0 f1 g0 g1 w0 w1 status new due.plan due.run due.prepares due.is_due e.1
way-due start f0 f1 g0 g1 w0 w1 status new due (inr (inl p)) = refused p.0 p.1 (due, p.2)
way-due start f0 f1 g0 g1 w0 w1 status new due (inr (inr p)) = wanted p.0 (inr (inl (due, p.2)))

-- how a run ended
pub way : (start : Start) (f0 f1 g0 g1 : ℕ) (w0 w1 : Option Text) (status : ℕ) (new : History) → Ends start f0 f1 g0 g1 w0 w1 status new → Way start f0 f1 g0 g1 w0 w1 status new
way start f0 f1 g0 g1 w0 w1 status new (inl e) = way-due start f0 f1 g0 g1 w0 w1 status new e.0 e.1
way start f0 f1 g0 g1 w0 w1 status new (inr e) = wanted e.0 (inr (inr e.2))

-- ---- the statuses

-- a stop's status is 2, 3, 4 or 7
stop-other : (s : Stop) (n : ℕ) → n ≡ stop_status s → (n ≡ 5 → ⊥) × (n ≡ 6 → ⊥) × (n ≤ 1 → ⊥) × (n ≤ 7)
stop-other stops.Usage n e = (λ h. absurd (omega (arith, e, h)), λ h. absurd (omega (arith, e, h)), λ h. absurd (omega (arith, e, h)), omega (arith, e))
stop-other stops.BadScript n e = (λ h. absurd (omega (arith, e, h)), λ h. absurd (omega (arith, e, h)), λ h. absurd (omega (arith, e, h)), omega (arith, e))
stop-other (stops.Unreadable name) n e = (λ h. absurd (omega (arith, e, h)), λ h. absurd (omega (arith, e, h)), λ h. absurd (omega (arith, e, h)), omega (arith, e))
stop-other (stops.BadFile name) n e = (λ h. absurd (omega (arith, e, h)), λ h. absurd (omega (arith, e, h)), λ h. absurd (omega (arith, e, h)), omega (arith, e))

-- 0 and 1
pub transcript-way : (start : Start) (f0 f1 g0 g1 : ℕ) (w0 w1 : Option Text) (status : ℕ) (new : History) → Way start f0 f1 g0 g1 w0 w1 status new → status ≤ 1 → IsTranscript start w0 w1 status new
transcript-way start f0 f1 g0 g1 w0 w1 status new (told t) h = t.transcript
transcript-way start f0 f1 g0 g1 w0 w1 status new (stopped_by s) h = absurd ((stop-other s.stop status s.status_is).2 h)
transcript-way start f0 f1 g0 g1 w0 w1 status new (refused e rose p) h = absurd (omega (arith, e, h))
transcript-way start f0 f1 g0 g1 w0 w1 status new (wanted e p) h = absurd (omega (arith, e, h))

-- a status that is none of 0, 1, 5 and 6 is that of a stop
stop-way : (start : Start) (f0 f1 g0 g1 : ℕ) (w0 w1 : Option Text) (status : ℕ) (new : History) → Way start f0 f1 g0 g1 w0 w1 status new →
    (status ≤ 1 → ⊥) → (status ≡ 5 → ⊥) → (status ≡ 6 → ⊥) → Stopped start f0 f1 w0 w1 status new
stop-way start f0 f1 g0 g1 w0 w1 status new (told t) few five six = absurd (few t.few)
stop-way start f0 f1 g0 g1 w0 w1 status new (stopped_by s) few five six = s
stop-way start f0 f1 g0 g1 w0 w1 status new (refused e rose p) few five six = absurd (five e)
stop-way start f0 f1 g0 g1 w0 w1 status new (wanted e p) few five six = absurd (six e)

-- 2
pub usage-way : (start : Start) (f0 f1 g0 g1 : ℕ) (w0 w1 : Option Text) (status : ℕ) (new : History) → Way start f0 f1 g0 g1 w0 w1 status new → status ≡ 2 → StopsByUsage start w0 w1 new
usage-way start f0 f1 g0 g1 w0 w1 status new w h =
    let s = stop-way start f0 f1 g0 g1 w0 w1 status new w (λ k. absurd (omega (arith, h, k))) (λ k. absurd (omega (arith, h, k))) (λ k. absurd (omega (arith, h, k))) in
    of s.stop s.status_is s.why s.output s.unchanged
  where
    of : (stop : Stop) → status ≡ stop_status stop → StopsBy start.holds f0 f1 start.words stop → Wrote w0 w1 (stop_line stop) → new ≡ start.history → StopsByUsage start w0 w1 new
    of stops.Usage e why output same = record { why = why; output = output; unchanged = same }
    of stops.BadScript e why output same = absurd (omega (arith, h, e))
    of (stops.Unreadable name) e why output same = absurd (omega (arith, h, e))
    of (stops.BadFile name) e why output same = absurd (omega (arith, h, e))

-- 3
pub script-way : (start : Start) (f0 f1 g0 g1 : ℕ) (w0 w1 : Option Text) (status : ℕ) (new : History) → Way start f0 f1 g0 g1 w0 w1 status new → status ≡ 3 → StopsByScript start w0 w1 new
script-way start f0 f1 g0 g1 w0 w1 status new w h =
    let s = stop-way start f0 f1 g0 g1 w0 w1 status new w (λ k. absurd (omega (arith, h, k))) (λ k. absurd (omega (arith, h, k))) (λ k. absurd (omega (arith, h, k))) in
    of s.stop s.status_is s.why s.output s.unchanged
  where
    of : (stop : Stop) → status ≡ stop_status stop → StopsBy start.holds f0 f1 start.words stop → Wrote w0 w1 (stop_line stop) → new ≡ start.history → StopsByScript start w0 w1 new
    of stops.BadScript e why output same = record { why = why; output = output; unchanged = same }
    of stops.Usage e why output same = absurd (omega (arith, h, e))
    of (stops.Unreadable name) e why output same = absurd (omega (arith, h, e))
    of (stops.BadFile name) e why output same = absurd (omega (arith, h, e))

-- 4
pub fetch-way : (start : Start) (f0 f1 g0 g1 : ℕ) (w0 w1 : Option Text) (status : ℕ) (new : History) → Way start f0 f1 g0 g1 w0 w1 status new → status ≡ 4 → StopsByFetch start f0 f1 w0 w1 new
fetch-way start f0 f1 g0 g1 w0 w1 status new w h =
    let s = stop-way start f0 f1 g0 g1 w0 w1 status new w (λ k. absurd (omega (arith, h, k))) (λ k. absurd (omega (arith, h, k))) (λ k. absurd (omega (arith, h, k))) in
    of s.stop s.status_is s.why s.output s.unchanged
  where
    of : (stop : Stop) → status ≡ stop_status stop → StopsBy start.holds f0 f1 start.words stop → Wrote w0 w1 (stop_line stop) → new ≡ start.history → StopsByFetch start f0 f1 w0 w1 new
    of (stops.Unreadable name) e why output same = (name, record { why = why; output = output; unchanged = same })
    of stops.Usage e why output same = absurd (omega (arith, h, e))
    of stops.BadScript e why output same = absurd (omega (arith, h, e))
    of (stops.BadFile name) e why output same = absurd (omega (arith, h, e))

-- 7
pub file-way : (start : Start) (f0 f1 g0 g1 : ℕ) (w0 w1 : Option Text) (status : ℕ) (new : History) → Way start f0 f1 g0 g1 w0 w1 status new → status ≡ 7 → StopsByFile start w0 w1 new
file-way start f0 f1 g0 g1 w0 w1 status new w h =
    let s = stop-way start f0 f1 g0 g1 w0 w1 status new w (λ k. absurd (omega (arith, h, k))) (λ k. absurd (omega (arith, h, k))) (λ k. absurd (omega (arith, h, k))) in
    of s.stop s.status_is s.why s.output s.unchanged
  where
    of : (stop : Stop) → status ≡ stop_status stop → StopsBy start.holds f0 f1 start.words stop → Wrote w0 w1 (stop_line stop) → new ≡ start.history → StopsByFile start w0 w1 new
    of (stops.BadFile name) e why output same = (name, record { why = why; output = output; unchanged = same })
    of stops.Usage e why output same = absurd (omega (arith, h, e))
    of stops.BadScript e why output same = absurd (omega (arith, h, e))
    of (stops.Unreadable name) e why output same = absurd (omega (arith, h, e))

-- 5
pub put-way : (start : Start) (f0 f1 g0 g1 : ℕ) (w0 w1 : Option Text) (status : ℕ) (new : History) → Way start f0 f1 g0 g1 w0 w1 status new → status ≡ 5 → Rose g0 g1 × StopsByPut start f0 f1 w0 w1 new
put-way start f0 f1 g0 g1 w0 w1 status new (told t) h = absurd (omega (arith, t.few, h))
put-way start f0 f1 g0 g1 w0 w1 status new (stopped_by s) h = absurd ((stop-other s.stop status s.status_is).0 h)
put-way start f0 f1 g0 g1 w0 w1 status new (refused e rose p) h = (rose, p)
put-way start f0 f1 g0 g1 w0 w1 status new (wanted e p) h = absurd (omega (arith, e, h))

-- 6
pub memory-way : (start : Start) (f0 f1 g0 g1 : ℕ) (w0 w1 : Option Text) (status : ℕ) (new : History) → Way start f0 f1 g0 g1 w0 w1 status new → status ≡ 6 → WantsMemory start f0 f1 w0 w1 new
memory-way start f0 f1 g0 g1 w0 w1 status new (told t) h = absurd (omega (arith, t.few, h))
memory-way start f0 f1 g0 g1 w0 w1 status new (stopped_by s) h = absurd ((stop-other s.stop status s.status_is).1 h)
memory-way start f0 f1 g0 g1 w0 w1 status new (refused e rose p) h = absurd (omega (arith, e, h))
memory-way start f0 f1 g0 g1 w0 w1 status new (wanted e p) h = p

-- there is no other status
pub status-way : (start : Start) (f0 f1 g0 g1 : ℕ) (w0 w1 : Option Text) (status : ℕ) (new : History) → Way start f0 f1 g0 g1 w0 w1 status new → status ≤ 7
status-way start f0 f1 g0 g1 w0 w1 status new (told t) = omega (arith, t.few)
status-way start f0 f1 g0 g1 w0 w1 status new (stopped_by s) = (stop-other s.stop status s.status_is).3
status-way start f0 f1 g0 g1 w0 w1 status new (refused e rose p) = omega (arith, e)
status-way start f0 f1 g0 g1 w0 w1 status new (wanted e p) = omega (arith, e)

-- ---- the output's faults

run-kept : (run : Run) (g0 g1 : ℕ) (w0 w1 : Option Text) (status : ℕ) → RunEnds run g0 g1 w0 w1 status → (status ≡ 5 → ⊥) → g1 ≡ g0
run-kept run g0 g1 w0 w1 status (inl e) five = e.0
run-kept run g0 g1 w0 w1 status (inr (inl e)) five = absurd (five e.0)
run-kept run g0 g1 w0 w1 status (inr (inr e)) five = e.1

-- no failed put was passed over
pub output-kept : (start : Start) (f0 f1 g0 g1 : ℕ) (w0 w1 : Option Text) (status : ℕ) (new : History) → Ends start f0 f1 g0 g1 w0 w1 status new → (status ≡ 5 → ⊥) → g1 ≡ g0
output-kept start f0 f1 g0 g1 w0 w1 status new (inl e) five = run-kept e.0.run g0 g1 w0 w1 status e.1 five
output-kept start f0 f1 g0 g1 w0 w1 status new (inr e) five = e.1
