-- A run of one client alone at a time is that of the fold.
use Rattle.std.proofs.Common.{◌≡◌, ℕ, ℤ, ◌<◌, ◌≤◌, ◌⊎◌, Bool, true, false, cond, List, [], ◌∷◌, ◌++◌, length, Option, Some, Result, Ok, Err, refl, sym, ap, ◌∙◌, subst, inl, inr, arith}
use Rattle.std.specs.Prelude.{◌||◌, option_map}
use Rattle.std.specs.List.{AllByRecursion, concat, list_any}
use Rattle.std.proofs.lemmas.Bool.{true≢false}
use Rattle.frame_core.specs.Texts.{Text}
use Rattle.frame_core.specs.declared.refusal.Refusal.TheVariants as refusals
use Rattle.bucket_core.specs.History.{History, history_at}
use Rattle.expr_clause.specs.declared.command.Command.{Command}
use Rattle.reply_model.specs.declared.outcome.Outcome.{Outcome}
use Rattle.reply_model.specs.declared.outcome.Outcome.TheVariants as outcomes
use Rattle.reply_model.specs.declared.reply.Reply.{Reply}
use Rattle.reply_model.specs.Answering.{Session}
use Rattle.reply_model.specs.Windows.{Window, Client, is_cut, is_refused}
use Rattle.reply_model.specs.Legal.{IsLegalOutcome, LegalFrom}
use Rattle.reply_model.specs.Runs.{Talk, IsLegalTalk, HasNoFault, end_of, latest_end}
use Rattle.reply_model.specs.Sole.{SoleRun, sole}
use Rattle.reply_model.specs.Standing.{RunsAlone, RunsGrow, BlocksAreSole}
use Rattle.store_model.specs.Law.{IsLawful}
use Rattle.program_edge.specs.Clocks.{IsReading}
use Rattle.program_run.specs.declared.stop.Stop.{Stop}
use Rattle.program_run.specs.declared.stop.Stop.TheVariants as stops
use Rattle.client_sessions.specs.declared.parts.PartReplies.{PartReplies}
use Rattle.client_sessions.specs.Sessions.{AreUncut}
use Rattle.client_sessions.specs.Blocks.{AreTalksOf}
use Rattle.program_run.specs.Program.{Shelf, Job, Run, run_of, wants_memory, some_outcome, some_reply, replies_status, one_block, replies_alone, run_from, run_alone, prepared}
use Rattle.program_run.specs.Causes.{Prepares}
use Rattle.program_run.specs.Endings.{Start, client_of, Performs, IsDue, Due, AllWritten, RunEnds, Ends, HasOneBlock, IsOfOne, IsRun, IsRunOrFails}
use Rattle.program_run.proofs.Told.{FailsFetch, prepares-told}
use Rattle.script_lang.specs.Fronts.{◌>>=◌}

-- ---- replies that are not cut

-- no outcome is want of memory, a failure without a cause, or a full store below the limit
outcome-uncut : (h : History) (client : Client) (c : Command) (r : Reply) (w : Window) (o : Outcome) → IsLegalOutcome h client c r w o → r.place < client.limit → w.faulted ≡ false → wants_memory o ≡ false → is_cut o ≡ false
outcome-uncut h client c r w (outcomes.Committed version) legal below calm memory = refl
outcome-uncut h client c r w outcomes.Staged legal below calm memory = refl
outcome-uncut h client c r w (outcomes.Finalized version pieces) legal below calm memory = refl
outcome-uncut h client c r w (outcomes.Discarded pieces) legal below calm memory = refl
outcome-uncut h client c r w (outcomes.Deleted versions) legal below calm memory = refl
outcome-uncut h client c r w (outcomes.Pruned versions) legal below calm memory = refl
outcome-uncut h client c r w (outcomes.Freed tiles indexes staged) legal below calm memory = refl
outcome-uncut h client c r w (outcomes.Kept held) legal below calm memory = refl
outcome-uncut h client c r w outcomes.Unkept legal below calm memory = refl
outcome-uncut h client c r w (outcomes.Whole version frame) legal below calm memory = refl
outcome-uncut h client c r w (outcomes.Versions rows) legal below calm memory = refl
outcome-uncut h client c r w (outcomes.Symbols rows) legal below calm memory = refl
outcome-uncut h client c r w (outcomes.Snapshots names) legal below calm memory = refl
outcome-uncut h client c r w (outcomes.Keys tiles indexes versions refs staged) legal below calm memory = refl
outcome-uncut h client c r w (outcomes.Refused refusals.NoSuchSymbol) legal below calm memory = refl
outcome-uncut h client c r w (outcomes.Refused (refusals.NoSuchVersion asked)) legal below calm memory = refl
outcome-uncut h client c r w (outcomes.Refused (refusals.VersionGone version)) legal below calm memory = refl
outcome-uncut h client c r w (outcomes.Refused (refusals.Moved now)) legal below calm memory = refl
outcome-uncut h client c r w (outcomes.Refused (refusals.Unsorted row)) legal below calm memory = refl
outcome-uncut h client c r w (outcomes.Refused (refusals.SchemaDiffers column)) legal below calm memory = refl
outcome-uncut h client c r w (outcomes.Refused (refusals.AppendBefore last first)) legal below calm memory = refl
outcome-uncut h client c r w (outcomes.Refused (refusals.OutsideRange row)) legal below calm memory = refl
outcome-uncut h client c r w (outcomes.Refused refusals.EmptyUpdate) legal below calm memory = refl
outcome-uncut h client c r w (outcomes.Refused (refusals.NoSuchColumn clause position)) legal below calm memory = refl
outcome-uncut h client c r w (outcomes.Refused (refusals.TypeMismatch clause)) legal below calm memory = refl
outcome-uncut h client c r w (outcomes.Refused (refusals.Overflow clause row)) legal below calm memory = refl
outcome-uncut h client c r w (outcomes.Refused (refusals.GroupOverflow clause group)) legal below calm memory = refl
outcome-uncut h client c r w (outcomes.Refused (refusals.NotTimeIndexed clause)) legal below calm memory = refl
outcome-uncut h client c r w (outcomes.Refused refusals.SnapshotExists) legal below calm memory = refl
outcome-uncut h client c r w (outcomes.Refused refusals.NoSuchSnapshot) legal below calm memory = refl
outcome-uncut h client c r w (outcomes.Refused refusals.NoStaged) legal below calm memory = refl
outcome-uncut h client c r w (outcomes.Refused (refusals.StagedOverlap piece)) legal below calm memory = refl
outcome-uncut h client c r w (outcomes.Refused (refusals.TooLarge what limit)) legal below calm memory = refl
outcome-uncut h client c r w (outcomes.Refused refusals.NoMemory) legal below calm memory = absurd (true≢false memory)
outcome-uncut h client c r w (outcomes.Refused refusals.StoreFault) legal below calm memory = absurd (true≢false (sym legal ∙ calm))
outcome-uncut h client c r w (outcomes.Refused (refusals.Spent count)) legal below calm memory = absurd (omega (arith, legal.here, legal.full, below))

or-first : (a b : Bool) → (a || b) ≡ false → a ≡ false
or-first true b is = is
or-first false b is = refl

or-second : (a b : Bool) → (a || b) ≡ false → b ≡ false
or-second true b is = absurd (true≢false is)
or-second false b is = is

all-uncut : (h : History) (client : Client) (from : ℕ) (cs : List Command) (rs : List Reply) (ws : List Window) → LegalFrom h client from cs rs ws → AllByRecursion (λ (w : Window). w.faulted ≡ false) ws →
    list_any (λ (r : Reply). wants_memory r.outcome) rs ≡ false → length h < client.limit → AreUncut rs
all-uncut h client from [] [] [] l calm memory below = tt
all-uncut h client from (c ∷ cs) (r ∷ rs) (w ∷ ws) l calm memory below = (
  outcome-uncut (history_at h w.stop) client c r w r.outcome l.1.1.outcome (omega (arith, l.1.0, l.1.1.before, below)) calm.0 (or-first (wants_memory r.outcome) (list_any (λ (q : Reply). wants_memory q.outcome) rs) memory),
  all-uncut h client w.stop cs rs ws l.2 calm.1 (or-second (wants_memory r.outcome) (list_any (λ (q : Reply). wants_memory q.outcome) rs) memory) below,
)
all-uncut h client from [] [] (w ∷ ws) l calm memory below = absurd l
all-uncut h client from [] (r ∷ rs) ws l calm memory below = absurd l
all-uncut h client from (c ∷ cs) [] ws l calm memory below = absurd l
all-uncut h client from (c ∷ cs) (r ∷ rs) [] l calm memory below = absurd l

-- without blocks there are no replies of blocks
no-blocks : (client : ℕ → Client) (blocks : List (List Command)) (replies : List (List Reply)) (talks : List Talk) → AreTalksOf client blocks replies talks → blocks ≡ [] → replies ≡ []
no-blocks client [] [] talks are none = refl
no-blocks client [] (r ∷ replies) [] are none = absurd are
no-blocks client [] (r ∷ replies) (t ∷ talks) are none = absurd are
no-blocks client (b ∷ blocks) replies talks are none = absurd cc

-- of one block there are the replies of one
one-met : (client : ℕ → Client) (block : List Command) (replies : List (List Reply)) (talks : List Talk) → AreTalksOf client (block ∷ []) replies talks → (met : List Reply) × (replies ≡ met ∷ [])
one-met client block [] [] are = absurd are
one-met client block [] (t ∷ talks) are = absurd are
one-met client block (met ∷ replies) [] are = absurd are
one-met client block (met ∷ []) (t ∷ talks) are = (met, refl)
one-met client block (met ∷ next ∷ more) (t ∷ []) are = absurd are.1
one-met client block (met ∷ next ∷ more) (t ∷ u ∷ talks) are = absurd are.1

-- the replies of one block are not cut, where none is want of memory and the limit was not reached
met-uncut : (start : Start) (job : Job) (moment : ℤ) (new : History) (from : ℕ) (block : List Command) (met : List Reply) (talks : List Talk) → AreTalksOf (client_of start job moment) (block ∷ []) (met ∷ []) talks →
    AllByRecursion (IsLegalTalk new from) talks → AllByRecursion HasNoFault talks → list_any (λ (r : Reply). wants_memory r.outcome) met ≡ false → length new < start.limit → AreUncut met
met-uncut start job moment new from block met [] are legal calm memory below = absurd are
met-uncut start job moment new from block met (t ∷ talks) are legal calm memory below =
    all-uncut new (client_of start job moment t.client.session.client) from block met t.windows (subst (λ (x : Talk). IsLegalTalk new from x) are.0 legal.0) calm.0 memory below

-- ---- the run

-- a run of a job with at most one block
job-exact : (grow : RunsGrow) (are_sole : BlocksAreSole) (start : Start) (job : Job) (run : Run) (moment : ℤ) (told : Text) (after : Option Text) (status : ℕ) (new : History) → start.reading ≡ Some moment → start.history ≡ [] → length new < start.limit →
    length job.parts.blocks ≤ 1 → Performs start job run new → AllWritten run (Some told) after status → (status ≡ 6) ⊎ IsRun (run_from moment (Ok job)) told after status
job-exact grow are_sole start job run moment told after status new reading empty below few p w = of (some_reply wants_memory p.replies) refl
  where
    same : p.moment ≡ moment
    same = subst (λ o. IsReading o p.moment) reading p.told

    status_is : status ≡ replies_status p.replies
    status_is = w.status_is ∙ ap (λ (r : Run). r.status) p.run_is

    front : some_reply wants_memory p.replies ≡ false → some_outcome wants_memory p.replies.first ≡ false
    front calm = or-first (some_outcome wants_memory p.replies.first) (list_any (some_outcome wants_memory) p.replies.blocks)
        (or-first (some_outcome wants_memory p.replies.first || list_any (some_outcome wants_memory) p.replies.blocks) (some_outcome wants_memory p.replies.last) calm)

    back : some_reply wants_memory p.replies ≡ false → some_outcome wants_memory p.replies.last ≡ false
    back calm = or-second (some_outcome wants_memory p.replies.first || list_any (some_outcome wants_memory) p.replies.blocks) (some_outcome wants_memory p.replies.last) calm

    first_uncut : some_reply wants_memory p.replies ≡ false → AreUncut p.replies.first
    first_uncut calm = all-uncut new (client_of start job p.moment start.client) (length start.history) job.parts.first p.replies.first p.ran.first p.ran.legal.first_legal p.ran.legal.no_fault.0 (front calm) below

    last_uncut : some_reply wants_memory p.replies ≡ false → AreUncut p.replies.last
    last_uncut calm = all-uncut new (client_of start job p.moment start.client) (latest_end (end_of (length start.history) p.ran.first) p.ran.clients) job.parts.last p.replies.last p.ran.last p.ran.legal.last_legal p.ran.legal.no_fault.1.0 (back calm) below

    lawful : IsLawful start.history
    lawful = subst (λ (h : History). IsLawful h) (sym empty) tt

    middle : some_reply wants_memory p.replies ≡ false → list_any (some_outcome wants_memory) p.replies.blocks ≡ false
    middle calm = or-second (some_outcome wants_memory p.replies.first) (list_any (some_outcome wants_memory) p.replies.blocks)
        (or-first (some_outcome wants_memory p.replies.first || list_any (some_outcome wants_memory) p.replies.blocks) (some_outcome wants_memory p.replies.last) calm)

    -- the client of the one block
    second : Session
    second = (client_of start job p.moment 2).session

    -- the run with this block between the first and the last commands
    is_sole : some_reply wants_memory p.replies ≡ false → (block : List Command) (met : List Reply) → RunsAlone job.cutting second block met p.ran.behind_first p.ran.before_last →
        sole job.cutting job.frames p.moment job.parts.first block job.parts.last ≡ Some (record { first = p.replies.first; block = met; last = p.replies.last; events = length new })
    is_sole calm block met runs = are_sole job.cutting (client_of start job p.moment 1).session second job.parts.first block job.parts.last p.replies.first met p.replies.last p.ran.behind_first p.ran.before_last new refl refl refl refl
        (subst (λ (h : History). RunsAlone job.cutting (client_of start job p.moment 1).session job.parts.first p.replies.first h p.ran.behind_first) empty
        (p.ran.first_alone lawful (first_uncut calm) 1))
        runs (p.ran.last_alone lawful (last_uncut calm) 1)

    -- the replies are those of the run alone
    told_parts : List (List Reply) → PartReplies
    told_parts blocks = record { first = p.replies.first; blocks = blocks; last = p.replies.last }

    is_run : Run → Option Run
    is_run r = Some r

    -- the run of these blocks
    run_with : List (List Command) → Option Run
    run_with blocks = one_block blocks >>= λ block. option_map (λ (r : SoleRun). run_of job.names (replies_alone blocks r) r.events) (sole job.cutting job.frames p.moment job.parts.first block job.parts.last)

    told_with : (blocks : List (List Reply)) → p.replies.blocks ≡ blocks → Some (run_of job.names (told_parts blocks) (length new)) ≡ Some run
    told_with blocks is = ap (λ (b : List (List Reply)). is_run (run_of job.names (told_parts b) (length new))) (sym is) ∙ ap is_run (sym p.run_is)

    alone_with : some_reply wants_memory p.replies ≡ false → (blocks : List (List Command)) → job.parts.blocks ≡ blocks → length blocks ≤ 1 → run_with blocks ≡ Some run
    alone_with calm [] is short =
        ap (option_map (λ (r : SoleRun). run_of job.names (replies_alone [] r) r.events))
        (is_sole calm [] [] (subst (λ (h : History). RunsAlone job.cutting second [] [] p.ran.behind_first h) (sym (p.ran.without_blocks is)) (grow.none job.cutting second p.ran.behind_first)))
        ∙ told_with [] (no-blocks (client_of start job p.moment) job.parts.blocks p.replies.blocks p.ran.clients p.ran.clients_are is)
    alone_with calm (block ∷ []) is short =
        let are : AreTalksOf (client_of start job p.moment) (block ∷ []) p.replies.blocks p.ran.clients = subst (λ (b : List (List Command)). AreTalksOf (client_of start job p.moment) b p.replies.blocks p.ran.clients) is p.ran.clients_are in
        with_met (one-met (client_of start job p.moment) block p.replies.blocks p.ran.clients are) are
      where
        with_met : (m : (met : List Reply) × (p.replies.blocks ≡ met ∷ [])) → AreTalksOf (client_of start job p.moment) (block ∷ []) p.replies.blocks p.ran.clients → run_with (block ∷ []) ≡ Some run
        with_met (met, met_is) are =
            let memory : list_any (some_outcome wants_memory) (met ∷ []) ≡ false = subst (λ (b : List (List Reply)). list_any (some_outcome wants_memory) b ≡ false) met_is (middle calm) in
            let uncut : AreUncut met = met-uncut start job p.moment new (end_of (length start.history) p.ran.first) block met p.ran.clients
            (subst (λ (b : List (List Reply)). AreTalksOf (client_of start job p.moment) (block ∷ []) b p.ran.clients) met_is are) p.ran.legal.clients_legal p.ran.legal.no_fault.1.1
            (or-first (some_outcome wants_memory met) false memory) below in
            ap (option_map (λ (r : SoleRun). run_of job.names (replies_alone (block ∷ []) r) r.events))
            (is_sole calm block met (p.ran.block_alone block met is met_is lawful uncut 2))
            ∙ told_with (met ∷ []) met_is
    alone_with calm (block ∷ next ∷ more) is short = absurd (omega (arith, short))

    alone_is : some_reply wants_memory p.replies ≡ false → run_from p.moment (Ok job) ≡ Some run
    alone_is calm = alone_with calm job.parts.blocks refl few

    written : IsRun (Some run) told after status
    written = (w.status_is, w.output)

    of : (b : Bool) → some_reply wants_memory p.replies ≡ b → (status ≡ 6) ⊎ IsRun (run_from moment (Ok job)) told after status
    of true is = inl (status_is ∙ ap (λ b. cond b 6 (cond (some_reply is_refused p.replies) 1 0)) is)
    of false is = inr (subst (λ (m : ℤ). IsRun (run_from m (Ok job)) told after status) same
        (subst (λ (o : Option Run). IsRun o told after status) (sym (alone_is is)) written))

-- all was written
plan-exact : (grow : RunsGrow) (are_sole : BlocksAreSole) (start : Start) (plan : Result Job Stop) (run : Run) (moment : ℤ) (told : Text) (after : Option Text) (status : ℕ) (new : History) → start.reading ≡ Some moment → start.history ≡ [] → length new < start.limit →
    HasOneBlock plan → IsDue start plan run new → AllWritten run (Some told) after status → (status ≡ 6) ⊎ IsRun (run_from moment plan) told after status
plan-exact grow are_sole start (Ok job) run moment told after status new reading empty below few due w =
    job-exact grow are_sole start job run moment told after status new reading empty below few due w
plan-exact grow are_sole start (Err s) run moment told after status new reading empty below few due w =
    inr (w.status_is ∙ ap (λ (r : Run). r.status) due.0, w.output ∙ ap (λ (r : Run). some (told ++ concat r.lines)) due.0)
  where
    some : Text → Option Text
    some t = Some t

-- the run of a stop by a fetch that failed has status 4
fetch-stopped : (start : Start) (f0 f1 : ℕ) (plan : Result Job Stop) (run : Run) (new : History) → FailsFetch f0 f1 plan → IsDue start plan run new → run.status ≡ 4
fetch-stopped start f0 f1 plan run new failed due = ap (λ (r : Run). r.status) stop.0
  where
    stop : IsDue start (Err (stops.Unreadable failed.name)) run new
    stop = subst (λ (x : Result Job Stop). IsDue start x run new) failed.plan_is due

due-exact : (grow : RunsGrow) (are_sole : BlocksAreSole) (start : Start) (f0 f1 g0 g1 : ℕ) (held : Shelf) (told : Text) (moment : ℤ) (w0 w1 : Option Text) (status : ℕ) (new : History) → IsOfOne start held told moment w0 new → (due : Due start f0 f1 new) →
    RunEnds due.run g0 g1 w0 w1 status → IsRunOrFails (run_alone moment held start.words) f0 f1 g0 g1 told w1 status
due-exact grow are_sole start f0 f1 g0 g1 held told moment w0 w1 status new u due (inr (inl p)) = inr (inr (inl (p.0, p.1)))
due-exact grow are_sole start f0 f1 g0 g1 held told moment w0 w1 status new u due (inr (inr p)) = inr (inl p.0)
due-exact grow are_sole start f0 f1 g0 g1 held told moment w0 w1 status new u due (inl e) =
    of (prepares-told held f0 f1 start.words due.plan (subst (λ h. Prepares h f0 f1 start.words due.plan) u.tells due.prepares))
  where
    exactly : (status ≡ 6) ⊎ IsRun (run_alone moment held start.words) told w1 status → IsRunOrFails (run_alone moment held start.words) f0 f1 g0 g1 told w1 status
    exactly (inl six) = inr (inl six)
    exactly (inr ended) = inl ended

    of : (prepared held start.words ≡ due.plan) ⊎ FailsFetch f0 f1 due.plan → IsRunOrFails (run_alone moment held start.words) f0 f1 g0 g1 told w1 status
    of (inl made) = exactly (subst (λ (x : Result Job Stop). (status ≡ 6) ⊎ IsRun (run_from moment x) told w1 status) (sym made)
        (plan-exact grow are_sole start due.plan due.run moment told w1 status new u.reading u.empty u.room (subst HasOneBlock made u.few) due.is_due (subst (λ (o : Option Text). AllWritten due.run o w1 status) u.written e.1)))
    of (inr failed) = inr (inr (inr (e.1.status_is ∙ fetch-stopped start f0 f1 due.plan due.run new failed due.is_due, failed.rose)))

-- the run is that of one client alone, unless memory was wanted, or the output or the shelf failed
pub exact : (grow : RunsGrow) (are_sole : BlocksAreSole) (start : Start) (f0 f1 g0 g1 : ℕ) (held : Shelf) (told : Text) (moment : ℤ) (w0 w1 : Option Text) (status : ℕ) (new : History) → IsOfOne start held told moment w0 new →
    Ends start f0 f1 g0 g1 w0 w1 status new → IsRunOrFails (run_alone moment held start.words) f0 f1 g0 g1 told w1 status
exact grow are_sole start f0 f1 g0 g1 held told moment w0 w1 status new u (inl e) = due-exact grow are_sole start f0 f1 g0 g1 held told moment w0 w1 status new u e.0 e.1
exact grow are_sole start f0 f1 g0 g1 held told moment w0 w1 status new u (inr e) = inr (inl e.0)
