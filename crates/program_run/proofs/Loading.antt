-- Loads that are read one after another.
use Rattle.std.proofs.Common.{◌≡◌, ℕ, ◌+◌, ◌<◌, ◌≤◌, List, [], ◌∷◌, ◌++◌, Err, length, map, get_or, take, drop, Result, Ok, refl, sym, ap, ◌∙◌, subst, inl, inr, arith, add-one, drop-cons}
use Rattle.std.specs.Prelude.{IfOk, IfErr}
use Rattle.std.specs.List.{AllZip}
use Rattle.std.proofs.lemmas.List.{take-append-drop, take_more}
use mathlib.Core.List.{map-append}
use Rattle.frame_core.specs.RawFrames.{Table, table_of}
use Rattle.frame_core.specs.declared.raw.RawFrame.{RawFrame}
use Rattle.frame_core.specs.Texts.{Text}
use Rattle.program_edge.specs.Shelves.{Held}
use Rattle.reply_model.specs.Blocks.{run_cutting}
use Rattle.client_sessions.specs.Parts.{Parts}
use Rattle.script_lang.specs.declared.load.Load.{Load}
use Rattle.script_lang.specs.declared.script.Script.{Script}
use Rattle.program_run.specs.declared.stop.Stop.{Stop}
use Rattle.program_run.specs.declared.stop.Stop.TheVariants as stops
use Rattle.program_run.specs.declared.stop.Halt.{Halt}
use Rattle.program_run.specs.declared.stop.Halt.TheVariants as halts
use Rattle.program_run.specs.CommandLine.{Words}
use Rattle.program_run.specs.declared.prepare.Plan.{Plan}
use Rattle.program_run.specs.Jobs.{client_names, parts_of}
use Rattle.program_run.specs.Program.{Job, job_of}
use Rattle.program_run.specs.declared.words.Options.{Options}
use Rattle.program_run.specs.Causes.{HeldAs, NotFetched, FindsScript, GivesTable, ReachesLoad, IsPrepared, StopsBy}
use Rattle.program_run.proofs.Prints.{rose-later}
use Rattle.program_run.specs.Preparing.{FindsJob, LoadHalts, LoadsHalt, parts_in, PlanIs}

-- one pair more
pub allzip-push : {A B : Type 0} (R : A → B → Type 0) (xs : List A) (ys : List B) (x : A) (y : B) → AllZip R xs ys → R x y → AllZip R (xs ++ x ∷ []) (ys ++ y ∷ [])
allzip-push R [] [] x y all r = (r, tt)
allzip-push R [] (b ∷ ys) x y all r = absurd all
allzip-push R (a ∷ xs) [] x y all r = absurd all
allzip-push R (a ∷ xs) (b ∷ ys) x y all r = (all.0, allzip-push R xs ys x y all.1 r)

-- a list around the place i
pub around : {A : Type 0} (xs : List A) (i : ℕ) (d : A) → i < length xs → xs ≡ take i xs ++ get_or xs i d ∷ drop (i + 1) xs
around xs i d lt = sym (take-append-drop i xs) ∙ ap (λ (t : List _). take i xs ++ t) (drop-cons xs i d lt ∙ ap (λ (n : ℕ). get_or xs i d ∷ drop n xs) (sym (add-one i)))

missed-later : (holds : Held) (before later now : ℕ) (name : Text) → before ≤ later → NotFetched holds later now name → NotFetched holds before now name
missed-later holds before later now name le (inl rose) = inl (rose-later before later now le rose)
missed-later holds before later now name le (inr missing) = inr missing

halts-later : (holds : Held) (before later now : ℕ) (load : Load) (halt : Halt) → before ≤ later → LoadHalts holds later now load halt → LoadHalts holds before now load halt
halts-later holds before later now load halts.NoMemory le why = tt
halts-later holds before later now load (halts.Stop (stops.Unreadable file)) le why = (why.0, missed-later holds before later now load.file le why.1)
halts-later holds before later now load (halts.Stop (stops.BadFile file)) le why = why
halts-later holds before later now load (halts.Stop stops.Usage) le why = absurd why
halts-later holds before later now load (halts.Stop stops.BadScript) le why = absurd why

-- the load at the place i halts, and those before it are good
pub fails_at : (holds : Held) (before later now : ℕ) (loads : List Load) (i : ℕ) (load : Load) (frames : List Table) (halt : Halt) → i < length loads → load ≡ get_or loads i load →
    before ≤ later → AllZip (GivesTable holds) (take i loads) frames → LoadHalts holds later now load halt → LoadsHalt holds before now loads halt
fails_at holds before later now loads i load frames halts.NoMemory lt is le all why = tt
fails_at holds before later now loads i load frames (halts.Stop s) lt is le all why = record {
  load = load;
  earlier = take i loads;
  later = drop (i + 1) loads;
  loads_are = around loads i load lt ∙ ap (λ (l : Load). take i loads ++ l ∷ drop (i + 1) loads) (sym is);
  frames = frames;
  loaded = all;
  fails = halts-later holds before later now load (halts.Stop s) le why;
}

-- one good load more
pub loaded-more : (R : Load → Table → Type 0) (loads : List Load) (i : ℕ) (load : Load) (frames grown : List RawFrame) (frame : RawFrame) → i < length loads → load ≡ get_or loads i load →
    AllZip R (take i loads) (map table_of frames) → R load (table_of frame) → grown ≡ frames ++ frame ∷ [] → AllZip R (take (i + 1) loads) (map table_of grown)
loaded-more R loads i load frames grown frame lt is all one made =
    let more : take (i + 1) loads ≡ take i loads ++ load ∷ [] = take_more loads i load lt ∙ ap (λ (l : Load). take i loads ++ l ∷ []) (sym is) in
    let tables : map table_of grown ≡ map table_of frames ++ table_of frame ∷ [] = ap (map table_of) made ∙ map-append table_of frames (frame ∷ []) in
    subst (λ (ys : List Table). AllZip R (take (i + 1) loads) ys) (sym tables) (subst (λ (xs : List Load). AllZip R xs (map table_of frames ++ table_of frame ∷ [])) (sym more) (allzip-push R (take i loads) (map table_of frames) load (table_of frame) all one))

-- as many frames as loads
pub as-many : (R : Load → Table → Type 0) (loads : List Load) (frames : List Table) → AllZip R loads frames → length loads ≡ length frames
as-many R [] [] all = refl
as-many R [] (f ∷ frames) all = absurd all
as-many R (l ∷ loads) [] all = absurd all
as-many R (l ∷ loads) (f ∷ frames) all = omega (arith, as-many R loads frames all.1)

-- a halt of the loads is one of the run
pub loads_stop : (holds : Held) (before later now : ℕ) (words : List Text) (script : Script) (halt : Halt) → before ≤ later → FindsScript holds words script → LoadsHalt holds later now script.loads halt → PlanIs holds before now words (Err halt)
loads_stop holds before later now words script halts.NoMemory le found why = tt
loads_stop holds before later now words script (halts.Stop s) le found why = of s why.load why.fails (record {
  script = script;
  found = found;
  earlier = why.earlier;
  later = why.later;
  loads_are = why.loads_are;
  frames = why.frames;
  loaded = why.loaded;
})
  where
    of : (s : Stop) (load : Load) → LoadHalts holds later now load (halts.Stop s) → ReachesLoad holds words load → StopsBy holds before now words s
    of (stops.Unreadable file) load fails reached = record {
      wanted = inr (record { load = load; reached = reached; name_is = sym fails.0 });
      missed = missed-later holds before later now file le (subst (λ (n : Text). NotFetched holds later now n) (sym fails.0) fails.1);
    }
    of (stops.BadFile file) load fails reached = record {
      named = record { load = load; reached = reached; name_is = sym fails.0 };
      bytes = fails.1.bytes;
      held = subst (λ (n : Text). HeldAs holds n fails.1.bytes) (sym fails.0) fails.1.held;
      file_bad = fails.1.file_bad;
    }
    of stops.Usage load fails reached = absurd fails
    of stops.BadScript load fails reached = absurd fails

-- ---- the job

-- a job of these options, names, parts and frames
abbrev job_with : Options → List Text → Parts → List Table → Job
job_with options names parts frames = record { cutting = run_cutting options.cutting; tries = options.tries; names = names; parts = parts; frames = frames }

-- the job of a script that the words name, of their options and of the raw frames of its loads
prepared_job : (holds : Held) (words : List Text) (script : Script) (options : Options) (frames : List Table) → FindsJob holds words script options → AllZip (GivesTable holds) script.loads frames →
    IsPrepared holds words (job_with options (client_names script.clients) (parts_of script) frames)
prepared_job holds words script options frames x loaded = record {
  script = script;
  found = x.found;
  frames = frames;
  loaded = loaded;
  job_is = sym (ap (λ (s : Words). job_of s script frames) x.says);
}

-- a plan of the script, of its options and of the raw frames of its loads is the words' plan
pub prepared_plan : (holds : Held) (before now : ℕ) (words : List Text) (script : Script) (options : Options) (frames : List RawFrame) (result : Result Plan Halt) →
    FindsJob holds words script options → AllZip (GivesTable holds) script.loads (map table_of frames) →
    IfOk result (λ plan. plan.options ≡ options) → IfOk result (λ plan. plan.names ≡ client_names script.clients) → IfOk result (λ plan. parts_in plan ≡ parts_of script) →
    IfOk result (λ plan. plan.frames ≡ frames) → IfErr result (λ halt. halt ≡ halts.NoMemory) → PlanIs holds before now words result
prepared_plan holds before now words script options frames (Err halt) found loaded o n p f memory = subst (λ (h : Halt). PlanIs holds before now words (Err h)) (sym memory) tt
prepared_plan holds before now words script options frames (Ok plan) found loaded o n p f memory =
    let tables : map table_of plan.frames ≡ map table_of frames = ap (map table_of) f in
    let same : job_with plan.options plan.names (parts_in plan) (map table_of plan.frames) ≡ job_with options (client_names script.clients) (parts_of script) (map table_of frames) =
    ap (λ (x : Options). job_with x plan.names (parts_in plan) (map table_of plan.frames)) o
    ∙ ap (λ (x : List Text). job_with options x (parts_in plan) (map table_of plan.frames)) n
    ∙ ap (λ (x : Parts). job_with options (client_names script.clients) x (map table_of plan.frames)) p
    ∙ ap (λ (x : List Table). job_with options (client_names script.clients) (parts_of script) x) tables in
    subst (λ (j : Job). IsPrepared holds words j) (sym same) (prepared_job holds words script options (map table_of frames) found loaded)
