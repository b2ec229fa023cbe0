-- What is prepared of a shelf that tells what it holds.
use Rattle.std.proofs.Common.{◌≡◌, ℕ, List, [], ◌∷◌, ◌++◌, Some, None, Result, Ok, Err, refl, sym, ap, ◌∙◌, subst, inl, inr, ◌⊎◌}
use Rattle.std.specs.List.{AllZip}
use Rattle.base_types.specs.Faults.{Rose}
use Rattle.frame_core.specs.Texts.{Text}
use Rattle.frame_core.specs.RawFrames.{Table}
use Rattle.script_lang.specs.declared.load.Load.{Load}
use Rattle.script_lang.specs.declared.script.Script.{Script}
use Rattle.program_run.specs.Jobs.{script_in}
use Rattle.program_run.specs.declared.stop.Stop.{Stop}
use Rattle.program_run.specs.declared.stop.Stop.TheVariants as stops
use Rattle.program_run.specs.CommandLine.{Words, plain_words_of, first_set}
use Rattle.program_run.specs.Program.{Job, job_of, Shelf, ◌then◌, or_stop, table_in_file, fetched, loaded, all_loaded, prepared}
use Rattle.program_run.specs.Causes.{NotFetched, FindsScript, GivesTable, ReachesLoad, NamesScript, NamesLoad, IsBadFile, Prepares}

-- one step that gives a value, and one that stops
step : {A B : Type 0} (r : Result A Stop) (a : A) (f : A → Result B Stop) → r ≡ Ok a → (r then f) ≡ f a
step r a f e = ap (λ x. x then f) e

halt : {A B : Type 0} (r : Result A Stop) (s : Stop) (f : A → Result B Stop) → r ≡ Err s → (r then f) ≡ Err s
halt r s f e = ap (λ x. x then f) e

-- a file that is held
fetched-held : (held : Shelf) (name bytes : Text) → held name ≡ Some bytes → fetched held name ≡ Ok bytes
fetched-held held name bytes e = ap (λ o. or_stop (stops.Unreadable name) o) e

fetched-missing : (held : Shelf) (name : Text) → held name ≡ None → fetched held name ≡ Err (stops.Unreadable name)
fetched-missing held name e = ap (λ o. or_stop (stops.Unreadable name) o) e

-- a good load
loaded-good : (held : Shelf) (load : Load) (frame : Table) → GivesTable (Some held) load frame → loaded held load ≡ Ok frame
loaded-good held load frame good =
    step (fetched held load.file) good.bytes (λ bytes. or_stop (stops.BadFile load.file) (table_in_file load bytes)) (fetched-held held load.file good.bytes good.held)
    ∙ ap (λ o. or_stop (stops.BadFile load.file) o) good.table_is

all-good : (held : Shelf) (loads : List Load) (frames : List Table) → AllZip (GivesTable (Some held)) loads frames → all_loaded held loads ≡ Ok frames
all-good held [] [] all = refl
all-good held [] (frame ∷ frames) all = absurd all
all-good held (load ∷ loads) [] all = absurd all
all-good held (load ∷ loads) (frame ∷ frames) all =
    step (loaded held load) frame (λ f. all_loaded held loads then λ more. Ok (f ∷ more)) (loaded-good held load frame all.0)
    ∙ step (all_loaded held loads) frames (λ more. Ok (frame ∷ more)) (all-good held loads frames all.1)

all-halt : (held : Shelf) (earlier : List Load) (load : Load) (later : List Load) (frames : List Table) (s : Stop) →
    AllZip (GivesTable (Some held)) earlier frames → loaded held load ≡ Err s → all_loaded held (earlier ++ load ∷ later) ≡ Err s
all-halt held [] load later [] s all e = halt (loaded held load) s (λ f. all_loaded held later then λ more. Ok (f ∷ more)) e
all-halt held [] load later (frame ∷ frames) s all e = absurd all
all-halt held (l ∷ earlier) load later [] s all e = absurd all
all-halt held (l ∷ earlier) load later (frame ∷ frames) s all e =
    step (loaded held l) frame (λ f. all_loaded held (earlier ++ load ∷ later) then λ more. Ok (f ∷ more)) (loaded-good held l frame all.0)
    ∙ halt (all_loaded held (earlier ++ load ∷ later)) s (λ more. Ok (frame ∷ more)) (all-halt held earlier load later frames s all.1 e)

-- what comes after the words, and after the script
from_loads : Shelf → Words → Script → Result Job Stop
from_loads held said script = all_loaded held script.loads then λ frames. Ok (job_of said script frames)

from_bytes : Shelf → Words → Text → Result Job Stop
unfolding from_loads
from_bytes held said bytes = or_stop stops.BadScript (script_in bytes) then λ script. from_loads held said script

from_word : Shelf → Words → Result Job Stop
unfolding from_bytes
from_word held said = fetched held said.word then λ bytes. from_bytes held said bytes

-- the words are good
said-of : (held : Shelf) (words : List Text) (said : Words) → plain_words_of first_set words ≡ Some said → prepared held words ≡ from_word held said
unfolding from_loads from_bytes from_word
said-of held words said e = step (or_stop stops.Usage (plain_words_of first_set words)) said (λ w. from_word held w) (ap (λ o. or_stop stops.Usage o) e)

bytes-of : (held : Shelf) (said : Words) (bytes : Text) → held said.word ≡ Some bytes → from_word held said ≡ from_bytes held said bytes
unfolding from_loads from_bytes from_word
bytes-of held said bytes e = step (fetched held said.word) bytes (λ b. from_bytes held said b) (fetched-held held said.word bytes e)

script-of : (held : Shelf) (words : List Text) (script : Script) → (found : FindsScript (Some held) words script) → prepared held words ≡ from_loads held found.said script
unfolding from_loads from_bytes from_word
script-of held words script found =
    said-of held words found.said found.words_are ∙ (bytes-of held found.said found.bytes found.held
    ∙ step (or_stop stops.BadScript (script_in found.bytes)) script (λ s. from_loads held found.said s) (ap (λ o. or_stop stops.BadScript o) found.script_is))

-- a load at which loading stops
load-halts : (held : Shelf) (words : List Text) (load : Load) (s : Stop) → ReachesLoad (Some held) words load → loaded held load ≡ Err s → prepared held words ≡ Err s
unfolding from_loads
load-halts held words load s reached e =
    script-of held words reached.script reached.found
    ∙ halt (all_loaded held reached.script.loads) s (λ frames. Ok (job_of reached.found.said reached.script frames))
    (ap (λ (l : List Load). all_loaded held l) reached.loads_are ∙ all-halt held reached.earlier load reached.later reached.frames s reached.loaded e)

-- a name that is missing
unreadable-told : (held : Shelf) (words : List Text) (name : Text) → held name ≡ None → NamesScript words name ⊎ NamesLoad (Some held) words name → prepared held words ≡ Err (stops.Unreadable name)
unfolding from_word
unreadable-told held words name missing (inl script) =
    said-of held words script.said script.words_are
    ∙ halt (fetched held script.said.word) (stops.Unreadable name) (λ bytes. from_bytes held script.said bytes) (subst (λ (n : Text). fetched held n ≡ Err (stops.Unreadable name)) (sym script.name_is) (fetched-missing held name missing))
unreadable-told held words name missing (inr named) =
    load-halts held words named.load (stops.Unreadable name) named.reached
    (halt (fetched held named.load.file) (stops.Unreadable name) (λ bytes. or_stop (stops.BadFile named.load.file) (table_in_file named.load bytes))
    (subst (λ (n : Text). fetched held n ≡ Err (stops.Unreadable name)) (sym named.name_is) (fetched-missing held name missing)))

-- a bad file
bad-told : (held : Shelf) (words : List Text) (name : Text) → IsBadFile (Some held) words name → prepared held words ≡ Err (stops.BadFile name)
bad-told held words name why =
    load-halts held words why.named.load (stops.BadFile name) why.named.reached
    (step (fetched held why.named.load.file) why.bytes (λ bytes. or_stop (stops.BadFile why.named.load.file) (table_in_file why.named.load bytes))
    (fetched-held held why.named.load.file why.bytes (subst (λ (n : Text). held n ≡ Some why.bytes) (sym why.named.name_is) why.held))
    ∙ (ap (λ o. or_stop (stops.BadFile why.named.load.file) o) why.file_bad ∙ ap (λ (n : Text). stopped_by n) why.named.name_is))
  where
    stopped_by : Text → Result Table Stop
    stopped_by n = Err (stops.BadFile n)

-- a fetch failed, and the run stops there
pub record FailsFetch (before now : ℕ) (plan : Result Job Stop) : Type 0 where
  pub name : Text
  pub plan_is : plan ≡ Err (stops.Unreadable name)
  pub rose : Rose before now

-- what was prepared is what the shelf makes of the words, or a fetch failed
pub prepares-told : (held : Shelf) (before now : ℕ) (words : List Text) (plan : Result Job Stop) → Prepares (Some held) before now words plan → (prepared held words ≡ plan) ⊎ FailsFetch before now plan
unfolding from_loads from_bytes from_word
prepares-told held before now words (Ok job) p =
    inl (script-of held words p.script p.found
    ∙ (step (all_loaded held p.script.loads) p.frames (λ frames. Ok (job_of p.found.said p.script frames)) (all-good held p.script.loads p.frames p.loaded)
    ∙ ap (λ (j : Job). job_planned j) (sym p.job_is)))
  where
    job_planned : Job → Result Job Stop
    job_planned j = Ok j
prepares-told held before now words (Err stops.Usage) p = inl (ap (λ o. or_stop stops.Usage o then λ said. from_word held said) p)
prepares-told held before now words (Err stops.BadScript) p =
    inl (said-of held words p.said p.words_are ∙ (bytes-of held p.said p.bytes p.held
    ∙ halt (or_stop stops.BadScript (script_in p.bytes)) stops.BadScript (λ script. from_loads held p.said script) (ap (λ o. or_stop stops.BadScript o) p.script_bad)))
prepares-told held before now words (Err (stops.Unreadable name)) p = of p.missed
  where
    of : NotFetched (Some held) before now name → (prepared held words ≡ Err (stops.Unreadable name)) ⊎ FailsFetch before now (Err (stops.Unreadable name))
    of (inl rose) = inr (record { name = name; plan_is = refl; rose = rose })
    of (inr missing) = inl (unreadable-told held words name missing p.wanted)
prepares-told held before now words (Err (stops.BadFile name)) p = inl (bad-told held words name p)
