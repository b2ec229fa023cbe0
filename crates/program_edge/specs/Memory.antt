-- Files and output in memory.
--     Files                   the files of a shelf, and which of its calls fail
--     held_under              the bytes under a name
--     fetch_answer            what a fetch answers, memory aside
--     Output                  what is written, and which of its calls fail
--     put_answer, after_put   what a put answers, memory aside, and what it leaves
use Rattle.std.specs.Prelude.{◌≡◌, ℕ, IsOk, Bool, true, false, List, ◌++◌, find, nat_eq, option_map, Option, Some, None, Result, Ok, Err}
use Rattle.std.specs.Cmp.Lexicographic.{pointwise}
use Rattle.program_edge.specs.declared.shelf.ShelfErr.{ShelfErr}
use Rattle.program_edge.specs.declared.shelf.ShelfErr.TheVariants as shelf_errors
use Rattle.program_edge.specs.declared.sink.SinkErr.{SinkErr}
use Rattle.program_edge.specs.declared.sink.SinkErr.TheVariants as sink_errors
use Rattle.program_edge.specs.FailPlans.{FailPlan}

-- ---- files

-- names with their bytes, and which calls fail
pub record Files : Type 0 where
  pub files : List (List ℕ × List ℕ)
  pub plan : FailPlan

-- the bytes of the first file of this name
abbrev pub held_under : List (List ℕ × List ℕ) → List ℕ → Option (List ℕ)
held_under files name = option_map (λ f. f.1) (find (λ f. pointwise nat_eq f.0 name) files)

-- the bytes of a fetch, by whether its number is among those that fail and by the bytes under its name; or why it is refused
abbrev pub fetch_answer : Bool → Option (List ℕ) → Result (List ℕ) ShelfErr
fetch_answer true held = Err shelf_errors.Failed
fetch_answer false None = Err shelf_errors.NotThere
fetch_answer false (Some bytes) = Ok bytes

-- a fetch answers so and leaves these bytes, unless memory for some bytes is wanted
abbrev pub FetchIs : Result (List ℕ) ShelfErr → List ℕ → Result (Unit {0}) ShelfErr → Type 0
FetchIs wanted into (Ok done) = wanted ≡ Ok into
FetchIs wanted into (Err shelf_errors.NoMemory) = IsOk wanted
FetchIs wanted into (Err e) = wanted ≡ Err e

-- ---- output

-- what is written, and which calls fail
pub record Output : Type 0 where
  pub bytes : List ℕ
  pub plan : FailPlan

-- a put fails where its number is among those that fail, and nowhere else
abbrev pub PutIs : Bool → Result (Unit {0}) SinkErr → Type 0
PutIs fails (Ok done) = fails ≡ false
PutIs fails (Err sink_errors.NoMemory) = fails ≡ false
PutIs fails (Err sink_errors.Failed) = fails ≡ true

-- what is written after a put: the whole piece where it answers Ok, and nothing of it else
abbrev pub written_after : List ℕ → List ℕ → Result (Unit {0}) SinkErr → List ℕ
written_after old piece (Ok done) = old ++ piece
written_after old piece (Err e) = old
