-- What a shelf of files answers.
--     Held                    the bytes under each name, where a shelf tells them
--     FetchGives              an answer and the bytes that it leaves fit what is held
--     KeepsUnlessFailed       the count of faults stands still with every answer but Failed
use Rattle.std.specs.Prelude.{◌≡◌, ℕ, ⊤, List, Option, Some, None, Result, Ok, Err}
use Rattle.program_edge.specs.declared.shelf.ShelfErr.{ShelfErr}
use Rattle.program_edge.specs.declared.shelf.ShelfErr.TheVariants as errors

-- the bytes under each name, where they are told
abbrev pub Held : Type 0
Held = Option (List ℕ → Option (List ℕ))

-- where it is told what is held, Ok leaves exactly the bytes under the name, and NotThere comes only where there are none
abbrev pub FetchGives : Held → List ℕ → List ℕ → Result (Unit {0}) ShelfErr → Type 0
FetchGives None name into answer = ⊤
FetchGives (Some held) name into (Ok done) = held name ≡ Some into
FetchGives (Some held) name into (Err errors.NotThere) = held name ≡ None
FetchGives (Some held) name into (Err errors.Failed) = ⊤
FetchGives (Some held) name into (Err errors.NoMemory) = ⊤

-- with every answer but Failed the count of faults stood still
abbrev pub KeepsUnlessFailed : ℕ → ℕ → Result (Unit {0}) ShelfErr → Type 0
KeepsUnlessFailed before now (Ok done) = now ≡ before
KeepsUnlessFailed before now (Err errors.NotThere) = now ≡ before
KeepsUnlessFailed before now (Err errors.Failed) = ⊤
KeepsUnlessFailed before now (Err errors.NoMemory) = now ≡ before
