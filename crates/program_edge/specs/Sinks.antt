-- What an output takes.
--     PutAdds                 what a put added to the bytes written, where they are told
--     KeepsUnlessFailed       the count of faults stands still with every answer but Failed
use Rattle.std.specs.Prelude.{◌≡◌, ℕ, ⊤, List, ◌++◌, take, Option, Some, None, Result, Ok, Err}
use Rattle.program_edge.specs.declared.sink.SinkErr.{SinkErr}
use Rattle.program_edge.specs.declared.sink.SinkErr.TheVariants as errors

-- Ok adds the whole piece to what is written, and a refused put adds a prefix of it
abbrev pub PutAdds : Option (List ℕ) → Option (List ℕ) → List ℕ → Result (Unit {0}) SinkErr → Type 0
PutAdds None new piece answer = new ≡ None
PutAdds (Some old) new piece (Ok done) = new ≡ Some (old ++ piece)
PutAdds (Some old) new piece (Err e) = (n : ℕ) × (new ≡ Some (old ++ take n piece))

-- with every answer but Failed the count of faults stood still
abbrev pub KeepsUnlessFailed : ℕ → ℕ → Result (Unit {0}) SinkErr → Type 0
KeepsUnlessFailed before now (Ok done) = now ≡ before
KeepsUnlessFailed before now (Err errors.Failed) = ⊤
KeepsUnlessFailed before now (Err errors.NoMemory) = now ≡ before
