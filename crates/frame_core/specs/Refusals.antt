-- Answers of calls that may refuse.
--     Answers             an answer is the one that a definition gives, or want of memory
use Rattle.std.specs.Prelude.{◌≡◌, ⊤, Result, Ok, Err}
use Rattle.frame_core.specs.declared.refusal.Refusal.{Refusal}
use Rattle.frame_core.specs.declared.refusal.Refusal.TheVariants as refusals

-- an answer is the one that is given, and want of memory alone is free
abbrev pub Answers : {T : Type 0} → Result T Refusal → Result T Refusal → Type 0
Answers (Err refusals.NoMemory) given = ⊤
Answers (Ok value) given = given ≡ Ok value
Answers (Err refusal) given = given ≡ Err refusal
