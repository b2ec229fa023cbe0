-- What an answer tells, by its case.
use Rattle.std.proofs.Common.{ℕ, IfSome, Option, None, Some, MatchOption}

pub on_some : (P : Type 0) (Q R : ℕ → Type 0) (o : Option ℕ) → MatchOption o P Q → ((x : ℕ) → Q x → R x) → IfSome o R
on_some P Q R None m f = tt
on_some P Q R (Some x) m f = f x m
