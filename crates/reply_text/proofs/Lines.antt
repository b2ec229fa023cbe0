-- Texts that are added to a line one after another.
use Rattle.std.proofs.Common.{◌≡◌, ℕ, List, [], ◌∷◌, ◌++◌, refl, sym, ap, ◌∙◌, append_assoc}

-- two texts that were added are one
pub onto : (line a b before now : List ℕ) → before ≡ line ++ a → now ≡ before ++ b → now ≡ line ++ (a ++ b)
onto line a b before now p q = q ∙ (ap (λ (x : List ℕ). x ++ b) p ∙ append_assoc line a b)

pub ruleset lines = (append_assoc, onto)
