-- Sums of bytes, modulo 256.
use Rattle.std.proofs.Common.{◌≡◌, ℕ, ◌+◌, ◌%◌, List, ◌∷◌, ap, ◌∙◌, arith}
use Rattle.std.specs.List.{sum_by}
use Rattle.std.proofs.Math.Nat.{mod-add-mod}
use Rattle.std.proofs.lemmas.List.Sums.{sum_by-cons}

-- a byte may be added at once
pub row-step : (s b : ℕ) (bs : List ℕ) → ((s + b) % 256 + sum_by (λ byte. byte) bs) % 256 ≡ (s + sum_by (λ byte. byte) (b ∷ bs)) % 256
row-step s b bs =
    let more : s + b + sum_by (λ byte. byte) bs ≡ s + sum_by (λ byte. byte) (b ∷ bs) = omega (arith, sum_by-cons (λ byte. byte) b bs) in
    mod-add-mod (s + b) 256 (sum_by (λ byte. byte) bs) ∙ ap (λ n. n % 256) more
