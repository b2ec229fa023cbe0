-- The sizes of row blocks, and how much of them a range leaves.
use Rattle.std.proofs.Common.{◌≡◌, ℕ, suc, ◌+◌, ◌≤◌, List, [], ◌∷◌, ◌++◌, arith}
use Rattle.std.specs.Prelude.{⊤}
use Rattle.std.specs.List.{AllByRecursion}

-- the sum of sizes
abbrev pub total : List ℕ → ℕ
total [] = 0
total (n ∷ ns) = n + total ns

pub total-append : (xs ys : List ℕ) → total (xs ++ ys) ≡ total xs + total ys
total-append [] ys = omega arith
total-append (x ∷ xs) ys = omega (arith, total-append xs ys)

-- each has a row
abbrev pub HaveRows : List ℕ → Type 0
HaveRows = AllByRecursion (λ n. 1 ≤ n)

-- so many rows of the first block are left, and not all
abbrev pub IsCut : ℕ → List ℕ → Type 0
IsCut e [] = e ≡ 0
IsCut e (n ∷ ns) = suc e ≤ n

-- each block begins before the range's end
abbrev pub Begin : ℕ → ℕ → List ℕ → Type 0
Begin b start [] = ⊤
Begin b start (n ∷ ns) = (suc start ≤ b) × Begin b (start + n) ns

-- ---- less than a full block is left

pub cut_few : (e most : ℕ) (ns : List ℕ) → IsCut e ns → AllByRecursion (λ n. n ≤ most) ns → 1 ≤ most → suc e ≤ most
cut_few e most [] cut small some = omega (arith, cut, some)
cut_few e most (n ∷ ns) cut small some = omega (arith, cut, small.0)

left_few : (b e most start n : ℕ) (ns : List ℕ) → start + (n + total ns) ≡ b + e → Begin b start (n ∷ ns) → AllByRecursion (λ m. m ≤ most) (n ∷ ns) → suc e ≤ most
left_few b e most start n [] is begin small = omega (arith, is, begin.0, small.0)
left_few b e most start n (m ∷ ns) is begin small = left_few b e most (start + n) m ns (omega (arith, is)) begin.1 small.1

pub behind_few : (b e most : ℕ) (ns : List ℕ) → total ns ≡ b + e → Begin b 0 ns → AllByRecursion (λ n. n ≤ most) ns → 1 ≤ most → suc e ≤ most
behind_few b e most [] is begin small some = omega (arith, is, some)
behind_few b e most (n ∷ ns) is begin small some = left_few b e most 0 n ns (omega (arith, is)) begin small
