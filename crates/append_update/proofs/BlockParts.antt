-- What a range leaves of row blocks: whole blocks, and a new one of the rows that are left of the block that it cuts.
use Rattle.std.proofs.Common.{◌≡◌, ℕ, suc, ◌+◌, ◌-◌, ◌≤◌, Bool, true, false, List, [], ◌∷◌, ◌++◌, map, refl, sym, ap, ◌∙◌, arith, cond}
use Rattle.std.specs.Prelude.{nat_le}
use Rattle.reply_model.specs.Blocks.{Block, Part, shared, fresh, some_rows, parts_before, parts_behind}
use Rattle.append_update.proofs.BlockSizes.{total, HaveRows, IsCut, Begin}

-- the rows of blocks
abbrev pub rows_of : List Block → List ℕ
rows_of = map (λ (x : Block). x.rows)

-- a part of rows that are none is none
no_new : (e : ℕ) → e ≡ 0 → [] ≡ map fresh (some_rows e)
no_new e none = ap (λ k. map fresh (some_rows k)) (sym none)

-- ---- before the range

none_before : (a b start : ℕ) (xs : List Block) → HaveRows (rows_of xs) → a ≤ start → parts_before a b start xs ≡ []
none_before a b start [] some le = refl
none_before a b start (x ∷ xs) some le = by (none_before a b (start + x.rows) xs some.1 (omega (arith, le))) (nat_le (start + x.rows) a) refl (nat_le b start)
  where
    rest : List Part
    rest = parts_before a b (start + x.rows) xs

    by : rest ≡ [] → (p : Bool) → nat_le (start + x.rows) a ≡ p → (q : Bool) → cond p (shared x ∷ []) (cond q [] (map fresh (some_rows (a - start)))) ++ rest ≡ []
    by more true e q = let whole : start + x.rows ≤ a = grind (arith, e) in absurd (omega (arith, whole, le, some.0))
    by more false e true = more
    by more false e false = let none : a - start ≡ 0 = omega (arith, le) in ap (λ k. map fresh (some_rows k) ++ rest) none ∙ more

alone : (ps : List Part) (rest : List Part) → rest ≡ [] → ps ++ rest ≡ ps
alone [] rest none = none
alone (p ∷ ps) rest none = ap (λ qs. p ∷ qs) (alone ps rest none)

-- whole blocks, and what is left of the next one
pub before_are : (a b e start : ℕ) (xs ys : List Block) → HaveRows (rows_of ys) → start + total (rows_of xs) + e ≡ a → a ≤ b → IsCut e (rows_of ys) → parts_before a b start (xs ++ ys) ≡ map shared xs ++ map fresh (some_rows e)
before_are a b e start [] [] some is le cut = no_new e cut
before_are a b e start [] (y ∷ ys) some is le cut = by (nat_le (start + y.rows) a) refl (nat_le b start) refl
  where
    rest : List Part
    rest = parts_before a b (start + y.rows) ys

    more : rest ≡ []
    more = none_before a b (start + y.rows) ys some.1 (omega (arith, is, cut))

    by : (p : Bool) → nat_le (start + y.rows) a ≡ p → (q : Bool) → nat_le b start ≡ q → cond p (shared y ∷ []) (cond q [] (map fresh (some_rows (a - start)))) ++ rest ≡ map fresh (some_rows e)
    by true l q r = let whole : start + y.rows ≤ a = grind (arith, l) in absurd (omega (arith, whole, is, cut))
    by false l true r = let behind : b ≤ start = grind (arith, r) in more ∙ no_new e (omega (arith, behind, le, is))
    by false l false r = let left : a - start ≡ e = omega (arith, is) in ap (λ k. map fresh (some_rows k) ++ rest) left ∙ alone (map fresh (some_rows e)) rest more
before_are a b e start (x ∷ xs) ys some is le cut = by (before_are a b e (start + x.rows) xs ys some (omega (arith, is)) le cut) (nat_le (start + x.rows) a) refl
  where
    rest : List Part
    rest = parts_before a b (start + x.rows) (xs ++ ys)

    by : rest ≡ map shared xs ++ map fresh (some_rows e) → (p : Bool) → nat_le (start + x.rows) a ≡ p
        → cond p (shared x ∷ []) (cond (nat_le b start) [] (map fresh (some_rows (a - start)))) ++ rest ≡ shared x ∷ (map shared xs ++ map fresh (some_rows e))
    by more true l = ap (λ ps. shared x ∷ ps) more
    by more false l = let cut_here : suc a ≤ start + x.rows = grind (arith, l) in absurd (omega (arith, cut_here, is))

-- ---- behind the range

all_behind : (a b start : ℕ) (xs : List Block) → HaveRows (rows_of xs) → a ≤ b → b ≤ start → parts_behind a b start xs ≡ map shared xs
all_behind a b start [] some le high = refl
all_behind a b start (x ∷ xs) some le high = by (all_behind a b (start + x.rows) xs some.1 le (omega (arith, high))) (nat_le (start + x.rows) a) refl (nat_le b start) refl
  where
    rest : List Part
    rest = parts_behind a b (start + x.rows) xs

    by : rest ≡ map shared xs → (p : Bool) → nat_le (start + x.rows) a ≡ p → (q : Bool) → nat_le b start ≡ q → cond p [] (cond q (shared x ∷ []) (map fresh (some_rows (start + x.rows - b)))) ++ rest ≡ shared x ∷ map shared xs
    by more true l q r = let whole : start + x.rows ≤ a = grind (arith, l) in absurd (omega (arith, whole, le, high, some.0))
    by more false l true r = ap (λ ps. shared x ∷ ps) more
    by more false l false r = let low : suc start ≤ b = grind (arith, r) in absurd (omega (arith, low, high))

left_behind : (a b e start : ℕ) (x : Block) (xs ys : List Block) → HaveRows (rows_of ys) → start + (x.rows + total (rows_of xs)) ≡ b + e → a ≤ b → Begin b start (x.rows ∷ rows_of xs)
    → parts_behind a b start (x ∷ (xs ++ ys)) ≡ map fresh (some_rows e) ++ map shared ys
left_behind a b e start x [] ys some is le begin = by (nat_le (start + x.rows) a) refl (nat_le b start) refl
  where
    rest : List Part
    rest = parts_behind a b (start + x.rows) ys

    more : rest ≡ map shared ys
    more = all_behind a b (start + x.rows) ys some le (omega (arith, is))

    by : (p : Bool) → nat_le (start + x.rows) a ≡ p → (q : Bool) → nat_le b start ≡ q
        → cond p [] (cond q (shared x ∷ []) (map fresh (some_rows (start + x.rows - b)))) ++ rest ≡ map fresh (some_rows e) ++ map shared ys
    by true l q r = let whole : start + x.rows ≤ a = grind (arith, l) in more ∙ ap (λ ps. ps ++ map shared ys) (no_new e (omega (arith, whole, le, is)))
    by false l true r = let behind : b ≤ start = grind (arith, r) in absurd (omega (arith, behind, begin.0))
    by false l false r = let left : start + x.rows - b ≡ e = omega (arith, is) in ap (λ k. map fresh (some_rows k) ++ rest) left ∙ ap (λ ps. map fresh (some_rows e) ++ ps) more
left_behind a b e start x (z ∷ xs) ys some is le begin = by (left_behind a b e (start + x.rows) z xs ys some (omega (arith, is)) le begin.1) (nat_le (start + x.rows) a) (nat_le b start) refl
  where
    rest : List Part
    rest = parts_behind a b (start + x.rows) (z ∷ (xs ++ ys))

    by : rest ≡ map fresh (some_rows e) ++ map shared ys → (p q : Bool) → nat_le b start ≡ q
        → cond p [] (cond q (shared x ∷ []) (map fresh (some_rows (start + x.rows - b)))) ++ rest ≡ map fresh (some_rows e) ++ map shared ys
    by more true q r = more
    by more false true r = let behind : b ≤ start = grind (arith, r) in absurd (omega (arith, behind, begin.0))
    by more false false r = let none : start + x.rows - b ≡ 0 = omega (arith, begin.1.0) in ap (λ k. map fresh (some_rows k) ++ rest) none ∙ more

pub behind_are : (a b e : ℕ) (xs ys : List Block) → HaveRows (rows_of ys) → total (rows_of xs) ≡ b + e → a ≤ b → Begin b 0 (rows_of xs) → parts_behind a b 0 (xs ++ ys) ≡ map fresh (some_rows e) ++ map shared ys
behind_are a b e [] ys some is le begin =
    let none : e ≡ 0 = omega (arith, is) in
    all_behind a b 0 ys some le (omega (arith, is)) ∙ ap (λ ps. ps ++ map shared ys) (no_new e none)
behind_are a b e (x ∷ xs) ys some is le begin = left_behind a b e 0 x xs ys some (omega (arith, is)) le begin
