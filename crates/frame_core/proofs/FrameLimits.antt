-- The limits of a frame, by its columns.
use Rattle.std.proofs.Common.{◌≡◌, ℕ, suc, ◌+◌, max, ℤ, List, [], ◌∷◌, ◌++◌, length, map, refl, ap, ◌∙◌, arith}
use Rattle.std.specs.Prelude.{fold, sum_by}
use Rattle.std.proofs.lemmas.List.Sums.{sum_by-cons}
use Rattle.frame_core.specs.declared.cell.Cell.{Cell}
use Rattle.frame_core.specs.declared.column.Column.{Column}
use Rattle.frame_core.specs.Schemas.{Schema}
use Rattle.frame_core.specs.Frames.{Row}
use Rattle.frame_core.specs.Columns.{column_cells, rows_from}
use Rattle.frame_core.specs.Limits.{text_bytes, all_text_bytes, longest_text, too_large, frame_too_large}
use Rattle.frame_core.proofs.Rows.{HaveLength, heads, tails, lengths-tails, length-rows_from}
use Rattle.frame_core.proofs.Totals.{map-map, sum_by-map}

fold_max_from : (a : ℕ) (xs : List ℕ) → fold max a xs ≡ max a (fold max 0 xs)
fold_max_from a [] = omega arith
fold_max_from a (x ∷ xs) = fold_max_from (max a x) xs ∙ omega (arith, fold_max_from (max 0 x) xs)

pub fold_max_cons : (x : ℕ) (xs : List ℕ) → fold max 0 (x ∷ xs) ≡ max x (fold max 0 xs)
fold_max_cons x xs = fold_max_from (max 0 x) xs ∙ omega arith

pub fold_max-append : (xs ys : List ℕ) → fold max 0 (xs ++ ys) ≡ max (fold max 0 xs) (fold max 0 ys)
fold_max-append [] ys = omega arith
fold_max-append (x ∷ xs) ys = fold_max_cons x (xs ++ ys) ∙ omega (arith, fold_max-append xs ys, fold_max_cons x xs)

bytes_cons : (x : Cell) (c : List Cell) → all_text_bytes (x ∷ c) ≡ text_bytes x + all_text_bytes c
bytes_cons x c = sum_by-cons text_bytes x c

longest_cons : (x : Cell) (c : List Cell) → longest_text (x ∷ c) ≡ max (text_bytes x) (longest_text c)
longest_cons x c = fold_max_cons (text_bytes x) (map text_bytes c)

-- the first cells and the others have all bytes
split_bytes : (n : ℕ) (cols : List (List Cell)) → HaveLength (suc n) cols → all_text_bytes (heads cols) + sum_by all_text_bytes (tails cols) ≡ sum_by all_text_bytes cols
split_bytes n [] all = refl
split_bytes n ([] ∷ cols) all = absurd (omega (arith, all.0))
split_bytes n ((x ∷ c) ∷ cols) all = omega (arith, split_bytes n cols all.1, bytes_cons x (heads cols), bytes_cons x c, sum_by-cons all_text_bytes c (tails cols), sum_by-cons all_text_bytes (x ∷ c) cols)

split_longest : (n : ℕ) (cols : List (List Cell)) → HaveLength (suc n) cols → max (longest_text (heads cols)) (fold max 0 (map longest_text (tails cols))) ≡ fold max 0 (map longest_text cols)
split_longest n [] all = refl
split_longest n ([] ∷ cols) all = absurd (omega (arith, all.0))
split_longest n ((x ∷ c) ∷ cols) all = omega (arith, split_longest n cols all.1, longest_cons x (heads cols), longest_cons x c, fold_max_cons (longest_text c) (map longest_text (tails cols)), fold_max_cons (longest_text (x ∷ c)) (map longest_text cols))

no_bytes : (cols : List (List Cell)) → HaveLength 0 cols → 0 ≡ sum_by all_text_bytes cols
no_bytes [] all = refl
no_bytes ([] ∷ cols) all = omega (arith, no_bytes cols all.1, sum_by-cons all_text_bytes [] cols)
no_bytes ((x ∷ c) ∷ cols) all = absurd (omega (arith, all.0))

no_longest : (cols : List (List Cell)) → HaveLength 0 cols → 0 ≡ fold max 0 (map longest_text cols)
no_longest [] all = refl
no_longest ([] ∷ cols) all = omega (arith, no_longest cols all.1, fold_max_cons 0 (map longest_text cols))
no_longest ((x ∷ c) ∷ cols) all = absurd (omega (arith, all.0))

pub bytes-rows_from : (ts : List ℤ) (cols : List (List Cell)) → HaveLength (length ts) cols → sum_by (λ (r : Row). all_text_bytes r.cells) (rows_from ts cols) ≡ sum_by all_text_bytes cols
bytes-rows_from [] cols all = no_bytes cols all
bytes-rows_from (t ∷ ts) cols all =
    let rest = bytes-rows_from ts (tails cols) (lengths-tails (length ts) cols all) in
    sum_by-cons (λ (r : Row). all_text_bytes r.cells) (record { stamp = t; cells = heads cols }) (rows_from ts (tails cols)) ∙ ap (λ n. all_text_bytes (heads cols) + n) rest ∙ split_bytes (length ts) cols all

pub longest-rows_from : (ts : List ℤ) (cols : List (List Cell)) → HaveLength (length ts) cols → fold max 0 (map (λ (r : Row). longest_text r.cells) (rows_from ts cols)) ≡ fold max 0 (map longest_text cols)
longest-rows_from [] cols all = no_longest cols all
longest-rows_from (t ∷ ts) cols all =
    let rest = longest-rows_from ts (tails cols) (lengths-tails (length ts) cols all) in
    fold_max_cons (longest_text (heads cols)) (map (λ (r : Row). longest_text r.cells) (rows_from ts (tails cols))) ∙ ap (max (longest_text (heads cols))) rest ∙ split_longest (length ts) cols all

-- the limits that the frame of these parts exceeds
pub frame_limits : (schema : Schema) (stamps : List ℤ) (cols : List Column) → HaveLength (length stamps) (map column_cells cols) → frame_too_large (record { schema = schema; rows = rows_from stamps (map column_cells cols) }) ≡ too_large (length stamps) (length schema.columns) (fold max 0 (map (λ (c : Column). longest_text (column_cells c)) cols)) (sum_by (λ (c : Column). all_text_bytes (column_cells c)) cols)
frame_limits schema stamps cols all =
    let longest = longest-rows_from stamps (map column_cells cols) all ∙ ap (fold max 0) (map-map longest_text column_cells cols) in
    let bytes = bytes-rows_from stamps (map column_cells cols) all ∙ sum_by-map all_text_bytes column_cells cols in
    rw (length-rows_from stamps (map column_cells cols), longest, bytes) refl
