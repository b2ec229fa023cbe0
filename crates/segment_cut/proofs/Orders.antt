-- Tiles in the order of their first rows.
use Rattle.std.proofs.Common.{◌≡◌, ℕ, suc, ◌<◌, ◌≤◌, List, [], ◌∷◌, length, map, get_or, take, ap, ◌∙◌, arith}
use Rattle.std.specs.Prelude.{⊤}
use Rattle.std.specs.List.{AllByRecursion}
use Rattle.std.specs.List.Sorted.{IsPermutation, IsNonDecreasingBy}
use Rattle.std.proofs.lemmas.List.{get_or-map, length-map, take_all}
use Rattle.std.proofs.lemmas.List.Elements.{All-from_recursion, recursion_from_All}
use Rattle.std.proofs.lemmas.List.Sorted.{All-permutation, sum_by-IsPermutation}
use Rattle.frame_core.specs.Frames.{Frame}
use Rattle.segment_cut.specs.Tiles.{Tile, Tiled}

-- no tile begins below an earlier one
abbrev pub Rising : List Tile → Type 0
Rising [] = ⊤
Rising (t ∷ ts) = AllByRecursion (λ (u : Tile). t.0.first_row ≤ u.0.first_row) ts × Rising ts

all-from_get : {X : Type 0} (P : X → Type 0) (d : X) (xs : List X) → ((i : ℕ) → i < length xs → P (get_or xs i d)) → AllByRecursion P xs
all-from_get P d [] each = tt
all-from_get P d (x ∷ xs) each = (each 0 (omega arith), all-from_get P d xs (λ i lt. each (suc i) (omega (arith, lt))))

pub Rising-from : (ts : List Tile) → IsNonDecreasingBy (λ (t : Tile). t.0.first_row) ts → Rising ts
Rising-from [] up = tt
Rising-from (t ∷ ts) up = (all-from_get _ t ts (λ i lt. up 0 (suc i) t (omega arith) (omega (arith, lt))), Rising-from ts (λ i j d le lt. up (suc i) (suc j) d (omega (arith, le)) (omega (arith, lt))))

-- what rises by a number rises when the number is read through a function
pub rising-map : {X Y : Type 0} (n : Y → ℕ) (f : X → Y) (xs : List X) → IsNonDecreasingBy (λ x. n (f x)) xs → IsNonDecreasingBy n (map f xs)
rising-map n f [] up = λ i j d le lt. absurd (omega (arith, lt))
rising-map n f (x ∷ xs) up = λ i j d le lt.
    let long : length (map f (x ∷ xs)) ≡ length (x ∷ xs) = length-map (x ∷ xs) f in
    let first = get_or-map f (x ∷ xs) i x d (omega (arith, le, lt, long)) in
    let last = get_or-map f (x ∷ xs) j x d (omega (arith, lt, long)) in
    omega (arith, ap n first, ap n last, up i j x le (omega (arith, lt, long)))

-- what holds of each holds in every order
pub all-permutation : {X : Type 0} (P : X → Type 0) (xs ys : List X) → IsPermutation xs ys → AllByRecursion P xs → AllByRecursion P ys
all-permutation P xs ys moved all = recursion_from_All P ys (All-permutation P xs ys moved (All-from_recursion P xs all))

-- the tiles of a frame are its tiles in every order
pub Tiled-permutation : (f : Frame) (xs ys : List Tile) → IsPermutation xs ys → Tiled f xs → Tiled f ys
Tiled-permutation f xs ys moved tiled = record {
  inside = all-permutation _ xs ys moved tiled.inside;
  parts = all-permutation _ xs ys moved tiled.parts;
  cells = λ row column row_lt column_lt. sum_by-IsPermutation _ xs ys moved ∙ tiled.cells row column row_lt column_lt;
  rows = λ row row_lt. rw (sum_by-IsPermutation _ xs ys moved) (tiled.rows row row_lt);
}

-- all tiles were lent
pub lent-all : (tiles : List Tile) (i : ℕ) (refs : List Tile) → length tiles ≤ i → refs ≡ take i tiles → refs ≡ tiles
lent-all tiles i refs all are = are ∙ take_all i tiles all
