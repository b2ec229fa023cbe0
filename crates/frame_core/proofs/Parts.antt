-- A part of the rows, by the parts of the columns.
use Rattle.std.proofs.Common.{◌≡◌, ℕ, zero, suc, ◌+◌, ◌-◌, ◌≤◌, ℤ, List, [], ◌∷◌, length, map, take, drop, refl, sym, ap, ◌∙◌, arith, length-drop, length-take, pos}
use Rattle.std.specs.Prelude.{slice_range}
use Rattle.std.specs.List.{AllByRecursion}
use Rattle.std.proofs.lemmas.List.{drop-drop, take-take, length-take-le, map-id}
use Rattle.frame_core.specs.declared.cell.Cell.{Cell}
use Rattle.frame_core.specs.declared.column.Column.{Column}
use Rattle.frame_core.specs.Schemas.{Schema}
use Rattle.frame_core.specs.Frames.{Row, Frame, IsCell, NeverFall, slice}
use Rattle.frame_core.specs.Columns.{column_type, column_cells, rows_from, IsWhole}
use Rattle.frame_core.proofs.Rows.{heads, tails}
use Rattle.frame_core.proofs.Totals.{map-map}
use Rattle.frame_core.proofs.MakerLemmas.{AgreeBelow, rows_from-agree}
use Rattle.frame_core.proofs.WholeFrames.{frame_of, count_rows}

pub take-rows_from : (n : ℕ) (ts : List ℤ) (cols : List (List Cell)) → take n (rows_from ts cols) ≡ rows_from (take n ts) cols
take-rows_from zero ts cols = refl
take-rows_from (suc n) [] cols = refl
take-rows_from (suc n) (t ∷ ts) cols = ap (λ (rows : List Row). record { stamp = t; cells = heads cols } ∷ rows) (take-rows_from n ts (tails cols))

pub drop-rows_from : (n : ℕ) (ts : List ℤ) (cols : List (List Cell)) → drop n (rows_from ts cols) ≡ rows_from (drop n ts) (map (drop n) cols)
drop-rows_from zero ts cols = ap (rows_from ts) (sym (map-id cols))
drop-rows_from (suc n) [] cols = refl
drop-rows_from (suc n) (t ∷ ts) cols =
    drop-rows_from n ts (tails cols) ∙ ap (rows_from (drop n ts)) (map-map (drop n) (drop 1) cols ∙ later cols)
  where
    later : (cs : List (List Cell)) → map (λ (c : List Cell). drop n (drop 1 c)) cs ≡ map (drop (suc n)) cs
    later [] = refl
    later (c ∷ cs) = let place : 1 + n ≡ suc n = omega arith in rw (drop-drop n 1 c, place, later cs) refl

agree_taken : (m n : ℕ) (cols : List (List Cell)) → m ≤ n → AgreeBelow m cols (map (take n) cols)
agree_taken m n [] le = tt
agree_taken m n (c ∷ cols) le = (sym (take-take m n c le), agree_taken m n cols le)

pub slice-rows_from : (a b : ℕ) (ts : List ℤ) (cols : List (List Cell)) → slice_range (rows_from ts cols) a b ≡ rows_from (slice_range ts a b) (map (λ c. slice_range c a b) cols)
slice-rows_from a b ts cols =
    let dropped = ap (take (b - a)) (drop-rows_from a ts cols) ∙ take-rows_from (b - a) (drop a ts) (map (drop a) cols) in
    let short : length (take (b - a) (drop a ts)) ≤ b - a = omega (arith, length-take (b - a) (drop a ts)) in
    dropped ∙ rows_from-agree (slice_range ts a b) (map (drop a) cols) (map (take (b - a)) (map (drop a) cols)) (agree_taken (length (slice_range ts a b)) (b - a) (map (drop a) cols) short) ∙ ap (rows_from (slice_range ts a b)) (map-map (take (b - a)) (drop a) cols)

-- ---- what a part keeps

all_take : {X : Type 0} (P : X → Type 0) (n : ℕ) (xs : List X) → AllByRecursion P xs → AllByRecursion P (take n xs)
all_take P zero xs all = tt
all_take P (suc n) [] all = tt
all_take P (suc n) (x ∷ xs) all = (all.0, all_take P n xs all.1)

all_drop : {X : Type 0} (P : X → Type 0) (n : ℕ) (xs : List X) → AllByRecursion P xs → AllByRecursion P (drop n xs)
all_drop P zero xs all = all
all_drop P (suc n) [] all = tt
all_drop P (suc n) (x ∷ xs) all = all_drop P n xs all.1

pub all_slice : {X : Type 0} (P : X → Type 0) (a b : ℕ) (xs : List X) → AllByRecursion P xs → AllByRecursion P (slice_range xs a b)
all_slice P a b xs all = all_take P (b - a) (drop a xs) (all_drop P a xs all)

rising_take : (n : ℕ) (ts : List ℤ) → NeverFall ts → NeverFall (take n ts)
rising_take zero ts rising = tt
rising_take (suc n) [] rising = tt
rising_take (suc zero) (t ∷ ts) rising = tt
rising_take (suc (suc n)) (t ∷ []) rising = tt
rising_take (suc (suc n)) (t ∷ u ∷ ts) rising = (rising.0, rising_take (suc n) (u ∷ ts) rising.1)

rising_drop : (n : ℕ) (ts : List ℤ) → NeverFall ts → NeverFall (drop n ts)
rising_drop zero ts rising = rising
rising_drop (suc n) [] rising = tt
rising_drop (suc n) (t ∷ []) rising = rising_drop n [] tt
rising_drop (suc n) (t ∷ u ∷ ts) rising = rising_drop n (u ∷ ts) rising.1

pub NeverFall-slice : (a b : ℕ) (ts : List ℤ) → NeverFall ts → NeverFall (slice_range ts a b)
NeverFall-slice a b ts rising = rising_take (b - a) (drop a ts) (rising_drop a ts rising)

length-slice : {X : Type 0} (a b : ℕ) (xs : List X) → b ≤ length xs → length (slice_range xs a b) ≡ b - a
length-slice a b xs le = length-take-le (b - a) (drop a xs) (omega (arith, length-drop a xs))

-- the parts of columns, one by one
parts_long : (a b n : ℕ) (cols parts : List Column) → b ≤ n → AllByRecursion (λ (c : Column). length (column_cells c) ≡ n) cols → map column_cells parts ≡ map (λ (c : Column). slice_range (column_cells c) a b) cols → AllByRecursion (λ (c : Column). length (column_cells c) ≡ b - a) parts
parts_long a b n cols [] le all are = tt
parts_long a b n [] (p ∷ parts) le all are = absurd cc
parts_long a b n (c ∷ cols) (p ∷ parts) le all are =
    let here : column_cells p ≡ slice_range (column_cells c) a b = cc in
    let rest : map column_cells parts ≡ map (λ (c : Column). slice_range (column_cells c) a b) cols = cc in
    (ap length here ∙ length-slice a b (column_cells c) (omega (arith, all.0)), parts_long a b n cols parts le all.1 rest)

parts_fit : (a b : ℕ) (cols parts : List Column) → AllByRecursion (λ (c : Column). AllByRecursion IsCell (column_cells c)) cols → map column_cells parts ≡ map (λ (c : Column). slice_range (column_cells c) a b) cols → AllByRecursion (λ (c : Column). AllByRecursion IsCell (column_cells c)) parts
parts_fit a b cols [] all are = tt
parts_fit a b [] (p ∷ parts) all are = absurd cc
parts_fit a b (c ∷ cols) (p ∷ parts) all are =
    let here : column_cells p ≡ slice_range (column_cells c) a b = cc in
    let rest : map column_cells parts ≡ map (λ (c : Column). slice_range (column_cells c) a b) cols = cc in
    (rw here (all_slice IsCell a b (column_cells c) all.0), parts_fit a b cols parts all.1 rest)

pub columns_reach : (b : ℕ) (schema : Schema) (stamps : List ℤ) (cols : List Column) (f : Frame) → frame_of schema stamps cols ≡ f → IsWhole schema stamps cols → b ≤ length f.rows → AllByRecursion (λ (c : Column). b ≤ length (column_cells c)) cols
columns_reach b schema stamps cols f is w le = reach cols w.lengths
  where
    reach : (cs : List Column) → AllByRecursion (λ (c : Column). length (column_cells c) ≡ length stamps) cs → AllByRecursion (λ (c : Column). b ≤ length (column_cells c)) cs
    reach [] all = tt
    reach (c ∷ cs) all = (omega (arith, all.0, count_rows schema stamps cols f is), reach cs all.1)

pub whole_part : (schema copy : Schema) (stamps : List ℤ) (cols : List Column) (f : Frame) (a b : ℕ) (stamps_part : List ℤ) (parts : List Column) → IsWhole schema stamps cols → frame_of schema stamps cols ≡ f → a ≤ b → b ≤ length f.rows → copy ≡ schema → stamps_part ≡ slice_range stamps a b → map column_type parts ≡ map column_type cols → map column_cells parts ≡ map (λ (c : Column). slice_range (column_cells c) a b) cols → IsWhole copy stamps_part parts
whole_part schema copy stamps cols f a b stamps_part parts w is order within copied stamps_are kinds cells =
    let reach : b ≤ length stamps = omega (arith, count_rows schema stamps cols f is) in
    let long : length (slice_range stamps a b) ≡ b - a = length-slice a b stamps reach in
    rw (copied, stamps_are) (record {
      columns = w.columns;
      types = kinds ∙ w.types;
      lengths = rw long (parts_long a b (length stamps) cols parts reach w.lengths cells);
      stamps_fit = all_slice _ a b stamps w.stamps_fit;
      cells_fit = parts_fit a b cols parts w.cells_fit cells;
      ascending = NeverFall-slice a b stamps w.ascending;
      untimed = λ e. all_slice (λ t. t ≡ pos 0) a b stamps (w.untimed e);
    })

pub part_is : (schema copy : Schema) (stamps : List ℤ) (cols : List Column) (f : Frame) (a b : ℕ) (stamps_part : List ℤ) (parts : List Column) → frame_of schema stamps cols ≡ f → copy ≡ schema → stamps_part ≡ slice_range stamps a b → map column_cells parts ≡ map (λ (c : Column). slice_range (column_cells c) a b) cols → frame_of copy stamps_part parts ≡ slice f a b
part_is schema copy stamps cols f a b stamps_part parts is copied stamps_are cells =
    let columns : map column_cells parts ≡ map (λ (c : List Cell). slice_range c a b) (map column_cells cols) = cells ∙ sym (map-map (λ (c : List Cell). slice_range c a b) column_cells cols) in
    rw (← is, copied, stamps_are, columns, slice-rows_from a b stamps (map column_cells cols)) refl

pub sliced : (whole lent part : List ℤ) (a b : ℕ) → part ≡ slice_range lent a b → lent ≡ whole → part ≡ slice_range whole a b
sliced whole lent part a b is same = is ∙ ap (λ (ts : List ℤ). slice_range ts a b) same
