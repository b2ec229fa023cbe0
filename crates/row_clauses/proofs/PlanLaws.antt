-- A plan, clause by clause, and where the columns of a row lie.
use Rattle.std.proofs.Common.{◌≡◌, ℕ, zero, suc, ◌+◌, ◌-◌, ◌<◌, refl, ap, ap₂, sym, ◌∙◌, arith, length-append}
use Rattle.std.specs.Prelude.{List, [], ◌∷◌, ◌++◌, length, map, slice_get, slice_set, Option, Some, None, option_map, option_and_then, unwrap_or}
use Rattle.std.specs.List.{AllByRecursion}
use Rattle.frame_core.specs.declared.cell.Cell.{Cell}
use Rattle.frame_core.specs.Texts.{Text}
use Rattle.frame_core.specs.Schemas.{Head, Schema}
use Rattle.frame_core.specs.Selecting.{place_of}
use Rattle.expr_clause.specs.declared.clause.Clause.{Clause}
use Rattle.expr_clause.specs.declared.clause.Clause.TheVariants as clauses
use Rattle.expr_clause.specs.Cells.{no_cell}
use Rattle.expr_clause.specs.Exprs.{cell_named}
use Rattle.expr_clause.specs.Typing.{put_at, after, clause_columns}
use Rattle.row_clauses.specs.declared.plan.Plan.{Plan}
use Rattle.row_clauses.specs.Lying.{AreTyped, cell_in, lying, spot, operand, lay, count_after, spots_of, lay_all, places_from}
use Rattle.row_clauses.specs.Plans.{after_all, IsPlan}

-- ---- the plan that is made

-- what is left of the clauses makes of the plan so far the whole plan
pub record Left (s : Schema) (run left : List Clause) (schema : Schema) (layout : List ℕ) (count : ℕ) (spots : List (List (Option ℕ))) : Type 0 where
  pub schema_is : after_all left schema ≡ after_all run s
  pub layout_is : lay_all schema layout count left ≡ lay_all s (places_from 0 (length s.columns)) (length s.columns) run
  pub spots_are : spots ++ spots_of schema layout count left ≡ spots_of s (places_from 0 (length s.columns)) (length s.columns) run

assoc : {X : Type 0} (xs : List X) (y : X) (ys : List X) → (xs ++ y ∷ []) ++ ys ≡ xs ++ y ∷ ys
assoc [] y ys = refl
assoc (x ∷ xs) y ys = ap (λ l. x ∷ l) (assoc xs y ys)

none_more : {X : Type 0} (xs : List X) → xs ++ [] ≡ xs
none_more [] = refl
none_more (x ∷ xs) = ap (λ l. x ∷ l) (none_more xs)

pub left_none : (s : Schema) (run : List Clause) (schema : Schema) (layout : List ℕ) (count : ℕ) (spots : List (List (Option ℕ)))
    → schema ≡ s → layout ≡ places_from 0 (length s.columns) → count ≡ length s.columns → spots ≡ [] → Left s run run schema layout count spots
left_none s run schema layout count spots a b c d = rw (a, b, c, d) (record { schema_is = refl; layout_is = refl; spots_are = refl })

pub left_one : (s : Schema) (run : List Clause) (c : Clause) (left : List Clause) (schema new_schema : Schema) (layout new_layout : List ℕ) (count new_count : ℕ) (spots new_spots : List (List (Option ℕ)))
    → Left s run (c ∷ left) schema layout count spots → new_schema ≡ after c schema → new_layout ≡ lay c schema.columns layout count → new_count ≡ count_after c count
    → new_spots ≡ spots ++ map (spot schema.columns layout) (clause_columns c) ∷ [] → Left s run left new_schema new_layout new_count new_spots
left_one s run c left schema new_schema layout new_layout count new_count spots new_spots l a b d e =
    rw (a, b, d, e) (record { schema_is = l.schema_is; layout_is = l.layout_is; spots_are = assoc spots _ _ ∙ l.spots_are })

pub left_all : (s : Schema) (run : List Clause) (plan : Plan) → Left s run [] plan.schema plan.layout.items plan.count plan.spots → IsPlan s run plan
left_all s run plan l = record { schema = l.schema_is; layout = l.layout_is; spots = sym (none_more plan.spots) ∙ l.spots_are }

-- so many places, of which one more was added
pub places_more : (layout new all : List ℕ) (place count : ℕ) → place < count → new ≡ layout ++ place ∷ [] → layout ++ places_from place (count - place) ≡ all → new ++ places_from (place + 1) (count - (place + 1)) ≡ all
places_more layout new all place count lt new_is so_far =
    let next : count - place ≡ suc (count - (place + 1)) = omega (arith, lt) in
    ap (λ l. l ++ places_from (place + 1) (count - (place + 1))) new_is ∙ assoc layout place (places_from (place + 1) (count - (place + 1)))
    ∙ ap (λ n. layout ++ places_from place n) (sym next) ∙ so_far

-- each clause has its spots
pub spots_length : (s : Schema) (places : List ℕ) (next : ℕ) (run : List Clause) → length (spots_of s places next run) ≡ length run
spots_length s places next [] = refl
spots_length s places next (c ∷ cs) = ap suc (spots_length (after c s) (lay c s.columns places next) (count_after c next) cs)

-- ---- cells at their places

pub map-put : {X Y : Type 0} (f : X → Y) (o : Option ℕ) (x : X) (xs : List X) → map f (put_at o x xs) ≡ put_at o (f x) (map f xs)
map-put {X = X} {Y = Y} f None x xs = at_end xs
  where
    at_end : (xs : List X) → map f (xs ++ x ∷ []) ≡ map f xs ++ f x ∷ []
    at_end [] = refl
    at_end (y ∷ xs) = ap (λ l. f y ∷ l) (at_end xs)
map-put {X = X} {Y = Y} f (Some k) x xs = at_place k xs
  where
    at_place : (k : ℕ) (xs : List X) → map f (slice_set xs k x) ≡ slice_set (map f xs) k (f x)
    at_place k [] = refl
    at_place zero (y ∷ xs) = refl
    at_place (suc k) (y ∷ xs) = ap (λ l. f y ∷ l) (at_place k xs)

get_before : (cells more : List Cell) (k : ℕ) → k < length cells → cell_in (cells ++ more) k ≡ cell_in cells k
get_before [] more k lt = absurd (omega (arith, lt))
get_before (c ∷ cells) more zero lt = refl
get_before (c ∷ cells) more (suc k) lt = get_before cells more k (omega (arith, lt))

get_behind : (cells : List Cell) (c : Cell) (more : List Cell) → cell_in (cells ++ c ∷ more) (length cells) ≡ c
get_behind [] c more = refl
get_behind (d ∷ cells) c more = get_behind cells c more

lying_more : (cells more : List Cell) (places : List ℕ) → AllByRecursion (λ place. place < length cells) places → lying (cells ++ more) places ≡ lying cells places
lying_more cells more [] low = refl
lying_more cells more (p ∷ places) low = ap₂ (λ c cs. c ∷ cs) (get_before cells more p low.0) (lying_more cells more places low.1)

-- a computed cell takes its place
pub lying_put : (cells : List Cell) (c : Cell) (o : Option ℕ) (places : List ℕ) → AllByRecursion (λ place. place < length cells) places
    → lying (cells ++ c ∷ []) (put_at o (length cells) places) ≡ put_at o c (lying cells places)
lying_put cells c o places low =
    map-put (cell_in (cells ++ c ∷ [])) o (length cells) places
    ∙ ap₂ (put_at o) (get_behind cells c []) (lying_more cells (c ∷ []) places low)

-- ---- places stay below the number of cells

low_more : (n m : ℕ) (places : List ℕ) → n < m → AllByRecursion (λ place. place < n) places → AllByRecursion (λ place. place < m) places
low_more n m [] lt low = tt
low_more n m (p ∷ places) lt low = (omega (arith, lt, low.0), low_more n m places lt low.1)

low_put : (m k : ℕ) (o : Option ℕ) (places : List ℕ) → k < m → AllByRecursion (λ place. place < m) places → AllByRecursion (λ place. place < m) (put_at o k places)
low_put m k None places lt low = at_end places low
  where
    at_end : (places : List ℕ) → AllByRecursion (λ place. place < m) places → AllByRecursion (λ place. place < m) (places ++ k ∷ [])
    at_end [] all = (lt, tt)
    at_end (p ∷ places) all = (all.0, at_end places all.1)
low_put m k (Some i) places lt low = at_place i places low
  where
    at_place : (i : ℕ) (places : List ℕ) → AllByRecursion (λ place. place < m) places → AllByRecursion (λ place. place < m) (slice_set places i k)
    at_place i [] all = tt
    at_place zero (p ∷ places) all = (lt, all.1)
    at_place (suc i) (p ∷ places) all = (all.0, at_place i places all.1)

pub low_after : (c : Clause) (columns : List Head) (n : ℕ) (places : List ℕ) → AllByRecursion (λ place. place < n) places → AllByRecursion (λ place. place < count_after c n) (lay c columns places n)
low_after (clauses.DateRange range) columns n places low = low
low_after (clauses.Filter e) columns n places low = low
low_after (clauses.Apply name e) columns n places low = low_put (n + 1) n (place_of name columns) places (omega arith) (low_more n (n + 1) places (omega arith) low)
low_after (clauses.Group key outs) columns n places low = low

-- ---- the row as it is in the frame

pub low_first : (place n m : ℕ) → place + n ≡ m → AllByRecursion (λ p. p < m) (places_from place n)
low_first place zero m e = tt
low_first place (suc n) m e = (omega (arith, e), low_first (place + 1) n m (omega (arith, e)))

lying_from : (front cells : List Cell) (columns : List Head) (place : ℕ) → place ≡ length front → AreTyped columns cells → lying (front ++ cells) (places_from place (length columns)) ≡ cells
lying_from front [] [] place e all = refl
lying_from front (c ∷ cells) [] place e all = absurd all
lying_from front [] (h ∷ columns) place e all = absurd all
lying_from front (c ∷ cells) (h ∷ columns) place e all =
    ap₂ (λ d ds. d ∷ ds) (ap (cell_in (front ++ c ∷ cells)) e ∙ get_behind front c cells)
    (ap (λ l. lying l (places_from (place + 1) (length columns))) (sym (assoc front c cells))
    ∙ lying_from (front ++ c ∷ []) cells columns (place + 1) (ap (λ n. n + 1) e ∙ sym (length-append front (c ∷ []))) all.1)

pub lying_first : (cells : List Cell) (columns : List Head) → AreTyped columns cells → lying (cells ++ []) (places_from 0 (length columns)) ≡ cells
lying_first cells columns all = ap (λ l. lying l (places_from 0 (length columns))) (none_more cells) ∙ lying_from [] cells columns 0 refl all

pub typed_length : (cells : List Cell) (columns : List Head) → AreTyped columns cells → length (cells ++ []) ≡ length columns
typed_length cells columns all = ap length (none_more cells) ∙ same cells columns all
  where
    same : (cells : List Cell) (columns : List Head) → AreTyped columns cells → length cells ≡ length columns
    same [] [] all = refl
    same (c ∷ cells) [] all = absurd all
    same [] (h ∷ columns) all = absurd all
    same (c ∷ cells) (h ∷ columns) all = ap suc (same cells columns all.1)

-- ---- the cell of a name

get_map : {X Y : Type 0} (f : X → Y) (xs : List X) (k : ℕ) → slice_get (map f xs) k ≡ option_map f (slice_get xs k)
get_map f [] k = refl
get_map f (x ∷ xs) zero = refl
get_map f (x ∷ xs) (suc k) = get_map f xs k

-- the cell that lies where the column of a name does is the row's cell of that name
spot_cell : (cells : List Cell) (columns : List Head) (places : List ℕ) (name : Text) → operand cells (spot columns places name) ≡ cell_named columns (lying cells places) name
spot_cell cells columns places name = by (place_of name columns)
  where
    at : (o : Option ℕ) → unwrap_or (option_and_then (slice_get cells) o) no_cell ≡ unwrap_or (option_map (cell_in cells) o) no_cell
    at None = refl
    at (Some p) = refl

    by : (o : Option ℕ) → unwrap_or (option_and_then (slice_get cells) (option_and_then (slice_get places) o)) no_cell ≡ unwrap_or (option_and_then (slice_get (lying cells places)) o) no_cell
    by None = refl
    by (Some k) = at (slice_get places k) ∙ ap (λ o. unwrap_or o no_cell) (sym (get_map (cell_in cells) places k))

pub spot_cells : (cells : List Cell) (columns : List Head) (places : List ℕ) (names : List Text) → map (operand cells) (map (spot columns places) names) ≡ map (cell_named columns (lying cells places)) names
spot_cells cells columns places [] = refl
spot_cells cells columns places (name ∷ names) = ap₂ (λ c cs. c ∷ cs) (spot_cell cells columns places name) (spot_cells cells columns places names)
