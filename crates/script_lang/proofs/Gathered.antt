-- Rows that were added to columns are the columns of the rows.
use Rattle.std.proofs.Common.{◌≡◌, ℕ, zero, suc, Bool, true, false, List, [], ◌∷◌, ◌++◌, length, map, take, drop, ◌+◌, get_or, remove, ◌<◌, ◌≤◌, Option, Some, None, ℤ, refl, subst, cond, sym, ap, ◌∙◌, append_assoc, arith}
use Rattle.std.specs.Prelude.{option_map, nat_eq}
use Rattle.std.specs.List.{list_all, AllByRecursion}
use Rattle.std.proofs.lemmas.List.{append-nil, length-map, take_more, take_all, drop_all, map-append}
use Rattle.frame_core.specs.declared.cell.ColType.{ColType}
use Rattle.frame_core.specs.declared.cell.ColType.TheVariants as types
use Rattle.frame_core.specs.declared.cell.Cell.{Cell}
use Rattle.frame_core.specs.declared.column.Column.{Column}
use Rattle.frame_core.specs.declared.column.Column.TheVariants as memory
use Rattle.frame_core.specs.Columns.{column_type, column_cells}
use Rattle.frame_core.specs.RawFrames.{Table, table_of}
use Rattle.frame_core.specs.Texts.{Text}
use Rattle.script_lang.specs.declared.fault.CsvFault.{CsvFault}
use Rattle.script_lang.specs.declared.fault.CsvFault.TheVariants as faults
use Rattle.script_lang.specs.Answers.{FailsCsv}
use Rattle.script_lang.specs.Fronts.{Front, ◌>>=◌, where_true, field_at, stop_before, whole_number_at, line_at, all_of}
use Rattle.script_lang.specs.PlainFiles.{is_int, firsts, columns_from, table_from, plain_rows_of, rows_table}
use Rattle.script_lang.specs.Rows.{add_row, add_rows, no_rows, int_column, columns_table}

-- ---- the width of rows

-- one reading after another gave a value: so did the first
pub bind-some : {A B : Type 0} (read : Option A) (f : A → Option B) (y : B) → (read >>= f) ≡ Some y → (a : A) × (read ≡ Some a) × (f a ≡ Some y)
bind-some None f y h = absurd cc
bind-some (Some a) f y h = (a, refl, h)

abbrev row_in : Option (List ℤ × Text) → List ℤ
row_in None = []
row_in (Some x) = x.0

line_at-length : (form : Front ℤ) (n : ℕ) (text rest : Text) (row : List ℤ) → line_at form n text ≡ Some (row, rest) → length row ≡ n
unfolding line_at
line_at-length form zero text rest row h = let empty : [] ≡ row = ap row_in h in sym (ap length empty)
line_at-length form (suc n) text rest row h =
    let first = bind-some (field_at form (stop_before n) text) (λ x. line_at form n x.1 >>= λ more. Some (x.0 ∷ more.0, more.1)) (row, rest) h in
    let others = bind-some (line_at form n first.0.1) (λ more. Some (first.0.0 ∷ more.0, more.1)) (row, rest) first.2 in
    let same : first.0.0 ∷ others.0.0 ≡ row = ap row_in others.2 in
    sym (ap length same) ∙ ap suc (line_at-length form n first.0.1 others.0.1 others.0.0 others.1)

-- each row has so many numbers
abbrev AreWide : ℕ → List (List ℤ) → Type 0
AreWide n rows = AllByRecursion (λ (row : List ℤ). length row ≡ n) rows

abbrev rows_in : Option (List (List ℤ)) → List (List ℤ)
rows_in None = []
rows_in (Some rows) = rows

wide_if : (w : ℕ) (empty : Bool) (read : Option (List (List ℤ))) (rows : List (List ℤ)) → cond empty (Some []) read ≡ Some rows → (read ≡ Some rows → AreWide w rows) → AreWide w rows
wide_if w true read rows h more = let none : [] ≡ rows = ap rows_in h in subst (AreWide w) none tt
wide_if w false read rows h more = more h

wide_none : (w : ℕ) (empty : Bool) (rows : List (List ℤ)) → where_true empty [] ≡ Some rows → AreWide w rows
wide_none w true rows h = let none : [] ≡ rows = ap rows_in h in subst (AreWide w) none tt
wide_none w false rows h = absurd cc

all_of-wide : (form : Front (List ℤ)) (w : ℕ) → ((text rest : Text) (row : List ℤ) → form text ≡ Some (row, rest) → length row ≡ w) → (most : ℕ) (text : Text) (rows : List (List ℤ)) → all_of form most text ≡ Some rows → AreWide w rows
unfolding all_of
all_of-wide form w width zero text rows h = wide_none w (nat_eq (length text) 0) rows h
all_of-wide form w width (suc most) text rows h =
    wide_if w (nat_eq (length text) 0) (form text >>= λ x. all_of form most x.1 >>= λ more. Some (x.0 ∷ more)) rows h
    (λ read.
    let first = bind-some (form text) (λ x. all_of form most x.1 >>= λ more. Some (x.0 ∷ more)) rows read in
    let others = bind-some (all_of form most first.0.1) (λ more. Some (first.0.0 ∷ more)) rows first.2 in
    let same : first.0.0 ∷ others.0 ≡ rows = ap rows_in others.2 in
    subst (AreWide w) same (width text first.0.1 first.0.0 first.1, all_of-wide form w width most first.0.1 others.0 others.1))

-- ---- columns

-- the columns of the rows, one for each column of the first list
abbrev gathered : List (List ℤ) → List (List ℤ) → List (List ℤ)
gathered [] rows = []
gathered (c ∷ columns) rows = firsts rows ∷ gathered columns (map (drop 1) rows)

-- each column with what stands behind it
abbrev both : List (List ℤ) → List (List ℤ) → List (List ℤ)
both [] others = []
both (c ∷ columns) [] = c ∷ columns
both (c ∷ columns) (d ∷ others) = (c ++ d) ∷ both columns others

cons_two : {A : Type 0} {x y : A} {xs ys : List A} → x ≡ y → xs ≡ ys → x ∷ xs ≡ y ∷ ys
cons_two {A} {x} {y} {xs} {ys} p q = ap (λ (z : A). z ∷ xs) p ∙ ap (λ zs. y ∷ zs) q

both-no_rows : (columns : List (List ℤ)) → columns ≡ both columns (gathered columns [])
both-no_rows [] = refl
both-no_rows (c ∷ columns) = cons_two (sym (append-nil c)) (both-no_rows columns)

length-add_row : (columns : List (List ℤ)) (row : List ℤ) → length (add_row columns row) ≡ length columns
length-add_row [] row = refl
length-add_row (c ∷ columns) [] = refl
length-add_row (c ∷ columns) (x ∷ row) = ap suc (length-add_row columns row)

both-add_row : (columns : List (List ℤ)) (row : List ℤ) (rows : List (List ℤ)) → length row ≡ length columns →
    both (add_row columns row) (gathered (add_row columns row) rows) ≡ both columns (gathered columns (row ∷ rows))
both-add_row [] row rows width = refl
both-add_row (c ∷ columns) [] rows width = absurd (omega arith)
both-add_row (c ∷ columns) (x ∷ row) rows width = cons_two (append_assoc c (x ∷ []) (firsts rows)) (both-add_row columns row (map (drop 1) rows) (omega arith))

-- each column has its numbers of the rows behind it
add_rows-both : (columns rows : List (List ℤ)) → AreWide (length columns) rows → add_rows columns rows ≡ both columns (gathered columns rows)
add_rows-both columns [] wide = both-no_rows columns
add_rows-both columns (row ∷ rows) wide =
    add_rows-both (add_row columns row) rows (subst (λ n. AreWide n rows) (sym (length-add_row columns row)) wide.1) ∙ both-add_row columns row rows wide.0

abbrev empty_for : ColType → List ℤ
empty_for kind = []

columns_from-both : (kinds : List ColType) (rows : List (List ℤ)) → list_all is_int kinds ≡ true → columns_from kinds rows ≡ map int_column (both (map empty_for kinds) (gathered (map empty_for kinds) rows))
columns_from-both [] rows ints = refl
columns_from-both (types.Int ∷ kinds) rows ints = ap (λ (columns : List (ColType × List Cell)). int_column (firsts rows) ∷ columns) (columns_from-both kinds (map (drop 1) rows) ints)
columns_from-both (types.Flag ∷ kinds) rows ints = absurd cc
columns_from-both (types.Text ∷ kinds) rows ints = absurd cc
columns_from-both (types.Stamp ∷ kinds) rows ints = absurd cc

abbrev some_table : List ℤ → List Text → List (ColType × List Cell) → Option Table
some_table stamps names columns = Some (record { stamps = stamps; names = names; columns = columns })

abbrev some_columns_table : List Text → List (List ℤ) → Option Table
some_columns_table names columns = Some (columns_table names columns)

table_from-columns : (kinds : List ColType) (names : List Text) (text : Text) (columns : List (List ℤ)) (read : Option (List (List ℤ))) → list_all is_int kinds ≡ true → plain_rows_of (suc (length kinds)) text ≡ read →
    option_map (add_rows (no_rows kinds)) read ≡ Some columns → option_map (table_from kinds names) read ≡ Some (columns_table names columns)
unfolding plain_rows_of
table_from-columns kinds names text columns None ints is h = absurd cc
table_from-columns kinds names text columns (Some rows) ints is h =
    let wide = all_of-wide (line_at whole_number_at (suc (length kinds))) (suc (length kinds)) (line_at-length whole_number_at (suc (length kinds))) (length text) text rows is in
    let width : suc (length kinds) ≡ length (no_rows kinds) = ap suc (sym (length-map kinds empty_for)) in
    let same = add_rows-both (no_rows kinds) rows (subst (λ n. AreWide n rows) width wide) in
    let columns_are : add_rows (no_rows kinds) rows ≡ columns = ap rows_in h in
    ap (some_table (firsts rows) names) (columns_from-both kinds (map (drop 1) rows) ints) ∙ ap (some_columns_table names) (sym same ∙ columns_are)

-- the rows that were added to empty columns are the table
pub rows_table-columns : (kinds : List ColType) (names : List Text) (text : Text) (columns : List (List ℤ)) → list_all is_int kinds ≡ true →
    option_map (add_rows (no_rows kinds)) (plain_rows_of (length (no_rows kinds)) text) ≡ Some columns → rows_table kinds names text ≡ Some (columns_table names columns)
unfolding rows_table
rows_table-columns kinds names text columns ints h =
    let width : length (no_rows kinds) ≡ suc (length kinds) = ap suc (length-map kinds empty_for) in
    table_from-columns kinds names text columns (plain_rows_of (suc (length kinds)) text) ints refl (rw width at h)

none_if : (kinds : List ColType) (names : List Text) (read : Option (List (List ℤ))) → option_map (add_rows (no_rows kinds)) read ≡ None → option_map (table_from kinds names) read ≡ None
none_if kinds names None h = refl
none_if kinds names (Some rows) h = absurd cc

-- rows that could not be read make no table
pub rows_table-fails : (e : CsvFault) (kinds : List ColType) (names : List Text) (text : Text) →
    FailsCsv e (option_map (add_rows (no_rows kinds)) (plain_rows_of (length (no_rows kinds)) text)) → FailsCsv e (rows_table kinds names text)
unfolding rows_table
rows_table-fails faults.NoMemory kinds names text h = tt
rows_table-fails faults.BadCsv kinds names text h =
    let width : length (no_rows kinds) ≡ suc (length kinds) = ap suc (length-map kinds empty_for) in
    none_if kinds names (plain_rows_of (suc (length kinds)) text) (rw width at h)

-- ---- raw frames

-- columns of whole numbers, by their types and cells
pub typed-ints : (columns : List (List ℤ)) → map (λ c. (column_type c, column_cells c)) (map memory.Ints columns) ≡ map int_column columns
typed-ints [] = refl
typed-ints (c ∷ columns) = ap (λ (others : List (ColType × List Cell)). int_column c ∷ others) (typed-ints columns)

-- the first column is taken out
pub columns_table-remove : (names : List Text) (columns : List (List ℤ)) (stamps : List ℤ) → 0 < length columns → stamps ≡ get_or columns 0 stamps →
    columns_table names columns ≡ record { stamps = stamps; names = names; columns = map int_column (remove columns 0) }
columns_table-remove names [] stamps lt is = absurd (omega arith)
columns_table-remove names (c ∷ columns) stamps lt is = ap (λ (first : List ℤ). table_with first) (sym is)
  where
    table_with : List ℤ → Table
    table_with first = record { stamps = first; names = names; columns = map int_column columns }

abbrev table_of_parts : List ℤ → List Text → List (ColType × List Cell) → Table
table_of_parts stamps names columns = record { stamps = stamps; names = names; columns = columns }

-- a raw frame of the first column as stamps and of the others
pub table_of-columns : (names : List Text) (columns others : List (List ℤ)) (stamps : List ℤ) (made : List Column) → 0 < length columns → stamps ≡ get_or columns 0 stamps →
    others ≡ remove columns 0 → made ≡ map memory.Ints others → table_of (record { stamps = stamps; names = names; columns = made }) ≡ columns_table names columns
table_of-columns names columns others stamps made lt is others_are made_is =
    ap (table_of_parts stamps names) (ap (map (λ c. (column_type c, column_cells c))) made_is ∙ typed-ints others ∙ ap (map int_column) others_are) ∙ sym (columns_table-remove names columns stamps lt is)

-- one empty column more
pub no_rows-more : (kinds : List ColType) (i : ℕ) → i < length kinds → no_rows (take i kinds) ++ [] ∷ [] ≡ no_rows (take (i + 1) kinds)
no_rows-more kinds i lt = sym (ap no_rows (take_more kinds i types.Int lt) ∙ ap (λ columns. [] ∷ columns) (map-append empty_for (take i kinds) (get_or kinds i types.Int ∷ [])))

-- columns that were lent as a slice and have come back
pub lent-back : (n : ℕ) (columns old : List (List ℤ)) → n ≡ length old → length columns ≡ length old → take n (columns ++ drop (length columns) old) ≡ columns
lent-back n columns old len same =
    let past : length old ≤ length columns = omega arith in
    let all : length columns ≤ n = omega arith in
    rw (drop_all (length columns) old past, append-nil columns) (take_all n columns all)
