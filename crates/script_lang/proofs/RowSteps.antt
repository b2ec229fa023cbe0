-- Rows that are read number by number, each into its column.
use Rattle.std.proofs.Common.{◌≡◌, ℕ, zero, suc, ◌+◌, ◌-◌, ◌<◌, ◌≤◌, true, false, eqb, List, [], ◌∷◌, ◌++◌, length, get_or, set, take, drop, Option, Some, None, ℤ, refl, sym, ap, ◌∙◌, add-one, arith}
use Rattle.std.specs.Prelude.{option_map}
use Rattle.std.proofs.lemmas.List.{append-nil, take_all, drop_all}
use Rattle.frame_core.specs.Texts.{Text}
use Rattle.script_lang.specs.Fronts.{Front, ◌>>=◌, field_at, stop_before, line_at, all_of}
use Rattle.script_lang.specs.declared.fault.CsvFault.{CsvFault}
use Rattle.script_lang.specs.declared.fault.CsvFault.TheVariants as faults
use Rattle.script_lang.specs.Answers.{FailsCsv}
use Rattle.script_lang.specs.Rows.{add_row, add_rows, with_row}

-- what is left of a row stands behind the columns from place i on
abbrev pub from_place : ℕ → List (List ℤ) → List ℤ × Text → List (List ℤ) × Text
from_place i columns x = (take i columns ++ add_row (drop i columns) x.0, x.1)

abbrev some_columns : List (List ℤ) → Text → Option (List (List ℤ) × Text)
some_columns columns text = Some (columns, text)

-- at place 0 all of the row is left
pub from_place-start : (columns : List (List ℤ)) (read : Option (List ℤ × Text)) → option_map (from_place 0 columns) read ≡ option_map (with_row columns) read
from_place-start columns None = refl
from_place-start columns (Some x) = refl

-- one number goes behind its column
placed : (i : ℕ) (columns : List (List ℤ)) (d : List ℤ) (x : ℤ) (xs : List ℤ) → i < length columns →
    take i columns ++ add_row (drop i columns) (x ∷ xs) ≡ take (suc i) (set columns i (get_or columns i d ++ x ∷ [])) ++ add_row (drop (suc i) (set columns i (get_or columns i d ++ x ∷ []))) xs
placed i [] d x xs lt = absurd (omega arith)
placed zero (c ∷ columns) d x xs lt = refl
placed (suc i) (c ∷ columns) d x xs lt = ap (λ rest. c ∷ rest) (placed i columns d x xs (omega arith))

regroup : (i : ℕ) (columns : List (List ℤ)) (d : List ℤ) (x : ℤ) (read : Option (List ℤ × Text)) → i < length columns →
    option_map (from_place i columns) (read >>= λ more. Some (x ∷ more.0, more.1)) ≡ option_map (from_place (suc i) (set columns i (get_or columns i d ++ x ∷ []))) read
regroup i columns d x None lt = refl
regroup i columns d x (Some y) lt = ap (λ cs. some_columns cs y.1) (placed i columns d x y.0 lt)

-- a number was read
pub row_on : (form : Front ℤ) (n i : ℕ) (columns : List (List ℤ)) (d : List ℤ) (text after : Text) (x : ℤ) (total : Option (List (List ℤ) × Text)) → i < n → n ≡ length columns →
    field_at form (stop_before (n - i - 1)) text ≡ Some (x, after) → option_map (from_place i columns) (line_at form (n - i) text) ≡ total →
    option_map (from_place (i + 1) (set columns i (get_or columns i d ++ x ∷ []))) (line_at form (n - (i + 1)) after) ≡ total
unfolding line_at
row_on form n i columns d text after x total lt len h so_far =
    let k : n - i ≡ suc (n - suc i) = omega arith in
    let stop : n - i - 1 ≡ n - suc i = omega arith in
    let here = rw stop at h in
    let within : i < length columns = omega arith in
    let one : option_map (from_place i columns) (line_at form (n - i) text) ≡ option_map (from_place (suc i) (set columns i (get_or columns i d ++ x ∷ []))) (line_at form (n - suc i) after) =
    rw (k, here) (regroup i columns d x (line_at form (n - suc i) after) within) in
    rw add-one (sym one ∙ so_far)

-- no number could be read
pub row_bad : (form : Front ℤ) (n i : ℕ) (columns : List (List ℤ)) (text : Text) (total : Option (List (List ℤ) × Text)) → i < n →
    field_at form (stop_before (n - i - 1)) text ≡ None → option_map (from_place i columns) (line_at form (n - i) text) ≡ total → total ≡ None
unfolding line_at
row_bad form n i columns text total lt h so_far =
    let k : n - i ≡ suc (n - (i + 1)) = omega arith in
    let stop : n - i - 1 ≡ n - (i + 1) = omega arith in
    let here = rw stop at h in
    let one : option_map (from_place i columns) (line_at form (n - i) text) ≡ None = rw (k, here) refl in
    sym so_far ∙ one

-- all of the row was read
pub row_end : (form : Front ℤ) (n i : ℕ) (columns : List (List ℤ)) (text : Text) (total : Option (List (List ℤ) × Text)) → n ≤ i → n ≡ length columns →
    option_map (from_place i columns) (line_at form (n - i) text) ≡ total → total ≡ Some (columns, text)
unfolding line_at
row_end form n i columns text total le len so_far =
    let k : n - i ≡ 0 = omega arith in
    let past : length columns ≤ i = omega arith in
    let one : option_map (from_place i columns) (line_at form (n - i) text) ≡ Some (columns, text) =
    rw (k, take_all i columns past, drop_all i columns past) (ap (λ cs. some_columns cs text) (append-nil columns)) in
    sym so_far ∙ one

-- ---- rows

abbrev some_rows : List (List ℤ) → Option (List (List ℤ))
some_rows columns = Some columns

add_rows-cons : (columns : List (List ℤ)) (row : List ℤ) (read : Option (List (List ℤ))) →
    option_map (add_rows columns) (read >>= λ more. Some (row ∷ more)) ≡ option_map (add_rows (add_row columns row)) read
add_rows-cons columns row None = refl
add_rows-cons columns row (Some rows) = refl

rows_on-read : (form : Front (List ℤ)) (read : Option (List ℤ × Text)) (m i : ℕ) (columns next : List (List ℤ)) (text after : Text) (total : Option (List (List ℤ))) →
    form text ≡ read → i < m → eqb (length text) 0 ≡ false → option_map (with_row columns) read ≡ Some (next, after) → option_map (add_rows columns) (all_of form (m - i) text) ≡ total →
    option_map (add_rows next) (all_of form (m - (i + 1)) after) ≡ total
unfolding all_of
rows_on-read form None m i columns next text after total is lt some h so_far = absurd cc
rows_on-read form (Some (row, rest)) m i columns next text after total is lt some h so_far =
    let k : m - i ≡ suc (m - (i + 1)) = omega arith in
    let both : with_row columns (row, rest) ≡ (next, after) = cc in
    let next_is : add_row columns row ≡ next = ap (λ x. x.0) both in
    let after_is : rest ≡ after = ap (λ x. x.1) both in
    let one : option_map (add_rows columns) (all_of form (m - i) text) ≡ option_map (add_rows (add_row columns row)) (all_of form (m - (i + 1)) rest) =
    rw (k, some, is) (add_rows-cons columns row (all_of form (m - (i + 1)) rest)) in
    rw (← next_is, ← after_is) (sym one ∙ so_far)

-- a row was read
pub rows_on : (form : Front (List ℤ)) (m i : ℕ) (columns next : List (List ℤ)) (text after : Text) (total : Option (List (List ℤ))) →
    i < m → eqb (length text) 0 ≡ false → option_map (with_row columns) (form text) ≡ Some (next, after) → option_map (add_rows columns) (all_of form (m - i) text) ≡ total →
    option_map (add_rows next) (all_of form (m - (i + 1)) after) ≡ total
rows_on form m i columns next text after total = rows_on-read form (form text) m i columns next text after total refl

rows_bad-read : (form : Front (List ℤ)) (read : Option (List ℤ × Text)) (m i : ℕ) (columns : List (List ℤ)) (text : Text) (total : Option (List (List ℤ))) →
    form text ≡ read → i < m → eqb (length text) 0 ≡ false → option_map (with_row columns) read ≡ None → option_map (add_rows columns) (all_of form (m - i) text) ≡ total → total ≡ None
unfolding all_of
rows_bad-read form (Some x) m i columns text total is lt some h so_far = absurd cc
rows_bad-read form None m i columns text total is lt some h so_far =
    let k : m - i ≡ suc (m - (i + 1)) = omega arith in
    let one : option_map (add_rows columns) (all_of form (m - i) text) ≡ None = rw (k, some, is) refl in
    sym so_far ∙ one

-- no row could be read
pub rows_bad : (form : Front (List ℤ)) (m i : ℕ) (columns : List (List ℤ)) (text : Text) (total : Option (List (List ℤ))) →
    i < m → eqb (length text) 0 ≡ false → option_map (with_row columns) (form text) ≡ None → option_map (add_rows columns) (all_of form (m - i) text) ≡ total → total ≡ None
rows_bad form m i columns text total = rows_bad-read form (form text) m i columns text total refl

-- reading a row failed, for this cause
pub rows_err : (e : CsvFault) (form : Front (List ℤ)) (m i : ℕ) (columns : List (List ℤ)) (text : Text) (total : Option (List (List ℤ))) →
    i < m → eqb (length text) 0 ≡ false → FailsCsv e (option_map (with_row columns) (form text)) → option_map (add_rows columns) (all_of form (m - i) text) ≡ total → FailsCsv e total
rows_err faults.BadCsv form m i columns text total lt some h so_far = rows_bad form m i columns text total lt some h so_far
rows_err faults.NoMemory form m i columns text total lt some h so_far = tt

-- nothing is left
pub rows_end : (form : Front (List ℤ)) (left : ℕ) (columns : List (List ℤ)) (text : Text) (total : Option (List (List ℤ))) →
    eqb (length text) 0 ≡ true → option_map (add_rows columns) (all_of form left text) ≡ total → total ≡ Some columns
unfolding all_of
rows_end form zero columns text total none so_far = let one : option_map (add_rows columns) (all_of form 0 text) ≡ Some columns = rw none refl in sym so_far ∙ one
rows_end form (suc left) columns text total none so_far = let one : option_map (add_rows columns) (all_of form (suc left) text) ≡ Some columns = rw none refl in sym so_far ∙ one

-- more is left than rows can be
pub rows_cut : (form : Front (List ℤ)) (m i : ℕ) (columns : List (List ℤ)) (text : Text) (total : Option (List (List ℤ))) →
    m ≤ i → eqb (length text) 0 ≡ false → option_map (add_rows columns) (all_of form (m - i) text) ≡ total → total ≡ None
unfolding all_of
rows_cut form m i columns text total le some so_far =
    let k : m - i ≡ 0 = omega arith in
    let one : option_map (add_rows columns) (all_of form (m - i) text) ≡ None = rw (k, some) refl in
    sym so_far ∙ one
