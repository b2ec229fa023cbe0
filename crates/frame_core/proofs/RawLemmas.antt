-- Whether raw parts make a frame, and which.
use Rattle.std.proofs.Common.{◌≡◌, ℕ, zero, suc, ◌+◌, ◌-◌, ◌<◌, ◌≤◌, max, Bool, true, false, ◌||◌, not, cond, ℤ, ◌≤ℤ◌, List, [], ◌∷◌, ◌++◌, length, map, reverse, get_or, take, drop, Option, Some, None, Ok, Err, refl, sym, ap, ◌∙◌, subst, arith, drop-cons, add-one, length-drop}
use Rattle.std.specs.Prelude.{int_lt, nat_eq, fold, sum_by, FitsSigned}
use Rattle.std.specs.List.{AllByRecursion, list_any}
use Rattle.std.proofs.lemmas.List.{length-map, drop_all, take_more, reverse-append, get_or-map, get_or_default}
use Rattle.frame_core.specs.declared.cell.ColType.{ColType}
use Rattle.frame_core.specs.declared.cell.ColType.TheVariants as types
use Rattle.frame_core.specs.declared.cell.Cell.{Cell}
use Rattle.frame_core.specs.declared.column.Column.{Column}
use Rattle.frame_core.specs.declared.raw.RawFrame.{RawFrame}
use Rattle.frame_core.specs.declared.refusal.Extent.{Extent}
use Rattle.frame_core.specs.declared.refusal.Refusal.TheVariants as refusals
use Rattle.std.proofs.lemmas.Int.{by_lt_z, ints}
use Rattle.frame_core.specs.Texts.{Text, same_text}
use Rattle.frame_core.specs.Schemas.{Head, Schema, IsColName, are_new}
use Rattle.frame_core.specs.Frames.{NeverFall, IsCell}
use Rattle.frame_core.specs.Columns.{column_type, column_cells, IsWhole}
use Rattle.frame_core.specs.RawFrames.{table_of, table_frame, frame_from, is_bad_column, table_too_large, bad_column, bad_row, typed_cells, heads_from}
use Rattle.frame_core.specs.Limits.{too_large, longest_text, all_text_bytes, IsStorable}
use Rattle.std.proofs.lemmas.List.Folds.{list_any-append}
use Rattle.std.specs.Int.{w64}
use Rattle.std.proofs.lemmas.Bool.{eqb-true}
use Rattle.frame_core.proofs.Rows.{drop_at_place}
use Rattle.frame_core.proofs.WholeFrames.{frame_of, IsFrame-whole, same_lengths}
use Rattle.frame_core.proofs.FrameLimits.{frame_limits}
use Rattle.frame_core.proofs.Totals.{map-map, sum_by-map}

-- ---- the first bad column

-- a name without values, or values without a name
pub names_lack : (n rows k : ℕ) (earlier names : List Text) (cols : List (ColType × List Cell)) → k < max (length names) (length cols) → length names ≤ k → bad_column n rows earlier (drop k names) (drop k cols) ≡ Some n
names_lack n rows k earlier names cols lt short =
    let here : k < length cols = omega arith in
    let at = drop_at_place k cols here in
    rw (drop_all k names short, at.2) refl

pub values_lack : (n rows k : ℕ) (earlier names : List Text) (cols : List (ColType × List Cell)) → k < max (length names) (length cols) → length cols ≤ k → bad_column n rows earlier (drop k names) (drop k cols) ≡ Some n
values_lack n rows k earlier names cols lt short =
    let here : k < length names = omega arith in
    let at = drop_at_place k names here in
    rw (drop_all k cols short, at.2) refl

pub nothing_left : (n rows k : ℕ) (earlier names : List Text) (cols : List (ColType × List Cell)) → length names ≤ k → length cols ≤ k → bad_column n rows earlier (drop k names) (drop k cols) ≡ None
nothing_left n rows k earlier names cols no_names no_values = rw (drop_all k names no_names, drop_all k cols no_values) refl

pub any_reverse : (p : Text → Bool) (xs : List Text) → list_any p (reverse xs) ≡ list_any p xs
any_reverse p [] = refl
any_reverse p (x ∷ xs) =
    ap (list_any p) (reverse-append (x ∷ []) xs) ∙ list_any-append p (reverse xs) (x ∷ []) ∙ ap (λ b. b || (p x || false)) (any_reverse p xs) ∙ or_last (p x) (list_any p xs)
  where
    or_last : (a b : Bool) → (b || (a || false)) ≡ (a || b)
    or_last true true = refl
    or_last true false = refl
    or_last false true = refl
    or_last false false = refl

-- a name with its values
pub column_step : (n rows k : ℕ) (names : List Text) (cols : List (ColType × List Cell)) (d : ColType × List Cell) → k < length names → k < length cols → bad_column n rows (reverse (take k names)) (drop k names) (drop k cols) ≡ cond (is_bad_column (take k names) rows (get_or names k []) (get_or cols k d).1) (Some n) (bad_column (n + 1) rows (reverse (take (k + 1) names)) (drop (k + 1) names) (drop (k + 1) cols))
column_step n rows k names cols d named valued =
    let more : reverse (take (k + 1) names) ≡ get_or names k [] ∷ reverse (take k names) = ap reverse (take_more names k [] named) ∙ reverse-append (take k names) (get_or names k [] ∷ []) in
    rw (drop-cons names k [] named, drop-cons cols k d valued, more, add-one k, any_reverse (same_text (get_or names k [])) (take k names)) refl

cells_at : (k : ℕ) (cols : List Column) (d : ColType × List Cell) → k < length cols → (get_or (map typed_cells cols) k d).1 ≡ get_or (map column_cells cols) k []
cells_at k cols d valued =
    let at = drop_at_place k cols valued in
    ap (λ (c : ColType × List Cell). c.1) (get_or-map typed_cells cols k at.0 d valued) ∙ sym (get_or-map column_cells cols k at.0 [] valued)

-- the column at a place, and a test of it that fails or not
pub column_bad : (rows k n : ℕ) (names : List Text) (cols : List Column) (total : Option ℕ) → k < length names → k < length cols → is_bad_column (take k names) rows (get_or names k []) (get_or (map column_cells cols) k []) ≡ true → bad_column n rows (reverse (take k names)) (drop k names) (drop k (map typed_cells cols)) ≡ total → Some n ≡ total
column_bad rows k n names cols total named valued bad left =
    let d : ColType × List Cell = (types.Int, []) in
    let step = column_step n rows k names (map typed_cells cols) d named (omega (arith, length-map cols typed_cells)) in
    sym (step ∙ rw (cells_at k cols d valued, bad) refl) ∙ left

pub column_good : (rows k n : ℕ) (names : List Text) (cols : List Column) (total : Option ℕ) → k < length names → k < length cols → is_bad_column (take k names) rows (get_or names k []) (get_or (map column_cells cols) k []) ≡ false → bad_column n rows (reverse (take k names)) (drop k names) (drop k (map typed_cells cols)) ≡ total → bad_column (n + 1) rows (reverse (take (k + 1) names)) (drop (k + 1) names) (drop (k + 1) (map typed_cells cols)) ≡ total
column_good rows k n names cols total named valued good left =
    let d : ColType × List Cell = (types.Int, []) in
    let step = column_step n rows k names (map typed_cells cols) d named (omega (arith, length-map cols typed_cells)) in
    sym (step ∙ rw (cells_at k cols d valued, good) refl) ∙ left

-- ---- the first bad row

pub rows_end : (i : ℕ) (stamps : List ℤ) → length stamps ≤ i → bad_row i (drop (i - 1) stamps) ≡ None
rows_end i stamps short = short_list (drop (i - 1) stamps) (omega (arith, length-drop (i - 1) stamps))
  where
    short_list : (ts : List ℤ) → length ts ≤ 1 → bad_row i ts ≡ None
    short_list [] le = refl
    short_list (t ∷ []) le = refl
    short_list (t ∷ u ∷ ts) le = absurd (omega arith)

-- ---- the limits

pub table_limits : (raw : RawFrame) → table_too_large (table_of raw) ≡ too_large (length raw.stamps) (max (length raw.names) (length raw.columns)) (fold max 0 (map (λ (c : Column). longest_text (column_cells c)) raw.columns)) (sum_by (λ (c : Column). all_text_bytes (column_cells c)) raw.columns)
table_limits raw = rw (length-map raw.columns typed_cells, map-map (λ (c : ColType × List Cell). longest_text c.1) typed_cells raw.columns, sum_by-map (λ (c : ColType × List Cell). all_text_bytes c.1) typed_cells raw.columns) refl

-- ---- the schema

pub heads_more : (k : ℕ) (names : List Text) (cols : List (ColType × List Cell)) (d : ColType × List Cell) → k < length names → k < length cols → heads_from (take (k + 1) names) (take (k + 1) cols) ≡ heads_from (take k names) (take k cols) ++ (get_or names k [], (get_or cols k d).0) ∷ []
heads_more k [] cols d named valued = absurd (omega arith)
heads_more k (name ∷ names) [] d named valued = absurd (omega arith)
heads_more zero (name ∷ names) (c ∷ cols) d named valued = refl
heads_more (suc k) (name ∷ names) (c ∷ cols) d named valued =
    let more : suc k + 1 ≡ suc (k + 1) = omega arith in
    rw more (ap (λ (hs : List Head). (name, c.0) ∷ hs) (heads_more k names cols d (omega arith) (omega arith)))

-- one more column of the schema
pub heads_pushed : (k : ℕ) (names : List Text) (cols : List Column) (name copy : Text) (c : Column) (kind : ColType) (so_far new : List Head) → k < length names → length names ≡ length cols → name ≡ get_or names k name → c ≡ get_or cols k c → copy ≡ name → kind ≡ column_type c → so_far ≡ heads_from (take k names) (take k (map typed_cells cols)) → new ≡ so_far ++ (copy, kind) ∷ [] → new ≡ heads_from (take (k + 1) names) (take (k + 1) (map typed_cells cols))
heads_pushed k names cols name copy c kind so_far new lt same name_is c_is copied kind_is before after =
    let valued : k < length cols = omega arith in
    let at : get_or (map typed_cells cols) k (typed_cells c) ≡ typed_cells c = get_or-map typed_cells cols k c (typed_cells c) valued ∙ ap typed_cells (sym c_is) in
    let more = heads_more k names (map typed_cells cols) (typed_cells c) lt (omega (arith, length-map cols typed_cells)) in
    let named : get_or names k [] ≡ name = get_or_default names k [] name lt ∙ sym name_is in
    after ∙ rw (before, copied, kind_is) (sym (more ∙ rw (at, named) refl))

pub named_pushed : (so_far new : List Head) (name copy : Text) (kind : ColType) → AllByRecursion (λ (c : Head). IsColName c.0) so_far → IsColName name → copy ≡ name → new ≡ so_far ++ (copy, kind) ∷ [] → AllByRecursion (λ (c : Head). IsColName c.0) new
named_pushed so_far new name copy kind all is copied after = rw after (all_push so_far all)
  where
    all_push : (hs : List Head) → AllByRecursion (λ (c : Head). IsColName c.0) hs → AllByRecursion (λ (c : Head). IsColName c.0) (hs ++ (copy, kind) ∷ [])
    all_push [] all = (rw copied is, tt)
    all_push (h ∷ hs) all = (all.0, all_push hs all.1)

-- ---- the exits of `make`

pub refused_large : (raw : RawFrame) (x : Extent × ℕ) → table_too_large (table_of raw) ≡ Some x → frame_from raw ≡ Err (refusals.TooLarge x.0 x.1)
refused_large raw x large = rw large refl

pub refused_column : (raw : RawFrame) (n : ℕ) → table_too_large (table_of raw) ≡ None → bad_column 1 (length raw.stamps) [] raw.names (map typed_cells raw.columns) ≡ Some n → frame_from raw ≡ Err (refusals.SchemaDiffers n)
refused_column raw n small bad = rw (small, bad) refl

pub refused_row : (raw : RawFrame) (n : ℕ) → table_too_large (table_of raw) ≡ None → bad_column 1 (length raw.stamps) [] raw.names (map typed_cells raw.columns) ≡ None → bad_row 1 raw.stamps ≡ Some n → frame_from raw ≡ Err (refusals.Unsorted n)
refused_row raw n small good bad = rw (small, good, bad) refl

pub made : (raw : RawFrame) → table_too_large (table_of raw) ≡ None → bad_column 1 (length raw.stamps) [] raw.names (map typed_cells raw.columns) ≡ None → bad_row 1 raw.stamps ≡ None → frame_from raw ≡ Ok (table_frame (table_of raw))
made raw small good sorted = rw (small, good, sorted) refl

-- ---- what parts keep that are not refused

int_lt_false : (a b : ℤ) → int_lt a b ≡ false → b ≤ℤ a
int_lt_false a b e = by_lt_z a b (λ lt. absurd (grind (arith, ints))) (λ le. le)

not_first : (b : Bool) (n : ℕ) (rest : Option ℕ) → cond b (Some n) rest ≡ None → (b ≡ false) × (rest ≡ None)
not_first true n rest e = absurd cc
not_first false n rest e = (refl, e)

neither : (a b : Bool) → (a || not b) ≡ false → (a ≡ false) × (b ≡ true)
neither true b e = absurd cc
neither false true e = (refl, refl)
neither false false e = absurd cc

pub rising_from : (n : ℕ) (ts : List ℤ) → bad_row n ts ≡ None → NeverFall ts
rising_from n [] e = tt
rising_from n (t ∷ []) e = tt
rising_from n (t ∷ u ∷ ts) e = let next = not_first (int_lt u t) (n + 1) (bad_row (n + 1) (u ∷ ts)) e in (int_lt_false u t next.0, rising_from (n + 1) (u ∷ ts) next.1)

-- the columns from here on are good
pub record Good (rows : ℕ) (earlier names : List Text) (cols : List Column) : Type 0 where
  pub count : length names ≡ length cols
  pub lengths : AllByRecursion (λ c. length (column_cells c) ≡ rows) cols
  pub fresh : are_new earlier names ≡ true
  pub types : map column_type cols ≡ map (λ (h : Head). h.1) (heads_from names (map typed_cells cols))
  pub names_are : map (λ (h : Head). h.0) (heads_from names (map typed_cells cols)) ≡ names

pub good_from : (n rows : ℕ) (earlier names : List Text) (cols : List Column) → bad_column n rows earlier names (map typed_cells cols) ≡ None → Good rows earlier names cols
good_from n rows earlier [] [] e = record { count = refl; lengths = tt; fresh = refl; types = refl; names_are = refl }
good_from n rows earlier [] (c ∷ cols) e = absurd cc
good_from n rows earlier (name ∷ names) [] e = absurd cc
good_from n rows earlier (name ∷ names) (c ∷ cols) e =
    let next = not_first (is_bad_column earlier rows name (column_cells c)) n (bad_column (n + 1) rows (name ∷ earlier) names (map typed_cells cols)) e in
    let here = neither (list_any (same_text name) earlier) (nat_eq (length (column_cells c)) rows) next.0 in
    let rest = good_from (n + 1) rows (name ∷ earlier) names cols next.1 in
    record {
      count = ap suc rest.count;
      lengths = (eqb-true (length (column_cells c)) rows here.1, rest.lengths);
      fresh = rw (here.0, rest.fresh) refl;
      types = ap (λ (ts : List ColType). column_type c ∷ ts) rest.types;
      names_are = ap (λ (ns : List Text). name ∷ ns) rest.names_are;
    }

-- the parts of the frame that is made
pub whole_made : (raw : RawFrame) (schema : Schema) (stamps : List ℤ) (cols : List Column) → bad_column 1 (length raw.stamps) [] raw.names (map typed_cells raw.columns) ≡ None → bad_row 1 raw.stamps ≡ None → schema ≡ record { timed = true; columns = heads_from raw.names (map typed_cells raw.columns) } → stamps ≡ raw.stamps → cols ≡ raw.columns → AllByRecursion (λ (c : Head). IsColName c.0) schema.columns → AllByRecursion (FitsSigned w64) raw.stamps → AllByRecursion (λ c. AllByRecursion IsCell (column_cells c)) cols → IsWhole schema stamps cols
whole_made raw schema stamps cols columns rows schema_is stamps_are cols_are named fits cells =
    let good = good_from 1 (length raw.stamps) [] raw.names raw.columns columns in
    let heads : schema.columns ≡ heads_from raw.names (map typed_cells raw.columns) = ap (λ (s : Schema). s.columns) schema_is in
    let timed : schema.timed ≡ true = ap (λ (s : Schema). s.timed) schema_is in
    record {
      columns = record { named = named; distinct = rw (heads, good.names_are) good.fresh };
      types = rw (cols_are, heads) good.types;
      lengths = rw (cols_are, stamps_are) good.lengths;
      stamps_fit = rw stamps_are fits;
      cells_fit = cells;
      ascending = rw stamps_are (rising_from 1 raw.stamps rows);
      untimed = λ e. absurd cc;
    }

-- the frame that is made is within the limits
pub storable_made : (raw : RawFrame) (schema : Schema) (stamps : List ℤ) (cols : List Column) → table_too_large (table_of raw) ≡ None → bad_column 1 (length raw.stamps) [] raw.names (map typed_cells raw.columns) ≡ None → schema ≡ record { timed = true; columns = heads_from raw.names (map typed_cells raw.columns) } → stamps ≡ raw.stamps → cols ≡ raw.columns → IsWhole schema stamps cols → IsStorable (frame_of schema stamps cols)
storable_made raw schema stamps cols small columns schema_is stamps_are cols_are whole =
    let good = good_from 1 (length raw.stamps) [] raw.names raw.columns columns in
    let heads : schema.columns ≡ heads_from raw.names (map typed_cells raw.columns) = ap (λ (s : Schema). s.columns) schema_is in
    let count : length schema.columns ≡ max (length raw.names) (length raw.columns) = ap length heads ∙ sym (length-map (heads_from raw.names (map typed_cells raw.columns)) (λ (h : Head). h.0)) ∙ ap length good.names_are ∙ omega (arith, good.count) in
    record {
      is_frame = IsFrame-whole schema stamps cols (frame_of schema stamps cols) refl whole;
      timed = ap (λ (s : Schema). s.timed) schema_is;
      within = frame_limits schema stamps cols (same_lengths schema stamps cols whole) ∙ rw (count, stamps_are, cols_are) (sym (table_limits raw) ∙ small);
    }

-- the frame that is built of copies of the parts
pub record Built (raw : RawFrame) (schema : Schema) (stamps : List ℤ) (cols : List Column) : Type 0 where
  pub whole : IsWhole schema stamps cols
  pub is : frame_of schema stamps cols ≡ table_frame (table_of raw)
  pub storable : IsStorable (frame_of schema stamps cols)

pub built_from : (raw : RawFrame) (schema : Schema) (stamps lent_stamps read_stamps : List ℤ) (names : List Text) (cols typed_cols lent_cols : List Column) → table_too_large (table_of raw) ≡ None → bad_column 1 (length raw.stamps) [] raw.names (map typed_cells raw.columns) ≡ None → bad_row 1 raw.stamps ≡ None → names ≡ raw.names → typed_cols ≡ raw.columns → schema ≡ record { timed = true; columns = heads_from names (map typed_cells typed_cols) } → AllByRecursion (λ (c : Head). IsColName c.0) schema.columns → lent_stamps ≡ raw.stamps → stamps ≡ lent_stamps → lent_cols ≡ raw.columns → cols ≡ lent_cols → AllByRecursion (λ c. AllByRecursion IsCell (column_cells c)) cols → read_stamps ≡ raw.stamps → AllByRecursion (FitsSigned w64) read_stamps → Built raw schema stamps cols
built_from raw schema stamps lent_stamps read_stamps names cols typed_cols lent_cols small columns rows names_are typed_are schema_is named lent_are stamps_are cols_lent cols_are cells read_are fits =
    let schema_from : schema ≡ record { timed = true; columns = heads_from raw.names (map typed_cells raw.columns) } = schema_is ∙ rw (names_are, typed_are) refl in
    let whole = whole_made raw schema stamps cols columns rows schema_from (stamps_are ∙ lent_are) (cols_are ∙ cols_lent) named (subst (AllByRecursion (FitsSigned w64)) read_are fits) cells in
    let cells_are : map column_cells raw.columns ≡ map (λ (c : ColType × List Cell). c.1) (map typed_cells raw.columns) = sym (map-map (λ (c : ColType × List Cell). c.1) typed_cells raw.columns) in
    record {
      whole = whole;
      is = rw (schema_from, stamps_are, lent_are, cols_are, cols_lent, cells_are) refl;
      storable = storable_made raw schema stamps cols small columns schema_from (stamps_are ∙ lent_are) (cols_are ∙ cols_lent) whole;
    }
