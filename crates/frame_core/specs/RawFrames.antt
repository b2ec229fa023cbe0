-- The frame of raw columns, or the first refusal.
--     Table, table_of             raw columns as names, stamps and typed cells, without their places in memory
--     bad_column, bad_row         what is refused
--     frame_of_table, frame_from  the frame, or the first refusal
use Rattle.std.specs.Prelude.{ℕ, ◌+◌, max, ℤ, Bool, true, ◌||◌, not, if◌then◌else◌, List, [], ◌∷◌, map, length, fold, sum_by, int_lt, nat_eq, Option, Some, None, Result, Ok, Err}
use Rattle.std.specs.List.{list_any}
use Rattle.frame_core.specs.declared.cell.ColType.{ColType}
use Rattle.frame_core.specs.declared.cell.Cell.{Cell}
use Rattle.frame_core.specs.declared.column.Column.{Column}
use Rattle.frame_core.specs.declared.raw.RawFrame.{RawFrame}
use Rattle.frame_core.specs.declared.refusal.Extent.{Extent}
use Rattle.frame_core.specs.declared.refusal.Refusal.{Refusal}
use Rattle.frame_core.specs.declared.refusal.Refusal.TheVariants as refusals
use Rattle.frame_core.specs.Texts.{Text, same_text}
use Rattle.frame_core.specs.Schemas.{Head}
use Rattle.frame_core.specs.Frames.{Frame}
use Rattle.frame_core.specs.Columns.{column_type, column_cells, rows_from}
use Rattle.frame_core.specs.Limits.{too_large, refuse_large, longest_text, all_text_bytes}

-- stamps, names, and columns as their type and cells
pub record Table : Type 0 where
  pub stamps : List ℤ
  pub names : List Text
  pub columns : List (ColType × List Cell)

-- the type and the cells of a column
abbrev pub typed_cells : Column → ColType × List Cell
typed_cells c = (column_type c, column_cells c)

-- what a raw frame holds
abbrev pub table_of : RawFrame → Table
table_of raw = record { stamps = raw.stamps; names = raw.names; columns = map typed_cells raw.columns }

-- whether a column's name repeats an earlier one, or its length is not that of the stamps
abbrev pub is_bad_column : List Text → ℕ → Text → List Cell → Bool
is_bad_column earlier rows name cells = list_any (same_text name) earlier || not (nat_eq (length cells) rows)

-- the least column, from n, that lacks its name or its values, whose name repeats an earlier one, or whose length is not that of the stamps
abbrev pub bad_column : ℕ → ℕ → List Text → List Text → List (ColType × List Cell) → Option ℕ
bad_column n rows earlier [] [] = None
bad_column n rows earlier [] (c ∷ cs) = Some n
bad_column n rows earlier (name ∷ names) [] = Some n
bad_column n rows earlier (name ∷ names) (c ∷ cs) =
    if is_bad_column earlier rows name c.1 then Some n else bad_column (n + 1) rows (name ∷ earlier) names cs

-- the least row, from n, whose stamp lies below the one before
abbrev pub bad_row : ℕ → List ℤ → Option ℕ
bad_row n [] = None
bad_row n (t ∷ []) = None
bad_row n (t ∷ u ∷ more) = if int_lt u t then Some (n + 1) else bad_row (n + 1) (u ∷ more)

-- the names and types of the columns
abbrev pub heads_from : List Text → List (ColType × List Cell) → List Head
heads_from [] cols = []
heads_from names [] = []
heads_from (name ∷ names) (c ∷ cols) = (name, c.0) ∷ heads_from names cols

-- the first limit that a table exceeds; a name without values and values without a name are columns too
abbrev pub table_too_large : Table → Option (Extent × ℕ)
table_too_large t = too_large (length t.stamps) (max (length t.names) (length t.columns))
    (fold max 0 (map (λ (c : ColType × List Cell). longest_text c.1) t.columns)) (sum_by (λ (c : ColType × List Cell). all_text_bytes c.1) t.columns)

-- the first that is there refuses, and else the value stands
abbrev pub unless : {A X E : Type 0} → Option X → (X → E) → Result A E → Result A E
unless None refuse next = next
unless (Some x) refuse next = Err (refuse x)

-- the timed frame of a table
abbrev pub table_frame : Table → Frame
table_frame t = record {
  schema = record { timed = true; columns = heads_from t.names t.columns };
  rows = rows_from t.stamps (map (λ c. c.1) t.columns);
}

-- the timed frame of a table, or the first refusal
abbrev pub frame_of_table : Table → Result Frame Refusal
frame_of_table t =
    unless (table_too_large t) refuse_large
    (unless (bad_column 1 (length t.stamps) [] t.names t.columns) refusals.SchemaDiffers
    (unless (bad_row 1 t.stamps) refusals.Unsorted
    (Ok (table_frame t))))

-- the timed frame of raw columns, or the first refusal
abbrev pub frame_from : RawFrame → Result Frame Refusal
frame_from raw = frame_of_table (table_of raw)
