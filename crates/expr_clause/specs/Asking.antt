-- What a query gives: the rows in a range, the columns asked, and then the clauses, run by run.
--     then                    one answer after another, unless it refuses
--     step, pass              what a clause makes of a row, and what a run does
--     pass_rows               the rows that come through, or the least failing row with its first failing clause
--     runs                    the clauses cut after each group
--     run_frame, run_all      a run over a frame, and all runs
--     apply_clauses           all clauses over a frame
--     select_columns, ask     the asked columns; the rows in a range, and of these the asked columns
--     query                   the whole query
use Rattle.std.specs.Prelude.{ℕ, ◌+◌, pos, Bool, true, false, if◌then◌else◌, List, [], ◌∷◌, map, length, Option, Some, None, option_map, Result, Ok, Err}
use Rattle.std.specs.List.{cons_option}
use Rattle.frame_core.specs.declared.refusal.Refusal.{Refusal}
use Rattle.frame_core.specs.declared.refusal.Refusal.TheVariants as refusals
use Rattle.frame_core.specs.Texts.{Text}
use Rattle.frame_core.specs.Ranges.{Range, is_within}
use Rattle.frame_core.specs.Schemas.{Head, Schema}
use Rattle.frame_core.specs.Frames.{Row, Frame, rows_within}
use Rattle.frame_core.specs.Selecting.{place_of, then_map, select, refuse_position}
use Rattle.expr_clause.specs.declared.clause.Out.{Out}
use Rattle.expr_clause.specs.declared.clause.Clause.{Clause}
use Rattle.expr_clause.specs.declared.clause.Clause.TheVariants as clauses
use Rattle.expr_clause.specs.Cells.{is_true}
use Rattle.expr_clause.specs.Exprs.{value, cell_named}
use Rattle.expr_clause.specs.Typing.{put_at, after, check}
use Rattle.expr_clause.specs.Groups.{Line, group}

-- one step after another, unless it refuses
infixl 10 ◌then◌
abbrev pub ◌then◌ : {A B : Type 0} → Result A Refusal → (A → Result B Refusal) → Result B Refusal
(Ok a) then f = f a
(Err why) then f = Err why

-- ---- a row

abbrev pub keep_if : Bool → Row → Option Row
keep_if b row = if b then Some row else None

-- what a clause makes of a row: it goes on, or ends here; or a result is outside i64
abbrev pub step : Clause → List Head → Row → Option (Option Row)
step (clauses.DateRange range) columns row = Some (keep_if (is_within range row.stamp) row)
step (clauses.Filter e) columns row = option_map (λ c. keep_if (is_true c) row) (value columns row.cells e)
step (clauses.Apply name e) columns row = option_map (λ c. Some (record row { cells = put_at (place_of name columns) c row.cells })) (value columns row.cells e)
step (clauses.Group key outs) columns row = Some (Some row)

-- a row goes on, or ends, or fails at clause n
abbrev pub go_on : Option (Option Row) → ℕ → (Row → Result (Option Row) ℕ) → Result (Option Row) ℕ
go_on None n next = Err n
go_on (Some None) n next = Ok None
go_on (Some (Some row)) n next = next row

-- what the clauses of a run, from clause n, make of a row
abbrev pub pass : ℕ → Schema → List Clause → Row → Result (Option Row) ℕ
pass n s [] row = Ok (Some row)
pass n s (c ∷ cs) row = go_on (step c s.columns row) n (λ r. pass (n + 1) (after c s) cs r)

-- the rows that come through, or the least failing row, numbered from n, with its first failing clause
abbrev pub pass_rows : (Row → Result (Option Row) ℕ) → ℕ → List Row → Result (List Row) Refusal
pass_rows way n [] = Ok []
pass_rows way n (row ∷ rows) = elim (way row) [
  | Err clause ↦ Err (refusals.Overflow clause n)
  | Ok kept ↦ then_map (cons_option kept) (pass_rows way (n + 1) rows)
]

-- ---- a group

-- a row as a group takes it
abbrev pub line_of : List Head → Text → List Out → Row → Line
line_of columns key outs row = (cell_named columns row.cells key, map (λ (o : Out). cell_named columns row.cells o.of) outs)

-- a key and its outputs as a row, which has no stamp of its own
abbrev pub group_row : Line → Row
group_row line = record { stamp = pos 0; cells = line.0 ∷ line.1 }

-- what clause n, the last one of a run, makes of the rows that came through
abbrev pub finish : ℕ → Clause → Schema → List Row → Result (List Row) Refusal
finish n (clauses.Group key outs) s rows = then_map (map group_row) (group n (map (λ (o : Out). o.agg) outs) (map (line_of s.columns key outs) rows))
finish n c s rows = Ok rows

-- ---- runs

abbrev pub ends_run : Clause → Bool
ends_run (clauses.Group key outs) = true
ends_run _ = false

abbrev pub before_first : Clause → List (List Clause) → List (List Clause)
before_first c [] = (c ∷ []) ∷ []
before_first c (run ∷ more) = (c ∷ run) ∷ more

-- a run goes up to a group, or to the last clause
abbrev pub runs : List Clause → List (List Clause)
runs [] = []
runs (c ∷ cs) = if ends_run c then (c ∷ []) ∷ runs cs else before_first c (runs cs)

-- the end of a run, from clause n, of which the rows came through
abbrev pub end_run : ℕ → List Clause → Schema → List Row → Result Frame Refusal
end_run n [] s rows = Ok (record { schema = s; rows = rows })
end_run n (c ∷ []) s rows = then_map (λ done. record { schema = after c s; rows = done }) (finish n c s rows)
end_run n (c ∷ d ∷ cs) s rows = end_run (n + 1) (d ∷ cs) (after c s) rows

-- a run, from clause n, over a frame
abbrev pub run_frame : ℕ → List Clause → Frame → Result Frame Refusal
run_frame n run f = pass_rows (pass n f.schema run) 1 f.rows then λ rows. end_run n run f.schema rows

-- runs, the first of which begins at clause n, one after another
abbrev pub run_all : ℕ → List (List Clause) → Frame → Result Frame Refusal
run_all n [] f = Ok f
run_all n (run ∷ more) f = run_frame n run f then λ g. run_all (n + length run) more g

-- the clauses over a frame
abbrev pub apply_clauses : List Clause → Frame → Result Frame Refusal
apply_clauses list f = check list f.schema then λ s. run_all 1 (runs list) f

-- ---- the whole query

-- the asked columns, or all
abbrev pub select_columns : Option (List Text) → Frame → Result Frame Refusal
select_columns None f = Ok f
select_columns (Some names) f = refuse_position (select names f)

-- the rows in the range, and of these the asked columns
abbrev pub ask : Frame → Range → Option (List Text) → Result Frame Refusal
ask f range columns = select_columns columns (record f { rows = rows_within range f.rows })

-- the rows in the range, of these the asked columns, and then the clauses
abbrev pub query : Frame → Range → Option (List Text) → List Clause → Result Frame Refusal
query f range columns list = ask f range columns then apply_clauses list
