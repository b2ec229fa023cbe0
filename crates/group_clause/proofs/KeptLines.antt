-- What is kept of lines may be kept in memory.
use Rattle.std.proofs.Common.{◌≡◌, ℕ, suc, ◌+◌, ◌≤◌, ◌^◌, refl, ap, sym, ◌∙◌, subst, arith, length}
use Rattle.std.specs.Prelude.{List, [], ◌∷◌, map, slice_get, Option, Some, None, unwrap_or, option_and_then}
use Rattle.std.specs.List.{AllByRecursion}
use Rattle.std.proofs.lemmas.Int.{ints}
use Rattle.std.proofs.lemmas.Option.{none-some}
use Rattle.std.specs.declared.cmp.Ordering.{Ordering}
use Rattle.std.specs.declared.cmp.Ordering.TheVariants.{Less, Equal, Greater}
use Rattle.frame_core.specs.declared.cell.Cell.{Cell}
use Rattle.frame_core.specs.Texts.{Text}
use Rattle.frame_core.specs.Schemas.{Head}
use Rattle.frame_core.specs.Frames.{Row, IsCell, FitsColumns}
use Rattle.frame_core.specs.Selecting.{place_of}
use Rattle.expr_clause.specs.declared.clause.Out.{Out}
use Rattle.expr_clause.specs.Cells.{cell_cmp, no_cell}
use Rattle.expr_clause.specs.Exprs.{cell_named}
use Rattle.expr_clause.specs.Groups.{Line, keys, insert_key}
use Rattle.expr_clause.specs.Asking.{line_of}
use Rattle.group_clause.specs.Tallies.{join_lists, insert_at, tallied, kept}
use Rattle.group_clause.specs.Partials.{Tally, tally_of, join_tallies, tallies}
use Rattle.group_clause.specs.Keeping.{Rises, IsTally, AreTallies, IsKeeping}
use Rattle.group_clause.specs.Taking.{Groups}
use Rattle.group_clause.proofs.Merging.{placing}
use Rattle.group_clause.proofs.Keys.{keys_rise}
use Rattle.group_clause.proofs.KeepingLemmas.{keys-insert_at, all_more_lines, groups_more_lines, joined_tallies}
use Rattle.group_clause.proofs.BlockLemmas.{one_tally, all_got}
use Rattle.group_clause.proofs.BlockGroups.{mapped_length}

abbrev Entry : Type 0
Entry = Cell × List Tally

kept_keys : (lines : List Line) → map (λ (g : Entry). g.0) (kept tallies lines) ≡ keys lines
kept_keys [] = refl
kept_keys (line ∷ lines) = keys-insert_at (join_lists join_tallies) (tallied tallies line) (kept tallies lines) ∙ ap (insert_key line.0) (kept_keys lines)

ones : (cs : List Cell) → AllByRecursion IsCell cs → AllByRecursion (IsTally 1) (map tally_of cs)
ones [] all = tt
ones (c ∷ cs) all = (one_tally c all.0, ones cs all.1)

less : (n : ℕ) → n ≤ 1 + n
less n = omega arith

one_of : (n : ℕ) → 1 ≤ 1 + n
one_of n = omega arith

inserted_tallies : (n : ℕ) (g : Entry) (s : Groups) → AllByRecursion (IsTally 1) g.1 → AreTallies n s → AreTallies (1 + n) (insert_at (join_lists join_tallies) g s)
inserted_tallies n g [] p all = (all_more_lines 1 (1 + n) (one_of n) g.1 p, tt)
inserted_tallies n g (h ∷ s) p all = by (inserted_tallies n g s p all.1) (cell_cmp g.0 h.0) refl
  where
    by : AreTallies (1 + n) (insert_at (join_lists join_tallies) g s) → (o : Ordering) → cell_cmp g.0 h.0 ≡ o → AreTallies (1 + n) (insert_at (join_lists join_tallies) g (h ∷ s))
    by later Less e = subst (AreTallies (1 + n)) (sym (placing (join_lists join_tallies) g h s Less e)) (all_more_lines 1 (1 + n) (one_of n) g.1 p, groups_more_lines n (1 + n) (less n) (h ∷ s) all)
    by later Equal e = subst (AreTallies (1 + n)) (sym (placing (join_lists join_tallies) g h s Equal e)) (joined_tallies 1 n g.1 h.1 p all.0, groups_more_lines n (1 + n) (less n) s all.1)
    by later Greater e = subst (AreTallies (1 + n)) (sym (placing (join_lists join_tallies) g h s Greater e)) (all_more_lines n (1 + n) (less n) h.1 all.0, later)

kept_tallies : (lines : List Line) → AllByRecursion (λ (l : Line). AllByRecursion IsCell l.1) lines → AreTallies (length lines) (kept tallies lines)
kept_tallies [] all = tt
kept_tallies (line ∷ lines) all = subst (λ n. AreTallies n (kept tallies (line ∷ lines))) (next (length lines)) (inserted_tallies (length lines) (tallied tallies line) (kept tallies lines) (ones line.1 all.0) (kept_tallies lines all.1))
  where
    next : (n : ℕ) → 1 + n ≡ suc n
    next n = omega arith

got_fits : (o : Option Cell) (P : Cell → Type 0) → P no_cell → ((c : Cell) → o ≡ Some c → P c) → P (unwrap_or o no_cell)
got_fits None P none some = none
got_fits (Some c) P none some = some c refl

zero_fits : IsCell no_cell
zero_fits = omega (arith, ints)

module _ (columns : List Head) (key : Text) (outs : List Out) where
  cells_fit : (r : Row) → AllByRecursion IsCell r.cells → (list : List Out) → AllByRecursion IsCell (map (λ (o : Out). cell_named columns r.cells o.of) list)
  cells_fit r all [] = tt
  cells_fit r all (o ∷ list) = (got_fits (option_and_then (slice_get r.cells) (place_of o.of columns)) IsCell zero_fits (λ c e. found (place_of o.of columns) c e), cells_fit r all list)
    where
      at : (xs : List Cell) (k : ℕ) (c : Cell) → AllByRecursion IsCell xs → slice_get xs k ≡ Some c → IsCell c
      at xs k c all e = all_got IsCell xs k c all e

      found : (p : Option ℕ) (c : Cell) → option_and_then (slice_get r.cells) p ≡ Some c → IsCell c
      found None c e = absurd (none-some c e)
      found (Some k) c e = at r.cells k c all e

  lines_fit : (rows : List Row) → AllByRecursion (FitsColumns columns) rows → AllByRecursion (λ (l : Line). AllByRecursion IsCell l.1) (map (line_of columns key outs) rows)
  lines_fit [] all = tt
  lines_fit (r ∷ rows) all = (cells_fit r all.0.cells outs, lines_fit rows all.1)

  pub keeping_kept : (rows : List Row) → AllByRecursion (FitsColumns columns) rows → length rows ≤ 2 ^ 62 → IsKeeping (length rows) (kept tallies (map (line_of columns key outs) rows))
  keeping_kept rows all few = record {
    few = few;
    rising = subst Rises (sym (kept_keys (map (line_of columns key outs) rows))) (keys_rise (map (line_of columns key outs) rows));
    tallies = subst (λ n. AreTallies n (kept tallies (map (line_of columns key outs) rows))) (mapped_length (line_of columns key outs) rows) (kept_tallies (map (line_of columns key outs) rows) (lines_fit rows all));
  }
