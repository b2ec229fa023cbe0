-- Where the lines fit the columns, so do the groups that are kept of them.
use Rattle.std.proofs.Common.{◌≡◌, refl, sym, subst}
use Rattle.std.specs.Prelude.{Bool, true, false, cond, List, [], ◌∷◌, map, Option, Some, None, IfSome}
use Rattle.std.specs.List.{AllByRecursion}
use Rattle.std.specs.declared.cmp.Ordering.{Ordering}
use Rattle.std.specs.declared.cmp.Ordering.TheVariants.{Less, Equal, Greater}
use Rattle.std.specs.Ordering.{is_gt}
use Rattle.std.proofs.lemmas.Option.{none-some}
use Rattle.frame_core.specs.declared.cell.ColType.{ColType}
use Rattle.frame_core.specs.declared.cell.ColType.TheVariants as types
use Rattle.frame_core.specs.declared.cell.Cell.{Cell}
use Rattle.frame_core.specs.declared.cell.Cell.TheVariants as cells
use Rattle.frame_core.specs.Schemas.{Head}
use Rattle.frame_core.specs.Frames.{type_of}
use Rattle.expr_clause.specs.declared.clause.Agg.{Agg}
use Rattle.expr_clause.specs.declared.clause.Agg.TheVariants as aggs
use Rattle.expr_clause.specs.Cells.{cell_cmp, falling_cmp}
use Rattle.expr_clause.specs.Typing.{agg_type}
use Rattle.expr_clause.specs.Groups.{Line, best, best_there}
use Rattle.group_clause.specs.Tallies.{join_lists, insert_at, tallied, kept}
use Rattle.group_clause.specs.Partials.{Tally, tally_of, join_tallies, tallies, Partial}
use Rattle.group_clause.specs.Taking.{Groups}
use Rattle.group_clause.specs.Making.{TallyFits, TalliesFit, GroupFits}
use Rattle.group_clause.specs.Finished.{OutsFit, LineFits, HoldsLines}
use Rattle.group_clause.proofs.Merging.{placing}
use Rattle.group_clause.proofs.TallyLaws.{whole_partial}

same_type : (s t : ColType) → Some s ≡ Some t → s ≡ t
same_type s t e = subst (λ o. IfSome o (λ k. s ≡ k)) e refl

-- the tally of one cell
one_fits : (kind : ColType) (a : Agg) (c : Cell) → agg_type a (type_of c) ≡ Some kind → TallyFits kind a (tally_of c)
one_fits kind aggs.Count c e = sym (same_type types.Int kind e)
one_fits kind aggs.Sum (cells.Int n) e = sym (same_type types.Int kind e)
one_fits kind aggs.Sum (cells.Flag b) e = absurd (none-some kind e)
one_fits kind aggs.Sum (cells.Text t) e = absurd (none-some kind e)
one_fits kind aggs.Sum (cells.Stamp n) e = absurd (none-some kind e)
one_fits kind aggs.Min (cells.Int n) e = same_type types.Int kind e
one_fits kind aggs.Min (cells.Flag b) e = absurd (none-some kind e)
one_fits kind aggs.Min (cells.Text t) e = absurd (none-some kind e)
one_fits kind aggs.Min (cells.Stamp n) e = same_type types.Stamp kind e
one_fits kind aggs.Max (cells.Int n) e = same_type types.Int kind e
one_fits kind aggs.Max (cells.Flag b) e = absurd (none-some kind e)
one_fits kind aggs.Max (cells.Text t) e = absurd (none-some kind e)
one_fits kind aggs.Max (cells.Stamp n) e = same_type types.Stamp kind e

ones_fit : (heads : List Head) (list : List Agg) (cs : List Cell) → OutsFit heads list cs → TalliesFit heads list (map tally_of cs)
ones_fit [] [] [] fit = tt
ones_fit (h ∷ heads) (a ∷ list) (c ∷ cs) fit = (one_fits h.1 a c fit.0, ones_fit heads list cs fit.1)
ones_fit [] [] (c ∷ cs) fit = absurd fit
ones_fit [] (a ∷ list) cs fit = absurd fit
ones_fit (h ∷ heads) [] cs fit = absurd fit
ones_fit (h ∷ heads) (a ∷ list) [] fit = absurd fit

line_fits : (columns : List Head) (list : List Agg) (line : Line) → LineFits columns list line → GroupFits columns list (tallied tallies line)
line_fits [] list line fit = fit
line_fits (h ∷ heads) list line fit = (fit.0, ones_fit heads list line.1 fit.1)

-- joined tallies
module _ (order : Cell → Cell → Ordering) (kind : ColType) where
  best_fits : (a b : Cell) → type_of a ≡ kind → type_of b ≡ kind → type_of (best order a b) ≡ kind
  best_fits a b p q = by (is_gt (order a b))
    where
      by : (g : Bool) → type_of (cond g b a) ≡ kind
      by true = q
      by false = p

  there_fits : (a b : Option Cell) → IfSome a (λ c. type_of c ≡ kind) → IfSome b (λ c. type_of c ≡ kind) → IfSome (best_there order a b) (λ c. type_of c ≡ kind)
  there_fits None b p q = q
  there_fits (Some a) None p q = p
  there_fits (Some a) (Some b) p q = best_fits a b p q

joined_fits : (kind : ColType) (a : Agg) (s t : Tally) → TallyFits kind a s → TallyFits kind a t → TallyFits kind a (join_tallies s t)
joined_fits kind aggs.Sum s t p q = p
joined_fits kind aggs.Count s t p q = p
joined_fits kind aggs.Min s t p q = there_fits cell_cmp kind s.least t.least p q
joined_fits kind aggs.Max s t p q = there_fits falling_cmp kind s.greatest t.greatest p q

joined_fit : (heads : List Head) (list : List Agg) (ss ts : List Tally) → TalliesFit heads list ss → TalliesFit heads list ts → TalliesFit heads list (join_lists join_tallies ss ts)
joined_fit [] [] [] [] p q = tt
joined_fit (h ∷ heads) (a ∷ list) (s ∷ ss) (t ∷ ts) p q = (joined_fits h.1 a s t p.0 q.0, joined_fit heads list ss ts p.1 q.1)
joined_fit [] [] (s ∷ ss) ts p q = absurd p
joined_fit [] [] [] (t ∷ ts) p q = absurd q
joined_fit [] (a ∷ list) ss ts p q = absurd p
joined_fit (h ∷ heads) [] ss ts p q = absurd p
joined_fit (h ∷ heads) (a ∷ list) [] ts p q = absurd p
joined_fit (h ∷ heads) (a ∷ list) (s ∷ ss) [] p q = absurd q

abbrev Entry : Type 0
Entry = Cell × List Tally

both_fit : (columns : List Head) (list : List Agg) (g h : Entry) → GroupFits columns list g → GroupFits columns list h → GroupFits columns list (h.0, join_lists join_tallies g.1 h.1)
both_fit [] list g h p q = p
both_fit (c ∷ heads) list g h p q = (q.0, joined_fit heads list g.1 h.1 p.1 q.1)

module _ (columns : List Head) (list : List Agg) where
  inserted_fits : (g : Entry) (s : Groups) → GroupFits columns list g → AllByRecursion (GroupFits columns list) s → AllByRecursion (GroupFits columns list) (insert_at (join_lists join_tallies) g s)
  inserted_fits g [] p all = (p, tt)
  inserted_fits g (h ∷ s) p all = by (inserted_fits g s p all.1) (cell_cmp g.0 h.0) refl
    where
      by : AllByRecursion (GroupFits columns list) (insert_at (join_lists join_tallies) g s) → (o : Ordering) → cell_cmp g.0 h.0 ≡ o → AllByRecursion (GroupFits columns list) (insert_at (join_lists join_tallies) g (h ∷ s))
      by later Less e = subst (AllByRecursion (GroupFits columns list)) (sym (placing (join_lists join_tallies) g h s Less e)) (p, all)
      by later Equal e = subst (AllByRecursion (GroupFits columns list)) (sym (placing (join_lists join_tallies) g h s Equal e)) (both_fit columns list g h p all.0, all.1)
      by later Greater e = subst (AllByRecursion (GroupFits columns list)) (sym (placing (join_lists join_tallies) g h s Greater e)) (all.0, later)

  kept_fits : (lines : List Line) → AllByRecursion (LineFits columns list) lines → AllByRecursion (GroupFits columns list) (kept tallies lines)
  kept_fits [] all = tt
  kept_fits (line ∷ lines) all = inserted_fits (tallied tallies line) (kept tallies lines) (line_fits columns list line all.0) (kept_fits lines all.1)

  pub groups_fit : (p : Partial) → HoldsLines (LineFits columns list) p → AllByRecursion (GroupFits columns list) p.groups
  groups_fit p holds = subst (λ (q : Partial). AllByRecursion (GroupFits columns list) q.groups) (sym (whole_partial holds.lines p holds.is)) (kept_fits holds.lines holds.fit)
