-- Groups are ordered by their keys.
--     group_cmp, same_group       the order, and where it ties
--     groups_total, groups_po, groups_equiv       their laws
use Rattle.std.specs.Prelude.{List, Bool, Some, refl}
use Rattle.std.specs.Cmp.{IsTotalOrder, IsEquivalence, IsPartialOrder, on_total, on_equiv, po}
use Rattle.std.specs.Ordering.{eq_by_cmp}
use Rattle.std.specs.declared.cmp.Ordering.{Ordering}
use Rattle.frame_core.specs.declared.cell.Cell.{Cell}
use Rattle.expr_clause.specs.Cells.{cell_cmp}
use Rattle.group_clause.specs.Partials.{Tally}
use Rattle.group_clause.specs.CellOrder.{cell_cmp_total, keys_equiv}

abbrev pub group_cmp : Cell × List Tally → Cell × List Tally → Ordering
group_cmp g h = cell_cmp g.0 h.0

abbrev pub same_group : Cell × List Tally → Cell × List Tally → Bool
same_group g h = eq_by_cmp cell_cmp g.0 h.0

pub groups_total : IsTotalOrder group_cmp
groups_total = on_total (λ (g : Cell × List Tally). g.0) cell_cmp_total

pub groups_equiv : IsEquivalence same_group
groups_equiv = on_equiv (λ (g : Cell × List Tally). g.0) keys_equiv

pub groups_po : IsPartialOrder same_group (λ g h. Some (group_cmp g h))
groups_po = po groups_total (λ g h. refl)
