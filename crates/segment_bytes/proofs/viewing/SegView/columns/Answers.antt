use Rattle.std.proofs.Common.{◌≡◌, List, subst}
use Rattle.std.specs.Prelude.{IfOk}
use Rattle.segment_bytes.specs.Sheets.{Series}
use Rattle.segment_bytes.proofs.SegmentGetters.{view_spells, view_columns}
use Rattle.segment_bytes.proofs.viewing.SegView.columns.Goals as goal

pub split_columns-requires : goal.split_columns-requires
split_columns-requires c = (_, view_spells _ _ _ _ _ c.self.invariant)

pub returns : goal.returns
returns c = subst (λ (cs : List Series). IfOk c.split_columns.result (λ made. made ≡ cs)) (view_columns _ _ _ _ _ _ c.self.invariant c.self.view_is) (c.split_columns.ensures _ (view_spells _ _ _ _ _ c.self.invariant))
