use Rattle.std.proofs.Common.{◌∙◌}
use Rattle.segment_cut.proofs.Cuts.{IsFrame-cut, stamps-lent, columns-of, schema-lent}
use Rattle.segment_cut.proofs.Wholes.{IsWhole-frame, frame-whole}
use Rattle.segment_cut.proofs.tile.cut.Goals as goal

pub from_columns-requires : goal.from_columns-requires
from_columns-requires c =
    IsWhole-frame _ _ _ _ (IsFrame-cut c.args.frame.now c.args.part c.rows-rows.ensures.frame) (schema-lent c.args.frame.now c.args.part _ _ c.schema-2.ensures.schema c.in_ok-schema.ensures) (stamps-lent c.args.frame.now c.args.part _ _ c.stamps.ensures c.in_ok-stamps.ensures) c.in_ok-columns.ensures.kinds (columns-of c.args.frame.now c.args.part _ c.requires c.in_ok-columns.ensures.cells)

pub returns : goal.returns
returns c =
    c.from_columns.ensures ∙ frame-whole _ _ _ _ (IsFrame-cut c.args.frame.now c.args.part c.rows-rows.ensures.frame) (schema-lent c.args.frame.now c.args.part _ _ c.schema-2.ensures.schema c.in_ok-schema.ensures) (stamps-lent c.args.frame.now c.args.part _ _ c.stamps.ensures c.in_ok-stamps.ensures) (columns-of c.args.frame.now c.args.part _ c.requires c.in_ok-columns.ensures.cells)
