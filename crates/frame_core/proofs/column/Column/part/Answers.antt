use Rattle.frame_core.proofs.ColumnParts.{part_ints, part_flags, part_stamps, part_texts}
use Rattle.frame_core.proofs.column.Column.part.Goals as goal

pub returns-in_ok-from_slice-in-Ints-clause-cells : goal.returns-in_ok-from_slice-in-Ints-clause-cells
returns-in_ok-from_slice-in-Ints-clause-cells c = part_ints _ _ _ _ c.args.from c.args.to c.in-Ints.is c.items.ensures c.in_ok-from_slice-in-Ints.ensures

pub returns-in_ok-from_slice-in-Flags-clause-cells : goal.returns-in_ok-from_slice-in-Flags-clause-cells
returns-in_ok-from_slice-in-Flags-clause-cells c = part_flags _ _ _ _ c.args.from c.args.to c.in-Flags.is c.items-in-Flags.ensures c.in_ok-from_slice-in-Flags.ensures

pub returns-in_ok-part-in-Texts-clause-cells : goal.returns-in_ok-part-in-Texts-clause-cells
returns-in_ok-part-in-Texts-clause-cells c = part_texts _ _ _ c.args.from c.args.to c.in-Texts.is c.in_ok-part-in-Texts.ensures

pub returns-in_ok-from_slice-in-Stamps-clause-cells : goal.returns-in_ok-from_slice-in-Stamps-clause-cells
returns-in_ok-from_slice-in-Stamps-clause-cells c = part_stamps _ _ _ _ c.args.from c.args.to c.in-Stamps.is c.items-in-Stamps.ensures c.in_ok-from_slice-in-Stamps.ensures
