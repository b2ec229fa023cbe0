use Rattle.std.proofs.Common.{length, sym, subst}
use Rattle.std.specs.List.{AllByRecursion}
use Rattle.index_tree.specs.IndexRules.{FitsSlot}
use Rattle.index_tree.proofs.SlotRules.{fits_all}
use Rattle.append_update.proofs.planning.pieces_of_update.Goals as goal

pub pieces_replaced-requires-clause-fits : goal.pieces_replaced-requires-clause-fits
pieces_replaced-requires-clause-fits c =
    let i = c.args.index.now in
    subst (AllByRecursion FitsSlot) (sym c.items.ensures) (fits_all i.rows (length i.schema.columns) i.slots c.requires.rules.few_rows c.requires.rules.few_columns c.requires.rules.each c.requires.rules.cover)
