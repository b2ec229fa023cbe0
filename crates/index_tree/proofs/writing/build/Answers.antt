use Rattle.std.proofs.Common.{◌≡◌, ◌∙◌, ap, length, rules, List, subst, sym}
use Rattle.std.specs.List.{AllByRecursion}
use Rattle.index_tree.specs.declared.index.Slot.{Slot}
use Rattle.index_tree.specs.IndexText.{index_text, index_of}
use Rattle.index_tree.specs.IndexRules.{FitsSlot}
use Rattle.index_tree.proofs.IndexLaws.{index_again}
use Rattle.index_tree.proofs.SlotRules.{fits_all}
use Rattle.index_tree.proofs.writing.build.Goals as goal

pub put_slots-requires : goal.put_slots-requires
put_slots-requires c =
    let i = c.args.index.now in
    subst (λ (slots : List Slot). AllByRecursion FitsSlot slots) (sym c.items-slots.ensures) (fits_all i.rows (length i.schema.columns) i.slots c.requires.few_rows c.requires.few_columns c.requires.each c.requires.cover)

pub returns-clause-read : goal.returns-clause-read
returns-clause-read c =
    let text : c.put_slots.new.out.items ≡ index_text c.args.index.now = search rules in
    ap index_of text ∙ index_again c.args.index.now c.requires
