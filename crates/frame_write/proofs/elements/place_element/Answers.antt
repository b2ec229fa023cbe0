use Rattle.frame_write.proofs.ElementLemmas.{entry_is}
use Rattle.frame_write.proofs.elements.place_element.Goals as goal

pub element_body-requires : goal.element_body-requires
element_body-requires c = entry_is c.args.symbol.now c.args.was.now c.args.row c.args.buried.now c.name-name.ensures.is_name c.requires.was c.requires.link c.requires.rising
