use Rattle.version_chain.proofs.ElementForms.{formed_makes_none, entry_is}
use Rattle.version_chain.proofs.marking.prepare.Goals as goal

pub contents_of-requires : goal.contents_of-requires
contents_of-requires c = record {
  makes_none = formed_makes_none c.args.change.now c.requires.formed;
  entry = λ row. entry_is c.args.symbol.now c.args.was.now row c.args.change.now c.in_ok-entry.ensures.is_name c.requires.was c.requires.formed;
}
