use Rattle.std.proofs.Common.{◌∙◌}
use Rattle.index_tree.specs.Names.{has_name}
use Rattle.index_tree.proofs.NameNotes.{noted_more}
use Rattle.index_tree.proofs.reading.note_name.Goals as goal

pub returns-clause-noted : goal.returns-clause-noted
returns-clause-noted c = λ other.
    c.in_ok-insert.ensures.updates.0 (record c.args.name { now = other }) ∙ noted_more c.args.name.now other (has_name c.args.names.now other)
