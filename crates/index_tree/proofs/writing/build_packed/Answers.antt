use Rattle.std.proofs.Common.{◌≡◌, ◌∙◌, rules, ap}
use Rattle.index_tree.specs.declared.index.Index.{Index}
use Rattle.index_tree.specs.IndexText.{index_text, index_of}
use Rattle.index_tree.proofs.IndexLaws.{index_again}
use Rattle.index_tree.proofs.writing.build_packed.Goals as goal

pub returns-clause-read : goal.returns-clause-read
returns-clause-read c =
    let index : Index = record { schema = c.args.schema.now; rows = c.args.rows; slots = c.args.slots.now } in
    let text : c.put_runs.new.out.items ≡ index_text index = search rules in
    ap index_of text ∙ index_again index c.requires
