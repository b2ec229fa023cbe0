use Rattle.std.proofs.Common.{rules}
use Rattle.index_tree.proofs.IndexPartLaws.{index_by_parts}
use Rattle.index_tree.proofs.reading.read_index.Goals as goal

pub returns-in_err-schema : goal.returns-in_err-schema
returns-in_err-schema c = rw (index_by_parts c.args.bytes.now) (search rules)

pub returns-in_err-rows : goal.returns-in_err-rows
returns-in_err-rows c = rw (index_by_parts c.args.bytes.now) (search rules)

pub returns : goal.returns
returns c = rw (index_by_parts c.args.bytes.now) (search rules)
