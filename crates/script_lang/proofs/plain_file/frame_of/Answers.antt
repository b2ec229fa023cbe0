use Rattle.script_lang.proofs.Gathered.{table_of-columns}
use Rattle.script_lang.proofs.plain_file.frame_of.Goals as goal

pub returns : goal.returns
returns c =
    table_of-columns c.args.names c.args.columns.items c.remove-stamps.new.self.items c.remove-stamps.result c.in_ok-columns.columns c.requires c.remove-stamps.ensures.value c.remove-stamps.ensures.items
    c.in_ok-columns.ensures
