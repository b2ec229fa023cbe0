use Rattle.std.proofs.Common.{◌≡◌, ◌∙◌, length, arith}
use Rattle.script_lang.specs.Rows.{no_rows}
use Rattle.script_lang.proofs.Gathered.{rows_table-columns, lent-back}
use Rattle.script_lang.proofs.plain_file.read_table.Goals as goal

pub returns : goal.returns
returns c =
    let start : c.deref_mut.result.now ≡ no_rows c.args.types.now = c.deref_mut.ensures.value ∙ c.in_ok-columns.ensures in
    let read = rw start at c.in_ok-read_rows.ensures in
    let table = rows_table-columns c.args.types.now c.args.names c.args.bytes.now c.read_rows.new.columns c.requires read in
    let len : c.in_ok-columns.columns.len ≡ length c.in_ok-columns.columns.items = omega arith in
    let same : length c.read_rows.new.columns ≡ length c.in_ok-columns.columns.items = omega arith in
    rw (c.in_ok-frame_of.ensures, lent-back c.in_ok-columns.columns.len c.read_rows.new.columns c.in_ok-columns.columns.items len same) table
