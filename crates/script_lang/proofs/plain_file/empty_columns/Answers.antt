use Rattle.script_lang.proofs.Gathered.{no_rows-more}
use Rattle.script_lang.proofs.plain_file.empty_columns.Goals as goal

pub loop-type-preserved : goal.loop-type-preserved
loop-type-preserved c = rw (c.in_ok-push-2.ensures.items, c.in_ok-empty_column-2.ensures, c.loop-type.invariant) (no_rows-more c.args.types.now c.loop-type._type-index c.loop-type-test.true)
