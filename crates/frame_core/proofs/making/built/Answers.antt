use Rattle.std.proofs.Common.{◌∙◌, sym, ap, length}
use Rattle.frame_core.proofs.RawLemmas.{built_from, good_from}
use Rattle.frame_core.proofs.making.built.Goals as goal

pub schema_of-requires : goal.schema_of-requires
schema_of-requires c = ap length c.items.ensures ∙ (good_from _ _ _ _ _ c.requires.columns).count ∙ sym (ap length c.items-2.ensures)

pub invariant_of-result : goal.invariant_of-result
invariant_of-result c = (built_from c.args.raw.now _ _ _ _ _ _ _ _ c.requires.small c.requires.columns c.requires.rows c.items.ensures c.items-2.ensures c.in_ok-schema.ensures.schema c.in_ok-schema.ensures.named c.items-3.ensures c.in_ok-stamps.ensures c.items-4.ensures c.in_ok-columns.ensures.copies c.in_ok-columns.ensures.cells c.items-5.ensures c.read_all.ensures).whole

pub returns-clause-frame : goal.returns-clause-frame
returns-clause-frame c = (built_from c.args.raw.now _ _ _ _ _ _ _ _ c.requires.small c.requires.columns c.requires.rows c.items.ensures c.items-2.ensures c.in_ok-schema.ensures.schema c.in_ok-schema.ensures.named c.items-3.ensures c.in_ok-stamps.ensures c.items-4.ensures c.in_ok-columns.ensures.copies c.in_ok-columns.ensures.cells c.items-5.ensures c.read_all.ensures).is

pub returns-clause-storable : goal.returns-clause-storable
returns-clause-storable c = (built_from c.args.raw.now _ _ _ _ _ _ _ _ c.requires.small c.requires.columns c.requires.rows c.items.ensures c.items-2.ensures c.in_ok-schema.ensures.schema c.in_ok-schema.ensures.named c.items-3.ensures c.in_ok-stamps.ensures c.items-4.ensures c.in_ok-columns.ensures.copies c.in_ok-columns.ensures.cells c.items-5.ensures c.read_all.ensures).storable
