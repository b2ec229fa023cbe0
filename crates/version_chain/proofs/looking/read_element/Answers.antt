use Rattle.std.proofs.Common.{◌≡◌, ◌∙◌, sym, ap, Some}
use Rattle.std.specs.Prelude.{option_map}
use Rattle.std.specs.Arc.{arc_value}
use Rattle.bucket_core.specs.History.{stored}
use Rattle.store_model.specs.ChainText.{entry_of}
use Rattle.version_chain.proofs.Walked.{entry_later, fault_told, stands_told, element_told, spelled_told}
use Rattle.version_chain.proofs.looking.read_element.Goals as goal

pub returns-in-Ok-entry_read-clause-element : goal.returns-in-Ok-entry_read-clause-element
returns-in-Ok-entry_read-clause-element g c =
    let stands : stored (g.B.Bucket.seen c.look.new.bucket) c.args.key.now ≡ Some (arc_value c.in-Some.body) = sym c.in-Ok.ensures.found.body ∙ ap (option_map arc_value) c.in-Some.is in
    let bytes : c.bytes.result.now ≡ arc_value c.in-Some.body = c.bytes.ensures ∙ (c.deref.ensures ∙ ap arc_value c.in-Some.body-is) in
    element_told _ c.args.key.now.name c.args.key.now (arc_value c.in-Some.body) c.in-Ok-entry_read.entry (g.met.B.Bucket.lawful c.look.new.bucket)
    (entry_later _ _ _ _ c.args.key.now.name c.args.key.now c.in-Ok.ensures.looks c.requires) stands (ap entry_of (sym bytes) ∙ c.in-Ok-entry_read.ensures.found)

pub unreachable-requires : goal.unreachable-requires
unreachable-requires g c =
    let stands : stored (g.B.Bucket.seen c.look.new.bucket) c.args.key.now ≡ Some (arc_value c.in-Some.body) = sym c.in-Ok.ensures.found.body ∙ ap (option_map arc_value) c.in-Some.is in
    let bytes : c.bytes.result.now ≡ arc_value c.in-Some.body = c.bytes.ensures ∙ (c.deref.ensures ∙ ap arc_value c.in-Some.body-is) in
    fault_told _ (entry_of c.bytes.result.now) c.in-Err-Bad.field-0 c.in-Err-Bad.field-0-0 c.in-Err-Bad.ensures.refused c.in-Err-Bad.field-0-is
    (λ left bad. spelled_told _ c.args.key.now.name c.args.key.now (arc_value c.in-Some.body) left (g.met.B.Bucket.lawful c.look.new.bucket)
    (entry_later _ _ _ _ c.args.key.now.name c.args.key.now c.in-Ok.ensures.looks c.requires) stands (ap entry_of (sym bytes) ∙ bad))

pub unreachable-requires-in-None : goal.unreachable-requires-in-None
unreachable-requires-in-None g c =
    stands_told _ c.args.key.now.name c.args.key.now (g.met.B.Bucket.lawful c.look.new.bucket)
    (entry_later _ _ _ _ c.args.key.now.name c.args.key.now c.in-Ok.ensures.looks c.requires) (sym c.in-Ok.ensures.found.body ∙ ap (option_map arc_value) c.in-None.is)
