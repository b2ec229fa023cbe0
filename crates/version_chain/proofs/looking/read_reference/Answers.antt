use Rattle.std.proofs.Common.{◌≡◌, ◌∙◌, sym, ap, Some}
use Rattle.std.specs.Prelude.{option_map}
use Rattle.std.specs.Arc.{arc_value}
use Rattle.key_kind.specs.Keys.{reference_key}
use Rattle.key_kind.specs.KeyText.{key_at}
use Rattle.bucket_core.specs.History.{stored}
use Rattle.version_chain.proofs.Walked.{reference_told, no_reference_told, bad_key_told}
use Rattle.version_chain.proofs.looking.read_reference.Goals as goal

pub returns-in-Ok-read-clause-reference : goal.returns-in-Ok-read-clause-reference
returns-in-Ok-read-clause-reference g c =
    let h = g.B.Bucket.seen c.look_reference.new.bucket in
    let stands : stored h (reference_key c.args.symbol.now) ≡ Some (arc_value c.in-Some.body) =
    sym c.in-Ok.ensures.found.body ∙ ap (option_map arc_value) c.in-Some.is in
    let bytes : c.bytes.result.now ≡ arc_value c.in-Some.body = c.bytes.ensures ∙ (c.deref.ensures ∙ ap arc_value c.in-Some.body-is) in
    sym (reference_told h c.args.symbol.now (arc_value c.in-Some.body) c.in-Ok-read.entry _ (g.met.B.Bucket.lawful c.look_reference.new.bucket) stands (ap key_at (sym bytes) ∙ c.in-Ok-read.ensures.read))

pub unreachable-requires : goal.unreachable-requires
unreachable-requires g c =
    let h = g.B.Bucket.seen c.look_reference.new.bucket in
    let stands : stored h (reference_key c.args.symbol.now) ≡ Some (arc_value c.in-Some.body) =
    sym c.in-Ok.ensures.found.body ∙ ap (option_map arc_value) c.in-Some.is in
    let bytes : c.bytes.result.now ≡ arc_value c.in-Some.body = c.bytes.ensures ∙ (c.deref.ensures ∙ ap arc_value c.in-Some.body-is) in
    bad_key_told h c.args.symbol.now (arc_value c.in-Some.body) c.bytes.result.now c.in-Err-NotAKey.field-0 (g.met.B.Bucket.lawful c.look_reference.new.bucket) stands bytes c.in-Err-NotAKey.ensures.refused c.in-Err-NotAKey.field-0-is

pub returns-clause-reference : goal.returns-clause-reference
returns-clause-reference g c =
    let h = g.B.Bucket.seen c.look_reference.new.bucket in
    sym (no_reference_told h c.args.symbol.now (g.met.B.Bucket.lawful c.look_reference.new.bucket)
    (sym c.in-Ok.ensures.found.body ∙ ap (option_map arc_value) c.in-None.is))
