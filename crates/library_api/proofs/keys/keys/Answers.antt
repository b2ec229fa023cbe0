use Rattle.std.proofs.Common.{None, Some, ap, sym, ◌∙◌, subst}
use Rattle.bucket_core.specs.Calls.{keys_that_match, RefusesLook}
use Rattle.expr_clause.specs.declared.command.Command.TheVariants as commands
use Rattle.library_api.specs.Steps.{plain_reply, IsLegalForAll}
use Rattle.library_api.proofs.KeyLemmas.{numbers_of, keys_legal, keys_fault, keys_want_memory}
use Rattle.library_api.proofs.keys.keys.Goals as goal

pub returns-in-Ok-clause-legal : goal.returns-in-Ok-clause-legal
returns-in-Ok-clause-legal g c =
    let old = g.B.Bucket.seen c.args.bucket.now in
    let new = g.B.Bucket.seen c.list.new.self in
    let number = g.B.Bucket.number c.args.bucket.now in
    let before = g.B.Bucket.faults c.args.bucket.now in
    let now = g.B.Bucket.faults c.list.new.self in
    subst (IsLegalForAll number before now old new (commands.Keys c.args.symbol.now))
    (sym (c.plain.ensures ∙ ap (plain_reply c.in-Ok.listed.place) (c.counted.ensures ∙ ap numbers_of c.items.ensures)))
    (keys_legal number (g.B.Bucket.sole c.args.bucket.now) before now old new c.list.ensures.looks c.args.symbol.now c.in-Ok.listed.place c.in-Ok.listed.keys c.in-Ok.ensures.listed.place
    (c.in-Ok.ensures.listed.keys ∙ ap (λ name. keys_that_match new None (Some name)) c.name.ensures.same))

pub returns-in-Err-Fault-clause-legal : goal.returns-in-Err-Fault-clause-legal
returns-in-Err-Fault-clause-legal g c =
    let old = g.B.Bucket.seen c.args.bucket.now in
    let new = g.B.Bucket.seen c.list.new.self in
    let number = g.B.Bucket.number c.args.bucket.now in
    let before = g.B.Bucket.faults c.args.bucket.now in
    let now = g.B.Bucket.faults c.list.new.self in
    subst (IsLegalForAll number before now old new (commands.Keys c.args.symbol.now)) (sym c.refusal.ensures)
    (keys_fault number (g.B.Bucket.sole c.args.bucket.now) before now old new c.list.ensures.looks c.args.symbol.now c.place-place.result c.place-place.ensures (subst (RefusesLook before now) c.in-Err-Fault.field-0-is c.in-Err-Fault.ensures.refused))

pub returns-in-Err : goal.returns-in-Err
returns-in-Err g c =
    let old = g.B.Bucket.seen c.args.bucket.now in
    let new = g.B.Bucket.seen c.list.new.self in
    let number = g.B.Bucket.number c.args.bucket.now in
    let before = g.B.Bucket.faults c.args.bucket.now in
    let now = g.B.Bucket.faults c.list.new.self in
    record {
      looks = c.list.ensures.looks;
      steady = c.list.ensures.steady;
      legal = subst (IsLegalForAll number before now old new (commands.Keys c.args.symbol.now)) (sym c.refusal-in-Err.ensures)
          (keys_want_memory number (g.B.Bucket.sole c.args.bucket.now) before now old new c.list.ensures.looks c.args.symbol.now c.place-place.result c.place-place.ensures);
    }
