use Rattle.std.proofs.Common.{◌≡◌, ◌+◌, suc, length, map, Some, refl, ap, sym, ◌∙◌, arith}
use Rattle.bucket_core.specs.Contents.{shown}
use Rattle.bucket_core.specs.Calls.{refer_event}
use Rattle.bucket_core.proofs.AfterEvents.{head_in-refer}
use Rattle.bucket_core.proofs.ShowingLemmas.{Shows-body, OnErr_anyway}
use Rattle.bucket_core.proofs.contents.Contents.refer.Goals as goal

pub returns-clause-ok : goal.returns-clause-ok
returns-clause-ok c = λ h client was list shows is spelled.
    let place : c.args.self.now.count + 1 ≡ suc (length h) = omega (arith, shows.count) in
    Shows-body c.args.self.now _ c.args.key (record { body = c.args.mark; since = c.args.self.now.count + 1 }) h (refer_event client c.args.symbol was c.args.entry list) shows
    c.in_ok-put_entry.ensures.ok (omega arith) (omega arith) (sym is) (ap Some (sym spelled))
    (head_in-refer c.make_room.new.self c.set.new.self c.args.symbol (record { entry = Some c.args.entry; since = c.args.self.now.count + 1 }) client c.args.symbol was c.args.entry list h
    c.set.ensures (λ s. c.make_room.ensures.same s ∙ shows.heads s) refl (λ i. record { entry = Some c.args.entry; since = place i }))

pub returns-in_err-make_room-clause-err : goal.returns-in_err-make_room-clause-err
returns-in_err-make_room-clause-err c = OnErr_anyway c.from_residual.result (λ h shows. record {
  count = shows.count;
  entries = shows.entries;
  heads = λ s. c.make_room.ensures.same s ∙ shows.heads s;
})

pub returns-in_err-put_entry-clause-err : goal.returns-in_err-put_entry-clause-err
returns-in_err-put_entry-clause-err c = OnErr_anyway c.from_residual-in_err-put_entry.result (λ h shows. record {
  count = shows.count;
  entries = ap (map shown) c.in_err-put_entry.ensures.err ∙ shows.entries;
  heads = λ s. c.make_room.ensures.same s ∙ shows.heads s;
})
