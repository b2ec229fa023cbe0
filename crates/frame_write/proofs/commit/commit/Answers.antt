use Rattle.std.proofs.Common.{ap, inl, inr, length, subst, sym, ◌∙◌, Ok, Err, refl}
use Rattle.std.specs.Prelude.{map}
use Rattle.std.specs.Arc.{arc_value}
use Rattle.bucket_core.specs.declared.answer.StoreErr.{StoreErr}
use Rattle.bucket_core.specs.History.{puts_by}
use Rattle.bucket_core.specs.Calls.{MayTryRefer, refer_event, RefusesRefer, DidChange}
use Rattle.store_model.specs.Law.{IsClaimed}
use Rattle.store_model.specs.Library.{state_of}
use Rattle.store_model.specs.OwnPuts.{AreOwnPuts}
use Rattle.reply_model.specs.Tries.{put_of, drop_of}
use Rattle.version_chain.specs.Traces.{Went}
use Rattle.version_chain.specs.Stops.{refused_by}
use Rattle.frame_write.specs.PutCalls.{PutAll, StoppedCalls}
use Rattle.frame_write.specs.Plans.{IsMadeBy, ArePutsFrom, puts_seen}
use Rattle.frame_write.specs.Tries.{DidTry, DidMeet, DidFail}
use Rattle.version_chain.proofs.SteadyLemmas.{on_err, steady_then, change_steady, went_steady}
use Rattle.frame_write.proofs.SteadyLemmas.{stops_steady}
use Rattle.frame_write.proofs.CommitLemmas.{puts_stop, refer_may, commit_stands, refer_fails, still_own, try_met, drops_stop}
use Rattle.frame_write.proofs.commit.commit.Goals as goal

pub put_all-requires : goal.put_all-requires
put_all-requires g c = record {
  puts = subst (λ ps. ArePutsFrom (g.B.Bucket.number c.args.bucket.now) (puts_by (g.B.Bucket.number c.args.bucket.now) (g.B.Bucket.seen c.args.bucket.now)) (puts_seen ps)) (sym c.items.ensures) c.requires.planned.1.is_plan.puts;
}

pub returns-in_err-put_all-clause-did : goal.returns-in_err-put_all-clause-did
returns-in_err-put_all-clause-did g c = λ index p.
    on_err (DidTry (g.B.Bucket.number c.args.bucket.now) (g.B.Bucket.sole c.args.bucket.now) c.args.symbol.now (IsMadeBy c.args.symbol.now (state_of p.before c.args.symbol.now) index c.args.plan) (g.B.Bucket.limit c.args.bucket.now) (g.B.Bucket.faults c.args.bucket.now) (g.B.Bucket.faults c.put_all.new.bucket) (length p.before) (g.B.Bucket.seen c.args.bucket.now) (g.B.Bucket.seen c.put_all.new.bucket))
    c.from_residual.result c.in_err-put_all.field-0.0 c.from_residual.ensures.0 c.from_residual.ensures.1
    (inr (inl (puts_stop (g.B.Bucket.number c.args.bucket.now) (g.B.Bucket.sole c.args.bucket.now) c.args.symbol.now (g.B.Bucket.limit c.args.bucket.now) (g.B.Bucket.faults c.args.bucket.now) (g.B.Bucket.faults c.put_all.new.bucket) (length p.before) (g.B.Bucket.seen c.args.bucket.now) (g.B.Bucket.seen c.put_all.new.bucket) (puts_seen c.args.plan.puts) c.args.plan.entry c.in_err-put_all.field-0.0 p.is_plan.is_try
    (subst (λ ps. StoppedCalls (g.B.Bucket.number c.args.bucket.now) (g.B.Bucket.sole c.args.bucket.now) (g.B.Bucket.limit c.args.bucket.now) (g.B.Bucket.faults c.args.bucket.now) (g.B.Bucket.faults c.put_all.new.bucket) (g.B.Bucket.seen c.args.bucket.now) (g.B.Bucket.seen c.put_all.new.bucket) (map (put_of (g.B.Bucket.number c.args.bucket.now)) (puts_seen ps)) c.in_err-put_all.field-0.0) c.items.ensures c.in_err-put_all.ensures.did))))

pub refer-requires-clause-may : goal.refer-requires-clause-may
refer-requires-clause-may g c =
    let puts = subst (λ ps. PutAll (g.B.Bucket.number c.args.bucket.now) (g.B.Bucket.sole c.args.bucket.now) (g.B.Bucket.seen c.args.bucket.now) (g.B.Bucket.seen c.put_all.new.bucket) (puts_seen ps)) c.items.ensures c.in_ok-put_all.ensures.did in
    subst (λ n. MayTryRefer IsClaimed (g.B.Bucket.seen c.put_all.new.bucket) n c.args.symbol.now c.args.plan.was c.args.plan.entry (arc_value c.args.plan.changes)) (sym c.put_all.ensures.steady.same_number)
    (refer_may (g.B.Bucket.number c.args.bucket.now) (g.B.Bucket.sole c.args.bucket.now) c.args.symbol.now (g.B.Bucket.limit c.args.bucket.now) (g.B.Bucket.faults c.args.bucket.now) (g.B.Bucket.seen c.args.bucket.now) (g.B.Bucket.seen c.put_all.new.bucket) c.requires.planned.0 c.args.plan c.requires.planned.1 puts (g.met.B.Bucket.lawful c.put_all.new.bucket))

pub refer-requires-clause-mark : goal.refer-requires-clause-mark
refer-requires-clause-mark g c = c.requires.planned.1.is_plan.mark

pub returns-in-Ok-clause-did : goal.returns-in-Ok-clause-did
returns-in-Ok-clause-did g c = λ index p.
    let puts = subst (λ ps. PutAll (g.B.Bucket.number c.args.bucket.now) (g.B.Bucket.sole c.args.bucket.now) (g.B.Bucket.seen c.args.bucket.now) (g.B.Bucket.seen c.put_all.new.bucket) (puts_seen ps)) c.items.ensures c.in_ok-put_all.ensures.did in
    let did = change_steady g.B.Bucket.number g.B.Bucket.limit g.B.Bucket.faults g.B.Bucket.sole c.args.bucket.now c.put_all.new.bucket c.put_all.ensures.steady (g.B.Bucket.faults c.refer.new.bucket) (g.B.Bucket.seen c.put_all.new.bucket) (g.B.Bucket.seen c.refer.new.bucket) (λ n. refer_event n c.args.symbol.now c.args.plan.was c.args.plan.entry (arc_value c.args.plan.changes)) (λ l. RefusesRefer l c.args.symbol.now c.args.plan.was) (Ok c.in-Ok.place)
    c.in-Ok.ensures.did in
    commit_stands (g.B.Bucket.number c.args.bucket.now) (g.B.Bucket.sole c.args.bucket.now) c.args.symbol.now (g.B.Bucket.limit c.args.bucket.now) (g.B.Bucket.faults c.args.bucket.now) (g.B.Bucket.seen c.args.bucket.now) (g.B.Bucket.seen c.put_all.new.bucket) index c.args.plan p puts (g.B.Bucket.seen c.refer.new.bucket) did.0 (g.met.B.Bucket.lawful c.refer.new.bucket) (record { version = c.args.plan.version; place = c.in-Ok.place }) refl did.1

pub returns-in_default : goal.returns-in_default
returns-in_default g c =
    let puts = subst (λ ps. PutAll (g.B.Bucket.number c.args.bucket.now) (g.B.Bucket.sole c.args.bucket.now) (g.B.Bucket.seen c.args.bucket.now) (g.B.Bucket.seen c.put_all.new.bucket) (puts_seen ps)) c.items.ensures c.in_ok-put_all.ensures.did in
    let did = change_steady g.B.Bucket.number g.B.Bucket.limit g.B.Bucket.faults g.B.Bucket.sole c.args.bucket.now c.put_all.new.bucket c.put_all.ensures.steady (g.B.Bucket.faults c.refer.new.bucket) (g.B.Bucket.seen c.put_all.new.bucket) (g.B.Bucket.seen c.refer.new.bucket) (λ n. refer_event n c.args.symbol.now c.args.plan.was c.args.plan.entry (arc_value c.args.plan.changes)) (λ l. RefusesRefer l c.args.symbol.now c.args.plan.was) (Err c.in-Err.err)
    c.in-Err.ensures.did in
    let steady = steady_then g.B.Bucket.number g.B.Bucket.limit g.B.Bucket.faults g.B.Bucket.sole c.args.bucket.now c.put_all.new.bucket c.put_all.ensures.steady c.refer.new.bucket c.refer.ensures.steady in
    record {
      steady = steady;
      did = λ index p. inr (subst (DidFail (g.B.Bucket.number c.args.bucket.now) (g.B.Bucket.sole c.args.bucket.now) c.args.symbol.now (IsMadeBy c.args.symbol.now (state_of p.before c.args.symbol.now) index c.args.plan) (g.B.Bucket.limit c.args.bucket.now) (g.B.Bucket.faults c.args.bucket.now) (g.B.Bucket.faults c.refer.new.bucket) (length p.before) (g.B.Bucket.seen c.args.bucket.now) (g.B.Bucket.seen c.refer.new.bucket)) (sym (c.refused_by.ensures ∙ ap (λ n. refused_by n c.in-Err.err) c.place-place.ensures))
          (refer_fails (g.B.Bucket.number c.args.bucket.now) (g.B.Bucket.sole c.args.bucket.now) c.args.symbol.now (g.B.Bucket.limit c.args.bucket.now) (g.B.Bucket.faults c.args.bucket.now) (g.B.Bucket.seen c.args.bucket.now) (g.B.Bucket.seen c.put_all.new.bucket) index c.args.plan p puts (g.B.Bucket.faults c.refer.new.bucket) (g.B.Bucket.seen c.refer.new.bucket) c.in-Err.err c.in_default.not-Moved (g.met.B.Bucket.lawful c.refer.new.bucket) did));
    }

pub undo-requires-clause-own : goal.undo-requires-clause-own
undo-requires-clause-own g c =
    let puts = subst (λ ps. PutAll (g.B.Bucket.number c.args.bucket.now) (g.B.Bucket.sole c.args.bucket.now) (g.B.Bucket.seen c.args.bucket.now) (g.B.Bucket.seen c.put_all.new.bucket) (puts_seen ps)) c.items.ensures c.in_ok-put_all.ensures.did in
    let did = change_steady g.B.Bucket.number g.B.Bucket.limit g.B.Bucket.faults g.B.Bucket.sole c.args.bucket.now c.put_all.new.bucket c.put_all.ensures.steady (g.B.Bucket.faults c.refer.new.bucket) (g.B.Bucket.seen c.put_all.new.bucket) (g.B.Bucket.seen c.refer.new.bucket) (λ n. refer_event n c.args.symbol.now c.args.plan.was c.args.plan.entry (arc_value c.args.plan.changes)) (λ l. RefusesRefer l c.args.symbol.now c.args.plan.was) (Err c.in-Err.err)
    c.in-Err.ensures.did in
    let moved = subst (λ (e : StoreErr). DidChange IsClaimed (g.B.Bucket.number c.args.bucket.now) (g.B.Bucket.sole c.args.bucket.now) (g.B.Bucket.limit c.args.bucket.now) (g.B.Bucket.faults c.args.bucket.now) (g.B.Bucket.faults c.refer.new.bucket) (g.B.Bucket.seen c.put_all.new.bucket) (g.B.Bucket.seen c.refer.new.bucket) (refer_event (g.B.Bucket.number c.args.bucket.now) c.args.symbol.now c.args.plan.was c.args.plan.entry (arc_value c.args.plan.changes)) (RefusesRefer (g.B.Bucket.limit c.args.bucket.now) c.args.symbol.now c.args.plan.was) (Err e)) c.in-Moved.is did in
    let steady = steady_then g.B.Bucket.number g.B.Bucket.limit g.B.Bucket.faults g.B.Bucket.sole c.args.bucket.now c.put_all.new.bucket c.put_all.ensures.steady c.refer.new.bucket c.refer.ensures.steady in
    subst (λ ps. AreOwnPuts (g.B.Bucket.seen c.refer.new.bucket) (g.B.Bucket.number c.refer.new.bucket) (puts_seen ps)) (sym c.items-2.ensures)
    (subst (λ n. AreOwnPuts (g.B.Bucket.seen c.refer.new.bucket) n (puts_seen c.args.plan.puts)) (sym steady.same_number)
    (still_own (g.B.Bucket.number c.args.bucket.now) (g.B.Bucket.sole c.args.bucket.now) c.args.symbol.now (g.B.Bucket.limit c.args.bucket.now) (g.B.Bucket.faults c.args.bucket.now) (g.B.Bucket.seen c.args.bucket.now) (g.B.Bucket.seen c.put_all.new.bucket) c.requires.planned.0 c.args.plan c.requires.planned.1 puts (g.B.Bucket.seen c.refer.new.bucket) moved.0 c.in-Moved.now moved.1 (g.met.B.Bucket.lawful c.refer.new.bucket)))

pub undo-requires-clause-apart : goal.undo-requires-clause-apart
undo-requires-clause-apart g c =
    let steady = steady_then g.B.Bucket.number g.B.Bucket.limit g.B.Bucket.faults g.B.Bucket.sole c.args.bucket.now c.put_all.new.bucket c.put_all.ensures.steady c.refer.new.bucket c.refer.ensures.steady in (
      puts_by (g.B.Bucket.number c.args.bucket.now) (g.B.Bucket.seen c.args.bucket.now),
      subst (λ ps. ArePutsFrom (g.B.Bucket.number c.refer.new.bucket) (puts_by (g.B.Bucket.number c.args.bucket.now) (g.B.Bucket.seen c.args.bucket.now)) (puts_seen ps)) (sym c.items-2.ensures)
          (subst (λ n. ArePutsFrom n (puts_by (g.B.Bucket.number c.args.bucket.now) (g.B.Bucket.seen c.args.bucket.now)) (puts_seen c.args.plan.puts)) (sym steady.same_number) c.requires.planned.1.is_plan.puts),
    )

pub returns-clause-did : goal.returns-clause-did
returns-clause-did g c = λ index p.
    let puts = subst (λ ps. PutAll (g.B.Bucket.number c.args.bucket.now) (g.B.Bucket.sole c.args.bucket.now) (g.B.Bucket.seen c.args.bucket.now) (g.B.Bucket.seen c.put_all.new.bucket) (puts_seen ps)) c.items.ensures c.in_ok-put_all.ensures.did in
    let did = change_steady g.B.Bucket.number g.B.Bucket.limit g.B.Bucket.faults g.B.Bucket.sole c.args.bucket.now c.put_all.new.bucket c.put_all.ensures.steady (g.B.Bucket.faults c.refer.new.bucket) (g.B.Bucket.seen c.put_all.new.bucket) (g.B.Bucket.seen c.refer.new.bucket) (λ n. refer_event n c.args.symbol.now c.args.plan.was c.args.plan.entry (arc_value c.args.plan.changes)) (λ l. RefusesRefer l c.args.symbol.now c.args.plan.was) (Err c.in-Err.err)
    c.in-Err.ensures.did in
    let moved = subst (λ (e : StoreErr). DidChange IsClaimed (g.B.Bucket.number c.args.bucket.now) (g.B.Bucket.sole c.args.bucket.now) (g.B.Bucket.limit c.args.bucket.now) (g.B.Bucket.faults c.args.bucket.now) (g.B.Bucket.faults c.refer.new.bucket) (g.B.Bucket.seen c.put_all.new.bucket) (g.B.Bucket.seen c.refer.new.bucket) (refer_event (g.B.Bucket.number c.args.bucket.now) c.args.symbol.now c.args.plan.was c.args.plan.entry (arc_value c.args.plan.changes)) (RefusesRefer (g.B.Bucket.limit c.args.bucket.now) c.args.symbol.now c.args.plan.was) (Err e)) c.in-Moved.is did in
    let steady = steady_then g.B.Bucket.number g.B.Bucket.limit g.B.Bucket.faults g.B.Bucket.sole c.args.bucket.now c.put_all.new.bucket c.put_all.ensures.steady c.refer.new.bucket c.refer.ensures.steady in
    elim c.undo.ensures.did [
      | inl met ↦ inl (subst (DidMeet (g.B.Bucket.number c.args.bucket.now) (g.B.Bucket.sole c.args.bucket.now) c.args.symbol.now (length p.before) (g.B.Bucket.seen c.args.bucket.now) (g.B.Bucket.seen c.undo.new.bucket)) (sym met.1)
          (try_met (g.B.Bucket.number c.args.bucket.now) (g.B.Bucket.sole c.args.bucket.now) c.args.symbol.now (g.B.Bucket.limit c.args.bucket.now) (g.B.Bucket.faults c.args.bucket.now) (g.B.Bucket.seen c.args.bucket.now) (g.B.Bucket.seen c.put_all.new.bucket) index c.args.plan p puts (g.B.Bucket.seen c.refer.new.bucket) moved.0 c.in-Moved.now moved.1 (g.B.Bucket.seen c.undo.new.bucket)
          (went_steady g.B.Bucket.number g.B.Bucket.limit g.B.Bucket.faults g.B.Bucket.sole c.args.bucket.now c.refer.new.bucket steady (g.B.Bucket.seen c.refer.new.bucket) (g.B.Bucket.seen c.undo.new.bucket) (λ n. map (drop_of n) (puts_seen c.args.plan.puts))
          (subst (λ ps. Went (g.B.Bucket.number c.refer.new.bucket) (g.B.Bucket.sole c.refer.new.bucket) (g.B.Bucket.seen c.refer.new.bucket) (g.B.Bucket.seen c.undo.new.bucket) (map (drop_of (g.B.Bucket.number c.refer.new.bucket)) (puts_seen ps))) c.items-2.ensures met.0))))
      | inr stopped ↦ inr (inl (drops_stop (g.B.Bucket.number c.args.bucket.now) (g.B.Bucket.sole c.args.bucket.now) c.args.symbol.now (g.B.Bucket.limit c.args.bucket.now) (g.B.Bucket.faults c.args.bucket.now) (g.B.Bucket.seen c.args.bucket.now) (g.B.Bucket.seen c.put_all.new.bucket) index c.args.plan p puts (g.B.Bucket.seen c.refer.new.bucket) moved.0 c.in-Moved.now moved.1 (g.B.Bucket.faults c.undo.new.bucket) (g.B.Bucket.seen c.undo.new.bucket) c.undo.result
          (stops_steady g.B.Bucket.number g.B.Bucket.limit g.B.Bucket.faults g.B.Bucket.sole c.args.bucket.now c.refer.new.bucket steady (g.B.Bucket.faults c.undo.new.bucket) (g.B.Bucket.seen c.refer.new.bucket) (g.B.Bucket.seen c.undo.new.bucket) (λ n. map (drop_of n) (puts_seen c.args.plan.puts)) c.undo.result
          (subst (λ ps. StoppedCalls (g.B.Bucket.number c.refer.new.bucket) (g.B.Bucket.sole c.refer.new.bucket) (g.B.Bucket.limit c.refer.new.bucket) (g.B.Bucket.faults c.refer.new.bucket) (g.B.Bucket.faults c.undo.new.bucket) (g.B.Bucket.seen c.refer.new.bucket) (g.B.Bucket.seen c.undo.new.bucket) (map (drop_of (g.B.Bucket.number c.refer.new.bucket)) (puts_seen ps)) c.undo.result) c.items-2.ensures stopped))))
    ]
