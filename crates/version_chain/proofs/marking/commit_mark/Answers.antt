use Rattle.std.proofs.Common.{inl, inr, refl, sym, subst}
use Rattle.bucket_core.specs.History.{puts_by}
use Rattle.version_chain.specs.Marking.{DidMark, MarkMet}
use Rattle.version_chain.proofs.SteadyLemmas.{on_err, steady_then}
use Rattle.version_chain.proofs.MarkFlow.{marking_may_put, flow_put_stops, flow_may, flow_done, flow_fails, flow_own, flow_met, flow_drop_stops}
use Rattle.version_chain.proofs.marking.commit_mark.Goals as goal

pub put_element-requires : goal.put_element-requires
put_element-requires g c = record { put = marking_may_put _ _ _ _ _ c.args.marking c.requires.prepared.1.is _ _ refl refl }

pub returns-in_err-put_element-clause-did : goal.returns-in_err-put_element-clause-did
returns-in_err-put_element-clause-did g c = λ change prepared.
    on_err (DidMark (g.B.Bucket.number c.args.bucket.now) (g.B.Bucket.sole c.args.bucket.now) c.args.symbol.now c.args.state.now.place change (g.B.Bucket.limit c.args.bucket.now) (g.B.Bucket.faults c.args.bucket.now) (g.B.Bucket.faults c.put_element.new.bucket) (g.B.Bucket.seen c.args.bucket.now) (g.B.Bucket.seen c.put_element.new.bucket))
    c.from_residual.result c.in_err-put_element.field-0.0 c.from_residual.ensures.0 c.from_residual.ensures.1
    (flow_put_stops g.B.Bucket.number g.B.Bucket.limit g.B.Bucket.faults g.B.Bucket.sole g.B.Bucket.seen c.args.symbol.now c.args.state.now change (g.B.Bucket.number c.args.bucket.now) (puts_by (g.B.Bucket.number c.args.bucket.now) (g.B.Bucket.seen c.args.bucket.now)) c.args.marking prepared.is
    c.args.bucket.now c.put_element.new.bucket prepared.may c.in_err-put_element.field-0.0 c.in_err-put_element.ensures.did)

pub refer-requires-clause-may : goal.refer-requires-clause-may
refer-requires-clause-may g c =
    flow_may g.B.Bucket.number g.B.Bucket.limit g.B.Bucket.faults g.B.Bucket.sole g.B.Bucket.seen c.args.symbol.now c.args.state.now c.requires.prepared.0 (g.B.Bucket.number c.args.bucket.now) (puts_by (g.B.Bucket.number c.args.bucket.now) (g.B.Bucket.seen c.args.bucket.now)) c.args.marking c.requires.prepared.1.is
    c.args.bucket.now c.put_element.new.bucket c.requires.prepared.1.may c.put_element.ensures.steady (g.met.B.Bucket.lawful c.put_element.new.bucket) c.in_ok-put_element.ensures.did _ c.as_ref.ensures.value

pub refer-requires-clause-mark : goal.refer-requires-clause-mark
refer-requires-clause-mark g c = c.requires.prepared.1.is.mark

pub returns-in-Ok-clause-did : goal.returns-in-Ok-clause-did
returns-in-Ok-clause-did g c = λ change prepared.
    flow_done g.B.Bucket.number g.B.Bucket.limit g.B.Bucket.faults g.B.Bucket.sole g.B.Bucket.seen c.args.symbol.now c.args.state.now change (g.B.Bucket.number c.args.bucket.now) (puts_by (g.B.Bucket.number c.args.bucket.now) (g.B.Bucket.seen c.args.bucket.now)) c.args.marking prepared.is
    c.args.bucket.now c.put_element.new.bucket prepared.may c.put_element.ensures.steady (g.met.B.Bucket.lawful c.put_element.new.bucket) c.in_ok-put_element.ensures.did _ c.as_ref.ensures.value
    c.refer.new.self c.refer.ensures.steady (g.met.B.Bucket.lawful c.refer.new.self) c.in-Ok.place c.in-Ok.ensures.did

pub returns-in_default : goal.returns-in_default
returns-in_default g c = record {
  steady = steady_then g.B.Bucket.number g.B.Bucket.limit g.B.Bucket.faults g.B.Bucket.sole c.args.bucket.now c.put_element.new.bucket c.put_element.ensures.steady c.refer.new.self c.refer.ensures.steady;
  did = λ change prepared.
      flow_fails g.B.Bucket.number g.B.Bucket.limit g.B.Bucket.faults g.B.Bucket.sole g.B.Bucket.seen c.args.symbol.now c.args.state.now change (g.B.Bucket.number c.args.bucket.now) (puts_by (g.B.Bucket.number c.args.bucket.now) (g.B.Bucket.seen c.args.bucket.now)) c.args.marking prepared.is
      c.args.bucket.now c.put_element.new.bucket prepared.may c.put_element.ensures.steady (g.met.B.Bucket.lawful c.put_element.new.bucket) c.in_ok-put_element.ensures.did _ c.as_ref.ensures.value
      c.refer.new.self c.refer.ensures.steady (g.met.B.Bucket.lawful c.refer.new.self) c.in-Err.err _ _ c.in_default.not-Moved c.place-place.ensures c.refused_by.ensures c.in-Err.ensures.did;
}

pub undo-requires : goal.undo-requires
undo-requires g c = record {
  own = flow_own g.B.Bucket.number g.B.Bucket.limit g.B.Bucket.faults g.B.Bucket.sole g.B.Bucket.seen c.args.symbol.now c.args.state.now c.requires.prepared.0 (g.B.Bucket.number c.args.bucket.now) (puts_by (g.B.Bucket.number c.args.bucket.now) (g.B.Bucket.seen c.args.bucket.now)) c.args.marking c.requires.prepared.1.is
      c.args.bucket.now c.put_element.new.bucket c.requires.prepared.1.may c.put_element.ensures.steady (g.met.B.Bucket.lawful c.put_element.new.bucket) c.in_ok-put_element.ensures.did _ c.as_ref.ensures.value
      c.refer.new.self c.refer.ensures.steady (g.met.B.Bucket.lawful c.refer.new.self) c.in-Moved.now c.in-Err.err c.in-Moved.is c.in-Err.ensures.did;
}

pub returns-clause-did : goal.returns-clause-did
returns-clause-did g c = λ change prepared. elim c.undo.ensures.did [
  | inl met ↦ inl (subst (MarkMet (g.B.Bucket.number c.args.bucket.now) (g.B.Bucket.sole c.args.bucket.now) c.args.symbol.now c.args.state.now.place change (g.B.Bucket.seen c.args.bucket.now) (g.B.Bucket.seen c.undo.new.bucket)) (sym met.1) (
      flow_met g.B.Bucket.number g.B.Bucket.limit g.B.Bucket.faults g.B.Bucket.sole g.B.Bucket.seen c.args.symbol.now c.args.state.now change (g.B.Bucket.number c.args.bucket.now) (puts_by (g.B.Bucket.number c.args.bucket.now) (g.B.Bucket.seen c.args.bucket.now)) c.args.marking prepared.is
      c.args.bucket.now c.put_element.new.bucket prepared.may c.put_element.ensures.steady (g.met.B.Bucket.lawful c.put_element.new.bucket) c.in_ok-put_element.ensures.did _ c.as_ref.ensures.value
      c.refer.new.self c.refer.ensures.steady (g.met.B.Bucket.lawful c.refer.new.self) c.in-Moved.now c.in-Err.err c.in-Moved.is c.in-Err.ensures.did
      c.undo.new.bucket met.0))
  | inr stopped ↦
      flow_drop_stops g.B.Bucket.number g.B.Bucket.limit g.B.Bucket.faults g.B.Bucket.sole g.B.Bucket.seen c.args.symbol.now c.args.state.now change (g.B.Bucket.number c.args.bucket.now) (puts_by (g.B.Bucket.number c.args.bucket.now) (g.B.Bucket.seen c.args.bucket.now)) c.args.marking prepared.is
      c.args.bucket.now c.put_element.new.bucket prepared.may c.put_element.ensures.steady (g.met.B.Bucket.lawful c.put_element.new.bucket) c.in_ok-put_element.ensures.did _ c.as_ref.ensures.value
      c.refer.new.self c.refer.ensures.steady (g.met.B.Bucket.lawful c.refer.new.self) c.in-Moved.now c.in-Err.err c.in-Moved.is c.in-Err.ensures.did
      c.undo.new.bucket c.undo.result stopped
]
