use Rattle.std.proofs.Common.{refl, sym, ap, ◌∙◌, subst, map}
use Rattle.std.specs.Prelude.{Contains, IfErr}
use Rattle.index_tree.specs.declared.index.Slot.{Slot}
use Rattle.store_model.specs.Law.{IsClaimed}
use Rattle.store_model.specs.Links.{Linked}
use Rattle.version_chain.proofs.SteadyLemmas.{on_err}
use Rattle.frame_read.specs.Fetches.{LacksKey, IsReached, IsSlotKey}
use Rattle.frame_read.proofs.FetchLemmas.{lacks_weaker}
use Rattle.frame_read.proofs.GatherSteps.{all-at}
use Rattle.frame_read.proofs.LoopLemmas.{looks_more, steady_more, index_later, slot_reached, key_in, got_more, at_ok}
use Rattle.frame_read.proofs.fetching.get_tiles.Goals as goal

pub get_reached-requires : goal.get_reached-requires
get_reached-requires g c =
    let index = c.requires.slots.0 in
    record {
      reached = slot_reached (g.B.Bucket.seen c.loop-slot.bucket) c.args.target.now index c.slot-item.result
          (index_later c.loop-slot.invariant.looks.others (g.B.Bucket.seen c.args.bucket.now) (g.B.Bucket.seen c.loop-slot.bucket) c.args.target.now index c.loop-slot.invariant.looks.is c.requires.slots.1)
          (all-at (Contains index.slots) c.args.slots.now c.slot-item.result c.loop-slot.slot-index c.requires.slots.2 c.loop-slot-test.true c.slot-item.is);
    }

pub returns-in_err-body-clause-looks : goal.returns-in_err-body-clause-looks
returns-in_err-body-clause-looks g c =
    looks_more IsClaimed (g.B.Bucket.number c.args.bucket.now) (g.B.Bucket.sole c.args.bucket.now) (g.B.Bucket.number c.loop-slot.bucket) (g.B.Bucket.sole c.loop-slot.bucket)
    (g.B.Bucket.seen c.args.bucket.now) (g.B.Bucket.seen c.loop-slot.bucket) (g.B.Bucket.seen c.get_reached.new.bucket)
    c.loop-slot.invariant.steady.same_number c.loop-slot.invariant.steady.stays_sole c.loop-slot.invariant.looks c.get_reached.ensures.looks

pub returns-then-is_err-clause-looks : goal.returns-then-is_err-clause-looks
returns-then-is_err-clause-looks g c =
    looks_more IsClaimed (g.B.Bucket.number c.args.bucket.now) (g.B.Bucket.sole c.args.bucket.now) (g.B.Bucket.number c.loop-slot.bucket) (g.B.Bucket.sole c.loop-slot.bucket)
    (g.B.Bucket.seen c.args.bucket.now) (g.B.Bucket.seen c.loop-slot.bucket) (g.B.Bucket.seen c.get_reached.new.bucket)
    c.loop-slot.invariant.steady.same_number c.loop-slot.invariant.steady.stays_sole c.loop-slot.invariant.looks c.get_reached.ensures.looks

pub loop-slot-preserved : goal.loop-slot-preserved
loop-slot-preserved g c = record {
  looks = looks_more IsClaimed (g.B.Bucket.number c.args.bucket.now) (g.B.Bucket.sole c.args.bucket.now) (g.B.Bucket.number c.loop-slot.bucket) (g.B.Bucket.sole c.loop-slot.bucket)
      (g.B.Bucket.seen c.args.bucket.now) (g.B.Bucket.seen c.loop-slot.bucket) (g.B.Bucket.seen c.get_reached.new.bucket)
      c.loop-slot.invariant.steady.same_number c.loop-slot.invariant.steady.stays_sole c.loop-slot.invariant.looks c.get_reached.ensures.looks;
  steady = steady_more g.B.Bucket.number g.B.Bucket.limit g.B.Bucket.faults g.B.Bucket.sole c.args.bucket.now c.loop-slot.bucket c.get_reached.new.bucket c.loop-slot.invariant.steady c.get_reached.ensures.steady;
  tiles = got_more c.get_reached.ensures.looks.others (g.B.Bucket.seen c.loop-slot.bucket) (g.B.Bucket.seen c.get_reached.new.bucket) c.args.slots.now c.slot-item.result c.loop-slot.slot-index c.loop-slot.tiles c.push.new.self _
      c.get_reached.ensures.looks.is (g.met.B.Bucket.lawful c.get_reached.new.bucket) c.loop-slot-test.true c.slot-item.is c.loop-slot.invariant.tiles
      (at_ok c.push.result _ (sym c.is_err.ensures.value ∙ c.if-is_err.false) c.push.ensures.ok)
      (record { part = refl; body = c.in_ok-body.ensures.body });
}

pub returns-in_err-body-clause-lacks : goal.returns-in_err-body-clause-lacks
returns-in_err-body-clause-lacks g c = λ index is all.
    let mid = g.B.Bucket.seen c.loop-slot.bucket in
    let new = g.B.Bucket.seen c.get_reached.new.bucket in
    let there = index_later c.loop-slot.invariant.looks.others (g.B.Bucket.seen c.args.bucket.now) mid c.args.target.now index c.loop-slot.invariant.looks.is is in
    let reaches = slot_reached mid c.args.target.now index c.slot-item.result there
    (all-at (Contains index.slots) c.args.slots.now c.slot-item.result c.loop-slot.slot-index all c.loop-slot-test.true c.slot-item.is) in
    let here : Contains c.args.slots.now c.slot-item.result = (c.loop-slot.slot-index, c.loop-slot-test.true, sym c.slot-item.is) in
    on_err (λ r. IfErr r (LacksKey new c.args.target.now (IsSlotKey index c.args.slots.now))) c.from_residual.result c.in_err-body.field-0.0 c.from_residual.ensures.0 c.from_residual.ensures.1
    (lacks_weaker new c.args.target.now.symbol c.args.target.now.version (IsReached reaches.link c.slot-item.result.key) (IsSlotKey index c.args.slots.now) c.in_err-body.field-0.0.place
    (λ link key s. (ap (λ (l : Linked). l.index) s.0 ∙ is.is, subst (Contains (map (λ (s : Slot). s.key) c.args.slots.now)) (sym s.1) (key_in c.args.slots.now c.slot-item.result here)))
    c.in_err-body.field-0.0.why (c.in_err-body.ensures.lacks reaches))
