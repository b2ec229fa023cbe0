use Rattle.std.proofs.Common.{◌≡◌, string_bytes, refl, max, get_or, rules, ◌-◌}
use Rattle.frame_core.proofs.Totals.{spans_from_ends, turn, longest_more, longest_end}
use Rattle.frame_core.proofs.texts.TextList.longest.Goals as goal

pub loop-end-init : goal.loop-end-init
loop-end-init c = record {
  spans = rw (← c.self.view_is, c.deref-end-items.ensures.value) (spans_from_ends 0 c.self.inside.ends.items (string_bytes c.self.inside.buffer) c.self.invariant);
  longest = refl;
}

pub overflow_sub-end : goal.overflow_sub-end
overflow_sub-end c = (turn _ _ _ _ 0 c.loop-end-test.true c.loop-end.invariant.spans).order

pub loop-end-preserved : goal.loop-end-preserved
loop-end-preserved c =
    let t = turn _ _ _ _ 0 c.loop-end-test.true c.loop-end.invariant.spans in
    let next : c.max-longest.result ≡ max c.loop-end.longest (get_or c.deref-end-items.result.now c.loop-end.end-index 0 - c.loop-end.start) = search rules in
    record { spans = t.spans; longest = longest_more _ _ _ _ _ _ _ _ t next c.loop-end.invariant.longest }

pub returns : goal.returns
returns c = longest_end _ _ _ _ _ _ c.loop-end-test.false c.loop-end.invariant.spans c.loop-end.invariant.longest
