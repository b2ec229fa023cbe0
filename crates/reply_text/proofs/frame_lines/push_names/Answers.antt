use Rattle.std.proofs.Common.{◌≡◌, ◌∙◌, List, Some, map, ap, subst, sym}
use Rattle.std.specs.Prelude.{slice_get, option_map}
use Rattle.frame_core.specs.Schemas.{Head, Schema}
use Rattle.reply_text.proofs.Commas.{further-more, got-at, slice_get-mapped}
use Rattle.reply_text.proofs.frame_lines.push_names.Goals as goal

pub loop-place-preserved : goal.loop-place-preserved
loop-place-preserved c =
    let here : slice_get c.args.frame.now.schema.columns c.loop-place.place ≡ Some c.head-item.result =
    subst (λ (heads : List Head). slice_get heads c.loop-place.place ≡ Some c.head-item.result) (c.columns-head-items.ensures ∙ ap (λ (s : Schema). s.columns) c.schema-2.ensures.schema)
    (got-at c.columns-head-items.result.now c.loop-place.place c.head-item.result c.loop-place-test.true c.head-item.is) in
    further-more c.timed-timed.result c.args.line.now.items c.loop-place.line.items c.push_comma.new.line.items c.push_text.new.line.items
    (map (λ (h : Head). h.0) c.args.frame.now.schema.columns) c.loop-place.place c.text.result.now
    (slice_get-mapped (λ (h : Head). h.0) c.args.frame.now.schema.columns c.loop-place.place ∙ (ap (λ o. option_map (λ (h : Head). h.0) o) here ∙ ap (λ t. Some t) (sym c.text.ensures.bytes)))
    c.loop-place.invariant c.in_ok-push_comma.ensures c.in_ok-push_text.ensures
