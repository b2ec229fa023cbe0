use Rattle.std.proofs.Common.{map}
use Rattle.std.proofs.lemmas.List.{map-append}
use Rattle.script_lang.proofs.Parts.{parts-on, parts-end}
use Rattle.script_lang.proofs.lines.parts_between.Goals as goal

pub returns-in-None : goal.returns-in-None
returns-in-None c =
    rw (c.in_ok-push.ensures.items, map-append)
    (parts-end c.args.separator c.part_len.result c.loop-parts.rest.now c.split_at.result.0.now c.split_at.result.1.now (map (λ part. part.now) c.loop-parts.parts.items) _
    c.part_len.ensures c.split_at.ensures.front c.split_at.ensures.back c.in-None.ensures.cases c.loop-parts.invariant)

pub loop-parts-preserved : goal.loop-parts-preserved
loop-parts-preserved c =
    rw (c.in_ok-push.ensures.items, map-append)
    (parts-on c.args.separator c.part_len.result c.in-Some.field-0-0.now c.loop-parts.rest.now c.split_at.result.0.now c.split_at.result.1.now c.in-Some.next.now (map (λ part. part.now) c.loop-parts.parts.items) _
    c.part_len.ensures c.split_at.ensures.front c.split_at.ensures.back c.in-Some.ensures.cases.0 c.loop-parts.invariant)
