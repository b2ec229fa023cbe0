use Rattle.std.proofs.Common.{◌∙◌, rules, arith, w64, SFits}
use Rattle.std.proofs.lemmas.Int.{to_z-of_z}
use Rattle.std.proofs.lemmas.Option.{slice_get-map}
use Rattle.frame_core.specs.Frames.{Row, stamps_of}
use Rattle.frame_read.proofs.CopyLemmas.{part_same}
use Rattle.frame_read.proofs.copying.stamps_between.Goals as goal

pub loop-row-preserved : goal.loop-row-preserved
loop-row-preserved c =
    let fits : SFits w64 c.stamp.result = search rules in
    part_same c.loop-row.stamps c.push.new.self _ (stamps_of c.args.view.now.rows) c.stamp.result c.args.from c.loop-row.row (omega arith) c.loop-row.invariant (slice_get-map (λ (r : Row). r.stamp) c.args.view.now.rows c.loop-row.row ∙ c.stamp.ensures) c.in_ok-push.ensures.ok (to_z-of_z w64 c.stamp.result fits)
