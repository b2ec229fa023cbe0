use Rattle.std.specs.Prelude.{IfErr}
use Rattle.std.specs.Arc.{arc_value}
use Rattle.version_chain.proofs.SteadyLemmas.{on_err}
use Rattle.frame_read.specs.Fetches.{LacksKey, IsIndexKey}
use Rattle.frame_read.proofs.FetchLemmas.{target_reaches, lacks_index, target_index, target_spelled}
use Rattle.frame_read.proofs.objects.packed_index_of.Goals as goal

pub get_reached-requires : goal.get_reached-requires
get_reached-requires g c = record { reached = target_reaches (g.B.Bucket.seen c.args.bucket.now) c.args.target.now c.requires.linked }

pub open-requires : goal.open-requires
open-requires g c = record {
  spelled = target_spelled (g.B.Bucket.seen c.args.bucket.now) c.get_reached.ensures.looks.others (g.B.Bucket.seen c.get_reached.new.bucket) c.args.target.now (arc_value c.in_ok-body.body)
      (g.met.B.Bucket.lawful c.get_reached.new.bucket) c.get_reached.ensures.looks.is c.requires.linked c.in_ok-body.ensures.body;
}

pub returns-in-Ok-clause-index : goal.returns-in-Ok-clause-index
returns-in-Ok-clause-index g c =
    target_index (g.B.Bucket.seen c.args.bucket.now) c.get_reached.ensures.looks.others (g.B.Bucket.seen c.get_reached.new.bucket) c.args.target.now (arc_value c.in_ok-body.body) c.in-Ok.index
    (g.met.B.Bucket.lawful c.get_reached.new.bucket) c.get_reached.ensures.looks.is c.requires.linked c.in_ok-body.ensures.body c.in-Ok.ensures.found

pub returns-in_err-body-clause-lacks : goal.returns-in_err-body-clause-lacks
returns-in_err-body-clause-lacks g c =
    let new = g.B.Bucket.seen c.get_reached.new.bucket in
    on_err (λ r. IfErr r (LacksKey new c.args.target.now IsIndexKey)) c.from_residual.result c.in_err-body.field-0.0 c.from_residual.ensures.0 c.from_residual.ensures.1
    (lacks_index (g.B.Bucket.seen c.args.bucket.now) new c.args.target.now c.requires.linked c.in_err-body.field-0.0
    (c.in_err-body.ensures.lacks (target_reaches (g.B.Bucket.seen c.args.bucket.now) c.args.target.now c.requires.linked)))
