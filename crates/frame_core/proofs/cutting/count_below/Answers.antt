use Rattle.std.proofs.Common.{rules}
use Rattle.std.specs.Prelude.{int_lt}
use Rattle.std.proofs.lemmas.List.Sorted.{IsPartitionPoint-from_clause}
use Rattle.frame_core.proofs.Counts.{parted_below, count_at_point, below_none, below_some}
use Rattle.frame_core.proofs.cutting.count_below.Goals as goal

pub returns-in-Some-clause-count : goal.returns-in-Some-clause-count
returns-in-Some-clause-count c =
    let point = IsPartitionPoint-from_clause (λ t. int_lt t c.in-Some.from) _ _ c.partition_point.ensures.partitioned (parted_below c.args.stamps.now c.in-Some.from c.requires) (λ a r q k. search rules) in
    below_some c.args.range c.args.stamps.now c.in-Some.from c.partition_point.result c.in-Some.ensures.end (count_at_point (λ t. int_lt t c.in-Some.from) c.args.stamps.now c.partition_point.result c.partition_point.ensures.bound point)

pub returns-in-None-clause-count : goal.returns-in-None-clause-count
returns-in-None-clause-count c = below_none c.args.range c.args.stamps.now c.in-None.ensures.end
