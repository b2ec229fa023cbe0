use Rattle.std.proofs.Common.{◌≡◌, ◌∙◌, rules, length, sym, false}
use Rattle.std.specs.Prelude.{nat_lt}
use Rattle.std.proofs.lemmas.List.Sorted.{IsPartitionPoint-from_clause, IsPartitionedBy-ltb}
use Rattle.index_tree.proofs.Covers.{had_rising, had_past, not_below}
use Rattle.index_tree.proofs.lookup.has_one.Goals as goal

pub overflow_sub-result : goal.overflow_sub-result
overflow_sub-result c =
    let point = IsPartitionPoint-from_clause (λ column. nat_lt column c.args.part.now.first_col) c.args.columns.now c.partition_point-place.result c.partition_point-place.ensures.partitioned (IsPartitionedBy-ltb (λ x. x) c.args.columns.now c.args.part.now.first_col c.requires) (λ a r q k. search rules) in
    not_below c.args.columns.now c.args.part.now c.partition_point-place.result point c.if-place-columns.true

pub returns-then-place-columns : goal.returns-then-place-columns
returns-then-place-columns c =
    let point = IsPartitionPoint-from_clause (λ column. nat_lt column c.args.part.now.first_col) c.args.columns.now c.partition_point-place.result c.partition_point-place.ensures.partitioned (IsPartitionedBy-ltb (λ x. x) c.args.columns.now c.args.part.now.first_col c.requires) (λ a r q k. search rules) in
    had_rising c.args.columns.now c.args.part.now c.partition_point-place.result c.requires point c.if-place-columns.true

pub returns-else-place-columns : goal.returns-else-place-columns
returns-else-place-columns c =
    let point = IsPartitionPoint-from_clause (λ column. nat_lt column c.args.part.now.first_col) c.args.columns.now c.partition_point-place.result c.partition_point-place.ensures.partitioned (IsPartitionedBy-ltb (λ x. x) c.args.columns.now c.args.part.now.first_col c.requires) (λ a r q k. search rules) in
    let past : nat_lt c.partition_point-place.result (length c.args.columns.now) ≡ false = search rules in
    past ∙ had_past c.args.columns.now c.args.part.now c.partition_point-place.result (sym c.is_empty.ensures ∙ c.if-is_empty.false) point c.if-place-columns.false
