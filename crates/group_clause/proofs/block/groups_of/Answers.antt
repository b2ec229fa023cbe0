use Rattle.std.proofs.Common.{subst, sym, ap, ◌∙◌, ◌≡◌, length, map}
use Rattle.std.specs.Prelude.{IsPermutation}
use Rattle.std.specs.List.{AllByRecursion}
use Rattle.group_clause.specs.Blocks.{IsNumbering, column_of, numbered_groups}
use Rattle.group_clause.proofs.BlockGroups.{groups_sorted, outs_there, numbers_length, numbers_below, lists_long, lists_tallied}
use Rattle.group_clause.proofs.block.groups_of.Goals as goal

pub tally_outs-requires-clause-named : goal.tally_outs-requires-clause-named
tally_outs-requires-clause-named c = outs_there c.args.rows.now.schema.columns c.args.key.now c.args.outs.now c.requires.named

pub tally_outs-requires-clause-lengths : goal.tally_outs-requires-clause-lengths
tally_outs-requires-clause-lengths c =
    let made = c.in_ok-numbering.numbering in
    let is : IsNumbering made.numbers.items made.keys.keys (column_of c.args.rows.now.schema.columns c.args.rows.now.rows c.args.key.now) =
    subst (IsNumbering made.numbers.items made.keys.keys) c.column_named.ensures.cells c.in_ok-numbering.ensures in
    numbers_length made.numbers.items made.keys.keys c.args.rows.now.schema.columns c.args.rows.now.rows c.args.key.now is

pub tally_outs-requires-clause-below : goal.tally_outs-requires-clause-below
tally_outs-requires-clause-below c = numbers_below _ _ _ c.in_ok-numbering.ensures.named

pub groups_by_number-requires : goal.groups_by_number-requires
groups_by_number-requires c =
    let made = c.in_ok-numbering.numbering in
    subst (AllByRecursion (λ v. length v.items ≡ length made.keys.keys)) (sym c.deref.ensures.value)
    (lists_long (λ v. v.items) (length made.keys.keys) made.numbers.items c.args.rows.now.schema.columns c.args.rows.now.rows c.args.outs.now c.in_ok-columns.columns.items c.in_ok-columns.ensures)

pub returns : goal.returns
returns c =
    let made = c.in_ok-numbering.numbering in
    let heads = c.args.rows.now.schema.columns in
    let lists = map (λ v. v.items) c.in_ok-columns.columns.items in
    let is : IsNumbering made.numbers.items made.keys.keys (column_of heads c.args.rows.now.rows c.args.key.now) =
    subst (IsNumbering made.numbers.items made.keys.keys) c.column_named.ensures.cells c.in_ok-numbering.ensures in
    let by_number : c.in_ok-groups.groups.items ≡ numbered_groups 0 made.keys.keys lists = c.in_ok-groups.ensures ∙ ap (λ l. numbered_groups 0 made.keys.keys (map (λ v. v.items) l)) c.deref.ensures.value in
    let tallied = lists_tallied (λ v. v.items) (length made.keys.keys) made.numbers.items heads c.args.rows.now.rows c.args.outs.now c.in_ok-columns.columns.items c.in_ok-columns.ensures in
    let moved : IsPermutation (numbered_groups 0 made.keys.keys lists) c.sort_unstable.new.self.items = subst (λ l. IsPermutation l c.sort_unstable.new.self.items) by_number c.sort_unstable.ensures.permutation in
    groups_sorted heads c.args.key.now c.args.outs.now made.numbers.items c.args.rows.now.rows made.keys.keys lists c.sort_unstable.new.self.items is tallied moved c.sort_unstable.ensures.sorted
