use Rattle.std.proofs.Common.{rules, subst, sym, ◌∙◌, ◌≡◌, ◌+◌, ◌++◌, ◌∷◌, [], map, drop}
use Rattle.std.specs.Prelude.{slice_index_or}
use lib.ListN.{get_or}
use Rattle.group_clause.specs.Partials.{no_tally}
use Rattle.group_clause.specs.Blocks.{numbered_groups}
use Rattle.group_clause.proofs.BlockGroups.{group_more, mapped}
use Rattle.group_clause.proofs.block.groups_by_number.Goals as goal

pub loop-number-preserved : goal.loop-number-preserved
loop-number-preserved c =
    let keys = c.as_slice-keys.result.now in
    let lists = map (λ v. v.items) c.args.columns.now in
    let pushed : c.push.new.self.items ≡ c.loop-number.groups.items ++ (c.in_ok-key.key, c.in_ok-tallies.tallies.items) ∷ [] = search rules in
    let key : c.in_ok-key.key ≡ c.index-keys-number.result = search rules in
    subst (λ l. l ++ numbered_groups (c.loop-number.number + 1) (drop (c.loop-number.number + 1) keys) lists ≡ numbered_groups 0 keys lists) (sym pushed)
    (group_more keys lists c.loop-number.groups.items (numbered_groups 0 keys lists) c.loop-number.number (c.in_ok-key.key, c.in_ok-tallies.tallies.items) c.loop-number-test.true
    (subst (λ x. x ≡ get_or keys c.loop-number.number x) (sym key) c.index-keys-number.is)
    (c.in_ok-tallies.ensures ∙ sym (mapped (λ ts. slice_index_or ts c.loop-number.number no_tally) (λ v. v.items) c.args.columns.now))
    c.loop-number.invariant)
