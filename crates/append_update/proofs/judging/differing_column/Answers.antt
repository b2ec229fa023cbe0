use Rattle.std.proofs.Common.{◌<◌, ◌∙◌, max, sym, length, rules}
use Rattle.frame_core.proofs.JoinLemmas.{first_ends, other_ends}
use Rattle.append_update.proofs.judging.differing_column.Goals as goal

pub returns-then-place-first : goal.returns-then-place-first
returns-then-place-first c =
    let within : c.loop-place.place < max (length c.args.first.now) (length c.args.other.now) = search rules in
    sym (first_ends _ _ _ _ within c.if-place-first.true) ∙ c.loop-place.invariant

pub returns-then-place-other : goal.returns-then-place-other
returns-then-place-other c =
    let within : c.loop-place.place < max (length c.args.first.now) (length c.args.other.now) = search rules in
    sym (other_ends _ _ _ _ within c.if-place-other.true) ∙ c.loop-place.invariant
