use Rattle.std.proofs.Common.{◌≡◌, [], sym, ◌∙◌, rules}
use Rattle.prune_rule.proofs.SetLemmas.{noting_first, noting_next, noting_last}
use Rattle.prune_rule.proofs.reaching.note_reached.Goals as goal

pub loop-slot-init : goal.loop-slot-init
loop-slot-init c = noting_first c.args.keys.now c.note_unless.new.keys c.args.kept.now c.args.key c.args.index c.into_vec-rest.result.items c.into_vec-rest.ensures c.in_ok-note_unless.ensures

pub loop-slot-preserved : goal.loop-slot-preserved
loop-slot-preserved c = λ other.
    noting_next c.loop-slot.keys c.note_unless-in-Some.new.keys c.args.kept.now c.loop-slot.rest.items c.pop.new.self.items c.in-Some.slot c.in-Some.ensures.items c.in_ok-note_unless-2.ensures other ∙ c.loop-slot.invariant other

pub returns : goal.returns
returns c =
    let none : c.loop-slot.rest.items ≡ [] = search rules in
    λ other. sym (noting_last c.loop-slot.keys c.args.kept.now c.loop-slot.rest.items other none) ∙ c.loop-slot.invariant other
