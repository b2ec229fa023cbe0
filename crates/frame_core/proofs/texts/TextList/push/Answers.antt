use Rattle.std.proofs.Common.{ℕ, List, length, ap, ◌∙◌, ◌++◌, ◌∷◌, []}
use Rattle.frame_core.proofs.TextLemmas.{pushed, AreEnds-pushed}
use Rattle.frame_core.proofs.texts.TextList.push.Goals as goal

pub invariant_of-self-2 : goal.invariant_of-self-2
invariant_of-self-2 c = AreEnds-pushed _ _ _ _ _ _ c.in_ok-push_str.ensures.bytes (ap length c.as_str-end.ensures.value) c.in_ok-push.ensures.items c.in_ok-reserve.ensures.items c.self.invariant c.utf8.text

pub returns-clause-ok : goal.returns-clause-ok
returns-clause-ok c = pushed _ _ _ _ _ _ c.in_ok-push_str.ensures.bytes (ap length c.as_str-end.ensures.value) c.in_ok-push.ensures.items c.in_ok-reserve.ensures.items c.self.invariant ∙ ap (λ (ts : List (List ℕ)). ts ++ c.args.text.now ∷ []) c.self.view_is
