use Rattle.std.proofs.Common.{inl, refl, rules, ◌∷◌, List, ℕ, sym, ap, ◌∙◌, subst, Option, Some}
use Rattle.atomic_table.specs.Table.{rest}
use Rattle.turn_cell.specs.declared.view.View.{View}
use Rattle.turn_cell.proofs.TurnSteps.{takes_turn}
use Rattle.turn_cell.proofs.EntriesKept.{Same, has_same}
use Rattle.turn_cell.proofs.cell.TurnCell.take.Goals as goal

pub compare_exchange-found-requires : goal.compare_exchange-found-requires
compare_exchange-found-requires g c = (search rules, search rules, takes_turn _ _ _ _ _ _ _ (ap (λ m. m.0.badge.in_use) c.loop.invariant.1 ∙ c.requires.rests.0))

pub exchange-requires : goal.exchange-requires
exchange-requires g c = let did = c.compare_exchange-found.ensures.2.free c.if-found-eq0.true in let has = did.held in
    (search rules, (Some did.value, has ∙ ap (λ (l : List (ℕ × Option g.row.V.Denot)). (0, Some did.value) ∷ l) (sym (ap rest has))))

pub returns-in-Some-exchange-clause-joined : goal.returns-in-Some-exchange-clause-joined
returns-in-Some-exchange-clause-joined g c = let did = c.compare_exchange-found.ensures.2.free c.if-found-eq0.true in let now = c.exchange.ensures.3 in
    subst (λ (z : View g.row.V-Entry.Denot × View g.row.V-Entry.Denot). Same g.V.Storied.author z.0 z.1.seen) (λ i. ((c.loop.invariant.1 i).0, (sym now i).0)) (has_same g.V.Storied.author _ _ did.owns did.finds.later)

pub returns-in-Some-exchange-clause-own : goal.returns-in-Some-exchange-clause-own
returns-in-Some-exchange-clause-own g c = returns-in-Some-exchange-clause-joined g c _ (inl (c.requires.rests.0, refl))
