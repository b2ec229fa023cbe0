use Rattle.std.proofs.Common.{rules, ◌∷◌, ℕ, List, Option, Some, ap, sym, subst, ◌∙◌}
use Rattle.atomic_table.specs.Table.{rest}
use Rattle.turn_cell.proofs.TurnSteps.{gives_turn}
use Rattle.turn_cell.proofs.cell.TurnCell.give.Goals as goal

pub store-requires : goal.store-requires
store-requires g c = let now = c.exchange.ensures.3 in (
  search rules,
  search rules,
  gives_turn _ _ _ _ _ _ _ c.args.value (ap (λ m. m.1) now ∙ ap (λ (l : List (ℕ × Option g.row.V.Denot)). (0, Some c.args.value) ∷ rest l) c.requires.holds.2) (ap (λ m. m.0.turn) now ∙ c.requires.holds.1) (ap (λ m. m.0.begun) now ∙ c.requires.none_begun)
      (subst (g.V.Storied.stands c.args.value) (sym (ap (λ m. m.0.seen) now)) c.requires.stands) (c.requires.greatest ∙ sym (ap (λ m. m.0.top) now)),
)
