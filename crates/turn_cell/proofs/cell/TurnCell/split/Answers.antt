use Rattle.std.proofs.Common.{rules, ap, ◌∙◌, arith, ◌+◌}
use Rattle.turn_cell.proofs.EntriesKept.{none_above}
use Rattle.turn_cell.proofs.LoadSteps.{loads_count}
use Rattle.turn_cell.proofs.SeatSteps.{splits_seat}
use Rattle.turn_cell.proofs.cell.TurnCell.split.Goals as goal

pub load-requires : goal.load-requires
load-requires g c = (search rules, search rules, loads_count _ _ _ _ _ _ _ c.requires.holds.0)

pub split_seat-requires : goal.split_seat-requires
split_seat-requires g c = let same = c.load.ensures.2.after in (search rules, search rules, splits_seat _ _ _ _ _ _ (ap (λ m. m.0.badge.in_use) same ∙ c.requires.holds.0) (ap (λ m. m.0.turn) same ∙ c.requires.holds.1))

pub returns-clause-new_number : goal.returns-clause-new_number
returns-clause-new_number g c = let v = c.args.seat.now.me.0 in none_above g.V.Storied.author (v.top + 1) v.top v.seen (c.load.ensures.2.authors c.requires.holds.1) (omega arith)
