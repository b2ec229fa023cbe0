use Rattle.std.proofs.Common.{◌≡◌, ◌++◌, take}
use mathlib.Core.List.{IsPrefix}
use Rattle.turn_cell.specs.Seats.{view, seen, Rests}
use Rattle.turn_tally.specs.Marks.{marks, marks_by}
use Rattle.turn_tally.proofs.adding.add_list.Given as goal

-- the amounts so far were added
abbrev pub invariant-loop-amount : goal.invariant-loop-amount
invariant-loop-amount g l = record {
  cell : l.seat.table_id ≡ l.initial.seat.table_id;
  rests : Rests l.seat;
  badge : (view l.seat).badge ≡ (view l.initial.seat).badge;
  later : IsPrefix (seen l.initial.seat) (seen l.seat);
  count : l.count ≡ l.amount-index;
  own : marks_by (view l.initial.seat).badge.number (seen l.seat) ≡ marks_by (view l.initial.seat).badge.number (seen l.initial.seat) ++ marks (view l.initial.seat).badge.number (take l.count l.amounts);
}
