use Rattle.std.proofs.Common.{◌≡◌, ℕ, ℤ, ◌-◌, ◌≤◌, ◌<◌, true, false, length, get_or}
use Rattle.frame_core.specs.Frames.{stamps_of}
use Rattle.frame_read.specs.Gathers.{passes}
use Rattle.frame_read.proofs.searching.edge_row.Given as goal

-- the rows from the first up to `low` lie before the edge, and those from `high` on do not
abbrev pub invariant-loop-low : goal.invariant-loop-low
invariant-loop-low l = record {
  least : l.first ≤ l.low;
  ordered : l.low ≤ l.high;
  most : l.high ≤ length l.view.rows;
  passed : (k : ℕ) (d : ℤ) → l.first ≤ k → k < l.low → passes l.edge l.range (get_or (stamps_of l.view.rows) k d) ≡ true;
  left : (k : ℕ) (d : ℤ) → l.high ≤ k → k < length (stamps_of l.view.rows) → passes l.edge l.range (get_or (stamps_of l.view.rows) k d) ≡ false;
}

abbrev pub decreases-loop-low : goal.decreases-loop-low
decreases-loop-low l = l.high - l.low
