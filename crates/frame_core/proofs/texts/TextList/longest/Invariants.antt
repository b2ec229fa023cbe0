use Rattle.std.proofs.Common.{◌≡◌, max, length, map, drop}
use Rattle.std.specs.Prelude.{fold}
use Rattle.frame_core.specs.Texts.{Text}
use Rattle.frame_core.proofs.Totals.{Spans}
use Rattle.frame_core.proofs.texts.TextList.longest.Given as goal

-- the texts that are left begin at `start`, and make of the longest so far what all make of nothing
abbrev pub invariant-loop-end : goal.invariant-loop-end
invariant-loop-end l = record {
  spans : Spans l.start (drop l.end-index l.end-items) (drop l.end-index l.self);
  longest : fold max l.longest (map (λ (t : Text). length t) (drop l.end-index l.self)) ≡ fold max 0 (map (λ (t : Text). length t) l.self);
}
