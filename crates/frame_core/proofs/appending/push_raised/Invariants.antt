use Rattle.std.proofs.Common.{◌≡◌, ◌+◌, ◌≤◌, ◌++◌, length, map, take, drop}
use Rattle.std.specs.Vec.{vec_len, vec_capacity}
use Rattle.frame_core.proofs.appending.push_raised.Given as goal

-- the ends so far were put behind, and room stays for those that are left
abbrev pub invariant-loop-end : goal.invariant-loop-end
invariant-loop-end l = record {
  ends : l.ends.items ≡ l.fn.ends.items ++ map (λ end. end + l.by) (take l.end-index l.more);
  room : vec_len l.fn.ends + length l.more ≤ vec_capacity l.fn.ends → vec_len l.ends + length (drop l.end-index l.more) ≤ vec_capacity l.ends;
}
