use Rattle.std.proofs.Common.{◌≡◌, take, false}
use Rattle.std.specs.List.{list_any}
use Rattle.frame_core.specs.Texts.{same_text}
use Rattle.frame_core.proofs.making.repeats.Given as goal

-- none of the names so far is this one
abbrev pub invariant-loop-earlier : goal.invariant-loop-earlier
invariant-loop-earlier l = list_any (same_text l.name) (take l.earlier-index l.earlier-items) ≡ false
