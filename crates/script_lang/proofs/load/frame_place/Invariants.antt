use Rattle.std.proofs.Common.{◌≡◌, drop}
use Rattle.std.specs.List.{position_from}
use Rattle.frame_core.specs.Texts.{same_text}
use Rattle.script_lang.specs.Words.{frame_of}
use Rattle.script_lang.specs.Loads.{frame_names}
use Rattle.script_lang.proofs.load.frame_place.Given as goal

-- the first load of the name is among those that are left
abbrev pub invariant-loop-place : goal.invariant-loop-place
invariant-loop-place l = position_from (same_text l.name) l.place (frame_names (drop l.place l.loads)) ≡ frame_of (frame_names l.loads) l.name
