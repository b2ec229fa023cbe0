use Rattle.std.proofs.Common.{◌≡◌, map, drop}
use Rattle.script_lang.specs.Scripts.{no_lines, after_lines}
use Rattle.script_lang.proofs.draft.after_lines.Given as goal

-- the lines that are left make of the draft so far what all lines make of none
abbrev pub invariant-loop-line : goal.invariant-loop-line
invariant-loop-line l = after_lines l.draft (map (λ line. line.now) (drop l.line-index l.lines)) ≡ after_lines no_lines (map (λ line. line.now) l.lines)
