use Rattle.std.proofs.Common.{◌≡◌, ◌++◌, take, false}
use Rattle.reply_text.specs.Commas.{further_fields}
use Rattle.reply_text.proofs.replies.push_symbols.Given as goal

-- the symbols so far stand in the line
abbrev pub invariant-loop-place : goal.invariant-loop-place
invariant-loop-place l = l.line.items ≡ l.fn.line.items ++ further_fields false (take l.place l.symbols)
