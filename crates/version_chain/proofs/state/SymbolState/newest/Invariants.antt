use Rattle.std.proofs.Common.{◌≡◌, not, option_copied, take, reverse}
use Rattle.std.specs.Prelude.{find}
use Rattle.version_chain.specs.States.{is_tomb}
use Rattle.version_chain.proofs.state.SymbolState.newest.Given as goal

-- the last live link so far
abbrev pub invariant-loop-row : goal.invariant-loop-row
invariant-loop-row l = option_copied l.newest ≡ find (λ row. not (is_tomb l.self.tombs row.version)) (reverse (take l.row-index l.row-items))
