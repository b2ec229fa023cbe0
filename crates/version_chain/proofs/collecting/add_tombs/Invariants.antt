use Rattle.std.proofs.Common.{◌≡◌, ◌++◌, drop}
use Rattle.std.specs.Prelude.{filter_map}
use Rattle.store_model.specs.ChainText.{tomb_of}
use Rattle.version_chain.proofs.collecting.add_tombs.Given as goal

-- with the Tombs that are left they are all
abbrev pub invariant-loop-mark : goal.invariant-loop-mark
invariant-loop-mark l = l.tombs ++ filter_map tomb_of (drop l.mark-index l.marks) ≡ l.fn.tombs ++ filter_map tomb_of l.marks
