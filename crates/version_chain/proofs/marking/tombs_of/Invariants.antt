use Rattle.std.proofs.Common.{◌≡◌, map, take}
use Rattle.store_model.specs.declared.chain.ChainMark.TheVariants.{Tomb}
use Rattle.version_chain.proofs.marking.tombs_of.Given as goal

-- the tombs of the versions so far
abbrev pub invariant-loop-version : goal.invariant-loop-version
invariant-loop-version l = l.marks ≡ map Tomb (take l.version-index l.versions)
