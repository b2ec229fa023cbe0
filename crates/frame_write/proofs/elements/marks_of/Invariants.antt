use Rattle.std.proofs.Common.{◌≡◌, ◌∷◌, take, map}
use Rattle.store_model.specs.declared.chain.ChainMark.TheVariants as marks
use Rattle.frame_write.proofs.elements.marks_of.Given as goal

-- the link, and the tombs so far
abbrev pub invariant-loop-version : goal.invariant-loop-version
invariant-loop-version l = l.marks ≡ marks.Link l.fn.row ∷ map marks.Tomb (take l.version-index l.buried)
