use Rattle.std.proofs.Common.{◌∙◌, sym}
use Rattle.std.proofs.lemmas.Option.{slice_get-map}
use Rattle.frame_core.specs.Columns.{column_type}
use Rattle.frame_core.proofs.MakerLemmas.{next, IsMaking-cell, made_cell}
use Rattle.frame_core.proofs.maker.FrameMaker.cell.Goals as goal

pub push_at-requires : goal.push_at-requires
push_at-requires c = sym (slice_get-map column_type c.self.inside.columns.items c.self.inside.begun) ∙ (next _ _ _ _ _ _ _ c.self.invariant c.self.view_is c.requires).kind

pub invariant_of-self : goal.invariant_of-self
invariant_of-self c = rw (c.in_err-push_at.ensures.err, c.in_err-push_at.ensures.kinds) c.self.invariant

pub invariant_of-self-2 : goal.invariant_of-self-2
invariant_of-self-2 c = IsMaking-cell _ _ _ _ _ _ _ _ c.self.invariant (next _ _ _ _ _ _ _ c.self.invariant c.self.view_is c.requires).open_column c.in_ok-push_at.ensures.fits c.in_ok-push_at.ensures.kinds c.in_ok-push_at.ensures.ok

pub returns-clause-ok : goal.returns-clause-ok
returns-clause-ok c = made_cell _ _ _ _ _ _ _ _ c.self.invariant (next _ _ _ _ _ _ _ c.self.invariant c.self.view_is c.requires).open_column c.in_ok-push_at.ensures.ok c.self.view_is
