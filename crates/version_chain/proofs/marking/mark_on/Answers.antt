use Rattle.std.proofs.Common.{inl, inr, subst}
use Rattle.version_chain.specs.MarkPlans.{IsMarking}
use Rattle.version_chain.proofs.ElementForms.{was_told, fits_is_formed, walked_lawful}
use Rattle.version_chain.proofs.MarkEnds.{none_stops}
use Rattle.version_chain.proofs.marking.mark_on.Goals as goal

pub prepare-requires-clause-was : goal.prepare-requires-clause-was
prepare-requires-clause-was g c =
    let at = c.requires.may.at in
    was_told at.before c.args.symbol.now c.args.state.now (walked_lawful _ at.later at.before at.split (g.met.B.Bucket.lawful c.args.bucket.now)) at.is

pub prepare-requires-clause-formed : goal.prepare-requires-clause-formed
prepare-requires-clause-formed g c = fits_is_formed _ _ _ _ c.args.change.now c.requires.may.fits

pub returns-in_default-clause-did : goal.returns-in_default-clause-did
returns-in_default-clause-did g c = inr (inl (none_stops _ _ _ _ _ _ _ _ _ _ c.place-place.ensures))

-- the element of the change is under the client's next serial
pub commit_mark-requires : goal.commit_mark-requires
commit_mark-requires g c = record {
  prepared = (
    c.args.change.now,
    record {
      may = c.requires.may;
      is = subst (λ s. IsMarking (g.B.Bucket.number c.args.bucket.now) s c.args.symbol.now c.args.state.now.was c.args.change.now c.in-Ok.marking) c.serial.ensures
          (subst (λ n. IsMarking n c.serial.result c.args.symbol.now c.args.state.now.was c.args.change.now c.in-Ok.marking) c.client.ensures c.in-Ok.ensures);
    },
  );
}

pub returns-clause-did : goal.returns-clause-did
returns-clause-did g c = c.commit_mark.ensures.did c.args.change.now (record {
  may = c.requires.may;
  is = subst (λ s. IsMarking (g.B.Bucket.number c.args.bucket.now) s c.args.symbol.now c.args.state.now.was c.args.change.now c.in-Ok.marking) c.serial.ensures
      (subst (λ n. IsMarking n c.serial.result c.args.symbol.now c.args.state.now.was c.args.change.now c.in-Ok.marking) c.client.ensures c.in-Ok.ensures);
})
