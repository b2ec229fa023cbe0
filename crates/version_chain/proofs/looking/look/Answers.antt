use Rattle.std.proofs.Common.{arith}
use Rattle.version_chain.proofs.Walked.{looks_length}
use Rattle.version_chain.proofs.looking.look.Goals as goal

pub returns-in-Err-clause-refused : goal.returns-in-Err-clause-refused
returns-in-Err-clause-refused g c =
    let long = looks_length _ _ _ _ c.in-Err.ensures.looks in
    record {
      why = c.refusal_of.ensures _ _ c.in-Err.ensures.refused;
      place = record { from = omega (arith, c.place-place.ensures); to = omega (arith, c.place-place.ensures, long) };
    }
