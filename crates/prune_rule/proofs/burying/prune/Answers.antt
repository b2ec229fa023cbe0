use Rattle.prune_rule.proofs.LegalBurials.{tries_are_legal, goes_on}
use Rattle.prune_rule.proofs.burying.prune.Goals as goal

pub returns-clause-grown : goal.returns-clause-grown
returns-clause-grown g c = goes_on _ _ _ _ _ _ _ _ _ _ _ c.bury.ensures.did

pub returns-clause-legal : goal.returns-clause-legal
returns-clause-legal g c = tries_are_legal _ _ _ _ _ _ _ _ _ _ _ c.bury.ensures.did
