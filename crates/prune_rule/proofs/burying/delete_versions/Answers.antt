use Rattle.std.proofs.Common.{sym, subst, option_copied}
use Rattle.reply_model.specs.Kinds.{Listed}
use Rattle.prune_rule.specs.Replies.{IsLegalBurial}
use Rattle.prune_rule.proofs.LegalBurials.{tries_are_legal, goes_on}
use Rattle.prune_rule.proofs.burying.delete_versions.Goals as goal

pub returns-in-Some-clause-grown : goal.returns-in-Some-clause-grown
returns-in-Some-clause-grown g c = goes_on _ _ _ _ _ _ _ _ _ _ _ c.bury.ensures.did

pub returns-in-Some-clause-legal : goal.returns-in-Some-clause-legal
returns-in-Some-clause-legal g c =
    subst (λ o. IsLegalBurial (g.B.Bucket.limit c.args.bucket.now) (g.B.Bucket.number c.args.bucket.now) c.args.tries c.args.symbol.now (Listed (option_copied o)) (g.B.Bucket.faults c.args.bucket.now) (g.B.Bucket.faults c.bury.new.bucket) (g.B.Bucket.seen c.args.bucket.now) (g.B.Bucket.seen c.bury.new.bucket) c.bury.result) (sym c.in-Some.is)
    (tries_are_legal _ _ _ _ _ _ _ _ _ _ _ c.bury.ensures.did)

pub returns-in-None-clause-grown : goal.returns-in-None-clause-grown
returns-in-None-clause-grown g c = goes_on _ _ _ _ _ _ _ _ _ _ _ c.bury-in-None.ensures.did

pub returns-in-None-clause-legal : goal.returns-in-None-clause-legal
returns-in-None-clause-legal g c =
    subst (λ o. IsLegalBurial (g.B.Bucket.limit c.args.bucket.now) (g.B.Bucket.number c.args.bucket.now) c.args.tries c.args.symbol.now (Listed (option_copied o)) (g.B.Bucket.faults c.args.bucket.now) (g.B.Bucket.faults c.bury-in-None.new.bucket) (g.B.Bucket.seen c.args.bucket.now) (g.B.Bucket.seen c.bury-in-None.new.bucket) c.bury-in-None.result) (sym c.in-None.is)
    (tries_are_legal _ _ _ _ _ _ _ _ _ _ _ c.bury-in-None.ensures.did)
