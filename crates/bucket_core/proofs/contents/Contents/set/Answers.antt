use Rattle.std.proofs.Common.{◌+◌, map, refl, ap, ◌∙◌, arith}
use Rattle.bucket_core.specs.Contents.{shown}
use Rattle.bucket_core.proofs.ShowingLemmas.{Sets-body, OnErr_anyway}
use Rattle.bucket_core.proofs.contents.Contents.set.Goals as goal

pub returns-clause-ok : goal.returns-clause-ok
returns-clause-ok c =
    Sets-body c.args.self.now _ c.args.key (record { body = c.args.body; since = c.args.self.now.count + 1 })
    c.in_ok-put_entry.ensures.ok (omega arith) (omega arith) (λ s. refl)

pub returns-in_err-put_entry-clause-err : goal.returns-in_err-put_entry-clause-err
returns-in_err-put_entry-clause-err c = OnErr_anyway c.from_residual.result (λ h shows. record {
  count = shows.count;
  entries = ap (map shown) c.in_err-put_entry.ensures.err ∙ shows.entries;
  heads = shows.heads;
})
