use Rattle.std.proofs.Common.{ap, option_copied}
use Rattle.bucket_core.proofs.HeadLemmas.{same_entries}
use Rattle.bucket_core.proofs.contents.same_entry.Goals as goal

pub returns-in-Some-Some : goal.returns-in-Some-Some
returns-in-Some-Some c =
    same_entries c.eq.result (option_copied c.args.entry) (option_copied c.args.was) c.in-Some-Some.entry.now c.in-Some-Some.was.now c.eq.ensures
    (ap (λ o. option_copied o) c.in-Some-Some.is-0) (ap (λ o. option_copied o) c.in-Some-Some.is-1)
