use Rattle.std.proofs.Common.{ℕ, ap, sym, ◌∙◌}
use Rattle.std.specs.Prelude.{nat_le}
use Rattle.std.proofs.lemmas.Bool.{not-true}
use Rattle.bucket_core.specs.Calls.{refers_after}
use Rattle.bucket_core.proofs.ReferLemmas.{nat_le-referred_at}
use Rattle.bucket_core.proofs.plain.PlainBucketBucket.unchanged.Goals as goal

pub returns-clause-told : goal.returns-clause-told
returns-clause-told g c =
    ap (λ (n : ℕ). nat_le n c.args.place) c.referred_at.ensures ∙ nat_le-referred_at c.args.self.now.log c.args.symbol.now c.args.place

pub returns-clause-unchanged : goal.returns-clause-unchanged
returns-clause-unchanged g c is =
    not-true (refers_after c.args.self.now.log c.args.symbol.now c.args.place)
    (sym (ap (λ (n : ℕ). nat_le n c.args.place) c.referred_at.ensures ∙ nat_le-referred_at c.args.self.now.log c.args.symbol.now c.args.place) ∙ is)
