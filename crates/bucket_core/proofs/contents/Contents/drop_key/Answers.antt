use Rattle.std.proofs.Common.{refl, arith}
use Rattle.bucket_core.proofs.ShowingLemmas.{Sets-none}
use Rattle.bucket_core.proofs.contents.Contents.drop_key.Goals as goal

pub returns : goal.returns
returns c = Sets-none c.args.self.now _ c.args.key.now c.len-count.ensures.ordered c.remove.ensures.entries (omega arith) (λ s. refl)
