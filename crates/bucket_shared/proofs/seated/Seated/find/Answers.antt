use Rattle.std.proofs.Common.{refl}
use Rattle.bucket_shared.proofs.Trying.{stays_given}
use Rattle.bucket_shared.proofs.seated.Seated.find.Goals as goal

pub returns-clause-stays : goal.returns-clause-stays
returns-clause-stays g c = stays_given c.args.self.now _ c.take-store.new.seat c.take-store.result c.take-store.ensures c.give.ensures.cell c.give.ensures.view refl
