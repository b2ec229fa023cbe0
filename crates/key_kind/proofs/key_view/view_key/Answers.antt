use Rattle.std.proofs.Common.{arith}
use Rattle.key_kind.specs.KeyViews.{key_of}
use Rattle.key_kind.proofs.KeyReading.{key_takes}
use Rattle.key_kind.proofs.key_view.view_key.Goals as goal

pub returns-clause-is_key : goal.returns-clause-is_key
returns-clause-is_key c = (key_takes c.args.bytes.now (key_of c.in_ok-view.view) c.in_ok-view.rest.now (λ i. omega (arith, c.type_inv.bytes i)) c.in_ok-view.ensures).is_key
