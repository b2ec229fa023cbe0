use Rattle.key_kind.proofs.KeyReading.{key_again}
use Rattle.key_kind.proofs.key_bytes.spelled_keys_are_read.Goals as goal

pub returns : goal.returns
returns c = key_again
