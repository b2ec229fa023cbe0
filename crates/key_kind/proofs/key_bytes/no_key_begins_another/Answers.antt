use Rattle.key_kind.proofs.KeyReading.{key_text-front}
use Rattle.key_kind.proofs.key_bytes.no_key_begins_another.Goals as goal

pub returns : goal.returns
returns c = key_text-front
