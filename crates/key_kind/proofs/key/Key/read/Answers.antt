use Rattle.std.proofs.Common.{◌-◌, ap, sym, subst, ◌∙◌, arith, length, Ok}
use Rattle.std.proofs.lemmas.List.{length-append}
use Rattle.key_kind.specs.declared.key.Key.{Key}
use Rattle.key_kind.specs.KeyViews.{key_of}
use Rattle.key_kind.specs.KeyText.{key_text}
use Rattle.key_kind.proofs.KeyReading.{KeyRead, key_takes, KeyFound, key_found}
use Rattle.key_kind.proofs.key.Key.read.Goals as goal
use Rattle.key_kind.proofs.key.Key.read.Goals.{In-Ok-to_key}

pub overflow_sub-result : goal.overflow_sub-result
overflow_sub-result c =
    let taken = key_takes c.args.bytes.now (key_of c.in-Ok.read.0) c.in-Ok.read.1.now (λ i. omega (arith, c.type_inv.bytes i)) c.in-Ok.ensures.gives in
    omega (arith, ap length taken.takes.parts, length-append (key_text (key_of c.in-Ok.read.0)) c.in-Ok.read.1.now)

-- the key that was read
taken : (c : In-Ok-to_key) → KeyRead c.args.bytes.now c.in-Ok-to_key.key c.in-Ok.read.1.now
taken c =
    subst (λ (k : Key). KeyRead c.args.bytes.now k c.in-Ok.read.1.now) (sym c.in-Ok-to_key.ensures)
    (key_takes c.args.bytes.now (key_of c.in-Ok.read.0) c.in-Ok.read.1.now (λ i. omega (arith, c.type_inv.bytes i)) c.in-Ok.ensures.gives)

-- where it stands
found : (c : In-Ok-to_key) → KeyFound c.args.bytes.now c.in-Ok-to_key.key (length c.args.bytes.now - length c.in-Ok.read.1.now)
found c = key_found c.args.bytes.now c.in-Ok-to_key.key c.in-Ok.read.1.now (taken c) (c.in-Ok.ensures.gives ∙ ap (λ (k : Key). Ok (k, c.in-Ok.read.1.now)) (sym c.in-Ok-to_key.ensures))

pub returns-in-Ok-to_key-clause-read : goal.returns-in-Ok-to_key-clause-read
returns-in-Ok-to_key-clause-read c = (found c).read

pub returns-in-Ok-to_key-clause-spelled : goal.returns-in-Ok-to_key-clause-spelled
returns-in-Ok-to_key-clause-spelled c = (found c).spelled

pub returns-in-Ok-to_key-clause-length : goal.returns-in-Ok-to_key-clause-length
returns-in-Ok-to_key-clause-length c = (found c).len

pub returns-in-Ok-to_key-clause-is_key : goal.returns-in-Ok-to_key-clause-is_key
returns-in-Ok-to_key-clause-is_key c = (taken c).is_key
