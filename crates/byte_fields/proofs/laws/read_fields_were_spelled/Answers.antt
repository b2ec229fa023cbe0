use Rattle.std.proofs.Common.{◌^◌, w64, arith}
use Rattle.std.specs.Prelude.{FitsSigned}
use Rattle.std.specs.Int.{w16, w32}
use Rattle.byte_fields.specs.Reading.{signed_at, signed_text}
use Rattle.byte_fields.proofs.Lists.{list_takes, signed_field}
use Rattle.byte_fields.specs.Readers.{IsBytes}
use Rattle.byte_fields.proofs.Numbers.{wide16, wide32, wide64, byte_takes, number_takes, signed_takes, bytes_takes, magic_takes}
use Rattle.byte_fields.proofs.laws.read_fields_were_spelled.Goals as goal

pub returns : goal.returns
returns c =
    let fits : IsBytes c.args.bytes.now = λ i. omega (arith, c.type_inv.bytes i) in
    record {
      byte = λ n rest e. (byte_takes c.args.bytes.now n rest fits e).takes.parts;
      two = λ n rest e. (number_takes w16 (2 ^ 16) wide16 c.args.bytes.now n rest fits e).takes.parts;
      four = λ n rest e. (number_takes w32 (2 ^ 32) wide32 c.args.bytes.now n rest fits e).takes.parts;
      eight = λ n rest e. (number_takes w64 (2 ^ 64) wide64 c.args.bytes.now n rest fits e).takes.parts;
      signed = λ z rest e. (signed_takes c.args.bytes.now z rest fits e).takes.parts;
      many_signed = λ n zs rest e. (list_takes signed_at signed_text (FitsSigned w64) signed_field n c.args.bytes.now (zs, rest) fits e).takes.parts;
      many = λ n front rest e. (bytes_takes n c.args.bytes.now front rest fits e).takes.parts;
      magic = λ magic front rest e. (magic_takes magic c.args.bytes.now front rest fits e).parts;
    }
