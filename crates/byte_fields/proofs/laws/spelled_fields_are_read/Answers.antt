use Rattle.std.proofs.Common.{◌^◌, w64}
use Rattle.std.specs.Prelude.{FitsSigned}
use Rattle.std.specs.Int.{w16, w32}
use Rattle.byte_fields.specs.Reading.{signed_at, signed_text}
use Rattle.byte_fields.proofs.Numbers.{wide16, wide32, wide64, byte_again, number_again, signed_again, bytes_again, magic_again}
use Rattle.byte_fields.proofs.Lists.{list_again, signed_field}
use Rattle.byte_fields.proofs.laws.spelled_fields_are_read.Goals as goal

pub returns : goal.returns
returns c = record {
  byte = byte_again;
  two = number_again w16 (2 ^ 16) wide16;
  four = number_again w32 (2 ^ 32) wide32;
  eight = number_again w64 (2 ^ 64) wide64;
  signed = signed_again;
  many_signed = list_again signed_at signed_text (FitsSigned w64) signed_field;
  bytes = bytes_again;
  magic = magic_again;
}
