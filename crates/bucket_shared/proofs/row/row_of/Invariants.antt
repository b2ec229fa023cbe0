use Rattle.std.proofs.Common.{◌≡◌, ◌<◌, ◌+◌, ◌%◌, drop}
use Rattle.std.specs.List.{sum_by}
use Rattle.bucket_shared.specs.Rows.{row}
use Rattle.bucket_shared.proofs.row.row_of.Given as goal

-- the sum so far and the bytes that are left give the row
abbrev pub invariant-loop-byte : goal.invariant-loop-byte
invariant-loop-byte l = record {
  bound : l.sum < 256;
  rest : (l.sum + sum_by (λ byte. byte) (drop l.byte-index l.byte-items)) % 256 ≡ row l.symbol;
}
