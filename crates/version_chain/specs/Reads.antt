-- What the readers in code answer, step by step.
--     StopsAt, Reads      the answer is what a reading gives, unless memory ran out
--     form_of             what may come next in an element, as the format sees it
--     piece_at            the next piece of a Discard
--     snap_row_at         the next symbol of a snapshot
use Rattle.std.specs.Prelude.{◌≡◌, ℕ, Bool, true, List, drop, Result, Ok, Err, Option, ⊤, nat_le}
use Rattle.std.specs.Option.{option_map_or}
use Rattle.std.specs.Int.{w32, w64}
use Rattle.byte_fields.specs.Reading.{Reading, ◌>>=◌, wanted, number_at}
use Rattle.key_kind.specs.declared.key.KeyKind.TheVariants as kinds
use Rattle.key_kind.specs.Names.{Name, name_before}
use Rattle.key_kind.specs.KeyText.{key_of_at, name_at}
use Rattle.bucket_core.specs.declared.event.PieceName.{PieceName}
use Rattle.store_model.specs.declared.snapshot.SnapRow.{SnapRow}
use Rattle.store_model.specs.ChainText.{piece_before, Form, start, linked, buried, ended}
use Rattle.version_chain.specs.declared.fields.Stop.{Stop}
use Rattle.version_chain.specs.declared.fields.Stop.TheVariants as stops
use Rattle.version_chain.specs.declared.marks.Next.{Next}
use Rattle.version_chain.specs.declared.marks.Next.TheVariants as nexts

-- the reading fails with so many bytes left; or memory ran out, which tells nothing
abbrev pub StopsAt : {Y : Type 0} → Stop → Result Y ℕ → Type 0
StopsAt (stops.Left left) reading = reading ≡ Err left
StopsAt stops.NoMemory reading = ⊤

-- the answer, seen by `view`, is what the reading gives: the same value, or the same number of bytes left; or memory ran out
abbrev pub Reads : {X Y : Type 0} → (X → Y) → Result X Stop → Result Y ℕ → Type 0
Reads view (Ok x) reading = reading ≡ Ok (view x)
Reads view (Err stop) reading = StopsAt stop reading

-- what may come next, as the format sees it
abbrev pub form_of : Next → Form
form_of nexts.Anything = start
form_of nexts.TombOrDiscard = linked
form_of nexts.Tomb = buried
form_of nexts.Nothing = ended

-- the piece stands behind the one before it
abbrev pub piece_rises : Option PieceName → PieceName → Bool
piece_rises before piece = option_map_or (λ p. piece_before p piece) before true

-- the next piece, behind the one before it
abbrev pub piece_at : Option PieceName → List ℕ → Reading PieceName
piece_at before bytes = do
  client ← number_at w32 bytes
  serial ← wanted (option_map_or (λ p. nat_le p.client client.0) before true) bytes (number_at w64 client.1)
  wanted (piece_rises before (record { client = client.0; serial = serial.0 })) client.1 (Ok (record { client = client.0; serial = serial.0 }, serial.1))

-- the symbol stands behind the one before it
abbrev pub symbol_rises : Option Name → Name → Bool
symbol_rises before symbol = option_map_or (λ s. name_before s symbol) before true

-- the next symbol of a snapshot, behind the one before it
abbrev pub snap_row_at : Option Name → List ℕ → Reading SnapRow
snap_row_at before bytes = do
  symbol ← name_at bytes
  version ← wanted (symbol_rises before symbol.0) (drop 1 bytes) (number_at w64 symbol.1)
  index ← key_of_at kinds.TableIndex version.1
  Ok (record { symbol = symbol.0; version = version.0; index = index.0 }, index.1)
