-- Small frames of one column `a`, and names, for histories that are computed.
use Rattle.std.specs.Prelude.{ℕ, ◌<◌, ◌^◌, pos, true, List, [], ◌∷◌, map, refl}
use Rattle.std.specs.Int.{w64}
use Rattle.std.specs.Str.{is_utf8, chars}
use lib.Utf8.{encode}
use Rattle.std.proofs.Common.{lit≤}
use Rattle.std.proofs.lemmas.Int.{fits_signed_from_abs}
use Rattle.std.proofs.lemmas.Str.{IsUtf8-from_is_utf8}
use Rattle.frame_core.specs.declared.cell.ColType.TheVariants as types
use Rattle.frame_core.specs.declared.cell.Cell.TheVariants as cells
use Rattle.frame_core.specs.Schemas.{Schema, AreColumns}
use Rattle.frame_core.specs.Frames.{Row, Frame, FitsColumns}
use Rattle.key_kind.specs.Names.{Name}

-- the symbols S and X
abbrev pub S : Name
S = 83 ∷ []

abbrev pub X : Name
X = 88 ∷ []

-- the snapshot k
abbrev pub k : Name
k = 107 ∷ []

abbrev pub schema : Schema
schema = record { timed = true; columns = (97 ∷ [], types.Int) ∷ [] }

-- a row of a stamp and a number
abbrev pub line : ℕ × ℕ → Row
line x = record { stamp = pos x.0; cells = cells.Int (pos x.1) ∷ [] }

-- the frame of these stamps and numbers
abbrev pub frame : List (ℕ × ℕ) → Frame
frame lines = record { schema = schema; rows = map line lines }

-- `a` is the name of a column
pub column_rules : AreColumns schema.columns
unfolding is_utf8 chars encode
column_rules = record { named = (record { some = lit≤ tt; most = lit≤ tt; text = IsUtf8-from_is_utf8 (97 ∷ []) refl }, tt); distinct = refl }

-- a line whose numbers fit is a row of these columns
pub line_fits : (x : ℕ × ℕ) → x.0 < 2 ^ 63 → x.1 < 2 ^ 63 → FitsColumns schema.columns (line x)
line_fits x stamp cell = record { stamp = fits_signed_from_abs w64 (pos x.0) stamp; typed = (refl, tt); cells = (fits_signed_from_abs w64 (pos x.1) cell, tt) }
