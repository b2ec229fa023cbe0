-- Schemas: whether rows have stamps, and the name and type of each column.
--     Head, Schema            a column's name and type; the flag and the columns
--     IsColName, AreColumns   1 to 255 bytes of UTF-8; names of columns, of which none stands twice
--     same_type, same_column  tests of equality
--     schemas_differ          the least position at which the columns of two schemas differ
use Rattle.std.specs.Prelude.{◌≡◌, ℕ, ◌+◌, ◌≤◌, Bool, true, false, ◌&&◌, not, if◌then◌else◌, List, [], ◌∷◌, map, length, Option, Some, None, IsUtf8}
use Rattle.std.specs.List.{AllByRecursion, list_any}
use Rattle.frame_core.specs.declared.cell.ColType.{ColType}
use Rattle.frame_core.specs.declared.cell.ColType.TheVariants as types
use Rattle.frame_core.specs.Texts.{Text, same_text}

-- a column of a schema: its name and its type
abbrev pub Head : Type 0
Head = Text × ColType

-- whether the rows have stamps of their own, and the columns
pub record Schema : Type 0 where
  pub timed : Bool
  pub columns : List Head

-- the bytes of a column's name
pub record IsColName (name : Text) : Type 0 where
  pub some : 1 ≤ length name
  pub most : length name ≤ 255
  pub text : IsUtf8 name

-- none of the names stands among the earlier ones, nor twice
abbrev pub are_new : List Text → List Text → Bool
are_new earlier [] = true
are_new earlier (name ∷ names) = not (list_any (same_text name) earlier) && are_new (name ∷ earlier) names

-- names of columns, of which none stands twice
pub record AreColumns (columns : List Head) : Type 0 where
  pub named : AllByRecursion (λ (c : Head). IsColName c.0) columns
  pub distinct : are_new [] (map (λ (c : Head). c.0) columns) ≡ true

-- a test of equality of types
abbrev pub same_type : ColType → ColType → Bool
same_type types.Int types.Int = true
same_type types.Flag types.Flag = true
same_type types.Text types.Text = true
same_type types.Stamp types.Stamp = true
same_type _ _ = false

-- a test of equality of columns
abbrev pub same_column : Head → Head → Bool
same_column a b = same_text a.0 b.0 && same_type a.1 b.1

-- the least position, from n, at which the columns differ, or at which one list has a column more
abbrev pub differs_from : ℕ → List Head → List Head → Option ℕ
differs_from n [] [] = None
differs_from n [] (b ∷ bs) = Some n
differs_from n (a ∷ as') [] = Some n
differs_from n (a ∷ as') (b ∷ bs) = if same_column a b then differs_from (n + 1) as' bs else Some n

-- the least position, counted from 1, at which the columns of two schemas differ
abbrev pub schemas_differ : Schema → Schema → Option ℕ
schemas_differ s t = differs_from 1 s.columns t.columns
