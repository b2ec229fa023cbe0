-- The rules of a snapshot's body.
--     IsSnap              a body that keeps the rules of the format
--     FitsSnap            its numbers fit their fields
use Rattle.std.specs.Prelude.{◌≡◌, ◌<◌, ◌^◌, true, List, [], ◌∷◌, length, ⊤}
use Rattle.std.specs.List.{AllByRecursion}
use Rattle.key_kind.specs.declared.key.KeyKind.TheVariants as kinds
use Rattle.key_kind.specs.Names.{IsName, name_before}
use Rattle.key_kind.specs.Keys.{FitsFields}
use Rattle.store_model.specs.declared.snapshot.SnapRow.{SnapRow}
use Rattle.store_model.specs.declared.snapshot.SnapBody.{SnapBody}
use Rattle.store_model.specs.Commits.{IsFilled}
use Rattle.version_chain.specs.Entries.{IsKeyOf, FitsHolder}

-- a symbol, and the key of an index
pub record IsSnapRow (row : SnapRow) : Type 0 where
  pub symbol : IsName row.symbol
  pub index : IsKeyOf kinds.TableIndex row.index

-- the symbols rise, so that none stands twice
abbrev pub SymbolsRise : List SnapRow → Type 0
SymbolsRise [] = ⊤
SymbolsRise (r ∷ []) = ⊤
SymbolsRise (r ∷ s ∷ more) = (name_before r.symbol s.symbol ≡ true) × SymbolsRise (s ∷ more)

-- a body with a symbol, whose symbols rise
pub record IsSnap (body : SnapBody) : Type 0 where
  pub filled : IsFilled body.rows
  pub rows : AllByRecursion IsSnapRow body.rows
  pub rising : SymbolsRise body.rows

-- a row's numbers fit their fields
pub record FitsSnapRow (row : SnapRow) : Type 0 where
  pub version : row.version < 2 ^ 64
  pub index : FitsFields row.index

-- a body's numbers fit their fields
pub record FitsSnap (body : SnapBody) : Type 0 where
  pub holder : FitsHolder body.holder
  pub count : length body.rows < 2 ^ 64
  pub rows : AllByRecursion FitsSnapRow body.rows
