-- The rules of a chain element.
--     IsKeyOf             a key of one kind, within its rules
--     IsLink, IsMark, IsForm      the rules of a link and of each mark, and the five forms in which marks stand
--     IsEntry             an element that keeps the rules of the format
--     FitsEntry           its numbers fit their fields
use Rattle.std.specs.Prelude.{◌≡◌, ℕ, ◌<◌, ◌^◌, List, [], ◌∷◌, length, Option, None, IfSome, ⊤, FitsSigned}
use Rattle.std.specs.List.{AllByRecursion}
use Rattle.std.specs.Int.{w64}
use Rattle.key_kind.specs.declared.key.KeyKind.{KeyKind}
use Rattle.key_kind.specs.declared.key.KeyKind.TheVariants as kinds
use Rattle.key_kind.specs.declared.key.Key.{Key}
use Rattle.key_kind.specs.declared.key.Holder.{Holder}
use Rattle.key_kind.specs.Keys.{IsKey, FitsFields}
use Rattle.bucket_core.specs.declared.event.PieceName.{PieceName}
use Rattle.store_model.specs.declared.chain.LinkRow.{LinkRow}
use Rattle.store_model.specs.declared.chain.ChainMark.{ChainMark}
use Rattle.store_model.specs.declared.chain.ChainMark.TheVariants as marks
use Rattle.store_model.specs.declared.chain.Entry.{Entry}
use Rattle.store_model.specs.Commits.{IsFilled, PiecesRise}

-- a key of this kind, within its rules
pub record IsKeyOf (kind : KeyKind) (key : Key) : Type 0 where
  pub kind_is : key.kind ≡ kind
  pub is_key : IsKey key

-- ---- the rules

-- the number of rows has four bytes, and the key is that of an index
pub record IsLink (row : LinkRow) : Type 0 where
  pub rows : row.rows < 2 ^ 32
  pub index : IsKeyOf kinds.TableIndex row.index

-- a Link keeps these rules; a Discard has pieces, ascending; a Compact is no mark while gate B of ChainText is closed
abbrev pub IsMark : ChainMark → Type 0
IsMark (marks.Link row) = IsLink row
IsMark (marks.Discard pieces) = IsFilled pieces × PiecesRise pieces
IsMark (marks.Compact told) = ⊥
IsMark _ = ⊤

-- the number is above the one before it, if there is one
abbrev pub IsAbove : Option ℕ → ℕ → Type 0
IsAbove before version = IfSome before (λ n. n < version)

-- Tombs alone, ascending
abbrev pub AreTombs : Option ℕ → List ChainMark → Type 0
AreTombs before [] = ⊤
AreTombs before (marks.Tomb version ∷ more) = IsAbove before version × AreTombs (Option.Some version) more
AreTombs before _ = ⊥

-- Tombs, ascending, and then at most one Discard
abbrev pub AreTombsAndDiscard : Option ℕ → List ChainMark → Type 0
AreTombsAndDiscard before [] = ⊤
AreTombsAndDiscard before (marks.Tomb version ∷ more) = IsAbove before version × AreTombsAndDiscard (Option.Some version) more
AreTombsAndDiscard before (marks.Discard pieces ∷ []) = ⊤
AreTombsAndDiscard before _ = ⊥

-- one Link, then Tombs, then at most one Discard; or one or more Tombs; or one Hold; or one Release; or one Discard
abbrev pub IsForm : List ChainMark → Type 0
IsForm (marks.Link row ∷ more) = AreTombsAndDiscard None more
IsForm (marks.Tomb version ∷ more) = AreTombs (Option.Some version) more
IsForm (marks.Hold holder version ∷ []) = ⊤
IsForm (marks.Release holder ∷ []) = ⊤
IsForm (marks.Discard pieces ∷ []) = ⊤
IsForm _ = ⊥

-- an element that keeps the rules of the format
pub record IsEntry (e : Entry) : Type 0 where
  pub prev : IfSome e.prev (IsKeyOf kinds.Version)
  pub marks : AllByRecursion IsMark e.changes
  pub form : IsForm e.changes

-- ---- numbers that fit their fields

-- a holder's numbers
pub record FitsHolder (holder : Holder) : Type 0 where
  pub client : holder.client < 2 ^ 32
  pub serial : holder.serial < 2 ^ 64

-- a piece's numbers
pub record FitsPiece (piece : PieceName) : Type 0 where
  pub client : piece.client < 2 ^ 32
  pub serial : piece.serial < 2 ^ 64

-- a link's numbers
pub record FitsRow (row : LinkRow) : Type 0 where
  pub version : row.version < 2 ^ 64
  pub stamp : FitsSigned w64 row.stamp
  pub index : FitsFields row.index

-- a mark's numbers
abbrev pub FitsMark : ChainMark → Type 0
FitsMark (marks.Link row) = FitsRow row
FitsMark (marks.Tomb version) = version < 2 ^ 64
FitsMark (marks.Hold holder version) = FitsHolder holder × (version < 2 ^ 64)
FitsMark (marks.Release holder) = FitsHolder holder
FitsMark (marks.Discard pieces) = (length pieces < 2 ^ 64) × AllByRecursion FitsPiece pieces
FitsMark (marks.Compact told) = ⊥

-- an element's numbers, and how many marks it has
pub record FitsEntry (e : Entry) : Type 0 where
  pub prev : IfSome e.prev FitsFields
  pub count : length e.changes < 2 ^ 64
  pub marks : AllByRecursion FitsMark e.changes
