-- What a commit of one change puts, before it puts anything.
--     IsElementKey        the key of an element that stands before
--     IsFormed            a change that makes no version, in the form of its marks
--     IsMarking           the element of a change under its key
--     IsPrepared          such an element of a change that may be tried, for the client's next Put
--     IsOwnEntry          an element of the client's own that nothing refers
use Rattle.std.specs.Prelude.{◌≡◌, ℕ, pos, [], ◌∷◌, Option, Ok, ⊤}
use Rattle.std.specs.Arc.{arc_value}
use Rattle.key_kind.specs.declared.key.KeyKind.TheVariants as kinds
use Rattle.key_kind.specs.declared.key.Key.{Key}
use Rattle.key_kind.specs.Names.{Name, IsName}
use Rattle.key_kind.specs.Keys.{FitsFields}
use Rattle.key_kind.specs.KeyText.{key_text}
use Rattle.bucket_core.specs.declared.event.Change.{Change}
use Rattle.bucket_core.specs.declared.event.Change.TheVariants as changes
use Rattle.bucket_core.specs.History.{History, Bytes, puts_by}
use Rattle.store_model.specs.declared.chain.LinkRow.{LinkRow}
use Rattle.store_model.specs.ChainText.{entry_of}
use Rattle.store_model.specs.Commits.{Rising, IsFilled, PiecesRise, marks_of}
use Rattle.store_model.specs.OwnPuts.{IsOwnPut}
use Rattle.version_chain.specs.declared.marking.Marking.{Marking}
use Rattle.version_chain.specs.declared.state.SymbolState.{SymbolState}
use Rattle.version_chain.specs.Marking.{element_key, MayMark}

-- the key of an element of the symbol
pub record IsElementKey (symbol : Name) (key : Key) : Type 0 where
  pub kind : key.kind ≡ kinds.Version
  pub name : key.name ≡ symbol
  pub version : key.version ≡ 0
  pub first : key.first ≡ pos 0
  pub last : key.last ≡ pos 0

-- versions ascending, at least one; a hold; a release; pieces ascending, at least one
abbrev pub IsFormed : Change → Type 0
IsFormed (changes.Removed versions) = IsFilled versions × Rising versions
IsFormed (changes.Held holder version) = ⊤
IsFormed (changes.Released holder) = ⊤
IsFormed (changes.Discarded pieces) = IsFilled pieces × PiecesRise pieces
IsFormed _ = ⊥

-- the element of the change under its key, its key's spelling, and the change
pub record IsMarking (client serial : ℕ) (symbol : Name) (was : Option Key) (c : Change) (m : Marking) : Type 0 where
  pub key : m.key ≡ element_key client symbol serial
  pub entry : m.entry ≡ element_key client symbol serial
  pub fits : FitsFields (element_key client symbol serial)
  pub is_name : IsName symbol
  pub spelled : (row : LinkRow) → entry_of (arc_value m.body) ≡ Ok (record { prev = was; changes = marks_of row (c ∷ []) })
  pub mark : arc_value m.mark ≡ key_text m.entry
  pub changes : arc_value m.changes ≡ c ∷ []

-- the change may be tried over the walked state, and this is its element under the client's next serial
pub record IsPrepared (seen : History) (client : ℕ) (symbol : Name) (state : SymbolState) (c : Change) (m : Marking) : Type 0 where
  pub may : MayMark seen client symbol state c
  pub is : IsMarking client (puts_by client seen) symbol state.was c m

-- an element of the client's own that nothing refers
abbrev pub IsOwnEntry : History → ℕ → Key → Type 0
IsOwnEntry h client key = (body : Bytes) × IsOwnPut h client key body
