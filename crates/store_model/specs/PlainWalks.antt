-- What a walk along all elements of a symbol gives while gate C is closed, in the order in which it was told. It goes with that gate, but for
-- `no_pages`, which goes with gate P; Walks has what holds then.
--     chain               the elements of all the symbol's Refers as they were put, the newest first
--     tombs_in, rows_in, pieces_in, holds_in      what a walk along the elements finds
--     WalkIsState         it is the symbol's state, in its order
--     WalksPlainly        it is, along elements that are still what was put; the chain has all entries, and no link has pages
--     PlainWalks          so it is in each lawful history
use Rattle.std.specs.Prelude.{◌≡◌, not, Option, Some, None, List, [], ◌∷◌, ◌++◌, map, flat_map, filter, filter_map, fold, if◌then◌else◌, ℕ, Contains}
use Rattle.std.specs.List.{AllZip, cons_option}
use Rattle.key_kind.specs.declared.key.Key.{Key}
use Rattle.key_kind.specs.Names.{Name, same_name}
use Rattle.key_kind.specs.Keys.{same_holder}
use Rattle.bucket_core.specs.declared.event.PieceName.{PieceName}
use Rattle.bucket_core.specs.declared.event.Event.TheVariants as events
use Rattle.bucket_core.specs.History.{History, StandsAsPut}
use Rattle.store_model.specs.declared.chain.LinkRow.{LinkRow}
use Rattle.store_model.specs.declared.chain.ChainMark.{ChainMark}
use Rattle.store_model.specs.declared.chain.ChainMark.TheVariants as marks
use Rattle.store_model.specs.declared.chain.Entry.{Entry}
use Rattle.store_model.specs.ChainText.{tomb_of}
use Rattle.store_model.specs.Library.{Hold, state_of}
use Rattle.store_model.specs.Links.{Linked, links, entries, chain_entries, element}
use Rattle.store_model.specs.Law.{IsLawful}

-- ---- along the elements, the newest first

-- the row of a Link
abbrev pub row_of : ChainMark → Option LinkRow
row_of (marks.Link row) = Some row
row_of _ = None

-- the pieces of a Discard
abbrev pub pieces_of : ChainMark → List PieceName
pieces_of (marks.Discard pieces) = pieces
pieces_of _ = []

-- the holds behind a mark
abbrev pub holds_after_mark : List Hold → ChainMark → List Hold
holds_after_mark holds (marks.Hold holder version) = record { holder = holder; version = version } ∷ holds
holds_after_mark holds (marks.Release holder) = filter (λ (w : Hold). not (same_holder holder w.holder)) holds
holds_after_mark holds _ = holds

-- the tombs that a walk finds
abbrev pub tombs_in : List Entry → List ℕ
tombs_in [] = []
tombs_in (e ∷ older) = filter_map tomb_of e.changes ++ tombs_in older

-- the rows that a walk finds
abbrev pub rows_in : List Entry → List LinkRow
rows_in [] = []
rows_in (e ∷ older) = filter_map row_of e.changes ++ rows_in older

-- the consumed pieces that a walk finds
abbrev pub pieces_in : List Entry → List PieceName
pieces_in [] = []
pieces_in (e ∷ older) = flat_map pieces_of e.changes ++ pieces_in older

-- the holds that a walk finds
abbrev pub holds_in : List Entry → List Hold
holds_in [] = []
holds_in (e ∷ older) = fold holds_after_mark (holds_in older) e.changes

-- the elements of all the symbol's Refers as they were put, the newest first
abbrev pub chain : History → Name → List Entry
chain [] symbol = []
chain (events.Refer c s was entry list ∷ h) symbol = if same_name s symbol then cons_option (element h entry) (chain h symbol) else chain h symbol
chain (_ ∷ h) symbol = chain h symbol

-- each entry has its element
abbrev pub HasElements : History → Name → Type 0
HasElements h symbol = AllZip (λ (key : Key) (e : Entry). element h key ≡ Some e) (entries h symbol) (chain h symbol)

-- a walk along the elements gives the symbol's state
pub record WalkIsState (h : History) (symbol : Name) : Type 0 where
  pub rows : rows_in (chain h symbol) ≡ map (λ (l : Linked). l.row) (links h symbol)
  pub tombs : tombs_in (chain h symbol) ≡ (state_of h symbol).buried
  pub holds : holds_in (chain h symbol) ≡ (state_of h symbol).holds
  pub pieces : pieces_in (chain h symbol) ≡ (state_of h symbol).consumed

-- what holds of the symbol while gates C and P are closed
pub record WalksPlainly (h : History) (symbol : Name) : Type 0 where
  -- each entry has its element, and these tell the state
  pub elements : HasElements h symbol
  pub state : WalkIsState h symbol
  -- the chain has all entries, and each stands as it was put
  pub whole : chain_entries h symbol ≡ entries h symbol
  pub stand : (key : Key) → Contains (entries h symbol) key → StandsAsPut h key
  -- no link has pages
  pub no_pages : (l : Linked) → Contains (links h symbol) l → l.pages ≡ []

-- it does in each lawful history
abbrev pub PlainWalks : Type 0
PlainWalks = (h : History) → IsLawful h → (symbol : Name) → WalksPlainly h symbol
