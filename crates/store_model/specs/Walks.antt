-- What a walk along the elements of a symbol's chain gives.
--     chain               the elements of a symbol's chain as they were put, from the reference back to the last Compact
--     tombs_in, rows_in, pieces_in, holds_in      what a walk along the elements finds
--     WalkIsState         it is the symbol's state
--     LawfulWalks         in each lawful history it is, and the elements are still what was put under their entries
use Rattle.std.specs.Prelude.{◌≡◌, not, Some, List, [], ◌∷◌, ◌++◌, map, flat_map, filter, fold, reverse, if◌then◌else◌, ℕ, nat_eq}
use Rattle.std.specs.List.{AllZip, cons_option, list_any}
use Rattle.key_kind.specs.declared.key.Key.{Key}
use Rattle.key_kind.specs.Names.{Name, same_name}
use Rattle.key_kind.specs.Keys.{same_holder}
use Rattle.bucket_core.specs.declared.event.PieceName.{PieceName}
use Rattle.bucket_core.specs.declared.event.Event.TheVariants as events
use Rattle.bucket_core.specs.History.{History}
use Rattle.store_model.specs.declared.chain.LinkRow.{LinkRow}
use Rattle.store_model.specs.declared.chain.ToldLink.{ToldLink}
use Rattle.store_model.specs.declared.chain.ChainMark.{ChainMark}
use Rattle.store_model.specs.declared.chain.ChainMark.TheVariants as marks
use Rattle.store_model.specs.declared.chain.Entry.{Entry}
use Rattle.store_model.specs.Library.{State, Hold, hold_of, state_of, is_buried}
use Rattle.store_model.specs.Links.{Linked, links, left_behind, chain_entries, element}
use Rattle.store_model.specs.Commits.{AsOften}
use Rattle.store_model.specs.Law.{IsLawful}

-- ---- along the elements, the newest first

-- the rows of a mark, the newest first
abbrev pub rows_of : ChainMark → List LinkRow
rows_of (marks.Link row) = row ∷ []
rows_of (marks.Compact told) = reverse (map (λ (l : ToldLink). l.row) told.links)
rows_of _ = []

-- the buried versions of a mark
abbrev pub tombs_of : ChainMark → List ℕ
tombs_of (marks.Tomb version) = version ∷ []
tombs_of (marks.Compact told) = map (λ (l : ToldLink). l.row.version) (filter (λ (l : ToldLink). not l.live) told.links)
tombs_of _ = []

-- the consumed pieces of a mark
abbrev pub pieces_of : ChainMark → List PieceName
pieces_of (marks.Discard pieces) = pieces
pieces_of (marks.Compact told) = told.pieces
pieces_of _ = []

-- the holds behind a mark
abbrev pub holds_after_mark : List Hold → ChainMark → List Hold
holds_after_mark holds (marks.Hold holder version) = record { holder = holder; version = version } ∷ holds
holds_after_mark holds (marks.Release holder) = filter (λ (w : Hold). not (same_holder holder w.holder)) holds
holds_after_mark holds (marks.Compact told) = map hold_of told.holds
holds_after_mark holds _ = holds

-- the tombs that a walk finds
abbrev pub tombs_in : List Entry → List ℕ
tombs_in [] = []
tombs_in (e ∷ older) = flat_map tombs_of e.changes ++ tombs_in older

-- the rows that a walk finds
abbrev pub rows_in : List Entry → List LinkRow
rows_in [] = []
rows_in (e ∷ older) = flat_map rows_of e.changes ++ rows_in older

-- the consumed pieces that a walk finds
abbrev pub pieces_in : List Entry → List PieceName
pieces_in [] = []
pieces_in (e ∷ older) = flat_map pieces_of e.changes ++ pieces_in older

-- the holds that a walk finds
abbrev pub holds_in : List Entry → List Hold
holds_in [] = []
holds_in (e ∷ older) = fold holds_after_mark (holds_in older) e.changes

-- the elements of the symbol's chain as they were put, the newest first: from the reference back to the last Compact, or to the first
abbrev pub chain : History → Name → List Entry
chain [] symbol = []
chain (events.Refer c s was entry list ∷ h) symbol =
    if same_name s symbol then cons_option (element h entry) (left_behind list (chain h symbol)) else chain h symbol
chain (_ ∷ h) symbol = chain h symbol

-- each entry of the chain has its element
abbrev pub HasElements : History → Name → Type 0
HasElements h symbol = AllZip (λ (key : Key) (e : Entry). element h key ≡ Some e) (chain_entries h symbol) (chain h symbol)

-- the elements tell these links, each with its own row, and what of this state is buried, held and consumed
pub record Tell (elements : List Entry) (links : List Linked) (st : State) : Type 0 where
  pub rows : rows_in elements ≡ map (λ (l : Linked). l.row) links
  pub tombs : (number : ℕ) → list_any (nat_eq number) (tombs_in elements) ≡ is_buried st number
  pub holds : AsOften (holds_in elements) st.holds
  pub pieces : AsOften (pieces_in elements) st.consumed

-- a walk along the elements gives the symbol's state
abbrev pub WalkIsState : History → Name → Type 0
WalkIsState h symbol = Tell (chain h symbol) (links h symbol) (state_of h symbol)

-- in each lawful history a walk finds the elements and the state
abbrev pub LawfulWalks : Type 0
LawfulWalks = (h : History) → IsLawful h → (symbol : Name) → HasElements h symbol × WalkIsState h symbol
