-- What a new version needs to know of its symbol.
--     IsTipOf, IsTipAt    the tip of the symbol's chain in a history, and at a place of it
--     IsNewestPart        the newest elements of a chain: as far as the newest live link, or all
--     IsTipIn             the tip that elements give
use Rattle.std.specs.Prelude.{◌≡◌, ◌⊎◌, ℕ, suc, Bool, true, false, not, List, [], ◌∷◌, ◌++◌, length, map, reverse, Option, filter, find, if◌then◌else◌}
use Rattle.std.specs.List.{list_any}
use Rattle.key_kind.specs.declared.key.Key.{Key}
use Rattle.key_kind.specs.Names.{Name}
use Rattle.bucket_core.specs.History.{History, reference}
use Rattle.store_model.specs.declared.chain.LinkRow.{LinkRow}
use Rattle.store_model.specs.declared.chain.ChainMark.{ChainMark}
use Rattle.store_model.specs.declared.chain.ChainMark.TheVariants as marks
use Rattle.store_model.specs.declared.chain.Entry.{Entry}
use Rattle.store_model.specs.Library.{Version, state_of, is_buried, live_versions, next_number}
use Rattle.store_model.specs.Links.{Linked, links}
use Rattle.store_model.specs.PlainWalks.{tombs_in, rows_in}
use Rattle.version_chain.specs.declared.tip.ChainTip.{ChainTip}
use Rattle.version_chain.specs.States.{is_tomb}

-- the newest link of the symbol that is not buried
abbrev pub newest_live : History → Name → Option LinkRow
newest_live h symbol = find (λ row. not (is_buried (state_of h symbol) row.version)) (map (λ (l : Linked). l.row) (links h symbol))

-- the tip of the symbol's chain in the history: its reference, the next number, the newest live link, and the numbers that a new
-- version buries, ascending
pub record IsTipOf (h : History) (symbol : Name) (prune : Bool) (tip : ChainTip) : Type 0 where
  pub was : tip.was ≡ reference h symbol
  pub next : tip.next ≡ next_number (state_of h symbol)
  pub newest : tip.newest ≡ newest_live h symbol
  pub buried : tip.buried ≡ (if prune then reverse (map (λ (v : Version). v.number) (live_versions (state_of h symbol))) else [])

-- the tip of the symbol's chain at a place of the history: before the events that came later
pub record IsTipAt (h : History) (symbol : Name) (prune : Bool) (tip : ChainTip) : Type 0 where
  pub later : History
  pub before : History
  pub split : h ≡ later ++ before
  pub place : tip.place ≡ length before
  pub is : IsTipOf before symbol prune tip

-- ---- of elements, the newest first

-- the row is buried by none of these
abbrev pub is_unburied : List ℕ → LinkRow → Bool
is_unburied tombs row = not (is_tomb tombs row.version)

-- the mark links a version that none of these buries
abbrev pub links_live : List ℕ → ChainMark → Bool
links_live tombs (marks.Link row) = is_unburied tombs row
links_live tombs _ = false

-- the elements link a version that none of their Tombs buries
abbrev pub has_live : List Entry → Bool
has_live elements = list_any (is_unburied (tombs_in elements)) (rows_in elements)

-- the newest elements of the chain: all, or at least as many as have a live link, where not the whole is wanted
pub record IsNewestPart (chain : List Entry) (whole : Bool) (elements : List Entry) : Type 0 where
  pub older : List Entry
  pub is : chain ≡ elements ++ older
  pub ends : (older ≡ []) ⊎ ((whole ≡ false) × (has_live elements ≡ true))

-- the number behind the newest of these links, the newest first
abbrev pub number_behind : List LinkRow → ℕ
number_behind [] = 0
number_behind (row ∷ older) = suc row.version

-- the numbers of the links that none of these buries
abbrev pub live_among : List ℕ → List LinkRow → List ℕ
live_among tombs rows = map (λ (row : LinkRow). row.version) (filter (is_unburied tombs) rows)

-- the tip that these elements give with this reference and place
pub record IsTipIn (newest : Option Key) (elements : List Entry) (at : ℕ) (prune : Bool) (tip : ChainTip) : Type 0 where
  pub was : tip.was ≡ newest
  pub next : tip.next ≡ number_behind (rows_in elements)
  pub newest_is : tip.newest ≡ find (is_unburied (tombs_in elements)) (rows_in elements)
  pub buried : tip.buried ≡ (if prune then live_among (tombs_in elements) (reverse (rows_in elements)) else [])
  pub place : tip.place ≡ at
