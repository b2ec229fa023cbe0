-- What happens at most once in every lawful history.
--     PiecesOnce          a staged piece is consumed
--     NamedOnce           a holder is named
use Rattle.std.specs.Prelude.{◌≡◌, true, false, [], ◌∷◌, ⊤, Ok}
use Rattle.std.specs.List.{AllByRecursion, list_any}
use Rattle.bucket_core.specs.declared.event.Change.{Change}
use Rattle.bucket_core.specs.declared.event.Change.TheVariants as changes
use Rattle.bucket_core.specs.declared.event.Event.TheVariants as events
use Rattle.bucket_core.specs.History.{History}
use Rattle.store_model.specs.declared.snapshot.SnapBody.{SnapBody}
use Rattle.store_model.specs.Library.{State, Piece, state_of, is_consumed, same_piece}
use Rattle.store_model.specs.Holders.{has_name}
use Rattle.store_model.specs.ChainText.{snap_of}

-- each piece that a Refer consumes was staged, and no Refer before consumed it
abbrev pub ConsumesNew : State → Change → Type 0
ConsumesNew st (changes.Discarded pieces) = AllByRecursion (λ name. (is_consumed st name ≡ false) × (list_any (λ (p : Piece). same_piece name p.name) st.staged ≡ true)) pieces
ConsumesNew st _ = ⊤

-- no piece is consumed a second time
abbrev pub PiecesOnce : History → Type 0
PiecesOnce [] = ⊤
PiecesOnce (events.Refer c symbol was entry list ∷ h) = AllByRecursion (ConsumesNew (state_of h symbol)) list × PiecesOnce h
PiecesOnce (_ ∷ h) = PiecesOnce h

-- a holder has at most one Name
abbrev pub NamedOnce : History → Type 0
NamedOnce [] = ⊤
NamedOnce (events.Name c snap body ∷ h) = ((s : SnapBody) → snap_of body ≡ Ok s → has_name h s.holder ≡ false) × NamedOnce h
NamedOnce (_ ∷ h) = NamedOnce h
