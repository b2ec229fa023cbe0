-- What may not follow: for each way to break the law a history, and an event that the law refuses behind it.
use Rattle.segment_bytes.specs.Heads.{head_at, length_at, name_at, text_at, type_at}
use Rattle.segment_bytes.specs.Sheets.{columns_at, count_at, rows_at, series_at, sheet_at, sheet_text, stamp_at, stamps_at}
use Rattle.segment_bytes.specs.CellTexts.{cells_at, cells_text}
use Rattle.byte_fields.specs.Reading.{signed_text}
use Rattle.std.proofs.Common.{◌≡◌, ℕ, ℤ, false, List, [], ◌∷◌, sym, ap, refl, inl, inr, arith, pos, Some, None, Option, subst, Ok, Result}
use Rattle.std.specs.List.{AllByRecursion}
use Rattle.std.proofs.lemmas.Bool.{true≢false}
use Rattle.std.specs.Str.{is_utf8, chars}
use lib.Utf8.{encode}
use Rattle.frame_core.specs.declared.cell.Cell.{Cell}
use Rattle.frame_core.specs.declared.cell.Cell.TheVariants as cells
use Rattle.frame_core.specs.Frames.{Row, Frame}
use Rattle.segment_cut.specs.Tiles.{Tile, cut}
use Rattle.segment_bytes.specs.Segments.{segment_of, segment_text, sheet_spelled}
use Rattle.index_tree.specs.IndexText.{index_of}
use Rattle.index_tree.specs.PageText.{object_of}
use Rattle.key_kind.specs.declared.key.KeyKind.{KeyKind}
use Rattle.key_kind.specs.declared.key.KeyKind.TheVariants as kinds
use Rattle.key_kind.specs.Keys.{reference_key}
use Rattle.key_kind.specs.declared.key.Key.{Key}
use Rattle.key_kind.specs.KeyText.{key_at, key_text}
use Rattle.bucket_core.specs.declared.event.Change.{Change}
use Rattle.bucket_core.specs.declared.event.Change.TheVariants as changes
use Rattle.bucket_core.specs.declared.event.Event.{Event}
use Rattle.bucket_core.specs.declared.event.Event.TheVariants as events
use Rattle.bucket_core.specs.History.{History, Bytes}
use Rattle.bucket_core.specs.Laws.{MayFollow}
use Rattle.store_model.specs.ChainText.{entry_of, snap_text, snap_of}
use Rattle.store_model.specs.declared.snapshot.SnapBody.{SnapBody}
use Rattle.store_model.specs.Holders.{has_name, IsHeldRow}
use Rattle.store_model.specs.declared.chain.LinkRow.{LinkRow}
use Rattle.store_model.specs.declared.chain.ChainMark.{ChainMark}
use Rattle.store_model.specs.declared.chain.ChainMark.TheVariants as marks
use Rattle.store_model.specs.declared.chain.Entry.{Entry}
use Rattle.store_model.specs.Links.{Linked, linked}
use Rattle.store_model.specs.Commits.{FitsLink}
use Rattle.store_model.specs.Law.{IsClaimed}
use Rattle.store_model.proofs.Telling.{is_change}
use Rattle.model_examples.proofs.SmallFrames.{S, k, frame}
use Rattle.model_examples.proofs.Witness as w
use Rattle.model_examples.proofs.WitnessKept as kept
use Rattle.model_examples.proofs.WitnessShared as shared

-- ---- references

-- a Refer of client 2 that was to stand on this reference
abbrev refer : Option Key → Change → Event
refer was change = events.Refer 2 S was (shared.element_key 2 0) (change ∷ [])

-- a Refer that was made on no reference, where another stands
pub no_refer_without_its_test : MayFollow IsClaimed w.written (refer None (changes.Wrote w.table (pos 60))) → ⊥
no_refer_without_its_test may = absurd (some_is_not_none (w.key kinds.Version 2) may.0)
  where
    some_is_not_none : (key : Key) → Some key ≡ None → ⊥
    some_is_not_none key e = cc

-- ---- tombs, holds and pieces

-- a Tomb of a version that is buried
pub no_tomb_of_a_buried_version : MayFollow IsClaimed w.deleted (refer (Some (w.key kinds.Version 3)) (changes.Removed (0 ∷ []))) → ⊥
no_tomb_of_a_buried_version may = true≢false (sym (is_change _ _ _ _ _ _ refl may.1).fits.0.1.live.0)

-- a Hold of a version that is buried
pub no_hold_of_a_buried_version : MayFollow IsClaimed w.deleted (refer (Some (w.key kinds.Version 3)) (changes.Held (record { client = 2; serial = 0 }) 0)) → ⊥
no_hold_of_a_buried_version may = true≢false (sym (is_change _ _ _ _ _ _ refl may.1).fits.0.1.live)

-- a Release of a hold whose snapshot stands
pub no_release_under_a_name : MayFollow IsClaimed kept.kept (refer (Some (w.key kinds.Version 3)) (changes.Released kept.holder)) → ⊥
unfolding snap_of key_at key_text signed_text
no_release_under_a_name may = elim (is_change _ _ _ _ _ _ refl may.1).fits.0.1.allowed [ inl own ↦ true≢false own.1 | inr unnamed ↦ true≢false (sym unnamed) ]

-- a piece that is consumed a second time
pub no_piece_twice : MayFollow IsClaimed shared.discarded (refer (Some (w.key kinds.Version 1)) (changes.Discarded (shared.piece ∷ []))) → ⊥
unfolding segment_text sheet_text cells_text segment_of sheet_spelled sheet_at rows_at count_at stamps_at stamp_at columns_at series_at head_at type_at length_at name_at text_at cells_at is_utf8 chars encode signed_text
no_piece_twice may = true≢false (sym (is_change _ _ _ _ _ _ refl may.1).fits.0.1.staged.0)

-- ---- links

-- the row that a mark links
abbrev row_of_mark : List ChainMark → LinkRow
row_of_mark [] = w.row
row_of_mark (marks.Link row ∷ more) = row
row_of_mark (_ ∷ more) = w.row

-- that of an element's first mark
abbrev row_of_first : Option Entry → LinkRow
row_of_first None = w.row
row_of_first (Some e) = row_of_mark e.changes

abbrev tiles_of : Option Linked → List Tile
tiles_of None = []
tiles_of (Some l) = l.tiles

-- the numbers of a frame's first row
abbrev ints_of : List Cell → List ℤ
ints_of [] = []
ints_of (cells.Int n ∷ more) = n ∷ ints_of more
ints_of (_ ∷ more) = ints_of more

abbrev first_ints : List Row → List ℤ
first_ints [] = []
first_ints (r ∷ rows) = ints_of r.cells

-- the change tells another frame than the tile holds
abbrev other : Frame
other = frame ((1, 6) ∷ [])

abbrev prepared : History
prepared = w.put_first ∷ w.put_index ∷ w.put_tile ∷ []

-- a version whose tile holds another frame
pub no_link_of_another_frame : MayFollow IsClaimed prepared (events.Refer 1 S None (w.key kinds.Version 2) (changes.Wrote other (pos 50) ∷ [])) → ⊥
unfolding object_of index_of entry_of segment_text sheet_text cells_text segment_of sheet_spelled sheet_at rows_at count_at stamps_at stamp_at columns_at series_at head_at type_at length_at name_at text_at cells_at is_utf8 chars encode signed_text key_at key_text
no_link_of_another_frame may =
    let change = is_change prepared 1 S None (w.key kinds.Version 2) (changes.Wrote other (pos 50) ∷ []) refl may.1 in
    let fits : FitsLink prepared 1 S change.row (record { number = 0; stamp = pos 50; frame = other }) = change.fits.0.0 in
    let row : w.row ≡ change.row = ap row_of_first change.spelled in
    let tiles : (w.part, w.table) ∷ [] ≡ fits.link.tiles = ap tiles_of (subst (λ r. linked prepared r ≡ Some fits.link) (sym row) fits.link_is) in
    let part = subst (λ (ts : List Tile). AllByRecursion (λ (t : Tile). t.1 ≡ cut other t.0) ts) (sym tiles) fits.tiled.parts in
    five_is_not_six (ap (λ (f : Frame). first_ints f.rows) part.0)
  where
    five_is_not_six : pos 5 ∷ [] ≡ pos 6 ∷ [] → ⊥
    five_is_not_six e = absurd cc

-- ---- names

-- the snapshot of these bytes is the one that they spell
same_snapshot : (a b : SnapBody) → ◌≡◌ {A = Result SnapBody ℕ} (Ok a) (Ok b) → a ≡ b
same_snapshot a b e = cc

-- a snapshot over a version that nobody holds
pub no_name_over_a_version_that_is_not_held : MayFollow IsClaimed w.written (events.Name 1 k (snap_text kept.snapshot)) → ⊥
unfolding snap_of key_at key_text signed_text
no_name_over_a_version_that_is_not_held may =
    let same = same_snapshot kept.snapshot may.1.snapshot may.1.spelled in
    true≢false (sym (subst (λ (b : SnapBody). AllByRecursion (IsHeldRow w.written b.holder) b.rows) (sym same) may.1.rows).0.0)

-- a second snapshot of one holder
pub no_second_name_of_a_holder : MayFollow IsClaimed kept.kept (events.Name 1 S (snap_text kept.snapshot)) → ⊥
unfolding snap_of key_at key_text signed_text
no_second_name_of_a_holder may =
    let same = same_snapshot kept.snapshot may.1.snapshot may.1.spelled in
    true≢false (subst (λ (b : SnapBody). has_name kept.kept b.holder ≡ false) (sym same) may.1.unnamed)

-- ---- puts

-- a Put under a serial that was used
pub no_second_put_of_a_serial : (body : Bytes) → MayFollow IsClaimed w.written (events.Put 1 (w.key kinds.Version 2) body) → ⊥
no_second_put_of_a_serial body may = omega (arith, may.1.next)

-- a Put of a reference
pub no_put_of_a_reference : (body : Bytes) → MayFollow IsClaimed [] (events.Put 0 (reference_key S) body) → ⊥
no_put_of_a_reference body may = may.1.spelled

-- ---- drops

data_is_not_staged : ◌≡◌ {A = KeyKind} kinds.TableData kinds.Staged → ⊥
data_is_not_staged e = cc

version_is_not_staged : ◌≡◌ {A = KeyKind} kinds.Version kinds.Staged → ⊥
version_is_not_staged e = cc

-- the first version is buried, and the second shares its tile
abbrev first_buried : History
first_buried = events.Refer 1 S (Some (shared.element_key 2 2)) (w.key kinds.Version 3) (changes.Removed (0 ∷ []) ∷ []) ∷ shared.appended

-- a Drop of a tile that a live version shares
pub no_drop_of_a_shared_tile : MayFollow IsClaimed first_buried (events.Drop 1 (w.table_key kinds.TableData 0)) → ⊥
unfolding object_of index_of entry_of segment_text sheet_text cells_text segment_of sheet_spelled sheet_at rows_at count_at stamps_at stamp_at columns_at series_at head_at type_at length_at name_at text_at cells_at is_utf8 chars encode signed_text key_at key_text
no_drop_of_a_shared_tile may = elim may.1 [
  | inl unneeded ↦ true≢false unneeded.no_more
  | inr (inl piece) ↦ absurd (data_is_not_staged piece.staged)
  | inr (inr (inl own)) ↦ true≢false own.unreached
  | inr (inr (inr retold)) ↦ true≢false (sym retold.once)
]

-- a Drop of a tile of a version that is buried and held
pub no_drop_of_a_held_version : MayFollow IsClaimed kept.deleted (events.Drop 1 (w.table_key kinds.TableData 0)) → ⊥
unfolding object_of index_of entry_of segment_text sheet_text cells_text segment_of sheet_spelled sheet_at rows_at count_at stamps_at stamp_at columns_at series_at head_at type_at length_at name_at text_at cells_at is_utf8 chars encode signed_text key_at key_text
no_drop_of_a_held_version may = elim may.1 [
  | inl unneeded ↦ true≢false unneeded.no_more
  | inr (inl piece) ↦ absurd (data_is_not_staged piece.staged)
  | inr (inr (inl own)) ↦ true≢false own.unreached
  | inr (inr (inr retold)) ↦ true≢false (sym retold.once)
]

-- a Drop of an element of a chain
pub no_drop_of_an_element : MayFollow IsClaimed w.deleted (events.Drop 1 (w.key kinds.Version 2)) → ⊥
unfolding object_of index_of entry_of segment_text sheet_text cells_text segment_of sheet_spelled sheet_at rows_at count_at stamps_at stamp_at columns_at series_at head_at type_at length_at name_at text_at cells_at is_utf8 chars encode signed_text key_at key_text
no_drop_of_an_element may = elim may.1 [
  | inl unneeded ↦ true≢false (sym unneeded.once)
  | inr (inl piece) ↦ absurd (version_is_not_staged piece.staged)
  | inr (inr (inl own)) ↦ true≢false own.no_entry
  | inr (inr (inr retold)) ↦ true≢false retold.no_more
]

-- a Drop of another's key that nothing links yet
pub no_drop_of_anothers_key : MayFollow IsClaimed (w.put_tile ∷ []) (events.Drop 2 (w.table_key kinds.TableData 0)) → ⊥
no_drop_of_anothers_key may = elim may.1 [
  | inl unneeded ↦ true≢false (sym unneeded.once)
  | inr (inl piece) ↦ absurd (data_is_not_staged piece.staged)
  | inr (inr (inl own)) ↦ omega (arith, own.own)
  | inr (inr (inr retold)) ↦ true≢false (sym retold.once)
]
