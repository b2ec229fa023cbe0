-- Small histories, computed: what the library of each is. Elements and tiles are left out where the library does not speak of them.
use Rattle.segment_bytes.specs.Heads.{head_at, length_at, name_at, text_at, type_at}
use Rattle.segment_bytes.specs.Sheets.{columns_at, count_at, rows_at, series_at, sheet_at, sheet_text, stamp_at, stamps_at}
use Rattle.segment_bytes.specs.CellTexts.{cells_at, cells_text}
use Rattle.std.specs.Prelude.{◌≡◌, ℕ, ℤ, pos, true, false, List, [], ◌∷◌, map, Some, None, refl}
use Rattle.std.specs.Str.{is_utf8, chars}
use lib.Utf8.{encode}
use Rattle.byte_fields.specs.Reading.{signed_text}
use Rattle.frame_core.specs.Frames.{Frame}
use Rattle.segment_bytes.specs.Segments.{segment_text, segment_of, sheet_spelled}
use Rattle.key_kind.specs.declared.key.KeyKind.{KeyKind}
use Rattle.key_kind.specs.declared.key.KeyKind.TheVariants as kinds
use Rattle.key_kind.specs.declared.key.Key.{Key}
use Rattle.key_kind.specs.declared.key.Holder.{Holder}
use Rattle.key_kind.specs.KeyText.{key_at, key_text}
use Rattle.bucket_core.specs.declared.event.Change.{Change}
use Rattle.bucket_core.specs.declared.event.Change.TheVariants as changes
use Rattle.bucket_core.specs.declared.event.Event.{Event}
use Rattle.bucket_core.specs.declared.event.Event.TheVariants as events
use Rattle.bucket_core.specs.History.{History}
use Rattle.store_model.specs.declared.snapshot.SnapBody.{SnapBody}
use Rattle.store_model.specs.ChainText.{snap_text, snap_of}
use Rattle.store_model.specs.Library.{State, state_of, is_live, is_held, base_of, live_versions, open_pieces}
use Rattle.store_model.specs.Snapshots.{snapshots_of, symbols_of}
use Rattle.model_examples.proofs.SmallFrames.{S, k, frame}

abbrev pub key : KeyKind → ℕ → ℕ → Key
key kind client serial = record { kind = kind; name = S; client = client; serial = serial; version = 0; first = pos 0; last = pos 0 }

-- a Refer of these changes
abbrev pub commit : ℕ → ℕ → List Change → Event
commit client serial list = events.Refer client S None (key kinds.Version client serial) list

abbrev pub wrote : ℕ → List (ℕ × ℕ) → Change
wrote at lines = changes.Wrote (frame lines) (pos at)

abbrev numbers : State → List ℕ
numbers st = map (λ v. v.number) st.versions

abbrev frames : State → List Frame
frames st = map (λ v. v.frame) st.versions

-- ---- versions

-- a write of five rows, and an append of one at the last stamp
abbrev pub after_append : History
after_append = commit 1 5 (changes.Appended (frame ((9, 106) ∷ [])) (pos 7) ∷ []) ∷ commit 1 2 (wrote 7 ((1, 100) ∷ (2, 101) ∷ (2, 102) ∷ (4, 99) ∷ (9, 105) ∷ []) ∷ []) ∷ []

append_adds_rows_behind_the_base : frames (state_of after_append S)
    ≡ frame ((1, 100) ∷ (2, 101) ∷ (2, 102) ∷ (4, 99) ∷ (9, 105) ∷ (9, 106) ∷ []) ∷ frame ((1, 100) ∷ (2, 101) ∷ (2, 102) ∷ (4, 99) ∷ (9, 105) ∷ []) ∷ []
append_adds_rows_behind_the_base = refl

versions_are_numbered_from_zero : numbers (state_of after_append S) ≡ 1 ∷ 0 ∷ []
versions_are_numbered_from_zero = refl

abbrev pub six : List (ℕ × ℕ)
six = (10, 1) ∷ (20, 2) ∷ (30, 3) ∷ (40, 4) ∷ (50, 5) ∷ (60, 6) ∷ []

-- a write of six rows, and an update by two in the middle
abbrev pub after_update : History
after_update = commit 1 7 (changes.Updated (frame ((25, 7) ∷ (35, 8) ∷ [])) (record { from = Some (pos 25); to = Some (pos 35) }) (pos 7) ∷ []) ∷ commit 1 3 (wrote 7 six ∷ []) ∷ []

update_replaces_the_range : base_of (state_of after_update S)
    ≡ Some (record { number = 1; stamp = pos 7; frame = frame ((10, 1) ∷ (20, 2) ∷ (25, 7) ∷ (35, 8) ∷ (40, 4) ∷ (50, 5) ∷ (60, 6) ∷ []) })
update_replaces_the_range = refl

-- the write, and an update by no rows from 30 to 50
abbrev pub after_clear : History
after_clear = commit 1 7 (changes.Updated (frame []) (record { from = Some (pos 30); to = Some (pos 50) }) (pos 7) ∷ []) ∷ commit 1 3 (wrote 7 six ∷ []) ∷ []

update_by_no_rows_clears_the_range : base_of (state_of after_clear S) ≡ Some (record { number = 1; stamp = pos 7; frame = frame ((10, 1) ∷ (20, 2) ∷ (60, 6) ∷ []) })
update_by_no_rows_clears_the_range = refl

-- two writes
abbrev pub after_two_writes : History
after_two_writes = commit 1 5 (wrote 60 ((1, 2) ∷ []) ∷ []) ∷ commit 1 2 (wrote 50 ((1, 1) ∷ []) ∷ []) ∷ []

a_write_keeps_the_versions_before_it : map {B = ℕ × ℤ} (λ v. (v.number, v.stamp)) (live_versions (state_of after_two_writes S)) ≡ (1, pos 60) ∷ (0, pos 50) ∷ []
a_write_keeps_the_versions_before_it = refl

-- two writes, the second with prune
abbrev pub after_pruning_write : History
after_pruning_write = commit 1 5 (wrote 60 ((1, 2) ∷ []) ∷ changes.Removed (0 ∷ []) ∷ []) ∷ commit 1 2 (wrote 50 ((1, 1) ∷ []) ∷ []) ∷ []

-- and a delete of the second
abbrev pub after_prune : History
after_prune = commit 1 8 (changes.Removed (1 ∷ []) ∷ []) ∷ after_pruning_write

nothing_is_live_when_all_is_buried : base_of (state_of after_prune S) ≡ None
nothing_is_live_when_all_is_buried = refl

buried_numbers_are_kept : (state_of after_prune S).buried ≡ 1 ∷ 0 ∷ []
buried_numbers_are_kept = refl

a_symbol_without_a_live_version_is_listed : symbols_of after_prune ≡ S ∷ []
a_symbol_without_a_live_version_is_listed = refl

-- ---- snapshots

abbrev pub holder : ℕ → ℕ → Holder
holder client serial = record { client = client; serial = serial }

abbrev pub snap : ℕ → ℕ → SnapBody
snap client serial = record { holder = holder client serial; rows = record { symbol = S; version = 0; index = key kinds.TableIndex 1 1 } ∷ [] }

-- a write, and a snapshot of it
abbrev pub after_snapshot : History
after_snapshot = events.Name 1 k (snap_text (snap 1 3)) ∷ commit 1 3 (changes.Held (holder 1 3) 0 ∷ []) ∷ commit 1 2 (wrote 7 ((1, 1) ∷ []) ∷ []) ∷ []

a_snapshot_stands_over_its_versions : snapshots_of after_snapshot ≡ (k, record { holder = holder 1 3; picks = (S, 0) ∷ [] }) ∷ []
unfolding snap_of key_at key_text signed_text
a_snapshot_stands_over_its_versions = refl

-- and a delete of the version
abbrev pub after_delete : History
after_delete = commit 1 4 (changes.Removed (0 ∷ []) ∷ []) ∷ after_snapshot

a_deleted_version_is_not_live : is_live (state_of after_delete S) 0 ≡ false
a_deleted_version_is_not_live = refl

a_deleted_version_in_a_snapshot_is_held : is_held (state_of after_delete S) 0 ≡ true
a_deleted_version_in_a_snapshot_is_held = refl

-- and a delete of the snapshot
abbrev pub after_release : History
after_release = commit 1 5 (changes.Released (holder 1 3) ∷ []) ∷ events.Unname 1 k ∷ after_delete

a_released_version_is_not_held : is_held (state_of after_release S) 0 ≡ false
a_released_version_is_not_held = refl

a_deleted_snapshot_does_not_stand : snapshots_of after_release ≡ []
unfolding snap_of key_at key_text signed_text
a_deleted_snapshot_does_not_stand = refl

-- the snapshots of two clients under one name, of which the first stands and the other's hold is released
abbrev pub after_two_snapshots : History
after_two_snapshots = commit 3 1 (changes.Released (holder 3 0) ∷ []) ∷ events.Name 2 k (snap_text (snap 2 0)) ∷ commit 3 0 (changes.Held (holder 3 0) 0 ∷ []) ∷ commit 2 0 (changes.Held (holder 2 0) 0 ∷ [])
    ∷ commit 1 2 (wrote 7 ((1, 1) ∷ []) ∷ []) ∷ []

one_hold_is_left_of_two_snapshots_of_one_name : (state_of after_two_snapshots S).holds ≡ record { holder = holder 2 0; version = 0 } ∷ []
one_hold_is_left_of_two_snapshots_of_one_name = refl

the_first_of_two_snapshots_stands : snapshots_of after_two_snapshots ≡ (k, record { holder = holder 2 0; picks = (S, 0) ∷ [] }) ∷ []
unfolding snap_of key_at key_text signed_text
the_first_of_two_snapshots_stands = refl

-- ---- staged pieces

abbrev pub stage : ℕ → List (ℕ × ℕ) → Event
stage serial lines = events.Put 1 (key kinds.Staged 1 serial) (segment_text (frame lines))

-- three pieces, of which two overlap
abbrev pub after_stages : History
after_stages = stage 2 ((40, 5) ∷ []) ∷ stage 1 ((15, 3) ∷ (30, 4) ∷ []) ∷ stage 0 ((10, 1) ∷ (20, 2) ∷ []) ∷ []

staged_pieces_are_open : map (λ p. p.frame) (open_pieces (state_of after_stages S)) ≡ frame ((40, 5) ∷ []) ∷ frame ((15, 3) ∷ (30, 4) ∷ []) ∷ frame ((10, 1) ∷ (20, 2) ∷ []) ∷ []
unfolding segment_text sheet_text cells_text segment_of sheet_spelled sheet_at rows_at count_at stamps_at stamp_at columns_at series_at head_at type_at length_at name_at text_at cells_at is_utf8 chars encode signed_text
staged_pieces_are_open = refl

staged_pieces_are_no_version : (state_of after_stages S).versions ≡ []
staged_pieces_are_no_version = refl

-- and their sorted finalize
abbrev pub after_finalize : History
after_finalize = commit 1 5 (wrote 7 ((10, 1) ∷ (15, 3) ∷ (20, 2) ∷ (30, 4) ∷ (40, 5) ∷ [])
    ∷ changes.Discarded (record { client = 1; serial = 0 } ∷ record { client = 1; serial = 1 } ∷ record { client = 1; serial = 2 } ∷ []) ∷ []) ∷ after_stages

a_finalize_leaves_no_open_piece : open_pieces (state_of after_finalize S) ≡ []
unfolding segment_text sheet_text cells_text segment_of sheet_spelled sheet_at rows_at count_at stamps_at stamp_at columns_at series_at head_at type_at length_at name_at text_at cells_at is_utf8 chars encode signed_text
a_finalize_leaves_no_open_piece = refl
