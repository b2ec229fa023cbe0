-- Small histories, computed: what the one-thread library answers in each.
use Rattle.segment_bytes.specs.Heads.{head_at, length_at, name_at, text_at, type_at}
use Rattle.segment_bytes.specs.Sheets.{columns_at, count_at, rows_at, series_at, sheet_at, sheet_text, stamp_at, stamps_at}
use Rattle.segment_bytes.specs.CellTexts.{cells_at, cells_text}
use Rattle.std.specs.Prelude.{◌≡◌, ℕ, pos, Bool, true, false, List, [], ◌∷◌, map, Option, Some, None, Ok, Err, refl}
use Rattle.std.specs.Str.{is_utf8, chars}
use lib.Utf8.{encode}
use Rattle.byte_fields.specs.Reading.{signed_text}
use Rattle.frame_core.specs.Ranges.{Range}
use Rattle.frame_core.specs.declared.cell.ColType.TheVariants as types
use Rattle.frame_core.specs.declared.cell.Cell.TheVariants as cells
use Rattle.frame_core.specs.RawFrames.{Table}
use Rattle.frame_core.specs.declared.refusal.Asked.TheVariants as asks
use Rattle.frame_core.specs.declared.refusal.Refusal.{Refusal}
use Rattle.frame_core.specs.declared.refusal.Refusal.TheVariants as refusals
use Rattle.segment_bytes.specs.Segments.{segment_of, segment_text, sheet_spelled}
use Rattle.key_kind.specs.KeyText.{key_at, key_text}
use Rattle.bucket_core.specs.declared.event.Change.{Change}
use Rattle.bucket_core.specs.declared.event.Change.TheVariants as changes
use Rattle.bucket_core.specs.History.{History}
use Rattle.store_model.specs.ChainText.{snap_of}
use Rattle.store_model.specs.Library.{Piece, unknown}
use Rattle.store_model.specs.Snapshots.{library_of}
use Rattle.model_examples.proofs.SmallFrames.{S, X, k, frame}
use Rattle.model_examples.proofs.WorkedHistories.{after_append, after_update, after_clear, after_two_writes, after_pruning_write, after_prune, after_snapshot, after_delete, after_release, after_stages, after_finalize, holder, stage}
use Rattle.expr_clause.specs.declared.command.AsOf.{AsOf}
use Rattle.expr_clause.specs.declared.command.AsOf.TheVariants as moments
use Rattle.expr_clause.specs.declared.command.Command.{Command}
use Rattle.expr_clause.specs.declared.command.Command.TheVariants as commands
use Rattle.reply_model.specs.declared.outcome.Outcome.{Outcome}
use Rattle.reply_model.specs.declared.outcome.Outcome.TheVariants as outcomes
use Rattle.reply_model.specs.Answering.{Session, Answer, refused, answered}
use Rattle.reply_model.specs.PieceAnswers.{finalize_answer}
use Rattle.reply_model.specs.SnapshotAnswers.{snapshot_answer, delete_snapshot_answer}
use Rattle.reply_model.specs.Answers.{answer}

-- ---- the session

-- raw stamps and numbers of one column `a`
abbrev raw : List (ℕ × ℕ) → Table
raw lines = record { stamps = map (λ x. pos x.0) lines; names = (97 ∷ []) ∷ []; columns = (types.Int, map (λ x. cells.Int (pos x.1)) lines) ∷ [] }

-- frames 0 to 6: one row at 9; one at 8; two from 25 to 35; none; rows at 3 and 12; falling stamps; a column `q` in place of `a`
abbrev session : Session
session = record {
  frames = raw ((9, 106) ∷ []) ∷ raw ((8, 1) ∷ []) ∷ raw ((25, 7) ∷ (35, 8) ∷ []) ∷ raw [] ∷ raw ((3, 1) ∷ (12, 2) ∷ []) ∷ raw ((5, 1) ∷ (4, 1) ∷ [])
      ∷ record (raw ((9, 1) ∷ [])) { names = (113 ∷ []) ∷ [] } ∷ [];
  moment = pos 7;
  tries = 8;
  client = 1;
}

abbrev everything : Range
everything = record { from = None; to = None }

abbrev from_to : ℕ → ℕ → Range
from_to from to = record { from = Some (pos from); to = Some (pos to) }

-- the answer at place 9, where the list was made there too
abbrev asked : History → Command → Option Answer
asked h c = answer session (library_of h) (library_of h) 9 c

abbrev refuses : Refusal → Option Answer
refuses why = Some (refused why)

-- a new version by this change
abbrev commits : ℕ → Change → Option Answer
commits version change = Some (record { outcome = outcomes.Committed version; marks = change ∷ [] })

-- an outcome without changes
abbrev tells : Outcome → Option Answer
tells outcome = Some (record { outcome = outcome; marks = [] })

abbrev whole : ℕ → List (ℕ × ℕ) → Option Answer
whole version lines = tells (outcomes.Whole version (frame lines))

abbrev reads : History → AsOf → Option Answer
reads h as_of = asked h (commands.Read S as_of everything None [])

-- ---- write and append

an_append_at_the_last_stamp_makes_a_version : asked after_append (commands.Append S 0 None false) ≡ commits 2 (changes.Appended (frame ((9, 106) ∷ [])) (pos 7))
an_append_at_the_last_stamp_makes_a_version = refl

an_append_below_the_last_stamp_is_refused : asked after_append (commands.Append S 1 None false) ≡ refuses (refusals.AppendBefore (pos 9) (pos 8))
an_append_below_the_last_stamp_is_refused = refl

an_append_of_other_columns_is_refused : asked after_append (commands.Append S 6 None false) ≡ refuses (refusals.SchemaDiffers 1)
an_append_of_other_columns_is_refused = refl

an_append_to_no_symbol_makes_its_first_version : asked after_append (commands.Append X 1 None false) ≡ commits 0 (changes.Appended (frame ((8, 1) ∷ [])) (pos 7))
an_append_to_no_symbol_makes_its_first_version = refl

a_write_of_falling_stamps_is_refused : asked after_append (commands.Write S 5 None false) ≡ refuses (refusals.Unsorted 2)
a_write_of_falling_stamps_is_refused = refl

a_write_of_no_rows_makes_a_version : asked [] (commands.Write S 3 (Some (pos 50)) false) ≡ commits 0 (changes.Wrote (frame []) (pos 50))
a_write_of_no_rows_makes_a_version = refl

a_pruning_write_buries_what_was_live : asked after_two_writes (commands.Write S 1 None true)
    ≡ Some (record { outcome = outcomes.Committed 2; marks = changes.Wrote (frame ((8, 1) ∷ [])) (pos 7) ∷ changes.Removed (0 ∷ 1 ∷ []) ∷ [] })
a_pruning_write_buries_what_was_live = refl

-- ---- update and delete_range

an_update_takes_the_range_of_its_rows : asked after_update (commands.Update S 2 None false None false) ≡ commits 2 (changes.Updated (frame ((25, 7) ∷ (35, 8) ∷ [])) (from_to 25 35) (pos 7))
an_update_takes_the_range_of_its_rows = refl

an_update_outside_its_range_is_refused : asked after_append (commands.Update S 4 (Some (from_to 2 10)) false None false) ≡ refuses (refusals.OutsideRange 2)
an_update_outside_its_range_is_refused = refl

an_update_by_no_rows_needs_a_range : asked after_clear (commands.Update S 3 None false None false) ≡ refuses refusals.EmptyUpdate
an_update_by_no_rows_needs_a_range = refl

an_update_of_no_symbol_is_refused : asked after_append (commands.Update X 4 None false None false) ≡ refuses refusals.NoSuchSymbol
an_update_of_no_symbol_is_refused = refl

an_upsert_makes_the_first_version : asked after_append (commands.Update X 4 None true None false) ≡ commits 0 (changes.Updated (frame ((3, 1) ∷ (12, 2) ∷ [])) (from_to 3 12) (pos 7))
an_upsert_makes_the_first_version = refl

an_update_of_a_symbol_without_a_live_version_is_refused : asked after_prune (commands.Update S 4 None false None false) ≡ refuses (refusals.NoSuchVersion (asks.Back 1))
an_update_of_a_symbol_without_a_live_version_is_refused = refl

a_delete_of_a_range_is_an_update_by_no_rows : asked after_append (commands.DeleteRange S (from_to 2 4) None false) ≡ commits 2 (changes.Updated (frame []) (from_to 2 4) (pos 7))
a_delete_of_a_range_is_an_update_by_no_rows = refl

-- ---- read

an_update_is_read : reads after_update (moments.Back 1) ≡ whole 1 ((10, 1) ∷ (20, 2) ∷ (25, 7) ∷ (35, 8) ∷ (40, 4) ∷ (50, 5) ∷ (60, 6) ∷ [])
an_update_is_read = refl

a_cleared_range_is_not_read : reads after_clear (moments.Back 1) ≡ whole 1 ((10, 1) ∷ (20, 2) ∷ (60, 6) ∷ [])
a_cleared_range_is_not_read = refl

a_range_includes_both_ends : asked after_append (commands.Read S (moments.Back 1) (from_to 2 2) None []) ≡ whole 1 ((2, 101) ∷ (2, 102) ∷ [])
a_range_includes_both_ends = refl

an_absent_column_is_refused_by_its_position : asked after_append (commands.Read S (moments.Back 1) everything (Some ((97 ∷ []) ∷ (98 ∷ []) ∷ [])) []) ≡ refuses (refusals.NoSuchColumn 0 2)
an_absent_column_is_refused_by_its_position = refl

the_second_newest_is_read : reads after_two_writes (moments.Back 2) ≡ whole 0 ((1, 1) ∷ [])
the_second_newest_is_read = refl

back_0_names_no_version : reads after_two_writes (moments.Back 0) ≡ refuses (refusals.NoSuchVersion (asks.Back 0))
back_0_names_no_version = refl

an_absent_number_is_refused : reads after_two_writes (moments.Number 7) ≡ refuses (refusals.NoSuchVersion (asks.Number 7))
an_absent_number_is_refused = refl

a_moment_before_all_versions_is_refused : reads after_two_writes (moments.Moment (pos 49)) ≡ refuses (refusals.NoSuchVersion (asks.Moment (pos 49)))
a_moment_before_all_versions_is_refused = refl

a_moment_takes_the_newest_version_up_to_it : reads after_two_writes (moments.Moment (pos 55)) ≡ whole 0 ((1, 1) ∷ [])
a_moment_takes_the_newest_version_up_to_it = refl

a_read_of_no_symbol_is_refused : asked after_append (commands.Read X (moments.Back 1) everything None []) ≡ refuses refusals.NoSuchSymbol
a_read_of_no_symbol_is_refused = refl

a_read_of_buried_versions_is_refused : reads after_prune (moments.Back 1) ≡ refuses (refusals.NoSuchVersion (asks.Back 1))
a_read_of_buried_versions_is_refused = refl

a_buried_version_is_read_through_its_snapshot : reads after_delete (moments.Snapshot k) ≡ whole 0 ((1, 1) ∷ [])
unfolding snap_of key_at key_text signed_text
a_buried_version_is_read_through_its_snapshot = refl

a_buried_version_is_not_read_by_its_number : reads after_delete (moments.Number 0) ≡ refuses (refusals.NoSuchVersion (asks.Number 0))
a_buried_version_is_not_read_by_its_number = refl

a_deleted_snapshot_is_not_read : reads after_release (moments.Snapshot k) ≡ refuses refusals.NoSuchSnapshot
unfolding snap_of key_at key_text signed_text
a_deleted_snapshot_is_not_read = refl

-- ---- versions, symbols and snapshots

versions_tells_live_and_buried : asked after_pruning_write (commands.Versions S)
    ≡ tells (outcomes.Versions (record { version = 0; stamp = pos 50; live = false; holds = 0 } ∷ record { version = 1; stamp = pos 60; live = true; holds = 0 } ∷ []))
versions_tells_live_and_buried = refl

versions_tells_holds : asked after_delete (commands.Versions S) ≡ tells (outcomes.Versions (record { version = 0; stamp = pos 7; live = false; holds = 1 } ∷ []))
versions_tells_holds = refl

symbols_tells_the_newest_live_version : asked after_pruning_write commands.Symbols ≡ tells (outcomes.Symbols (record { symbol = S; newest = Some 1; place = 9 } ∷ []))
symbols_tells_the_newest_live_version = refl

symbols_tells_a_symbol_without_a_live_version : asked after_prune commands.Symbols ≡ tells (outcomes.Symbols (record { symbol = S; newest = None; place = 9 } ∷ []))
symbols_tells_a_symbol_without_a_live_version = refl

snapshots_tells_the_names_that_stand : asked after_snapshot commands.Snapshots ≡ tells (outcomes.Snapshots (k ∷ []))
unfolding snap_of key_at key_text signed_text
snapshots_tells_the_names_that_stand = refl

-- ---- delete and prune

a_delete_takes_every_live_version : asked after_two_writes (commands.Delete S None) ≡ Some (record { outcome = outcomes.Deleted 2; marks = changes.Removed (0 ∷ 1 ∷ []) ∷ [] })
a_delete_takes_every_live_version = refl

a_version_is_deleted_once : asked after_two_writes (commands.Delete S (Some (0 ∷ 1 ∷ 0 ∷ []))) ≡ Some (record { outcome = outcomes.Deleted 2; marks = changes.Removed (0 ∷ 1 ∷ []) ∷ [] })
a_version_is_deleted_once = refl

a_delete_of_an_absent_version_is_refused : asked after_pruning_write (commands.Delete S (Some (1 ∷ 0 ∷ []))) ≡ refuses (refusals.NoSuchVersion (asks.Number 0))
a_delete_of_an_absent_version_is_refused = refl

a_prune_keeps_the_newest : asked after_two_writes (commands.Prune S) ≡ Some (record { outcome = outcomes.Pruned 1; marks = changes.Removed (0 ∷ []) ∷ [] })
a_prune_keeps_the_newest = refl

a_prune_of_nothing_changes_nothing : asked after_prune (commands.Prune S) ≡ tells (outcomes.Pruned 0)
a_prune_of_nothing_changes_nothing = refl

-- ---- snapshots in one step

a_snapshot_of_all_holds_each_base : snapshot_answer (library_of after_two_writes) (holder 1 6) k [] ≡ Ok (record { picks = (S, 1) ∷ []; marks = (S, changes.Held (holder 1 6) 1) ∷ [] })
a_snapshot_of_all_holds_each_base = refl

a_snapshot_of_an_absent_version_is_refused : snapshot_answer (library_of after_two_writes) (holder 1 6) k (record { symbol = S; version = Some 7 } ∷ []) ≡ Err (refusals.NoSuchVersion (asks.Number 7))
a_snapshot_of_an_absent_version_is_refused = refl

a_snapshot_that_would_hold_nothing_is_refused : snapshot_answer (library_of after_prune) (holder 1 6) k [] ≡ Err refusals.NoSuchSymbol
a_snapshot_that_would_hold_nothing_is_refused = refl

a_second_snapshot_of_a_name_is_refused : snapshot_answer (library_of after_snapshot) (holder 1 9) k [] ≡ Err refusals.SnapshotExists
unfolding snap_of key_at key_text signed_text
a_second_snapshot_of_a_name_is_refused = refl

a_deleted_snapshot_is_released : delete_snapshot_answer (library_of after_delete) k ≡ Ok (record { picks = []; marks = (S, changes.Released (holder 1 3)) ∷ [] })
unfolding snap_of key_at key_text signed_text
a_deleted_snapshot_is_released = refl

a_snapshot_is_deleted_once : delete_snapshot_answer (library_of after_release) k ≡ Err refusals.NoSuchSnapshot
unfolding snap_of key_at key_text signed_text
a_snapshot_is_deleted_once = refl

-- ---- staged pieces

abbrev finalizes : History → Bool → Bool → Option Answer
finalizes h append sorted = asked h (commands.Finalize S append sorted None false)

pieces_that_overlap_are_refused : finalizes after_stages false false ≡ refuses (refusals.StagedOverlap 2)
unfolding segment_text sheet_text cells_text segment_of sheet_spelled sheet_at rows_at count_at stamps_at stamp_at columns_at series_at head_at type_at length_at name_at text_at cells_at is_utf8 chars encode signed_text
pieces_that_overlap_are_refused = refl

a_sorted_finalize_takes_pieces_that_overlap : finalizes after_stages false true ≡ Some (record {
  outcome = outcomes.Finalized 0 3;
  marks = changes.Wrote (frame ((10, 1) ∷ (15, 3) ∷ (20, 2) ∷ (30, 4) ∷ (40, 5) ∷ [])) (pos 7)
      ∷ changes.Discarded (record { client = 1; serial = 0 } ∷ record { client = 1; serial = 1 } ∷ record { client = 1; serial = 2 } ∷ []) ∷ [];
})
unfolding segment_text sheet_text cells_text segment_of sheet_spelled sheet_at rows_at count_at stamps_at stamp_at columns_at series_at head_at type_at length_at name_at text_at cells_at is_utf8 chars encode signed_text
a_sorted_finalize_takes_pieces_that_overlap = refl

a_finalize_finds_no_piece_twice : finalizes after_finalize false true ≡ refuses refusals.NoStaged
unfolding segment_text sheet_text cells_text segment_of sheet_spelled sheet_at rows_at count_at stamps_at stamp_at columns_at series_at head_at type_at length_at name_at text_at cells_at is_utf8 chars encode signed_text
a_finalize_finds_no_piece_twice = refl

-- a piece at 8 behind a version that ends at 9
abbrev after_early_stage : History
after_early_stage = stage 6 ((8, 1) ∷ []) ∷ after_append

a_finalize_that_appends_refuses_what_an_append_does : finalizes after_early_stage true false ≡ refuses (refusals.AppendBefore (pos 9) (pos 8))
unfolding segment_text sheet_text cells_text segment_of sheet_spelled sheet_at rows_at count_at stamps_at stamp_at columns_at series_at head_at type_at length_at name_at text_at cells_at is_utf8 chars encode signed_text
a_finalize_that_appends_refuses_what_an_append_does = refl

a_discard_consumes_the_open_pieces : asked after_early_stage (commands.Discard S) ≡ Some (record { outcome = outcomes.Discarded 1; marks = changes.Discarded (record { client = 1; serial = 6 } ∷ []) ∷ [] })
unfolding segment_text sheet_text cells_text segment_of sheet_spelled sheet_at rows_at count_at stamps_at stamp_at columns_at series_at head_at type_at length_at name_at text_at cells_at is_utf8 chars encode signed_text
a_discard_consumes_the_open_pieces = refl

a_discard_finds_no_piece_twice : asked after_finalize (commands.Discard S) ≡ refuses refusals.NoStaged
unfolding segment_text sheet_text cells_text segment_of sheet_spelled sheet_at rows_at count_at stamps_at stamp_at columns_at series_at head_at type_at length_at name_at text_at cells_at is_utf8 chars encode signed_text
a_discard_finds_no_piece_twice = refl

-- pieces of a list
abbrev piece : ℕ → List (ℕ × ℕ) → Piece
piece serial lines = record { name = record { client = 1; serial = serial }; frame = frame lines }

abbrev finalizes_these : List Piece → Bool → Answer
finalizes_these ps sorted = answered (finalize_answer (record unknown { staged = ps }) (record unknown { staged = ps }) false sorted false (pos 7))

empty_pieces_are_numbered_and_passed_over : finalizes_these (piece 2 ((15, 3) ∷ []) ∷ piece 1 ((10, 1) ∷ (20, 2) ∷ []) ∷ piece 0 [] ∷ []) false ≡ refused (refusals.StagedOverlap 3)
empty_pieces_are_numbered_and_passed_over = refl

pieces_may_touch_in_one_stamp : (finalizes_these (piece 1 ((20, 3) ∷ (30, 4) ∷ []) ∷ piece 0 ((10, 1) ∷ (20, 2) ∷ []) ∷ []) false).outcome ≡ outcomes.Finalized 0 2
pieces_may_touch_in_one_stamp = refl

rows_of_one_stamp_stay_in_the_order_of_their_pieces : finalizes_these (piece 1 ((10, 1) ∷ []) ∷ piece 0 ((10, 2) ∷ (20, 2) ∷ []) ∷ []) true ≡ record {
  outcome = outcomes.Finalized 0 2;
  marks = changes.Wrote (frame ((10, 2) ∷ (10, 1) ∷ (20, 2) ∷ [])) (pos 7) ∷ changes.Discarded (record { client = 1; serial = 0 } ∷ record { client = 1; serial = 1 } ∷ []) ∷ [];
}
rows_of_one_stamp_stay_in_the_order_of_their_pieces = refl
