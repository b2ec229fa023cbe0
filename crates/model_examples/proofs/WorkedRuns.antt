-- Whole runs of one client, computed: what is replied, at which place, and how many events there are at the end.
use Rattle.std.specs.Prelude.{◌≡◌, ℕ, pos, Bool, true, false, List, [], ◌∷◌, map, Option, Some, None, refl, option_map}
use Rattle.frame_core.specs.Ranges.{Range}
use Rattle.frame_core.specs.declared.cell.ColType.TheVariants as types
use Rattle.frame_core.specs.declared.cell.Cell.TheVariants as cells
use Rattle.frame_core.specs.RawFrames.{Table}
use Rattle.frame_core.specs.declared.refusal.Asked.TheVariants as asks
use Rattle.frame_core.specs.declared.refusal.Refusal.{Refusal}
use Rattle.frame_core.specs.declared.refusal.Refusal.TheVariants as refusals
use Rattle.model_examples.proofs.SmallFrames.{S, X, k, frame}
use Rattle.expr_clause.specs.declared.command.AsOf.TheVariants as moments
use Rattle.expr_clause.specs.declared.command.Command.{Command}
use Rattle.expr_clause.specs.declared.command.Command.TheVariants as commands
use Rattle.reply_model.specs.declared.outcome.Outcome.{Outcome}
use Rattle.reply_model.specs.declared.outcome.Outcome.TheVariants as outcomes
use Rattle.reply_model.specs.declared.reply.Reply.{Reply}
use Rattle.reply_model.specs.Sole.{SoleRun, sole}

-- ---- frames and commands

abbrev five : List (ℕ × ℕ)
five = (1, 100) ∷ (2, 101) ∷ (2, 102) ∷ (4, 99) ∷ (9, 105) ∷ []

abbrev six : List (ℕ × ℕ)
six = (10, 1) ∷ (20, 2) ∷ (30, 3) ∷ (40, 4) ∷ (50, 5) ∷ (60, 6) ∷ []

-- raw stamps and numbers of one column `a`
abbrev raw : List (ℕ × ℕ) → Table
raw lines = record { stamps = map (λ x. pos x.0) lines; names = (97 ∷ []) ∷ []; columns = (types.Int, map (λ x. cells.Int (pos x.1)) lines) ∷ [] }

-- five rows of three columns
abbrev three_columns : Table
three_columns = record {
  stamps = map (λ x. pos x.0) five;
  names = (97 ∷ []) ∷ (98 ∷ []) ∷ (99 ∷ []) ∷ [];
  columns = (types.Int, map (λ x. cells.Int (pos x.1)) five) ∷ (types.Int, map (λ x. cells.Int (pos x.1)) five) ∷ (types.Int, map (λ x. cells.Int (pos x.1)) five) ∷ [];
}

-- frames 0 to 9: five rows; none; one at 9; one at 8; six; two in the middle; three pieces, of which two overlap; five rows of three columns
abbrev frames : List Table
frames = raw five ∷ raw [] ∷ raw ((9, 106) ∷ []) ∷ raw ((8, 1) ∷ []) ∷ raw six ∷ raw ((25, 7) ∷ (35, 8) ∷ [])
    ∷ raw ((10, 1) ∷ (20, 2) ∷ []) ∷ raw ((15, 3) ∷ (30, 4) ∷ []) ∷ raw ((40, 5) ∷ []) ∷ three_columns ∷ []

abbrev everything : Range
everything = record { from = None; to = None }

abbrev write : ℕ → Command
write n = commands.Write S n None false

abbrev read : Command
read = commands.Read S (moments.Back 1) everything None []

abbrev read_through : Command
read_through = commands.Read S (moments.Snapshot k) everything None []

abbrev finalize : Bool → Command
finalize sorted = commands.Finalize S false sorted None false

-- ---- replies

-- an outcome that looks
abbrev told : ℕ → Outcome → Reply
told place outcome = record { place = place; listed = None; commits = []; left = []; outcome = outcome }

abbrev refused : ℕ → Refusal → Reply
refused place why = told place (outcomes.Refused why)

-- an outcome of one commit
abbrev made : ℕ → Outcome → Reply
made place outcome = record { place = place; listed = None; commits = place ∷ []; left = []; outcome = outcome }

abbrev committed : ℕ → ℕ → Reply
committed place version = made place (outcomes.Committed version)

-- the same behind a list
abbrev by_list : ℕ → Reply → Reply
by_list place reply = record reply { listed = Some place }

abbrev whole : ℕ → ℕ → List (ℕ × ℕ) → Reply
whole place version lines = told place (outcomes.Whole version (frame lines))

-- a snapshot of version 0 of S
abbrev kept : ℕ → ℕ → Reply
kept place hold = record { place = place; listed = None; commits = hold ∷ []; left = []; outcome = outcomes.Kept (record { symbol = S; version = 0; place = hold } ∷ []) }

-- the replies to these commands and the number of events, with blocks of so many rows and tiles of so many columns
abbrev runs : ℕ → ℕ → List Command → Option (List Reply × ℕ)
runs rows columns list = option_map (λ (x : SoleRun). (x.first, x.events)) (sole (record { rows = rows; columns = columns }) frames (pos 7) list [] [])

-- the blocks and tiles that are cut where nothing is said
abbrev runs_whole : List Command → Option (List Reply × ℕ)
runs_whole = runs 100000 127

-- ---- write, append, update

first_write_and_read : runs_whole (write 0 ∷ read ∷ []) ≡ Some (committed 4 0 ∷ whole 4 0 five ∷ [], 4)
first_write_and_read = refl

a_frame_without_rows_has_no_tile : runs_whole (write 1 ∷ read ∷ commands.Keys S ∷ []) ≡ Some (committed 3 0 ∷ whole 3 0 [] ∷ told 3 (outcomes.Keys 0 1 1 1 0) ∷ [], 3)
a_frame_without_rows_has_no_tile = refl

each_block_has_a_tile_for_each_slice : runs 2 1 (write 9 ∷ commands.Keys S ∷ []) ≡ Some (committed 12 0 ∷ told 12 (outcomes.Keys 9 1 1 1 0) ∷ [], 12)
each_block_has_a_tile_for_each_slice = refl

an_append_puts_the_new_rows_alone : runs_whole (write 0 ∷ commands.Append S 2 None false ∷ commands.Append S 3 None false ∷ [])
    ≡ Some (committed 4 0 ∷ committed 8 1 ∷ refused 8 (refusals.AppendBefore (pos 9) (pos 8)) ∷ [], 8)
an_append_puts_the_new_rows_alone = refl

an_update_shares_the_blocks_around_it : runs 2 127 (write 4 ∷ commands.Update S 5 None false None false ∷ read ∷ commands.Keys S ∷ [])
    ≡ Some (committed 6 0 ∷ committed 11 1 ∷ whole 11 1 ((10, 1) ∷ (20, 2) ∷ (25, 7) ∷ (35, 8) ∷ (40, 4) ∷ (50, 5) ∷ (60, 6) ∷ []) ∷ told 11 (outcomes.Keys 5 2 2 1 0) ∷ [], 11)
an_update_shares_the_blocks_around_it = refl

a_block_that_is_cut_is_put_again : runs 2 127 (write 4 ∷ commands.Update S 1 (Some (record { from = Some (pos 30); to = Some (pos 50) })) false None false ∷ read ∷ commands.Update S 1 None false None false ∷ [])
    ≡ Some (committed 6 0 ∷ committed 10 1 ∷ whole 10 1 ((10, 1) ∷ (20, 2) ∷ (60, 6) ∷ []) ∷ refused 10 refusals.EmptyUpdate ∷ [], 10)
a_block_that_is_cut_is_put_again = refl

-- ---- prune, delete, reclaim

a_reclaim_drops_what_no_version_needs : runs 2 127 (write 4 ∷ commands.Update S 5 None false None false ∷ commands.Prune S ∷ commands.Reclaim S ∷ commands.Keys S ∷ read ∷ [])
    ≡ Some (
      committed 6 0 ∷ committed 11 1 ∷ made 13 (outcomes.Pruned 1) ∷ told 13 (outcomes.Freed 1 1 0) ∷ told 15 (outcomes.Keys 4 1 3 1 0)
          ∷ whole 15 1 ((10, 1) ∷ (20, 2) ∷ (25, 7) ∷ (35, 8) ∷ (40, 4) ∷ (50, 5) ∷ (60, 6) ∷ []) ∷ [],
      15,
    )
a_reclaim_drops_what_no_version_needs = refl

a_symbol_lives_on_without_a_live_version : runs_whole (commands.Write S 0 (Some (pos 50)) false ∷ commands.Write S 0 (Some (pos 60)) true ∷ commands.Versions S ∷ commands.Symbols ∷ commands.Snapshots
    ∷ commands.Delete S None ∷ commands.Symbols ∷ read ∷ commands.Prune S ∷ [])
    ≡ Some (
      committed 4 0 ∷ committed 8 1
          ∷ told 8 (outcomes.Versions (record { version = 0; stamp = pos 50; live = false; holds = 0 } ∷ record { version = 1; stamp = pos 60; live = true; holds = 0 } ∷ []))
          ∷ told 8 (outcomes.Symbols (record { symbol = S; newest = Some 1; place = 8 } ∷ [])) ∷ told 8 (outcomes.Snapshots [])
          ∷ made 10 (outcomes.Deleted 1) ∷ told 10 (outcomes.Symbols (record { symbol = S; newest = None; place = 10 } ∷ []))
          ∷ refused 10 (refusals.NoSuchVersion (asks.Back 1)) ∷ told 10 (outcomes.Pruned 0) ∷ [],
      10,
    )
a_symbol_lives_on_without_a_live_version = refl

-- ---- snapshots

a_snapshot_keeps_a_deleted_version : runs_whole (write 0 ∷ commands.Snapshot k [] ∷ commands.Delete S (Some (0 ∷ [])) ∷ commands.Reclaim S ∷ read_through ∷ commands.DeleteSnapshot k ∷ commands.Reclaim S ∷ read_through ∷ [])
    ≡ Some (
      committed 4 0 ∷ by_list 4 (kept 7 6) ∷ made 9 (outcomes.Deleted 1) ∷ told 9 (outcomes.Freed 0 0 0) ∷ whole 9 0 five
          ∷ record (told 10 outcomes.Unkept) { commits = 12 ∷ [] } ∷ told 12 (outcomes.Freed 1 1 0) ∷ refused 14 refusals.NoSuchSnapshot ∷ [],
      14,
    )
a_snapshot_keeps_a_deleted_version = refl

a_name_stands_once : runs_whole (write 0 ∷ commands.Snapshot k (record { symbol = S; version = None } ∷ []) ∷ commands.Snapshot k (record { symbol = S; version = None } ∷ []) ∷ [])
    ≡ Some (committed 4 0 ∷ kept 7 6 ∷ refused 7 refusals.SnapshotExists ∷ [], 7)
a_name_stands_once = refl

a_refused_snapshot_releases_what_it_held : runs_whole (write 0 ∷ commands.Snapshot k (record { symbol = X; version = None } ∷ record { symbol = S; version = None } ∷ []) ∷ commands.Versions S ∷ [])
    ≡ Some (
      committed 4 0 ∷ record (refused 6 refusals.NoSuchSymbol) { commits = 6 ∷ 8 ∷ [] }
          ∷ told 8 (outcomes.Versions (record { version = 0; stamp = pos 7; live = true; holds = 0 } ∷ [])) ∷ [],
      8,
    )
a_refused_snapshot_releases_what_it_held = refl

-- ---- staged pieces

pieces_are_staged_and_finalized : runs_whole (commands.Stage S 6 ∷ commands.Stage S 7 ∷ commands.Stage S 8 ∷ finalize false ∷ finalize true ∷ finalize false ∷ read ∷ [])
    ≡ Some (
      told 1 outcomes.Staged ∷ told 2 outcomes.Staged ∷ told 3 outcomes.Staged ∷ by_list 3 (refused 3 (refusals.StagedOverlap 2)) ∷ by_list 3 (made 7 (outcomes.Finalized 0 3))
          ∷ by_list 7 (refused 7 refusals.NoStaged) ∷ whole 7 0 ((10, 1) ∷ (15, 3) ∷ (20, 2) ∷ (30, 4) ∷ (40, 5) ∷ []) ∷ [],
      7,
    )
pieces_are_staged_and_finalized = refl

a_discarded_piece_is_reclaimed : runs_whole (commands.Stage S 6 ∷ commands.Discard S ∷ commands.Discard S ∷ commands.Keys S ∷ commands.Reclaim S ∷ commands.Keys S ∷ [])
    ≡ Some (
      told 1 outcomes.Staged ∷ by_list 1 (made 3 (outcomes.Discarded 1)) ∷ by_list 3 (refused 3 refusals.NoStaged) ∷ told 3 (outcomes.Keys 0 0 1 1 1)
          ∷ told 3 (outcomes.Freed 0 0 1) ∷ told 4 (outcomes.Keys 0 0 1 1 0) ∷ [],
      4,
    )
a_discarded_piece_is_reclaimed = refl

a_piece_below_the_last_stamp_is_not_appended : runs_whole (write 0 ∷ commands.Stage S 3 ∷ commands.Finalize S true false None false ∷ commands.Discard S ∷ [])
    ≡ Some (committed 4 0 ∷ told 5 outcomes.Staged ∷ by_list 5 (refused 5 (refusals.AppendBefore (pos 9) (pos 8))) ∷ by_list 5 (made 7 (outcomes.Discarded 1)) ∷ [], 7)
a_piece_below_the_last_stamp_is_not_appended = refl
