-- Honest replies are legal: a write, a snapshot, a delete, a reclaim that finds nothing dead, a read through the snapshot, the snapshot's end,
-- a reclaim that drops, and a read of a snapshot that stands no more.
use Rattle.segment_bytes.specs.Heads.{head_at, length_at, name_at, text_at, type_at}
use Rattle.segment_bytes.specs.Sheets.{columns_at, count_at, rows_at, series_at, sheet_at, sheet_text, stamp_at, stamps_at}
use Rattle.segment_bytes.specs.CellTexts.{cells_at, cells_text}
use Rattle.byte_fields.specs.Reading.{signed_text}
use Rattle.std.proofs.Common.{◌≡◌, ℕ, pos, true, false, List, [], ◌∷◌, Some, None, refl, sym, ◌∙◌, ap, subst, inl, inr, lit≤, lit<}
use Rattle.std.specs.Prelude.{◌&&◌, ◌||◌, Contains, cond}
use Rattle.std.specs.List.{list_any}
use Rattle.std.proofs.lemmas.Bool.{true≢false, or_cases}
use Rattle.std.specs.Str.{is_utf8, chars}
use lib.Utf8.{encode}
use Rattle.frame_core.specs.declared.refusal.Refusal.TheVariants as refusals
use Rattle.bucket_core.specs.declared.event.Event.TheVariants as events
use Rattle.bucket_core.specs.declared.event.Change.TheVariants as changes
use Rattle.bucket_core.specs.declared.event.PieceName.{PieceName}
use Rattle.bucket_core.specs.History.{History, Bytes, stored}
use Rattle.key_kind.specs.Names.{Name, same_name}
use Rattle.key_kind.specs.declared.key.Key.{Key}
use Rattle.key_kind.specs.declared.key.KeyKind.TheVariants as kinds
use Rattle.key_kind.specs.Keys.{same_key}
use Rattle.key_kind.specs.KeyText.{key_at, key_text}
use Rattle.key_kind.proofs.KeyTests.{same_key_is}
use Rattle.segment_bytes.specs.Segments.{segment_of, segment_text, sheet_spelled}
use Rattle.index_tree.specs.IndexText.{index_of}
use Rattle.store_model.specs.declared.chain.ChainMark.{ChainMark}
use Rattle.store_model.specs.declared.chain.ChainMark.TheVariants as marks
use Rattle.store_model.specs.ChainText.{entry_of, entry_text, snap_of, snap_text}
use Rattle.store_model.specs.Library.{state_of, after_changes, is_consumed, same_piece}
use Rattle.store_model.specs.Links.{Linked, links, reaches, is_needed, IsUnneeded, IsConsumedPiece}
use Rattle.model_examples.proofs.SmallFrames.{S, k}
use Rattle.model_examples.proofs.Witness as w
use Rattle.model_examples.proofs.WitnessKept as kept
use Rattle.index_tree.specs.PageText.{object_of}
use Rattle.expr_clause.specs.declared.command.AsOf.TheVariants as moments
use Rattle.reply_model.specs.declared.outcome.HeldAt.{HeldAt}
use Rattle.expr_clause.specs.declared.command.Command.TheVariants as commands
use Rattle.reply_model.specs.declared.outcome.Outcome.TheVariants as outcomes
use Rattle.reply_model.specs.declared.reply.Reply.{Reply}
use Rattle.reply_model.specs.Windows.{Client}
use Rattle.reply_model.specs.Tries.{IsTry, of_mark}
use Rattle.reply_model.specs.Drops.{IsDeadIndex, IsDeadTile}
use Rattle.reply_model.specs.Legal.{IsLegalSeen, Legal}
use Rattle.model_examples.proofs.HonestWrites.{client, window, reply, everything, write_is_legal}

abbrev one : Client
one = client 1 8

-- ---- the puts of an element

abbrev mark_put : ℕ → ℕ → ChainMark → List (Key × Bytes)
mark_put serial before mark = (w.key kinds.Version serial, entry_text (kept.entry before mark)) ∷ []

hold_try : IsTry S false (mark_put 3 2 (marks.Hold kept.holder 0)) (w.key kinds.Version 3)
unfolding entry_of key_at key_text signed_text
hold_try = record { first = []; body = entry_text (kept.entry 2 (marks.Hold kept.holder 0)); element = kept.entry 2 (marks.Hold kept.holder 0); is = refl; entry_is = (refl, refl); spelled = refl; before = of_mark; of_kind = refl }

tomb_try : IsTry S false (mark_put 4 3 (marks.Tomb 0)) (w.key kinds.Version 4)
unfolding entry_of key_at key_text signed_text
tomb_try = record { first = []; body = entry_text (kept.entry 3 (marks.Tomb 0)); element = kept.entry 3 (marks.Tomb 0); is = refl; entry_is = (refl, refl); spelled = refl; before = of_mark; of_kind = refl }

release_try : IsTry S false (mark_put 5 4 (marks.Release kept.holder)) (w.key kinds.Version 5)
unfolding entry_of key_at key_text signed_text
release_try = record { first = []; body = entry_text (kept.entry 4 (marks.Release kept.holder)); element = kept.entry 4 (marks.Release kept.holder); is = refl; entry_is = (refl, refl); spelled = refl; before = of_mark; of_kind = refl }

-- ---- the snapshot

abbrev held_row : HeldAt
held_row = record { symbol = S; version = 0; place = 6 }

abbrev kept_reply : Reply
kept_reply = record { place = 7; listed = Some 4; commits = 6 ∷ []; left = []; outcome = outcomes.Kept (held_row ∷ []) }

-- S is the one symbol of the write
only_S : (symbol : Name) → (state_of w.written symbol).has_reference ≡ true → same_name S symbol ≡ true
only_S symbol e = elim (same_name S symbol) as (λ b. (cond b (after_changes (state_of before symbol) (changes.Wrote w.table (pos 50) ∷ [])) (state_of before symbol)).has_reference ≡ true → b ≡ true) [
  | true ↦ λ f. refl
  | false ↦ λ f. absurd (true≢false (sym f))
] e
  where
    before : History
    before = w.put_first ∷ w.put_index ∷ w.put_tile ∷ []

pub snapshot_is_legal : IsLegalSeen kept.kept one (commands.Snapshot k []) kept_reply (window 4 7)
unfolding snap_of key_at key_text signed_text
snapshot_is_legal = record {
  after = lit≤ tt;
  before = lit≤ tt;
  listed = refl;
  listed_within = (lit≤ tt, lit≤ tt);
  own = record {
    events = record {
      holds = kept.put_mark 3 2 (marks.Hold kept.holder 0) ∷ kept.refer 3 2 (changes.Held kept.holder 0) ∷ [];
      rest = events.Name 1 k (snap_text kept.snapshot) ∷ [];
      is = refl;
      each_hold = record {
        turns = record {
          symbol = S;
          done = true;
          own = kept.put_mark 3 2 (marks.Hold kept.holder 0) ∷ kept.refer 3 2 (changes.Held kept.holder 0) ∷ [];
          is = record {
            tries = [];
            last = _;
            is = refl;
            refused = tt;
            met = lit≤ tt;
            few = lit≤ tt;
            ends = (mark_put 3 2 (marks.Hold kept.holder 0), Some (w.key kinds.Version 2), w.key kinds.Version 3, _, hold_try, (changes.Held kept.holder 0, refl, refl), refl);
          };
        } ∷ [];
        asked = (refl, tt);
        rising = tt;
        is = refl;
      };
      ends = (snap_text kept.snapshot, refl);
    };
    commits = refl;
    short = λ e f. absurd cc;
    meant = tt;
    late = tt;
  };
  left = record { left = refl; causes = tt };
  outcome = record {
    inside = lit< tt;
    body = snap_text kept.snapshot;
    snapshot = kept.snapshot;
    event = refl;
    spelled = refl;
    rows = refl;
    each = (record { after = lit< tt; before = lit≤ tt; event = (Some (w.key kinds.Version 2), w.key kinds.Version 3, refl); asked = refl }, tt);
    counted = refl;
    asked = (refl, (refl, tt), λ symbol e. inl (ap (λ b. b || false) (only_S symbol e)));
  };
}

-- ---- the delete

pub delete_is_legal : IsLegalSeen kept.deleted one (commands.Delete S (Some (0 ∷ []))) (reply 9 (9 ∷ []) (outcomes.Deleted 1)) (window 7 9)
delete_is_legal = record {
  after = lit≤ tt;
  before = lit≤ tt;
  listed = refl;
  listed_within = tt;
  own = record {
    events = record {
      tries = [];
      last = _;
      is = refl;
      refused = tt;
      met = lit≤ tt;
      few = lit≤ tt;
      ends = (mark_put 4 3 (marks.Tomb 0), Some (w.key kinds.Version 3), w.key kinds.Version 4, _, tomb_try, tt, refl);
    };
    commits = refl;
    short = λ e f. absurd cc;
    meant = tt;
    late = tt;
  };
  left = record { left = refl; causes = tt };
  outcome = inr (changes.Removed (0 ∷ []), [], S, refl, refl, (Some (w.key kinds.Version 3), w.key kinds.Version 4, refl), refl);
}

-- ---- the reclaim that finds nothing dead

abbrev link : Linked
link = record { row = w.row; pages = []; index = w.index; tiles = (w.part, w.table) ∷ [] }

links_deleted : links kept.deleted S ≡ link ∷ []
unfolding object_of index_of entry_of segment_text sheet_text cells_text segment_of sheet_spelled sheet_at rows_at count_at stamps_at stamp_at columns_at series_at head_at type_at length_at name_at text_at cells_at is_utf8 chars encode signed_text key_at key_text
links_deleted = refl

links_released : links kept.released S ≡ link ∷ []
unfolding object_of index_of entry_of segment_text sheet_text cells_text segment_of sheet_spelled sheet_at rows_at count_at stamps_at stamp_at columns_at series_at head_at type_at length_at name_at text_at cells_at is_utf8 chars encode signed_text key_at key_text
links_released = refl

-- a held version's keys are not dead
none_dead : (key : Key) → key.name ≡ S → IsUnneeded kept.deleted key → ⊥
none_dead key n u = true≢false (sym once ∙ no_more)
  where
    once : (reaches link key || false) ≡ true
    once = subst (λ (ls : List Linked). list_any (λ l. reaches l key) ls ≡ true) links_deleted (subst (λ m. list_any (λ l. reaches l key) (links kept.deleted m) ≡ true) n u.once)

    no_more : (reaches link key || false) ≡ false
    no_more = subst (λ (ls : List Linked). list_any (λ l. is_needed (state_of kept.deleted S) l && reaches l key) ls ≡ false) links_deleted
        (subst (λ m. list_any (λ l. is_needed (state_of kept.deleted m) l && reaches l key) (links kept.deleted m) ≡ false) n u.no_more)

-- no piece of S was consumed
pub none_consumed : (h : History) (key : Key) → (state_of h S).consumed ≡ [] → key.name ≡ S → IsConsumedPiece h key → ⊥
none_consumed h key none n c = true≢false (sym (subst (λ (ps : List PieceName). list_any (same_piece (record { client = key.client; serial = key.serial })) ps ≡ true) none
    (subst (λ m. is_consumed (state_of h m) (record { client = key.client; serial = key.serial }) ≡ true) n c.consumed)))

pub reclaim_of_nothing_is_legal : IsLegalSeen kept.deleted one (commands.Reclaim S) (reply 9 [] (outcomes.Freed 0 0 0)) (window 9 9)
reclaim_of_nothing_is_legal = record {
  after = lit≤ tt;
  before = lit≤ tt;
  listed = refl;
  listed_within = tt;
  own = record {
    events = (9, lit≤ tt, lit≤ tt, (λ e. refl), record { tiles = []; indexes = []; pieces = []; is = refl; tiles_rise = tt; indexes_rise = tt; pieces_rise = tt; dead_tiles = tt; dead_indexes = tt; dead_pieces = tt });
    commits = refl;
    short = λ e f. absurd cc;
    meant = tt;
    late = tt;
  };
  left = record { left = refl; causes = tt };
  outcome = record {
    referred = refl;
    tiles_are = refl;
    indexes_are = refl;
    pieces_are = refl;
    no_index = λ key d. absurd (none_dead key d.0.1 d.1);
    no_tile = λ l key c d r is u. absurd (none_dead key is.1 u);
    no_piece = λ key d. absurd (none_consumed kept.deleted key refl d.0 d.1);
  };
}

-- ---- a read through the snapshot

pub snapshot_read_is_legal : IsLegalSeen kept.deleted one (commands.Read S (moments.Snapshot k) everything None []) (reply 9 [] (outcomes.Whole 0 w.table)) (window 9 9)
unfolding snap_of key_at key_text signed_text
snapshot_read_is_legal = record {
  after = lit≤ tt;
  before = lit≤ tt;
  listed = refl;
  listed_within = tt;
  own = record { events = refl; commits = refl; short = λ e f. absurd cc; meant = tt; late = tt };
  left = record { left = refl; causes = tt };
  outcome = inl (refl, refl);
}

-- ---- the snapshot's end

pub delete_snapshot_is_legal : IsLegalSeen kept.released one (commands.DeleteSnapshot k) (reply 10 (12 ∷ []) outcomes.Unkept) (window 9 12)
unfolding snap_of key_at key_text signed_text
delete_snapshot_is_legal = record {
  after = lit≤ tt;
  before = lit≤ tt;
  listed = refl;
  listed_within = tt;
  own = record {
    events = record {
      holder = kept.holder;
      rest = kept.put_mark 5 4 (marks.Release kept.holder) ∷ kept.refer 5 4 (changes.Released kept.holder) ∷ [];
      is = refl;
      held = refl;
      each = record {
        turns = record {
          symbol = S;
          done = true;
          own = kept.put_mark 5 4 (marks.Release kept.holder) ∷ kept.refer 5 4 (changes.Released kept.holder) ∷ [];
          is = record {
            tries = [];
            last = _;
            is = refl;
            refused = tt;
            met = lit≤ tt;
            few = lit≤ tt;
            ends = (mark_put 5 4 (marks.Release kept.holder), Some (w.key kinds.Version 4), w.key kinds.Version 5, _, release_try, (changes.Released kept.holder, refl, refl), refl);
          };
        } ∷ [];
        asked = (refl, tt);
        rising = tt;
        is = refl;
      };
    };
    commits = refl;
    short = λ e f. absurd cc;
    meant = tt;
    late = tt;
  };
  left = record { left = refl; causes = tt };
  outcome = record {
    inside = lit< tt;
    event = refl;
    snapshot = kept.snapshot;
    stood = refl;
    each = (inl (12, lit< tt, lit≤ tt, (Some (w.key kinds.Version 4), w.key kinds.Version 5, refl)), tt);
  };
}

-- ---- the reclaim that drops

tile_dead : IsUnneeded kept.released (w.table_key kinds.TableData 0)
unfolding object_of index_of entry_of segment_text sheet_text cells_text segment_of sheet_spelled sheet_at rows_at count_at stamps_at stamp_at columns_at series_at head_at type_at length_at name_at text_at cells_at is_utf8 chars encode signed_text key_at key_text
tile_dead = record { once = refl; no_more = refl }

index_dead : IsUnneeded kept.released (w.table_key kinds.TableIndex 1)
unfolding object_of index_of entry_of segment_text sheet_text cells_text segment_of sheet_spelled sheet_at rows_at count_at stamps_at stamp_at columns_at series_at head_at type_at length_at name_at text_at cells_at is_utf8 chars encode signed_text key_at key_text
index_dead = record { once = refl; no_more = refl }

pub index_drops : IsDeadIndex kept.released S (w.table_key kinds.TableIndex 1)
index_drops = ((refl, refl), index_dead, refl)

tile_drops : IsDeadTile kept.released S (w.table_key kinds.TableData 0)
tile_drops = ((refl, refl), tile_dead, (link, subst (λ (ls : List Linked). Contains ls link) (sym links_released) (0, lit< tt, refl), index_drops, (1, lit< tt, refl)))

-- what is dead is one of the two keys, and both are dropped
both_gone : (key : Key) → key.name ≡ S → IsUnneeded kept.released key → stored kept.freed key ≡ None
both_gone key n u = elim (or_cases (reaches link key) false once) [
  | inl e ↦ elim (or_cases (same_key (w.table_key kinds.TableIndex 1) key) (same_key (w.table_key kinds.TableData 0) key || false) e) [
    | inl f ↦ subst (λ x. stored kept.freed x ≡ None) (same_key_is (w.table_key kinds.TableIndex 1) key f) refl
    | inr f ↦ elim (or_cases (same_key (w.table_key kinds.TableData 0) key) false f) [
      | inl g ↦ subst (λ x. stored kept.freed x ≡ None) (same_key_is (w.table_key kinds.TableData 0) key g) refl
      | inr g ↦ absurd (true≢false (sym g))
    ]
  ]
  | inr e ↦ absurd (true≢false (sym e))
]
  where
    once : (reaches link key || false) ≡ true
    once = subst (λ (ls : List Linked). list_any (λ l. reaches l key) ls ≡ true) links_released (subst (λ m. list_any (λ l. reaches l key) (links kept.released m) ≡ true) n u.once)

pub reclaim_is_legal : IsLegalSeen kept.freed one (commands.Reclaim S) (reply 12 [] (outcomes.Freed 1 1 0)) (window 12 14)
reclaim_is_legal = record {
  after = lit≤ tt;
  before = lit≤ tt;
  listed = refl;
  listed_within = tt;
  own = record {
    events = (
      12,
      lit≤ tt,
      lit≤ tt,
      (λ e. refl),
      record {
        tiles = w.table_key kinds.TableData 0 ∷ [];
        indexes = w.table_key kinds.TableIndex 1 ∷ [];
        pieces = [];
        is = refl;
        tiles_rise = tt;
        indexes_rise = tt;
        pieces_rise = tt;
        dead_tiles = (tile_drops, tt);
        dead_indexes = (index_drops, tt);
        dead_pieces = tt;
      },
    );
    commits = refl;
    short = λ e f. absurd cc;
    meant = tt;
    late = tt;
  };
  left = record { left = refl; causes = tt };
  outcome = record {
    referred = refl;
    tiles_are = refl;
    indexes_are = refl;
    pieces_are = refl;
    no_index = λ key d. both_gone key d.0.1 d.1;
    no_tile = λ l key c d r is u. inl (both_gone key is.1 u);
    no_piece = λ key d. absurd (none_consumed kept.released key refl d.0 d.1);
  };
}

-- ---- the snapshot stands no more

pub gone_read_is_legal : IsLegalSeen kept.freed one (commands.Read S (moments.Snapshot k) everything None []) (reply 14 [] (outcomes.Refused refusals.NoSuchSnapshot)) (window 14 14)
unfolding snap_of key_at key_text signed_text
gone_read_is_legal = record {
  after = lit≤ tt;
  before = lit≤ tt;
  listed = refl;
  listed_within = tt;
  own = record { events = refl; commits = refl; short = λ e f. absurd cc; meant = tt; late = tt };
  left = record { left = refl; causes = tt };
  outcome = inl (refl, refl);
}

-- the whole session
pub snapshot_session : Legal kept.freed one 0
    (commands.Write S 0 (Some (pos 50)) false ∷ commands.Snapshot k [] ∷ commands.Delete S (Some (0 ∷ [])) ∷ commands.Reclaim S ∷ commands.Read S (moments.Snapshot k) everything None []
    ∷ commands.DeleteSnapshot k ∷ commands.Reclaim S ∷ commands.Read S (moments.Snapshot k) everything None [] ∷ [])
    (reply 4 (4 ∷ []) (outcomes.Committed 0) ∷ kept_reply ∷ reply 9 (9 ∷ []) (outcomes.Deleted 1) ∷ reply 9 [] (outcomes.Freed 0 0 0) ∷ reply 9 [] (outcomes.Whole 0 w.table)
    ∷ reply 10 (12 ∷ []) outcomes.Unkept ∷ reply 12 [] (outcomes.Freed 1 1 0) ∷ reply 14 [] (outcomes.Refused refusals.NoSuchSnapshot) ∷ [])
    (false ∷ false ∷ false ∷ false ∷ false ∷ false ∷ false ∷ false ∷ [])
snapshot_session = (
  window 0 4 ∷ window 4 7 ∷ window 7 9 ∷ window 9 9 ∷ window 9 9 ∷ window 9 12 ∷ window 12 14 ∷ window 14 14 ∷ [],
  refl,
  (
    lit≤ tt,
    (lit≤ tt, write_is_legal 8 (lit≤ tt)),
    (
      lit≤ tt,
      (lit≤ tt, snapshot_is_legal),
      (
        lit≤ tt,
        (lit≤ tt, delete_is_legal),
        (
          lit≤ tt,
          (lit≤ tt, reclaim_of_nothing_is_legal),
          (lit≤ tt, (lit≤ tt, snapshot_read_is_legal), (lit≤ tt, (lit≤ tt, delete_snapshot_is_legal), (lit≤ tt, (lit≤ tt, reclaim_is_legal), (lit≤ tt, (lit≤ tt, gone_read_is_legal), tt)))),
        ),
      ),
    ),
  ),
)
