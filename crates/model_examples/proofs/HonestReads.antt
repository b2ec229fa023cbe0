-- Honest replies are legal: a read whose version was buried, pruned and reclaimed under it, and the prune and the reclaim that did so.
use Rattle.segment_bytes.specs.Heads.{head_at, length_at, name_at, text_at, type_at}
use Rattle.segment_bytes.specs.Sheets.{columns_at, count_at, rows_at, series_at, sheet_at, sheet_text, stamp_at, stamps_at}
use Rattle.segment_bytes.specs.CellTexts.{cells_at, cells_text}
use Rattle.byte_fields.specs.Reading.{signed_text}
use Rattle.std.proofs.Common.{◌≡◌, pos, true, false, List, [], ◌∷◌, Some, None, refl, sym, ◌∙◌, subst, inl, inr, lit≤, lit<}
use Rattle.std.specs.Prelude.{◌&&◌, ◌||◌, Contains}
use Rattle.std.specs.List.{list_any}
use Rattle.std.proofs.lemmas.Bool.{true≢false, or_cases, or_parts}
use Rattle.std.specs.Str.{is_utf8, chars}
use lib.Utf8.{encode}
use Rattle.frame_core.specs.declared.refusal.Refusal.TheVariants as refusals
use Rattle.bucket_core.specs.declared.event.Change.TheVariants as changes
use Rattle.bucket_core.specs.History.{Bytes, stored, history_at}
use Rattle.key_kind.specs.declared.key.Key.{Key}
use Rattle.key_kind.specs.declared.key.KeyKind.TheVariants as kinds
use Rattle.key_kind.specs.Keys.{same_key}
use Rattle.key_kind.specs.KeyText.{key_at, key_text}
use Rattle.key_kind.proofs.KeyTests.{same_key_is}
use Rattle.segment_bytes.specs.Segments.{segment_text, segment_of, sheet_spelled}
use Rattle.index_tree.specs.IndexText.{index_text, index_of}
use Rattle.store_model.specs.ChainText.{entry_of, entry_text}
use Rattle.store_model.specs.Library.{state_of}
use Rattle.store_model.specs.Links.{Linked, links, reaches, is_needed, IsUnneeded}
use Rattle.model_examples.proofs.SmallFrames.{S}
use Rattle.model_examples.proofs.Witness as w
use Rattle.model_examples.proofs.WitnessPruned as pruned
use Rattle.index_tree.specs.PageText.{object_of}
use Rattle.expr_clause.specs.declared.command.Command.TheVariants as commands
use Rattle.reply_model.specs.declared.outcome.Outcome.TheVariants as outcomes
use Rattle.reply_model.specs.Tries.{IsTry, of_version}
use Rattle.reply_model.specs.Drops.{IsDeadIndex, IsDeadTile, reclaim_outcome}
use Rattle.reply_model.specs.Legal.{IsLegalSeen}
use Rattle.model_examples.proofs.HonestWrites.{client, window, reply, reads}
use Rattle.model_examples.proofs.HonestSnapshots.{none_consumed}

-- the two links, the newest first
abbrev new_link : Linked
new_link = record { row = pruned.row; pages = []; index = pruned.index; tiles = (w.part, w.table) ∷ [] }

abbrev old_link : Linked
old_link = record { row = w.row; pages = []; index = w.index; tiles = (w.part, w.table) ∷ [] }

links_pruned : links pruned.pruned S ≡ new_link ∷ old_link ∷ []
unfolding object_of index_of entry_of segment_text sheet_text cells_text segment_of sheet_spelled sheet_at rows_at count_at stamps_at stamp_at columns_at series_at head_at type_at length_at name_at text_at cells_at is_utf8 chars encode signed_text key_at key_text
links_pruned = refl

links_dropped : links pruned.dropped S ≡ new_link ∷ old_link ∷ []
unfolding object_of index_of entry_of segment_text sheet_text cells_text segment_of sheet_spelled sheet_at rows_at count_at stamps_at stamp_at columns_at series_at head_at type_at length_at name_at text_at cells_at is_utf8 chars encode signed_text key_at key_text
links_dropped = refl

-- ---- the read

pub gone_version_is_legal : IsLegalSeen pruned.dropped (client 2 8) reads (reply 10 [] (outcomes.Refused (refusals.VersionGone 0))) (window 4 10)
gone_version_is_legal = record {
  after = lit≤ tt;
  before = lit≤ tt;
  listed = refl;
  listed_within = tt;
  own = record { events = refl; commits = refl; short = λ e f. absurd cc; meant = tt; late = tt };
  left = record { left = refl; causes = tt };
  outcome = record {
    read_at = 4;
    from = lit≤ tt;
    to = lit≤ tt;
    version = record { number = 0; stamp = pos 50; frame = w.table };
    read = refl;
    number_is = refl;
    buried = refl;
    released = refl;
    link = old_link;
    link_is = subst (λ (ls : List Linked). Contains ls old_link) (sym links_dropped) (1, lit< tt, refl);
    link_number = refl;
    key = w.table_key kinds.TableData 0;
    read_key = inr (w.table, refl, (0, lit< tt, refl));
    gone = refl;
    unnamed = tt;
  };
}

-- ---- the write that prunes

abbrev puts : List (Key × Bytes)
puts = (pruned.key kinds.TableData 0, segment_text w.table) ∷ (pruned.key kinds.TableIndex 1, index_text pruned.index) ∷ (pruned.element_key, entry_text pruned.entry) ∷ []

is_try : IsTry S true puts pruned.element_key
unfolding object_of index_of entry_of head_at type_at length_at name_at text_at is_utf8 chars encode key_at key_text signed_text
is_try = record {
  first = (pruned.key kinds.TableData 0, segment_text w.table) ∷ (pruned.key kinds.TableIndex 1, index_text pruned.index) ∷ [];
  body = entry_text pruned.entry;
  element = pruned.entry;
  is = refl;
  entry_is = (refl, refl);
  spelled = refl;
  before = of_version ((pruned.key kinds.TableData 0, segment_text w.table) ∷ []) (pruned.key kinds.TableIndex 1) (index_text pruned.index) pruned.index (refl, refl) ((refl, refl), tt) refl refl;
  of_kind = refl;
}

pub pruning_write_is_legal : IsLegalSeen pruned.pruned (client 3 8) (commands.Write S 0 None true) (reply 8 (8 ∷ []) (outcomes.Committed 1)) (window 4 8)
pruning_write_is_legal = record {
  after = lit≤ tt;
  before = lit≤ tt;
  listed = refl;
  listed_within = tt;
  own = record {
    events = record { tries = []; last = _; is = refl; refused = tt; met = lit≤ tt; few = lit≤ tt; ends = (puts, Some (w.key kinds.Version 2), pruned.element_key, _, is_try, tt, refl) };
    commits = refl;
    short = λ e f. absurd cc;
    meant = tt;
    late = tt;
  };
  left = record { left = refl; causes = tt };
  outcome = inr (changes.Wrote w.table (pos 60), changes.Removed (0 ∷ []) ∷ [], S, refl, refl, (Some (w.key kinds.Version 2), pruned.element_key, refl), refl);
}

-- ---- the reclaim

-- what is dead is reached by the old link alone, and both its keys are dropped
both_gone : (key : Key) → key.name ≡ S → IsUnneeded pruned.pruned key → stored pruned.dropped key ≡ None
both_gone key n u = elim (or_cases (reaches new_link key) (reaches old_link key || false) once) [
  | inl e ↦ absurd (true≢false (sym e ∙ (or_parts (reaches new_link key) false no_more).0))
  | inr e ↦ elim (or_cases (reaches old_link key) false e) [
    | inl d ↦ elim (or_cases (same_key (w.table_key kinds.TableIndex 1) key) (same_key (w.table_key kinds.TableData 0) key || false) d) [
      | inl f ↦ subst (λ x. stored pruned.dropped x ≡ None) (same_key_is (w.table_key kinds.TableIndex 1) key f) refl
      | inr f ↦ elim (or_cases (same_key (w.table_key kinds.TableData 0) key) false f) [
        | inl g ↦ subst (λ x. stored pruned.dropped x ≡ None) (same_key_is (w.table_key kinds.TableData 0) key g) refl
        | inr g ↦ absurd (true≢false (sym g))
      ]
    ]
    | inr d ↦ absurd (true≢false (sym d))
  ]
]
  where
    once : (reaches new_link key || (reaches old_link key || false)) ≡ true
    once = subst (λ (ls : List Linked). list_any (λ l. reaches l key) ls ≡ true) links_pruned (subst (λ m. list_any (λ l. reaches l key) (links pruned.pruned m) ≡ true) n u.once)

    no_more : (reaches new_link key || false) ≡ false
    no_more = subst (λ (ls : List Linked). list_any (λ l. is_needed (state_of pruned.pruned S) l && reaches l key) ls ≡ false) links_pruned
        (subst (λ m. list_any (λ l. is_needed (state_of pruned.pruned m) l && reaches l key) (links pruned.pruned m) ≡ false) n u.no_more)

tile_dead : IsUnneeded pruned.pruned (w.table_key kinds.TableData 0)
unfolding object_of index_of entry_of segment_text sheet_text cells_text segment_of sheet_spelled sheet_at rows_at count_at stamps_at stamp_at columns_at series_at head_at type_at length_at name_at text_at cells_at is_utf8 chars encode signed_text key_at key_text
tile_dead = record { once = refl; no_more = refl }

index_dead : IsUnneeded pruned.pruned (w.table_key kinds.TableIndex 1)
unfolding object_of index_of entry_of segment_text sheet_text cells_text segment_of sheet_spelled sheet_at rows_at count_at stamps_at stamp_at columns_at series_at head_at type_at length_at name_at text_at cells_at is_utf8 chars encode signed_text key_at key_text
index_dead = record { once = refl; no_more = refl }

index_drops : IsDeadIndex pruned.pruned S (w.table_key kinds.TableIndex 1)
index_drops = ((refl, refl), index_dead, refl)

tile_drops : IsDeadTile pruned.pruned S (w.table_key kinds.TableData 0)
tile_drops = ((refl, refl), tile_dead, (old_link, subst (λ (ls : List Linked). Contains ls old_link) (sym links_pruned) (1, lit< tt, refl), index_drops, (1, lit< tt, refl)))

pub pruned_reclaim_is_legal : IsLegalSeen pruned.dropped (client 3 8) (commands.Reclaim S) (reply 8 [] (outcomes.Freed 1 1 0)) (window 8 10)
pruned_reclaim_is_legal = record {
  after = lit≤ tt;
  before = lit≤ tt;
  listed = refl;
  listed_within = tt;
  own = record {
    events = (
      8,
      lit≤ tt,
      lit≤ tt,
      (λ e. refl),
      record {
        tiles = w.table_key kinds.TableData 0 ∷ [];
        indexes = w.table_key kinds.TableIndex 1 ∷ [];
        pieces = [];
        is = refl;
        tiles_rise = tt;
        indexes_rise = tt;
        pieces_rise = tt;
        dead_tiles = (tile_drops, tt);
        dead_indexes = (index_drops, tt);
        dead_pieces = tt;
      },
    );
    commits = refl;
    short = λ e f. absurd cc;
    meant = tt;
    late = tt;
  };
  left = record { left = refl; causes = tt };
  outcome = record {
    referred = refl;
    tiles_are = refl;
    indexes_are = refl;
    pieces_are = refl;
    no_index = λ key d. both_gone key d.0.1 d.1;
    no_tile = λ l key c d r is u. inl (both_gone key is.1 u);
    no_piece = λ key d. absurd (none_consumed pruned.pruned key refl d.0 d.1);
  };
}

-- it frees what is dead where its window begins
pub pruned_reclaim_counts_the_dead : reclaim_outcome (history_at pruned.dropped 8) S ≡ outcomes.Freed 1 1 0
unfolding object_of index_of entry_of segment_text sheet_text cells_text segment_of sheet_spelled sheet_at rows_at count_at stamps_at stamp_at columns_at series_at head_at type_at length_at name_at text_at cells_at is_utf8 chars encode signed_text key_at key_text
pruned_reclaim_counts_the_dead = refl
