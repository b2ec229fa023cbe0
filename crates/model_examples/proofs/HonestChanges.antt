-- Honest replies are legal: a delete_range that clears a version, and a finalize of a staged piece.
use Rattle.segment_bytes.specs.Heads.{head_at, length_at, name_at, text_at, type_at}
use Rattle.segment_bytes.specs.Sheets.{columns_at, count_at, rows_at, series_at, sheet_at, sheet_text, stamp_at, stamps_at}
use Rattle.segment_bytes.specs.CellTexts.{cells_at, cells_text}
use Rattle.byte_fields.specs.Reading.{signed_text}
use Rattle.std.proofs.Common.{pos, true, false, List, [], ◌∷◌, Some, None, refl, inr, lit≤}
use Rattle.std.specs.Str.{is_utf8, chars}
use lib.Utf8.{encode}
use Rattle.bucket_core.specs.declared.event.Change.TheVariants as changes
use Rattle.bucket_core.specs.History.{Bytes}
use Rattle.key_kind.specs.declared.key.Key.{Key}
use Rattle.key_kind.specs.declared.key.KeyKind.TheVariants as kinds
use Rattle.key_kind.specs.KeyText.{key_at, key_text}
use Rattle.segment_bytes.specs.Segments.{segment_text, segment_of, sheet_spelled}
use Rattle.store_model.specs.ChainText.{entry_of, entry_text}
use Rattle.model_examples.proofs.SmallFrames.{S}
use Rattle.model_examples.proofs.Witness as w
use Rattle.expr_clause.specs.declared.command.Command.TheVariants as commands
use Rattle.reply_model.specs.declared.outcome.Outcome.TheVariants as outcomes
use Rattle.reply_model.specs.Tries.{IsTry, of_version}
use Rattle.reply_model.specs.Legal.{IsLegalSeen}
use Rattle.model_examples.proofs.HonestWrites.{client, window, reply}
use Rattle.index_tree.specs.IndexText.{index_text, index_of}
use Rattle.model_examples.proofs.WitnessCleared as cleared
use Rattle.index_tree.specs.PageText.{object_of}

-- ---- delete_range

abbrev clear_puts : List (Key × Bytes)
clear_puts = (cleared.index_key, index_text cleared.empty_index) ∷ (w.key kinds.Version 4, entry_text cleared.clear_entry) ∷ []

clear_try : IsTry S true clear_puts (w.key kinds.Version 4)
unfolding object_of index_of entry_of head_at type_at length_at name_at text_at is_utf8 chars encode key_at key_text signed_text
clear_try = record {
  first = (cleared.index_key, index_text cleared.empty_index) ∷ [];
  body = entry_text cleared.clear_entry;
  element = cleared.clear_entry;
  is = refl;
  entry_is = (refl, refl);
  spelled = refl;
  before = of_version [] cleared.index_key (index_text cleared.empty_index) cleared.empty_index (refl, refl) tt refl refl;
  of_kind = refl;
}

pub clear_is_legal : IsLegalSeen cleared.cleared (client 1 8) (commands.DeleteRange S cleared.range None false) (reply 7 (7 ∷ []) (outcomes.Committed 1)) (window 4 7)
clear_is_legal = record {
  after = lit≤ tt;
  before = lit≤ tt;
  listed = refl;
  listed_within = tt;
  own = record {
    events = record { tries = []; last = _; is = refl; refused = tt; met = lit≤ tt; few = lit≤ tt; ends = (clear_puts, Some (w.key kinds.Version 2), w.key kinds.Version 4, _, clear_try, tt, refl) };
    commits = refl;
    short = λ e f. absurd cc;
    meant = tt;
    late = tt;
  };
  left = record { left = refl; causes = tt };
  outcome = inr (changes.Updated cleared.nothing cleared.range (pos 60), [], S, refl, refl, (Some (w.key kinds.Version 2), w.key kinds.Version 4, refl), refl);
}

-- ---- finalize

abbrev final_puts : List (Key × Bytes)
final_puts = (w.table_key kinds.TableData 1, segment_text w.table) ∷ (w.table_key kinds.TableIndex 2, index_text cleared.final_index) ∷ (w.key kinds.Version 3, entry_text cleared.final_entry) ∷ []

final_try : IsTry S true final_puts (w.key kinds.Version 3)
unfolding object_of index_of entry_of head_at type_at length_at name_at text_at is_utf8 chars encode key_at key_text signed_text
final_try = record {
  first = (w.table_key kinds.TableData 1, segment_text w.table) ∷ (w.table_key kinds.TableIndex 2, index_text cleared.final_index) ∷ [];
  body = entry_text cleared.final_entry;
  element = cleared.final_entry;
  is = refl;
  entry_is = (refl, refl);
  spelled = refl;
  before = of_version ((w.table_key kinds.TableData 1, segment_text w.table) ∷ []) (w.table_key kinds.TableIndex 2) (index_text cleared.final_index) cleared.final_index (refl, refl) ((refl, refl), tt) refl refl;
  of_kind = refl;
}

pub finalize_is_legal : IsLegalSeen cleared.finalized (client 1 8) (commands.Finalize S false false None false)
    (record { place = 5; listed = Some 1; commits = 5 ∷ []; left = []; outcome = outcomes.Finalized 0 1 }) (window 1 5)
unfolding segment_text sheet_text cells_text segment_of sheet_spelled sheet_at rows_at count_at stamps_at stamp_at columns_at series_at head_at type_at length_at name_at text_at cells_at is_utf8 chars encode signed_text
finalize_is_legal = record {
  after = lit≤ tt;
  before = lit≤ tt;
  listed = refl;
  listed_within = (lit≤ tt, lit≤ tt);
  own = record {
    events = record { tries = []; last = _; is = refl; refused = tt; met = lit≤ tt; few = lit≤ tt; ends = (final_puts, None, w.key kinds.Version 3, _, final_try, tt, refl) };
    commits = refl;
    short = λ e f. absurd cc;
    meant = tt;
    late = tt;
  };
  left = record { left = refl; causes = tt };
  outcome = inr (changes.Wrote w.table (pos 60), changes.Discarded (cleared.piece ∷ []) ∷ [], S, refl, refl, (None, w.key kinds.Version 3, refl), refl);
}
