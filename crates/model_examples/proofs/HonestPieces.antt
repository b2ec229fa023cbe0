-- Honest replies are legal: a piece that is staged, discarded and reclaimed; a write and a finalize that meet the limit.
use Rattle.segment_bytes.specs.Heads.{head_at, length_at, name_at, text_at, type_at}
use Rattle.segment_bytes.specs.Sheets.{columns_at, count_at, rows_at, series_at, sheet_at, sheet_text, stamp_at, stamps_at}
use Rattle.segment_bytes.specs.CellTexts.{cells_at, cells_text}
use Rattle.byte_fields.specs.Reading.{signed_text}
use Rattle.std.proofs.Common.{◌≡◌, ℕ, pos, true, false, List, [], ◌∷◌, Some, None, refl, sym, ◌∙◌, ap, subst, inl, inr, lit≤, lit<, cond, nat_eq}
use Rattle.std.specs.Prelude.{is_some}
use Rattle.std.specs.List.{list_any}
use Rattle.std.proofs.lemmas.Bool.{true≢false}
use Rattle.std.specs.Str.{is_utf8, chars}
use lib.Utf8.{encode}
use Rattle.frame_core.specs.Frames.{Frame}
use Rattle.frame_core.specs.declared.cell.ColType.TheVariants as types
use Rattle.frame_core.specs.declared.refusal.Refusal.TheVariants as refusals
use Rattle.bucket_core.specs.declared.event.Event.{Event}
use Rattle.bucket_core.specs.declared.event.Event.TheVariants as events
use Rattle.bucket_core.specs.declared.event.Change.TheVariants as changes
use Rattle.bucket_core.specs.History.{History, stored, history_at}
use Rattle.key_kind.specs.declared.key.Key.{Key}
use Rattle.key_kind.specs.declared.key.KeyKind.{KeyKind}
use Rattle.key_kind.specs.declared.key.KeyKind.TheVariants as kinds
use Rattle.key_kind.specs.Keys.{same_key, kind_code, reference_key}
use Rattle.key_kind.specs.KeyText.{key_at, key_text}
use Rattle.key_kind.proofs.KeyTests.{same_key_is}
use Rattle.segment_bytes.specs.Segments.{segment_text, segment_of, sheet_spelled}
use Rattle.store_model.specs.ChainText.{entry_of, entry_text}
use Rattle.store_model.specs.Links.{Linked, links, reaches, IsUnneeded}
use Rattle.model_examples.proofs.SmallFrames.{S}
use Rattle.model_examples.proofs.WorkedHistories.{commit}
use Rattle.model_examples.proofs.Witness as w
use Rattle.model_examples.proofs.WitnessShared as shared
use Rattle.expr_clause.specs.declared.command.Command.TheVariants as commands
use Rattle.reply_model.specs.declared.outcome.Outcome.TheVariants as outcomes
use Rattle.reply_model.specs.declared.reply.Reply.{Reply}
use Rattle.reply_model.specs.Windows.{Client}
use Rattle.reply_model.specs.Tries.{IsTry, of_mark}
use Rattle.reply_model.specs.Drops.{IsDeadPiece, reclaim_outcome}
use Rattle.reply_model.specs.OwnEvents.{IsStaging}
use Rattle.reply_model.specs.Legal.{IsLegalSeen, Legal}
use Rattle.model_examples.proofs.HonestWrites.{client, window, reply, is_try, puts}

abbrev one : Client
one = client 1 8

-- ---- stage

staging : IsStaging one.session S 0 (events.Put 1 shared.piece_key (segment_text w.table) ∷ [])
unfolding segment_text sheet_text cells_text segment_of sheet_spelled sheet_at rows_at count_at stamps_at stamp_at columns_at series_at head_at type_at length_at name_at text_at cells_at is_utf8 chars encode signed_text
staging = record { key = shared.piece_key; body = segment_text w.table; is = refl; key_is = (refl, refl); whole = w.table; frame_is = refl; spelled = refl }

pub stage_is_legal : IsLegalSeen shared.staged one (commands.Stage S 0) (reply 1 [] outcomes.Staged) (window 0 1)
stage_is_legal = record {
  after = lit≤ tt;
  before = lit≤ tt;
  listed = refl;
  listed_within = tt;
  own = record { events = staging; commits = refl; short = λ e f. absurd cc; meant = tt; late = tt };
  left = record { left = refl; causes = tt };
  outcome = record { inside = lit< tt; event = _; at = refl; staging = staging };
}

-- ---- discard

discard_try : IsTry S false ((w.key kinds.Version 1, entry_text shared.discard_entry) ∷ []) (w.key kinds.Version 1)
unfolding entry_of key_at key_text signed_text
discard_try = record { first = []; body = entry_text shared.discard_entry; element = shared.discard_entry; is = refl; entry_is = (refl, refl); spelled = refl; before = of_mark; of_kind = refl }

abbrev discard_reply : Reply
discard_reply = record { place = 3; listed = Some 1; commits = 3 ∷ []; left = []; outcome = outcomes.Discarded 1 }

pub discard_is_legal : IsLegalSeen shared.discarded one (commands.Discard S) discard_reply (window 1 3)
unfolding segment_text sheet_text cells_text segment_of sheet_spelled sheet_at rows_at count_at stamps_at stamp_at columns_at series_at head_at type_at length_at name_at text_at cells_at is_utf8 chars encode signed_text
discard_is_legal = record {
  after = lit≤ tt;
  before = lit≤ tt;
  listed = refl;
  listed_within = (lit≤ tt, lit≤ tt);
  own = record {
    events = record {
      tries = [];
      last = _;
      is = refl;
      refused = tt;
      met = lit≤ tt;
      few = lit≤ tt;
      ends = ((w.key kinds.Version 1, entry_text shared.discard_entry) ∷ [], None, w.key kinds.Version 1, _, discard_try, tt, refl);
    };
    commits = refl;
    short = λ e f. absurd cc;
    meant = tt;
    late = tt;
  };
  left = record { left = refl; causes = tt };
  outcome = inr (changes.Discarded (shared.piece ∷ []), [], S, refl, refl, (None, w.key kinds.Version 1, refl), refl);
}

abbrev none_reply : Reply
none_reply = record { place = 3; listed = Some 3; commits = []; left = []; outcome = outcomes.Refused refusals.NoStaged }

-- a second discard finds no piece
pub no_staged_is_legal : IsLegalSeen shared.discarded one (commands.Discard S) none_reply (window 3 3)
unfolding segment_text sheet_text cells_text segment_of sheet_spelled sheet_at rows_at count_at stamps_at stamp_at columns_at series_at head_at type_at length_at name_at text_at cells_at is_utf8 chars encode signed_text
no_staged_is_legal = record {
  after = lit≤ tt;
  before = lit≤ tt;
  listed = refl;
  listed_within = (lit≤ tt, lit≤ tt);
  own = record {
    events = record { tries = []; last = []; is = refl; refused = tt; met = lit≤ tt; few = lit≤ tt; ends = refl };
    commits = refl;
    short = λ e f. absurd cc;
    meant = tt;
    late = tt;
  };
  left = record { left = refl; causes = tt };
  outcome = inl (refl, refl);
}

-- ---- reclaim

links_discarded : links shared.discarded S ≡ []
unfolding entry_of key_at key_text signed_text
links_discarded = refl

none_dead : (key : Key) → key.name ≡ S → IsUnneeded shared.discarded key → ⊥
none_dead key n u = true≢false (sym (subst (λ (ls : List Linked). list_any (λ l. reaches l key) ls ≡ true) links_discarded
    (subst (λ m. list_any (λ l. reaches l key) (links shared.discarded m) ≡ true) n u.once)))

abbrev dropped : History
dropped = events.Drop 1 shared.piece_key ∷ shared.discarded

-- a consumed piece that is stored is the one that is dropped
piece_gone : (key : Key) → IsDeadPiece shared.discarded S key → stored dropped key ≡ None
piece_gone key d =
    elim (same_key (reference_key S) key) as (λ b. same_key (reference_key S) key ≡ b → is_some (cond b (Some (key_text (w.key kinds.Version 1))) (stored (shared.put_discard ∷ shared.staged) key)) ≡ true → stored dropped key ≡ None) [
      | true ↦ λ e f. absurd (kinds_differ kinds.VersionRef (ap (λ (x : Key). x.kind) (same_key_is (reference_key S) key e)) refl)
      | false ↦ λ e f.
          elim (same_key (w.key kinds.Version 1) key) as (λ b. same_key (w.key kinds.Version 1) key ≡ b → is_some (cond b (Some (entry_text shared.discard_entry)) (stored shared.staged key)) ≡ true → stored dropped key ≡ None) [
            | true ↦ λ g i. absurd (kinds_differ kinds.Version (ap (λ (x : Key). x.kind) (same_key_is (w.key kinds.Version 1) key g)) refl)
            | false ↦ λ g i.
                elim (same_key shared.piece_key key) as (λ b. same_key shared.piece_key key ≡ b → is_some (cond b (Some (segment_text w.table)) None) ≡ true → stored dropped key ≡ None) [
                  | true ↦ λ j m. subst (λ x. stored dropped x ≡ None) (same_key_is shared.piece_key key j) refl
                  | false ↦ λ j m. absurd (true≢false (sym m))
                ] refl i
          ] refl f
    ] refl d.2
  where
    kinds_differ : (kind : KeyKind) → kind ≡ key.kind → nat_eq (kind_code kind) 6 ≡ false → ⊥
    kinds_differ kind e differ = true≢false (sym (subst (λ (x : KeyKind). nat_eq (kind_code x) 6 ≡ true) (sym (e ∙ d.1.staged)) refl) ∙ differ)

pub piece_reclaim_is_legal : IsLegalSeen dropped one (commands.Reclaim S) (reply 3 [] (outcomes.Freed 0 0 1)) (window 3 4)
piece_reclaim_is_legal = record {
  after = lit≤ tt;
  before = lit≤ tt;
  listed = refl;
  listed_within = tt;
  own = record {
    events = (
      3,
      lit≤ tt,
      lit≤ tt,
      (λ e. refl),
      record {
        tiles = [];
        indexes = [];
        pieces = shared.piece_key ∷ [];
        is = refl;
        tiles_rise = tt;
        indexes_rise = tt;
        pieces_rise = tt;
        dead_tiles = tt;
        dead_indexes = tt;
        dead_pieces = ((refl, record { staged = refl; consumed = refl }, refl), tt);
      },
    );
    commits = refl;
    short = λ e f. absurd cc;
    meant = tt;
    late = tt;
  };
  left = record { left = refl; causes = tt };
  outcome = record {
    referred = refl;
    tiles_are = refl;
    indexes_are = refl;
    pieces_are = refl;
    no_index = λ key d. absurd (none_dead key d.0.1 d.1);
    no_tile = λ l key c d r is u. absurd (none_dead key is.1 u);
    no_piece = piece_gone;
  };
}

-- it frees what is dead where its window begins
pub piece_reclaim_counts_the_dead : reclaim_outcome (history_at dropped 3) S ≡ outcomes.Freed 0 0 1
unfolding entry_of segment_text sheet_text cells_text segment_of sheet_spelled sheet_at rows_at count_at stamps_at stamp_at columns_at series_at head_at type_at length_at name_at text_at cells_at is_utf8 chars encode signed_text key_at key_text
piece_reclaim_counts_the_dead = refl

-- the whole session
pub piece_session : Legal dropped one 0 (commands.Stage S 0 ∷ commands.Discard S ∷ commands.Discard S ∷ commands.Reclaim S ∷ [])
    (reply 1 [] outcomes.Staged ∷ discard_reply ∷ none_reply ∷ reply 3 [] (outcomes.Freed 0 0 1) ∷ []) (false ∷ false ∷ false ∷ false ∷ [])
piece_session = (
  window 0 1 ∷ window 1 3 ∷ window 3 3 ∷ window 3 4 ∷ [],
  refl,
  (lit≤ tt, (lit≤ tt, stage_is_legal), (lit≤ tt, (lit≤ tt, discard_is_legal), (lit≤ tt, (lit≤ tt, no_staged_is_legal), (lit≤ tt, (lit≤ tt, piece_reclaim_is_legal), tt)))),
)

-- ---- the limit

-- a write whose refer finds the limit reached
abbrev full : Client
full = record { session = one.session; limit = 3 }

abbrev begun : History
begun = w.put_first ∷ w.put_index ∷ w.put_tile ∷ []

pub spent_is_legal : IsLegalSeen begun full (commands.Write S 0 (Some (pos 50)) false) (reply 3 [] (outcomes.Refused (refusals.Spent 3))) (window 0 3)
spent_is_legal = record {
  after = lit≤ tt;
  before = lit≤ tt;
  listed = refl;
  listed_within = tt;
  own = record {
    events = inl (record { more = w.write ∷ []; whole = record { tries = []; last = _; is = refl; refused = tt; met = lit≤ tt; few = lit≤ tt; ends = (puts, None, w.key kinds.Version 2, _, is_try, tt, refl) } });
    commits = refl;
    short = λ e f. refl;
    meant = tt;
    late = lit≤ tt;
  };
  left = record { left = refl; causes = tt };
  outcome = record { here = refl; full = lit≤ tt; busy = inl refl };
}

-- and the list of symbols then has no row
pub symbols_are_legal : IsLegalSeen begun full commands.Symbols (reply 3 [] (outcomes.Symbols [])) (window 3 3)
symbols_are_legal = record {
  after = lit≤ tt;
  before = lit≤ tt;
  listed = refl;
  listed_within = tt;
  own = record { events = refl; commits = refl; short = λ e f. absurd cc; meant = tt; late = tt };
  left = record { left = refl; causes = tt };
  outcome = tt;
}

-- pieces of three schemas, without rows
abbrev empty : ℕ → Frame
empty letter = record { schema = record { timed = true; columns = (letter ∷ [], types.Int) ∷ [] }; rows = [] }

abbrev stages : ℕ → ℕ → Event
stages serial letter = events.Put 1 (record { kind = kinds.Staged; name = S; client = 1; serial = serial; version = 0; first = pos 0; last = pos 0 }) (segment_text (empty letter))

-- two pieces are listed; a third comes; another takes the first; so the one that is left of the list is the second, though no single place shows it alone
abbrev passed : History
passed = commit 2 5 (changes.Wrote (empty 97) (pos 7) ∷ changes.Discarded (record { client = 1; serial = 0 } ∷ []) ∷ []) ∷ stages 2 99 ∷ stages 1 98 ∷ stages 0 97 ∷ []

pub finalize_spent_is_legal : IsLegalSeen passed (record { session = (client 4 8).session; limit = 4 }) (commands.Finalize S false true None false)
    (record { place = 4; listed = Some 2; commits = []; left = []; outcome = outcomes.Refused (refusals.Spent 4) }) (window 2 4)
unfolding segment_text sheet_text cells_text segment_of sheet_spelled sheet_at rows_at count_at stamps_at stamp_at columns_at series_at head_at type_at length_at name_at text_at cells_at is_utf8 chars encode signed_text
finalize_spent_is_legal = record {
  after = lit≤ tt;
  before = lit≤ tt;
  listed = tt;
  listed_within = (lit≤ tt, lit≤ tt);
  own = record {
    events = inr (record { more = []; whole = record { tries = []; last = []; is = refl; refused = tt; met = lit≤ tt; few = lit≤ tt; ends = refl } });
    commits = refl;
    short = λ e f. refl;
    meant = tt;
    late = lit≤ tt;
  };
  left = record { left = refl; causes = tt };
  outcome = record { here = refl; full = lit≤ tt; busy = inr (4, lit≤ tt, lit≤ tt, inl (λ e. absurd cc)) };
}
