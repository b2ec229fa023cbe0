-- Honest replies are legal: a write and its read; a write whose refer failed after its effect; and an append that met another's, with one try and with two.
use Rattle.segment_bytes.specs.Heads.{head_at, length_at, name_at, text_at, type_at}
use Rattle.byte_fields.specs.Reading.{signed_text}
use Rattle.std.proofs.Common.{ℕ, ◌≤◌, pos, true, false, List, [], ◌∷◌, Some, None, refl, inl, inr, arith, lit≤, lit<}
use Rattle.std.specs.Str.{is_utf8, chars}
use lib.Utf8.{encode}
use Rattle.frame_core.specs.Ranges.{Range}
use Rattle.frame_core.specs.declared.part.Part.{Part}
use Rattle.frame_core.specs.declared.cell.ColType.TheVariants as types
use Rattle.frame_core.specs.declared.cell.Cell.TheVariants as cells
use Rattle.frame_core.specs.RawFrames.{Table}
use Rattle.frame_core.specs.declared.refusal.Refusal.TheVariants as refusals
use Rattle.bucket_core.specs.declared.event.Event.TheVariants as events
use Rattle.bucket_core.specs.declared.event.Change.TheVariants as changes
use Rattle.bucket_core.specs.History.{History, Bytes}
use Rattle.key_kind.specs.declared.key.Key.{Key}
use Rattle.key_kind.specs.declared.key.KeyKind.TheVariants as kinds
use Rattle.key_kind.specs.KeyText.{key_at, key_text}
use Rattle.segment_bytes.specs.Segments.{segment_text}
use Rattle.index_tree.specs.declared.index.Index.{Index}
use Rattle.index_tree.specs.IndexText.{index_text, index_of}
use Rattle.store_model.specs.declared.chain.LinkRow.{LinkRow}
use Rattle.store_model.specs.declared.chain.ChainMark.TheVariants as marks
use Rattle.store_model.specs.declared.chain.Entry.{Entry}
use Rattle.store_model.specs.ChainText.{entry_of, entry_text}
use Rattle.model_examples.proofs.SmallFrames.{S}
use Rattle.model_examples.proofs.Witness as w
use Rattle.model_examples.proofs.WitnessShared as shared
use Rattle.index_tree.specs.PageText.{object_of}
use Rattle.expr_clause.specs.declared.command.AsOf.TheVariants as moments
use Rattle.expr_clause.specs.declared.command.Command.{Command}
use Rattle.expr_clause.specs.declared.command.Command.TheVariants as commands
use Rattle.reply_model.specs.declared.outcome.Outcome.{Outcome}
use Rattle.reply_model.specs.declared.outcome.Outcome.TheVariants as outcomes
use Rattle.reply_model.specs.declared.reply.Reply.{Reply}
use Rattle.reply_model.specs.Windows.{Window, Client}
use Rattle.reply_model.specs.Tries.{IsTry, of_version}
use Rattle.reply_model.specs.Legal.{IsLegalSeen, Legal}

-- ---- the frames, the sessions, the replies

abbrev pub raw : ℕ → ℕ → Table
raw stamp cell = record { stamps = pos stamp ∷ []; names = (97 ∷ []) ∷ []; columns = (types.Int, cells.Int (pos cell) ∷ []) ∷ [] }

abbrev pub client : ℕ → ℕ → Client
client number tries = record { session = record { frames = raw 1 5 ∷ raw 2 6 ∷ []; moment = pos 60; tries = tries; client = number }; limit = 1000 }

abbrev pub everything : Range
everything = record { from = None; to = None }

abbrev pub reads : Command
reads = commands.Read S (moments.Back 1) everything None []

abbrev pub window : ℕ → ℕ → Window
window start stop = record { start = start; stop = stop; faulted = false }

abbrev pub reply : ℕ → List ℕ → Outcome → Reply
reply place commits outcome = record { place = place; listed = None; commits = commits; left = []; outcome = outcome }

-- ---- a write and its read

abbrev pub writes : Command
writes = commands.Write S 0 (Some (pos 50)) false

-- the puts of the write
abbrev pub puts : List (Key × Bytes)
puts = (w.table_key kinds.TableData 0, segment_text w.table) ∷ (w.table_key kinds.TableIndex 1, index_text w.index) ∷ (w.key kinds.Version 2, entry_text w.first_entry) ∷ []

pub is_try : IsTry S true puts (w.key kinds.Version 2)
unfolding object_of index_of entry_of head_at type_at length_at name_at text_at is_utf8 chars encode key_at key_text signed_text
is_try = record {
  first = (w.table_key kinds.TableData 0, segment_text w.table) ∷ (w.table_key kinds.TableIndex 1, index_text w.index) ∷ [];
  body = entry_text w.first_entry;
  element = w.first_entry;
  is = refl;
  entry_is = (refl, refl);
  spelled = refl;
  before = of_version ((w.table_key kinds.TableData 0, segment_text w.table) ∷ []) (w.table_key kinds.TableIndex 1) (index_text w.index) w.index (refl, refl) ((refl, refl), tt) refl refl;
  of_kind = refl;
}

pub write_is_legal : (tries : ℕ) → 1 ≤ tries → IsLegalSeen w.written (client 1 tries) writes (reply 4 (4 ∷ []) (outcomes.Committed 0)) (window 0 4)
write_is_legal tries some = record {
  after = lit≤ tt;
  before = lit≤ tt;
  listed = refl;
  listed_within = tt;
  own = record {
    events = record { tries = []; last = _; is = refl; refused = tt; met = lit≤ tt; few = omega (arith, some); ends = (puts, None, w.key kinds.Version 2, _, is_try, tt, refl) };
    commits = refl;
    short = λ e f. absurd cc;
    meant = tt;
    late = tt;
  };
  left = record { left = refl; causes = tt };
  outcome = inr (changes.Wrote w.table (pos 50), [], S, refl, refl, (None, w.key kinds.Version 2, refl), refl);
}

-- a read of the write
pub read_is_legal : IsLegalSeen w.written (client 1 8) reads (reply 4 [] (outcomes.Whole 0 w.table)) (window 4 4)
read_is_legal = record {
  after = lit≤ tt;
  before = lit≤ tt;
  listed = refl;
  listed_within = tt;
  own = record { events = refl; commits = refl; short = λ e f. absurd cc; meant = tt; late = tt };
  left = record { left = refl; causes = tt };
  outcome = inl (refl, refl);
}

-- the whole session
pub write_then_read : Legal w.written (client 1 8) 0 (writes ∷ reads ∷ []) (reply 4 (4 ∷ []) (outcomes.Committed 0) ∷ reply 4 [] (outcomes.Whole 0 w.table) ∷ []) (false ∷ false ∷ [])
write_then_read = (window 0 4 ∷ window 4 4 ∷ [], refl, (lit≤ tt, (lit≤ tt, write_is_legal 8 (lit≤ tt)), (lit≤ tt, (lit≤ tt, read_is_legal), tt)))

-- ---- the write's refer fails after its effect: its Refer stands, and nothing is known of it

abbrev failed : Window
failed = record { start = 0; stop = 4; faulted = true }

pub fault_is_legal : IsLegalSeen w.written (client 1 8) writes (reply 3 [] (outcomes.Refused refusals.StoreFault)) failed
fault_is_legal = record {
  after = lit≤ tt;
  before = lit≤ tt;
  listed = refl;
  listed_within = tt;
  own = record {
    events = inl (record { more = []; whole = record { tries = []; last = _; is = refl; refused = tt; met = lit≤ tt; few = lit≤ tt; ends = (puts, None, w.key kinds.Version 2, _, is_try, tt, refl) } });
    commits = inr (4, refl);
    short = λ e f. absurd cc;
    meant = (record { symbol = S; list = changes.Wrote w.table (pos 50) ∷ []; outcome = outcomes.Committed 0; symbol_is = refl; event = (None, w.key kinds.Version 2, refl); answered = refl }, tt);
    late = lit≤ tt;
  };
  left = record { left = refl; causes = tt };
  outcome = refl;
}

pub keys_are_legal : IsLegalSeen w.written (client 1 8) (commands.Keys S) (reply 4 [] (outcomes.Keys 1 1 1 1 0)) (window 4 4)
keys_are_legal = record {
  after = lit≤ tt;
  before = lit≤ tt;
  listed = refl;
  listed_within = tt;
  own = record { events = refl; commits = refl; short = λ e f. absurd cc; meant = tt; late = tt };
  left = record { left = refl; causes = tt };
  outcome = refl;
}

pub fault_then_read : Legal w.written (client 1 8) 0 (writes ∷ reads ∷ commands.Keys S ∷ [])
    (reply 3 [] (outcomes.Refused refusals.StoreFault) ∷ reply 4 [] (outcomes.Whole 0 w.table) ∷ reply 4 [] (outcomes.Keys 1 1 1 1 0) ∷ []) (true ∷ false ∷ false ∷ [])
fault_then_read = (failed ∷ window 4 4 ∷ window 4 4 ∷ [], refl, (lit≤ tt, (lit≤ tt, fault_is_legal), (lit≤ tt, (lit≤ tt, read_is_legal), (lit≤ tt, (lit≤ tt, keys_are_legal), tt))))

-- ---- a write that wants memory behind its first put

pub no_memory_is_legal : IsLegalSeen (w.put_tile ∷ []) (client 1 8) writes (reply 1 [] (outcomes.Refused refusals.NoMemory)) (window 0 1)
no_memory_is_legal = record {
  after = lit≤ tt;
  before = lit≤ tt;
  listed = refl;
  listed_within = tt;
  own = record {
    events = inl (record { more = w.put_index ∷ w.put_first ∷ w.write ∷ []; whole = record { tries = []; last = _; is = refl; refused = tt; met = lit≤ tt; few = lit≤ tt; ends = (puts, None, w.key kinds.Version 2, _, is_try, tt, refl) } });
    commits = refl;
    short = λ e f. refl;
    meant = tt;
    late = lit≤ tt;
  };
  left = record { left = refl; causes = tt };
  outcome = tt;
}

-- ---- two clients append; the second is refused, and drops its keys

abbrev pub appends : Command
appends = commands.Append S 1 None false

-- the puts of an append by a client: a tile beside the base's, the index, the element
abbrev append_puts : ℕ → List (Key × Bytes)
append_puts c = (shared.tile_key c 0, segment_text shared.added) ∷ (shared.index_key c 1, index_text (shared.index c 0)) ∷ (shared.element_key c 2, entry_text (shared.entry c 1)) ∷ []

is_append_2 : IsTry S true (append_puts 2) (shared.element_key 2 2)
unfolding object_of index_of entry_of head_at type_at length_at name_at text_at is_utf8 chars encode key_at key_text signed_text
is_append_2 = record {
  first = (shared.tile_key 2 0, segment_text shared.added) ∷ (shared.index_key 2 1, index_text (shared.index 2 0)) ∷ [];
  body = entry_text (shared.entry 2 1);
  element = shared.entry 2 1;
  is = refl;
  entry_is = (refl, refl);
  spelled = refl;
  before = of_version ((shared.tile_key 2 0, segment_text shared.added) ∷ []) (shared.index_key 2 1) (index_text (shared.index 2 0)) (shared.index 2 0) (refl, refl) ((refl, refl), tt) refl refl;
  of_kind = refl;
}

is_append_3 : IsTry S true (append_puts 3) (shared.element_key 3 2)
unfolding object_of index_of entry_of head_at type_at length_at name_at text_at is_utf8 chars encode key_at key_text signed_text
is_append_3 = record {
  first = (shared.tile_key 3 0, segment_text shared.added) ∷ (shared.index_key 3 1, index_text (shared.index 3 0)) ∷ [];
  body = entry_text (shared.entry 3 1);
  element = shared.entry 3 1;
  is = refl;
  entry_is = (refl, refl);
  spelled = refl;
  before = of_version ((shared.tile_key 3 0, segment_text shared.added) ∷ []) (shared.index_key 3 1) (index_text (shared.index 3 0)) (shared.index 3 0) (refl, refl) ((refl, refl), tt) refl refl;
  of_kind = refl;
}

-- client 3 puts, client 2 puts and refers, client 3 drops
abbrev pub accepted : History
accepted = shared.append 2 2 ∷ shared.put_element 2 2 1 ∷ shared.put_index 2 1 0 ∷ shared.put_tile 2 0 ∷ shared.put_element 3 2 1 ∷ shared.put_index 3 1 0 ∷ shared.put_tile 3 0 ∷ w.written

abbrev pub met : History
met = events.Drop 3 (shared.element_key 3 2) ∷ events.Drop 3 (shared.index_key 3 1) ∷ events.Drop 3 (shared.tile_key 3 0) ∷ accepted

pub first_append_is_legal : IsLegalSeen accepted (client 2 1) appends (reply 11 (11 ∷ []) (outcomes.Committed 1)) (window 4 11)
first_append_is_legal = record {
  after = lit≤ tt;
  before = lit≤ tt;
  listed = refl;
  listed_within = tt;
  own = record {
    events = record { tries = []; last = _; is = refl; refused = tt; met = lit≤ tt; few = lit≤ tt; ends = (append_puts 2, Some (w.key kinds.Version 2), shared.element_key 2 2, _, is_append_2, tt, refl) };
    commits = refl;
    short = λ e f. absurd cc;
    meant = tt;
    late = tt;
  };
  left = record { left = refl; causes = tt };
  outcome = inr (changes.Appended shared.added (pos 60), [], S, refl, refl, (Some (w.key kinds.Version 2), shared.element_key 2 2, refl), refl);
}

-- with one try the second append is Moved
pub second_append_is_moved : IsLegalSeen met (client 3 1) appends (reply 11 [] (outcomes.Refused (refusals.Moved 11))) (window 4 14)
second_append_is_moved = record {
  after = lit≤ tt;
  before = lit≤ tt;
  listed = refl;
  listed_within = tt;
  own = record {
    events = record {
      tries = (_ ∷ _ ∷ _ ∷ _ ∷ _ ∷ _ ∷ []) ∷ [];
      last = [];
      is = refl;
      refused = ((append_puts 3, shared.element_key 3 2, is_append_3, refl), tt);
      met = lit≤ tt;
      few = lit≤ tt;
      ends = refl;
    };
    commits = refl;
    short = λ e f. absurd cc;
    meant = tt;
    late = tt;
  };
  left = record { left = refl; causes = tt };
  outcome = (
    S,
    (refl, refl),
    record {
      here = refl;
      inside = lit< tt;
      event = _;
      at = refl;
      refers = refl;
      others = λ e. absurd cc;
      enough = lit≤ tt;
      start = 4;
      from = lit≤ tt;
      listed = lit≤ tt;
      stop = 14;
      to = lit≤ tt;
      beside = (refl, refl);
      tries = (
        4,
        0,
        refl,
        record {
          look = 4;
          showed = 11;
          begins = lit≤ tt;
          between = lit< tt;
          shown = refl;
          ends = lit≤ tt;
          own = inl (record { puts = append_puts 3; entry = shared.element_key 3 2; is_try = is_append_3; put = refl; dropped = refl }, inl (λ e. absurd cc));
        },
      );
    },
  );
}

-- with two tries it appends behind the other
abbrev last_key : Key
last_key = record { kind = kinds.TableData; name = S; client = 3; serial = 3; version = 2; first = pos 2; last = pos 2 }

abbrev last_index_key : Key
last_index_key = record { kind = kinds.TableIndex; name = S; client = 3; serial = 4; version = 2; first = pos 1; last = pos 2 }

abbrev third_part : Part
third_part = record { first_row = 2; rows = 1; first_col = 0; cols = 1 }

abbrev last_index : Index
last_index = record {
  schema = shared.both.schema;
  rows = 3;
  slots = w.slot
      ∷ record { key = shared.tile_key 2 0; part = shared.second_part; first = pos 2; last = pos 2 } ∷ record { key = last_key; part = third_part; first = pos 2; last = pos 2 } ∷ [];
}

abbrev last_row : LinkRow
last_row = record { version = 2; stamp = pos 60; rows = 3; index = last_index_key }

abbrev last_entry : Entry
last_entry = record { prev = Some (shared.element_key 2 2); changes = marks.Link last_row ∷ [] }

abbrev last_puts : List (Key × Bytes)
last_puts = (last_key, segment_text shared.added) ∷ (last_index_key, index_text last_index) ∷ (shared.element_key 3 5, entry_text last_entry) ∷ []

is_last_append : IsTry S true last_puts (shared.element_key 3 5)
unfolding object_of index_of entry_of head_at type_at length_at name_at text_at is_utf8 chars encode key_at key_text signed_text
is_last_append = record {
  first = (last_key, segment_text shared.added) ∷ (last_index_key, index_text last_index) ∷ [];
  body = entry_text last_entry;
  element = last_entry;
  is = refl;
  entry_is = (refl, refl);
  spelled = refl;
  before = of_version ((last_key, segment_text shared.added) ∷ []) last_index_key (index_text last_index) last_index (refl, refl) ((refl, refl), tt) refl refl;
  of_kind = refl;
}

abbrev again : History
again = events.Refer 3 S (Some (shared.element_key 2 2)) (shared.element_key 3 5) (changes.Appended shared.added (pos 60) ∷ [])
    ∷ events.Put 3 (shared.element_key 3 5) (entry_text last_entry) ∷ events.Put 3 last_index_key (index_text last_index) ∷ events.Put 3 last_key (segment_text shared.added) ∷ met

pub second_append_is_legal : IsLegalSeen again (client 3 2) appends (reply 18 (18 ∷ []) (outcomes.Committed 2)) (window 4 18)
second_append_is_legal = record {
  after = lit≤ tt;
  before = lit≤ tt;
  listed = refl;
  listed_within = tt;
  own = record {
    events = record {
      tries = (_ ∷ _ ∷ _ ∷ _ ∷ _ ∷ _ ∷ []) ∷ [];
      last = _ ∷ _ ∷ _ ∷ _ ∷ [];
      is = refl;
      refused = ((append_puts 3, shared.element_key 3 2, is_append_3, refl), tt);
      met = lit≤ tt;
      few = lit≤ tt;
      ends = (last_puts, Some (shared.element_key 2 2), shared.element_key 3 5, _, is_last_append, tt, refl);
    };
    commits = refl;
    short = λ e f. absurd cc;
    meant = tt;
    late = tt;
  };
  left = record { left = refl; causes = tt };
  outcome = inr (changes.Appended shared.added (pos 60), [], S, refl, refl, (Some (shared.element_key 2 2), shared.element_key 3 5, refl), refl);
}
