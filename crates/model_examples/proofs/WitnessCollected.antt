-- A client that takes back what it never linked, beside a written version; a snapshot that is settled, and one that is not; and that no key that is
-- linked is taken back.
use Rattle.segment_bytes.specs.Heads.{head_at, length_at, name_at, text_at, type_at}
use Rattle.segment_bytes.specs.Sheets.{columns_at, count_at, rows_at, series_at, sheet_at, sheet_text, stamp_at, stamps_at}
use Rattle.segment_bytes.specs.CellTexts.{cells_at, cells_text}
use Rattle.byte_fields.specs.Reading.{signed_text}
use Rattle.std.proofs.Common.{◌≡◌, ◌∷◌, refl, sym, inl, inr, Some, lit<}
use Rattle.std.proofs.lemmas.Bool.{true≢false}
use Rattle.std.specs.Str.{is_utf8, chars}
use lib.Utf8.{encode}
use Rattle.segment_bytes.specs.Segments.{segment_of, segment_text, sheet_spelled}
use Rattle.index_tree.specs.IndexText.{index_text, index_of}
use Rattle.index_tree.specs.PageText.{object_of}
use Rattle.key_kind.specs.declared.key.KeyKind.{KeyKind}
use Rattle.key_kind.specs.declared.key.KeyKind.TheVariants as kinds
use Rattle.key_kind.specs.KeyText.{key_at, key_text}
use Rattle.bucket_core.specs.declared.event.Event.TheVariants as events
use Rattle.bucket_core.specs.History.{History, history_at}
use Rattle.bucket_core.specs.Laws.{MayFollow}
use Rattle.store_model.specs.ChainText.{entry_of}
use Rattle.store_model.specs.Library.{state_of, next_number}
use Rattle.store_model.specs.Links.{IsOwnUnlinked}
use Rattle.store_model.specs.Law.{IsLawful, IsClaimed, MayPut}
use Rattle.store_model.specs.Settled.{base_number, IsSettledIn}
use Rattle.model_examples.proofs.SmallFrames.{S}
use Rattle.model_examples.proofs.Witness as w
use Rattle.model_examples.proofs.WitnessKept as kept
use Rattle.model_examples.proofs.WitnessShared as shared

-- ---- an orphan

-- an index that was put again, as by a try that was given up
abbrev pub orphaned : History
orphaned = events.Put 1 (w.table_key kinds.TableIndex 3) (index_text w.index) ∷ w.written

abbrev pub collected : History
collected = events.Drop 1 (w.table_key kinds.TableIndex 3) ∷ orphaned

orphan_claim : MayPut w.written 1 (w.table_key kinds.TableIndex 3) (index_text w.index)
unfolding object_of index_of head_at type_at length_at name_at text_at is_utf8 chars encode key_at key_text signed_text
orphan_claim = record { key_is = (w.table_key_rules kinds.TableIndex 3).1; fits = w.table_fits kinds.TableIndex 3 (lit< tt); own = refl; next = refl; spelled = refl }

orphan_dead : IsOwnUnlinked orphaned (w.table_key kinds.TableIndex 3) 1
unfolding object_of index_of entry_of segment_text sheet_text cells_text segment_of sheet_spelled sheet_at rows_at count_at stamps_at stamp_at columns_at series_at head_at type_at length_at name_at text_at cells_at is_utf8 chars encode signed_text key_at key_text
orphan_dead = record { own = refl; table = refl; unreached = refl; no_entry = refl }

pub collected_lawful : IsLawful collected
collected_lawful = ((refl, inr (inr (inl orphan_dead))), ((tt, orphan_claim), w.written_lawful))

index_is_not_staged : ◌≡◌ {A = KeyKind} kinds.TableIndex kinds.Staged → ⊥
index_is_not_staged e = cc

-- the index that is linked is not taken back
pub no_collect_of_a_linked_key : MayFollow IsClaimed orphaned (events.Drop 1 (w.table_key kinds.TableIndex 1)) → ⊥
unfolding object_of index_of entry_of segment_text sheet_text cells_text segment_of sheet_spelled sheet_at rows_at count_at stamps_at stamp_at columns_at series_at head_at type_at length_at name_at text_at cells_at is_utf8 chars encode signed_text key_at key_text
no_collect_of_a_linked_key may = elim may.1 [
  | inl unneeded ↦ true≢false unneeded.no_more
  | inr (inl piece) ↦ absurd (index_is_not_staged piece.staged)
  | inr (inr (inl own)) ↦ true≢false own.unreached
  | inr (inr (inr retold)) ↦ true≢false (sym retold.once)
]

-- ---- settled snapshots

-- the snapshot's versions are the bases at the place of its last hold
pub kept_is_settled : IsSettledIn (history_at kept.kept 6) kept.snapshot
kept_is_settled = (refl, tt)

-- and a second look before the name shows it
pub second_look_settles : (next_number (state_of kept.held S) ≡ next_number (state_of (history_at kept.kept 6) S))
second_look_settles = refl

-- an append behind the hold raises the next number, and the held version is the base no more
abbrev appended_behind : History
appended_behind = shared.append 2 2 ∷ kept.held

pub an_append_is_seen : next_number (state_of appended_behind S) ≡ 2
an_append_is_seen = refl

pub the_base_moved_on : base_number (state_of appended_behind S) ≡ Some 1
the_base_moved_on = refl
