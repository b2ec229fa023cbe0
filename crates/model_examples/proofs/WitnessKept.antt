-- A lawful history with real bodies: a write, a snapshot, a delete, the snapshot's end, and the drops of what is not needed any more.
use Rattle.segment_bytes.specs.Heads.{head_at, length_at, name_at, text_at, type_at}
use Rattle.segment_bytes.specs.Sheets.{columns_at, count_at, rows_at, series_at, sheet_at, sheet_text, stamp_at, stamps_at}
use Rattle.segment_bytes.specs.CellTexts.{cells_at, cells_text}
use Rattle.byte_fields.specs.Reading.{signed_text}
use Rattle.std.proofs.Common.{ℕ, [], ◌∷◌, refl, inl, inr, Some, lit<}
use Rattle.std.specs.Str.{is_utf8, chars}
use lib.Utf8.{encode}
use Rattle.segment_bytes.specs.Segments.{segment_of, segment_text, sheet_spelled}
use Rattle.index_tree.specs.IndexText.{index_of}
use Rattle.index_tree.specs.PageText.{object_of}
use Rattle.key_kind.specs.declared.key.Holder.{Holder}
use Rattle.key_kind.specs.declared.key.KeyKind.TheVariants as kinds
use Rattle.key_kind.specs.KeyText.{key_at, key_text}
use Rattle.bucket_core.specs.declared.event.Change.{Change}
use Rattle.bucket_core.specs.declared.event.Change.TheVariants as changes
use Rattle.bucket_core.specs.declared.event.Event.{Event}
use Rattle.bucket_core.specs.declared.event.Event.TheVariants as events
use Rattle.bucket_core.specs.History.{History}
use Rattle.store_model.specs.declared.chain.ChainMark.{ChainMark}
use Rattle.store_model.specs.declared.chain.ChainMark.TheVariants as marks
use Rattle.store_model.specs.declared.chain.Entry.{Entry}
use Rattle.store_model.specs.declared.snapshot.SnapBody.{SnapBody}
use Rattle.store_model.specs.ChainText.{entry_text, entry_of, snap_text, snap_of}
use Rattle.store_model.specs.Links.{IsUnneeded}
use Rattle.store_model.specs.Commits.{MayRefer, marking}
use Rattle.store_model.specs.Law.{IsLawful, MayPut, MayName}
use Rattle.model_examples.proofs.SmallFrames.{S, k}
use Rattle.model_examples.proofs.Witness as w

-- ---- the bodies and the events

abbrev pub holder : Holder
holder = record { client = 1; serial = 3 }

-- an element of one mark on the element of this serial
abbrev pub entry : ℕ → ChainMark → Entry
entry serial mark = record { prev = Some (w.key kinds.Version serial); changes = mark ∷ [] }

abbrev pub snapshot : SnapBody
snapshot = record { holder = holder; rows = record { symbol = S; version = 0; index = w.table_key kinds.TableIndex 1 } ∷ [] }

-- the Put of an element on the one before it, and its Refer
abbrev pub put_mark : ℕ → ℕ → ChainMark → Event
put_mark serial before mark = events.Put 1 (w.key kinds.Version serial) (entry_text (entry before mark))

abbrev pub refer : ℕ → ℕ → Change → Event
refer serial before change = events.Refer 1 S (Some (w.key kinds.Version before)) (w.key kinds.Version serial) (change ∷ [])

abbrev pub held : History
held = refer 3 2 (changes.Held holder 0) ∷ put_mark 3 2 (marks.Hold holder 0) ∷ w.written

abbrev pub kept : History
kept = events.Name 1 k (snap_text snapshot) ∷ held

abbrev pub deleted : History
deleted = refer 4 3 (changes.Removed (0 ∷ [])) ∷ put_mark 4 3 (marks.Tomb 0) ∷ kept

abbrev pub unnamed : History
unnamed = events.Unname 1 k ∷ deleted

abbrev pub released : History
released = refer 5 4 (changes.Released holder) ∷ put_mark 5 4 (marks.Release holder) ∷ unnamed

abbrev pub freed : History
freed = events.Drop 1 (w.table_key kinds.TableIndex 1) ∷ events.Drop 1 (w.table_key kinds.TableData 0) ∷ released

-- ---- the claims

put_hold_claim : MayPut w.written 1 (w.key kinds.Version 3) (entry_text (entry 2 (marks.Hold holder 0)))
unfolding entry_of key_at key_text signed_text
put_hold_claim = record { key_is = w.version_key_rules 3; fits = w.version_fits 3 (lit< tt); own = refl; next = refl; spelled = refl }

hold_claim : MayRefer (put_mark 3 2 (marks.Hold holder 0) ∷ w.written) 1 S (Some (w.key kinds.Version 2)) (w.key kinds.Version 3) (changes.Held holder 0 ∷ [])
unfolding entry_of key_at key_text signed_text
hold_claim = record {
  kind = refl;
  name = refl;
  own = refl;
  stands = refl;
  fresh = refl;
  how = inl (record { form = marking (changes.Held holder 0) refl; row = w.row; spelled = refl; fits = ((tt, record { live = refl; own = refl; begun = lit< tt; unused = refl; unnamed = refl }), tt); prunes = tt });
}

name_claim : MayName held 1 (snap_text snapshot)
unfolding snap_of object_of index_of entry_of segment_text sheet_text cells_text segment_of sheet_spelled sheet_at rows_at count_at stamps_at stamp_at columns_at series_at head_at type_at length_at name_at text_at cells_at is_utf8 chars encode signed_text key_at key_text
name_claim = record { snapshot = snapshot; spelled = refl; own = refl; unnamed = refl; rows = ((refl, refl), tt) }

put_tomb_claim : MayPut kept 1 (w.key kinds.Version 4) (entry_text (entry 3 (marks.Tomb 0)))
unfolding entry_of key_at key_text signed_text
put_tomb_claim = record { key_is = w.version_key_rules 4; fits = w.version_fits 4 (lit< tt); own = refl; next = refl; spelled = refl }

tomb_claim : MayRefer (put_mark 4 3 (marks.Tomb 0) ∷ kept) 1 S (Some (w.key kinds.Version 3)) (w.key kinds.Version 4) (changes.Removed (0 ∷ []) ∷ [])
unfolding entry_of key_at key_text signed_text
tomb_claim = record {
  kind = refl;
  name = refl;
  own = refl;
  stands = refl;
  fresh = refl;
  how = inl (record { form = marking (changes.Removed (0 ∷ [])) refl; row = w.row; spelled = refl; fits = ((tt, record { some = tt; rising = tt; live = (refl, tt) }), tt); prunes = tt });
}

put_release_claim : MayPut unnamed 1 (w.key kinds.Version 5) (entry_text (entry 4 (marks.Release holder)))
unfolding entry_of key_at key_text signed_text
put_release_claim = record { key_is = w.version_key_rules 5; fits = w.version_fits 5 (lit< tt); own = refl; next = refl; spelled = refl }

release_claim : MayRefer (put_mark 5 4 (marks.Release holder) ∷ unnamed) 1 S (Some (w.key kinds.Version 4)) (w.key kinds.Version 5) (changes.Released holder ∷ [])
unfolding entry_of snap_of key_at key_text signed_text
release_claim = record {
  kind = refl;
  name = refl;
  own = refl;
  stands = refl;
  fresh = refl;
  how = inl (record { form = marking (changes.Released holder) refl; row = w.row; spelled = refl; fits = ((tt, record { held = refl; allowed = inr refl }), tt); prunes = tt });
}

tile_dead : IsUnneeded released (w.table_key kinds.TableData 0)
unfolding object_of index_of entry_of segment_text sheet_text cells_text segment_of sheet_spelled sheet_at rows_at count_at stamps_at stamp_at columns_at series_at head_at type_at length_at name_at text_at cells_at is_utf8 chars encode signed_text key_at key_text
tile_dead = record { once = refl; no_more = refl }

index_dead : IsUnneeded (events.Drop 1 (w.table_key kinds.TableData 0) ∷ released) (w.table_key kinds.TableIndex 1)
unfolding object_of index_of entry_of segment_text sheet_text cells_text segment_of sheet_spelled sheet_at rows_at count_at stamps_at stamp_at columns_at series_at head_at type_at length_at name_at text_at cells_at is_utf8 chars encode signed_text key_at key_text
index_dead = record { once = refl; no_more = refl }

-- the whole history: fourteen events
pub kept_lawful : IsLawful kept
kept_lawful = ((refl, name_claim), ((refl, hold_claim), ((tt, put_hold_claim), w.written_lawful)))

pub freed_lawful : IsLawful freed
freed_lawful = ((refl, inl index_dead), ((refl, inl tile_dead), ((refl, release_claim), ((tt, put_release_claim), ((refl, tt), ((refl, tomb_claim), ((tt, put_tomb_claim), kept_lawful)))))))
