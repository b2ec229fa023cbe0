-- A lawful history with real bodies: a write, a second client's write that buries it, and the drops of the first write's keys.
use Rattle.segment_bytes.specs.Heads.{head_at, length_at, name_at, text_at, type_at}
use Rattle.segment_bytes.specs.Sheets.{columns_at, count_at, rows_at, series_at, sheet_at, sheet_text, stamp_at, stamps_at}
use Rattle.segment_bytes.specs.CellTexts.{cells_at, cells_text}
use Rattle.byte_fields.specs.Reading.{signed_text}
use Rattle.std.proofs.Common.{ℕ, ◌<◌, pos, [], ◌∷◌, refl, inl, Some, lit<}
use Rattle.std.specs.Int.{w64}
use Rattle.std.proofs.lemmas.Int.{fits_signed_from_abs}
use Rattle.std.specs.Str.{is_utf8, chars}
use lib.Utf8.{encode}
use Rattle.segment_bytes.specs.Segments.{segment_text, segment_of, sheet_spelled}
use Rattle.index_tree.specs.declared.index.Index.{Index}
use Rattle.index_tree.specs.IndexText.{index_text, index_of}
use Rattle.index_tree.specs.PageText.{object_of}
use Rattle.key_kind.specs.declared.key.Key.{Key}
use Rattle.key_kind.specs.declared.key.KeyKind.{KeyKind}
use Rattle.key_kind.specs.declared.key.KeyKind.TheVariants as kinds
use Rattle.key_kind.specs.Keys.{FitsFields}
use Rattle.key_kind.specs.KeyText.{key_at, key_text}
use Rattle.bucket_core.specs.declared.event.Change.TheVariants as changes
use Rattle.bucket_core.specs.declared.event.Event.{Event}
use Rattle.bucket_core.specs.declared.event.Event.TheVariants as events
use Rattle.bucket_core.specs.History.{History}
use Rattle.store_model.specs.declared.chain.LinkRow.{LinkRow}
use Rattle.store_model.specs.declared.chain.ChainMark.TheVariants as marks
use Rattle.store_model.specs.declared.chain.Entry.{Entry}
use Rattle.store_model.specs.ChainText.{entry_text, entry_of}
use Rattle.store_model.specs.Links.{IsUnneeded}
use Rattle.store_model.specs.Commits.{MayRefer, FitsLink, making, some_tombs, no_pieces}
use Rattle.store_model.specs.Law.{IsLawful, MayPut}
use Rattle.model_examples.proofs.SmallFrames.{S}
use Rattle.model_examples.proofs.Witness as w

abbrev pub key : KeyKind → ℕ → Key
key kind serial = record { kind = kind; name = S; client = 3; serial = serial; version = 1; first = pos 1; last = pos 1 }

abbrev pub element_key : Key
element_key = record { kind = kinds.Version; name = S; client = 3; serial = 2; version = 0; first = pos 0; last = pos 0 }

abbrev pub index : Index
index = record { schema = w.table.schema; rows = 1; slots = record { key = key kinds.TableData 0; part = w.part; first = pos 1; last = pos 1 } ∷ [] }

abbrev pub row : LinkRow
row = record { version = 1; stamp = pos 60; rows = 1; index = key kinds.TableIndex 1 }

abbrev pub entry : Entry
entry = record { prev = Some (w.key kinds.Version 2); changes = marks.Link row ∷ marks.Tomb 0 ∷ [] }

abbrev pub put_tile : Event
put_tile = events.Put 3 (key kinds.TableData 0) (segment_text w.table)

abbrev pub put_index : Event
put_index = events.Put 3 (key kinds.TableIndex 1) (index_text index)

abbrev pub put_element : Event
put_element = events.Put 3 element_key (entry_text entry)

abbrev pub prepared : History
prepared = put_element ∷ put_index ∷ put_tile ∷ w.written

abbrev pub pruned : History
pruned = events.Refer 3 S (Some (w.key kinds.Version 2)) element_key (changes.Wrote w.table (pos 60) ∷ changes.Removed (0 ∷ []) ∷ []) ∷ prepared

abbrev pub dropped : History
dropped = events.Drop 3 (w.table_key kinds.TableIndex 1) ∷ events.Drop 3 (w.table_key kinds.TableData 0) ∷ pruned

key_fits : (kind : KeyKind) (serial : ℕ) → serial < 18446744073709551616 → FitsFields (key kind serial)
key_fits kind serial below = record { client = lit< tt; serial = below; version = lit< tt; first = fits_signed_from_abs w64 (pos 1) (lit< tt); last = fits_signed_from_abs w64 (pos 1) (lit< tt) }

tile_claim : MayPut w.written 3 (key kinds.TableData 0) (segment_text w.table)
unfolding segment_text sheet_text cells_text segment_of sheet_spelled sheet_at rows_at count_at stamps_at stamp_at columns_at series_at head_at type_at length_at name_at text_at cells_at is_utf8 chars encode signed_text
tile_claim = record { key_is = record { name = w.name_S; made = λ e. absurd cc; version = λ e. absurd cc; stamps = λ e. absurd cc }; fits = key_fits kinds.TableData 0 (lit< tt); own = refl; next = refl; spelled = refl }

index_claim : MayPut (put_tile ∷ w.written) 3 (key kinds.TableIndex 1) (index_text index)
unfolding object_of index_of head_at type_at length_at name_at text_at is_utf8 chars encode key_at key_text signed_text
index_claim = record { key_is = record { name = w.name_S; made = λ e. absurd cc; version = λ e. absurd cc; stamps = λ e. absurd cc }; fits = key_fits kinds.TableIndex 1 (lit< tt); own = refl; next = refl; spelled = refl }

element_claim : MayPut (put_index ∷ put_tile ∷ w.written) 3 element_key (entry_text entry)
unfolding entry_of key_at key_text signed_text
element_claim = record {
  key_is = record { name = w.name_S; made = λ e. absurd cc; version = λ e. refl; stamps = λ e. (refl, refl) };
  fits = record { client = lit< tt; serial = lit< tt; version = lit< tt; first = fits_signed_from_abs w64 (pos 0) (lit< tt); last = fits_signed_from_abs w64 (pos 0) (lit< tt) };
  own = refl;
  next = refl;
  spelled = refl;
}

link_fits : FitsLink prepared 3 S row (record { number = 1; stamp = pos 60; frame = w.table })
unfolding object_of index_of entry_of segment_text sheet_text cells_text segment_of sheet_spelled sheet_at rows_at count_at stamps_at stamp_at columns_at series_at head_at type_at length_at name_at text_at cells_at is_utf8 chars encode signed_text key_at key_text
link_fits = record {
  number = refl;
  stamp = refl;
  rows = refl;
  storable = w.table_storable;
  new_index = record { kind = refl; name = refl; stands = refl; fresh = record { own = refl; made_for = refl; unreached = refl } };
  index_stamps = (refl, refl);
  link = record { row = row; pages = []; index = index; tiles = (w.part, w.table) ∷ [] };
  link_is = refl;
  new_pages = tt;
  pages_before = tt;
  pages_fit = tt;
  schema = refl;
  index_rows = refl;
  keys = (record { kind = refl; name = refl; stands = refl; fresh_or_shared = inl (record { own = refl; made_for = refl; unreached = refl }) }, tt);
  tiled = w.tiled;
  stamps = (record { first = refl; last = refl }, tt);
}

prune_claim : MayRefer prepared 3 S (Some (w.key kinds.Version 2)) element_key (changes.Wrote w.table (pos 60) ∷ changes.Removed (0 ∷ []) ∷ [])
unfolding entry_of key_at key_text signed_text
prune_claim = record {
  kind = refl;
  name = refl;
  own = refl;
  stands = refl;
  fresh = refl;
  how = inl (record { form = making (changes.Wrote w.table (pos 60)) refl (some_tombs (0 ∷ []) no_pieces); row = row; spelled = refl; fits = ((link_fits, tt), ((tt, record { some = tt; rising = tt; live = (refl, tt) }), tt)); prunes = refl });
}

tile_dead : IsUnneeded pruned (w.table_key kinds.TableData 0)
unfolding object_of index_of entry_of segment_text sheet_text cells_text segment_of sheet_spelled sheet_at rows_at count_at stamps_at stamp_at columns_at series_at head_at type_at length_at name_at text_at cells_at is_utf8 chars encode signed_text key_at key_text
tile_dead = record { once = refl; no_more = refl }

index_dead : IsUnneeded (events.Drop 3 (w.table_key kinds.TableData 0) ∷ pruned) (w.table_key kinds.TableIndex 1)
unfolding object_of index_of entry_of segment_text sheet_text cells_text segment_of sheet_spelled sheet_at rows_at count_at stamps_at stamp_at columns_at series_at head_at type_at length_at name_at text_at cells_at is_utf8 chars encode signed_text key_at key_text
index_dead = record { once = refl; no_more = refl }

-- ten events of two clients
pub dropped_lawful : IsLawful dropped
dropped_lawful = ((refl, inl index_dead), ((refl, inl tile_dead), ((refl, prune_claim), ((tt, element_claim), ((tt, index_claim), ((tt, tile_claim), w.written_lawful))))))
