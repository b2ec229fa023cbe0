-- A lawful history with real bodies: a write, a delete, and the drops of what is not needed any more. So the law can be met.
use Rattle.segment_bytes.specs.Heads.{head_at, length_at, name_at, text_at, type_at}
use Rattle.segment_bytes.specs.Sheets.{columns_at, count_at, rows_at, series_at, sheet_at, sheet_text, stamp_at, stamps_at}
use Rattle.segment_bytes.specs.CellTexts.{cells_at, cells_text}
use Rattle.byte_fields.specs.Reading.{signed_text}
use Rattle.std.proofs.Common.{◌≡◌, ℕ, zero, suc, ◌<◌, ◌≤◌, pos, [], ◌∷◌, refl, inl, Some, None, arith, lit≤}
use Rattle.std.specs.Prelude.{count_by, All}
use Rattle.std.specs.Str.{is_utf8, chars}
use lib.Utf8.{encode}
use Rattle.frame_core.specs.declared.part.Part.{Part}
use Rattle.frame_core.specs.Frames.{Frame}
use Rattle.frame_core.specs.Limits.{IsStorable}
use Rattle.segment_bytes.specs.Segments.{segment_text, segment_of, sheet_spelled}
use Rattle.index_tree.specs.declared.index.Slot.{Slot}
use Rattle.index_tree.specs.declared.index.Index.{Index}
use Rattle.index_tree.specs.IndexText.{index_text, index_of}
use Rattle.index_tree.specs.PageText.{object_of}
use Rattle.segment_cut.specs.Tiles.{Tile, Tiled, has_cell, has_row}
use Rattle.key_kind.specs.declared.key.KeyKind.{KeyKind}
use Rattle.key_kind.specs.declared.key.KeyKind.TheVariants as kinds
use Rattle.key_kind.specs.declared.key.Key.{Key}
use Rattle.key_kind.specs.Names.{IsName}
use Rattle.key_kind.specs.Keys.{IsKey, FitsFields}
use Rattle.std.specs.Prelude.{◌^◌}
use Rattle.std.specs.Int.{w64}
use Rattle.std.proofs.lemmas.Int.{fits_signed_from_abs}
use Rattle.std.proofs.Common.{lit<}
use Rattle.key_kind.specs.KeyText.{key_at, key_text}
use Rattle.bucket_core.specs.declared.event.Change.TheVariants as changes
use Rattle.bucket_core.specs.declared.event.Event.{Event}
use Rattle.bucket_core.specs.declared.event.Event.TheVariants as events
use Rattle.bucket_core.specs.History.{History}
use Rattle.store_model.specs.declared.chain.LinkRow.{LinkRow}
use Rattle.store_model.specs.declared.chain.ChainMark.TheVariants as marks
use Rattle.store_model.specs.declared.chain.Entry.{Entry}
use Rattle.store_model.specs.ChainText.{entry_text, entry_of}
use Rattle.store_model.specs.Links.{IsUnneeded}
use Rattle.store_model.specs.Commits.{MayRefer, FitsLink, making, marking, no_tombs, no_pieces}
use Rattle.store_model.specs.Law.{IsLawful, MayPut}
use Rattle.model_examples.proofs.SmallFrames.{S, frame, column_rules, line_fits}

abbrev pub key : KeyKind → ℕ → Key
key kind serial = record { kind = kind; name = S; client = 1; serial = serial; version = 0; first = pos 0; last = pos 0 }

abbrev pub table_key : KeyKind → ℕ → Key
table_key kind serial = record { kind = kind; name = S; client = 1; serial = serial; version = 0; first = pos 1; last = pos 1 }

abbrev pub table : Frame
table = frame ((1, 5) ∷ [])

abbrev pub part : Part
part = record { first_row = 0; rows = 1; first_col = 0; cols = 1 }

abbrev pub slot : Slot
slot = record { key = table_key kinds.TableData 0; part = part; first = pos 1; last = pos 1 }

abbrev pub index : Index
index = record { schema = table.schema; rows = 1; slots = slot ∷ [] }

abbrev pub row : LinkRow
row = record { version = 0; stamp = pos 50; rows = 1; index = table_key kinds.TableIndex 1 }

abbrev pub first_entry : Entry
first_entry = record { prev = None; changes = marks.Link row ∷ [] }

abbrev pub second_entry : Entry
second_entry = record { prev = Some (key kinds.Version 2); changes = marks.Tomb 0 ∷ [] }

abbrev pub put_tile : Event
put_tile = events.Put 1 (table_key kinds.TableData 0) (segment_text table)

abbrev pub put_index : Event
put_index = events.Put 1 (table_key kinds.TableIndex 1) (index_text index)

abbrev pub put_first : Event
put_first = events.Put 1 (key kinds.Version 2) (entry_text first_entry)

abbrev pub write : Event
write = events.Refer 1 S None (key kinds.Version 2) (changes.Wrote table (pos 50) ∷ [])

abbrev pub put_second : Event
put_second = events.Put 1 (key kinds.Version 3) (entry_text second_entry)

abbrev pub delete : Event
delete = events.Refer 1 S (Some (key kinds.Version 2)) (key kinds.Version 3) (changes.Removed (0 ∷ []) ∷ [])

abbrev pub written : History
written = write ∷ put_first ∷ put_index ∷ put_tile ∷ []

abbrev pub deleted : History
deleted = delete ∷ put_second ∷ written

pub name_S : IsName S
name_S = record { some = lit≤ tt; most = lit≤ tt; graphic = graphic }
  where
    graphic : All (λ c. (0x21 ≤ c) × (c ≤ 0x7E)) S
    graphic zero d h = (lit≤ tt, lit≤ tt)
    graphic (suc n) d h = absurd (omega (arith, h))

pub table_key_rules : (kind : KeyKind) (serial : ℕ) → IsKey (table_key kinds.TableData serial) × IsKey (table_key kinds.TableIndex serial)
table_key_rules kind serial = (
  record { name = name_S; made = λ e. absurd cc; version = λ e. refl; stamps = λ e. absurd cc },
  record { name = name_S; made = λ e. absurd cc; version = λ e. refl; stamps = λ e. absurd cc },
)

pub version_key_rules : (serial : ℕ) → IsKey (key kinds.Version serial)
version_key_rules serial = record { name = name_S; made = λ e. absurd cc; version = λ e. refl; stamps = λ e. (refl, refl) }

pub table_fits : (kind : KeyKind) (serial : ℕ) → serial < 2 ^ 64 → FitsFields (table_key kind serial)
table_fits kind serial below = record { client = lit< tt; serial = below; version = lit< tt; first = fits_signed_from_abs w64 (pos 1) (lit< tt); last = fits_signed_from_abs w64 (pos 1) (lit< tt) }

pub version_fits : (serial : ℕ) → serial < 2 ^ 64 → FitsFields (key kinds.Version serial)
version_fits serial below = record { client = lit< tt; serial = below; version = lit< tt; first = fits_signed_from_abs w64 (pos 0) (lit< tt); last = fits_signed_from_abs w64 (pos 0) (lit< tt) }

pub tile_claim : MayPut [] 1 (table_key kinds.TableData 0) (segment_text table)
unfolding segment_text sheet_text cells_text segment_of sheet_spelled sheet_at rows_at count_at stamps_at stamp_at columns_at series_at head_at type_at length_at name_at text_at cells_at is_utf8 chars encode signed_text
tile_claim = record { key_is = (table_key_rules kinds.TableData 0).0; fits = table_fits kinds.TableData 0 (lit< tt); own = refl; next = refl; spelled = refl }

pub index_claim : MayPut (put_tile ∷ []) 1 (table_key kinds.TableIndex 1) (index_text index)
unfolding object_of index_of head_at type_at length_at name_at text_at is_utf8 chars encode key_at key_text signed_text
index_claim = record { key_is = (table_key_rules kinds.TableIndex 1).1; fits = table_fits kinds.TableIndex 1 (lit< tt); own = refl; next = refl; spelled = refl }

pub first_claim : MayPut (put_index ∷ put_tile ∷ []) 1 (key kinds.Version 2) (entry_text first_entry)
unfolding entry_of key_at key_text signed_text
first_claim = record { key_is = version_key_rules 2; fits = version_fits 2 (lit< tt); own = refl; next = refl; spelled = refl }

pub table_storable : IsStorable table
table_storable = record {
  is_frame = record { columns = column_rules; ascending = tt; fitting = (line_fits (1, 5) (lit< tt) (lit< tt), tt); untimed = λ e. absurd cc };
  timed = refl;
  within = refl;
}

pub tiled : Tiled table ((part, table) ∷ [])
tiled = record { inside = ((lit≤ tt, lit≤ tt), tt); parts = (refl, tt); cells = one_cell; rows = one_row }
  where
    one_cell : (r c : ℕ) → r < 1 → c < 1 → count_by (λ (t : Tile). has_cell t.0 r c) ((part, table) ∷ []) ≡ 1
    one_cell zero zero h k = refl
    one_cell zero (suc c) h k = absurd (omega (arith, k))
    one_cell (suc r) c h k = absurd (omega (arith, h))

    one_row : (r : ℕ) → r < 1 → 1 ≤ count_by (λ (t : Tile). has_row t.0 r) ((part, table) ∷ [])
    one_row zero h = lit≤ tt
    one_row (suc r) h = absurd (omega (arith, h))

link_fits : FitsLink (put_first ∷ put_index ∷ put_tile ∷ []) 1 S row (record { number = 0; stamp = pos 50; frame = table })
unfolding object_of index_of segment_text sheet_text cells_text segment_of sheet_spelled sheet_at rows_at count_at stamps_at stamp_at columns_at series_at head_at type_at length_at name_at text_at cells_at is_utf8 chars encode signed_text key_at key_text
link_fits = record {
  number = refl;
  stamp = refl;
  rows = refl;
  storable = table_storable;
  new_index = record { kind = refl; name = refl; stands = refl; fresh = record { own = refl; made_for = refl; unreached = refl } };
  index_stamps = (refl, refl);
  link = record { row = row; pages = []; index = index; tiles = (part, table) ∷ [] };
  link_is = refl;
  new_pages = tt;
  pages_before = tt;
  pages_fit = tt;
  schema = refl;
  index_rows = refl;
  keys = (record { kind = refl; name = refl; stands = refl; fresh_or_shared = inl (record { own = refl; made_for = refl; unreached = refl }) }, tt);
  tiled = tiled;
  stamps = (record { first = refl; last = refl }, tt);
}

pub write_claim : MayRefer (put_first ∷ put_index ∷ put_tile ∷ []) 1 S None (key kinds.Version 2) (changes.Wrote table (pos 50) ∷ [])
unfolding entry_of key_at key_text signed_text
write_claim = record {
  kind = refl;
  name = refl;
  own = refl;
  stands = refl;
  fresh = refl;
  how = inl (record { form = making (changes.Wrote table (pos 50)) refl (no_tombs no_pieces); row = row; spelled = refl; fits = ((link_fits, tt), tt); prunes = tt });
}

second_claim : MayPut written 1 (key kinds.Version 3) (entry_text second_entry)
unfolding entry_of key_at key_text signed_text
second_claim = record { key_is = version_key_rules 3; fits = version_fits 3 (lit< tt); own = refl; next = refl; spelled = refl }

delete_claim : MayRefer (put_second ∷ written) 1 S (Some (key kinds.Version 2)) (key kinds.Version 3) (changes.Removed (0 ∷ []) ∷ [])
unfolding entry_of key_at key_text signed_text
delete_claim = record {
  kind = refl;
  name = refl;
  own = refl;
  stands = refl;
  fresh = refl;
  how = inl (record { form = marking (changes.Removed (0 ∷ [])) refl; row = row; spelled = refl; fits = ((tt, record { some = tt; rising = tt; live = (refl, tt) }), tt); prunes = tt });
}

tile_dead : IsUnneeded deleted (table_key kinds.TableData 0)
unfolding object_of index_of entry_of segment_text sheet_text cells_text segment_of sheet_spelled sheet_at rows_at count_at stamps_at stamp_at columns_at series_at head_at type_at length_at name_at text_at cells_at is_utf8 chars encode signed_text key_at key_text
tile_dead = record { once = refl; no_more = refl }

index_dead : IsUnneeded (events.Drop 1 (table_key kinds.TableData 0) ∷ deleted) (table_key kinds.TableIndex 1)
unfolding object_of index_of entry_of segment_text sheet_text cells_text segment_of sheet_spelled sheet_at rows_at count_at stamps_at stamp_at columns_at series_at head_at type_at length_at name_at text_at cells_at is_utf8 chars encode signed_text key_at key_text
index_dead = record { once = refl; no_more = refl }

-- the whole history: eight events
pub witness : IsLawful (events.Drop 1 (table_key kinds.TableIndex 1) ∷ events.Drop 1 (table_key kinds.TableData 0) ∷ deleted)
witness = ((refl, inl index_dead), ((refl, inl tile_dead), ((refl, delete_claim), ((tt, second_claim), ((refl, write_claim), ((tt, first_claim), ((tt, index_claim), ((tt, tile_claim), tt))))))))

-- the write alone
pub written_lawful : IsLawful written
written_lawful = ((refl, write_claim), ((tt, first_claim), ((tt, index_claim), ((tt, tile_claim), tt))))
