-- Lawful histories with real bodies: an update that clears a range, and a finalize of a staged piece.
use Rattle.segment_bytes.specs.Heads.{head_at, length_at, name_at, text_at, type_at}
use Rattle.segment_bytes.specs.Sheets.{columns_at, count_at, rows_at, series_at, sheet_at, sheet_text, stamp_at, stamps_at}
use Rattle.segment_bytes.specs.CellTexts.{cells_at, cells_text}
use Rattle.byte_fields.specs.Reading.{signed_text}
use Rattle.std.proofs.Common.{pos, [], ◌∷◌, refl, inl, Some, lit<}
use Rattle.std.specs.Int.{w64}
use Rattle.std.proofs.lemmas.Int.{fits_signed_from_abs}
use Rattle.std.specs.Str.{is_utf8, chars}
use lib.Utf8.{encode}
use Rattle.segment_bytes.specs.Segments.{segment_text, segment_of, sheet_spelled}
use Rattle.index_tree.specs.declared.index.Index.{Index}
use Rattle.index_tree.specs.IndexText.{index_text, index_of}
use Rattle.index_tree.specs.PageText.{object_of}
use Rattle.key_kind.specs.declared.key.Key.{Key}
use Rattle.key_kind.specs.declared.key.KeyKind.TheVariants as kinds
use Rattle.key_kind.specs.KeyText.{key_at, key_text}
use Rattle.bucket_core.specs.declared.event.Change.TheVariants as changes
use Rattle.bucket_core.specs.declared.event.Event.{Event}
use Rattle.bucket_core.specs.declared.event.Event.TheVariants as events
use Rattle.bucket_core.specs.History.{History}
use Rattle.store_model.specs.declared.chain.LinkRow.{LinkRow}
use Rattle.store_model.specs.declared.chain.ChainMark.TheVariants as marks
use Rattle.store_model.specs.declared.chain.Entry.{Entry}
use Rattle.store_model.specs.ChainText.{entry_text, entry_of}
use Rattle.store_model.specs.Commits.{MayRefer, FitsLink, making, no_pieces}
use Rattle.store_model.specs.Law.{IsLawful, MayPut}
use Rattle.model_examples.proofs.SmallFrames.{column_rules, S}
use Rattle.model_examples.proofs.Witness as w
use Rattle.std.specs.Prelude.{◌≤ℤ◌}
use Rattle.std.proofs.Common.{None, arith}
use Rattle.frame_core.specs.Ranges.{Range}
use Rattle.frame_core.specs.Frames.{Frame}
use Rattle.frame_core.specs.Limits.{IsStorable}
use Rattle.segment_cut.specs.Tiles.{Tiled}
use Rattle.bucket_core.specs.declared.event.PieceName.{PieceName}
use Rattle.store_model.specs.Commits.{no_tombs, some_pieces}
use Rattle.model_examples.proofs.SmallFrames.{column_rules, frame}

-- ---- a range is cleared

abbrev pub index_key : Key
index_key = record { kind = kinds.TableIndex; name = S; client = 1; serial = 3; version = 1; first = pos 0; last = pos 0 }

abbrev pub nothing : Frame
nothing = frame []

abbrev pub range : Range
range = record { from = Some (pos 1); to = Some (pos 1) }

abbrev pub empty_index : Index
empty_index = record { schema = nothing.schema; rows = 0; slots = [] }

abbrev pub empty_row : LinkRow
empty_row = record { version = 1; stamp = pos 60; rows = 0; index = index_key }

abbrev pub clear_entry : Entry
clear_entry = record { prev = Some (w.key kinds.Version 2); changes = marks.Link empty_row ∷ [] }

abbrev pub put_empty : Event
put_empty = events.Put 1 index_key (index_text empty_index)

abbrev pub put_clear : Event
put_clear = events.Put 1 (w.key kinds.Version 4) (entry_text clear_entry)

abbrev pub cleared : History
cleared = events.Refer 1 S (Some (w.key kinds.Version 2)) (w.key kinds.Version 4) (changes.Updated nothing range (pos 60) ∷ []) ∷ put_clear ∷ put_empty ∷ w.written

empty_claim : MayPut w.written 1 index_key (index_text empty_index)
unfolding object_of index_of head_at type_at length_at name_at text_at is_utf8 chars encode key_at key_text signed_text
empty_claim = record {
  key_is = record { name = w.name_S; made = λ e. absurd cc; version = λ e. absurd cc; stamps = λ e. absurd cc };
  fits = record { client = lit< tt; serial = lit< tt; version = lit< tt; first = fits_signed_from_abs w64 (pos 0) (lit< tt); last = fits_signed_from_abs w64 (pos 0) (lit< tt) };
  own = refl;
  next = refl;
  spelled = refl;
}

clear_put_claim : MayPut (put_empty ∷ w.written) 1 (w.key kinds.Version 4) (entry_text clear_entry)
unfolding entry_of key_at key_text signed_text
clear_put_claim = record { key_is = w.version_key_rules 4; fits = w.version_fits 4 (lit< tt); own = refl; next = refl; spelled = refl }

nothing_storable : IsStorable nothing
nothing_storable = record { is_frame = record { columns = column_rules; ascending = tt; fitting = tt; untimed = λ e. absurd cc }; timed = refl; within = refl }

nothing_tiled : Tiled nothing []
nothing_tiled = record { inside = tt; parts = tt; cells = λ r c below k. absurd (omega (arith, below)); rows = λ r below. absurd (omega (arith, below)) }

clear_fits : FitsLink (put_clear ∷ put_empty ∷ w.written) 1 S empty_row (record { number = 1; stamp = pos 60; frame = nothing })
unfolding object_of index_of entry_of segment_text sheet_text cells_text segment_of sheet_spelled sheet_at rows_at count_at stamps_at stamp_at columns_at series_at head_at type_at length_at name_at text_at cells_at is_utf8 chars encode signed_text key_at key_text
clear_fits = record {
  number = refl;
  stamp = refl;
  rows = refl;
  storable = nothing_storable;
  new_index = record { kind = refl; name = refl; stands = refl; fresh = record { own = refl; made_for = refl; unreached = refl } };
  index_stamps = (refl, refl);
  link = record { row = empty_row; pages = []; index = empty_index; tiles = [] };
  link_is = refl;
  new_pages = tt;
  pages_before = tt;
  pages_fit = tt;
  schema = refl;
  index_rows = refl;
  keys = tt;
  tiled = nothing_tiled;
  stamps = tt;
}

in_order : pos 1 ≤ℤ pos 1
in_order = omega arith

clear_claim : MayRefer (put_clear ∷ put_empty ∷ w.written) 1 S (Some (w.key kinds.Version 2)) (w.key kinds.Version 4) (changes.Updated nothing range (pos 60) ∷ [])
unfolding entry_of key_at key_text signed_text
clear_claim = record {
  kind = refl;
  name = refl;
  own = refl;
  stands = refl;
  fresh = refl;
  how = inl (record { form = making (changes.Updated nothing range (pos 60)) refl (no_tombs no_pieces); row = empty_row; spelled = refl; fits = ((clear_fits, in_order), tt); prunes = tt });
}

-- seven events
pub cleared_lawful : IsLawful cleared
cleared_lawful = ((refl, clear_claim), ((tt, clear_put_claim), ((tt, empty_claim), w.written_lawful)))

-- ---- a piece is finalized

abbrev pub piece_key : Key
piece_key = record { kind = kinds.Staged; name = S; client = 1; serial = 0; version = 0; first = pos 1; last = pos 1 }

abbrev pub piece : PieceName
piece = record { client = 1; serial = 0 }

abbrev pub final_index : Index
final_index = record { schema = w.table.schema; rows = 1; slots = record { key = w.table_key kinds.TableData 1; part = w.part; first = pos 1; last = pos 1 } ∷ [] }

abbrev pub final_row : LinkRow
final_row = record { version = 0; stamp = pos 60; rows = 1; index = w.table_key kinds.TableIndex 2 }

abbrev pub final_entry : Entry
final_entry = record { prev = None; changes = marks.Link final_row ∷ marks.Discard (piece ∷ []) ∷ [] }

abbrev pub put_piece : Event
put_piece = events.Put 1 piece_key (segment_text w.table)

abbrev pub put_tile : Event
put_tile = events.Put 1 (w.table_key kinds.TableData 1) (segment_text w.table)

abbrev pub put_index : Event
put_index = events.Put 1 (w.table_key kinds.TableIndex 2) (index_text final_index)

abbrev pub put_final : Event
put_final = events.Put 1 (w.key kinds.Version 3) (entry_text final_entry)

abbrev pub prepared : History
prepared = put_final ∷ put_index ∷ put_tile ∷ put_piece ∷ []

abbrev pub finalized : History
finalized = events.Refer 1 S None (w.key kinds.Version 3) (changes.Wrote w.table (pos 60) ∷ changes.Discarded (piece ∷ []) ∷ []) ∷ prepared

piece_claim : MayPut [] 1 piece_key (segment_text w.table)
unfolding segment_text sheet_text cells_text segment_of sheet_spelled sheet_at rows_at count_at stamps_at stamp_at columns_at series_at head_at type_at length_at name_at text_at cells_at is_utf8 chars encode signed_text
piece_claim = record {
  key_is = record { name = w.name_S; made = λ e. absurd cc; version = λ e. refl; stamps = λ e. absurd cc };
  fits = record { client = lit< tt; serial = lit< tt; version = lit< tt; first = fits_signed_from_abs w64 (pos 1) (lit< tt); last = fits_signed_from_abs w64 (pos 1) (lit< tt) };
  own = refl;
  next = refl;
  spelled = (refl, refl);
}

tile_claim : MayPut (put_piece ∷ []) 1 (w.table_key kinds.TableData 1) (segment_text w.table)
unfolding segment_text sheet_text cells_text segment_of sheet_spelled sheet_at rows_at count_at stamps_at stamp_at columns_at series_at head_at type_at length_at name_at text_at cells_at is_utf8 chars encode signed_text
tile_claim = record { key_is = (w.table_key_rules kinds.TableData 1).0; fits = w.table_fits kinds.TableData 1 (lit< tt); own = refl; next = refl; spelled = refl }

index_claim : MayPut (put_tile ∷ put_piece ∷ []) 1 (w.table_key kinds.TableIndex 2) (index_text final_index)
unfolding object_of index_of head_at type_at length_at name_at text_at is_utf8 chars encode key_at key_text signed_text
index_claim = record { key_is = (w.table_key_rules kinds.TableIndex 2).1; fits = w.table_fits kinds.TableIndex 2 (lit< tt); own = refl; next = refl; spelled = refl }

final_put_claim : MayPut (put_index ∷ put_tile ∷ put_piece ∷ []) 1 (w.key kinds.Version 3) (entry_text final_entry)
unfolding entry_of key_at key_text signed_text
final_put_claim = record { key_is = w.version_key_rules 3; fits = w.version_fits 3 (lit< tt); own = refl; next = refl; spelled = refl }

final_fits : FitsLink prepared 1 S final_row (record { number = 0; stamp = pos 60; frame = w.table })
unfolding object_of index_of entry_of segment_text sheet_text cells_text segment_of sheet_spelled sheet_at rows_at count_at stamps_at stamp_at columns_at series_at head_at type_at length_at name_at text_at cells_at is_utf8 chars encode signed_text key_at key_text
final_fits = record {
  number = refl;
  stamp = refl;
  rows = refl;
  storable = w.table_storable;
  new_index = record { kind = refl; name = refl; stands = refl; fresh = record { own = refl; made_for = refl; unreached = refl } };
  index_stamps = (refl, refl);
  link = record { row = final_row; pages = []; index = final_index; tiles = (w.part, w.table) ∷ [] };
  link_is = refl;
  new_pages = tt;
  pages_before = tt;
  pages_fit = tt;
  schema = refl;
  index_rows = refl;
  keys = (record { kind = refl; name = refl; stands = refl; fresh_or_shared = inl (record { own = refl; made_for = refl; unreached = refl }) }, tt);
  tiled = w.tiled;
  stamps = (record { first = refl; last = refl }, tt);
}

final_claim : MayRefer prepared 1 S None (w.key kinds.Version 3) (changes.Wrote w.table (pos 60) ∷ changes.Discarded (piece ∷ []) ∷ [])
unfolding entry_of segment_text sheet_text cells_text segment_of sheet_spelled sheet_at rows_at count_at stamps_at stamp_at columns_at series_at head_at type_at length_at name_at text_at cells_at is_utf8 chars encode signed_text key_at key_text
final_claim = record {
  kind = refl;
  name = refl;
  own = refl;
  stands = refl;
  fresh = refl;
  how = inl (record { form = making (changes.Wrote w.table (pos 60)) refl (no_tombs (some_pieces (piece ∷ []))); row = final_row; spelled = refl; fits = ((final_fits, tt), ((tt, record { some = tt; rising = tt; staged = (refl, tt) }), tt)); prunes = tt });
}

-- five events
pub finalized_lawful : IsLawful finalized
finalized_lawful = ((refl, final_claim), ((tt, final_put_claim), ((tt, index_claim), ((tt, tile_claim), ((tt, piece_claim), tt)))))
