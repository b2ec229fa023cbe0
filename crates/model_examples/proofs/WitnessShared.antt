-- Lawful histories with real bodies: an append that shares the tile of its base; and a staged piece that is consumed and dropped.
use Rattle.segment_bytes.specs.Heads.{head_at, length_at, name_at, text_at, type_at}
use Rattle.segment_bytes.specs.Sheets.{columns_at, count_at, rows_at, series_at, sheet_at, sheet_text, stamp_at, stamps_at}
use Rattle.segment_bytes.specs.CellTexts.{cells_at, cells_text}
use Rattle.byte_fields.specs.Reading.{signed_text}
use Rattle.std.proofs.Common.{◌≡◌, ℕ, zero, suc, ◌<◌, ◌≤◌, pos, [], ◌∷◌, refl, inl, inr, Some, None, arith, lit≤, lit<}
use Rattle.std.specs.Prelude.{count_by, List, ◌≤ℤ◌}
use Rattle.std.specs.Int.{w64}
use Rattle.std.proofs.lemmas.Int.{fits_signed_from_abs}
use Rattle.std.specs.Str.{is_utf8, chars}
use lib.Utf8.{encode}
use Rattle.frame_core.specs.declared.part.Part.{Part}
use Rattle.frame_core.specs.Frames.{Frame}
use Rattle.frame_core.specs.Limits.{IsStorable}
use Rattle.segment_bytes.specs.Segments.{segment_text, segment_of, sheet_spelled}
use Rattle.index_tree.specs.declared.index.Index.{Index}
use Rattle.index_tree.specs.IndexText.{index_text, index_of}
use Rattle.index_tree.specs.PageText.{object_of}
use Rattle.segment_cut.specs.Tiles.{Tile, Tiled, has_cell, has_row}
use Rattle.key_kind.specs.declared.key.Key.{Key}
use Rattle.key_kind.specs.declared.key.KeyKind.TheVariants as kinds
use Rattle.key_kind.specs.Keys.{IsKey, FitsFields}
use Rattle.key_kind.specs.KeyText.{key_at, key_text}
use Rattle.bucket_core.specs.declared.event.PieceName.{PieceName}
use Rattle.bucket_core.specs.declared.event.Change.TheVariants as changes
use Rattle.bucket_core.specs.declared.event.Event.{Event}
use Rattle.bucket_core.specs.declared.event.Event.TheVariants as events
use Rattle.bucket_core.specs.History.{History}
use Rattle.store_model.specs.declared.chain.LinkRow.{LinkRow}
use Rattle.store_model.specs.declared.chain.ChainMark.TheVariants as marks
use Rattle.store_model.specs.declared.chain.Entry.{Entry}
use Rattle.store_model.specs.ChainText.{entry_text, entry_of}
use Rattle.store_model.specs.Links.{IsConsumedPiece}
use Rattle.store_model.specs.Commits.{MayRefer, FitsLink, making, marking, no_tombs, no_pieces}
use Rattle.store_model.specs.Law.{IsLawful, MayPut}
use Rattle.model_examples.proofs.SmallFrames.{column_rules, line_fits, S, frame}
use Rattle.model_examples.proofs.Witness as w

-- ---- an append by a client that shares the base's tile

abbrev pub tile_key : ℕ → ℕ → Key
tile_key client serial = record { kind = kinds.TableData; name = S; client = client; serial = serial; version = 1; first = pos 2; last = pos 2 }

abbrev pub index_key : ℕ → ℕ → Key
index_key client serial = record { kind = kinds.TableIndex; name = S; client = client; serial = serial; version = 1; first = pos 1; last = pos 2 }

abbrev pub element_key : ℕ → ℕ → Key
element_key client serial = record { kind = kinds.Version; name = S; client = client; serial = serial; version = 0; first = pos 0; last = pos 0 }

abbrev pub second_part : Part
second_part = record { first_row = 1; rows = 1; first_col = 0; cols = 1 }

-- the row that is appended, and the whole frame
abbrev pub added : Frame
added = frame ((2, 6) ∷ [])

abbrev pub both : Frame
both = frame ((1, 5) ∷ (2, 6) ∷ [])

abbrev pub index : ℕ → ℕ → Index
index client serial = record { schema = both.schema; rows = 2; slots = w.slot ∷ record { key = tile_key client serial; part = second_part; first = pos 2; last = pos 2 } ∷ [] }

abbrev pub row : ℕ → ℕ → LinkRow
row client serial = record { version = 1; stamp = pos 60; rows = 2; index = index_key client serial }

abbrev pub entry : ℕ → ℕ → Entry
entry client serial = record { prev = Some (w.key kinds.Version 2); changes = marks.Link (row client serial) ∷ [] }

abbrev pub put_tile : ℕ → ℕ → Event
put_tile client serial = events.Put client (tile_key client serial) (segment_text added)

abbrev pub put_index : ℕ → ℕ → ℕ → Event
put_index client serial tile = events.Put client (index_key client serial) (index_text (index client tile))

abbrev pub put_element : ℕ → ℕ → ℕ → Event
put_element client serial of_index = events.Put client (element_key client serial) (entry_text (entry client of_index))

abbrev pub append : ℕ → ℕ → Event
append client serial = events.Refer client S (Some (w.key kinds.Version 2)) (element_key client serial) (changes.Appended added (pos 60) ∷ [])

abbrev pub prepared : History
prepared = put_element 2 2 1 ∷ put_index 2 1 0 ∷ put_tile 2 0 ∷ w.written

abbrev pub appended : History
appended = append 2 2 ∷ prepared

tile_rules : IsKey (tile_key 2 0)
tile_rules = record { name = w.name_S; made = λ e. absurd cc; version = λ e. absurd cc; stamps = λ e. absurd cc }

index_rules : IsKey (index_key 2 1)
index_rules = record { name = w.name_S; made = λ e. absurd cc; version = λ e. absurd cc; stamps = λ e. absurd cc }

element_rules : IsKey (element_key 2 2)
element_rules = record { name = w.name_S; made = λ e. absurd cc; version = λ e. refl; stamps = λ e. (refl, refl) }

tile_fits : FitsFields (tile_key 2 0)
tile_fits = record { client = lit< tt; serial = lit< tt; version = lit< tt; first = fits_signed_from_abs w64 (pos 2) (lit< tt); last = fits_signed_from_abs w64 (pos 2) (lit< tt) }

index_fits : FitsFields (index_key 2 1)
index_fits = record { client = lit< tt; serial = lit< tt; version = lit< tt; first = fits_signed_from_abs w64 (pos 1) (lit< tt); last = fits_signed_from_abs w64 (pos 2) (lit< tt) }

element_fits : FitsFields (element_key 2 2)
element_fits = record { client = lit< tt; serial = lit< tt; version = lit< tt; first = fits_signed_from_abs w64 (pos 0) (lit< tt); last = fits_signed_from_abs w64 (pos 0) (lit< tt) }

tile_claim : MayPut w.written 2 (tile_key 2 0) (segment_text added)
unfolding segment_text sheet_text cells_text segment_of sheet_spelled sheet_at rows_at count_at stamps_at stamp_at columns_at series_at head_at type_at length_at name_at text_at cells_at is_utf8 chars encode signed_text
tile_claim = record { key_is = tile_rules; fits = tile_fits; own = refl; next = refl; spelled = refl }

index_claim : MayPut (put_tile 2 0 ∷ w.written) 2 (index_key 2 1) (index_text (index 2 0))
unfolding object_of index_of head_at type_at length_at name_at text_at is_utf8 chars encode key_at key_text signed_text
index_claim = record { key_is = index_rules; fits = index_fits; own = refl; next = refl; spelled = refl }

element_claim : MayPut (put_index 2 1 0 ∷ put_tile 2 0 ∷ w.written) 2 (element_key 2 2) (entry_text (entry 2 1))
unfolding entry_of key_at key_text signed_text
element_claim = record { key_is = element_rules; fits = element_fits; own = refl; next = refl; spelled = refl }

rises : pos 1 ≤ℤ pos 2
rises = omega arith

pub storable : IsStorable both
storable = record { is_frame = record { columns = column_rules; ascending = (rises, tt); fitting = (line_fits (1, 5) (lit< tt) (lit< tt), (line_fits (2, 6) (lit< tt) (lit< tt), tt)); untimed = λ e. absurd cc }; timed = refl; within = refl }

abbrev pub tiles : List Tile
tiles = (w.part, frame ((1, 5) ∷ [])) ∷ (second_part, added) ∷ []

pub tiled : Tiled both tiles
tiled = record { inside = ((lit≤ tt, lit≤ tt), ((lit≤ tt, lit≤ tt), tt)); parts = (refl, (refl, tt)); cells = one_cell; rows = one_row }
  where
    one_cell : (r c : ℕ) → r < 2 → c < 1 → count_by (λ (t : Tile). has_cell t.0 r c) tiles ≡ 1
    one_cell zero zero h k = refl
    one_cell (suc zero) zero h k = refl
    one_cell (suc (suc r)) c h k = absurd (omega (arith, h))
    one_cell zero (suc c) h k = absurd (omega (arith, k))
    one_cell (suc zero) (suc c) h k = absurd (omega (arith, k))

    one_row : (r : ℕ) → r < 2 → 1 ≤ count_by (λ (t : Tile). has_row t.0 r) tiles
    one_row zero h = lit≤ tt
    one_row (suc zero) h = lit≤ tt
    one_row (suc (suc r)) h = absurd (omega (arith, h))

link_fits : FitsLink prepared 2 S (row 2 1) (record { number = 1; stamp = pos 60; frame = both })
unfolding object_of index_of entry_of segment_text sheet_text cells_text segment_of sheet_spelled sheet_at rows_at count_at stamps_at stamp_at columns_at series_at head_at type_at length_at name_at text_at cells_at is_utf8 chars encode signed_text key_at key_text
link_fits = record {
  number = refl;
  stamp = refl;
  rows = refl;
  storable = storable;
  new_index = record { kind = refl; name = refl; stands = refl; fresh = record { own = refl; made_for = refl; unreached = refl } };
  index_stamps = (refl, refl);
  link = record { row = row 2 1; pages = []; index = index 2 0; tiles = tiles };
  link_is = refl;
  new_pages = tt;
  pages_before = tt;
  pages_fit = tt;
  schema = refl;
  index_rows = refl;
  keys = (
    record { kind = refl; name = refl; stands = refl; fresh_or_shared = inr refl },
    (record { kind = refl; name = refl; stands = refl; fresh_or_shared = inl (record { own = refl; made_for = refl; unreached = refl }) }, tt),
  );
  tiled = tiled;
  stamps = (record { first = refl; last = refl }, (record { first = refl; last = refl }, tt));
}

append_claim : MayRefer prepared 2 S (Some (w.key kinds.Version 2)) (element_key 2 2) (changes.Appended added (pos 60) ∷ [])
unfolding entry_of key_at key_text signed_text
append_claim = record {
  kind = refl;
  name = refl;
  own = refl;
  stands = refl;
  fresh = refl;
  how = inl (record { form = making (changes.Appended added (pos 60)) refl (no_tombs no_pieces); row = row 2 1; spelled = refl; fits = ((link_fits, tt), tt); prunes = tt });
}

-- eight events of two clients
pub appended_lawful : IsLawful appended
appended_lawful = ((refl, append_claim), ((tt, element_claim), ((tt, index_claim), ((tt, tile_claim), w.written_lawful))))

-- ---- a staged piece, its discard, and its drop

abbrev pub piece_key : Key
piece_key = record { kind = kinds.Staged; name = S; client = 1; serial = 0; version = 0; first = pos 1; last = pos 1 }

abbrev pub piece : PieceName
piece = record { client = 1; serial = 0 }

abbrev pub discard_entry : Entry
discard_entry = record { prev = None; changes = marks.Discard (piece ∷ []) ∷ [] }

abbrev pub staged : History
staged = events.Put 1 piece_key (segment_text w.table) ∷ []

abbrev pub put_discard : Event
put_discard = events.Put 1 (w.key kinds.Version 1) (entry_text discard_entry)

abbrev pub discarded : History
discarded = events.Refer 1 S None (w.key kinds.Version 1) (changes.Discarded (piece ∷ []) ∷ []) ∷ put_discard ∷ staged

piece_claim : MayPut [] 1 piece_key (segment_text w.table)
unfolding segment_text sheet_text cells_text segment_of sheet_spelled sheet_at rows_at count_at stamps_at stamp_at columns_at series_at head_at type_at length_at name_at text_at cells_at is_utf8 chars encode signed_text
piece_claim = record {
  key_is = record { name = w.name_S; made = λ e. absurd cc; version = λ e. refl; stamps = λ e. absurd cc };
  fits = record { client = lit< tt; serial = lit< tt; version = lit< tt; first = fits_signed_from_abs w64 (pos 1) (lit< tt); last = fits_signed_from_abs w64 (pos 1) (lit< tt) };
  own = refl;
  next = refl;
  spelled = (refl, refl);
}

put_discard_claim : MayPut staged 1 (w.key kinds.Version 1) (entry_text discard_entry)
unfolding entry_of key_at key_text signed_text
put_discard_claim = record { key_is = w.version_key_rules 1; fits = w.version_fits 1 (lit< tt); own = refl; next = refl; spelled = refl }

discard_claim : MayRefer (put_discard ∷ staged) 1 S None (w.key kinds.Version 1) (changes.Discarded (piece ∷ []) ∷ [])
unfolding entry_of segment_text sheet_text cells_text segment_of sheet_spelled sheet_at rows_at count_at stamps_at stamp_at columns_at series_at head_at type_at length_at name_at text_at cells_at is_utf8 chars encode signed_text key_at key_text
discard_claim = record {
  kind = refl;
  name = refl;
  own = refl;
  stands = refl;
  fresh = refl;
  how = inl (record { form = marking (changes.Discarded (piece ∷ [])) refl; row = w.row; spelled = refl; fits = ((tt, record { some = tt; rising = tt; staged = (refl, tt) }), tt); prunes = tt });
}

consumed : IsConsumedPiece discarded piece_key
consumed = record { staged = refl; consumed = refl }

-- four events
pub dropped_lawful : IsLawful (events.Drop 1 piece_key ∷ discarded)
dropped_lawful = ((refl, inr (inl consumed)), ((refl, discard_claim), ((tt, put_discard_claim), ((tt, piece_claim), tt))))
