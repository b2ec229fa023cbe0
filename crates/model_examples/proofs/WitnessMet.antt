-- A lawful history with real bodies: two clients put an append each on one base; the one refers, and the other drops what it put.
use Rattle.segment_bytes.specs.Heads.{head_at, length_at, name_at, text_at, type_at}
use Rattle.segment_bytes.specs.Sheets.{columns_at, count_at, rows_at, series_at, sheet_at, sheet_text, stamp_at, stamps_at}
use Rattle.segment_bytes.specs.CellTexts.{cells_at, cells_text}
use Rattle.byte_fields.specs.Reading.{signed_text}
use Rattle.std.proofs.Common.{ℕ, ◌<◌, pos, [], ◌∷◌, refl, inl, inr, Some, lit<}
use Rattle.std.specs.Int.{w64}
use Rattle.std.proofs.lemmas.Int.{fits_signed_from_abs}
use Rattle.std.specs.Str.{is_utf8, chars}
use lib.Utf8.{encode}
use Rattle.segment_bytes.specs.Segments.{segment_text, segment_of, sheet_spelled}
use Rattle.index_tree.specs.IndexText.{index_text, index_of}
use Rattle.index_tree.specs.PageText.{object_of}
use Rattle.key_kind.specs.declared.key.KeyKind.TheVariants as kinds
use Rattle.key_kind.specs.Keys.{IsKey, FitsFields}
use Rattle.key_kind.specs.KeyText.{key_at, key_text}
use Rattle.bucket_core.specs.declared.event.Change.TheVariants as changes
use Rattle.bucket_core.specs.declared.event.Event.TheVariants as events
use Rattle.bucket_core.specs.History.{History}
use Rattle.store_model.specs.ChainText.{entry_text, entry_of}
use Rattle.store_model.specs.Commits.{MayRefer, FitsLink, making, no_tombs, no_pieces}
use Rattle.store_model.specs.Law.{IsLawful, MayPut}
use Rattle.model_examples.proofs.SmallFrames.{S}
use Rattle.model_examples.proofs.Witness as w
use Rattle.store_model.specs.Links.{IsOwnUnlinked}
use Rattle.model_examples.proofs.WitnessShared as shared

abbrev pub put_3 : History
put_3 = shared.put_element 3 2 1 ∷ shared.put_index 3 1 0 ∷ shared.put_tile 3 0 ∷ w.written

abbrev pub put_both : History
put_both = shared.put_element 2 2 1 ∷ shared.put_index 2 1 0 ∷ shared.put_tile 2 0 ∷ put_3

abbrev pub accepted : History
accepted = shared.append 2 2 ∷ put_both

abbrev pub met : History
met = events.Drop 3 (shared.element_key 3 2) ∷ events.Drop 3 (shared.index_key 3 1) ∷ events.Drop 3 (shared.tile_key 3 0) ∷ accepted

-- ---- the puts

tile_fits : (client serial : ℕ) → client < 4294967296 → serial < 18446744073709551616 → FitsFields (shared.tile_key client serial)
tile_fits client serial low below = record { client = low; serial = below; version = lit< tt; first = fits_signed_from_abs w64 (pos 2) (lit< tt); last = fits_signed_from_abs w64 (pos 2) (lit< tt) }

index_fits : (client serial : ℕ) → client < 4294967296 → serial < 18446744073709551616 → FitsFields (shared.index_key client serial)
index_fits client serial low below = record { client = low; serial = below; version = lit< tt; first = fits_signed_from_abs w64 (pos 1) (lit< tt); last = fits_signed_from_abs w64 (pos 2) (lit< tt) }

element_fits : (client serial : ℕ) → client < 4294967296 → serial < 18446744073709551616 → FitsFields (shared.element_key client serial)
element_fits client serial low below = record { client = low; serial = below; version = lit< tt; first = fits_signed_from_abs w64 (pos 0) (lit< tt); last = fits_signed_from_abs w64 (pos 0) (lit< tt) }

tile_rules : (client serial : ℕ) → IsKey (shared.tile_key client serial)
tile_rules client serial = record { name = w.name_S; made = λ e. absurd cc; version = λ e. absurd cc; stamps = λ e. absurd cc }

index_rules : (client serial : ℕ) → IsKey (shared.index_key client serial)
index_rules client serial = record { name = w.name_S; made = λ e. absurd cc; version = λ e. absurd cc; stamps = λ e. absurd cc }

element_rules : (client serial : ℕ) → IsKey (shared.element_key client serial)
element_rules client serial = record { name = w.name_S; made = λ e. absurd cc; version = λ e. refl; stamps = λ e. (refl, refl) }

tile_claim_3 : MayPut (w.written) 3 (shared.tile_key 3 0) (segment_text shared.added)
unfolding segment_text sheet_text cells_text segment_of sheet_spelled sheet_at rows_at count_at stamps_at stamp_at columns_at series_at head_at type_at length_at name_at text_at cells_at is_utf8 chars encode signed_text
tile_claim_3 = record { key_is = tile_rules 3 0; fits = tile_fits 3 0 (lit< tt) (lit< tt); own = refl; next = refl; spelled = refl }

index_claim_3 : MayPut (shared.put_tile 3 0 ∷ w.written) 3 (shared.index_key 3 1) (index_text (shared.index 3 0))
unfolding object_of index_of head_at type_at length_at name_at text_at is_utf8 chars encode key_at key_text signed_text
index_claim_3 = record { key_is = index_rules 3 1; fits = index_fits 3 1 (lit< tt) (lit< tt); own = refl; next = refl; spelled = refl }

element_claim_3 : MayPut (shared.put_index 3 1 0 ∷ shared.put_tile 3 0 ∷ w.written) 3 (shared.element_key 3 2) (entry_text (shared.entry 3 1))
unfolding entry_of key_at key_text signed_text
element_claim_3 = record { key_is = element_rules 3 2; fits = element_fits 3 2 (lit< tt) (lit< tt); own = refl; next = refl; spelled = refl }

tile_claim_2 : MayPut (put_3) 2 (shared.tile_key 2 0) (segment_text shared.added)
unfolding segment_text sheet_text cells_text segment_of sheet_spelled sheet_at rows_at count_at stamps_at stamp_at columns_at series_at head_at type_at length_at name_at text_at cells_at is_utf8 chars encode signed_text
tile_claim_2 = record { key_is = tile_rules 2 0; fits = tile_fits 2 0 (lit< tt) (lit< tt); own = refl; next = refl; spelled = refl }

index_claim_2 : MayPut (shared.put_tile 2 0 ∷ put_3) 2 (shared.index_key 2 1) (index_text (shared.index 2 0))
unfolding object_of index_of head_at type_at length_at name_at text_at is_utf8 chars encode key_at key_text signed_text
index_claim_2 = record { key_is = index_rules 2 1; fits = index_fits 2 1 (lit< tt) (lit< tt); own = refl; next = refl; spelled = refl }

element_claim_2 : MayPut (shared.put_index 2 1 0 ∷ shared.put_tile 2 0 ∷ put_3) 2 (shared.element_key 2 2) (entry_text (shared.entry 2 1))
unfolding entry_of key_at key_text signed_text
element_claim_2 = record { key_is = element_rules 2 2; fits = element_fits 2 2 (lit< tt) (lit< tt); own = refl; next = refl; spelled = refl }

-- ---- the Refer

link_fits : FitsLink put_both 2 S (shared.row 2 1) (record { number = 1; stamp = pos 60; frame = shared.both })
unfolding object_of index_of entry_of segment_text sheet_text cells_text segment_of sheet_spelled sheet_at rows_at count_at stamps_at stamp_at columns_at series_at head_at type_at length_at name_at text_at cells_at is_utf8 chars encode signed_text key_at key_text
link_fits = record {
  number = refl;
  stamp = refl;
  rows = refl;
  storable = shared.storable;
  new_index = record { kind = refl; name = refl; stands = refl; fresh = record { own = refl; made_for = refl; unreached = refl } };
  index_stamps = (refl, refl);
  link = record { row = shared.row 2 1; pages = []; index = shared.index 2 0; tiles = shared.tiles };
  link_is = refl;
  new_pages = tt;
  pages_before = tt;
  pages_fit = tt;
  schema = refl;
  index_rows = refl;
  keys = (
    record { kind = refl; name = refl; stands = refl; fresh_or_shared = inr refl },
    (record { kind = refl; name = refl; stands = refl; fresh_or_shared = inl (record { own = refl; made_for = refl; unreached = refl }) }, tt),
  );
  tiled = shared.tiled;
  stamps = (record { first = refl; last = refl }, (record { first = refl; last = refl }, tt));
}

append_claim : MayRefer put_both 2 S (Some (w.key kinds.Version 2)) (shared.element_key 2 2) (changes.Appended shared.added (pos 60) ∷ [])
unfolding entry_of key_at key_text signed_text
append_claim = record {
  kind = refl;
  name = refl;
  own = refl;
  stands = refl;
  fresh = refl;
  how = inl (record { form = making (changes.Appended shared.added (pos 60)) refl (no_tombs no_pieces); row = shared.row 2 1; spelled = refl; fits = ((link_fits, tt), tt); prunes = tt });
}

-- ---- the drops of own keys that nothing links

tile_dead : IsOwnUnlinked accepted (shared.tile_key 3 0) 3
unfolding object_of index_of entry_of segment_text sheet_text cells_text segment_of sheet_spelled sheet_at rows_at count_at stamps_at stamp_at columns_at series_at head_at type_at length_at name_at text_at cells_at is_utf8 chars encode signed_text key_at key_text
tile_dead = record { own = refl; table = refl; unreached = refl; no_entry = refl }

index_dead : IsOwnUnlinked (events.Drop 3 (shared.tile_key 3 0) ∷ accepted) (shared.index_key 3 1) 3
unfolding object_of index_of entry_of segment_text sheet_text cells_text segment_of sheet_spelled sheet_at rows_at count_at stamps_at stamp_at columns_at series_at head_at type_at length_at name_at text_at cells_at is_utf8 chars encode signed_text key_at key_text
index_dead = record { own = refl; table = refl; unreached = refl; no_entry = refl }

element_dead : IsOwnUnlinked (events.Drop 3 (shared.index_key 3 1) ∷ events.Drop 3 (shared.tile_key 3 0) ∷ accepted) (shared.element_key 3 2) 3
unfolding object_of index_of entry_of segment_text sheet_text cells_text segment_of sheet_spelled sheet_at rows_at count_at stamps_at stamp_at columns_at series_at head_at type_at length_at name_at text_at cells_at is_utf8 chars encode signed_text key_at key_text
element_dead = record { own = refl; table = refl; unreached = refl; no_entry = refl }

-- fourteen events of three clients
pub met_lawful : IsLawful met
met_lawful = (
  (refl, inr (inr (inl element_dead))),
  (
    (refl, inr (inr (inl index_dead))),
    (
      (refl, inr (inr (inl tile_dead))),
      (
        (refl, append_claim),
        ((tt, element_claim_2), ((tt, index_claim_2), ((tt, tile_claim_2), ((tt, element_claim_3), ((tt, index_claim_3), ((tt, tile_claim_3), w.written_lawful)))))),
      ),
    ),
  ),
)
