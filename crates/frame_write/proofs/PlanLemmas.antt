-- The puts of a plan: their keys and bodies are such as a try puts, and once they stand the link and the element are there.
use Rattle.std.proofs.Common.{◌≡◌, ℕ, suc, ◌+◌, ◌<◌, ◌^◌, ℤ, pos, Bool, true, false, cond, List, [], ◌∷◌, ◌++◌, length, map, refl, ap, sym, ◌∙◌, subst, arith, Option, Some, None, Ok, append_assoc, length-append, reverse}
use Rattle.std.specs.Prelude.{if◌then◌else◌, nat_lt, fold, max, sum_by, filter, unwrap_or, FitsSigned, IsOk, ◌||◌, Result}
use Rattle.std.specs.Int.{w64}
use Rattle.std.specs.Arc.{arc_value}
use Rattle.std.specs.Result.{is_ok}
use Rattle.std.specs.List.{list_any, AllByRecursion}
use Rattle.frame_core.specs.declared.part.Part.{Part}
use Rattle.frame_core.specs.Frames.{Row, Frame, FitsColumns, first_stamp, last_stamp}
use Rattle.frame_core.specs.Limits.{IsStorable, too_large, longest_text, all_text_bytes}
use Rattle.frame_core.specs.declared.refusal.Extent.{Extent}
use Rattle.frame_core.specs.declared.refusal.Extent.TheVariants as extents
use Rattle.version_chain.specs.Entries.{IsKeyOf as IsKindOf}
use Rattle.std.proofs.lemmas.Bool.Decides.{nat_tests}
use Rattle.segment_bytes.specs.Segments.{segment_of}
use Rattle.segment_cut.specs.Tiles.{cut, Tiled}
use Rattle.segment_cut.specs.Tiles.{Tile as CutTile}
use Rattle.segment_cut.specs.Cuttings.{Cutting}
use Rattle.segment_cut.specs.Grids.{parts, grid_of}
use Rattle.segment_cut.proofs.GridLemmas.{tiled-grid}
use Rattle.index_tree.specs.declared.index.Slot.{Slot}
use Rattle.index_tree.specs.IndexText.{index_of}
use Rattle.index_tree.specs.IndexRules.{IsIndex}
use Rattle.key_kind.specs.declared.key.KeyKind.TheVariants as kinds
use Rattle.key_kind.specs.declared.key.Key.{Key}
use Rattle.key_kind.specs.Names.{Name, IsName}
use Rattle.key_kind.specs.Keys.{IsKey, FitsFields, same_key}
use Rattle.key_kind.specs.KeyText.{key_text}
use Rattle.key_kind.proofs.KeyTests.{same_key_self}
use Rattle.bucket_core.specs.declared.event.Change.{Change}
use Rattle.bucket_core.specs.declared.event.Change.TheVariants as changes
use Rattle.bucket_core.specs.History.{History, Bytes, reference}
use Rattle.store_model.specs.declared.chain.LinkRow.{LinkRow}
use Rattle.store_model.specs.declared.chain.ChainMark.{ChainMark}
use Rattle.store_model.specs.declared.chain.ChainMark.TheVariants as marks
use Rattle.store_model.specs.ChainText.{entry_of}
use Rattle.store_model.specs.Library.{State, Piece, state_of, next_number, live_versions}
use Rattle.version_chain.specs.declared.tip.ChainTip.{ChainTip}
use Rattle.version_chain.specs.Marking.{element_key}
use Rattle.version_chain.specs.Tips.{IsTipOf}
use Rattle.store_model.specs.Commits.{HasSlotStamps, marks_of, MayRefer, IsFilled}
use Rattle.store_model.proofs.Writing.{wrote_may_follow}
use Rattle.store_model.proofs.Untouched.{as_it_was}
use Rattle.store_model.proofs.StableRefer.{staging}
use Rattle.std.proofs.lemmas.List.{length-map}
use Rattle.store_model.specs.OwnPuts.{IsOwnPut, AreOwnPuts, BuriesLive, buries_none, buries_live, IsPutSlot, IsPutLink, IsPutEntry, slots_of, whole as put_whole}
use Rattle.store_model.proofs.Flat.{flat_object}
use Rattle.store_model.proofs.Lists.{all_weaker}
use Rattle.reply_model.specs.Answering.{removed, pruned, live_numbers}
use Rattle.reply_model.specs.Tries.{IsTry, Before, of_version, IsKeyOf, keys_of_puts}
use Rattle.frame_write.specs.declared.tiles.Tile.{Tile}
use Rattle.frame_write.specs.Placing.{IsTileOf, AreTilesOf, slot_at, placed, tile_puts, index_key}
use Rattle.frame_write.specs.Plans.{ArePutsFrom, put_seen, puts_seen}
use Rattle.frame_write.specs.WritePlans.{IsWritePlan}
use Rattle.frame_write.specs.declared.options.Options.{Options}
use Rattle.frame_write.specs.declared.puts.Prepared.{Prepared}
use Rattle.frame_write.specs.declared.plan.Plan.{Plan}
use Rattle.frame_write.proofs.GridSlots.{HasTileKey, index_rules}

pub ok_is_ok : {A E : Type 0} (r : Result A E) (a : A) → r ≡ Ok a → IsOk r
ok_is_ok r a e = ap is_ok e

-- ---- the stamps of a frame fit their fields

first_fits : (columns : List _) (rows : List Row) → AllByRecursion (FitsColumns columns) rows → FitsSigned w64 (unwrap_or (first_stamp rows) (pos 0))
first_fits columns [] fit = search arith
first_fits columns (r ∷ rows) fit = fit.0.stamp

last_fits : (columns : List _) (rows : List Row) → AllByRecursion (FitsColumns columns) rows → FitsSigned w64 (unwrap_or (last_stamp rows) (pos 0))
last_fits columns [] fit = search arith
last_fits columns (r ∷ []) fit = fit.0.stamp
last_fits columns (r ∷ s ∷ rows) fit = last_fits columns (s ∷ rows) fit.1

-- ---- the keys of a try

-- the numbers of a try's keys
pub record FitsTry (client : ℕ) (symbol : Name) (version : ℕ) : Type 0 where
  pub client_fits : client < 2 ^ 32
  pub is_name : IsName symbol
  pub version_fits : version < 2 ^ 64

module _ (client : ℕ) (symbol : Name) (version : ℕ) (frame : Frame) (try_fits : FitsTry client symbol version) where
  tile_key_is : (serial : ℕ) (t : Tile) → IsKey (slot_at client symbol version serial t).key
  tile_key_is serial t = record { name = try_fits.is_name; made = λ e. cc; version = λ e. cc; stamps = λ e. cc }

  tile_key_fits : (serial : ℕ) (t : Tile) → serial < 2 ^ 64 → IsTileOf frame t → FitsFields (slot_at client symbol version serial t).key
  tile_key_fits serial t small is = record { client = try_fits.client_fits; serial = small; version = try_fits.version_fits; first = is.first_fits; last = is.last_fits }

  -- the slots of the tiles
  pub slot_stamps : (serial : ℕ) (tiles : List Tile) → AllByRecursion (IsTileOf frame) tiles → AllByRecursion (HasSlotStamps frame) (slots_of (placed client symbol version serial tiles))
  slot_stamps serial [] each = tt
  slot_stamps serial (t ∷ tiles) each = (record { first = each.0.first; last = each.0.last }, slot_stamps (suc serial) tiles each.1)

  pub slot_keys : (serial : ℕ) (tiles : List Tile) → serial + length tiles < 2 ^ 64 → AllByRecursion (IsTileOf frame) tiles → AllByRecursion HasTileKey (slots_of (placed client symbol version serial tiles))
  slot_keys serial [] small each = tt
  slot_keys serial (t ∷ tiles) small each = (
    record { is_tile = refl; key = tile_key_is serial t; fields = tile_key_fits serial t (omega (arith, small)) each.0; first = refl; last = refl },
    slot_keys (suc serial) tiles (omega (arith, small)) each.1,
  )

  pub slot_parts : (serial : ℕ) (tiles : List Tile) → map (λ (s : Slot). s.part) (slots_of (placed client symbol version serial tiles)) ≡ map (λ (t : Tile). t.part) tiles
  slot_parts serial [] = refl
  slot_parts serial (t ∷ tiles) = ap (λ ps. t.part ∷ ps) (slot_parts (suc serial) tiles)

  -- they may be put one after another, and what follows behind them
  pub tiles_from : (serial : ℕ) (tiles : List Tile) (rest : List (Key × Bytes)) → serial + length tiles < 2 ^ 64 → AllByRecursion (IsTileOf frame) tiles
      → ArePutsFrom client (serial + length tiles) rest → ArePutsFrom client serial (tile_puts (placed client symbol version serial tiles) ++ rest)
  tiles_from serial [] rest small each more = subst (λ n. ArePutsFrom client n rest) (omega arith) more
  tiles_from serial (t ∷ tiles) rest small each more = (
    record {
      key_is = tile_key_is serial t;
      fits = tile_key_fits serial t (omega (arith, small)) each.0;
      own = refl;
      serial_is = refl;
      table = refl;
      spelled = ok_is_ok (segment_of (arc_value t.body)) (cut frame t.part) each.0.spelled;
    },
    tiles_from (suc serial) tiles rest (omega (arith, small)) each.1 (subst (λ n. ArePutsFrom client n rest) (omega arith) more),
  )

  -- their keys
  tiles_of_symbol : (serial : ℕ) (tiles : List Tile) → AllByRecursion (λ (p : Key × Bytes). IsKeyOf kinds.TableData symbol p.0) (tile_puts (placed client symbol version serial tiles))
  tiles_of_symbol serial [] = tt
  tiles_of_symbol serial (t ∷ tiles) = ((refl, refl), tiles_of_symbol (suc serial) tiles)

  keys_same : (serial : ℕ) (tiles : List Tile) → keys_of_puts (tile_puts (placed client symbol version serial tiles)) ≡ map (λ (s : Slot). s.key) (slots_of (placed client symbol version serial tiles))
  keys_same serial [] = refl
  keys_same serial (t ∷ tiles) = ap (λ ks. (slot_at client symbol version serial t).key ∷ ks) (keys_same (suc serial) tiles)

  -- once they stand
  slots_put : (h : History) (serial : ℕ) (tiles : List Tile) (rest : List (Key × Bytes)) → AllByRecursion (IsTileOf frame) tiles → AreOwnPuts h client (tile_puts (placed client symbol version serial tiles) ++ rest)
      → AllByRecursion (IsPutSlot h client version symbol frame) (placed client symbol version serial tiles) × AreOwnPuts h client rest
  slots_put h serial [] rest each own = (tt, own)
  slots_put h serial (t ∷ tiles) rest each own =
      let more = slots_put h (suc serial) tiles rest each.1 own.1 in
      ((record { kind = refl; name = refl; made_for = refl; own = own.0; spelled = each.0.spelled; stamps = record { first = each.0.first; last = each.0.last } }, more.0), more.1)

-- ---- keys that are all put

filter_all : {X : Type 0} (p : X → Bool) (xs : List X) → AllByRecursion (λ x. p x ≡ true) xs → xs ≡ filter p xs
filter_all p [] all = refl
filter_all p (x ∷ xs) all = ap (λ l. x ∷ l) (filter_all p xs all.1) ∙ sym (ap (λ b. cond b (x ∷ filter p xs) (filter p xs)) all.0)

or_first : (a b : Bool) → a ≡ true → (a || b) ≡ true
or_first a b e = ap (λ x. x || b) e

or_later : (a b : Bool) → b ≡ true → (a || b) ≡ true
or_later true b e = refl
or_later false b e = e

self_found : (keys : List Key) → AllByRecursion (λ k. list_any (same_key k) keys ≡ true) keys
self_found [] = tt
self_found (key ∷ keys) = (
  or_first (same_key key key) (list_any (same_key key) keys) (same_key_self key),
  all_weaker (λ k. list_any (same_key k) keys ≡ true) (λ k. list_any (same_key k) (key ∷ keys) ≡ true) (λ k e. or_later (same_key k key) (list_any (same_key k) keys) e) keys (self_found keys),
)

-- ---- the marks

marks_append : {A : Type 0} (xs : List A) → xs ++ [] ≡ xs
marks_append [] = refl
marks_append (x ∷ xs) = ap (λ l. x ∷ l) (marks_append xs)

pub marks_are : (row : LinkRow) (frame : Frame) (at : ℤ) (numbers : List ℕ) → marks.Link row ∷ map marks.Tomb numbers ≡ marks_of row (changes.Wrote frame at ∷ removed numbers)
marks_are row frame at [] = refl
marks_are row frame at (n ∷ ns) = ap (λ l. marks.Link row ∷ l) (sym (marks_append (map marks.Tomb (n ∷ ns))))

-- ---- the index

parts_cut : (frame : Frame) (slots : List Slot) → map {B = CutTile} (λ (s : Slot). (s.part, cut frame s.part)) slots ≡ map {B = CutTile} (λ (p : Part). (p, cut frame p)) (map (λ (s : Slot). s.part) slots)
parts_cut frame [] = refl
parts_cut frame (s ∷ slots) = ap (λ l. (s.part, cut frame s.part) ∷ l) (parts_cut frame slots)

module _ (client serial : ℕ) (symbol : Name) (version : ℕ) (frame : Frame) (cutting : Cutting) (tiles : List Tile)
    (storable : IsStorable frame) (tiled : AreTilesOf frame cutting tiles) (try_fits : FitsTry client symbol version) (small : suc (serial + length tiles) < 2 ^ 64) where
  abbrev all : List (Slot × Bytes)
  all = placed client symbol version serial tiles

  slot_parts_are : map (λ (s : Slot). s.part) (slots_of all) ≡ parts (grid_of frame cutting)
  slot_parts_are = slot_parts client symbol version frame try_fits serial tiles ∙ tiled.parts_are

  pub index_is : IsIndex (record { schema = frame.schema; rows = length frame.rows; slots = slots_of all })
  index_is = index_rules frame cutting (slots_of all) storable tiled.cutting_is slot_parts_are
      (slot_stamps client symbol version frame try_fits serial tiles tiled.each)
      (slot_keys client symbol version frame try_fits serial tiles (omega (arith, small)) tiled.each)

  module _ (index_body entry_body : Bytes) (index_spelled : index_of index_body ≡ Ok (record { schema = frame.schema; rows = length frame.rows; slots = slots_of all })) where
    abbrev index_at : Key
    index_at = index_key client symbol version (serial + length tiles) frame

    abbrev entry_at : Key
    entry_at = element_key client symbol (suc (serial + length tiles))

    abbrev puts : List (Key × Bytes)
    puts = tile_puts all ++ (index_at, index_body) ∷ (entry_at, entry_body) ∷ []

    pub entry_key_is : IsKey entry_at
    entry_key_is = record { name = try_fits.is_name; made = λ e. cc; version = λ e. refl; stamps = λ e. (refl, refl) }

    pub index_key_is : IsKey index_at
    index_key_is = record { name = try_fits.is_name; made = λ e. cc; version = λ e. cc; stamps = λ e. cc }

    pub puts_from : IsOk (entry_of entry_body) → ArePutsFrom client serial puts
    puts_from spelled = tiles_from client symbol version frame try_fits serial tiles _ (omega (arith, small)) tiled.each (
      record {
        key_is = index_key_is;
        fits = record { client = try_fits.client_fits; serial = omega (arith, small); version = try_fits.version_fits; first = first_fits _ frame.rows storable.is_frame.fitting; last = last_fits _ frame.rows storable.is_frame.fitting };
        own = refl;
        serial_is = refl;
        table = refl;
        spelled = ok_is_ok (index_of index_body) _ index_spelled;
      },
      (
        record {
          key_is = entry_key_is;
          fits = record { client = try_fits.client_fits; serial = small; version = search arith; first = search arith; last = search arith };
          own = refl;
          serial_is = refl;
          table = refl;
          spelled = spelled;
        },
        tt,
      ),
    )

    pub link_put : (h : History) (row : LinkRow) → row.version ≡ version → row.index ≡ index_at → AreOwnPuts h client puts → IsPutLink h client symbol frame row
    link_put h row number is own =
        let put = slots_put client symbol version frame try_fits h serial tiles ((index_at, index_body) ∷ (entry_at, entry_body) ∷ []) tiled.each own in
        record {
          kind = ap (λ (k : Key). k.kind) is;
          name = ap (λ (k : Key). k.name) is;
          made_for = ap (λ (k : Key). k.version) is ∙ sym number;
          index_stamps = (ap (λ (k : Key). k.first) is, ap (λ (k : Key). k.last) is);
          body = index_body;
          own = subst (λ k. IsOwnPut h client k index_body) (sym is) put.1.0;
          index = record { schema = frame.schema; rows = length frame.rows; slots = slots_of all };
          pages = [];
          spelled = put_whole (flat_object index_body (record { schema = frame.schema; rows = length frame.rows; slots = slots_of all }) index_spelled);
          each_page = tt;
          pages_fit = tt;
          schema = refl;
          index_rows = refl;
          slots = all;
          slots_are = refl;
          each = subst (λ n. AllByRecursion (IsPutSlot h client n symbol frame) all) (sym number) put.0;
          tiled = subst (Tiled frame) (sym (parts_cut frame (slots_of all) ∙ ap (map {B = CutTile} (λ (p : Part). (p, cut frame p))) slot_parts_are)) (tiled-grid frame cutting tiled.cutting_is);
        }

    pub entry_put : (h : History) (prev : Option Key) (list : List ChainMark) → entry_of entry_body ≡ Ok (record { prev = prev; changes = list }) → AreOwnPuts h client puts
        → IsPutEntry h client symbol entry_at (record { prev = prev; changes = list })
    entry_put h prev list spelled own =
        let put = slots_put client symbol version frame try_fits h serial tiles ((index_at, index_body) ∷ (entry_at, entry_body) ∷ []) tiled.each own in
        record { kind = refl; name = refl; body = entry_body; own = put.1.1.0; spelled = spelled }

    pub try_is : (row : LinkRow) (prev : Option Key) (list : List ChainMark) → row.index ≡ index_at → entry_of entry_body ≡ Ok (record { prev = prev; changes = marks.Link row ∷ list }) → IsTry symbol true puts entry_at
    try_is row prev list is spelled = record {
      first = tile_puts all ++ (index_at, index_body) ∷ [];
      body = entry_body;
      element = record { prev = prev; changes = marks.Link row ∷ list };
      is = sym (append_assoc (tile_puts all) ((index_at, index_body) ∷ []) ((entry_at, entry_body) ∷ []));
      entry_is = (refl, refl);
      spelled = spelled;
      before = subst (λ k. Before symbol (Some k) (tile_puts all ++ (index_at, index_body) ∷ [])) (sym is)
          (of_version (tile_puts all) index_at index_body (record { schema = frame.schema; rows = length frame.rows; slots = slots_of all })
          (refl, refl) (tiles_of_symbol client symbol version frame try_fits serial tiles) index_spelled
          (subst (λ ks. keys_of_puts (tile_puts all) ≡ filter (λ k. list_any (same_key k) (keys_of_puts (tile_puts all))) ks) (keys_same client symbol version frame try_fits serial tiles)
          (filter_all (λ k. list_any (same_key k) (keys_of_puts (tile_puts all))) (keys_of_puts (tile_puts all)) (self_found (keys_of_puts (tile_puts all))))));
      of_kind = refl;
    }

-- ---- the plan

seen_append : (xs ys : List Prepared) → puts_seen (xs ++ ys) ≡ puts_seen xs ++ puts_seen ys
seen_append [] ys = refl
seen_append (x ∷ xs) ys = ap (λ l. put_seen x ∷ l) (seen_append xs ys)

pub pruned_is : (st : State) (prune : Bool) (numbers : List ℕ) → numbers ≡ (if prune then live_numbers st else []) → removed numbers ≡ pruned st prune
pruned_is st true numbers is = ap removed is
pruned_is st false numbers is = ap removed is

-- the changes of a write, on a symbol as it was
abbrev changes_on : History → Name → Frame → ℤ → Bool → List Change
changes_on before symbol frame at prune = changes.Wrote frame at ∷ pruned (state_of before symbol) prune

pub buries_pruned : (st : State) (prune : Bool) → BuriesLive st (pruned st prune)
buries_pruned st false = buries_none
buries_pruned st true = by (live_numbers st) refl
  where
    filled_if : (n : ℕ) (ns : List ℕ) → live_numbers st ≡ n ∷ ns → IsFilled (live_versions st)
    filled_if n ns is = elim (live_versions st) as (λ vs. reverse (map (λ v. v.number) vs) ≡ n ∷ ns → IsFilled vs) [ [] ↦ λ e. absurd cc | v ∷ vs ↦ λ e. tt ] is

    by : (ns : List ℕ) → live_numbers st ≡ ns → BuriesLive st (removed ns)
    by [] is = buries_none
    by (n ∷ ns) is = subst (λ ms. BuriesLive st (changes.Removed ms ∷ [])) is (buries_live (filled_if n ns is))

-- what is buried does not depend on what is staged
pub buries_staging : (st : State) (more : List Piece) (rest : List Change) → BuriesLive st rest → BuriesLive (staging more st) rest
buries_staging st more _ buries_none = buries_none
buries_staging st more _ (buries_live some) = buries_live some

-- what a plan is made of
pub record IsMade (client : ℕ) (symbol : Name) (version serial : ℕ) (frame : Frame) (tiles : List Tile) (at : ℤ) (tip : ChainTip) (plan : Plan) : Type 0 where
  pub made : List Prepared
  pub index : Prepared
  pub element : Bytes
  pub row : LinkRow
  pub version_is : version ≡ tip.next
  pub made_are : puts_seen made ≡ tile_puts (placed client symbol version serial tiles)
  pub puts_are : puts_seen plan.puts ≡ puts_seen (made ++ index ∷ []) ++ (element_key client symbol (suc (serial + length tiles)), element) ∷ []
  pub index_key_is : index.key ≡ index_key client symbol version (serial + length tiles) frame
  pub index_spelled : index_of (arc_value index.body) ≡ Ok (record { schema = frame.schema; rows = length frame.rows; slots = slots_of (placed client symbol version serial tiles) })
  pub element_spelled : entry_of element ≡ Ok (record { prev = tip.was; changes = marks.Link row ∷ map marks.Tomb tip.buried })
  pub was_is : plan.was ≡ tip.was
  pub number_is : plan.version ≡ version
  pub entry_is : plan.entry ≡ element_key client symbol (suc (serial + length tiles))
  pub mark_is : arc_value plan.mark ≡ key_text plan.entry
  pub changes_are : arc_value plan.changes ≡ changes.Wrote frame at ∷ removed tip.buried
  pub row_number : row.version ≡ version
  pub row_stamp : row.stamp ≡ at
  pub row_rows : row.rows ≡ length frame.rows
  pub row_index : row.index ≡ index.key

module _ (client serial : ℕ) (symbol : Name) (version : ℕ) (frame : Frame) (cutting : Cutting) (tiles : List Tile)
    (storable : IsStorable frame) (tiled : AreTilesOf frame cutting tiles) (try_fits : FitsTry client symbol version) (small : suc (serial + length tiles) < 2 ^ 64)
    (at : ℤ) (prune : Bool) (tip : ChainTip) (plan : Plan) (m : IsMade client symbol version serial frame tiles at tip plan)
    (before : History) (walked : IsTipOf before symbol prune tip) where
  puts_seen_are : puts_seen plan.puts ≡ tile_puts (placed client symbol version serial tiles) ++ (index_key client symbol version (serial + length tiles) frame, arc_value m.index.body)
      ∷ (element_key client symbol (suc (serial + length tiles)), m.element) ∷ []
  puts_seen_are =
      m.puts_are
      ∙ (ap (λ ps. ps ++ entered ∷ []) (seen_append m.made (m.index ∷ []))
      ∙ (append_assoc (puts_seen m.made) (put_seen m.index ∷ []) (entered ∷ [])
      ∙ (ap (λ ps. ps ++ put_seen m.index ∷ entered ∷ []) m.made_are
      ∙ ap (λ k. tile_puts (placed client symbol version serial tiles) ++ (k, arc_value m.index.body) ∷ entered ∷ []) m.index_key_is)))
    where
      entered : Key × Bytes
      entered = (element_key client symbol (suc (serial + length tiles)), m.element)

  removed_are : removed tip.buried ≡ pruned (state_of before symbol) prune
  removed_are = pruned_is (state_of before symbol) prune tip.buried walked.buried

  element_spells : entry_of (m.element) ≡ Ok (record { prev = reference before symbol; changes = marks_of m.row (changes_on before symbol frame at prune) })
  element_spells = m.element_spelled ∙ (ap (λ was. Ok (record { prev = was; changes = marks.Link m.row ∷ map marks.Tomb tip.buried })) walked.was
      ∙ ap (λ ms. Ok (record { prev = reference before symbol; changes = ms })) (marks_are m.row frame at tip.buried ∙ ap (λ rest. marks_of m.row (changes.Wrote frame at ∷ rest)) removed_are))

  key_is : plan.entry ≡ element_key client symbol (suc (serial + length tiles))
  key_is = m.entry_is

  index_row : m.row.index ≡ index_key client symbol version (serial + length tiles) frame
  index_row = m.row_index ∙ m.index_key_is

  number : version ≡ next_number (state_of before symbol)
  number = m.version_is ∙ walked.next

  -- the plan writes the frame
  pub plan_is : (options : Options) → options.cutting ≡ cutting → options.at ≡ at → options.prune ≡ prune → IsWritePlan client serial before symbol frame options plan
  plan_is options cutting_is at_is prune_is = record {
    index = record { schema = frame.schema; rows = length frame.rows; slots = slots_of (placed client symbol version serial tiles) };
    is_plan = record {
      was = m.was_is ∙ walked.was;
      version = m.number_is ∙ number;
      mark = m.mark_is;
      is_try = subst (λ ps. IsTry symbol true ps plan.entry) (sym puts_seen_are)
          (subst (IsTry symbol true _) (sym key_is)
          (try_is client serial symbol version frame cutting tiles storable tiled try_fits small (arc_value m.index.body) (m.element) m.index_spelled m.row tip.was (map marks.Tomb tip.buried) index_row m.element_spelled));
      index_put = record {
        tiles = tile_puts (placed client symbol version serial tiles);
        key = index_key client symbol version (serial + length tiles) frame;
        body = arc_value m.index.body;
        element = (element_key client symbol (suc (serial + length tiles)), m.element);
        is = puts_seen_are;
        spelled = m.index_spelled;
      };
      puts = subst (ArePutsFrom client serial) (sym puts_seen_are)
          (puts_from client serial symbol version frame cutting tiles storable tiled try_fits small (arc_value m.index.body) (m.element) m.index_spelled (ok_is_ok (entry_of (m.element)) _ m.element_spelled));
      may_refer = λ more unreferred lawful own.
          let same = as_it_was before more symbol unreferred in
          let standing = subst (AreOwnPuts (more ++ before) client) puts_seen_are own in
          subst (MayRefer (more ++ before) client symbol (reference before symbol) plan.entry) (sym changes_are)
          (wrote_may_follow (more ++ before) client symbol frame at (reference before symbol) plan.entry (pruned (state_of before symbol) prune) m.row storable
          (m.row_number ∙ (number ∙ sym (ap next_number same.state_is))) m.row_stamp m.row_rows
          (subst (λ st. BuriesLive st (pruned (state_of before symbol) prune)) (sym same.state_is) (buries_staging (state_of before symbol) same.more (pruned (state_of before symbol) prune) (buries_pruned (state_of before symbol) prune)))
          (link_put client serial symbol version frame cutting tiles storable tiled try_fits small (arc_value m.index.body) (m.element) m.index_spelled (more ++ before) m.row m.row_number index_row standing)
          (subst (λ k. IsPutEntry (more ++ before) client symbol k (record { prev = reference before symbol; changes = marks_of m.row (changes_on before symbol frame at prune) })) (sym key_is)
          (entry_put client serial symbol version frame cutting tiles storable tiled try_fits small (arc_value m.index.body) (m.element) m.index_spelled (more ++ before) (reference before symbol) (marks_of m.row (changes_on before symbol frame at prune)) element_spells standing)));
    };
    changes = changes_are ∙ (λ i. changes.Wrote frame (sym at_is i) ∷ pruned (state_of before symbol) (sym prune_is i));
    puts = ap length puts_seen_are ∙ (length-append (tile_puts (placed client symbol version serial tiles)) _ ∙ ap (λ n. n + 2) (tiles_counted ∙ ap (λ c. length (parts (grid_of frame c))) (sym cutting_is)));
    parts_are = slot_parts_are client serial symbol version frame cutting tiles storable tiled try_fits small ∙ ap (λ c. parts (grid_of frame c)) (sym cutting_is);
  }
    where
      changes_are : arc_value plan.changes ≡ changes_on before symbol frame at prune
      changes_are = m.changes_are ∙ ap (λ rest. changes.Wrote frame at ∷ rest) removed_are

      tiles_counted : length (tile_puts (placed client symbol version serial tiles)) ≡ length (parts (grid_of frame cutting))
      tiles_counted = counted serial tiles ∙ (sym (length-map tiles (λ (t : Tile). t.part)) ∙ ap length tiled.parts_are)
        where
          counted : (serial : ℕ) (tiles : List Tile) → length (tile_puts (placed client symbol version serial tiles)) ≡ length tiles
          counted serial [] = refl
          counted serial (t ∷ tiles) = ap suc (counted (suc serial) tiles)

-- ---- the link

some_none : {A : Type 0} {a : A} → Some a ≡ None → ⊥
some_none e = cc

rows_within : (rows columns one texts : ℕ) → too_large rows columns one texts ≡ None → rows < 2 ^ 32
rows_within rows columns one texts e = by (nat_lt 2000000 rows) refl _ e
  where
    by : (b : Bool) → nat_lt 2000000 rows ≡ b → (others : Option (Extent × ℕ)) → cond b (Some (extents.Rows, 2000000)) others ≡ None → rows < 2 ^ 32
    by true t others e = absurd (some_none e)
    by false f others e = grind (arith, nat_tests, f)

pub small_rows : (frame : Frame) → IsStorable frame → (rows : ℕ) → rows ≡ length frame.rows → rows < 2 ^ 32
small_rows frame storable rows is = subst (λ n. n < 2 ^ 32) (sym is) (rows_within (length frame.rows) (length frame.schema.columns) (fold max 0 (map (λ (r : Row). longest_text r.cells) frame.rows)) (sum_by (λ (r : Row). all_text_bytes r.cells) frame.rows) storable.within)

pub index_key_of : (client serial : ℕ) (symbol : Name) (version : ℕ) (frame : Frame) (key : Key) → IsName symbol → key ≡ index_key client symbol version serial frame → IsKindOf kinds.TableIndex key
index_key_of client serial symbol version frame key name is = subst (IsKindOf kinds.TableIndex) (sym is) (record { kind_is = refl; is_key = record { name = name; made = λ e. cc; version = λ e. cc; stamps = λ e. cc } })
