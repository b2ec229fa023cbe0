-- Fetched tiles have what is asked of the frame of their version.
use Rattle.std.proofs.Common.{◌≡◌, ℕ, zero, suc, ◌+◌, ◌≤◌, ◌<◌, ℤ, Bool, true, false, ◌&&◌, List, [], ◌∷◌, length, refl, sym, ap, ◌∙◌, subst, inl, inr, arith, Option, Some, None, Result, Ok, Err}
use Rattle.std.specs.Prelude.{Contains, filter, slice_get, option_map, option_and_then, count_by, nat_le, nat_lt}
use Rattle.std.specs.List.{AllZip, AllByRecursion, list_any}
use Rattle.std.specs.Arc.{arc_value}
use Rattle.std.proofs.lemmas.Bool.{true≢false, and_parts, and_from, or_left, or_right, leb-true, eq-eqb}
use Rattle.std.proofs.lemmas.List.Elements.{All-from_recursion, All-contains}
use Rattle.std.proofs.lemmas.List.Sums.{length-filter}
use Rattle.byte_fields.specs.Reading.{read_of}
use Rattle.frame_core.specs.declared.part.Part.{Part}
use Rattle.frame_core.specs.Ranges.{Range, is_within}
use Rattle.frame_core.specs.Schemas.{Head}
use Rattle.frame_core.specs.Frames.{Row, Frame, stamp_at, stamps_of, NeverFall}
use Rattle.segment_bytes.specs.Segments.{segment_of}
use Rattle.index_tree.specs.declared.index.Slot.{Slot}
use Rattle.index_tree.specs.declared.index.Index.{Index}
use Rattle.frame_core.specs.Parts.{has_column}
use Rattle.index_tree.specs.Covering.{covers, has_one, shares_stamps}
use Rattle.segment_cut.specs.Tiles.{Tile, Tiled, LiesIn, cut, has_row, has_cell}
use Rattle.bucket_core.specs.History.{History}
use Rattle.store_model.specs.declared.chain.LinkRow.{LinkRow}
use Rattle.store_model.specs.Library.{Version, state_of}
use Rattle.store_model.specs.Links.{Linked, linked, links, frame_put, tiles_put, with_tile}
use Rattle.store_model.specs.Commits.{HasSlotStamps}
use Rattle.store_model.specs.Intact.{IsLinkOf}
use Rattle.store_model.proofs.Lawful.{lawful_is_intact, lawful_as_put}
use Rattle.store_model.proofs.Lists.{contains_first, contains_later, contains_cases, contains_none, filter_in, in_filter, passes}
use Rattle.store_model.proofs.PlainLinks.{linked_parts}
use Rattle.frame_read.specs.declared.tiles.FetchedTile.{FetchedTile}
use Rattle.reply_model.specs.ReadAnswers.{is_asked, places_asked}
use Rattle.frame_read.specs.TileSets.{IsAskedSchema, IsGot}
use Rattle.frame_read.specs.Wholes.{HoldsPart, FetchedIsFrame}
use Rattle.frame_read.proofs.StampLemmas.{IsStamped, lawful_is_stamped}
use Rattle.frame_read.proofs.SliceLemmas.{row_shares}
use Rattle.frame_read.proofs.PlaceLemmas.{where_in, places_where_below}

-- ---- the version of a link

-- the link's tiles are the version's frame, and its slots have the stamps of their rows
abbrev pub IsWhole : Linked → Version → Type 0
IsWhole l v = IsLinkOf l v × IsStamped l v

pub both : (ls : List Linked) (vs : List Version) → AllZip IsLinkOf ls vs → AllZip IsStamped ls vs → AllZip IsWhole ls vs
both [] [] a b = tt
both [] (v ∷ vs) a b = absurd a
both (l ∷ ls) [] a b = absurd a
both (l ∷ ls) (v ∷ vs) a b = ((a.0, b.0), both ls vs a.1 b.1)

pub version_of : (ls : List Linked) (vs : List Version) → AllZip IsWhole ls vs → (l : Linked) → Contains ls l → (v : Version) × Contains vs v × IsWhole l v
version_of [] vs z l there = absurd (contains_none l there)
version_of (m ∷ ls) [] z l there = absurd z
version_of (m ∷ ls) (v ∷ vs) z l there = elim (contains_cases l m ls there) [
  | inl is ↦ (v, contains_first v vs, subst (λ x. IsWhole x v) is z.0)
  | inr later ↦ let r = version_of ls vs z.1 l later in (r.0, contains_later r.0 v vs r.1, r.2)
]

-- ---- slots and tiles as they were put

put_parts : (part : Part) (f : Option Frame) (rest : Option (List Tile)) (tiles : List Tile) → with_tile part f rest ≡ Some tiles
    → (frame : Frame) × (more : List Tile) × (f ≡ Some frame) × (rest ≡ Some more) × ((part, frame) ∷ more ≡ tiles)
put_parts part None rest tiles e = absurd cc
put_parts part (Some frame) None tiles e = absurd cc
put_parts part (Some frame) (Some more) tiles e = (frame, more, refl, refl, some_same e)
  where
    some_same : {x y : List Tile} → Some x ≡ Some y → x ≡ y
    some_same e = cc

pub slot_frame : (h : History) (slots : List Slot) (tiles : List Tile) → tiles_put h slots ≡ Some tiles → (s : Slot) → Contains slots s → (f : Frame) × (frame_put h s.key ≡ Some f) × Contains tiles (s.part, f)
slot_frame h [] tiles e s there = absurd (contains_none s there)
slot_frame h (m ∷ slots) tiles e s there =
    let r = put_parts m.part (frame_put h m.key) (tiles_put h slots) tiles e in
    elim (contains_cases s m slots there) [
      | inl is ↦ subst (λ (x : Slot). (f : Frame) × (frame_put h x.key ≡ Some f) × Contains tiles (x.part, f)) is
          (r.0, r.2, subst (λ (ts : List Tile). Contains ts (m.part, r.0)) r.4 (contains_first (m.part, r.0) r.1))
      | inr later ↦
          let rest = slot_frame h slots r.1 r.3 s later in
          (rest.0, rest.1, subst (λ (ts : List Tile). Contains ts (s.part, rest.0)) r.4 (contains_later (s.part, rest.0) (m.part, r.0) r.1 rest.2))
    ]

tile_slot : (h : History) (slots : List Slot) (tiles : List Tile) → tiles_put h slots ≡ Some tiles → (t : Tile) → Contains tiles t → (s : Slot) × Contains slots s × (s.part ≡ t.0)
tile_slot h [] tiles e t there = absurd (contains_none t (subst (λ (ts : List Tile). Contains ts t) (sym (some_same e)) there))
  where
    some_same : {x y : List Tile} → Some x ≡ Some y → x ≡ y
    some_same e = cc
tile_slot h (m ∷ slots) tiles e t there =
    let r = put_parts m.part (frame_put h m.key) (tiles_put h slots) tiles e in
    elim (contains_cases t (m.part, r.0) r.1 (subst (λ (ts : List Tile). Contains ts t) (sym r.4) there)) [
      | inl is ↦ (m, contains_first m slots, ap (λ (x : Tile). x.0) is)
      | inr later ↦ let rest = tile_slot h slots r.1 r.3 t later in (rest.0, contains_later rest.0 m slots rest.1, rest.2)
    ]

-- the tiles of a link are what was put under the keys of its slots
pub linked_tiles : (h : History) (row : LinkRow) (l : Linked) → linked h row ≡ Some l → tiles_put h l.index.slots ≡ Some l.tiles
linked_tiles h row l e = (linked_parts h row l e).tiles

-- ---- fetched tiles

abbrev ok_frame : Frame → Result Frame ℕ
ok_frame f = Ok f

read_ok : (r : Result Frame ℕ) (f : Frame) → read_of r ≡ Some f → r ≡ Ok f
read_ok (Ok g) f e = cc
read_ok (Err n) f e = absurd cc

pub held : (h : History) (frame f : Frame) (s : Slot) (tile : FetchedTile) → IsGot h s tile → frame_put h s.key ≡ Some f → f ≡ cut frame s.part → HoldsPart frame tile
held h frame f s tile got put is =
    read_ok (segment_of (arc_value tile.body)) f (sym (ap (λ o. option_and_then (λ body. read_of (segment_of body)) o) got.body) ∙ put)
    ∙ ap ok_frame (is ∙ ap (λ part. cut frame part) (sym got.part))

held_all : (h : History) (frame : Frame) (slots : List Slot) (got : List FetchedTile) → ((s : Slot) (tile : FetchedTile) → Contains slots s → IsGot h s tile → HoldsPart frame tile) → AllZip (IsGot h) slots got
    → AllByRecursion (HoldsPart frame) got
held_all h frame [] [] each z = tt
held_all h frame [] (t ∷ got) each z = absurd z
held_all h frame (s ∷ slots) [] each z = absurd z
held_all h frame (s ∷ slots) (t ∷ got) each z =
    (each s t (contains_first s slots) z.0, held_all h frame slots got (λ x tile there is. each x tile (contains_later x s slots there) is) z.1)

any_got : (p : Part → Bool) (h : History) (slots : List Slot) (got : List FetchedTile) → AllZip (IsGot h) slots got → (s : Slot) → Contains slots s → p s.part ≡ true → list_any (λ (tile : FetchedTile). p tile.part) got ≡ true
any_got p h [] got z s there e = absurd (contains_none s there)
any_got p h (m ∷ slots) [] z s there e = absurd z
any_got p h (m ∷ slots) (t ∷ got) z s there e = elim (contains_cases s m slots there) [
  | inl is ↦ or_left (p t.part) (list_any (λ (tile : FetchedTile). p tile.part) got) (ap p (z.0.part ∙ ap (λ (x : Slot). x.part) is) ∙ e)
  | inr later ↦ or_right (p t.part) (list_any (λ (tile : FetchedTile). p tile.part) got) (any_got p h slots got z.1 s later e)
]

-- ---- counts and places

some_in : {X : Type 0} (xs : List X) → 1 ≤ length xs → (x : X) × Contains xs x
some_in [] le = absurd (omega (arith, le))
some_in (x ∷ xs) le = (x, contains_first x xs)

count_some : {X : Type 0} (p : X → Bool) (xs : List X) → 1 ≤ count_by p xs → (x : X) × Contains xs x × (p x ≡ true)
count_some p xs le =
    let found = some_in (filter p xs) (subst (λ (n : ℕ). 1 ≤ n) (sym (length-filter p xs)) le) in
    let there = filter_in p xs found.0 found.1 in
    (found.0, there.0, there.1)

get_below : {X : Type 0} (xs : List X) (k : ℕ) (x : X) → slice_get xs k ≡ Some x → k < length xs
get_below [] k x e = absurd cc
get_below (y ∷ ys) zero x e = omega arith
get_below (y ∷ ys) (suc k) x e = let rest : k < length ys = get_below ys k x e in omega (arith, rest)

stamp_below : (rows : List Row) (k : ℕ) (t : ℤ) → option_map (λ (r : Row). r.stamp) (slice_get rows k) ≡ Some t → k < length rows
stamp_below [] k t e = absurd cc
stamp_below (r ∷ rows) zero t e = omega arith
stamp_below (r ∷ rows) (suc k) t e = let rest : k < length rows = stamp_below rows k t e in omega (arith, rest)

-- a cell is in a row and in a column
cell_parts : (b c d : Bool) → (b && c && d) ≡ true → (b ≡ true) × ((c && d) ≡ true)
cell_parts true true true e = (refl, refl)
cell_parts true true false e = absurd (true≢false (sym e))
cell_parts true false d e = absurd (true≢false (sym e))
cell_parts false c d e = absurd (true≢false (sym e))

one_had : (places : List ℕ) (part : Part) (column : ℕ) → Contains places column → has_column part column ≡ true → has_one places part ≡ true
one_had [] part column there had = absurd (contains_none column there)
one_had (p ∷ ps) part column there had = passes (has_column part) (p ∷ ps) column there had

module _ (h : History) (frame : Frame) (slots : List Slot) (tiles : List Tile) (put : tiles_put h slots ≡ Some tiles) (tiled : Tiled frame tiles) (stamps : AllByRecursion (HasSlotStamps frame) slots)
    (rising : NeverFall (stamps_of frame.rows)) (range : Range) (places : List ℕ) (below : AllByRecursion (λ (p : ℕ). p < length frame.schema.columns) places)
    (got : List FetchedTile) (is_got : AllZip (IsGot h) (filter (covers range places) slots) got) where
  inside : (s : Slot) → Contains slots s → LiesIn frame s.part
  inside s there =
      let r = slot_frame h slots tiles put s there in
      All-contains (λ (t : Tile). LiesIn frame t.0) tiles (s.part, r.0) (All-from_recursion (λ (t : Tile). LiesIn frame t.0) tiles tiled.inside) r.2

  parts_held : AllByRecursion (HoldsPart frame) got
  parts_held = held_all h frame (filter (covers range places) slots) got (λ s tile there is.
      let r = slot_frame h slots tiles put s (filter_in (covers range places) slots s there).0 in
      held h frame r.0 s tile is r.1 (All-contains (λ (t : Tile). t.1 ≡ cut frame t.0) tiles (s.part, r.0) (All-from_recursion (λ (t : Tile). t.1 ≡ cut frame t.0) tiles tiled.parts) r.2)) is_got

  -- a slot that has a row of the range, and one of the columns, is among those that were got
  slot_got : (s : Slot) → Contains slots s → (row : ℕ) (t : ℤ) → stamp_at frame row ≡ Some t → is_within range t ≡ true → has_row s.part row ≡ true → has_one places s.part ≡ true → Contains (filter (covers range places) slots) s
  slot_got s there row t stamp within here one = in_filter (covers range places) slots s there
      (and_from (shares_stamps range s) (has_one places s.part)
      (row_shares frame range s row t rising (All-contains (HasSlotStamps frame) slots s (All-from_recursion (HasSlotStamps frame) slots stamps) there) (inside s there).0 here stamp within) one)

  -- the slot of a cell
  cell_slot : (row column : ℕ) → row < length frame.rows → column < length frame.schema.columns → (s : Slot) × Contains slots s × (has_cell s.part row column ≡ true)
  cell_slot row column low high =
      let one : 1 ≤ count_by (λ (t : Tile). has_cell t.0 row column) tiles = omega (arith, tiled.cells row column low high) in
      let found = count_some (λ (t : Tile). has_cell t.0 row column) tiles one in
      let r = tile_slot h slots tiles put found.0 found.1 in
      (r.0, r.1, ap (λ part. has_cell part row column) r.2 ∙ found.2)

  cell_got : (row column : ℕ) (t : ℤ) → stamp_at frame row ≡ Some t → is_within range t ≡ true → column < length frame.schema.columns → Contains places column
      → (s : Slot) × Contains (filter (covers range places) slots) s × (has_cell s.part row column ≡ true)
  cell_got row column t stamp within high asked =
      let r = cell_slot row column (stamp_below frame.rows row t stamp) high in
      let parts = cell_parts (has_row r.0.part row) (nat_le r.0.part.first_col column) (nat_lt column (r.0.part.first_col + r.0.part.cols)) r.2 in
      (r.0, slot_got r.0 r.1 row t stamp within parts.0 (one_had places r.0.part column asked parts.1), r.2)

  -- a slot of the first slice, where no column is asked
  first_slot : (row : ℕ) (t : ℤ) → stamp_at frame row ≡ Some t → (n : ℕ) → length frame.schema.columns ≡ n → (s : Slot) × Contains slots s × (has_row s.part row ≡ true) × (s.part.first_col ≡ 0)
  first_slot row t stamp zero none =
      let found = count_some (λ (t : Tile). has_row t.0 row) tiles (tiled.rows row (stamp_below frame.rows row t stamp)) in
      let r = tile_slot h slots tiles put found.0 found.1 in
      let lies = (inside r.0 r.1).1 in
      (r.0, r.1, ap (λ part. has_row part row) r.2 ∙ found.2, omega (arith, lies, none))
  first_slot row t stamp (suc n) some =
      let r = cell_slot row 0 (stamp_below frame.rows row t stamp) (omega (arith, some)) in
      let parts = cell_parts (has_row r.0.part row) (nat_le r.0.part.first_col 0) (nat_lt 0 (r.0.part.first_col + r.0.part.cols)) r.2 in
      let first = leb-true r.0.part.first_col 0 (and_parts _ _ parts.1).0 in
      (r.0, r.1, parts.0, omega (arith, first))

  row_got : (row : ℕ) (t : ℤ) → stamp_at frame row ≡ Some t → is_within range t ≡ true → list_any (λ (tile : FetchedTile). has_row tile.part row) got ≡ true
  row_got row t stamp within = by places refl
    where
      by : (asked : List ℕ) → places ≡ asked → list_any (λ (tile : FetchedTile). has_row tile.part row) got ≡ true
      by [] none =
          let r = first_slot row t stamp (length frame.schema.columns) refl in
          any_got (λ part. has_row part row) h (filter (covers range places) slots) got is_got r.0
          (slot_got r.0 r.1 row t stamp within r.2 (ap (λ ps. has_one ps r.0.part) none ∙ eq-eqb r.0.part.first_col 0 r.3)) r.2
      by (p ∷ ps) some =
          let there : Contains places p = subst (λ (xs : List ℕ). Contains xs p) (sym some) (contains_first p ps) in
          let high : p < length frame.schema.columns = All-contains (λ (q : ℕ). q < length frame.schema.columns) places p (All-from_recursion (λ (q : ℕ). q < length frame.schema.columns) places below) there in
          let r = cell_got row p t stamp within high there in
          let parts = cell_parts (has_row r.0.part row) (nat_le r.0.part.first_col p) (nat_lt p (r.0.part.first_col + r.0.part.cols)) r.2 in
          any_got (λ part. has_row part row) h (filter (covers range places) slots) got is_got r.0 r.1 parts.0

-- ---- the whole

pub fetched_is_frame : FetchedIsFrame
fetched_is_frame h lawful target range columns fetched f =
    let link = f.index_is.link in
    let found = version_of (links h target.symbol) (state_of h target.symbol).versions
    (both (links h target.symbol) (state_of h target.symbol).versions ((lawful_is_intact h lawful).versions target.symbol) (lawful_is_stamped h lawful target.symbol)) link f.index_is.link_is in
    let v = found.0 in
    let whole = found.2 in
    let same : f.index ≡ link.index = sym f.index_is.is in
    let put : tiles_put h link.index.slots ≡ Some link.tiles = linked_tiles h link.row link ((lawful_as_put h lawful).links target.symbol link f.index_is.link_is) in
    let rising : NeverFall (stamps_of v.frame.rows) = whole.1.storable.is_frame.ascending in
    let schema : f.index.schema ≡ v.frame.schema = ap (λ (i : Index). i.schema) same ∙ whole.0.schema in
    let places = places_asked columns f.index in
    let below : AllByRecursion (λ (p : ℕ). p < length v.frame.schema.columns) places =
    subst (λ (heads : List Head). AllByRecursion (λ (p : ℕ). p < length heads) places) (ap (λ s. s.columns) schema) (places_where_below (λ (head : Head). is_asked columns head.0) f.index.schema.columns) in
    let got : AllZip (IsGot h) (filter (covers range places) link.index.slots) fetched.tiles = subst (λ (i : Index). AllZip (IsGot h) (filter (covers range places) i.slots) fetched.tiles) same f.got in
    record {
      version = v;
      version_is = found.1;
      number = sym whole.0.number ∙ f.index_is.number;
      is_frame = whole.1.storable.is_frame;
      tiles_of = record {
        range_is = f.range_is;
        schema = subst (λ s. IsAskedSchema s columns fetched.schema) schema f.schema;
        parts = parts_held h v.frame link.index.slots link.tiles put whole.0.assembled whole.1.stamps rising range places below fetched.tiles got;
        rows = row_got h v.frame link.index.slots link.tiles put whole.0.assembled whole.1.stamps rising range places below fetched.tiles got;
        cells = λ row column t head stamp within here asked.
            let there : Contains places column = where_in (λ (head : Head). is_asked columns head.0) f.index.schema.columns column head (ap (λ s. slice_get s.columns column) schema ∙ here) asked in
            let r = cell_got h v.frame link.index.slots link.tiles put whole.0.assembled whole.1.stamps rising range places below fetched.tiles got row column t stamp within (get_below v.frame.schema.columns column head here) there in
            any_got (λ part. has_cell part row column) h (filter (covers range places) link.index.slots) fetched.tiles got r.0 r.1 r.2;
      };
    }
