-- A Refer of a whole new frame may be tried: once its tiles, its index and its element are put, it may follow, or the reference has moved on.
use Rattle.std.proofs.Common.{◌≡◌, ℕ, ◌<◌, true, false, List, [], ◌∷◌, ◌++◌, refl, ap, sym, ◌∙◌, subst, inl, inr, Option, Some, None, cond}
use Rattle.std.proofs.lemmas.Bool.{eq-eqb}
use Rattle.key_kind.specs.declared.key.KeyKind.TheVariants as kinds
use Rattle.std.specs.Prelude.{ℤ, is_some, map, reverse, length, option_map, option_and_then}
use Rattle.std.specs.List.{list_any, AllByRecursion}
use Rattle.byte_fields.specs.Reading.{read_of}
use Rattle.frame_core.specs.Frames.{Frame}
use Rattle.frame_core.specs.Limits.{IsStorable}
use Rattle.segment_bytes.specs.Segments.{segment_of}
use Rattle.segment_cut.specs.Tiles.{Tile, cut}
use Rattle.index_tree.specs.declared.index.Slot.{Slot}
use Rattle.index_tree.specs.declared.index.Index.{Index}
use Rattle.index_tree.specs.declared.page.Root.{Root}
use Rattle.index_tree.specs.declared.page.IndexObject.TheVariants as objects
use Rattle.index_tree.specs.PageText.{object_of}
use Rattle.index_tree.specs.PageRules.{Page}
use Rattle.key_kind.specs.declared.key.Key.{Key}
use Rattle.key_kind.specs.Names.{Name}
use Rattle.key_kind.specs.Keys.{same_key}
use Rattle.bucket_core.specs.declared.event.Change.{Change}
use Rattle.bucket_core.specs.declared.event.Change.TheVariants as changes
use Rattle.bucket_core.specs.History.{History, Bytes, body_put, reference}
use Rattle.bucket_core.specs.Laws.{refers}
use Rattle.bucket_core.specs.Calls.{HasMovedOn, MayTryRefer}
use Rattle.store_model.specs.declared.chain.LinkRow.{LinkRow}
use Rattle.store_model.specs.ChainText.{entry_of}
use Rattle.store_model.specs.Library.{State, Version, Piece, state_of, live_versions, next_number, version_of}
use Rattle.store_model.specs.Links.{linked, frame_put, paged_index, page_slots_of, object_put, page_in, with_page, pages_put, whole_index, index_put, tiles_put, with_tile, entries}
use Rattle.store_model.specs.Commits.{MayRefer, FitsLink, FitsChange, IsNewIndex, MayNameKey, HasSlotStamps, making, Buries, no_tombs, some_tombs, no_pieces, BuriesAll, marks_of}
use Rattle.store_model.specs.Law.{IsClaimed}
use Rattle.store_model.specs.OwnPuts.{IsOwnPut, IsPutSlot, IsPutPage, IsPutLink, IsPutEntry, SpellsIndex, whole, rooted, root_with, pages_of, BuriesLive, buries_none, buries_live, slots_of}
use Rattle.store_model.proofs.Numbering.{versions_numbered, live_may_be_buried}
use Rattle.store_model.proofs.Untouched.{as_it_was}
use Rattle.store_model.proofs.StableRefer.{staging}

-- what is read of a body that was put
read_put : {A : Type 0} (f : Bytes → Option A) (o : Option Bytes) (body : Bytes) (a : A) → o ≡ Some body → f body ≡ Some a → option_and_then f o ≡ Some a
read_put f o body a put is = ap (option_and_then f) put ∙ is

-- the parts of a frame, as tiles
abbrev parts_of : Frame → List Slot → List Tile
parts_of frame slots = map (λ (s : Slot). (s.part, cut frame s.part)) slots

module _ (h : History) (client : ℕ) (symbol : Name) (frame : Frame) where
  tiles_are_put : (version : ℕ) (ws : List (Slot × Bytes)) → AllByRecursion (IsPutSlot h client version symbol frame) ws → tiles_put h (slots_of ws) ≡ Some (parts_of frame (slots_of ws))
  tiles_are_put version [] all = refl
  tiles_are_put version (w ∷ ws) all =
      let one : frame_put h w.0.key ≡ Some (cut frame w.0.part) = read_put (λ body. read_of (segment_of body)) (body_put h w.0.key) w.1 (cut frame w.0.part) all.0.own.put (ap read_of all.0.spelled) in
      let rest : tiles_put h (slots_of ws) ≡ Some (parts_of frame (slots_of ws)) = tiles_are_put version ws all.1 in
      λ i. with_tile w.0.part (one i) (rest i)

  slot_keys : (version : ℕ) (ws : List (Slot × Bytes)) → AllByRecursion (IsPutSlot h client version symbol frame) ws → AllByRecursion (λ (s : Slot). MayNameKey h client version symbol s.key) (slots_of ws)
  slot_keys version [] all = tt
  slot_keys version (w ∷ ws) all = (
    record {
      kind = all.0.kind;
      name = all.0.name;
      stands = ap is_some all.0.own.stands;
      fresh_or_shared = inl (record { own = all.0.own.unlinked.own; made_for = all.0.made_for; unreached = all.0.own.unlinked.unreached });
    },
    slot_keys version ws all.1,
  )

  slot_stamps : (version : ℕ) (ws : List (Slot × Bytes)) → AllByRecursion (IsPutSlot h client version symbol frame) ws → AllByRecursion (HasSlotStamps frame) (slots_of ws)
  slot_stamps version [] all = tt
  slot_stamps version (w ∷ ws) all = (all.0.stamps, slot_stamps version ws all.1)

  pages_are_put : (row : LinkRow) (ws : List (Page × Bytes)) → AllByRecursion (IsPutPage h client symbol row) ws → pages_put h (map (λ (p : Page). p.row) (pages_of ws)) ≡ Some (pages_of ws)
  pages_are_put row [] all = refl
  pages_are_put row (w ∷ ws) all =
      let found : object_put h w.0.row.key ≡ Some (objects.Page w.0.slots) = read_put (λ body. read_of (object_of body)) (body_put h w.0.row.key) w.1 (objects.Page w.0.slots) all.0.own.put (ap read_of all.0.spelled) in
      let one : option_and_then page_in (object_put h w.0.row.key) ≡ Some w.0.slots = ap (option_and_then page_in) found in
      let rest : pages_put h (map (λ (p : Page). p.row) (pages_of ws)) ≡ Some (pages_of ws) = pages_are_put row ws all.1 in
      λ i. with_page w.0.row (one i) (rest i)

  -- a root with its pages is its index
  root_is_whole : (r : Root) (pages : List Page) (slots : List Slot) → r.slots ≡ length slots → page_slots_of pages ≡ slots
      → paged_index r pages ≡ Some (record { pages = pages; index = record { schema = r.schema; rows = r.rows; slots = slots } })
  root_is_whole r pages slots count same =
      ap (λ b. cond b (Some (record { pages = pages; index = record { schema = r.schema; rows = r.rows; slots = page_slots_of pages } })) None) (eq-eqb (length (page_slots_of pages)) r.slots (ap length same ∙ sym count))
      ∙ ap (λ s. Some (record { pages = pages; index = record { schema = r.schema; rows = r.rows; slots = s } })) same

  whole_is_put : (body : Bytes) (i : Index) (pages : List Page) → SpellsIndex body i pages → pages_put h (map (λ (p : Page). p.row) pages) ≡ Some pages
      → option_and_then (whole_index h) (read_of (object_of body)) ≡ Some (record { pages = pages; index = i })
  whole_is_put body i _ (whole is) put = ap (λ r. option_and_then (whole_index h) (read_of r)) is
  whole_is_put body i _ (rooted {pages = pages} is same) put =
      ap (λ r. option_and_then (whole_index h) (read_of r)) is ∙ (ap (option_and_then (paged_index (root_with i pages))) put ∙ root_is_whole (root_with i pages) pages i.slots refl same)

  -- the link of what was put
  link_is_put : (row : LinkRow) (p : IsPutLink h client symbol frame row) → linked h row ≡ Some (record { row = row; pages = pages_of p.pages; index = p.index; tiles = parts_of frame (slots_of p.slots) })
  link_is_put row p =
      let found : index_put h row.index ≡ Some (record { pages = pages_of p.pages; index = p.index }) =
      ap (λ o. option_and_then (whole_index h) (option_and_then (λ body. read_of (object_of body)) o)) p.own.put ∙ whole_is_put p.body p.index (pages_of p.pages) p.spelled (pages_are_put row p.pages p.each_page) in
      let tiles : tiles_put h p.index.slots ≡ Some (parts_of frame (slots_of p.slots)) = ap (tiles_put h) p.slots_are ∙ tiles_are_put row.version p.slots p.each in
      ap (λ o. option_and_then (λ i. option_map (λ t. record { row = row; pages = i.pages; index = i.index; tiles = t }) (tiles_put h i.index.slots)) o) found
      ∙ ap (option_map (λ t. record { row = row; pages = pages_of p.pages; index = p.index; tiles = t })) tiles

  -- own keys of an index and of pages are new ones
  new_index : (version : ℕ) (key : Key) (body : Bytes) → key.kind ≡ kinds.TableIndex → key.name ≡ symbol → key.version ≡ version → IsOwnPut h client key body → IsNewIndex h client version symbol key
  new_index version key body kind name made_for own = record {
    kind = kind;
    name = name;
    stands = ap is_some own.stands;
    fresh = record { own = own.unlinked.own; made_for = made_for; unreached = own.unlinked.unreached };
  }

  new_pages : (row : LinkRow) (ws : List (Page × Bytes)) → AllByRecursion (IsPutPage h client symbol row) ws → AllByRecursion (λ (p : Page). IsNewIndex h client row.version symbol p.row.key) (pages_of ws)
  new_pages row [] all = tt
  new_pages row (w ∷ ws) all = (new_index row.version w.0.row.key w.1 all.0.kind all.0.name all.0.made_for all.0.own, new_pages row ws all.1)

  pages_before : (row : LinkRow) (ws : List (Page × Bytes)) → AllByRecursion (IsPutPage h client symbol row) ws → AllByRecursion (λ (p : Page). p.row.key.serial < row.index.serial) (pages_of ws)
  pages_before row [] all = tt
  pages_before row (w ∷ ws) all = (all.0.before, pages_before row ws all.1)

  -- it fits the version
  pub put_link_fits : (row : LinkRow) (v : Version) → v.frame ≡ frame → row.version ≡ v.number → row.stamp ≡ v.stamp → row.rows ≡ length frame.rows → IsStorable frame
      → IsPutLink h client symbol frame row → FitsLink h client symbol row v
  put_link_fits row v is number stamp rows storable p = subst (λ f. FitsLink h client symbol row (record v { frame = f })) (sym is) (record {
    number = number;
    stamp = stamp;
    rows = rows;
    storable = storable;
    new_index = new_index row.version row.index p.body p.kind p.name p.made_for p.own;
    index_stamps = p.index_stamps;
    link = record { row = row; pages = pages_of p.pages; index = p.index; tiles = parts_of frame (slots_of p.slots) };
    link_is = link_is_put row p;
    new_pages = new_pages row p.pages p.each_page;
    pages_before = pages_before row p.pages p.each_page;
    pages_fit = p.pages_fit;
    schema = p.schema;
    index_rows = p.index_rows;
    keys = subst (AllByRecursion (λ (s : Slot). MayNameKey h client row.version symbol s.key)) (sym p.slots_are) (slot_keys row.version p.slots p.each);
    tiled = p.tiled;
    stamps = subst (AllByRecursion (HasSlotStamps frame)) (sym p.slots_are) (slot_stamps row.version p.slots p.each);
  })

-- what is buried beside a new version
buried_form : (st : State) (rest : List Change) → BuriesLive st rest → Buries rest
buried_form st _ buries_none = no_tombs no_pieces
buried_form st _ (buries_live some) = some_tombs (reverse (map (λ (v : Version). v.number) (live_versions st))) no_pieces

buried_all : (st : State) (frame : Frame) (at : ℤ) (rest : List Change) → BuriesLive st rest → BuriesAll st (changes.Wrote frame at ∷ rest)
buried_all st frame at _ buries_none = tt
buried_all st frame at _ (buries_live some) = refl

buried_fits : (h : History) (client : ℕ) (symbol : Name) (row : LinkRow) (rest : List Change) → BuriesLive (state_of h symbol) rest → AllByRecursion (FitsChange h client symbol row) rest
buried_fits h client symbol row _ buries_none = tt
buried_fits h client symbol row _ (buries_live some) = ((tt, live_may_be_buried (state_of h symbol) (versions_numbered h symbol) some), tt)

-- once all is put, a Refer of the new frame may follow
pub wrote_may_follow : (h : History) (client : ℕ) (symbol : Name) (frame : Frame) (at : ℤ) (was : Option Key) (entry : Key) (rest : List Change) (row : LinkRow)
    → IsStorable frame → row.version ≡ next_number (state_of h symbol) → row.stamp ≡ at → row.rows ≡ length frame.rows → BuriesLive (state_of h symbol) rest
    → IsPutLink h client symbol frame row → IsPutEntry h client symbol entry (record { prev = was; changes = marks_of row (changes.Wrote frame at ∷ rest) })
    → MayRefer h client symbol was entry (changes.Wrote frame at ∷ rest)
wrote_may_follow h client symbol frame at was entry rest row storable number stamp rows buries p e = record {
  kind = e.kind;
  name = e.name;
  own = e.own.unlinked.own;
  stands = ap is_some e.own.stands;
  fresh = subst (λ s. list_any (λ k. same_key k entry) (entries h s) ≡ false) e.name e.own.unlinked.no_entry;
  how = inl (record {
    form = making (changes.Wrote frame at) refl (buried_form (state_of h symbol) rest buries);
    row = row;
    spelled = read_put (λ body. read_of (entry_of body)) (body_put h entry) e.body _ e.own.put (ap read_of e.spelled);
    fits = ((put_link_fits h client symbol frame row (version_of (state_of h symbol) at frame) refl number stamp rows storable p, tt), buried_fits h client symbol row rest buries);
    prunes = buried_all (state_of h symbol) frame at rest buries;
  });
}

-- what is buried does not depend on what is staged
buries_staging : (st : State) (more : List Piece) (rest : List Change) → BuriesLive st rest → BuriesLive (staging more st) rest
buries_staging st more _ buries_none = buries_none
buries_staging st more _ (buries_live some) = buries_live some

-- the Refer was prepared at an earlier place: it may follow, or the reference has moved on
pub wrote_may_be_tried : (before more : History) (client : ℕ) (symbol : Name) (frame : Frame) (at : ℤ) (entry : Key) (rest : List Change) (row : LinkRow)
    → (list_any (refers symbol) more ≡ true → HasMovedOn (more ++ before) symbol (reference before symbol))
    → IsStorable frame → row.version ≡ next_number (state_of before symbol) → row.stamp ≡ at → row.rows ≡ length frame.rows → BuriesLive (state_of before symbol) rest
    → IsPutLink (more ++ before) client symbol frame row
    → IsPutEntry (more ++ before) client symbol entry (record { prev = reference before symbol; changes = marks_of row (changes.Wrote frame at ∷ rest) })
    → MayTryRefer IsClaimed (more ++ before) client symbol (reference before symbol) entry (changes.Wrote frame at ∷ rest)
wrote_may_be_tried before more client symbol frame at entry rest row moved storable number stamp rows buries p e =
    elim (list_any (refers symbol) more) as (λ t. list_any (refers symbol) more ≡ t → MayTryRefer IsClaimed (more ++ before) client symbol (reference before symbol) entry (changes.Wrote frame at ∷ rest)) [
      | true ↦ λ referred. inr (moved referred)
      | false ↦ λ unreferred.
          let same = as_it_was before more symbol unreferred in
          let next : row.version ≡ next_number (state_of (more ++ before) symbol) = number ∙ sym (ap next_number same.state_is) in
          let burying : BuriesLive (state_of (more ++ before) symbol) rest = subst (λ st. BuriesLive st rest) (sym same.state_is) (buries_staging (state_of before symbol) same.more rest buries) in
          inl (same.reference_is, wrote_may_follow (more ++ before) client symbol frame at (reference before symbol) entry rest row storable next stamp rows burying p e)
    ] refl
