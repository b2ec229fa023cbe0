-- A Refer of any change that makes a version: once the link and the element are there, it may follow.
use Rattle.std.proofs.Common.{◌≡◌, ℕ, true, false, List, [], ◌∷◌, refl, ap, sym, ◌∙◌, subst, Option, Some, inl}
use Rattle.std.specs.Prelude.{is_some, map, reverse, length, option_and_then, IfSome}
use Rattle.std.specs.List.{list_any, AllByRecursion}
use Rattle.std.specs.Prelude.{Ok}
use Rattle.byte_fields.specs.Reading.{read_of}
use Rattle.frame_core.specs.Frames.{Frame}
use Rattle.frame_core.specs.Limits.{IsStorable}
use Rattle.segment_cut.specs.Tiles.{Tile, Tiled, cut}
use Rattle.index_tree.specs.declared.index.Slot.{Slot}
use Rattle.index_tree.specs.declared.index.Index.{Index}
use Rattle.index_tree.specs.IndexText.{index_of}
use Rattle.key_kind.specs.declared.key.KeyKind.TheVariants as kinds
use Rattle.key_kind.specs.declared.key.Key.{Key}
use Rattle.key_kind.specs.Names.{Name}
use Rattle.key_kind.specs.Keys.{same_key}
use Rattle.bucket_core.specs.declared.event.Change.{Change}
use Rattle.bucket_core.specs.declared.event.Change.TheVariants as changes
use Rattle.bucket_core.specs.History.{History, Bytes, body_put}
use Rattle.store_model.specs.declared.chain.LinkRow.{LinkRow}
use Rattle.store_model.specs.ChainText.{entry_of}
use Rattle.store_model.specs.Library.{State, Version, Piece, state_of, live_versions, new_version}
use Rattle.store_model.specs.Links.{frame_put, tiles_put, with_tile, entries}
use Rattle.store_model.specs.Commits.{MayRefer, FitsLink, FitsMark, FitsChange, MayNameKey, HasFrameStamps, HasSlotStamps, making, Buries, no_tombs, some_tombs, no_pieces, BuriesAll, is_version, marks_of}
use Rattle.store_model.specs.OwnPuts.{IsOwnPut, IsPutEntry, BuriesLive, buries_none, buries_live}
use Rattle.store_model.proofs.Numbering.{versions_numbered, live_may_be_buried}
use Rattle.store_model.proofs.StableRefer.{staging}
use Rattle.store_model.proofs.PlainLinks.{flat_is_put, flat_linked}
use Rattle.frame_write.specs.Links.{IsInOrder}

-- what is read of a body that was put
pub read_put : {A : Type 0} (f : Bytes → Option A) (o : Option Bytes) (body : Bytes) (a : A) → o ≡ Some body → f body ≡ Some a → option_and_then f o ≡ Some a
read_put f o body a put is = ap (option_and_then f) put ∙ is

-- ---- the link

-- the parts of a frame, as tiles
abbrev pub tiles_at : Frame → List Slot → List Tile
tiles_at frame slots = map (λ (s : Slot). (s.part, cut frame s.part)) slots

-- an index that the client has put under the row's key; each of its slots is a tile of the frame that stands
pub record IsLinkIn (h : History) (client : ℕ) (symbol : Name) (frame : Frame) (row : LinkRow) : Type 0 where
  pub kind : row.index.kind ≡ kinds.TableIndex
  pub name : row.index.name ≡ symbol
  pub made_for : row.index.version ≡ row.version
  pub index_stamps : HasFrameStamps frame row.index
  pub body : Bytes
  pub own : IsOwnPut h client row.index body
  pub index : Index
  pub spelled : index_of body ≡ Ok index
  pub schema : index.schema ≡ frame.schema
  pub index_rows : index.rows ≡ length frame.rows
  pub puts : AllByRecursion (λ (s : Slot). frame_put h s.key ≡ Some (cut frame s.part)) index.slots
  pub keys : AllByRecursion (λ (s : Slot). MayNameKey h client row.version symbol s.key) index.slots
  pub stamps : AllByRecursion (HasSlotStamps frame) index.slots
  pub tiled : Tiled frame (tiles_at frame index.slots)

frames_put : (h : History) (frame : Frame) (slots : List Slot) → AllByRecursion (λ (s : Slot). frame_put h s.key ≡ Some (cut frame s.part)) slots → tiles_put h slots ≡ Some (tiles_at frame slots)
frames_put h frame [] all = refl
frames_put h frame (s ∷ slots) all =
    let rest : tiles_put h slots ≡ Some (tiles_at frame slots) = frames_put h frame slots all.1 in
    λ i. with_tile s.part (all.0 i) (rest i)

-- the link fits the version
pub link_fits : (h : History) (client : ℕ) (symbol : Name) (row : LinkRow) (v : Version) → row.version ≡ v.number → row.stamp ≡ v.stamp → row.rows ≡ length v.frame.rows → IsStorable v.frame
    → IsLinkIn h client symbol v.frame row → FitsLink h client symbol row v
link_fits h client symbol row v number stamp rows storable p = record {
  number = number;
  stamp = stamp;
  rows = rows;
  storable = storable;
  new_index = record { kind = p.kind; name = p.name; stands = ap is_some p.own.stands; fresh = record { own = p.own.unlinked.own; made_for = p.made_for; unreached = p.own.unlinked.unreached } };
  index_stamps = p.index_stamps;
  link = record { row = row; pages = []; index = p.index; tiles = tiles_at v.frame p.index.slots };
  link_is = flat_linked h row p.index (tiles_at v.frame p.index.slots) (flat_is_put h row.index p.body p.index p.own.put p.spelled) (frames_put h v.frame p.index.slots p.puts);
  new_pages = tt;
  pages_before = tt;
  pages_fit = tt;
  schema = p.schema;
  index_rows = p.index_rows;
  keys = p.keys;
  tiled = p.tiled;
  stamps = p.stamps;
}

-- ---- the change

-- a change of which the library makes a version is one that makes a version
pub makes_version : (st : State) (c : Change) (v : Version) → new_version st c ≡ Some v → is_version c ≡ true
makes_version st (changes.Wrote frame at) v e = refl
makes_version st (changes.Appended frame at) v e = refl
makes_version st (changes.Updated frame range at) v e = refl
makes_version st (changes.Removed versions) v e = absurd cc
makes_version st (changes.Held holder version) v e = absurd cc
makes_version st (changes.Released holder) v e = absurd cc
makes_version st (changes.Discarded pieces) v e = absurd cc
makes_version st changes.Restated v e = absurd cc

fits_mark : (h : History) (client : ℕ) (symbol : Name) (c : Change) (v : Version) → new_version (state_of h symbol) c ≡ Some v → IsInOrder c → FitsMark h client symbol c
fits_mark h client symbol (changes.Wrote frame at) v e o = tt
fits_mark h client symbol (changes.Appended frame at) v e o = tt
fits_mark h client symbol (changes.Updated frame range at) v e o = o
fits_mark h client symbol (changes.Removed versions) v e o = absurd cc
fits_mark h client symbol (changes.Held holder version) v e o = absurd cc
fits_mark h client symbol (changes.Released holder) v e o = absurd cc
fits_mark h client symbol (changes.Discarded pieces) v e o = absurd cc
fits_mark h client symbol changes.Restated v e o = absurd cc

-- the version does not depend on what is staged
pub staged_version : (st : State) (more : List Piece) (c : Change) → new_version (staging more st) c ≡ new_version st c
staged_version st more (changes.Wrote frame at) = refl
staged_version st more (changes.Appended frame at) = refl
staged_version st more (changes.Updated frame range at) = refl
staged_version st more (changes.Removed versions) = refl
staged_version st more (changes.Held holder version) = refl
staged_version st more (changes.Released holder) = refl
staged_version st more (changes.Discarded pieces) = refl
staged_version st more changes.Restated = refl

-- ---- what is buried beside it

buried_form : (st : State) (rest : List Change) → BuriesLive st rest → Buries rest
buried_form st _ buries_none = no_tombs no_pieces
buried_form st _ (buries_live some) = some_tombs (reverse (map (λ (v : Version). v.number) (live_versions st))) no_pieces

buried_all : (st : State) (c : Change) (rest : List Change) → BuriesLive st rest → BuriesAll st (c ∷ rest)
buried_all st c _ buries_none = tt
buried_all st c _ (buries_live some) = refl

buried_fits : (h : History) (client : ℕ) (symbol : Name) (row : LinkRow) (rest : List Change) → BuriesLive (state_of h symbol) rest → AllByRecursion (FitsChange h client symbol row) rest
buried_fits h client symbol row _ buries_none = tt
buried_fits h client symbol row _ (buries_live some) = ((tt, live_may_be_buried (state_of h symbol) (versions_numbered h symbol) some), tt)

-- ---- the Refer

-- a Refer with this change and what it buries may follow
pub version_may_follow : (h : History) (client : ℕ) (symbol : Name) (c : Change) (v : Version) (was : Option Key) (entry : Key) (rest : List Change) (row : LinkRow)
    → new_version (state_of h symbol) c ≡ Some v → IsInOrder c → FitsLink h client symbol row v → BuriesLive (state_of h symbol) rest
    → IsPutEntry h client symbol entry (record { prev = was; changes = marks_of row (c ∷ rest) })
    → MayRefer h client symbol was entry (c ∷ rest)
version_may_follow h client symbol c v was entry rest row makes in_order fits buries e = record {
  kind = e.kind;
  name = e.name;
  own = e.own.unlinked.own;
  stands = ap is_some e.own.stands;
  fresh = subst (λ s. list_any (λ k. same_key k entry) (entries h s) ≡ false) e.name e.own.unlinked.no_entry;
  how = inl (record {
    form = making c (makes_version (state_of h symbol) c v makes) (buried_form (state_of h symbol) rest buries);
    row = row;
    spelled = read_put (λ body. read_of (entry_of body)) (body_put h entry) e.body _ e.own.put (ap read_of e.spelled);
    fits = ((subst (λ o. IfSome o (FitsLink h client symbol row)) (sym makes) fits, fits_mark h client symbol c v makes in_order), buried_fits h client symbol row rest buries);
    prunes = buried_all (state_of h symbol) c rest buries;
  });
}
