-- The tiles that were got of the base's slots make the rows of their run.
use Rattle.std.proofs.Common.{◌≡◌, ℕ, ◌++◌, sym, subst, Result, Ok}
use Rattle.std.specs.Prelude.{Contains}
use Rattle.std.specs.Arc.{arc_value}
use Rattle.std.proofs.lemmas.List.Elements.{All-from_recursion, All-contains}
use mathlib.Core.Logic.{∥∥₁_map₂}
use denote.Struct.Props.{props}
use Rattle.frame_core.specs.Frames.{Frame}
use Rattle.segment_bytes.specs.Segments.{segment_of}
use Rattle.segment_cut.specs.Tiles.{Tile, cut}
use Rattle.index_tree.specs.declared.index.Slot.{Slot}
use Rattle.index_tree.specs.declared.index.Index.{Index}
use Rattle.key_kind.specs.Names.{Name}
use Rattle.bucket_core.specs.History.{History}
use Rattle.store_model.specs.Library.{Version}
use Rattle.store_model.specs.Links.{links}
use Rattle.store_model.specs.Law.{IsLawful}
use Rattle.store_model.proofs.Lawful.{lawful_as_put}
use Rattle.frame_read.specs.declared.tiles.FetchedTile.{FetchedTile}
use Rattle.frame_read.specs.TileSets.{IsGot}
use Rattle.frame_read.specs.Wholes.{HoldsPart}
use Rattle.frame_read.proofs.FetchLemmas.{links_later}
use Rattle.frame_read.proofs.WholeLemmas.{slot_frame, linked_tiles, held}
use Rattle.append_update.specs.Newest.{IsNewest}
use Rattle.append_update.proofs.ToldLemmas.{Told, told_prop}

result_told : (a b : Result Frame ℕ) → Told (a ≡ b)
result_told a b = told_prop (hlevel props)

-- a tile that was got of a slot of the base is the slot's part of the base's frame
pub got_holds : (h more new : History) (symbol : Name) (v : Version) (index : Index) (s : Slot) (tile : FetchedTile) → IsNewest h symbol v index → new ≡ more ++ h → ∥ IsLawful new ∥₁ → Contains index.slots s → IsGot new s tile
    → HoldsPart v.frame tile
got_holds h more new symbol v index s tile n is lawful there got =
    result_told (segment_of (arc_value tile.body)) (Ok (cut v.frame tile.part)) (∥∥₁_map₂ lawful n.tiled (λ l tiled.
    let in_new : Contains (links new symbol) n.link = subst (λ g. Contains (links g symbol) n.link) (sym is) (links_later more h symbol n.link n.link_is) in
    let put = linked_tiles new n.link.row n.link ((lawful_as_put new l).links symbol n.link in_new) in
    let here : Contains n.link.index.slots s = subst (λ (i : Index). Contains i.slots s) (sym n.index_is) there in
    let found = slot_frame new n.link.index.slots n.link.tiles put s here in
    held new v.frame found.0 s tile got found.1 (All-contains (λ (t : Tile). t.1 ≡ cut v.frame t.0) n.link.tiles (s.part, found.0) (All-from_recursion (λ (t : Tile). t.1 ≡ cut v.frame t.0) n.link.tiles tiled.parts) found.2)))
