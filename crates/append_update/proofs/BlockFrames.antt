-- The frame that is read from the tiles of a run of the base's slots.
use Rattle.std.proofs.Common.{◌≡◌, ℕ, ◌-◌, List, [], ◌∷◌, ◌++◌, length, drop, refl, sym, ap, ◌∙◌, subst, map, None, Result, Ok, Err, Option}
use Rattle.std.specs.Prelude.{Contains, slice_range, IfOk}
use Rattle.std.specs.List.{AllByRecursion, AllZip}
use Rattle.std.proofs.lemmas.List.{append_assoc}
use Rattle.frame_core.specs.declared.refusal.Refusal.{Refusal}
use Rattle.frame_core.specs.Ranges.{Range}
use Rattle.frame_core.specs.Texts.{Text}
use Rattle.frame_core.specs.Schemas.{Schema}
use Rattle.frame_core.specs.Frames.{Row, Frame, IsFrame, rows_within, slice}
use Rattle.index_tree.specs.declared.index.Slot.{Slot}
use Rattle.index_tree.specs.IndexRules.{IsSlot}
use Rattle.key_kind.specs.Names.{Name}
use Rattle.bucket_core.specs.History.{History}
use Rattle.store_model.specs.Law.{IsLawful}
use Rattle.reply_model.specs.ReadAnswers.{select_columns, ask}
use Rattle.frame_read.specs.declared.tiles.FetchedTile.{FetchedTile}
use Rattle.frame_read.specs.declared.tiles.Tiles.{Tiles}
use Rattle.frame_read.specs.TileSets.{IsGot}
use Rattle.frame_read.specs.Wholes.{AreTilesOf}
use Rattle.frame_read.specs.Gathers.{AreOfFrame}
use Rattle.frame_write.specs.Pieces.{begin_of, end_of, IsRun}
use Rattle.append_update.specs.declared.base.Base.{Base}
use Rattle.append_update.specs.Bases.{rows_of_slots}
use Rattle.append_update.specs.Blocks.{whole, moved_tile, tiles_from}
use Rattle.append_update.specs.Newest.{IsBaseAt}
use Rattle.append_update.proofs.ListLemmas.{take_all_of, drop_all_of}
use Rattle.append_update.proofs.SlotLemmas.{rows_of_run}
use Rattle.append_update.proofs.AppendLemmas.{all_contained}
use Rattle.append_update.proofs.UpdateLemmas.{storable-slice}
use Rattle.append_update.proofs.RunTiles.{run_tiles}

-- ---- all rows of a frame

all_rows : (rows : List Row) → rows_within whole rows ≡ rows
all_rows [] = refl
all_rows (r ∷ rows) = ap (λ rs. r ∷ rs) (all_rows rows)

ask_all : (f : Frame) → ask f whole None ≡ Ok f
ask_all f = ap (λ (rows : List Row). select_columns None (record f { rows = rows })) (all_rows f.rows)

ok_frame : (f made : Frame) → ◌≡◌ {A = Result Frame Refusal} (Ok f) (Ok made) → f ≡ made
ok_frame f made e = cc

pub ask_whole : (f made : Frame) → ask f whole None ≡ Ok made → f ≡ made
ask_whole f made e = ok_frame f made (sym (ask_all f) ∙ e)

-- ---- tiles in memory

pub tiles_are_from : (schema s : Schema) (range : Range) (begin b : ℕ) (tiles moved : List FetchedTile) → s ≡ schema → range ≡ whole → moved ≡ map (moved_tile b) tiles → b ≡ begin
    → record { schema = s; range = range; tiles = moved } ≡ tiles_from schema begin tiles
tiles_are_from schema s range begin b tiles moved a r m e = rw (a, r, m, e) refl

-- what they are read as
pub read_as : {E : Type 0} (r : Result Frame E) (self : Tiles) (schema : Schema) (begin : ℕ) (tiles : List FetchedTile) → self ≡ tiles_from schema begin tiles
    → IfOk r (λ made. (f : Frame) (columns : Option (List Text)) → IsFrame f → AreTilesOf f self.range columns self → ask f self.range columns ≡ Ok made)
    → IfOk r (λ made. (f : Frame) → IsFrame f → AreTilesOf f whole None (tiles_from schema begin tiles) → f ≡ made)
read_as (Ok made) self schema begin tiles same read = λ f is of.
    ask_whole f made (subst (λ (t : Tiles). ask f t.range None ≡ Ok made) same (read f None is (subst (λ (t : Tiles). AreTilesOf f t.range None t) (sym same) of)))
read_as (Err e) self schema begin tiles same read = tt

-- ---- a run of the base

-- each slot of a run is one of them all
pub run_contained : (slots : List Slot) (from to : ℕ) → AllByRecursion (λ s. Contains slots s) (slice_range slots from to)
run_contained slots from to = take_all_of (λ s. Contains slots s) (to - from) (drop from slots) (drop_all_of (λ s. Contains slots s) from slots (all_contained slots))

module _ (client : ℕ) (symbol : Name) (base : Base) (seen others new : History) (is : new ≡ others ++ seen) (lawful : ∥ IsLawful new ∥₁) (from to : ℕ)
    (run : IsRun (length base.index.schema.columns) (slice_range base.index.slots from to)) (tiles : List FetchedTile) (got : AllZip (IsGot new) (slice_range base.index.slots from to) tiles) (b : IsBaseAt client seen symbol base) where
  abbrev slots : List Slot
  slots = slice_range base.index.slots from to

  abbrev part : Frame
  part = slice b.version.frame (begin_of slots) (end_of slots)

  behind : new ≡ (others ++ b.later) ++ b.before
  behind = is ∙ (ap (λ h. others ++ h) b.split ∙ sym (append_assoc others b.later b.before))

  tiles_are : AreTilesOf part whole None (tiles_from base.index.schema (begin_of slots) tiles)
  tiles_are =
      run_tiles b.before (others ++ b.later) new symbol b.version base.index b.newest behind lawful whole slots tiles
      (run_contained base.index.slots from to)
      (subst (λ (s : Schema). IsRun (length s.columns) slots) b.newest.index_of.schema run) got

  part_is_frame : IsFrame part
  part_is_frame = (storable-slice b.version.frame (begin_of slots) (end_of slots) b.newest.index_of.storable).is_frame

  pub of_frame : AreOfFrame (tiles_from base.index.schema (begin_of slots) tiles)
  of_frame = record { frame = part; columns = None; is_frame = part_is_frame; tiles_of = tiles_are }

  -- it has the rows of the run
  pub block_is : (made : Frame) → ((f : Frame) → IsFrame f → AreTilesOf f whole None (tiles_from base.index.schema (begin_of slots) tiles) → f ≡ made)
      → made ≡ record b.version.frame { rows = rows_of_slots b.version.frame slots }
  block_is made read =
      sym (read part part_is_frame tiles_are)
      ∙ ap (λ (rows : List Row). record b.version.frame { rows = rows })
      (sym (rows_of_run b.version.frame (length base.index.schema.columns) slots
      (take_all_of (IsSlot (length base.index.schema.columns)) (to - from) (drop from base.index.slots) (drop_all_of (IsSlot (length base.index.schema.columns)) from base.index.slots b.newest.index_of.rules.each)) run))
