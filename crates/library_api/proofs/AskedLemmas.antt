-- What is asked of the version that a target names: whether columns are refused, and the frame of fetched tiles.
use Rattle.std.proofs.Common.{◌≡◌, ℕ, ℤ, Bool, true, List, [], ◌∷◌, refl, ap, sym, ◌∙◌, subst, Option, Some, None, Result, Ok, Err}
use Rattle.std.specs.Prelude.{Contains, ◌≤ℤ◌, pos, FitsSigned}
use Rattle.std.specs.Int.{w64}
use Rattle.std.specs.List.{AllZip, AllByRecursion}
use mathlib.Core.Logic.{∥∥₁_elim, ∥∥₁_map}
use mathlib.Core.HLevel.{⊥_prop, ×_prop, Unit-prop}
use Rattle.std.proofs.Props.{props}
use Rattle.frame_core.specs.declared.cell.Cell.{Cell}
use Rattle.frame_core.specs.declared.cell.Cell.TheVariants as cells
use Rattle.frame_core.specs.declared.refusal.Refusal.{Refusal}
use Rattle.frame_core.specs.declared.refusal.Refusal.TheVariants as refusals
use Rattle.frame_core.specs.Texts.{Text}
use Rattle.frame_core.specs.Ranges.{Range}
use Rattle.frame_core.specs.Schemas.{Head, Schema, IsColName}
use Rattle.frame_core.specs.Frames.{Row, Frame, IsFrame, IsCell, FitsColumns, NeverFall, stamps_of, rows_within, type_of}
use Rattle.frame_core.specs.Selecting.{then_map, places_of, pick_columns}
use Rattle.bucket_core.specs.History.{History}
use Rattle.store_model.specs.Library.{Version, state_of}
use Rattle.store_model.specs.Links.{links}
use Rattle.store_model.specs.Law.{IsLawful}
use Rattle.store_model.proofs.Lawful.{lawful_is_intact}
use Rattle.store_model.proofs.Numbering.{versions_numbered}
use Rattle.reply_model.specs.ReadAnswers.{select_columns, ask}
use Rattle.frame_read.specs.declared.target.Target.{Target}
use Rattle.frame_read.specs.declared.tiles.FetchedTile.{FetchedTile}
use Rattle.frame_read.specs.declared.tiles.Tiles.{Tiles}
use Rattle.frame_read.specs.TileSets.{no_rows, IsAskedSchema, IsFetched}
use Rattle.frame_read.specs.Fetches.{IsTargetIndex}
use Rattle.frame_read.specs.Wholes.{HoldsPart, AreTilesOf, FetchedIsFrame}
use Rattle.library_api.proofs.VersionLemmas.{one_of_number, version_of_link}

-- ---- refused columns

-- columns are refused by the schema alone
pub refused_by_schema : (f : Frame) (range : Range) (columns : Option (List Text)) (why : Refusal) → select_columns columns (no_rows f.schema) ≡ Err why → ask f range columns ≡ Err why
refused_by_schema f range None why e = absurd (not_err (no_rows f.schema) why e)
  where
    not_err : (g : Frame) (why : Refusal) → ◌≡◌ {A = Result Frame Refusal} (Ok g) (Err why) → ⊥
    not_err g why e = absurd cc
refused_by_schema f range (Some names) why e = by (places_of 1 [] names f.schema.columns) refl
  where
    whole : Frame
    whole = record f { rows = rows_within range f.rows }

    not_err : (g : Frame) (why : Refusal) → ◌≡◌ {A = Result Frame Refusal} (Ok g) (Err why) → ⊥
    not_err g why e = absurd cc

    chosen : (g : Frame) (ks : List ℕ) → places_of 1 [] names g.schema.columns ≡ Ok ks → select_columns (Some names) g ≡ Ok (pick_columns g ks)
    chosen g ks e = rw (select_columns, e) refl

    refused : (g : Frame) (n : ℕ) → places_of 1 [] names g.schema.columns ≡ Err n → select_columns (Some names) g ≡ Err (refusals.NoSuchColumn 0 n)
    refused g n e = rw (select_columns, e) refl

    by : (r : Result (List ℕ) ℕ) → places_of 1 [] names f.schema.columns ≡ r → ask f range (Some names) ≡ Err why
    by (Ok ks) is = absurd (not_err (pick_columns (no_rows f.schema) ks) why (sym (chosen (no_rows f.schema) ks is) ∙ e))
    by (Err n) is = refused (record f { rows = rows_within range f.rows }) n is ∙ (sym (refused (no_rows f.schema) n is) ∙ e)

-- and so they are given
pub answered_by_schema : (f : Frame) (range : Range) (columns : Option (List Text)) (asked : Schema) → IsAskedSchema f.schema columns asked → (g : Frame) × (ask f range columns ≡ Ok g)
answered_by_schema f range None asked e = (record f { rows = rows_within range f.rows }, refl)
answered_by_schema f range (Some names) asked e = by (places_of 1 [] names f.schema.columns) refl
  where
    clash : (n : ℕ) → ◌≡◌ {A = Result Schema Refusal} (Err (refusals.NoSuchColumn 0 n)) (Ok asked) → ⊥
    clash n e = cc

    chosen : (g : Frame) (ks : List ℕ) → places_of 1 [] names g.schema.columns ≡ Ok ks → select_columns (Some names) g ≡ Ok (pick_columns g ks)
    chosen g ks e = rw (select_columns, e) refl

    refused : (g : Frame) (n : ℕ) → places_of 1 [] names g.schema.columns ≡ Err n → select_columns (Some names) g ≡ Err (refusals.NoSuchColumn 0 n)
    refused g n e = rw (select_columns, e) refl

    by : (r : Result (List ℕ) ℕ) → places_of 1 [] names f.schema.columns ≡ r → (g : Frame) × (ask f range (Some names) ≡ Ok g)
    by (Ok ks) is = (pick_columns (record f { rows = rows_within range f.rows }) ks, chosen (record f { rows = rows_within range f.rows }) ks is)
    by (Err n) is = absurd (clash n (sym (ap (then_map (λ (g : Frame). g.schema)) (refused (no_rows f.schema) n is)) ∙ e))

schema_prop : (a b : Schema) → IsProp (a ≡ b)
schema_prop a b = hlevel props

-- the index of a target has the columns of its version
pub index_schema : (h : History) → ∥ IsLawful h ∥₁ → (target : Target) (index : _) → IsTargetIndex h target index → (v : Version) → Contains (state_of h target.symbol).versions v → v.number ≡ target.version
    → index.schema ≡ v.frame.schema
index_schema h lawful target index is v there number = ∥∥₁_elim lawful (schema_prop index.schema v.frame.schema) (λ l.
    let found = version_of_link (links h target.symbol) (state_of h target.symbol).versions ((lawful_is_intact h l).versions target.symbol) is.link is.link_is in
    let same : found.0 ≡ v = one_of_number (state_of h target.symbol).versions (versions_numbered h target.symbol) found.0 v found.1 there (sym found.2.number ∙ (is.number ∙ sym number)) in
    ap (λ i. i.schema) (sym is.is) ∙ (found.2.schema ∙ ap (λ (w : Version). w.frame.schema) same))

-- ---- what is known of a frame in a history that is only known to be lawful

all_prop : {X : Type 0} (P : X → Type 0) → ((x : X) → IsProp (P x)) → (xs : List X) → IsProp (AllByRecursion P xs)
all_prop P each [] = Unit-prop
all_prop P each (x ∷ xs) = ×_prop (each x) (all_prop P each xs)

zip_prop : {X Y : Type 0} (R : X → Y → Type 0) → ((x : X) (y : Y) → IsProp (R x y)) → (xs : List X) (ys : List Y) → IsProp (AllZip R xs ys)
zip_prop R each [] [] = Unit-prop
zip_prop R each [] (y ∷ ys) = ⊥_prop
zip_prop R each (x ∷ xs) [] = ⊥_prop
zip_prop R each (x ∷ xs) (y ∷ ys) = ×_prop (each x y) (zip_prop R each xs ys)

name_prop : (name : Text) → IsProp (IsColName name)
name_prop name = hlevel props

falls_prop : (ts : List ℤ) → IsProp (NeverFall ts)
falls_prop [] = Unit-prop
falls_prop (t ∷ []) = Unit-prop
falls_prop (t ∷ u ∷ more) = ×_prop (least t u) (falls_prop (u ∷ more))
  where
    least : (t u : ℤ) → IsProp (t ≤ℤ u)
    least t u = hlevel props

cell_prop : (c : Cell) → IsProp (IsCell c)
cell_prop (cells.Int n) = hlevel props
cell_prop (cells.Flag b) = Unit-prop
cell_prop (cells.Text t) = hlevel props
cell_prop (cells.Stamp n) = hlevel props

typed_prop : (head : Head) (c : Cell) → IsProp (type_of c ≡ head.1)
typed_prop head c = hlevel props

truth_prop : (a b : Bool) → IsProp (a ≡ b)
truth_prop a b = hlevel props

fits_prop : (n : ℤ) → IsProp (FitsSigned w64 n)
fits_prop n = hlevel props

zero_prop : (r : Row) → IsProp (r.stamp ≡ pos 0)
zero_prop r = hlevel props

held_prop : (f : Frame) (tile : FetchedTile) → IsProp (HoldsPart f tile)
held_prop f tile = hlevel props

range_prop : (a b : Range) → IsProp (a ≡ b)
range_prop a b = hlevel props

asked_prop : (schema asked : Schema) (columns : Option (List Text)) → IsProp (IsAskedSchema schema columns asked)
asked_prop schema asked columns = hlevel props

module _ (heads : List Head) where
  rows_told : (rows : List Row) → ∥ AllByRecursion (FitsColumns heads) rows ∥₁ → AllByRecursion (FitsColumns heads) rows
  rows_told [] told = tt
  rows_told (r ∷ rows) told = (
    record {
      stamp = ∥∥₁_elim told (fits_prop r.stamp) (λ all. all.0.stamp);
      typed = ∥∥₁_elim told (zip_prop (λ (c : Head) (cell : Cell). type_of cell ≡ c.1) typed_prop heads r.cells) (λ all. all.0.typed);
      cells = ∥∥₁_elim told (all_prop IsCell cell_prop r.cells) (λ all. all.0.cells);
    },
    rows_told rows (∥∥₁_map told (λ all. all.1)),
  )

pub frame_told : (f : Frame) → ∥ IsFrame f ∥₁ → IsFrame f
frame_told f told = record {
  columns = record {
    named = ∥∥₁_elim told (all_prop (λ (c : Head). IsColName c.0) (λ c. name_prop c.0) f.schema.columns) (λ is. is.columns.named);
    distinct = ∥∥₁_elim told (truth_prop _ true) (λ is. is.columns.distinct);
  };
  ascending = ∥∥₁_elim told (falls_prop (stamps_of f.rows)) (λ is. is.ascending);
  fitting = rows_told f.schema.columns f.rows (∥∥₁_map told (λ is. is.fitting));
  untimed = λ e. ∥∥₁_elim told (all_prop (λ (r : Row). r.stamp ≡ pos 0) zero_prop f.rows) (λ is. is.untimed e);
}

pub tiles_told : (f : Frame) (range : Range) (columns : Option (List Text)) (tiles : Tiles) → ∥ AreTilesOf f range columns tiles ∥₁ → AreTilesOf f range columns tiles
tiles_told f range columns tiles told = record {
  range_is = ∥∥₁_elim told (range_prop tiles.range range) (λ are. are.range_is);
  schema = ∥∥₁_elim told (asked_prop f.schema tiles.schema columns) (λ are. are.schema);
  parts = ∥∥₁_elim told (all_prop (HoldsPart f) (held_prop f) tiles.tiles) (λ are. are.parts);
  rows = λ row t stamp within. ∥∥₁_elim told (truth_prop _ true) (λ are. are.rows row t stamp within);
  cells = λ row column t head stamp within there asked. ∥∥₁_elim told (truth_prop _ true) (λ are. are.cells row column t head stamp within there asked);
}

-- fetched tiles have what is asked of the one version of the target's number
pub fetched_version : FetchedIsFrame → (h : History) → ∥ IsLawful h ∥₁ → (target : Target) (range : Range) (columns : Option (List Text)) (tiles : Tiles) → IsFetched h target range columns tiles
    → (v : Version) → Contains (state_of h target.symbol).versions v → v.number ≡ target.version → IsFrame v.frame × AreTilesOf v.frame range columns tiles
fetched_version is_frame h lawful target range columns tiles fetched v there number =
    (frame_told v.frame (∥∥₁_map lawful (λ l. (of l).0)), tiles_told v.frame range columns tiles (∥∥₁_map lawful (λ l. (of l).1)))
  where
    of : IsLawful h → IsFrame v.frame × AreTilesOf v.frame range columns tiles
    of l =
        let has = is_frame h l target range columns tiles fetched in
        subst (λ (w : Version). IsFrame w.frame × AreTilesOf w.frame range columns tiles)
        (one_of_number (state_of h target.symbol).versions (versions_numbered h target.symbol) has.version v has.version_is there (has.number ∙ sym number))
        (has.is_frame, has.tiles_of)
