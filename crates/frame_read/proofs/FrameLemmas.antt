-- What is gathered from fetched tiles is the frame that is asked.
use Rattle.std.proofs.Common.{◌≡◌, ℕ, suc, ◌+◌, ◌≤◌, ℤ, Bool, true, false, ◌&&◌, ◌||◌, nat_le, nat_lt, nat_eq, List, [], ◌∷◌, length, map, Option, Some, Result, Ok, refl, sym, ap, ◌∙◌, subst, arith}
use Rattle.std.specs.Prelude.{slice_get, count_by, option_map}
use Rattle.std.specs.List.{AllByRecursion, AllZip, list_any}
use Rattle.std.specs.List.Sorted.{IsPermutation, IsNonDecreasingBy}
use Rattle.std.proofs.lemmas.Bool.{true≢false}
use Rattle.std.proofs.lemmas.List.Sorted.{sum_by-IsPermutation}
use Rattle.frame_core.specs.declared.part.Part.{Part}
use Rattle.frame_core.specs.declared.cell.Cell.{Cell}
use Rattle.frame_core.specs.declared.column.Column.{Column}
use Rattle.frame_core.specs.Texts.{Text, same_text}
use Rattle.frame_core.specs.Ranges.{Range}
use Rattle.frame_core.specs.Schemas.{Head, Schema}
use Rattle.frame_core.specs.Frames.{Row, Frame, IsFrame, stamps_of, type_at}
use Rattle.frame_core.specs.Columns.{column_type, column_cells, cells_of, columns_from, rows_from, IsWhole}
use Rattle.frame_core.specs.Selecting.{place_of}
use Rattle.frame_core.proofs.SelectLemmas.{place_is}
use Rattle.segment_cut.specs.Tiles.{Tile, cut, has_row, has_cell}
use Rattle.frame_core.specs.Parts.{has_column}
use Rattle.segment_cut.proofs.Lists.{count_by-yes, count_by-no}
use Rattle.segment_cut.proofs.Orders.{Rising-from, all-permutation}
use Rattle.segment_cut.proofs.Wholes.{IsWhole-frame, frame-whole}
use Rattle.reply_model.specs.ReadAnswers.{ask, is_asked}
use Rattle.frame_read.specs.declared.tiles.FetchedTile.{FetchedTile}
use Rattle.frame_read.specs.declared.tiles.Tiles.{Tiles}
use Rattle.frame_read.specs.Wholes.{HoldsPart, AreTilesOf}
use Rattle.frame_read.specs.Gathers.{cells_gathered, stamps_gathered, HasType, HasSegment, IsOpened}
use Rattle.frame_read.proofs.GatherLemmas.{Covers, other_name, slice_below, stamps_all, cells_all}
use Rattle.frame_read.proofs.AskLemmas.{self_text, IsAnswer, answer}

-- ---- some tile of those in another order

any_counted : {X : Type 0} (p : X → Bool) (xs : List X) → list_any p xs ≡ true → 1 ≤ count_by p xs
any_counted p [] any = absurd (true≢false (sym any))
any_counted p (x ∷ xs) any = by (p x) refl (any_counted p xs)
  where
    by : (b : Bool) → p x ≡ b → (list_any p xs ≡ true → 1 ≤ count_by p xs) → 1 ≤ count_by p (x ∷ xs)
    by true e more = omega (arith, count_by-yes p x xs e)
    by false e more = omega (arith, count_by-no p x xs e, more (subst (λ (b : Bool). (b || list_any p xs) ≡ true) e any))

counted_any : {X : Type 0} (p : X → Bool) (xs : List X) → 1 ≤ count_by p xs → list_any p xs ≡ true
counted_any p [] some = absurd (omega (arith, some))
counted_any p (x ∷ xs) some = by (p x) refl (counted_any p xs)
  where
    by : (b : Bool) → p x ≡ b → (1 ≤ count_by p xs → list_any p xs ≡ true) → (p x || list_any p xs) ≡ true
    by true e more = rw e refl
    by false e more = rw e (more (omega (arith, count_by-no p x xs e, some)))

any_moved : (p : Tile → Bool) (xs ys : List Tile) → IsPermutation xs ys → list_any p xs ≡ true → list_any p ys ≡ true
any_moved p xs ys moved any = counted_any p ys (rw (sum_by-IsPermutation _ xs ys moved) (any_counted p xs any))

any_same : (p : Part → Bool) (q : Tile → Bool) (fs : List FetchedTile) (ts : List Tile) → AllZip IsOpened fs ts → ((t : Tile) → p t.0 ≡ q t) → list_any (λ (x : FetchedTile). p x.part) fs ≡ true → list_any q ts ≡ true
any_same p q [] [] all same any = absurd (true≢false (sym any))
any_same p q [] (t ∷ ts) all same any = absurd all
any_same p q (x ∷ fs) [] all same any = absurd all
any_same p q (x ∷ fs) (t ∷ ts) all same any = by (p x.part) refl (any_same p q fs ts all.1 same)
  where
    here : q t ≡ p x.part
    here = sym (same t) ∙ ap p all.0.part

    by : (b : Bool) → p x.part ≡ b → (list_any (λ (y : FetchedTile). p y.part) fs ≡ true → list_any q ts ≡ true) → (q t || list_any q ts) ≡ true
    by true e more = let yes : q t ≡ true = here ∙ e in rw yes refl
    by false e more = let no : q t ≡ false = here ∙ e in rw no (more (subst (λ (b : Bool). (b || list_any (λ (y : FetchedTile). p y.part) fs) ≡ true) e any))

swapped : (a b c : Bool) → (a && b && c) ≡ ((b && c) && a)
swapped true true true = refl
swapped true true false = refl
swapped true false true = refl
swapped true false false = refl
swapped false true true = refl
swapped false true false = refl
swapped false false true = refl
swapped false false false = refl

-- ---- tiles in memory are the parts of the frame

ok_frames : (a b : Frame) → ◌≡◌ {A = Result Frame ℕ} (Ok a) (Ok b) → a ≡ b
ok_frames a b e = cc

opened_parts : (f : Frame) (fs : List FetchedTile) (ts : List Tile) → AllZip IsOpened fs ts → AllByRecursion (HoldsPart f) fs → AllByRecursion (λ (t : Tile). t.1 ≡ cut f t.0) ts
opened_parts f [] [] all held = tt
opened_parts f [] (t ∷ ts) all held = absurd all
opened_parts f (x ∷ fs) [] all held = absurd all
opened_parts f (x ∷ fs) (t ∷ ts) all held = (ok_frames t.1 (cut f x.part) (sym all.0.frame ∙ held.0) ∙ ap (cut f) (sym all.0.part), opened_parts f fs ts all.1 held.1)

-- the bytes of each tile spell its part
pub parts_spelled : (f : Frame) (fs : List FetchedTile) → AllByRecursion (HoldsPart f) fs → AllByRecursion HasSegment fs
parts_spelled f [] held = tt
parts_spelled f (x ∷ fs) held = ((cut f x.part, held.0), parts_spelled f fs held.1)

-- what was opened and put in order
pub record AreSorted (self : Tiles) (sorted : List Tile) : Type 0 where
  pub made : List Tile
  pub opened : AllZip IsOpened self.tiles made
  pub moved : IsPermutation made sorted
  pub rising : IsNonDecreasingBy (λ (t : Tile). t.0.first_row) sorted

module _ (f : Frame) (columns : Option (List Text)) (self : Tiles) (sorted : List Tile) (is : IsFrame f) (of : AreTilesOf f self.range columns self) (are : AreSorted self sorted) where
  parts : AllByRecursion (λ (t : Tile). t.1 ≡ cut f t.0) sorted
  parts = all-permutation (λ (t : Tile). t.1 ≡ cut f t.0) are.made sorted are.moved (opened_parts f self.tiles are.made are.opened of.parts)

  covers_rows : Covers (λ t. true) f self.range 0 sorted
  covers_rows row x le at within = any_moved (λ (t : Tile). true && has_row t.0 row) are.made sorted are.moved
      (any_same (λ part. has_row part row) (λ (t : Tile). true && has_row t.0 row) self.tiles are.made are.opened (λ t. refl) (of.rows row x at within))

  covers_cells : (k : ℕ) (head : Head) → slice_get f.schema.columns k ≡ Some head → is_asked columns head.0 ≡ true → Covers (λ t. has_column t.0 k) f self.range 0 sorted
  covers_cells k head there one row x le at within = any_moved (λ (t : Tile). has_column t.0 k && has_row t.0 row) are.made sorted are.moved
      (any_same (λ part. has_cell part row k) (λ (t : Tile). has_column t.0 k && has_row t.0 row) self.tiles are.made are.opened
      (λ t. swapped (has_row t.0 row) (nat_le t.0.first_col k) (nat_lt k (t.0.first_col + t.0.cols))) (of.cells row k x head at within there one))

  abbrev pub answered : IsAnswer f self.range columns self.schema
  answered = answer f self.range columns self.schema is of.schema

  pub gathered_stamps_are : stamps_gathered self.range 0 sorted ≡ stamps_of answered.made.rows
  gathered_stamps_are = stamps_all f self.range sorted parts (Rising-from sorted are.rising) covers_rows ∙ sym answered.stamps

  pub gathered_cells_are : (j : ℕ) (head : Head) → slice_get answered.made.schema.columns j ≡ Some head → cells_gathered self.range head.0 0 sorted ≡ cells_of j answered.made.rows
  gathered_cells_are j head at =
      let col = answered.cols j head at in
      cells_all f self.range col.place head sorted is col.head_is (self_text head.0) parts (Rising-from sorted are.rising) (covers_cells col.place head col.head_is col.is_one) ∙ sym col.cells

  -- a tile's column of an asked name has its type
  has_type : (k : ℕ) (head : Head) → slice_get f.schema.columns k ≡ Some head → (t : Tile) → t.1 ≡ cut f t.0 → HasType head t
  has_type k head there t part place at =
      let e : place_of head.0 (cut f t.0).schema.columns ≡ Some place = ap (λ (g : Frame). place_of head.0 g.schema.columns) (sym part) ∙ at in
      let found = place_is head.0 (cut f t.0).schema.columns place e in
      let there_too = slice_below f.schema.columns t.0.first_col t.0.cols place found.0 found.1 in
      let same_place : t.0.first_col + place ≡ k = by_place found.0 there_too.1 (found.2) (nat_eq (t.0.first_col + place) k) refl in
      let same : found.0 ≡ head = some_heads found.0 head (sym there_too.1 ∙ ap (slice_get f.schema.columns) same_place ∙ there) in
      ap (λ (g : Frame). type_at g place) part ∙ ap (option_map (λ (c : Head). c.1)) found.1 ∙ ap (λ (c : Head). Some c.1) same
    where
      some_heads : (a b : Head) → Some a ≡ Some b → a ≡ b
      some_heads a b e = cc

      by_place : (g : Head) → slice_get f.schema.columns (t.0.first_col + place) ≡ Some g → g.0 ≡ head.0 → (b : Bool) → nat_eq (t.0.first_col + place) k ≡ b → t.0.first_col + place ≡ k
      by_place g here name true e = grind (arith, e)
      by_place g here name false e =
          absurd (true≢false (sym (ap (same_text head.0) name ∙ self_text head.0) ∙ other_name f.schema.columns (t.0.first_col + place) k g head is.columns (λ same. absurd (grind (arith, e, same))) here there))

  types_in : (k : ℕ) (head : Head) → slice_get f.schema.columns k ≡ Some head → (ts : List Tile) → AllByRecursion (λ (t : Tile). t.1 ≡ cut f t.0) ts → AllByRecursion (HasType head) ts
  types_in k head there [] all = tt
  types_in k head there (t ∷ ts) all = (has_type k head there t all.0, types_in k head there ts all.1)

all_places : {X : Type 0} (P : X → Type 0) (xs : List X) → ((j : ℕ) (x : X) → slice_get xs j ≡ Some x → P x) → AllByRecursion P xs
all_places P [] each = tt
all_places P (x ∷ xs) each = (each 0 x refl, all_places P xs (λ j y at. each (suc j) y at))

pub types_are : (f : Frame) (columns : Option (List Text)) (self : Tiles) (sorted : List Tile) → IsFrame f → AreTilesOf f self.range columns self → AreSorted self sorted → AllByRecursion (λ head. AllByRecursion (HasType head) sorted) self.schema.columns
types_are f columns self sorted is of are =
    let a = answered f columns self sorted is of are in
    subst (λ (s : Schema). AllByRecursion (λ head. AllByRecursion (HasType head) sorted) s.columns) (sym a.schema_is)
    (all_places (λ head. AllByRecursion (HasType head) sorted) a.made.schema.columns (λ j head at.
    let col = a.cols j head at in
    types_in f columns self sorted is of are col.place head col.head_is sorted (parts f columns self sorted is of are)))

-- ---- the frame that was made

cells_by : (range : Range) (sorted : List Tile) (rows : List Row) (k : ℕ) (heads : List Head) → ((j : ℕ) (head : Head) → slice_get heads j ≡ Some head → cells_gathered range head.0 0 sorted ≡ cells_of (k + j) rows) → map (λ (h : Head). cells_gathered range h.0 0 sorted) heads ≡ columns_from k (length heads) rows
cells_by range sorted rows k [] each = refl
cells_by range sorted rows k (h ∷ heads) each =
    let none : k + 0 ≡ k = omega arith in
    let first : cells_gathered range h.0 0 sorted ≡ cells_of k rows = each 0 h refl ∙ ap (λ n. cells_of n rows) none in
    let more = cells_by range sorted rows (k + 1) heads (λ j head at. each (suc j) head at ∙ (let step : k + suc j ≡ (k + 1) + j = omega arith in ap (λ n. cells_of n rows) step)) in
    ap (λ (c : List Cell). c ∷ map (λ (x : Head). cells_gathered range x.0 0 sorted) heads) first ∙ ap (λ (cs : List (List Cell)). cells_of k rows ∷ cs) more

module _ (f : Frame) (columns : Option (List Text)) (self : Tiles) (sorted : List Tile) (is : IsFrame f) (of : AreTilesOf f self.range columns self) (are : AreSorted self sorted) (schema : Schema) (stamps : List ℤ) (cols : List Column)
    (schema_is : schema ≡ self.schema) (stamps_are : stamps ≡ stamps_gathered self.range 0 sorted) (kinds : map column_type cols ≡ map (λ (h : Head). h.1) self.schema.columns)
    (cells : map column_cells cols ≡ map (λ (h : Head). cells_gathered self.range h.0 0 sorted) self.schema.columns) where
  abbrev to : IsAnswer f self.range columns self.schema
  to = answered f columns self sorted is of are

  same_stamps : stamps ≡ stamps_of to.made.rows
  same_stamps = stamps_are ∙ gathered_stamps_are f columns self sorted is of are

  same_cells : map column_cells cols ≡ columns_from 0 (length to.made.schema.columns) to.made.rows
  same_cells = cells ∙ ap (λ (s : Schema). map (λ (h : Head). cells_gathered self.range h.0 0 sorted) s.columns) to.schema_is
      ∙ cells_by self.range sorted to.made.rows 0 to.made.schema.columns (λ j head at. gathered_cells_are f columns self sorted is of are j head at ∙ (let none : j ≡ 0 + j = omega arith in ap (λ n. cells_of n to.made.rows) none))

  pub made_whole : IsWhole schema stamps cols
  made_whole = IsWhole-frame to.made schema stamps cols to.is_frame (schema_is ∙ to.schema_is) same_stamps (kinds ∙ ap (λ (s : Schema). map (λ (h : Head). h.1) s.columns) to.schema_is) same_cells

  pub made_asked : (frame : Frame) → frame ≡ record { schema = schema; rows = rows_from stamps (map column_cells cols) } → ask f self.range columns ≡ Ok frame
  made_asked frame made = to.is ∙ ap (λ (g : Frame). Ok g) (sym (made ∙ frame-whole to.made schema stamps cols to.is_frame (schema_is ∙ to.schema_is) same_stamps same_cells))
