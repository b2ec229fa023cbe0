-- Rows are made of groups, output by output.
use Rattle.std.proofs.Common.{◌≡◌, ℕ, ℤ, zero, suc, ◌+◌, ◌<◌, ◌^◌, refl, ap, sym, ◌∙◌, subst, arith, length, drop}
use Rattle.std.specs.Prelude.{Bool, true, false, List, [], ◌∷◌, ◌++◌, map, Option, Some, None, cond, option_map, option_and_then, slice_get, MatchOption, IfSome}
use Rattle.std.specs.List.{AllByRecursion}
use Rattle.std.proofs.lemmas.List.{append-nil, append_assoc, drop_more}
use Rattle.std.proofs.lemmas.Option.{none-some}
use lib.ListN.{get_or}
use Rattle.frame_core.specs.declared.cell.ColType.{ColType}
use Rattle.frame_core.specs.declared.cell.ColType.TheVariants as types
use Rattle.frame_core.specs.declared.cell.Cell.{Cell}
use Rattle.frame_core.specs.declared.cell.Cell.TheVariants as cells
use Rattle.frame_core.specs.Schemas.{Head}
use Rattle.frame_core.specs.Frames.{type_of}
use Rattle.frame_core.specs.Making.{Making}
use Rattle.expr_clause.specs.declared.clause.Agg.{Agg}
use Rattle.expr_clause.specs.declared.clause.Agg.TheVariants as aggs
use Rattle.expr_clause.specs.declared.clause.Out.{Out}
use Rattle.expr_clause.specs.Cells.{fits_i64}
use Rattle.group_clause.specs.Tallies.{made_all}
use Rattle.group_clause.specs.Partials.{Tally, tallies, tally_makes}
use Rattle.group_clause.specs.Keeping.{IsTally}
use Rattle.group_clause.specs.Making.{TallyFits, TalliesFit}

abbrev pub aggs_of : List Out → List Agg
aggs_of outs = map (λ (o : Out). o.agg) outs

-- ---- types

sum_type : (b : Bool) (n : ℤ) (kind : ColType) → kind ≡ types.Int → IfSome (cond b (Some (cells.Int n)) None) (λ c. type_of c ≡ kind)
sum_type true n kind e = sym e
sum_type false n kind e = tt

made_type : (kind : ColType) (a : Agg) (t : Tally) → TallyFits kind a t → IfSome (tally_makes a t) (λ c. type_of c ≡ kind)
made_type kind aggs.Sum t e = sum_type (fits_i64 t.sum) t.sum kind e
made_type kind aggs.Count t e = sym e
made_type kind aggs.Min t e = e
made_type kind aggs.Max t e = e

-- the cell that is made is of the next column's type
pub next_type : (columns : List Head) (n : ℕ) (a : Agg) (list : List Agg) (t : Tally) (ts : List Tally) (c : Cell) → TalliesFit (drop n columns) (a ∷ list) (t ∷ ts) → tally_makes a t ≡ Some c
    → option_map (λ (h : Head). h.1) (slice_get columns n) ≡ Some (type_of c)
next_type [] zero a list t ts c fits e = absurd fits
next_type [] (suc n) a list t ts c fits e = absurd fits
next_type (h ∷ columns) zero a list t ts c fits e = ap Some (sym (subst (λ o. IfSome o (λ x. type_of x ≡ h.1)) e (made_type h.1 a t fits.0)))
next_type (h ∷ columns) (suc n) a list t ts c fits e = next_type columns n a list t ts c fits e

-- and the others fit the columns behind it
pub others_fit : (columns : List Head) (n : ℕ) (a : Agg) (list : List Agg) (t : Tally) (ts : List Tally) → TalliesFit (drop n columns) (a ∷ list) (t ∷ ts) → TalliesFit (drop (suc n) columns) list ts
others_fit [] zero a list t ts fits = absurd fits
others_fit [] (suc n) a list t ts fits = absurd fits
others_fit (h ∷ columns) zero a list t ts fits = fits.1
others_fit (h ∷ columns) (suc n) a list t ts fits = others_fit columns n a list t ts fits

pub tally_there : (heads : List Head) (outs : List Out) (ts : List Tally) (i : ℕ) → TalliesFit heads (aggs_of (drop i outs)) (drop i ts) → i < length outs → i < length ts
tally_there heads [] ts i fits h = absurd (omega (arith, h))
tally_there [] (o ∷ outs) [] zero fits h = absurd fits
tally_there (g ∷ heads) (o ∷ outs) [] zero fits h = absurd fits
tally_there heads (o ∷ outs) (t ∷ ts) zero fits h = omega arith
tally_there heads (o ∷ outs) [] (suc i) fits h = absurd (none_there heads outs i fits (omega (arith, h)))
  where
    none_there : (heads : List Head) (outs : List Out) (i : ℕ) → TalliesFit heads (aggs_of (drop i outs)) [] → i < length outs → ⊥
    none_there heads [] i fits h = omega (arith, h)
    none_there [] (o ∷ outs) zero fits h = fits
    none_there (g ∷ heads) (o ∷ outs) zero fits h = fits
    none_there heads (o ∷ outs) (suc i) fits h = none_there heads outs i fits (omega (arith, h))
tally_there heads (o ∷ outs) (t ∷ ts) (suc i) fits h = let r = tally_there heads outs ts i fits (omega (arith, h)) in omega (arith, r)

-- ---- what is begun

-- the cells that are begun, and those that are to come, are the ones that were begun at first, and all
abbrev pub Appends : List Cell → Option (List Cell) → List Cell → Option (List Cell) → Type 0
Appends before whole begun rest = option_map (λ cs. before ++ cs) whole ≡ option_map (λ cs. begun ++ cs) rest

-- what is left of the outputs
pub record OutsLeft (columns : List Head) (outs : List Out) (ts : List Tally) (begun : List Cell) : Type 0 where
  pub fits : TalliesFit (drop (length begun) columns) (aggs_of outs) ts
  pub few : AllByRecursion (IsTally (2 ^ 62)) ts

one_more : (begun : List Cell) (c : Cell) (rest : Option (List Cell)) → option_map (λ cs. begun ++ cs) (option_map (λ cs. c ∷ cs) rest) ≡ option_map (λ cs. (begun ++ c ∷ []) ++ cs) rest
one_more begun c None = refl
one_more begun c (Some cs) = ap Some (sym (append_assoc begun (c ∷ []) cs))

pub appends_more : (before : List Cell) (whole : Option (List Cell)) (begun : List Cell) (a : Agg) (list : List Agg) (t : Tally) (ts : List Tally) (c : Cell) → tally_makes a t ≡ Some c
    → Appends before whole begun (made_all tallies (a ∷ list) (t ∷ ts)) → Appends before whole (begun ++ c ∷ []) (made_all tallies list ts)
appends_more before whole begun a list t ts c e h =
    h ∙ ap (λ o. option_map (λ cs. begun ++ cs) (option_and_then (λ x. option_map (λ cs. x ∷ cs) (made_all tallies list ts)) o)) e ∙ one_more begun c (made_all tallies list ts)

pub left_more : (columns : List Head) (begun : List Cell) (o : Out) (outs : List Out) (t : Tally) (ts : List Tally) (c : Cell) → OutsLeft columns (o ∷ outs) (t ∷ ts) begun → OutsLeft columns outs ts (begun ++ c ∷ [])
left_more columns begun o outs t ts c left = record {
  fits = subst (λ n. TalliesFit (drop n columns) (aggs_of outs) ts) (next_length begun c) (others_fit columns (length begun) o.agg (aggs_of outs) t ts left.fits);
  few = left.few.1;
}
  where
    next_length : (begun : List Cell) (c : Cell) → suc (length begun) ≡ length (begun ++ c ∷ [])
    next_length [] c = refl
    next_length (b ∷ begun) c = ap suc (next_length begun c)

same_inside : (x y : List Cell) → Some x ≡ Some y → x ≡ y
same_inside x y e = subst (λ o. IfSome o (λ z. x ≡ z)) e refl

-- at the end each cell was made
pub all_made : (before : List Cell) (whole : Option (List Cell)) (begun : List Cell) → Appends before whole begun (Some []) → MatchOption whole ⊥ (λ cs. begun ≡ before ++ cs)
all_made before None begun e = absurd (none-some _ e)
all_made before (Some cs) begun e = sym (append-nil begun) ∙ sym (same_inside (before ++ cs) (begun ++ []) e)

-- and where one is not, none is
pub none_made : (before : List Cell) (whole : Option (List Cell)) (begun : List Cell) → Appends before whole begun None → whole ≡ None
none_made before None begun e = refl
none_made before (Some cs) begun e = absurd (none-some _ (sym e))

dropped : {X : Type 0} (xs : List X) (i : ℕ) (x : X) → i < length xs → x ≡ get_or xs i x → drop i xs ≡ x ∷ drop (i + 1) xs
dropped xs i x h e = drop_more xs i x h ∙ ap (λ y. y ∷ drop (i + 1) xs) (sym e)

-- the next output and its tally
pub record AtPlace (columns : List Head) (o : Out) (outs : List Out) (t : Tally) (ts : List Tally) (before : List Cell) (whole : Option (List Cell)) (begun : List Cell) : Type 0 where
  pub left : OutsLeft columns (o ∷ outs) (t ∷ ts) begun
  pub made : Appends before whole begun (made_all tallies (o.agg ∷ aggs_of outs) (t ∷ ts))

pub at_place : (columns : List Head) (outs : List Out) (ts : List Tally) (i : ℕ) (o : Out) (t : Tally) (before : List Cell) (whole : Option (List Cell)) (begun : List Cell)
    → i < length outs → o ≡ get_or outs i o → t ≡ get_or ts i t → OutsLeft columns (drop i outs) (drop i ts) begun → Appends before whole begun (made_all tallies (aggs_of (drop i outs)) (drop i ts))
    → AtPlace columns o (drop (i + 1) outs) t (drop (i + 1) ts) before whole begun
at_place columns outs ts i o t before whole begun h e f left made =
    let there = tally_there (drop (length begun) columns) outs ts i left.fits h in
    let os = dropped outs i o h e in
    let tts = dropped ts i t there f in
    record {
      left = subst (λ x. OutsLeft columns (o ∷ drop (i + 1) outs) x begun) tts (subst (λ x. OutsLeft columns x (drop i ts) begun) os left);
      made = subst (λ x. Appends before whole begun (made_all tallies (o.agg ∷ aggs_of (drop (i + 1) outs)) x)) tts (subst (λ x. Appends before whole begun (made_all tallies (aggs_of x) (drop i ts))) os made);
    }

module _ (columns : List Head) (o : Out) (outs : List Out) (t : Tally) (ts : List Tally) (before : List Cell) (whole : Option (List Cell)) (begun : List Cell) (here : AtPlace columns o outs t ts before whole begun) where
  -- the cell that is made is of the next column's type
  pub takes_made : (c : Cell) → Some c ≡ tally_makes o.agg t → option_map (λ (h : Head). h.1) (slice_get columns (length begun)) ≡ Some (type_of c)
  takes_made c e = next_type columns (length begun) o.agg (aggs_of outs) t ts c here.left.fits (sym e)

  -- where an output is not made, none is
  pub stops : None ≡ tally_makes o.agg t → whole ≡ None
  stops e =
      none_made before whole begun (here.made ∙ ap (λ o. option_map (λ cs. begun ++ cs) (option_and_then (λ x. option_map (λ cs. x ∷ cs) (made_all tallies (aggs_of outs) ts)) o)) (sym e))

  -- one cell more
  pub left_after : (c : Cell) → OutsLeft columns outs ts (begun ++ c ∷ [])
  left_after c = left_more columns begun o outs t ts c here.left

  pub made_after : (c : Cell) → Some c ≡ tally_makes o.agg t → Appends before whole (begun ++ c ∷ []) (made_all tallies (aggs_of outs) ts)
  made_after c e = appends_more before whole begun o.agg (aggs_of outs) t ts c (sym e) here.made

  -- after `cell`
  pub step_left : (maker new : Making) (c : Cell) → maker.schema.columns ≡ columns → maker.begun ≡ begun → new ≡ record maker { begun = maker.begun ++ c ∷ [] } → OutsLeft new.schema.columns outs ts new.begun
  step_left maker new c same was is =
      subst (λ (m : Making). OutsLeft m.schema.columns outs ts m.begun) (sym is) (subst (λ x. OutsLeft x outs ts (maker.begun ++ c ∷ [])) (sym same) (subst (λ b. OutsLeft columns outs ts (b ++ c ∷ [])) (sym was) (left_after c)))

  pub step_made : (maker new : Making) (c : Cell) → Some c ≡ tally_makes o.agg t → maker.begun ≡ begun → new ≡ record maker { begun = maker.begun ++ c ∷ [] } → Appends before whole new.begun (made_all tallies (aggs_of outs) ts)
  step_made maker new c e was is =
      subst (λ (m : Making). Appends before whole m.begun (made_all tallies (aggs_of outs) ts)) (sym is) (subst (λ b. Appends before whole (b ++ c ∷ []) (made_all tallies (aggs_of outs) ts)) (sym was) (made_after c e))

pub same_maker : (first maker new : Making) (cells : List Cell) → maker ≡ record first { begun = maker.begun } → new ≡ record maker { begun = cells } → new ≡ record first { begun = new.begun }
same_maker first maker new cells same is = is ∙ ap (λ (m : Making). record m { begun = cells }) same ∙ ap (λ (m : Making). record first { begun = m.begun }) (sym is)

-- a row has as many cells as it has columns
pub made_length : (heads : List Head) (list : List Agg) (ts : List Tally) (cs : List Cell) → TalliesFit heads list ts → made_all tallies list ts ≡ Some cs → length cs ≡ length heads
made_length [] [] [] cs fits e = ap length (sym (same_inside [] cs e))
made_length (h ∷ heads) (a ∷ list) (t ∷ ts) cs fits e = by (tally_makes a t) (made_all tallies list ts) (λ ds. made_length heads list ts ds fits.1) e
  where
    by : (o : Option Cell) (p : Option (List Cell)) → ((ds : List Cell) → p ≡ Some ds → length ds ≡ length heads) → option_and_then (λ x. option_map (λ cs. x ∷ cs) p) o ≡ Some cs → length cs ≡ suc (length heads)
    by None p rest e = absurd (none-some _ e)
    by (Some c) None rest e = absurd (none-some _ e)
    by (Some c) (Some ds) rest e = ap length (sym (same_inside (c ∷ ds) cs e)) ∙ ap suc (rest ds refl)
made_length [] [] (t ∷ ts) cs fits e = absurd fits
made_length [] (a ∷ list) ts cs fits e = absurd fits
made_length (h ∷ heads) [] ts cs fits e = absurd fits
made_length (h ∷ heads) (a ∷ list) [] cs fits e = absurd fits
