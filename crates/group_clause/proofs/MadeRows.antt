-- The rows of groups are made one after the other.
use Rattle.std.proofs.Common.{◌≡◌, ℕ, zero, suc, ◌+◌, ◌<◌, ◌≤◌, refl, ap, sym, ◌∙◌, subst, arith, length, drop}
use Rattle.std.specs.Prelude.{Bool, true, false, List, [], ◌∷◌, ◌++◌, map, pos, Option, Some, None, option_map, slice_get, MatchOption, Result, Ok, Err}
use Rattle.std.specs.List.{AllByRecursion}
use Rattle.std.proofs.lemmas.Bool.{true≢false}
use Rattle.std.proofs.lemmas.List.{append-nil, append_assoc, drop_more}
use lib.ListN.{get_or}
use Rattle.frame_core.specs.declared.cell.Cell.{Cell}
use Rattle.frame_core.specs.declared.refusal.Refusal.{Refusal}
use Rattle.frame_core.specs.declared.refusal.Refusal.TheVariants as refusals
use Rattle.frame_core.specs.Ranges.{InOrder}
use Rattle.frame_core.specs.Schemas.{Head, Schema}
use Rattle.frame_core.specs.Frames.{Row, type_of, last_stamp}
use Rattle.frame_core.specs.Making.{Making}
use Rattle.frame_core.specs.Selecting.{then_map}
use Rattle.expr_clause.specs.declared.clause.Agg.{Agg}
use Rattle.expr_clause.specs.Groups.{Line}
use Rattle.expr_clause.specs.Asking.{group_row}
use Rattle.group_clause.specs.Tallies.{made_all, finish_from, finish}
use Rattle.group_clause.specs.Partials.{Tally, tallies}
use Rattle.group_clause.specs.Taking.{Groups}
use Rattle.group_clause.specs.Making.{GroupFits, TalliesFit}
use Rattle.group_clause.proofs.RowLemmas.{made_length}

abbrev Entry : Type 0
Entry = Cell × List Tally

-- what holds of each holds of the one at a place
pub all_at : {X : Type 0} (P : X → Type 0) (xs : List X) (i : ℕ) (d : X) → i < length xs → AllByRecursion P xs → P (get_or xs i d)
all_at P [] i d h all = absurd (omega (arith, h))
all_at P (x ∷ xs) zero d h all = all.0
all_at P (x ∷ xs) (suc i) d h all = all_at P xs i d (omega (arith, h)) all.1

-- ---- one group

-- the row of a group is added, unless a sum overflows
abbrev pub AddsRow : List Agg → Entry → Making → Making → Bool → Type 0
AddsRow list g maker new done = MatchOption (made_all tallies list g.1) (done ≡ false) (λ cs. (done ≡ true) × (new ≡ record maker { rows = maker.rows ++ group_row (g.0, cs) ∷ [] }))

abbrev pub AddsOuts : List Agg → List Tally → Making → Making → Bool → Type 0
AddsOuts list ts maker new done = MatchOption (made_all tallies list ts) (done ≡ false) (λ cs. (done ≡ true) × (new ≡ record maker { begun = maker.begun ++ cs }))

-- the key is of the first column's type
pub key_type : (columns : List Head) (begun : List Cell) (list : List Agg) (g : Entry) → begun ≡ [] → GroupFits columns list g → option_map (λ (h : Head). h.1) (slice_get columns (length begun)) ≡ Some (type_of g.0)
key_type [] begun list g e fits = absurd fits
key_type (h ∷ columns) begun list g e fits = ap (λ (b : List Cell). option_map (λ (h : Head). h.1) (slice_get (h ∷ columns) (length b))) e ∙ ap Some (sym fits.0)

-- the outputs fit the columns behind it
pub outs_type : (columns : List Head) (begun : List Cell) (list : List Agg) (g : Entry) → begun ≡ g.0 ∷ [] → GroupFits columns list g → TalliesFit (drop (length begun) columns) list g.1
outs_type [] begun list g e fits = absurd fits
outs_type (h ∷ columns) begun list g e fits = subst (λ (b : List Cell). TalliesFit (drop (length b) (h ∷ columns)) list g.1) (sym e) fits.1

-- the row is whole
pub row_full : (columns : List Head) (list : List Agg) (g : Entry) (maker new : Making) → GroupFits columns list g → maker.begun ≡ g.0 ∷ [] → AddsOuts list g.1 maker new true → length new.begun ≡ length columns
row_full [] list g maker new fits e added = absurd fits
row_full (h ∷ columns) list g maker new fits e added = by (made_all tallies list g.1) (λ cs. made_length columns list g.1 cs fits.1) added
  where
    by : (o : Option (List Cell)) → ((cs : List Cell) → o ≡ Some cs → length cs ≡ length columns) → MatchOption o (true ≡ false) (λ cs. (true ≡ true) × (new ≡ record maker { begun = maker.begun ++ cs })) → length new.begun ≡ length (h ∷ columns)
    by None rest added = absurd (true≢false added)
    by (Some cs) rest added = ap (λ (m : Making). length m.begun) added.1 ∙ ap (λ b. length (b ++ cs)) e ∙ ap suc (rest cs refl)

-- and is added
pub row_added : (list : List Agg) (g : Entry) (first maker outs new : Making) → maker ≡ record first { begun = first.begun ++ g.0 ∷ [] } → first.begun ≡ [] → AddsOuts list g.1 maker outs true
    → new ≡ record outs { rows = outs.rows ++ record { stamp = pos 0; cells = outs.begun } ∷ []; begun = [] } → AddsRow list g first new true
row_added list g first maker outs new is none added ended = by (made_all tallies list g.1) added
  where
    begins : maker ≡ record first { begun = g.0 ∷ [] }
    begins = is ∙ ap (λ b. record first { begun = b ++ g.0 ∷ [] }) none

    by : (o : Option (List Cell)) → MatchOption o (true ≡ false) (λ cs. (true ≡ true) × (outs ≡ record maker { begun = maker.begun ++ cs }))
        → MatchOption o (true ≡ false) (λ cs. (true ≡ true) × (new ≡ record first { rows = first.rows ++ group_row (g.0, cs) ∷ [] }))
    by None added = absurd (true≢false added)
    by (Some cs) added =
        let o : outs ≡ record first { begun = g.0 ∷ cs } = added.1 ∙ ap (λ (m : Making). record m { begun = m.begun ++ cs }) begins in (
          refl,
          ended ∙ ap (λ (m : Making). record m { rows = m.rows ++ record { stamp = pos 0; cells = m.begun } ∷ []; begun = [] }) o
              ∙ ap (λ b. record first { rows = first.rows ++ group_row (g.0, cs) ∷ []; begun = b }) (sym none),
        )

-- where the outputs are not made, the row is not
pub row_not_added : (list : List Agg) (g : Entry) (first maker outs : Making) (new : Making) → AddsOuts list g.1 maker outs false → AddsRow list g first new false
row_not_added list g first maker outs new added = by (made_all tallies list g.1) added
  where
    by : (o : Option (List Cell)) → MatchOption o (false ≡ false) (λ cs. (false ≡ true) × (outs ≡ record maker { begun = maker.begun ++ cs }))
        → MatchOption o (false ≡ false) (λ cs. (false ≡ true) × (new ≡ record first { rows = first.rows ++ group_row (g.0, cs) ∷ [] }))
    by None added = refl
    by (Some cs) added = absurd (true≢false (sym added.0))

-- ---- all groups

-- the rows of the groups before place i were made
pub record Made (schema : Schema) (list : List Agg) (groups : Groups) (i : ℕ) (maker : Making) : Type 0 where
  pub whole : maker.begun ≡ []
  pub same : maker.schema ≡ schema
  pub level : InOrder (last_stamp maker.rows) (Some (pos 0))
  pub rows : (clause : ℕ) → then_map (map group_row) (finish tallies clause list groups) ≡ then_map (λ lines. maker.rows ++ map group_row lines) (finish_from tallies clause (i + 1) list (drop i groups))

level_push : (rows : List Row) (line : Line) → InOrder (last_stamp (rows ++ group_row line ∷ [])) (Some (pos 0))
level_push [] line = omega arith
level_push (r ∷ []) line = omega arith
level_push (r ∷ s ∷ more) line = level_push (s ∷ more) line

same_rows : (r : Result (List Line) Refusal) (rows : List Row) → rows ≡ [] → then_map (map group_row) r ≡ then_map (λ lines. rows ++ map group_row lines) r
same_rows r rows e = ap (λ l. then_map (λ lines. l ++ map group_row lines) r) (sym e)

level_none : (rows : List Row) → rows ≡ [] → InOrder (last_stamp rows) (Some (pos 0))
level_none rows e = subst (λ l. InOrder (last_stamp l) (Some (pos 0))) (sym e) tt

pub made_start : (list : List Agg) (groups : Groups) (maker : Making) → maker.rows ≡ [] → maker.begun ≡ [] → Made maker.schema list groups 0 maker
made_start list groups maker none whole = record { whole = whole; same = refl; level = level_none maker.rows none; rows = λ clause. same_rows (finish tallies clause list groups) maker.rows none }

-- what one group more gives, told by what was made of it
abbrev told : ℕ → ℕ → Cell → Option (List Cell) → Result (List Line) Refusal → Result (List Line) Refusal
told clause n k made rest = elim made [ None ↦ Err (refusals.GroupOverflow clause n) | Some cs ↦ then_map (λ rest. (k, cs) ∷ rest) rest ]

module _ (schema : Schema) (list : List Agg) (groups : Groups) (i : ℕ) (maker : Making) (g : Entry) (h : i < length groups) (is : g ≡ get_or groups i g) (so : Made schema list groups i maker) where
  next_rows : (clause : ℕ) → then_map (map group_row) (finish tallies clause list groups)
      ≡ then_map (λ lines. maker.rows ++ map group_row lines) (told clause (i + 1) g.0 (made_all tallies list g.1) (finish_from tallies clause (i + 1 + 1) list (drop (i + 1) groups)))
  next_rows clause =
      so.rows clause
      ∙ ap (λ l. then_map (λ lines. maker.rows ++ map group_row lines) (finish_from tallies clause (i + 1) list l)) (drop_more groups i g h ∙ ap (λ (x : Entry). x ∷ drop (i + 1) groups) (sym is))

  joined_rows : (cs : List Cell) (r : Result (List Line) Refusal)
      → then_map (λ lines. maker.rows ++ map group_row lines) (then_map (λ rest. (g.0, cs) ∷ rest) r) ≡ then_map (λ lines. (maker.rows ++ group_row (g.0, cs) ∷ []) ++ map group_row lines) r
  joined_rows cs (Ok rest) = ap Ok (sym (append_assoc maker.rows (group_row (g.0, cs) ∷ []) (map group_row rest)))
  joined_rows cs (Err why) = refl

  abbrev Told : Option (List Cell) → ℕ → Type 0
  Told o clause =
      then_map (map group_row) (finish tallies clause list groups) ≡ then_map (λ lines. maker.rows ++ map group_row lines) (told clause (i + 1) g.0 o (finish_from tallies clause (i + 1 + 1) list (drop (i + 1) groups)))

  pub made_more : (new : Making) → AddsRow list g maker new true → Made schema list groups (i + 1) new
  made_more new added = by (made_all tallies list g.1) next_rows added
    where
      by : (o : Option (List Cell)) → ((clause : ℕ) → Told o clause) → MatchOption o (true ≡ false) (λ cs. (true ≡ true) × (new ≡ record maker { rows = maker.rows ++ group_row (g.0, cs) ∷ [] })) → Made schema list groups (i + 1) new
      by None e added = absurd (true≢false added)
      by (Some cs) e added =
          subst (Made schema list groups (i + 1)) (sym added.1)
          (record { whole = so.whole; same = so.same; level = level_push maker.rows (g.0, cs); rows = λ clause. e clause ∙ joined_rows cs (finish_from tallies clause (i + 1 + 1) list (drop (i + 1) groups)) })

  only_refused : (r : Result (List Line) Refusal) (why : Refusal) → then_map (map group_row) r ≡ Err why → r ≡ Err why
  only_refused (Ok lines) why e = absurd (true≢false (ap (λ (x : Result (List Row) Refusal). elim x [ Ok l ↦ true | Err w ↦ false ]) e))
  only_refused (Err w) why e = ap (λ (x : Result (List Row) Refusal). elim x [ Ok l ↦ Err w | Err v ↦ Err v ]) e

  pub made_stops : (new : Making) → AddsRow list g maker new false → (clause : ℕ) → finish tallies clause list groups ≡ Err (refusals.GroupOverflow clause (i + 1))
  made_stops new added clause = by (made_all tallies list g.1) (next_rows clause) added
    where
      by : (o : Option (List Cell)) → Told o clause → MatchOption o (false ≡ false) (λ cs. (false ≡ true) × (new ≡ record maker { rows = maker.rows ++ group_row (g.0, cs) ∷ [] }))
          → finish tallies clause list groups ≡ Err (refusals.GroupOverflow clause (i + 1))
      by None e added = only_refused (finish tallies clause list groups) (refusals.GroupOverflow clause (i + 1)) e
      by (Some cs) e added = absurd (true≢false (sym added.0))

nothing_left : {X : Type 0} (xs : List X) (i : ℕ) → length xs ≤ i → drop i xs ≡ []
nothing_left [] zero h = refl
nothing_left [] (suc i) h = refl
nothing_left (x ∷ xs) zero h = absurd (omega (arith, h))
nothing_left (x ∷ xs) (suc i) h = nothing_left xs i (omega (arith, h))

pub made_all_rows : (schema : Schema) (list : List Agg) (groups : Groups) (i : ℕ) (maker : Making) → length groups ≤ i → Made schema list groups i maker
    → (clause : ℕ) → then_map (map group_row) (finish tallies clause list groups) ≡ Ok maker.rows
made_all_rows schema list groups i maker h so clause =
    so.rows clause ∙ ap (λ l. then_map (λ lines. maker.rows ++ map group_row lines) (finish_from tallies clause (i + 1) list l)) (nothing_left groups i h) ∙ ap Ok (append-nil maker.rows)
