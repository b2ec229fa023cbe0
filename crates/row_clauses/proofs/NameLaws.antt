-- No column's name stands twice after a clause.
use Rattle.std.proofs.Common.{◌≡◌, ℕ, zero, suc, ◌+◌, refl, ap, ap₂, sym, ◌∙◌}
use Rattle.std.specs.Prelude.{Bool, true, false, not, ◌&&◌, ◌||◌, cond, List, [], ◌∷◌, ◌++◌, map, slice_get, slice_set, Option, Some, None, is_some, option_map, option_and_then, unwrap_or}
use Rattle.std.specs.List.{list_any, position_from}
use Rattle.std.proofs.lemmas.Bool.{true≢false, and_parts, and_from}
use Rattle.frame_core.specs.declared.cell.ColType.{ColType}
use Rattle.frame_core.specs.declared.cell.ColType.TheVariants as types
use Rattle.frame_core.specs.Texts.{Text, same_text}
use Rattle.frame_core.specs.Schemas.{Head, Schema, are_new}
use Rattle.frame_core.specs.Selecting.{place_of}
use Rattle.frame_core.proofs.SelectLemmas.{place_is}
use Rattle.expr_clause.specs.declared.clause.Out.{Out}
use Rattle.expr_clause.specs.declared.clause.Clause.{Clause}
use Rattle.expr_clause.specs.declared.clause.Clause.TheVariants as clauses
use Rattle.expr_clause.specs.Exprs.{has_type, expr_type}
use Rattle.expr_clause.specs.Typing.{with_column, after, out_type, with_outs}
use Rattle.expr_clause.specs.Asking.{ends_run}
use Rattle.row_clauses.specs.Plans.{after_all, is_plain}
use Rattle.row_clauses.proofs.Results.{some_is, none_some}
use Rattle.row_clauses.proofs.RowLaws.{plain_parts}

-- the names of columns
abbrev pub names : List Head → List Text
names columns = map (λ (h : Head). h.0) columns

some_none : {X : Type 0} {G : Type 0} (x : X) → Some x ≡ None → G
some_none x e = absurd (true≢false (ap is_some e))

-- no column has the name
absent_rest : (name : Text) (n : ℕ) (h : Head) (hs : List Head) → position_from (λ (c : Head). same_text name c.0) n (h ∷ hs) ≡ None
    → (same_text name h.0 ≡ false) × (position_from (λ (c : Head). same_text name c.0) (n + 1) hs ≡ None)
absent_rest name n h hs = by (same_text name h.0)
  where
    by : (b : Bool) → cond b (Some n) (position_from (λ (c : Head). same_text name c.0) (n + 1) hs) ≡ None → (b ≡ false) × (position_from (λ (c : Head). same_text name c.0) (n + 1) hs ≡ None)
    by true e = some_none n e
    by false e = (refl, e)

new_end : (earlier : List Text) (n : ℕ) (columns : List Head) (head : Head) → are_new earlier (names columns) ≡ true → position_from (λ (c : Head). same_text head.0 c.0) n columns ≡ None
    → list_any (same_text head.0) earlier ≡ false → are_new earlier (names (columns ++ head ∷ [])) ≡ true
new_end earlier n [] head new absent e = ap (λ b. not b && true) e
new_end earlier n (h ∷ hs) head new absent e =
    let parts = and_parts (not (list_any (same_text h.0) earlier)) (are_new (h.0 ∷ earlier) (names hs)) new in
    let rest = absent_rest head.0 n h hs absent in
    and_from (not (list_any (same_text h.0) earlier)) (are_new (h.0 ∷ earlier) (names (hs ++ head ∷ []))) parts.0
    (new_end (h.0 ∷ earlier) (n + 1) hs head parts.1 rest.1 (ap₂ ◌||◌ rest.0 e))

pub new_column : (columns : List Head) (head : Head) → are_new [] (names columns) ≡ true → place_of head.0 columns ≡ None → are_new [] (names (columns ++ head ∷ [])) ≡ true
new_column columns head new absent = new_end [] 0 columns head new absent refl

names_set : (columns : List Head) (k : ℕ) (h head : Head) → slice_get columns k ≡ Some h → h.0 ≡ head.0 → names (slice_set columns k head) ≡ names columns
names_set [] k h head at same = refl
names_set (c ∷ columns) zero h head at same = ap (λ n. n ∷ names columns) (sym same ∙ ap (λ (x : Head). x.0) (sym (some_is c h at)))
names_set (c ∷ columns) (suc k) h head at same = ap (λ l. c.0 ∷ l) (names_set columns k h head at same)

new_with : (name : Text) (kind : ColType) (columns : List Head) → are_new [] (names columns) ≡ true → are_new [] (names (with_column name kind columns)) ≡ true
new_with name kind columns new = by (place_of name columns) refl
  where
    by : (o : Option ℕ) → place_of name columns ≡ o → are_new [] (names (with_column name kind columns)) ≡ true
    by None e = rw e (new_column columns (name, kind) new e)
    by (Some k) e = let found = place_is name columns k e in rw e (ap (are_new []) (names_set columns k found.0 (name, kind) found.1 found.2) ∙ new)

new_after : (c : Clause) (s : Schema) → ends_run c ≡ false → are_new [] (names s.columns) ≡ true → are_new [] (names (after c s).columns) ≡ true
new_after (clauses.DateRange range) s plain new = new
new_after (clauses.Filter x) s plain new = by (has_type types.Flag (expr_type s.columns x))
  where
    by : (b : Bool) → are_new [] (names (unwrap_or (cond b (Some s) None) s).columns) ≡ true
    by true = new
    by false = new
new_after (clauses.Apply name x) s plain new = by (expr_type s.columns x)
  where
    by : (o : Option ColType) → are_new [] (names (unwrap_or (option_map (λ kind. record s { columns = with_column name kind s.columns }) o) s).columns) ≡ true
    by None = new
    by (Some kind) = new_with name kind s.columns new
new_after (clauses.Group key outs) s plain new = absurd (true≢false plain)

pub new_after_all : (run : List Clause) (s : Schema) → is_plain run ≡ true → are_new [] (names s.columns) ≡ true → are_new [] (names (after_all run s).columns) ≡ true
new_after_all [] s plain new = new
new_after_all (c ∷ cs) s plain new = let parts = plain_parts c cs plain in new_after_all cs (after c s) parts.1 (new_after c s parts.0 new)

-- the columns of a group
pub new_outs : (columns made all : List Head) (outs : List Out) → are_new [] (names made) ≡ true → with_outs columns made outs ≡ Some all → are_new [] (names all) ≡ true
new_outs columns made all [] new e = ap (λ l. are_new [] (names l)) (sym (some_is made all e)) ∙ new
new_outs columns made all (o ∷ outs) new given =
    by (place_of o.name made) refl (out_type columns o) (λ kind absent e. new_outs columns (made ++ (o.name, kind) ∷ []) all outs (new_column made (o.name, kind) new absent) e) given
  where
    by : (p : Option ℕ) → place_of o.name made ≡ p → (t : Option ColType)
        → ((kind : ColType) → place_of o.name made ≡ None → with_outs columns (made ++ (o.name, kind) ∷ []) outs ≡ Some all → are_new [] (names all) ≡ true)
        → cond (is_some p) None (option_and_then (λ kind. with_outs columns (made ++ (o.name, kind) ∷ []) outs) t) ≡ Some all → are_new [] (names all) ≡ true
    by (Some k) p_is t later e = none_some all e
    by None p_is None later e = none_some all e
    by None p_is (Some kind) later e = later kind p_is e
