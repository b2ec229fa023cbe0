-- How many bytes texts have together, and the longest of them.
use Rattle.std.proofs.Common.{◌≡◌, ℕ, zero, suc, ◌+◌, ◌-◌, ◌<◌, ◌≤◌, max, ℤ, Bool, List, [], ◌∷◌, length, map, get_or, drop, refl, sym, ap, ◌∙◌, subst, arith, length-drop, drop-cons, add-one}
use Rattle.std.specs.Prelude.{slice_range, fold, sum_by}
use Rattle.std.proofs.lemmas.List.{length-take-le, drop_all}
use Rattle.std.proofs.lemmas.List.Sums.{sum_by-cons}
use Rattle.std.proofs.lemmas.List.Folds.{fold-map}
use Rattle.frame_core.specs.declared.cell.Cell.{Cell}
use Rattle.frame_core.specs.declared.cell.Cell.TheVariants as cells
use Rattle.frame_core.specs.declared.column.Column.{Column}
use Rattle.frame_core.specs.declared.column.Column.TheVariants as columns
use Rattle.frame_core.specs.Texts.{Text, texts_between, AreEnds}
use Rattle.frame_core.specs.Columns.{column_cells}
use Rattle.frame_core.specs.Limits.{text_bytes, all_text_bytes, longest_text}
use Rattle.frame_core.proofs.TextLemmas.{rest-utf8}

pub map-map : {A B C : Type 0} (g : B → C) (f : A → B) (xs : List A) → map g (map f xs) ≡ map (λ x. g (f x)) xs
map-map g f [] = refl
map-map {A} {B} {C} g f (x ∷ xs) = ap (λ (ys : List C). g (f x) ∷ ys) (map-map g f xs)

pub sum_by-map : {A B : Type 0} (g : B → ℕ) (f : A → B) (xs : List A) → sum_by g (map f xs) ≡ sum_by (λ x. g (f x)) xs
sum_by-map g f xs = fold-map (λ (n : ℕ) x. n + g x) f 0 xs

length-slice_range : (buffer : Text) (a b : ℕ) → a ≤ b → b ≤ length buffer → length (slice_range buffer a b) ≡ b - a
length-slice_range buffer a b order within = length-take-le (b - a) (drop a buffer) (omega (arith, length-drop a buffer))

-- ---- texts

-- each text is as long as from one end to the next
abbrev pub Spans : ℕ → List ℕ → List Text → Type 0
Spans start [] [] = Unit {0}
Spans start [] (t ∷ ts) = ⊥
Spans start (end ∷ ends) [] = ⊥
Spans start (end ∷ ends) (t ∷ ts) = (start + length t ≡ end) × Spans end ends ts

pub spans_from_ends : (start : ℕ) (ends : List ℕ) (buffer : Text) → AreEnds start ends buffer → Spans start ends (texts_between start ends buffer)
spans_from_ends start [] buffer are = tt
spans_from_ends start (end ∷ ends) buffer are =
    (omega (arith, are.0, length-slice_range buffer start end are.0 (rest-utf8 end ends buffer are.2).0), spans_from_ends end ends buffer are.2)

pub bytes_of_spans : (start : ℕ) (ends : List ℕ) (buffer : Text) → AreEnds start ends buffer → start + sum_by (λ (t : Text). length t) (texts_between start ends buffer) ≡ length buffer
bytes_of_spans start [] buffer are = omega (arith, are)
bytes_of_spans start (end ∷ ends) buffer are =
    let first = length-slice_range buffer start end are.0 (rest-utf8 end ends buffer are.2).0 in
    let rest = bytes_of_spans end ends buffer are.2 in
    omega (arith, are.0, first, rest, sum_by-cons (λ (t : Text). length t) (slice_range buffer start end) (texts_between end ends buffer))

-- a loop over the ends has come to this text
pub record Turn (start end : ℕ) (ends : List ℕ) (texts : List Text) (i : ℕ) : Type 0 where
  pub order : start ≤ end
  pub spans : Spans end (drop (i + 1) ends) (drop (i + 1) texts)
  pub text : Text
  pub long : length text ≡ end - start
  pub split : drop i texts ≡ text ∷ drop (i + 1) texts

tail_is : {A : Type 0} (xs : List A) (i : ℕ) (y : A) (ys : List A) → drop i xs ≡ y ∷ ys → drop (i + 1) xs ≡ ys
tail_is [] zero y ys e = absurd cc
tail_is [] (suc i) y ys e = absurd cc
tail_is (x ∷ xs) zero y ys e = cc
tail_is (x ∷ xs) (suc i) y ys e = let more : suc i + 1 ≡ suc (i + 1) = omega arith in rw more (tail_is xs i y ys e)

pub turn : (start : ℕ) (ends : List ℕ) (texts : List Text) (i d : ℕ) → i < length ends → Spans start (drop i ends) (drop i texts) → Turn start (get_or ends i d) ends texts i
turn start ends texts i d lt spans = split_on (drop i texts) refl (subst (λ (es : List ℕ). Spans start es (drop i texts)) (drop-cons ends i d lt) spans)
  where
    split_on : (ts : List Text) → drop i texts ≡ ts → Spans start (get_or ends i d ∷ drop (suc i) ends) ts → Turn start (get_or ends i d) ends texts i
    split_on [] is from = absurd from
    split_on (t ∷ ts) is from =
        let rest : drop (i + 1) texts ≡ ts = tail_is texts i t ts is in
        record {
          order = omega (arith, from.0);
          spans = rw (rest, add-one) from.1;
          text = t;
          long = omega (arith, from.0);
          split = is ∙ rw rest refl;
        }

-- ---- cells

no_text : {X : Type 0} (f : X → Cell) (xs : List X) → ((x : X) → text_bytes (f x) ≡ 0) → (sum_by text_bytes (map f xs) ≡ 0) × (fold max 0 (map text_bytes (map f xs)) ≡ 0)
no_text f [] none = (refl, refl)
no_text f (x ∷ xs) none =
    let rest = no_text f xs none in
    (sum_by-cons text_bytes (f x) (map f xs) ∙ omega (arith, none x, rest.0), ap (λ (n : ℕ). fold max (max 0 n) (map text_bytes (map f xs))) (none x) ∙ rest.1)

pub ints_bytes : (c : Column) (v : List ℤ) → c ≡ columns.Ints v → (0 ≡ all_text_bytes (column_cells c)) × (0 ≡ longest_text (column_cells c))
ints_bytes c v is = let none = no_text cells.Int v (λ x. refl) in rw is (sym none.0, sym none.1)

pub flags_bytes : (c : Column) (v : List Bool) → c ≡ columns.Flags v → (0 ≡ all_text_bytes (column_cells c)) × (0 ≡ longest_text (column_cells c))
flags_bytes c v is = let none = no_text cells.Flag v (λ x. refl) in rw is (sym none.0, sym none.1)

pub stamps_bytes : (c : Column) (v : List ℤ) → c ≡ columns.Stamps v → (0 ≡ all_text_bytes (column_cells c)) × (0 ≡ longest_text (column_cells c))
stamps_bytes c v is = let none = no_text cells.Stamp v (λ x. refl) in rw is (sym none.0, sym none.1)

pub texts_bytes : (v : List Text) → sum_by text_bytes (map cells.Text v) ≡ sum_by (λ (t : Text). length t) v
texts_bytes v = sum_by-map text_bytes cells.Text v

pub texts_longest : (v : List Text) → fold max 0 (map text_bytes (map cells.Text v)) ≡ fold max 0 (map (λ (t : Text). length t) v)
texts_longest v = ap (fold max 0) (map-map text_bytes cells.Text v)

-- ---- the longest text, by a loop over the ends

pub longest_more : (start end : ℕ) (ends : List ℕ) (texts : List Text) (i longest next total : ℕ) → Turn start end ends texts i → next ≡ max longest (end - start) → fold max longest (map (λ (t : Text). length t) (drop i texts)) ≡ total → fold max next (map (λ (t : Text). length t) (drop (i + 1) texts)) ≡ total
longest_more start end ends texts i longest next total t is all =
    let here : fold max longest (map (λ (t : Text). length t) (t.text ∷ drop (i + 1) texts)) ≡ total = subst (λ (ts : List Text). fold max longest (map (λ (t : Text). length t) ts) ≡ total) t.split all in
    ap (λ (n : ℕ). fold max n (map (λ (t : Text). length t) (drop (i + 1) texts))) (is ∙ ap (max longest) (sym t.long)) ∙ here

pub longest_end : (start : ℕ) (ends : List ℕ) (texts : List Text) (i longest total : ℕ) → length ends ≤ i → Spans start (drop i ends) (drop i texts) → fold max longest (map (λ (t : Text). length t) (drop i texts)) ≡ total → longest ≡ total
longest_end start ends texts i longest total short spans all = no_texts (drop i texts) refl (subst (λ (es : List ℕ). Spans start es (drop i texts)) (drop_all i ends short) spans)
  where
    no_texts : (ts : List Text) → drop i texts ≡ ts → Spans start [] ts → longest ≡ total
    no_texts [] is from = subst (λ (us : List Text). fold max longest (map (λ (t : Text). length t) us) ≡ total) is all
    no_texts (t ∷ ts) is from = absurd from
