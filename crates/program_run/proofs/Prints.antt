-- Texts that are printed one after another.
use Rattle.std.proofs.Common.{◌≡◌, ℕ, zero, suc, ◌+◌, ◌<◌, ◌≤◌, min, List, [], ◌∷◌, ◌++◌, length, get_or, take, drop, Option, Some, None, Result, Ok, Err, refl, sym, ap, ◌∙◌, subst, append_assoc, arith}
use Rattle.std.specs.Prelude.{slice_get, IsErrAnd}
use Rattle.std.specs.List.{concat}
use Rattle.std.proofs.lemmas.List.{append-nil, take-append-le, take_min, take_more, take_all, take-append-drop}
use Rattle.std.proofs.lemmas.List.Folds.{concat-append}
use Rattle.std.proofs.lemmas.Option.{slice_get-get_or, slice_get_within}
use Rattle.base_types.specs.Faults.{Rose}
use Rattle.frame_core.specs.Texts.{Text}
use Rattle.program_edge.specs.declared.sink.SinkErr.{SinkErr}
use Rattle.program_edge.specs.declared.sink.SinkErr.TheVariants as sinks
use Rattle.program_run.specs.Endings.{Wrote, WrotePart, Printed}

-- a fault that came later came
pub rose-later : (before later now : ℕ) → before ≤ later → Rose later now → Rose before now
rose-later before later now le rose = omega arith

-- ---- fronts of texts

-- a text and a front of the next are a front of both
take-behind : (x y : Text) (n : ℕ) → take (length x + n) (x ++ y) ≡ x ++ take n y
take-behind [] y n =
    let none : 0 + n ≡ n = omega arith in
    ap (λ (k : ℕ). take k y) none
take-behind (a ∷ x) y n =
    let more : suc (length x) + n ≡ suc (length x + n) = omega arith in
    rw more (ap (λ (t : Text). a ∷ t) (take-behind x y n))

-- a front of a text is a front of the text with another behind it
take-front : (x y : Text) (n : ℕ) → take (min n (length x)) (x ++ y) ≡ take n x
take-front x y n =
    let le : min n (length x) ≤ length x = omega arith in
    rw take-append-le (take_min n x)

-- ---- what was written

-- nothing was written
pub wrote-nothing : (a : Option Text) → Wrote a a []
wrote-nothing None = refl
wrote-nothing (Some x) = ap (λ (t : Text). some t) (sym (append-nil x))
  where
    some : Text → Option Text
    some t = Some t

-- one text after another
pub wrote-then : (a b c : Option Text) (x y : Text) → Wrote a b x → Wrote b c y → Wrote a c (x ++ y)
wrote-then None b c x y p q = subst (λ (o : Option Text). Wrote o c y) p q
wrote-then (Some w) b c x y p q = subst (λ (o : Option Text). Wrote o c y) p q ∙ ap some (append_assoc w x y)
  where
    some : Text → Option Text
    some t = Some t

part-then : (a b c : Option Text) (x y : Text) → Wrote a b x → WrotePart b c y → WrotePart a c (x ++ y)
part-then a b c x y p q = record { count = length x + q.count; wrote = subst (λ (t : Text). Wrote a c t) (sym (take-behind x y q.count)) (wrote-then a b c x (take q.count y) p q.wrote) }

part-front : (a b : Option Text) (x y : Text) → WrotePart a b x → WrotePart a b (x ++ y)
part-front a b x y p = record { count = min p.count (length x); wrote = subst (λ (t : Text). Wrote a b t) (sym (take-front x y p.count)) p.wrote }

part-nothing : (a : Option Text) (x : Text) → WrotePart a a x
part-nothing a x = record { count = 0; wrote = wrote-nothing a }

-- ---- what was printed

-- want of memory before anything was put
pub printed-nothing : (a : Option Text) (f : ℕ) (x : Text) → Printed a a f f x (Err sinks.NoMemory)
printed-nothing a f x = (part-nothing a x, refl)

-- one text after another
pub printed-then : (a b c : Option Text) (f g h : ℕ) (x y : Text) (r : Result (Unit {0}) SinkErr) → Printed a b f g x (Ok tt) → Printed b c g h y r → Printed a c f h (x ++ y) r
printed-then a b c f g h x y (Ok done) p q = (wrote-then a b c x y p.0 q.0, q.1 ∙ p.1)
printed-then a b c f g h x y (Err sinks.NoMemory) p q = (part-then a b c x y p.0 q.0, q.1 ∙ p.1)
printed-then a b c f g h x y (Err sinks.Failed) p q = (part-then a b c x y p.0 q.0, subst (λ (n : ℕ). Rose n h) p.1 q.1)

-- after a refused put nothing more is put
pub printed-stop : (a b : Option Text) (f g : ℕ) (x y : Text) (e : SinkErr) → Printed a b f g x (Err e) → Printed a b f g (x ++ y) (Err e)
printed-stop a b f g x y sinks.NoMemory p = (part-front a b x y p.0, p.1)
printed-stop a b f g x y sinks.Failed p = (part-front a b x y p.0, p.1)

-- ---- texts in a row

-- the text at a place
pub got : {A : Type 0} (xs : List A) (i : ℕ) → i < length xs → (x : A) × (slice_get xs i ≡ Some x)
got [] i lt = absurd (omega (arith, lt))
got (x ∷ xs) zero lt = (x, refl)
got (x ∷ xs) (suc i) lt = got xs i (omega (arith, lt))

-- the texts up to the next place
concat-more : (texts : List Text) (i : ℕ) (t : Text) → slice_get texts i ≡ Some t → concat (take (i + 1) texts) ≡ concat (take i texts) ++ t
concat-more texts i t is =
    let lt : i < length texts = slice_get_within texts i t is in
    let here : get_or texts i t ≡ t = same (sym (slice_get-get_or texts i t lt) ∙ is) in
    ap concat (take_more texts i t lt ∙ ap (λ (x : Text). take i texts ++ x ∷ []) here) ∙ (concat-append (take i texts) (t ∷ []) ∙ ap (λ (x : Text). concat (take i texts) ++ x) (append-nil t))
  where
    same : {x y : Text} → Some x ≡ Some y → x ≡ y
    same e = cc

-- all texts are those up to a place and the rest
concat-split : (texts : List Text) (i : ℕ) → concat texts ≡ concat (take i texts) ++ concat (drop i texts)
concat-split texts i = ap concat (sym (take-append-drop i texts)) ∙ concat-append (take i texts) (drop i texts)

-- all texts are those up to the next place and the rest
concat-around : (texts : List Text) (i : ℕ) (t : Text) → slice_get texts i ≡ Some t → concat texts ≡ (concat (take i texts) ++ t) ++ concat (drop (i + 1) texts)
concat-around texts i t is = concat-split texts (i + 1) ∙ ap (λ (x : Text). x ++ concat (drop (i + 1) texts)) (concat-more texts i t is)

-- one text more
pub row-more : (a b c : Option Text) (f g h : ℕ) (texts : List Text) (i : ℕ) (t : Text) → slice_get texts i ≡ Some t →
    Printed a b f g (concat (take i texts)) (Ok tt) → Printed b c g h t (Ok tt) → Printed a c f h (concat (take (i + 1) texts)) (Ok tt)
row-more a b c f g h texts i t is p q = subst (λ (x : Text). Printed a c f h x (Ok tt)) (sym (concat-more texts i t is)) (printed-then a b c f g h (concat (take i texts)) t (Ok tt) p q)

-- a text that is refused
pub row-refused : (a b c : Option Text) (f g h : ℕ) (texts : List Text) (i : ℕ) (t : Text) (e : SinkErr) → slice_get texts i ≡ Some t →
    Printed a b f g (concat (take i texts)) (Ok tt) → Printed b c g h t (Err e) → Printed a c f h (concat texts) (Err e)
row-refused a b c f g h texts i t e is p q = subst (λ (x : Text). Printed a c f h x (Err e)) (sym (concat-around texts i t is))
    (printed-stop a c f h (concat (take i texts) ++ t) (concat (drop (i + 1) texts)) e (printed-then a b c f g h (concat (take i texts)) t (Err e) p q))

-- all texts
pub row-end : (a b : Option Text) (f g : ℕ) (texts : List Text) (i : ℕ) → length texts ≤ i → Printed a b f g (concat (take i texts)) (Ok tt) → Printed a b f g (concat texts) (Ok tt)
row-end a b f g texts i le p = subst (λ (t : List Text). Printed a b f g (concat t) (Ok tt)) (take_all i texts le) p

-- want of memory between two texts
pub row-halts : (a b : Option Text) (f g : ℕ) (texts : List Text) (i : ℕ) → Printed a b f g (concat (take i texts)) (Ok tt) → Printed a b f g (concat texts) (Err sinks.NoMemory)
row-halts a b f g texts i p = subst (λ (x : Text). Printed a b f g x (Err sinks.NoMemory)) (sym (concat-split texts i))
    (printed-then a b b f g g (concat (take i texts)) (concat (drop i texts)) (Err sinks.NoMemory) p (printed-nothing b g (concat (drop i texts))))

-- ---- calls with `?`

-- an error that is handed on stays the same
pub handed-on : {T E : Type 0} (r : Result T E) (e : E) → IsErrAnd r (λ x. x ≡ e) → r ≡ Err e
handed-on (Ok t) e is = absurd is
handed-on {T} {E} (Err x) e is = ap (λ (y : E). err y) is
  where
    err : E → Result T E
    err y = Err y
