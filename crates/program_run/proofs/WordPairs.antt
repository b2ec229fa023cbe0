-- Words two by two.
use Rattle.std.proofs.Common.{◌≡◌, ◌<◌, ◌≤◌, Bool, true, false, cond, List, [], ◌∷◌, length, get_or, take, drop, map, length-drop, Option, Some, None, refl, sym, ap, ◌∙◌, arith}
use Rattle.std.specs.Prelude.{◌&&◌, ◌-◌, is_none, is_some, option_map}
use Rattle.std.proofs.lemmas.Bool.{true≢false}
use Rattle.std.proofs.lemmas.List.{take_all}
use Rattle.frame_core.specs.Texts.{Text, same_text}
use Rattle.program_run.specs.CommandLine.{Allowed, is_option, value_given, are_options, plain_words_of}

-- the words behind the first two
rest-all : {S : Type 0} (xs : List S) → take (length xs - 2) (drop 2 xs) ≡ drop 2 xs
rest-all xs = take_all (length xs - 2) (drop 2 xs) (omega (arith, length-drop 2 xs))

-- the first option has another name
pub given-behind : {S : Type 0} (f : S → Text) (name : Text) (xs : List S) (x : S) → 2 ≤ length xs → x ≡ get_or xs 0 x → same_text name (f x) ≡ false →
    value_given name (map f (take (length xs - 2) (drop 2 xs))) ≡ value_given name (map f xs)
given-behind f name [] x le is other = absurd (omega (arith, le))
given-behind f name (a ∷ []) x le is other = absurd (omega (arith, le))
given-behind f name (a ∷ b ∷ xs) x le is other = ap (λ (ys : List _). value_given name (map f ys)) (rest-all (a ∷ b ∷ xs)) ∙ sym (ap (λ t. cond t (Some (f b)) (value_given name (map f xs))) (ap (λ y. same_text name (f y)) (sym is) ∙ other))

-- the first option and those behind it
pub options-behind : {S : Type 0} (a : Allowed) (f : S → Text) (xs : List S) (x y : S) → 2 ≤ length xs → x ≡ get_or xs 0 x → y ≡ get_or xs 1 y →
    are_options a (map f xs) ≡
    (is_option a (f x) (f y) && is_none (value_given (f x) (map f (take (length xs - 2) (drop 2 xs)))) && are_options a (map f (take (length xs - 2) (drop 2 xs))))
options-behind a f [] x y le is at = absurd (omega (arith, le))
options-behind a f (p ∷ []) x y le is at = absurd (omega (arith, le))
options-behind a f (p ∷ q ∷ xs) x y le is at =
    ap (λ z. is_option a (f z) (f q) && is_none (value_given (f z) (map f xs)) && are_options a (map f xs)) (sym is)
    ∙ ap (λ z. is_option a (f x) (f z) && is_none (value_given (f x) (map f xs)) && are_options a (map f xs)) (sym at)
    ∙ ap (λ (ys : List _). is_option a (f x) (f y) && is_none (value_given (f x) (map f ys)) && are_options a (map f ys)) (sym (rest-all (p ∷ q ∷ xs)))

-- a value is given, or none
pub given-some : {A B : Type 0} (g : A → B) (o : Option A) (v : Option B) → true ≡ is_some o → option_map g o ≡ v → is_none v ≡ false
given-some g None v some is = absurd (true≢false some)
given-some g (Some a) v some is = ap is_none (sym is)

pub given-none : {A B : Type 0} (g : A → B) (o : Option A) (v : Option B) → false ≡ is_some o → option_map g o ≡ v → is_none v ≡ true
given-none g None v none is = ap is_none (sym is)
given-none g (Some a) v none is = absurd (true≢false (sym none))

-- the second of three tests fails, or the first two hold
pub and-out : (a b c : Bool) → b ≡ false → (a && b && c) ≡ false
and-out a b c is = ap (λ x. a && x && c) is ∙ of a
  where
    of : (x : Bool) → (x && false && c) ≡ false
    of true = refl
    of false = refl

pub and-in : (a b c : Bool) → a ≡ true → b ≡ true → (a && b && c) ≡ c
and-in a b c p q = ap (λ x. x && b && c) p ∙ ap (λ x. true && x && c) q

-- fewer than two words are none of the command set
pub few-words : {S : Type 0} (a : Allowed) (f : S → Text) (xs : List S) → length xs < 2 → None ≡ plain_words_of a (map f xs)
few-words a f [] lt = refl
few-words a f (x ∷ []) lt = refl
few-words a f (x ∷ y ∷ xs) lt = absurd (omega (arith, lt))
