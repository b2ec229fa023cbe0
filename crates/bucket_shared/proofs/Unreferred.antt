-- Where no event after a place has a symbol's row, the symbol was not referred after that place.
use Rattle.std.proofs.Common.{◌≡◌, ◌≢◌, ℕ, ◌-◌, Bool, true, false, List, [], ◌∷◌, ◌++◌, length, take, drop, reverse, get_or, Some, refl, sym, ap, ◌∙◌, subst, arith}
use Rattle.std.specs.Prelude.{◌||◌, All}
use Rattle.std.specs.List.{list_any}
use Rattle.std.proofs.lemmas.Bool.{true≢false}
use Rattle.std.proofs.lemmas.List.{reverse-append, length-reverse, take-append-le, take-append-drop, length-drop, take_all}
use Rattle.std.proofs.lemmas.List.Folds.{list_any_none}
use Rattle.key_kind.specs.Names.{Name, same_name}
use Rattle.key_kind.proofs.KeyTests.{same_name_is}
use Rattle.bucket_core.specs.declared.event.Event.{Event}
use Rattle.bucket_core.specs.declared.event.Event.TheVariants as events
use Rattle.bucket_core.specs.Laws.{refers}
use Rattle.bucket_core.specs.Calls.{refers_after}
use Rattle.bucket_shared.specs.Rows.{row}
use Rattle.bucket_shared.specs.Stories.{event_row}

-- an event of another row is no Refer of the symbol
not_referred : (symbol : Name) (e : Event) → event_row e ≢ Some (row symbol) → refers symbol e ≡ false
not_referred symbol (events.Put c key body) other = refl
not_referred symbol (events.Refer c s was entry list) other =
    elim (same_name s symbol) as (λ b. same_name s symbol ≡ b → b ≡ false) [
      | true ↦ λ is. absurd (other (ap (λ (n : Name). Some (row n)) (same_name_is s symbol is)))
      | false ↦ λ is. refl
    ] refl
not_referred symbol (events.Name c snap body) other = refl
not_referred symbol (events.Unname c snap) other = refl
not_referred symbol (events.Drop c key) other = refl

-- none of two lists
any_append : (p : Event → Bool) (xs ys : List Event) → list_any p xs ≡ false → list_any p ys ≡ false → list_any p (xs ++ ys) ≡ false
any_append p [] ys a b = b
any_append p (x ∷ xs) ys a b = by (p x) (any_append p xs ys) a
  where
    by : (t : Bool) → (list_any p xs ≡ false → list_any p ys ≡ false → list_any p (xs ++ ys) ≡ false) → (t || list_any p xs) ≡ false → (t || list_any p (xs ++ ys)) ≡ false
    by true rest h = absurd (true≢false h)
    by false rest h = rest h b

any_head : (b c : Bool) → (b || c) ≡ false → (b || false) ≡ false
any_head true c h = h
any_head false c h = refl

any_tail : (b c : Bool) → (b || c) ≡ false → c ≡ false
any_tail true c h = absurd (true≢false h)
any_tail false c h = h

any_reverse : (p : Event → Bool) (xs : List Event) → list_any p xs ≡ false → list_any p (reverse xs) ≡ false
any_reverse p [] h = refl
any_reverse p (x ∷ xs) h =
    ap (list_any p) (reverse-append (x ∷ []) xs)
    ∙ any_append p (reverse xs) (x ∷ []) (any_reverse p xs (any_tail (p x) (list_any p xs) h)) (any_head (p x) (list_any p xs) h)

-- the newest events, after a place
newest_after : (xs : List Event) (place : ℕ) → take (length (reverse xs) - place) (reverse xs) ≡ reverse (drop place xs)
newest_after xs place =
    let count : length (reverse xs) - place ≡ length (reverse (drop place xs)) = omega (arith, length-reverse xs, length-reverse (drop place xs), length-drop place xs) in
    let parts : reverse xs ≡ reverse (drop place xs) ++ reverse (take place xs) = ap reverse (sym (take-append-drop place xs)) ∙ reverse-append (take place xs) (drop place xs) in
    (λ i. take (count i) (parts i))
    ∙ (take-append-le (length (reverse (drop place xs))) (reverse (drop place xs)) (reverse (take place xs)) (omega arith)
    ∙ take_all (length (reverse (drop place xs))) (reverse (drop place xs)) (omega arith))

-- so a symbol whose row has no event after the place was not referred there
pub refers_after-row : (xs : List Event) (symbol : Name) (q place : ℕ) → q ≡ row symbol → All (λ e. event_row e ≢ Some q) (drop place xs) → refers_after (reverse xs) symbol place ≡ false
refers_after-row xs symbol q place is none =
    ap (list_any (refers symbol)) (newest_after xs place)
    ∙ any_reverse (refers symbol) (drop place xs)
    (list_any_none (refers symbol) (drop place xs) (λ k d less. not_referred symbol (get_or (drop place xs) k d) (subst (λ (n : ℕ). event_row (get_or (drop place xs) k d) ≢ Some n) is (none k d less))))
