-- What a walked state tells of the library: its live versions, and whether a number is live.
use Rattle.std.proofs.Common.{◌≡◌, ℕ, Bool, true, false, cond, not, ◌&&◌, ◌||◌, List, [], ◌∷◌, ◌++◌, map, reverse, refl, ap, sym, ◌∙◌, Some, None, nat_eq}
use Rattle.std.specs.Prelude.{filter, find, is_some}
use Rattle.std.specs.List.{AllZip, list_any}
use Rattle.std.proofs.lemmas.List.{reverse-append}
use Rattle.std.proofs.lemmas.List.Elements.{filter-append}
use Rattle.std.proofs.lemmas.List.Folds.{list_any-append}
use denote.Struct.Props.{props}
use mathlib.Core.Logic.{∥∥₁_elim}
use Rattle.key_kind.specs.Names.{Name}
use Rattle.bucket_core.specs.History.{History}
use Rattle.store_model.specs.declared.chain.LinkRow.{LinkRow}
use Rattle.store_model.specs.Intact.{IsLinkOf}
use Rattle.store_model.specs.Library.{Version, state_of, is_live}
use Rattle.store_model.specs.Links.{Linked, links}
use Rattle.store_model.specs.Law.{IsLawful}
use Rattle.store_model.proofs.Lawful.{lawful_is_intact}
use Rattle.version_chain.specs.declared.state.SymbolState.{SymbolState}
use Rattle.version_chain.specs.States.{IsStateOf, is_tomb, live_link}
use Rattle.reply_model.specs.Answering.{live_numbers}
use Rattle.prune_rule.specs.Burials.{live_among}

abbrev rows_of : List Linked → List LinkRow
rows_of ls = map (λ (l : Linked). l.row) ls

-- ---- the live versions

map_append : {A B : Type 0} (f : A → B) (xs ys : List A) → map f (xs ++ ys) ≡ map f xs ++ map f ys
map_append f [] ys = refl
map_append f (x ∷ xs) ys = ap (λ l. f x ∷ l) (map_append f xs ys)

live_append : (tombs : List ℕ) (xs ys : List LinkRow) → live_among tombs (xs ++ ys) ≡ live_among tombs xs ++ live_among tombs ys
live_append tombs xs ys = ap (map (λ (row : LinkRow). row.version)) (filter-append (λ (row : LinkRow). not (is_tomb tombs row.version)) xs ys) ∙ map_append (λ (row : LinkRow). row.version) (filter (λ (row : LinkRow). not (is_tomb tombs row.version)) xs) (filter (λ (row : LinkRow). not (is_tomb tombs row.version)) ys)

append_nothing : {A : Type 0} (xs : List A) → xs ++ [] ≡ xs
append_nothing [] = refl
append_nothing (x ∷ xs) = ap (λ l. x ∷ l) (append_nothing xs)

live_zip : (tombs : List ℕ) (ls : List Linked) (vs : List Version) → AllZip IsLinkOf ls vs
    → live_among tombs (reverse (rows_of ls)) ≡ reverse (map (λ (v : Version). v.number) (filter (λ (v : Version). not (list_any (nat_eq v.number) tombs)) vs))
live_zip tombs [] [] z = refl
live_zip tombs [] (v ∷ vs) z = absurd z
live_zip tombs (l ∷ ls) [] z = absurd z
live_zip tombs (l ∷ ls) (v ∷ vs) z =
    let numbers : List ℕ = map (λ (w : Version). w.number) (filter (λ (w : Version). not (list_any (nat_eq w.number) tombs)) vs) in
    let same : not (is_tomb tombs l.row.version) ≡ not (list_any (nat_eq v.number) tombs) = ap (λ n. not (list_any (nat_eq n) tombs)) z.0.number in
    ap (live_among tombs) (reverse-append (l.row ∷ []) (rows_of ls))
    ∙ (live_append tombs (reverse (rows_of ls)) (l.row ∷ [])
    ∙ (ap (λ xs. xs ++ live_among tombs (l.row ∷ [])) (live_zip tombs ls vs z.1)
    ∙ (ap (λ b. reverse numbers ++ map (λ (row : LinkRow). row.version) (cond b (l.row ∷ []) [])) same
    ∙ (elim (not (list_any (nat_eq v.number) tombs)) as (λ b. reverse numbers ++ map (λ (row : LinkRow). row.version) (cond b (l.row ∷ []) [])
    ≡ reverse (map (λ (w : Version). w.number) (cond b (v ∷ filter (λ (w : Version). not (list_any (nat_eq w.number) tombs)) vs) (filter (λ (w : Version). not (list_any (nat_eq w.number) tombs)) vs)))) [
      | true ↦ ap (λ n. reverse numbers ++ n ∷ []) z.0.number ∙ sym (reverse-append (v.number ∷ []) numbers)
      | false ↦ append_nothing (reverse numbers)
    ]))))

pub live_told : (h : History) (symbol : Name) (state : SymbolState) → ∥ IsLawful h ∥₁ → IsStateOf h symbol state → live_among state.tombs state.links ≡ live_numbers (state_of h symbol)
live_told h symbol state lawful s =
    ap (λ ts. live_among ts state.links) s.tombs
    ∙ (ap (live_among (state_of h symbol).buried) s.links
    ∙ ∥∥₁_elim lawful prop (λ l. live_zip (state_of h symbol).buried (links h symbol) (state_of h symbol).versions ((lawful_is_intact h l).versions symbol)))
  where
    prop : IsProp (live_among (state_of h symbol).buried (reverse (rows_of (links h symbol))) ≡ live_numbers (state_of h symbol))
    prop = hlevel props

-- ---- whether a number is live

find_some : {X : Type 0} (p : X → Bool) (xs : List X) → is_some (find p xs) ≡ list_any p xs
find_some p [] = refl
find_some p (x ∷ xs) = elim (p x) as (λ b. is_some (cond b (Some x) (find p xs)) ≡ (b || list_any p xs)) [ true ↦ refl | false ↦ find_some p xs ]

any_reversed : {X : Type 0} (p : X → Bool) (xs : List X) → list_any p (reverse xs) ≡ list_any p xs
any_reversed p [] = refl
any_reversed p (x ∷ xs) =
    ap (list_any p) (reverse-append (x ∷ []) xs)
    ∙ (list_any-append p (reverse xs) (x ∷ [])
    ∙ (ap (λ b. b || (p x || false)) (any_reversed p xs) ∙ swapped (list_any p xs) (p x)))
  where
    swapped : (a b : Bool) → (a || (b || false)) ≡ (b || a)
    swapped true true = refl
    swapped true false = refl
    swapped false true = refl
    swapped false false = refl

any_zip : (n : ℕ) (ls : List Linked) (vs : List Version) → AllZip IsLinkOf ls vs → list_any (λ (row : LinkRow). nat_eq n row.version) (rows_of ls) ≡ list_any (λ (v : Version). nat_eq n v.number) vs
any_zip n [] [] z = refl
any_zip n [] (v ∷ vs) z = absurd z
any_zip n (l ∷ ls) [] z = absurd z
any_zip n (l ∷ ls) (v ∷ vs) z = λ i. nat_eq n (z.0.number i) || any_zip n ls vs z.1 i

pub link_told : (h : History) (symbol : Name) (state : SymbolState) (n : ℕ) → ∥ IsLawful h ∥₁ → IsStateOf h symbol state → is_some (live_link state n) ≡ is_live (state_of h symbol) n
link_told h symbol state n lawful s =
    by_tomb (is_tomb state.tombs n)
    ∙ (λ i. list_any (λ (row : LinkRow). nat_eq n row.version) (s.links i) && not (list_any (nat_eq n) (s.tombs i)))
    ∙ ap (λ b. b && not (list_any (nat_eq n) (state_of h symbol).buried)) (any_reversed (λ (row : LinkRow). nat_eq n row.version) (rows_of (links h symbol))
    ∙ ∥∥₁_elim lawful prop (λ l. any_zip n (links h symbol) (state_of h symbol).versions ((lawful_is_intact h l).versions symbol)))
  where
    by_tomb : (b : Bool) → is_some (cond b None (find (λ (row : LinkRow). nat_eq n row.version) state.links)) ≡ (list_any (λ (row : LinkRow). nat_eq n row.version) state.links && not b)
    by_tomb true = sym (and_false (list_any (λ (row : LinkRow). nat_eq n row.version) state.links))
      where
        and_false : (b : Bool) → (b && false) ≡ false
        and_false true = refl
        and_false false = refl
    by_tomb false = find_some (λ (row : LinkRow). nat_eq n row.version) state.links ∙ sym (and_true (list_any (λ (row : LinkRow). nat_eq n row.version) state.links))
      where
        and_true : (b : Bool) → (b && true) ≡ b
        and_true true = refl
        and_true false = refl

    prop : IsProp (list_any (λ (row : LinkRow). nat_eq n row.version) (rows_of (links h symbol)) ≡ list_any (λ (v : Version). nat_eq n v.number) (state_of h symbol).versions)
    prop = hlevel props

pub absent_told : (h : History) (symbol : Name) (state : SymbolState) (numbers : List ℕ) → ∥ IsLawful h ∥₁ → IsStateOf h symbol state
    → find (λ n. not (is_some (live_link state n))) numbers ≡ find (λ n. not (is_live (state_of h symbol) n)) numbers
absent_told h symbol state numbers lawful s = λ i. find (λ n. not (link_told h symbol state n lawful s i)) numbers
