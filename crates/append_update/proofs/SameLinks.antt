-- A symbol whose versions are as they were has the links that it had.
use Rattle.std.proofs.Common.{◌≡◌, suc, ◌+◌, true, false, List, [], ◌∷◌, ◌++◌, length, refl, sym, ap, ◌∙◌, arith, cond, length-append}
use Rattle.std.specs.List.{AllZip}
use mathlib.Core.Logic.{∥∥₁_map}
use denote.Struct.Props.{props}
use Rattle.key_kind.specs.Names.{Name, same_name}
use Rattle.bucket_core.specs.declared.event.Event.TheVariants as events
use Rattle.bucket_core.specs.History.{History}
use Rattle.store_model.specs.Library.{Version, state_of}
use Rattle.store_model.specs.Links.{Linked, links, links_at}
use Rattle.store_model.specs.Intact.{IsLinkOf}
use Rattle.store_model.specs.Law.{IsLawful}
use Rattle.store_model.proofs.Lawful.{lawful_is_intact}
use Rattle.version_chain.proofs.TraceLemmas.{append_assoc}
use Rattle.append_update.proofs.ToldLemmas.{told_prop}

-- links only become more
links_more : (more h : History) (symbol : Name) → (front : List Linked) × (links (more ++ h) symbol ≡ front ++ links h symbol)
links_more [] h symbol = ([], refl)
links_more (events.Refer c s was entry list ∷ more) h symbol =
    let r = links_more more h symbol in
    let here : List Linked = links_at (more ++ h) entry in
    elim (same_name s symbol) as (λ b. (front : List Linked) × (cond b (here ++ links (more ++ h) symbol) (links (more ++ h) symbol) ≡ front ++ links h symbol)) [
      | true ↦ (here ++ r.0, ap (λ ls. here ++ ls) r.1 ∙ sym (append_assoc here r.0 (links h symbol)))
      | false ↦ r
    ]
links_more (events.Put c key body ∷ more) h symbol = links_more more h symbol
links_more (events.Name c snap body ∷ more) h symbol = links_more more h symbol
links_more (events.Unname c snap ∷ more) h symbol = links_more more h symbol
links_more (events.Drop c key ∷ more) h symbol = links_more more h symbol

zip_lengths : {X Y : Type 0} (R : X → Y → Type 0) (xs : List X) (ys : List Y) → AllZip R xs ys → length xs ≡ length ys
zip_lengths R [] [] all = refl
zip_lengths R [] (y ∷ ys) all = absurd all
zip_lengths R (x ∷ xs) [] all = absurd all
zip_lengths R (x ∷ xs) (y ∷ ys) all = ap (λ n. suc n) (zip_lengths R xs ys all.1)

-- what a lawful history began with was lawful
lawful_behind : (more h : History) → IsLawful (more ++ h) → IsLawful h
lawful_behind [] h lawful = lawful
lawful_behind (e ∷ more) h lawful = lawful_behind more h lawful.1

-- as many links as versions
linked_once : (h : History) (symbol : Name) → IsLawful h → length (links h symbol) ≡ length (state_of h symbol).versions
linked_once h symbol lawful = zip_lengths IsLinkOf (links h symbol) (state_of h symbol).versions ((lawful_is_intact h lawful).versions symbol)

none_of : (xs : List Linked) → length xs ≡ 0 → xs ≡ []
none_of [] e = refl
none_of (x ∷ xs) e = absurd (omega (arith, e))

pub links_unmoved : (more h : History) (symbol : Name) → ∥ IsLawful (more ++ h) ∥₁ → (state_of (more ++ h) symbol).versions ≡ (state_of h symbol).versions → links (more ++ h) symbol ≡ links h symbol
links_unmoved more h symbol lawful same =
    let r = links_more more h symbol in
    let empty : length r.0 ≡ 0 = told_prop (hlevel props) (∥∥₁_map lawful (λ l. counted r.0 r.1 l)) in
    r.1 ∙ ap (λ ls. ls ++ links h symbol) (none_of r.0 empty)
  where
    counted : (front : List Linked) → links (more ++ h) symbol ≡ front ++ links h symbol → IsLawful (more ++ h) → length front ≡ 0
    counted front is lawful =
        let all : length front + length (links h symbol) ≡ length (state_of h symbol).versions =
        sym (length-append front (links h symbol)) ∙ (ap length (sym is) ∙ (linked_once (more ++ h) symbol lawful ∙ ap (λ (vs : List Version). length vs) same)) in
        omega (arith, all, linked_once h symbol (lawful_behind more h lawful))
