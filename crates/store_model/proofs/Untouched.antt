-- What a symbol is where no Refer of it was added, and that its reference has moved on where one was.
use Rattle.std.proofs.Common.{◌≡◌, ℕ, true, false, ◌||◌, ◌&&◌, List, [], ◌∷◌, ◌++◌, refl, ap, sym, ◌∙◌, subst, inl, inr, Option, Some, None, cond}
use Rattle.std.specs.Prelude.{is_some}
use Rattle.std.specs.List.{list_any}
use Rattle.std.proofs.lemmas.Bool.{true≢false, or_parts, or_left, or_right}
use Rattle.key_kind.specs.declared.key.Key.{Key}
use Rattle.key_kind.specs.Names.{Name, same_name}
use Rattle.key_kind.specs.Keys.{same_key, reference_key}
use Rattle.key_kind.proofs.KeyTests.{same_key_self}
use Rattle.bucket_core.specs.declared.event.Event.{Event}
use Rattle.bucket_core.specs.declared.event.Event.TheVariants as events
use Rattle.bucket_core.specs.History.{History, Bytes, reference}
use Rattle.bucket_core.specs.Laws.{refers}
use Rattle.bucket_core.specs.Calls.{was_entry, HasMovedOn, MayTryDrop}
use Rattle.store_model.specs.Library.{Piece, state_of}
use Rattle.store_model.specs.Links.{links, entries}
use Rattle.store_model.specs.Law.{IsLawful, IsClaimed}
use Rattle.store_model.specs.OwnPuts.{IsOwnPut}
use Rattle.store_model.proofs.StableRefer.{staging, state_stays, links_stay, entries_stay}
use Rattle.store_model.proofs.Stable.{tests_tell}

-- the symbol's reference, links and entries are the same, and its state but for more staged pieces
pub record IsAsItWas (h later : History) (symbol : Name) : Type 0 where
  pub reference_is : reference later symbol ≡ reference h symbol
  pub links_are : links later symbol ≡ links h symbol
  pub entries_are : entries later symbol ≡ entries h symbol
  pub more : List Piece
  pub state_is : state_of later symbol ≡ staging more (state_of h symbol)

reference_stays : (h : History) (symbol : Name) (x : Event) → refers symbol x ≡ false → reference (x ∷ h) symbol ≡ reference h symbol
reference_stays h symbol (events.Put c key body) e = refl
reference_stays h symbol (events.Refer c s was entry list) e = ap (λ t. cond t (Some entry) (reference h symbol)) e
reference_stays h symbol (events.Name c snap body) e = refl
reference_stays h symbol (events.Unname c snap) e = refl
reference_stays h symbol (events.Drop c key) e = refl

append_pieces : (xs ys zs : List Piece) → xs ++ (ys ++ zs) ≡ (xs ++ ys) ++ zs
append_pieces [] ys zs = refl
append_pieces (x ∷ xs) ys zs = ap (λ l. x ∷ l) (append_pieces xs ys zs)

-- where no Refer of the symbol was added it is as it was
pub as_it_was : (h more : History) (symbol : Name) → list_any (refers symbol) more ≡ false → IsAsItWas h (more ++ h) symbol
as_it_was h [] symbol e = record { reference_is = refl; links_are = refl; entries_are = refl; more = []; state_is = refl }
as_it_was h (x ∷ more) symbol e =
    let parts = or_parts (refers symbol x) (list_any (refers symbol) more) e in
    let before = as_it_was h more symbol parts.1 in
    let st = state_stays (more ++ h) symbol x parts.0 in
    record {
      reference_is = reference_stays (more ++ h) symbol x parts.0 ∙ before.reference_is;
      links_are = links_stay (more ++ h) symbol x parts.0 ∙ before.links_are;
      entries_are = entries_stay (more ++ h) symbol x parts.0 ∙ before.entries_are;
      more = st.0 ++ before.more;
      state_is = st.1 ∙ (ap (staging st.0) before.state_is ∙ ap (λ ps. record (state_of h symbol) { staged = ps }) (append_pieces st.0 before.more (state_of h symbol).staged));
    }

-- ---- where a Refer was added

-- the reference was an entry
reference_was : (h : History) (symbol : Name) (key : Key) → reference h symbol ≡ Some key → was_entry h symbol key ≡ true
reference_was [] symbol key e = absurd cc
reference_was (events.Refer c s was entry list ∷ h) symbol key e =
    elim (same_name s symbol) as (λ b. cond b (Some entry) (reference h symbol) ≡ Some key → ((b && same_key entry key) || was_entry h symbol key) ≡ true) [
      | true ↦ λ f. or_left _ _ (subst (λ k. same_key k key ≡ true) (sym (same_some entry key f)) (same_key_self key))
      | false ↦ λ f. reference_was h symbol key f
    ] e
  where
    same_some : (a b : Key) → Some a ≡ Some b → a ≡ b
    same_some a b e = cc
reference_was (events.Put c k body ∷ h) symbol key e = reference_was h symbol key e
reference_was (events.Name c snap body ∷ h) symbol key e = reference_was h symbol key e
reference_was (events.Unname c snap ∷ h) symbol key e = reference_was h symbol key e
reference_was (events.Drop c k ∷ h) symbol key e = reference_was h symbol key e

-- and stays one that was
was_later : (h more : History) (symbol : Name) (key : Key) → was_entry h symbol key ≡ true → was_entry (more ++ h) symbol key ≡ true
was_later h [] symbol key e = e
was_later h (events.Refer c s was entry list ∷ more) symbol key e = or_right _ _ (was_later h more symbol key e)
was_later h (events.Put c k body ∷ more) symbol key e = was_later h more symbol key e
was_later h (events.Name c snap body ∷ more) symbol key e = was_later h more symbol key e
was_later h (events.Unname c snap ∷ more) symbol key e = was_later h more symbol key e
was_later h (events.Drop c k ∷ more) symbol key e = was_later h more symbol key e

-- where a Refer of the symbol was added, the reference is another
pub another_reference : (h more : History) (symbol : Name) → IsLawful (more ++ h) → list_any (refers symbol) more ≡ true → reference (more ++ h) symbol ≡ reference h symbol → ⊥
another_reference h more symbol lawful e same =
    true≢false (sym e ∙ tests_tell h more (events.Refer 0 symbol (reference h symbol) (reference_key symbol) []) lawful refl same)

-- and it has moved on from the one that was
pub has_moved_on : (h more : History) (symbol : Name) → IsLawful (more ++ h) → list_any (refers symbol) more ≡ true → HasMovedOn (more ++ h) symbol (reference h symbol)
has_moved_on h more symbol lawful e = by (reference h symbol) refl
  where
    by : (was : Option Key) → reference h symbol ≡ was → HasMovedOn (more ++ h) symbol was
    by None is = λ same. another_reference h more symbol lawful e (same ∙ sym is)
    by (Some key) is = (λ same. another_reference h more symbol lawful e (same ∙ sym is), was_later h more symbol key (reference_was h symbol key is))

-- ---- own puts

-- an own put may be dropped
pub own_may_drop : (h : History) (client : ℕ) (key : Key) (body : Bytes) → IsOwnPut h client key body → MayTryDrop IsClaimed h client key
own_may_drop h client key body o = inl (ap is_some o.stands, inr (inr (inl o.unlinked)))
