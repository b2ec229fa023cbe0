-- A reference that has moved on from an entry does not come back to it.
use Rattle.std.proofs.Common.{◌≡◌, true, false, ◌||◌, ◌&&◌, [], ◌∷◌, ◌++◌, refl, sym, ◌∙◌, subst, Option, Some, None, cond}
use Rattle.std.specs.List.{list_any}
use Rattle.std.proofs.lemmas.Bool.{true≢false}
use Rattle.key_kind.specs.declared.key.Key.{Key}
use Rattle.key_kind.specs.Names.{Name, same_name}
use Rattle.key_kind.specs.Keys.{same_key}
use Rattle.key_kind.proofs.KeyTests.{same_name_is}
use Rattle.bucket_core.specs.declared.event.Event.{Event}
use Rattle.bucket_core.specs.declared.event.Event.TheVariants as events
use Rattle.bucket_core.specs.History.{History, reference}
use Rattle.bucket_core.specs.Calls.{was_entry, HasMovedOn, MovesOn}
use Rattle.store_model.specs.Links.{entries, is_entry}
use Rattle.store_model.specs.Law.{IsClaimed}

-- what was a reference is an entry
was_is_entry : (h : History) (s : Name) (key : Key) → was_entry h s key ≡ true → is_entry h s key ≡ true
was_is_entry [] s key e = e
was_is_entry (events.Refer c t was k list ∷ h) s key e =
    elim (same_name t s) as (λ b. ((b && same_key k key) || was_entry h s key) ≡ true → list_any (λ x. same_key x key) (cond b (k ∷ entries h s) (entries h s)) ≡ true) [
      | true ↦ λ f. elim (same_key k key) as (λ d. (d || was_entry h s key) ≡ true → (d || is_entry h s key) ≡ true) [
        | true ↦ λ g. refl
        | false ↦ λ g. was_is_entry h s key g
      ] f
      | false ↦ λ f. was_is_entry h s key f
    ] e
was_is_entry (events.Put c key' body ∷ h) s key e = was_is_entry h s key e
was_is_entry (events.Name c snap body ∷ h) s key e = was_is_entry h s key e
was_is_entry (events.Unname c snap ∷ h) s key e = was_is_entry h s key e
was_is_entry (events.Drop c key' ∷ h) s key e = was_is_entry h s key e

some_is : (a b : Key) → Some a ≡ Some b → a ≡ b
some_is a b e = cc

-- one event more
one_on : (h : History) (x : Event) (s : Name) (was : Option Key) → IsClaimed h x → HasMovedOn h s was → HasMovedOn (x ∷ h) s was
one_on h (events.Refer c t w k list) s None claim m =
    elim (same_name t s) as (λ b. cond b (Some k) (reference h s) ≡ None → ⊥) [
      | true ↦ λ e. absurd cc
      | false ↦ m
    ]
one_on h (events.Refer c t w k list) s (Some key) claim m = (
  elim (same_name t s) as (λ b. same_name t s ≡ b → cond b (Some k) (reference h s) ≡ Some key → ⊥) [
    | true ↦ λ n e. true≢false (sym (was_is_entry h s key m.1) ∙ subst (λ z. is_entry h s z ≡ false) (some_is k key e) (subst (λ y. is_entry h y k ≡ false) (same_name_is t s n) claim.fresh))
    | false ↦ λ n. m.0
  ] refl,
  elim (same_name t s && same_key k key) as (λ b. (b || was_entry h s key) ≡ true) [ true ↦ refl | false ↦ m.1 ],
)
one_on h (events.Put c key body) s None claim m = m
one_on h (events.Name c snap body) s None claim m = m
one_on h (events.Unname c snap) s None claim m = m
one_on h (events.Drop c key) s None claim m = m
one_on h (events.Put c key' body) s (Some key) claim m = (m.0, m.1)
one_on h (events.Name c snap body) s (Some key) claim m = (m.0, m.1)
one_on h (events.Unname c snap) s (Some key) claim m = (m.0, m.1)
one_on h (events.Drop c key') s (Some key) claim m = (m.0, m.1)

pub moves_on : MovesOn IsClaimed
moves_on h [] s was lawful m = m
moves_on h (x ∷ more) s was lawful m = one_on (more ++ h) x s was lawful.0.1 (moves_on h more s was lawful.1 m)
