-- A Refer that tells a state anew changes nothing of the library, where the symbol has a reference.
use Rattle.std.proofs.Common.{◌≡◌, ℕ, true, [], ◌∷◌, refl, sym, subst, Option, cond}
use Rattle.key_kind.specs.declared.key.Key.{Key}
use Rattle.key_kind.specs.Names.{Name}
use Rattle.bucket_core.specs.declared.event.Change.TheVariants as changes
use Rattle.bucket_core.specs.declared.event.Event.TheVariants as events
use Rattle.bucket_core.specs.History.{History}
use Rattle.store_model.specs.Library.{state_of, after_changes}
use Rattle.store_model.proofs.Referring.{at_symbol}

pub restating_changes_nothing : (h : History) (client : ℕ) (symbol : Name) (was : Option Key) (entry : Key) (other : Name) → (state_of h symbol).has_reference ≡ true
    → state_of (events.Refer client symbol was entry (changes.Restated ∷ []) ∷ h) other ≡ state_of h other
restating_changes_nothing h client symbol was entry other referred =
    at_symbol symbol other (λ b. cond b (after_changes (state_of h other) (changes.Restated ∷ [])) (state_of h other) ≡ state_of h other)
    (λ same i. record (state_of h other) { has_reference = sym (subst (λ s. (state_of h s).has_reference ≡ true) same referred) i }) refl
