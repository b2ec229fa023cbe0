-- What one call of the store leaves, where it is refused and where not.
use Rattle.std.proofs.Common.{◌≡◌, ℕ, ◌≤◌, Bool, List, [], ◌∷◌, length, refl, ap, sym, ◌∙◌, subst, inl, inr, cond, Option, Some, None, arith, Ok, Err}
use Rattle.base_types.specs.Faults.{Rose}
use Rattle.frame_core.specs.declared.refusal.Refusal.TheVariants as refusals
use Rattle.frame_core.specs.declared.refusal.Refused.{Refused}
use Rattle.key_kind.specs.declared.key.Key.{Key}
use Rattle.bucket_core.specs.declared.event.Event.{Event}
use Rattle.bucket_core.specs.declared.answer.StoreErr.{StoreErr}
use Rattle.bucket_core.specs.declared.answer.StoreErr.TheVariants as errs
use Rattle.bucket_core.specs.declared.answer.Dropped.{Dropped}
use Rattle.bucket_core.specs.declared.answer.Dropped.TheVariants as drops
use Rattle.bucket_core.specs.History.{History, Bytes, author, stored}
use Rattle.bucket_core.specs.Laws.{Adds, Looks}
use Rattle.bucket_core.specs.Calls.{IsFull, RefusesPut, DidChange, DidDrop, put_event, drop_event}
use Rattle.store_model.specs.Law.{IsClaimed, IsLawful}
use Rattle.store_model.specs.OwnPuts.{IsOwnPut}
use Rattle.store_model.proofs.Told.{own_puts_stay}
use Rattle.version_chain.specs.Stops.{refused_by, is_fault, HasCause}
use Rattle.version_chain.specs.StoreCalls.{StoppedCall}
use Rattle.version_chain.proofs.TraceLemmas.{went_looks, went_adds, went_longer, own_of-others, own_of-adds}

module _ (client : ℕ) (sole : Bool) (limit before now : ℕ) (old new : History) (e : Event) where
  -- nothing of the client's was added
  looks_stop : (refused : Refused) → Looks IsClaimed client sole old new → refused.place ≡ length old → HasCause limit before now new refused refused.why
      → StoppedCall client sole limit before now old new e refused
  looks_stop refused g place cause = record {
    own = [];
    is = inl refl;
    went = went_looks client sole old new g;
    stops = record {
      after = g.others;
      before = old;
      split = g.is;
      place = place;
      later = omega arith;
      few = subst (λ (es : List Event). length es ≤ cond (is_fault refused.why) 1 0) (sym (own_of-others client g.others g.by_others)) (omega arith);
    };
    cause = cause;
  }

  -- the store failed, and the event stands
  adds_stop : author e ≡ client → Rose before now → Adds IsClaimed client sole old new e → StoppedCall client sole limit before now old new e (record { place = length old; why = refusals.StoreFault })
  adds_stop own rose g = record {
    own = e ∷ [];
    is = inr refl;
    went = went_adds client sole old new e own g;
    stops = record {
      after = e ∷ g.others;
      before = old;
      split = g.is;
      place = refl;
      later = omega arith;
      few = subst (λ (es : List Event). length es ≤ 1) (sym (own_of-adds client sole old new e own g)) (omega arith);
    };
    cause = rose;
  }

  -- the store is full
  full_stop : (count : ℕ) → Looks IsClaimed client sole old new → IsFull limit new count → StoppedCall client sole limit before now old new e (record { place = count; why = refusals.Spent count })
  full_stop count g full = record {
    own = [];
    is = inl refl;
    went = went_looks client sole old new g;
    stops = record {
      after = [];
      before = new;
      split = refl;
      place = full.0;
      later = went_longer client sole old new [] (went_looks client sole old new g);
      few = omega arith;
    };
    cause = (full, refl);
  }

  -- a refused call that adds its event, where it has no refusals of its own but Spent
  call_refused : (refuses : History → StoreErr → Type 0) → ((count : ℕ) → refuses new (errs.Spent count) → IsFull limit new count)
      → ((at : ℕ) → refuses new (errs.Moved at) → ⊥) → ((at : ℕ) → refuses new (errs.Taken at) → ⊥) → ((at : ℕ) → refuses new (errs.Missing at) → ⊥)
      → author e ≡ client → (err : StoreErr) → DidChange IsClaimed client sole limit before now old new e refuses (Err err)
      → StoppedCall client sole limit before now old new e (refused_by (length old) err)
  call_refused refuses full moved taken missing own errs.NoMemory d = looks_stop (record { place = length old; why = refusals.NoMemory }) d refl tt
  call_refused refuses full moved taken missing own errs.Fault d = elim d.1 [
    | inl adds ↦ adds_stop own d.0 adds
    | inr looks ↦ looks_stop (record { place = length old; why = refusals.StoreFault }) looks refl d.0
  ]
  call_refused refuses full moved taken missing own (errs.Spent count) d = full_stop count d.0 (full count d.1)
  call_refused refuses full moved taken missing own (errs.Moved at) d = absurd (moved at d.1)
  call_refused refuses full moved taken missing own (errs.Taken at) d = absurd (taken at d.1)
  call_refused refuses full moved taken missing own (errs.Missing at) d = absurd (missing at d.1)

pub put_refused : (client : ℕ) (sole : Bool) (limit before now : ℕ) (old new : History) {key' : Key} {body' : Bytes} (p : Key × Bytes) → key' ≡ p.0 → body' ≡ p.1
    → (place : ℕ) (refused : Refused) (err : StoreErr) → place ≡ length old → refused ≡ refused_by place err
    → DidChange IsClaimed client sole limit before now old new (put_event client key' body') (RefusesPut limit) (Err err) → StoppedCall client sole limit before now old new (put_event client p.0 p.1) refused
put_refused client sole limit before now old new {key'} {body'} p key_is body_is place refused err at is d =
    subst (StoppedCall client sole limit before now old new (put_event client p.0 p.1)) (sym (is ∙ ap (λ q. refused_by q err) at))
    (call_refused client sole limit before now old new (put_event client p.0 p.1) (RefusesPut limit) (λ count f. f) (λ at f. f) (λ at f. f) (λ at f. f) refl err
    (subst (λ b. DidChange IsClaimed client sole limit before now old new (put_event client p.0 b) (RefusesPut limit) (Err err)) body_is
    (subst (λ k. DidChange IsClaimed client sole limit before now old new (put_event client k body') (RefusesPut limit) (Err err)) key_is d)))

-- ---- drops

drop_err : (client : ℕ) (sole : Bool) (limit before now : ℕ) (old new : History) (key : Key) (err : StoreErr) → DidDrop IsClaimed client sole limit before now old new key (Err err)
    → StoppedCall client sole limit before now old new (drop_event client key) (refused_by (length old) err)
drop_err client sole limit before now old new key errs.NoMemory d = looks_stop client sole limit before now old new (drop_event client key) (record { place = length old; why = refusals.NoMemory }) d refl tt
drop_err client sole limit before now old new key errs.Fault d = elim d.1 [
  | inl adds ↦ adds_stop client sole limit before now old new (drop_event client key) refl d.0 adds
  | inr looks ↦ looks_stop client sole limit before now old new (drop_event client key) (record { place = length old; why = refusals.StoreFault }) looks refl d.0
]
drop_err client sole limit before now old new key (errs.Spent count) d = full_stop client sole limit before now old new (drop_event client key) count d.0 d.2
drop_err client sole limit before now old new key (errs.Moved at) d = absurd d
drop_err client sole limit before now old new key (errs.Taken at) d = absurd d
drop_err client sole limit before now old new key (errs.Missing at) d = absurd d

pub drop_refused : (client : ℕ) (sole : Bool) (limit before now : ℕ) (old new : History) (key : Key) (place : ℕ) (refused : Refused) (err : StoreErr) → place ≡ length old → refused ≡ refused_by place err
    → DidDrop IsClaimed client sole limit before now old new key (Err err) → StoppedCall client sole limit before now old new (drop_event client key) refused
drop_refused client sole limit before now old new key place refused err at is d =
    subst (StoppedCall client sole limit before now old new (drop_event client key)) (sym (is ∙ ap (λ p. refused_by p err) at)) (drop_err client sole limit before now old new key err d)

-- an own put is found when it is dropped
pub drop_found : (client : ℕ) (sole : Bool) (limit before now : ℕ) (old new : History) (key : Key) (body : Bytes) (dropped : Dropped) → IsOwnPut old client key body → ∥ IsLawful new ∥₁
    → DidDrop IsClaimed client sole limit before now old new key (Ok dropped) → Adds IsClaimed client sole old new (drop_event client key)
drop_found client sole limit before now old new key body (drops.Gone place) own lawful d = d.0
drop_found client sole limit before now old new key body (drops.Absent place) own lawful d =
    let stays = own_puts_stay old d.0.others client ((key, body) ∷ []) (subst (λ h. ∥ IsLawful h ∥₁) d.0.is lawful) d.0.by_others (own, tt) in
    absurd (clash (stored new key) (ap (λ h. stored h key) d.0.is ∙ stays.0.stands) d.2)
  where
    clash : (o : Option Bytes) → o ≡ Some body → o ≡ None → ⊥
    clash o p q = cc
