-- What is said of a bucket as it is between two calls holds of it as it was before them.
use Rattle.std.proofs.Common.{◌≡◌, ℕ, ◌≤◌, Bool, List, [], ◌∷◌, inl, inr, subst, sym, ◌∙◌, Result, Ok, Err, arith}
use Rattle.std.specs.Result.{IsErr, IsErrAnd}
use Rattle.base_types.specs.Faults.{Rose}
use Rattle.frame_core.specs.declared.refusal.Refusal.{Refusal}
use Rattle.frame_core.specs.declared.refusal.Refusal.TheVariants as refusals
use Rattle.frame_core.specs.declared.refusal.Refused.{Refused}
use Rattle.bucket_core.specs.declared.event.Event.{Event}
use Rattle.bucket_core.specs.History.{History}
use Rattle.bucket_core.specs.Laws.{Grown}
use Rattle.bucket_core.specs.declared.answer.StoreErr.{StoreErr}
use Rattle.bucket_core.specs.declared.answer.StoreErr.TheVariants as errs
use Rattle.bucket_core.specs.Calls.{IsSteady, DidChange}
use Rattle.store_model.specs.Law.{IsClaimed}
use Rattle.version_chain.specs.Traces.{Went}
use Rattle.version_chain.specs.Stops.{HasCause}
use Rattle.version_chain.specs.StoreCalls.{StoppedCall}

-- what holds of the error that comes back holds of the result
pub on_err : {A E : Type 0} (D : Result A E → Type 0) (r : Result A E) (x : E) → IsErr r → IsErrAnd r (λ y. y ≡ x) → D (Err x) → D r
on_err D (Ok a) x is same d = absurd cc
on_err D (Err y) x is same d = subst (λ z. D (Err z)) (sym same) d

pub rose_sooner : (before mid now : ℕ) → before ≤ mid → Rose mid now → Rose before now
rose_sooner before mid now le rose = omega (arith, le, rose)

module _ (before mid now limit : ℕ) (new : History) (le : before ≤ mid) where
  pub cause_sooner : (refused : Refused) (why : Refusal) → HasCause limit mid now new refused why → HasCause limit before now new refused why
  cause_sooner refused refusals.NoMemory c = tt
  cause_sooner refused refusals.StoreFault c = rose_sooner before mid now le c
  cause_sooner refused (refusals.Spent count) c = c
  cause_sooner refused why c = absurd c

module _ {B : Type 0} (number limit faults : B → ℕ) (sole : B → Bool) (a b : B) (steady : IsSteady number limit faults sole a b) where
  pub grown_steady : (x y : History) (own : ℕ → History) → Grown IsClaimed (number b) (sole b) x y (own (number b)) → Grown IsClaimed (number a) (sole a) x y (own (number a))
  grown_steady x y own g = subst (λ n. Grown IsClaimed n (sole a) x y (own n)) steady.same_number
      (record { others = g.others; is = g.is; by_others = g.by_others; alone = λ e. g.alone (steady.stays_sole e); lawful = g.lawful })

  pub went_steady : (x y : History) (own : ℕ → List Event) → Went (number b) (sole b) x y (own (number b)) → Went (number a) (sole a) x y (own (number a))
  went_steady x y own w = subst (λ n. Went n (sole a) x y (own n)) steady.same_number
      (record { more = w.more; is = w.is; own_are = w.own_are; alone = λ e. w.alone (steady.stays_sole e); lawful = w.lawful })

  pub stop_steady : (now : ℕ) (x y : History) (e : ℕ → Event) (refused : Refused) → StoppedCall (number b) (sole b) (limit b) (faults b) now x y (e (number b)) refused
      → StoppedCall (number a) (sole a) (limit a) (faults a) now x y (e (number a)) refused
  stop_steady now x y e refused s = subst (λ n. StoppedCall n (sole a) (limit a) (faults a) now x y (e n) refused) steady.same_number (record {
    own = s.own;
    is = s.is;
    went = record { more = s.went.more; is = s.went.is; own_are = s.went.own_are; alone = λ t. s.went.alone (steady.stays_sole t); lawful = s.went.lawful };
    stops = s.stops;
    cause = subst (λ l. HasCause l (faults a) now y refused refused.why) steady.same_limit (cause_sooner (faults a) (faults b) now (limit b) y steady.faults_rise refused refused.why s.cause);
  })

  pub steady_then : (c : B) → IsSteady number limit faults sole b c → IsSteady number limit faults sole a c
  steady_then c later = record {
    same_number = later.same_number ∙ steady.same_number;
    same_limit = later.same_limit ∙ steady.same_limit;
    faults_rise = omega (arith, steady.faults_rise, later.faults_rise);
    stays_sole = λ e. later.stays_sole (steady.stays_sole e);
  }

  pub change_steady : (now : ℕ) (x y : History) (e : ℕ → Event) (refuses : ℕ → History → StoreErr → Type 0) (r : Result ℕ StoreErr)
      → DidChange IsClaimed (number b) (sole b) (limit b) (faults b) now x y (e (number b)) (refuses (limit b)) r → DidChange IsClaimed (number a) (sole a) (limit a) (faults a) now x y (e (number a)) (refuses (limit a)) r
  change_steady now x y e refuses r d =
      subst (λ n. DidChange IsClaimed n (sole a) (limit a) (faults a) now x y (e n) (refuses (limit a)) r) steady.same_number
      (subst (λ l. DidChange IsClaimed (number b) (sole a) l (faults a) now x y (e (number b)) (refuses l) r) steady.same_limit (weaker r d))
    where
      grown : (own : History) → Grown IsClaimed (number b) (sole b) x y own → Grown IsClaimed (number b) (sole a) x y own
      grown own g = record { others = g.others; is = g.is; by_others = g.by_others; alone = λ t. g.alone (steady.stays_sole t); lawful = g.lawful }

      weaker : (r : Result ℕ StoreErr) → DidChange IsClaimed (number b) (sole b) (limit b) (faults b) now x y (e (number b)) (refuses (limit b)) r
          → DidChange IsClaimed (number b) (sole a) (limit b) (faults a) now x y (e (number b)) (refuses (limit b)) r
      weaker (Ok place) d = (grown (e (number b) ∷ []) d.0, d.1, d.2, d.3)
      weaker (Err errs.Fault) d = (rose_sooner (faults a) (faults b) now steady.faults_rise d.0, elim d.1 [ inl g ↦ inl (grown (e (number b) ∷ []) g) | inr g ↦ inr (grown [] g) ])
      weaker (Err errs.NoMemory) d = grown [] d
      weaker (Err (errs.Spent count)) d = (grown [] d.0, d.1)
      weaker (Err (errs.Moved place)) d = (grown [] d.0, d.1)
      weaker (Err (errs.Taken place)) d = (grown [] d.0, d.1)
      weaker (Err (errs.Missing place)) d = (grown [] d.0, d.1)
