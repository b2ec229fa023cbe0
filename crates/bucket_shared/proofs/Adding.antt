-- An event that is added in a turn, after events of others.
use Rattle.std.proofs.Common.{◌≡◌, ℕ, Bool, true, false, ◌∷◌, ◌++◌, List, inl, inr, refl, sym, ap, ◌∙◌, subst}
use Rattle.std.specs.Prelude.{Result, Ok, Err, OnOk, is_ok, is_err, is_some, Option, Some, None}
use Rattle.key_kind.specs.declared.key.Key.{Key}
use Rattle.bucket_core.specs.Contents.{IsSetAt}
use Rattle.std.proofs.lemmas.Bool.{true≢false}
use Rattle.bucket_core.specs.declared.event.Event.{Event}
use Rattle.bucket_core.specs.History.{History, author, stored, reference, AllByOthers}
use Rattle.bucket_core.specs.Laws.{IsLawful, IsTested, IsUntouched, Looks, Adds}
use Rattle.store_model.specs.Law.{IsClaimed}
use Rattle.store_model.proofs.Stable.{claims_stay, tests_tell}
use Rattle.store_model.proofs.MovesOn.{moves_on}
use Rattle.key_kind.specs.Names.{Name}
use Rattle.bucket_core.specs.declared.event.Change.{Change}
use Rattle.bucket_core.specs.Calls.{MayTryRefer, refer_event}

-- a claim of what was seen stays one of the whole history
pub claim-later : (n : ℕ) (sole : Bool) (old mid : History) (e : Event) → (l : Looks IsClaimed n sole old mid) → IsLawful IsClaimed mid → author e ≡ n → IsUntouched e l.others → IsClaimed old e → IsClaimed mid e
claim-later n sole old mid e l lawful by untouched claim =
    subst (λ (h : History). IsClaimed h e) (sym l.is)
    (claims_stay old l.others e (subst (λ (h : History). IsLawful IsClaimed h) l.is lawful) (subst (λ (z : ℕ). AllByOthers z l.others) (sym by) l.by_others) untouched claim)

-- an event after a look
pub Adds-look : (n : ℕ) (sole : Bool) (old mid new : History) (e : Event) → Looks IsClaimed n sole old mid → new ≡ e ∷ mid → IsTested mid e → IsClaimed mid e → Adds IsClaimed n sole old new e
Adds-look n sole old mid new e l is tested claim = record {
  others = l.others;
  is = is ∙ ap (λ (h : History). e ∷ h) l.is;
  by_others = l.by_others;
  alone = l.alone;
  lawful = λ before. subst (λ (h : History). IsLawful IsClaimed h) (sym is) ((tested, claim), l.lawful before);
}

-- what holds where a call succeeded, of one that did
pub not_err : {T E P : Type 0} (r : Result T E) → is_err r ≡ false → OnOk r P → P
not_err (Ok x) e p = p
not_err (Err x) e p = absurd (true≢false e)

pub was_ok : {T E P : Type 0} (r : Result T E) → is_ok r ≡ true → OnOk r P → P
was_ok (Ok x) e p = p
was_ok (Err x) e p = absurd (true≢false (sym e))

-- something stands where a place is told
pub set_tells : (h : History) (key : Key) (at : Option ℕ) → IsSetAt h key at → is_some at ≡ is_some (stored h key)
set_tells h key None set = sym (ap is_some set)
set_tells h key (Some at) set = sym set.0

-- a refer that might be tried of what was seen is claimed of the whole history, where the reference is as was said
pub refer-later : (n : ℕ) (sole : Bool) (old mid : History) (symbol : Name) (was : Option Key) (entry : Key) (list : List Change) → Looks IsClaimed n sole old mid → IsLawful IsClaimed mid → MayTryRefer IsClaimed old n symbol was entry list → reference mid symbol ≡ was → IsClaimed mid (refer_event n symbol was entry list)
refer-later n sole old mid symbol was entry list l lawful (inl may) is =
    let whole : IsLawful IsClaimed (l.others ++ old) = subst (λ (h : History). IsLawful IsClaimed h) l.is lawful in
    let now : reference (l.others ++ old) symbol ≡ was = subst (λ (h : History). reference h symbol ≡ was) l.is is in
    claim-later n sole old mid (refer_event n symbol was entry list) l lawful refl (tests_tell old l.others (refer_event n symbol was entry list) whole may.0 now) may.1
refer-later n sole old mid symbol None entry list l lawful (inr moved) is =
    absurd (moves_on old l.others symbol None (subst (λ (h : History). IsLawful IsClaimed h) l.is lawful) moved (subst (λ (h : History). reference h symbol ≡ None) l.is is))
refer-later n sole old mid symbol (Some key) entry list l lawful (inr moved) is =
    absurd ((moves_on old l.others symbol (Some key) (subst (λ (h : History). IsLawful IsClaimed h) l.is lawful) moved).0 (subst (λ (h : History). reference h symbol ≡ Some key) l.is is))
