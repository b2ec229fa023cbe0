-- What an event more leaves of a plain bucket's facts.
use Rattle.std.proofs.Common.{◌≡◌, inl, inr, ℕ, suc, ◌≤◌, ◌-◌, Bool, true, false, cond, nat_eq, List, [], ◌∷◌, length, Option, Some, None, refl, ap, sym, ◌∙◌, subst, arith}
use Rattle.std.specs.Prelude.{is_some, Result, Ok, Err, OnOk, OnErr}
use mathlib.Core.Logic.{∥∥₁_map}
use Rattle.std.proofs.lemmas.Bool.{true≢false, eq-eqb}
use Rattle.key_kind.specs.declared.key.Key.{Key}
use Rattle.key_kind.specs.Names.{Name}
use Rattle.key_kind.specs.Keys.{same_key, snapshot_key}
use Rattle.bucket_core.specs.declared.event.Change.{Change}
use Rattle.bucket_core.specs.declared.event.Event.{Event}
use Rattle.bucket_core.specs.declared.event.Event.TheVariants as events
use Rattle.bucket_core.specs.History.{History, Bytes, key_of, body_of, stored, since, reference, puts_by}
use Rattle.bucket_core.specs.Contents.{IsSetAt}
use Rattle.bucket_core.specs.Laws.{IsTested, IsLawful}
use Rattle.bucket_core.specs.Calls.{IsMissingAt, MayTryRefer, MayTryDrop, put_event, refer_event, drop_event}

-- no client made more puts than there are events
pub puts_by-le-length : (client : ℕ) (h : History) → puts_by client h ≤ length h
puts_by-le-length client [] = omega arith
puts_by-le-length client (events.Put c key body ∷ h) =
    let le : puts_by client h ≤ length h = puts_by-le-length client h in
    elim (nat_eq c client) as (λ b. cond b (suc (puts_by client h)) (puts_by client h) ≤ suc (length h)) [ true ↦ omega arith | false ↦ omega arith ]
puts_by-le-length client (events.Refer c s was entry list ∷ h) = let le : puts_by client h ≤ length h = puts_by-le-length client h in omega arith
puts_by-le-length client (events.Name c snap body ∷ h) = let le : puts_by client h ≤ length h = puts_by-le-length client h in omega arith
puts_by-le-length client (events.Unname c snap ∷ h) = let le : puts_by client h ≤ length h = puts_by-le-length client h in omega arith
puts_by-le-length client (events.Drop c key ∷ h) = let le : puts_by client h ≤ length h = puts_by-le-length client h in omega arith

-- the client's own put is one more
pub puts_by-own : (client : ℕ) (key : Key) (body : Bytes) (h : History) → puts_by client (put_event client key body ∷ h) ≡ suc (puts_by client h)
puts_by-own client key body h = ap (λ b. cond b (suc (puts_by client h)) (puts_by client h)) (eq-eqb client client refl)

-- what was lawful is so with an event that may follow
pub IsLawful-add : (claimed : History → Event → Type 0) (e : Event) (h later : History) → later ≡ e ∷ h → ∥ IsLawful claimed h ∥₁ → IsTested h e → claimed h e → ∥ IsLawful claimed later ∥₁
IsLawful-add claimed e h later is lawful tested claim =
    subst (λ (x : History). ∥ IsLawful claimed x ∥₁) (sym is) (∥∥₁_map lawful (λ (l : IsLawful claimed h). ((tested, claim), l)))

-- a refer that may be tried is claimed, where the reference is as was said
pub claimed-refer : (claimed : History → Event → Type 0) (h : History) (client : ℕ) (symbol : Name) (was : Option Key) (entry : Key) (list : List Change) → MayTryRefer claimed h client symbol was entry list → reference h symbol ≡ was → claimed h (refer_event client symbol was entry list)
claimed-refer claimed h client symbol was entry list (inl may) is = may.1
claimed-refer claimed h client symbol None entry list (inr moved) is = absurd (moved is)
claimed-refer claimed h client symbol (Some key) entry list (inr moved) is = absurd (moved.0 is)

-- a drop that may be tried is claimed, where something stands under the key
pub claimed-drop : (claimed : History → Event → Type 0) (h : History) (client : ℕ) (key : Key) → MayTryDrop claimed h client key → is_some (stored h key) ≡ true → claimed h (drop_event client key)
claimed-drop claimed h client key (inl may) is = may.1
claimed-drop claimed h client key (inr gone) is = absurd (true≢false (sym is ∙ ap is_some gone.0))

-- what stands was set at some place
pub since-above : (h : History) (key : Key) → is_some (stored h key) ≡ true → 1 ≤ since h key
since-above [] key is = absurd (true≢false (sym is))
since-above (e ∷ h) key is = by (same_key (key_of e) key) (body_of e) (since-above h key) is
  where
    by : (b : Bool) (body : Option Bytes) → (is_some (stored h key) ≡ true → 1 ≤ since h key) → is_some (cond b body (stored h key)) ≡ true → 1 ≤ cond b (cond (is_some body) (suc (length h)) 0) (since h key)
    by true None below x = absurd (true≢false (sym x))
    by true (Some body) below x = omega arith
    by false body below x = below x

-- a name that was set elsewhere lacks at the place before
pub IsMissingAt-elsewhere : (h : History) (snap : Name) (key : Key) (set at : ℕ) → key ≡ snapshot_key snap → (is_some (stored h key) ≡ true) × (at ≡ since h key) → (at ≡ set → ⊥) → IsMissingAt h snap set (at - 1)
IsMissingAt-elsewhere h snap key set at is there differ =
    let stands : is_some (stored h (snapshot_key snap)) ≡ true = ap (λ (k : Key). is_some (stored h k)) (sym is) ∙ there.0 in
    let place : at ≡ since h (snapshot_key snap) = there.1 ∙ ap (λ (k : Key). since h k) is in
    inr (stands, (λ (e : since h (snapshot_key snap) ≡ set). differ (place ∙ e)), omega (arith, place, since-above h (snapshot_key snap) stands))

-- a plain bucket's facts, after a call that adds an event which is no Put, or nothing
pub facts-added : {T E : Type 0} (result : Result T E) (claimed : History → Event → Type 0) (client next : ℕ) (e : Event) (h later : History) → OnOk result (later ≡ e ∷ h) → OnErr result (later ≡ h) → puts_by client (e ∷ h) ≡ puts_by client h → next ≡ puts_by client h → ∥ IsLawful claimed h ∥₁ → IsTested h e → claimed h e → (next ≡ puts_by client later) × ∥ IsLawful claimed later ∥₁
facts-added (Ok x) claimed client next e h later ok err same counted lawful tested claim =
    (counted ∙ (sym same ∙ ap (puts_by client) (sym ok)), IsLawful-add claimed e h later ok lawful tested claim)
facts-added (Err x) claimed client next e h later ok err same counted lawful tested claim =
    (counted ∙ ap (puts_by client) (sym err), subst (λ (x : History). ∥ IsLawful claimed x ∥₁) (sym err) lawful)

-- nothing stands where no place is told
pub nothing_set : (h : History) (key : Key) (at : Option ℕ) → IsSetAt h key at → is_some at ≡ false → is_some (stored h key) ≡ false
nothing_set h key None set none = ap is_some set
nothing_set h key (Some at) set none = absurd (true≢false none)

-- something stands where a place is told
pub something_set : (h : History) (key : Key) (at : Option ℕ) → IsSetAt h key at → is_some at ≡ true → is_some (stored h key) ≡ true
something_set h key None set some = absurd (true≢false (sym some))
something_set h key (Some at) set some = set.0
