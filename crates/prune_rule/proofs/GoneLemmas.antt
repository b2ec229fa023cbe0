-- A key that was put and is gone stays gone, and what drops it is an event.
use Rattle.std.proofs.Common.{◌≡◌, ◌≢◌, ℕ, suc, ◌≤◌, true, false, [], ◌∷◌, ◌++◌, length, refl, ap, sym, ◌∙◌, subst, arith, cond, Option, Some, None}
use Rattle.std.specs.Prelude.{is_some}
use Rattle.std.proofs.lemmas.Bool.{true≢false}
use denote.Struct.Props.{props}
use mathlib.Core.Logic.{∥∥₁_elim}
use Rattle.key_kind.specs.declared.key.Key.{Key}
use Rattle.key_kind.specs.Keys.{is_put, same_key}
use Rattle.key_kind.specs.KeyText.{key_text}
use Rattle.key_kind.proofs.KeyTests.{same_key_is, put_is_no_reference, put_is_no_snapshot}
use Rattle.bucket_core.specs.declared.event.Event.{Event}
use Rattle.bucket_core.specs.declared.event.Event.TheVariants as events
use Rattle.bucket_core.specs.History.{History, Bytes, author, stored, body_put, event_at, AllByOthers}
use Rattle.store_model.specs.Law.{IsLawful}
use Rattle.store_model.proofs.Lawful.{lawful_is_intact}
use Rattle.store_model.proofs.Histories.{choose_false, chosen_false}
use Rattle.store_model.proofs.Following.{puts_stay}
use Rattle.reply_model.proofs.Covering.{event_at_later, event_at_end}
use Rattle.reply_model.specs.Drops.{drops}

-- what there is of an option that is some
pub some_of : {X : Type 0} (o : Option X) → is_some o ≡ true → (x : X) × (o ≡ Some x)
some_of None e = absurd (true≢false (sym e))
some_of (Some x) e = (x, refl)

pub none_and_some : {X : Type 0} (o : Option X) (x : X) → o ≡ None → o ≡ Some x → ⊥
none_and_some o x p q = cc

-- a key that was put and is gone stays gone
gone_stays : (more h : History) (key : Key) (body : Bytes) → is_put key.kind ≡ true → IsLawful (more ++ h) → body_put h key ≡ Some body → stored h key ≡ None → stored (more ++ h) key ≡ None
gone_stays [] h key body kind lawful put none = none
gone_stays (events.Put c k b ∷ more) h key body kind lawful put none =
    elim (same_key k key) as (λ t. same_key k key ≡ t → cond t (Some b) (stored (more ++ h) key) ≡ None) [
      | true ↦ λ e. absurd (none_and_some (body_put (more ++ h) key) body
          (subst (λ x. body_put (more ++ h) x ≡ None) (same_key_is k key e) (lawful_is_intact (events.Put c k b ∷ (more ++ h)) lawful).once.0) (puts_stay more h lawful.1 key body put))
      | false ↦ λ e. gone_stays more h key body kind lawful.1 put none
    ] refl
gone_stays (events.Refer c s was entry list ∷ more) h key body kind lawful put none =
    choose_false _ (Some (key_text entry)) _ _ (put_is_no_reference s key kind) (gone_stays more h key body kind lawful.1 put none)
gone_stays (events.Name c snap b ∷ more) h key body kind lawful put none = choose_false _ (Some b) _ _ (put_is_no_snapshot snap key kind) (gone_stays more h key body kind lawful.1 put none)
gone_stays (events.Unname c snap ∷ more) h key body kind lawful put none = choose_false _ None _ _ (put_is_no_snapshot snap key kind) (gone_stays more h key body kind lawful.1 put none)
gone_stays (events.Drop c k ∷ more) h key body kind lawful put none =
    elim (same_key k key) as (λ t. cond t None (stored (more ++ h) key) ≡ None) [ true ↦ refl | false ↦ gone_stays more h key body kind lawful.1 put none ]

pub stays_gone : (more h new : History) (key : Key) → new ≡ more ++ h → is_put key.kind ≡ true → ∥ IsLawful new ∥₁ → is_some (body_put h key) ≡ true → stored h key ≡ None → stored new key ≡ None
stays_gone more h new key is kind lawful put none =
    let b = some_of (body_put h key) put in
    subst (λ g. stored g key ≡ None) (sym is) (∥∥₁_elim (subst (λ g. ∥ IsLawful g ∥₁) is lawful) (hlevel props) (λ l. gone_stays more h key b.0 kind l b.1 none))

-- so a key that stands and was put before stood then
pub stood_before : (more h new : History) (key : Key) → new ≡ more ++ h → is_put key.kind ≡ true → ∥ IsLawful new ∥₁ → is_some (body_put h key) ≡ true → is_some (stored new key) ≡ true → is_some (stored h key) ≡ true
stood_before more h new key is kind lawful put stands =
    elim (stored h key) as (λ o. stored h key ≡ o → is_some o ≡ true) [
      | None ↦ λ e. absurd (true≢false (sym stands ∙ ap is_some (stays_gone more h new key is kind lawful put e)))
      | Some body ↦ λ e. refl
    ] refl

-- what was put stays put
pub still_put : (more h new : History) (key : Key) → new ≡ more ++ h → ∥ IsLawful new ∥₁ → is_some (body_put h key) ≡ true → is_some (body_put new key) ≡ true
still_put more h new key is lawful put =
    let b = some_of (body_put h key) put in
    ∥∥₁_elim (subst (λ g. ∥ IsLawful g ∥₁) is lawful) (hlevel props) (λ l. ap (λ g. is_some (body_put g key)) is ∙ ap is_some (puts_stay more h l key b.0 b.1))

-- ---- the event that dropped a key

-- a drop of the key by another
pub record DropOf (client : ℕ) (h : History) (key : Key) : Type 0 where
  pub place : ℕ
  pub within : place ≤ length h
  pub event : Event
  pub at : event_at h place ≡ Some event
  pub drops_it : drops key event ≡ true
  pub others : author event ≢ client

sooner : (client : ℕ) (x : Event) (h : History) (key : Key) → DropOf client h key → DropOf client (x ∷ h) key
sooner client x h key d = record { place = d.place; within = omega (arith, d.within); event = d.event; at = event_at_later x h d.place d.within ∙ d.at; drops_it = d.drops_it; others = d.others }

-- where a key stood and others' events are behind, one of them dropped it
pub dropped_by : (client : ℕ) (more h : History) (key : Key) → is_put key.kind ≡ true → AllByOthers client more → is_some (stored h key) ≡ true → stored (more ++ h) key ≡ None → DropOf client (more ++ h) key
dropped_by client [] h key kind others stood none = absurd (true≢false (sym stood ∙ ap is_some none))
dropped_by client (events.Drop c k ∷ more) h key kind others stood none =
    elim (same_key k key) as (λ t. same_key k key ≡ t → cond t None (stored (more ++ h) key) ≡ None → DropOf client (events.Drop c k ∷ (more ++ h)) key) [
      | true ↦ λ e n. record { place = suc (length (more ++ h)); within = omega arith; event = events.Drop c k; at = event_at_end (events.Drop c k) (more ++ h); drops_it = e; others = others.0 }
      | false ↦ λ e n. sooner client (events.Drop c k) (more ++ h) key (dropped_by client more h key kind others.1 stood n)
    ] refl none
dropped_by client (events.Put c k b ∷ more) h key kind others stood none =
    elim (same_key k key) as (λ t. cond t (Some b) (stored (more ++ h) key) ≡ None → DropOf client (events.Put c k b ∷ (more ++ h)) key) [
      | true ↦ λ n. absurd cc
      | false ↦ λ n. sooner client (events.Put c k b) (more ++ h) key (dropped_by client more h key kind others.1 stood n)
    ] none
dropped_by client (events.Refer c s was entry list ∷ more) h key kind others stood none =
    sooner client (events.Refer c s was entry list) (more ++ h) key (dropped_by client more h key kind others.1 stood (chosen_false _ (Some (key_text entry)) _ _ (put_is_no_reference s key kind) none))
dropped_by client (events.Name c snap b ∷ more) h key kind others stood none =
    sooner client (events.Name c snap b) (more ++ h) key (dropped_by client more h key kind others.1 stood (chosen_false _ (Some b) _ _ (put_is_no_snapshot snap key kind) none))
dropped_by client (events.Unname c snap ∷ more) h key kind others stood none =
    sooner client (events.Unname c snap) (more ++ h) key (dropped_by client more h key kind others.1 stood (chosen_false _ None _ _ (put_is_no_snapshot snap key kind) none))
