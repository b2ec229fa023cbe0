-- How one more event changes what stands.
use Rattle.std.proofs.Common.{◌≡◌, ℕ, suc, ◌≤◌, Bool, true, false, [], ◌∷◌, refl, ap, sym, ◌∙◌, subst, arith, Option, Some, None, cond, nat_eq}
use Rattle.std.specs.Prelude.{is_some}
use Rattle.std.proofs.lemmas.Bool.{true≢false}
use Rattle.key_kind.specs.declared.key.Key.{Key}
use Rattle.key_kind.specs.Names.{Name}
use Rattle.key_kind.specs.Keys.{is_put, same_key}
use Rattle.key_kind.specs.KeyText.{key_text}
use Rattle.key_kind.proofs.KeyTests.{same_key_is, put_is_no_reference, put_is_no_snapshot}
use Rattle.bucket_core.specs.declared.event.Event.{Event}
use Rattle.bucket_core.specs.declared.event.Event.TheVariants as events
use Rattle.bucket_core.specs.History.{History, Bytes, stored, body_put, puts_by, StandsAsPut, PutOnce, PutsStay}

-- ---- a choice by a test

pub chosen_false : {A : Type 0} (b : Bool) (x y z : A) → b ≡ false → cond b x y ≡ z → y ≡ z
chosen_false b x y z e h = subst (λ w. cond w x y ≡ z) e h

pub choose_false : {A : Type 0} (b : Bool) (x y z : A) → b ≡ false → y ≡ z → cond b x y ≡ z
choose_false b x y z e h = subst (λ w. cond w x y ≡ z) (sym e) h

-- ---- what stands was put

-- under a key that clients put, what stands is what was put
pub stands_was_put : (h : History) (key : Key) (body : Bytes) → is_put key.kind ≡ true → stored h key ≡ Some body → body_put h key ≡ Some body
stands_was_put [] key body kind is = absurd cc
stands_was_put (events.Put c k b ∷ h) key body kind is =
    elim (same_key k key) as (λ t. cond t (Some b) (stored h key) ≡ Some body → cond t (Some b) (body_put h key) ≡ Some body) [
      | true ↦ λ e. e
      | false ↦ λ e. stands_was_put h key body kind e
    ] is
stands_was_put (events.Refer c s was entry list ∷ h) key body kind is =
    stands_was_put h key body kind (chosen_false _ (Some (key_text entry)) _ _ (put_is_no_reference s key kind) is)
stands_was_put (events.Name c snap b ∷ h) key body kind is =
    stands_was_put h key body kind (chosen_false _ (Some b) _ _ (put_is_no_snapshot snap key kind) is)
stands_was_put (events.Unname c snap ∷ h) key body kind is =
    stands_was_put h key body kind (chosen_false _ None _ _ (put_is_no_snapshot snap key kind) is)
stands_was_put (events.Drop c k ∷ h) key body kind is =
    elim (same_key k key) as (λ t. cond t None (stored h key) ≡ Some body → body_put h key ≡ Some body) [
      | true ↦ λ e. absurd cc
      | false ↦ λ e. stands_was_put h key body kind e
    ] is

-- ---- a key that stands as it was put still does

pub stands_at_put : (h : History) (c : ℕ) (k : Key) (b : Bytes) (key : Key) → StandsAsPut h key → StandsAsPut (events.Put c k b ∷ h) key
stands_at_put h c k b key s =
    elim (same_key k key) as (λ t. same_key k key ≡ t → StandsAsPut (events.Put c k b ∷ h) key) [
      | true ↦ λ e. record { body = b; put = ap (λ w. cond w (Some b) (body_put h key)) e; stands = ap (λ w. cond w (Some b) (stored h key)) e }
      | false ↦ λ e. record { body = s.body; put = choose_false _ _ _ _ e s.put; stands = choose_false _ _ _ _ e s.stands }
    ] refl

pub stands_at_refer : (h : History) (c : ℕ) (s : Name) (was : Option Key) (entry : Key) (list : _) (key : Key) → is_put key.kind ≡ true → StandsAsPut h key → StandsAsPut (events.Refer c s was entry list ∷ h) key
stands_at_refer h c s was entry list key kind k = record { body = k.body; put = k.put; stands = choose_false _ _ _ _ (put_is_no_reference s key kind) k.stands }

pub stands_at_name : (h : History) (c : ℕ) (snap : Name) (b : Bytes) (key : Key) → is_put key.kind ≡ true → StandsAsPut h key → StandsAsPut (events.Name c snap b ∷ h) key
stands_at_name h c snap b key kind k = record { body = k.body; put = k.put; stands = choose_false _ _ _ _ (put_is_no_snapshot snap key kind) k.stands }

pub stands_at_unname : (h : History) (c : ℕ) (snap : Name) (key : Key) → is_put key.kind ≡ true → StandsAsPut h key → StandsAsPut (events.Unname c snap ∷ h) key
stands_at_unname h c snap key kind k = record { body = k.body; put = k.put; stands = choose_false _ _ _ _ (put_is_no_snapshot snap key kind) k.stands }

pub stands_at_drop : (h : History) (c : ℕ) (k key : Key) → same_key k key ≡ false → StandsAsPut h key → StandsAsPut (events.Drop c k ∷ h) key
stands_at_drop h c k key other s = record { body = s.body; put = s.put; stands = choose_false _ _ _ _ other s.stands }

-- ---- how many were put

pub puts_more : (h : History) (client : ℕ) (e : Event) → puts_by client h ≤ puts_by client (e ∷ h)
puts_more h client (events.Put c k b) =
    elim (nat_eq c client) as (λ t. puts_by client h ≤ cond t (suc (puts_by client h)) (puts_by client h)) [ true ↦ omega arith | false ↦ omega arith ]
puts_more h client (events.Refer c s was entry list) = omega arith
puts_more h client (events.Name c snap b) = omega arith
puts_more h client (events.Unname c snap) = omega arith
puts_more h client (events.Drop c k) = omega arith

-- a key that clients put and under which something stands, stands as it was put
pub stands_from : (h : History) (key : Key) → is_put key.kind ≡ true → is_some (stored h key) ≡ true → StandsAsPut h key
stands_from h key kind some =
    elim (stored h key) as (λ o. stored h key ≡ o → is_some o ≡ true → StandsAsPut h key) [
      | None ↦ λ e f. absurd (true≢false (sym f))
      | Some body ↦ λ e f. record { body = body; put = stands_was_put h key body kind e; stands = e }
    ] refl some

-- ---- what was put stays put

pub put_stays : (h : History) (e : Event) → PutOnce (e ∷ h) → PutsStay h (e ∷ h)
put_stays h (events.Put c k b) once key body is =
    elim (same_key k key) as (λ t. same_key k key ≡ t → cond t (Some b) (body_put h key) ≡ Some body) [
      | true ↦ λ e. absurd (none_is_not_some body (sym (subst (λ x. body_put h x ≡ None) (same_key_is k key e) once.0) ∙ is))
      | false ↦ λ e. is
    ] refl
  where
    none_is_not_some : (body : Bytes) → None ≡ Some body → ⊥
    none_is_not_some body e = cc
put_stays h (events.Refer c s was entry list) once key body is = is
put_stays h (events.Name c snap b) once key body is = is
put_stays h (events.Unname c snap) once key body is = is
put_stays h (events.Drop c k) once key body is = is

pub once_before : (h : History) (e : Event) → PutOnce (e ∷ h) → PutOnce h
once_before h (events.Put c k b) once = once.1
once_before h (events.Refer c s was entry list) once = once
once_before h (events.Name c snap b) once = once
once_before h (events.Unname c snap) once = once
once_before h (events.Drop c k) once = once
