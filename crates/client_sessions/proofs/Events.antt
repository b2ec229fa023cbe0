-- Events of places, and who made them.
use Rattle.std.proofs.Common.{◌≡◌, ◌≢◌, ℕ, suc, ◌<◌, ◌≤◌, Bool, true, false, cond, List, [], ◌∷◌, ◌++◌, length, Some, None, refl, sym, ap, ◌∙◌, subst, inl, inr, arith, length-append}
use Rattle.std.specs.Prelude.{Any, nat_le}
use Rattle.std.specs.List.{AllByRecursion}
use Rattle.std.proofs.lemmas.Bool.{cases_lt, leb-true}
use Rattle.bucket_core.specs.declared.event.Event.{Event}
use Rattle.bucket_core.specs.History.{History, author, event_at, history_at, newest, AllByOthers}
use Rattle.reply_model.specs.Runs.{Talk}
use Rattle.reply_model.proofs.Covering.{event_at_later, event_at_end, some_is}

-- ---- places

no_event : (e : Event) → None ≡ Some e → ⊥
no_event e is = cc

-- an event stands within the history
pub event_within : (h : History) (n : ℕ) (e : Event) → event_at h n ≡ Some e → n ≤ length h
event_within h n e at = of (nat_le n (length h)) refl at
  where
    of : (b : Bool) → nat_le n (length h) ≡ b → cond b (newest (history_at h n)) None ≡ Some e → n ≤ length h
    of true is found = leb-true n (length h) is
    of false is found = absurd (no_event e found)

-- no history has none
no_place : (n : ℕ) (e : Event) → event_at [] n ≡ Some e → ⊥
no_place n e at =
    let le : n ≤ 0 = event_within [] n e at in
    let is : n ≡ 0 = omega (arith, le) in
    no_event e (subst (λ (k : ℕ). event_at [] k ≡ Some e) is at)

-- the event of a place stays what it is
pub event_at_more : (more h : History) (n : ℕ) → n ≤ length h → event_at (more ++ h) n ≡ event_at h n
event_at_more [] h n le = refl
event_at_more (e ∷ more) h n le = event_at_later e (more ++ h) n (omega (arith, le, length-append more h)) ∙ event_at_more more h n le

-- ---- authors

-- no added event is of a client that added none
pub others_above : (client : ℕ) (more h : History) (n : ℕ) (e : Event) → AllByOthers client more → length h < n → event_at (more ++ h) n ≡ Some e → author e ≢ client
others_above client [] h n e a lt at own = absurd (let le : n ≤ length h = event_within h n e at in omega (arith, le, lt))
others_above client (x ∷ more) h n e a lt at own = elim (cases_lt (length (more ++ h)) n) [
  | inl beyond ↦
      let le : n ≤ length (x ∷ (more ++ h)) = event_within (x ∷ (more ++ h)) n e at in
      let last : n ≡ suc (length (more ++ h)) = omega (arith, beyond, le) in
      let is : x ≡ e = some_is x e (sym (event_at_end x (more ++ h)) ∙ (ap (event_at (x ∷ (more ++ h))) (sym last) ∙ at)) in
      a.0 (ap author is ∙ own)
  | inr within ↦ others_above client more h n e a.1 lt (sym (event_at_later x (more ++ h) n within) ∙ at) own
]

-- nor is any event of a client that has none
pub others_at : (client : ℕ) (h : History) (n : ℕ) (e : Event) → AllByOthers client h → event_at h n ≡ Some e → author e ≢ client
others_at client [] n e a at own = no_place n e at
others_at client (x ∷ h) n e a at own = elim (cases_lt (length h) n) [
  | inl beyond ↦
      let le : n ≤ length (x ∷ h) = event_within (x ∷ h) n e at in
      let last : n ≡ suc (length h) = omega (arith, beyond, le) in
      let is : x ≡ e = some_is x e (sym (event_at_end x h) ∙ (ap (event_at (x ∷ h)) (sym last) ∙ at)) in
      a.0 (ap author is ∙ own)
  | inr within ↦ others_at client h n e a.1 (sym (event_at_later x h n within) ∙ at) own
]

-- what holds of each event holds of that of a place
pub all_at : (P : Event → Type 0) (h : History) (n : ℕ) (e : Event) → AllByRecursion P h → event_at h n ≡ Some e → P e
all_at P [] n e all at = absurd (no_place n e at)
all_at P (x ∷ h) n e all at = elim (cases_lt (length h) n) [
  | inl beyond ↦
      let le : n ≤ length (x ∷ h) = event_within (x ∷ h) n e at in
      let last : n ≡ suc (length h) = omega (arith, beyond, le) in
      subst P (some_is x e (sym (event_at_end x h) ∙ (ap (event_at (x ∷ h)) (sym last) ∙ at))) all.0
  | inr within ↦ all_at P h n e all.1 (sym (event_at_later x h n within) ∙ at)
]

-- ---- one of a list

module _ {P : Talk → Type 0} (t : Talk) (talks : List Talk) where
  pub any_here : P t → Any P (t ∷ talks)
  any_here p = (0, t, omega arith, refl, p)

  pub any_there : Any P talks → Any P (t ∷ talks)
  any_there (k, x, lt, is, p) = (suc k, x, omega (arith, lt), is, p)
