-- Each event lies in a window of its own client: by a test of the events, one after another.
use Rattle.std.proofs.Common.{◌≡◌, ℕ, suc, ◌-◌, ◌≤◌, ◌<◌, Bool, true, List, [], ◌∷◌, length, drop, Some, None, refl, sym, ◌∙◌, ap, subst, inl, inr, arith, cond}
use Rattle.std.specs.Prelude.{◌&&◌, Any, nat_eq, nat_lt}
use Rattle.std.specs.List.{list_any}
use Rattle.std.proofs.lemmas.Bool.{and_parts, cases_lt, le-leb, lt-ltb, eqb-true}
use Rattle.store_model.proofs.Lists.{one_passes}
use Rattle.bucket_core.specs.declared.event.Event.{Event}
use Rattle.bucket_core.specs.History.{History, author, event_at, history_at, newest}
use Rattle.reply_model.specs.Runs.{Talk, Covers, AllCovered, is_covered}
use Rattle.reply_model.proofs.Later.{history_at_later}

-- the event of a place stays what it is, and the newest one is that of the last place
pub event_at_later : (x : Event) (h : History) (n : ℕ) → n ≤ length h → event_at (x ∷ h) n ≡ event_at h n
event_at_later x h n le =
    ap (λ b. cond b (newest (history_at (x ∷ h) n)) None) (le-leb n (suc (length h)) (omega (arith, le)))
    ∙ (ap newest (history_at_later h (x ∷ []) n le) ∙ sym (ap (λ b. cond b (newest (history_at h n)) None) (le-leb n (length h) le)))

pub event_at_end : (x : Event) (h : History) → event_at (x ∷ h) (suc (length h)) ≡ Some x
event_at_end x h =
    let none : suc (length h) - suc (length h) ≡ 0 = omega arith in
    ap (λ b. cond b (newest (history_at (x ∷ h) (suc (length h)))) None) (le-leb (suc (length h)) (suc (length h)) (omega arith))
    ∙ ap (λ m. newest (drop m (x ∷ h))) none

-- a talk of the event's author covers the place
abbrev pub is_of_talk : ℕ → Event → Talk → Bool
is_of_talk n e t = nat_eq t.client.session.client (author e) && is_covered t.windows n

-- so it is of each event behind a place
abbrev pub all_tested : ℕ → List Talk → History → Bool
all_tested from talks [] = true
all_tested from talks (e ∷ h) = cond (nat_lt from (suc (length h))) (list_any (is_of_talk (suc (length h)) e) talks) true && all_tested from talks h

covers_from : (talks : List Talk) (n : ℕ) (e : Event) → list_any (is_of_talk n e) talks ≡ true → Any (Covers n e) talks
covers_from talks n e t =
    let r = one_passes (is_of_talk n e) talks t in
    let both = and_parts (nat_eq r.0.client.session.client (author e)) (is_covered r.0.windows n) r.2 in
    (r.1.0, r.0, r.1.1, r.1.2, (eqb-true r.0.client.session.client (author e) both.0, both.1))

pub some_is : (a b : Event) → Some a ≡ Some b → a ≡ b
some_is a b e = cc

-- the test shows that all events are covered
pub all_covered : (from : ℕ) (talks : List Talk) (h : History) → all_tested from talks h ≡ true → AllCovered h from talks
all_covered from talks [] t n e after before at = absurd (omega (arith, after, before))
all_covered from talks (x ∷ h) t n e after before at = elim (cases_lt (length h) n) [
  | inl beyond ↦
      let last : n ≡ suc (length h) = omega (arith, beyond, before) in
      let behind : from < suc (length h) = omega (arith, after, last) in
      let is : x ≡ e = some_is x e (sym (event_at_end x h) ∙ (ap (event_at (x ∷ h)) (sym last) ∙ at)) in
      let tested : list_any (is_of_talk (suc (length h)) x) talks ≡ true =
      subst (λ b. cond b (list_any (is_of_talk (suc (length h)) x) talks) true ≡ true) (lt-ltb from (suc (length h)) behind)
      (and_parts (cond (nat_lt from (suc (length h))) (list_any (is_of_talk (suc (length h)) x) talks) true) (all_tested from talks h) t).0 in
      subst (λ m. Any (Covers m e) talks) (sym last) (subst (λ y. Any (Covers (suc (length h)) y) talks) is (covers_from talks (suc (length h)) x tested))
  | inr within ↦
      all_covered from talks h (and_parts (cond (nat_lt from (suc (length h))) (list_any (is_of_talk (suc (length h)) x) talks) true) (all_tested from talks h) t).1 n e after within
      (sym (event_at_later x h n within) ∙ at)
]
