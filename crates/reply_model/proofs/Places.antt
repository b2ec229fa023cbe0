-- What stands at the places of a window, and what stays the same between them.
use Rattle.std.proofs.Common.{◌≡◌, ℕ, suc, ◌-◌, ◌≤◌, ◌<◌, Bool, true, false, List, [], ◌∷◌, ◌++◌, length, take, drop, Some, refl, sym, ◌∙◌, ap, subst, inl, inr, arith, cond}
use Rattle.std.specs.Prelude.{◌&&◌, ◌||◌, filter, reverse, Contains, nat_eq, nat_le}
use Rattle.std.specs.List.{list_any}
use Rattle.std.proofs.lemmas.Bool.{true≢false, and_parts, and_from, or_parts, or_from, cases_lt, le-leb, leb-true, eq-eqb}
use Rattle.std.proofs.lemmas.List.Elements.{Contains-append_left}
use Rattle.std.proofs.lemmas.List.Folds.{list_any-append}
use Rattle.std.proofs.lemmas.List.{reverse-append}
use Rattle.store_model.proofs.Lists.{contains_first, contains_right, contains_cases, contains_none, contains_append}
use Rattle.bucket_core.specs.declared.event.Event.{Event}
use Rattle.bucket_core.specs.declared.event.Event.TheVariants as events
use Rattle.bucket_core.specs.History.{History, author, event_at, history_at, events_within}
use Rattle.reply_model.specs.Windows.{Window, own_events, refer_places}
use Rattle.reply_model.proofs.Later.{history_at_later}
use Rattle.reply_model.proofs.Covering.{event_at_later, event_at_end, some_is}

-- the whole history is the one at its end
pub history_at_end : (h : History) → history_at h (length h) ≡ h
history_at_end h = let none : length h - length h ≡ 0 = omega arith in ap (λ m. drop m h) none

-- ---- what stays the same

-- a value that no event between two places changes is the same at both
pub same_between : {X : Type 0} (value : History → X) (changes : Event → Bool) → ((e : Event) (g : History) → changes e ≡ false → value (e ∷ g) ≡ value g)
    → (h : History) (start q : ℕ) → start ≤ q → q ≤ length h → ((n : ℕ) (e : Event) → start < n → n ≤ q → event_at h n ≡ Some e → changes e ≡ false)
    → value (history_at h q) ≡ value (history_at h start)
same_between value changes step [] start q first last none = ap (λ m. value (history_at [] m)) (omega (arith, first, last))
same_between value changes step (x ∷ h) start q first last none = elim (cases_lt (length h) q) [
  | inl beyond ↦
      let end : q ≡ suc (length h) = omega (arith, beyond, last) in
      elim (cases_lt (length h) start) [
        | inl late ↦ ap (λ m. value (history_at (x ∷ h) m)) (omega (arith, first, last, late, end))
        | inr early ↦
            let still : changes x ≡ false = none (suc (length h)) x (omega (arith, early)) (omega (arith, end)) (event_at_end x h) in
            ap (λ m. value (history_at (x ∷ h) m)) end ∙ (ap value (history_at_end (x ∷ h)) ∙ (step x h still
            ∙ (sym (ap value (history_at_end h)) ∙ (same_between value changes step h start (length h) early (omega arith)
            (λ n e after before at. none n e after (omega (arith, before, end)) (event_at_later x h n before ∙ at))
            ∙ sym (ap value (history_at_later h (x ∷ []) start early))))))
      ]
  | inr within ↦
      let early : start ≤ length h = omega (arith, first, within) in
      ap value (history_at_later h (x ∷ []) q within)
      ∙ (same_between value changes step h start q first within (λ n e after before at. none n e after before (event_at_later x h n (omega (arith, before, within)) ∙ at))
      ∙ sym (ap value (history_at_later h (x ∷ []) start early)))
]

-- ---- events of a window that ends with the history

-- the events behind a place
abbrev pub behind : ℕ → History → History
behind start h = take (length h - start) h

pub within_is_behind : (h : History) (start : ℕ) → events_within h start (length h) ≡ behind start h
within_is_behind h start = ap (λ g. take (length h - start) g) (history_at_end h)

-- what none of them passes the event of no later place passes
pub none_at : (p : Event → Bool) (h : History) (start n : ℕ) (e : Event) → list_any p (behind start h) ≡ false → start < n → n ≤ length h → event_at h n ≡ Some e → p e ≡ false
none_at p [] start n e none after before at = absurd (omega (arith, after, before))
none_at p (x ∷ h) start n e none after before at =
    let early : start ≤ length h = omega (arith, after, before) in
    let longer : suc (length h) - start ≡ suc (length h - start) = omega (arith, early) in
    let parts = or_parts (p x) (list_any p (behind start h)) (subst (λ m. list_any p (take m (x ∷ h)) ≡ false) longer none) in
    elim (cases_lt (length h) n) [
      | inl beyond ↦
          let last : n ≡ suc (length h) = omega (arith, beyond, before) in
          subst (λ y. p y ≡ false) (some_is x e (sym (event_at_end x h) ∙ (ap (event_at (x ∷ h)) (sym last) ∙ at))) parts.0
      | inr within ↦ none_at p h start n e parts.1 after within (sym (event_at_later x h n within) ∙ at)
    ]

-- ---- own Refers

-- a Refer of the client
abbrev pub is_refer_of : ℕ → Event → Bool
is_refer_of client (events.Refer c s was entry list) = nat_eq c client
is_refer_of client e = false

-- a place that is listed stays so
listed_later : (client start : ℕ) (x : Event) (h : History) (n : ℕ) → Contains (refer_places client start h) n → Contains (refer_places client start (x ∷ h)) n
listed_later client start (events.Refer c s was entry list) h n there =
    elim (nat_eq c client && nat_le start (length h)) as (λ b. Contains (cond b (refer_places client start h ++ suc (length h) ∷ []) (refer_places client start h)) n) [
      | true ↦ Contains-append_left (refer_places client start h) (suc (length h) ∷ []) n there
      | false ↦ there
    ]
listed_later client start (events.Put c key body) h n there = there
listed_later client start (events.Name c snap body) h n there = there
listed_later client start (events.Unname c snap) h n there = there
listed_later client start (events.Drop c key) h n there = there

-- the newest event's place is listed where it is such a Refer
listed_first : (client start : ℕ) (x : Event) (h : History) → is_refer_of client x ≡ true → start ≤ length h → Contains (refer_places client start (x ∷ h)) (suc (length h))
listed_first client start (events.Refer c s was entry list) h own early =
    subst (λ b. Contains (cond b (refer_places client start h ++ suc (length h) ∷ []) (refer_places client start h)) (suc (length h)))
    (sym (and_from (nat_eq c client) (nat_le start (length h)) own (le-leb start (length h) early)))
    (contains_right (refer_places client start h) (suc (length h) ∷ []) (suc (length h)) (contains_first (suc (length h)) []))
listed_first client start (events.Put c key body) h own early = absurd (true≢false (sym own))
listed_first client start (events.Name c snap body) h own early = absurd (true≢false (sym own))
listed_first client start (events.Unname c snap) h own early = absurd (true≢false (sym own))
listed_first client start (events.Drop c key) h own early = absurd (true≢false (sym own))

-- each place of an own Refer is listed
pub refer_listed : (client start : ℕ) (h : History) (n : ℕ) (e : Event) → is_refer_of client e ≡ true → start < n → n ≤ length h → event_at h n ≡ Some e → Contains (refer_places client start h) n
refer_listed client start [] n e own after before at = absurd (omega (arith, after, before))
refer_listed client start (x ∷ h) n e own after before at = elim (cases_lt (length h) n) [
  | inl beyond ↦
      let last : n ≡ suc (length h) = omega (arith, beyond, before) in
      let is : x ≡ e = some_is x e (sym (event_at_end x h) ∙ (ap (event_at (x ∷ h)) (sym last) ∙ at)) in
      subst (λ m. Contains (refer_places client start (x ∷ h)) m) (sym last)
      (listed_first client start x h (subst (λ y. is_refer_of client y ≡ true) (sym is) own) (omega (arith, after, last)))
  | inr within ↦ listed_later client start x h n (refer_listed client start h n e own after within (sym (event_at_later x h n within) ∙ at))
]

-- a listed place lies in the window
pub listed_after : (client start : ℕ) (h : History) (n : ℕ) → Contains (refer_places client start h) n → start < n
listed_after client start [] n there = absurd (contains_none n there)
listed_after client start (events.Refer c s was entry list ∷ h) n there =
    elim (nat_eq c client && nat_le start (length h)) as (λ b. (nat_eq c client && nat_le start (length h)) ≡ b
    → Contains (cond b (refer_places client start h ++ suc (length h) ∷ []) (refer_places client start h)) n → start < n) [
      | true ↦ λ e c. elim (contains_append (refer_places client start h) (suc (length h) ∷ []) n c) [
        | inl before ↦ listed_after client start h n before
        | inr last ↦ elim (contains_cases n (suc (length h)) [] last) [
          | inl is ↦ omega (arith, is, leb-true start (length h) (and_parts (nat_eq _ client) (nat_le start (length h)) e).1)
          | inr none ↦ absurd (contains_none n none)
        ]
      ]
      | false ↦ λ e c. listed_after client start h n c
    ] refl there
listed_after client start (events.Put c key body ∷ h) n there = listed_after client start h n there
listed_after client start (events.Name c snap body ∷ h) n there = listed_after client start h n there
listed_after client start (events.Unname c snap ∷ h) n there = listed_after client start h n there
listed_after client start (events.Drop c key ∷ h) n there = listed_after client start h n there

-- ---- own events

-- a list and its reverse pass a test alike
pub none_of_reversed : (p : Event → Bool) (xs : List Event) → list_any p (reverse xs) ≡ false → list_any p xs ≡ false
none_of_reversed p [] none = refl
none_of_reversed p (x ∷ xs) none =
    let parts = or_parts (list_any p (reverse xs)) (list_any p (x ∷ []))
    (sym (list_any-append p (reverse xs) (x ∷ [])) ∙ (sym (ap (list_any p) (reverse-append (x ∷ []) xs)) ∙ none)) in
    or_from (p x) (list_any p xs) (or_parts (p x) false parts.1).0 (none_of_reversed p xs parts.0)

-- what no own event passes no event of the client passes
pub none_of_filtered : (keep p : Event → Bool) (xs : List Event) → list_any p (filter keep xs) ≡ false → list_any (λ e. keep e && p e) xs ≡ false
none_of_filtered keep p [] none = refl
none_of_filtered keep p (x ∷ xs) none =
    elim (keep x) as (λ b. list_any p (cond b (x ∷ filter keep xs) (filter keep xs)) ≡ false → ((b && p x) || list_any (λ e. keep e && p e) xs) ≡ false) [
      | true ↦ λ e. let r = or_parts (p x) (list_any p (filter keep xs)) e in or_from (p x) (list_any (λ e. keep e && p e) xs) r.0 (none_of_filtered keep p xs r.1)
      | false ↦ λ e. none_of_filtered keep p xs e
    ] none

-- so an own event of the window, which ends with the history, does not pass
pub none_own_at : (p : Event → Bool) (h : History) (client : ℕ) (w : Window) (n : ℕ) (e : Event) → w.stop ≡ length h → list_any p (own_events h client w) ≡ false
    → author e ≡ client → w.start < n → n ≤ length h → event_at h n ≡ Some e → p e ≡ false
none_own_at p h client w n e ends none own after before at =
    let all : list_any p (reverse (filter (λ x. nat_eq (author x) client) (behind w.start h))) ≡ false =
    subst (λ g. list_any p (reverse (filter (λ x. nat_eq (author x) client) g)) ≡ false) (ap (events_within h w.start) ends ∙ within_is_behind h w.start) none in
    let kept : list_any (λ x. nat_eq (author x) client && p x) (behind w.start h) ≡ false =
    none_of_filtered (λ x. nat_eq (author x) client) p (behind w.start h) (none_of_reversed p (filter (λ x. nat_eq (author x) client) (behind w.start h)) all) in
    let both : (nat_eq (author e) client && p e) ≡ false = none_at (λ x. nat_eq (author x) client && p x) h w.start n e kept after before at in
    subst (λ b. (b && p e) ≡ false) (eq-eqb (author e) client own) both
