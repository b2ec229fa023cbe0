-- Where another's Refer of the symbol was added: its place, and that there is one.
use Rattle.std.proofs.Common.{◌≡◌, ℕ, suc, ◌+◌, ◌-◌, ◌≤◌, Bool, true, false, ◌&&◌, ◌||◌, not, List, [], ◌∷◌, ◌++◌, length, drop, refl, ap, sym, ◌∙◌, subst, inl, inr, cond, nat_eq, Some, None, arith, length-append}
use Rattle.std.specs.Prelude.{filter, reverse}
use Rattle.std.specs.List.{list_any}
use Rattle.std.proofs.lemmas.Bool.{true≢false, or_parts, or_from, and_from, and_left, eq-eqb, ne_eqb, le-leb, cases_lt}
use Rattle.std.proofs.lemmas.List.{reverse-append}
use Rattle.std.proofs.lemmas.List.Folds.{list_any-append}
use Rattle.segment_cut.proofs.Lists.{count_by-cons, count_by-yes}
use Rattle.key_kind.specs.Names.{Name}
use Rattle.bucket_core.specs.declared.event.Event.{Event}
use Rattle.bucket_core.specs.declared.event.Event.TheVariants as events
use Rattle.bucket_core.specs.History.{History, author, history_at, event_at, newest, referred_at, AllByOthers}
use Rattle.bucket_core.specs.Laws.{refers}
use Rattle.version_chain.specs.Traces.{own_of, met_in}
use Rattle.version_chain.specs.Marking.{own_refers, IsMet}

-- ---- places

-- the history at a place stays what it is
pub history_at_later : (h more : History) (n : ℕ) → n ≤ length h → history_at (more ++ h) n ≡ history_at h n
history_at_later h [] n le = refl
history_at_later h (e ∷ more) n le =
    let longer : n ≤ length (more ++ h) = omega (arith, le, length-append more h) in
    let step : suc (length (more ++ h)) - n ≡ suc (length (more ++ h) - n) = omega (arith, longer) in
    ap (λ k. drop k (e ∷ (more ++ h))) step ∙ history_at_later h more n le

-- and so does the event of a place; the newest one is that of the last place
pub event_at_later : (x : Event) (h : History) (n : ℕ) → n ≤ length h → event_at (x ∷ h) n ≡ event_at h n
event_at_later x h n le =
    ap (λ b. cond b (newest (history_at (x ∷ h) n)) None) (le-leb n (suc (length h)) (omega (arith, le)))
    ∙ (ap newest (history_at_later h (x ∷ []) n le) ∙ sym (ap (λ b. cond b (newest (history_at h n)) None) (le-leb n (length h) le)))

pub event_at_end : (x : Event) (h : History) → event_at (x ∷ h) (suc (length h)) ≡ Some x
event_at_end x h =
    let none : suc (length h) - suc (length h) ≡ 0 = omega arith in
    ap (λ b. cond b (newest (history_at (x ∷ h) (suc (length h)))) None) (le-leb (suc (length h)) (suc (length h)) (omega arith))
    ∙ ap (λ m. newest (drop m (x ∷ h))) none

-- ---- events that pass a test

none_of_reversed : (p : Event → Bool) (xs : List Event) → list_any p (reverse xs) ≡ false → list_any p xs ≡ false
none_of_reversed p [] none = refl
none_of_reversed p (x ∷ xs) none =
    let parts = or_parts (list_any p (reverse xs)) (list_any p (x ∷ []))
    (sym (list_any-append p (reverse xs) (x ∷ [])) ∙ (sym (ap (list_any p) (reverse-append (x ∷ []) xs)) ∙ none)) in
    or_from (p x) (list_any p xs) (or_parts (p x) false parts.1).0 (none_of_reversed p xs parts.0)

none_of_filtered : (keep p : Event → Bool) (xs : List Event) → list_any p (filter keep xs) ≡ false → list_any (λ e. keep e && p e) xs ≡ false
none_of_filtered keep p [] none = refl
none_of_filtered keep p (x ∷ xs) none =
    elim (keep x) as (λ b. list_any p (cond b (x ∷ filter keep xs) (filter keep xs)) ≡ false → ((b && p x) || list_any (λ e. keep e && p e) xs) ≡ false) [
      | true ↦ λ e. let r = or_parts (p x) (list_any p (filter keep xs)) e in or_from (p x) (list_any (λ e. keep e && p e) xs) r.0 (none_of_filtered keep p xs r.1)
      | false ↦ λ e. none_of_filtered keep p xs e
    ] none

pub others_refer_not : (client : ℕ) (symbol : Name) (more : History) → AllByOthers client more → list_any (own_refers client symbol) more ≡ false
others_refer_not client symbol [] others = refl
others_refer_not client symbol (e ∷ more) others = or_from _ _ (and_left _ _ (ne_eqb (author e) client others.0)) (others_refer_not client symbol more others.1)

-- where none of the own events is a Refer of the symbol
pub own_refer_not : (client : ℕ) (symbol : Name) (more : History) → list_any (refers symbol) (own_of client more) ≡ false → list_any (own_refers client symbol) more ≡ false
own_refer_not client symbol more none = none_of_filtered (λ x. nat_eq (author x) client) (refers symbol) more (none_of_reversed (refers symbol) (filter (λ x. nat_eq (author x) client) more) none)

pub none_in_both : (p : Event → Bool) (xs ys : History) → list_any p xs ≡ false → list_any p ys ≡ false → list_any p (xs ++ ys) ≡ false
none_in_both p xs ys x y = list_any-append p xs ys ∙ or_from _ _ x y

referred_later : (symbol : Name) (x : Event) (h : History) → refers symbol x ≡ false → referred_at (x ∷ h) symbol ≡ referred_at h symbol
referred_later symbol (events.Refer c s was entry list) h e = ap (λ b. cond b (suc (length h)) (referred_at h symbol)) e
referred_later symbol (events.Put c key body) h e = refl
referred_later symbol (events.Name c snap body) h e = refl
referred_later symbol (events.Unname c snap) h e = refl
referred_later symbol (events.Drop c key) h e = refl

referred_here : (symbol : Name) (x : Event) (h : History) → refers symbol x ≡ true → referred_at (x ∷ h) symbol ≡ suc (length h)
referred_here symbol (events.Refer c s was entry list) h e = ap (λ b. cond b (suc (length h)) (referred_at h symbol)) e
referred_here symbol (events.Put c key body) h e = absurd (true≢false (sym e))
referred_here symbol (events.Name c snap body) h e = absurd (true≢false (sym e))
referred_here symbol (events.Unname c snap) h e = absurd (true≢false (sym e))
referred_here symbol (events.Drop c key) h e = absurd (true≢false (sym e))

-- one event more
pub met_after : (client : ℕ) (symbol : Name) (place : ℕ) (h : History) (e : Event) (n : ℕ) → IsMet client symbol place h n → IsMet client symbol place (e ∷ h) n
met_after client symbol place h e n m = record { added = m.added; within = omega (arith, m.within); event = m.event; at = event_at_later e h n m.within ∙ m.at; refers = m.refers; others = m.others }

pub met_later : (client : ℕ) (symbol : Name) (place : ℕ) (h more : History) (n : ℕ) → IsMet client symbol place h n → IsMet client symbol place (more ++ h) n
met_later client symbol place h [] n m = m
met_later client symbol place h (e ∷ more) n m = met_after client symbol place (more ++ h) e n (met_later client symbol place h more n m)

pub met_sooner : (client : ℕ) (symbol : Name) (place sooner : ℕ) (h : History) (n : ℕ) → sooner ≤ place → IsMet client symbol place h n → IsMet client symbol sooner h n
met_sooner client symbol place sooner h n le m = record { added = omega (arith, le, m.added); within = m.within; event = m.event; at = m.at; refers = m.refers; others = m.others }

-- where a Refer was added and no own one, the newest one is another's
pub met_here : (client : ℕ) (symbol : Name) (old more : History) → list_any (own_refers client symbol) more ≡ false → list_any (refers symbol) more ≡ true
    → IsMet client symbol (length old) (more ++ old) (referred_at (more ++ old) symbol)
met_here client symbol old [] none e = absurd (true≢false (sym e))
met_here client symbol old (x ∷ more) none e =
    let parts = or_parts (own_refers client symbol x) (list_any (own_refers client symbol) more) none in
    elim (refers symbol x) as (λ b. refers symbol x ≡ b → (b || list_any (refers symbol) more) ≡ true → IsMet client symbol (length old) (x ∷ (more ++ old)) (referred_at (x ∷ (more ++ old)) symbol)) [
      | true ↦ λ on f. subst (IsMet client symbol (length old) (x ∷ (more ++ old))) (sym (referred_here symbol x (more ++ old) on)) (record {
        added = omega (arith, length-append more old);
        within = omega arith;
        event = x;
        at = event_at_end x (more ++ old);
        refers = on;
        others = λ own. true≢false (sym (and_from _ _ (eq-eqb (author x) client own) on) ∙ parts.0);
      })
      | false ↦ λ off f. subst (IsMet client symbol (length old) (x ∷ (more ++ old))) (sym (referred_later symbol x (more ++ old) off))
          (met_after client symbol (length old) (more ++ old) x _ (met_here client symbol old more parts.1 f))
    ] refl e

-- so there is one at least among what was added
pub met_counts : (client : ℕ) (symbol : Name) (place : ℕ) (old more : History) (n : ℕ) → length old ≤ place → IsMet client symbol place (more ++ old) n → 1 ≤ met_in client symbol more
met_counts client symbol place old [] n le m = absurd (omega (arith, le, m.added, m.within))
met_counts client symbol place old (x ∷ more) n le m = elim (cases_lt (length (more ++ old)) n) [
  | inl last ↦
      let end : n ≡ suc (length (more ++ old)) = omega (arith, last, m.within) in
      let is : x ≡ m.event = some_is x m.event (sym (event_at_end x (more ++ old)) ∙ (ap (event_at (x ∷ (more ++ old))) (sym end) ∙ m.at)) in
      let on : (refers symbol x && not (nat_eq (author x) client)) ≡ true =
      and_from _ _ (subst (λ e. refers symbol e ≡ true) (sym is) m.refers) (ap not (ne_eqb (author x) client (λ own. m.others (sym (ap author is) ∙ own)))) in
      let one : met_in client symbol (x ∷ more) ≡ 1 + met_in client symbol more = count_by-yes (λ e. refers symbol e && not (nat_eq (author e) client)) x more on in
      omega (arith, one)
  | inr within ↦
      let rest : 1 ≤ met_in client symbol more =
      met_counts client symbol place old more n le (record { added = m.added; within = within; event = m.event; at = sym (event_at_later x (more ++ old) n within) ∙ m.at; refers = m.refers; others = m.others }) in
      let step : met_in client symbol (x ∷ more) ≡ cond (refers symbol x && not (nat_eq (author x) client)) 1 0 + met_in client symbol more =
      count_by-cons (λ e. refers symbol e && not (nat_eq (author e) client)) x more in
      omega (arith, step, rest)
]
  where
    some_is : (a b : Event) → Some a ≡ Some b → a ≡ b
    some_is a b e = cc
