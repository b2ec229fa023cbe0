-- Where another's Refer of the symbol was added: its place, and how many there are.
use Rattle.std.proofs.Common.{◌≡◌, ℕ, suc, ◌+◌, ◌≤◌, Bool, true, false, ◌&&◌, ◌||◌, not, List, [], ◌∷◌, ◌++◌, length, refl, ap, sym, ◌∙◌, subst, inl, inr, Some, cond, nat_eq, arith, length-append}
use Rattle.std.specs.Prelude.{map, filter}
use Rattle.std.specs.List.{list_any}
use Rattle.std.proofs.lemmas.Bool.{true≢false, or_parts, or_from, and_from, and_left, eq-eqb, ne_eqb, cases_lt}
use Rattle.std.proofs.lemmas.List.Folds.{list_any-append}
use Rattle.segment_cut.proofs.Lists.{count_by-cons, count_by-yes}
use Rattle.key_kind.specs.declared.key.Key.{Key}
use Rattle.key_kind.specs.Names.{Name}
use Rattle.bucket_core.specs.declared.event.Event.{Event}
use Rattle.bucket_core.specs.declared.event.Event.TheVariants as events
use Rattle.bucket_core.specs.History.{History, Bytes, author, event_at, referred_at, AllByOthers}
use Rattle.bucket_core.specs.Laws.{refers}
use Rattle.reply_model.specs.Tries.{put_of, drop_of}
use Rattle.reply_model.proofs.Covering.{event_at_later, event_at_end}
use Rattle.reply_model.proofs.Places.{none_of_reversed, none_of_filtered}
use Rattle.version_chain.specs.Traces.{own_of, met_in, Went}
use Rattle.version_chain.specs.Marking.{own_refers}
use Rattle.frame_core.specs.declared.refusal.Refused.{Refused}
use Rattle.frame_write.specs.Tries.{IsMet, DidMeet}
use Rattle.version_chain.proofs.TraceLemmas.{split_more, others_first, went_then}

pub others_refer_not : (client : ℕ) (symbol : Name) (more : History) → AllByOthers client more → list_any (own_refers client symbol) more ≡ false
others_refer_not client symbol [] others = refl
others_refer_not client symbol (e ∷ more) others = or_from _ _ (and_left _ _ (ne_eqb (author e) client others.0)) (others_refer_not client symbol more others.1)

pub puts_refer_not : (client : ℕ) (symbol : Name) (puts : List (Key × Bytes)) → list_any (refers symbol) (map (put_of client) puts) ≡ false
puts_refer_not client symbol [] = refl
puts_refer_not client symbol (p ∷ puts) = puts_refer_not client symbol puts

-- where the own events are puts
pub own_refer_not : (client : ℕ) (symbol : Name) (more : History) (puts : List (Key × Bytes)) → own_of client more ≡ map (put_of client) puts → list_any (own_refers client symbol) more ≡ false
own_refer_not client symbol more puts is =
    none_of_filtered (λ x. nat_eq (author x) client) (refers symbol) more (none_of_reversed (refers symbol) (filter (λ x. nat_eq (author x) client) more)
    (ap (list_any (refers symbol)) is ∙ puts_refer_not client symbol puts))

pub none_in_both : (p : Event → Bool) (xs ys : History) → list_any p xs ≡ false → list_any p ys ≡ false → list_any p (xs ++ ys) ≡ false
none_in_both p xs ys x y = list_any-append p xs ys ∙ or_from _ _ x y

referred_later : (symbol : Name) (x : Event) (h : History) → refers symbol x ≡ false → referred_at (x ∷ h) symbol ≡ referred_at h symbol
referred_later symbol (events.Refer c s was entry list) h e = ap (λ b. cond b (suc (length h)) (referred_at h symbol)) e
referred_later symbol (events.Put c key body) h e = refl
referred_later symbol (events.Name c snap body) h e = refl
referred_later symbol (events.Unname c snap) h e = refl
referred_later symbol (events.Drop c key) h e = refl

referred_here : (symbol : Name) (x : Event) (h : History) → refers symbol x ≡ true → referred_at (x ∷ h) symbol ≡ suc (length h)
referred_here symbol (events.Refer c s was entry list) h e = ap (λ b. cond b (suc (length h)) (referred_at h symbol)) e
referred_here symbol (events.Put c key body) h e = absurd (true≢false (sym e))
referred_here symbol (events.Name c snap body) h e = absurd (true≢false (sym e))
referred_here symbol (events.Unname c snap) h e = absurd (true≢false (sym e))
referred_here symbol (events.Drop c key) h e = absurd (true≢false (sym e))

-- one event more
pub met_after : (client : ℕ) (symbol : Name) (from : ℕ) (h : History) (e : Event) (n : ℕ) → IsMet client symbol from h n → IsMet client symbol from (e ∷ h) n
met_after client symbol from h e n m = record { added = m.added; within = omega (arith, m.within); event = m.event; at = event_at_later e h n m.within ∙ m.at; refers = m.refers; others = m.others }

pub met_later : (client : ℕ) (symbol : Name) (from : ℕ) (h more : History) (n : ℕ) → IsMet client symbol from h n → IsMet client symbol from (more ++ h) n
met_later client symbol from h [] n m = m
met_later client symbol from h (e ∷ more) n m = met_after client symbol from (more ++ h) e n (met_later client symbol from h more n m)

pub met_sooner : (client : ℕ) (symbol : Name) (from earlier : ℕ) (h : History) (n : ℕ) → earlier ≤ from → IsMet client symbol from h n → IsMet client symbol earlier h n
met_sooner client symbol from earlier h n le m = record { added = omega (arith, le, m.added); within = m.within; event = m.event; at = m.at; refers = m.refers; others = m.others }

-- where a Refer was added and no own one, the newest one is another's
pub met_here : (client : ℕ) (symbol : Name) (old more : History) → list_any (own_refers client symbol) more ≡ false → list_any (refers symbol) more ≡ true
    → IsMet client symbol (length old) (more ++ old) (referred_at (more ++ old) symbol)
met_here client symbol old [] none e = absurd (true≢false (sym e))
met_here client symbol old (x ∷ more) none e =
    let parts = or_parts (own_refers client symbol x) (list_any (own_refers client symbol) more) none in
    elim (refers symbol x) as (λ b. refers symbol x ≡ b → (b || list_any (refers symbol) more) ≡ true → IsMet client symbol (length old) (x ∷ (more ++ old)) (referred_at (x ∷ (more ++ old)) symbol)) [
      | true ↦ λ on f. subst (IsMet client symbol (length old) (x ∷ (more ++ old))) (sym (referred_here symbol x (more ++ old) on)) (record {
        added = omega (arith, length-append more old);
        within = omega arith;
        event = x;
        at = event_at_end x (more ++ old);
        refers = on;
        others = λ own. true≢false (sym (and_from _ _ (eq-eqb (author x) client own) on) ∙ parts.0);
      })
      | false ↦ λ off f. subst (IsMet client symbol (length old) (x ∷ (more ++ old))) (sym (referred_later symbol x (more ++ old) off))
          (met_after client symbol (length old) (more ++ old) x _ (met_here client symbol old more parts.1 f))
    ] refl e

-- so there is one at least
pub met_once : (client : ℕ) (symbol : Name) (old more : History) (n : ℕ) → IsMet client symbol (length old) (more ++ old) n → 1 ≤ met_in client symbol more
met_once client symbol old [] n m = absurd (omega (arith, m.added, m.within))
met_once client symbol old (x ∷ more) n m =
    let step : met_in client symbol (x ∷ more) ≡ cond (refers symbol x && not (nat_eq (author x) client)) 1 0 + met_in client symbol more =
    count_by-cons (λ e. refers symbol e && not (nat_eq (author e) client)) x more in
    elim (cases_lt (length (more ++ old)) n) [
      | inl last ↦
          let here : n ≡ suc (length (more ++ old)) = omega (arith, last, m.within) in
          let same : Some x ≡ Some m.event = sym (event_at_end x (more ++ old)) ∙ (ap (event_at (x ∷ (more ++ old))) (sym here) ∙ m.at) in
          let is : x ≡ m.event = cc in
          let on : refers symbol x ≡ true = ap (refers symbol) is ∙ m.refers in
          let other : nat_eq (author x) client ≡ false = ap (λ e. nat_eq (author e) client) is ∙ ne_eqb (author m.event) client m.others in
          let one : met_in client symbol (x ∷ more) ≡ 1 + met_in client symbol more =
          count_by-yes (λ e. refers symbol e && not (nat_eq (author e) client)) x more (and_from _ _ on (ap not other)) in
          omega (arith, one)
      | inr within ↦
          let before : IsMet client symbol (length old) (more ++ old) n = record {
            added = m.added;
            within = within;
            event = m.event;
            at = sym (event_at_later x (more ++ old) n within) ∙ m.at;
            refers = m.refers;
            others = m.others;
          } in
          let rest = met_once client symbol old more n before in
          omega (arith, step, rest)
    ]

-- behind a look there is no own Refer
pub later_not_own : (client : ℕ) (symbol : Name) (old new later before : History) → later ++ before ≡ new → (others : History) → new ≡ others ++ old → AllByOthers client others → length old ≤ length before
    → list_any (own_refers client symbol) later ≡ false
later_not_own client symbol old new later before split others is by_others longer =
    let parts = split_more later before others old (split ∙ is) longer in
    others_refer_not client symbol later (others_first client later parts.0 (subst (AllByOthers client) parts.2 by_others))

-- the own events of a met try
pub met_went : (client : ℕ) (sole : Bool) (symbol : Name) (from : ℕ) (old new : History) (refused : Refused) → (m : DidMeet client sole symbol from old new refused) → Went client sole old new (map (put_of client) m.puts ++ map (drop_of client) m.puts)
met_went client sole symbol from old new refused m = went_then client sole old m.showed new (map (put_of client) m.puts) (map (drop_of client) m.puts) m.put m.dropped
