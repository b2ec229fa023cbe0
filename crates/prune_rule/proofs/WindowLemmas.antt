-- What stands in the window of a call: the events that it added, and the places of own Refers among them.
use Rattle.std.proofs.Common.{◌≡◌, ℕ, suc, ◌-◌, ◌≤◌, ◌<◌, Bool, true, false, ◌&&◌, List, [], ◌∷◌, ◌++◌, length, take, refl, ap, sym, ◌∙◌, subst, Option, cond, nat_eq, arith, length-append}
use Rattle.std.specs.Prelude.{filter, nat_le}
use Rattle.std.specs.List.{list_any}
use Rattle.std.proofs.lemmas.Bool.{or_parts, eq-eqb, le-leb, leb-true}
use Rattle.std.proofs.Math.Seq.{take-append_seam}
use Rattle.key_kind.specs.declared.key.Key.{Key}
use Rattle.key_kind.specs.Names.{Name}
use Rattle.bucket_core.specs.declared.event.Event.{Event}
use Rattle.bucket_core.specs.declared.event.Event.TheVariants as events
use Rattle.bucket_core.specs.History.{History, author, events_within}
use Rattle.reply_model.specs.Windows.{own_events, refer_places, refers_by_others}
use Rattle.reply_model.proofs.Places.{within_is_behind, none_of_reversed, none_of_filtered}
use Rattle.version_chain.specs.Traces.{own_of, met_in}

-- a Refer
abbrev pub is_refer : Event → Bool
is_refer (events.Refer c s was entry list) = true
is_refer e = false

module _ (old more : History) where
  -- the events of the window are those that were added
  pub window_is : (new : History) → new ≡ more ++ old → events_within new (length old) (length new) ≡ more
  window_is new is =
      within_is_behind new (length old)
      ∙ subst (λ h. take (length h - length old) h ≡ more) (sym is)
      (let size : length (more ++ old) - length old ≡ length more = omega (arith, length-append more old) in
      ap (λ n. take n (more ++ old)) size ∙ take-append_seam more old)

-- the client's events in the window
pub own_in_window : (client : ℕ) (old new more : History) (faulted : Bool) → new ≡ more ++ old → own_events new client (record { start = length old; stop = length new; faulted = faulted }) ≡ own_of client more
own_in_window client old new more faulted is = ap (own_of client) (window_is old more new is)

-- and the others' Refers
pub met_in_window : (client : ℕ) (symbol : Name) (old new more : History) (faulted : Bool) → new ≡ more ++ old → refers_by_others new client symbol (record { start = length old; stop = length new; faulted = faulted }) ≡ met_in client symbol more
met_in_window client symbol old new more faulted is = ap (met_in client symbol) (window_is old more new is)

-- ---- the places of own Refers

beyond : (n m : ℕ) → n < m → nat_le m n ≡ false
beyond n m less = elim (nat_le m n) as (λ b. nat_le m n ≡ b → b ≡ false) [ true ↦ λ e. absurd (omega (arith, less, leb-true m n e)) | false ↦ λ e. refl ] refl

-- there is none in the history before the window
pub no_places_before : (client start : ℕ) (h : History) → length h ≤ start → refer_places client start h ≡ []
no_places_before client start [] le = refl
no_places_before client start (events.Refer c s was entry list ∷ h) le =
    let off : (nat_eq c client && nat_le start (length h)) ≡ false = and_right_false (nat_eq c client) (beyond (length h) start (omega (arith, le))) in
    ap (λ b. cond b (refer_places client start h ++ suc (length h) ∷ []) (refer_places client start h)) off ∙ no_places_before client start h (omega (arith, le))
  where
    and_right_false : (a : Bool) {b : Bool} → b ≡ false → (a && b) ≡ false
    and_right_false true e = e
    and_right_false false e = refl
no_places_before client start (events.Put c key body ∷ h) le = no_places_before client start h (omega (arith, le))
no_places_before client start (events.Name c snap body ∷ h) le = no_places_before client start h (omega (arith, le))
no_places_before client start (events.Unname c snap ∷ h) le = no_places_before client start h (omega (arith, le))
no_places_before client start (events.Drop c key ∷ h) le = no_places_before client start h (omega (arith, le))

-- nor where no own event is a Refer
pub no_places : (client : ℕ) (old more : History) → list_any (λ e. nat_eq (author e) client && is_refer e) more ≡ false → refer_places client (length old) (more ++ old) ≡ []
no_places client old [] none = no_places_before client (length old) old (omega arith)
no_places client old (events.Refer c s was entry list ∷ more) none =
    let parts = or_parts (nat_eq c client && true) (list_any (λ e. nat_eq (author e) client && is_refer e) more) none in
    let own : nat_eq c client ≡ false = and_true (nat_eq c client) parts.0 in
    ap (λ b. cond (b && nat_le (length old) (length (more ++ old))) (refer_places client (length old) (more ++ old) ++ suc (length (more ++ old)) ∷ []) (refer_places client (length old) (more ++ old))) own ∙ no_places client old more parts.1
  where
    and_true : (a : Bool) → (a && true) ≡ false → a ≡ false
    and_true true e = e
    and_true false e = refl
no_places client old (events.Put c key body ∷ more) none = no_places client old more (or_parts (nat_eq c client && false) _ none).1
no_places client old (events.Name c snap body ∷ more) none = no_places client old more (or_parts (nat_eq c client && false) _ none).1
no_places client old (events.Unname c snap ∷ more) none = no_places client old more (or_parts (nat_eq c client && false) _ none).1
no_places client old (events.Drop c key ∷ more) none = no_places client old more (or_parts (nat_eq c client && false) _ none).1

pub no_own_refer : (client : ℕ) (more : History) (own : List Event) → own_of client more ≡ own → list_any is_refer own ≡ false → list_any (λ e. nat_eq (author e) client && is_refer e) more ≡ false
no_own_refer client more own is none =
    none_of_filtered (λ x. nat_eq (author x) client) is_refer more (none_of_reversed is_refer (filter (λ x. nat_eq (author x) client) more) (ap (list_any is_refer) is ∙ none))

-- where the newest event is an own Refer, and no other of the window is, its place is the only one
pub one_place : (client : ℕ) (old before : History) (symbol : Name) (was : Option Key) (entry : Key) (list : _) → length old ≤ length before → refer_places client (length old) before ≡ []
    → refer_places client (length old) (events.Refer client symbol was entry list ∷ before) ≡ suc (length before) ∷ []
one_place client old before symbol was entry list le none =
    let on : (nat_eq client client && nat_le (length old) (length before)) ≡ true = (λ i. eq-eqb client client refl i && le-leb (length old) (length before) le i) in
    ap (λ b. cond b (refer_places client (length old) before ++ suc (length before) ∷ []) (refer_places client (length old) before)) on ∙ ap (λ ps. ps ++ suc (length before) ∷ []) none
