-- A second look at a held symbol shows that the held version was its base all the time.
use Rattle.std.proofs.Common.{◌≡◌, ℕ, suc, ◌+◌, ◌≤◌, Bool, true, false, not, List, [], ◌∷◌, ◌++◌, refl, ap, sym, ◌∙◌, subst, Some, cond, nat_eq, arith}
use Rattle.std.specs.Prelude.{fold, filter, length, option_map}
use Rattle.std.specs.List.{cons_option}
use Rattle.std.proofs.lemmas.Bool.{true≢false, and_parts, or_right}
use Rattle.std.proofs.lemmas.List.Folds.{list_any-append}
use Rattle.key_kind.specs.Names.{Name, same_name}
use Rattle.bucket_core.specs.declared.event.Change.{Change}
use Rattle.bucket_core.specs.declared.event.Change.TheVariants as changes
use Rattle.bucket_core.specs.declared.event.Event.{Event}
use Rattle.bucket_core.specs.declared.event.Event.TheVariants as events
use Rattle.bucket_core.specs.History.{History}
use Rattle.store_model.specs.Library.{State, Version, state_of, number_after, next_number, first_of, is_buried, is_linked, new_version, after_change, after_changes}
use Rattle.store_model.specs.Settled.{LooksSettle}
use Rattle.store_model.proofs.Numbering.{AreNumbered, versions_numbered}

-- the later state has the versions of the earlier one, with newer ones in front, and what was buried is
record GrowsTo (before after : State) : Type 0 where
  newer : List Version
  versions : after.versions ≡ newer ++ before.versions
  buried : (n : ℕ) → is_buried before n ≡ true → is_buried after n ≡ true

grows_self : (st : State) → GrowsTo st st
grows_self st = record { newer = []; versions = refl; buried = λ n e. e }

append_thrice : {X : Type 0} (xs ys zs : List X) → xs ++ (ys ++ zs) ≡ (xs ++ ys) ++ zs
append_thrice [] ys zs = refl
append_thrice (x ∷ xs) ys zs = ap (λ l. x ∷ l) (append_thrice xs ys zs)

grows_then : (a b c : State) → GrowsTo a b → GrowsTo b c → GrowsTo a c
grows_then a b c f g = record {
  newer = g.newer ++ f.newer;
  versions = g.versions ∙ (ap (λ vs. g.newer ++ vs) f.versions ∙ append_thrice g.newer f.newer a.versions);
  buried = λ n e. g.buried n (f.buried n e);
}

change_grows : (st : State) (c : Change) → GrowsTo st (after_change st c)
change_grows st (changes.Removed versions) = record { newer = []; versions = refl; buried = λ n e. list_any-append (nat_eq n) versions st.buried ∙ or_right _ _ e }
change_grows st (changes.Wrote frame at) = record { newer = cons_option (new_version st (changes.Wrote frame at)) []; versions = refl; buried = λ n e. e }
change_grows st (changes.Appended frame at) = record { newer = cons_option (new_version st (changes.Appended frame at)) []; versions = refl; buried = λ n e. e }
change_grows st (changes.Updated frame range at) = record { newer = cons_option (new_version st (changes.Updated frame range at)) []; versions = refl; buried = λ n e. e }
change_grows st (changes.Held holder version) = record { newer = []; versions = refl; buried = λ n e. e }
change_grows st (changes.Released holder) = record { newer = []; versions = refl; buried = λ n e. e }
change_grows st (changes.Discarded pieces) = record { newer = []; versions = refl; buried = λ n e. e }
change_grows st changes.Restated = record { newer = []; versions = refl; buried = λ n e. e }

changes_grow : (list : List Change) (st : State) → GrowsTo st (fold after_change st list)
changes_grow [] st = grows_self st
changes_grow (c ∷ list) st = grows_then st (after_change st c) (fold after_change (after_change st c) list) (change_grows st c) (changes_grow list (after_change st c))

event_grows : (h : History) (symbol : Name) (e : Event) → GrowsTo (state_of h symbol) (state_of (e ∷ h) symbol)
event_grows h symbol (events.Refer c s was entry list) =
    elim (same_name s symbol) as (λ t. GrowsTo (state_of h symbol) (cond t (after_changes (state_of h symbol) list) (state_of h symbol))) [
      | true ↦ let g = changes_grow list (state_of h symbol) in record { newer = g.newer; versions = g.versions; buried = g.buried }
      | false ↦ grows_self (state_of h symbol)
    ]
event_grows h symbol (events.Put c key body) = record { newer = []; versions = refl; buried = λ n e. e }
event_grows h symbol (events.Name c snap body) = grows_self (state_of h symbol)
event_grows h symbol (events.Unname c snap) = grows_self (state_of h symbol)
event_grows h symbol (events.Drop c key) = grows_self (state_of h symbol)

history_grows : (more h : History) (symbol : Name) → GrowsTo (state_of h symbol) (state_of (more ++ h) symbol)
history_grows [] h symbol = grows_self (state_of h symbol)
history_grows (e ∷ more) h symbol = grows_then (state_of h symbol) (state_of (more ++ h) symbol) (state_of (e ∷ (more ++ h)) symbol) (history_grows more h symbol) (event_grows (more ++ h) symbol e)

-- each newer version raises the next number
number_rises : (newer older : List Version) → AreNumbered (newer ++ older) → number_after (newer ++ older) ≡ length newer + number_after older
number_rises [] older n = omega arith
number_rises (v ∷ newer) older n =
    let rest : number_after (newer ++ older) ≡ length newer + number_after older = number_rises newer older n.1 in
    let here : v.number ≡ number_after (newer ++ older) = n.0 in
    omega (arith, rest, here)

-- so where the next number is the same, no version is newer
none_newer : (before after : State) (g : GrowsTo before after) → AreNumbered after.versions → next_number after ≡ next_number before → after.versions ≡ before.versions
none_newer before after g numbered same = by g.newer g.versions
  where
    by : (newer : List Version) → after.versions ≡ newer ++ before.versions → after.versions ≡ before.versions
    by [] e = e
    by (v ∷ newer) e =
        let rises : number_after (v ∷ (newer ++ before.versions)) ≡ suc (length newer) + number_after before.versions = number_rises (v ∷ newer) before.versions (subst AreNumbered e numbered) in
        let is : next_number after ≡ number_after (v ∷ (newer ++ before.versions)) = ap number_after e in
        absurd (omega (arith, same, rises, is))

-- the next number never falls
never_falls : (before after : State) (g : GrowsTo before after) → AreNumbered after.versions → next_number before ≤ next_number after
never_falls before after g numbered =
    let rises : number_after (g.newer ++ before.versions) ≡ length g.newer + number_after before.versions = number_rises g.newer before.versions (subst AreNumbered g.versions numbered) in
    let is : next_number after ≡ number_after (g.newer ++ before.versions) = ap number_after g.versions in
    omega (arith, rises, is)

-- the first that passes a test passes a stronger one that it passes, and is the first there too
first_stays : (p q : Version → Bool) (n : ℕ) → ((v : Version) → p v ≡ false → q v ≡ false) → ((v : Version) → v.number ≡ n → q v ≡ true) → (vs : List Version)
    → option_map (λ (v : Version). v.number) (first_of (filter p vs)) ≡ Some n → option_map (λ (v : Version). v.number) (first_of (filter q vs)) ≡ Some n
first_stays p q n weaker passes [] e = e
first_stays p q n weaker passes (v ∷ vs) e =
    elim (p v) as (λ b. p v ≡ b → option_map (λ (v : Version). v.number) (first_of (cond b (v ∷ filter p vs) (filter p vs))) ≡ Some n
    → option_map (λ (v : Version). v.number) (first_of (cond (q v) (v ∷ filter q vs) (filter q vs))) ≡ Some n) [
      | true ↦ λ f g. subst (λ b. option_map (λ (v : Version). v.number) (first_of (cond b (v ∷ filter q vs) (filter q vs))) ≡ Some n) (sym (passes v (some_is v.number n g))) g
      | false ↦ λ f g. subst (λ b. option_map (λ (v : Version). v.number) (first_of (cond b (v ∷ filter q vs) (filter q vs))) ≡ Some n) (sym (weaker v f)) (first_stays p q n weaker passes vs g)
    ] refl e
  where
    some_is : (a b : ℕ) → Some a ≡ Some b → a ≡ b
    some_is a b e = cc

buried_not : (before after : State) (g : GrowsTo before after) (v : Version) → not (is_buried before v.number) ≡ false → not (is_buried after v.number) ≡ false
buried_not before after g v e = ap not (g.buried v.number (turned (is_buried before v.number) e))
  where
    turned : (b : Bool) → not b ≡ false → b ≡ true
    turned true e = refl
    turned false e = absurd (true≢false e)

pub looks_settle : LooksSettle
looks_settle h more later symbol held base same live =
    let st : State = state_of h symbol in
    let mid : State = state_of (more ++ h) symbol in
    let end : State = state_of (later ++ (more ++ h)) symbol in
    let g1 = history_grows more h symbol in
    let g2 = history_grows later (more ++ h) symbol in
    let low = never_falls st mid g1 (versions_numbered (more ++ h) symbol) in
    let high = never_falls mid end g2 (versions_numbered (later ++ (more ++ h)) symbol) in
    let between : next_number mid ≡ next_number st = omega (arith, low, high, same) in
    let versions : mid.versions ≡ st.versions = none_newer st mid g1 (versions_numbered (more ++ h) symbol) between in
    let alive : not (is_buried end held) ≡ true = (and_parts (is_linked end held) (not (is_buried end held)) live).1 in
    subst (λ vs. option_map (λ (v : Version). v.number) (first_of (filter (λ v. not (is_buried mid v.number)) vs)) ≡ Some held) (sym versions)
    (first_stays (λ v. not (is_buried st v.number)) (λ v. not (is_buried mid v.number)) held (λ v e. buried_not st mid g1 v e)
    (λ v e. subst (λ n. not (is_buried mid n) ≡ true) (sym e) (unburied (is_buried mid held) (is_buried end held) (g2.buried held) alive)) st.versions base)
  where
    unburied : (a b : Bool) → (a ≡ true → b ≡ true) → not b ≡ true → not a ≡ true
    unburied false b f e = refl
    unburied true b f e = absurd (true≢false (sym e ∙ ap not (f refl)))
