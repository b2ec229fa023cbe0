-- Each hold that a refused snapshot made is released again, or is named as left.
use Rattle.std.proofs.Common.{◌≡◌, true, false, List, [], ◌∷◌, refl, sym, ◌∙◌, ap, subst, inl, inr, cond}
use Rattle.std.specs.Prelude.{◌⊎◌}
use Rattle.std.specs.List.{list_any}
use Rattle.std.proofs.lemmas.Bool.{true≢false, or_cases, or_left, or_right, and_parts}
use Rattle.key_kind.specs.declared.key.Holder.{Holder}
use Rattle.key_kind.specs.Names.{Name, same_name}
use Rattle.key_kind.specs.Keys.{same_holder}
use Rattle.key_kind.proofs.KeyTests.{same_name_is, same_holder_is}
use Rattle.store_model.proofs.Listing.{same_name_sym}
use Rattle.bucket_core.specs.declared.event.Change.TheVariants as changes
use Rattle.bucket_core.specs.declared.event.Event.{Event}
use Rattle.bucket_core.specs.declared.event.Event.TheVariants as events
use Rattle.reply_model.specs.Windows.{own_events, is_refused}
use Rattle.reply_model.specs.Left.{releases, held_in}
use Rattle.reply_model.specs.Runs.{holds, RefusedReleases}

-- one event more leaves at least what was left
left_later : (all es : List Event) (e : Event) (symbol : Name) → list_any (same_name symbol) (held_in all es) ≡ true → list_any (same_name symbol) (held_in all (e ∷ es)) ≡ true
left_later all es (events.Refer client s was entry (changes.Held holder version ∷ [])) symbol left =
    elim (list_any (releases s holder) all) as (λ b. list_any (same_name symbol) (cond b (held_in all es) (s ∷ held_in all es)) ≡ true) [
      | true ↦ left
      | false ↦ or_right (same_name symbol s) (list_any (same_name symbol) (held_in all es)) left
    ]
left_later all es e symbol left = left

-- a hold is released among all events, or its symbol is left
hold_left : (all es : List Event) (e : Event) (symbol : Name) (holder : Holder) → holds symbol holder e ≡ true → (list_any (releases symbol holder) all ≡ true) ⊎ (list_any (same_name symbol) (held_in all (e ∷ es)) ≡ true)
hold_left all es (events.Refer client s was entry (changes.Held other version ∷ [])) symbol holder is =
    let both = and_parts (same_name s symbol) (same_holder other holder) is in
    elim (list_any (releases s other) all) as (λ b. list_any (releases s other) all ≡ b → (list_any (releases symbol holder) all ≡ true) ⊎ (list_any (same_name symbol) (cond b (held_in all es) (s ∷ held_in all es)) ≡ true)) [
      | true ↦ λ e. inl (subst (λ x. list_any (releases symbol x) all ≡ true) (same_holder_is other holder both.1) (subst (λ n. list_any (releases n other) all ≡ true) (same_name_is s symbol both.0) e))
      | false ↦ λ e. inr (or_left (same_name symbol s) (list_any (same_name symbol) (held_in all es)) (same_name_sym symbol s ∙ both.0))
    ] refl
hold_left all es e symbol holder is = absurd (true≢false (sym is))

held_or_released : (all es : List Event) (symbol : Name) (holder : Holder) → list_any (holds symbol holder) es ≡ true → (list_any (releases symbol holder) all ≡ true) ⊎ (list_any (same_name symbol) (held_in all es) ≡ true)
held_or_released all [] symbol holder is = absurd (true≢false (sym is))
held_or_released all (e ∷ es) symbol holder is = elim (or_cases (holds symbol holder e) (list_any (holds symbol holder) es) is) [
  | inl first ↦ hold_left all es e symbol holder first
  | inr later ↦ elim (held_or_released all es symbol holder later) [ inl freed ↦ inl freed | inr left ↦ inr (left_later all es e symbol left) ]
]

pub refused_releases : RefusedReleases
refused_releases h s snap picks reply w left refused known symbol holder is =
    let own = own_events h s.client w in
    let names : reply.left ≡ held_in own own =
    subst (λ b. reply.left ≡ cond b (held_in own own) []) refused
    (subst (λ b. reply.left ≡ cond (is_refused reply.outcome)
    (held_in (own_events h s.client (record w { stop = cond b reply.place w.stop })) (own_events h s.client (record w { stop = cond b reply.place w.stop }))) []) known left.left) in
    elim (held_or_released own own symbol holder is) [ inl freed ↦ inl freed | inr kept ↦ inr (ap (list_any (same_name symbol)) names ∙ kept) ]
