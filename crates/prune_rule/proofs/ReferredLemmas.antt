-- The place of the event that set a reference is that of the symbol's newest Refer.
use Rattle.std.proofs.Common.{◌≡◌, ℕ, suc, true, false, ◌||◌, ◌&&◌, [], ◌∷◌, refl, ap, sym, ◌∙◌, subst, inl, inr, cond, length}
use Rattle.std.proofs.lemmas.Bool.{true≢false}
use denote.Struct.Props.{props}
use mathlib.Core.Logic.{∥∥₁_elim}
use Rattle.key_kind.specs.declared.key.KeyKind.{KeyKind}
use Rattle.key_kind.specs.declared.key.KeyKind.TheVariants as kinds
use Rattle.key_kind.specs.declared.key.Key.{Key}
use Rattle.key_kind.specs.Names.{Name, same_name}
use Rattle.key_kind.specs.Keys.{is_put, same_key, same_kind, reference_key}
use Rattle.key_kind.proofs.KeyTests.{same_key_is}
use Rattle.bucket_core.specs.declared.event.Event.TheVariants as events
use Rattle.bucket_core.specs.History.{History, since, referred_at}
use Rattle.store_model.specs.Law.{IsLawful, IsDead}
use Rattle.store_model.specs.Intact.{IsIntact}
use Rattle.store_model.proofs.Dropping.{reached_is_table}
use Rattle.store_model.proofs.Putting.{spelled_is_put}
use Rattle.store_model.proofs.Lawful.{lawful_is_intact}
use Rattle.store_model.proofs.Stability.{is_false}
use Rattle.store_model.proofs.Plainly.{none_retold}
use Rattle.prune_rule.proofs.DeadLemmas.{table_is_put}

no_reference : (key : Key) (symbol : Name) → is_put key.kind ≡ true → same_key key (reference_key symbol) ≡ false
no_reference key symbol kind = is_false _ (λ e. true≢false (sym kind ∙ ap (λ (k : Key). is_put k.kind) (same_key_is key (reference_key symbol) e)))

own_is_put : (kind : KeyKind) → (same_kind kind kinds.TableData || same_kind kind kinds.TableIndex || same_kind kind kinds.Version) ≡ true → is_put kind ≡ true
own_is_put kinds.TableData e = refl
own_is_put kinds.TableIndex e = refl
own_is_put kinds.Version e = refl
own_is_put kinds.VersionRef e = absurd (true≢false (sym e))
own_is_put kinds.Snapshot e = absurd (true≢false (sym e))
own_is_put kinds.Staged e = refl

dead_is_put : (h : History) (key : Key) (client : ℕ) → IsIntact h → IsDead h key client → is_put key.kind ≡ true
dead_is_put h key client i dead = elim dead [
  | inl u ↦ table_is_put key.name key (reached_is_table h key i u.once)
  | inr (inl p) ↦ ap is_put p.staged
  | inr (inr (inl o)) ↦ own_is_put key.kind o.table
  | inr (inr (inr r)) ↦ absurd (none_retold h key r)
]

same_reference : (t s : Name) → same_key (reference_key t) (reference_key s) ≡ same_name t s
same_reference t s = elim (same_name t s) as (λ b. (b && true && true && true && true && true) ≡ b) [ true ↦ refl | false ↦ refl ]

since_reference : (h : History) → IsLawful h → (symbol : Name) → since h (reference_key symbol) ≡ referred_at h symbol
since_reference [] lawful symbol = refl
since_reference (events.Put c key body ∷ h) lawful symbol =
    subst (λ b. cond b (suc (length h)) (since h (reference_key symbol)) ≡ referred_at h symbol)
    (sym (no_reference key symbol (spelled_is_put key key.kind body lawful.0.1.spelled))) (since_reference h lawful.1 symbol)
since_reference (events.Refer c t was entry list ∷ h) lawful symbol =
    subst (λ b. cond b (suc (length h)) (since h (reference_key symbol)) ≡ cond (same_name t symbol) (suc (length h)) (referred_at h symbol)) (sym (same_reference t symbol))
    (elim (same_name t symbol) as (λ b. cond b (suc (length h)) (since h (reference_key symbol)) ≡ cond b (suc (length h)) (referred_at h symbol)) [
      | true ↦ refl
      | false ↦ since_reference h lawful.1 symbol
    ])
since_reference (events.Name c snap body ∷ h) lawful symbol = since_reference h lawful.1 symbol
since_reference (events.Unname c snap ∷ h) lawful symbol = since_reference h lawful.1 symbol
since_reference (events.Drop c key ∷ h) lawful symbol =
    subst (λ b. cond b 0 (since h (reference_key symbol)) ≡ referred_at h symbol)
    (sym (no_reference key symbol (dead_is_put h key c (lawful_is_intact h lawful.1) lawful.0.1))) (since_reference h lawful.1 symbol)

pub since_told : (h : History) (symbol : Name) → ∥ IsLawful h ∥₁ → since h (reference_key symbol) ≡ referred_at h symbol
since_told h symbol lawful = ∥∥₁_elim lawful (hlevel props) (λ l. since_reference h l symbol)
