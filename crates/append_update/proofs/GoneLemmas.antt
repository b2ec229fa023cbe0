-- A version that is buried since a place was buried by a Refer of its symbol, whose place is told by what stands under the reference.
use Rattle.std.proofs.Common.{◌≡◌, ℕ, suc, Bool, true, false, ◌||◌, ◌&&◌, List, [], ◌∷◌, ◌++◌, length, cond, refl, sym, ap, ◌∙◌, inl, inr, nat_eq}
use Rattle.std.specs.List.{list_any}
use Rattle.std.proofs.lemmas.Bool.{true≢false, or_parts}
use Rattle.key_kind.specs.declared.key.KeyKind.{KeyKind}
use Rattle.key_kind.specs.declared.key.KeyKind.TheVariants as kinds
use Rattle.key_kind.specs.declared.key.Key.{Key}
use Rattle.key_kind.specs.Names.{Name, same_name}
use Rattle.key_kind.specs.Keys.{is_put, same_key, same_kind, reference_key}
use Rattle.key_kind.proofs.KeyTests.{same_key_is}
use Rattle.bucket_core.specs.declared.event.Event.TheVariants as events
use Rattle.bucket_core.specs.History.{History, since, referred_at}
use Rattle.bucket_core.specs.Laws.{refers}
use Rattle.store_model.specs.Library.{state_of, is_buried, after_changes}
use Rattle.store_model.specs.Law.{IsLawful, IsDead}
use Rattle.store_model.specs.Intact.{IsIntact, IsTableKey}
use Rattle.store_model.proofs.Dropping.{reached_is_table}
use Rattle.store_model.proofs.Putting.{spelled_is_put}
use Rattle.store_model.proofs.Lawful.{lawful_is_intact}
use Rattle.store_model.proofs.Stability.{is_false}
use Rattle.store_model.proofs.Plainly.{none_retold}

-- ---- keys that clients put are no references

no_reference : (key : Key) (symbol : Name) → is_put key.kind ≡ true → same_key key (reference_key symbol) ≡ false
no_reference key symbol kind = is_false _ (λ e. true≢false (sym kind ∙ ap (λ (k : Key). is_put k.kind) (same_key_is key (reference_key symbol) e)))

table_is_put : (symbol : Name) (key : Key) → IsTableKey symbol key → is_put key.kind ≡ true
table_is_put symbol key t = elim t.kind [ inl d ↦ ap is_put d | inr d ↦ ap is_put d ]

own_is_put : (kind : KeyKind) → (same_kind kind kinds.TableData || same_kind kind kinds.TableIndex || same_kind kind kinds.Version) ≡ true → is_put kind ≡ true
own_is_put kinds.TableData e = refl
own_is_put kinds.TableIndex e = refl
own_is_put kinds.Version e = refl
own_is_put kinds.VersionRef e = absurd (true≢false (sym e))
own_is_put kinds.Snapshot e = absurd (true≢false (sym e))
own_is_put kinds.Staged e = refl

dead_is_put : (h : History) (key : Key) (client : ℕ) → IsIntact h → IsDead h key client → is_put key.kind ≡ true
dead_is_put h key client i dead = elim dead [
  | inl u ↦ table_is_put key.name key (reached_is_table h key i u.once)
  | inr (inl p) ↦ ap is_put p.staged
  | inr (inr (inl o)) ↦ own_is_put key.kind o.table
  | inr (inr (inr r)) ↦ absurd (none_retold h key r)
]

same_reference : (t s : Name) → same_key (reference_key t) (reference_key s) ≡ same_name t s
same_reference t s = elim (same_name t s) as (λ b. (b && true && true && true && true && true) ≡ b) [ true ↦ refl | false ↦ refl ]

-- what stands under the reference was set by the newest Refer
pub since_referred : (h : History) → IsLawful h → (symbol : Name) → since h (reference_key symbol) ≡ referred_at h symbol
since_referred [] lawful symbol = refl
since_referred (events.Put c key body ∷ h) lawful symbol =
    ap (λ b. cond b (suc (length h)) (since h (reference_key symbol))) (no_reference key symbol (spelled_is_put key key.kind body lawful.0.1.spelled)) ∙ since_referred h lawful.1 symbol
since_referred (events.Refer c t was entry list ∷ h) lawful symbol =
    ap (λ b. cond b (suc (length h)) (since h (reference_key symbol))) (same_reference t symbol)
    ∙ ap (λ n. cond (same_name t symbol) (suc (length h)) n) (since_referred h lawful.1 symbol)
since_referred (events.Name c snap body ∷ h) lawful symbol = since_referred h lawful.1 symbol
since_referred (events.Unname c snap ∷ h) lawful symbol = since_referred h lawful.1 symbol
since_referred (events.Drop c key ∷ h) lawful symbol =
    ap (λ b. cond b 0 (since h (reference_key symbol))) (no_reference key symbol (dead_is_put h key c (lawful_is_intact h lawful.1) lawful.0.1)) ∙ since_referred h lawful.1 symbol

-- ---- without a Refer nothing is buried

buried_same : (more h : History) (symbol : Name) → list_any (refers symbol) more ≡ false → (state_of (more ++ h) symbol).buried ≡ (state_of h symbol).buried
buried_same [] h symbol none = refl
buried_same (events.Put c key body ∷ more) h symbol none = buried_same more h symbol (or_parts false (list_any (refers symbol) more) none).1
buried_same (events.Refer c s was entry list ∷ more) h symbol none =
    let parts = or_parts (same_name s symbol) (list_any (refers symbol) more) none in
    ap (λ b. (cond b (after_changes (state_of (more ++ h) symbol) list) (state_of (more ++ h) symbol)).buried) parts.0 ∙ buried_same more h symbol parts.1
buried_same (events.Name c snap body ∷ more) h symbol none = buried_same more h symbol (or_parts false (list_any (refers symbol) more) none).1
buried_same (events.Unname c snap ∷ more) h symbol none = buried_same more h symbol (or_parts false (list_any (refers symbol) more) none).1
buried_same (events.Drop c key ∷ more) h symbol none = buried_same more h symbol (or_parts false (list_any (refers symbol) more) none).1

-- so a version that is buried since was buried by one
pub referred_since : (more h : History) (symbol : Name) (number : ℕ) → is_buried (state_of h symbol) number ≡ false → is_buried (state_of (more ++ h) symbol) number ≡ true → list_any (refers symbol) more ≡ true
referred_since more h symbol number live buried = by (list_any (refers symbol) more) refl
  where
    by : (b : Bool) → list_any (refers symbol) more ≡ b → list_any (refers symbol) more ≡ true
    by true e = e
    by false e = absurd (true≢false (sym buried ∙ (ap (λ (tombs : List ℕ). list_any (λ n. nat_eq number n) tombs) (buried_same more h symbol e) ∙ live)))
