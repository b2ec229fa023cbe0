-- Following all elements of a symbol from its newest one, while no client may tell a state anew: each element names the entry before it.
use Rattle.std.proofs.Common.{◌≡◌, ℕ, zero, suc, true, false, List, [], ◌∷◌, ◌++◌, refl, ap, sym, ◌∙◌, subst, Some, cond}
use Rattle.std.specs.Prelude.{slice_get}
use Rattle.std.specs.List.{AllZip, cons_option}
use Rattle.key_kind.specs.declared.key.Key.{Key}
use Rattle.key_kind.specs.Names.{Name, same_name}
use Rattle.bucket_core.specs.declared.event.Event.TheVariants as events
use Rattle.bucket_core.specs.History.{History, reference}
use Rattle.store_model.specs.declared.chain.Entry.{Entry}
use Rattle.store_model.specs.Links.{entries, element}
use Rattle.store_model.specs.PlainWalks.{chain, HasElements}
use Rattle.store_model.proofs.Plainly.{is_commit}
use Rattle.store_model.specs.Law.{IsLawful}
use Rattle.store_model.proofs.Referring.{at_symbol}

-- the newest entry is the reference
pub entries-first : (h : History) (symbol : Name) → slice_get (entries h symbol) 0 ≡ reference h symbol
entries-first [] symbol = refl
entries-first (events.Put c key body ∷ h) symbol = entries-first h symbol
entries-first (events.Refer c s was entry list ∷ h) symbol =
    elim (same_name s symbol) as (λ b. slice_get (cond b (entry ∷ entries h symbol) (entries h symbol)) 0 ≡ cond b (Some entry) (reference h symbol)) [ true ↦ refl | false ↦ entries-first h symbol ]
entries-first (events.Name c snap body ∷ h) symbol = entries-first h symbol
entries-first (events.Unname c snap ∷ h) symbol = entries-first h symbol
entries-first (events.Drop c key ∷ h) symbol = entries-first h symbol

-- each element names the entry before its own
pub chain-prev : (h : History) → IsLawful h → (symbol : Name) (i : ℕ) (e : Entry) → slice_get (chain h symbol) i ≡ Some e → e.prev ≡ slice_get (entries h symbol) (suc i)
chain-prev [] lawful symbol i e is = absurd cc
chain-prev (events.Put c key body ∷ h) lawful symbol i e is = chain-prev h lawful.1 symbol i e is
chain-prev (events.Refer c s was entry list ∷ h) lawful symbol i e is =
    at_symbol s symbol (λ b. slice_get (cond b (cons_option (element h entry) (chain h symbol)) (chain h symbol)) i ≡ Some e → e.prev ≡ slice_get (cond b (entry ∷ entries h symbol) (entries h symbol)) (suc i))
    (λ same here. newest i _ (subst (λ o. slice_get (cons_option o (chain h symbol)) i ≡ Some e) (is_commit h c s was entry list lawful.0.1).spelled here) (sym lawful.0.0 ∙ ap (reference h) same) (λ k f. chain-prev h lawful.1 symbol k e f))
    (λ older. chain-prev h lawful.1 symbol i e older) is
  where
    some_is : (a b : Entry) → Some a ≡ Some b → a ≡ b
    some_is a b e = cc

    newest : (i : ℕ) (made : Entry) → slice_get (made ∷ chain h symbol) i ≡ Some e → made.prev ≡ reference h symbol → ((k : ℕ) → slice_get (chain h symbol) k ≡ Some e → e.prev ≡ slice_get (entries h symbol) (suc k)) → e.prev ≡ slice_get (entry ∷ entries h symbol) (suc i)
    newest zero made here before older = ap (λ (x : Entry). x.prev) (sym (some_is made e here)) ∙ (before ∙ sym (entries-first h symbol))
    newest (suc i) made here before older = older i here
chain-prev (events.Name c snap body ∷ h) lawful symbol i e is = chain-prev h lawful.1 symbol i e is
chain-prev (events.Unname c snap ∷ h) lawful symbol i e is = chain-prev h lawful.1 symbol i e is
chain-prev (events.Drop c key ∷ h) lawful symbol i e is = chain-prev h lawful.1 symbol i e is

-- the element at the place of an entry
pub chain-at : (h : History) (symbol : Name) → HasElements h symbol → (i : ℕ) (key : Key) → slice_get (entries h symbol) i ≡ Some key → (e : Entry) × (slice_get (chain h symbol) i ≡ Some e) × (element h key ≡ Some e)
chain-at h symbol all i key is = by (entries h symbol) (chain h symbol) i all is
  where
    by : (keys : List Key) (es : List Entry) (i : ℕ) → AllZip (λ (k : Key) (e : Entry). element h k ≡ Some e) keys es → slice_get keys i ≡ Some key → (e : Entry) × (slice_get es i ≡ Some e) × (element h key ≡ Some e)
    by [] es i z is = absurd cc
    by (k ∷ keys) [] i z is = absurd z
    by (k ∷ keys) (e ∷ es) zero z is = let same : k ≡ key = cc in (e, refl, ap (element h) (sym same) ∙ z.0)
    by (k ∷ keys) (e ∷ es) (suc i) z is = by keys es i z.1 is
