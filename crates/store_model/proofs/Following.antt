-- Following a chain from its newest element: each element names the entry before it, and stands as it was put in every later history.
use Rattle.std.proofs.Common.{◌≡◌, ℕ, zero, suc, true, false, List, [], ◌∷◌, ◌++◌, refl, ap, sym, ◌∙◌, subst, inl, inr, Some, None, cond}
use Rattle.std.specs.Prelude.{Contains, slice_get}
use Rattle.std.specs.List.{AllZip, list_any, cons_option}
use Rattle.std.proofs.lemmas.Bool.{or_right}
use Rattle.key_kind.specs.declared.key.Key.{Key}
use Rattle.key_kind.specs.Names.{Name, same_name}
use Rattle.key_kind.specs.Keys.{IsKey, FitsFields, same_key}
use Rattle.key_kind.proofs.KeyTests.{same_key_is, same_key_self}
use Rattle.bucket_core.specs.declared.event.Event.TheVariants as events
use Rattle.bucket_core.specs.History.{History, Bytes, body_put, reference, PutsStay}
use Rattle.store_model.specs.declared.chain.Entry.{Entry}
use Rattle.store_model.specs.Links.{entries, is_entry, restates, left_behind, chain_entries, element}
use Rattle.store_model.specs.declared.chain.ChainMark.TheVariants as marks
use Rattle.store_model.specs.Commits.{marks_of}
use Rattle.store_model.proofs.Telling.{commit_restates_none}
use Rattle.store_model.specs.Walks.{chain, HasElements}
use Rattle.store_model.specs.Law.{IsLawful}
use Rattle.store_model.specs.Promises.{ChainsCanBeFollowed}
use Rattle.store_model.proofs.Lists.{contains_first, contains_later, one_passes, passes}
use Rattle.store_model.proofs.Histories.{put_stays}
use Rattle.store_model.proofs.Lawful.{lawful_is_intact}
use Rattle.store_model.proofs.Referring.{at_symbol}

-- the newest entry of the chain is the reference
pub entries-first : (h : History) (symbol : Name) → slice_get (chain_entries h symbol) 0 ≡ reference h symbol
entries-first [] symbol = refl
entries-first (events.Put c key body ∷ h) symbol = entries-first h symbol
entries-first (events.Refer c s was entry list ∷ h) symbol =
    elim (same_name s symbol) as (λ b. slice_get (cond b (entry ∷ left_behind list (chain_entries h symbol)) (chain_entries h symbol)) 0 ≡ cond b (Some entry) (reference h symbol)) [ true ↦ refl | false ↦ entries-first h symbol ]
entries-first (events.Name c snap body ∷ h) symbol = entries-first h symbol
entries-first (events.Unname c snap ∷ h) symbol = entries-first h symbol
entries-first (events.Drop c key ∷ h) symbol = entries-first h symbol

-- each element names the entry before its own; one that tells the whole state stands on none
pub chain-prev : (h : History) → IsLawful h → (symbol : Name) (i : ℕ) (e : Entry) → slice_get (chain h symbol) i ≡ Some e → e.prev ≡ slice_get (chain_entries h symbol) (suc i)
chain-prev [] lawful symbol i e is = absurd cc
chain-prev (events.Put c key body ∷ h) lawful symbol i e is = chain-prev h lawful.1 symbol i e is
chain-prev (events.Refer c s was entry list ∷ h) lawful symbol i e is =
    at_symbol s symbol (λ b. slice_get (cond b (cons_option (element h entry) (left_behind list (chain h symbol))) (chain h symbol)) i ≡ Some e
    → e.prev ≡ slice_get (cond b (entry ∷ left_behind list (chain_entries h symbol)) (chain_entries h symbol)) (suc i))
    (λ same here. elim lawful.0.1.how [
      | inl change ↦
          let whole : restates list ≡ false = commit_restates_none h c s change.row list change.fits in
          subst (λ b. e.prev ≡ slice_get (entry ∷ cond b [] (chain_entries h symbol)) (suc i)) (sym whole)
          (newest i _ (subst (λ b. slice_get (cons_option (Some (record { prev = was; changes = marks_of change.row list })) (cond b [] (chain h symbol))) i ≡ Some e) whole
          (subst (λ o. slice_get (cons_option o (left_behind list (chain h symbol))) i ≡ Some e) change.spelled here)) (sym lawful.0.0 ∙ ap (reference h) same) (λ k f. chain-prev h lawful.1 symbol k e f))
      | inr restate ↦
          subst (λ l. e.prev ≡ slice_get (entry ∷ left_behind l (chain_entries h symbol)) (suc i)) (sym restate.alone)
          (alone i _ (subst (λ l. slice_get (record { prev = None; changes = marks.Compact restate.told ∷ [] } ∷ left_behind l (chain h symbol)) i ≡ Some e) restate.alone
          (subst (λ o. slice_get (cons_option o (left_behind list (chain h symbol))) i ≡ Some e) restate.spelled here)) refl)
    ])
    (λ older. chain-prev h lawful.1 symbol i e older) is
  where
    some_is : (a b : Entry) → Some a ≡ Some b → a ≡ b
    some_is a b e = cc

    newest : (i : ℕ) (made : Entry) → slice_get (made ∷ chain h symbol) i ≡ Some e → made.prev ≡ reference h symbol → ((k : ℕ) → slice_get (chain h symbol) k ≡ Some e → e.prev ≡ slice_get (chain_entries h symbol) (suc k)) → e.prev ≡ slice_get (entry ∷ chain_entries h symbol) (suc i)
    newest zero made here before older = ap (λ (x : Entry). x.prev) (sym (some_is made e here)) ∙ (before ∙ sym (entries-first h symbol))
    newest (suc i) made here before older = older i here

    alone : (i : ℕ) (made : Entry) → slice_get (made ∷ []) i ≡ Some e → made.prev ≡ None → e.prev ≡ slice_get (entry ∷ []) (suc i)
    alone zero made here none = ap (λ (x : Entry). x.prev) (sym (some_is made e here)) ∙ none
    alone (suc i) made here none = absurd cc
chain-prev (events.Name c snap body ∷ h) lawful symbol i e is = chain-prev h lawful.1 symbol i e is
chain-prev (events.Unname c snap ∷ h) lawful symbol i e is = chain-prev h lawful.1 symbol i e is
chain-prev (events.Drop c key ∷ h) lawful symbol i e is = chain-prev h lawful.1 symbol i e is

-- so the chain of each symbol of a lawful history can be followed
pub chains_can_be_followed : ChainsCanBeFollowed
chains_can_be_followed h lawful symbol = record { newest = entries-first h symbol; before = chain-prev h lawful symbol }

-- the element at the place of an entry
pub chain-at : (h : History) (symbol : Name) → HasElements h symbol → (i : ℕ) (key : Key) → slice_get (chain_entries h symbol) i ≡ Some key → (e : Entry) × (slice_get (chain h symbol) i ≡ Some e) × (element h key ≡ Some e)
chain-at h symbol all i key is = by (chain_entries h symbol) (chain h symbol) i all is
  where
    by : (keys : List Key) (es : List Entry) (i : ℕ) → AllZip (λ (k : Key) (e : Entry). element h k ≡ Some e) keys es → slice_get keys i ≡ Some key → (e : Entry) × (slice_get es i ≡ Some e) × (element h key ≡ Some e)
    by [] es i z is = absurd cc
    by (k ∷ keys) [] i z is = absurd z
    by (k ∷ keys) (e ∷ es) zero z is = let same : k ≡ key = cc in (e, refl, ap (element h) (sym same) ∙ z.0)
    by (k ∷ keys) (e ∷ es) (suc i) z is = by keys es i z.1 is

-- what was put stays put in every later lawful history
pub puts_stay : (more h : History) → IsLawful (more ++ h) → PutsStay h (more ++ h)
puts_stay [] h lawful key body is = is
puts_stay (e ∷ more) h lawful key body is = put_stays (more ++ h) e (lawful_is_intact (e ∷ more ++ h) lawful).once key body (puts_stay more h lawful.1 key body is)

-- an entry stays one
pub entry_stays : (more h : History) (symbol : Name) (key : Key) → is_entry h symbol key ≡ true → is_entry (more ++ h) symbol key ≡ true
entry_stays [] h symbol key is = is
entry_stays (events.Put c k body ∷ more) h symbol key is = entry_stays more h symbol key is
entry_stays (events.Refer c s was entry list ∷ more) h symbol key is =
    elim (same_name s symbol) as (λ b. list_any (λ k. same_key k key) (cond b (entry ∷ entries (more ++ h) symbol) (entries (more ++ h) symbol)) ≡ true) [
      | true ↦ or_right (same_key entry key) (is_entry (more ++ h) symbol key) (entry_stays more h symbol key is)
      | false ↦ entry_stays more h symbol key is
    ]
entry_stays (events.Name c snap body ∷ more) h symbol key is = entry_stays more h symbol key is
entry_stays (events.Unname c snap ∷ more) h symbol key is = entry_stays more h symbol key is
entry_stays (events.Drop c k ∷ more) h symbol key is = entry_stays more h symbol key is

-- an entry is among the entries, and the other way round
pub entry_is_among : (h : History) (symbol : Name) (key : Key) → is_entry h symbol key ≡ true → Contains (entries h symbol) key
entry_is_among h symbol key is = let found = one_passes (λ k. same_key k key) (entries h symbol) is in subst (λ k. Contains (entries h symbol) k) (same_key_is found.0 key found.2) found.1

pub among_is_entry : (h : History) (symbol : Name) (key : Key) → Contains (entries h symbol) key → is_entry h symbol key ≡ true
among_is_entry h symbol key c = passes (λ k. same_key k key) (entries h symbol) key c (same_key_self key)

pub at_is_among : (keys : List Key) (i : ℕ) (key : Key) → slice_get keys i ≡ Some key → Contains keys key
at_is_among [] i key is = absurd cc
at_is_among (k ∷ keys) zero key is = let same : k ≡ key = cc in subst (λ x. Contains (k ∷ keys) x) same (contains_first k keys)
at_is_among (k ∷ keys) (suc i) key is = contains_later key k keys (at_is_among keys i key is)

-- a key that was put keeps the rules of keys
pub record PutKey (key : Key) : Type 0 where
  pub is_key : IsKey key
  pub fits : FitsFields key

pub put_key : (h : History) → IsLawful h → (key : Key) (body : Bytes) → body_put h key ≡ Some body → PutKey key
put_key [] lawful key body is = absurd cc
put_key (events.Put c k b ∷ h) lawful key body is =
    elim (same_key k key) as (λ t. same_key k key ≡ t → cond t (Some b) (body_put h key) ≡ Some body → PutKey key) [
      | true ↦ λ e f. subst PutKey (same_key_is k key e) (record { is_key = lawful.0.1.key_is; fits = lawful.0.1.fits })
      | false ↦ λ e f. put_key h lawful.1 key body f
    ] refl is
put_key (events.Refer c s was entry list ∷ h) lawful key body is = put_key h lawful.1 key body is
put_key (events.Name c snap b ∷ h) lawful key body is = put_key h lawful.1 key body is
put_key (events.Unname c snap ∷ h) lawful key body is = put_key h lawful.1 key body is
put_key (events.Drop c k ∷ h) lawful key body is = put_key h lawful.1 key body is
