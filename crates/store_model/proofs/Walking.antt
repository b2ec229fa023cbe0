-- A walk along the elements of a lawful history's chain gives the symbol's state.
use Rattle.std.proofs.Common.{◌≡◌, true, false, List, [], ◌∷◌, sym, subst, Some, cond}
use Rattle.std.specs.List.{AllZip, cons_option}
use Rattle.key_kind.specs.declared.key.Key.{Key}
use Rattle.key_kind.specs.Names.{Name, same_name}
use Rattle.bucket_core.specs.declared.event.Event.TheVariants as events
use Rattle.bucket_core.specs.History.{History, PutsStay}
use Rattle.store_model.proofs.Histories.{put_stays}
use Rattle.store_model.specs.declared.chain.Entry.{Entry}
use Rattle.store_model.specs.Links.{restates, left_behind, chain_entries, element}
use Rattle.store_model.specs.Law.{IsLawful}
use Rattle.store_model.specs.Walks.{chain, HasElements, LawfulWalks}
use Rattle.store_model.proofs.AsPut.{element_stays}
use Rattle.store_model.proofs.Telling.{element_there}
use Rattle.store_model.proofs.Lawful.{lawful_is_intact}

-- ---- the elements are still under their entries

elements_later : (h later : History) → PutsStay h later → (keys : List Key) (es : List Entry) → AllZip (λ key e. element h key ≡ Some e) keys es → AllZip (λ key e. element later key ≡ Some e) keys es
elements_later h later stay [] [] z = tt
elements_later h later stay (k ∷ keys) (e ∷ es) z = (element_stays h later stay k e z.0, elements_later h later stay keys es z.1)
elements_later h later stay [] (e ∷ es) z = absurd z
elements_later h later stay (k ∷ keys) [] z = absurd z

pub has_elements : (h : History) → IsLawful h → (symbol : Name) → HasElements h symbol
has_elements [] lawful symbol = tt
has_elements (events.Put c key body ∷ h) lawful symbol =
    elements_later h (events.Put c key body ∷ h) (put_stays h (events.Put c key body) (lawful_is_intact (events.Put c key body ∷ h) lawful).once) (chain_entries h symbol) (chain h symbol) (has_elements h lawful.1 symbol)
has_elements (events.Refer c t was entry list ∷ h) lawful symbol =
    let there = element_there h c t was entry list lawful.0.1 in
    let old = has_elements h lawful.1 symbol in
    elim (same_name t symbol) as (λ b. AllZip (λ key e. element h key ≡ Some e) (cond b (entry ∷ left_behind list (chain_entries h symbol)) (chain_entries h symbol)) (cond b (cons_option (element h entry) (left_behind list (chain h symbol))) (chain h symbol))) [
      | true ↦ subst (λ o. AllZip (λ key e. element h key ≡ Some e) (entry ∷ left_behind list (chain_entries h symbol)) (cons_option o (left_behind list (chain h symbol)))) (sym there.1)
          (there.1, elim (restates list) as (λ b. AllZip (λ key e. element h key ≡ Some e) (cond b [] (chain_entries h symbol)) (cond b [] (chain h symbol))) [ true ↦ tt | false ↦ old ])
      | false ↦ old
    ]
has_elements (events.Name c snap body ∷ h) lawful symbol = has_elements h lawful.1 symbol
has_elements (events.Unname c snap ∷ h) lawful symbol = has_elements h lawful.1 symbol
has_elements (events.Drop c key ∷ h) lawful symbol = has_elements h lawful.1 symbol

pub lawful_walks : LawfulWalks
lawful_walks h lawful symbol = (has_elements h lawful symbol, (lawful_is_intact h lawful).chain symbol)
