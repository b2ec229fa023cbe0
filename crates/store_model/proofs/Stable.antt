-- The law is stable: claims stay, and the store's tests tell that an event is untouched.
use Rattle.std.proofs.Common.{◌≡◌, true, false, ◌||◌, [], ◌∷◌, ◌++◌, refl, sym, ◌∙◌, subst, Some, cond}
use Rattle.std.specs.List.{list_any}
use Rattle.std.proofs.lemmas.Bool.{true≢false, or_parts, or_left, or_from}
use Rattle.key_kind.specs.declared.key.Key.{Key}
use Rattle.key_kind.specs.Names.{Name, same_name}
use Rattle.key_kind.specs.Keys.{same_key}
use Rattle.key_kind.proofs.KeyTests.{same_name_is, same_key_self}
use Rattle.bucket_core.specs.declared.event.Event.{Event}
use Rattle.bucket_core.specs.declared.event.Event.TheVariants as events
use Rattle.bucket_core.specs.History.{History, author, reference, PutOnce}
use Rattle.store_model.specs.Links.{entries, is_entry}
use Rattle.store_model.specs.Commits.{MayRefer}
use Rattle.store_model.specs.Law.{IsLawful, IsClaimed}
use Rattle.bucket_core.specs.Laws.{IsUntouched, refers, ClaimsStay, TestsTell}
use Rattle.store_model.specs.Intact.{IsIntact}
use Rattle.store_model.proofs.Lawful.{lawful_is_intact}
use Rattle.store_model.proofs.Stability.{is_false, put_claim_stays, name_claim_stays, dead_stays}
use Rattle.store_model.proofs.StableRefer.{refer_claim_stays}

-- one event of another
one_more : (h : History) (x e : Event) → IsClaimed h x → IsIntact h → PutOnce (x ∷ h) → (author x ≡ author e → ⊥) → IsUntouched e (x ∷ []) → IsClaimed h e → IsClaimed (x ∷ h) e
one_more h x (events.Put c key body) claim i once apart other may = put_claim_stays h x c key body apart may
one_more h x (events.Refer c s was entry list) claim i once apart other may =
    refer_claim_stays h x c s claim i once apart (or_parts _ _ other).0 was entry list may
one_more h x (events.Name c snap body) claim i once apart other may = name_claim_stays h x c body claim apart may
one_more h x (events.Unname c snap) claim i once apart other may = tt
one_more h x (events.Drop c key) claim i once apart other may = dead_stays h x key c claim i apart may

untouched_first : (e x : Event) (more : History) → IsUntouched e (x ∷ more) → IsUntouched e (x ∷ []) × IsUntouched e more
untouched_first (events.Refer c s was entry list) x more u = let r = or_parts _ _ u in (or_from _ _ r.0 refl, r.1)
untouched_first (events.Put c key body) x more u = (tt, tt)
untouched_first (events.Name c snap body) x more u = (tt, tt)
untouched_first (events.Unname c snap) x more u = (tt, tt)
untouched_first (events.Drop c key) x more u = (tt, tt)

pub claims_stay : ClaimsStay IsClaimed
claims_stay h [] e lawful others untouched claim = claim
claims_stay h (x ∷ more) e lawful others untouched claim =
    let u = untouched_first e x more untouched in
    one_more (more ++ h) x e lawful.0.1 (lawful_is_intact (more ++ h) lawful.1) (lawful_is_intact (x ∷ (more ++ h)) lawful).once others.0 u.0
    (claims_stay h more e lawful.1 others.1 u.1 claim)

-- ---- what the reference tells

-- the reference is an entry
reference_is_entry : (h : History) (s : Name) (entry : Key) → reference h s ≡ Some entry → is_entry h s entry ≡ true
reference_is_entry [] s entry e = absurd cc
reference_is_entry (events.Refer c t was k list ∷ h) s entry e =
    elim (same_name t s) as (λ b. cond b (Some k) (reference h s) ≡ Some entry → list_any (λ x. same_key x entry) (cond b (k ∷ entries h s) (entries h s)) ≡ true) [
      | true ↦ λ f. or_left _ _ (subst (λ x. same_key x entry ≡ true) (sym (same_some k entry f)) (same_key_self entry))
      | false ↦ λ f. reference_is_entry h s entry f
    ] e
  where
    same_some : (a b : Key) → Some a ≡ Some b → a ≡ b
    same_some a b e = cc
reference_is_entry (events.Put c key body ∷ h) s entry e = reference_is_entry h s entry e
reference_is_entry (events.Name c snap body ∷ h) s entry e = reference_is_entry h s entry e
reference_is_entry (events.Unname c snap ∷ h) s entry e = reference_is_entry h s entry e
reference_is_entry (events.Drop c key ∷ h) s entry e = reference_is_entry h s entry e

-- an entry is one in each longer history
entry_later : (h more : History) (s : Name) (entry : Key) → is_entry (more ++ h) s entry ≡ false → is_entry h s entry ≡ false
entry_later h [] s entry e = e
entry_later h (events.Refer c t was k list ∷ more) s entry e =
    elim (same_name t s) as (λ b. list_any (λ x. same_key x entry) (cond b (k ∷ entries (more ++ h) s) (entries (more ++ h) s)) ≡ false → is_entry h s entry ≡ false) [
      | true ↦ λ f. entry_later h more s entry (or_parts _ _ f).1
      | false ↦ λ f. entry_later h more s entry f
    ] e
entry_later h (events.Put c key body ∷ more) s entry e = entry_later h more s entry e
entry_later h (events.Name c snap body ∷ more) s entry e = entry_later h more s entry e
entry_later h (events.Unname c snap ∷ more) s entry e = entry_later h more s entry e
entry_later h (events.Drop c key ∷ more) s entry e = entry_later h more s entry e

-- where a Refer of the symbol was added, the reference is an entry that was none before
new_reference : (h more : History) (s : Name) → IsLawful (more ++ h) → list_any (refers s) more ≡ true → (entry : Key) × (reference (more ++ h) s ≡ Some entry) × (is_entry h s entry ≡ false)
new_reference h [] s lawful e = absurd (true≢false (sym e))
new_reference h (events.Refer c t was k list ∷ more) s lawful e =
    elim (same_name t s) as (λ b. same_name t s ≡ b → (b || list_any (refers s) more) ≡ true
    → (entry : Key) × (cond b (Some k) (reference (more ++ h) s) ≡ Some entry) × (is_entry h s entry ≡ false)) [
      | true ↦ λ n f.
          let may : MayRefer (more ++ h) c t was k list = lawful.0.1 in
          (k, refl, entry_later h more s k (subst (λ m. is_entry (more ++ h) m k ≡ false) (same_name_is t s n) may.fresh))
      | false ↦ λ n f. new_reference h more s lawful.1 f
    ] refl e
new_reference h (events.Put c key body ∷ more) s lawful e = new_reference h more s lawful.1 e
new_reference h (events.Name c snap body ∷ more) s lawful e = new_reference h more s lawful.1 e
new_reference h (events.Unname c snap ∷ more) s lawful e = new_reference h more s lawful.1 e
new_reference h (events.Drop c key ∷ more) s lawful e = new_reference h more s lawful.1 e

pub tests_tell : TestsTell IsClaimed
tests_tell h more (events.Refer c s was entry list) lawful before after = is_false (list_any (refers s) more) (λ e.
    let n = new_reference h more s lawful e in
    let was_is : reference h s ≡ Some n.0 = before ∙ (sym after ∙ n.1) in
    true≢false (sym (reference_is_entry h s n.0 was_is) ∙ n.2))
tests_tell h more (events.Put c key body) lawful before after = tt
tests_tell h more (events.Name c snap body) lawful before after = tt
tests_tell h more (events.Unname c snap) lawful before after = tt
tests_tell h more (events.Drop c key) lawful before after = tt
