-- A key that was put and does not stand any more never stands again.
use Rattle.std.proofs.Common.{◌≡◌, Bool, true, false, cond, ◌∷◌, [], ◌++◌, Option, Some, None, inl, inr, refl, sym, ap, ◌∙◌, subst, ℕ}
use Rattle.std.specs.Prelude.{is_some}
use Rattle.std.proofs.lemmas.Bool.{true≢false}
use Rattle.key_kind.specs.declared.key.Key.{Key}
use Rattle.key_kind.specs.Keys.{is_put, same_key}
use Rattle.key_kind.specs.KeyText.{key_text}
use Rattle.key_kind.proofs.KeyTests.{same_key_is, put_is_no_reference, put_is_no_snapshot}
use Rattle.bucket_core.specs.declared.event.Event.TheVariants as events
use Rattle.bucket_core.specs.History.{History, Bytes, stored, body_put}
use Rattle.bucket_core.specs.Laws.{IsLawful, Looks}
use Rattle.bucket_core.specs.Calls.{MayTryDrop, drop_event}
use Rattle.store_model.specs.Law.{IsClaimed}
use Rattle.store_model.proofs.Histories.{choose_false}
use Rattle.store_model.proofs.Putting.{put_is_new}
use Rattle.store_model.proofs.Lawful.{lawful_is_intact}
use Rattle.bucket_shared.proofs.Adding.{claim-later}

-- what was put stays put
put_stays : (more h : History) (key : Key) → is_some (body_put h key) ≡ true → is_some (body_put (more ++ h) key) ≡ true
put_stays [] h key is = is
put_stays (events.Put c k b ∷ more) h key is =
    elim (same_key k key) as (λ t. is_some (cond t (Some b) (body_put (more ++ h) key)) ≡ true) [ true ↦ refl | false ↦ put_stays more h key is ]
put_stays (events.Refer c s was entry list ∷ more) h key is = put_stays more h key is
put_stays (events.Name c snap b ∷ more) h key is = put_stays more h key is
put_stays (events.Unname c snap ∷ more) h key is = put_stays more h key is
put_stays (events.Drop c k ∷ more) h key is = put_stays more h key is

pub gone_stays : (more h : History) (key : Key) → IsLawful IsClaimed (more ++ h) → is_put key.kind ≡ true → is_some (body_put h key) ≡ true → stored h key ≡ None → stored (more ++ h) key ≡ None
gone_stays [] h key lawful kind put gone = gone
gone_stays (events.Put c k b ∷ more) h key lawful kind put gone =
    elim (same_key k key) as (λ t. same_key k key ≡ t → cond t (Some b) (stored (more ++ h) key) ≡ None) [
      | true ↦ λ is. absurd (true≢false (sym (put_stays more h key put) ∙ ap (λ (x : Key). is_some (body_put (more ++ h) x)) (sym (same_key_is k key is)) ∙ ap is_some (put_is_new (more ++ h) c k b lawful.0.1 (lawful_is_intact (more ++ h) lawful.1))))
      | false ↦ λ is. gone_stays more h key lawful.1 kind put gone
    ] refl
gone_stays (events.Refer c s was entry list ∷ more) h key lawful kind put gone = choose_false _ (Some (key_text entry)) _ _ (put_is_no_reference s key kind) (gone_stays more h key lawful.1 kind put gone)
gone_stays (events.Name c snap b ∷ more) h key lawful kind put gone = choose_false _ (Some b) _ _ (put_is_no_snapshot snap key kind) (gone_stays more h key lawful.1 kind put gone)
gone_stays (events.Unname c snap ∷ more) h key lawful kind put gone = choose_false _ None _ _ (put_is_no_snapshot snap key kind) (gone_stays more h key lawful.1 kind put gone)
gone_stays (events.Drop c k ∷ more) h key lawful kind put gone =
    elim (same_key k key) as (λ t. cond t None (stored (more ++ h) key) ≡ None) [ true ↦ refl | false ↦ gone_stays more h key lawful.1 kind put gone ]

-- where a key was put, clients put keys of its kind
kind_put : (h : History) (key : Key) → IsLawful IsClaimed h → (body : Option Bytes) → body_put h key ≡ body → is_some body ≡ true → is_put key.kind ≡ true
kind_put h key lawful None is some = absurd (true≢false (sym some))
kind_put h key lawful (Some body) is some = ((lawful_is_intact h lawful).numbered key body is).1

tail_lawful : (more h : History) → IsLawful IsClaimed (more ++ h) → IsLawful IsClaimed h
tail_lawful [] h lawful = lawful
tail_lawful (e ∷ more) h lawful = tail_lawful more h lawful.1

-- a drop that might be tried of what was seen is claimed of the whole history, where the key stands
pub drop-later : (n : ℕ) (sole : Bool) (old mid : History) (key : Key) → Looks IsClaimed n sole old mid → IsLawful IsClaimed mid → MayTryDrop IsClaimed old n key → is_some (stored mid key) ≡ true → IsClaimed mid (drop_event n key)
drop-later n sole old mid key l lawful (inl may) is = claim-later n sole old mid (drop_event n key) l lawful refl tt may.1
drop-later n sole old mid key l lawful (inr gone) is =
    let whole : IsLawful IsClaimed (l.others ++ old) = subst (λ (h : History). IsLawful IsClaimed h) l.is lawful in
    let none : stored (l.others ++ old) key ≡ None = gone_stays l.others old key whole (kind_put old key (tail_lawful l.others old whole) (body_put old key) refl gone.1) gone.1 gone.0 in
    absurd (true≢false (sym is ∙ (ap (λ (h : History). is_some (stored h key)) l.is ∙ ap is_some none)))
