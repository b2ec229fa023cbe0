-- Versions stay, and each number has one.
use Rattle.std.proofs.Common.{◌≡◌, ℕ, zero, suc, ◌<◌, Bool, true, false, not, List, [], ◌∷◌, ◌++◌, refl, ap, sym, ◌∙◌, subst, inl, inr, cond, nat_eq, int_le, Option, Some, None, Result, Ok, Err, arith}
use Rattle.std.specs.Prelude.{Contains, find, fold, slice_get}
use Rattle.std.specs.List.{AllZip}
use Rattle.frame_core.specs.declared.refusal.Refusal.{Refusal}
use Rattle.frame_core.specs.declared.refusal.Refusal.TheVariants as refusals
use Rattle.frame_core.specs.declared.refusal.Asked.{Asked}
use Rattle.key_kind.specs.Names.{Name, same_name}
use Rattle.bucket_core.specs.declared.event.Change.{Change}
use Rattle.bucket_core.specs.declared.event.Change.TheVariants as changes
use Rattle.bucket_core.specs.declared.event.Event.TheVariants as events
use Rattle.bucket_core.specs.History.{History}
use Rattle.store_model.specs.Library.{State, Version, state_of, number_after, after_change, live_versions, is_buried}
use Rattle.store_model.specs.Links.{Linked}
use Rattle.store_model.specs.Snapshots.{Snapshot, library_of, snapshot_named}
use Rattle.store_model.specs.Intact.{IsLinkOf}
use Rattle.store_model.proofs.Lists.{contains_first, contains_later, contains_cases, contains_none, filter_in}
use Rattle.store_model.proofs.Numbering.{AreNumbered}
use Rattle.expr_clause.specs.declared.command.AsOf.{AsOf}
use Rattle.expr_clause.specs.declared.command.AsOf.TheVariants as moments
use Rattle.reply_model.specs.Answering.{◌then◌, version_or, or_refuse, refuse_if}
use Rattle.reply_model.specs.ReadAnswers.{read_version, picked, numbered, back}

-- ---- versions stay

change_keeps : (st : State) (c : Change) (v : Version) → Contains st.versions v → Contains (after_change st c).versions v
change_keeps st (changes.Wrote frame at) v there = contains_later v _ st.versions there
change_keeps st (changes.Appended frame at) v there = contains_later v _ st.versions there
change_keeps st (changes.Updated frame range at) v there = contains_later v _ st.versions there
change_keeps st (changes.Removed versions) v there = there
change_keeps st (changes.Held holder version) v there = there
change_keeps st (changes.Released holder) v there = there
change_keeps st (changes.Discarded pieces) v there = there
change_keeps st changes.Restated v there = there

changes_keep : (st : State) (list : List Change) (v : Version) → Contains st.versions v → Contains (fold after_change st list).versions v
changes_keep st [] v there = there
changes_keep st (c ∷ list) v there = changes_keep (after_change st c) list v (change_keeps st c v there)

-- a version that was made is there in each longer history
pub version_later : (more h : History) (symbol : Name) (v : Version) → Contains (state_of h symbol).versions v → Contains (state_of (more ++ h) symbol).versions v
version_later [] h symbol v there = there
version_later (events.Put c key body ∷ more) h symbol v there = version_later more h symbol v there
version_later (events.Refer c s was entry list ∷ more) h symbol v there =
    elim (same_name s symbol) as (λ t. Contains (cond t (record (fold after_change (state_of (more ++ h) symbol) list) { has_reference = true }) (state_of (more ++ h) symbol)).versions v) [
      | true ↦ changes_keep (state_of (more ++ h) symbol) list v (version_later more h symbol v there)
      | false ↦ version_later more h symbol v there
    ]
version_later (events.Name c snap body ∷ more) h symbol v there = version_later more h symbol v there
version_later (events.Unname c snap ∷ more) h symbol v there = version_later more h symbol v there
version_later (events.Drop c key ∷ more) h symbol v there = version_later more h symbol v there

-- ---- each number has one version

below_next : (vs : List Version) → AreNumbered vs → (v : Version) → Contains vs v → v.number < number_after vs
below_next [] n v there = absurd (contains_none v there)
below_next (w ∷ older) n v there = elim (contains_cases v w older there) [
  | inl is ↦ omega (arith, ap (λ (x : Version). x.number) is)
  | inr later ↦ omega (arith, below_next older n.1 v later, n.0)
]

pub one_of_number : (vs : List Version) → AreNumbered vs → (v w : Version) → Contains vs v → Contains vs w → v.number ≡ w.number → v ≡ w
one_of_number [] n v w first second same = absurd (contains_none v first)
one_of_number (x ∷ older) n v w first second same = elim (contains_cases v x older first) [
  | inl is ↦ elim (contains_cases w x older second) [
    | inl other ↦ sym is ∙ other
    | inr later ↦ absurd (omega (arith, below_next older n.1 w later, n.0, ap (λ (y : Version). y.number) is, same))
  ]
  | inr earlier ↦ elim (contains_cases w x older second) [
    | inl other ↦ absurd (omega (arith, below_next older n.1 v earlier, n.0, ap (λ (y : Version). y.number) other, same))
    | inr later ↦ one_of_number older n.1 v w earlier later same
  ]
]

-- ---- the version that is read is one of the symbol's

ok_is : (v w : Version) → ◌≡◌ {A = Result Version Refusal} (Ok v) (Ok w) → v ≡ w
ok_is v w e = cc

not_ok : (why : Refusal) (v : Version) → ◌≡◌ {A = Result Version Refusal} (Err why) (Ok v) → ⊥
not_ok why v e = absurd cc

found_in : {X : Type 0} (p : X → Bool) (xs : List X) (x : X) → find p xs ≡ Some x → Contains xs x
found_in {X} p [] x e = absurd cc
found_in {X} p (y ∷ ys) x e =
    (elim (p y) as (λ b. cond b (Some y) (find p ys) ≡ Some x → Contains (y ∷ ys) x) [
      | true ↦ λ e. subst (λ z. Contains (y ∷ ys) z) (same y x e) (contains_first y ys)
      | false ↦ λ e. contains_later x y ys (found_in p ys x e)
    ]) e
  where
    same : (y x : X) → Some y ≡ Some x → y ≡ x
    same y x e = cc

got_in : {X : Type 0} (xs : List X) (k : ℕ) (x : X) → slice_get xs k ≡ Some x → Contains xs x
got_in [] k x e = absurd cc
got_in {X} (y ∷ ys) zero x e = subst (λ z. Contains (y ∷ ys) z) (same y x e) (contains_first y ys)
  where
    same : (y x : X) → Some y ≡ Some x → y ≡ x
    same y x e = cc
got_in (y ∷ ys) (suc k) x e = contains_later x y ys (got_in ys k x e)

back_in : (live : List Version) (k : ℕ) (v : Version) → back live k ≡ Some v → Contains live v
back_in live zero v e = absurd cc
back_in live (suc k) v e = got_in live k v e

-- what is not refused was found
version_found : (st : State) (asked : Asked) (found : Option Version) (v : Version) → version_or st asked found ≡ Ok v → found ≡ Some v
version_found st asked found v e =
    (elim st.has_reference as (λ b. refuse_if (not b) refusals.NoSuchSymbol (or_refuse found (refusals.NoSuchVersion asked)) ≡ Ok v → found ≡ Some v) [
      | true ↦ λ e. or_found found (refusals.NoSuchVersion asked) v e
      | false ↦ λ e. absurd (not_ok refusals.NoSuchSymbol v e)
    ]) e
  where
    or_found : (found : Option Version) (why : Refusal) (v : Version) → or_refuse found why ≡ Ok v → found ≡ Some v
    or_found None why v e = absurd (not_ok why v e)
    or_found (Some w) why v e = ap Some (ok_is w v e)

live_in : (st : State) (v : Version) → Contains (live_versions st) v → Contains st.versions v
live_in st v there = (filter_in (λ (v : Version). not (is_buried st v.number)) st.versions v there).0

pub read_is_version : (h : History) (symbol : Name) (as_of : AsOf) (v : Version) → read_version (library_of h) symbol as_of ≡ Ok v → Contains (state_of h symbol).versions v
read_is_version h symbol (moments.Back k) v e = live_in (state_of h symbol) v (back_in (live_versions (state_of h symbol)) k v (version_found (state_of h symbol) _ _ v e))
read_is_version h symbol (moments.Number n) v e =
    live_in (state_of h symbol) v (found_in (λ (v : Version). nat_eq v.number n) (live_versions (state_of h symbol)) v (version_found (state_of h symbol) _ _ v e))
read_is_version h symbol (moments.Moment t) v e =
    live_in (state_of h symbol) v (found_in (λ (v : Version). int_le v.stamp t) (live_versions (state_of h symbol)) v (version_found (state_of h symbol) _ _ v e))
read_is_version h symbol (moments.Snapshot snap) v e = of_snapshot (snapshot_named (library_of h) snap) e
  where
    of_number : (o : Option ℕ) → (or_refuse o refusals.NoSuchSymbol then λ n. or_refuse (numbered (state_of h symbol) n) refusals.NoSuchSymbol) ≡ Ok v → Contains (state_of h symbol).versions v
    of_number None e = absurd (not_ok refusals.NoSuchSymbol v e)
    of_number (Some n) e = of_version (numbered (state_of h symbol) n) refl e
      where
        of_version : (o : Option Version) → numbered (state_of h symbol) n ≡ o → or_refuse o refusals.NoSuchSymbol ≡ Ok v → Contains (state_of h symbol).versions v
        of_version None is e = absurd (not_ok refusals.NoSuchSymbol v e)
        of_version (Some w) is e = subst (Contains (state_of h symbol).versions) (ok_is w v e) (found_in (λ (v : Version). nat_eq v.number n) (state_of h symbol).versions w is)

    of_snapshot : (o : Option Snapshot) → (or_refuse o refusals.NoSuchSnapshot then λ s. or_refuse (picked s symbol) refusals.NoSuchSymbol then λ n. or_refuse (numbered (state_of h symbol) n) refusals.NoSuchSymbol) ≡ Ok v → Contains (state_of h symbol).versions v
    of_snapshot None e = absurd (not_ok refusals.NoSuchSnapshot v e)
    of_snapshot (Some s) e = of_number (picked s symbol) e

-- ---- the version of a link

pub version_of_link : (ls : List Linked) (vs : List Version) → AllZip IsLinkOf ls vs → (l : Linked) → Contains ls l → (v : Version) × Contains vs v × IsLinkOf l v
version_of_link [] vs z l there = absurd (contains_none l there)
version_of_link (m ∷ ls) [] z l there = absurd z
version_of_link (m ∷ ls) (v ∷ vs) z l there = elim (contains_cases l m ls there) [
  | inl is ↦ (v, contains_first v vs, subst (λ x. IsLinkOf x v) is z.0)
  | inr later ↦ let r = version_of_link ls vs z.1 l later in (r.0, contains_later r.0 v vs r.1, r.2)
]
