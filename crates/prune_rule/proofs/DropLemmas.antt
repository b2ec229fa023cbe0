-- The drops of a reclaim, one after another.
use Rattle.std.proofs.Common.{◌≡◌, ℕ, Bool, true, List, [], ◌∷◌, ◌++◌, map, length, refl, ap, sym, ◌∙◌, subst, inl, inr, arith, cond, Option, Some, None, Ok, Err}
use Rattle.std.specs.Prelude.{Contains, is_some}
use Rattle.std.specs.List.{AllByRecursion}
use Rattle.std.specs.List.Sorted.{IsStrictlySortedBy}
use Rattle.std.specs.declared.cmp.Ordering.TheVariants as orders
use Rattle.std.proofs.lemmas.List.Elements.{Contains-append_left}
use Rattle.frame_core.specs.declared.refusal.Refusal.TheVariants as refusals
use Rattle.frame_core.specs.declared.refusal.Refused.{Refused}
use Rattle.key_kind.specs.declared.key.Key.{Key}
use Rattle.key_kind.specs.Keys.{key_cmp}
use Rattle.key_kind.proofs.KeyTests.{same_key_self}
use Rattle.bucket_core.specs.declared.answer.Dropped.{Dropped as Answer}
use Rattle.bucket_core.specs.declared.answer.Dropped.TheVariants as answers
use Rattle.bucket_core.specs.declared.answer.StoreErr.{StoreErr}
use Rattle.bucket_core.specs.declared.answer.StoreErr.TheVariants as errs
use Rattle.bucket_core.specs.Calls.{IsSteady, MayTryDrop, drop_event, DidDrop as DidCall}
use Rattle.bucket_core.specs.History.{History, stored}
use Rattle.bucket_core.specs.Laws.{Adds}
use Rattle.store_model.specs.Law.{IsClaimed, IsLawful}
use Rattle.store_model.proofs.Lists.{contains_first, contains_cases, contains_none, contains_append, contains_right}
use Rattle.version_chain.specs.Traces.{Went}
use Rattle.version_chain.specs.Stops.{refused_by, StopsAt}
use Rattle.version_chain.proofs.CallLemmas.{drop_refused}
use Rattle.version_chain.proofs.SteadyLemmas.{grown_steady, stop_steady}
use Rattle.version_chain.proofs.TraceLemmas.{append_assoc, went_none, went_looks, went_adds, went_then, went_as, went_longer}
use Rattle.prune_rule.specs.DropCalls.{IsDroppable, DidDropOne, StoppedDrop, IsPartOf, part_none, part_with, part_without, Dropped, StoppedDrops}
use Rattle.prune_rule.proofs.TurnLemmas.{append_none}
use Rattle.prune_rule.proofs.GoneLemmas.{stays_gone}
use Rattle.prune_rule.proofs.DeadLemmas.{droppable_is_put, droppable_later}

-- ---- one drop

-- a key that nobody needs may be dropped, or is gone
pub may_try : (h : History) (client : ℕ) (key : Key) → IsDroppable h key → MayTryDrop IsClaimed h client key
may_try h client key d = by (stored h key) refl
  where
    by : (o : Option _) → stored h key ≡ o → MayTryDrop IsClaimed h client key
    by None is = inr (is, d.put)
    by (Some body) is = inl (ap is_some is, elim d.dead [ inl u ↦ inl u | inr p ↦ inr (inl p) ])

-- the store was full only where the key is there
full_there : (client : ℕ) (sole : Bool) (limit before now : ℕ) (old new : History) (key : Key) (place : ℕ) (err : StoreErr) (count : ℕ) → DidCall IsClaimed client sole limit before now old new key (Err err)
    → (refused_by place err).why ≡ refusals.Spent count → is_some (stored new key) ≡ true
full_there client sole limit before now old new key place errs.NoMemory count d e = absurd cc
full_there client sole limit before now old new key place errs.Fault count d e = absurd cc
full_there client sole limit before now old new key place (errs.Spent n) count d e = d.1
full_there client sole limit before now old new key place (errs.Moved n) count d e = absurd d
full_there client sole limit before now old new key place (errs.Taken n) count d e = absurd d
full_there client sole limit before now old new key place (errs.Missing n) count d e = absurd d

pub one_refused : (client : ℕ) (sole : Bool) (limit before now : ℕ) (old new : History) (key : Key) (place : ℕ) (refused : Refused) (err : StoreErr) → place ≡ length old → refused ≡ refused_by place err
    → DidCall IsClaimed client sole limit before now old new key (Err err) → StoppedDrop client sole limit before now old new key refused
one_refused client sole limit before now old new key place refused err at is d = record {
  stopped = drop_refused client sole limit before now old new key place refused err at is d;
  full = λ count e. full_there client sole limit before now old new key place err count d (ap (λ (r : Refused). r.why) (sym is) ∙ e);
}

-- a key that was there is dropped
pub gone_is : (client : ℕ) (sole : Bool) (limit before now : ℕ) (old new : History) (key : Key) (dropped : Answer) (place : ℕ) → dropped ≡ answers.Gone place → DidCall IsClaimed client sole limit before now old new key (Ok dropped)
    → Adds IsClaimed client sole old new (drop_event client key) × (place ≡ length new)
gone_is client sole limit before now old new key dropped place is d = let e = subst (λ x. DidCall IsClaimed client sole limit before now old new key (Ok x)) is d in (e.0, e.1)

-- want of memory for the note, behind the drop
pub note_refused : (client : ℕ) (sole : Bool) (limit before now : ℕ) (old new : History) (key : Key) (place : ℕ) (refused : Refused) → place ≡ length new → refused ≡ record { place = place; why = refusals.NoMemory }
    → Adds IsClaimed client sole old new (drop_event client key) → StoppedDrop client sole limit before now old new key refused
note_refused client sole limit before now old new key place refused at is adds =
    subst (StoppedDrop client sole limit before now old new key) (sym is) (record {
      stopped = record {
        own = drop_event client key ∷ [];
        is = inr refl;
        went = went_adds client sole old new (drop_event client key) refl adds;
        stops = record { after = []; before = new; split = refl; place = at; later = went_longer client sole old new _ (went_adds client sole old new (drop_event client key) refl adds); few = omega arith };
        cause = tt;
      };
      full = λ count e. absurd (apart count e);
    })
  where
    apart : (count : ℕ) → refusals.NoMemory ≡ refusals.Spent count → ⊥
    apart count e = cc

-- ---- parts of a list

module _ {X : Type 0} where
  pub part_behind : (xs ys : List X) (x : X) → IsPartOf xs ys → IsPartOf (xs ++ x ∷ []) (ys ++ x ∷ [])
  part_behind _ _ x part_none = part_with x part_none
  part_behind _ _ x (part_with z {xs} {ys} p) = part_with z (part_behind xs ys x p)
  part_behind _ _ x (part_without y {xs} {ys} p) = part_without y (part_behind xs ys x p)

  pub part_less : (xs ys zs : List X) → IsPartOf xs ys → IsPartOf xs (ys ++ zs)
  part_less _ _ [] part_none = part_none
  part_less _ _ (z ∷ zs) part_none = part_without z (part_less [] [] zs part_none)
  part_less _ _ zs (part_with x {xs} {ys} p) = part_with x (part_less xs ys zs p)
  part_less _ _ zs (part_without y {xs} {ys} p) = part_without y (part_less xs ys zs p)

  pub part_all : (P : X → Type 0) (xs ys : List X) → IsPartOf xs ys → AllByRecursion P ys → AllByRecursion P xs
  part_all P _ _ part_none all = tt
  part_all P _ _ (part_with x {xs} {ys} p) all = (all.0, part_all P xs ys p all.1)
  part_all P _ _ (part_without y {xs} {ys} p) all = part_all P xs ys p all.1

pub part_sorted : (xs ys : List Key) → IsPartOf xs ys → IsStrictlySortedBy key_cmp ys → IsStrictlySortedBy key_cmp xs
unfolding IsStrictlySortedBy
part_sorted _ _ part_none s = tt
part_sorted _ _ (part_with x {xs} {ys} p) s = (part_all (λ y. key_cmp x y ≡ orders.Less) xs ys p s.0, part_sorted xs ys p s.1)
part_sorted _ _ (part_without y {xs} {ys} p) s = part_sorted xs ys p s.1

-- ---- all of them

map_behind : {X Y : Type 0} (f : X → Y) (xs : List X) (x : X) → map f (xs ++ x ∷ []) ≡ map f xs ++ f x ∷ []
map_behind f [] x = refl
map_behind f (y ∷ xs) x = ap (λ l. f y ∷ l) (map_behind f xs x)

all_at : (P : Key → Type 0) (xs ys : List Key) (key : Key) → AllByRecursion P (xs ++ key ∷ ys) → P key
all_at P [] ys key all = all.0
all_at P (x ∷ xs) ys key all = all_at P xs ys key all.1

-- what holds of each element holds of one
pub all_in : {X : Type 0} (P : X → Type 0) (xs : List X) (x : X) → AllByRecursion P xs → Contains xs x → P x
all_in P [] x all c = absurd (contains_none x c)
all_in P (y ∷ xs) x all c = elim (contains_cases x y xs c) [ inl e ↦ subst P e all.0 | inr d ↦ all_in P xs x all.1 d ]

-- the first of these keys were dropped where they were there, and the others are left
pub record DropsSoFar (client : ℕ) (sole : Bool) (old cur : History) (keys rest freed : List Key) : Type 0 where
  pub passed : List Key
  pub is : keys ≡ passed ++ rest
  pub went : Went client sole old cur (map (drop_event client) freed)
  pub part : IsPartOf freed passed
  pub gone : (key : Key) → Contains passed key → stored cur key ≡ None

pub drops_none : (client : ℕ) (sole : Bool) (h : History) (keys freed : List Key) → freed ≡ [] → DropsSoFar client sole h h keys keys freed
drops_none client sole h keys freed none = subst (DropsSoFar client sole h h keys keys) (sym none) (record { passed = []; is = refl; went = went_none client sole h; part = part_none; gone = λ key c. absurd (contains_none key c) })

module _ (client : ℕ) (sole : Bool) (old cur : History) (keys rest freed : List Key) (all : AllByRecursion (IsDroppable old) keys) (so_far : DropsSoFar client sole old cur keys rest freed) where
  -- the next key may still be dropped
  pub next_may : (key : Key) (left : List Key) → rest ≡ key ∷ left → ∥ IsLawful cur ∥₁ → IsDroppable cur key
  next_may key left front lawful =
      droppable_later so_far.went.more old cur key so_far.went.is lawful
      (all_at (IsDroppable old) so_far.passed left key (subst (AllByRecursion (IsDroppable old)) (so_far.is ∙ ap (λ l. so_far.passed ++ l) front) all))

  -- what was passed stays gone
  still_gone : (new more : History) → new ≡ more ++ cur → ∥ IsLawful cur ∥₁ → ∥ IsLawful new ∥₁ → (key : Key) → Contains so_far.passed key → stored new key ≡ None
  still_gone new more is was lawful key c =
      let here : IsDroppable old key = all_in (IsDroppable old) keys key all (subst (λ l. Contains l key) (sym so_far.is) (Contains-append_left so_far.passed rest key c)) in
      let now = droppable_later so_far.went.more old cur key so_far.went.is was here in
      stays_gone more cur new key is (droppable_is_put cur key was now) lawful now.put (so_far.gone key c)

  passed_is : (key : Key) (left : List Key) → rest ≡ key ∷ left → keys ≡ (so_far.passed ++ key ∷ []) ++ left
  passed_is key left front = so_far.is ∙ (ap (λ l. so_far.passed ++ l) front ∙ sym (append_assoc so_far.passed (key ∷ []) left))

  each_gone : (new more : History) (key : Key) → new ≡ more ++ cur → ∥ IsLawful cur ∥₁ → ∥ IsLawful new ∥₁ → stored new key ≡ None → (other : Key) → Contains (so_far.passed ++ key ∷ []) other → stored new other ≡ None
  each_gone new more key is was lawful none other c = elim (contains_append so_far.passed (key ∷ []) other c) [
    | inl before ↦ still_gone new more is was lawful other before
    | inr last ↦ elim (contains_cases other key [] last) [ inl e ↦ subst (λ k. stored new k ≡ None) e none | inr d ↦ absurd (contains_none other d) ]
  ]

  -- one drop more
  pub drops_more : (new : History) (key : Key) (left after : List Key) → rest ≡ key ∷ left → ∥ IsLawful cur ∥₁ → ∥ IsLawful new ∥₁ → DidDropOne client sole cur new key freed after → DropsSoFar client sole old new keys left after
  drops_more new key left after front was lawful done = elim done [
    | inl dropped ↦ subst (DropsSoFar client sole old new keys left) (sym dropped.1) (record {
      passed = so_far.passed ++ key ∷ [];
      is = passed_is key left front;
      went = went_as client sole old new _ _ (sym (map_behind (drop_event client) freed key)) (went_then client sole old cur new _ _ so_far.went (went_adds client sole cur new (drop_event client key) refl dropped.0));
      part = part_behind freed so_far.passed key so_far.part;
      gone = each_gone new (drop_event client key ∷ dropped.0.others) key dropped.0.is was lawful (ap (λ h. stored h key) dropped.0.is ∙ ap (λ b. cond b None (stored (dropped.0.others ++ cur) key)) (same_key_self key));
    })
    | inr absent ↦ subst (DropsSoFar client sole old new keys left) (sym absent.2) (record {
      passed = so_far.passed ++ key ∷ [];
      is = passed_is key left front;
      went = went_as client sole old new _ _ (append_none (map (drop_event client) freed)) (went_then client sole old cur new _ _ so_far.went (went_looks client sole cur new absent.0));
      part = without_last freed so_far.passed key so_far.part;
      gone = each_gone new absent.0.others key absent.0.is was lawful absent.1;
    })
  ]
    where
      without_last : (xs ys : List Key) (y : Key) → IsPartOf xs ys → IsPartOf xs (ys ++ y ∷ [])
      without_last xs ys y p = part_less xs ys (y ∷ []) p

  -- the keys are through
  pub drops_end : rest ≡ [] → Dropped client sole old cur keys freed
  drops_end none =
      let same : keys ≡ so_far.passed = so_far.is ∙ (ap (λ l. so_far.passed ++ l) none ∙ append_none so_far.passed) in
      record { went = so_far.went; part = subst (IsPartOf freed) (sym same) so_far.part; gone = λ key c. so_far.gone key (subst (λ l. Contains l key) same c) }

  -- a call failed
  pub drops_stop : (limit before now : ℕ) (new : History) (key : Key) (left : List Key) (refused : Refused) → rest ≡ key ∷ left → StoppedDrop client sole limit before now cur new key refused → StoppedDrops client sole limit before now old new keys refused
  drops_stop limit before now new key left refused front s =
      let whole : keys ≡ so_far.passed ++ key ∷ left = so_far.is ∙ ap (λ l. so_far.passed ++ l) front in
      let stops : StopsAt client old new refused = record {
        after = s.stopped.stops.after;
        before = s.stopped.stops.before;
        split = s.stopped.stops.split;
        place = s.stopped.stops.place;
        later = omega (arith, went_longer client sole old cur _ so_far.went, s.stopped.stops.later);
        few = s.stopped.stops.few;
      } in
      let there : Contains keys key = subst (λ l. Contains l key) (sym whole) (contains_right so_far.passed (key ∷ left) key (contains_first key left)) in
      elim s.stopped.is [
        | inl none ↦ record {
          freed = freed;
          went = went_as client sole old new _ _ (ap (λ l. map (drop_event client) freed ++ l) none ∙ append_none (map (drop_event client) freed)) (went_then client sole old cur new _ _ so_far.went s.stopped.went);
          part = subst (IsPartOf freed) (sym so_far.is) (part_less freed so_far.passed rest so_far.part);
          stops = stops;
          cause = s.stopped.cause;
          busy = λ count e. (key, there, s.full count e);
        }
        | inr one ↦ record {
          freed = freed ++ key ∷ [];
          went = went_as client sole old new _ _ (ap (λ l. map (drop_event client) freed ++ l) one ∙ sym (map_behind (drop_event client) freed key)) (went_then client sole old cur new _ _ so_far.went s.stopped.went);
          part = subst (IsPartOf (freed ++ key ∷ [])) (sym (passed_is key left front)) (part_less (freed ++ key ∷ []) (so_far.passed ++ key ∷ []) left (part_behind freed so_far.passed key so_far.part));
          stops = stops;
          cause = s.stopped.cause;
          busy = λ count e. (key, there, s.full count e);
        }
      ]

-- want of memory before the first drop
pub drops_wanting : (client : ℕ) (sole : Bool) (limit before now : ℕ) (h : History) (keys : List Key) (place : ℕ) (refused : Refused) → place ≡ length h → refused ≡ record { place = place; why = refusals.NoMemory }
    → StoppedDrops client sole limit before now h h keys refused
drops_wanting client sole limit before now h keys place refused at is = subst (StoppedDrops client sole limit before now h h keys) (sym is) (record {
  freed = [];
  went = went_none client sole h;
  part = part_less [] [] keys part_none;
  stops = record { after = []; before = h; split = refl; place = at; later = omega arith; few = omega arith };
  cause = tt;
  busy = λ count e. absurd (apart count e);
})
  where
    apart : (count : ℕ) → refusals.NoMemory ≡ refusals.Spent count → ⊥
    apart count e = cc

-- ---- the same of a bucket as it was

module _ {B : Type 0} (number limit faults : B → ℕ) (sole : B → Bool) (a b : B) (steady : IsSteady number limit faults sole a b) where
  pub one_steady : (x y : History) (key : Key) (before after : List Key) → DidDropOne (number b) (sole b) x y key before after → DidDropOne (number a) (sole a) x y key before after
  one_steady x y key before after d = elim d [
    | inl dropped ↦ inl (grown_steady number limit faults sole a b steady x y (λ n. drop_event n key ∷ []) dropped.0, dropped.1)
    | inr absent ↦ inr (grown_steady number limit faults sole a b steady x y (λ n. []) absent.0, absent.1, absent.2)
  ]

  pub stopped_steady : (now : ℕ) (x y : History) (key : Key) (refused : Refused) → StoppedDrop (number b) (sole b) (limit b) (faults b) now x y key refused → StoppedDrop (number a) (sole a) (limit a) (faults a) now x y key refused
  stopped_steady now x y key refused s = record { stopped = stop_steady number limit faults sole a b steady now x y (λ n. drop_event n key) refused s.stopped; full = s.full }
