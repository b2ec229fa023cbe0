-- A reclaim: its keys may be dropped, and its reply is legal for each session of its client.
use Rattle.std.proofs.Common.{◌≡◌, ℕ, Bool, List, [], ◌∷◌, ◌++◌, map, length, refl, ap, arith, length-append, sym, ◌∙◌, subst, inl, inr, Ok, Err}
use Rattle.std.proofs.lemmas.List.{append_cancel_right}
use Rattle.std.specs.List.{AllByRecursion}
use Rattle.std.specs.List.Sorted.{IsStrictlySortedBy}
use Rattle.frame_core.specs.declared.refusal.Refused.{Refused}
use Rattle.key_kind.specs.declared.key.Key.{Key}
use Rattle.key_kind.specs.Keys.{key_cmp}
use Rattle.key_kind.specs.Names.{Name}
use Rattle.bucket_core.specs.Calls.{IsSteady, drop_event}
use Rattle.bucket_core.specs.declared.event.Event.{Event}
use Rattle.bucket_core.specs.History.{History, author, AllByOthers}
use Rattle.bucket_core.specs.Laws.{Looks}
use Rattle.store_model.specs.Law.{IsClaimed, IsLawful}
use Rattle.reply_model.specs.Standing.{GrowsAlone}
use Rattle.reply_model.proofs.AloneRuns.{grows_parts}
use Rattle.version_chain.specs.Stops.{StopsAt, HasCause}
use Rattle.version_chain.specs.Traces.{Went}
use Rattle.version_chain.proofs.SteadyLemmas.{went_steady, cause_sooner}
use Rattle.version_chain.proofs.TraceLemmas.{went_looks, went_then}
use Rattle.prune_rule.specs.declared.finding.Dead.{Dead}
use Rattle.prune_rule.specs.DeadKeys.{IsDeadKey, FoundDead}
use Rattle.prune_rule.specs.DropCalls.{IsDroppable, Dropped, StoppedDrops}
use Rattle.prune_rule.specs.Finding.{MetAll, RefusesDead}
use Rattle.prune_rule.specs.Reclaims.{DropsThese, IsLegalReclaim}
use Rattle.prune_rule.proofs.DeadLemmas.{droppable_later}
use Rattle.prune_rule.proofs.LegalReclaims.{each_dead, found_was_put, find_refused, all_met, drops_refused, drops_done, drops_are}

-- ---- what is found may be dropped

pub found_droppable : (old mid : History) (symbol : Name) (dead : Dead) → ∥ IsLawful mid ∥₁ → FoundDead old mid symbol dead → AllByRecursion (IsDroppable mid) dead.keys.keys
found_droppable old mid symbol dead lawful found = each dead.keys.keys (each_dead old mid symbol dead found)
  where
    one : (key : Key) → IsDeadKey found.before symbol key → IsDroppable mid key
    one key d = droppable_later found.later found.before mid key found.split lawful (record {
      dead = elim d [ inl tile ↦ inl tile.1 | inr rest ↦ elim rest [ inl index ↦ inl index.1 | inr piece ↦ inr piece.1 ] ];
      put = found_was_put old mid symbol dead found mid found.later found.split lawful key d;
    })

    each : (keys : List Key) → AllByRecursion (IsDeadKey found.before symbol) keys → AllByRecursion (IsDroppable mid) keys
    each [] all = tt
    each (key ∷ keys) all = (one key all.0, each keys all.1)

-- ---- the drops, of the bucket as it was before the looks

module _ {B : Type 0} (number limit faults : B → ℕ) (sole : B → Bool) (a b : B) (steady : IsSteady number limit faults sole a b) where
  pub done_steady : (x y : History) (keys freed : List Key) → Dropped (number b) (sole b) x y keys freed → Dropped (number a) (sole a) x y keys freed
  done_steady x y keys freed d = record { went = went_steady number limit faults sole a b steady x y (λ n. map (drop_event n) freed) d.went; part = d.part; gone = d.gone }

  pub stop_steady : (now : ℕ) (x y : History) (keys : List Key) (refused : Refused) → StoppedDrops (number b) (sole b) (limit b) (faults b) now x y keys refused → StoppedDrops (number a) (sole a) (limit a) (faults a) now x y keys refused
  stop_steady now x y keys refused d = record {
    freed = d.freed;
    went = went_steady number limit faults sole a b steady x y (λ n. map (drop_event n) d.freed) d.went;
    part = d.part;
    stops = subst (λ n. StopsAt n x y refused) steady.same_number d.stops;
    cause = subst (λ l. HasCause l (faults a) now y refused refused.why) steady.same_limit (cause_sooner (faults a) (faults b) now (limit b) y steady.faults_rise refused refused.why d.cause);
    busy = d.busy;
  }

-- ---- the reply

pub find_legal : (limit client : ℕ) (sole : Bool) (tries : ℕ) (symbol : Name) (before now : ℕ) (old new : History) (refused : Refused) → Looks IsClaimed client sole old new → RefusesDead client sole symbol tries before now old new refused
    → IsLegalReclaim limit client tries symbol before now old new (Err refused)
find_legal limit client sole tries symbol before now old new refused looks r s faulted client_is tries_is rises = elim r [
  | inl finds ↦ find_refused s limit sole symbol before now old new faulted rises (subst (λ n. Looks IsClaimed n sole old new) (sym client_is) looks) refused finds
  | inr met ↦ all_met s limit sole symbol before now old new faulted rises refused
      (subst (λ n. MetAll n sole symbol s.tries old new refused) (sym client_is) (subst (λ t. MetAll client sole symbol t old new refused) (sym tries_is) met))
]

module _ (limit client : ℕ) (sole : Bool) (tries : ℕ) (symbol : Name) (before now : ℕ) (old mid new : History) (dead : Dead) (looks : Looks IsClaimed client sole old mid) (found : FoundDead old mid symbol dead)
    (sorted : IsStrictlySortedBy key_cmp dead.keys.keys) (lawful : ∥ IsLawful new ∥₁) where
  pub stop_legal : (refused : Refused) → StoppedDrops client sole limit before now mid new dead.keys.keys refused → IsLegalReclaim limit client tries symbol before now old new (Err refused)
  stop_legal refused d s faulted client_is tries_is rises =
      drops_refused s limit sole symbol before now old new faulted rises mid (subst (λ n. Looks IsClaimed n sole old mid) (sym client_is) looks) dead found sorted lawful refused
      (subst (λ n. StoppedDrops n sole limit before now mid new dead.keys.keys refused) (sym client_is) d)

  pub done_legal : (freed : List Key) → Dropped client sole mid new dead.keys.keys freed → IsLegalReclaim limit client tries symbol before now old new (Ok (record { keys = freed; place = dead.place }))
  done_legal freed d s faulted client_is tries_is rises =
      drops_done s limit sole symbol before now old new faulted rises mid (subst (λ n. Looks IsClaimed n sole old mid) (sym client_is) looks) dead found sorted lawful freed
      (subst (λ n. Dropped n sole mid new dead.keys.keys freed) (sym client_is) d)

-- the history goes on
pub whole_went : (client : ℕ) (sole : Bool) (old mid new : History) (freed : List Key) → Looks IsClaimed client sole old mid → Went client sole mid new (map (drop_event client) freed) → Went client sole old new (map (drop_event client) freed)
whole_went client sole old mid new freed looks w = went_then client sole old mid new [] (map (drop_event client) freed) (went_looks client sole old mid looks) w

pub drops_these : (client : ℕ) (sole : Bool) (old new : History) (freed : List Key) → Went client sole old new (map (drop_event client) freed) → DropsThese client old new freed
drops_these client sole old new freed w = record { more = w.more; is = w.is; own = w.own_are ∙ drops_are client freed }

-- ---- where nobody else makes events

-- what others added, and one client alone, is nothing
none_added : (client : ℕ) (others : History) → AllByRecursion (λ e. author e ≡ client) others → AllByOthers client others → others ≡ []
none_added client [] own by = refl
none_added client (e ∷ others) own by = absurd (by.0 own.0)

-- so the dead keys were found where the call began
pub found_alone : (client : ℕ) (sole : Bool) (old mid new : History) (symbol : Name) (dead : Dead) (es : List Event) → Looks IsClaimed client sole old mid → FoundDead old mid symbol dead → Went client sole mid new es
    → GrowsAlone client old new → dead.place ≡ length old
found_alone client sole old mid new symbol dead es looks found went grows =
    let part = (grows_parts client old mid new looks.others went.more looks.is went.is grows).0 in
    let own = subst (λ xs. AllByRecursion (λ e. author e ≡ client) xs) (append_cancel_right part.more looks.others old (sym part.is ∙ looks.is)) part.own in
    let none : looks.others ≡ [] = none_added client looks.others own looks.by_others in
    omega (
      arith,
      found.place,
      found.from,
      ap (λ (h : History). length h) found.split,
      length-append found.later found.before,
      ap (λ (h : History). length h) looks.is,
      ap (λ (xs : History). length (xs ++ old)) none,
    )
