-- How a try ends, from what its calls did.
use Rattle.std.proofs.Common.{◌≡◌, ℕ, ◌≤◌, Bool, true, false, List, [], ◌∷◌, ◌++◌, length, take, refl, ap, sym, ◌∙◌, subst, inl, inr, arith, Err}
use Rattle.std.specs.Prelude.{map, ◌≢◌}
use Rattle.std.specs.List.{list_any, take-map}
use Rattle.std.specs.Arc.{arc_value}
use mathlib.Core.Logic.{∥∥₁_elim, ∥∥₁_map}
use denote.Struct.Props.{props}
use Rattle.std.proofs.Math.Seq.{take-length}
use Rattle.frame_core.specs.declared.refusal.Refusal.{Refusal}
use Rattle.frame_core.specs.declared.refusal.Refusal.TheVariants as refusals
use Rattle.frame_core.specs.declared.refusal.Refused.{Refused}
use Rattle.index_tree.specs.declared.index.Index.{Index}
use Rattle.key_kind.specs.declared.key.Key.{Key}
use Rattle.key_kind.specs.Names.{Name}
use Rattle.bucket_core.specs.declared.event.Event.{Event}
use Rattle.bucket_core.specs.declared.answer.StoreErr.{StoreErr}
use Rattle.bucket_core.specs.declared.answer.StoreErr.TheVariants as errs
use Rattle.bucket_core.specs.History.{History, Bytes, reference, referred_at}
use Rattle.bucket_core.specs.Laws.{refers, Adds, Looks}
use Rattle.bucket_core.specs.Calls.{MayTryRefer, DidChange, RefusesRefer, refer_event}
use Rattle.store_model.specs.Law.{IsClaimed, IsLawful}
use Rattle.store_model.specs.Library.{state_of, next_number}
use Rattle.store_model.specs.OwnPuts.{AreOwnPuts}
use Rattle.store_model.proofs.Untouched.{as_it_was}
use Rattle.store_model.proofs.Told.{own_puts_stay, has_moved_on_told, unreferred_told}
use Rattle.version_chain.specs.States.{IsLookRefusal, RefusesWalk}
use Rattle.reply_model.specs.Tries.{put_of, drop_of, one_if, IsTry}
use Rattle.frame_write.specs.declared.options.Committed.{Committed}
use Rattle.frame_write.specs.declared.plan.Plan.{Plan}
use Rattle.version_chain.specs.Traces.{Went}
use Rattle.version_chain.specs.Marking.{own_refers}
use Rattle.version_chain.specs.Stops.{is_fault, StopsAt, HasCause, refused_by}
use Rattle.frame_write.specs.PutCalls.{StoppedCalls, PutAll}
use Rattle.frame_write.specs.Plans.{IsUnmoved}
use Rattle.frame_write.specs.Plans.{IsPlanned, IsMadeBy, puts_seen}
use Rattle.frame_write.specs.Tries.{IsMet, no_event, some_puts, some_drops, DidCommit, DidMeet, DidStop, DidFail}
use Rattle.version_chain.proofs.TraceLemmas.{append_assoc, own_of-others, own_of-adds, went_looks, went_before, went_then, went_as, went_longer, split_at}
use Rattle.frame_write.proofs.MeetLemmas.{others_refer_not, own_refer_not, none_in_both, met_later, met_here}

append_none : {X : Type 0} (xs : List X) → xs ++ [] ≡ xs
append_none [] = refl
append_none (x ∷ xs) = ap (λ l. x ∷ l) (append_none xs)

-- ---- the walk was refused

look_cause : (limit before now : ℕ) (new : History) (refused : Refused) (why : Refusal) → IsLookRefusal before now why → HasCause limit before now new refused why
look_cause limit before now new refused refusals.NoMemory c = tt
look_cause limit before now new refused refusals.StoreFault c = c
look_cause limit before now new refused why c = absurd c

pub walk_stops : (client : ℕ) (sole : Bool) (symbol : Name) (limit before now from : ℕ) (old new : History) (refused : Refused) → Looks IsClaimed client sole old new → RefusesWalk before now old new refused
    → DidStop client sole symbol limit before now from old new refused
walk_stops client sole symbol limit before now from old new refused g r =
    let high : refused.place ≤ length (g.others ++ old) = subst (λ h. refused.place ≤ length h) g.is r.place.to in
    let s = split_at client g.others old refused.place g.by_others r.place.from high in
    record {
      own = [];
      went = went_looks client sole old new g;
      part = no_event;
      stops = record {
        after = s.0;
        before = s.1;
        split = g.is ∙ s.2;
        place = s.3;
        later = subst (λ n. length old ≤ n) s.3 r.place.from;
        few = subst (λ (es : List Event). length es ≤ one_if (is_fault refused.why)) (sym (own_of-others client s.0 s.4)) (omega arith);
      };
      cause = look_cause limit before now new refused refused.why r.why;
    }

-- no memory for the plan
pub plan_stops : (client : ℕ) (sole : Bool) (symbol : Name) (limit before now from : ℕ) (old new : History) (place : ℕ) → Looks IsClaimed client sole old new → place ≡ length new
    → DidStop client sole symbol limit before now from old new (record { place = place; why = refusals.NoMemory })
plan_stops client sole symbol limit before now from old new place g is = record {
  own = [];
  went = went_looks client sole old new g;
  part = no_event;
  stops = record { after = []; before = new; split = refl; place = is; later = went_longer client sole old new [] (went_looks client sole old new g); few = omega arith };
  cause = tt;
}

-- a stop of a later call
pub later_stop : (client : ℕ) (old mid new : History) (refused : Refused) → length old ≤ length mid → StopsAt client mid new refused → StopsAt client old new refused
later_stop client old mid new refused le s = record { after = s.after; before = s.before; split = s.split; place = s.place; later = omega (arith, le, s.later); few = s.few }

-- a put was refused
pub puts_stop : (client : ℕ) (sole : Bool) (symbol : Name) (limit before now from : ℕ) (old new : History) (puts : List (Key × Bytes)) (entry : Key) (refused : Refused)
    → IsTry symbol true puts entry → StoppedCalls client sole limit before now old new (map (put_of client) puts) refused → DidStop client sole symbol limit before now from old new refused
puts_stop client sole symbol limit before now from old new puts entry refused is_try s = record {
  own = map (put_of client) (take s.count puts);
  went = went_as client sole old new (take s.count (map (put_of client) puts)) (map (put_of client) (take s.count puts)) (take-map (put_of client) s.count puts) s.went;
  part = some_puts s.count puts entry is_try;
  stops = s.stops;
  cause = s.cause;
}

-- ---- with a plan, whose puts stand

module _ (client : ℕ) (sole : Bool) (symbol : Name) (limit faults_before : ℕ) (old put : History) (index : Index) (plan : Plan)
    (p : IsPlanned client old symbol index plan) (puts : PutAll client sole old put (puts_seen plan.puts)) where
  abbrev planned : List (Key × Bytes)
  planned = puts_seen plan.puts

  -- what was added behind the walk's look, up to the last put
  abbrev behind : History
  behind = puts.went.more ++ p.later

  put_is : put ≡ behind ++ p.before
  put_is = puts.went.is ∙ (ap (λ h. puts.went.more ++ h) p.split ∙ sym (append_assoc puts.went.more p.later p.before))

  own_refers_none : list_any (own_refers client symbol) behind ≡ false
  own_refers_none = none_in_both (own_refers client symbol) puts.went.more p.later (own_refer_not client symbol puts.went.more planned puts.went.own_are) p.none_own

  -- the Refer may be tried
  pub refer_may : ∥ IsLawful put ∥₁ → MayTryRefer IsClaimed put client symbol plan.was plan.entry (arc_value plan.changes)
  refer_may lawful =
      subst (λ h. MayTryRefer IsClaimed h client symbol plan.was plan.entry (arc_value plan.changes)) (sym put_is)
      (subst (λ w. MayTryRefer IsClaimed (behind ++ p.before) client symbol w plan.entry (arc_value plan.changes)) (sym p.is_plan.was)
      (elim (list_any (refers symbol) behind) as (λ t. list_any (refers symbol) behind ≡ t → MayTryRefer IsClaimed (behind ++ p.before) client symbol (reference p.before symbol) plan.entry (arc_value plan.changes)) [
        | true ↦ λ referred. inr (has_moved_on_told p.before behind symbol lawful_here referred)
        | false ↦ λ unreferred. inl ((as_it_was p.before behind symbol unreferred).reference_is, p.is_plan.may_refer behind unreferred lawful_here own)
      ] refl))
    where
      lawful_here : ∥ IsLawful (behind ++ p.before) ∥₁
      lawful_here = subst (λ h. ∥ IsLawful h ∥₁) put_is lawful

      own : AreOwnPuts (behind ++ p.before) client planned
      own = subst (λ h. AreOwnPuts h client planned) put_is puts.own

  -- the commit stands
  pub commit_stands : (new : History) → Adds IsClaimed client sole put new (refer_event client symbol plan.was plan.entry (arc_value plan.changes)) → ∥ IsLawful new ∥₁ → (done : Committed)
      → done.version ≡ plan.version → done.place ≡ length new → DidCommit client sole symbol (IsMadeBy symbol (state_of p.before symbol) index plan) old new done
  commit_stands new g lawful done version placed = record {
    made = record { before = g.others ++ put; list = arc_value plan.changes; puts = planned; index = index };
    was = plan.was;
    entry = plan.entry;
    is_try = p.is_plan.is_try;
    index = p.is_plan.index_put;
    asked = record { list = refl; puts = refl; index_is = refl; unmoved = unmoved };
    newest = g.is;
    went = went_as client sole old (g.others ++ put) (map (put_of client) planned ++ []) (map (put_of client) planned) (append_none (map (put_of client) planned))
        (went_then client sole old put (g.others ++ put) (map (put_of client) planned) [] puts.went (went_before client sole put new (refer_event client symbol plan.was plan.entry (arc_value plan.changes)) g));
    lawful = λ l. g.lawful (puts.went.lawful l);
    version = version ∙ (p.is_plan.version ∙ sym (ap next_number unmoved.is));
    place = placed;
  }
    where
      front : History
      front = g.others ++ behind

      front_is : g.others ++ put ≡ front ++ p.before
      front_is = ap (λ h. g.others ++ h) put_is ∙ sym (append_assoc g.others behind p.before)

      before_lawful : ∥ IsLawful (front ++ p.before) ∥₁
      before_lawful = ∥∥₁_map lawful (λ (l : IsLawful new). subst IsLawful front_is (subst IsLawful g.is l).1)

      tested : reference (g.others ++ put) symbol ≡ plan.was
      tested = ∥∥₁_elim lawful (hlevel props) (λ l. (subst IsLawful g.is l).0.0)

      unreferred : list_any (refers symbol) front ≡ false
      unreferred = unreferred_told p.before front symbol before_lawful (ap (λ h. reference h symbol) (sym front_is) ∙ (tested ∙ p.is_plan.was))

      unmoved : IsUnmoved (state_of p.before symbol) (state_of (g.others ++ put) symbol)
      unmoved = record {
        more = (as_it_was p.before front symbol unreferred).more;
        is = ap (λ h. state_of h symbol) front_is ∙ (as_it_was p.before front symbol unreferred).state_is;
      }

  -- a call behind the puts stopped, with no event of the client's
  stops_put : (now : ℕ) (new : History) (refused : Refused) → Looks IsClaimed client sole put new → StopsAt client put new refused → HasCause limit faults_before now new refused refused.why
      → DidStop client sole symbol limit faults_before now (length p.before) old new refused
  stops_put now new refused g stops cause = record {
    own = map (put_of client) (take (length planned) planned);
    went = went_as client sole old new (map (put_of client) planned ++ []) (map (put_of client) (take (length planned) planned))
        (append_none (map (put_of client) planned) ∙ ap (map (put_of client)) (sym (take-length planned)))
        (went_then client sole old put new (map (put_of client) planned) [] puts.went (went_looks client sole put new g));
    part = some_puts (length planned) planned plan.entry p.is_plan.is_try;
    stops = later_stop client old put new refused (went_longer client sole old put (map (put_of client) planned) puts.went) stops;
    cause = cause;
  }

  looks_at : (new : History) (refused : Refused) → refused.place ≡ length put → Looks IsClaimed client sole put new → StopsAt client put new refused
  looks_at new refused placed g = record {
    after = g.others;
    before = put;
    split = g.is;
    place = placed;
    later = omega arith;
    few = subst (λ (es : List Event). length es ≤ one_if (is_fault refused.why)) (sym (own_of-others client g.others g.by_others)) (omega arith);
  }

  -- the Refer was refused, and not for another's commit
  pub refer_fails : (now : ℕ) (new : History) (err : StoreErr) → ((moved : ℕ) → err ≡ errs.Moved moved → ⊥) → ∥ IsLawful new ∥₁
      → DidChange IsClaimed client sole limit faults_before now put new (refer_event client symbol plan.was plan.entry (arc_value plan.changes)) (RefusesRefer limit symbol plan.was) (Err err)
      → DidFail client sole symbol (IsMadeBy symbol (state_of p.before symbol) index plan) limit faults_before now (length p.before) old new (refused_by (length put) err)
  refer_fails now new errs.NoMemory met lawful d = inl (stops_put now new (record { place = length put; why = refusals.NoMemory }) d (looks_at new (record { place = length put; why = refusals.NoMemory }) refl d) tt)
  refer_fails now new errs.Fault met lawful d = elim d.1 [
    | inl g ↦ inr (record {
      done = record { version = plan.version; place = length new };
      commit = commit_stands new g lawful (record { version = plan.version; place = length new }) refl refl;
      why = refl;
      stops = later_stop client old put new (record { place = length put; why = refusals.StoreFault }) (went_longer client sole old put (map (put_of client) planned) puts.went) (record {
        after = refer_event client symbol plan.was plan.entry (arc_value plan.changes) ∷ g.others;
        before = put;
        split = g.is;
        place = refl;
        later = omega arith;
        few = subst (λ (es : List Event). length es ≤ 1) (sym (own_of-adds client sole put new (refer_event client symbol plan.was plan.entry (arc_value plan.changes)) refl g)) (omega arith);
      });
      rose = d.0;
    })
    | inr g ↦ inl (stops_put now new (record { place = length put; why = refusals.StoreFault }) g (looks_at new (record { place = length put; why = refusals.StoreFault }) refl g) d.0)
  ]
  refer_fails now new (errs.Spent count) met lawful d = inl (stops_put now new (record { place = count; why = refusals.Spent count }) d.0 (record {
    after = [];
    before = new;
    split = refl;
    place = d.1.1.0;
    later = went_longer client sole put new [] (went_looks client sole put new d.0);
    few = omega arith;
  }) (d.1.1, refl))
  refer_fails now new (errs.Moved place) met lawful d = absurd (met place refl)
  refer_fails now new (errs.Taken place) met lawful d = absurd d.1
  refer_fails now new (errs.Missing place) met lawful d = absurd d.1

  module _ (new : History) (g : Looks IsClaimed client sole put new) (now : ℕ) (moved : (reference new symbol ≢ plan.was) × (now ≡ referred_at new symbol)) where
    abbrev front : History
    front = g.others ++ behind

    front_is : new ≡ front ++ p.before
    front_is = g.is ∙ (ap (λ h. g.others ++ h) put_is ∙ sym (append_assoc g.others behind p.before))

    none_own : list_any (own_refers client symbol) front ≡ false
    none_own = none_in_both (own_refers client symbol) g.others behind (others_refer_not client symbol g.others g.by_others) own_refers_none

    one_refers : list_any (refers symbol) front ≡ true
    one_refers = elim (list_any (refers symbol) front) as (λ b. list_any (refers symbol) front ≡ b → b ≡ true) [
      | true ↦ λ e. refl
      | false ↦ λ e. absurd (moved.0 (ap (λ h. reference h symbol) front_is ∙ ((as_it_was p.before front symbol e).reference_is ∙ sym p.is_plan.was)))
    ] refl

    -- the own puts still stand
    pub still_own : ∥ IsLawful new ∥₁ → AreOwnPuts new client planned
    still_own lawful = subst (λ h. AreOwnPuts h client planned) (sym g.is) (own_puts_stay put g.others client planned (subst (λ h. ∥ IsLawful h ∥₁) g.is lawful) g.by_others puts.own)

    went_new : Went client sole old new (map (put_of client) planned)
    went_new = went_as client sole old new (map (put_of client) planned ++ []) (map (put_of client) planned) (append_none (map (put_of client) planned))
        (went_then client sole old put new (map (put_of client) planned) [] puts.went (went_looks client sole put new g))

    -- however the history went on, another's Refer is in it
    is_met : (last : History) (after : List Event) → Went client sole new last after → IsMet client symbol (length p.before) last now
    is_met last after a =
        subst (λ h. IsMet client symbol (length p.before) h now) (sym a.is) (met_later client symbol (length p.before) new a.more now
        (subst (IsMet client symbol (length p.before) new) (sym moved.1) (subst (λ h. IsMet client symbol (length p.before) h (referred_at h symbol)) (sym front_is) (met_here client symbol p.before front none_own one_refers))))

    -- the keys were dropped again
    pub try_met : (last : History) → Went client sole new last (map (drop_of client) planned) → DidMeet client sole symbol (length p.before) old last (record { place = now; why = refusals.Moved now })
    try_met last a = record {
      puts = planned;
      entry = plan.entry;
      is_try = p.is_plan.is_try;
      showed = new;
      put = went_new;
      shown = sym moved.1;
      dropped = a;
      met = is_met last (map (drop_of client) planned) a;
      why = refl;
    }

    -- or a drop was refused
    pub drops_stop : (faults_now : ℕ) (last : History) (refused : Refused) → StoppedCalls client sole limit faults_before faults_now new last (map (drop_of client) planned) refused
        → DidStop client sole symbol limit faults_before faults_now (length p.before) old last refused
    drops_stop faults_now last refused s =
        let a : Went client sole new last (map (drop_of client) (take s.count planned)) =
        went_as client sole new last (take s.count (map (drop_of client) planned)) (map (drop_of client) (take s.count planned)) (take-map (drop_of client) s.count planned) s.went in
        let w = went_then client sole old new last (map (put_of client) planned) (map (drop_of client) (take s.count planned)) went_new a in
        record {
          own = map (put_of client) planned ++ map (drop_of client) (take s.count planned);
          went = w;
          part = some_drops s.count planned plan.entry p.is_plan.is_try now (is_met last (map (drop_of client) (take s.count planned)) a);
          stops = later_stop client old new last refused (went_longer client sole old new (map (put_of client) planned) went_new) s.stops;
          cause = s.cause;
        }
