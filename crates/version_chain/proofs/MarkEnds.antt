-- How a try to commit one change ends, from what its calls did.
use Rattle.std.proofs.Common.{◌≡◌, ℕ, ◌+◌, ◌≤◌, Bool, true, false, ◌&&◌, List, [], ◌∷◌, ◌++◌, length, refl, ap, sym, ◌∙◌, subst, inl, inr, cond, Option, arith, length-append, Err}
use Rattle.std.specs.Prelude.{◌≢◌, nat_eq}
use Rattle.std.specs.List.{list_any}
use Rattle.std.proofs.lemmas.Bool.{or_from}
use mathlib.Core.Logic.{∥∥₁_elim, ∥∥₁_map}
use denote.Struct.Props.{props}
use Rattle.frame_core.specs.declared.refusal.Refusal.TheVariants as refusals
use Rattle.frame_core.specs.declared.refusal.Refused.{Refused}
use Rattle.key_kind.specs.declared.key.KeyKind.TheVariants as kinds
use Rattle.key_kind.specs.declared.key.Key.{Key}
use Rattle.key_kind.specs.Names.{Name}
use Rattle.bucket_core.specs.declared.event.Change.{Change}
use Rattle.bucket_core.specs.declared.event.Event.{Event}
use Rattle.bucket_core.specs.declared.event.Event.TheVariants as events
use Rattle.bucket_core.specs.declared.answer.StoreErr.{StoreErr}
use Rattle.bucket_core.specs.declared.answer.StoreErr.TheVariants as errs
use Rattle.bucket_core.specs.History.{History, Bytes, reference, referred_at}
use Rattle.bucket_core.specs.Laws.{refers, Adds, Looks}
use Rattle.bucket_core.specs.Calls.{MayTryRefer, DidChange, RefusesRefer, refers_after, refer_event, drop_event}
use Rattle.store_model.specs.Law.{IsClaimed, IsLawful}
use Rattle.store_model.specs.Library.{state_of}
use Rattle.store_model.specs.OwnPuts.{IsOwnPut, IsTableKind}
use Rattle.store_model.proofs.Lawful.{beginning_lawful}
use Rattle.store_model.proofs.Untouched.{as_it_was}
use Rattle.store_model.proofs.Told.{own_puts_grow, own_puts_stay}
use Rattle.version_chain.specs.declared.state.SymbolState.{SymbolState}
use Rattle.version_chain.specs.Traces.{Went}
use Rattle.version_chain.specs.Stops.{is_fault, StopsAt, HasCause, refused_by}
use Rattle.version_chain.specs.StoreCalls.{StoppedCall}
use Rattle.version_chain.specs.Marking.{own_refers, FitsOn, MayMark, IsMarkEntry, IsMet, Marked, MarkMet, no_event, one_put, one_drop, MarkStopped, DidMark}
use Rattle.version_chain.proofs.TraceLemmas.{append_assoc, own_of-others, own_of-adds, went_none, went_looks, went_adds, went_before, went_then, went_as, went_longer}
use Rattle.version_chain.proofs.MeetLemmas.{others_refer_not, none_in_both, met_later, met_here}
use Rattle.version_chain.proofs.MarkingLemmas.{mark_may_be_tried, quiet_since}

-- no memory for the element
pub none_stops : (client : ℕ) (sole : Bool) (symbol : Name) (from : ℕ) (c : Change) (limit before now : ℕ) (old : History) (place : ℕ) → place ≡ length old
    → MarkStopped client sole symbol from c limit before now old old (record { place = place; why = refusals.NoMemory })
none_stops client sole symbol from c limit before now old place is = record {
  own = [];
  went = went_none client sole old;
  part = no_event;
  stops = record { after = []; before = old; split = refl; place = is; later = omega arith; few = omega arith };
  cause = tt;
}

-- a stop of a later call
later_stop : (client : ℕ) (old mid new : History) (refused : Refused) → length old ≤ length mid → StopsAt client mid new refused → StopsAt client old new refused
later_stop client old mid new refused le s = record { after = s.after; before = s.before; split = s.split; place = s.place; later = omega (arith, le, s.later); few = s.few }

-- the Put was refused
pub put_stops : (client : ℕ) (sole : Bool) (symbol : Name) (from : ℕ) (was : Option Key) (entry : Key) (body : Bytes) (c : Change) (limit before now : ℕ) (old new : History) (refused : Refused)
    → IsMarkEntry symbol was entry body c → StoppedCall client sole limit before now old new (events.Put client entry body) refused → MarkStopped client sole symbol from c limit before now old new refused
put_stops client sole symbol from was entry body c limit before now old new refused e s = elim s.is [
  | inl none ↦ record { own = []; went = went_as client sole old new s.own [] none s.went; part = no_event; stops = s.stops; cause = s.cause }
  | inr one ↦ record {
    own = events.Put client entry body ∷ [];
    went = went_as client sole old new s.own (events.Put client entry body ∷ []) one s.went;
    part = one_put was entry body e;
    stops = s.stops;
    cause = s.cause;
  }
]

-- ---- the element stands

version_is_table : (key : Key) → key.kind ≡ kinds.Version → IsTableKind key.kind
version_is_table key is = subst IsTableKind (sym is) refl

module _ (client : ℕ) (sole : Bool) (symbol : Name) (state : SymbolState) (c : Change) (limit faults_before : ℕ) (old put : History) (entry : Key) (body : Bytes)
    (may : MayMark old client symbol state c) (e : IsMarkEntry symbol state.was entry body c) (g : Adds IsClaimed client sole old put (events.Put client entry body)) where
  abbrev added : Event
  added = events.Put client entry body

  abbrev front : History
  front = added ∷ (g.others ++ may.at.later)

  put_is : put ≡ front ++ may.at.before
  put_is = g.is ∙ ap (λ h. added ∷ h) (ap (λ h. g.others ++ h) may.at.split ∙ sym (append_assoc g.others may.at.later may.at.before))

  none_own : list_any (own_refers client symbol) front ≡ false
  none_own = none_in_both (own_refers client symbol) (added ∷ []) (g.others ++ may.at.later) (or_from _ _ (no_refer (nat_eq client client)) refl)
      (none_in_both (own_refers client symbol) g.others may.at.later (others_refer_not client symbol g.others g.by_others) may.none_own)
    where
      no_refer : (b : Bool) → (b && false) ≡ false
      no_refer true = refl
      no_refer false = refl

  went_put : Went client sole old put (added ∷ [])
  went_put = went_adds client sole old put added refl g

  pub entry_is_own : ∥ IsLawful put ∥₁ → IsOwnPut put client entry body
  entry_is_own lawful = subst (λ h. IsOwnPut h client entry body) (sym g.is) (own_puts_grow old g.others client entry body [] (subst (λ h. ∥ IsLawful h ∥₁) g.is lawful) g.by_others (version_is_table entry e.kind) tt).1

  -- the Refer may be tried
  pub refer_may : ∥ IsLawful put ∥₁ → MayTryRefer IsClaimed put client symbol state.was entry (c ∷ [])
  refer_may lawful =
      let is : put ≡ added ∷ (g.others ++ (may.at.later ++ may.at.before)) = g.is ∙ ap (λ h. added ∷ (g.others ++ h)) may.at.split in
      subst (λ h. MayTryRefer IsClaimed h client symbol state.was entry (c ∷ [])) (sym is)
      (mark_may_be_tried may.at.before may.at.later g.others client symbol state.was entry body c g.by_others (subst (λ h. ∥ IsLawful h ∥₁) is lawful) may.at.is.was
      (subst (λ h. FitsOn (state_of may.at.before symbol) h client symbol c) may.at.split may.fits) e (subst (λ h. IsOwnPut h client entry body) is (entry_is_own lawful)))

  abbrev referring : Event
  referring = refer_event client symbol state.was entry (c ∷ [])

  -- the commit stands
  pub commit_stands : (new : History) → Adds IsClaimed client sole put new referring → ∥ IsLawful new ∥₁ → (place : ℕ) → place ≡ length new → Marked client sole symbol state.place c old new place
  commit_stands new a lawful place placed = record {
    was = state.was;
    entry = entry;
    body = body;
    is_entry = e;
    before = a.others ++ put;
    newest = a.is;
    went = went_then client sole old put (a.others ++ put) (added ∷ []) [] went_put (went_before client sole put new referring a);
    lawful = λ l. a.lawful (went_put.lawful l);
    quiet = subst (λ h. refers_after h symbol state.place ≡ false) (sym before_is)
        (quiet_since may.at.before (a.others ++ front) symbol state.place may.at.place before_lawful (ap (λ h. reference h symbol) (sym before_is) ∙ (tested ∙ may.at.is.was)));
    longer = let size : length (a.others ++ put) ≡ length ((a.others ++ front) ++ may.at.before) = ap length before_is in omega (arith, may.at.place, size, length-append (a.others ++ front) may.at.before);
    place_is = placed;
  }
    where
      before_is : a.others ++ put ≡ (a.others ++ front) ++ may.at.before
      before_is = ap (λ h. a.others ++ h) put_is ∙ sym (append_assoc a.others front may.at.before)

      before_lawful : ∥ IsLawful ((a.others ++ front) ++ may.at.before) ∥₁
      before_lawful = ∥∥₁_map lawful (λ (l : IsLawful new). subst IsLawful before_is (subst IsLawful a.is l).1)

      tested : reference (a.others ++ put) symbol ≡ state.was
      tested = ∥∥₁_elim lawful (hlevel props) (λ l. (subst IsLawful a.is l).0.0)

  -- a call behind the Put stopped, with no event of the client's
  stops_put : (now : ℕ) (new : History) (refused : Refused) → Looks IsClaimed client sole put new → StopsAt client put new refused → HasCause limit faults_before now new refused refused.why
      → MarkStopped client sole symbol state.place c limit faults_before now old new refused
  stops_put now new refused a stops cause = record {
    own = added ∷ [];
    went = went_then client sole old put new (added ∷ []) [] went_put (went_looks client sole put new a);
    part = one_put state.was entry body e;
    stops = later_stop client old put new refused (went_longer client sole old put (added ∷ []) went_put) stops;
    cause = cause;
  }

  looks_at : (new : History) (refused : Refused) → refused.place ≡ length put → Looks IsClaimed client sole put new → StopsAt client put new refused
  looks_at new refused placed a = record {
    after = a.others;
    before = put;
    split = a.is;
    place = placed;
    later = omega arith;
    few = subst (λ (es : List Event). length es ≤ cond (is_fault refused.why) 1 0) (sym (own_of-others client a.others a.by_others)) (omega arith);
  }

  -- the Refer was refused, and not for another's commit
  pub refer_fails : (now : ℕ) (new : History) (err : StoreErr) → ((moved : ℕ) → err ≡ errs.Moved moved → ⊥) → ∥ IsLawful new ∥₁
      → DidChange IsClaimed client sole limit faults_before now put new referring (RefusesRefer limit symbol state.was) (Err err)
      → DidMark client sole symbol state.place c limit faults_before now old new (Err (refused_by (length put) err))
  refer_fails now new errs.NoMemory met lawful d = inr (inl (stops_put now new (record { place = length put; why = refusals.NoMemory }) d (looks_at new (record { place = length put; why = refusals.NoMemory }) refl d) tt))
  refer_fails now new errs.Fault met lawful d = inr (elim d.1 [
    | inl a ↦ inr (record {
      place = length new;
      marked = commit_stands new a lawful (length new) refl;
      why = refl;
      stops = later_stop client old put new (record { place = length put; why = refusals.StoreFault }) (went_longer client sole old put (added ∷ []) went_put) (record {
        after = referring ∷ a.others;
        before = put;
        split = a.is;
        place = refl;
        later = omega arith;
        few = subst (λ (es : List Event). length es ≤ 1) (sym (own_of-adds client sole put new referring refl a)) (omega arith);
      });
      rose = d.0;
    })
    | inr a ↦ inl (stops_put now new (record { place = length put; why = refusals.StoreFault }) a (looks_at new (record { place = length put; why = refusals.StoreFault }) refl a) d.0)
  ])
  refer_fails now new (errs.Spent count) met lawful d = inr (inl (stops_put now new (record { place = count; why = refusals.Spent count }) d.0 (record {
    after = [];
    before = new;
    split = refl;
    place = d.1.1.0;
    later = went_longer client sole put new [] (went_looks client sole put new d.0);
    few = omega arith;
  }) (d.1.1, refl)))
  refer_fails now new (errs.Moved place) met lawful d = absurd (met place refl)
  refer_fails now new (errs.Taken place) met lawful d = absurd d.1
  refer_fails now new (errs.Missing place) met lawful d = absurd d.1

  -- another's Refer came between
  module _ (new : History) (a : Looks IsClaimed client sole put new) (now : ℕ) (moved : (reference new symbol ≢ state.was) × (now ≡ referred_at new symbol)) where
    abbrev further : History
    further = a.others ++ front

    further_is : new ≡ further ++ may.at.before
    further_is = a.is ∙ (ap (λ h. a.others ++ h) put_is ∙ sym (append_assoc a.others front may.at.before))

    one_refers : list_any (refers symbol) further ≡ true
    one_refers = elim (list_any (refers symbol) further) as (λ b. list_any (refers symbol) further ≡ b → b ≡ true) [
      | true ↦ λ on. refl
      | false ↦ λ off. absurd (moved.0 (ap (λ h. reference h symbol) further_is ∙ ((as_it_was may.at.before further symbol off).reference_is ∙ sym may.at.is.was)))
    ] refl

    -- the element is still the client's own
    pub still_own : ∥ IsLawful new ∥₁ → IsOwnPut new client entry body
    still_own lawful = subst (λ h. IsOwnPut h client entry body) (sym a.is)
        (own_puts_stay put a.others client ((entry, body) ∷ []) (subst (λ h. ∥ IsLawful h ∥₁) a.is lawful) a.by_others (entry_is_own (∥∥₁_map lawful (λ (l : IsLawful new). beginning_lawful a.others put (subst IsLawful a.is l))), tt)).0

    went_new : Went client sole old new (added ∷ [])
    went_new = went_then client sole old put new (added ∷ []) [] went_put (went_looks client sole put new a)

    is_met : (last : History) (own : List Event) → Went client sole new last own → IsMet client symbol state.place last now
    is_met last own w =
        subst (λ h. IsMet client symbol state.place h now) (sym w.is) (met_later client symbol state.place new w.more now
        (subst (λ p. IsMet client symbol p new now) (sym may.at.place)
        (subst (IsMet client symbol (length may.at.before) new) (sym moved.1) (subst (λ h. IsMet client symbol (length may.at.before) h (referred_at h symbol)) (sym further_is)
        (met_here client symbol may.at.before further (none_in_both (own_refers client symbol) a.others front (others_refer_not client symbol a.others a.by_others) none_own) one_refers)))))

    -- the element was dropped again
    pub mark_met : (last : History) → Adds IsClaimed client sole new last (drop_event client entry) → MarkMet client sole symbol state.place c old last (record { place = now; why = refusals.Moved now })
    mark_met last d = record {
      now = now;
      refused_is = refl;
      was = state.was;
      entry = entry;
      body = body;
      is_entry = e;
      showed = new;
      put = went_new;
      shown = sym moved.1;
      dropped = went_adds client sole new last (drop_event client entry) refl d;
      met = is_met last (drop_event client entry ∷ []) (went_adds client sole new last (drop_event client entry) refl d);
    }

    -- or its Drop was refused
    pub drop_stops : (faults_now : ℕ) (last : History) (refused : Refused) → StoppedCall client sole limit faults_before faults_now new last (drop_event client entry) refused
        → MarkStopped client sole symbol state.place c limit faults_before faults_now old last refused
    drop_stops faults_now last refused s = elim s.is [
      | inl none ↦ record {
        own = added ∷ [];
        went = went_then client sole old new last (added ∷ []) [] went_new (went_as client sole new last s.own [] none s.went);
        part = one_put state.was entry body e;
        stops = later_stop client old new last refused (went_longer client sole old new (added ∷ []) went_new) s.stops;
        cause = s.cause;
      }
      | inr one ↦
          let w = went_as client sole new last s.own (drop_event client entry ∷ []) one s.went in
          record {
            own = added ∷ drop_event client entry ∷ [];
            went = went_then client sole old new last (added ∷ []) (drop_event client entry ∷ []) went_new w;
            part = one_drop state.was entry body now e (is_met last (drop_event client entry ∷ []) w);
            stops = later_stop client old new last refused (went_longer client sole old new (added ∷ []) went_new) s.stops;
            cause = s.cause;
          }
    ]
