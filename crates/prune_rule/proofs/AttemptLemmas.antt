-- How a try of a burial ends, from what its walk, its choice and its commit did.
use Rattle.std.proofs.Common.{◌≡◌, ℕ, ◌≤◌, Bool, false, List, [], ◌∷◌, ◌++◌, length, refl, ap, sym, ◌∙◌, subst, inl, inr, cond, Option, Some, None, arith, Result, Ok, Err}
use Rattle.std.specs.Prelude.{is_some, map}
use Rattle.frame_core.specs.declared.refusal.Refusal.{Refusal}
use Rattle.frame_core.specs.declared.refusal.Refusal.TheVariants as refusals
use Rattle.frame_core.specs.declared.refusal.Refused.{Refused}
use Rattle.key_kind.specs.declared.key.Key.{Key}
use Rattle.key_kind.specs.Names.{Name}
use Rattle.bucket_core.specs.declared.event.Change.{Change}
use Rattle.bucket_core.specs.declared.event.Change.TheVariants as changes
use Rattle.bucket_core.specs.declared.event.Event.{Event}
use Rattle.bucket_core.specs.declared.event.Event.TheVariants as events
use Rattle.bucket_core.specs.History.{History, Bytes, AllByOthers, history_at}
use Rattle.bucket_core.specs.Laws.{Looks}
use Rattle.bucket_core.specs.Calls.{IsSteady, refers_after}
use Rattle.store_model.specs.declared.chain.ChainMark.TheVariants as marks
use Rattle.store_model.specs.Library.{Piece, state_of}
use Rattle.store_model.specs.Commits.{IsFilled, marks_of}
use Rattle.store_model.specs.Law.{IsClaimed}
use Rattle.store_model.proofs.Numbering.{versions_numbered}
use Rattle.store_model.proofs.StableRefer.{staging}
use Rattle.version_chain.specs.declared.state.SymbolState.{SymbolState}
use Rattle.version_chain.specs.States.{IsStateAt, IsWithin, IsLookRefusal, RefusesWalk}
use Rattle.version_chain.specs.Traces.{Went, met_in}
use Rattle.version_chain.specs.Stops.{is_fault, StopsAt, HasCause}
use Rattle.version_chain.specs.Marking.{IsMarkEntry, IsMet, MayMark, Marked, MarkMet, MarkPart, no_event, one_put, one_drop, MarkStopped, MarkFaulted, DidMark}
use Rattle.version_chain.proofs.TraceLemmas.{append_assoc, own_of-others, went_looks, went_then, went_longer, split_more, others_first, split_at}
use Rattle.version_chain.proofs.MeetLemmas.{others_refer_not, met_sooner, met_counts, history_at_later}
use Rattle.version_chain.proofs.MarkingLemmas.{quiet_state}
use Rattle.version_chain.proofs.SteadyLemmas.{cause_sooner, rose_sooner}
use Rattle.reply_model.specs.Tries.{Before, IsTry, of_mark, index_linked}
use Rattle.reply_model.proofs.Places.{history_at_end}
use Rattle.reply_model.specs.Kinds.{Burial}
use Rattle.prune_rule.specs.declared.burying.Buried.{Buried}
use Rattle.prune_rule.specs.declared.burying.Tried.{Tried}
use Rattle.prune_rule.specs.declared.burying.Tried.TheVariants as tried
use Rattle.reply_model.specs.CommitAnswers.{bury_answer}
use Rattle.prune_rule.specs.Tries as burials
use Rattle.prune_rule.specs.Tries.{DidBury, DidNothing, DidRefuse, DidMeet, IsPart, HasToBury, DidStop, DidFault, DidEnd, DidAttempt, IsMetBy}
use Rattle.prune_rule.proofs.BuryLemmas.{bury_fits, bury_staging}

-- ---- the walk was refused

look_cause : (limit before now : ℕ) (new : History) (refused : Refused) (why : Refusal) → IsLookRefusal before now why → HasCause limit before now new refused why
look_cause limit before now new refused refusals.NoMemory c = tt
look_cause limit before now new refused refusals.StoreFault c = c
look_cause limit before now new refused why c = absurd c

-- a place among what others added
look_stops : (client : ℕ) (sole : Bool) (old new : History) (refused : Refused) → Looks IsClaimed client sole old new → IsWithin old new refused.place → StopsAt client old new refused
look_stops client sole old new refused g w =
    let high : refused.place ≤ length (g.others ++ old) = subst (λ h. refused.place ≤ length h) g.is w.to in
    let s = split_at client g.others old refused.place g.by_others w.from high in
    record {
      after = s.0;
      before = s.1;
      split = g.is ∙ s.2;
      place = s.3;
      later = subst (λ n. length old ≤ n) s.3 w.from;
      few = subst (λ (es : List Event). length es ≤ cond (is_fault refused.why) 1 0) (sym (own_of-others client s.0 s.4)) (omega arith);
    }

pub walk_stops : (client : ℕ) (sole : Bool) (symbol : Name) (burial : Burial) (limit before now : ℕ) (old new : History) (refused : Refused) → Looks IsClaimed client sole old new → RefusesWalk before now old new refused
    → DidEnd client sole symbol burial limit before now old new (Err refused)
walk_stops client sole symbol burial limit before now old new refused g r = inr (inl (record {
  own = [];
  went = went_looks client sole old new g;
  part = burials.no_event;
  stops = look_stops client sole old new refused g r.place;
  cause = look_cause limit before now new refused refused.why r.why;
  busy = λ count e. absurd (subst (IsLookRefusal before now) e r.why);
}))

-- ---- the walk gave the state

module _ (client : ℕ) (sole : Bool) (symbol : Name) (burial : Burial) (limit before : ℕ) (old walked : History) (state : SymbolState) (looks : Looks IsClaimed client sole old walked) (seen : IsStateAt walked symbol state) (place : IsWithin old walked state.place) where
  parts : (mid : History) × (seen.before ≡ mid ++ old) × (looks.others ≡ seen.later ++ mid)
  parts = split_more seen.later seen.before looks.others old (sym seen.split ∙ looks.is) (subst (λ n. length old ≤ n) seen.place place.from)

  later_by_others : AllByOthers client seen.later
  later_by_others = others_first client seen.later parts.0 (subst (AllByOthers client) parts.2 looks.by_others)

  went_walked : Went client sole old walked []
  went_walked = went_looks client sole old walked looks

  -- the history at the state's place
  then_is : (more : History) → history_at (more ++ walked) state.place ≡ seen.before
  then_is more =
      ap (λ h. history_at (more ++ h) state.place) seen.split
      ∙ (ap (λ h. history_at h state.place) (sym (append_assoc more seen.later seen.before))
      ∙ (ap (history_at ((more ++ seen.later) ++ seen.before)) seen.place
      ∙ (history_at_later seen.before (more ++ seen.later) (length seen.before) (omega arith) ∙ history_at_end seen.before)))

  -- ---- the choice

  pub choice_refused : (now : ℕ) (why : Refusal) → bury_answer burial (state_of seen.before symbol) ≡ Err why → DidEnd client sole symbol burial limit before now old walked (Err (record { place = state.place; why = why }))
  choice_refused now why e = inl (record { went = went_walked; place = place; answered = ap (λ h. bury_answer burial (state_of h symbol)) (then_is []) ∙ e })

  pub choice_stops : (now : ℕ) (why : Refusal) → why ≡ refusals.NoMemory → DidEnd client sole symbol burial limit before now old walked (Err (record { place = state.place; why = why }))
  choice_stops now why is = subst (λ y. DidEnd client sole symbol burial limit before now old walked (Err (record { place = state.place; why = y }))) (sym is) (inr (inl (record {
    own = [];
    went = went_walked;
    part = burials.no_event;
    stops = look_stops client sole old walked (record { place = state.place; why = refusals.NoMemory }) looks place;
    cause = tt;
    busy = λ count e. cc;
  })))

  pub nothing_chosen : (now : ℕ) (done : Buried) → bury_answer burial (state_of seen.before symbol) ≡ Ok [] → done.versions ≡ 0 → done.place ≡ state.place → done.commit ≡ None → DidEnd client sole symbol burial limit before now old walked (Ok done)
  nothing_chosen now done e none at commit = inr (record {
    went = went_walked;
    place = subst (IsWithin old walked) (sym at) place;
    answered = ap (λ n. bury_answer burial (state_of (history_at walked n) symbol)) at ∙ (ap (λ h. bury_answer burial (state_of h symbol)) (then_is []) ∙ e);
    versions = none;
    commit = commit;
  })

  -- ---- the commit

  module _ (numbers : List ℕ) (filled : IsFilled numbers) (chosen : bury_answer burial (state_of seen.before symbol) ≡ Ok numbers) where
    abbrev change : Change
    change = changes.Removed numbers

    pub may_mark : MayMark walked client symbol state change
    may_mark = record { at = seen; none_own = others_refer_not client symbol seen.later later_by_others; fits = bury_fits (state_of seen.before symbol) (versions_numbered seen.before symbol) burial numbers chosen filled }

    -- the element is all that a try puts
    tombs_link_none : (ns : List ℕ) → index_linked (map marks.Tomb ns ++ []) ≡ None
    tombs_link_none [] = refl
    tombs_link_none (n ∷ ns) = refl

    try_of : (was : Option Key) (entry : Key) (body : Bytes) → IsMarkEntry symbol was entry body change → IsTry symbol false ((entry, body) ∷ []) entry
    try_of was entry body e = record {
      first = [];
      body = body;
      element = record { prev = was; changes = marks_of e.row (change ∷ []) };
      is = refl;
      entry_is = (e.kind, e.name);
      spelled = e.spelled;
      before = subst (λ o. Before symbol o []) (sym (tombs_link_none numbers)) of_mark;
      of_kind = ap is_some (tombs_link_none numbers);
    }

    -- the place at which there is something to bury
    busy_at : (new : History) (own : List Event) → Went client sole walked new own → (upto : ℕ) → length walked ≤ upto → HasToBury symbol burial old new upto
    busy_at new own w upto le = record {
      place = state.place;
      within = record { from = place.from; to = let longer = went_longer client sole walked new own w in omega (arith, place.to, longer) };
      before = omega (arith, place.to, le);
      numbers = numbers;
      filled = filled;
      answered = ap (λ h. bury_answer burial (state_of (history_at h state.place) symbol)) w.is ∙ (ap (λ h. bury_answer burial (state_of h symbol)) (then_is w.more) ∙ chosen);
    }

    pub mark_buries : (new : History) (at : ℕ) → Marked client sole symbol state.place change walked new at → (done : Buried) → done.versions ≡ length numbers → done.place ≡ at → done.commit ≡ Some at
        → DidBury client sole symbol burial old new done
    mark_buries new at m done versions placed commit = record {
      numbers = numbers;
      filled = filled;
      was = m.was;
      entry = m.entry;
      body = m.body;
      is_try = try_of m.was m.entry m.body m.is_entry;
      before = m.before;
      newest = m.newest;
      went = went_then client sole old walked m.before [] (events.Put client m.entry m.body ∷ []) went_walked m.went;
      lawful = λ l. m.lawful (went_walked.lawful l);
      answered = ap (λ h. bury_answer burial (state_of h symbol)) before_is ∙ (ap (bury_answer burial) same.1 ∙ (bury_staging burial same.0 (state_of seen.before symbol) ∙ chosen));
      versions = versions;
      place = placed ∙ m.place_is;
      commit = commit ∙ ap Some m.place_is;
    }
      where
        before_is : m.before ≡ (m.went.more ++ seen.later) ++ seen.before
        before_is = m.went.is ∙ (ap (λ h. m.went.more ++ h) seen.split ∙ sym (append_assoc m.went.more seen.later seen.before))

        same : (more : List Piece) × (state_of ((m.went.more ++ seen.later) ++ seen.before) symbol ≡ staging more (state_of seen.before symbol))
        same = quiet_state seen.before (m.went.more ++ seen.later) symbol state.place seen.place (subst (λ h. refers_after h symbol state.place ≡ false) before_is m.quiet)

    pub mark_meets : (new : History) (refused : Refused) → MarkMet client sole symbol state.place change walked new refused → (now : ℕ) → refused.why ≡ refusals.Moved now → DidMeet client sole symbol burial old new now
    mark_meets new refused m now is = record {
      entry = m.entry;
      body = m.body;
      is_try = try_of m.was m.entry m.body m.is_entry;
      showed = m.showed;
      put = went_then client sole old walked m.showed [] (events.Put client m.entry m.body ∷ []) went_walked m.put;
      shown = m.shown ∙ moved;
      dropped = m.dropped;
      busy = record {
        place = state.place;
        within = record { from = place.from; to = omega (arith, place.to, longer) };
        before = omega (arith, m.met.added, moved);
        numbers = numbers;
        filled = filled;
        answered = ap (λ h. bury_answer burial (state_of (history_at h state.place) symbol)) whole.is ∙ (ap (λ h. bury_answer burial (state_of h symbol)) (then_is whole.more) ∙ chosen);
      };
      between = omega (arith, m.met.added, moved);
      met = met_sooner client symbol state.place (length old) new now place.from (subst (IsMet client symbol state.place new) moved m.met);
    }
      where
        same : (a b : ℕ) → refusals.Moved a ≡ refusals.Moved b → a ≡ b
        same a b e = cc

        moved : m.now ≡ now
        moved = same m.now now (sym (ap (λ (r : Refused). r.why) m.refused_is) ∙ is)

        whole : Went client sole walked new (events.Put client m.entry m.body ∷ events.Drop client m.entry ∷ [])
        whole = went_then client sole walked m.showed new (events.Put client m.entry m.body ∷ []) (events.Drop client m.entry ∷ []) m.put m.dropped

        longer : length walked ≤ length new
        longer = went_longer client sole walked new (events.Put client m.entry m.body ∷ events.Drop client m.entry ∷ []) whole

    pub mark_stops : (now : ℕ) (new : History) (refused : Refused) → MarkStopped client sole symbol state.place change limit before now walked new refused → DidStop client sole symbol burial limit before now old new refused
    mark_stops now new refused m = record {
      own = m.own;
      went = w;
      part = part m.own m.part;
      stops = record { after = m.stops.after; before = m.stops.before; split = m.stops.split; place = m.stops.place; later = let longer = went_longer client sole old walked [] went_walked in omega (arith, longer, m.stops.later); few = m.stops.few };
      cause = m.cause;
      busy = λ count e. busy_at new m.own m.went refused.place (omega (arith, m.stops.place, m.stops.later));
    }
      where
        w : Went client sole old new m.own
        w = went_then client sole old walked new [] m.own went_walked m.went

        part : (own : List Event) → MarkPart client symbol state.place change new own → IsPart client symbol (met_in client symbol w.more) own
        part _ no_event = burials.no_event
        part _ (one_put was entry body e) = burials.one_put entry body (try_of was entry body e)
        part _ (one_drop was entry body n e met) = burials.one_drop entry body (try_of was entry body e) (met_counts client symbol state.place old w.more n place.from (subst (λ h. IsMet client symbol state.place h n) w.is met))

    pub mark_faulted : (now : ℕ) (new : History) (refused : Refused) → MarkFaulted client sole symbol state.place change before now walked new refused → DidFault client sole symbol burial before now old new refused
    mark_faulted now new refused m = record {
      done = record { versions = length numbers; place = m.place; commit = Some m.place };
      commit = mark_buries new m.place m.marked (record { versions = length numbers; place = m.place; commit = Some m.place }) refl refl refl;
      why = m.why;
      stops = record { after = m.stops.after; before = m.stops.before; split = m.stops.split; place = m.stops.place; later = let longer = went_longer client sole old walked [] went_walked in omega (arith, longer, m.stops.later); few = m.stops.few };
      rose = m.rose;
    }

    -- the refusal of the commit
    pub mark_refused : (now : ℕ) (new : History) (refused : Refused) → DidMark client sole symbol state.place change limit before now walked new (Err refused) → ((moved : ℕ) → refused.why ≡ refusals.Moved moved → ⊥)
        → DidEnd client sole symbol burial limit before now old new (Err refused)
    mark_refused now new refused d met = elim d [
      | inl m ↦ absurd (met m.now (ap (λ (r : Refused). r.why) m.refused_is))
      | inr rest ↦ elim rest [
        | inl stopped ↦ inr (inl (mark_stops now new refused stopped))
        | inr faulted ↦ inr (inr (mark_faulted now new refused faulted))
      ]
    ]

    pub mark_moved : (now : ℕ) (new : History) (refused : Refused) → DidMark client sole symbol state.place change limit before now walked new (Err refused) → (moved : ℕ) → refused.why ≡ refusals.Moved moved → DidMeet client sole symbol burial old new moved
    mark_moved now new refused d moved is = elim d [
      | inl m ↦ mark_meets new refused m moved is
      | inr rest ↦ elim rest [
        | inl stopped ↦ absurd (subst (HasCause limit before now new refused) is stopped.cause)
        | inr faulted ↦ absurd (cause_clash refused.why faulted.why is)
      ]
    ]
      where
        cause_clash : (why : Refusal) → why ≡ refusals.StoreFault → why ≡ refusals.Moved moved → ⊥
        cause_clash why a b = cc

    -- so a try that was met is made again, and any other refusal is that of the command
    pub mark_judged : (now : ℕ) (new : History) (refused : Refused) (r : Result Tried Refused) → DidMark client sole symbol state.place change limit before now walked new (Err refused) → IsMetBy refused r
        → DidAttempt client sole symbol burial limit before now old new r
    mark_judged now new refused (Ok (tried.Met at)) d m = mark_moved now new refused d at m
    mark_judged now new refused (Ok (tried.Done done)) d m = absurd m
    mark_judged now new refused (Err same) d m = subst (λ (x : Refused). DidEnd client sole symbol burial limit before now old new (Err x)) (sym m.0) (mark_refused now new refused d m.1)

-- a list that is not empty
pub filled_of : (ns : List ℕ) → (ns ≡ [] → ⊥) → IsFilled ns
filled_of [] some = absurd (some refl)
filled_of (n ∷ ns) some = tt

-- what the commit did, of the bucket as it was before the walk
module _ {B : Type 0} (number limit faults : B → ℕ) (sole : B → Bool) (a b : B) (steady : IsSteady number limit faults sole a b) (symbol : Name) (from : ℕ) (c : Change) (now : ℕ) (x y : History) where
  went : (u v : History) (own : List Event) → Went (number b) (sole b) u v own → Went (number b) (sole a) u v own
  went u v own w = record { more = w.more; is = w.is; own_are = w.own_are; alone = λ t. w.alone (steady.stays_sole t); lawful = w.lawful }

  marked : (place : ℕ) → Marked (number b) (sole b) symbol from c x y place → Marked (number b) (sole a) symbol from c x y place
  marked place m = record {
    was = m.was;
    entry = m.entry;
    body = m.body;
    is_entry = m.is_entry;
    before = m.before;
    newest = m.newest;
    went = went x m.before (events.Put (number b) m.entry m.body ∷ []) m.went;
    lawful = m.lawful;
    quiet = m.quiet;
    longer = m.longer;
    place_is = m.place_is;
  }

  weaker : (r : Result ℕ Refused) → DidMark (number b) (sole b) symbol from c (limit b) (faults b) now x y r → DidMark (number b) (sole a) symbol from c (limit b) (faults a) now x y r
  weaker (Ok place) m = marked place m
  weaker (Err refused) d = elim d [
    | inl m ↦ inl (record {
      now = m.now;
      refused_is = m.refused_is;
      was = m.was;
      entry = m.entry;
      body = m.body;
      is_entry = m.is_entry;
      showed = m.showed;
      put = went x m.showed (events.Put (number b) m.entry m.body ∷ []) m.put;
      shown = m.shown;
      dropped = went m.showed y (events.Drop (number b) m.entry ∷ []) m.dropped;
      met = m.met;
    })
    | inr rest ↦ elim rest [
      | inl m ↦ inr (inl (record {
        own = m.own;
        went = went x y m.own m.went;
        part = m.part;
        stops = m.stops;
        cause = cause_sooner (faults a) (faults b) now (limit b) y steady.faults_rise refused refused.why m.cause;
      }))
      | inr m ↦ inr (inr (record { place = m.place; marked = marked m.place m.marked; why = m.why; stops = m.stops; rose = rose_sooner (faults a) (faults b) now steady.faults_rise m.rose }))
    ]
  ]

  pub mark_steady : (r : Result ℕ Refused) → DidMark (number b) (sole b) symbol from c (limit b) (faults b) now x y r → DidMark (number a) (sole a) symbol from c (limit a) (faults a) now x y r
  mark_steady r d =
      subst (λ n. DidMark n (sole a) symbol from c (limit a) (faults a) now x y r) steady.same_number
      (subst (λ l. DidMark (number b) (sole a) symbol from c l (faults a) now x y r) steady.same_limit (weaker r d))
