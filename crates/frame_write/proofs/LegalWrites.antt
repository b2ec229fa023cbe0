-- What all tries did makes a legal reply, for each command that asks for what was made.
use Rattle.std.proofs.Common.{◌≡◌, ◌⊎◌, ℕ, suc, ◌+◌, ◌≤◌, ◌<◌, ℤ, Bool, true, false, List, [], ◌∷◌, ◌++◌, length, take, drop, ◌||◌, refl, ap, sym, ◌∙◌, subst, inl, inr, Option, Some, arith, Result, Ok, Err}
use Rattle.std.specs.Prelude.{map, option_map}
use Rattle.std.specs.List.{list_any, flat_map, AllByRecursion}
use Rattle.base_types.specs.Faults.{Rose}
use Rattle.std.proofs.lemmas.Bool.{true≢false, or_from, or_parts}
use Rattle.std.proofs.lemmas.List.{take-append-drop}
use Rattle.std.proofs.lemmas.List.Folds.{list_any-append}
use Rattle.frame_core.specs.Frames.{Frame}
use Rattle.frame_core.specs.declared.refusal.Refusal.{Refusal}
use Rattle.frame_core.specs.declared.refusal.Refusal.TheVariants as refusals
use Rattle.frame_core.specs.declared.refusal.Refused.{Refused}
use Rattle.key_kind.specs.declared.key.Key.{Key}
use Rattle.key_kind.specs.declared.key.KeyKind.TheVariants as kinds
use Rattle.key_kind.specs.Names.{Name}
use Rattle.key_kind.specs.Keys.{same_kind}
use Rattle.bucket_core.specs.declared.event.Event.{Event}
use Rattle.bucket_core.specs.declared.event.Event.TheVariants as events
use Rattle.bucket_core.specs.declared.event.Change.TheVariants as changes
use Rattle.bucket_core.specs.History.{History, Bytes, history_at}
use Rattle.store_model.specs.Library.{State, state_of, next_number}
use Rattle.store_model.specs.Commits.{IsFilled}
use Rattle.store_model.specs.Snapshots.{library_of}
use Rattle.expr_clause.specs.declared.command.Command.{Command}
use Rattle.expr_clause.specs.declared.command.Command.TheVariants as commands
use Rattle.reply_model.specs.declared.outcome.Outcome.TheVariants as outcomes
use Rattle.reply_model.specs.declared.reply.Reply.{Reply}
use Rattle.reply_model.specs.Answering.{Session, stamp_of, frame_of, committed, ◌then◌}
use Rattle.reply_model.specs.Answering.{answered as answer_of}
use Rattle.reply_model.specs.Windows.{refer_places, library_at}
use Rattle.reply_model.specs.Tries.{put_of, drop_of, IsTry, IsRefused, IsTurn}
use Rattle.reply_model.specs.OwnEvents.{is_last, is_end, IsMeantAt, AnyMarks, IsBeginning}
use Rattle.reply_model.specs.Causes.{MarksAt}
use Rattle.reply_model.specs.Legal.{IsLegalSeen}
use Rattle.reply_model.specs.Runs.{harms}
use Rattle.reply_model.proofs.Harmless.{try_harms_nothing}
use Rattle.reply_model.proofs.Places.{history_at_end}
use Rattle.frame_write.specs.declared.options.Committed.{Committed}
use Rattle.frame_write.specs.declared.options.Options.{Options}
use Rattle.version_chain.specs.Traces.{met_in, Went}
use Rattle.version_chain.specs.Stops.{StopsAt}
use Rattle.frame_write.specs.Tries.{Made, DidCommit, DidTries, DidRefuse, DidRefused, DidStop, IsBusy, IsMet, MetTries, IsPart, no_event, some_puts, some_drops}
use Rattle.frame_write.specs.Writes.{reply_to, IsLegalCall, IsLegalWrite, IsWritten, Never, Always, Whole}
use Rattle.frame_write.proofs.ListLemmas.{map_append}
use Rattle.version_chain.proofs.TraceLemmas.{went_then, went_as, went_longer, same_front, append_assoc, met_in-append}
use Rattle.frame_write.proofs.MeetLemmas.{met_once}
use Rattle.frame_write.proofs.LegalLemmas.{is_refer, no_places, no_own_refer, met_in_window, one_place}
use Rattle.frame_write.proofs.TurnLemmas.{cut_turn, done_turn, append_none}
use Rattle.frame_write.proofs.ReplyLemmas.{commit_went}
use Rattle.frame_write.proofs.CommandLemmas.{IsAskedBy, of_write, last_is_end, of_symbol, are_meant, to_make, memory_refusal, fault_refusal, spent_refusal}
use Rattle.frame_write.proofs.LegalReplies.{answered, referred, cut_legal, done_legal, moved_legal, refused_legal}

-- ---- puts and drops are no Refers

puts_no_refer : (client : ℕ) (puts : List (Key × Bytes)) → list_any is_refer (map (put_of client) puts) ≡ false
puts_no_refer client [] = refl
puts_no_refer client (p ∷ puts) = puts_no_refer client puts

drops_no_refer : (client : ℕ) (puts : List (Key × Bytes)) → list_any is_refer (map (drop_of client) puts) ≡ false
drops_no_refer client [] = refl
drops_no_refer client (p ∷ puts) = drops_no_refer client puts

none_both : (xs ys : List Event) → list_any is_refer xs ≡ false → list_any is_refer ys ≡ false → list_any is_refer (xs ++ ys) ≡ false
none_both xs ys x y = list_any-append is_refer xs ys ∙ or_from _ _ x y

tries_no_refer : (client : ℕ) (symbol : Name) (ts : List (List Event)) → AllByRecursion (IsRefused client symbol true) ts → list_any is_refer (flat_map (λ t. t) ts) ≡ false
tries_no_refer client symbol [] all = refl
tries_no_refer client symbol (t ∷ ts) all =
    none_both t (flat_map (λ t. t) ts) (ap (list_any is_refer) all.0.3 ∙ none_both (map (put_of client) all.0.0) (map (drop_of client) all.0.0) (puts_no_refer client all.0.0) (drops_no_refer client all.0.0)) (tries_no_refer client symbol ts all.1)

part_no_refer : (client : ℕ) (symbol : Name) (from : ℕ) (new : History) (own : List Event) → IsPart client symbol from new own → list_any is_refer own ≡ false
part_no_refer client symbol from new _ no_event = refl
part_no_refer client symbol from new _ (some_puts n puts entry t) = puts_no_refer client (take n puts)
part_no_refer client symbol from new _ (some_drops n puts entry t at m) = none_both (map (put_of client) puts) (map (drop_of client) (take n puts)) (puts_no_refer client puts) (drops_no_refer client (take n puts))

-- ---- puts and drops do not end a command

puts_no_end : (client : ℕ) (symbol : Name) (puts : List (Key × Bytes)) (entry : Key) → IsTry symbol true puts entry → list_any is_end (map (put_of client) puts) ≡ false
puts_no_end client symbol puts entry t = same client puts ∙ try_harms_nothing client symbol true puts entry t
  where
    same : (client : ℕ) (puts : List (Key × Bytes)) → list_any is_end (map (put_of client) puts) ≡ list_any harms (map (put_of client) puts)
    same client [] = refl
    same client (p ∷ puts) = ap (λ b. same_kind p.0.kind kinds.Staged || b) (same client puts)

drops_no_end : (client : ℕ) (puts : List (Key × Bytes)) → list_any is_end (map (drop_of client) puts) ≡ false
drops_no_end client [] = refl
drops_no_end client (p ∷ puts) = drops_no_end client puts

no_end_both : (xs ys : List Event) → list_any is_end xs ≡ false → list_any is_end ys ≡ false → list_any is_end (xs ++ ys) ≡ false
no_end_both xs ys x y = list_any-append is_end xs ys ∙ or_from _ _ x y

no_end_first : (xs ys : List Event) → list_any is_end (xs ++ ys) ≡ false → list_any is_end xs ≡ false
no_end_first xs ys e = (or_parts (list_any is_end xs) (list_any is_end ys) (sym (list_any-append is_end xs ys) ∙ e)).0

tries_no_end : (client : ℕ) (symbol : Name) (ts : List (List Event)) → AllByRecursion (IsRefused client symbol true) ts → list_any is_end (flat_map (λ t. t) ts) ≡ false
tries_no_end client symbol [] all = refl
tries_no_end client symbol (t ∷ ts) all =
    no_end_both t (flat_map (λ t. t) ts) (ap (list_any is_end) all.0.3 ∙ no_end_both (map (put_of client) all.0.0) (map (drop_of client) all.0.0) (puts_no_end client symbol all.0.0 all.0.1 all.0.2) (drops_no_end client all.0.0)) (tries_no_end client symbol ts all.1)

part_no_end : (client : ℕ) (symbol : Name) (from : ℕ) (new : History) (own : List Event) → IsPart client symbol from new own → list_any is_end own ≡ false
part_no_end client symbol from new _ no_event = refl
part_no_end client symbol from new _ (some_puts n puts entry t) =
    no_end_first (map (put_of client) (take n puts)) (map (put_of client) (drop n puts))
    (ap (list_any is_end) (sym (map_append (put_of client) (take n puts) (drop n puts)) ∙ ap (map (put_of client)) (take-append-drop n puts)) ∙ puts_no_end client symbol puts entry t)
part_no_end client symbol from new _ (some_drops n puts entry t at m) = no_end_both (map (put_of client) puts) (map (drop_of client) (take n puts)) (puts_no_end client symbol puts entry t) (drops_no_end client (take n puts))

-- so the window has no place of an own Refer
places_none : (client : ℕ) (sole : Bool) (old new : History) (own : List Event) → Went client sole old new own → list_any is_refer own ≡ false → refer_places client (length old) new ≡ []
places_none client sole old new own w none = subst (λ h. refer_places client (length old) h ≡ []) (sym w.is) (no_places client old w.more (no_own_refer client w.more own w.own_are none))

-- others' Refers add up
met_sum : (client : ℕ) (sole : Bool) (symbol : Name) (old mid new : History) (first second whole : List Event) (a : Went client sole old mid first) (b : Went client sole mid new second) (w : Went client sole old new whole)
    → met_in client symbol w.more ≡ met_in client symbol b.more + met_in client symbol a.more
met_sum client sole symbol old mid new first second whole a b w =
    let is : new ≡ (b.more ++ a.more) ++ old = b.is ∙ (ap (λ h. b.more ++ h) a.is ∙ sym (append_assoc b.more a.more old)) in
    ap (met_in client symbol) (same_front w.more (b.more ++ a.more) old (sym w.is ∙ is)) ∙ met_in-append client symbol b.more a.more

module _ (s : Session) (limit : ℕ) (asks : Command) (sole : Bool) (symbol : Name) (Asked : Made → Type 0) (Refuses : History → Refusal → Type 0) (Wants : History → Type 0) (Loses : History → ℕ → ℕ → Type 0)
    (k : IsAskedBy s asks symbol Asked Refuses Wants Loses) (old new : History) (faulted : Bool) where
  -- the reply to a result is legal
  abbrev IsLegalResult : Result Committed Refused → Type 0
  IsLegalResult r = IsLegalSeen new (record { session = s; limit = limit }) asks (reply_to r) (record { start = length old; stop = length new; faulted = faulted })

  -- a commit behind refused tries
  module _ (count : ℕ) (mid : History) (done : Committed) (r : DidRefused s.client sole symbol old mid count) (c : DidCommit s.client sole symbol Asked mid new done) where
    abbrev all_tries : List Event
    all_tries = flat_map (λ t. t) r.tries

    abbrev last_try : List Event
    last_try = map (put_of s.client) c.made.puts ++ events.Refer s.client symbol c.was c.entry c.made.list ∷ []

    last_went : Went s.client sole mid new last_try
    last_went = commit_went s.client sole symbol Asked mid new done c

    whole_went : Went s.client sole old new (all_tries ++ last_try)
    whole_went = went_then s.client sole old mid new all_tries last_try r.went last_went

    front_went : Went s.client sole old c.made.before (all_tries ++ map (put_of s.client) c.made.puts)
    front_went = went_then s.client sole old mid c.made.before all_tries (map (put_of s.client) c.made.puts) r.went c.went

    counted : length r.tries ≤ met_in s.client symbol whole_went.more
    counted = let sum = met_sum s.client sole symbol old mid new all_tries last_try (all_tries ++ last_try) r.went last_went whole_went in omega (arith, r.counted, r.met, sum)

    longer : length old ≤ length c.made.before
    longer = went_longer s.client sole old c.made.before (all_tries ++ map (put_of s.client) c.made.puts) front_went

    none_before : refer_places s.client (length old) c.made.before ≡ []
    none_before = places_none s.client sole old c.made.before (all_tries ++ map (put_of s.client) c.made.puts) front_went
        (none_both all_tries (map (put_of s.client) c.made.puts) (tries_no_refer s.client symbol r.tries r.refused) (puts_no_refer s.client c.made.puts))

    pub commit_is_legal : count < s.tries → IsLegalResult (Ok (record { version = done.version; place = done.place }))
    commit_is_legal few = done_legal s limit asks symbol Asked Refuses Wants Loses k old new faulted done.version done.place whole_went.more c.made c.asked c.was c.entry r.tries r.refused (omega (arith, r.counted, few)) whole_went.is
        counted whole_went.own_are c.is_try c.newest longer none_before c.version c.place

    -- the store failed, and the commit stands
    pub faulted_is_legal : count < s.tries → (before now : ℕ) → (Rose before now → faulted ≡ true) → (place : ℕ) → StopsAt s.client mid new (record { place = place; why = refusals.StoreFault }) → Rose before now
        → IsLegalResult (Err (record { place = place; why = refusals.StoreFault }))
    faulted_is_legal few before now rises place stops rose =
        let here = met_in_window s.client symbol old new whole_went.more faulted whole_went.is in
        let early : length old ≤ length mid = went_longer s.client sole old mid all_tries r.went in
        let places : refer_places s.client (length old) new ≡ suc (length c.made.before) ∷ [] =
        ap (refer_places s.client (length old)) c.newest ∙ one_place s.client old c.made.before symbol c.was c.entry c.made.list longer none_before in
        let reply : Reply = reply_to (Err (record { place = place; why = refusals.StoreFault })) in
        cut_legal s limit asks symbol Asked Refuses Wants Loses k old new faulted place refusals.StoreFault whole_went.more (all_tries ++ last_try) whole_went.is whole_went.own_are
        (inl (record {
          more = [];
          whole = subst (IsTurn new s (record { start = length old; stop = length new; faulted = faulted }) symbol true true false AnyMarks) (sym (append_none (all_tries ++ last_try)))
              (done_turn new s (record { start = length old; stop = length new; faulted = faulted }) symbol r.tries r.refused (omega (arith, counted, here)) (omega (arith, r.counted, few)) c.made.puts c.was c.entry c.made.list c.is_try);
        }))
        (record { after = stops.after; before = stops.before; split = stops.split; place = stops.place; later = omega (arith, early, stops.later); few = stops.few }) refl refl
        (inr (suc (length c.made.before), places)) (λ f. absurd (true≢false f))
        (are_meant asks symbol k.makes new s reply (refer_places s.client (length old) new) (subst (AllByRecursion (IsMeantAt new s asks reply)) (sym places) (
          record {
            symbol = symbol;
            list = c.made.list;
            outcome = outcomes.Committed (next_number (state_of c.made.before symbol));
            symbol_is = of_symbol asks symbol k.makes;
            event = referred s limit asks symbol Asked Refuses Wants Loses k old new faulted c.made c.was c.entry c.newest (suc (length c.made.before)) refl;
            answered = answered s limit asks symbol Asked Refuses Wants Loses k old new faulted c.made c.asked c.was c.entry c.newest (suc (length c.made.before)) (suc (length c.made.before)) refl;
          },
          tt,
        )))
        (fault_refusal asks symbol k.makes new (record { session = s; limit = limit }) reply (record { start = length old; stop = length new; faulted = faulted }) (rises rose))

  pub moved_is_legal : (place : ℕ) (r : DidRefused s.client sole symbol old new s.tries) → IsMet s.client symbol (length old) new place → MetTries s.client symbol Wants Loses s.tries old new place → IsLegalResult (Err (record { place = place; why = refusals.Moved place }))
  moved_is_legal place r m each =
      moved_legal s limit asks symbol Asked Refuses Wants Loses k old new faulted place r.went.more r.tries r.refused r.counted r.went.is r.met r.went.own_are m each
      (places_none s.client sole old new (flat_map (λ t. t) r.tries) r.went (tries_no_refer s.client symbol r.tries r.refused))

  -- the library refuses behind refused tries
  pub refusal_is_legal : (count : ℕ) (mid : History) → count < s.tries → (r : DidRefused s.client sole symbol old mid count) → (place : ℕ) (why : Refusal) → DidRefuse s.client sole Refuses mid new (record { place = place; why = why })
      → IsLegalResult (Err (record { place = place; why = why }))
  refusal_is_legal count mid few r place why d =
      let tried = flat_map (λ t. t) r.tries in
      let w = went_as s.client sole old new (tried ++ []) tried (append_none tried) (went_then s.client sole old mid new tried [] r.went d.went) in
      let sum = met_sum s.client sole symbol old mid new tried [] tried r.went d.went w in
      let early : length old ≤ length mid = went_longer s.client sole old mid tried r.went in
      refused_legal s limit asks symbol Asked Refuses Wants Loses k old new faulted place why w.more r.tries r.refused (omega (arith, r.counted, few)) w.is (omega (arith, r.counted, r.met, sum)) w.own_are
      (omega (arith, early, d.place.from)) d.place.to d.refuses (places_none s.client sole old new tried w (tries_no_refer s.client symbol r.tries r.refused))

  -- a call failed behind refused tries
  module _ (before now : ℕ) (rises : Rose before now → faulted ≡ true) (count : ℕ) (mid : History) (few : count < s.tries) (r : DidRefused s.client sole symbol old mid count) (place : ℕ) (why : Refusal)
      (d : DidStop s.client sole symbol limit before now (length mid) mid new (record { place = place; why = why })) where
    stop_went : Went s.client sole old new (flat_map (λ t. t) r.tries ++ d.own)
    stop_went = went_then s.client sole old mid new (flat_map (λ t. t) r.tries) d.own r.went d.went

    stop_places : refer_places s.client (length old) new ≡ []
    stop_places = places_none s.client sole old new (flat_map (λ t. t) r.tries ++ d.own) stop_went
        (none_both (flat_map (λ t. t) r.tries) d.own (tries_no_refer s.client symbol r.tries r.refused) (part_no_refer s.client symbol (length mid) new d.own d.part))

    stop_turn : IsBeginning (IsTurn new s (record { start = length old; stop = length new; faulted = faulted }) symbol true true false AnyMarks) (flat_map (λ t. t) r.tries ++ d.own)
        ⊎ IsBeginning (IsTurn new s (record { start = length old; stop = length new; faulted = faulted }) symbol true false false AnyMarks) (flat_map (λ t. t) r.tries ++ d.own)
    stop_turn =
        let sum = met_sum s.client sole symbol old mid new (flat_map (λ t. t) r.tries) d.own (flat_map (λ t. t) r.tries ++ d.own) r.went d.went stop_went in
        let here = met_in_window s.client symbol old new stop_went.more faulted stop_went.is in
        cut_turn new s (record { start = length old; stop = length new; faulted = faulted }) symbol r.tries r.refused d.own (length mid) new (omega (arith, r.counted, few)) (omega (arith, r.counted, r.met, sum, here))
        (λ at m. let one : 1 ≤ met_in s.client symbol d.went.more = met_once s.client symbol mid d.went.more at (subst (λ h. IsMet s.client symbol (length mid) h at) d.went.is m) in omega (arith, r.counted, r.met, sum, here, one)) d.part

    stop_at : StopsAt s.client old new (record { place = place; why = why })
    stop_at =
        let early : length old ≤ length mid = went_longer s.client sole old mid (flat_map (λ t. t) r.tries) r.went in
        record { after = d.stops.after; before = d.stops.before; split = d.stops.split; place = d.stops.place; later = omega (arith, early, d.stops.later); few = d.stops.few }

    stop_no_end : list_any (is_last asks) (flat_map (λ t. t) r.tries ++ d.own) ≡ false
    stop_no_end = same (flat_map (λ t. t) r.tries ++ d.own)
        ∙ no_end_both (flat_map (λ t. t) r.tries) d.own (tries_no_end s.client symbol r.tries r.refused) (part_no_end s.client symbol (length mid) new d.own d.part)
      where
        same : (es : List Event) → list_any (is_last asks) es ≡ list_any is_end es
        same [] = refl
        same (e ∷ es) = (λ i. last_is_end asks symbol k.makes e i || same es i)

  module _ (before now : ℕ) (rises : Rose before now → faulted ≡ true) (count : ℕ) (mid : History) (few : count < s.tries) (r : DidRefused s.client sole symbol old mid count) (place : ℕ) where
    pub no_memory_is_legal : (d : DidStop s.client sole symbol limit before now (length mid) mid new (record { place = place; why = refusals.NoMemory })) → IsLegalResult (Err (record { place = place; why = refusals.NoMemory }))
    no_memory_is_legal d =
        let w = stop_went before now rises count mid few r place refusals.NoMemory d in
        let reply : Reply = reply_to (Err (record { place = place; why = refusals.NoMemory })) in
        cut_legal s limit asks symbol Asked Refuses Wants Loses k old new faulted place refusals.NoMemory w.more (flat_map (λ t. t) r.tries ++ d.own) w.is w.own_are
        (stop_turn before now rises count mid few r place refusals.NoMemory d) (stop_at before now rises count mid few r place refusals.NoMemory d) refl refl
        (sym (stop_places before now rises count mid few r place refusals.NoMemory d)) (λ f. stop_no_end before now rises count mid few r place refusals.NoMemory d)
        (are_meant asks symbol k.makes new s reply (refer_places s.client (length old) new) tt) (memory_refusal asks symbol k.makes new (record { session = s; limit = limit }) reply (record { start = length old; stop = length new; faulted = faulted }))

    pub fault_is_legal : (d : DidStop s.client sole symbol limit before now (length mid) mid new (record { place = place; why = refusals.StoreFault })) → IsLegalResult (Err (record { place = place; why = refusals.StoreFault }))
    fault_is_legal d =
        let w = stop_went before now rises count mid few r place refusals.StoreFault d in
        let none = stop_places before now rises count mid few r place refusals.StoreFault d in
        let reply : Reply = reply_to (Err (record { place = place; why = refusals.StoreFault })) in
        cut_legal s limit asks symbol Asked Refuses Wants Loses k old new faulted place refusals.StoreFault w.more (flat_map (λ t. t) r.tries ++ d.own) w.is w.own_are
        (stop_turn before now rises count mid few r place refusals.StoreFault d) (stop_at before now rises count mid few r place refusals.StoreFault d) refl refl
        (inl (sym none)) (λ f. absurd (true≢false f))
        (are_meant asks symbol k.makes new s reply (refer_places s.client (length old) new) (subst (AllByRecursion (IsMeantAt new s asks reply)) (sym none) tt))
        (fault_refusal asks symbol k.makes new (record { session = s; limit = limit }) reply (record { start = length old; stop = length new; faulted = faulted }) (rises d.cause))

    pub spent_is_legal : (full : ℕ) → (d : DidStop s.client sole symbol limit before now (length mid) mid new (record { place = place; why = refusals.Spent full })) → IsBusy Wants mid new place (refusals.Spent full)
        → IsLegalResult (Err (record { place = place; why = refusals.Spent full }))
    spent_is_legal full d busy =
        let w = stop_went before now rises count mid few r place (refusals.Spent full) d in
        let at = stop_at before now rises count mid few r place (refusals.Spent full) d in
        let early : length old ≤ length mid = went_longer s.client sole old mid (flat_map (λ t. t) r.tries) r.went in
        let reply : Reply = reply_to (Err (record { place = place; why = refusals.Spent full })) in
        cut_legal s limit asks symbol Asked Refuses Wants Loses k old new faulted place (refusals.Spent full) w.more (flat_map (λ t. t) r.tries ++ d.own) w.is w.own_are
        (stop_turn before now rises count mid few r place (refusals.Spent full) d) at refl refl
        (sym (stop_places before now rises count mid few r place (refusals.Spent full) d)) (λ f. stop_no_end before now rises count mid few r place (refusals.Spent full) d)
        (are_meant asks symbol k.makes new s reply (refer_places s.client (length old) new) tt)
        (spent_refusal asks symbol k.makes new (record { session = s; limit = limit }) reply (record { start = length old; stop = length new; faulted = faulted }) full (record {
          here = d.cause.1;
          full = d.cause.0.1;
          busy = inr (to_make asks symbol k.makes new (record { session = s; limit = limit }) reply (length old) place refl
              (busy.0, omega (arith, early, busy.1), busy.2, k.wants (history_at new busy.0) busy.3 (library_at new busy.0) busy.0));
        }))

    pub stop_is_legal : (why : Refusal) → DidStop s.client sole symbol limit before now (length mid) mid new (record { place = place; why = why }) → IsBusy Wants mid new place why → IsLegalResult (Err (record { place = place; why = why }))
    stop_is_legal refusals.NoMemory d busy = no_memory_is_legal d
    stop_is_legal refusals.StoreFault d busy = fault_is_legal d
    stop_is_legal (refusals.Spent full) d busy = spent_is_legal full d busy
    stop_is_legal why d busy = absurd d.cause

-- ---- all tries

module _ (s : Session) (limit : ℕ) (asks : Command) (sole : Bool) (symbol : Name) (Asked : Made → Type 0) (Refuses : History → Refusal → Type 0) (Wants : History → Type 0) (Loses : History → ℕ → ℕ → Type 0)
    (k : IsAskedBy s asks symbol Asked Refuses Wants Loses) (before now : ℕ) (old new : History) where
  seen_is_legal : (faulted : Bool) → (Rose before now → faulted ≡ true) → (result : Result Committed Refused) → DidTries s.client sole symbol Asked Refuses Wants Loses s.tries limit before now old new result
      → IsLegalSeen new (record { session = s; limit = limit }) asks (reply_to result) (record { start = length old; stop = length new; faulted = faulted })
  seen_is_legal faulted rises (Ok done) d = commit_is_legal s limit asks sole symbol Asked Refuses Wants Loses k old new faulted d.count d.mid done d.refused d.last d.few
  seen_is_legal faulted rises (Err refused) d = elim d [
    | inl all ↦ subst (λ y. IsLegalSeen new (record { session = s; limit = limit }) asks (reply_to (Err (record { place = refused.place; why = y }))) (record { start = length old; stop = length new; faulted = faulted })) (sym all.why)
        (moved_is_legal s limit asks sole symbol Asked Refuses Wants Loses k old new faulted refused.place all.all all.met all.each)
    | inr t ↦ elim t.last [
      | inl failed ↦ elim failed.0 [
        | inl stop ↦ stop_is_legal s limit asks sole symbol Asked Refuses Wants Loses k old new faulted before now rises t.count t.mid t.few t.refused refused.place refused.why stop failed.1
        | inr f ↦ subst (λ y. IsLegalSeen new (record { session = s; limit = limit }) asks (reply_to (Err (record { place = refused.place; why = y }))) (record { start = length old; stop = length new; faulted = faulted })) (sym f.why)
            (faulted_is_legal s limit asks sole symbol Asked Refuses Wants Loses k old new faulted t.count t.mid f.done t.refused f.commit t.few before now rises refused.place
            (subst (λ y. StopsAt s.client t.mid new (record { place = refused.place; why = y })) f.why f.stops) f.rose)
      ]
      | inr e ↦ refusal_is_legal s limit asks sole symbol Asked Refuses Wants Loses k old new faulted t.count t.mid t.few t.refused refused.place refused.why e
    ]
  ]

  -- the reply to the command is legal
  pub tries_are_legal : (result : Result Committed Refused) → DidTries s.client sole symbol Asked Refuses Wants Loses s.tries limit before now old new result → IsLegalCall s asks limit before now old new result
  tries_are_legal result d = λ faulted rises. (
    omega arith,
    subst (λ h. IsLegalSeen h (record { session = s; limit = limit }) asks (reply_to result) (record { start = length old; stop = length new; faulted = faulted })) (sym (history_at_end new))
        (seen_is_legal faulted rises result d),
  )

-- ---- a write

-- a session that brings the frame asks for it
write_asks : (s : Session) (symbol : Name) (frame : Frame) (options : Options) (n : ℕ) (asked : Option ℤ) → frame_of s n ≡ Some (Ok frame) → stamp_of s asked ≡ options.at
    → IsAskedBy s (commands.Write symbol n asked options.prune) symbol (IsWritten symbol frame options) Never Always Whole
write_asks s symbol frame options n asked frame_is stamp_is = record {
  makes = of_write;
  answers = λ m w l p. answer_is (library_of m.before).state ∙ (λ i. Some (record { outcome = outcomes.Committed (next_number (state_of m.before symbol)); marks = sym w.list i }));
  filled = λ m w. subst IsFilled (sym w.list) tt;
  refuses = λ h why r. absurd r;
  wants = λ h w l p. subst MarksAt (sym (answer_is (library_of h).state)) (inl (λ e. absurd cc));
  loses = λ h limit reply q z l. absurd l;
}
  where
    answer_is : (state : Name → State) → option_map (λ f. answer_of (f then (λ g. Ok (committed (state symbol) options.prune (changes.Wrote g (stamp_of s asked)))))) (frame_of s n) ≡ Some (committed (state symbol) options.prune (changes.Wrote frame options.at))
    answer_is state = ap (option_map (λ f. answer_of (f then (λ g. Ok (committed (state symbol) options.prune (changes.Wrote g (stamp_of s asked))))))) frame_is
        ∙ ap (λ at. Some (committed (state symbol) options.prune (changes.Wrote frame at))) stamp_is

pub write_is_legal : (client : ℕ) (sole : Bool) (symbol : Name) (frame : Frame) (options : Options) (limit before now : ℕ) (old new : History) (result : Result Committed Refused)
    → DidTries client sole symbol (IsWritten symbol frame options) Never Always Whole options.tries limit before now old new result → IsLegalWrite limit client options.tries symbol frame options.at options.prune before now old new result
write_is_legal client sole symbol frame options limit before now old new result d = λ s n asked b.
    tries_are_legal s limit (commands.Write symbol n asked options.prune) sole symbol (IsWritten symbol frame options) Never Always Whole (write_asks s symbol frame options n asked b.frame_is b.stamp_is) before now old new result
    (subst (λ c. DidTries c sole symbol (IsWritten symbol frame options) Never Always Whole s.tries limit before now old new result) (sym b.client_is)
    (subst (λ t. DidTries client sole symbol (IsWritten symbol frame options) Never Always Whole t limit before now old new result) (sym b.tries_are) d))
