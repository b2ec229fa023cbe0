-- What all tries of a burial did makes a legal reply.
use Rattle.std.proofs.Common.{◌≡◌, ◌⊎◌, ℕ, suc, ◌+◌, ◌-◌, ◌≤◌, ◌<◌, Bool, true, false, ◌||◌, List, [], ◌∷◌, ◌++◌, length, refl, ap, sym, ◌∙◌, subst, inl, inr, cond, not, nat_eq, Option, Some, None, arith, Result, Ok, Err, length-append}
use Rattle.std.specs.Prelude.{⊤, map, filter, reverse, unwrap_or, MatchBool}
use Rattle.std.specs.List.{list_any, flat_map, AllByRecursion}
use Rattle.std.proofs.lemmas.Bool.{true≢false, or_from, eqb-true}
use Rattle.std.proofs.lemmas.List.{reverse-reverse}
use Rattle.std.proofs.lemmas.List.Folds.{list_any-append}
use Rattle.base_types.specs.Faults.{Rose}
use Rattle.frame_core.specs.declared.refusal.Asked.{Asked}
use Rattle.frame_core.specs.declared.refusal.Asked.TheVariants as asks
use Rattle.frame_core.specs.declared.refusal.Refusal.{Refusal}
use Rattle.frame_core.specs.declared.refusal.Refusal.TheVariants as refusals
use Rattle.frame_core.specs.declared.refusal.Refused.{Refused}
use Rattle.frame_core.specs.RawFrames.{unless}
use Rattle.key_kind.specs.declared.key.Key.{Key}
use Rattle.key_kind.specs.declared.key.KeyKind.TheVariants as kinds
use Rattle.key_kind.specs.Keys.{same_kind}
use Rattle.key_kind.specs.Names.{Name}
use Rattle.bucket_core.specs.declared.event.Change.TheVariants as changes
use Rattle.bucket_core.specs.declared.event.Event.{Event}
use Rattle.bucket_core.specs.declared.event.Event.TheVariants as events
use Rattle.bucket_core.specs.History.{History, Bytes, author, history_at, event_at}
use Rattle.store_model.specs.Library.{State, state_of}
use Rattle.store_model.specs.Commits.{IsFilled}
use Rattle.store_model.specs.Snapshots.{Library}
use Rattle.version_chain.specs.States.{IsWithin}
use Rattle.version_chain.specs.Traces.{met_in, Went, GoesOn}
use Rattle.version_chain.specs.Stops.{is_fault, StopsAt}
use Rattle.version_chain.specs.Marking.{IsMet}
use Rattle.version_chain.proofs.TraceLemmas.{append_assoc, own_of-append, own_of-one, went_then, went_as, went_longer, same_front, met_in-append}
use Rattle.version_chain.proofs.MeetLemmas.{event_at_end}
use Rattle.reply_model.specs.declared.outcome.Outcome.{Outcome}
use Rattle.reply_model.specs.declared.outcome.Outcome.TheVariants as outcomes
use Rattle.reply_model.specs.declared.reply.Reply.{Reply}
use Rattle.reply_model.specs.Answering.{Session, Answer, answered, ◌then◌, refuse_if, removed}
use Rattle.reply_model.specs.Answers.{answer_of, answer}
use Rattle.reply_model.specs.CommitAnswers.{first_absent, ascending, to_bury, bury_answer, buried_outcome}
use Rattle.reply_model.specs.Kinds.{kind_of, kind_symbol, burial_command, Burial, Listed, Older}
use Rattle.reply_model.specs.Losses.{FindsGone}
use Rattle.reply_model.specs.Causes.{MarksAt, IsBeside, IsMoved, IsSpent, HasToMake, makes_version, MakesAt}
use Rattle.reply_model.specs.Moves.{AreMetTries}
use Rattle.reply_model.proofs.Moves.{one_fewer, own_nowhere, tries_later}
use Rattle.reply_model.specs.Windows.{Window, Client, library_at, own_events, symbol_of, refer_places, refers_by_others, is_cut, is_answered, is_store_fault, AreCommits}
use Rattle.reply_model.specs.Tries.{put_of, drop_of, one_if, IsTry, IsRefused, IsTurn}
use Rattle.reply_model.specs.OwnEvents.{AnyMarks, IsBeginning, IsMeantAt, is_end, is_done}
use Rattle.reply_model.specs.Legal.{IsLegalOutcome, IsLegalSeen}
use Rattle.reply_model.specs.Rows.{IsAnswer}
use Rattle.reply_model.proofs.Places.{history_at_end}
use Rattle.reply_model.specs.Runs.{harms}
use Rattle.reply_model.proofs.Harmless.{try_harms_nothing}
use Rattle.reply_model.proofs.Later.{history_at_later}
use Rattle.prune_rule.specs.declared.burying.Buried.{Buried}
use Rattle.prune_rule.specs.Tries.{DidBury, DidNothing, DidRefuse, DidStop, DidRefused, DidTries, MetTries, Buries, Whole, IsPart, no_event, one_put, one_drop}
use Rattle.prune_rule.specs.Replies.{commits_of, reply_to, IsLegalBurial}
use Rattle.prune_rule.proofs.WindowLemmas.{is_refer, own_in_window, met_in_window, no_places, no_own_refer, one_place}
use Rattle.prune_rule.proofs.TurnLemmas.{done_turn, open_turn, cut_turn, append_none}
use Rattle.prune_rule.proofs.SeenLemmas.{kind_is, SeenFacts, seen_of}

-- ---- by what is buried

on_true : {A : Type 0} (B : Type 0) (b : Bool) → b ≡ true → A → MatchBool b A B
on_true {A} B b is a = subst (λ x. MatchBool x A B) (sym is) a

on_false : (A : Type 0) {B : Type 0} (b : Bool) → b ≡ false → B → MatchBool b A B
on_false A {B} b is x = subst (λ y. MatchBool y A B) (sym is) x

symbol_is : (symbol : Name) (burial : Burial) → symbol_of (burial_command symbol burial) ≡ Some symbol
symbol_is symbol burial = ap kind_symbol (kind_is symbol burial)

-- the answer of what is buried
abbrev answer_from : Burial → Result (List ℕ) Refusal → Option Answer
answer_from burial r = Some (answered (r then λ ns. Ok (record { outcome = buried_outcome burial (length ns); marks = removed ns })))

answer_is : (s : Session) (listed l : Library) (place : ℕ) (symbol : Name) (burial : Burial) → answer s listed l place (burial_command symbol burial) ≡ answer_from burial (bury_answer burial (l.state symbol))
answer_is s listed l place symbol burial = ap (answer_of s listed l place (burial_command symbol burial)) (kind_is symbol burial)

-- kinds of outcomes
not_cut : (burial : Burial) (n : ℕ) → is_cut (buried_outcome burial n) ≡ false
not_cut (Listed versions) n = refl
not_cut Older n = refl

no_fault : (burial : Burial) (n : ℕ) → is_store_fault (buried_outcome burial n) ≡ false
no_fault (Listed versions) n = refl
no_fault Older n = refl

is_done_with : (burial : Burial) (n place : ℕ) (commits : List ℕ) → is_done (record { place = place; listed = None; commits = commits; left = []; outcome = buried_outcome burial n }) ≡ not (nat_eq (length commits) 0)
is_done_with (Listed versions) n place commits = refl
is_done_with Older n place commits = refl

ok_outcome : (h : History) (client : Client) (symbol : Name) (burial : Burial) (reply : Reply) (w : Window) (n : ℕ) → IsAnswer h client (burial_command symbol burial) reply → IsLegalOutcome h client (burial_command symbol burial) reply w (buried_outcome burial n)
ok_outcome h client symbol (Listed versions) reply w n a = a
ok_outcome h client symbol Older reply w n a = a

unknown_outcome : (h : History) (client : Client) (symbol : Name) (burial : Burial) (reply : Reply) (w : Window) → IsAnswer h client (burial_command symbol burial) reply → IsLegalOutcome h client (burial_command symbol burial) reply w (outcomes.Refused refusals.NoSuchSymbol)
unknown_outcome h client symbol (Listed versions) reply w a = a
unknown_outcome h client symbol Older reply w a = a

absent_outcome : (h : History) (client : Client) (symbol : Name) (burial : Burial) (reply : Reply) (w : Window) (asked : Asked) → IsAnswer h client (burial_command symbol burial) reply → IsLegalOutcome h client (burial_command symbol burial) reply w (outcomes.Refused (refusals.NoSuchVersion asked))
absent_outcome h client symbol (Listed versions) reply w asked a = a
absent_outcome h client symbol Older reply w asked a = a

-- the answer that refuses so
abbrev declined : Refusal → Result (List ℕ) Refusal
declined why = Err why

-- the refusals of an answer
bury_refusals : (burial : Burial) (st : State) (why : Refusal) → bury_answer burial st ≡ Err why → (refusals.NoSuchSymbol ≡ why) ⊎ ((asked : Asked) × (refusals.NoSuchVersion asked ≡ why))
bury_refusals burial st why e = by st.has_reference e
  where
    same : (a b : Refusal) → declined a ≡ declined b → a ≡ b
    same a b e = cc

    asked_for : (burial : Burial) → to_bury burial st ≡ Err why → (asked : Asked) × (refusals.NoSuchVersion asked ≡ why)
    asked_for (Listed None) g = cc
    asked_for Older g = cc
    asked_for (Listed (Some numbers)) g = of (first_absent st numbers) g
      where
        of : (o : Option ℕ) → unless o (λ n. refusals.NoSuchVersion (asks.Number n)) (Ok (ascending numbers)) ≡ Err why → (asked : Asked) × (refusals.NoSuchVersion asked ≡ why)
        of None g = cc
        of (Some n) g = (asks.Number n, same (refusals.NoSuchVersion (asks.Number n)) why g)

    by : (b : Bool) → refuse_if (not b) refusals.NoSuchSymbol (to_bury burial st) ≡ Err why → (refusals.NoSuchSymbol ≡ why) ⊎ ((asked : Asked) × (refusals.NoSuchVersion asked ≡ why))
    by true g = inr (asked_for burial g)
    by false g = inl (same refusals.NoSuchSymbol why g)

-- ---- own events that are no Refers

none_both : (xs ys : List Event) → list_any is_refer xs ≡ false → list_any is_refer ys ≡ false → list_any is_refer (xs ++ ys) ≡ false
none_both xs ys x y = list_any-append is_refer xs ys ∙ or_from _ _ x y

puts_no_refer : (client : ℕ) (puts : List (Key × Bytes)) → list_any is_refer (map (put_of client) puts) ≡ false
puts_no_refer client [] = refl
puts_no_refer client (p ∷ puts) = puts_no_refer client puts

drops_no_refer : (client : ℕ) (puts : List (Key × Bytes)) → list_any is_refer (map (drop_of client) puts) ≡ false
drops_no_refer client [] = refl
drops_no_refer client (p ∷ puts) = drops_no_refer client puts

tries_no_refer : (client : ℕ) (symbol : Name) (ts : List (List Event)) → AllByRecursion (IsRefused client symbol false) ts → list_any is_refer (flat_map (λ t. t) ts) ≡ false
tries_no_refer client symbol [] all = refl
tries_no_refer client symbol (t ∷ ts) all =
    none_both t (flat_map (λ t. t) ts) (ap (list_any is_refer) all.0.3 ∙ none_both (map (put_of client) all.0.0) (map (drop_of client) all.0.0) (puts_no_refer client all.0.0) (drops_no_refer client all.0.0)) (tries_no_refer client symbol ts all.1)

part_no_refer : (client : ℕ) (symbol : Name) (m : ℕ) (own : List Event) → IsPart client symbol m own → list_any is_refer own ≡ false
part_no_refer client symbol m _ no_event = refl
part_no_refer client symbol m _ (one_put entry body t) = refl
part_no_refer client symbol m _ (one_drop entry body t one) = refl

-- ---- nor end a command

no_end_both : (xs ys : List Event) → list_any is_end xs ≡ false → list_any is_end ys ≡ false → list_any is_end (xs ++ ys) ≡ false
no_end_both xs ys x y = list_any-append is_end xs ys ∙ or_from _ _ x y

puts_no_end : (client : ℕ) (symbol : Name) (puts : List (Key × Bytes)) (entry : Key) → IsTry symbol false puts entry → list_any is_end (map (put_of client) puts) ≡ false
puts_no_end client symbol puts entry t = same client puts ∙ try_harms_nothing client symbol false puts entry t
  where
    same : (client : ℕ) (puts : List (Key × Bytes)) → list_any is_end (map (put_of client) puts) ≡ list_any harms (map (put_of client) puts)
    same client [] = refl
    same client (p ∷ puts) = ap (λ b. same_kind p.0.kind kinds.Staged || b) (same client puts)

drops_no_end : (client : ℕ) (puts : List (Key × Bytes)) → list_any is_end (map (drop_of client) puts) ≡ false
drops_no_end client [] = refl
drops_no_end client (p ∷ puts) = drops_no_end client puts

tries_no_end : (client : ℕ) (symbol : Name) (ts : List (List Event)) → AllByRecursion (IsRefused client symbol false) ts → list_any is_end (flat_map (λ t. t) ts) ≡ false
tries_no_end client symbol [] all = refl
tries_no_end client symbol (t ∷ ts) all =
    no_end_both t (flat_map (λ t. t) ts) (ap (list_any is_end) all.0.3 ∙ no_end_both (map (put_of client) all.0.0) (map (drop_of client) all.0.0) (puts_no_end client symbol all.0.0 all.0.1 all.0.2) (drops_no_end client all.0.0)) (tries_no_end client symbol ts all.1)

part_no_end : (client : ℕ) (symbol : Name) (m : ℕ) (own : List Event) → IsPart client symbol m own → list_any is_end own ≡ false
part_no_end client symbol m _ no_event = refl
part_no_end client symbol m _ (one_put entry body t) = puts_no_end client symbol ((entry, body) ∷ []) entry t
part_no_end client symbol m _ (one_drop entry body t one) = no_end_both (map (put_of client) ((entry, body) ∷ [])) (map (drop_of client) ((entry, body) ∷ [])) (puts_no_end client symbol ((entry, body) ∷ []) entry t) refl

-- so the window has no place of an own Refer
places_none : (client : ℕ) (sole : Bool) (old new : History) (own : List Event) → Went client sole old new own → list_any is_refer own ≡ false → refer_places client (length old) new ≡ []
places_none client sole old new own w none = subst (λ h. refer_places client (length old) h ≡ []) (sym w.is) (no_places client old w.more (no_own_refer client w.more own w.own_are none))

-- others' Refers add up
met_sum : (client : ℕ) (sole : Bool) (symbol : Name) (old mid new : History) (first second whole : List Event) (a : Went client sole old mid first) (b : Went client sole mid new second) (w : Went client sole old new whole)
    → met_in client symbol w.more ≡ met_in client symbol b.more + met_in client symbol a.more
met_sum client sole symbol old mid new first second whole a b w =
    let is : new ≡ (b.more ++ a.more) ++ old = b.is ∙ (ap (λ h. b.more ++ h) a.is ∙ sym (append_assoc b.more a.more old)) in
    ap (met_in client symbol) (same_front w.more (b.more ++ a.more) old (sym w.is ∙ is)) ∙ met_in-append client symbol b.more a.more

-- a commit, with its Refer
pub bury_went : (client : ℕ) (sole : Bool) (symbol : Name) (burial : Burial) (old new : History) (done : Buried) → (d : DidBury client sole symbol burial old new done)
    → Went client sole old new (events.Put client d.entry d.body ∷ events.Refer client symbol d.was d.entry (changes.Removed d.numbers ∷ []) ∷ [])
bury_went client sole symbol burial old new done d = record {
  more = referring ∷ d.went.more;
  is = d.newest ∙ ap (λ h. referring ∷ h) d.went.is;
  own_are = own_of-append client (referring ∷ []) d.went.more ∙ (λ i. d.went.own_are i ++ own_of-one client referring refl i);
  alone = λ s. ap (λ l. referring ∷ l) (d.went.alone s);
  lawful = d.lawful;
}
  where
    referring : Event
    referring = events.Refer client symbol d.was d.entry (changes.Removed d.numbers ∷ [])

-- ---- the reply

module _ (s : Session) (limit : ℕ) (sole : Bool) (symbol : Name) (burial : Burial) (old new : History) (faulted : Bool) where
  abbrev client : Client
  client = record { session = s; limit = limit }

  abbrev window : Window
  window = record { start = length old; stop = length new; faulted = faulted }

  abbrev plain : ℕ → List ℕ → Outcome → Reply
  plain place commits outcome = record { place = place; listed = None; commits = commits; left = []; outcome = outcome }

  abbrev legal : Reply → Type 0
  legal reply = IsLegalSeen new client (burial_command symbol burial) reply window

  -- the place of the newest event, which is the Refer of a burial, and the history before it
  module _ (mid : History) (done : Buried) (d : DidBury s.client sole symbol burial mid new done) where
    abbrev referring : Event
    referring = events.Refer s.client symbol d.was d.entry (changes.Removed d.numbers ∷ [])

    end_is : length new ≡ suc (length d.before)
    end_is = ap length d.newest

    back : length new - 1 ≡ length d.before
    back = omega (arith, end_is)

    earlier : history_at new (length new - 1) ≡ d.before
    earlier = ap (history_at new) back ∙ (ap (λ h. history_at h (length d.before)) d.newest ∙ (history_at_later d.before (referring ∷ []) (length d.before) (omega arith) ∙ history_at_end d.before))

    event_is : event_at new (length new) ≡ Some referring
    event_is = ap (event_at new) end_is ∙ (ap (λ h. event_at h (suc (length d.before))) d.newest ∙ event_at_end referring d.before)

    -- what it makes is what the library answers just before
    answers : (listed : Library) → answer s listed (library_at new (length new - 1)) (length new - 1) (burial_command symbol burial) ≡ Some (record { outcome = buried_outcome burial (length d.numbers); marks = changes.Removed d.numbers ∷ [] })
    answers listed =
        answer_is s listed (library_at new (length new - 1)) (length new - 1) symbol burial
        ∙ (ap (λ h. answer_from burial (bury_answer burial (state_of h symbol))) earlier ∙ (ap (answer_from burial) d.answered ∙ ap (λ ms. Some (record { outcome = buried_outcome burial (length d.numbers); marks = ms })) (removed_some d.numbers d.filled)))
      where
        removed_some : (ns : List ℕ) → IsFilled ns → removed ns ≡ changes.Removed ns ∷ []
        removed_some [] f = absurd f
        removed_some (n ∷ ns) f = refl

  module _ (count : ℕ) (mid : History) (few : count < s.tries) (r : DidRefused s.client sole symbol old mid count) where
    early : length old ≤ length mid
    early = went_longer s.client sole old mid (flat_map (λ t. t) r.tries) r.went

    -- ---- the commit stands
    module _ (done : Buried) (d : DidBury s.client sole symbol burial mid new done) where
      abbrev last : List Event
      last = events.Put s.client d.entry d.body ∷ referring mid done d ∷ []

      w : Went s.client sole old new (flat_map (λ t. t) r.tries ++ last)
      w = went_then s.client sole old mid new (flat_map (λ t. t) r.tries) last r.went (bury_went s.client sole symbol burial mid new done d)

      seen_own : own_events new s.client window ≡ flat_map (λ t. t) r.tries ++ last
      seen_own = own_in_window s.client old new w.more faulted w.is ∙ w.own_are

      met_all : length r.tries ≤ refers_by_others new s.client symbol window
      met_all =
          let sum = met_sum s.client sole symbol old mid new (flat_map (λ t. t) r.tries) last (flat_map (λ t. t) r.tries ++ last) r.went (bury_went s.client sole symbol burial mid new done d) w in
          let here = met_in_window s.client symbol old new w.more faulted w.is in
          omega (arith, r.counted, r.met, sum, here)

      turn : {told : Bool} → IsTurn new s window symbol false true told AnyMarks (flat_map (λ t. t) r.tries ++ last)
      turn = done_turn new s window symbol r.tries r.refused met_all (omega (arith, r.counted, few)) ((d.entry, d.body) ∷ []) d.was d.entry (changes.Removed d.numbers ∷ []) d.is_try

      front : Went s.client sole old d.before (flat_map (λ t. t) r.tries ++ events.Put s.client d.entry d.body ∷ [])
      front = went_then s.client sole old mid d.before (flat_map (λ t. t) r.tries) (events.Put s.client d.entry d.body ∷ []) r.went d.went

      longer : length old ≤ length d.before
      longer = went_longer s.client sole old d.before (flat_map (λ t. t) r.tries ++ events.Put s.client d.entry d.body ∷ []) front

      places : refer_places s.client (length old) new ≡ length new ∷ []
      places =
          ap (refer_places s.client (length old)) d.newest
          ∙ (one_place s.client old d.before symbol d.was d.entry (changes.Removed d.numbers ∷ []) longer
          (places_none s.client sole old d.before (flat_map (λ t. t) r.tries ++ events.Put s.client d.entry d.body ∷ []) front (none_both (flat_map (λ t. t) r.tries) (events.Put s.client d.entry d.body ∷ []) (tries_no_refer s.client symbol r.tries r.refused) refl))
          ∙ ap (λ k. k ∷ []) (sym (end_is mid done d)))

      places_at : refer_places s.client (length old) (history_at new (length new)) ≡ length new ∷ []
      places_at = ap (refer_places s.client (length old)) (history_at_end new) ∙ places

      bury_facts : SeenFacts new s limit (burial_command symbol burial) symbol (plain (length new) (length new ∷ []) (buried_outcome burial (length d.numbers))) window
      bury_facts = record {
        after = omega (arith, end_is mid done d, longer);
        before = omega arith;
        listed = refl;
        left = refl;
        events = on_false _ (is_cut (buried_outcome burial (length d.numbers))) (not_cut burial (length d.numbers))
            (subst (λ b. IsTurn new s window symbol false b (is_answered (buried_outcome burial (length d.numbers))) AnyMarks (own_events new s.client window)) (sym (is_done_with burial (length d.numbers) (length new) (length new ∷ [])))
            (subst (IsTurn new s window symbol false true (is_answered (buried_outcome burial (length d.numbers))) AnyMarks) (sym seen_own) turn));
        commits = subst (λ b. AreCommits b (length new ∷ []) (refer_places s.client (length old) (history_at new (length new)))) (sym (no_fault burial (length d.numbers))) (sym places_at);
        short = λ c f. absurd (true≢false (sym c ∙ not_cut burial (length d.numbers)));
        meant = on_false _ (is_store_fault (buried_outcome burial (length d.numbers))) (no_fault burial (length d.numbers)) tt;
        late = on_false _ (is_cut (buried_outcome burial (length d.numbers))) (not_cut burial (length d.numbers)) tt;
        outcome = ok_outcome new client symbol burial (plain (length new) (length new ∷ []) (buried_outcome burial (length d.numbers))) window (length d.numbers)
            (inr (changes.Removed d.numbers, [], symbol, answers mid done d (library_at new (length new)), symbol_is symbol burial, (d.was, d.entry, event_is mid done d), refl));
      }

      pub bury_is_legal : legal (reply_to (buried_outcome burial) (Ok done))
      bury_is_legal =
          subst (λ n. legal (plain done.place (commits_of done.commit) (buried_outcome burial n))) (sym d.versions)
          (subst (λ p. legal (plain p (commits_of done.commit) (buried_outcome burial (length d.numbers)))) (sym d.place)
          (subst (λ o. legal (plain (length new) (commits_of o) (buried_outcome burial (length d.numbers)))) (sym d.commit)
          (seen_of new s limit (burial_command symbol burial) symbol burial (plain (length new) (length new ∷ []) (buried_outcome burial (length d.numbers))) window (kind_is symbol burial) bury_facts)))

      -- or it stands, and the store failed
      pub fault_is_legal : (place : ℕ) → StopsAt s.client mid new (record { place = place; why = refusals.StoreFault }) → faulted ≡ true → legal (plain place [] (outcomes.Refused refusals.StoreFault))
      fault_is_legal place stops fault =
          let size : length new ≡ length stops.after + length stops.before = ap length stops.split ∙ length-append stops.after stops.before in
          seen_of new s limit (burial_command symbol burial) symbol burial (plain place [] (outcomes.Refused refusals.StoreFault)) window (kind_is symbol burial) (record {
            after = omega (arith, early, stops.place, stops.later);
            before = omega (arith, stops.place, size);
            listed = refl;
            left = refl;
            events = inl (record { more = []; whole = subst (IsTurn new s window symbol false true false AnyMarks) (sym (append_none (own_events new s.client window) ∙ seen_own)) turn });
            commits = inr (length new, places_at);
            short = λ c f. absurd (true≢false f);
            meant = subst (AllByRecursion (IsMeantAt new s (burial_command symbol burial) (plain place [] (outcomes.Refused refusals.StoreFault)))) (sym places_at) (
              record {
                symbol = symbol;
                list = changes.Removed d.numbers ∷ [];
                outcome = buried_outcome burial (length d.numbers);
                symbol_is = symbol_is symbol burial;
                event = (d.was, d.entry, event_is mid done d);
                answered = answers mid done d (library_at new (length new));
              },
              tt,
            );
            late = subst (λ p. length (own_events new s.client (record window { start = p })) ≤ 1) (sym stops.place)
                (subst (λ (es : List Event). length es ≤ 1) (sym (own_in_window s.client stops.before new stops.after faulted stops.split)) stops.few);
            outcome = fault_outcome burial fault;
          })
        where
          fault_outcome : (v : Burial) → faulted ≡ true → IsLegalOutcome new client (burial_command symbol v) (plain place [] (outcomes.Refused refusals.StoreFault)) window (outcomes.Refused refusals.StoreFault)
          fault_outcome (Listed versions) f = f
          fault_outcome Older f = f

    -- ---- no event, but refused tries
    module _ (went : Went s.client sole mid new []) where
      w_quiet : Went s.client sole old new (flat_map (λ t. t) r.tries)
      w_quiet = went_as s.client sole old new (flat_map (λ t. t) r.tries ++ []) (flat_map (λ t. t) r.tries) (append_none (flat_map (λ t. t) r.tries)) (went_then s.client sole old mid new (flat_map (λ t. t) r.tries) [] r.went went)

      own_quiet : own_events new s.client window ≡ flat_map (λ t. t) r.tries
      own_quiet = own_in_window s.client old new w_quiet.more faulted w_quiet.is ∙ w_quiet.own_are

      open_quiet : (told : Bool) → IsTurn new s window symbol false false told AnyMarks (own_events new s.client window)
      open_quiet told =
          let sum = met_sum s.client sole symbol old mid new (flat_map (λ t. t) r.tries) [] (flat_map (λ t. t) r.tries) r.went went w_quiet in
          let here = met_in_window s.client symbol old new w_quiet.more faulted w_quiet.is in
          subst (IsTurn new s window symbol false false told AnyMarks) (sym own_quiet)
          (open_turn new s window symbol r.tries r.refused (omega (arith, r.counted, r.met, sum, here)) (one_fewer told (length r.tries) s.tries (omega (arith, r.counted, few))))

      places_quiet : refer_places s.client (length old) (history_at new (length new)) ≡ []
      places_quiet = ap (refer_places s.client (length old)) (history_at_end new) ∙ places_none s.client sole old new (flat_map (λ t. t) r.tries) w_quiet (tries_no_refer s.client symbol r.tries r.refused)

      -- the answer at the place, where it has no changes
      quiet_facts : (place : ℕ) (outcome : Outcome) → IsWithin mid new place → is_cut outcome ≡ false → is_store_fault outcome ≡ false → is_done (plain place [] outcome) ≡ false
          → IsLegalOutcome new client (burial_command symbol burial) (plain place [] outcome) window outcome → legal (plain place [] outcome)
      quiet_facts place outcome within cut fault undone legal_outcome = seen_of new s limit (burial_command symbol burial) symbol burial (plain place [] outcome) window (kind_is symbol burial) (record {
        after = omega (arith, early, within.from);
        before = within.to;
        listed = refl;
        left = refl;
        events = on_false _ (is_cut outcome) cut (subst (λ b. IsTurn new s window symbol false b (is_answered outcome) AnyMarks (own_events new s.client window)) (sym undone) (open_quiet (is_answered outcome)));
        commits = subst (λ b. AreCommits b [] (refer_places s.client (length old) (history_at new (length new)))) (sym fault) (sym places_quiet);
        short = λ c f. absurd (true≢false (sym c ∙ cut));
        meant = on_false _ (is_store_fault outcome) fault tt;
        late = on_false _ (is_cut outcome) cut tt;
        outcome = legal_outcome;
      })

      answer_at : (place : ℕ) (result : Result (List ℕ) Refusal) → bury_answer burial (state_of (history_at new place) symbol) ≡ result → answer s (library_at new place) (library_at new place) place (burial_command symbol burial) ≡ answer_from burial result
      answer_at place result e = answer_is s (library_at new place) (library_at new place) place symbol burial ∙ ap (answer_from burial) e

    pub nothing_is_legal : (done : Buried) → DidNothing s.client sole symbol burial mid new done → legal (reply_to (buried_outcome burial) (Ok done))
    nothing_is_legal done d =
        subst (λ n. legal (plain done.place (commits_of done.commit) (buried_outcome burial n))) (sym d.versions)
        (subst (λ o. legal (plain done.place (commits_of o) (buried_outcome burial 0))) (sym d.commit)
        (quiet_facts d.went done.place (buried_outcome burial 0) d.place (not_cut burial 0) (no_fault burial 0) (is_done_with burial 0 done.place [])
        (ok_outcome new client symbol burial (plain done.place [] (buried_outcome burial 0)) window 0 (inl (answer_at d.went done.place (Ok []) d.answered, refl)))))

    pub refuse_is_legal : (place : ℕ) (why : Refusal) → DidRefuse s.client sole symbol burial mid new (record { place = place; why = why }) → legal (plain place [] (outcomes.Refused why))
    refuse_is_legal place why d = elim (bury_refusals burial (state_of (history_at new place) symbol) why d.answered) [
      | inl unknown ↦ subst (λ y. legal (plain place [] (outcomes.Refused y))) unknown
          (quiet_facts d.went place (outcomes.Refused refusals.NoSuchSymbol) d.place refl refl refl
          (unknown_outcome new client symbol burial (plain place [] (outcomes.Refused refusals.NoSuchSymbol)) window (inl (answer_at d.went place (Err refusals.NoSuchSymbol) (d.answered ∙ ap Err (sym unknown)), refl))))
      | inr absent ↦ subst (λ y. legal (plain place [] (outcomes.Refused y))) absent.1
          (quiet_facts d.went place (outcomes.Refused (refusals.NoSuchVersion absent.0)) d.place refl refl refl
          (absent_outcome new client symbol burial (plain place [] (outcomes.Refused (refusals.NoSuchVersion absent.0))) window absent.0 (inl (answer_at d.went place (Err (refusals.NoSuchVersion absent.0)) (d.answered ∙ ap Err (sym absent.1)), refl))))
    ]

    -- ---- a call failed
    module _ (before now : ℕ) (rises : Rose before now → faulted ≡ true) (place : ℕ) (why : Refusal) (d : DidStop s.client sole symbol burial limit before now mid new (record { place = place; why = why })) where
      w_cut : Went s.client sole old new (flat_map (λ t. t) r.tries ++ d.own)
      w_cut = went_then s.client sole old mid new (flat_map (λ t. t) r.tries) d.own r.went d.went

      own_cut : own_events new s.client window ≡ flat_map (λ t. t) r.tries ++ d.own
      own_cut = own_in_window s.client old new w_cut.more faulted w_cut.is ∙ w_cut.own_are

      begun : IsBeginning (IsTurn new s window symbol false true false AnyMarks) (own_events new s.client window) ⊎ IsBeginning (IsTurn new s window symbol false false false AnyMarks) (own_events new s.client window)
      begun =
          let sum = met_sum s.client sole symbol old mid new (flat_map (λ t. t) r.tries) d.own (flat_map (λ t. t) r.tries ++ d.own) r.went d.went w_cut in
          let here = met_in_window s.client symbol old new w_cut.more faulted w_cut.is in
          subst (λ es. IsBeginning (IsTurn new s window symbol false true false AnyMarks) es ⊎ IsBeginning (IsTurn new s window symbol false false false AnyMarks) es) (sym own_cut)
          (cut_turn new s window symbol r.tries r.refused d.own (met_in s.client symbol d.went.more) (omega (arith, r.counted, few)) (omega (arith, r.counted, r.met, sum, here)) d.part)

      places_cut : refer_places s.client (length old) (history_at new (length new)) ≡ []
      places_cut = ap (refer_places s.client (length old)) (history_at_end new) ∙ places_none s.client sole old new (flat_map (λ t. t) r.tries ++ d.own) w_cut
          (none_both (flat_map (λ t. t) r.tries) d.own (tries_no_refer s.client symbol r.tries r.refused) (part_no_refer s.client symbol (met_in s.client symbol d.went.more) d.own d.part))

      no_end : list_any is_end (own_events new s.client window) ≡ false
      no_end = ap (list_any is_end) own_cut ∙ no_end_both (flat_map (λ t. t) r.tries) d.own (tries_no_end s.client symbol r.tries r.refused) (part_no_end s.client symbol (met_in s.client symbol d.went.more) d.own d.part)

      late_cut : length (own_events new s.client (record window { start = place })) ≤ one_if (is_fault why)
      late_cut = subst (λ p. length (own_events new s.client (record window { start = p })) ≤ one_if (is_fault why)) (sym d.stops.place)
          (subst (λ (es : List Event). length es ≤ one_if (is_fault why)) (sym (own_in_window s.client d.stops.before new d.stops.after faulted d.stops.split)) d.stops.few)

      cut_facts : is_cut (outcomes.Refused why) ≡ true → is_answered (outcomes.Refused why) ≡ false → is_store_fault (outcomes.Refused why) ≡ is_fault why → IsLegalOutcome new client (burial_command symbol burial) (plain place [] (outcomes.Refused why)) window (outcomes.Refused why)
          → AreCommits (is_store_fault (outcomes.Refused why)) [] [] → MatchBool (is_store_fault (outcomes.Refused why)) (AllByRecursion (IsMeantAt new s (burial_command symbol burial) (plain place [] (outcomes.Refused why))) []) ⊤ → legal (plain place [] (outcomes.Refused why))
      cut_facts cut unanswered fault legal_outcome commits meant =
          let size : length new ≡ length d.stops.after + length d.stops.before = ap length d.stops.split ∙ length-append d.stops.after d.stops.before in
          seen_of new s limit (burial_command symbol burial) symbol burial (plain place [] (outcomes.Refused why)) window (kind_is symbol burial) (record {
            after = omega (arith, early, d.stops.place, d.stops.later);
            before = omega (arith, d.stops.place, size);
            listed = refl;
            left = refl;
            events = on_true _ (is_cut (outcomes.Refused why)) cut
                (subst (λ told. IsBeginning (IsTurn new s window symbol false true told AnyMarks) (own_events new s.client window) ⊎ IsBeginning (IsTurn new s window symbol false false told AnyMarks) (own_events new s.client window))
                (sym unanswered) begun);
            commits = subst (AreCommits (is_store_fault (outcomes.Refused why)) []) (sym places_cut) commits;
            short = λ c f. no_end;
            meant = subst (λ ps. MatchBool (is_store_fault (outcomes.Refused why)) (AllByRecursion (IsMeantAt new s (burial_command symbol burial) (plain place [] (outcomes.Refused why))) ps) ⊤) (sym places_cut) meant;
            late = on_true ⊤ (is_cut (outcomes.Refused why)) cut (subst (λ b. length (own_events new s.client (record window { start = place })) ≤ one_if b) (sym fault) late_cut);
            outcome = legal_outcome;
          })

    module _ (before now : ℕ) (rises : Rose before now → faulted ≡ true) (place : ℕ) where
      memory_outcome : (v : Burial) → IsLegalOutcome new client (burial_command symbol v) (plain place [] (outcomes.Refused refusals.NoMemory)) window (outcomes.Refused refusals.NoMemory)
      memory_outcome (Listed versions) = tt
      memory_outcome Older = tt

      failed_outcome : (v : Burial) → faulted ≡ true → IsLegalOutcome new client (burial_command symbol v) (plain place [] (outcomes.Refused refusals.StoreFault)) window (outcomes.Refused refusals.StoreFault)
      failed_outcome (Listed versions) f = f
      failed_outcome Older f = f

      spent_outcome : (v : Burial) (count : ℕ) → IsSpent new client (burial_command symbol v) count (plain place [] (outcomes.Refused (refusals.Spent count))) window
          → IsLegalOutcome new client (burial_command symbol v) (plain place [] (outcomes.Refused (refusals.Spent count))) window (outcomes.Refused (refusals.Spent count))
      spent_outcome (Listed versions) count f = f
      spent_outcome Older count f = f

      to_make : (v : Burial) (reply : Reply) → reply.listed ≡ None → (q : ℕ) → length old ≤ q → q ≤ place → (numbers : List ℕ) → IsFilled numbers → bury_answer v (state_of (history_at new q) symbol) ≡ Ok numbers
          → HasToMake new client (burial_command symbol v) reply (length old) place
      to_make v reply listed q from to numbers filled e = by v (q, from, to, λ listing. subst MarksAt (sym (answer_is s listing (library_at new q) q symbol v ∙ ap (answer_from v) e)) (inl (some_marks numbers filled)))
        where
          some_marks : (ns : List ℕ) → IsFilled ns → removed ns ≡ [] → ⊥
          some_marks [] f x = absurd f
          some_marks (n ∷ ns) f x = cc

          by : (v : Burial) → ((q : ℕ) × (length old ≤ q) × (q ≤ place) × ((listing : Library) → MarksAt (answer s listing (library_at new q) q (burial_command symbol v)))) → HasToMake new client (burial_command symbol v) reply (length old) place
          by (Listed versions) x = (x.0, x.1, x.2, x.3 (library_at new (unwrap_or reply.listed x.0)))
          by Older x = (x.0, x.1, x.2, x.3 (library_at new (unwrap_or reply.listed x.0)))

      pub stop_is_legal : (why : Refusal) → DidStop s.client sole symbol burial limit before now mid new (record { place = place; why = why }) → legal (plain place [] (outcomes.Refused why))
      stop_is_legal refusals.NoMemory d = cut_facts before now rises place refusals.NoMemory d refl refl refl (memory_outcome burial) refl tt
      stop_is_legal refusals.StoreFault d = cut_facts before now rises place refusals.StoreFault d refl refl refl (failed_outcome burial (rises d.cause)) (inl refl) tt
      stop_is_legal (refusals.Spent full) d =
          let busy = d.busy full refl in
          cut_facts before now rises place (refusals.Spent full) d refl refl refl (spent_outcome burial full (record {
            here = d.cause.1;
            full = d.cause.0.1;
            busy = inr (to_make burial (plain place [] (outcomes.Refused (refusals.Spent full))) refl busy.place (omega (arith, early, busy.within.from)) busy.before busy.numbers busy.filled busy.answered);
          })) refl tt
      stop_is_legal why d = absurd d.cause

  abbrev moved_reply : ℕ → Reply
  moved_reply p = plain p [] (outcomes.Refused (refusals.Moved p))

  -- each try was met
  pub moved_is_legal : (place : ℕ) (r : DidRefused s.client sole symbol old new s.tries) → IsMet s.client symbol (length old) new place → MetTries s.client symbol burial s.tries old new place → legal (plain place [] (outcomes.Refused (refusals.Moved place)))
  moved_is_legal place r m each =
      let seen_own : own_events new s.client window ≡ flat_map (λ t. t) r.tries = own_in_window s.client old new r.went.more faulted r.went.is ∙ r.went.own_are in
      let here = met_in_window s.client symbol old new r.went.more faulted r.went.is in
      let met_all : length r.tries ≤ refers_by_others new s.client symbol window = omega (arith, r.counted, r.met, here) in
      seen_of new s limit (burial_command symbol burial) symbol burial (plain place [] (outcomes.Refused (refusals.Moved place))) window (kind_is symbol burial) (record {
        after = omega (arith, m.added);
        before = m.within;
        listed = refl;
        left = refl;
        events = subst (IsTurn new s window symbol false false false AnyMarks) (sym seen_own) (open_turn new s window symbol r.tries r.refused met_all (omega (arith, r.counted)));
        commits = sym (ap (refer_places s.client (length old)) (history_at_end new) ∙ places_none s.client sole old new (flat_map (λ t. t) r.tries) r.went (tries_no_refer s.client symbol r.tries r.refused));
        short = λ c f. absurd (true≢false (sym c));
        meant = tt;
        late = tt;
        outcome = moved_outcome burial (record {
          here = refl;
          inside = m.added;
          event = m.event;
          at = m.at;
          refers = m.refers;
          others = m.others;
          enough = subst (λ k. k ≤ refers_by_others new s.client symbol window) r.counted met_all;
          start = length old;
          from = omega arith;
          listed = omega arith;
          stop = length new;
          to = omega arith;
          beside = beside burial;
          tries = subst (λ b. AreMetTries new s.client symbol b (MakesAt new client (burial_command symbol burial) (moved_reply place) symbol) (FindsGone new client (burial_command symbol burial) (moved_reply place) symbol) s.tries (length old) (length new) place) (sym (makes_none burial))
              (tries_later s.client symbol false new [] (λ q. Buries symbol burial (history_at new q)) (MakesAt new client (burial_command symbol burial) (moved_reply place) symbol) (Whole new) (FindsGone new client (burial_command symbol burial) (moved_reply place) symbol)
              (λ q le b. makes burial place q b) (λ q z a b l. absurd l) s.tries (length old) (length new) place (omega arith) each);
        });
      })
    where
      beside : (v : Burial) → IsBeside new s.client (kind_of (burial_command symbol v)) (moved_reply place) symbol window (length old) (length new)
      beside (Listed versions) = (own_nowhere new s.client (length old), own_nowhere new s.client (length new))
      beside Older = (own_nowhere new s.client (length old), own_nowhere new s.client (length new))

      makes_none : (v : Burial) → makes_version (burial_command symbol v) ≡ false
      makes_none (Listed versions) = refl
      makes_none Older = refl

      some_marks : (ns : List ℕ) → IsFilled ns → removed ns ≡ [] → ⊥
      some_marks [] f x = absurd f
      some_marks (n ∷ ns) f x = cc

      makes : (v : Burial) (p q : ℕ) → Buries symbol v (history_at new q) → MakesAt new client (burial_command symbol v) (moved_reply p) symbol q
      makes v p q b = by v (subst MarksAt (sym (answer_is s (library_at new q) (library_at new q) q symbol v ∙ ap (answer_from v) b.2)) (inl (some_marks b.0 b.1)))
        where
          by : (v : Burial) → MarksAt (answer s (library_at new q) (library_at new q) q (burial_command symbol v)) → MakesAt new client (burial_command symbol v) (moved_reply p) symbol q
          by (Listed versions) x = x
          by Older x = x

      moved_outcome : (v : Burial) → IsMoved new client (burial_command symbol v) (moved_reply place) symbol place window → IsLegalOutcome new client (burial_command symbol v) (plain place [] (outcomes.Refused (refusals.Moved place))) window (outcomes.Refused (refusals.Moved place))
      moved_outcome (Listed versions) f = (symbol, (refl, refl), f)
      moved_outcome Older f = (symbol, (refl, refl), f)

-- ---- all tries

pub burial_is_legal : (s : Session) (limit : ℕ) (sole : Bool) (symbol : Name) (burial : Burial) (before now : ℕ) (old new : History) (faulted : Bool) → (Rose before now → faulted ≡ true)
    → (result : Result Buried Refused) → DidTries s.client sole symbol burial s.tries limit before now old new result
    → IsLegalSeen new (record { session = s; limit = limit }) (burial_command symbol burial) (reply_to (buried_outcome burial) result) (record { start = length old; stop = length new; faulted = faulted })
burial_is_legal s limit sole symbol burial before now old new faulted rises (Ok done) d = elim d.last [
  | inl c ↦ bury_is_legal s limit sole symbol burial old new faulted d.count d.mid d.few d.refused done c
  | inr n ↦ nothing_is_legal s limit sole symbol burial old new faulted d.count d.mid d.few d.refused done n
]
burial_is_legal s limit sole symbol burial before now old new faulted rises (Err refused) d = elim d [
  | inl all ↦ subst (λ y. IsLegalSeen new (record { session = s; limit = limit }) (burial_command symbol burial) (reply_to (buried_outcome burial) (Err (record { place = refused.place; why = y }))) (record { start = length old; stop = length new; faulted = faulted })) (sym all.why)
      (moved_is_legal s limit sole symbol burial old new faulted refused.place all.all all.met all.each)
  | inr t ↦ elim t.last [
    | inl r ↦ refuse_is_legal s limit sole symbol burial old new faulted t.count t.mid t.few t.refused refused.place refused.why r
    | inr rest ↦ elim rest [
      | inl stop ↦ stop_is_legal s limit sole symbol burial old new faulted t.count t.mid t.few t.refused before now rises refused.place refused.why stop
      | inr f ↦ subst (λ y. IsLegalSeen new (record { session = s; limit = limit }) (burial_command symbol burial) (reply_to (buried_outcome burial) (Err (record { place = refused.place; why = y }))) (record { start = length old; stop = length new; faulted = faulted })) (sym f.why)
          (fault_is_legal s limit sole symbol burial old new faulted t.count t.mid t.few t.refused f.done f.commit refused.place
          (subst (λ y. StopsAt s.client t.mid new (record { place = refused.place; why = y })) f.why f.stops) (rises f.rose))
    ]
  ]
]

pub tries_are_legal : (client : ℕ) (sole : Bool) (symbol : Name) (burial : Burial) (most limit before now : ℕ) (old new : History) (result : Result Buried Refused)
    → DidTries client sole symbol burial most limit before now old new result → IsLegalBurial limit client most symbol burial before now old new result
tries_are_legal client sole symbol burial most limit before now old new result d = λ s faulted client_is tries_are rises. (
  omega arith,
  subst (λ h. IsLegalSeen h (record { session = s; limit = limit }) (burial_command symbol burial) (reply_to (buried_outcome burial) result) (record { start = length old; stop = length new; faulted = faulted })) (sym (history_at_end new))
      (burial_is_legal s limit sole symbol burial before now old new faulted rises result
      (subst (λ c. DidTries c sole symbol burial s.tries limit before now old new result) (sym client_is)
      (subst (λ t. DidTries client sole symbol burial t limit before now old new result) (sym tries_are) d))),
)

-- ---- how the history went on

all_filtered : (client : ℕ) (more : History) → AllByRecursion (λ (e : Event). author e ≡ client) (filter (λ e. nat_eq (author e) client) more)
all_filtered client [] = tt
all_filtered client (e ∷ more) =
    elim (nat_eq (author e) client) as (λ b. nat_eq (author e) client ≡ b → AllByRecursion (λ (e : Event). author e ≡ client) (cond b (e ∷ filter (λ e. nat_eq (author e) client) more) (filter (λ e. nat_eq (author e) client) more))) [
      | true ↦ λ on. (eqb-true (author e) client on, all_filtered client more)
      | false ↦ λ off. all_filtered client more
    ] refl

pub went_goes_on : (client : ℕ) (sole : Bool) (old new : History) (own : List Event) → Went client sole old new own → GoesOn client sole old new
went_goes_on client sole old new own w = record {
  more = w.more;
  is = w.is;
  alone = λ s. subst (AllByRecursion (λ (e : Event). author e ≡ client)) (sym (w.alone s ∙ (ap reverse (sym w.own_are) ∙ reverse-reverse (filter (λ e. nat_eq (author e) client) w.more)))) (all_filtered client w.more);
  lawful = w.lawful;
}

pub goes_on : (client : ℕ) (sole : Bool) (symbol : Name) (burial : Burial) (most limit before now : ℕ) (old new : History) (r : Result Buried Refused)
    → DidTries client sole symbol burial most limit before now old new r → GoesOn client sole old new
goes_on client sole symbol burial most limit before now old new (Ok done) d = elim d.last [
  | inl c ↦ went_goes_on client sole old new _ (went_then client sole old d.mid new _ _ d.refused.went (bury_went client sole symbol burial d.mid new done c))
  | inr n ↦ went_goes_on client sole old new _ (went_then client sole old d.mid new _ _ d.refused.went n.went)
]
goes_on client sole symbol burial most limit before now old new (Err refused) d = elim d [
  | inl all ↦ went_goes_on client sole old new _ all.all.went
  | inr t ↦ elim t.last [
    | inl r ↦ went_goes_on client sole old new _ (went_then client sole old t.mid new _ _ t.refused.went r.went)
    | inr rest ↦ elim rest [
      | inl stop ↦ went_goes_on client sole old new _ (went_then client sole old t.mid new _ _ t.refused.went stop.went)
      | inr f ↦ went_goes_on client sole old new _ (went_then client sole old t.mid new _ _ t.refused.went (bury_went client sole symbol burial t.mid new f.done f.commit))
    ]
  ]
]
