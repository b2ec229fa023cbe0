-- The reply made of the result of all tries is legal, for each command that asks for what was made.
use Rattle.std.proofs.Common.{◌≡◌, ◌⊎◌, ℕ, suc, ◌+◌, ◌-◌, ◌≤◌, ◌<◌, Bool, true, false, List, [], ◌∷◌, ◌++◌, length, refl, ap, sym, ◌∙◌, subst, inl, inr, Option, Some, arith, Ok, Err, length-append}
use Rattle.std.specs.Prelude.{⊤, map, MatchBool}
use Rattle.std.specs.List.{list_any, flat_map, AllByRecursion}
use Rattle.std.proofs.lemmas.Bool.{true≢false}
use Rattle.frame_core.specs.declared.refusal.Refusal.{Refusal}
use Rattle.frame_core.specs.declared.refusal.Refusal.TheVariants as refusals
use Rattle.key_kind.specs.declared.key.Key.{Key}
use Rattle.key_kind.specs.Names.{Name}
use Rattle.bucket_core.specs.declared.event.Change.{Change}
use Rattle.bucket_core.specs.declared.event.Event.{Event}
use Rattle.bucket_core.specs.declared.event.Event.TheVariants as events
use Rattle.bucket_core.specs.History.{History, history_at, event_at}
use Rattle.store_model.specs.Library.{state_of, next_number}
use Rattle.store_model.specs.Snapshots.{library_of}
use Rattle.store_model.specs.Commits.{IsFilled}
use Rattle.expr_clause.specs.declared.command.Command.{Command}
use Rattle.reply_model.specs.declared.outcome.Outcome.TheVariants as outcomes
use Rattle.reply_model.specs.declared.reply.Reply.{Reply}
use Rattle.reply_model.specs.Answering.{Session}
use Rattle.reply_model.specs.Answers.{answer}
use Rattle.reply_model.specs.Windows.{Window, Client, library_at, own_events, refer_places, refers_by_others, is_cut, is_answered, is_store_fault, AreCommits, IsReferAt}
use Rattle.reply_model.specs.Tries.{put_of, one_if, IsTry, IsRefused, IsTurn}
use Rattle.reply_model.specs.OwnEvents.{AnyMarks, IsBeginning, IsOwn, AreMeant, is_last, is_done}
use Rattle.reply_model.specs.Moves.{AreMetTries}
use Rattle.reply_model.specs.Losses.{FindsGone}
use Rattle.reply_model.specs.Causes.{MakesAt}
use Rattle.reply_model.specs.Rows.{IsAnswer}
use Rattle.reply_model.specs.Legal.{IsLegalRefusal, IsLegalSeen}
use Rattle.reply_model.proofs.Places.{history_at_end}
use Rattle.reply_model.proofs.Moves.{one_fewer, own_nowhere, tries_later}
use Rattle.reply_model.proofs.Later.{history_at_later}
use Rattle.reply_model.proofs.Covering.{event_at_end}
use Rattle.version_chain.specs.Traces.{own_of, met_in}
use Rattle.version_chain.specs.Stops.{is_fault, StopsAt}
use Rattle.frame_write.specs.Tries.{Made, IsMet, MetTries}
use Rattle.frame_write.specs.Writes.{reply_to}
use Rattle.frame_write.proofs.LegalLemmas.{own_in_window, met_in_window, one_place}
use Rattle.frame_write.proofs.TurnLemmas.{done_turn, open_turn}
use Rattle.frame_write.proofs.CommandLemmas.{IsAskedBy, makes_one, beside_tries, makes_at, own_turn, none_listed, none_left, are_meant, of_symbol, ok_is_legal, moved_refusal, answer_refusal, answer_not_cut, answer_no_fault}

on_true : {A : Type 0} (B : Type 0) (b : Bool) → b ≡ true → A → MatchBool b A B
on_true {A} B b is a = subst (λ x. MatchBool x A B) (sym is) a

on_false : (A : Type 0) {B : Type 0} (b : Bool) → b ≡ false → B → MatchBool b A B
on_false A {B} b is x = subst (λ x. MatchBool x A B) (sym is) x

no_place : (fault : Bool) → fault ≡ false → (ps : List ℕ) → ps ≡ [] → AreCommits fault [] ps
no_place fault is ps none = subst (λ b. AreCommits b [] ps) (sym is) (sym none)

-- the first of some changes
some_first : (list : List Change) → IsFilled list → (first : Change) × (rest : List Change) × (list ≡ first ∷ rest)
some_first [] f = absurd f
some_first (c ∷ cs) f = (c, cs, refl)

module _ (s : Session) (limit : ℕ) (asks : Command) (symbol : Name) (Asked : Made → Type 0) (Refuses : History → Refusal → Type 0) (Wants : History → Type 0) (Loses : History → ℕ → ℕ → Type 0)
    (k : IsAskedBy s asks symbol Asked Refuses Wants Loses) (old new : History) (faulted : Bool) where
  abbrev client : Client
  client = record { session = s; limit = limit }

  abbrev window : Window
  window = record { start = length old; stop = length new; faulted = faulted }

  -- a reply to a call that was cut off
  pub cut_legal : (place : ℕ) (why : Refusal) (more own : List Event) → new ≡ more ++ old → own_of s.client more ≡ own
      → IsBeginning (IsTurn new s window symbol true true (is_answered (outcomes.Refused why)) AnyMarks) own ⊎ IsBeginning (IsTurn new s window symbol true false (is_answered (outcomes.Refused why)) AnyMarks) own
      → StopsAt s.client old new (record { place = place; why = why })
      → is_cut (outcomes.Refused why) ≡ true → is_store_fault (outcomes.Refused why) ≡ is_fault why
      → AreCommits (is_store_fault (outcomes.Refused why)) [] (refer_places s.client (length old) new)
      → (is_store_fault (outcomes.Refused why) ≡ false → list_any (is_last asks) own ≡ false)
      → AreMeant new s asks (reply_to (Err (record { place = place; why = why }))) (refer_places s.client (length old) new)
      → IsLegalRefusal new client asks (reply_to (Err (record { place = place; why = why }))) window why
      → IsLegalSeen new client asks (reply_to (Err (record { place = place; why = why }))) window
  cut_legal place why more own is own_are begun stops cut fault commits short meant outcome =
      let seen_own : own_events new s.client window ≡ own = own_in_window s.client old new more faulted is ∙ own_are in
      let size : length new ≡ length stops.after + length stops.before = ap length stops.split ∙ length-append stops.after stops.before in
      let late : length (own_events new s.client (record window { start = place })) ≤ one_if (is_store_fault (outcomes.Refused why)) =
      subst (λ b. length (own_events new s.client (record window { start = place })) ≤ one_if b) (sym fault)
      (subst (λ p. length (own_events new s.client (record window { start = p })) ≤ one_if (is_fault why)) (sym stops.place)
      (subst (λ (es : List Event). length es ≤ one_if (is_fault why)) (sym (own_in_window s.client stops.before new stops.after faulted stops.split)) stops.few)) in
      let reply : Reply = reply_to (Err (record { place = place; why = why })) in
      record {
        after = omega (arith, stops.place, stops.later);
        before = omega (arith, stops.place, size);
        listed = none_listed asks symbol k.makes reply (own_events new s.client window) refl;
        listed_within = tt;
        own = record {
          events = on_true (IsOwn new s window asks reply (is_done reply) (own_events new s.client window)) (is_cut (outcomes.Refused why)) cut
              (subst (λ es. IsBeginning (IsOwn new s window asks reply true) es ⊎ IsBeginning (IsOwn new s window asks reply false) es) (sym seen_own) (elim begun [
                | inl b ↦ inl (record { more = b.more; whole = own_turn asks symbol k.makes new s window reply true (own ++ b.more) b.whole })
                | inr b ↦ inr (record { more = b.more; whole = own_turn asks symbol k.makes new s window reply false (own ++ b.more) b.whole })
              ]));
          commits = subst (λ h. AreCommits (is_store_fault (outcomes.Refused why)) [] (refer_places s.client (length old) h)) (sym (history_at_end new)) commits;
          short = λ c f. subst (λ es. list_any (is_last asks) es ≡ false) (sym seen_own) (short f);
          meant = subst (λ h. AreMeant new s asks reply (refer_places s.client (length old) h)) (sym (history_at_end new)) meant;
          late = on_true ⊤ (is_cut (outcomes.Refused why)) cut late;
        };
        left = none_left asks symbol k.makes new s reply window refl;
        outcome = outcome;
      }

  -- a commit that stands: what the library answers just before it
  pub answered : (m : Made) → Asked m → (was : Option Key) (entry : Key) → new ≡ events.Refer s.client symbol was entry m.list ∷ m.before → (place listed : ℕ) → place ≡ suc (length m.before)
      → answer s (library_at new listed) (library_at new (place - 1)) (place - 1) asks ≡ Some (record { outcome = outcomes.Committed (next_number (state_of m.before symbol)); marks = m.list })
  answered m asked was entry newest place listed there =
      let earlier : history_at new (place - 1) ≡ m.before =
      ap (λ h. history_at h (place - 1)) newest ∙ (ap (history_at (events.Refer s.client symbol was entry m.list ∷ m.before)) (omega (arith, there))
      ∙ (history_at_later m.before (events.Refer s.client symbol was entry m.list ∷ []) (length m.before) (omega arith) ∙ history_at_end m.before)) in
      ap (λ h. answer s (library_at new listed) (library_of h) (place - 1) asks) earlier ∙ k.answers m asked (library_at new listed) (place - 1)

  pub referred : (m : Made) (was : Option Key) (entry : Key) → new ≡ events.Refer s.client symbol was entry m.list ∷ m.before → (place : ℕ) → place ≡ suc (length m.before) → IsReferAt new s.client symbol m.list place
  referred m was entry newest place there =
      (was, entry, ap (event_at new) there ∙ (ap (λ h. event_at h (suc (length m.before))) newest ∙ event_at_end (events.Refer s.client symbol was entry m.list) m.before))

  pub done_legal : (version place : ℕ) (more : History) (m : Made) → Asked m → (was : Option Key) (entry : Key) (tries : List (List Event))
      → AllByRecursion (IsRefused s.client symbol true) tries → length tries < s.tries → new ≡ more ++ old → length tries ≤ met_in s.client symbol more
      → own_of s.client more ≡ flat_map (λ t. t) tries ++ (map (put_of s.client) m.puts ++ events.Refer s.client symbol was entry m.list ∷ [])
      → IsTry symbol true m.puts entry → new ≡ events.Refer s.client symbol was entry m.list ∷ m.before → length old ≤ length m.before
      → refer_places s.client (length old) m.before ≡ [] → version ≡ next_number (state_of m.before symbol) → place ≡ length new
      → IsLegalSeen new client asks (reply_to (Ok (record { version = version; place = place }))) window
  done_legal version place more m asked was entry tries refused few is met own_are is_try newest longer none version_is place_is =
      let seen_own : own_events new s.client window ≡ flat_map (λ t. t) tries ++ (map (put_of s.client) m.puts ++ events.Refer s.client symbol was entry m.list ∷ []) =
      own_in_window s.client old new more faulted is ∙ own_are in
      let met_all : length tries ≤ refers_by_others new s.client symbol window = subst (λ n. length tries ≤ n) (sym (met_in_window s.client symbol old new more faulted is)) met in
      let size : length new ≡ suc (length m.before) = ap length newest in
      let there : place ≡ suc (length m.before) = place_is ∙ size in
      let places : refer_places s.client (length old) new ≡ place ∷ [] =
      ap (refer_places s.client (length old)) newest ∙ (one_place s.client old m.before symbol was entry m.list longer none ∙ ap (λ n. n ∷ []) (sym there)) in
      let reply : Reply = reply_to (Ok (record { version = version; place = place })) in
      let first = some_first m.list (k.filled m asked) in
      let is_answer : IsAnswer new client asks reply = inr (
        first.0,
        first.1,
        symbol,
        answered m asked was entry newest place place there
            ∙ (λ i. Some (record { outcome = outcomes.Committed (sym version_is i); marks = first.2 i })),
        of_symbol asks symbol k.makes,
        subst (λ list. IsReferAt new s.client symbol list place) first.2 (referred m was entry newest place there),
        refl,
      ) in
      record {
        after = omega (arith, there, longer);
        before = omega (arith, place_is);
        listed = none_listed asks symbol k.makes reply (own_events new s.client window) refl;
        listed_within = tt;
        own = record {
          events = own_turn asks symbol k.makes new s window reply true (own_events new s.client window)
              (subst (IsTurn new s window symbol true true true AnyMarks) (sym seen_own) (done_turn new s window symbol tries refused met_all few m.puts was entry m.list is_try));
          commits = sym (ap (refer_places s.client (length old)) (history_at_end new) ∙ places);
          short = λ c f. absurd (true≢false (sym c));
          meant = are_meant asks symbol k.makes new s reply (refer_places s.client (length old) (history_at new (length new))) tt;
          late = tt;
        };
        left = none_left asks symbol k.makes new s reply window refl;
        outcome = ok_is_legal asks symbol k.makes new client reply window version is_answer;
      }

  -- each try was met
  pub moved_legal : (place : ℕ) (more : History) (tries : List (List Event)) → AllByRecursion (IsRefused s.client symbol true) tries → length tries ≤ s.tries → new ≡ more ++ old → s.tries ≤ met_in s.client symbol more
      → own_of s.client more ≡ flat_map (λ t. t) tries → IsMet s.client symbol (length old) new place → MetTries s.client symbol Wants Loses s.tries old new place → refer_places s.client (length old) new ≡ []
      → IsLegalSeen new client asks (reply_to (Err (record { place = place; why = refusals.Moved place }))) window
  moved_legal place more tries refused all is met own_are m each none =
      let seen_own : own_events new s.client window ≡ flat_map (λ t. t) tries = own_in_window s.client old new more faulted is ∙ own_are in
      let enough : s.tries ≤ refers_by_others new s.client symbol window = subst (λ n. s.tries ≤ n) (sym (met_in_window s.client symbol old new more faulted is)) met in
      let reply : Reply = reply_to (Err (record { place = place; why = refusals.Moved place })) in
      record {
        after = omega (arith, m.added);
        before = m.within;
        listed = none_listed asks symbol k.makes reply (own_events new s.client window) refl;
        listed_within = tt;
        own = record {
          events = own_turn asks symbol k.makes new s window reply false (own_events new s.client window)
              (subst (IsTurn new s window symbol true false false AnyMarks) (sym seen_own) (open_turn new s window symbol tries refused (omega (arith, all, enough)) (omega (arith, all))));
          commits = sym (ap (refer_places s.client (length old)) (history_at_end new) ∙ none);
          short = λ c f. absurd (true≢false (sym c));
          meant = are_meant asks symbol k.makes new s reply (refer_places s.client (length old) (history_at new (length new))) tt;
          late = tt;
        };
        left = none_left asks symbol k.makes new s reply window refl;
        outcome = moved_refusal asks symbol k.makes new client reply window place (record {
          here = refl;
          inside = m.added;
          event = m.event;
          at = m.at;
          refers = m.refers;
          others = m.others;
          enough = enough;
          start = length old;
          from = omega arith;
          listed = omega arith;
          stop = length new;
          to = omega arith;
          beside = beside_tries asks symbol k.makes new s.client reply window (length old) (length new) (own_nowhere new s.client (length old)) (own_nowhere new s.client (length new));
          tries = subst (λ b. AreMetTries new s.client symbol b (MakesAt new client asks reply symbol) (FindsGone new client asks reply symbol) s.tries (length old) (length new) place) (sym (makes_one asks symbol k.makes))
              (tries_later s.client symbol true new [] (λ q. Wants (history_at new q)) (MakesAt new client asks reply symbol) (Loses new) (FindsGone new client asks reply symbol)
              (λ q le w. makes_at asks symbol k.makes new client reply q (k.wants (history_at new q) w (library_at new q) q)) (λ q z a b l. k.loses new limit reply q z l)
              s.tries (length old) (length new) place (omega arith) each);
        });
      }

  -- the library refuses, behind refused tries
  pub refused_legal : (place : ℕ) (why : Refusal) (more : History) (tries : List (List Event)) → AllByRecursion (IsRefused s.client symbol true) tries → length tries < s.tries → new ≡ more ++ old → length tries ≤ met_in s.client symbol more
      → own_of s.client more ≡ flat_map (λ t. t) tries → length old ≤ place → place ≤ length new → Refuses (history_at new place) why → refer_places s.client (length old) new ≡ []
      → IsLegalSeen new client asks (reply_to (Err (record { place = place; why = why }))) window
  refused_legal place why more tries refused few is met own_are from to refuses none =
      let seen_own : own_events new s.client window ≡ flat_map (λ t. t) tries = own_in_window s.client old new more faulted is ∙ own_are in
      let met_all : length tries ≤ refers_by_others new s.client symbol window = subst (λ n. length tries ≤ n) (sym (met_in_window s.client symbol old new more faulted is)) met in
      let reply : Reply = reply_to (Err (record { place = place; why = why })) in
      let plain = k.refuses (history_at new place) why refuses in
      let whole : is_cut (outcomes.Refused why) ≡ false = answer_not_cut why plain.0 in
      record {
        after = from;
        before = to;
        listed = none_listed asks symbol k.makes reply (own_events new s.client window) refl;
        listed_within = tt;
        own = record {
          events = on_false (IsBeginning (IsOwn new s window asks reply true) (own_events new s.client window) ⊎ IsBeginning (IsOwn new s window asks reply false) (own_events new s.client window)) (is_cut (outcomes.Refused why)) whole
              (own_turn asks symbol k.makes new s window reply false (own_events new s.client window)
              (subst (IsTurn new s window symbol true false (is_answered (outcomes.Refused why)) AnyMarks) (sym seen_own) (open_turn new s window symbol tries refused met_all (one_fewer (is_answered (outcomes.Refused why)) (length tries) s.tries few))));
          commits = no_place (is_store_fault (outcomes.Refused why)) (answer_no_fault why plain.0) (refer_places s.client (length old) (history_at new (length new))) (ap (refer_places s.client (length old)) (history_at_end new) ∙ none);
          short = λ c f. absurd (true≢false (sym c ∙ whole));
          meant = are_meant asks symbol k.makes new s reply (refer_places s.client (length old) (history_at new (length new)))
              (on_false _ (is_store_fault (outcomes.Refused why)) (answer_no_fault why plain.0) tt);
          late = on_false (length (own_events new s.client (record window { start = place })) ≤ one_if (is_store_fault (outcomes.Refused why))) (is_cut (outcomes.Refused why)) whole tt;
        };
        left = none_left asks symbol k.makes new s reply window refl;
        outcome = answer_refusal asks symbol k.makes new client reply window why plain.0 (inl (plain.1 (library_at new place) place, refl));
      }
