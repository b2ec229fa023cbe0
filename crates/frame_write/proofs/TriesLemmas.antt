-- Several tries, one after another.
use Rattle.std.proofs.Common.{◌≡◌, ℕ, ◌+◌, ◌≤◌, Bool, true, List, [], ◌∷◌, ◌++◌, length, refl, ap, sym, ◌∙◌, subst, inl, inr, arith, Result, Ok, Err, length-append}
use Rattle.std.specs.Prelude.{map}
use Rattle.std.specs.List.{flat_map}
use Rattle.frame_core.specs.declared.refusal.Refusal.{Refusal}
use Rattle.frame_core.specs.declared.refusal.Refusal.TheVariants as refusals
use Rattle.frame_core.specs.declared.refusal.Refused.{Refused}
use Rattle.key_kind.specs.Names.{Name}
use Rattle.bucket_core.specs.declared.event.Event.{Event}
use Rattle.bucket_core.specs.History.{History}
use Rattle.bucket_core.specs.Calls.{IsSteady}
use Rattle.reply_model.specs.Tries.{put_of, drop_of, IsRefused}
use Rattle.frame_write.specs.declared.options.Committed.{Committed}
use Rattle.version_chain.specs.Traces.{met_in, Went}
use Rattle.version_chain.specs.Stops.{HasCause, StopsAt}
use Rattle.frame_write.specs.Writes.{Always}
use Rattle.frame_write.specs.Tries.{Made, DidCommit, DidMeet, DidFail, DidTry, DidRefused, IsBusy, IsMet, IsPart, no_event, some_puts, some_drops}
use Rattle.frame_write.proofs.ListLemmas.{all_last}
use Rattle.version_chain.proofs.TraceLemmas.{append_assoc, went_none, went_then, went_as, went_longer, same_front, met_in-append}
use Rattle.frame_write.proofs.MeetLemmas.{met_sooner, met_once, met_went}
use Rattle.frame_write.proofs.CommitLemmas.{later_stop}
use Rattle.version_chain.proofs.SteadyLemmas.{cause_sooner, rose_sooner}

pub flat_last : (ts : List (List Event)) (t : List Event) → flat_map (λ t. t) (ts ++ t ∷ []) ≡ flat_map (λ t. t) ts ++ t
flat_last [] t = append_nil t
  where
    append_nil : (xs : List Event) → xs ++ [] ≡ xs
    append_nil [] = refl
    append_nil (x ∷ xs) = ap (λ l. x ∷ l) (append_nil xs)
flat_last (u ∷ ts) t = ap (λ l. u ++ l) (flat_last ts t) ∙ sym (append_assoc u (flat_map (λ t. t) ts) t)

pub tries_none : (client : ℕ) (sole : Bool) (symbol : Name) (old : History) → DidRefused client sole symbol old old 0
tries_none client sole symbol old = record { tries = []; refused = tt; counted = omega arith; went = went_none client sole old; met = omega arith }

-- one refused try more, which was met behind the place where it began
pub tries_more : (client : ℕ) (sole : Bool) (symbol : Name) (old mid new : History) (n : ℕ) (refused : Refused) → DidRefused client sole symbol old mid n → DidMeet client sole symbol (length mid) mid new refused → DidRefused client sole symbol old new (n + 1)
tries_more client sole symbol old mid new n refused a b =
    let own : List Event = map (put_of client) b.puts ++ map (drop_of client) b.puts in
    let last : Went client sole mid new own = met_went client sole symbol (length mid) mid new refused b in
    let w : Went client sole old new (flat_map (λ t. t) (a.tries ++ own ∷ [])) =
    went_as client sole old new (flat_map (λ t. t) a.tries ++ own) (flat_map (λ t. t) (a.tries ++ own ∷ [])) (sym (flat_last a.tries own)) (went_then client sole old mid new (flat_map (λ t. t) a.tries) own a.went last) in
    let is : new ≡ (last.more ++ a.went.more) ++ old = last.is ∙ (ap (λ h. last.more ++ h) a.went.is ∙ sym (append_assoc last.more a.went.more old)) in
    let same : w.more ≡ last.more ++ a.went.more = same_front w.more (last.more ++ a.went.more) old (sym w.is ∙ is) in
    let count : met_in client symbol w.more ≡ met_in client symbol last.more + met_in client symbol a.went.more = ap (met_in client symbol) same ∙ met_in-append client symbol last.more a.went.more in
    let size : length (a.tries ++ own ∷ []) ≡ length a.tries + 1 = length-append a.tries (own ∷ []) in
    let some : 1 ≤ met_in client symbol last.more = met_once client symbol mid last.more refused.place (subst (λ h. IsMet client symbol (length mid) h refused.place) last.is b.met) in
    record {
      tries = a.tries ++ own ∷ [];
      refused = all_last (IsRefused client symbol true) a.tries own a.refused (b.puts, b.entry, b.is_try, refl);
      counted = omega (arith, size, a.counted);
      went = w;
      met = omega (arith, count, a.met, some);
    }

pub last_met : (client : ℕ) (sole : Bool) (symbol : Name) (old mid new : History) (n : ℕ) (refused : Refused) → DidRefused client sole symbol old mid n → DidMeet client sole symbol (length mid) mid new refused
    → IsMet client symbol (length old) new refused.place
last_met client sole symbol old mid new n refused a b = met_sooner client symbol (length mid) (length old) new refused.place (went_longer client sole old mid (flat_map (λ t. t) a.tries) a.went) b.met

-- ---- what the refusal of a try tells

no_cause_moved : (limit before now : ℕ) (new : History) (refused : Refused) (why : Refusal) (at : ℕ) → why ≡ refusals.Moved at → HasCause limit before now new refused why → ⊥
no_cause_moved limit before now new refused why at is c = subst (HasCause limit before now new refused) is c

module _ (client : ℕ) (sole : Bool) (symbol : Name) (Asked : Made → Type 0) (limit before now from : ℕ) (old new : History) (refused : Refused) (d : DidTry client sole symbol Asked limit before now from old new (Err refused)) where
  -- it was met where the refusal is Moved
  pub met_where_moved : (at : ℕ) → refused.why ≡ refusals.Moved at → DidMeet client sole symbol from old new refused
  met_where_moved at is = elim d [
    | inl m ↦ m
    | inr f ↦ elim f [
      | inl s ↦ absurd (no_cause_moved limit before now new refused refused.why at is s.cause)
      | inr s ↦ absurd (apart (sym s.why ∙ is))
    ]
  ]
    where
      apart : refusals.StoreFault ≡ refusals.Moved at → ⊥
      apart e = cc

  -- and failed where it is not
  pub failed_else : ((at : ℕ) → refused.why ≡ refusals.Moved at → ⊥) → DidFail client sole symbol Asked limit before now from old new refused
  failed_else apart = elim d [
    | inl m ↦ absurd (apart refused.place m.why)
    | inr f ↦ f
  ]

pub moved_place : (client : ℕ) (sole : Bool) (symbol : Name) (from : ℕ) (old new : History) (refused : Refused) (at : ℕ) → refused.why ≡ refusals.Moved at → DidMeet client sole symbol from old new refused → refused.place ≡ at
moved_place client sole symbol from old new refused at is m = same (sym m.why ∙ is)
  where
    same : refusals.Moved refused.place ≡ refusals.Moved at → refused.place ≡ at
    same e = cc

-- what a try did, of the bucket as it was before earlier calls
module _ {B : Type 0} (number limit faults : B → ℕ) (sole : B → Bool) (a b : B) (steady : IsSteady number limit faults sole a b) (symbol : Name) (now from : ℕ) (x y : History) where
  -- where its commit was asked for, for each client
  pub try_steady : (Asked : ℕ → Made → Type 0) (r : Result Committed Refused) → DidTry (number b) (sole b) symbol (Asked (number b)) (limit b) (faults b) now from x y r → DidTry (number a) (sole a) symbol (Asked (number a)) (limit a) (faults a) now from x y r
  try_steady Asked r d =
      subst (λ n. DidTry n (sole a) symbol (Asked n) (limit a) (faults a) now from x y r) steady.same_number
      (subst (λ l. DidTry (number b) (sole a) symbol (Asked (number b)) l (faults a) now from x y r) steady.same_limit (weaker r d))
    where
      went : (u v : History) (own : List Event) → Went (number b) (sole b) u v own → Went (number b) (sole a) u v own
      went u v own w = record { more = w.more; is = w.is; own_are = w.own_are; alone = λ t. w.alone (steady.stays_sole t); lawful = w.lawful }

      commit : (done : Committed) → DidCommit (number b) (sole b) symbol (Asked (number b)) x y done → DidCommit (number b) (sole a) symbol (Asked (number b)) x y done
      commit done d = record {
        made = d.made;
        was = d.was;
        entry = d.entry;
        is_try = d.is_try;
        index = d.index;
        asked = d.asked;
        newest = d.newest;
        went = went x d.made.before _ d.went;
        lawful = d.lawful;
        version = d.version;
        place = d.place;
      }

      weaker : (r : Result Committed Refused) → DidTry (number b) (sole b) symbol (Asked (number b)) (limit b) (faults b) now from x y r → DidTry (number b) (sole a) symbol (Asked (number b)) (limit b) (faults a) now from x y r
      weaker (Ok done) d = commit done d
      weaker (Err refused) d = elim d [
        | inl m ↦ inl (record {
          puts = m.puts;
          entry = m.entry;
          is_try = m.is_try;
          showed = m.showed;
          put = went x m.showed _ m.put;
          shown = m.shown;
          dropped = went m.showed y _ m.dropped;
          met = m.met;
          why = m.why;
        })
        | inr f ↦ elim f [
          | inl s ↦ inr (inl (record {
            own = s.own;
            went = record { more = s.went.more; is = s.went.is; own_are = s.went.own_are; alone = λ t. s.went.alone (steady.stays_sole t); lawful = s.went.lawful };
            part = s.part;
            stops = s.stops;
            cause = cause_sooner (faults a) (faults b) now (limit b) y steady.faults_rise refused refused.why s.cause;
          }))
          | inr s ↦ inr (inr (record { done = s.done; commit = commit s.done s.commit; why = s.why; stops = s.stops; rose = rose_sooner (faults a) (faults b) now steady.faults_rise s.rose }))
        ]
      ]

-- ---- a commit that makes what is asked makes what follows from it

module _ (client : ℕ) (sole : Bool) (symbol : Name) (Asked Other : Made → Type 0) (follows : (m : Made) → Asked m → Other m) where
  pub commit_weaker : (old new : History) (done : Committed) → DidCommit client sole symbol Asked old new done → DidCommit client sole symbol Other old new done
  commit_weaker old new done d = record {
    made = d.made;
    was = d.was;
    entry = d.entry;
    is_try = d.is_try;
    index = d.index;
    asked = follows d.made d.asked;
    newest = d.newest;
    went = d.went;
    lawful = d.lawful;
    version = d.version;
    place = d.place;
  }

  fail_weaker : (limit before now from : ℕ) (old new : History) (refused : Refused) → DidFail client sole symbol Asked limit before now from old new refused → DidFail client sole symbol Other limit before now from old new refused
  fail_weaker limit before now from old new refused d = elim d [
    | inl s ↦ inl s
    | inr s ↦ inr (record { done = s.done; commit = commit_weaker old new s.done s.commit; why = s.why; stops = s.stops; rose = s.rose })
  ]

  pub try_weaker : (limit before now from : ℕ) (old new : History) (r : Result Committed Refused) → DidTry client sole symbol Asked limit before now from old new r → DidTry client sole symbol Other limit before now from old new r
  try_weaker limit before now from old new (Ok done) d = commit_weaker old new done d
  try_weaker limit before now from old new (Err refused) d = elim d [
    | inl m ↦ inl m
    | inr f ↦ inr (fail_weaker limit before now from old new refused f)
  ]

-- ---- a try that began with looks

pub met_from : (client : ℕ) (sole : Bool) (symbol : Name) (from earlier : ℕ) (old mid new : History) → earlier ≤ from → Went client sole old mid [] → (refused : Refused) → DidMeet client sole symbol from mid new refused → DidMeet client sole symbol earlier old new refused
met_from client sole symbol from earlier old mid new sooner looks refused m = record {
  puts = m.puts;
  entry = m.entry;
  is_try = m.is_try;
  showed = m.showed;
  put = went_then client sole old mid m.showed [] _ looks m.put;
  shown = m.shown;
  dropped = m.dropped;
  met = met_sooner client symbol from earlier new refused.place sooner m.met;
  why = m.why;
}

module _ (client : ℕ) (sole : Bool) (symbol : Name) (Asked : Made → Type 0) (limit before now from earlier : ℕ) (old mid new : History) (sooner : earlier ≤ from) (looks : Went client sole old mid []) where
  commit_from : (done : Committed) → DidCommit client sole symbol Asked mid new done → DidCommit client sole symbol Asked old new done
  commit_from done d = record {
    made = d.made;
    was = d.was;
    entry = d.entry;
    is_try = d.is_try;
    index = d.index;
    asked = d.asked;
    newest = d.newest;
    went = went_then client sole old mid d.made.before [] _ looks d.went;
    lawful = λ l. d.lawful (looks.lawful l);
    version = d.version;
    place = d.place;
  }

  part_from : (own : List Event) → IsPart client symbol from new own → IsPart client symbol earlier new own
  part_from _ no_event = no_event
  part_from _ (some_puts n puts entry t) = some_puts n puts entry t
  part_from _ (some_drops n puts entry t at m) = some_drops n puts entry t at (met_sooner client symbol from earlier new at sooner m)

  pub fail_from : (refused : Refused) → DidFail client sole symbol Asked limit before now from mid new refused → DidFail client sole symbol Asked limit before now earlier old new refused
  fail_from refused d = elim d [
    | inl s ↦ inl (record {
      own = s.own;
      went = went_then client sole old mid new [] s.own looks s.went;
      part = part_from s.own s.part;
      stops = later_stop client old mid new refused (went_longer client sole old mid [] looks) s.stops;
      cause = s.cause;
    })
    | inr s ↦ inr (record {
      done = s.done;
      commit = commit_from s.done s.commit;
      why = s.why;
      stops = later_stop client old mid new refused (went_longer client sole old mid [] looks) s.stops;
      rose = s.rose;
    })
  ]

  -- is a try from there on
  pub try_from : (r : Result Committed Refused) → DidTry client sole symbol Asked limit before now from mid new r → DidTry client sole symbol Asked limit before now earlier old new r
  try_from (Ok done) d = commit_from done d
  try_from (Err refused) d = elim d [
    | inl m ↦ inl (met_from client sole symbol from earlier old mid new sooner looks refused m)
    | inr f ↦ inr (fail_from refused f)
  ]

-- ---- a command that has a change to make in every history

-- where the store was full
pub busy_always : (client : ℕ) (sole : Bool) (symbol : Name) (Asked : Made → Type 0) (limit before now from : ℕ) (old new : History) (refused : Refused) → DidTry client sole symbol Asked limit before now from old new (Err refused)
    → ((at : ℕ) → refused.why ≡ refusals.Moved at → ⊥) → IsBusy Always old new refused.place refused.why
busy_always client sole symbol Asked limit before now from old new refused d apart =
    busy refused.why (elim (failed_else client sole symbol Asked limit before now from old new refused d apart) [ inl s ↦ stops_within s.stops | inr s ↦ stops_within s.stops ])
  where
    stops_within : StopsAt client old new refused → length old ≤ refused.place
    stops_within s = omega (arith, s.place, s.later)

    busy : (why : Refusal) → length old ≤ refused.place → IsBusy Always old new refused.place why
    busy (refusals.Spent count) le = (length old, omega arith, le, tt)
    busy why le = tt
