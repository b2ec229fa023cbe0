-- Several tries, one after another.
use Rattle.std.proofs.Common.{◌≡◌, ℕ, ◌+◌, ◌≤◌, Bool, false, List, [], ◌∷◌, ◌++◌, length, refl, ap, sym, ◌∙◌, subst, inl, inr, arith, Result, Ok, Err, length-append}
use Rattle.std.specs.List.{flat_map, AllByRecursion}
use Rattle.frame_core.specs.declared.refusal.Refused.{Refused}
use Rattle.key_kind.specs.Names.{Name}
use Rattle.bucket_core.specs.declared.event.Event.{Event}
use Rattle.bucket_core.specs.declared.event.Event.TheVariants as events
use Rattle.bucket_core.specs.History.{History, history_at}
use Rattle.reply_model.specs.Moves.{IsMetTry}
use Rattle.reply_model.proofs.MetTries as tries
use Rattle.bucket_core.specs.Calls.{IsSteady}
use Rattle.version_chain.specs.Traces.{met_in, Went}
use Rattle.version_chain.specs.Marking.{IsMet}
use Rattle.version_chain.proofs.TraceLemmas.{append_assoc, went_none, went_then, went_as, went_longer, same_front, met_in-append}
use Rattle.version_chain.proofs.MeetLemmas.{met_sooner, met_counts}
use Rattle.version_chain.proofs.SteadyLemmas.{cause_sooner, rose_sooner}
use Rattle.reply_model.specs.Tries.{IsRefused}
use Rattle.reply_model.specs.Kinds.{Burial}
use Rattle.prune_rule.specs.declared.burying.Buried.{Buried}
use Rattle.prune_rule.specs.Tries.{DidBury, DidMeet, DidEnd, DidRefused, Buries, Whole}

pub all_last : {X : Type 0} (P : X → Type 0) (xs : List X) (x : X) → AllByRecursion P xs → P x → AllByRecursion P (xs ++ x ∷ [])
all_last P [] x all p = (p, tt)
all_last P (y ∷ xs) x all p = (all.0, all_last P xs x all.1 p)

pub flat_last : (ts : List (List Event)) (t : List Event) → flat_map (λ t. t) (ts ++ t ∷ []) ≡ flat_map (λ t. t) ts ++ t
flat_last [] t = append_nil t
  where
    append_nil : (xs : List Event) → xs ++ [] ≡ xs
    append_nil [] = refl
    append_nil (x ∷ xs) = ap (λ l. x ∷ l) (append_nil xs)
flat_last (u ∷ ts) t = ap (λ l. u ++ l) (flat_last ts t) ∙ sym (append_assoc u (flat_map (λ t. t) ts) t)

pub tries_none : (client : ℕ) (sole : Bool) (symbol : Name) (old : History) → DidRefused client sole symbol old old 0
tries_none client sole symbol old = record { tries = []; refused = tt; counted = refl; went = went_none client sole old; met = omega arith }

-- the own events of a met try
pub met_went : (client : ℕ) (sole : Bool) (symbol : Name) (burial : Burial) (old new : History) (now : ℕ) → (m : DidMeet client sole symbol burial old new now)
    → Went client sole old new (events.Put client m.entry m.body ∷ events.Drop client m.entry ∷ [])
met_went client sole symbol burial old new now m = went_then client sole old m.showed new (events.Put client m.entry m.body ∷ []) (events.Drop client m.entry ∷ []) m.put m.dropped

-- as the reader of the history sees it
pub met_one : (client : ℕ) (sole : Bool) (symbol : Name) (burial : Burial) (old new : History) (now : ℕ) → DidMeet client sole symbol burial old new now
    → IsMetTry new client symbol false (λ q. Buries symbol burial (history_at new q)) (Whole new) (length old) (length new) now
met_one client sole symbol burial old new now m =
    tries.met_one client symbol false (Buries symbol burial) Whole m.busy.place now old m.showed new m.put.more m.dropped.more ((m.entry, m.body) ∷ []) m.entry m.busy.within.from m.between m.is_try m.put.is m.put.own_are m.shown m.dropped.is m.dropped.own_are (m.busy.numbers, m.busy.filled, m.busy.answered)

pub tries_more : (client : ℕ) (sole : Bool) (symbol : Name) (burial : Burial) (old mid new : History) (n now : ℕ) → DidRefused client sole symbol old mid n → DidMeet client sole symbol burial mid new now → DidRefused client sole symbol old new (n + 1)
tries_more client sole symbol burial old mid new n now a b =
    let own : List Event = events.Put client b.entry b.body ∷ events.Drop client b.entry ∷ [] in
    let last : Went client sole mid new own = met_went client sole symbol burial mid new now b in
    let w : Went client sole old new (flat_map (λ t. t) (a.tries ++ own ∷ [])) =
    went_as client sole old new (flat_map (λ t. t) a.tries ++ own) (flat_map (λ t. t) (a.tries ++ own ∷ [])) (sym (flat_last a.tries own)) (went_then client sole old mid new (flat_map (λ t. t) a.tries) own a.went last) in
    let is : new ≡ (last.more ++ a.went.more) ++ old = last.is ∙ (ap (λ h. last.more ++ h) a.went.is ∙ sym (append_assoc last.more a.went.more old)) in
    let same : w.more ≡ last.more ++ a.went.more = same_front w.more (last.more ++ a.went.more) old (sym w.is ∙ is) in
    let count : met_in client symbol w.more ≡ met_in client symbol last.more + met_in client symbol a.went.more = ap (met_in client symbol) same ∙ met_in-append client symbol last.more a.went.more in
    let size : length (a.tries ++ own ∷ []) ≡ length a.tries + 1 = length-append a.tries (own ∷ []) in
    record {
      tries = a.tries ++ own ∷ [];
      refused = all_last (IsRefused client symbol false) a.tries own a.refused ((b.entry, b.body) ∷ [], b.entry, b.is_try, refl);
      counted = omega (arith, size, a.counted);
      went = w;
      met = let some : 1 ≤ met_in client symbol last.more = met_counts client symbol (length mid) mid last.more now (omega arith) (subst (λ h. IsMet client symbol (length mid) h now) last.is b.met) in omega (arith, count, a.met, some);
    }

pub last_met : (client : ℕ) (sole : Bool) (symbol : Name) (burial : Burial) (old mid new : History) (n now : ℕ) → DidRefused client sole symbol old mid n → DidMeet client sole symbol burial mid new now → IsMet client symbol (length old) new now
last_met client sole symbol burial old mid new n now a b = met_sooner client symbol (length mid) (length old) new now (went_longer client sole old mid (flat_map (λ t. t) a.tries) a.went) b.met

-- what a try did, of the bucket as it was before earlier calls
module _ {B : Type 0} (number limit faults : B → ℕ) (sole : B → Bool) (a b : B) (steady : IsSteady number limit faults sole a b) (symbol : Name) (burial : Burial) (now : ℕ) (x y : History) where
  went : (u v : History) (own : List Event) → Went (number b) (sole b) u v own → Went (number b) (sole a) u v own
  went u v own w = record { more = w.more; is = w.is; own_are = w.own_are; alone = λ t. w.alone (steady.stays_sole t); lawful = w.lawful }

  buries : (done : Buried) → DidBury (number b) (sole b) symbol burial x y done → DidBury (number b) (sole a) symbol burial x y done
  buries done d = record {
    numbers = d.numbers;
    filled = d.filled;
    was = d.was;
    entry = d.entry;
    body = d.body;
    is_try = d.is_try;
    before = d.before;
    newest = d.newest;
    went = went x d.before _ d.went;
    lawful = d.lawful;
    answered = d.answered;
    versions = d.versions;
    place = d.place;
    commit = d.commit;
  }

  ends : (r : Result Buried Refused) → DidEnd (number b) (sole b) symbol burial (limit b) (faults b) now x y r → DidEnd (number b) (sole a) symbol burial (limit b) (faults a) now x y r
  ends (Ok done) d = elim d [
    | inl c ↦ inl (buries done c)
    | inr n ↦ inr (record { went = went x y [] n.went; place = n.place; answered = n.answered; versions = n.versions; commit = n.commit })
  ]
  ends (Err refused) d = elim d [
    | inl r ↦ inl (record { went = went x y [] r.went; place = r.place; answered = r.answered })
    | inr rest ↦ elim rest [
      | inl s ↦ inr (inl (record {
        own = s.own;
        went = record { more = s.went.more; is = s.went.is; own_are = s.went.own_are; alone = λ t. s.went.alone (steady.stays_sole t); lawful = s.went.lawful };
        part = s.part;
        stops = s.stops;
        cause = cause_sooner (faults a) (faults b) now (limit b) y steady.faults_rise refused refused.why s.cause;
        busy = s.busy;
      }))
      | inr s ↦ inr (inr (record { done = s.done; commit = buries s.done s.commit; why = s.why; stops = s.stops; rose = rose_sooner (faults a) (faults b) now steady.faults_rise s.rose }))
    ]
  ]

  pub end_steady : (r : Result Buried Refused) → DidEnd (number b) (sole b) symbol burial (limit b) (faults b) now x y r → DidEnd (number a) (sole a) symbol burial (limit a) (faults a) now x y r
  end_steady r d =
      subst (λ n. DidEnd n (sole a) symbol burial (limit a) (faults a) now x y r) steady.same_number
      (subst (λ l. DidEnd (number b) (sole a) symbol burial l (faults a) now x y r) steady.same_limit (ends r d))

  pub meet_steady : (place : ℕ) → DidMeet (number b) (sole b) symbol burial x y place → DidMeet (number a) (sole a) symbol burial x y place
  meet_steady place d = subst (λ n. DidMeet n (sole a) symbol burial x y place) steady.same_number (record {
    entry = d.entry;
    body = d.body;
    is_try = d.is_try;
    showed = d.showed;
    put = went x d.showed _ d.put;
    shown = d.shown;
    dropped = went d.showed y _ d.dropped;
    met = d.met;
    busy = d.busy;
    between = d.between;
  })
