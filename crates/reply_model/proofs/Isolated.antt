-- A command that is alone on its symbol answers what the one-thread library answers where its window begins.
use Rattle.std.proofs.Common.{◌≡◌, ℕ, zero, suc, ◌-◌, ◌≤◌, ◌<◌, Bool, true, false, List, [], ◌∷◌, length, Option, Some, None, Result, Ok, refl, sym, ◌∙◌, ap, subst, inl, inr, arith, cond}
use Rattle.std.specs.Prelude.{◌⊎◌, ◌≢◌, not, find, Contains, MatchBool, nat_eq, slice_get, unwrap_or, int_le, option_map}
use Rattle.std.specs.List.{list_any}
use Rattle.std.proofs.lemmas.Bool.{true≢false, not-true, eqb-true, eq-eqb}
use Rattle.frame_core.specs.Ranges.{Range}
use Rattle.frame_core.specs.Frames.{Frame}
use Rattle.frame_core.specs.Texts.{Text}
use Rattle.frame_core.specs.declared.refusal.Asked.{Asked}
use Rattle.frame_core.specs.declared.refusal.Asked.TheVariants as asks
use Rattle.frame_core.specs.declared.refusal.Refusal.{Refusal}
use Rattle.frame_core.specs.declared.refusal.Refusal.TheVariants as refusals
use Rattle.store_model.proofs.Lists.{contains_first, contains_later, contains_none, contains_cases, filter_in}
use Rattle.key_kind.specs.Names.{Name}
use Rattle.bucket_core.specs.declared.event.Event.{Event}
use Rattle.bucket_core.specs.declared.event.Event.TheVariants as events
use Rattle.bucket_core.specs.History.{History, author, event_at, history_at}
use Rattle.bucket_core.specs.Laws.{refers}
use Rattle.store_model.specs.Library.{State, Version, Piece, state_of, is_buried, live_versions, unknown}
use Rattle.store_model.specs.Snapshots.{Library}
use Rattle.expr_clause.specs.declared.command.AsOf.{AsOf}
use Rattle.expr_clause.specs.declared.command.AsOf.TheVariants as moments
use Rattle.expr_clause.specs.declared.command.Command.{Command}
use Rattle.expr_clause.specs.declared.command.Command.TheVariants as commands
use Rattle.reply_model.specs.declared.outcome.Outcome.{Outcome}
use Rattle.reply_model.specs.declared.outcome.Outcome.TheVariants as outcomes
use Rattle.reply_model.specs.declared.reply.Reply.{Reply}
use Rattle.reply_model.specs.CommitAnswers.{burial_answer}
use Rattle.reply_model.specs.Kinds.{Kind, kind_of, kind_symbol, Makes, Finalizes, Buries, Discards, Reads}
use Rattle.expr_clause.specs.declared.clause.Clause.{Clause}
use Rattle.reply_model.specs.Answering.{Session, Answer, ◌then◌, answered, stamp_of, version_or, refuse_if, or_refuse}
use Rattle.reply_model.specs.Answers.{made_answer, finalized_answer, read_answer, answer_of, answer}
use Rattle.reply_model.specs.ReadAnswers.{read_version, ask}
use Rattle.reply_model.specs.PieceAnswers.{finalize_answer, discard_answer}
use Rattle.reply_model.specs.Windows.{Window, Client, library_at, own_events, symbol_of, is_cut, is_store_fault, listed_at, refer_places, AreCommits}
use Rattle.reply_model.specs.OwnEvents.{IsStaging, IsOwn, is_done, IsBeginning, HasOwnEvents}
use Rattle.reply_model.specs.Causes.{MeetsOn, IsMoved, IsVersionGone}
use Rattle.reply_model.specs.Rows.{IsAnswer}
use Rattle.reply_model.specs.Legal.{IsLegalRefusal, IsLegalOk, IsLegalOutcome, IsLegalSeen, IsListedWithin}
use Rattle.reply_model.specs.Runs.{names_symbol, reads_snapshot, IsAlone}
use Rattle.reply_model.proofs.Places.{history_at_end, is_refer_of, refer_listed, listed_after, none_own_at}
use Rattle.reply_model.proofs.Quiet.{is_plain_of, is_plain, Quiet, others_unnamed, state_kept, staged_kept, own_stages_nothing}

-- ---- answers by the state alone

pub some_name : (a b : Name) → Some a ≡ Some b → a ≡ b
some_name a b e = cc

-- a value of the named state
same_state : (l m : Library) (a symbol : Name) → Some a ≡ Some symbol → l.state symbol ≡ m.state symbol → l.state a ≡ m.state a
same_state l m a symbol named e = subst (λ n. l.state n ≡ m.state n) (sym (some_name a symbol named)) e

same_pieces : (l m : Library) (a symbol : Name) → Some a ≡ Some symbol → (l.state symbol).staged ≡ (m.state symbol).staged → (l.state a).staged ≡ (m.state a).staged
same_pieces l m a symbol named e = subst (λ n. (l.state n).staged ≡ (m.state n).staged) (sym (some_name a symbol named)) e

-- the state of a symbol, if one is named
abbrev pub state_named : Library → Option Name → State
state_named l None = unknown
state_named l (Some symbol) = l.state symbol

same_named : (l m : Library) (o : Option Name) (symbol : Name) → o ≡ Some symbol → l.state symbol ≡ m.state symbol → state_named l o ≡ state_named m o
same_named l m o symbol named e = subst (λ x. state_named l x ≡ state_named m x) (sym named) e

-- a read that is through no snapshot goes by the state of its symbol
read_by_state : (l m : Library) (c : Command) → reads_snapshot c ≡ false → state_named l (symbol_of c) ≡ state_named m (symbol_of c) → read_answer l c ≡ read_answer m c
read_by_state l m (commands.Read a (moments.Snapshot name) range columns clauses) snap same = absurd (true≢false snap)
read_by_state l m c snap same = ap (λ (st : State). read_answer (record l { state = λ x. st }) c) same

-- a finalize goes by the pieces that were staged at its list
finalized_by_pieces : (s : Session) (x y st : State) (c : Command) → x.staged ≡ y.staged → finalized_answer s x st c ≡ finalized_answer s y st c
finalized_by_pieces s x y st (commands.Finalize a append sorted at prune) e = ap (λ (ps : List Piece). Some (answered (finalize_answer (record unknown { staged = ps }) st append sorted prune (stamp_of s at)))) e
finalized_by_pieces s x y st c e = refl

-- an answer goes by the state of its symbol, and by the pieces that were staged at its list
answer_same : (s : Session) (list other : Library) (l m : Library) (p q : ℕ) (c : Command) (symbol : Name) → is_plain c ≡ true → symbol_of c ≡ Some symbol → reads_snapshot c ≡ false
    → (list.state symbol).staged ≡ (other.state symbol).staged → l.state symbol ≡ m.state symbol → answer s list l p c ≡ answer s other m q c
answer_same s list other l m p q c symbol plain named snap listed same = by_kind (kind_of c) plain named
  where
    by_kind : (k : Kind) → is_plain_of k ≡ true → kind_symbol k ≡ Some symbol → answer_of s list l p c k ≡ answer_of s other m q c k
    by_kind (Makes a) is on = ap (λ (st : State). made_answer s st c) (same_state l m a symbol on same)
    by_kind (Finalizes a) is on = finalized_by_pieces s (list.state a) (other.state a) (l.state a) c (same_pieces list other a symbol on listed)
        ∙ ap (λ (st : State). finalized_answer s (other.state a) st c) (same_state l m a symbol on same)
    by_kind (Buries a burial) is on = ap (λ (st : State). Some (answered (burial_answer burial st))) (same_state l m a symbol on same)
    by_kind (Discards a) is on =
        ap (λ (ps : List Piece). Some (answered (discard_answer (record unknown { staged = ps }) (l.state a)))) (same_pieces list other a symbol on listed)
        ∙ ap (λ (st : State). Some (answered (discard_answer (other.state a) st))) (same_state l m a symbol on same)
    by_kind (Reads a) is on = read_by_state l m c snap (same_named l m (symbol_of c) symbol named same)
    by_kind k is on = absurd (true≢false (sym is))

-- ---- the clauses of a plain command

-- a try met another's Refer
abbrev pub Met : History → Client → Command → Reply → Window → Type 0
Met h client c reply w = (symbol : Name) × (now : ℕ) × MeetsOn h c reply symbol × IsMoved h client c reply symbol now w

-- a version that was read is gone
abbrev pub Gone : History → Command → Reply → Window → Type 0
Gone h (commands.Read symbol as_of range columns clauses) reply w = (number : ℕ) × IsVersionGone h symbol as_of range columns number reply.place w
Gone h c reply w = ⊥

plain_refusal : (h : History) (client : Client) (c : Command) (reply : Reply) (w : Window) (why : Refusal) → is_plain c ≡ true → is_cut (outcomes.Refused why) ≡ false → IsLegalRefusal h client c reply w why
    → Met h client c reply w ⊎ Gone h c reply w ⊎ IsAnswer h client c reply
plain_refusal h client c reply w refusals.NoMemory plain cut l = absurd (true≢false cut)
plain_refusal h client c reply w refusals.StoreFault plain cut l = absurd (true≢false cut)
plain_refusal h client c reply w (refusals.Spent count) plain cut l = absurd (true≢false cut)
plain_refusal h client c reply w (refusals.Moved now) plain cut l = inl (l.0, now, l.1, l.2)
plain_refusal h client (commands.Read symbol as_of range columns clauses) reply w (refusals.VersionGone number) plain cut l = inr (inl (number, l))
plain_refusal h client (commands.Reclaim symbol) reply w why plain cut l = absurd (true≢false (sym plain))
plain_refusal h client (commands.DeleteSnapshot snap) reply w why plain cut l = absurd (true≢false (sym plain))
plain_refusal h client (commands.Snapshot snap picks) reply w why plain cut l = absurd (true≢false (sym plain))
plain_refusal h client c reply w (refusals.VersionGone number) plain cut l = absurd l
plain_refusal h client c reply w why plain cut l = inr (inr l)

plain_ok : (h : History) (client : Client) (c : Command) (reply : Reply) (w : Window) (o : Outcome) → is_plain c ≡ true → IsLegalOk h client c reply w o → IsAnswer h client c reply
plain_ok h client (commands.Stage symbol frame) reply w o plain l = absurd (true≢false (sym plain))
plain_ok h client (commands.Reclaim symbol) reply w o plain l = absurd (true≢false (sym plain))
plain_ok h client (commands.Keys symbol) reply w o plain l = absurd (true≢false (sym plain))
plain_ok h client (commands.Snapshot snap picks) reply w o plain l = absurd (true≢false (sym plain))
plain_ok h client (commands.DeleteSnapshot snap) reply w o plain l = absurd (true≢false (sym plain))
plain_ok h client commands.Symbols reply w o plain l = absurd (true≢false (sym plain))
plain_ok h client commands.Snapshots reply w o plain l = absurd (true≢false (sym plain))
plain_ok h client c reply w o plain l = l

pub plain_outcome : (h : History) (client : Client) (c : Command) (reply : Reply) (w : Window) (o : Outcome) → is_plain c ≡ true → is_cut o ≡ false → IsLegalOutcome h client c reply w o
    → Met h client c reply w ⊎ Gone h c reply w ⊎ IsAnswer h client c reply
plain_outcome h client c reply w (outcomes.Refused why) plain cut l = plain_refusal h client c reply w why plain cut l
plain_outcome h client c reply w o plain cut l = inr (inr (plain_ok h client c reply w o plain l))

-- what is not cut is no failure of the store
pub uncut_is_no_fault : (o : Outcome) → is_cut o ≡ false → is_store_fault o ≡ false
uncut_is_no_fault (outcomes.Refused refusals.StoreFault) cut = absurd (true≢false cut)
uncut_is_no_fault (outcomes.Refused why) cut = refl
uncut_is_no_fault o cut = refl

-- ---- a version that was read is live

-- through a snapshot
abbrev pub reads_snapshot_as : AsOf → Bool
reads_snapshot_as (moments.Snapshot name) = true
reads_snapshot_as as_of = false

found_in : {X : Type 0} (p : X → Bool) (xs : List X) (x : X) → find p xs ≡ Some x → Contains xs x
found_in p [] x e = absurd cc
found_in p (y ∷ xs) x e =
    elim (p y) as (λ b. cond b (Some y) (find p xs) ≡ Some x → Contains (y ∷ xs) x) [
      | true ↦ λ f. subst (λ z. Contains (y ∷ xs) z) (some_same y x f) (contains_first y xs)
      | false ↦ λ f. contains_later x y xs (found_in p xs x f)
    ] e
  where
    some_same : {X : Type 0} (a b : X) → Some a ≡ Some b → a ≡ b
    some_same a b e = cc

placed_in : (xs : List Version) (k : ℕ) (x : Version) → slice_get xs k ≡ Some x → Contains xs x
placed_in [] k x e = absurd cc
placed_in (y ∷ xs) zero x e = subst (λ z. Contains (y ∷ xs) z) (some_same y x e) (contains_first y xs)
  where
    some_same : (a b : Version) → Some a ≡ Some b → a ≡ b
    some_same a b e = cc
placed_in (y ∷ xs) (suc k) x e = contains_later x y xs (placed_in xs k x e)

-- a version, where there is one
found_of : (st : State) (asked : Asked) (o : Option Version) (v : Version) → version_or st asked o ≡ Ok v → o ≡ Some v
found_of st asked o v e = elim (not st.has_reference) as (λ b. refuse_if b refusals.NoSuchSymbol (or_refuse o (refusals.NoSuchVersion asked)) ≡ Ok v → o ≡ Some v) [
  | true ↦ λ f. absurd cc
  | false ↦ λ f. found o f
] e
  where
    found : (p : Option Version) → or_refuse p (refusals.NoSuchVersion asked) ≡ Ok v → p ≡ Some v
    found None f = absurd cc
    found (Some x) f = cc

live_is_not_buried : (st : State) (v : Version) → Contains (live_versions st) v → is_buried st v.number ≡ false
live_is_not_buried st v there = not-true (is_buried st v.number) (filter_in (λ (x : Version). not (is_buried st x.number)) st.versions v there).1

pub read_is_live : (l : Library) (symbol : Name) (as_of : AsOf) (v : Version) → reads_snapshot_as as_of ≡ false → read_version l symbol as_of ≡ Ok v → is_buried (l.state symbol) v.number ≡ false
read_is_live l symbol (moments.Back zero) v snap e = absurd (none_is_not_some v (found_of (l.state symbol) (asks.Back 0) None v e))
  where
    none_is_not_some : (v : Version) → None ≡ Some v → ⊥
    none_is_not_some v f = cc
read_is_live l symbol (moments.Back (suc k)) v snap e = live_is_not_buried (l.state symbol) v (placed_in (live_versions (l.state symbol)) k v (found_of (l.state symbol) (asks.Back (suc k)) (slice_get (live_versions (l.state symbol)) k) v e))
read_is_live l symbol (moments.Number n) v snap e =
    live_is_not_buried (l.state symbol) v (found_in (λ x. nat_eq x.number n) (live_versions (l.state symbol)) v (found_of (l.state symbol) (asks.Number n) (find (λ x. nat_eq x.number n) (live_versions (l.state symbol))) v e))
read_is_live l symbol (moments.Moment t) v snap e =
    live_is_not_buried (l.state symbol) v (found_in (λ x. int_le x.stamp t) (live_versions (l.state symbol)) v (found_of (l.state symbol) (asks.Moment t) (find (λ x. int_le x.stamp t) (live_versions (l.state symbol))) v e))
read_is_live l symbol (moments.Snapshot name) v snap e = absurd (true≢false snap)

-- ---- a plain command that is alone

-- a reply of a plain command that is not cut, legal in a history that ends with its window, of which no other names the symbol
record Alone (h : History) (client : Client) (c : Command) (reply : Reply) (w : Window) (symbol : Name) : Type 0 where
  plain : is_plain c ≡ true
  named : symbol_of c ≡ Some symbol
  snap : reads_snapshot c ≡ false
  cut : is_cut reply.outcome ≡ false
  ends : w.stop ≡ length h
  legal : IsLegalSeen h client c reply w
  alone : IsAlone h client.session.client symbol w

pub own_events_are : (h : History) (s : Session) (c : Command) (reply : Reply) (w : Window) → HasOwnEvents h s c reply w → is_cut reply.outcome ≡ false → IsOwn h s w c reply (is_done reply) (own_events h s.client w)
own_events_are h s c reply w o cut =
    subst (λ b. MatchBool b (IsBeginning (IsOwn h s w c reply true) (own_events h s.client w) ⊎ IsBeginning (IsOwn h s w c reply false) (own_events h s.client w))
    (IsOwn h s w c reply (is_done reply) (own_events h s.client w))) cut o.events

quiet_of : (h : History) (client : Client) (c : Command) (reply : Reply) (w : Window) (symbol : Name) → Alone h client c reply w symbol → Quiet h client.session.client symbol w
quiet_of h client c reply w symbol a = record {
  ends = a.ends;
  alone = a.alone;
  own = own_stages_nothing h client.session w c reply (is_done reply) (own_events h client.session.client w) a.plain (own_events_are h client.session c reply w a.legal.own a.cut);
}

-- the commits are the places of all own Refers
commits_are : (h : History) (client : Client) (c : Command) (reply : Reply) (w : Window) (symbol : Name) → Alone h client c reply w symbol → reply.commits ≡ refer_places client.session.client w.start h
commits_are h client c reply w symbol a =
    subst (λ b. AreCommits b reply.commits (refer_places client.session.client w.start (history_at h w.stop))) (uncut_is_no_fault reply.outcome a.cut) a.legal.own.commits
    ∙ ap (refer_places client.session.client w.start) (ap (history_at h) a.ends ∙ history_at_end h)

own_refer : (symbol : Name) (e : Event) (client : ℕ) → refers symbol e ≡ true → author e ≡ client → is_refer_of client e ≡ true
own_refer symbol (events.Refer c s was entry list) client r own = eq-eqb c client own
own_refer symbol (events.Put c key body) client r own = absurd (true≢false (sym r))
own_refer symbol (events.Name c snap body) client r own = absurd (true≢false (sym r))
own_refer symbol (events.Unname c snap) client r own = absurd (true≢false (sym r))
own_refer symbol (events.Drop c key) client r own = absurd (true≢false (sym r))

-- up to a place without commits the state is that of the window's beginning
state_before : (h : History) (client : Client) (c : Command) (reply : Reply) (w : Window) (symbol : Name) (q : ℕ) → Alone h client c reply w symbol → w.start ≤ q → q ≤ length h
    → ((n : ℕ) → Contains reply.commits n → n ≤ q → ⊥) → state_of (history_at h q) symbol ≡ state_of (history_at h w.start) symbol
state_before h client c reply w symbol q a first last none =
    state_kept h client.session.client symbol w q (quiet_of h client c reply w symbol a) first last (λ n e after before at own.
    elim (refers symbol e) as (λ b. refers symbol e ≡ b → b ≡ false) [
      | true ↦ λ r. absurd (none n (subst (λ ns. Contains ns n) (sym (commits_are h client c reply w symbol a))
          (refer_listed client.session.client w.start h n e (own_refer symbol e client.session.client r own) after (omega (arith, before, last)) at)) before)
      | false ↦ λ r. refl
    ] refl)

-- the list was made in the window
list_within : (listed : Option ℕ) (start place : ℕ) → IsListedWithin listed start place → start ≤ place → (start ≤ unwrap_or listed place) × (unwrap_or listed place ≤ place)
list_within None start place l first = (first, omega arith)
list_within (Some n) start place l first = l

-- so there the answer is that of the window's beginning
answer_before : (h : History) (client : Client) (c : Command) (reply : Reply) (w : Window) (symbol : Name) (q : ℕ) → Alone h client c reply w symbol → w.start ≤ q → q ≤ reply.place
    → ((n : ℕ) → Contains reply.commits n → n ≤ q → ⊥)
    → answer client.session (library_at h (listed_at reply)) (library_at h q) q c ≡ answer client.session (library_at h w.start) (library_at h w.start) w.start c
answer_before h client c reply w symbol q a first last none =
    let list = list_within reply.listed w.start reply.place a.legal.listed_within a.legal.after in
    let end : reply.place ≤ length h = omega (arith, a.legal.before, a.ends) in
    answer_same client.session (library_at h (listed_at reply)) (library_at h w.start) (library_at h q) (library_at h w.start) q w.start c symbol a.plain a.named a.snap
    (staged_kept h client.session.client symbol w (listed_at reply) (quiet_of h client c reply w symbol a) list.0 (omega (arith, list.1, end)))
    (state_before h client c reply w symbol q a first (omega (arith, last, end)) none)

pub some_answer : (x y : Answer) → Some x ≡ Some y → x ≡ y
some_answer x y e = cc

-- an answer is that of the window's beginning
answer_is : (h : History) (client : Client) (c : Command) (reply : Reply) (w : Window) (symbol : Name) (b : Answer) → Alone h client c reply w symbol → IsAnswer h client c reply
    → answer client.session (library_at h w.start) (library_at h w.start) w.start c ≡ Some b → reply.outcome ≡ b.outcome
answer_is h client c reply w symbol b a is answered = elim is [
  | inl told ↦
      let same = answer_before h client c reply w symbol reply.place a a.legal.after (omega arith) (λ n there before. contains_none n (subst (λ ns. Contains ns n) told.1 there)) in
      ap (λ (x : Answer). x.outcome) (some_answer (record { outcome = reply.outcome; marks = [] }) b (sym told.0 ∙ (same ∙ answered)))
  | inr made ↦
      let within : w.start < reply.place = listed_after client.session.client w.start h reply.place
      (subst (λ ns. Contains ns reply.place) (sym made.6 ∙ commits_are h client c reply w symbol a) (contains_first reply.place [])) in
      let same = answer_before h client c reply w symbol (reply.place - 1) a (omega (arith, within)) (omega arith) (λ n there before.
      elim (contains_cases n reply.place [] (subst (λ ns. Contains ns n) made.6 there)) [
        | inl here ↦ omega (arith, here, before, within)
        | inr none ↦ contains_none n none
      ]) in
      ap (λ (x : Answer). x.outcome) (some_answer (record { outcome = reply.outcome; marks = made.0 ∷ made.1 }) b (sym made.3 ∙ (same ∙ answered)))
]

-- ---- nothing is met, and nothing goes

-- the symbol that a plain command may meet on is its own
meets_own : (h : History) (c : Command) (reply : Reply) (symbol : Name) → is_plain c ≡ true → MeetsOn h c reply symbol → symbol_of c ≡ Some symbol
meets_own h (commands.Snapshot snap picks) reply symbol plain m = absurd (true≢false (sym plain))
meets_own h c reply symbol plain m = m.1

pub refers_names : (symbol : Name) (e : Event) → refers symbol e ≡ true → names_symbol symbol e ≡ true
refers_names symbol (events.Refer c s was entry list) r = r
refers_names symbol (events.Put c key body) r = absurd (true≢false (sym r))
refers_names symbol (events.Name c snap body) r = absurd (true≢false (sym r))
refers_names symbol (events.Unname c snap) r = absurd (true≢false (sym r))
refers_names symbol (events.Drop c key) r = absurd (true≢false (sym r))

pub not_same : (a b : ℕ) → a ≢ b → nat_eq a b ≡ false
not_same a b other = elim (nat_eq a b) as (λ t. nat_eq a b ≡ t → t ≡ false) [ true ↦ λ e. absurd (other (eqb-true a b e)) | false ↦ λ e. refl ] refl

not_met : (h : History) (client : Client) (c : Command) (reply : Reply) (w : Window) (symbol : Name) → Alone h client c reply w symbol → Met h client c reply w → ⊥
not_met h client c reply w symbol a m =
    let is : m.0 ≡ symbol = some_name m.0 symbol (sym (meets_own h c reply m.0 a.plain m.2) ∙ a.named) in
    let unnamed = others_unnamed h client.session.client symbol w a.ends a.alone reply.place m.3.event m.3.inside (omega (arith, a.legal.before, a.ends)) m.3.at (not_same _ _ m.3.others) in
    true≢false (sym (refers_names symbol m.3.event (subst (λ n. refers n m.3.event ≡ true) is m.3.refers)) ∙ unnamed)

not_through_snapshot : (symbol : Name) (as_of : AsOf) (range : Range) (columns : Option (List Text)) (clauses : List Clause) → reads_snapshot (commands.Read symbol as_of range columns clauses) ≡ false → reads_snapshot_as as_of ≡ false
not_through_snapshot symbol (moments.Snapshot name) range columns clauses e = e
not_through_snapshot symbol (moments.Back k) range columns clauses e = refl
not_through_snapshot symbol (moments.Number n) range columns clauses e = refl
not_through_snapshot symbol (moments.Moment t) range columns clauses e = refl

not_gone : (h : History) (client : Client) (c : Command) (reply : Reply) (w : Window) (symbol : Name) → Alone h client c reply w symbol → Gone h c reply w → ⊥
not_gone h client (commands.Read read as_of range columns clauses) reply w symbol a g =
    let is : read ≡ symbol = some_name read symbol a.named in
    let own : own_events h client.session.client w ≡ [] = own_events_are h client.session (commands.Read read as_of range columns clauses) reply w a.legal.own a.cut in
    let no_own : (n : ℕ) (e : Event) → w.start < n → n ≤ length h → event_at h n ≡ Some e → author e ≡ client.session.client → ⊥ =
    λ n e after before at mine. true≢false (none_own_at (λ x. true) h client.session.client w n e a.ends (ap (list_any (λ x. true)) own) mine after before at) in
    let quiet = quiet_of h client (commands.Read read as_of range columns clauses) reply w symbol a in
    let end : reply.place ≤ length h = omega (arith, a.legal.before, a.ends) in
    let kept : (q : ℕ) → w.start ≤ q → q ≤ reply.place → state_of (history_at h q) symbol ≡ state_of (history_at h w.start) symbol =
    λ q first last. state_kept h client.session.client symbol w q quiet first (omega (arith, last, end)) (λ n e after before at mine. absurd (no_own n e after (omega (arith, before, last, end)) at mine)) in
    let live : is_buried (state_of (history_at h g.1.read_at) read) g.1.version.number ≡ false =
    read_is_live (library_at h g.1.read_at) read as_of g.1.version (not_through_snapshot read as_of range columns clauses a.snap) g.1.read in
    let here : is_buried (state_of (history_at h reply.place) read) g.1.version.number ≡ false =
    subst (λ n. is_buried (state_of (history_at h reply.place) n) g.1.version.number ≡ false) (sym is)
    (subst (λ st. is_buried st g.1.version.number ≡ false) (kept g.1.read_at g.1.from g.1.to ∙ sym (kept reply.place a.legal.after (omega arith)))
    (subst (λ n. is_buried (state_of (history_at h g.1.read_at) n) g.1.version.number ≡ false) is live)) in
    true≢false (sym g.1.buried ∙ subst (λ n. is_buried (state_of (history_at h reply.place) read) n ≡ false) g.1.number_is here)
not_gone h client c reply w symbol a g = g

-- ---- staging

stage_answer : (s : Session) (l m : Library) (p q : ℕ) (symbol : Name) (frame : ℕ) → answer s l l p (commands.Stage symbol frame) ≡ answer s m m q (commands.Stage symbol frame)
stage_answer s l m p q symbol frame = refl

staged_is_answered : (s : Session) (symbol : Name) (frame : ℕ) (es : List Event) (l : Library) (p : ℕ) → IsStaging s symbol frame es → answer s l l p (commands.Stage symbol frame) ≡ Some (record { outcome = outcomes.Staged; marks = [] })
staged_is_answered s symbol frame es l p st = ap (λ (o : Option (Result Frame Refusal)). option_map (λ f. answered (f then λ x. Ok (record { outcome = outcomes.Staged; marks = [] }))) o) st.frame_is

stage_is : (h : History) (client : Client) (symbol : Name) (frame : ℕ) (reply : Reply) (w : Window) (b : Answer) (o : Outcome) → reply.outcome ≡ o → is_cut o ≡ false → IsLegalOutcome h client (commands.Stage symbol frame) reply w o
    → answer client.session (library_at h w.start) (library_at h w.start) w.start (commands.Stage symbol frame) ≡ Some b → reply.outcome ≡ b.outcome
stage_is h client symbol frame reply w b outcomes.Staged e cut l answered =
    e ∙ ap (λ (x : Answer). x.outcome) (some_answer (record { outcome = outcomes.Staged; marks = [] }) b (sym (staged_is_answered client.session symbol frame (l.event ∷ []) (library_at h w.start) w.start l.staging) ∙ answered))
stage_is h client symbol frame reply w b (outcomes.Refused refusals.NoMemory) e cut l answered = absurd (true≢false cut)
stage_is h client symbol frame reply w b (outcomes.Refused refusals.StoreFault) e cut l answered = absurd (true≢false cut)
stage_is h client symbol frame reply w b (outcomes.Refused (refusals.Spent count)) e cut l answered = absurd (true≢false cut)
stage_is h client symbol frame reply w b (outcomes.Refused (refusals.Moved now)) e cut l answered = absurd (true≢false (sym l.1.0))
stage_is h client symbol frame reply w b (outcomes.Refused (refusals.VersionGone number)) e cut l answered = absurd l
stage_is h client symbol frame reply w b (outcomes.Refused why) e cut l answered = elim l [
  | inl told ↦ ap (λ (x : Answer). x.outcome) (some_answer (record { outcome = reply.outcome; marks = [] }) b (sym told.0 ∙ answered))
  | inr made ↦ ap (λ (x : Answer). x.outcome) (some_answer (record { outcome = reply.outcome; marks = made.0 ∷ made.1 }) b (sym made.3 ∙ answered))
]
stage_is h client symbol frame reply w b o e cut l answered = absurd l

-- ---- all commands

plain_is : (h : History) (client : Client) (c : Command) (reply : Reply) (w : Window) (symbol : Name) (b : Answer) → Alone h client c reply w symbol
    → answer client.session (library_at h w.start) (library_at h w.start) w.start c ≡ Some b → reply.outcome ≡ b.outcome
plain_is h client c reply w symbol b a answered = elim (plain_outcome h client c reply w reply.outcome a.plain a.cut a.legal.outcome) [
  | inl met ↦ absurd (not_met h client c reply w symbol a met)
  | inr (inl gone) ↦ absurd (not_gone h client c reply w symbol a gone)
  | inr (inr is) ↦ answer_is h client c reply w symbol b a is answered
]

no_answer : (b : Answer) → None ≡ Some b → ⊥
no_answer b e = cc

no_symbol : (symbol : Name) → None ≡ Some symbol → ⊥
no_symbol symbol e = cc

-- what the one-thread library answers where the window begins is the outcome
pub answer_is_told : (h : History) (client : Client) (c : Command) (reply : Reply) (w : Window) (symbol : Name) (b : Answer) → w.stop ≡ length h → IsLegalSeen h client c reply w
    → symbol_of c ≡ Some symbol → reads_snapshot c ≡ false → is_cut reply.outcome ≡ false → IsAlone h client.session.client symbol w
    → answer client.session (library_at h w.start) (library_at h w.start) w.start c ≡ Some b → reply.outcome ≡ b.outcome
answer_is_told h client (commands.Stage a frame) reply w symbol b ends legal named snap cut alone answered = stage_is h client a frame reply w b reply.outcome refl cut legal.outcome answered
answer_is_told h client (commands.Reclaim a) reply w symbol b ends legal named snap cut alone answered = absurd (no_answer b answered)
answer_is_told h client (commands.Keys a) reply w symbol b ends legal named snap cut alone answered = absurd (no_answer b answered)
answer_is_told h client (commands.Snapshot name picks) reply w symbol b ends legal named snap cut alone answered = absurd (no_symbol symbol named)
answer_is_told h client (commands.DeleteSnapshot name) reply w symbol b ends legal named snap cut alone answered = absurd (no_symbol symbol named)
answer_is_told h client commands.Symbols reply w symbol b ends legal named snap cut alone answered = absurd (no_symbol symbol named)
answer_is_told h client commands.Snapshots reply w symbol b ends legal named snap cut alone answered = absurd (no_symbol symbol named)
answer_is_told h client c reply w symbol b ends legal named snap cut alone answered =
    plain_is h client c reply w symbol b (record { plain = refl; named = named; snap = snap; cut = cut; ends = ends; legal = legal; alone = alone }) answered
