-- A reply to a command of which the client made no event is legal where its place lies in the window and its outcome has its clause.
use Rattle.std.proofs.Common.{◌≡◌, ℕ, zero, suc, ◌+◌, ◌-◌, ◌≤◌, Bool, true, false, List, [], ◌∷◌, ◌++◌, length, take, refl, ap, sym, ◌∙◌, subst, inl, inr, cond, nat_eq, Option, None, arith, length-append}
use Rattle.std.specs.Prelude.{⊤, ◌⊎◌, ◌&&◌, ◌||◌, filter, reverse, MatchBool}
use Rattle.std.specs.List.{list_any, AllByRecursion}
use Rattle.std.proofs.lemmas.Bool.{true≢false, ne_eqb, and_parts}
use Rattle.bucket_core.specs.declared.event.Event.{Event}
use Rattle.bucket_core.specs.History.{History, author, history_at, AllByOthers}
use Rattle.bucket_core.specs.Laws.{Looks}
use Rattle.store_model.specs.declared.snapshot.SnapBody.{SnapBody}
use Rattle.store_model.specs.Law.{IsClaimed}
use Rattle.version_chain.specs.States.{IsWithin}
use Rattle.expr_clause.specs.Fitting.{fits}
use Rattle.expr_clause.specs.declared.command.Command.{Command}
use Rattle.reply_model.specs.declared.outcome.Outcome.TheVariants as outcomes
use Rattle.frame_core.specs.declared.refusal.Refusal.TheVariants as refusals
use Rattle.version_chain.proofs.Walked.{looks_none}
use Rattle.reply_model.specs.declared.reply.Reply.{Reply}
use Rattle.reply_model.specs.Kinds.{Kind, kind_of, Makes, Finalizes, Buries, Discards, Holds, Unholds}
use Rattle.reply_model.specs.Answering.{Session}
use Rattle.reply_model.specs.Windows.{Window, Client, own_events, refer_places, is_cut, is_store_fault, AreCommits}
use Rattle.reply_model.specs.Tries.{one_if, IsTurn}
use Rattle.reply_model.specs.OwnEvents.{IsOwnOf, IsOwn, IsBeginning, IsMeantAt, AreMeantOf, AreMeant, AnyMarks, is_done, is_last}
use Rattle.reply_model.specs.Left.{left_of, known_events, stood_before, MayBeLeft}
use Rattle.reply_model.specs.Legal.{IsListedOf, IsListed, IsListedWithin, IsLegalOutcome, IsLegalSeen, IsLegalReply}
use Rattle.reply_model.proofs.Places.{history_at_end, within_is_behind}
use Rattle.version_chain.specs.Traces.{GoesOn}
use Rattle.frame_write.proofs.LegalLemmas.{no_places, is_refer}
use Rattle.library_api.specs.Steps.{carries, clauses_of, is_carried_out, plain_reply, IsLegalIn}

-- ---- no event of the window is the client's

none_own : (client : ℕ) (others old : History) (k : ℕ) → AllByOthers client others → k ≤ length others → filter (λ (e : Event). nat_eq (author e) client) (take k (others ++ old)) ≡ []
none_own client others old zero by few = refl
none_own client [] old (suc k) by few = absurd (omega (arith, few))
none_own client (e ∷ others) old (suc k) by few =
    ap (λ b. cond b (e ∷ filter (λ (x : Event). nat_eq (author x) client) (take k (others ++ old))) (filter (λ (x : Event). nat_eq (author x) client) (take k (others ++ old)))) (ne_eqb (author e) client by.0)
    ∙ none_own client others old k by.1 (omega (arith, few))

pub no_own_events : (client : ℕ) (old others new : History) (start : ℕ) (faulted : Bool) → new ≡ others ++ old → AllByOthers client others → length old ≤ start
    → own_events new client (record { start = start; stop = length new; faulted = faulted }) ≡ []
no_own_events client old others new start faulted is by late =
    let size : length new ≡ length others + length old = ap length is ∙ length-append others old in
    ap (λ (h : History). reverse (filter (λ (e : Event). nat_eq (author e) client) h)) (within_is_behind new start ∙ ap (take (length new - start)) is)
    ∙ ap reverse (none_own client others old (length new - start) by (omega (arith, size, late)))

none_refers : (client : ℕ) (others : History) → AllByOthers client others → list_any (λ e. nat_eq (author e) client && is_refer e) others ≡ false
none_refers client [] by = refl
none_refers client (e ∷ others) by = ap (λ b. (b && is_refer e) || list_any (λ x. nat_eq (author x) client && is_refer x) others) (ne_eqb (author e) client by.0) ∙ none_refers client others by.1

-- ---- a command without events

-- what the clauses ask of a command of which there is no event, where the reply names no list and no commits
pub record HasNone (c : Command) : Type 0 where
  pub listed : (reply : Reply) (own : List Event) → reply.listed ≡ None → IsListed c reply own
  pub own : (h : History) (s : Session) (w : Window) (reply : Reply) → IsOwn h s w c reply false []
  pub meant : (h : History) (s : Session) (reply : Reply) → AreMeant h s c reply []
  pub left : (reply : Reply) (known : List Event) (before : Option SnapBody) → left_of (kind_of c) reply known before ≡ []

-- no try was made
no_turn : {told : Bool} (h : History) (s : Session) (w : Window) (symbol : _) (makes : Bool) → IsTurn h s w symbol makes false told AnyMarks []
no_turn h s w symbol makes = record { tries = []; last = []; is = refl; refused = tt; met = omega arith; few = omega arith; ends = refl }

never_meant : (h : History) (s : Session) (c : Command) (reply : Reply) (b : Bool) → MatchBool b (AllByRecursion (IsMeantAt h s c reply) []) ⊤
never_meant h s c reply true = tt
never_meant h s c reply false = tt

none_listed : (k : Kind) → carries k ≡ true → (reply : Reply) (own : List Event) → reply.listed ≡ None → IsListedOf k reply own
none_listed (Finalizes symbol) out reply own e = absurd (true≢false (sym out))
none_listed (Discards symbol) out reply own e = absurd (true≢false (sym out))
none_listed (Holds snap picks) out reply own e = absurd (true≢false (sym out))
none_listed k out reply own e = e

none_done : (k : Kind) → carries k ≡ true → (h : History) (s : Session) (w : Window) (reply : Reply) → IsOwnOf h s w k reply false []
none_done (Makes symbol) out h s w reply = no_turn h s w symbol true
none_done (Buries symbol burial) out h s w reply = no_turn h s w symbol false
none_done (Finalizes symbol) out h s w reply = absurd (true≢false (sym out))
none_done (Discards symbol) out h s w reply = absurd (true≢false (sym out))
none_done (Holds snap picks) out h s w reply = absurd (true≢false (sym out))
none_done k out h s w reply = refl

none_meant : (k : Kind) (h : History) (s : Session) (c : Command) (reply : Reply) → AreMeantOf h s c k reply []
none_meant (Holds snap picks) h s c reply = tt
none_meant (Unholds snap) h s c reply = tt
none_meant k h s c reply = never_meant h s c reply (is_store_fault reply.outcome)

none_left : (k : Kind) → carries k ≡ true → (reply : Reply) (known : List Event) (before : Option SnapBody) → left_of k reply known before ≡ []
none_left (Holds snap picks) out reply known before = absurd (true≢false (sym out))
none_left (Unholds snap) out reply known before = absurd (true≢false (sym out))
none_left k out reply known before = refl

-- a command that is carried out is of a kind that is
pub carried_kind : (c : Command) → is_carried_out c ≡ true → carries (kind_of c) ≡ true
carried_kind c out = (and_parts (carries (kind_of c)) (fits (clauses_of c)) out).0

pub served_has_none : (c : Command) → carries (kind_of c) ≡ true → HasNone c
served_has_none c out = record {
  listed = λ reply own e. none_listed (kind_of c) out reply own e;
  own = λ h s w reply. none_done (kind_of c) out h s w reply;
  meant = λ h s reply. none_meant (kind_of c) h s c reply;
  left = λ reply known before. none_left (kind_of c) out reply known before;
}

-- ---- its reply

commits_none : (b : Bool) (commits : List ℕ) → commits ≡ [] → AreCommits b commits []
commits_none true commits none = inl none
commits_none false commits none = none

module _ (client : Client) (c : Command) (reply : Reply) (old new : History) (faulted : Bool) (has : HasNone c) (sole : Bool) (looks : Looks IsClaimed client.session.client sole old new) where
  abbrev number : ℕ
  number = client.session.client

  abbrev window : Window
  window = record { start = length old; stop = length new; faulted = faulted }

  none : own_events new number window ≡ []
  none = no_own_events number old looks.others new (length old) faulted looks.is looks.by_others (omega arith)

  no_refers : refer_places number (length old) (history_at new (length new)) ≡ []
  no_refers = ap (refer_places number (length old)) (history_at_end new ∙ looks.is) ∙ no_places number old looks.others (none_refers number looks.others looks.by_others)

  events_fit : (b : Bool) → is_cut reply.outcome ≡ b → (is_cut reply.outcome ≡ false → IsOwn new client.session window c reply (is_done reply) [])
      → MatchBool b (IsBeginning (IsOwn new client.session window c reply true) [] ⊎ IsBeginning (IsOwn new client.session window c reply false) []) (IsOwn new client.session window c reply (is_done reply) [])
  events_fit true cut done = inr (record { more = []; whole = has.own new client.session window reply })
  events_fit false cut done = done cut

  late_fits : (b : Bool) (place : ℕ) → length old ≤ place → MatchBool b (length (own_events new number (record window { start = place })) ≤ one_if (is_store_fault reply.outcome)) ⊤
  late_fits true place after = subst (λ (es : List Event). length es ≤ one_if (is_store_fault reply.outcome)) (sym (no_own_events number old looks.others new place faulted looks.is looks.by_others after)) (omega arith)
  late_fits false place after = tt

  pub legal_without_events : reply.listed ≡ None → reply.commits ≡ [] → reply.left ≡ [] → IsWithin old new reply.place
      → (is_cut reply.outcome ≡ false → IsOwn new client.session window c reply (is_done reply) [])
      → IsLegalOutcome new client c reply window reply.outcome → IsLegalReply new client c reply window
  legal_without_events listed commits left within done outcome = (
    omega arith,
    subst (λ (h : History). IsLegalSeen h client c reply window) (sym (history_at_end new)) (record {
      after = within.from;
      before = within.to;
      listed = has.listed reply (own_events new number window) listed;
      listed_within = subst (λ o. IsListedWithin o (length old) reply.place) (sym listed) tt;
      own = record {
        events = subst (λ es. MatchBool (is_cut reply.outcome) (IsBeginning (IsOwn new client.session window c reply true) es ⊎ IsBeginning (IsOwn new client.session window c reply false) es) (IsOwn new client.session window c reply (is_done reply) es))
            (sym none) (events_fit (is_cut reply.outcome) refl done);
        commits = subst (AreCommits (is_store_fault reply.outcome) reply.commits) (sym no_refers) (commits_none (is_store_fault reply.outcome) reply.commits commits);
        short = λ cut f. ap (list_any (is_last c)) none;
        meant = subst (AreMeant new client.session c reply) (sym no_refers) (has.meant new client.session reply);
        late = late_fits (is_cut reply.outcome) reply.place within.from;
      };
      left = record {
        left = left ∙ sym (has.left reply (known_events new number reply window) (stood_before new number (kind_of c) reply window));
        causes = subst (AllByRecursion (MayBeLeft new client.session reply window)) (sym left) tt;
      };
      outcome = outcome;
    }),
  )

-- ---- the history goes on

pub looks_go_on : (client : ℕ) (sole : Bool) (old new : History) → Looks IsClaimed client sole old new → GoesOn client sole old new
looks_go_on client sole old new looks = record {
  more = looks.others;
  is = looks.is;
  alone = λ s. subst (AllByRecursion (λ (e : Event). author e ≡ client)) (sym (looks.alone s)) tt;
  lawful = looks.lawful;
}

-- ---- want of memory before any call

pub wants_memory : (client : Client) (c : Command) → is_carried_out c ≡ true → (before now : ℕ) (old : History) (place : ℕ) → place ≡ length old
    → IsLegalIn client before now old old c (plain_reply place (outcomes.Refused refusals.NoMemory))
wants_memory client c served before now old place here faulted rose =
    legal_without_events client c (plain_reply place (outcomes.Refused refusals.NoMemory)) old old faulted (served_has_none c (carried_kind c served)) true (looks_none client.session.client true old)
    refl refl refl (record { from = omega (arith, here); to = omega (arith, here) }) (λ cut. absurd (true≢false cut)) (free c place faulted)
  where
    free : (c : Command) (place : ℕ) (faulted : Bool) → IsLegalOutcome old client c (plain_reply place (outcomes.Refused refusals.NoMemory)) (record { start = length old; stop = length old; faulted = faulted }) (outcomes.Refused refusals.NoMemory)
    free c place faulted = tt
