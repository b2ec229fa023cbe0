-- The commands that make a version of their symbol, try by try: their clauses are those of a turn.
use Rattle.std.proofs.Common.{◌≡◌, ℕ, ◌≤◌, ℤ, Bool, true, false, List, [], refl, ap, sym, subst, Option, Some, None}
use Rattle.std.specs.Prelude.{MatchBool, ⊤, unwrap_or}
use Rattle.std.specs.List.{AllByRecursion}
use Rattle.std.proofs.lemmas.Bool.{true≢false}
use Rattle.frame_core.specs.Ranges.{Range}
use Rattle.frame_core.specs.declared.refusal.Refusal.{Refusal}
use Rattle.frame_core.specs.declared.refusal.Refusal.TheVariants as refusals
use Rattle.key_kind.specs.Names.{Name}
use Rattle.bucket_core.specs.declared.event.Event.{Event}
use Rattle.bucket_core.specs.History.{History}
use Rattle.store_model.specs.Library.{state_of, next_number}
use Rattle.store_model.specs.Snapshots.{Library, library_of}
use Rattle.store_model.specs.Commits.{IsFilled}
use Rattle.expr_clause.specs.declared.command.Command.{Command}
use Rattle.expr_clause.specs.declared.command.Command.TheVariants as commands
use Rattle.reply_model.specs.declared.outcome.Outcome.TheVariants as outcomes
use Rattle.reply_model.specs.declared.reply.Reply.{Reply}
use Rattle.reply_model.specs.Answering.{Session, refused}
use Rattle.reply_model.specs.Answers.{answer}
use Rattle.reply_model.specs.Windows.{Window, Client, library_at, is_cut, is_answered, is_store_fault, symbol_of}
use Rattle.reply_model.specs.Kinds.{kind_of, kind_symbol, kind_makes, Makes, Cause, cause_of, Told, cuts, faults, tells}
use Rattle.reply_model.specs.Tries.{IsTurn}
use Rattle.reply_model.specs.OwnEvents.{IsOwnOf, is_last_of, AnyMarks, IsOwn, IsMeantAt, AreMeant, is_end, is_last}
use Rattle.reply_model.specs.Rows.{IsAnswer}
use Rattle.reply_model.specs.Left.{HasLeft, MayBeLeft}
use Rattle.reply_model.specs.Moves.{own_between}
use Rattle.reply_model.specs.Losses.{FindsGone}
use Rattle.reply_model.specs.Causes.{MeetsOn, IsBeside, IsMoved, IsSpent, HasToMake, MarksAt, makes_version, MakesAt}
use Rattle.reply_model.specs.Legal.{IsListed, IsTold, IsCaused, IsLegalRefusal, IsLegalOk}
use Rattle.frame_write.specs.Tries.{Made}

-- a command that makes a version of the symbol, in turns of its tries
pub data MakesVersion : Command → Name → Type 0 where
  of_write : {symbol : Name} {n : ℕ} {at : Option ℤ} {prune : Bool} → MakesVersion (commands.Write symbol n at prune) symbol
  of_append : {symbol : Name} {n : ℕ} {at : Option ℤ} {prune : Bool} → MakesVersion (commands.Append symbol n at prune) symbol
  of_update : {symbol : Name} {n : ℕ} {range : Option Range} {upsert : Bool} {at : Option ℤ} {prune : Bool} → MakesVersion (commands.Update symbol n range upsert at prune) symbol
  of_delete_range : {symbol : Name} {range : Range} {at : Option ℤ} {prune : Bool} → MakesVersion (commands.DeleteRange symbol range at prune) symbol

pub kind_is : (c : Command) (symbol : Name) → MakesVersion c symbol → kind_of c ≡ Makes symbol
kind_is _ symbol of_write = refl
kind_is _ symbol of_append = refl
kind_is _ symbol of_update = refl
kind_is _ symbol of_delete_range = refl

-- a refusal that the one-thread library may give
abbrev pub is_answer : Refusal → Bool
is_answer why = tells (cause_of why)

-- what a command asks of its commit, how the library refuses it, where it has a change to make, as the library's answers say, and what it may find lost
pub record IsAskedBy (s : Session) (c : Command) (symbol : Name) (Asked : Made → Type 0) (Refuses : History → Refusal → Type 0) (Wants : History → Type 0) (Loses : History → ℕ → ℕ → Type 0) : Type 0 where
  pub makes : MakesVersion c symbol
  pub answers : (m : Made) → Asked m → (l : Library) (p : ℕ) → answer s l (library_of m.before) p c ≡ Some (record { outcome = outcomes.Committed (next_number (state_of m.before symbol)); marks = m.list })
  pub filled : (m : Made) → Asked m → IsFilled m.list
  pub refuses : (h : History) (why : Refusal) → Refuses h why → (is_answer why ≡ true) × ((l : Library) (p : ℕ) → answer s l (library_of h) p c ≡ Some (refused why))
  pub wants : (h : History) → Wants h → (l : Library) (p : ℕ) → MarksAt (answer s l (library_of h) p c)
  pub loses : (h : History) (limit : ℕ) (reply : Reply) (look showed : ℕ) → Loses h look showed → FindsGone h (record { session = s; limit = limit }) c reply symbol look showed

-- ---- the clauses of such a command

pub own_turn : (c : Command) (symbol : Name) → MakesVersion c symbol → (h : History) (s : Session) (w : Window) (reply : Reply) (done : Bool) (es : List Event) → IsTurn h s w symbol true done (is_answered reply.outcome) AnyMarks es → IsOwn h s w c reply done es
own_turn c symbol k h s w reply done es t = subst (λ x. IsOwnOf h s w x reply done es) (sym (kind_is c symbol k)) t

pub none_listed : (c : Command) (symbol : Name) → MakesVersion c symbol → (reply : Reply) (es : List Event) → reply.listed ≡ None → IsListed c reply es
none_listed _ symbol of_write reply es e = e
none_listed _ symbol of_append reply es e = e
none_listed _ symbol of_update reply es e = e
none_listed _ symbol of_delete_range reply es e = e

pub none_left : (c : Command) (symbol : Name) → MakesVersion c symbol → (h : History) (s : Session) (reply : Reply) (w : Window) → reply.left ≡ [] → HasLeft h s c reply w
none_left c symbol k h s reply w e = by c symbol k
  where
    by : (c : Command) (symbol : Name) → MakesVersion c symbol → HasLeft h s c reply w
    by _ symbol of_write = record { left = e; causes = subst (AllByRecursion (MayBeLeft h s reply w)) (sym e) tt }
    by _ symbol of_append = record { left = e; causes = subst (AllByRecursion (MayBeLeft h s reply w)) (sym e) tt }
    by _ symbol of_update = record { left = e; causes = subst (AllByRecursion (MayBeLeft h s reply w)) (sym e) tt }
    by _ symbol of_delete_range = record { left = e; causes = subst (AllByRecursion (MayBeLeft h s reply w)) (sym e) tt }

pub last_is_end : (c : Command) (symbol : Name) → MakesVersion c symbol → (e : Event) → is_last c e ≡ is_end e
last_is_end c symbol k e = ap (λ x. is_last_of x e) (kind_is c symbol k)

pub meets_on : (c : Command) (symbol : Name) → MakesVersion c symbol → (h : History) (reply : Reply) → MeetsOn h c reply symbol
meets_on _ symbol of_write h reply = (refl, refl)
meets_on _ symbol of_append h reply = (refl, refl)
meets_on _ symbol of_update h reply = (refl, refl)
meets_on _ symbol of_delete_range h reply = (refl, refl)

pub makes_one : (c : Command) (symbol : Name) → MakesVersion c symbol → makes_version c ≡ true
makes_one c symbol k = ap kind_makes (kind_is c symbol k)

pub makes_at : (c : Command) (symbol : Name) → MakesVersion c symbol → (h : History) (client : Client) (reply : Reply) (q : ℕ)
    → MarksAt (answer client.session (library_at h (unwrap_or reply.listed q)) (library_at h q) q c) → MakesAt h client c reply symbol q
makes_at _ symbol of_write h client reply q m = m
makes_at _ symbol of_append h client reply q m = m
makes_at _ symbol of_update h client reply q m = m
makes_at _ symbol of_delete_range h client reply q m = m

pub beside_tries : (c : Command) (symbol : Name) → MakesVersion c symbol → (h : History) (client : ℕ) (reply : Reply) (w : Window) (start stop : ℕ) → own_between h client w.start start ≡ [] → own_between h client stop w.stop ≡ []
    → IsBeside h client (kind_of c) reply symbol w start stop
beside_tries c symbol k h client reply w start stop before behind = subst (λ x. IsBeside h client x reply symbol w start stop) (sym (kind_is c symbol k)) (before, behind)

pub of_symbol : (c : Command) (symbol : Name) → MakesVersion c symbol → symbol_of c ≡ Some symbol
of_symbol c symbol k = ap kind_symbol (kind_is c symbol k)

pub are_meant : (c : Command) (symbol : Name) → MakesVersion c symbol → (h : History) (s : Session) (reply : Reply) (places : List ℕ) → MatchBool (is_store_fault reply.outcome) (AllByRecursion (IsMeantAt h s c reply) places) ⊤
    → AreMeant h s c reply places
are_meant _ symbol of_write h s reply places m = m
are_meant _ symbol of_append h s reply places m = m
are_meant _ symbol of_update h s reply places m = m
are_meant _ symbol of_delete_range h s reply places m = m

to_make_at : (c : Command) (h : History) (client : Client) (reply : Reply) (start p : ℕ) → reply.listed ≡ None
    → (q : ℕ) × (start ≤ q) × (q ≤ p) × MarksAt (answer client.session (library_at h q) (library_at h q) q c)
    → (q : ℕ) × (start ≤ q) × (q ≤ p) × MarksAt (answer client.session (library_at h (unwrap_or reply.listed q)) (library_at h q) q c)
to_make_at c h client reply start p e m =
    subst (λ (o : Option ℕ). (q : ℕ) × (start ≤ q) × (q ≤ p) × MarksAt (answer client.session (library_at h (unwrap_or o q)) (library_at h q) q c)) (sym e) m

to_make_from : (c : Command) (symbol : Name) → MakesVersion c symbol → (h : History) (client : Client) (reply : Reply) (start p : ℕ)
    → (q : ℕ) × (start ≤ q) × (q ≤ p) × MarksAt (answer client.session (library_at h (unwrap_or reply.listed q)) (library_at h q) q c) → HasToMake h client c reply start p
to_make_from _ symbol of_write h client reply start p m = m
to_make_from _ symbol of_append h client reply start p m = m
to_make_from _ symbol of_update h client reply start p m = m
to_make_from _ symbol of_delete_range h client reply start p m = m

pub to_make : (c : Command) (symbol : Name) → MakesVersion c symbol → (h : History) (client : Client) (reply : Reply) (start p : ℕ) → reply.listed ≡ None
    → (q : ℕ) × (start ≤ q) × (q ≤ p) × MarksAt (answer client.session (library_at h q) (library_at h q) q c) → HasToMake h client c reply start p
to_make c symbol k h client reply start p e m = to_make_from c symbol k h client reply start p (to_make_at c h client reply start p e m)

-- ---- its outcomes

pub ok_is_legal : (c : Command) (symbol : Name) → MakesVersion c symbol → (h : History) (client : Client) (reply : Reply) (w : Window) (version : ℕ) → IsAnswer h client c reply → IsLegalOk h client c reply w (outcomes.Committed version)
ok_is_legal _ symbol of_write h client reply w version a = a
ok_is_legal _ symbol of_append h client reply w version a = a
ok_is_legal _ symbol of_update h client reply w version a = a
ok_is_legal _ symbol of_delete_range h client reply w version a = a

pub moved_refusal : (c : Command) (symbol : Name) → MakesVersion c symbol → (h : History) (client : Client) (reply : Reply) (w : Window) (now : ℕ) → IsMoved h client c reply symbol now w → IsLegalRefusal h client c reply w (refusals.Moved now)
moved_refusal _ symbol of_write h client reply w now m = (symbol, (refl, refl), m)
moved_refusal _ symbol of_append h client reply w now m = (symbol, (refl, refl), m)
moved_refusal _ symbol of_update h client reply w now m = (symbol, (refl, refl), m)
moved_refusal _ symbol of_delete_range h client reply w now m = (symbol, (refl, refl), m)

pub memory_refusal : (c : Command) (symbol : Name) → MakesVersion c symbol → (h : History) (client : Client) (reply : Reply) (w : Window) → IsLegalRefusal h client c reply w refusals.NoMemory
memory_refusal _ symbol of_write h client reply w = tt
memory_refusal _ symbol of_append h client reply w = tt
memory_refusal _ symbol of_update h client reply w = tt
memory_refusal _ symbol of_delete_range h client reply w = tt

pub fault_refusal : (c : Command) (symbol : Name) → MakesVersion c symbol → (h : History) (client : Client) (reply : Reply) (w : Window) → w.faulted ≡ true → IsLegalRefusal h client c reply w refusals.StoreFault
fault_refusal _ symbol of_write h client reply w f = f
fault_refusal _ symbol of_append h client reply w f = f
fault_refusal _ symbol of_update h client reply w f = f
fault_refusal _ symbol of_delete_range h client reply w f = f

pub spent_refusal : (c : Command) (symbol : Name) → MakesVersion c symbol → (h : History) (client : Client) (reply : Reply) (w : Window) (count : ℕ) → IsSpent h client c count reply w → IsLegalRefusal h client c reply w (refusals.Spent count)
spent_refusal _ symbol of_write h client reply w count x = x
spent_refusal _ symbol of_append h client reply w count x = x
spent_refusal _ symbol of_update h client reply w count x = x
spent_refusal _ symbol of_delete_range h client reply w count x = x

-- a refusal that the library gives
pub answer_refusal : (c : Command) (symbol : Name) → MakesVersion c symbol → (h : History) (client : Client) (reply : Reply) (w : Window) (why : Refusal) → is_answer why ≡ true → IsAnswer h client c reply → IsLegalRefusal h client c reply w why
answer_refusal c symbol k h client reply w why e a = by (cause_of why) e
  where
    by : (x : Cause) → tells x ≡ true → IsCaused h client c reply w why x
    by Told e = subst (IsTold h client c reply why) (sym (kind_is c symbol k)) a
    by x e = absurd (true≢false (sym e))

pub answer_not_cut : (why : Refusal) → is_answer why ≡ true → is_cut (outcomes.Refused why) ≡ false
answer_not_cut why e = by (cause_of why) e
  where
    by : (x : Cause) → tells x ≡ true → cuts x ≡ false
    by Told e = refl
    by x e = absurd (true≢false (sym e))

pub answer_no_fault : (why : Refusal) → is_answer why ≡ true → is_store_fault (outcomes.Refused why) ≡ false
answer_no_fault why e = by (cause_of why) e
  where
    by : (x : Cause) → tells x ≡ true → faults x ≡ false
    by Told e = refl
    by x e = absurd (true≢false (sym e))
