-- One block alone: the other client's events are all that was added, and its replies are those of one client alone.
use Rattle.std.proofs.Common.{◌≡◌, ℕ, suc, ◌<◌, true, false, List, [], ◌∷◌, ◌++◌, length, Option, Some, None, refl, sym, ap, ◌∙◌, subst, append_assoc, length-append, arith}
use Rattle.std.specs.Prelude.{option_map, option_and_then}
use Rattle.std.specs.List.{AllByRecursion}
use Rattle.std.proofs.lemmas.Bool.{true≢false}
use Rattle.turn_cell.specs.Badges.{Has, IsSole, Awaits}
use Rattle.turn_cell.proofs.Sole.{awaits_none, sole_again}
use Rattle.bucket_core.specs.declared.event.Event.{Event}
use Rattle.bucket_core.specs.History.{History, author, event_at, AllByOthers}
use Rattle.bucket_core.specs.Laws.{Looks}
use Rattle.store_model.specs.Law.{IsClaimed, IsLawful}
use Rattle.bucket_shared.specs.declared.pass.Pass.{Pass}
use Rattle.bucket_shared.specs.Passes.{badge_of, seen_of, number_of, sole_of}
use Rattle.bucket_shared.proofs.Passes.{used_of}
use Rattle.bucket_shared.proofs.SoleSeats.{IsSole-found, is_sole-true}
use Rattle.expr_clause.specs.declared.command.Command.{Command}
use Rattle.expr_clause.specs.declared.command.Command.TheVariants as commands
use Rattle.reply_model.specs.declared.reply.Reply.{Reply}
use Rattle.reply_model.specs.Answering.{Session}
use Rattle.reply_model.specs.Windows.{Client}
use Rattle.reply_model.specs.Blocks.{Cutting}
use Rattle.reply_model.specs.Sole.{Alone, step_alone, alone}
use Rattle.reply_model.specs.Standing.{RunsTo, RunsAlone}
use Rattle.reply_model.proofs.Covering.{event_at_later, event_at_end}
use Rattle.library_api.specs.Steps.{is_carried_out}
use Rattle.client_sessions.specs.Sessions.{AreNamed, AreUncut}
use Rattle.client_sessions.specs.Blocks.{IsSessionOf}
use Rattle.client_sessions.proofs.Events.{event_within}

-- ---- lists

-- the one list of a list
pub head_is : {A : Type 0} (x y : A) (xs ys : List A) → x ∷ xs ≡ y ∷ ys → x ≡ y
head_is x y xs ys e = cc

pub tail_is : {A : Type 0} (x y : A) (xs ys : List A) → x ∷ xs ≡ y ∷ ys → xs ≡ ys
tail_is x y xs ys e = cc

all_parts : (P : Event → Type 0) (xs ys : History) → AllByRecursion P (xs ++ ys) → AllByRecursion P xs × AllByRecursion P ys
all_parts P [] ys all = (tt, all)
all_parts P (x ∷ xs) ys all = let parts = all_parts P xs ys all.1 in ((all.0, parts.0), parts.1)

-- what holds of the event of each place behind a history holds of each added event
pub all_added : (P : Event → Type 0) (more h : History) → ((n : ℕ) (e : Event) → length h < n → event_at (more ++ h) n ≡ Some e → P e) → AllByRecursion P more
all_added P [] h each = tt
all_added P (x ∷ more) h each = (
  each (suc (length (more ++ h))) x (omega (arith, length-append more h)) (event_at_end x (more ++ h)),
  all_added P more h (λ n e lt at. each n e lt (event_at_later x (more ++ h) n (event_within (more ++ h) n e at) ∙ at)),
)

-- nothing is of this client and of others
none_of : (client : ℕ) (h : History) → AllByOthers client h → AllByRecursion (λ e. author e ≡ client) h → h ≡ []
none_of client [] others own = refl
none_of client (e ∷ h) others own = absurd (others.0 own.0)

-- ---- the number of a client

-- what a step of one client alone tells goes by its session's frames and moment, for the commands that a library carries out
served_step : (c : Cutting) (s : Session) (n : ℕ) (command : Command) (r : Alone) → is_carried_out command ≡ true → step_alone c s command r ≡ step_alone c (record s { client = n }) command r
served_step c s n (commands.Write a frame at prune) r is = refl
served_step c s n (commands.Append a frame at prune) r is = refl
served_step c s n (commands.Update a frame range upsert at prune) r is = refl
served_step c s n (commands.DeleteRange a range at prune) r is = refl
served_step c s n (commands.Stage a frame) r is = absurd (true≢false (sym is))
served_step c s n (commands.Snapshot name picks) r is = absurd (true≢false (sym is))
served_step c s n (commands.DeleteSnapshot name) r is = refl
served_step c s n (commands.Finalize a append sorted at prune) r is = refl
served_step c s n command r is = refl

-- and so does a run
served_alone : (c : Cutting) (s : Session) (n : ℕ) (count : ℕ) (list : List Command) (r : Alone) → AreNamed count list → alone c s list r ≡ alone c (record s { client = n }) list r
served_alone c s n count [] r all = refl
served_alone c s n count (command ∷ list) r all =
    ap (option_and_then {U = List Reply × Alone} (λ (x : Reply × Alone). option_map {U = List Reply × Alone} (λ (y : List Reply × Alone). (x.0 ∷ y.0, y.1)) (alone c s list x.1))) (served_step c s n command r all.0.0)
    ∙ of_step (λ x. served_alone c s n count list x all.1) (step_alone c (record s { client = n }) command r)
  where
    of_step : ((x : Alone) → alone c s list x ≡ alone c (record s { client = n }) list x) → (o : Option (Reply × Alone))
        → option_and_then {U = List Reply × Alone} (λ (x : Reply × Alone). option_map {U = List Reply × Alone} (λ (y : List Reply × Alone). (x.0 ∷ y.0, y.1)) (alone c s list x.1)) o
        ≡ option_and_then {U = List Reply × Alone} (λ (x : Reply × Alone). option_map {U = List Reply × Alone} (λ (y : List Reply × Alone). (x.0 ∷ y.0, y.1)) (alone c (record s { client = n }) list x.1)) o
    of_step same None = refl
    of_step same (Some x) = ap (option_map {U = List Reply × Alone} (λ (y : List Reply × Alone). (x.0 ∷ y.0, y.1))) (same x.1)

-- a run of such commands is that of a client of any number
pub runs_as : (c : Cutting) (s : Session) (n : ℕ) (count : ℕ) (list : List Command) (replies : List Reply) (old new : History) → AreNamed count list → RunsAlone c s list replies old new → RunsAlone c (record s { client = n }) list replies old new
runs_as c s n count list replies old new all runs r stands = subst (λ (o : Option (List Reply × Alone)). RunsTo c o replies new) (served_alone c s n count list r all) (runs r stands)

-- ---- sole passes

-- a pass that has its numbers, and awaits no more than a sole one, is sole
pub sole_kept : (old new : Pass) → (Has (badge_of old) (badge_of old).first → Has (badge_of new) (badge_of new).first) → ((ns : List ℕ) → Awaits (badge_of old) ns → Awaits (badge_of new) ns) → sole_of old ≡ true → sole_of new ≡ true
sole_kept old new first awaits sole =
    let was : IsSole (badge_of old) = IsSole-found (badge_of old) sole in
    is_sole-true (badge_of new) (sole_again (badge_of new) (used_of new) (first was.1) (awaits [] (awaits_none (badge_of old) was)))

-- ---- the block

-- the sessions of the clients differ by the client alone
abbrev pub OneSession : (ℕ → Client) → Type 0
OneSession client = (m n : ℕ) → (client n).session ≡ record (client m).session { client = n }

-- a session over a pass, from the history that one began with to the one that another has seen, is a run of one client alone, if it grew alone
module _ (cutting : Cutting) (client : ℕ → Client) (one : OneSession client) (count : ℕ) (block : List Command) (ready : AreNamed count block) (replies : List Reply) (old new : History) (p q : Pass)
    (s : IsSessionOf cutting client block replies p q) (from : seen_of p ≡ old) (to : seen_of q ≡ new) (own : AllByRecursion (λ e. author e ≡ (client (number_of p)).session.client) s.session.more) where
  pub session_alone : IsLawful old → AreUncut replies → (n : ℕ) → RunsAlone cutting (client n).session block replies old new
  session_alone lawful uncut n =
      let was : RunsAlone cutting (client (number_of p)).session block replies (seen_of p) (seen_of q) =
      s.session.alone (record { more = s.session.more; is = s.session.goes_on; own = own }) (subst IsLawful (sym from) lawful) uncut in
      subst (λ (x : Session). RunsAlone cutting x block replies old new) (sym (one (number_of p) n))
      (runs_as cutting (client (number_of p)).session n count block replies old new ready
      (subst (λ (h : History). RunsAlone cutting (client (number_of p)).session block replies h new) from (subst (λ (h : History). RunsAlone cutting (client (number_of p)).session block replies (seen_of p) h) to was)))

-- where all events behind the history are of the client of a pass that was split off there, its session ends with the last of them
module _ (cutting : Cutting) (client : ℕ → Client) (block : List Command) (replies : List Reply) (old : History) (o o2 p : Pass) (s : IsSessionOf cutting client block replies o o2) (other : Looks IsClaimed (number_of o2) false (seen_of o2) (seen_of p))
    (from : seen_of o ≡ old) (same : number_of o2 ≡ number_of o) (by : (n : ℕ) (e : Event) → length old < n → event_at (seen_of p) n ≡ Some e → author e ≡ number_of o) where
  all_is : seen_of p ≡ (other.others ++ s.session.more) ++ seen_of o
  all_is = other.is ∙ (ap (λ (h : History). other.others ++ h) s.session.goes_on ∙ sym (append_assoc other.others s.session.more (seen_of o)))

  all_own : AllByRecursion (λ e. author e ≡ number_of o) (other.others ++ s.session.more)
  all_own = all_added (λ e. author e ≡ number_of o) (other.others ++ s.session.more) (seen_of o)
      (λ n e lt at. by n e (subst (λ (h : History). length h < n) from lt) (ap (λ (h : History). event_at h n) all_is ∙ at))

  both_own : AllByRecursion (λ e. author e ≡ number_of o) other.others × AllByRecursion (λ e. author e ≡ number_of o) s.session.more
  both_own = all_parts (λ e. author e ≡ number_of o) other.others s.session.more all_own

  pub more_own : AllByRecursion (λ e. author e ≡ number_of o) s.session.more
  more_own = both_own.1

  pub ends_there : seen_of o2 ≡ seen_of p
  ends_there = sym (other.is ∙ ap (λ (h : History). h ++ seen_of o2) (none_of (number_of o) other.others (subst (λ (n : ℕ). AllByOthers n other.others) same other.by_others) both_own.0))
