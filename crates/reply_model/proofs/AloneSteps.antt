-- In a window without events of others each legal reply is the one that the fold of one client alone gives.
use Rattle.std.proofs.Common.{◌≡◌, ℕ, suc, ◌+◌, Bool, true, false, List, [], ◌∷◌, map, length, Option, Some, None, refl, sym, ◌∙◌, ap, subst, cond}
use Rattle.std.specs.Prelude.{◌&&◌, find, nat_eq, option_map, int_le}
use Rattle.std.proofs.lemmas.Bool.{true≢false}
use Rattle.frame_core.specs.declared.refusal.Asked.TheVariants as asks
use Rattle.frame_core.specs.declared.refusal.Refusal.TheVariants as refusals
use Rattle.key_kind.specs.Names.{Name, same_name}
use Rattle.key_kind.specs.declared.key.Key.{Key}
use Rattle.key_kind.proofs.KeyTests.{same_name_is}
use Rattle.bucket_core.specs.declared.event.Change.{Change}
use Rattle.bucket_core.specs.declared.event.Event.TheVariants as events
use Rattle.bucket_core.specs.History.{History}
use Rattle.store_model.specs.Library.{State, live_versions, state_of, after_changes}
use Rattle.store_model.specs.Snapshots.{Library, Snapshot, library_of, insert_name, snapshot_named}
use Rattle.expr_clause.specs.declared.command.AsOf.{AsOf}
use Rattle.expr_clause.specs.declared.command.AsOf.TheVariants as moments
use Rattle.expr_clause.specs.declared.command.Command.{Command}
use Rattle.expr_clause.specs.declared.command.Command.TheVariants as commands
use Rattle.reply_model.specs.declared.reply.Reply.{Reply}
use Rattle.reply_model.specs.CommitAnswers.{burial_answer}
use Rattle.reply_model.specs.Kinds.{Kind, kind_of, Makes, Finalizes, Buries, Discards, Reads}
use Rattle.reply_model.specs.Answering.{Session, Answer, ◌then◌, answered, committed, version_or, or_refuse}
use Rattle.reply_model.specs.Answers.{made_answer, read_answer, answer_of, answer, symbol_row}
use Rattle.reply_model.specs.ReadAnswers.{version_answer, versions_answer, read_version, back, numbered, picked}
use Rattle.reply_model.specs.Windows.{symbol_of}
use Rattle.reply_model.specs.Blocks.{Cutting}
use Rattle.reply_model.specs.Sole.{Alone, events_of, committing, answering, list_place_of, list_place, plain_reply, next_turn, step_alone}
use Rattle.reply_model.specs.Standing.{HasShape, IsCutBy, StandsAs, StepsTo, is_served_of}
use Rattle.reply_model.proofs.Quiet.{is_plain_of}
use Rattle.reply_model.proofs.AloneWindows.{IsKept}

-- ---- answers by the library alone

-- two libraries tell the same
pub record TellsSame (l m : Library) : Type 0 where
  pub symbols : l.symbols ≡ m.symbols
  pub states : (symbol : Name) → l.state symbol ≡ m.state symbol
  pub snapshots : l.snapshots ≡ m.snapshots

read_same : (l m : Library) (symbol : Name) (as_of : AsOf) → TellsSame l m → read_version l symbol as_of ≡ read_version m symbol as_of
read_same l m symbol (moments.Back k) same = ap (λ (st : State). version_or st (asks.Back k) (back (live_versions st) k)) (same.states symbol)
read_same l m symbol (moments.Number n) same = ap (λ (st : State). version_or st (asks.Number n) (find (λ v. nat_eq v.number n) (live_versions st))) (same.states symbol)
read_same l m symbol (moments.Moment t) same = ap (λ (st : State). version_or st (asks.Moment t) (find (λ v. int_le v.stamp t) (live_versions st))) (same.states symbol)
read_same l m symbol (moments.Snapshot snap) same =
    ap (λ (xs : List (Name × Snapshot)). or_refuse (option_map (λ y. y.1) (find (λ y. same_name snap y.0) xs)) refusals.NoSuchSnapshot then λ s.
    or_refuse (picked s symbol) refusals.NoSuchSymbol then λ n. or_refuse (numbered (l.state symbol) n) refusals.NoSuchSymbol) same.snapshots
    ∙ ap (λ (st : State). or_refuse (snapshot_named m snap) refusals.NoSuchSnapshot then λ s.
    or_refuse (picked s symbol) refusals.NoSuchSymbol then λ n. or_refuse (numbered st n) refusals.NoSuchSymbol) (same.states symbol)

-- the commands that are served and whose answer is one of a symbol's state, by their kinds
abbrev pub is_told_of : Kind → Bool
is_told_of k = is_plain_of k && is_served_of k

abbrev pub is_told : Command → Bool
is_told c = is_told_of (kind_of c)

read_told : (l m : Library) (c : Command) → TellsSame l m → read_answer l c ≡ read_answer m c
read_told l m (commands.Read a as_of range columns clauses) same = ap (λ v. Some (answered (v then λ x. version_answer x range columns clauses))) (read_same l m a as_of same)
read_told l m (commands.Versions a) same = ap (λ (st : State). Some (answered (versions_answer st))) (same.states a)
read_told l m c same = refl

-- such an answer goes by the library alone
pub answer_told : (s : Session) (list other l m : Library) (p q : ℕ) (c : Command) → is_told c ≡ true → TellsSame l m → answer s list l p c ≡ answer s other m q c
answer_told s list other l m p q c told same = by_kind (kind_of c) told
  where
    by_kind : (k : Kind) → is_told_of k ≡ true → answer_of s list l p c k ≡ answer_of s other m q c k
    by_kind (Makes a) is = ap (λ (st : State). made_answer s st c) (same.states a)
    by_kind (Buries a burial) is = ap (λ (st : State). Some (answered (burial_answer burial st))) (same.states a)
    by_kind (Reads a) is = read_told l m c same
    by_kind k is = absurd (true≢false (sym is))

pub rows_same : (l m : Library) (p : ℕ) → TellsSame l m → (names : List Name) → map (symbol_row l p) names ≡ map (symbol_row m p) names
rows_same l m p same [] = refl
rows_same l m p same (name ∷ names) =
    ap (λ (st : State). symbol_row (record l { state = λ x. st }) p name ∷ map (symbol_row l p) names) (same.states name) ∙ ap (λ xs. symbol_row m p name ∷ xs) (rows_same l m p same names)

-- the library of a run is that of the history where it stands
pub run_tells : (c : Cutting) (h : History) (r : Alone) → StandsAs c h r → TellsSame r.library (library_of h)
run_tells c h r stands = record { symbols = stands.symbols; states = stands.states; snapshots = stands.snapshots }

-- and of each one that tells the same
pub run_tells_kept : (c : Cutting) (client : ℕ) (old before : History) (r : Alone) → StandsAs c old r → IsKept client old before → TellsSame (library_of before) r.library
run_tells_kept c client old before r stands kept = record {
  symbols = kept.symbols ∙ sym stands.symbols;
  states = λ symbol. kept.states symbol ∙ sym (stands.states symbol);
  snapshots = kept.snapshots ∙ sym stands.snapshots;
}

-- ---- where the run stands behind a commit

pub stands_behind : (c : Cutting) (client : ℕ) (symbol : Name) (list : List Change) (old before : History) (was : Option Key) (entry : Key) (r : Alone) → StandsAs c old r → IsKept client old before
    → suc (length before) ≡ r.events + events_of c (r.library.state symbol) (r.shape symbol) list
    → ((other : Name) → HasShape (events.Refer client symbol was entry list ∷ before) other ((committing c symbol list r).shape other))
    → IsCutBy c (events.Refer client symbol was entry list ∷ before) → StandsAs c (events.Refer client symbol was entry list ∷ before) (record (committing c symbol list r) { turn = suc r.turn })
stands_behind c client symbol list old before was entry r stands kept counted shapes cut = record {
  events = sym counted;
  symbols = ap (insert_name symbol) (stands.symbols ∙ sym kept.symbols);
  states = λ other.
      elim (same_name symbol other) as (λ b. same_name symbol other ≡ b
      → cond b (after_changes (r.library.state symbol) list) (r.library.state other) ≡ cond b (after_changes (state_of before other) list) (state_of before other)) [
        | true ↦ λ e. ap (λ (st : State). after_changes st list) (stands.states symbol ∙ (sym (kept.states symbol) ∙ ap (state_of before) (same_name_is symbol other e)))
        | false ↦ λ e. stands.states other ∙ sym (kept.states other)
      ] refl;
  snapshots = stands.snapshots ∙ sym kept.snapshots;
  shapes = shapes;
  cut = cut;
}

-- ---- the fold's step

step_is : (c : Cutting) (s : Session) (command : Command) (r : Alone) → is_told command ≡ true
    → step_alone c s command r ≡ option_map (λ (a : Answer). next_turn (answering c command (symbol_of command) a.outcome a.marks r)) (answer s r.library r.library r.events command)
step_is c s (commands.Stage a frame) r told = absurd (true≢false (sym told))
step_is c s (commands.Reclaim a) r told = absurd (true≢false (sym told))
step_is c s (commands.Keys a) r told = absurd (true≢false (sym told))
step_is c s (commands.Snapshot name picks) r told = absurd (true≢false (sym told))
step_is c s (commands.DeleteSnapshot name) r told = absurd (true≢false (sym told))
step_is c s command r told = refl

-- such a command makes no list
no_list : (command : Command) (place : ℕ) → is_told command ≡ true → list_place command place ≡ None
no_list command place told = by_kind (kind_of command) told
  where
    by_kind : (k : Kind) → is_told_of k ≡ true → list_place_of k place ≡ None
    by_kind (Finalizes a) is = absurd (true≢false (sym is))
    by_kind (Discards a) is = absurd (true≢false (sym is))
    by_kind k is = refl

-- a reply by its parts
pub reply_is : (reply : Reply) (place : ℕ) (listed : Option ℕ) (commits : List ℕ) → reply.place ≡ place → reply.listed ≡ listed → reply.commits ≡ commits → reply.left ≡ []
    → reply ≡ record { place = place; listed = listed; commits = commits; left = []; outcome = reply.outcome }
reply_is reply place listed commits p l c f =
    ap (λ x. record reply { place = x }) p
    ∙ (ap (λ x. record reply { place = place; listed = x }) l
    ∙ (ap (λ x. record reply { place = place; listed = listed; commits = x }) c
    ∙ ap (λ (x : List Name). record reply { place = place; listed = listed; commits = commits; left = x }) f))

-- the fold's answer, where it is known
steps_by : (c : Cutting) (s : Session) (command : Command) (r : Alone) (reply : Reply) (new : History) (marks : List Change) → is_told command ≡ true
    → answer s r.library r.library r.events command ≡ Some (record { outcome = reply.outcome; marks = marks })
    → StepsTo c (Some (next_turn (answering c command (symbol_of command) reply.outcome marks r))) reply new → StepsTo c (step_alone c s command r) reply new
steps_by c s command r reply new marks told answered to =
    subst (λ o. StepsTo c o reply new)
    (sym (step_is c s command r told ∙ ap (option_map (λ (a : Answer). next_turn (answering c command (symbol_of command) a.outcome a.marks r))) answered)) to

-- a reply without changes, where nothing was added
pub told_step : (c : Cutting) (s : Session) (command : Command) (r : Alone) (reply : Reply) (old : History) (list l : Library) (q : ℕ) → is_told command ≡ true → StandsAs c old r → TellsSame r.library l
    → reply.place ≡ length old → reply.listed ≡ None → reply.commits ≡ [] → reply.left ≡ []
    → answer s list l q command ≡ Some (record { outcome = reply.outcome; marks = [] }) → StepsTo c (step_alone c s command r) reply old
told_step c s command r reply old list l q told stands same here unlisted uncommitted unleft answered =
    steps_by c s command r reply old [] told (answer_told s r.library list r.library l r.events q command told same ∙ answered)
    (subst (λ (x : Reply × Alone). StepsTo c (Some (next_turn x)) reply old) (sym (without (symbol_of command))) (
      reply_is reply r.events (list_place command r.events) [] (here ∙ sym stands.events) (unlisted ∙ sym (no_list command r.events told)) uncommitted unleft,
      record { events = stands.events; symbols = stands.symbols; states = stands.states; snapshots = stands.snapshots; shapes = stands.shapes; cut = stands.cut },
    ))
  where
    without : (symbol : Option Name) → answering c command symbol reply.outcome [] r ≡ (plain_reply r.events (list_place command r.events) reply.outcome, r)
    without None = refl
    without (Some symbol) = refl

-- a commit
pub commit_step : (c : Cutting) (s : Session) (command : Command) (symbol : Name) (r : Alone) (reply : Reply) (old before : History) (was : Option Key) (entry : Key) (first : Change) (rest : List Change)
    (list : Library) (q : ℕ) → is_told command ≡ true → symbol_of command ≡ Some symbol → StandsAs c old r → IsKept s.client old before
    → reply.place ≡ suc (length before) → reply.listed ≡ None → reply.commits ≡ reply.place ∷ [] → reply.left ≡ []
    → answer s list (library_of before) q command ≡ Some (record { outcome = reply.outcome; marks = first ∷ rest })
    → suc (length before) ≡ r.events + events_of c (r.library.state symbol) (r.shape symbol) (first ∷ rest)
    → ((other : Name) → HasShape (events.Refer s.client symbol was entry (first ∷ rest) ∷ before) other ((committing c symbol (first ∷ rest) r).shape other))
    → IsCutBy c (events.Refer s.client symbol was entry (first ∷ rest) ∷ before) → StepsTo c (step_alone c s command r) reply (events.Refer s.client symbol was entry (first ∷ rest) ∷ before)
commit_step c s command symbol r reply old before was entry first rest list q told named stands kept here unlisted committed unleft answered counted shapes cut =
    let new = events.Refer s.client symbol was entry (first ∷ rest) ∷ before in
    let place : ℕ = r.events + events_of c (r.library.state symbol) (r.shape symbol) (first ∷ rest) in
    steps_by c s command r reply new (first ∷ rest) told (sym (answer_told s list r.library (library_of before) r.library q r.events command told (run_tells_kept c s.client old before r stands kept)) ∙ answered)
    (subst (λ (o : Option Name). StepsTo c (Some (next_turn (answering c command o reply.outcome (first ∷ rest) r))) reply new) (sym named) (
      reply_is reply place (list_place command r.events) (place ∷ []) (here ∙ counted) (unlisted ∙ sym (no_list command r.events told)) (committed ∙ ap (λ n. n ∷ []) (here ∙ counted)) unleft,
      stands_behind c s.client symbol (first ∷ rest) old before was entry r stands kept counted shapes cut,
    ))
