-- The theorem for each command that is served.
use Rattle.std.proofs.Common.{◌≡◌, ℕ, suc, ◌-◌, ◌≤◌, Bool, true, false, List, [], ◌∷◌, ◌++◌, map, length, take, Option, Some, None, refl, sym, ◌∙◌, ap, subst, inl, inr, arith, length-append, cond}
use Rattle.std.specs.Prelude.{◌⊎◌, MatchBool}
use Rattle.std.specs.List.{list_any}
use Rattle.std.proofs.lemmas.Bool.{true≢false, and_parts}
use Rattle.frame_core.specs.Ranges.{Range}
use Rattle.frame_core.specs.Texts.{Text}
use Rattle.frame_core.specs.declared.refusal.Refusal.{Refusal}
use Rattle.frame_core.specs.declared.refusal.Refusal.TheVariants as refusals
use Rattle.key_kind.specs.Names.{Name}
use Rattle.key_kind.specs.declared.key.Key.{Key}
use Rattle.bucket_core.specs.declared.event.Change.{Change}
use Rattle.bucket_core.specs.declared.event.Event.{Event}
use Rattle.bucket_core.specs.History.{History, history_at}
use Rattle.store_model.specs.Library.{State, state_of, is_buried, base_of, first_of}
use Rattle.store_model.specs.Law.{IsLawful}
use Rattle.store_model.specs.Links.{Linked, links}
use Rattle.store_model.specs.Commits.{is_version}
use Rattle.key_kind.specs.declared.key.KeyKind.TheVariants as kinds
use Rattle.store_model.specs.Snapshots.{Library, Snapshot, library_of}
use Rattle.reply_model.specs.CommitAnswers.{burial_answer}
use Rattle.reply_model.specs.Kinds.{Kind, kind_of, kind_symbol, Burial}
use Rattle.reply_model.specs.Kinds as does
use Rattle.reply_model.specs.Left.{left_of, known_events, stood_before}
use Rattle.bucket_core.specs.declared.event.Change.TheVariants as changes
use Rattle.expr_clause.specs.declared.command.AsOf.{AsOf}
use Rattle.expr_clause.specs.declared.command.AsOf.TheVariants as moments
use Rattle.expr_clause.specs.declared.command.Command.{Command}
use Rattle.expr_clause.specs.declared.command.Command.TheVariants as commands
use Rattle.reply_model.specs.declared.outcome.SymbolRow.{SymbolRow}
use Rattle.reply_model.specs.declared.outcome.Outcome.{Outcome}
use Rattle.reply_model.specs.declared.outcome.Outcome.TheVariants as outcomes
use Rattle.reply_model.specs.declared.reply.Reply.{Reply}
use Rattle.reply_model.specs.Answering.{Answer}
use Rattle.reply_model.specs.Answers.{answer_of, answer, symbol_row}
use Rattle.reply_model.specs.Windows.{Window, Client, library_at, symbol_of, is_refused, is_cut, is_answered, unnames, own_events}
use Rattle.reply_model.specs.Tries.{IsTurn}
use Rattle.reply_model.specs.OwnEvents.{AnyMarks, IsOwnOf, is_done}
use Rattle.reply_model.specs.Rows.{keys_of, keys_outcome, IsAnswer, IsSymbolRow, AreSymbolRows, number_of}
use Rattle.reply_model.specs.Legal.{IsListedOf, IsLegalRefusal, IsLegalOutcome, IsLegalSeen}
use Rattle.reply_model.specs.Blocks.{Cutting, tiles_in, blocks_made}
use Rattle.reply_model.specs.Causes.{IsVersionGone}
use Rattle.reply_model.specs.Sole.{Alone, keys_alone, step_alone}
use Rattle.reply_model.specs.Standing.{StandsAs, StepsTo, IsStep, is_served_of, is_served, LaysOut, LegalAloneSteps}
use Rattle.reply_model.proofs.Places.{history_at_end}
use Rattle.reply_model.proofs.Isolated.{some_answer, Gone, plain_outcome, read_is_live}
use Rattle.reply_model.proofs.Quiet.{is_plain_of, is_plain}
use Rattle.reply_model.proofs.AloneWindows.{added, none_behind, IsKept, Commits, turn_commits}
use Rattle.reply_model.proofs.AloneSteps.{TellsSame, is_told_of, is_told, answer_told, run_tells, rows_same}
use Rattle.reply_model.proofs.AloneHeard.{Heard, commits_are, own_are, adds_none, not_met, listed_step}
use Rattle.reply_model.proofs.TryCounts.{PutsKeys}
use Rattle.reply_model.proofs.Makings.{MakesVersion, Makes}
use Rattle.reply_model.proofs.BlockCounts.{laid_makes}
use Rattle.reply_model.proofs.AloneLegal.{made_first, burial_buries, buried_first, made_events, Plain, looking, committing_reply}

-- ---- what is known of a legal reply

-- a reply of a command that has an answer is its answer
answered_or_gone : (client : Client) (command : Command) (reply : Reply) (more old : History) (faulted : Bool) → is_plain command ≡ true → Heard client command reply more old faulted
    → Gone (more ++ old) command reply (added more old faulted) ⊎ IsAnswer (more ++ old) client command reply
answered_or_gone client command reply more old faulted plain heard =
    elim (plain_outcome (more ++ old) client command reply (added more old faulted) reply.outcome plain heard.cut heard.seen.outcome) [
      | inl met ↦ absurd (not_met client command reply more old faulted heard met)
      | inr rest ↦ rest
    ]

-- ---- turns

plain_of : (client : Client) (command : Command) (reply : Reply) (more old : History) (faulted : Bool) → Heard client command reply more old faulted → is_told command ≡ true
    → reply.listed ≡ None → reply.left ≡ [] → Plain client.session command reply old (more ++ old)
plain_of client command reply more old faulted heard told unlisted unleft = record {
  told = told;
  unlisted = unlisted;
  unleft = unleft;
  after = heard.seen.after;
  before = heard.seen.before;
  commits = commits_are client command reply more old faulted heard;
}

-- how a commit with this answer counts
abbrev Counts : Cutting → Client → Command → Name → Bool → Reply → History → History → Alone → Type 0
Counts c client command symbol makes reply more old r =
    (behind : History) (entry : Key) (kept : IsKept client.session.client old (behind ++ old)) (puts : PutsKeys symbol makes entry behind) (list : Library) (q : ℕ) (first : Change) (rest : List Change)
    → answer client.session list (library_of (behind ++ old)) q command ≡ Some (record { outcome = reply.outcome; marks = first ∷ rest })
    → reply.place ≡ suc (length (behind ++ old)) → Makes c (r.library.state symbol) (r.shape symbol) makes (links old symbol) (first_of (links (more ++ old) symbol)) puts.tiles first rest

-- a command that commits, or had nothing to do
turn_step : (c : Cutting) (client : Client) (command : Command) (symbol : Name) (makes : Bool) (reply : Reply) (more old : History) (r : Alone) → StandsAs c old r → symbol_of command ≡ Some symbol
    → IsLawful (more ++ old) → Plain client.session command reply old (more ++ old) → IsAnswer (more ++ old) client command reply → (done : Bool) → Counts c client command symbol makes reply more old r
    → MatchBool done (Commits client.session.client symbol makes old (more ++ old)) (more ≡ []) → StepsTo c (step_alone c client.session command r) reply (more ++ old)
turn_step c client command symbol makes reply more old r stands named lawful plain is true counts k =
    committing_reply c client command symbol makes r reply old (more ++ old) stands named lawful plain k is
    (λ list q first rest answered here. made_events c r symbol makes old (more ++ old) k.behind k.entry k.puts first rest stands (counts k.behind k.entry k.kept k.puts list q first rest answered here))
turn_step c client command symbol makes reply more old r stands named lawful plain is false counts none =
    subst (λ es. StepsTo c (step_alone c client.session command r) reply (es ++ old)) (sym none)
    (looking c client command r reply old stands (subst (λ es. Plain client.session command reply old (es ++ old)) none plain) (none_behind client.session.client (length old) old (omega arith))
    (subst (λ es. IsAnswer (es ++ old) client command reply) none is))

-- a commit of a version that is laid out
version_counts : (c : Cutting) (client : Client) (command : Command) (symbol : Name) (reply : Reply) (more old : History) (r : Alone) → StandsAs c old r → is_told command ≡ true → symbol_of command ≡ Some symbol
    → LaysOut c client.session command reply old (more ++ old)
    → ((list l : Library) (q : ℕ) (first : Change) (rest : List Change) → answer client.session list l q command ≡ Some (record { outcome = reply.outcome; marks = first ∷ rest }) → is_version first ≡ true)
    → Counts c client command symbol true reply more old r
version_counts c client command symbol reply more old r stands told named laid version behind entry kept puts list q first rest answered here =
    let same : TellsSame (library_of old) (library_of (behind ++ old)) = record { symbols = sym kept.symbols; states = λ x. sym (kept.states x); snapshots = sym kept.snapshots } in
    let answered_before = answer_told client.session (library_of old) list (library_of old) (library_of (behind ++ old)) (length old) q command told same ∙ answered in
    let makes = version list (library_of (behind ++ old)) q first rest answered in
    let is_laid = laid stands.cut symbol first rest named answered_before makes in
    subst (λ (st : State). MakesVersion c st (r.shape symbol) (links old symbol) (first_of (links (more ++ old) symbol)) puts.tiles first rest) (sym (stands.states symbol))
    (laid_makes c (r.shape symbol) symbol puts.tiles reply.place first rest old (more ++ old) makes (stands.shapes symbol) stands.cut is_laid
    (omega (arith, here, is_laid.tiles, length-append behind old, puts.size, puts.with_index refl)))

-- a command that makes a version
version_step : (c : Cutting) (client : Client) (command : Command) (symbol : Name) (reply : Reply) (more old : History) (faulted : Bool) → Heard client command reply more old faulted
    → is_told command ≡ true → symbol_of command ≡ Some symbol → reply.listed ≡ None → reply.left ≡ [] → LaysOut c client.session command reply old (more ++ old)
    → ((list l : Library) (q : ℕ) (first : Change) (rest : List Change) → answer client.session list l q command ≡ Some (record { outcome = reply.outcome; marks = first ∷ rest }) → is_version first ≡ true)
    → IsAnswer (more ++ old) client command reply
    → IsTurn (more ++ old) client.session (added more old faulted) symbol true (is_done reply) (is_answered reply.outcome) AnyMarks (own_events (more ++ old) client.session.client (added more old faulted))
    → IsStep c client.session command reply old (more ++ old)
version_step c client command symbol reply more old faulted heard told named unlisted unleft laid version is turn r stands =
    turn_step c client command symbol true reply more old r stands named heard.lawful (plain_of client command reply more old faulted heard told unlisted unleft) is (is_done reply)
    (version_counts c client command symbol reply more old r stands told named laid version) (turn_commits more old client.session symbol true (is_done reply) faulted heard.own turn)

-- a burial makes no blocks
burial_makes : (c : Cutting) (r : Alone) (symbol : Name) (before : List Linked) (newest : Option Linked) (tiles : ℕ) (first : Change) (rest : List Change) → ((numbers : List ℕ) × (first ≡ changes.Removed numbers))
    → Makes c (r.library.state symbol) (r.shape symbol) false before newest tiles first rest
burial_makes c r symbol before newest tiles first rest b = record { is = ap (λ x. blocks_made c (r.library.state symbol) (r.shape symbol) x) b.1; mark = ap is_version b.1 }

-- ---- commands that only look

-- a version that is live where the window begins and ends is not buried there
live_is_not_gone : (symbol : Name) (as_of : AsOf) (range : Range) (columns : Option (List Text)) (number : ℕ) (reply : Reply) (old : History) (faulted : Bool) → length old ≤ reply.place → reply.place ≤ length old
    → (g : IsVersionGone old symbol as_of range columns number reply.place (added [] old faulted)) → is_buried (state_of (history_at old g.read_at) symbol) g.version.number ≡ false → ⊥
live_is_not_gone symbol as_of range columns number reply old faulted after before g live =
    let here : reply.place ≡ g.read_at = omega (arith, after, before, g.from, g.to) in
    true≢false (sym g.buried ∙ (ap (λ n. is_buried (state_of (history_at old reply.place) symbol) n) (sym g.number_is)
    ∙ (ap (λ q. is_buried (state_of (history_at old q) symbol) g.version.number) here ∙ live)))

-- so nothing that was read is gone
not_gone : (symbol : Name) (as_of : AsOf) (range : Range) (columns : Option (List Text)) (number : ℕ) (reply : Reply) (old : History) (faulted : Bool) → length old ≤ reply.place → reply.place ≤ length old
    → IsVersionGone old symbol as_of range columns number reply.place (added [] old faulted) → ⊥
not_gone symbol (moments.Snapshot snap) range columns number reply old faulted after before g =
    let size : reply.place - length old ≡ 0 = omega (arith, before) in
    true≢false (sym g.unnamed ∙ ap (λ n. list_any (unnames snap) (take n (history_at old reply.place))) size)
not_gone symbol (moments.Back k) range columns number reply old faulted after before g =
    live_is_not_gone symbol (moments.Back k) range columns number reply old faulted after before g (read_is_live (library_at old g.read_at) symbol (moments.Back k) g.version refl g.read)
not_gone symbol (moments.Number n) range columns number reply old faulted after before g =
    live_is_not_gone symbol (moments.Number n) range columns number reply old faulted after before g (read_is_live (library_at old g.read_at) symbol (moments.Number n) g.version refl g.read)
not_gone symbol (moments.Moment t) range columns number reply old faulted after before g =
    live_is_not_gone symbol (moments.Moment t) range columns number reply old faulted after before g (read_is_live (library_at old g.read_at) symbol (moments.Moment t) g.version refl g.read)

-- nothing is gone to a command where nothing was added
nothing_gone : (command : Command) (reply : Reply) (old : History) (faulted : Bool) → length old ≤ reply.place → reply.place ≤ length old → Gone old command reply (added [] old faulted) → ⊥
nothing_gone (commands.Read symbol as_of range columns clauses) reply old faulted after before gone = not_gone symbol as_of range columns gone.0 reply old faulted after before gone.1
nothing_gone command reply old faulted after before gone = gone

-- such a command, where nothing was added
look_step : (c : Cutting) (client : Client) (command : Command) (reply : Reply) (old : History) (faulted : Bool) → Heard client command reply [] old faulted → is_told command ≡ true → reply.listed ≡ None → reply.left ≡ []
    → IsStep c client.session command reply old old
look_step c client command reply old faulted heard told unlisted unleft r stands =
    elim (answered_or_gone client command reply [] old faulted (and_parts (is_plain_of (kind_of command)) (is_served_of (kind_of command)) told).0 heard) [
      | inl gone ↦ absurd (nothing_gone command reply old faulted heard.seen.after heard.seen.before gone)
      | inr is ↦ looking c client command r reply old stands
          (plain_of client command reply [] old faulted heard told unlisted unleft)
          (none_behind client.session.client (length old) old (omega arith)) is
    ]

-- ---- commands whose answer is one of a symbol's state

abbrev reads : Kind → Bool
reads (does.Reads symbol) = true
reads k = false

-- something is gone only to a command that reads
gone_to_none : (h : History) (command : Command) (reply : Reply) (w : Window) → reads (kind_of command) ≡ false → Gone h command reply w → ⊥
gone_to_none h (commands.Read symbol as_of range columns clauses) reply w other gone = true≢false other
gone_to_none h command reply w other gone = gone

module _ (c : Cutting) (client : Client) (command : Command) (reply : Reply) (more old : History) (faulted : Bool) (heard : Heard client command reply more old faulted) (told : is_told command ≡ true) where
  abbrev window : Window
  window = added more old faulted

  abbrev own : List Event
  own = own_events (more ++ old) client.session.client window

  -- its reply names no list, and leaves nothing held
  unlisted : reply.listed ≡ None
  unlisted = by_kind (kind_of command) told heard.seen.listed
    where
      by_kind : (k : Kind) → is_told_of k ≡ true → IsListedOf k reply own → reply.listed ≡ None
      by_kind (does.Makes a) is l = l
      by_kind (does.Buries a burial) is l = l
      by_kind (does.Reads a) is l = l
      by_kind k is l = absurd (true≢false (sym is))

  unleft : reply.left ≡ []
  unleft = heard.seen.left.left ∙ by_kind (kind_of command) told
    where
      by_kind : (k : Kind) → is_told_of k ≡ true → left_of k reply (known_events (more ++ old) client.session.client reply window) (stood_before (more ++ old) client.session.client k reply window) ≡ []
      by_kind (does.Makes a) is = refl
      by_kind (does.Buries a burial) is = refl
      by_kind (does.Reads a) is = refl
      by_kind k is = absurd (true≢false (sym is))

  -- its own events are those of its kind
  own_of_kind : (k : Kind) → kind_of command ≡ k → IsOwnOf (more ++ old) client.session window k reply (is_done reply) own
  own_of_kind k e = subst (λ x. IsOwnOf (more ++ old) client.session window x reply (is_done reply) own) e (own_are client command reply more old faulted heard)

  -- where it does not read, its reply is its answer
  answered_is : (k : Kind) → kind_of command ≡ k → reads k ≡ false → IsAnswer (more ++ old) client command reply
  answered_is k e other = elim (answered_or_gone client command reply more old faulted (and_parts (is_plain_of (kind_of command)) (is_served_of (kind_of command)) told).0 heard) [
    | inl gone ↦ absurd (gone_to_none (more ++ old) command reply window (ap reads e ∙ other) gone)
    | inr is ↦ is
  ]

  -- a command that makes a version
  makes_step : (symbol : Name) → kind_of command ≡ does.Makes symbol → LaysOut c client.session command reply old (more ++ old) → IsStep c client.session command reply old (more ++ old)
  makes_step symbol e laid =
      version_step c client command symbol reply more old faulted heard told (ap kind_symbol e) unlisted unleft laid
      (λ list l q first rest a. made_first client.session (l.state symbol) command reply.outcome first rest (sym (ap (answer_of client.session list l q command) e) ∙ a))
      (answered_is (does.Makes symbol) e refl) (own_of_kind (does.Makes symbol) e)

  -- a burial
  burial_step : (symbol : Name) (burial : Burial) → kind_of command ≡ does.Buries symbol burial → IsStep c client.session command reply old (more ++ old)
  burial_step symbol burial e r stands =
      turn_step c client command symbol false reply more old r stands (ap kind_symbol e) heard.lawful (plain_of client command reply more old faulted heard told unlisted unleft)
      (answered_is (does.Buries symbol burial) e refl) (is_done reply)
      (λ behind entry kept puts list q first rest answered here. burial_makes c r symbol (links old symbol) (first_of (links (more ++ old) symbol)) puts.tiles first rest
      (buried_first (burial_answer burial ((library_of (behind ++ old)).state symbol)) reply.outcome first rest (burial_buries burial ((library_of (behind ++ old)).state symbol))
      (sym (ap (answer_of client.session list (library_of (behind ++ old)) q command) e) ∙ answered)))
      (turn_commits more old client.session symbol false (is_done reply) faulted heard.own (own_of_kind (does.Buries symbol burial) e))

  -- a command that reads
  reads_step : (symbol : Name) → kind_of command ≡ does.Reads symbol → IsStep c client.session command reply old (more ++ old)
  reads_step symbol e =
      let none : more ≡ [] = adds_none client command reply more old faulted heard (own_of_kind (does.Reads symbol) e) in
      subst (λ es. IsStep c client.session command reply old (es ++ old)) (sym none) (look_step c client command reply old faulted (subst (λ es. Heard client command reply es old faulted) none heard) told unlisted unleft)

  answered_step : LaysOut c client.session command reply old (more ++ old) → IsStep c client.session command reply old (more ++ old)
  answered_step laid = by_kind (kind_of command) refl told
    where
      by_kind : (k : Kind) → kind_of command ≡ k → is_told_of k ≡ true → IsStep c client.session command reply old (more ++ old)
      by_kind (does.Makes symbol) e is = makes_step symbol e laid
      by_kind (does.Buries symbol burial) e is = burial_step symbol burial e
      by_kind (does.Reads symbol) e is = reads_step symbol e
      by_kind k e is = absurd (true≢false (sym is))

-- ---- the lists of the library

no_symbol : (symbol : Name) → None ≡ Some symbol → ⊥
no_symbol symbol e = cc

snapshots_refused : (h : History) (client : Client) (reply : Reply) (w : Window) (why : Refusal) → is_cut (outcomes.Refused why) ≡ false → IsLegalRefusal h client commands.Snapshots reply w why → IsAnswer h client commands.Snapshots reply
snapshots_refused h client reply w refusals.NoMemory cut l = absurd (true≢false cut)
snapshots_refused h client reply w refusals.StoreFault cut l = absurd (true≢false cut)
snapshots_refused h client reply w (refusals.Spent count) cut l = absurd (true≢false cut)
snapshots_refused h client reply w (refusals.Moved now) cut l = absurd (no_symbol l.0 l.1.1)
snapshots_refused h client reply w (refusals.VersionGone number) cut l = absurd l
snapshots_refused h client reply w why cut l = l

snapshots_answered : (h : History) (client : Client) (reply : Reply) (w : Window) (o : Outcome) → is_cut o ≡ false → IsLegalOutcome h client commands.Snapshots reply w o → IsAnswer h client commands.Snapshots reply
snapshots_answered h client reply w (outcomes.Refused why) cut l = snapshots_refused h client reply w why cut l
snapshots_answered h client reply w o cut l = l

snapshots_step : (c : Cutting) (client : Client) (reply : Reply) (old : History) (faulted : Bool) → Heard client commands.Snapshots reply [] old faulted → IsStep c client.session commands.Snapshots reply old old
snapshots_step c client reply old faulted heard r stands =
    let here : reply.place ≡ length old = omega (arith, heard.seen.after, heard.seen.before) in
    elim (snapshots_answered old client reply (added [] old faulted) reply.outcome heard.cut heard.seen.outcome) [
      | inl told ↦
          let same : TellsSame r.library (library_at old reply.place) = subst (λ h. TellsSame r.library (library_of h)) (sym (ap (history_at old) here ∙ history_at_end old)) (run_tells c old r stands) in
          listed_step c client commands.Snapshots reply r old faulted (outcomes.Snapshots (map (λ y. y.0) r.library.snapshots)) stands heard heard.seen.listed heard.seen.left.left
          (sym (ap (λ (a : Answer). a.outcome) (some_answer (record { outcome = outcomes.Snapshots (map (λ y. y.0) (library_at old reply.place).snapshots); marks = [] }) (record { outcome = reply.outcome; marks = [] }) told.0))
          ∙ sym (ap (λ (xs : List (Name × Snapshot)). outcomes.Snapshots (map (λ y. y.0) xs)) same.snapshots))
      | inr made ↦ absurd (no_symbol made.2 made.4)
    ]

-- rows of symbols at the one place of a window
rows_are : (h : History) (p : ℕ) (names : List Name) (rows : List SymbolRow) → p ≡ length h → AreSymbolRows h p (length h) names rows → rows ≡ map (symbol_row (library_of h) p) names
rows_are h p [] [] here are = refl
rows_are h p [] (row ∷ rows) here are = absurd are
rows_are h p (name ∷ names) [] here are = absurd are
rows_are h p (name ∷ names) (row ∷ rows) here are =
    ap (λ x. x ∷ rows) (row_is row are.0) ∙ ap (λ xs. symbol_row (library_of h) p name ∷ xs) (rows_are h p names rows here are.1)
  where
    row_is : (x : SymbolRow) → IsSymbolRow h p (length h) name x → x ≡ symbol_row (library_of h) p name
    row_is x is =
        let at : x.place ≡ p = omega (arith, here, is.1, is.2) in
        ap (λ n. record x { symbol = n }) is.0
        ∙ (ap (λ n. record x { symbol = name; newest = n }) (is.3 ∙ ap (λ (g : History). number_of (base_of (state_of g name))) (ap (history_at h) (at ∙ here) ∙ history_at_end h))
        ∙ ap (λ n. record { symbol = name; newest = number_of (base_of (state_of h name)); place = n }) at)

symbols_refused : (h : History) (client : Client) (reply : Reply) (w : Window) (why : Refusal) → reply.outcome ≡ outcomes.Refused why → is_cut (outcomes.Refused why) ≡ false → IsLegalRefusal h client commands.Symbols reply w why → ⊥
symbols_refused h client reply w refusals.NoMemory is cut l = true≢false cut
symbols_refused h client reply w refusals.StoreFault is cut l = true≢false cut
symbols_refused h client reply w (refusals.Spent count) is cut l = true≢false cut
symbols_refused h client reply w (refusals.Moved now) is cut l = no_symbol l.0 l.1.1
symbols_refused h client reply w (refusals.VersionGone number) is cut l = l
symbols_refused h client reply w why is cut l = elim l [
  | inl told ↦ true≢false (sym (ap is_refused is)
      ∙ sym (ap (λ (a : Answer). is_refused a.outcome) (some_answer (record { outcome = outcomes.Symbols (map (symbol_row (library_at h reply.place) reply.place) (library_at h reply.place).symbols); marks = [] })
      (record { outcome = reply.outcome; marks = [] }) told.0)))
  | inr made ↦ no_symbol made.2 made.4
]

symbols_rows : (h : History) (client : Client) (reply : Reply) (w : Window) (o : Outcome) → reply.outcome ≡ o → is_cut o ≡ false → IsLegalOutcome h client commands.Symbols reply w o
    → (rows : List SymbolRow) × (o ≡ outcomes.Symbols rows) × AreSymbolRows h reply.place w.stop (library_at h reply.place).symbols rows
symbols_rows h client reply w (outcomes.Refused why) is cut l = absurd (symbols_refused h client reply w why is cut l)
symbols_rows h client reply w (outcomes.Symbols rows) is cut l = (rows, refl, l)
symbols_rows h client reply w o is cut l = absurd l

symbols_step : (c : Cutting) (client : Client) (reply : Reply) (old : History) (faulted : Bool) → Heard client commands.Symbols reply [] old faulted → IsStep c client.session commands.Symbols reply old old
symbols_step c client reply old faulted heard r stands =
    let here : reply.place ≡ length old = omega (arith, heard.seen.after, heard.seen.before) in
    let rows = symbols_rows old client reply (added [] old faulted) reply.outcome refl heard.cut heard.seen.outcome in
    let at_end : history_at old reply.place ≡ old = ap (history_at old) here ∙ history_at_end old in
    listed_step c client commands.Symbols reply r old faulted (outcomes.Symbols (map (symbol_row r.library r.events) r.library.symbols)) stands heard heard.seen.listed heard.seen.left.left
    (rows.1 ∙ ap outcomes.Symbols (rows_are old reply.place (library_at old reply.place).symbols rows.0 here rows.2
    ∙ (ap (λ (g : History). map (symbol_row (library_of old) reply.place) (library_of g).symbols) at_end
    ∙ (ap (λ p. map (symbol_row (library_of old) p) (library_of old).symbols) (here ∙ sym stands.events)
    ∙ (ap (map (symbol_row (library_of old) r.events)) (sym stands.symbols) ∙ sym (rows_same r.library (library_of old) r.events (run_tells c old r stands) r.library.symbols))))))

-- ---- keys

no_answer : (a : Answer) → None ≡ Some a → ⊥
no_answer a e = cc

keys_refused : (h : History) (client : Client) (symbol : Name) (reply : Reply) (w : Window) (why : Refusal) → is_cut (outcomes.Refused why) ≡ false → IsLegalRefusal h client (commands.Keys symbol) reply w why → ⊥
keys_refused h client symbol reply w refusals.NoMemory cut l = true≢false cut
keys_refused h client symbol reply w refusals.StoreFault cut l = true≢false cut
keys_refused h client symbol reply w (refusals.Spent count) cut l = true≢false cut
keys_refused h client symbol reply w (refusals.Moved now) cut l = true≢false (sym l.1.0)
keys_refused h client symbol reply w (refusals.VersionGone number) cut l = l
keys_refused h client symbol reply w why cut l = elim l [
  | inl told ↦ no_answer (record { outcome = reply.outcome; marks = [] }) told.0
  | inr made ↦ no_answer (record { outcome = reply.outcome; marks = made.0 ∷ made.1 }) made.3
]

keys_counted : (h : History) (client : Client) (symbol : Name) (reply : Reply) (w : Window) (o : Outcome) → is_cut o ≡ false → IsLegalOutcome h client (commands.Keys symbol) reply w o
    → o ≡ keys_outcome (history_at h reply.place) symbol
keys_counted h client symbol reply w (outcomes.Refused why) cut l = absurd (keys_refused h client symbol reply w why cut l)
keys_counted h client symbol reply w o cut l = l

keys_step : (c : Cutting) (client : Client) (symbol : Name) (reply : Reply) (old : History) (faulted : Bool) → Heard client (commands.Keys symbol) reply [] old faulted → IsStep c client.session (commands.Keys symbol) reply old old
keys_step c client symbol reply old faulted heard r stands =
    let here : reply.place ≡ length old = omega (arith, heard.seen.after, heard.seen.before) in
    let shape = stands.shapes symbol in
    let st : State = r.library.state symbol in
    listed_step c client (commands.Keys symbol) reply r old faulted (keys_alone st (r.shape symbol)) stands heard heard.seen.listed heard.seen.left.left
    (keys_counted old client symbol reply (added [] old faulted) reply.outcome heard.cut heard.seen.outcome
    ∙ (ap (λ (g : History). keys_outcome g symbol) (ap (history_at old) here ∙ history_at_end old)
    ∙ (ap (λ n. outcomes.Keys n (keys_of old symbol kinds.TableIndex) (keys_of old symbol kinds.Version) (keys_of old symbol kinds.VersionRef) (keys_of old symbol kinds.Staged)) shape.tiles
    ∙ (ap (λ n. outcomes.Keys (tiles_in (r.shape symbol).blocks) n (keys_of old symbol kinds.Version) (keys_of old symbol kinds.VersionRef) (keys_of old symbol kinds.Staged)) shape.indexes
    ∙ (ap (λ n. outcomes.Keys (tiles_in (r.shape symbol).blocks) (length (r.shape symbol).indexes) n (keys_of old symbol kinds.VersionRef) (keys_of old symbol kinds.Staged)) shape.elements
    ∙ (ap (λ n. outcomes.Keys (tiles_in (r.shape symbol).blocks) (length (r.shape symbol).indexes) (r.shape symbol).elements n (keys_of old symbol kinds.Staged))
    (shape.references ∙ ap (λ (x : State). cond x.has_reference 1 0) (sym (stands.states symbol)))
    ∙ ap (λ n. outcomes.Keys (tiles_in (r.shape symbol).blocks) (length (r.shape symbol).indexes) (r.shape symbol).elements (cond st.has_reference 1 0) n) shape.pieces))))))

-- ---- each command

served_step : (c : Cutting) (client : Client) (command : Command) (reply : Reply) (more old : History) (faulted : Bool) → Heard client command reply more old faulted → is_served command ≡ true
    → LaysOut c client.session command reply old (more ++ old) → IsStep c client.session command reply old (more ++ old)
served_step c client commands.Symbols reply more old faulted heard served laid =
    let none : more ≡ [] = adds_none client commands.Symbols reply more old faulted heard (own_are client commands.Symbols reply more old faulted heard) in
    subst (λ es. IsStep c client.session commands.Symbols reply old (es ++ old)) (sym none) (symbols_step c client reply old faulted (subst (λ es. Heard client commands.Symbols reply es old faulted) none heard))
served_step c client commands.Snapshots reply more old faulted heard served laid =
    let none : more ≡ [] = adds_none client commands.Snapshots reply more old faulted heard (own_are client commands.Snapshots reply more old faulted heard) in
    subst (λ es. IsStep c client.session commands.Snapshots reply old (es ++ old)) (sym none) (snapshots_step c client reply old faulted (subst (λ es. Heard client commands.Snapshots reply es old faulted) none heard))
served_step c client (commands.Keys a) reply more old faulted heard served laid =
    let none : more ≡ [] = adds_none client (commands.Keys a) reply more old faulted heard (own_are client (commands.Keys a) reply more old faulted heard) in
    subst (λ es. IsStep c client.session (commands.Keys a) reply old (es ++ old)) (sym none) (keys_step c client a reply old faulted (subst (λ es. Heard client (commands.Keys a) reply es old faulted) none heard))
served_step c client command reply more old faulted heard served laid = answered_step c client command reply more old faulted heard served laid

pub legal_alone_steps : LegalAloneSteps
legal_alone_steps old new c client command reply faulted lawful grows legal served cut laid =
    let seen : IsLegalSeen new client command reply (record { start = length old; stop = length new; faulted = faulted }) =
    subst (λ h. IsLegalSeen h client command reply (record { start = length old; stop = length new; faulted = faulted })) (history_at_end new) legal.1 in
    subst (λ h. IsStep c client.session command reply old h) (sym grows.is) (served_step c client command reply grows.more old faulted
    (record { lawful = subst (λ h. IsLawful h) grows.is lawful; own = grows.own; seen = subst (λ h. IsLegalSeen h client command reply (record { start = length old; stop = length h; faulted = faulted })) grows.is seen; cut = cut }) served (subst (λ h. LaysOut c client.session command reply old h) grows.is laid))
