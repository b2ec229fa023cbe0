-- Windows of legal replies, in longer histories and with one more behind them.
use Rattle.std.proofs.Common.{◌≡◌, ℕ, ◌<◌, ◌≤◌, Bool, true, false, List, [], ◌∷◌, ◌++◌, length, refl, sym, ◌∙◌, subst, length-append, arith}
use Rattle.std.specs.Prelude.{◌||◌}
use Rattle.std.specs.List.{AllByRecursion}
use Rattle.std.proofs.lemmas.Bool.{le-leb, lt-ltb}
use Rattle.std.proofs.lemmas.List.Folds.{list_any-append}
use Rattle.base_types.specs.Faults.{Rose}
use Rattle.bucket_core.specs.History.{History}
use Rattle.expr_clause.specs.declared.command.Command.{Command}
use Rattle.reply_model.specs.declared.reply.Reply.{Reply}
use Rattle.reply_model.specs.Windows.{Window, Client}
use Rattle.reply_model.specs.Legal.{IsLegalSeen, IsLegalReply, LegalFrom}
use Rattle.reply_model.specs.Runs.{is_covered, end_of}
use Rattle.reply_model.proofs.Later.{history_at_later}
use Rattle.client_sessions.specs.Sessions.{FaultsAre}

-- replies stay legal for their windows
pub legal_later : (h more : History) (client : Client) (from : ℕ) (cs : List Command) (rs : List Reply) (ws : List Window) → LegalFrom h client from cs rs ws → LegalFrom (more ++ h) client from cs rs ws
legal_later h more client from [] [] [] l = tt
legal_later h more client from (c ∷ cs) (r ∷ rs) (w ∷ ws) l = (
  l.0,
  (omega (arith, l.1.0, length-append more h), subst (λ g. IsLegalSeen g client c r w) (sym (history_at_later h more w.stop l.1.0)) l.1.1),
  legal_later h more client w.stop cs rs ws l.2,
)
legal_later h more client from [] [] (w ∷ ws) l = absurd l
legal_later h more client from [] (r ∷ rs) ws l = absurd l
legal_later h more client from (c ∷ cs) [] ws l = absurd l
legal_later h more client from (c ∷ cs) (r ∷ rs) [] l = absurd l

-- and no earlier than an earlier place
pub legal_earlier : (h : History) (client : Client) (low from : ℕ) (cs : List Command) (rs : List Reply) (ws : List Window) → low ≤ from → LegalFrom h client from cs rs ws → LegalFrom h client low cs rs ws
legal_earlier h client low from [] [] [] le l = tt
legal_earlier h client low from (c ∷ cs) (r ∷ rs) (w ∷ ws) le l = (omega (arith, le, l.0), l.1, l.2)
legal_earlier h client low from [] [] (w ∷ ws) le l = absurd l
legal_earlier h client low from [] (r ∷ rs) ws le l = absurd l
legal_earlier h client low from (c ∷ cs) [] ws le l = absurd l
legal_earlier h client low from (c ∷ cs) (r ∷ rs) [] le l = absurd l

-- the windows end within the history
pub ends_within : (h : History) (client : Client) (from : ℕ) (cs : List Command) (rs : List Reply) (ws : List Window) → from ≤ length h → LegalFrom h client from cs rs ws → end_of from ws ≤ length h
ends_within h client from [] [] [] le l = le
ends_within h client from (c ∷ cs) (r ∷ rs) (w ∷ ws) le l = ends_within h client w.stop cs rs ws l.1.0 l.2
ends_within h client from [] [] (w ∷ ws) le l = absurd l
ends_within h client from [] (r ∷ rs) ws le l = absurd l
ends_within h client from (c ∷ cs) [] ws le l = absurd l
ends_within h client from (c ∷ cs) (r ∷ rs) [] le l = absurd l

-- each begins no earlier than the first may
pub starts_from : (h : History) (client : Client) (low from : ℕ) (cs : List Command) (rs : List Reply) (ws : List Window) → low ≤ from → LegalFrom h client from cs rs ws → AllByRecursion (λ (w : Window). low ≤ w.start) ws
starts_from h client low from [] [] [] le l = tt
starts_from h client low from (c ∷ cs) (r ∷ rs) (w ∷ ws) le l =
    let start : low ≤ w.start = omega (arith, le, l.0) in
    let stop : low ≤ w.stop = omega (arith, start, l.1.1.after, l.1.1.before) in
    (start, starts_from h client low w.stop cs rs ws stop l.2)
starts_from h client low from [] [] (w ∷ ws) le l = absurd l
starts_from h client low from [] (r ∷ rs) ws le l = absurd l
starts_from h client low from (c ∷ cs) [] ws le l = absurd l
starts_from h client low from (c ∷ cs) (r ∷ rs) [] le l = absurd l

-- and ends within the history
pub stops_within : (h : History) (client : Client) (from : ℕ) (cs : List Command) (rs : List Reply) (ws : List Window) → LegalFrom h client from cs rs ws → AllByRecursion (λ (w : Window). w.stop ≤ length h) ws
stops_within h client from [] [] [] l = tt
stops_within h client from (c ∷ cs) (r ∷ rs) (w ∷ ws) l = (l.1.0, stops_within h client w.stop cs rs ws l.2)
stops_within h client from [] [] (w ∷ ws) l = absurd l
stops_within h client from [] (r ∷ rs) ws l = absurd l
stops_within h client from (c ∷ cs) [] ws l = absurd l
stops_within h client from (c ∷ cs) (r ∷ rs) [] l = absurd l

-- one reply more, for a window behind the others
pub legal_push : (h : History) (client : Client) (from : ℕ) (cs : List Command) (rs : List Reply) (ws : List Window) (c : Command) (r : Reply) (w : Window) →
    LegalFrom h client from cs rs ws → end_of from ws ≤ w.start → IsLegalReply h client c r w → LegalFrom h client from (cs ++ c ∷ []) (rs ++ r ∷ []) (ws ++ w ∷ [])
legal_push h client from [] [] [] c r w l le one = (le, one, tt)
legal_push h client from (d ∷ cs) (q ∷ rs) (v ∷ ws) c r w l le one = (l.0, l.1, legal_push h client v.stop cs rs ws c r w l.2 le one)
legal_push h client from [] [] (v ∷ ws) c r w l le one = absurd l
legal_push h client from [] (q ∷ rs) ws c r w l le one = absurd l
legal_push h client from (d ∷ cs) [] ws c r w l le one = absurd l
legal_push h client from (d ∷ cs) (q ∷ rs) [] c r w l le one = absurd l

-- ---- what the windows cover

or_left : (a b : Bool) → a ≡ true → (a || b) ≡ true
or_left true b is = refl
or_left false b is = absurd (let never : false ≡ true = is in cc)

or_right : (a b : Bool) → b ≡ true → (a || b) ≡ true
or_right true b is = refl
or_right false b is = is

-- a place that lay in a window does so with one window more
pub covered_before : (ws : List Window) (w : Window) (n : ℕ) → is_covered ws n ≡ true → is_covered (ws ++ w ∷ []) n ≡ true
covered_before ws w n is = list_any-append _ ws (w ∷ []) ∙ or_left (is_covered ws n) (is_covered (w ∷ []) n) is

-- and a place of the new window lies in it
pub covered_behind : (ws : List Window) (w : Window) (n : ℕ) → w.start < n → n ≤ w.stop → is_covered (ws ++ w ∷ []) n ≡ true
covered_behind ws w n after before =
    let inside : is_covered (w ∷ []) n ≡ true = rw (lt-ltb w.start n after) (rw (le-leb n w.stop before) refl) in
    list_any-append _ ws (w ∷ []) ∙ or_right (is_covered ws n) (is_covered (w ∷ []) n) inside

-- ---- the counts of faults

-- the count does not fall
pub faults_rise : (before now : ℕ) (ws : List Window) → FaultsAre before now ws → before ≤ now
faults_rise before now [] is = omega (arith, is)
faults_rise before now (w ∷ ws) (behind, up, set, rest) = let more : behind ≤ now = faults_rise behind now ws rest in omega (arith, up, more)

-- where it did not rise, no window is marked as failed
pub calm_windows : (before now : ℕ) (ws : List Window) → (Rose before now → ⊥) → FaultsAre before now ws → AllByRecursion (λ (w : Window). w.faulted ≡ false) ws
calm_windows before now [] calm is = tt
calm_windows before now (w ∷ ws) calm (behind, up, set, rest) =
    let more : behind ≤ now = faults_rise behind now ws rest in
    (of w.faulted refl more, calm_windows behind now ws (λ (rose : Rose behind now). let later : Rose before now = omega (arith, rose, up) in calm later) rest)
  where
    of : (b : Bool) → w.faulted ≡ b → behind ≤ now → w.faulted ≡ false
    of true is more = absurd (let rose : Rose before behind = set is in let later : Rose before now = omega (arith, rose, more) in calm later)
    of false is more = is

-- one window more, in which the count went on
pub faults_push : (before now later : ℕ) (ws : List Window) (w : Window) → now ≤ later → (w.faulted ≡ true → Rose now later) → FaultsAre before now ws → FaultsAre before later (ws ++ w ∷ [])
faults_push before now later [] w up set is = (later, omega (arith, is, up), λ t. let rose : Rose now later = set t in omega (arith, is, rose), refl)
faults_push before now later (v ∷ ws) w up set (behind, first, marked, rest) = (behind, first, marked, faults_push behind now later ws w up set rest)
