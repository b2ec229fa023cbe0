-- Talks whose windows do not overlap, and talks in longer histories.
use Rattle.std.proofs.Common.{◌≡◌, ℕ, ◌≤◌, ◌⊎◌, List, [], ◌∷◌, ◌++◌, length, sym, subst, inl, inr, arith}
use Rattle.std.specs.List.{AllByRecursion}
use Rattle.base_types.specs.Faults.{Rose}
use Rattle.bucket_core.specs.History.{History}
use Rattle.reply_model.specs.Windows.{Window}
use Rattle.reply_model.specs.Runs.{Talk, IsLegalTalk, AreApart, end_of, latest_end}
use Rattle.client_sessions.proofs.Windows.{legal_later, legal_earlier, ends_within, starts_from, stops_within}

-- no count of faults rose from 0 to 0
pub calm : Rose 0 0 → ⊥
calm rose = omega (arith, rose)

-- what holds of each holds of each in another way
pub all_map : {A : Type 0} (P Q : A → Type 0) (xs : List A) → ((x : A) → P x → Q x) → AllByRecursion P xs → AllByRecursion Q xs
all_map P Q [] f all = tt
all_map P Q (x ∷ xs) f all = (f x all.0, all_map P Q xs f all.1)

-- legal talks stay legal, from an earlier place on
pub talk_later : (h more : History) (low from : ℕ) (t : Talk) → low ≤ from → IsLegalTalk h from t → IsLegalTalk (more ++ h) low t
talk_later h more low from t le l = legal_earlier (more ++ h) t.client low from t.commands t.replies t.windows le (legal_later h more t.client from t.commands t.replies t.windows l)

pub talks_later : (h more new : History) (low from : ℕ) (talks : List Talk) → new ≡ more ++ h → low ≤ from → AllByRecursion (IsLegalTalk h from) talks → AllByRecursion (IsLegalTalk new low) talks
talks_later h more new low from talks is le all = subst (λ (g : History). AllByRecursion (IsLegalTalk g low) talks) (sym is) (all_map (IsLegalTalk h from) (IsLegalTalk (more ++ h) low) talks (λ t l. talk_later h more low from t le l) all)

-- the windows of one list end where those of another begin
apart_from : (k : ℕ) (w : Window) (vs : List Window) → w.stop ≤ k → AllByRecursion (λ (v : Window). k ≤ v.start) vs → AllByRecursion (λ (v : Window). (w.stop ≤ v.start) ⊎ (v.stop ≤ w.start)) vs
apart_from k w [] stop starts = tt
apart_from k w (v ∷ vs) stop starts = (inl (omega (arith, stop, starts.0)), apart_from k w vs stop starts.1)

apart_by : (k : ℕ) (ws vs : List Window) → AllByRecursion (λ (w : Window). w.stop ≤ k) ws → AllByRecursion (λ (v : Window). k ≤ v.start) vs → AllByRecursion (λ (w : Window). AllByRecursion (λ (v : Window). (w.stop ≤ v.start) ⊎ (v.stop ≤ w.start)) vs) ws
apart_by k [] vs stops starts = tt
apart_by k (w ∷ ws) vs stops starts = (apart_from k w vs stops.0 starts, apart_by k ws vs stops.1 starts)

-- a talk that ends at a place is apart from those that are legal from there on
pub apart_before : (h : History) (k : ℕ) (t : Talk) (talks : List Talk) → AllByRecursion (λ (w : Window). w.stop ≤ k) t.windows → AllByRecursion (IsLegalTalk h k) talks → AllByRecursion (AreApart t) talks
apart_before h k t talks stops all = all_map (IsLegalTalk h k) (AreApart t) talks (λ s l. λ same. apart_by k t.windows s.windows stops (starts_from h s.client k k s.commands s.replies s.windows (omega arith) l)) all

-- the windows of another list end where those of this one begin
behind_from : (k : ℕ) (w : Window) (vs : List Window) → k ≤ w.start → AllByRecursion (λ (v : Window). v.stop ≤ k) vs → AllByRecursion (λ (v : Window). (w.stop ≤ v.start) ⊎ (v.stop ≤ w.start)) vs
behind_from k w [] start stops = tt
behind_from k w (v ∷ vs) start stops = (inr (omega (arith, start, stops.0)), behind_from k w vs start stops.1)

behind_by : (k : ℕ) (ws vs : List Window) → AllByRecursion (λ (w : Window). k ≤ w.start) ws → AllByRecursion (λ (v : Window). v.stop ≤ k) vs → AllByRecursion (λ (w : Window). AllByRecursion (λ (v : Window). (w.stop ≤ v.start) ⊎ (v.stop ≤ w.start)) vs) ws
behind_by k [] vs starts stops = tt
behind_by k (w ∷ ws) vs starts stops = (behind_from k w vs starts.0 stops, behind_by k ws vs starts.1 stops)

-- a talk that begins where a history ends is apart from those that are legal in it
pub apart_behind : (h : History) (from : ℕ) (t : Talk) (talks : List Talk) → AllByRecursion (λ (w : Window). length h ≤ w.start) t.windows → AllByRecursion (IsLegalTalk h from) talks → AllByRecursion (AreApart t) talks
apart_behind h from t talks starts all = all_map (IsLegalTalk h from) (AreApart t) talks (λ s l. λ same. behind_by (length h) t.windows s.windows starts (stops_within h s.client from s.commands s.replies s.windows l)) all

-- the talks end within the history in which they are legal
pub latest_within : (h : History) (from : ℕ) (talks : List Talk) → from ≤ length h → AllByRecursion (IsLegalTalk h from) talks → latest_end from talks ≤ length h
latest_within h from [] le all = le
latest_within h from (t ∷ talks) le all =
    let one : end_of from t.windows ≤ length h = ends_within h t.client from t.commands t.replies t.windows le all.0 in
    let rest : latest_end from talks ≤ length h = latest_within h from talks le all.1 in
    omega (arith, one, rest)
