-- A window without events of others: its own events are all events, no Refer is met, and puts change nothing that the library tells.
use Rattle.std.proofs.Common.{◌≡◌, ℕ, suc, ◌-◌, ◌≤◌, ◌<◌, Bool, true, false, List, [], ◌∷◌, ◌++◌, map, length, take, Option, Some, refl, sym, ◌∙◌, ap, subst, arith, length-append, cond}
use Rattle.std.specs.Prelude.{◌&&◌, not, filter, reverse, count_by, MatchBool, nat_eq, nat_le}
use Rattle.std.specs.List.{list_any, flat_map, AllByRecursion}
use Rattle.std.proofs.Math.Seq.{take-append_seam}
use Rattle.std.proofs.lemmas.Bool.{true≢false, eqb-true, eq-eqb, lt-leb, and_right, or_parts, or_from}
use Rattle.segment_cut.proofs.Lists.{count_by-cons}
use Rattle.std.proofs.lemmas.List.{reverse-reverse, reverse-append}
use Rattle.key_kind.specs.Names.{Name, same_name}
use Rattle.key_kind.specs.declared.key.Key.{Key}
use Rattle.key_kind.specs.declared.key.KeyKind.TheVariants as kinds
use Rattle.key_kind.specs.Keys.{same_kind}
use Rattle.bucket_core.specs.declared.event.Change.{Change}
use Rattle.bucket_core.specs.declared.event.Event.{Event}
use Rattle.bucket_core.specs.declared.event.Event.TheVariants as events
use Rattle.bucket_core.specs.History.{History, Bytes, author, event_at, history_at, events_within}
use Rattle.bucket_core.specs.Laws.{refers}
use Rattle.store_model.specs.Library.{state_of}
use Rattle.store_model.specs.Snapshots.{symbols_of, snapshots_of}
use Rattle.reply_model.specs.Answering.{Session}
use Rattle.reply_model.specs.Windows.{Window, own_events, refer_places, refers_by_others}
use Rattle.reply_model.specs.Tries.{put_of, IsAccepted, IsTurn}
use Rattle.reply_model.specs.OwnEvents.{AnyMarks}
use Rattle.reply_model.specs.Runs.{harms}
use Rattle.reply_model.proofs.Later.{history_at_later}
use Rattle.reply_model.proofs.Places.{history_at_end, behind, within_is_behind, none_at}
use Rattle.reply_model.proofs.Harmless.{try_harms_nothing}
use Rattle.reply_model.proofs.TryCounts.{PutsKeys, reversed_none, try_puts}
use Rattle.reply_model.proofs.Quiet.{touches, untouched, not_first}

-- ---- the events of the window

-- the window of what was added
abbrev pub added : History → History → Bool → Window
added more old faulted = record { start = length old; stop = length (more ++ old); faulted = faulted }

-- all events of this client
abbrev pub AreBy : ℕ → List Event → Type 0
AreBy client more = AllByRecursion (λ e. author e ≡ client) more

-- the history where the window begins
pub history_at_start : (more old : History) → history_at (more ++ old) (length old) ≡ old
history_at_start more old = history_at_later old more (length old) (omega arith) ∙ history_at_end old

behind_start : (more old : History) → behind (length old) (more ++ old) ≡ more
behind_start more old =
    let size : length (more ++ old) - length old ≡ length more = omega (arith, length-append more old) in
    ap (λ n. take n (more ++ old)) size ∙ take-append_seam more old

within_added : (more old : History) → events_within (more ++ old) (length old) (length (more ++ old)) ≡ more
within_added more old = within_is_behind (more ++ old) (length old) ∙ behind_start more old

all_kept : (client : ℕ) (more : List Event) → AreBy client more → filter (λ e. nat_eq (author e) client) more ≡ more
all_kept client [] own = refl
all_kept client (e ∷ more) own =
    ap (λ b. cond b (e ∷ filter (λ x. nat_eq (author x) client) more) (filter (λ x. nat_eq (author x) client) more)) (eq-eqb (author e) client own.0)
    ∙ ap (λ es. e ∷ es) (all_kept client more own.1)

-- the own events are all events
pub own_is_all : (more old : History) (client : ℕ) (faulted : Bool) → AreBy client more → own_events (more ++ old) client (added more old faulted) ≡ reverse more
own_is_all more old client faulted own =
    ap (λ es. reverse (filter (λ e. nat_eq (author e) client) es)) (within_added more old) ∙ ap (λ es. reverse es) (all_kept client more own)

none_of_others : (client : ℕ) (more : List Event) → AreBy client more → list_any (λ e. not (nat_eq (author e) client)) more ≡ false
none_of_others client [] own = refl
none_of_others client (e ∷ more) own =
    or_from (not (nat_eq (author e) client)) (list_any (λ x. not (nat_eq (author x) client)) more) (ap not (eq-eqb (author e) client own.0)) (none_of_others client more own.1)

-- an event of the window is of the client
pub own_at : (more old : History) (client n : ℕ) (e : Event) → AreBy client more → length old < n → n ≤ length (more ++ old) → event_at (more ++ old) n ≡ Some e → author e ≡ client
own_at more old client n e own after before at =
    let none : list_any (λ x. not (nat_eq (author x) client)) (behind (length old) (more ++ old)) ≡ false =
    ap (list_any (λ x. not (nat_eq (author x) client))) (behind_start more old) ∙ none_of_others client more own in
    let here : not (nat_eq (author e) client) ≡ false = none_at (λ x. not (nat_eq (author x) client)) (more ++ old) (length old) n e none after before at in
    eqb-true (author e) client (of_not (nat_eq (author e) client) here)
  where
    of_not : (b : Bool) → not b ≡ false → b ≡ true
    of_not true f = refl
    of_not false f = absurd (true≢false f)

none_counted : (client : ℕ) (symbol : Name) (more : List Event) → AreBy client more → count_by (λ e. refers symbol e && not (nat_eq (author e) client)) more ≡ 0
none_counted client symbol [] own = refl
none_counted client symbol (e ∷ more) own =
    let own_one : (refers symbol e && not (nat_eq (author e) client)) ≡ false = and_right (refers symbol e) (not (nat_eq (author e) client)) (ap not (eq-eqb (author e) client own.0)) in
    let one : cond {A = ℕ} (refers symbol e && not (nat_eq (author e) client)) 1 0 ≡ 0 = ap (λ b. cond b 1 0) own_one in
    omega (arith, count_by-cons (λ x. refers symbol x && not (nat_eq (author x) client)) e more, one, none_counted client symbol more own.1)

-- no Refer of others stands there
pub none_met : (more old : History) (client : ℕ) (symbol : Name) (faulted : Bool) → AreBy client more → refers_by_others (more ++ old) client symbol (added more old faulted) ≡ 0
none_met more old client symbol faulted own =
    ap (count_by (λ e. refers symbol e && not (nat_eq (author e) client))) (within_added more old) ∙ none_counted client symbol more own

-- ---- puts change nothing that the library tells

-- an event that changes what the library tells, or is a Refer
abbrev pub tells : Event → Bool
tells (events.Put client key body) = same_kind key.kind kinds.Staged
tells (events.Drop client key) = false
tells e = true

telling_nothing : (symbol : Name) (e : Event) → tells e ≡ false → touches symbol e ≡ false
telling_nothing symbol (events.Put client key body) t = not_first (same_kind key.kind kinds.Staged) (same_name key.name symbol) t
telling_nothing symbol (events.Drop client key) t = refl
telling_nothing symbol (events.Refer client s was entry list) t = absurd (true≢false t)
telling_nothing symbol (events.Name client snap body) t = absurd (true≢false t)
telling_nothing symbol (events.Unname client snap) t = absurd (true≢false t)

-- the library tells the same in both histories, and no own Refer stands behind the first
pub record IsKept (client : ℕ) (old before : History) : Type 0 where
  pub states : (symbol : Name) → state_of before symbol ≡ state_of old symbol
  pub symbols : symbols_of before ≡ symbols_of old
  pub snapshots : snapshots_of before ≡ snapshots_of old
  pub refers : refer_places client (length old) before ≡ []
  pub later : length old ≤ length before

-- no place of a history lies behind its end
pub none_behind : (client start : ℕ) (h : History) → length h ≤ start → refer_places client start h ≡ []
none_behind client start [] le = refl
none_behind client start (events.Refer c s was entry list ∷ h) le =
    let early : nat_le start (length h) ≡ false = lt-leb start (length h) (omega (arith, le)) in
    ap (λ b. cond b (refer_places client start h ++ suc (length h) ∷ []) (refer_places client start h)) (and_right (nat_eq c client) (nat_le start (length h)) early)
    ∙ none_behind client start h (omega (arith, le))
none_behind client start (events.Put c key body ∷ h) le = none_behind client start h (omega (arith, le))
none_behind client start (events.Name c snap body ∷ h) le = none_behind client start h (omega (arith, le))
none_behind client start (events.Unname c snap ∷ h) le = none_behind client start h (omega (arith, le))
none_behind client start (events.Drop c key ∷ h) le = none_behind client start h (omega (arith, le))

kept_one : (client : ℕ) (old before : History) (e : Event) → tells e ≡ false → IsKept client old before → IsKept client old (e ∷ before)
kept_one client old before (events.Put c key body) t k = record {
  states = λ symbol. untouched symbol (events.Put c key body) before (telling_nothing symbol (events.Put c key body) t) ∙ k.states symbol;
  symbols = k.symbols;
  snapshots = k.snapshots;
  refers = k.refers;
  later = omega (arith, k.later);
}
kept_one client old before (events.Drop c key) t k = record { states = k.states; symbols = k.symbols; snapshots = k.snapshots; refers = k.refers; later = omega (arith, k.later) }
kept_one client old before (events.Refer c s was entry list) t k = absurd (true≢false t)
kept_one client old before (events.Name c snap body) t k = absurd (true≢false t)
kept_one client old before (events.Unname c snap) t k = absurd (true≢false t)

-- events that tell nothing keep all
pub kept_behind : (client : ℕ) (old : History) (more : List Event) → list_any tells more ≡ false → IsKept client old (more ++ old)
kept_behind client old [] none = record { states = λ symbol. refl; symbols = refl; snapshots = refl; refers = none_behind client (length old) old (omega arith); later = omega arith }
kept_behind client old (e ∷ more) none = let parts = or_parts (tells e) (list_any tells more) none in kept_one client old (more ++ old) e parts.0 (kept_behind client old more parts.1)

-- puts that change no versions tell nothing
puts_tell_nothing : (client : ℕ) (puts : List (Key × Bytes)) → list_any harms (map (put_of client) puts) ≡ false → list_any tells (map (put_of client) puts) ≡ false
puts_tell_nothing client [] none = refl
puts_tell_nothing client (p ∷ puts) none =
    let parts = or_parts (harms (put_of client p)) (list_any harms (map (put_of client) puts)) none in
    or_from (tells (put_of client p)) (list_any tells (map (put_of client) puts)) parts.0 (puts_tell_nothing client puts parts.1)

-- ---- a turn without events of others

-- the window's last event is the Refer, and the events before it are a try's puts, which tell nothing
pub record Commits (client : ℕ) (symbol : Name) (makes : Bool) (old h : History) : Type 0 where
  pub behind : History
  pub was : Option Key
  pub entry : Key
  pub list : List Change
  pub is : h ≡ events.Refer client symbol was entry list ∷ (behind ++ old)
  pub kept : IsKept client old (behind ++ old)
  pub puts : PutsKeys symbol makes entry behind

accepted_commits : (more old : History) (client : ℕ) (symbol : Name) (makes : Bool) → IsAccepted client symbol makes AnyMarks (reverse more) → Commits client symbol makes old (more ++ old)
accepted_commits more old client symbol makes a =
    let behind : List Event = reverse (map (put_of client) a.0) in
    let is_refer : more ≡ events.Refer client symbol a.1 a.2 a.3 ∷ behind =
    sym (reverse-reverse more) ∙ (ap (λ es. reverse es) a.6 ∙ reverse-append (map (put_of client) a.0) (events.Refer client symbol a.1 a.2 a.3 ∷ [])) in
    record {
      behind = behind;
      was = a.1;
      entry = a.2;
      list = a.3;
      is = ap (λ es. es ++ old) is_refer;
      kept = kept_behind client old behind (reversed_none tells (map (put_of client) a.0) (puts_tell_nothing client a.0 (try_harms_nothing client symbol makes a.0 a.2 a.4)));
      puts = try_puts client symbol makes a.0 a.2 a.4;
    }

no_tries : (tries : List (List Event)) (n : ℕ) → length tries ≤ n → n ≡ 0 → tries ≡ []
no_tries [] n few none = refl
no_tries (t ∷ tries) n few none = absurd (omega (arith, few, none))

-- no own events are no events
pub none_added : (more : List Event) → reverse more ≡ [] → more ≡ []
none_added more none = sym (reverse-reverse more) ∙ ap (λ es. reverse es) none

-- a turn is a commit, or nothing
pub turn_commits : {told : Bool} (more old : History) (s : Session) (symbol : Name) (makes done : Bool) (faulted : Bool) → AreBy s.client more
    → IsTurn (more ++ old) s (added more old faulted) symbol makes done told AnyMarks (own_events (more ++ old) s.client (added more old faulted))
    → MatchBool done (Commits s.client symbol makes old (more ++ old)) (more ≡ [])
turn_commits more old s symbol makes done faulted own t =
    let alone : t.tries ≡ [] = no_tries t.tries (refers_by_others (more ++ old) s.client symbol (added more old faulted)) t.met (none_met more old s.client symbol faulted own) in
    let last : t.last ≡ reverse more = sym (ap (λ ts. flat_map (λ u. u) ts ++ t.last) alone) ∙ (sym t.is ∙ own_is_all more old s.client faulted own) in
    ends done t.last last t.ends
  where
    ends : (d : Bool) (es : List Event) → es ≡ reverse more → MatchBool d (IsAccepted s.client symbol makes AnyMarks es) (es ≡ []) → MatchBool d (Commits s.client symbol makes old (more ++ old)) (more ≡ [])
    ends true es is a = accepted_commits more old s.client symbol makes (subst (λ xs. IsAccepted s.client symbol makes AnyMarks xs) is a)
    ends false es is none = none_added more (sym is ∙ none)
