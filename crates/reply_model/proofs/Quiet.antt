-- Between two places of a window in which others do not name a symbol, and in which own events neither refer it nor stage, its state
-- stays the same.
use Rattle.std.proofs.Common.{◌≡◌, ℕ, ◌≤◌, ◌<◌, Bool, true, false, List, [], ◌∷◌, ◌++◌, map, length, Some, refl, sym, ◌∙◌, ap, subst, arith, cond, fold}
use Rattle.std.specs.Prelude.{◌&&◌, not, MatchBool, nat_eq}
use Rattle.std.specs.List.{list_any, flat_map}
use Rattle.std.proofs.lemmas.Bool.{true≢false, or_parts, or_from, eqb-true}
use Rattle.byte_fields.specs.Reading.{read_of}
use Rattle.segment_bytes.specs.Segments.{segment_of}
use Rattle.key_kind.specs.declared.key.KeyKind.TheVariants as kinds
use Rattle.key_kind.specs.Names.{Name, same_name}
use Rattle.key_kind.specs.Keys.{same_kind}
use Rattle.bucket_core.specs.declared.event.Change.{Change}
use Rattle.bucket_core.specs.declared.event.Event.{Event}
use Rattle.bucket_core.specs.declared.event.Event.TheVariants as events
use Rattle.bucket_core.specs.History.{History, author, event_at, history_at, events_within}
use Rattle.bucket_core.specs.Laws.{refers}
use Rattle.store_model.specs.Library.{State, state_of, after_change, after_changes, piece_of}
use Rattle.expr_clause.specs.declared.command.Command.{Command}
use Rattle.reply_model.specs.declared.reply.Reply.{Reply}
use Rattle.reply_model.specs.Answering.{Session}
use Rattle.reply_model.specs.Windows.{Window, own_events}
use Rattle.reply_model.specs.Tries.{put_of, IsAccepted, IsTurn}
use Rattle.reply_model.specs.Kinds.{Kind, kind_of, Makes, Finalizes, Buries, Discards, Reads}
use Rattle.reply_model.specs.OwnEvents.{IsOwnOf, AnyMarks, IsOwn}
use Rattle.reply_model.specs.Runs.{names_symbol, harms, IsAlone}
use Rattle.reply_model.proofs.Harmless.{tries_harm_nothing, try_harms_nothing}
use Rattle.reply_model.proofs.Places.{same_between, behind, within_is_behind, none_at, none_own_at}

-- ---- which events change a symbol's state

-- the Put of a piece, of any symbol, and of this one
abbrev pub stages : Event → Bool
stages (events.Put client key body) = same_kind key.kind kinds.Staged
stages e = false

abbrev pub stages_of : Name → Event → Bool
stages_of symbol (events.Put client key body) = same_kind key.kind kinds.Staged && same_name key.name symbol
stages_of symbol e = false

-- an event that changes the symbol's state
abbrev pub touches : Name → Event → Bool
touches symbol (events.Put client key body) = same_kind key.kind kinds.Staged && same_name key.name symbol
touches symbol (events.Refer client s was entry list) = same_name s symbol
touches symbol e = false

pub untouched : (symbol : Name) (e : Event) (h : History) → touches symbol e ≡ false → state_of (e ∷ h) symbol ≡ state_of h symbol
untouched symbol (events.Put client key body) h still =
    ap (λ b. record (state_of h symbol) { staged = cond b (piece_of key (read_of (segment_of body))) [] ++ (state_of h symbol).staged }) still
untouched symbol (events.Refer client s was entry list) h still = ap (λ b. cond b (after_changes (state_of h symbol) list) (state_of h symbol)) still
untouched symbol (events.Name client snap body) h still = refl
untouched symbol (events.Unname client snap) h still = refl
untouched symbol (events.Drop client key) h still = refl

-- a Refer stages nothing
staged_same : (list : List Change) (st : State) → (fold after_change st list).staged ≡ st.staged
staged_same [] st = refl
staged_same (c ∷ list) st = staged_same list (after_change st c)

unstaged : (symbol : Name) (e : Event) (h : History) → stages_of symbol e ≡ false → (state_of (e ∷ h) symbol).staged ≡ (state_of h symbol).staged
unstaged symbol (events.Put client key body) h still = ap (λ b. cond b (piece_of key (read_of (segment_of body))) [] ++ (state_of h symbol).staged) still
unstaged symbol (events.Refer client s was entry list) h still =
    elim (same_name s symbol) as (λ b. (cond b (after_changes (state_of h symbol) list) (state_of h symbol)).staged ≡ (state_of h symbol).staged) [
      | true ↦ staged_same list (state_of h symbol)
      | false ↦ refl
    ]
unstaged symbol (events.Name client snap body) h still = refl
unstaged symbol (events.Unname client snap) h still = refl
unstaged symbol (events.Drop client key) h still = refl

-- a test that does not pass does not pass with another
pub not_with : (a b : Bool) → b ≡ false → (a && b) ≡ false
not_with true b e = e
not_with false b e = refl

pub not_first : (a b : Bool) → a ≡ false → (a && b) ≡ false
not_first a b e = ap (λ x. x && b) e

-- an event that does not name the symbol does not change its state
unnamed_untouched : (symbol : Name) (e : Event) → names_symbol symbol e ≡ false → touches symbol e ≡ false
unnamed_untouched symbol (events.Put client key body) u = not_with (same_kind key.kind kinds.Staged) (same_name key.name symbol) u
unnamed_untouched symbol (events.Refer client s was entry list) u = u
unnamed_untouched symbol (events.Name client snap body) u = refl
unnamed_untouched symbol (events.Unname client snap) u = refl
unnamed_untouched symbol (events.Drop client key) u = refl

unnamed_unstaged : (symbol : Name) (e : Event) → names_symbol symbol e ≡ false → stages_of symbol e ≡ false
unnamed_unstaged symbol (events.Put client key body) u = not_with (same_kind key.kind kinds.Staged) (same_name key.name symbol) u
unnamed_unstaged symbol (events.Refer client s was entry list) u = refl
unnamed_unstaged symbol (events.Name client snap body) u = refl
unnamed_unstaged symbol (events.Unname client snap) u = refl
unnamed_unstaged symbol (events.Drop client key) u = refl

-- nor does one that neither refers the symbol nor stages
quiet_untouched : (symbol : Name) (e : Event) → refers symbol e ≡ false → stages e ≡ false → touches symbol e ≡ false
quiet_untouched symbol (events.Put client key body) r q = not_first (same_kind key.kind kinds.Staged) (same_name key.name symbol) q
quiet_untouched symbol (events.Refer client s was entry list) r q = r
quiet_untouched symbol (events.Name client snap body) r q = refl
quiet_untouched symbol (events.Unname client snap) r q = refl
quiet_untouched symbol (events.Drop client key) r q = refl

quiet_unstaged : (symbol : Name) (e : Event) → stages e ≡ false → stages_of symbol e ≡ false
quiet_unstaged symbol (events.Put client key body) q = not_first (same_kind key.kind kinds.Staged) (same_name key.name symbol) q
quiet_unstaged symbol (events.Refer client s was entry list) q = refl
quiet_unstaged symbol (events.Name client snap body) q = refl
quiet_unstaged symbol (events.Unname client snap) q = refl
quiet_unstaged symbol (events.Drop client key) q = refl

-- ---- the state between two places of a window

-- what is known of a window that ends with the history: others do not name the symbol, and own events stage nothing
pub record Quiet (h : History) (client : ℕ) (symbol : Name) (w : Window) : Type 0 where
  pub ends : w.stop ≡ length h
  pub alone : IsAlone h client symbol w
  pub own : list_any stages (own_events h client w) ≡ false

-- an event of another does not name the symbol
pub others_unnamed : (h : History) (client : ℕ) (symbol : Name) (w : Window) → w.stop ≡ length h → IsAlone h client symbol w → (n : ℕ) (e : Event) → w.start < n → n ≤ length h → event_at h n ≡ Some e
    → nat_eq (author e) client ≡ false → names_symbol symbol e ≡ false
others_unnamed h client symbol w ends alone n e after before at other =
    let none : list_any (λ x. names_symbol symbol x && not (nat_eq (author x) client)) (behind w.start h) ≡ false =
    subst (λ xs. list_any (λ x. names_symbol symbol x && not (nat_eq (author x) client)) xs ≡ false) (ap (events_within h w.start) ends ∙ within_is_behind h w.start) alone in
    let both = none_at (λ x. names_symbol symbol x && not (nat_eq (author x) client)) h w.start n e none after before at in
    elim (names_symbol symbol e) as (λ b. (b && not (nat_eq (author e) client)) ≡ false → b ≡ false) [
      | true ↦ λ f. absurd (true≢false (sym (ap not other) ∙ f))
      | false ↦ λ f. refl
    ] both

-- where no own event up to a place refers the symbol, its state is that of the window's beginning
pub state_kept : (h : History) (client : ℕ) (symbol : Name) (w : Window) (q : ℕ) → Quiet h client symbol w → w.start ≤ q → q ≤ length h
    → ((n : ℕ) (e : Event) → w.start < n → n ≤ q → event_at h n ≡ Some e → author e ≡ client → refers symbol e ≡ false)
    → state_of (history_at h q) symbol ≡ state_of (history_at h w.start) symbol
state_kept h client symbol w q quiet first last own_refers =
    same_between (λ g. state_of g symbol) (touches symbol) (untouched symbol) h w.start q first last (λ n e after before at.
    elim (nat_eq (author e) client) as (λ b. nat_eq (author e) client ≡ b → touches symbol e ≡ false) [
      | true ↦ λ own. quiet_untouched symbol e (own_refers n e after before at (eqb-true (author e) client own))
          (none_own_at stages h client w n e quiet.ends quiet.own (eqb-true (author e) client own) after (omega (arith, before, last)) at)
      | false ↦ λ other. unnamed_untouched symbol e (others_unnamed h client symbol w quiet.ends quiet.alone n e after (omega (arith, before, last)) at other)
    ] refl)

-- its staged pieces are those of the window's beginning
pub staged_kept : (h : History) (client : ℕ) (symbol : Name) (w : Window) (q : ℕ) → Quiet h client symbol w → w.start ≤ q → q ≤ length h
    → (state_of (history_at h q) symbol).staged ≡ (state_of (history_at h w.start) symbol).staged
staged_kept h client symbol w q quiet first last =
    same_between (λ g. (state_of g symbol).staged) (stages_of symbol) (unstaged symbol) h w.start q first last (λ n e after before at.
    elim (nat_eq (author e) client) as (λ b. nat_eq (author e) client ≡ b → stages_of symbol e ≡ false) [
      | true ↦ λ own. quiet_unstaged symbol e (none_own_at stages h client w n e quiet.ends quiet.own (eqb-true (author e) client own) after (omega (arith, before, last)) at)
      | false ↦ λ other. unnamed_unstaged symbol e (others_unnamed h client symbol w quiet.ends quiet.alone n e after (omega (arith, before, last)) at other)
    ] refl)

-- ---- own events

-- what changes nothing stages nothing
harmless_stages : (xs : List Event) → list_any harms xs ≡ false → list_any stages xs ≡ false
harmless_stages [] e = refl
harmless_stages (x ∷ xs) e = let r = or_parts (harms x) (list_any harms xs) e in or_from (stages x) (list_any stages xs) (of_one x r.0) (harmless_stages xs r.1)
  where
    of_one : (x : Event) → harms x ≡ false → stages x ≡ false
    of_one (events.Put client key body) f = f
    of_one (events.Refer client s was entry list) f = refl
    of_one (events.Name client snap body) f = refl
    of_one (events.Unname client snap) f = refl
    of_one (events.Drop client key) f = refl

none_of_both : (xs ys : List Event) → list_any stages xs ≡ false → list_any stages ys ≡ false → list_any stages (xs ++ ys) ≡ false
none_of_both [] ys e f = f
none_of_both (x ∷ xs) ys e f = let r = or_parts (stages x) (list_any stages xs) e in or_from (stages x) (list_any stages (xs ++ ys)) r.0 (none_of_both xs ys r.1 f)

-- a turn stages nothing
turn_stages_nothing : {told : Bool} (h : History) (s : Session) (w : Window) (symbol : Name) (makes done : Bool) (es : List Event) → IsTurn h s w symbol makes done told AnyMarks es → list_any stages es ≡ false
turn_stages_nothing h s w symbol makes done es t = ap (list_any stages) t.is
    ∙ none_of_both (flat_map (λ u. u) t.tries) t.last (harmless_stages (flat_map (λ u. u) t.tries) (tries_harm_nothing s.client symbol makes t.tries t.refused)) (last_stages done t.last t.ends)
  where
    last_stages : (d : Bool) (last : List Event) → MatchBool d (IsAccepted s.client symbol makes AnyMarks last) (last ≡ []) → list_any stages last ≡ false
    last_stages false last e = ap (list_any stages) e
    last_stages true last a = ap (list_any stages) a.6
        ∙ none_of_both (map (put_of s.client) a.0) (events.Refer s.client symbol a.1 a.2 a.3 ∷ []) (harmless_stages (map (put_of s.client) a.0) (try_harms_nothing s.client symbol makes a.0 a.2 a.4)) refl

-- the commands whose answer is a function of the symbol's state, but for stage
abbrev pub is_plain_of : Kind → Bool
is_plain_of (Makes symbol) = true
is_plain_of (Finalizes symbol) = true
is_plain_of (Buries symbol burial) = true
is_plain_of (Discards symbol) = true
is_plain_of (Reads symbol) = true
is_plain_of k = false

abbrev pub is_plain : Command → Bool
is_plain c = is_plain_of (kind_of c)

own_stages_none : (h : History) (s : Session) (w : Window) (k : Kind) (reply : Reply) (done : Bool) (es : List Event) → is_plain_of k ≡ true → IsOwnOf h s w k reply done es → list_any stages es ≡ false
own_stages_none h s w (Makes symbol) reply done es p o = turn_stages_nothing h s w symbol true done es o
own_stages_none h s w (Finalizes symbol) reply done es p o = turn_stages_nothing h s w symbol true done es o
own_stages_none h s w (Buries symbol burial) reply done es p o = turn_stages_nothing h s w symbol false done es o
own_stages_none h s w (Discards symbol) reply done es p o = turn_stages_nothing h s w symbol false done es o
own_stages_none h s w (Reads symbol) reply done es p o = ap (list_any stages) o
own_stages_none h s w k reply done es p o = absurd (true≢false (sym p))

pub own_stages_nothing : (h : History) (s : Session) (w : Window) (c : Command) (reply : Reply) (done : Bool) (es : List Event) → is_plain c ≡ true → IsOwn h s w c reply done es → list_any stages es ≡ false
own_stages_nothing h s w c reply done es p o = own_stages_none h s w (kind_of c) reply done es p o
