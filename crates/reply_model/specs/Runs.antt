-- The replies of all clients of one run.
--     Talk, IsLegalTalk    the commands of one client, its replies, and the windows that are shown
--     AllCovered, AllApart      each event lies in one window of its own client
--     IsLegalRun           the first commands, the clients and the last commands
--     outcome_at, IsIsolated      what a command answers that is alone on its symbol
--     RefusedHarmsNothing, RefusedReleases      what a refused command leaves as it was
use Rattle.std.specs.Prelude.{◌≡◌, ◌⊎◌, ⊤, ℕ, ◌<◌, ◌≤◌, Bool, true, false, ◌&&◌, not, List, [], ◌∷◌, length, max, Option, Some, nat_eq, nat_lt, nat_le, Any, option_map}
use Rattle.std.specs.List.{list_any, AllByRecursion}
use Rattle.key_kind.specs.Names.{Name, same_name}
use Rattle.key_kind.specs.declared.key.KeyKind.TheVariants as kinds
use Rattle.key_kind.specs.declared.key.Holder.{Holder}
use Rattle.key_kind.specs.Keys.{same_kind, same_holder}
use Rattle.bucket_core.specs.declared.event.Change.{Change}
use Rattle.bucket_core.specs.declared.event.Change.TheVariants as changes
use Rattle.bucket_core.specs.declared.event.Event.{Event}
use Rattle.bucket_core.specs.declared.event.Event.TheVariants as events
use Rattle.bucket_core.specs.History.{History, author, event_at, history_at, events_within}
use Rattle.expr_clause.specs.declared.command.AsOf.TheVariants as moments
use Rattle.expr_clause.specs.declared.command.Pick.{Pick}
use Rattle.expr_clause.specs.declared.command.Command.{Command}
use Rattle.expr_clause.specs.declared.command.Command.TheVariants as commands
use Rattle.store_model.specs.Law.{IsLawful}
use Rattle.reply_model.specs.declared.outcome.Outcome.{Outcome}
use Rattle.reply_model.specs.declared.reply.Reply.{Reply}
use Rattle.reply_model.specs.Answering.{Session, Answer}
use Rattle.reply_model.specs.Answers.{answer}
use Rattle.reply_model.specs.Windows.{Window, Client, library_at, own_events, symbol_of, is_refused, is_cut, is_store_fault}
use Rattle.reply_model.specs.OwnEvents.{HasOwnEvents}
use Rattle.reply_model.specs.Left.{releases, HasLeft}
use Rattle.reply_model.specs.Drops.{reclaim_outcome}
use Rattle.reply_model.specs.Rows.{keys_outcome}
use Rattle.reply_model.specs.Legal.{LegalFrom, IsLegalReply}

-- the place lies in one of the windows
abbrev pub is_covered : List Window → ℕ → Bool
is_covered windows n = list_any (λ (w : Window). nat_lt w.start n && nat_le n w.stop) windows

-- where the last window ends
abbrev pub end_of : ℕ → List Window → ℕ
end_of from [] = from
end_of from (w ∷ windows) = end_of w.stop windows

-- the commands of one client, with its replies and windows
pub record Talk : Type 0 where
  pub client : Client
  pub commands : List Command
  pub replies : List Reply
  pub windows : List Window

-- the replies are legal for the windows that are shown, the first of which begins no earlier than a place
abbrev pub IsLegalTalk : History → ℕ → Talk → Type 0
IsLegalTalk h from t = LegalFrom h t.client from t.commands t.replies t.windows

-- no bucket failed
abbrev pub HasNoFault : Talk → Type 0
HasNoFault t = AllByRecursion (λ (w : Window). w.faulted ≡ false) t.windows

-- an event of the client lies in one of the windows
abbrev pub Covers : ℕ → Event → Talk → Type 0
Covers n e t = (t.client.session.client ≡ author e) × (is_covered t.windows n ≡ true)

-- each event after a place lies in a window of its own client
abbrev pub AllCovered : History → ℕ → List Talk → Type 0
AllCovered h from talks = (n : ℕ) (e : Event) → from < n → n ≤ length h → event_at h n ≡ Some e → Any (Covers n e) talks

-- the windows of two talks of one client do not overlap
abbrev pub AreApart : Talk → Talk → Type 0
AreApart s t = s.client.session.client ≡ t.client.session.client → AllByRecursion (λ (w : Window). AllByRecursion (λ (v : Window). (w.stop ≤ v.start) ⊎ (v.stop ≤ w.start)) t.windows) s.windows

-- those of each two talks
abbrev pub AllApart : List Talk → Type 0
AllApart [] = ⊤
AllApart (t ∷ talks) = AllByRecursion (AreApart t) talks × AllApart talks

-- the latest end of the clients' windows, and of the first ones
abbrev pub latest_end : ℕ → List Talk → ℕ
latest_end from [] = from
latest_end from (t ∷ talks) = max (end_of from t.windows) (latest_end from talks)

-- a run: the first commands; then the clients, whose windows begin no earlier than those of the first commands end; then the last commands, behind all clients
pub record IsLegalRun (h : History) (from : ℕ) (first : Talk) (clients : List Talk) (last : Talk) : Type 0 where
  pub first_legal : IsLegalTalk h from first
  pub clients_legal : AllByRecursion (IsLegalTalk h (end_of from first.windows)) clients
  pub last_legal : IsLegalTalk h (latest_end (end_of from first.windows) clients) last
  pub same_pass : last.client.session.client ≡ first.client.session.client
  pub covered : AllCovered h from (first ∷ last ∷ clients)
  pub apart : AllApart (first ∷ last ∷ clients)
  pub no_fault : AllByRecursion HasNoFault (first ∷ last ∷ clients)
  pub one_moment : AllByRecursion (λ (t : Talk). t.client.session.moment ≡ first.client.session.moment) (last ∷ clients)

-- ---- alone on its symbol

-- an event of another that names the symbol: a Put or a Drop of a key of it, or a Refer
abbrev pub names_symbol : Name → Event → Bool
names_symbol symbol (events.Put client key body) = same_name key.name symbol
names_symbol symbol (events.Refer client s was entry list) = same_name s symbol
names_symbol symbol (events.Drop client key) = same_name key.name symbol
names_symbol symbol e = false

-- no event of others in the window names the symbol
abbrev pub IsAlone : History → ℕ → Name → Window → Type 0
IsAlone h client symbol w = list_any (λ e. names_symbol symbol e && not (nat_eq (author e) client)) (events_within h w.start w.stop) ≡ false

-- a read by snapshot
abbrev pub reads_snapshot : Command → Bool
reads_snapshot (commands.Read symbol (moments.Snapshot snap) range columns clauses) = true
reads_snapshot c = false

-- what a command answers at a place: the counts of the keys stored there, of all and of dead ones, or else what the one-thread library answers
abbrev pub outcome_at : Session → History → ℕ → Command → Option Outcome
outcome_at s h place (commands.Keys symbol) = Some (keys_outcome (history_at h place) symbol)
outcome_at s h place (commands.Reclaim symbol) = Some (reclaim_outcome (history_at h place) symbol)
outcome_at s h place c = option_map (λ (a : Answer). a.outcome) (answer s (library_at h place) (library_at h place) place c)

-- of a reclaim the history is lawful, so that no key is put again that was dropped
abbrev pub IsLawfulFor : Command → History → Type 0
IsLawfulFor (commands.Reclaim symbol) h = IsLawful h
IsLawfulFor c h = ⊤

-- alone on its symbol a command answers what it would answer where its window begins
abbrev pub IsIsolated : History → Client → Command → Reply → Window → Type 0
IsIsolated h client c reply w = (symbol : Name) (o : Outcome) → symbol_of c ≡ Some symbol → reads_snapshot c ≡ false → is_cut reply.outcome ≡ false → IsAlone h client.session.client symbol w
    → IsLawfulFor c h → outcome_at client.session h w.start c ≡ Some o → reply.outcome ≡ o

-- each legal reply is isolated, in the history at its window's end
abbrev pub LegalIsIsolated : Type 0
LegalIsIsolated = (h : History) (client : Client) (c : Command) (reply : Reply) (w : Window) → IsLegalReply h client c reply w → IsIsolated (history_at h w.stop) client c reply w

-- ---- what a refused command leaves

-- one Hold or one Release
abbrev pub is_mark : List Change → Bool
is_mark (changes.Held holder version ∷ []) = true
is_mark (changes.Released holder ∷ []) = true
is_mark list = false

-- an event that changes versions, buried numbers or staged pieces: a Refer but of one Hold or Release, and the Put of a piece
abbrev pub harms : Event → Bool
harms (events.Put client key body) = same_kind key.kind kinds.Staged
harms (events.Refer client symbol was entry list) = not (is_mark list)
harms e = false

-- no own event of a refused command changes versions, buried numbers or staged pieces, StoreFault aside
abbrev pub RefusedHarmsNothing : Type 0
RefusedHarmsNothing = (h : History) (s : Session) (c : Command) (reply : Reply) (w : Window) → HasOwnEvents h s c reply w
    → is_refused reply.outcome ≡ true → is_store_fault reply.outcome ≡ false → list_any harms (own_events h s.client w) ≡ false

-- a Hold of this holder for this symbol
abbrev pub holds : Name → Holder → Event → Bool
holds symbol holder (events.Refer client s was entry (changes.Held other version ∷ [])) = same_name s symbol && same_holder other holder
holds symbol holder _ = false

-- each hold that a refused snapshot made it released again, or names as left, StoreFault aside
abbrev pub RefusedReleases : Type 0
RefusedReleases = (h : History) (s : Session) (snap : Name) (picks : List Pick) (reply : Reply) (w : Window) → HasLeft h s (commands.Snapshot snap picks) reply w
    → is_refused reply.outcome ≡ true → is_store_fault reply.outcome ≡ false → (symbol : Name) (holder : Holder) → list_any (holds symbol holder) (own_events h s.client w) ≡ true
    → (list_any (releases symbol holder) (own_events h s.client w) ≡ true) ⊎ (list_any (same_name symbol) reply.left ≡ true)
