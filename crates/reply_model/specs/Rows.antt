-- The clauses of the outcomes that are Ok, but for Freed.
--     IsAnswer             the one-thread library's answer at the place, or just before the commit
--     IsStagedAt, keys_outcome, AreSymbolRows, IsKeptAt, IsUnkeptAt      the outcomes that have a clause of their own
use Rattle.std.specs.Prelude.{◌≡◌, ◌⊎◌, ℕ, ◌-◌, ◌<◌, ◌≤◌, true, ◌&&◌, List, [], ◌∷◌, map, count_by, Option, Some, None, Ok, ⊤, Contains, option_map}
use Rattle.std.specs.List.{list_any, AllByRecursion}
use Rattle.key_kind.specs.declared.key.KeyKind.{KeyKind}
use Rattle.key_kind.specs.declared.key.KeyKind.TheVariants as kinds
use Rattle.key_kind.specs.declared.key.Key.{Key}
use Rattle.key_kind.specs.declared.key.Holder.{Holder}
use Rattle.key_kind.specs.Names.{Name, same_name}
use Rattle.key_kind.specs.Keys.{same_kind}
use Rattle.bucket_core.specs.declared.event.Change.{Change}
use Rattle.bucket_core.specs.declared.event.Change.TheVariants as changes
use Rattle.bucket_core.specs.declared.event.Event.{Event}
use Rattle.bucket_core.specs.declared.event.Event.TheVariants as events
use Rattle.bucket_core.specs.History.{History, Bytes, stored_keys, history_at, event_at}
use Rattle.store_model.specs.declared.snapshot.SnapRow.{SnapRow}
use Rattle.store_model.specs.declared.snapshot.SnapBody.{SnapBody}
use Rattle.store_model.specs.ChainText.{snap_of}
use Rattle.store_model.specs.Library.{Version, state_of, base_of}
use Rattle.store_model.specs.Snapshots.{snap_body}
use Rattle.expr_clause.specs.declared.command.Pick.{Pick}
use Rattle.reply_model.specs.declared.outcome.HeldAt.{HeldAt}
use Rattle.reply_model.specs.declared.outcome.SymbolRow.{SymbolRow}
use Rattle.expr_clause.specs.declared.command.Command.{Command}
use Rattle.reply_model.specs.declared.outcome.Outcome.{Outcome}
use Rattle.reply_model.specs.declared.outcome.Outcome.TheVariants as outcomes
use Rattle.reply_model.specs.declared.reply.Reply.{Reply}
use Rattle.reply_model.specs.Answering.{Session}
use Rattle.reply_model.specs.Answers.{answer}
use Rattle.reply_model.specs.Windows.{Window, Client, library_at, symbol_of, picked_version, asked_of, listed_at, IsReferAt}
use Rattle.reply_model.specs.OwnEvents.{IsStaging}
use Rattle.reply_model.specs.Causes.{IsHeldAt, WasEmptyWithin}

-- the one-thread library's answer, without changes at the place, and then without a commit; or with changes, just before the one Refer that makes them
abbrev pub IsAnswer : History → Client → Command → Reply → Type 0
IsAnswer h client c reply =
    ((answer client.session (library_at h (listed_at reply)) (library_at h reply.place) reply.place c ≡ Some (record { outcome = reply.outcome; marks = [] })) × (reply.commits ≡ []))
    ⊎ ((first : Change) × (rest : List Change) × (symbol : Name)
    × (answer client.session (library_at h (listed_at reply)) (library_at h (reply.place - 1)) (reply.place - 1) c ≡ Some (record { outcome = reply.outcome; marks = first ∷ rest }))
    × (symbol_of c ≡ Some symbol) × IsReferAt h client.session.client symbol (first ∷ rest) reply.place × (reply.commits ≡ reply.place ∷ []))

-- Staged: event p is the client's Put of this frame as a piece of the symbol, in the window
pub record IsStagedAt (h : History) (s : Session) (symbol : Name) (frame : ℕ) (reply : Reply) (w : Window) : Type 0 where
  pub inside : w.start < reply.place
  pub event : Event
  pub at : event_at h reply.place ≡ Some event
  pub staging : IsStaging s symbol frame (event ∷ [])

-- Keys: how many of the symbol's keys are stored, of each kind
abbrev pub keys_of : History → Name → KeyKind → ℕ
keys_of h symbol kind = count_by (λ (k : Key). same_kind k.kind kind && same_name k.name symbol) (stored_keys h)

-- all the numbers
abbrev pub keys_outcome : History → Name → Outcome
keys_outcome h symbol = outcomes.Keys (keys_of h symbol kinds.TableData) (keys_of h symbol kinds.TableIndex) (keys_of h symbol kinds.Version) (keys_of h symbol kinds.VersionRef) (keys_of h symbol kinds.Staged)

-- the number of a version, if there is one
abbrev pub number_of : Option Version → Option ℕ
number_of v = option_map (λ (x : Version). x.number) v

-- Symbols: each row has its base at its own place, from the list to the window's end
abbrev pub IsSymbolRow : History → ℕ → ℕ → Name → SymbolRow → Type 0
IsSymbolRow h p stop symbol r =
    (r.symbol ≡ symbol) × (p ≤ r.place) × (r.place ≤ stop) × (r.newest ≡ number_of (base_of (state_of (history_at h r.place) symbol)))

-- one row for each of these symbols
abbrev pub AreSymbolRows : History → ℕ → ℕ → List Name → List SymbolRow → Type 0
AreSymbolRows h p stop [] [] = ⊤
AreSymbolRows h p stop [] (r ∷ rows) = ⊥
AreSymbolRows h p stop (s ∷ symbols) [] = ⊥
AreSymbolRows h p stop (s ∷ symbols) (r ∷ rows) = IsSymbolRow h p stop s r × AreSymbolRows h p stop symbols rows

-- ---- snapshots

-- with a list each held symbol had a reference there, and each symbol with one is held or was empty on the way; without, the asked ones are held
abbrev pub HoldsAsked : History → List Pick → List HeldAt → Option ℕ → ℕ → Type 0
HoldsAsked h picks held None p = (picks ≡ [] → ⊥) × ((symbol : Name) → list_any (λ (r : HeldAt). same_name r.symbol symbol) held ≡ list_any (λ (q : Pick). same_name q.symbol symbol) picks)
HoldsAsked h picks held (Some listed) p =
    (picks ≡ []) × AllByRecursion (λ (r : HeldAt). (state_of (history_at h listed) r.symbol).has_reference ≡ true) held
    × ((symbol : Name) → (state_of (history_at h listed) symbol).has_reference ≡ true
    → (list_any (λ (r : HeldAt). same_name r.symbol symbol) held ≡ true) ⊎ WasEmptyWithin h symbol listed p)

-- Kept: event p is the Name of this snapshot, in the window, over exactly the held rows, whose Holds are all the commits
pub record IsKeptAt (h : History) (client : ℕ) (snap : Name) (picks : List Pick) (held : List HeldAt) (reply : Reply) (w : Window) : Type 0 where
  pub inside : w.start < reply.place
  pub body : Bytes
  pub snapshot : SnapBody
  pub event : event_at h reply.place ≡ Some (events.Name client snap body)
  pub spelled : snap_of body ≡ Ok snapshot
  pub rows : map {B = Name × ℕ} (λ (r : SnapRow). (r.symbol, r.version)) snapshot.rows ≡ map (λ (r : HeldAt). (r.symbol, r.version)) held
  pub each : AllByRecursion (IsHeldAt h client snapshot.holder picks w) held
  pub counted : reply.commits ≡ map (λ (r : HeldAt). r.place) held
  pub asked : HoldsAsked h picks held reply.listed reply.place

-- an own Refer of the symbol in the window releases the holder
abbrev pub ReleasedWithin : History → ℕ → Name → Holder → Window → Type 0
ReleasedWithin h client symbol holder w = (q : ℕ) × (w.start < q) × (q ≤ w.stop) × IsReferAt h client symbol (changes.Released holder ∷ []) q

-- Unkept: event p is the Unname of this snapshot, in the window; each of its symbols is released, or is left
pub record IsUnkeptAt (h : History) (client : ℕ) (snap : Name) (reply : Reply) (w : Window) : Type 0 where
  pub inside : w.start < reply.place
  pub event : event_at h reply.place ≡ Some (events.Unname client snap)
  pub snapshot : SnapBody
  pub stood : snap_body (history_at h (reply.place - 1)) snap ≡ Some snapshot
  pub each : AllByRecursion (λ (r : SnapRow). ReleasedWithin h client r.symbol snapshot.holder w ⊎ Contains reply.left r.symbol) snapshot.rows
