-- The causes of refusals that are no answers of the one-thread library.
--     makes_version        whether a command makes a version
--     MakesAt              the command has a change of a symbol to make at a place
--     IsHeldAt             a row of a snapshot, held at its place
--     IsHoldMet, IsBeside  what a command did beside its met tries
--     IsMoved              each try met a Refer by another
--     IsVersionGone        a version that was read is buried, not held, and a key of it that the read gets is gone
--     IsSpent              the limit is reached, and an event was to be made
--     IsSnapshotRefusal    the refusals of a snapshot
use Rattle.std.specs.Prelude.{◌≡◌, ◌≢◌, ◌⊎◌, ℕ, ◌-◌, ◌<◌, ◌≤◌, Bool, true, false, List, [], ◌∷◌, Option, Some, None, Ok, ⊤, not, map, filter, Contains, Any, is_some, unwrap_or}
use Rattle.std.specs.List.{list_any, AllByRecursion}
use Rattle.frame_core.specs.declared.refusal.Asked.{Asked}
use Rattle.frame_core.specs.declared.refusal.Asked.TheVariants as asks
use Rattle.frame_core.specs.declared.refusal.Refusal.{Refusal}
use Rattle.frame_core.specs.declared.refusal.Refusal.TheVariants as refusals
use Rattle.frame_core.specs.Texts.{Text}
use Rattle.frame_core.specs.Frames.{Frame}
use Rattle.frame_core.specs.Ranges.{Range}
use Rattle.index_tree.specs.declared.index.Slot.{Slot}
use Rattle.index_tree.specs.Covering.{covers}
use Rattle.key_kind.specs.declared.key.Key.{Key}
use Rattle.key_kind.specs.declared.key.Holder.{Holder}
use Rattle.key_kind.specs.Names.{Name, name_before}
use Rattle.bucket_core.specs.declared.event.Change.TheVariants as changes
use Rattle.bucket_core.specs.declared.event.Event.{Event}
use Rattle.bucket_core.specs.declared.event.Event.TheVariants as events
use Rattle.bucket_core.specs.History.{History, author, stored, history_at, event_at, events_within}
use Rattle.store_model.specs.Library.{Version, state_of, base_of, is_buried, is_held}
use Rattle.store_model.specs.Snapshots.{snap_body}
use Rattle.store_model.specs.Links.{Linked, links}
use Rattle.bucket_core.specs.Laws.{refers}
use Rattle.expr_clause.specs.declared.command.AsOf.{AsOf}
use Rattle.expr_clause.specs.declared.command.AsOf.TheVariants as moments
use Rattle.expr_clause.specs.declared.command.Pick.{Pick}
use Rattle.expr_clause.specs.declared.command.Command.{Command}
use Rattle.expr_clause.specs.declared.command.Command.TheVariants as commands
use Rattle.reply_model.specs.declared.outcome.Outcome.TheVariants as outcomes
use Rattle.reply_model.specs.declared.outcome.HeldAt.{HeldAt}
use Rattle.reply_model.specs.declared.reply.Reply.{Reply}
use Rattle.reply_model.specs.Answering.{Answer}
use Rattle.reply_model.specs.Answers.{answer}
use Rattle.reply_model.specs.ReadAnswers.{read_version, ask, places_asked}
use Rattle.reply_model.specs.Windows.{Window, Client, library_at, own_events, symbol_of, picked_version, asked_of, has_none, refers_by_others, unnames, listed_at, IsReferAt}
use Rattle.reply_model.specs.Tries.{is_asked}
use Rattle.reply_model.specs.Kinds.{Kind, kind_of, kind_meets, kind_makes, Holds}
use Rattle.reply_model.specs.Moves.{own_between, AreMetTries}
use Rattle.reply_model.specs.Losses.{FindsGone}
use Rattle.reply_model.specs.OwnEvents.{holder_at}
use Rattle.reply_model.specs.Drops.{HasDeadKey}

-- the commands of which a try may meet another's Refer
abbrev pub may_meet : Command → Bool
may_meet c = kind_meets (kind_of c)

-- a symbol of which a try of the command may meet another's Refer: its own, or one that a snapshot was to hold
abbrev pub MeetsOn : History → Command → Reply → Name → Type 0
MeetsOn h (commands.Snapshot snap []) reply symbol = (state_of (history_at h (listed_at reply)) symbol).has_reference ≡ true
MeetsOn h (commands.Snapshot snap (p ∷ picks)) reply symbol = Any (λ (q : Pick). q.symbol ≡ symbol) (p ∷ picks)
MeetsOn h c reply symbol = (may_meet c ≡ true) × (symbol_of c ≡ Some symbol)

-- a snapshot that was read had an Unname in the window up to p
abbrev pub UnnamedUpTo : History → AsOf → ℕ → ℕ → Type 0
UnnamedUpTo h (moments.Snapshot snap) start p = list_any (unnames snap) (events_within h start p) ≡ true
UnnamedUpTo h _ start p = ⊤

-- a key that a read gets of a link of its version: that of its index; or, where the version has the asked columns, that of a tile whose stamps, from
-- the first to the last, meet the range and which has one of these columns, or the first ones where none is asked
abbrev pub IsReadKey : Frame → Range → Option (List Text) → Linked → Key → Type 0
IsReadKey frame range columns link key =
    (key ≡ link.row.index)
    ⊎ ((f : Frame) × (ask frame range columns ≡ Ok f) × Contains (map (λ (s : Slot). s.key) (filter (covers range (places_asked columns link.index)) link.index.slots)) key)

-- VersionGone: the version was read in the window; at p it is buried and not held, and a key of it that the read gets is gone
pub record IsVersionGone (h : History) (symbol : Name) (as_of : AsOf) (range : Range) (columns : Option (List Text)) (number p : ℕ) (w : Window) : Type 0 where
  pub read_at : ℕ
  pub from : w.start ≤ read_at
  pub to : read_at ≤ p
  pub version : Version
  pub read : read_version (library_at h read_at) symbol as_of ≡ Ok version
  pub number_is : version.number ≡ number
  pub buried : is_buried (state_of (history_at h p) symbol) number ≡ true
  pub released : is_held (state_of (history_at h p) symbol) number ≡ false
  pub link : Linked
  pub link_is : Contains (links (history_at h p) symbol) link
  pub link_number : link.row.version ≡ number
  pub key : Key
  pub read_key : IsReadKey version.frame range columns link key
  pub gone : stored (history_at h p) key ≡ None
  pub unnamed : UnnamedUpTo h as_of w.start p

-- an answer that makes an event
abbrev pub MarksAt : Option Answer → Type 0
MarksAt None = ⊥
MarksAt (Some a) = (a.marks ≡ [] → ⊥) ⊎ (a.outcome ≡ outcomes.Staged)

-- the command has an event to make at a place of the window up to p; pieces are those of the list that the reply names
abbrev pub HasToMake : History → Client → Command → Reply → ℕ → ℕ → Type 0
HasToMake h client (commands.Reclaim symbol) reply start p = (q : ℕ) × (start ≤ q) × (q ≤ p) × HasDeadKey (history_at h q) symbol
HasToMake h client (commands.DeleteSnapshot snap) reply start p = (q : ℕ) × (start ≤ q) × (q ≤ p) × (is_some (snap_body (history_at h q) snap) ≡ true)
HasToMake h client (commands.Snapshot snap picks) reply start p =
    ((q : ℕ) × (start ≤ q) × (q ≤ p) × (is_some (snap_body (history_at h q) snap) ≡ false))
    × ((q : ℕ) × (start ≤ q) × (q ≤ p) × (symbol : Name) × (is_asked picks symbol ≡ true) × (is_some (picked_version (state_of (history_at h q) symbol) (asked_of picks symbol)) ≡ true))
HasToMake h client c reply start p =
    (q : ℕ) × (start ≤ q) × (q ≤ p) × MarksAt (answer client.session (library_at h (unwrap_or reply.listed q)) (library_at h q) q c)

-- ---- what a command makes

-- the command makes a version
abbrev pub makes_version : Command → Bool
makes_version c = kind_makes (kind_of c)

-- the command has a change of the symbol to make at a place: a snapshot holds the version asked, or the base
abbrev pub MakesAt : History → Client → Command → Reply → Name → ℕ → Type 0
MakesAt h client (commands.Snapshot snap picks) reply symbol q = is_some (picked_version (state_of (history_at h q) symbol) (asked_of picks symbol)) ≡ true
MakesAt h client c reply symbol q = MarksAt (answer client.session (library_at h (unwrap_or reply.listed q)) (library_at h q) q c)

-- ---- beside the met tries

-- had no live version at a place from one to another
abbrev pub WasEmptyWithin : History → Name → ℕ → ℕ → Type 0
WasEmptyWithin h symbol from to = (q : ℕ) × (from ≤ q) × (q ≤ to) × (base_of (state_of (history_at h q) symbol) ≡ None)

-- the row's place is an own Refer of its symbol, whose Hold is of the asked version or of the base just before
pub record IsHeldAt (h : History) (client : ℕ) (holder : Holder) (picks : List Pick) (w : Window) (r : HeldAt) : Type 0 where
  pub after : w.start < r.place
  pub before : r.place ≤ w.stop
  pub event : IsReferAt h client r.symbol (changes.Held holder r.version ∷ []) r.place
  pub asked : picked_version (state_of (history_at h (r.place - 1)) r.symbol) (asked_of picks r.symbol) ≡ Some r.version

-- a symbol was held so in the window
abbrev pub WasHeld : History → ℕ → Holder → List Pick → Window → Name → Type 0
WasHeld h client holder picks w symbol = (version : ℕ) × (place : ℕ) × IsHeldAt h client holder picks w (record { symbol = symbol; version = version; place = place })

-- each symbol of a snapshot that comes before this one was held; of all symbols one may have been passed over, since it had no live version
abbrev pub HeldBefore : History → ℕ → Holder → List Pick → Reply → Window → Name → Type 0
HeldBefore h client holder [] reply w symbol =
    (other : Name) → (state_of (history_at h (listed_at reply)) other).has_reference ≡ true → name_before other symbol ≡ true
    → WasHeld h client holder [] w other ⊎ WasEmptyWithin h other (listed_at reply) w.stop
HeldBefore h client holder (p ∷ picks) reply w symbol =
    AllByRecursion (λ (q : Pick). name_before q.symbol symbol ≡ true → WasHeld h client holder (p ∷ picks) w q.symbol) (p ∷ picks)

-- a Refer of this symbol, or of one that does not come before it
abbrev pub refers_from : Name → Event → Bool
refers_from symbol (events.Refer client s was entry list) = not (name_before s symbol)
refers_from symbol _ = false

-- a snapshot before its tries of a symbol: it looked, and its name did not stand, before the list where one is made; each symbol before this one was
-- held. No Refer of this one, or of one behind it, is its own
pub record IsHoldMet (h : History) (client : ℕ) (snap : Name) (picks : List Pick) (reply : Reply) (symbol : Name) (w : Window) (start : ℕ) : Type 0 where
  pub looked : ℕ
  pub from : w.start ≤ looked
  pub to : looked ≤ unwrap_or reply.listed start
  pub free : snap_body (history_at h looked) snap ≡ None
  pub held : HeldBefore h client (holder_at h client w) picks reply (record w { stop = start }) symbol
  pub never : list_any (refers_from symbol) (own_events h client w) ≡ false

-- beside its met tries a snapshot did as told above, and any other command made no event
abbrev pub IsBeside : History → ℕ → Kind → Reply → Name → Window → ℕ → ℕ → Type 0
IsBeside h client (Holds snap picks) reply symbol w start stop = IsHoldMet h client snap picks reply symbol w start
IsBeside h client kind reply symbol w start stop = (own_between h client w.start start ≡ []) × (own_between h client stop w.stop ≡ [])

-- ---- Moved

-- Moved: event p is a Refer of the symbol by another in the window, and each try met one: there were as many as tries; the last met that of p.
-- A list was made before the tries
pub record IsMoved (h : History) (client : Client) (c : Command) (reply : Reply) (symbol : Name) (now : ℕ) (w : Window) : Type 0 where
  pub here : now ≡ reply.place
  pub inside : w.start < reply.place
  pub event : Event
  pub at : event_at h reply.place ≡ Some event
  pub refers : refers symbol event ≡ true
  pub others : author event ≢ client.session.client
  pub enough : client.session.tries ≤ refers_by_others h client.session.client symbol w
  pub start : ℕ
  pub from : w.start ≤ start
  pub listed : unwrap_or reply.listed start ≤ start
  pub stop : ℕ
  pub to : stop ≤ w.stop
  pub beside : IsBeside h client.session.client (kind_of c) reply symbol w start stop
  pub tries : AreMetTries h client.session.client symbol (makes_version c) (MakesAt h client c reply symbol) (FindsGone h client c reply symbol) client.session.tries start stop now

-- ---- Spent

-- Spent: the history holds `count` events, at least the limit, and the command made an event or had one to make
pub record IsSpent (h : History) (client : Client) (c : Command) (count : ℕ) (reply : Reply) (w : Window) : Type 0 where
  pub here : reply.place ≡ count
  pub full : client.limit ≤ count
  pub busy : (has_none (own_events h client.session.client w) ≡ false) ⊎ HasToMake h client c reply w.start reply.place

-- ---- the clauses of a refused snapshot

-- an asked symbol without a reference
abbrev pub HasNoReference : History → Pick → Type 0
HasNoReference h pick = (state_of h pick.symbol).has_reference ≡ false

-- which version was asked, as a refusal names it
abbrev pub asked_version : Option ℕ → Asked
asked_version None = asks.Back 1
asked_version (Some n) = asks.Number n

-- an asked symbol that has a reference, of which the version asked is not live
pub record LacksVersion (h : History) (asked : Asked) (pick : Pick) : Type 0 where
  pub referred : (state_of h pick.symbol).has_reference ≡ true
  pub absent : picked_version (state_of h pick.symbol) pick.version ≡ None
  pub asked_is : asked ≡ asked_version pick.version

-- of all symbols, none had a live version; of named ones, one lacks its reference or its version; or the name stands
abbrev pub IsSnapshotRefusal : History → List Pick → Name → Reply → Refusal → Type 0
IsSnapshotRefusal h [] snap reply refusals.NoSuchSymbol =
    (symbol : Name) → (state_of (history_at h (listed_at reply)) symbol).has_reference ≡ true → WasEmptyWithin h symbol (listed_at reply) reply.place
IsSnapshotRefusal h picks snap reply refusals.NoSuchSymbol = Any (HasNoReference (history_at h reply.place)) picks
IsSnapshotRefusal h picks snap reply (refusals.NoSuchVersion asked) = Any (LacksVersion (history_at h reply.place) asked) picks
IsSnapshotRefusal h picks snap reply refusals.SnapshotExists = is_some (snap_body (history_at h reply.place) snap) ≡ true
IsSnapshotRefusal h picks snap reply why = ⊥
