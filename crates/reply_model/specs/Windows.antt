-- Windows, and what stands in them.
--     Window               the places between which a command ran, and whether its bucket's count of faults rose
--     Client               what a client's replies are judged by
--     own_events           the client's events in a window
--     symbol_of, picked_version, asked_of      what a command asks
--     is_refused, is_cut, is_answered, is_store_fault      kinds of outcome
--     refer_places, AreCommits      the places of own Refers, and the commits that a reply names
--     refers_by_others     how many Refers of a symbol by others stand in a window
--     IsReferAt            the event of a place is the client's Refer with these changes
use Rattle.std.specs.Prelude.{◌≡◌, ◌⊎◌, ℕ, suc, Bool, true, false, ◌&&◌, not, if◌then◌else◌, List, [], ◌∷◌, ◌++◌, reverse, length, filter, count_by, Option, Some, None, nat_eq, nat_le, option_map, unwrap_or}
use Rattle.key_kind.specs.declared.key.Key.{Key}
use Rattle.key_kind.specs.Names.{Name, same_name}
use Rattle.bucket_core.specs.declared.event.Change.{Change}
use Rattle.bucket_core.specs.declared.event.Event.{Event}
use Rattle.bucket_core.specs.declared.event.Event.TheVariants as events
use Rattle.bucket_core.specs.History.{History, author, history_at, event_at, events_within}
use Rattle.store_model.specs.Library.{State, base_of, is_live}
use Rattle.store_model.specs.Snapshots.{Library, library_of}
use Rattle.bucket_core.specs.Laws.{refers}
use Rattle.expr_clause.specs.declared.command.Pick.{Pick}
use Rattle.expr_clause.specs.declared.command.Command.{Command}
use Rattle.reply_model.specs.declared.outcome.Outcome.{Outcome}
use Rattle.reply_model.specs.declared.outcome.Outcome.TheVariants as outcomes
use Rattle.reply_model.specs.declared.reply.Reply.{Reply}
use Rattle.reply_model.specs.Answering.{Session}
use Rattle.reply_model.specs.Kinds.{kind_of, kind_symbol, cause_of, cuts, faults, tells}

-- from one place to another, and whether the bucket's count of faults rose between
pub record Window : Type 0 where
  pub start : ℕ
  pub stop : ℕ
  pub faulted : Bool

-- what a client's replies are judged by: its session, and its bucket's limit
pub record Client : Type 0 where
  pub session : Session
  pub limit : ℕ

-- the library at a place
abbrev pub library_at : History → ℕ → Library
library_at h place = library_of (history_at h place)

-- the client's events in the window, in order
abbrev pub own_events : History → ℕ → Window → List Event
own_events h client w = reverse (filter (λ e. nat_eq (author e) client) (events_within h w.start w.stop))

-- ---- what a command asks

-- the symbol of a command of one symbol
abbrev pub symbol_of : Command → Option Name
symbol_of c = kind_symbol (kind_of c)

-- the version that a pick asks for, in a state: the given one where it is live, or the base
abbrev pub picked_version : State → Option ℕ → Option ℕ
picked_version st (Some n) = if is_live st n then Some n else None
picked_version st None = option_map (λ v. v.number) (base_of st)

-- which version is asked of a symbol
abbrev pub asked_of : List Pick → Name → Option ℕ
asked_of [] symbol = None
asked_of (p ∷ picks) symbol = if same_name p.symbol symbol then p.version else asked_of picks symbol

-- ---- outcomes

-- the outcome is a refusal
abbrev pub is_refused : Outcome → Bool
is_refused (outcomes.Refused why) = true
is_refused _ = false

-- a call of the command may have failed: NoMemory, StoreFault and Spent
abbrev pub is_cut : Outcome → Bool
is_cut (outcomes.Refused why) = cuts (cause_of why)
is_cut _ = false

-- the library's own answer: neither a call failed, nor was each try refused
abbrev pub is_answered : Outcome → Bool
is_answered (outcomes.Refused why) = tells (cause_of why)
is_answered _ = true

-- the bucket failed, and a change may stand of which nothing is known
abbrev pub is_store_fault : Outcome → Bool
is_store_fault (outcomes.Refused why) = faults (cause_of why)
is_store_fault _ = false

-- ---- events of a window

-- there is no such event
abbrev pub has_none : List Event → Bool
has_none [] = true
has_none (e ∷ es) = false

-- the places of the client's Refers in the window, in order; the newest event first
abbrev pub refer_places : ℕ → ℕ → History → List ℕ
refer_places client start [] = []
refer_places client start (events.Refer c s was entry marks ∷ h) =
    if nat_eq c client && nat_le start (length h) then refer_places client start h ++ suc (length h) ∷ [] else refer_places client start h
refer_places client start (_ ∷ h) = refer_places client start h

-- after a StoreFault one more commit may stand
abbrev pub AreCommits : Bool → List ℕ → List ℕ → Type 0
AreCommits false commits places = commits ≡ places
AreCommits true commits places = (commits ≡ places) ⊎ ((last : ℕ) × (places ≡ commits ++ last ∷ []))

-- how many Refers of the symbol by others stand in the window
abbrev pub refers_by_others : History → ℕ → Name → Window → ℕ
refers_by_others h client symbol w = count_by (λ e. refers symbol e && not (nat_eq (author e) client)) (events_within h w.start w.stop)

-- an Unname of the snapshot
abbrev pub unnames : Name → Event → Bool
unnames snap (events.Unname client name) = same_name name snap
unnames snap _ = false

-- the place of the list, or the reply's own
abbrev pub listed_at : Reply → ℕ
listed_at reply = unwrap_or reply.listed reply.place

-- event p is the client's Refer of the symbol with these changes
abbrev pub IsReferAt : History → ℕ → Name → List Change → ℕ → Type 0
IsReferAt h client symbol marks p = (was : Option Key) × (entry : Key) × (event_at h p ≡ Some (events.Refer client symbol was entry marks))
