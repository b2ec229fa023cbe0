-- What a history tells of a symbol. There are no keys, chains, indexes or segments in it.
--     State            of a symbol: whether it has a reference, its versions, the buried numbers, the unreleased holds,
--                      the staged pieces and the consumed ones; each list has the newest first
--     state_of         a symbol's state in a history
--     is_live, is_held, base_of         a version that is not buried; one with an unreleased hold; the newest live one
use Rattle.std.specs.Prelude.{ℕ, suc, ℤ, pos, Bool, true, false, ◌||◌, ◌&&◌, not, List, [], ◌∷◌, ◌++◌, filter, fold, Option, Some, None, nat_eq, if◌then◌else◌, unwrap_or}
use Rattle.std.specs.List.{list_any, cons_option}
use Rattle.byte_fields.specs.Reading.{read_of}
use Rattle.frame_core.specs.Frames.{Row, Frame, replace_range, first_stamp, last_stamp}
use Rattle.segment_bytes.specs.Segments.{segment_of}
use Rattle.key_kind.specs.declared.key.KeyKind.TheVariants as kinds
use Rattle.key_kind.specs.declared.key.Key.{Key}
use Rattle.key_kind.specs.declared.key.Holder.{Holder}
use Rattle.key_kind.specs.Names.{Name, same_name}
use Rattle.key_kind.specs.Keys.{same_kind, same_holder}
use Rattle.bucket_core.specs.declared.event.PieceName.{PieceName}
use Rattle.bucket_core.specs.declared.event.Change.{Change}
use Rattle.bucket_core.specs.declared.event.Change.TheVariants as changes
use Rattle.bucket_core.specs.declared.event.Event.TheVariants as events
use Rattle.bucket_core.specs.History.{History, Bytes}
use Rattle.store_model.specs.declared.hold.HoldRow.{HoldRow}

-- a version: its number, stamp and whole frame
pub record Version : Type 0 where
  pub number : ℕ
  pub stamp : ℤ
  pub frame : Frame

-- an unreleased hold of a version
pub record Hold : Type 0 where
  pub holder : Holder
  pub version : ℕ

-- a hold, as the library sees it
abbrev pub hold_of : HoldRow → Hold
hold_of row = record { holder = row.holder; version = row.version }

-- a staged piece
pub record Piece : Type 0 where
  pub name : PieceName
  pub frame : Frame

-- what is told of a symbol; each list has the newest first
pub record State : Type 0 where
  pub has_reference : Bool
  pub versions : List Version
  pub buried : List ℕ
  pub holds : List Hold
  pub staged : List Piece
  pub consumed : List PieceName

-- a symbol of which nothing is told
abbrev pub unknown : State
unknown = record { has_reference = false; versions = []; buried = []; holds = []; staged = []; consumed = [] }

-- ---- of one state

-- a test of equality of piece names
abbrev pub same_piece : PieceName → PieceName → Bool
same_piece a b = nat_eq a.client b.client && nat_eq a.serial b.serial

-- the version was buried
abbrev pub is_buried : State → ℕ → Bool
is_buried st number = list_any (nat_eq number) st.buried

-- the version was made
abbrev pub is_linked : State → ℕ → Bool
is_linked st number = list_any (λ v. nat_eq number v.number) st.versions

-- the version is there and is not buried
abbrev pub is_live : State → ℕ → Bool
is_live st number = is_linked st number && not (is_buried st number)

-- the version has an unreleased hold
abbrev pub is_held : State → ℕ → Bool
is_held st number = list_any (λ w. nat_eq number w.version) st.holds

-- the version is live or held
abbrev pub is_kept : State → ℕ → Bool
is_kept st number = is_live st number || is_held st number

-- the versions that are not buried, the newest first
abbrev pub live_versions : State → List Version
live_versions st = filter (λ v. not (is_buried st v.number)) st.versions

-- the first of a list
abbrev pub first_of : {X : Type 0} → List X → Option X
first_of [] = None
first_of (x ∷ xs) = Some x

-- the live version of the greatest number
abbrev pub base_of : State → Option Version
base_of st = first_of (live_versions st)

-- the number behind the newest version's
abbrev pub number_after : List Version → ℕ
number_after [] = 0
number_after (v ∷ older) = suc v.number

-- one more than the greatest number so far, or 0
abbrev pub next_number : State → ℕ
next_number st = number_after st.versions

-- the piece was consumed
abbrev pub is_consumed : State → PieceName → Bool
is_consumed st name = list_any (same_piece name) st.consumed

-- the staged pieces that are not consumed
abbrev pub open_pieces : State → List Piece
open_pieces st = filter (λ p. not (is_consumed st p.name)) st.staged

-- ---- changes

-- the frame of these rows and, where there is a base, of the base's, joined so
abbrev pub on_base : (List Row → List Row → List Row) → Option Version → Frame → Frame
on_base join None frame = frame
on_base join (Some base) frame = record frame { rows = join base.frame.rows frame.rows }

-- a new version of this frame
abbrev pub version_of : State → ℤ → Frame → Version
version_of st at frame = record { number = next_number st; stamp = at; frame = frame }

-- the version that a change makes, if it makes one
abbrev pub new_version : State → Change → Option Version
new_version st (changes.Wrote frame at) = Some (version_of st at frame)
new_version st (changes.Appended frame at) = Some (version_of st at (on_base (λ old new. old ++ new) (base_of st) frame))
new_version st (changes.Updated frame range at) = Some (version_of st at (on_base (λ old new. replace_range range new old) (base_of st) frame))
new_version st _ = None

-- what is buried behind a change
abbrev pub buried_after : State → Change → List ℕ
buried_after st (changes.Removed versions) = versions ++ st.buried
buried_after st _ = st.buried

-- what is held behind a change
abbrev pub holds_after : State → Change → List Hold
holds_after st (changes.Held holder version) = record { holder = holder; version = version } ∷ st.holds
holds_after st (changes.Released holder) = filter (λ w. not (same_holder holder w.holder)) st.holds
holds_after st _ = st.holds

-- what is consumed behind a change
abbrev pub consumed_after : State → Change → List PieceName
consumed_after st (changes.Discarded pieces) = pieces ++ st.consumed
consumed_after st _ = st.consumed

-- a change adds a version, buries, holds or releases, or consumes
abbrev pub after_change : State → Change → State
after_change st c = record st {
  versions = cons_option (new_version st c) st.versions;
  buried = buried_after st c;
  holds = holds_after st c;
  consumed = consumed_after st c;
}

-- behind a Refer the symbol has a reference, and the changes are made one after another
abbrev pub after_changes : State → List Change → State
after_changes st list = record (fold after_change st list) { has_reference = true }

-- ---- pieces

-- the piece of a staged key, where its body spells a frame
abbrev pub piece_of : Key → Option Frame → List Piece
piece_of key None = []
piece_of key (Some frame) = record { name = record { client = key.client; serial = key.serial }; frame = frame } ∷ []

-- the piece that a Put stages: that of a Staged key of the symbol
abbrev pub piece_staged : Name → Key → Bytes → List Piece
piece_staged symbol key body = if same_kind key.kind kinds.Staged && same_name key.name symbol then piece_of key (read_of (segment_of body)) else []

-- the key under which a piece was staged
abbrev pub staged_key : Name → Piece → Key
staged_key symbol p = record {
  kind = kinds.Staged;
  name = symbol;
  client = p.name.client;
  serial = p.name.serial;
  version = 0;
  first = unwrap_or (first_stamp p.frame.rows) (pos 0);
  last = unwrap_or (last_stamp p.frame.rows) (pos 0);
}

-- ---- the state of a symbol

-- the state of a symbol in a history
abbrev pub state_of : History → Name → State
state_of [] symbol = unknown
state_of (events.Put c key body ∷ h) symbol = record (state_of h symbol) { staged = piece_staged symbol key body ++ (state_of h symbol).staged }
state_of (events.Refer c s was entry list ∷ h) symbol = if same_name s symbol then after_changes (state_of h symbol) list else state_of h symbol
state_of (_ ∷ h) symbol = state_of h symbol
