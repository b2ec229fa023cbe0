-- The text of replies.
--     outcome_text            what is said of an outcome on the line of its reply
--     version_line, symbol_line, lines_after      the lines that follow the line of a reply
--     reply_line, reply_lines     the line of a reply, and the lines that follow it
--     part_lines, clients_lines, end_line      the lines of a part's replies, of all clients' replies, and of the end
use Rattle.std.specs.Prelude.{ℕ, suc, Bool, if◌then◌else◌, List, [], ◌∷◌, ◌++◌, map, length, Option, Some, None, codes}
use Rattle.std.specs.List.{flat_map, join_with_byte}
use Rattle.std.specs.Fmt.{decimal, signed_decimal}
use Rattle.frame_core.specs.declared.refusal.Asked.{Asked}
use Rattle.frame_core.specs.declared.refusal.Asked.TheVariants as asks
use Rattle.frame_core.specs.declared.refusal.Extent.{Extent}
use Rattle.frame_core.specs.declared.refusal.Extent.TheVariants as extents
use Rattle.frame_core.specs.declared.refusal.Refusal.{Refusal}
use Rattle.frame_core.specs.declared.refusal.Refusal.TheVariants as refusals
use Rattle.frame_core.specs.Texts.{Text}
use Rattle.key_kind.specs.Names.{Name}
use Rattle.reply_model.specs.declared.outcome.HeldAt.{HeldAt}
use Rattle.reply_model.specs.declared.outcome.VersionRow.{VersionRow}
use Rattle.reply_model.specs.declared.outcome.SymbolRow.{SymbolRow}
use Rattle.reply_model.specs.declared.outcome.Outcome.{Outcome}
use Rattle.reply_model.specs.declared.outcome.Outcome.TheVariants as outcomes
use Rattle.reply_model.specs.declared.reply.Reply.{Reply}
use Rattle.reply_text.specs.FrameText.{ended, frame_lines}

-- ---- parts of lines

-- a field of a line: its name and its number
unfoldable pub field : Text → ℕ → Text
field name n = codes " " ++ name ++ codes "=" ++ decimal n

-- a version
unfoldable pub version_text : ℕ → Text
version_text n = codes "v" ++ decimal n

-- a place
unfoldable pub place_text : ℕ → Text
place_text place = codes "@" ++ decimal place

-- the version that was asked
unfoldable pub asked_text : Asked → Text
asked_text (asks.Number n) = decimal n
asked_text (asks.Back k) = codes "-" ++ decimal k
asked_text (asks.Moment t) = codes "time:" ++ signed_decimal t

-- what is too large
abbrev pub extent_text : Extent → Text
extent_text extents.Rows = codes "rows"
extent_text extents.Columns = codes "columns"
extent_text extents.Cells = codes "cells"
extent_text extents.OneText = codes "onetext"
extent_text extents.TextBytes = codes "textbytes"

-- the number and the name of a refusal
abbrev pub refusal_name : Refusal → Text
refusal_name refusals.NoMemory = codes "1 NoMemory"
refusal_name refusals.StoreFault = codes "2 StoreFault"
refusal_name refusals.NoSuchSymbol = codes "3 NoSuchSymbol"
refusal_name (refusals.NoSuchVersion asked) = codes "4 NoSuchVersion"
refusal_name (refusals.VersionGone version) = codes "5 VersionGone"
refusal_name (refusals.Moved now) = codes "6 Moved"
refusal_name (refusals.Unsorted row) = codes "7 Unsorted"
refusal_name (refusals.SchemaDiffers column) = codes "8 SchemaDiffers"
refusal_name (refusals.AppendBefore last first) = codes "9 AppendBefore"
refusal_name (refusals.OutsideRange row) = codes "10 OutsideRange"
refusal_name refusals.EmptyUpdate = codes "11 EmptyUpdate"
refusal_name (refusals.NoSuchColumn clause position) = codes "12 NoSuchColumn"
refusal_name (refusals.TypeMismatch clause) = codes "13 TypeMismatch"
refusal_name (refusals.Overflow clause row) = codes "14 Overflow"
refusal_name (refusals.GroupOverflow clause group) = codes "15 GroupOverflow"
refusal_name (refusals.NotTimeIndexed clause) = codes "16 NotTimeIndexed"
refusal_name refusals.SnapshotExists = codes "17 SnapshotExists"
refusal_name refusals.NoSuchSnapshot = codes "18 NoSuchSnapshot"
refusal_name refusals.NoStaged = codes "19 NoStaged"
refusal_name (refusals.StagedOverlap piece) = codes "20 StagedOverlap"
refusal_name (refusals.Spent count) = codes "21 Spent"
refusal_name (refusals.TooLarge what limit) = codes "22 TooLarge"

-- the fields of a refusal
abbrev pub refusal_fields : Refusal → Text
refusal_fields (refusals.NoSuchVersion asked) = codes " asked=" ++ asked_text asked
refusal_fields (refusals.VersionGone version) = field (codes "version") version
refusal_fields (refusals.Moved now) = field (codes "now") now
refusal_fields (refusals.Unsorted row) = field (codes "row") row
refusal_fields (refusals.SchemaDiffers column) = field (codes "column") column
refusal_fields (refusals.AppendBefore last first) = (codes " last=" ++ signed_decimal last) ++ (codes " first=" ++ signed_decimal first)
refusal_fields (refusals.OutsideRange row) = field (codes "row") row
refusal_fields (refusals.NoSuchColumn clause position) = field (codes "clause") clause ++ field (codes "position") position
refusal_fields (refusals.TypeMismatch clause) = field (codes "clause") clause
refusal_fields (refusals.Overflow clause row) = field (codes "clause") clause ++ field (codes "row") row
refusal_fields (refusals.GroupOverflow clause group) = field (codes "clause") clause ++ field (codes "group") group
refusal_fields (refusals.NotTimeIndexed clause) = field (codes "clause") clause
refusal_fields (refusals.StagedOverlap piece) = field (codes "piece") piece
refusal_fields (refusals.Spent count) = field (codes "count") count
refusal_fields (refusals.TooLarge what limit) = (codes " what=" ++ extent_text what) ++ field (codes "limit") limit
refusal_fields _ = []

-- ---- outcomes

-- a symbol that a snapshot holds: its version, and the place of the hold
unfoldable pub held_text : HeldAt → Text
held_text h = codes " " ++ h.symbol ++ codes ":" ++ version_text h.version ++ place_text h.place

-- what is said of an outcome on the line of its reply
unfoldable pub outcome_text : Outcome → Text
outcome_text (outcomes.Committed version) = codes "ok " ++ version_text version
outcome_text outcomes.Staged = codes "ok staged"
outcome_text (outcomes.Finalized version pieces) = codes "ok " ++ version_text version ++ field (codes "pieces") pieces
outcome_text (outcomes.Discarded pieces) = codes "ok discarded" ++ field (codes "pieces") pieces
outcome_text (outcomes.Deleted versions) = codes "ok deleted" ++ field (codes "versions") versions
outcome_text (outcomes.Pruned versions) = codes "ok pruned" ++ field (codes "versions") versions
outcome_text (outcomes.Freed tiles indexes staged) = codes "ok freed" ++ field (codes "data") tiles ++ field (codes "index") indexes ++ field (codes "staged") staged
outcome_text (outcomes.Kept held) = codes "ok kept" ++ flat_map held_text held
outcome_text outcomes.Unkept = codes "ok unkept"
outcome_text (outcomes.Whole version frame) = codes "ok " ++ version_text version ++ field (codes "rows") (length frame.rows)
outcome_text (outcomes.Versions rows) = codes "ok" ++ field (codes "versions") (length rows)
outcome_text (outcomes.Symbols rows) = codes "ok" ++ field (codes "symbols") (length rows)
outcome_text (outcomes.Snapshots names) = codes "ok" ++ field (codes "snapshots") (length names)
outcome_text (outcomes.Keys tiles indexes versions refs staged) =
    codes "ok" ++ field (codes "data") tiles ++ field (codes "index") indexes ++ field (codes "version") versions ++ field (codes "ref") refs ++ field (codes "staged") staged
outcome_text (outcomes.Refused why) = codes "err " ++ refusal_name why ++ refusal_fields why

-- whether a version is live
abbrev pub life_text : Bool → Text
life_text live = if live then codes " live" else codes " buried"

-- the line of a version
unfoldable pub version_line : VersionRow → Text
version_line r = ended (version_text r.version ++ codes " at=" ++ signed_decimal r.stamp ++ life_text r.live ++ field (codes "holds") r.holds)

-- a symbol's latest live version, or `-` where there is none
unfoldable pub newest_text : Option ℕ → Text
newest_text None = codes " -"
newest_text (Some n) = codes " " ++ version_text n

-- the line of a symbol
unfoldable pub symbol_line : SymbolRow → Text
symbol_line r = ended (r.symbol ++ newest_text r.newest ++ place_text r.place)

-- the lines that follow the line of a reply
abbrev pub lines_after : Outcome → List Text
lines_after (outcomes.Whole version frame) = frame_lines frame
lines_after (outcomes.Versions rows) = map version_line rows
lines_after (outcomes.Symbols rows) = map symbol_line rows
lines_after (outcomes.Snapshots names) = map ended names
lines_after _ = []

-- ---- replies

-- the place of the list that a command went by, where it made one
unfoldable pub listed_text : Option ℕ → Text
listed_text None = []
listed_text (Some place) = codes " listed=" ++ place_text place

-- the symbols of which a hold was left, between commas, where there are any
unfoldable pub left_text : List Name → Text
left_text [] = []
left_text (symbol ∷ more) = codes " left=" ++ join_with_byte 44 (symbol ∷ more)

-- the line of a reply, to the k-th command of whoever speaks
unfoldable pub reply_line : Text → ℕ → Reply → Text
reply_line who k r = ended (who ++ codes "." ++ decimal k ++ codes " " ++ place_text r.place ++ codes " " ++ outcome_text r.outcome ++ listed_text r.listed ++ left_text r.left)

-- the line of a reply and the lines that follow it
abbrev pub reply_lines : Text → ℕ → Reply → List Text
reply_lines who k r = reply_line who k r ∷ lines_after r.outcome

-- the lines of a part's replies, numbered on from k
abbrev pub part_lines : Text → ℕ → List Reply → List Text
part_lines who k [] = []
part_lines who k (r ∷ replies) = reply_lines who k r ++ part_lines who (suc k) replies

-- the lines of the clients' replies, by their names, in the script's order
abbrev pub clients_lines : List Text → List (List Reply) → List Text
clients_lines [] blocks = []
clients_lines (name ∷ names) [] = []
clients_lines (name ∷ names) (replies ∷ blocks) = part_lines name 1 replies ++ clients_lines names blocks

-- the line of the end, at this place
unfoldable pub end_line : ℕ → Text
end_line end = ended (codes "end " ++ place_text end)
