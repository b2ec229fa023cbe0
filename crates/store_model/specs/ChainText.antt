-- The one spelling of a chain element and of a snapshot, and how bytes are read as one, field by field.
--     entry_text, snap_text      the spelling of an element and of a snapshot
--     is_compact          gate B: the tag of a Compact
--     Form                what may come next in an element
--     entry_of, snap_of   the element and the snapshot that bytes spell, or the fault
use Rattle.std.specs.Prelude.{ℕ, suc, zero, Bool, true, false, ◌||◌, ◌&&◌, not, List, [], ◌∷◌, ◌++◌, length, drop, flat_map, Result, Ok, Err, Option, Some, None, is_some, nat_le, nat_lt, nat_eq, if◌then◌else◌}
use Rattle.std.specs.Option.{option_map_or}
use Rattle.std.specs.Int.{w8, w32, w64, to_be_bytes}
use Rattle.byte_fields.specs.Reading.{Reading, ◌>>=◌, wanted, whole, number_at, signed_at, magic_at, signed_text}
use Rattle.key_kind.specs.declared.key.KeyKind.TheVariants as kinds
use Rattle.key_kind.specs.declared.key.Key.{Key}
use Rattle.key_kind.specs.declared.key.Holder.{Holder}
use Rattle.key_kind.specs.Names.{Name, name_before}
use Rattle.key_kind.specs.KeyText.{key_text, key_of_at, name_text, name_at}
use Rattle.bucket_core.specs.declared.event.PieceName.{PieceName}
use Rattle.store_model.specs.declared.chain.LinkRow.{LinkRow}
use Rattle.store_model.specs.declared.chain.ToldLink.{ToldLink}
use Rattle.store_model.specs.declared.chain.ChainMark.{ChainMark}
use Rattle.store_model.specs.declared.chain.ChainMark.TheVariants as marks
use Rattle.store_model.specs.declared.chain.Entry.{Entry}
use Rattle.store_model.specs.declared.hold.HoldRow.{HoldRow}
use Rattle.store_model.specs.declared.snapshot.SnapRow.{SnapRow}
use Rattle.store_model.specs.declared.snapshot.SnapBody.{SnapBody}

-- ---- the spelling

-- the spelling of a holder
abbrev pub holder_text : Holder → List ℕ
holder_text h = to_be_bytes w32 h.client ++ to_be_bytes w64 h.serial

-- the spelling of a piece's name
abbrev pub piece_text : PieceName → List ℕ
piece_text p = to_be_bytes w32 p.client ++ to_be_bytes w64 p.serial

-- the spelling of a link
abbrev pub link_text : LinkRow → List ℕ
link_text l = to_be_bytes w64 l.version ++ signed_text l.stamp ++ to_be_bytes w32 l.rows ++ key_text l.index

-- a link, and a byte 1 where it is live, or 0
abbrev pub told_text : ToldLink → List ℕ
told_text l = link_text l.row ++ (if l.live then 1 else 0) ∷ []

-- the spelling of a hold
abbrev pub hold_text : HoldRow → List ℕ
hold_text w = holder_text w.holder ++ to_be_bytes w64 w.version

-- the spelling of a mark
abbrev pub mark_text : ChainMark → List ℕ
mark_text (marks.Link l) = 1 ∷ link_text l
mark_text (marks.Tomb version) = 2 ∷ to_be_bytes w64 version
mark_text (marks.Hold holder version) = 3 ∷ (holder_text holder ++ to_be_bytes w64 version)
mark_text (marks.Release holder) = 4 ∷ holder_text holder
mark_text (marks.Discard pieces) = 5 ∷ (to_be_bytes w64 (length pieces) ++ flat_map piece_text pieces)
mark_text (marks.Compact s) =
    6 ∷ (to_be_bytes w64 (length s.links) ++ flat_map told_text s.links ++ to_be_bytes w64 (length s.holds) ++ flat_map hold_text s.holds
    ++ to_be_bytes w64 (length s.pieces) ++ flat_map piece_text s.pieces)

-- a byte 0, or a byte 1 and a key
abbrev pub optional_key_text : Option Key → List ℕ
optional_key_text None = 0 ∷ []
optional_key_text (Some key) = 1 ∷ key_text key

-- the magic of an element
abbrev pub entry_magic : List ℕ
entry_magic = 65 ∷ 86 ∷ 69 ∷ 49 ∷ []

-- the spelling of an element
abbrev pub entry_text : Entry → List ℕ
entry_text e = entry_magic ++ optional_key_text e.prev ++ to_be_bytes w64 (length e.changes) ++ flat_map mark_text e.changes

-- the magic of a snapshot
abbrev pub snap_magic : List ℕ
snap_magic = 65 ∷ 83 ∷ 78 ∷ 49 ∷ []

-- the spelling of one symbol of a snapshot
abbrev pub snap_row_text : SnapRow → List ℕ
snap_row_text r = name_text r.symbol ++ to_be_bytes w64 r.version ++ key_text r.index

-- the spelling of a snapshot
abbrev pub snap_text : SnapBody → List ℕ
snap_text s = snap_magic ++ holder_text s.holder ++ to_be_bytes w64 (length s.rows) ++ flat_map snap_row_text s.rows

-- ---- the reading

-- the next holder
abbrev pub holder_at : List ℕ → Reading Holder
holder_at bytes = do
  client ← number_at w32 bytes
  serial ← number_at w64 client.1
  Ok (record { client = client.0; serial = serial.0 }, serial.1)

-- the piece stands before the other, by client and serial
abbrev pub piece_before : PieceName → PieceName → Bool
piece_before a b = nat_lt a.client b.client || (nat_eq a.client b.client && nat_lt a.serial b.serial)

-- the next n pieces, ascending. A client that falls is a fault at the client; a serial that does not rise, at the serial
abbrev pub pieces_at : Option PieceName → ℕ → List ℕ → Reading (List PieceName)
pieces_at before zero bytes = Ok ([], bytes)
pieces_at before (suc n) bytes = do
  client ← number_at w32 bytes
  serial ← wanted (option_map_or (λ p. nat_le p.client client.0) before true) bytes (number_at w64 client.1)
  more ← wanted (option_map_or (λ p. piece_before p (record { client = client.0; serial = serial.0 })) before true) client.1
      (pieces_at (Some (record { client = client.0; serial = serial.0 })) n serial.1)
  Ok (record { client = client.0; serial = serial.0 } ∷ more.0, more.1)

-- Gate B, closed: no bytes spell a Compact, so none can be put, and each mark of an element has one of the tags 1 to 5. It opens before gates C
-- and D, as `is_compact tag = nat_eq tag 6`, once version_chain reads and spells a Compact. With it goes: that the readers and writers of
-- version_chain, which know no Compact, are exact (`IsMark` and `IsForm` of its Entries). Seen to prove with this gate and gate C open: that an
-- element on another one has no Compact (`no_compact_on_another_element`, with its fault at the tag)
abbrev pub is_compact : ℕ → Bool
is_compact tag = false

-- what may come next in an element: first, any mark, in an element that stands on no other, a Compact too; start, any mark but a Compact; linked,
-- Tombs or a Discard, behind a Link; buried, more Tombs; ended, nothing
pub data Form : Type 0 where
  first start linked buried ended : Form

-- the form behind the first mark of an element on another
abbrev pub form_started : ℕ → Option Form
form_started tag = if nat_eq tag 1 then Some linked else if nat_eq tag 2 then Some buried else if nat_le 3 tag && nat_le tag 5 then Some ended else None

-- the form behind a mark of this tag, where it may stand
abbrev pub form_behind : Form → ℕ → Option Form
form_behind first tag = if is_compact tag then Some ended else form_started tag
form_behind start tag = form_started tag
form_behind linked tag = if nat_eq tag 2 then Some linked else if nat_eq tag 5 then Some ended else None
form_behind buried tag = if nat_eq tag 2 then Some buried else None
form_behind ended tag = None

-- the form in which an element begins
abbrev pub form_on : Option Key → Form
form_on prev = if is_compact 6 && not (is_some prev) then first else start

-- a tag with the form behind it, or a fault at the tag
abbrev pub form_found : ℕ → List ℕ → Option Form → Reading (ℕ × Form)
form_found tag rest None = Err (suc (length rest))
form_found tag rest (Some behind) = Ok ((tag, behind), rest)

-- the next mark's form
abbrev pub form_at : Form → List ℕ → Reading (ℕ × Form)
form_at form bytes = do
  tag ← number_at w8 bytes
  form_found tag.0 tag.1 (form_behind form tag.0)

-- the next Link, behind its tag
abbrev pub link_at : List ℕ → Reading ChainMark
link_at bytes = do
  version ← number_at w64 bytes
  stamp ← signed_at version.1
  rows ← number_at w32 stamp.1
  index ← key_of_at kinds.TableIndex rows.1
  Ok (marks.Link (record { version = version.0; stamp = stamp.0; rows = rows.0; index = index.0 }), index.1)

-- a Tomb's version is above that of the Tomb before it
abbrev pub tomb_at : Option ℕ → List ℕ → Reading ChainMark
tomb_at before bytes = do
  version ← number_at w64 bytes
  wanted (option_map_or (λ n. nat_lt n version.0) before true) bytes (Ok (marks.Tomb version.0, version.1))

-- the next Hold, behind its tag
abbrev pub hold_at : List ℕ → Reading ChainMark
hold_at bytes = do
  holder ← holder_at bytes
  version ← number_at w64 holder.1
  Ok (marks.Hold holder.0 version.0, version.1)

-- the next Release, behind its tag
abbrev pub release_at : List ℕ → Reading ChainMark
release_at bytes = do
  holder ← holder_at bytes
  Ok (marks.Release holder.0, holder.1)

-- the next Discard, behind its tag
abbrev pub discard_at : List ℕ → Reading ChainMark
discard_at bytes = do
  n ← number_at w64 bytes
  pieces ← wanted (nat_le 1 n.0) bytes (pieces_at None n.0 n.1)
  Ok (marks.Discard pieces.0, pieces.1)

-- the next link of a Compact, whose version is above the one before it, with a byte 1 where it is live, or 0
abbrev pub told_link_at : Option ℕ → List ℕ → Reading ToldLink
told_link_at before bytes = do
  version ← number_at w64 bytes
  stamp ← wanted (option_map_or (λ n. nat_lt n version.0) before true) bytes (signed_at version.1)
  rows ← number_at w32 stamp.1
  index ← key_of_at kinds.TableIndex rows.1
  live ← number_at w8 index.1
  wanted (nat_le live.0 1) index.1
      (Ok (record { row = record { version = version.0; stamp = stamp.0; rows = rows.0; index = index.0 }; live = nat_eq live.0 1 }, live.1))

-- the next n links of a Compact
abbrev pub told_at : Option ℕ → ℕ → List ℕ → Reading (List ToldLink)
told_at before zero bytes = Ok ([], bytes)
told_at before (suc n) bytes = do
  link ← told_link_at before bytes
  more ← told_at (Some link.0.row.version) n link.1
  Ok (link.0 ∷ more.0, more.1)

-- the holder and version stand before the other, by client, serial and version
abbrev pub hold_before : HoldRow → HoldRow → Bool
hold_before a b =
    nat_lt a.holder.client b.holder.client
    || (nat_eq a.holder.client b.holder.client && (nat_lt a.holder.serial b.holder.serial || (nat_eq a.holder.serial b.holder.serial && nat_lt a.version b.version)))

-- the next n holds of a Compact, ascending. The fault is at the first of the three numbers that falls, or at a version that does not rise
abbrev pub told_holds_at : Option HoldRow → ℕ → List ℕ → Reading (List HoldRow)
told_holds_at before zero bytes = Ok ([], bytes)
told_holds_at before (suc n) bytes = do
  client ← number_at w32 bytes
  serial ← wanted (option_map_or (λ (w : HoldRow). nat_le w.holder.client client.0) before true) bytes (number_at w64 client.1)
  version ← wanted (option_map_or (λ (w : HoldRow). nat_lt w.holder.client client.0 || nat_le w.holder.serial serial.0) before true) client.1 (number_at w64 serial.1)
  more ← wanted (option_map_or (λ (w : HoldRow). hold_before w (record { holder = record { client = client.0; serial = serial.0 }; version = version.0 })) before true) serial.1
      (told_holds_at (Some (record { holder = record { client = client.0; serial = serial.0 }; version = version.0 })) n version.1)
  Ok (record { holder = record { client = client.0; serial = serial.0 }; version = version.0 } ∷ more.0, more.1)

-- the next Compact, behind its tag
abbrev pub compact_at : List ℕ → Reading ChainMark
compact_at bytes = do
  n ← number_at w64 bytes
  links ← told_at None n.0 n.1
  m ← number_at w64 links.1
  holds ← told_holds_at None m.0 m.1
  k ← number_at w64 holds.1
  pieces ← pieces_at None k.0 k.1
  Ok (marks.Compact (record { links = links.0; holds = holds.0; pieces = pieces.0 }), pieces.1)

-- the mark of a tag
abbrev pub mark_at : ℕ → Option ℕ → List ℕ → Reading ChainMark
mark_at tag tomb bytes =
    if nat_eq tag 1 then link_at bytes
    else if nat_eq tag 2 then tomb_at tomb bytes
    else if nat_eq tag 3 then hold_at bytes
    else if nat_eq tag 4 then release_at bytes
    else if is_compact tag then compact_at bytes
    else discard_at bytes

-- the version of a Tomb
abbrev pub tomb_of : ChainMark → Option ℕ
tomb_of (marks.Tomb version) = Some version
tomb_of _ = None

-- the next n marks
abbrev pub marks_at : Form → Option ℕ → ℕ → List ℕ → Reading (List ChainMark)
marks_at form tomb zero bytes = Ok ([], bytes)
marks_at form tomb (suc n) bytes = do
  behind ← form_at form bytes
  mark ← mark_at behind.0.0 tomb behind.1
  more ← marks_at behind.0.1 (tomb_of mark.0) n mark.1
  Ok (mark.0 ∷ more.0, more.1)

-- a byte 0, or a byte 1 and a Version key
abbrev pub optional_key_at : List ℕ → Reading (Option Key)
optional_key_at bytes = do
  flag ← number_at w8 bytes
  wanted (nat_le flag.0 1) bytes (if nat_eq flag.0 0 then Ok (None, flag.1) else some flag.1)
  where
    some : List ℕ → Reading (Option Key)
    some bytes = do
      key ← key_of_at kinds.Version bytes
      Ok (Some key.0, key.1)

-- the element that the bytes begin with
unfoldable pub entry_at : List ℕ → Reading Entry
entry_at bytes = do
  m ← magic_at entry_magic bytes
  prev ← optional_key_at m.1
  n ← number_at w64 prev.1
  changes ← wanted (nat_le 1 n.0) prev.1 (marks_at (form_on prev.0) None n.0 n.1)
  Ok (record { prev = prev.0; changes = changes.0 }, changes.1)

-- the element that the bytes spell, or the fault
unfoldable pub entry_of : List ℕ → Result Entry ℕ
unfolding entry_at
entry_of bytes = whole (entry_at bytes)

-- the next n symbols of a snapshot, ascending. A name that does not rise is a fault at the name, behind its length
abbrev pub snap_rows_at : Option Name → ℕ → List ℕ → Reading (List SnapRow)
snap_rows_at before zero bytes = Ok ([], bytes)
snap_rows_at before (suc n) bytes = do
  symbol ← name_at bytes
  version ← wanted (option_map_or (λ s. name_before s symbol.0) before true) (drop 1 bytes) (number_at w64 symbol.1)
  index ← key_of_at kinds.TableIndex version.1
  more ← snap_rows_at (Some symbol.0) n index.1
  Ok (record { symbol = symbol.0; version = version.0; index = index.0 } ∷ more.0, more.1)

-- the snapshot that the bytes begin with
unfoldable pub snap_at : List ℕ → Reading SnapBody
snap_at bytes = do
  m ← magic_at snap_magic bytes
  holder ← holder_at m.1
  n ← number_at w64 holder.1
  rows ← wanted (nat_le 1 n.0) holder.1 (snap_rows_at None n.0 n.1)
  Ok (record { holder = holder.0; rows = rows.0 }, rows.1)

-- the snapshot that the bytes spell, or the fault
unfoldable pub snap_of : List ℕ → Result SnapBody ℕ
unfolding snap_at
snap_of bytes = whole (snap_at bytes)
