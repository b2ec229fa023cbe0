-- What may not be linked: an index whose key tells another version or other stamps than its link, a new tile whose key tells another version, and a
-- page whose key does not stand before that of its root.
use Rattle.segment_bytes.specs.Heads.{head_at, length_at, name_at, text_at, type_at}
use Rattle.segment_bytes.specs.Sheets.{columns_at, count_at, rows_at, series_at, sheet_at, sheet_text, stamp_at, stamps_at}
use Rattle.segment_bytes.specs.CellTexts.{cells_at, cells_text}
use Rattle.byte_fields.specs.Reading.{signed_text}
use Rattle.std.proofs.Common.{◌≡◌, ℕ, ◌<◌, ◌≤◌, List, [], ◌∷◌, sym, ap, refl, inl, inr, arith, pos, Some, None, Option, subst}
use Rattle.std.specs.Prelude.{Contains}
use Rattle.std.specs.List.{AllByRecursion}
use Rattle.std.proofs.lemmas.Bool.{true≢false}
use Rattle.std.specs.Str.{is_utf8, chars}
use lib.Utf8.{encode}
use Rattle.segment_bytes.specs.Segments.{segment_of, segment_text, sheet_spelled}
use Rattle.index_tree.specs.declared.index.Slot.{Slot}
use Rattle.index_tree.specs.declared.index.Index.{Index}
use Rattle.index_tree.specs.IndexText.{index_text, index_of}
use Rattle.index_tree.specs.PageText.{object_of}
use Rattle.index_tree.specs.PageRules.{Page}
use Rattle.key_kind.specs.declared.key.KeyKind.{KeyKind}
use Rattle.key_kind.specs.declared.key.KeyKind.TheVariants as kinds
use Rattle.key_kind.specs.declared.key.Key.{Key}
use Rattle.key_kind.specs.Names.{Name}
use Rattle.key_kind.specs.KeyText.{key_at, key_text}
use Rattle.bucket_core.specs.declared.event.Change.{Change}
use Rattle.bucket_core.specs.declared.event.Change.TheVariants as changes
use Rattle.bucket_core.specs.declared.event.Event.{Event}
use Rattle.bucket_core.specs.declared.event.Event.TheVariants as events
use Rattle.bucket_core.specs.History.{History}
use Rattle.bucket_core.specs.Laws.{MayFollow}
use Rattle.store_model.specs.declared.chain.LinkRow.{LinkRow}
use Rattle.store_model.specs.declared.chain.ChainMark.{ChainMark}
use Rattle.store_model.specs.declared.chain.ChainMark.TheVariants as marks
use Rattle.store_model.specs.declared.chain.Entry.{Entry}
use Rattle.store_model.specs.ChainText.{entry_text, entry_of}
use Rattle.store_model.specs.Library.{Version}
use Rattle.store_model.specs.Links.{Linked, linked}
use Rattle.store_model.specs.Commits.{FitsLink, MayNameKey, MayChange}
use Rattle.store_model.specs.Law.{IsClaimed}
use Rattle.store_model.proofs.Lists.{contains_cases, contains_none}
use Rattle.store_model.proofs.Telling.{is_change}
use Rattle.model_examples.proofs.SmallFrames.{S}
use Rattle.model_examples.proofs.Witness as w

-- ---- a second version, which client 2 writes behind the first

-- a key of client 2
abbrev key : KeyKind → ℕ → ℕ → ℕ → Key
key kind serial version stamp = record { kind = kind; name = S; client = 2; serial = serial; version = version; first = pos stamp; last = pos stamp }

-- its index, whose tile was made for this version
abbrev index : ℕ → Index
index version = record { schema = w.table.schema; rows = 1; slots = record { key = key kinds.TableData 0 version 1; part = w.part; first = pos 1; last = pos 1 } ∷ [] }

-- its row, with an index key of this version and these stamps
abbrev row : ℕ → ℕ → LinkRow
row version stamp = record { version = 1; stamp = pos 60; rows = 1; index = key kinds.TableIndex 1 version stamp }

abbrev entry : LinkRow → Entry
entry r = record { prev = Some (w.key kinds.Version 2); changes = marks.Link r ∷ [] }

-- all is put, the tile for this version
abbrev prepared : ℕ → LinkRow → History
prepared version r = events.Put 2 (key kinds.Version 2 0 0) (entry_text (entry r)) ∷ events.Put 2 r.index (index_text (index version)) ∷ events.Put 2 (key kinds.TableData 0 version 1) (segment_text w.table)
    ∷ w.written

abbrev list : List Change
list = changes.Wrote w.table (pos 60) ∷ []

abbrev write : Event
write = events.Refer 2 S (Some (w.key kinds.Version 2)) (key kinds.Version 2 0 0) list

-- ---- what its Refer claims

abbrev row_of_mark : List ChainMark → LinkRow
row_of_mark (marks.Link r ∷ more) = r
row_of_mark _ = w.row

abbrev row_of_first : Option Entry → LinkRow
row_of_first None = w.row
row_of_first (Some e) = row_of_mark e.changes

abbrev slots_of : Option Linked → List Slot
slots_of None = []
slots_of (Some l) = l.index.slots

abbrev change_of : (version : ℕ) (r : LinkRow) → MayFollow IsClaimed (prepared version r) write → MayChange (prepared version r) 2 S (Some (w.key kinds.Version 2)) (key kinds.Version 2 0 0) list
change_of version r may = is_change (prepared version r) 2 S (Some (w.key kinds.Version 2)) (key kinds.Version 2 0 0) list refl may.1

zero_is_not_one : ◌≡◌ {A = ℕ} 0 1 → ⊥
zero_is_not_one e = absurd cc

stamp_0_is_not_1 : pos 0 ≡ pos 1 → ⊥
stamp_0_is_not_1 e = absurd cc

-- an index under a key of another version
pub no_index_key_of_another_version : MayFollow IsClaimed (prepared 1 (row 0 1)) write → ⊥
unfolding entry_of key_at key_text signed_text
no_index_key_of_another_version may =
    let change = change_of 1 (row 0 1) may in
    let is : row 0 1 ≡ change.row = ap row_of_first change.spelled in
    zero_is_not_one (subst (λ (r : LinkRow). r.index.version ≡ r.version) (sym is) change.fits.0.0.new_index.fresh.made_for)

-- an index under a key of other stamps than the frame's
pub no_index_key_of_other_stamps : MayFollow IsClaimed (prepared 1 (row 1 0)) write → ⊥
unfolding entry_of key_at key_text signed_text
no_index_key_of_other_stamps may =
    let change = change_of 1 (row 1 0) may in
    let is : row 1 0 ≡ change.row = ap row_of_first change.spelled in
    stamp_0_is_not_1 (subst (λ (r : LinkRow). r.index.first ≡ pos 1) (sym is) change.fits.0.0.index_stamps.0)

-- an index under a key that tells nothing: version 0, and stamps 0 and 0
pub no_index_key_that_tells_nothing : MayFollow IsClaimed (prepared 1 (row 0 0)) write → ⊥
unfolding entry_of key_at key_text signed_text
no_index_key_that_tells_nothing may =
    let change = change_of 1 (row 0 0) may in
    let is : row 0 0 ≡ change.row = ap row_of_first change.spelled in
    zero_is_not_one (subst (λ (r : LinkRow). r.index.version ≡ r.version) (sym is) change.fits.0.0.new_index.fresh.made_for)

-- a new tile under a key of another version
pub no_new_tile_of_another_version : MayFollow IsClaimed (prepared 0 (row 1 1)) write → ⊥
unfolding object_of index_of entry_of segment_text sheet_text cells_text segment_of sheet_spelled sheet_at rows_at count_at stamps_at stamp_at columns_at series_at head_at type_at length_at name_at text_at cells_at is_utf8 chars encode signed_text key_at key_text
no_new_tile_of_another_version may =
    let change = change_of 0 (row 1 1) may in
    let fits : FitsLink (prepared 0 (row 1 1)) 2 S change.row (record { number = 1; stamp = pos 60; frame = w.table }) = change.fits.0.0 in
    let is : row 1 1 ≡ change.row = ap row_of_first change.spelled in
    let slots : (index 0).slots ≡ fits.link.index.slots = ap slots_of (subst (λ r. linked (prepared 0 (row 1 1)) r ≡ Some fits.link) (sym is) fits.link_is) in
    let keys = subst (λ ss. AllByRecursion (λ (s : Slot). MayNameKey (prepared 0 (row 1 1)) 2 change.row.version S s.key) ss) (sym slots) fits.keys in
    elim keys.0.fresh_or_shared [
      | inl fresh ↦ zero_is_not_one (subst (λ (r : LinkRow). ◌≡◌ {A = ℕ} 0 r.version) (sym is) fresh.made_for)
      | inr shared ↦ true≢false (sym shared)
    ]

-- a page whose serial is not below its root's, in any history
pub no_page_above_its_root : (h : History) (client : ℕ) (symbol : Name) (r : LinkRow) (v : Version) (f : FitsLink h client symbol r v) (p : Page)
    → Contains f.link.pages p → r.index.serial ≤ p.row.key.serial → ⊥
no_page_above_its_root h client symbol r v f p there above = by f.link.pages f.pages_before there
  where
    by : (pages : List Page) → AllByRecursion (λ (q : Page). q.row.key.serial < r.index.serial) pages → Contains pages p → ⊥
    by [] below c = contains_none p c
    by (q ∷ pages) below c = elim (contains_cases p q pages c) [
      | inl same ↦ let here : p.row.key.serial < r.index.serial = subst (λ (x : Page). x.row.key.serial < r.index.serial) same below.0 in omega (arith, here, above)
      | inr later ↦ by pages below.1 later
    ]
