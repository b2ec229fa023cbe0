-- What is claimed of an event, so that it may follow a history.
--     MayPut, MayName, IsDead      what is claimed of a Put, a Name and a Drop
--     IsClaimed           what is claimed of each event
--     IsLawful            each event may follow the events before it
use Rattle.std.specs.Prelude.{◌≡◌, ◌⊎◌, ℕ, false, Result, Ok, Err, ⊤, IsOk}
use Rattle.std.specs.List.{AllByRecursion}
use Rattle.frame_core.specs.Frames.{Frame}
use Rattle.segment_bytes.specs.Segments.{segment_of}
use Rattle.index_tree.specs.IndexText.{index_of}
use Rattle.key_kind.specs.declared.key.KeyKind.{KeyKind}
use Rattle.key_kind.specs.declared.key.KeyKind.TheVariants as kinds
use Rattle.key_kind.specs.declared.key.Key.{Key}
use Rattle.key_kind.specs.Keys.{IsKey, FitsFields}
use Rattle.bucket_core.specs.declared.event.Event.{Event}
use Rattle.bucket_core.specs.declared.event.Event.TheVariants as events
use Rattle.bucket_core.specs.History.{History, Bytes, puts_by}
use Rattle.bucket_core.specs.Laws as laws
use Rattle.store_model.specs.declared.snapshot.SnapBody.{SnapBody}
use Rattle.store_model.specs.ChainText.{entry_of, snap_of}
use Rattle.store_model.specs.Links.{IsUnneeded, IsConsumedPiece, IsOwnUnlinked, IsRetold}
use Rattle.store_model.specs.Holders.{has_name, IsHeldRow}
use Rattle.store_model.specs.Commits.{MayRefer, HasFrameStamps}

-- ---- Put

-- a staged body has its key's stamps
abbrev pub HasStamps : Key → Result Frame ℕ → Type 0
HasStamps key (Ok frame) = HasFrameStamps frame key
HasStamps key (Err fault) = ⊥

-- the body is in the grammar of its key's kind; no other kinds are put.
-- Gate P, closed by `index_of` in the clause of TableIndex: no page and no root of pages is put. It opens with `object_of` in its place, once the
-- readers of indexes read roots and pages. What has to know pages then: a try puts them before their root, whose serial is above theirs
-- (`pages_before` of FitsLink), and drops them again where it is met; a whole index has at most 64 slots (a rule of `index_of` that it still
-- lacks); a reclaim drops them, counts them and leaves none (`IsSwept`, where the outcome Freed is told today without pages), and may find one
-- gone as it may an index. With the gate go: that no link has pages (`plain_links`, `lawful_links`, `no_pages` of WalksPlainly), and that the
-- index of a link is what was put whole under its key (`linked_flat`, with `flat_put` of PlainLinks). Seen to prove with it open: a lawful history
-- with an index in two pages (`paged_lawful`), and that nobody drops a page of its live version (`no_drop_of_a_needed_page`)
abbrev pub SpellsKind : Key → KeyKind → Bytes → Type 0
SpellsKind key kinds.TableData body = IsOk (segment_of body)
SpellsKind key kinds.TableIndex body = IsOk (index_of body)
SpellsKind key kinds.Version body = IsOk (entry_of body)
SpellsKind key kinds.Staged body = HasStamps key (segment_of body)
SpellsKind key kind body = ⊥

-- the key keeps its rules, is the client's next one, and its numbers fit their fields; the body is in its grammar
pub record MayPut (h : History) (client : ℕ) (key : Key) (body : Bytes) : Type 0 where
  pub key_is : IsKey key
  pub fits : FitsFields key
  pub own : key.client ≡ client
  pub next : key.serial ≡ puts_by client h
  pub spelled : SpellsKind key key.kind body

-- ---- Name, Unname, Drop

-- the body is a snapshot of the client's, of a holder that has no name yet, and its versions are held under this holder
pub record MayName (h : History) (client : ℕ) (body : Bytes) : Type 0 where
  pub snapshot : SnapBody
  pub spelled : snap_of body ≡ Ok snapshot
  pub own : snapshot.holder.client ≡ client
  pub unnamed : has_name h snapshot.holder ≡ false
  pub rows : AllByRecursion (IsHeldRow h snapshot.holder) snapshot.rows

-- the key is dead: not needed any more, or a consumed piece, or an own key that nothing links, or an element that was told anew
abbrev pub IsDead : History → Key → ℕ → Type 0
IsDead h key client = IsUnneeded h key ⊎ IsConsumedPiece h key ⊎ IsOwnUnlinked h key client ⊎ IsRetold h key

-- ---- the law

-- what each call shows of its own event
abbrev pub IsClaimed : History → Event → Type 0
IsClaimed h (events.Put client key body) = MayPut h client key body
IsClaimed h (events.Refer client symbol was entry list) = MayRefer h client symbol was entry list
IsClaimed h (events.Name client snap body) = MayName h client body
IsClaimed h (events.Unname client snap) = ⊤
IsClaimed h (events.Drop client key) = IsDead h key client

-- each event of the history is tested and claimed
abbrev pub IsLawful : History → Type 0
IsLawful = laws.IsLawful IsClaimed
