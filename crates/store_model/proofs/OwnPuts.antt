-- A key that a client has just put is neither reached nor an entry, and it stays so while others add lawful events, and while the client puts
-- and drops other keys.
use Rattle.std.proofs.Common.{◌≡◌, ℕ, Bool, true, false, List, [], ◌∷◌, ◌++◌, refl, ap, sym, ◌∙◌, subst, inl, inr, Option, Some, None, cond, nat_eq}
use Rattle.std.specs.Prelude.{Contains, length, map, option_map, option_and_then, is_some}
use Rattle.std.specs.List.{list_any}
use Rattle.std.proofs.lemmas.Bool.{true≢false}
use Rattle.frame_core.specs.Frames.{Frame}
use Rattle.segment_bytes.specs.Segments.{segment_of}
use Rattle.byte_fields.specs.Reading.{read_of}
use Rattle.segment_cut.specs.Tiles.{Tile}
use Rattle.index_tree.specs.declared.index.Slot.{Slot}
use Rattle.index_tree.specs.declared.page.PageRow.{PageRow}
use Rattle.index_tree.specs.declared.page.IndexObject.{IndexObject}
use Rattle.index_tree.specs.declared.page.IndexObject.TheVariants as objects
use Rattle.index_tree.specs.PageText.{object_of}
use Rattle.index_tree.specs.PageRules.{Page}
use Rattle.key_kind.specs.declared.key.KeyKind.{KeyKind}
use Rattle.key_kind.specs.declared.key.KeyKind.TheVariants as kinds
use Rattle.key_kind.specs.declared.key.Key.{Key}
use Rattle.key_kind.specs.Keys.{is_put, same_key}
use Rattle.key_kind.proofs.KeyTests.{same_key_is, same_key_self}
use Rattle.bucket_core.specs.declared.event.Event.{Event}
use Rattle.bucket_core.specs.declared.event.Event.TheVariants as events
use Rattle.bucket_core.specs.History.{History, Bytes, author, stored, body_put, StandsAsPut, PutOnce, AllByOthers}
use Rattle.store_model.specs.declared.chain.LinkRow.{LinkRow}
use Rattle.store_model.specs.declared.chain.Entry.{Entry}
use Rattle.store_model.specs.ChainText.{entry_of}
use Rattle.store_model.specs.Links.{Linked, linked, links, links_at, reached, reaches, is_reached, entries, is_entry, Paged, paged_index, page_slots_of, object_put, page_in, with_page, pages_put, whole_index, tiles_put, frame_put, with_tile, element, IsOwnUnlinked}
use Rattle.store_model.specs.Commits.{MayRefer}
use Rattle.store_model.specs.Law.{IsClaimed, IsLawful, IsDead, MayPut}
use Rattle.store_model.specs.Intact.{IsIntact}
use Rattle.store_model.specs.OwnPuts.{IsOwnPut, AreOwnPuts, IsTableKind}
use Rattle.store_model.proofs.Lists.{contains_cases, contains_none, one_passes, all_weaker}
use Rattle.store_model.proofs.Histories.{put_stays, stands_from}
use Rattle.store_model.proofs.Putting.{put_is_new}
use Rattle.store_model.proofs.Dropping.{it_is_reached}
use Rattle.store_model.proofs.Referring.{at_symbol, reached_cases}
use Rattle.store_model.proofs.Lawful.{lawful_is_intact, lawful_as_put}
use Rattle.store_model.proofs.Stability.{is_false, unreached_stays, no_entry_stays}
use Rattle.store_model.proofs.StableRefer.{stored_stays}

-- ---- a key that nobody put

-- nothing is read under a key that nobody put
no_reading : {A : Type 0} (f : Bytes → Option A) (o : Option Bytes) (a : A) → o ≡ None → option_and_then f o ≡ Some a → ⊥
no_reading f None a none e = cc
no_reading f (Some b) a none e = absurd cc

-- the keys of tiles that were put were put
tiles_were_put : (h : History) (slots : List Slot) (tiles : List Tile) (key : Key) → tiles_put h slots ≡ Some tiles → Contains (map (λ (s : Slot). s.key) slots) key → body_put h key ≡ None → ⊥
tiles_were_put h [] tiles key e c none = contains_none key c
tiles_were_put h (s ∷ slots) tiles key e c none =
    by (frame_put h s.key) refl (tiles_put h slots) refl e (λ more is later. tiles_were_put h slots more key is later none)
  where
    by : (f : Option Frame) → frame_put h s.key ≡ f → (rest : Option (List Tile)) → tiles_put h slots ≡ rest → with_tile s.part f rest ≡ Some tiles
        → ((more : List Tile) → tiles_put h slots ≡ Some more → Contains (map (λ (s : Slot). s.key) slots) key → ⊥) → ⊥
    by None is rest rest_is e later = absurd cc
    by (Some frame) is None rest_is e later = absurd cc
    by (Some frame) is (Some more) rest_is e later = elim (contains_cases key s.key (map (λ (s : Slot). s.key) slots) c) [
      | inl same ↦ no_reading (λ body. read_of (segment_of body)) (body_put h s.key) frame (subst (λ k. body_put h k ≡ None) (sym same) none) is
      | inr there ↦ later more rest_is there
    ]

-- an object was put under a key that was put
no_object : (h : History) (key : Key) (o : IndexObject) → body_put h key ≡ None → object_put h key ≡ Some o → ⊥
no_object h key o none e = no_reading (λ body. read_of (object_of body)) (body_put h key) o none e

no_page : (h : History) (key : Key) (slots : List Slot) → body_put h key ≡ None → option_and_then page_in (object_put h key) ≡ Some slots → ⊥
no_page h key slots none e = by (object_put h key) refl e
  where
    by : (o : Option IndexObject) → object_put h key ≡ o → option_and_then page_in o ≡ Some slots → ⊥
    by None is e = cc
    by (Some o) is e = no_object h key o none is

-- the keys of pages that were put were put
pages_were_put : (h : History) (rows : List PageRow) (pages : List Page) (key : Key) → pages_put h rows ≡ Some pages → Contains (map (λ (p : Page). p.row.key) pages) key → body_put h key ≡ None → ⊥
pages_were_put h [] pages key e c none =
    let same : [] ≡ pages = cc in contains_none key (subst (λ ps. Contains (map (λ (p : Page). p.row.key) ps) key) (sym same) c)
pages_were_put h (p ∷ rows) pages key e c none =
    by (option_and_then page_in (object_put h p.key)) refl (pages_put h rows) refl e (λ more is later. pages_were_put h rows more key is later none)
  where
    by : (s : Option (List Slot)) → option_and_then page_in (object_put h p.key) ≡ s → (rest : Option (List Page)) → pages_put h rows ≡ rest → with_page p s rest ≡ Some pages
        → ((more : List Page) → pages_put h rows ≡ Some more → Contains (map (λ (p : Page). p.row.key) more) key → ⊥) → ⊥
    by None is rest rest_is e older = absurd cc
    by (Some slots) is None rest_is e older = absurd cc
    by (Some slots) is (Some more) rest_is e older =
        let same : (record { row = p; slots = slots } ∷ more) ≡ pages = cc in
        elim (contains_cases key p.key (map (λ (p : Page). p.row.key) more) (subst (λ ps. Contains (map (λ (p : Page). p.row.key) ps) key) (sym same) c)) [
          | inl first ↦ no_page h p.key slots (subst (λ k. body_put h k ≡ None) (sym first) none) is
          | inr later ↦ older more rest_is later
        ]

-- the pages of a whole index are those that were put
whole_pages_were_put : (h : History) (o : IndexObject) (i : Paged) (key : Key) → whole_index h o ≡ Some i → Contains (map (λ (p : Page). p.row.key) i.pages) key → body_put h key ≡ None → ⊥
whole_pages_were_put h (objects.Flat x) i key e c none =
    let same : record { pages = []; index = x } ≡ i = cc in contains_none key (subst (λ (j : Paged). Contains (map (λ (p : Page). p.row.key) j.pages) key) (sym same) c)
whole_pages_were_put h (objects.Root r) i key e c none = by (pages_put h r.pages) refl e
  where
    of : (pages : List Page) (b : Bool) → cond b (Some (record { pages = pages; index = record { schema = r.schema; rows = r.rows; slots = page_slots_of pages } })) None ≡ Some i → i.pages ≡ pages
    of pages true e = ap (λ (o : Option Paged). pages_in o) (sym e)
      where
        pages_in : Option Paged → List Page
        pages_in None = []
        pages_in (Some j) = j.pages
    of pages false e = absurd cc

    by : (o : Option (List Page)) → pages_put h r.pages ≡ o → option_and_then (paged_index r) o ≡ Some i → ⊥
    by None is e = absurd cc
    by (Some pages) is e = pages_were_put h r.pages pages key is (subst (λ ps. Contains (map (λ (p : Page). p.row.key) ps) key) (of pages (nat_eq (length (page_slots_of pages)) r.slots) e) c) none
whole_pages_were_put h (objects.Page slots) i key e c none = absurd cc

-- the keys that a link reaches were put
reached_were_put : (h : History) (row : LinkRow) (l : Linked) (key : Key) → linked h row ≡ Some l → Contains (reached l) key → body_put h key ≡ None → ⊥
reached_were_put h row l key e c none = by (object_put h row.index) refl e
  where
    of : (o : IndexObject) → object_put h row.index ≡ Some o → (i : Paged) → whole_index h o ≡ Some i → (tiles : Option (List Tile)) → tiles_put h i.index.slots ≡ tiles
        → option_map (λ t. record { row = row; pages = i.pages; index = i.index; tiles = t }) tiles ≡ Some l → ⊥
    of o is i whole None tiles_is e = absurd cc
    of o is i whole (Some tiles) tiles_is e =
        let same : record { row = row; pages = i.pages; index = i.index; tiles = tiles } ≡ l = cc in
        elim (reached_cases (record { row = row; pages = i.pages; index = i.index; tiles = tiles }) key (subst (λ k. Contains (reached k) key) (sym same) c)) [
          | inl first ↦ no_object h row.index o (subst (λ k. body_put h k ≡ None) (sym first) none) is
          | inr rest ↦ elim rest [
            | inl page ↦ whole_pages_were_put h o i key whole page none
            | inr slot ↦ tiles_were_put h i.index.slots tiles key tiles_is slot none
          ]
        ]

    by_index : (o : IndexObject) → object_put h row.index ≡ Some o → (i : Option Paged) → whole_index h o ≡ i
        → option_and_then (λ i. option_map (λ t. record { row = row; pages = i.pages; index = i.index; tiles = t }) (tiles_put h i.index.slots)) i ≡ Some l → ⊥
    by_index o is None whole e = absurd cc
    by_index o is (Some i) whole e = of o is i whole (tiles_put h i.index.slots) refl e

    by : (o : Option IndexObject) → object_put h row.index ≡ o
        → option_and_then (λ i. option_map (λ t. record { row = row; pages = i.pages; index = i.index; tiles = t }) (tiles_put h i.index.slots)) (option_and_then (whole_index h) o) ≡ Some l → ⊥
    by None is e = absurd cc
    by (Some o) is e = by_index o is (whole_index h o) refl e

-- no link reaches a key that nobody put
pub unput_is_unreached : (h : History) → IsLawful h → (key : Key) → body_put h key ≡ None → is_reached h key ≡ false
unput_is_unreached h lawful key none = is_false _ (λ e.
    let r = one_passes (λ l. reaches l key) (links h key.name) e in
    reached_were_put h r.0.row r.0 key ((lawful_as_put h lawful).links key.name r.0 r.1) (it_is_reached r.0 key r.2) none)

-- and no Refer names it
pub unput_is_no_entry : (h : History) → IsLawful h → (key : Key) → body_put h key ≡ None → is_entry h key.name key ≡ false
unput_is_no_entry h lawful key none = is_false _ (λ e.
    let r = one_passes (λ k. same_key k key) (entries h key.name) e in
    let there : is_some (element h key) ≡ true = subst (λ k. is_some (element h k) ≡ true) (same_key_is r.0 key r.2) ((lawful_as_put h lawful).elements key.name r.0 r.1) in
    by (element h key) refl there)
  where
    by : (o : Option Entry) → element h key ≡ o → is_some o ≡ true → ⊥
    by None is some = true≢false (sym some)
    by (Some x) is some = no_reading (λ body. read_of (entry_of body)) (body_put h key) x none is

-- what a client puts is its own put from then on
pub put_is_own : (h : History) (client : ℕ) (key : Key) (body : Bytes) → IsLawful h → MayPut h client key body → IsTableKind key.kind → IsOwnPut (events.Put client key body ∷ h) client key body
put_is_own h client key body lawful may table =
    let none : body_put h key ≡ None = put_is_new h client key body may (lawful_is_intact h lawful) in
    record {
      unlinked = record { own = may.own; table = table; unreached = unput_is_unreached h lawful key none; no_entry = unput_is_no_entry h lawful key none };
      put = ap (λ t. cond t (Some body) (body_put h key)) (same_key_self key);
      stands = ap (λ t. cond t (Some body) (stored h key)) (same_key_self key);
    }

-- ---- a Put of another key

pub own_at_put : (h : History) (c : ℕ) (k : Key) (b : Bytes) (client : ℕ) (key : Key) (body : Bytes) → PutOnce (events.Put c k b ∷ h) → IsOwnPut h client key body → IsOwnPut (events.Put c k b ∷ h) client key body
own_at_put h c k b client key body once o = record {
  unlinked = record { own = o.unlinked.own; table = o.unlinked.table; unreached = o.unlinked.unreached; no_entry = o.unlinked.no_entry };
  put = put_stays h (events.Put c k b) once key body o.put;
  stands = elim (same_key k key) as (λ t. same_key k key ≡ t → cond t (Some b) (stored h key) ≡ Some body) [
    | true ↦ λ e. absurd (not_new (subst (λ x. body_put h x ≡ None) (same_key_is k key e) once.0))
    | false ↦ λ e. o.stands
  ] refl;
}
  where
    not_new : body_put h key ≡ None → ⊥
    not_new none = clash (body_put h key) none o.put
      where
        clash : (x : Option Bytes) → x ≡ None → x ≡ Some body → ⊥
        clash x p q = cc

-- ---- events of others

table_is_put : (kind : KeyKind) → IsTableKind kind → is_put kind ≡ true
table_is_put kinds.TableData e = refl
table_is_put kinds.TableIndex e = refl
table_is_put kinds.Version e = refl
table_is_put kinds.VersionRef e = absurd (true≢false (sym e))
table_is_put kinds.Snapshot e = absurd (true≢false (sym e))
table_is_put kinds.Staged e = refl

staged_is_no_table : (kind : KeyKind) → IsTableKind kind → kind ≡ kinds.Staged → ⊥
staged_is_no_table kind table is = true≢false (sym (subst IsTableKind is table))

-- an own key that nothing links is not dead to others
own_is_not_dead : (h : History) (other client : ℕ) (key : Key) → (other ≡ client → ⊥) → IsOwnUnlinked h key client → IsDead h key other → ⊥
own_is_not_dead h other client key apart o dead = elim dead [
  | inl u ↦ true≢false (sym u.once ∙ o.unreached)
  | inr rest ↦ elim rest [
    | inl p ↦ staged_is_no_table key.kind o.table p.staged
    | inr later ↦ elim later [ inl owned ↦ apart (sym owned.own ∙ o.own) | inr r ↦ true≢false (sym r.once ∙ o.no_entry) ]
  ]
]

-- nothing links it after an event of another
unlinked_beside : (h : History) (x : Event) (client : ℕ) (key : Key) → IsClaimed h x → IsIntact h → (author x ≡ client → ⊥) → IsOwnUnlinked h key client → IsOwnUnlinked (x ∷ h) key client
unlinked_beside h (events.Refer c s was entry list) client key claim i apart o = record {
  own = o.own;
  table = o.table;
  unreached = at_symbol s key.name (λ t. list_any (λ l. reaches l key) (cond t (links_at h entry ++ links h key.name) (links h key.name)) ≡ false)
      (λ e. unreached_stays h c was entry list key (may_at e) i client apart o.own o.unreached) o.unreached;
  no_entry = at_symbol s key.name (λ t. list_any (λ k. same_key k key) (cond t (entry ∷ entries h key.name) (entries h key.name)) ≡ false)
      (λ e. no_entry_stays h c was entry list key (may_at e) i client apart o.own o.no_entry) o.no_entry;
}
  where
    may_at : s ≡ key.name → MayRefer h c key.name was entry list
    may_at e = subst (λ n. MayRefer h c n was entry list) e claim
unlinked_beside h (events.Put c k body) client key claim i apart o = record { own = o.own; table = o.table; unreached = o.unreached; no_entry = o.no_entry }
unlinked_beside h (events.Name c snap body) client key claim i apart o = record { own = o.own; table = o.table; unreached = o.unreached; no_entry = o.no_entry }
unlinked_beside h (events.Unname c snap) client key claim i apart o = record { own = o.own; table = o.table; unreached = o.unreached; no_entry = o.no_entry }
unlinked_beside h (events.Drop c k) client key claim i apart o = record { own = o.own; table = o.table; unreached = o.unreached; no_entry = o.no_entry }

-- what stands as it was put, and is put with this body, stands with it
stands_with : (h : History) (key : Key) (body : Bytes) → body_put h key ≡ Some body → StandsAsPut h key → stored h key ≡ Some body
stands_with h key body put s = s.stands ∙ (sym s.put ∙ put)

own_at_other : (h : History) (x : Event) (client : ℕ) (key : Key) (body : Bytes) → IsClaimed h x → IsIntact h → PutOnce (x ∷ h) → (author x ≡ client → ⊥) → IsOwnPut h client key body → IsOwnPut (x ∷ h) client key body
own_at_other h x client key body claim i once apart o =
    let put : body_put (x ∷ h) key ≡ Some body = put_stays h x once key body o.put in
    let kind : is_put key.kind ≡ true = table_is_put key.kind o.unlinked.table in
    record {
      unlinked = unlinked_beside h x client key claim i apart o.unlinked;
      put = put;
      stands = stands_with (x ∷ h) key body put (stands_from (x ∷ h) key kind (stored_stays h x key kind kept claim (ap is_some o.stands)));
    }
  where
    kept : (k : Key) → IsClaimed h x → x ≡ events.Drop (author x) k → same_key k key ≡ false
    kept k claim is = is_false (same_key k key) (λ e.
        own_is_not_dead h (author x) client key apart o.unlinked (subst (λ d. IsDead h d (author x)) (same_key_is k key e) (subst (IsClaimed h) is claim)))

-- an own put stays one while others add lawful events
pub own_beside : (h more : History) (client : ℕ) (key : Key) (body : Bytes) → IsLawful (more ++ h) → AllByOthers client more → IsOwnPut h client key body → IsOwnPut (more ++ h) client key body
own_beside h [] client key body lawful others o = o
own_beside h (x ∷ more) client key body lawful others o =
    own_at_other (more ++ h) x client key body lawful.0.1 (lawful_is_intact (more ++ h) lawful.1) (lawful_is_intact (x ∷ (more ++ h)) lawful).once others.0
    (own_beside h more client key body lawful.1 others.1 o)

-- ---- an own Drop of another key

pub own_at_drop : (h : History) (c : ℕ) (k : Key) (client : ℕ) (key : Key) (body : Bytes) → same_key k key ≡ false → IsOwnPut h client key body → IsOwnPut (events.Drop c k ∷ h) client key body
own_at_drop h c k client key body other o = record {
  unlinked = record { own = o.unlinked.own; table = o.unlinked.table; unreached = o.unlinked.unreached; no_entry = o.unlinked.no_entry };
  put = o.put;
  stands = subst (λ t. cond t None (stored h key) ≡ Some body) (sym other) o.stands;
}

-- ---- several

pub own_puts_beside : (h more : History) (client : ℕ) (puts : List (Key × Bytes)) → IsLawful (more ++ h) → AllByOthers client more → AreOwnPuts h client puts → AreOwnPuts (more ++ h) client puts
own_puts_beside h more client puts lawful others all =
    all_weaker (λ (p : Key × Bytes). IsOwnPut h client p.0 p.1) (λ (p : Key × Bytes). IsOwnPut (more ++ h) client p.0 p.1) (λ p o. own_beside h more client p.0 p.1 lawful others o) puts all

pub own_puts_at_put : (h : History) (client : ℕ) (key : Key) (body : Bytes) (puts : List (Key × Bytes)) → IsLawful h → MayPut h client key body → AreOwnPuts h client puts
    → AreOwnPuts (events.Put client key body ∷ h) client puts
own_puts_at_put h client key body puts lawful may all =
    let once : PutOnce (events.Put client key body ∷ h) = (put_is_new h client key body may (lawful_is_intact h lawful), (lawful_is_intact h lawful).once) in
    all_weaker (λ (p : Key × Bytes). IsOwnPut h client p.0 p.1) (λ (p : Key × Bytes). IsOwnPut (events.Put client key body ∷ h) client p.0 p.1)
    (λ p o. own_at_put h client key body client p.0 p.1 once o) puts all
