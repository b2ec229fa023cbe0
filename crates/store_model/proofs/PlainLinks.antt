-- The keys that a link reaches, and links whose index was put whole, as each is while gate P is closed.
use Rattle.std.proofs.Common.{◌≡◌, ℕ, true, false, List, [], ◌∷◌, ◌++◌, map, ap, sym, ◌∙◌, subst, refl, Option, Some, None, Result, Ok, Err}
use Rattle.std.specs.Prelude.{Contains, IsOk, option_map, option_and_then}
use Rattle.std.proofs.lemmas.Bool.{true≢false}
use Rattle.byte_fields.specs.Reading.{read_of}
use Rattle.segment_cut.specs.Tiles.{Tile}
use Rattle.index_tree.specs.declared.index.Slot.{Slot}
use Rattle.index_tree.specs.declared.index.Index.{Index}
use Rattle.index_tree.specs.IndexText.{index_of}
use Rattle.index_tree.specs.PageText.{object_of}
use Rattle.index_tree.specs.PageRules.{Page}
use Rattle.key_kind.specs.declared.key.KeyKind.TheVariants as kinds
use Rattle.key_kind.specs.declared.key.Key.{Key}
use Rattle.key_kind.specs.Names.{Name}
use Rattle.bucket_core.specs.History.{History, Bytes, body_put, PutsStay}
use Rattle.store_model.specs.declared.chain.LinkRow.{LinkRow}
use Rattle.store_model.specs.Links.{Linked, linked, links, Paged, whole_index, index_put, tiles_put, reached}
use Rattle.store_model.specs.PlainLinks.{flat_put}
use Rattle.store_model.specs.Law.{IsLawful}
use Rattle.store_model.proofs.Lists.{contains_first, contains_later, contains_right}
use Rattle.store_model.proofs.Flat.{flat_object}
use Rattle.store_model.proofs.Lawful.{lawful_as_put}
use Rattle.store_model.proofs.Plainly.{plain_body, lawful_is_plain, index_kinds}

-- ---- what a link reaches

-- a link reaches its index key
pub index_in_reach : (l : Linked) → Contains (reached l) l.row.index
index_in_reach l = contains_first l.row.index (map (λ (p : Page). p.row.key) l.pages ++ map (λ (s : Slot). s.key) l.index.slots)

-- and the keys of its slots
pub slot_in_reach : (l : Linked) (key : Key) → Contains (map (λ (s : Slot). s.key) l.index.slots) key → Contains (reached l) key
slot_in_reach l key c =
    contains_later key l.row.index (map (λ (p : Page). p.row.key) l.pages ++ map (λ (s : Slot). s.key) l.index.slots)
    (contains_right (map (λ (p : Page). p.row.key) l.pages) (map (λ (s : Slot). s.key) l.index.slots) key c)

-- without pages these are all
pub plain_reach : (l : Linked) → l.pages ≡ [] → reached l ≡ l.row.index ∷ map (λ (s : Slot). s.key) l.index.slots
plain_reach l none = ap (λ (ps : List Page). l.row.index ∷ (map (λ (p : Page). p.row.key) ps ++ map (λ (s : Slot). s.key) l.index.slots)) none

-- ---- an index that was put whole

-- an index without pages
abbrev pub flat : Index → Paged
flat i = record { pages = []; index = i }

pub flat_is_put : (h : History) (key : Key) (body : Bytes) (i : Index) → body_put h key ≡ Some body → index_of body ≡ Ok i → index_put h key ≡ Some (flat i)
flat_is_put h key body i put is =
    ap (λ o. option_and_then (whole_index h) (option_and_then (λ b. read_of (object_of b)) o)) put ∙ ap (λ r. option_and_then (whole_index h) (read_of r)) (flat_object body i is)

-- the link of a row with this index and these tiles
pub flat_linked : (h : History) (row : LinkRow) (i : Index) (tiles : List Tile) → index_put h row.index ≡ Some (flat i) → tiles_put h i.slots ≡ Some tiles
    → linked h row ≡ Some (record { row = row; pages = []; index = i; tiles = tiles })
flat_linked h row i tiles put found =
    ap (λ o. option_and_then (λ (p : Paged). option_map (λ t. record { row = row; pages = p.pages; index = p.index; tiles = t }) (tiles_put h p.index.slots)) o) put
    ∙ ap (λ o. option_map (λ t. record { row = row; pages = []; index = i; tiles = t }) o) found

-- a link has the index and the tiles that were put
pub record Parts (h : History) (row : LinkRow) (l : Linked) : Type 0 where
  pub paged : Paged
  pub put : index_put h row.index ≡ Some paged
  pub index : paged.index ≡ l.index
  pub tiles : tiles_put h l.index.slots ≡ Some l.tiles

pub linked_parts : (h : History) (row : LinkRow) (l : Linked) → linked h row ≡ Some l → Parts h row l
linked_parts h row l e = by (index_put h row.index) refl e
  where
    of : (i : Paged) (t : Option (List Tile)) → index_put h row.index ≡ Some i → tiles_put h i.index.slots ≡ t → option_map (λ tiles. record { row = row; pages = i.pages; index = i.index; tiles = tiles }) t ≡ Some l → Parts h row l
    of i None put is e = absurd cc
    of i (Some tiles) put is e =
        let same : record { row = row; pages = i.pages; index = i.index; tiles = tiles } ≡ l = cc in
        subst (Parts h row) same (record { paged = i; put = put; index = refl; tiles = is })

    by : (o : Option Paged) → index_put h row.index ≡ o → option_and_then (λ i. option_map (λ tiles. record { row = row; pages = i.pages; index = i.index; tiles = tiles }) (tiles_put h i.index.slots)) o ≡ Some l → Parts h row l
    by None put e = absurd cc
    by (Some i) put e = of i (tiles_put h i.index.slots) put refl e

some_paged : (a b : Paged) → Some a ≡ Some b → a ≡ b
some_paged a b e = cc

none_paged : (o : Option Paged) (p : Paged) → o ≡ Some p → o ≡ None → ⊥
none_paged o p a b = cc

-- the index of a link is the one that was put whole
pub flat_index_is : (h : History) (row : LinkRow) (l : Linked) (i : Index) → linked h row ≡ Some l → index_put h row.index ≡ Some (flat i) → l.index ≡ i
flat_index_is h row l i is put =
    let parts = linked_parts h row l is in
    sym parts.index ∙ ap (λ (p : Paged). p.index) (some_paged parts.paged (flat i) (sym parts.put ∙ put))

-- the body that was put under the index key of a lawful link spells its index
pub record Spells (h : History) (row : LinkRow) (l : Linked) : Type 0 where
  pub body : Bytes
  pub put : body_put h row.index ≡ Some body
  pub spelled : index_of body ≡ Ok l.index

pub linked_spells : (h : History) → IsLawful h → (row : LinkRow) (l : Linked) → row.index.kind ≡ kinds.TableIndex → linked h row ≡ Some l → Spells h row l
linked_spells h lawful row l kind e = by (body_put h row.index) refl
  where
    of : (body : Bytes) (r : Result Index ℕ) → body_put h row.index ≡ Some body → index_of body ≡ r → IsOk r → Spells h row l
    of body (Err n) put is ok = absurd (true≢false (sym ok))
    of body (Ok i) put is ok = record {
      body = body;
      put = put;
      spelled = is ∙ ap (λ (x : Index). Ok x) (sym (flat_index_is h row l i e (flat_is_put h row.index body i put is)));
    }

    by : (o : Option Bytes) → body_put h row.index ≡ o → Spells h row l
    by None put =
        let parts = linked_parts h row l e in
        absurd (none_paged (index_put h row.index) parts.paged parts.put (ap (λ o. option_and_then (whole_index h) (option_and_then (λ b. read_of (object_of b)) o)) put))
    by (Some body) put = of body (index_of body) put refl (plain_body h (lawful_is_plain h lawful) row.index body kind put)

-- so the index of a lawful link is what was put whole under its key
pub linked_flat : (h : History) → IsLawful h → (symbol : Name) (l : Linked) → Contains (links h symbol) l → flat_put h l.row.index ≡ Some l.index
linked_flat h lawful symbol l c =
    let s = linked_spells h lawful l.row l (index_kinds h lawful symbol l c) ((lawful_as_put h lawful).links symbol l c) in
    ap (λ o. option_and_then (λ body. read_of (index_of body)) o) s.put ∙ ap read_of s.spelled

-- and stays so
pub flat_stays : (h later : History) → PutsStay h later → (key : Key) (i : Index) → flat_put h key ≡ Some i → flat_put later key ≡ Some i
flat_stays h later stay key i e = by (body_put h key) refl e
  where
    by : (o : Option Bytes) → body_put h key ≡ o → option_and_then (λ body. read_of (index_of body)) o ≡ Some i → flat_put later key ≡ Some i
    by None is f = absurd cc
    by (Some body) is f = ap (λ o. option_and_then (λ body. read_of (index_of body)) o) (stay key body is) ∙ f
