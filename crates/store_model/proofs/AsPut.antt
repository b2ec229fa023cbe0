-- Links, pieces and elements are still what was put under their keys.
use Rattle.std.proofs.Common.{◌≡◌, ℕ, true, false, List, [], ◌∷◌, ◌++◌, refl, ap, sym, ◌∙◌, subst, inl, inr, Option, Some, None, cond, Ok}
use Rattle.std.specs.Prelude.{Contains, fold, option_map, option_and_then, is_some}
use Rattle.std.specs.List.{cons_option}
use Rattle.std.proofs.lemmas.Bool.{true≢false}
use Rattle.frame_core.specs.Frames.{Frame}
use Rattle.byte_fields.specs.Reading.{read_of}
use Rattle.store_model.proofs.Lists.{contains_append, contains_cases, contains_none}
use Rattle.segment_bytes.specs.Segments.{segment_of}
use Rattle.index_tree.specs.declared.index.Slot.{Slot}
use Rattle.index_tree.specs.declared.page.PageRow.{PageRow}
use Rattle.index_tree.specs.declared.page.IndexObject.{IndexObject}
use Rattle.index_tree.specs.declared.page.IndexObject.TheVariants as objects
use Rattle.index_tree.specs.PageText.{object_of}
use Rattle.index_tree.specs.PageRules.{Page}
use Rattle.segment_cut.specs.Tiles.{Tile}
use Rattle.key_kind.specs.declared.key.Key.{Key}
use Rattle.key_kind.specs.Names.{Name, same_name}
use Rattle.key_kind.proofs.KeyTests.{same_key_self}
use Rattle.bucket_core.specs.declared.event.Change.{Change}
use Rattle.bucket_core.specs.declared.event.Event.TheVariants as events
use Rattle.bucket_core.specs.History.{History, Bytes, body_put, PutOnce, PutsStay}
use Rattle.store_model.proofs.Histories.{put_stays}
use Rattle.store_model.specs.declared.chain.LinkRow.{LinkRow}
use Rattle.store_model.specs.declared.chain.ChainMark.{ChainMark}
use Rattle.store_model.specs.declared.chain.ChainMark.TheVariants as marks
use Rattle.store_model.specs.declared.chain.Entry.{Entry}
use Rattle.store_model.specs.ChainText.{entry_of}
use Rattle.store_model.specs.Links.{Linked, linked, links, links_at, links_of, links_in, Paged, paged_index, object_put, page_in, with_page, pages_put, whole_index, index_put, tiles_put, frame_put, with_tile, element, entries}
use Rattle.store_model.specs.Library.{State, Piece, state_of, after_change, piece_staged, staged_key, after_changes}
use Rattle.store_model.specs.Law.{IsLawful, MayPut, SpellsKind, HasStamps}
use Rattle.store_model.proofs.Putting.{staged_here, piece_here, staged_key_is}
use Rattle.store_model.proofs.Linking.{linked_row}
use Rattle.store_model.proofs.Telling.{element_there}

-- an option that is Some by a step is Some before it, and the step gives what it gives
module _ {A B : Type 0} where
  pub then_some : (f : A → Option B) (o p : Option A) (b : B) → ((a : A) → o ≡ Some a → p ≡ Some a) → option_and_then f o ≡ Some b → option_and_then f p ≡ Some b
  then_some f None p b stays e = absurd cc
  then_some f (Some a) p b stays e = subst (λ q. option_and_then f q ≡ Some b) (sym (stays a refl)) e

module _ (h later : History) (stay : PutsStay h later) where
  pub frame_stays : (key : Key) (f : Frame) → frame_put h key ≡ Some f → frame_put later key ≡ Some f
  frame_stays key f e = then_some (λ body. read_of (segment_of body)) (body_put h key) (body_put later key) f (λ b is. stay key b is) e

  pub object_stays : (key : Key) (o : IndexObject) → object_put h key ≡ Some o → object_put later key ≡ Some o
  object_stays key o e = then_some (λ body. read_of (object_of body)) (body_put h key) (body_put later key) o (λ b is. stay key b is) e

  -- both parts of a page are there
  page_parts : (row : PageRow) (s : Option (List Slot)) (rest : Option (List Page)) (pages : List Page) → with_page row s rest ≡ Some pages
      → (slots : List Slot) × (more : List Page) × (s ≡ Some slots) × (rest ≡ Some more)
  page_parts row None rest pages e = absurd cc
  page_parts row (Some slots) None pages e = absurd cc
  page_parts row (Some slots) (Some more) pages e = (slots, more, refl, refl)

  pub pages_stay : (rows : List PageRow) (pages : List Page) → pages_put h rows ≡ Some pages → pages_put later rows ≡ Some pages
  pages_stay [] pages e = e
  pages_stay (p ∷ rows) pages e =
      let r = page_parts p (option_and_then page_in (object_put h p.key)) (pages_put h rows) pages e in
      let front : option_and_then page_in (object_put later p.key) ≡ Some r.0 = then_some page_in (object_put h p.key) (object_put later p.key) r.0 (λ o is. object_stays p.key o is) r.2 in
      let back : pages_put later rows ≡ Some r.1 = pages_stay rows r.1 r.3 in
      let now : with_page p (option_and_then page_in (object_put later p.key)) (pages_put later rows) ≡ with_page p (option_and_then page_in (object_put h p.key)) (pages_put h rows) =
      (λ i. with_page p ((front ∙ sym r.2) i) ((back ∙ sym r.3) i)) in
      now ∙ e

  whole_stays : (o : IndexObject) (i : Paged) → whole_index h o ≡ Some i → whole_index later o ≡ Some i
  whole_stays (objects.Flat x) i e = e
  whole_stays (objects.Root r) i e = then_some (paged_index r) (pages_put h r.pages) (pages_put later r.pages) i (λ pages is. pages_stay r.pages pages is) e
  whole_stays (objects.Page slots) i e = absurd cc

  pub index_stays : (key : Key) (i : Paged) → index_put h key ≡ Some i → index_put later key ≡ Some i
  index_stays key i e = by (object_put h key) refl e
    where
      by : (o : Option IndexObject) → object_put h key ≡ o → option_and_then (whole_index h) o ≡ Some i → index_put later key ≡ Some i
      by None is e = absurd cc
      by (Some o) is e = ap (option_and_then (whole_index later)) (object_stays key o is) ∙ whole_stays o i e

  pub element_stays : (key : Key) (x : Entry) → element h key ≡ Some x → element later key ≡ Some x
  element_stays key x e = then_some (λ body. read_of (entry_of body)) (body_put h key) (body_put later key) x (λ b is. stay key b is) e

  -- both parts of a tile are there
  tile_parts : (s : Slot) (f : Option Frame) (rest : Option (List Tile)) (tiles : List Tile) → with_tile s.part f rest ≡ Some tiles
      → (frame : Frame) × (more : List Tile) × (f ≡ Some frame) × (rest ≡ Some more)
  tile_parts s None rest tiles e = absurd cc
  tile_parts s (Some frame) None tiles e = absurd cc
  tile_parts s (Some frame) (Some more) tiles e = (frame, more, refl, refl)

  pub tiles_stay : (slots : List Slot) (tiles : List Tile) → tiles_put h slots ≡ Some tiles → tiles_put later slots ≡ Some tiles
  tiles_stay [] tiles e = e
  tiles_stay (s ∷ slots) tiles e =
      let r = tile_parts s (frame_put h s.key) (tiles_put h slots) tiles e in
      let front : frame_put later s.key ≡ Some r.0 = frame_stays s.key r.0 r.2 in
      let back : tiles_put later slots ≡ Some r.1 = tiles_stay slots r.1 r.3 in
      let now : with_tile s.part (frame_put later s.key) (tiles_put later slots) ≡ with_tile s.part (frame_put h s.key) (tiles_put h slots) =
      (λ i. with_tile s.part ((front ∙ sym r.2) i) ((back ∙ sym r.3) i)) in
      now ∙ e

  pub linked_stays : (row : LinkRow) (l : Linked) → linked h row ≡ Some l → linked later row ≡ Some l
  linked_stays row l e = by (index_put h row.index) refl e
    where
      of : (i : Paged) (tiles : Option (List Tile)) → tiles_put h i.index.slots ≡ tiles → option_map (λ t. record { row = row; pages = i.pages; index = i.index; tiles = t }) tiles ≡ Some l
          → option_map (λ t. record { row = row; pages = i.pages; index = i.index; tiles = t }) (tiles_put later i.index.slots) ≡ Some l
      of i None is e = absurd cc
      of i (Some tiles) is e = ap (option_map (λ t. record { row = row; pages = i.pages; index = i.index; tiles = t })) (tiles_stay i.index.slots tiles is) ∙ e

      by : (i : Option Paged) → index_put h row.index ≡ i → option_and_then (λ i. option_map (λ t. record { row = row; pages = i.pages; index = i.index; tiles = t }) (tiles_put h i.index.slots)) i ≡ Some l → linked later row ≡ Some l
      by None is e = absurd cc
      by (Some i) is e = ap (option_and_then (λ i. option_map (λ t. record { row = row; pages = i.pages; index = i.index; tiles = t }) (tiles_put later i.index.slots))) (index_stays row.index i is) ∙ of i (tiles_put h i.index.slots) refl e

-- ---- links

-- each link of some marks is made of its row
links_made : (h : History) (list : List ChainMark) (l : Linked) → Contains (links_in h list) l → linked h l.row ≡ Some l
links_made h [] l c = absurd (contains_none l c)
links_made h (marks.Link row ∷ list) l c =
    elim (linked h row) as (λ o. linked h row ≡ o → Contains (cons_option o (links_in h list)) l → linked h l.row ≡ Some l) [
      | None ↦ λ e d. links_made h list l d
      | Some made ↦ λ e d. elim (contains_cases l made (links_in h list) d) [
        | inl is ↦ subst (λ (m : Linked). linked h m.row ≡ Some m) is (subst (λ r. linked h r ≡ Some made) (sym (linked_row h row made e)) e)
        | inr rest ↦ links_made h list l rest
      ]
    ] refl c
links_made h (marks.Tomb version ∷ list) l c = links_made h list l c
links_made h (marks.Hold holder version ∷ list) l c = links_made h list l c
links_made h (marks.Release holder ∷ list) l c = links_made h list l c
links_made h (marks.Discard pieces ∷ list) l c = links_made h list l c
links_made h (marks.Compact told ∷ list) l c = links_made h list l c

entry_links_made : (h : History) (o : Option Entry) (l : Linked) → Contains (links_of h o) l → linked h l.row ≡ Some l
entry_links_made h None l c = absurd (contains_none l c)
entry_links_made h (Some e) l c = links_made h e.changes l c

pub links_as_put : (h : History) → PutOnce h → (symbol : Name) (l : Linked) → Contains (links h symbol) l → linked h l.row ≡ Some l
links_as_put [] once symbol l c = absurd (contains_none l c)
links_as_put (events.Put client key body ∷ h) once symbol l c =
    linked_stays h (events.Put client key body ∷ h) (put_stays h (events.Put client key body) once) l.row l (links_as_put h once.1 symbol l c)
links_as_put (events.Refer client s was entry list ∷ h) once symbol l c =
    elim (same_name s symbol) as (λ t. Contains (cond t (links_at h entry ++ links h symbol) (links h symbol)) l → linked h l.row ≡ Some l) [
      | true ↦ λ d. elim (contains_append (links_at h entry) (links h symbol) l d) [
        | inl new ↦ entry_links_made h (element h entry) l new
        | inr old ↦ links_as_put h once symbol l old
      ]
      | false ↦ λ d. links_as_put h once symbol l d
    ] c
links_as_put (events.Name client snap body ∷ h) once symbol l c = links_as_put h once symbol l c
links_as_put (events.Unname client snap ∷ h) once symbol l c = links_as_put h once symbol l c
links_as_put (events.Drop client key ∷ h) once symbol l c = links_as_put h once symbol l c

-- ---- pieces

pub staged_same : (st : State) (list : List Change) → (fold after_change st list).staged ≡ st.staged
staged_same st [] = refl
staged_same st (c ∷ list) = staged_same (after_change st c) list

-- the frame of a piece that was just put
new_piece_put : (h : History) (client : ℕ) (key : Key) (body : Bytes) → MayPut h client key body → (symbol : Name) (p : Piece) → Contains (piece_staged symbol key body) p
    → frame_put (events.Put client key body ∷ h) (staged_key symbol p) ≡ Some p.frame
new_piece_put h client key body may symbol p c =
    let here = staged_here symbol key body p c in
    let read = piece_here key (segment_of body) p here.2 in
    let spelled : HasStamps key (segment_of body) = subst (λ kind. SpellsKind key kind body) here.0 may.spelled in
    let stamps : HasStamps key (Ok read.0) = subst (HasStamps key) read.1 spelled in
    let is : staged_key key.name p ≡ key = staged_key_is key read.0 p may.key_is here.0 stamps read.2 in
    let found : frame_put (events.Put client key body ∷ h) key ≡ Some read.0 =
    ap (λ b. option_and_then (λ body. read_of (segment_of body)) (cond b (Some body) (body_put h key))) (same_key_self key) ∙ ap read_of read.1 in
    subst (λ s. frame_put (events.Put client key body ∷ h) (staged_key s p) ≡ Some p.frame) here.1
    (ap (frame_put (events.Put client key body ∷ h)) is ∙ (found ∙ ap (λ (q : Piece). Some q.frame) read.2))

pub pieces_as_put : (h : History) → IsLawful h → PutOnce h → (symbol : Name) (p : Piece) → Contains (state_of h symbol).staged p → frame_put h (staged_key symbol p) ≡ Some p.frame
pieces_as_put [] lawful once symbol p c = absurd (contains_none p c)
pieces_as_put (events.Put client key body ∷ h) lawful once symbol p c = elim (contains_append (piece_staged symbol key body) (state_of h symbol).staged p c) [
  | inl new ↦ new_piece_put h client key body lawful.0.1 symbol p new
  | inr old ↦ frame_stays h (events.Put client key body ∷ h) (put_stays h (events.Put client key body) once) (staged_key symbol p) p.frame (pieces_as_put h lawful.1 once.1 symbol p old)
]
pieces_as_put (events.Refer client s was entry list ∷ h) lawful once symbol p c =
    elim (same_name s symbol) as (λ t. Contains (cond t (after_changes (state_of h symbol) list) (state_of h symbol)).staged p → frame_put h (staged_key symbol p) ≡ Some p.frame) [
      | true ↦ λ d. pieces_as_put h lawful.1 once symbol p (subst (λ ps. Contains ps p) (staged_same (state_of h symbol) list) d)
      | false ↦ λ d. pieces_as_put h lawful.1 once symbol p d
    ] c
pieces_as_put (events.Name client snap body ∷ h) lawful once symbol p c = pieces_as_put h lawful.1 once symbol p c
pieces_as_put (events.Unname client snap ∷ h) lawful once symbol p c = pieces_as_put h lawful.1 once symbol p c
pieces_as_put (events.Drop client key ∷ h) lawful once symbol p c = pieces_as_put h lawful.1 once symbol p c

-- ---- elements

kept_some : {A : Type 0} (o p : Option A) → ((a : A) → o ≡ Some a → p ≡ Some a) → is_some o ≡ true → is_some p ≡ true
kept_some None p stays e = absurd (true≢false (sym e))
kept_some (Some a) p stays e = ap is_some (stays a refl)

pub elements_as_put : (h : History) → IsLawful h → PutOnce h → (symbol : Name) (key : Key) → Contains (entries h symbol) key → is_some (element h key) ≡ true
elements_as_put [] lawful once symbol key c = absurd (contains_none key c)
elements_as_put (events.Put client k body ∷ h) lawful once symbol key c =
    kept_some (element h key) (element (events.Put client k body ∷ h) key) (element_stays h (events.Put client k body ∷ h) (put_stays h (events.Put client k body) once) key) (elements_as_put h lawful.1 once.1 symbol key c)
elements_as_put (events.Refer client s was entry list ∷ h) lawful once symbol key c =
    elim (same_name s symbol) as (λ t. Contains (cond t (entry ∷ entries h symbol) (entries h symbol)) key → is_some (element h key) ≡ true) [
      | true ↦ λ d. elim (contains_cases key entry (entries h symbol) d) [
        | inl is ↦ subst (λ k. is_some (element h k) ≡ true) is (ap is_some (element_there h client s was entry list lawful.0.1).1)
        | inr old ↦ elements_as_put h lawful.1 once symbol key old
      ]
      | false ↦ λ d. elements_as_put h lawful.1 once symbol key d
    ] c
elements_as_put (events.Name client snap body ∷ h) lawful once symbol key c = elements_as_put h lawful.1 once symbol key c
elements_as_put (events.Unname client snap ∷ h) lawful once symbol key c = elements_as_put h lawful.1 once symbol key c
elements_as_put (events.Drop client k ∷ h) lawful once symbol key c = elements_as_put h lawful.1 once symbol key c
