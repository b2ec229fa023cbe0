-- A slot of the newest live version: its tile stands, and a new link may name its key.
use Rattle.std.proofs.Common.{◌≡◌, ℕ, true, not, List, [], ◌∷◌, map, refl, ap, sym, ◌∙◌, subst, inl, inr, Option, Some, None, nat_eq}
use Rattle.std.specs.Prelude.{Contains, is_some}
use Rattle.std.specs.List.{AllZip, AllByRecursion}
use Rattle.std.proofs.lemmas.Bool.{and_from, or_left, eq-eqb}
use Rattle.frame_core.specs.Frames.{Row, Frame}
use Rattle.frame_core.specs.Schemas.{Schema}
use Rattle.frame_core.specs.Limits.{IsStorable}
use Rattle.frame_core.specs.declared.part.Part.{Part}
use Rattle.segment_cut.specs.Tiles.{Tile, LiesIn, cut}
use Rattle.index_tree.specs.declared.index.Slot.{Slot}
use Rattle.index_tree.specs.IndexRules.{IsSlot}
use Rattle.key_kind.specs.declared.key.Key.{Key}
use Rattle.key_kind.specs.Names.{Name}
use Rattle.key_kind.specs.Keys.{same_key}
use Rattle.key_kind.proofs.KeyTests.{same_key_self}
use Rattle.bucket_core.specs.History.{History}
use Rattle.store_model.specs.Library.{Version, state_of, is_buried, is_live}
use Rattle.store_model.specs.Links.{Linked, links, frame_put, tiles_put, with_tile, reaches, reached}
use Rattle.store_model.specs.Commits.{MayNameKey, HasSlotStamps, newest_reaches}
use Rattle.store_model.specs.Intact.{IsLinkOf}
use Rattle.store_model.specs.Law.{IsLawful}
use Rattle.store_model.proofs.Lists.{contains_first, contains_later, contains_cases, contains_none, filter_in, passes}
use Rattle.store_model.proofs.AsPut.{links_as_put}
use Rattle.store_model.proofs.Lawful.{lawful_is_intact}
use Rattle.store_model.proofs.Numbering.{versions_numbered}
use Rattle.store_model.proofs.PlainLinks.{slot_in_reach, linked_parts}
use Rattle.frame_write.specs.Pieces.{HasBase}
use Rattle.frame_write.proofs.BaseLinks.{IsStamped, links_stamped, base_link, first_in}

zip_both : {A B : Type 0} (R S : A → B → Type 0) (xs : List A) (ys : List B) → AllZip R xs ys → AllZip S xs ys → AllZip (λ x y. R x y × S x y) xs ys
zip_both R S [] [] r s = tt
zip_both R S [] (y ∷ ys) r s = absurd r
zip_both R S (x ∷ xs) [] r s = absurd r
zip_both R S (x ∷ xs) (y ∷ ys) r s = ((r.0, s.0), zip_both R S xs ys r.1 s.1)

zip_numbers : (ls : List Linked) (vs : List Version) → AllZip IsLinkOf ls vs → AllZip (λ (l : Linked) (v : Version). l.row.version ≡ v.number) ls vs
zip_numbers [] [] z = tt
zip_numbers [] (v ∷ vs) z = absurd z
zip_numbers (l ∷ ls) [] z = absurd z
zip_numbers (l ∷ ls) (v ∷ vs) z = (z.0.number, zip_numbers ls vs z.1)

-- ---- a link's tiles, as they were put

with_parts : (part : Part) (o : Option Frame) (p : Option (List Tile)) (tiles : List Tile) → with_tile part o p ≡ Some tiles → (f : Frame) × (rest : List Tile) × (o ≡ Some f) × (p ≡ Some rest) × ((part, f) ∷ rest ≡ tiles)
with_parts part None p tiles e = absurd cc
with_parts part (Some f) None tiles e = absurd cc
with_parts part (Some f) (Some rest) tiles e = (f, rest, refl, refl, cc)

slot_frame : (h : History) (frame : Frame) (s : Slot) (slots : List Slot) (tiles : List Tile) → tiles_put h slots ≡ Some tiles → AllByRecursion (λ (t : Tile). t.1 ≡ cut frame t.0) tiles → Contains slots s → frame_put h s.key ≡ Some (cut frame s.part)
slot_frame h frame s [] tiles e all c = absurd (contains_none s c)
slot_frame h frame s (x ∷ slots) tiles e all c =
    let w = with_parts x.part (frame_put h x.key) (tiles_put h slots) tiles e in
    let each = subst (AllByRecursion (λ (t : Tile). t.1 ≡ cut frame t.0)) (sym w.4) all in
    elim (contains_cases s x slots c) [
      | inl same ↦ subst (λ (y : Slot). frame_put h y.key ≡ Some (cut frame y.part)) same (w.2 ∙ ap Some each.0)
      | inr later ↦ slot_frame h frame s slots w.1 w.3 each.1 later
    ]

slot_lies : (h : History) (frame : Frame) (s : Slot) (slots : List Slot) (tiles : List Tile) → tiles_put h slots ≡ Some tiles → AllByRecursion (λ (t : Tile). LiesIn frame t.0) tiles → Contains slots s → LiesIn frame s.part
slot_lies h frame s [] tiles e all c = absurd (contains_none s c)
slot_lies h frame s (x ∷ slots) tiles e all c =
    let w = with_parts x.part (frame_put h x.key) (tiles_put h slots) tiles e in
    let each = subst (AllByRecursion (λ (t : Tile). LiesIn frame t.0)) (sym w.4) all in
    elim (contains_cases s x slots c) [
      | inl same ↦ subst (λ (y : Slot). LiesIn frame y.part) same each.0
      | inr later ↦ slot_lies h frame s slots w.1 w.3 each.1 later
    ]

stamps_in : (frame : Frame) (s : Slot) (slots : List Slot) → AllByRecursion (HasSlotStamps frame) slots → Contains slots s → HasSlotStamps frame s
stamps_in frame s [] all c = absurd (contains_none s c)
stamps_in frame s (x ∷ slots) all c = elim (contains_cases s x slots c) [ inl same ↦ subst (HasSlotStamps frame) same all.0 | inr later ↦ stamps_in frame s slots all.1 later ]

key_in : (s : Slot) (slots : List Slot) → Contains slots s → Contains (map (λ (x : Slot). x.key) slots) s.key
key_in s [] c = absurd (contains_none s c)
key_in s (x ∷ slots) c = elim (contains_cases s x slots c) [
  | inl same ↦ subst (λ (y : Slot). Contains (map (λ (x : Slot). x.key) (x ∷ slots)) y.key) same (contains_first x.key (map (λ (x : Slot). x.key) slots))
  | inr later ↦ contains_later s.key x.key (map (λ (x : Slot). x.key) slots) (key_in s slots later)
]

module _ (h : History) (lawful : IsLawful h) (symbol : Name) (schema : Schema) (rows : List Row) (slots : List Slot) (b : HasBase h symbol schema rows slots) where
  facts : (IsLinkOf b.link b.version × IsStamped b.link b.version) × ((key : Key) → newest_reaches (state_of h symbol) (links h symbol) key ≡ reaches b.link key)
  facts = base_link (λ l v. IsLinkOf l v × IsStamped l v) (state_of h symbol) b.version b.link b.number (links h symbol) (state_of h symbol).versions
      (zip_both IsLinkOf IsStamped (links h symbol) (state_of h symbol).versions ((lawful_is_intact h lawful).versions symbol) (links_stamped h symbol lawful))
      (zip_numbers (links h symbol) (state_of h symbol).versions ((lawful_is_intact h lawful).versions symbol)) (λ v c. c) (versions_numbered h symbol) b.is b.link_is

  lives : is_live (state_of h symbol) b.link.row.version ≡ true
  lives =
      let among = filter_in (λ (v : Version). not (is_buried (state_of h symbol) v.number)) (state_of h symbol).versions b.version (first_in _ b.version b.is) in
      and_from _ _ (passes (λ (w : Version). nat_eq b.link.row.version w.number) (state_of h symbol).versions b.version among.0 (eq-eqb b.link.row.version b.version.number b.number))
      (ap (λ n. not (is_buried (state_of h symbol) n)) b.number ∙ among.1)

  -- the base's frame may be written
  pub base_storable : IsStorable b.version.frame
  base_storable = facts.0.1.1

  module _ (s : Slot) (there : Contains slots s) where
    in_link : Contains b.link.index.slots s
    in_link = subst (λ xs. Contains xs s) (sym b.slots_are) there

    in_reached : Contains (reached b.link) s.key
    in_reached = slot_in_reach b.link s.key (key_in s b.link.index.slots in_link)

    pub shared_stamps : HasSlotStamps b.version.frame s
    shared_stamps = stamps_in b.version.frame s b.link.index.slots facts.0.1.0 in_link

    pub shared_put : frame_put h s.key ≡ Some (cut b.version.frame s.part)
    shared_put = slot_frame h b.version.frame s b.link.index.slots b.link.tiles (linked_parts h b.link.row b.link (links_as_put h (lawful_is_intact h lawful).once symbol b.link b.link_is)).tiles facts.0.0.assembled.parts in_link

    pub shared_lies : LiesIn b.version.frame s.part
    shared_lies = slot_lies h b.version.frame s b.link.index.slots b.link.tiles (linked_parts h b.link.row b.link (links_as_put h (lawful_is_intact h lawful).once symbol b.link b.link_is)).tiles facts.0.0.assembled.inside in_link

    pub shared_reaches : newest_reaches (state_of h symbol) (links h symbol) s.key ≡ true
    shared_reaches = facts.1 s.key ∙ passes (λ k. same_key k s.key) (reached b.link) s.key in_reached (same_key_self s.key)

    pub shared_may_name : (client version columns : ℕ) → IsSlot columns s → MayNameKey h client version symbol s.key
    shared_may_name client version columns rule = record {
      kind = rule.is_tile;
      name = ((lawful_is_intact h lawful).table_keys symbol b.link s.key b.link_is in_reached).name;
      stands = ap is_some ((lawful_is_intact h lawful).needed symbol b.link s.key b.link_is (or_left _ _ lives) in_reached).stands;
      fresh_or_shared = inr shared_reaches;
    }
