-- What the keys of a shape tell: of which link and of which block a key is.
use Rattle.std.proofs.Common.{◌≡◌, ◌⊎◌, ℕ, Bool, true, false, List, [], ◌∷◌, ◌++◌, map, Some, None, refl, sym, ◌∙◌, ap, subst, inl, inr, cond}
use Rattle.std.specs.Prelude.{filter, flat_map, Contains, is_some}
use Rattle.std.specs.List.{list_any, AllByRecursion, AllZip, IsDistinct}
use Rattle.std.proofs.lemmas.Bool.{true≢false, or_left, or_right, or_cases}
use Rattle.std.proofs.lemmas.List.Concat.{flat_map-cons}
use Rattle.std.proofs.lemmas.List.Folds.{list_any-append, flat_map-map}
use Rattle.index_tree.specs.declared.index.Slot.{Slot}
use Rattle.key_kind.specs.Names.{Name}
use Rattle.key_kind.specs.declared.key.Key.{Key}
use Rattle.key_kind.specs.declared.key.KeyKind.TheVariants as kinds
use Rattle.key_kind.specs.Keys.{same_key, is_put}
use Rattle.key_kind.proofs.KeyTests.{same_key_self}
use Rattle.bucket_core.specs.History.{History, stored, body_put}
use Rattle.store_model.specs.Library.{State, is_kept}
use Rattle.store_model.specs.Law.{IsLawful}
use Rattle.store_model.specs.Links.{Linked, links, reached, reaches}
use Rattle.store_model.proofs.Lists.{contains_first, contains_later, contains_cases, contains_none, passes}
use Rattle.store_model.proofs.Histories.{stands_from}
use Rattle.store_model.proofs.Dropping.{reaches_it}
use Rattle.store_model.proofs.OwnPuts.{unput_is_unreached}
use Rattle.store_model.proofs.PlainLinks.{index_in_reach, slot_in_reach, plain_reach}
use Rattle.reply_model.specs.Tries.{IsKeyOf}
use Rattle.reply_model.specs.Blocks.{Block, Shape, no_shape, same_block}
use Rattle.reply_model.specs.Keyed.{with_key, begins_block, block_keys, has_index, standing_blocks, keys_named, HasNames, NamesTable, HasKeys}
use Rattle.reply_model.specs.Standing.{HasBlocks}
use Rattle.reply_model.proofs.DropCounts.{is_among}
use Rattle.reply_model.proofs.Among.{among_contains, has_block}

-- ---- the keys of an index

abbrev pub flat : List (List Key) → List Key
flat blocks = flat_map (λ (keys : List Key). keys) blocks

flat_with : (key : Key) (blocks : List (List Key)) → flat (with_key key blocks) ≡ key ∷ flat blocks
flat_with key [] = flat_map-cons (λ (keys : List Key). keys) (key ∷ []) []
flat_with key (keys ∷ blocks) = flat_map-cons (λ (ks : List Key). ks) (key ∷ keys) blocks ∙ ap (λ ks. key ∷ ks) (sym (flat_map-cons (λ (ks : List Key). ks) keys blocks))

-- the row blocks have the keys of the slots
pub blocks_flat : (slots : List Slot) → flat (block_keys slots) ≡ map (λ (x : Slot). x.key) slots
blocks_flat [] = refl
blocks_flat (x ∷ slots) =
    elim (begins_block slots) as (λ b. flat (cond b ((x.key ∷ []) ∷ block_keys slots) (with_key x.key (block_keys slots))) ≡ x.key ∷ flat (block_keys slots)) [
      | true ↦ flat_map-cons (λ (ks : List Key). ks) (x.key ∷ []) (block_keys slots)
      | false ↦ flat_with x.key (block_keys slots)
    ] ∙ ap (λ ks. x.key ∷ ks) (blocks_flat slots)

-- so the slots have the keys of the version's blocks
pub slots_named : (names : ℕ → ℕ → List Key) (l : Linked) (x : ℕ × List Block) → HasNames names l x → map (λ (s : Slot). s.key) l.index.slots ≡ keys_named names x.1
slots_named names l x named = sym (blocks_flat l.index.slots) ∙ (ap flat named ∙ flat_map-map (λ (ks : List Key). ks) (λ (b : Block). names b.version b.number) x.1)

-- ---- versions of links

-- the blocks of live and held versions
abbrev pub kept_blocks : State → List (ℕ × List Block) → List Block
kept_blocks st xs = flat_map (λ (x : ℕ × List Block). cond (is_kept st x.0) x.1 []) xs

pub has_left : (xs ys : List Block) (b : Block) → has_block xs b ≡ true → has_block (xs ++ ys) b ≡ true
has_left xs ys b e = list_any-append (same_block b) xs ys ∙ or_left (has_block xs b) (has_block ys b) e

pub has_right : (xs ys : List Block) (b : Block) → has_block ys b ≡ true → has_block (xs ++ ys) b ≡ true
has_right xs ys b e = list_any-append (same_block b) xs ys ∙ or_right (has_block xs b) (has_block ys b) e

pub has_append : (xs ys : List Block) (b : Block) → has_block (xs ++ ys) b ≡ true → (has_block xs b ≡ true) ⊎ (has_block ys b ≡ true)
has_append xs ys b e = or_cases (has_block xs b) (has_block ys b) (sym (list_any-append (same_block b) xs ys) ∙ e)

kept_cons : (st : State) (x : ℕ × List Block) (xs : List (ℕ × List Block)) → kept_blocks st (x ∷ xs) ≡ cond (is_kept st x.0) x.1 [] ++ kept_blocks st xs
kept_cons st x xs = flat_map-cons (λ (y : ℕ × List Block). cond (is_kept st y.0) y.1 []) x xs

-- a list where a test passes, or none
chosen_has : (t : Bool) (xs : List Block) (b : Block) → t ≡ true → has_block xs b ≡ true → has_block (cond t xs []) b ≡ true
chosen_has true xs b e h = h
chosen_has false xs b e h = absurd (true≢false (sym e))

has_chosen : (t : Bool) (xs : List Block) (b : Block) → has_block (cond t xs []) b ≡ true → (t ≡ true) × (has_block xs b ≡ true)
has_chosen true xs b h = (refl, h)
has_chosen false xs b h = absurd (true≢false (sym h))

module _ (names : ℕ → ℕ → List Key) (h : History) (st : State) where
  -- a link and its version
  pub record Pairs (ls : List Linked) (xs : List (ℕ × List Block)) (l : Linked) (x : ℕ × List Block) : Type 0 where
    pub there : Contains ls l
    pub number : l.row.version ≡ x.0
    pub keys : map (λ (s : Slot). s.key) l.index.slots ≡ keys_named names x.1
    pub standing : has_index h l ≡ true → (b : Block) → has_block x.1 b ≡ true → has_block (standing_blocks h ls xs) b ≡ true
    pub kept : is_kept st x.0 ≡ true → (b : Block) → has_block x.1 b ≡ true → has_block (kept_blocks st xs) b ≡ true

  pub pairs_first : (l : Linked) (x : ℕ × List Block) (ls : List Linked) (xs : List (ℕ × List Block)) → HasBlocks l x → HasNames names l x → Pairs (l ∷ ls) (x ∷ xs) l x
  pairs_first l x ls xs has named = record {
    there = contains_first l ls;
    number = has.0;
    keys = slots_named names l x named;
    standing = λ e b c. has_left (cond (has_index h l) x.1 []) (standing_blocks h ls xs) b (chosen_has (has_index h l) x.1 b e c);
    kept = λ e b c. subst (λ bs. has_block bs b ≡ true) (sym (kept_cons st x xs)) (has_left (cond (is_kept st x.0) x.1 []) (kept_blocks st xs) b (chosen_has (is_kept st x.0) x.1 b e c));
  }

  pub pairs_later : (k : Linked) (y : ℕ × List Block) (ls : List Linked) (xs : List (ℕ × List Block)) (l : Linked) (x : ℕ × List Block) → Pairs ls xs l x → Pairs (k ∷ ls) (y ∷ xs) l x
  pairs_later k y ls xs l x p = record {
    there = contains_later l k ls p.there;
    number = p.number;
    keys = p.keys;
    standing = λ e b c. has_right (cond (has_index h k) y.1 []) (standing_blocks h ls xs) b (p.standing e b c);
    kept = λ e b c. subst (λ bs. has_block bs b ≡ true) (sym (kept_cons st y xs)) (has_right (cond (is_kept st y.0) y.1 []) (kept_blocks st xs) b (p.kept e b c));
  }

  -- each link has one
  pub version_of : (ls : List Linked) (xs : List (ℕ × List Block)) → AllZip HasBlocks ls xs → AllZip (HasNames names) ls xs → (l : Linked) → Contains ls l → (x : ℕ × List Block) × Pairs ls xs l x
  version_of [] xs has named l c = absurd (contains_none l c)
  version_of (k ∷ ls) [] has named l c = absurd has
  version_of (k ∷ ls) (y ∷ xs) has named l c = elim (contains_cases l k ls c) [
    | inl same ↦ (y, subst (λ z. Pairs (k ∷ ls) (y ∷ xs) z y) same (pairs_first k y ls xs has.0 named.0))
    | inr later ↦ let r = version_of ls xs has.1 named.1 l later in (r.0, pairs_later k y ls xs l r.0 r.1)
  ]

  -- a block of a version whose index is stored
  pub standing_in : (ls : List Linked) (xs : List (ℕ × List Block)) → AllZip HasBlocks ls xs → AllZip (HasNames names) ls xs → (b : Block) → has_block (standing_blocks h ls xs) b ≡ true
      → (l : Linked) × (x : ℕ × List Block) × Pairs ls xs l x × (has_index h l ≡ true) × (has_block x.1 b ≡ true)
  standing_in [] xs has named b e = absurd (true≢false (sym e))
  standing_in (k ∷ ls) [] has named b e = absurd has
  standing_in (k ∷ ls) (y ∷ xs) has named b e = elim (has_append (cond (has_index h k) y.1 []) (standing_blocks h ls xs) b e) [
    | inl first ↦ let r = has_chosen (has_index h k) y.1 b first in (k, y, pairs_first k y ls xs has.0 named.0, r.0, r.1)
    | inr later ↦ let r = standing_in ls xs has.1 named.1 b later in (r.0, r.1, pairs_later k y ls xs r.0 r.1 r.2, r.3, r.4)
  ]

  -- a block of a version that is live or held
  pub kept_in : (ls : List Linked) (xs : List (ℕ × List Block)) → AllZip HasBlocks ls xs → AllZip (HasNames names) ls xs → (b : Block) → has_block (kept_blocks st xs) b ≡ true
      → (l : Linked) × (x : ℕ × List Block) × Pairs ls xs l x × (is_kept st x.0 ≡ true) × (has_block x.1 b ≡ true)
  kept_in [] [] has named b e = absurd (true≢false (sym e))
  kept_in [] (y ∷ xs) has named b e = absurd has
  kept_in (k ∷ ls) [] has named b e = absurd has
  kept_in (k ∷ ls) (y ∷ xs) has named b e =
      elim (has_append (cond (is_kept st y.0) y.1 []) (kept_blocks st xs) b (subst (λ bs. has_block bs b ≡ true) (kept_cons st y xs) e)) [
        | inl first ↦ let r = has_chosen (is_kept st y.0) y.1 b first in (k, y, pairs_first k y ls xs has.0 named.0, r.0, r.1)
        | inr later ↦ let r = kept_in ls xs has.1 named.1 b later in (r.0, r.1, pairs_later k y ls xs r.0 r.1 r.2, r.3, r.4)
      ]

-- where the indexes that stand are those of live and held versions, so are their blocks
pub standing_is_kept : (h : History) (st : State) (ls : List Linked) (xs : List (ℕ × List Block)) → AllZip HasBlocks ls xs → ((l : Linked) → Contains ls l → has_index h l ≡ is_kept st l.row.version)
    → standing_blocks h ls xs ≡ kept_blocks st xs
standing_is_kept h st [] [] has each = refl
standing_is_kept h st [] (y ∷ xs) has each = absurd has
standing_is_kept h st (l ∷ ls) [] has each = absurd has
standing_is_kept h st (l ∷ ls) (x ∷ xs) has each =
    ap (λ t. cond t x.1 [] ++ standing_blocks h ls xs) (each l (contains_first l ls) ∙ ap (is_kept st) has.0.0)
    ∙ (ap (λ bs. cond (is_kept st x.0) x.1 [] ++ bs) (standing_is_kept h st ls xs has.1 (λ k c. each k (contains_later k l ls c))) ∙ sym (kept_cons st x xs))

-- ---- keys of links

-- what holds of all links holds of each
pub link_at : (P : Linked → Type 0) (ls : List Linked) (l : Linked) → AllByRecursion P ls → Contains ls l → P l
link_at P [] l all c = absurd (contains_none l c)
link_at P (k ∷ ls) l all c = elim (contains_cases l k ls c) [ inl same ↦ subst P same all.0 | inr later ↦ link_at P ls l all.1 later ]

-- a key that a link without pages reaches is its index's or a slot's
pub reached_cases : (symbol : Name) (l : Linked) (key : Key) → NamesTable symbol l → l.pages ≡ [] → Contains (reached l) key
    → (key ≡ l.row.index) ⊎ ((is_among (map (λ (s : Slot). s.key) l.index.slots) key ≡ true) × IsKeyOf kinds.TableData symbol key)
reached_cases symbol l key table none c = elim (contains_cases key l.row.index (map (λ (s : Slot). s.key) l.index.slots) (subst (λ ks. Contains ks key) (plain_reach l none) c)) [
  | inl same ↦ inl (sym same)
  | inr later ↦ inr (slot l.index.slots table.1 later)
]
  where
    slot : (slots : List Slot) → AllByRecursion (λ (s : Slot). IsKeyOf kinds.TableData symbol s.key) slots → Contains (map (λ (s : Slot). s.key) slots) key
        → (is_among (map (λ (s : Slot). s.key) slots) key ≡ true) × IsKeyOf kinds.TableData symbol key
    slot [] all d = absurd (contains_none key d)
    slot (s ∷ slots) all d = elim (contains_cases key s.key (map (λ (x : Slot). x.key) slots) d) [
      | inl same ↦ (
        or_left (same_key key s.key) (list_any (same_key key) (map (λ (x : Slot). x.key) slots)) (ap (λ k. same_key key k) same ∙ same_key_self key),
        subst (IsKeyOf kinds.TableData symbol) same all.0,
      )
      | inr later ↦ let r = slot slots all.1 later in (or_right (same_key key s.key) (list_any (same_key key) (map (λ (x : Slot). x.key) slots)) r.0, r.1)
    ]

-- a slot's key is reached
pub slot_reached : (l : Linked) (key : Key) → is_among (map (λ (s : Slot). s.key) l.index.slots) key ≡ true → Contains (reached l) key
slot_reached l key e = slot_in_reach l key (among_contains (map (λ (s : Slot). s.key) l.index.slots) key e)

-- no two links have one index
pub one_index : (ls : List Linked) (a b : Linked) → IsDistinct same_key (map (λ (l : Linked). l.row.index) ls) → Contains ls a → Contains ls b → a.row.index ≡ b.row.index → a ≡ b
unfolding IsDistinct
one_index [] a b d ca cb e = absurd (contains_none a ca)
one_index (l ∷ ls) a b d ca cb e =
    elim (contains_cases a l ls ca) [
      | inl first ↦ elim (contains_cases b l ls cb) [
        | inl second ↦ sym first ∙ second
        | inr later ↦ absurd (other ls b l d.0 later (ap (λ (x : Linked). x.row.index) first ∙ e))
      ]
      | inr la ↦ elim (contains_cases b l ls cb) [
        | inl second ↦ absurd (other ls a l d.0 la (ap (λ (x : Linked). x.row.index) second ∙ sym e))
        | inr lb ↦ one_index ls a b d.1 la lb e
      ]
    ]
  where
    other : (xs : List Linked) (x k : Linked) → AllByRecursion (λ y. same_key k.row.index y ≡ false) (map (λ (z : Linked). z.row.index) xs) → Contains xs x → k.row.index ≡ x.row.index → ⊥
    other [] x k all c f = contains_none x c
    other (y ∷ xs) x k all c f = elim (contains_cases x y xs c) [
      | inl same ↦ true≢false (sym (ap (λ z. same_key z x.row.index) f ∙ same_key_self x.row.index) ∙ (ap (λ (z : Linked). same_key k.row.index z.row.index) (sym same) ∙ all.0))
      | inr later ↦ other xs x k all.1 later f
    ]

-- the links of a symbol that keep a test
pub distinct_links : (p : Linked → Bool) (ls : List Linked) → IsDistinct same_key (map (λ (l : Linked). l.row.index) ls) → IsDistinct same_key (map (λ (l : Linked). l.row.index) (filter p ls))
unfolding IsDistinct
distinct_links p [] d = tt
distinct_links p (l ∷ ls) d = elim (p l) as (λ t. IsDistinct same_key (map (λ (x : Linked). x.row.index) (cond t (l ∷ filter p ls) (filter p ls)))) [
  | true ↦ (some ls d.0, distinct_links p ls d.1)
  | false ↦ distinct_links p ls d.1
]
  where
    some : (xs : List Linked) → AllByRecursion (λ y. same_key l.row.index y ≡ false) (map (λ (x : Linked). x.row.index) xs) → AllByRecursion (λ y. same_key l.row.index y ≡ false) (map (λ (x : Linked). x.row.index) (filter p xs))
    some [] all = tt
    some (x ∷ xs) all = elim (p x) as (λ t. AllByRecursion (λ y. same_key l.row.index y ≡ false) (map (λ (z : Linked). z.row.index) (cond t (x ∷ filter p xs) (filter p xs)))) [
      | true ↦ (all.0, some xs all.1)
      | false ↦ some xs all.1
    ]

-- ---- shapes keep their keys

-- what a link reaches was put
pub reached_was_put : (h : History) (symbol : Name) (l : Linked) (key : Key) → IsLawful h → Contains (links h symbol) l → Contains (reached l) key → key.name ≡ symbol → is_some (body_put h key) ≡ true
reached_was_put h symbol l key lawful there reach name =
    elim (body_put h key) as (λ o. body_put h key ≡ o → is_some o ≡ true) [
      | Some body ↦ λ e. refl
      | None ↦ λ e. absurd (true≢false (sym (passes (λ (x : Linked). reaches x key) (links h key.name) l (subst (λ n. Contains (links h n) l) (sym name) there) (reaches_it l key reach)) ∙ unput_is_unreached h lawful key e))
    ] refl

pub has_same : (h new : History) (ls : List Linked) (xs : List (ℕ × List Block)) → ((l : Linked) → Contains ls l → has_index new l ≡ has_index h l)
    → (filter (has_index h) ls ≡ filter (has_index new) ls) × (standing_blocks h ls xs ≡ standing_blocks new ls xs)
has_same h new [] xs each = (refl, refl)
has_same h new (l ∷ ls) [] each = (
  ap (λ t. cond t (l ∷ filter (has_index h) ls) (filter (has_index h) ls)) (sym (each l (contains_first l ls)))
      ∙ ap (λ ks. cond (has_index new l) (l ∷ ks) ks) (has_same h new ls [] (λ k c. each k (contains_later k l ls c))).0,
  refl,
)
has_same h new (l ∷ ls) (x ∷ xs) each =
    let more = has_same h new ls xs (λ k c. each k (contains_later k l ls c)) in (
      ap (λ t. cond t (l ∷ filter (has_index h) ls) (filter (has_index h) ls)) (sym (each l (contains_first l ls))) ∙ ap (λ ks. cond (has_index new l) (l ∷ ks) ks) more.0,
      ap (λ t. cond t x.1 [] ++ standing_blocks h ls xs) (sym (each l (contains_first l ls))) ∙ ap (λ bs. cond (has_index new l) x.1 [] ++ bs) more.1,
    )

-- what was put stands as before, so the shape has its keys as before
pub keys_stay : (h new : History) (symbol : Name) (s : Shape) → IsLawful h → HasKeys h symbol s → links new symbol ≡ links h symbol
    → ((key : Key) → key.name ≡ symbol → is_some (body_put h key) ≡ true → is_some (stored new key) ≡ is_some (stored h key)) → HasKeys new symbol s
keys_stay h new symbol s lawful keys same stays =
    let each : (l : Linked) → Contains (links h symbol) l → has_index new l ≡ has_index h l =
    λ l c. let table = link_at (NamesTable symbol) (links h symbol) l keys.tables c in stays l.row.index table.0.1 (reached_was_put h symbol l l.row.index lawful c (index_in_reach l) table.0.1) in
    let has = has_same h new (links h symbol) s.versions each in
    record {
      names = keys.names;
      named = subst (λ ls. AllZip (HasNames keys.names) ls s.versions) (sym same) keys.named;
      tables = subst (λ ls. AllByRecursion (NamesTable symbol) ls) (sym same) keys.tables;
      apart = subst (λ ls. IsDistinct same_key (map (λ (l : Linked). l.row.index) ls)) (sym same) keys.apart;
      sizes = keys.sizes;
      distinct = keys.distinct;
      stand = stand_still (keys_named keys.names s.blocks) keys.stand;
      indexes = keys.indexes ∙ (ap (map (λ (l : Linked). l.row.version)) has.0 ∙ ap (λ ls. map (λ (l : Linked). l.row.version) (filter (has_index new) ls)) (sym same));
      blocks = λ b. keys.blocks b ∙ (ap (λ bs. has_block bs b) has.1 ∙ ap (λ ls. has_block (standing_blocks new ls s.versions) b) (sym same));
      pieces = keys.pieces;
    }
  where
    stand_still : (ks : List Key) → AllByRecursion (λ key. IsKeyOf kinds.TableData symbol key × (is_some (stored h key) ≡ true)) ks
        → AllByRecursion (λ key. IsKeyOf kinds.TableData symbol key × (is_some (stored new key) ≡ true)) ks
    stand_still [] all = tt
    stand_still (k ∷ ks) all =
        let put = stands_from h k (ap (λ x. is_put x) all.0.0.0) all.0.1 in
        ((all.0.0, stays k all.0.0.1 (ap (λ o. is_some o) put.put) ∙ all.0.1), stand_still ks all.1)

-- how many elements there are does not matter for it
pub counted_keys : (h : History) (symbol : Name) (s : Shape) (n : ℕ) → HasKeys h symbol s → HasKeys h symbol (record s { elements = n })
counted_keys h symbol s n keys = record {
  names = keys.names;
  named = keys.named;
  tables = keys.tables;
  apart = keys.apart;
  sizes = keys.sizes;
  distinct = keys.distinct;
  stand = keys.stand;
  indexes = keys.indexes;
  blocks = keys.blocks;
  pieces = keys.pieces;
}

-- nothing is stored in the beginning
pub no_keys : (symbol : Name) → HasKeys [] symbol no_shape
unfolding IsDistinct
no_keys symbol = record { names = λ version n. []; named = tt; tables = tt; apart = tt; sizes = tt; distinct = tt; stand = tt; indexes = refl; blocks = λ b. refl; pieces = refl }
