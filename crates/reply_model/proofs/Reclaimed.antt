-- What a reclaim without events of others drops is what the run alone counts.
use Rattle.std.proofs.Common.{◌≡◌, ℕ, Bool, true, false, List, [], ◌∷◌, ◌++◌, map, length, Option, Some, None, refl, sym, ◌∙◌, ap, subst, inl, inr, cond}
use Rattle.std.specs.Prelude.{not, filter, Contains, is_some}
use Rattle.std.specs.List.{AllByRecursion, AllZip, IsDistinct}
use Rattle.std.proofs.lemmas.Bool.{true≢false}
use Rattle.std.proofs.lemmas.List.{length-map}
use Rattle.std.proofs.lemmas.Map.Made.{length-from_same_keys}
use Rattle.index_tree.specs.declared.index.Slot.{Slot}
use Rattle.key_kind.specs.Names.{Name}
use Rattle.key_kind.specs.declared.key.Key.{Key}
use Rattle.key_kind.specs.declared.key.KeyKind.TheVariants as kinds
use Rattle.key_kind.specs.Keys.{same_key, same_kind}
use Rattle.key_kind.specs.KeyOrder.{same_key_equiv}
use Rattle.bucket_core.specs.History.{History, stored}
use Rattle.store_model.specs.Library.{State, state_of, is_kept, is_consumed}
use Rattle.store_model.specs.Law.{IsLawful}
use Rattle.store_model.specs.Links.{Linked, links, reached, IsUnneeded}
use Rattle.store_model.proofs.Lists.{contains_first, contains_later, contains_cases, contains_none, filter_in, in_filter}
use Rattle.store_model.proofs.Plainly.{lawful_links}
use Rattle.store_model.proofs.PlainLinks.{index_in_reach}
use Rattle.reply_model.specs.Tries.{IsKeyOf}
use Rattle.reply_model.specs.Drops.{KeysRise, IsDeadIndex, IsDeadTile, IsDeadPiece}
use Rattle.reply_model.specs.Blocks.{Block, Shape, is_unneeded, dead_blocks, dead_indexes, tiles_in, swept}
use Rattle.reply_model.specs.Keyed.{has_index, standing_blocks, keys_named, HasNames, NamesTable, HasKeys}
use Rattle.reply_model.specs.Standing.{HasBlocks}
use Rattle.reply_model.proofs.DropCounts.{behind_drops, is_among, lawful_behind, none_stays, was_dropped, links_behind_drops, state_behind_drops, rising_distinct}
use Rattle.reply_model.proofs.Among.{all_at, all_from, among_contains, contains_among, among_append, among_named, named_among, one_named, distinct_some, named_counted, same_there, same_back, same_keys, has_block, block_there, block_among}
use Rattle.reply_model.proofs.KeyedShapes.{kept_blocks, Pairs, version_of, standing_in, kept_in, standing_is_kept, link_at, reached_cases, slot_reached, one_index, distinct_links}
use Rattle.reply_model.proofs.ReachedKeys.{same_test, not_passing, reaching, reached_by, not_needed, no_needed, needed_stands}

-- what is known of the drops
pub record Frees (old new : History) (symbol : Name) (tiles indexes pieces : List Key) : Type 0 where
  pub tiles_rise : KeysRise tiles
  pub indexes_rise : KeysRise indexes
  pub dead_tiles : AllByRecursion (IsDeadTile old symbol) tiles
  pub dead_indexes : AllByRecursion (IsDeadIndex old symbol) indexes
  pub dead_pieces : AllByRecursion (IsDeadPiece old symbol) pieces
  pub no_index : (key : Key) → IsDeadIndex old symbol key → stored new key ≡ None
  pub no_tile : (l : Linked) (key : Key) → Contains (links old symbol) l → IsDeadIndex old symbol l.row.index → Contains (reached l) key
      → IsKeyOf kinds.TableData symbol key → IsUnneeded old key → stored new key ≡ None

-- ---- lists

pub data_is_no_index : (key : Key) → key.kind ≡ kinds.TableData → key.kind ≡ kinds.TableIndex → ⊥
data_is_no_index key e f = true≢false (ap (λ k. same_kind k kinds.TableData) (sym e ∙ f))

pub data_is_no_piece : (key : Key) → key.kind ≡ kinds.TableData → key.kind ≡ kinds.Staged → ⊥
data_is_no_piece key e f = true≢false (ap (λ k. same_kind k kinds.TableData) (sym e ∙ f))

pub index_is_no_piece : (key : Key) → key.kind ≡ kinds.TableIndex → key.kind ≡ kinds.Staged → ⊥
index_is_no_piece key e f = true≢false (ap (λ k. same_kind k kinds.TableIndex) (sym e ∙ f))

not_not : (x : Bool) → not x ≡ true → x ≡ true → ⊥
not_not true f e = true≢false (sym f)
not_not false f e = true≢false (sym e)

filter_mapped : {X Y : Type 0} (p : Y → Bool) (f : X → Y) (xs : List X) → filter p (map f xs) ≡ map f (filter (λ x. p (f x)) xs)
filter_mapped p f [] = refl
filter_mapped p f (x ∷ xs) =
    elim (p (f x)) as (λ t. cond t (f x ∷ filter p (map f xs)) (filter p (map f xs)) ≡ map f (cond t (x ∷ filter (λ y. p (f y)) xs) (filter (λ y. p (f y)) xs))) [
      | true ↦ ap (λ ys. f x ∷ ys) (filter_mapped p f xs)
      | false ↦ filter_mapped p f xs
    ]

contains_mapped : (ls : List Linked) (l : Linked) → Contains ls l → Contains (map (λ (x : Linked). x.row.index) ls) l.row.index
contains_mapped [] l c = absurd (contains_none l c)
contains_mapped (k ∷ ls) l c = elim (contains_cases l k ls c) [
  | inl same ↦ subst (λ (x : Linked). Contains (map (λ (y : Linked). y.row.index) (k ∷ ls)) x.row.index) same (contains_first k.row.index (map (λ (x : Linked). x.row.index) ls))
  | inr later ↦ contains_later l.row.index k.row.index (map (λ (x : Linked). x.row.index) ls) (contains_mapped ls l later)
]

mapped_contains : (ls : List Linked) (key : Key) → Contains (map (λ (x : Linked). x.row.index) ls) key → (l : Linked) × Contains ls l × (l.row.index ≡ key)
mapped_contains [] key c = absurd (contains_none key c)
mapped_contains (k ∷ ls) key c = elim (contains_cases key k.row.index (map (λ (x : Linked). x.row.index) ls) c) [
  | inl same ↦ (k, contains_first k ls, same)
  | inr later ↦ let r = mapped_contains ls key later in (r.0, contains_later r.0 k ls r.1, r.2)
]

module _ (client : ℕ) (symbol : Name) (old : History) (s : Shape) (tiles indexes pieces : List Key) (has : AllZip HasBlocks (links old symbol) s.versions) (keys : HasKeys old symbol s)
    (lawful : IsLawful (behind_drops client ((tiles ++ indexes) ++ pieces) old)) (frees : Frees old (behind_drops client ((tiles ++ indexes) ++ pieces) old) symbol tiles indexes pieces) where
  abbrev new : History
  new = behind_drops client ((tiles ++ indexes) ++ pieces) old

  abbrev st : State
  st = state_of old symbol

  lawful_old : IsLawful old
  lawful_old = lawful_behind client ((tiles ++ indexes) ++ pieces) old lawful

  table_at : (l : Linked) → Contains (links old symbol) l → NamesTable symbol l
  table_at l there = link_at (NamesTable symbol) (links old symbol) l keys.tables there

  no_pages : (l : Linked) → Contains (links old symbol) l → l.pages ≡ []
  no_pages l there = lawful_links old lawful_old symbol l there

  index_reached : (l : Linked) → Contains (reached l) l.row.index
  index_reached l = index_in_reach l

  -- the stored index of a version that is neither live nor held is dead
  dead_index : (l : Linked) → Contains (links old symbol) l → has_index old l ≡ true → is_kept st l.row.version ≡ false → IsDeadIndex old symbol l.row.index
  dead_index l there stands unkept =
      let table = table_at l there in (
        table.0,
        record {
          once = reaching old symbol l.row.index table.0.1 l there (index_reached l);
          no_more = not_needed old symbol l.row.index table.0.1 (λ k there' kept reach. elim (reached_cases symbol k l.row.index (table_at k there') (no_pages k there') reach) [
            | inl same ↦ true≢false (sym kept ∙ (ap (λ (x : Linked). is_kept st x.row.version) (sym (one_index (links old symbol) l k keys.apart there there' same)) ∙ unkept))
            | inr slot ↦ data_is_no_index l.row.index slot.1.0 table.0.0
          ]);
        },
        stands,
      )

  -- behind the reclaim the indexes of live and held versions stand
  pub index_behind : (l : Linked) → Contains (links old symbol) l → has_index new l ≡ is_kept st l.row.version
  index_behind l there =
      elim (is_kept st l.row.version) as (λ t. is_kept st l.row.version ≡ t → has_index new l ≡ t) [
        | true ↦ λ kept. needed_stands new symbol l l.row.index lawful (subst (λ ls. Contains ls l) (sym (links_behind_drops client ((tiles ++ indexes) ++ pieces) old symbol)) there)
            (ap (λ (x : State). is_kept x l.row.version) (state_behind_drops client ((tiles ++ indexes) ++ pieces) old symbol) ∙ kept) (index_reached l)
        | false ↦ λ unkept. elim (has_index old l) as (λ t. has_index old l ≡ t → has_index new l ≡ false) [
          | true ↦ λ stands. ap (λ o. is_some o) (frees.no_index l.row.index (dead_index l there stands unkept))
          | false ↦ λ gone. ap (λ o. is_some o) (none_stays client ((tiles ++ indexes) ++ pieces) old l.row.index (none_of (stored old l.row.index) gone))
        ] refl
      ] refl
    where
      none_of : {X : Type 0} (o : Option X) → is_some o ≡ false → o ≡ None
      none_of None e = refl
      none_of (Some x) e = absurd (true≢false e)

  -- ---- indexes

  -- the links whose dead index is stored
  abbrev dead_links : List Linked
  dead_links = filter (λ (l : Linked). not (is_kept st l.row.version)) (filter (has_index old) (links old symbol))

  index_dropped : (key : Key) → is_among indexes key ≡ true → is_among (map (λ (l : Linked). l.row.index) dead_links) key ≡ true
  index_dropped key there =
      let dead = all_at (IsDeadIndex old symbol) indexes key frees.dead_indexes there in
      let by = reached_by old symbol key dead.0.1 dead.1.once in
      elim (reached_cases symbol by.0 key (table_at by.0 by.1) (no_pages by.0 by.1) by.2) [
        | inl same ↦
            let unkept : is_kept st by.0.row.version ≡ false = not_passing (is_kept st by.0.row.version) (λ kept. no_needed old symbol key dead.0.1 dead.1.no_more by.0 by.1 kept by.2) in
            contains_among (map (λ (l : Linked). l.row.index) dead_links) key (subst (λ k. Contains (map (λ (l : Linked). l.row.index) dead_links) k) (sym same) (contains_mapped dead_links by.0
            (in_filter (λ (l : Linked). not (is_kept st l.row.version)) (filter (has_index old) (links old symbol)) by.0
            (in_filter (has_index old) (links old symbol) by.0 by.1 (subst (λ k. is_some (stored old k) ≡ true) same dead.2)) (ap not unkept))))
        | inr slot ↦ absurd (data_is_no_index key slot.1.0 dead.0.0)
      ]

  -- what is dropped of this kind is among the drops of its kind
  among_indexes : (key : Key) → key.kind ≡ kinds.TableIndex → is_among ((tiles ++ indexes) ++ pieces) key ≡ true → is_among indexes key ≡ true
  among_indexes key kind there = elim (among_append (tiles ++ indexes) pieces key there) [
    | inl first ↦ elim (among_append tiles indexes key first) [
      | inl tile ↦ absurd (data_is_no_index key (all_at (IsDeadTile old symbol) tiles key frees.dead_tiles tile).0.0 kind)
      | inr index ↦ index
    ]
    | inr piece ↦ absurd (index_is_no_piece key kind (all_at (IsDeadPiece old symbol) pieces key frees.dead_pieces piece).1.staged)
  ]

  among_tiles : (key : Key) → key.kind ≡ kinds.TableData → is_among ((tiles ++ indexes) ++ pieces) key ≡ true → is_among tiles key ≡ true
  among_tiles key kind there = elim (among_append (tiles ++ indexes) pieces key there) [
    | inl first ↦ elim (among_append tiles indexes key first) [
      | inl tile ↦ tile
      | inr index ↦ absurd (data_is_no_index key kind (all_at (IsDeadIndex old symbol) indexes key frees.dead_indexes index).0.0)
    ]
    | inr piece ↦ absurd (data_is_no_piece key kind (all_at (IsDeadPiece old symbol) pieces key frees.dead_pieces piece).1.staged)
  ]

  dropped_index : (key : Key) → is_among (map (λ (l : Linked). l.row.index) dead_links) key ≡ true → is_among indexes key ≡ true
  dropped_index key there =
      let r = mapped_contains dead_links key (among_contains (map (λ (l : Linked). l.row.index) dead_links) key there) in
      let outer = filter_in (λ (l : Linked). not (is_kept st l.row.version)) (filter (has_index old) (links old symbol)) r.0 r.1 in
      let inner = filter_in (has_index old) (links old symbol) r.0 outer.0 in
      let dead = dead_index r.0 inner.0 inner.1 (not_passing (is_kept st r.0.row.version) (not_not (is_kept st r.0.row.version) outer.1)) in
      subst (λ k. is_among indexes k ≡ true) r.2
      (among_indexes r.0.row.index dead.0.0 (was_dropped client ((tiles ++ indexes) ++ pieces) old r.0.row.index inner.1 (frees.no_index r.0.row.index dead)))

  pub indexes_counted : length indexes ≡ length (dead_indexes st s)
  indexes_counted =
      length-from_same_keys same_key_equiv indexes (map (λ (l : Linked). l.row.index) dead_links) (rising_distinct indexes frees.indexes_rise)
      (distinct_links (λ (l : Linked). not (is_kept st l.row.version)) (filter (has_index old) (links old symbol)) (distinct_links (has_index old) (links old symbol) keys.apart))
      (λ key. same_test (is_among indexes key) (is_among (map (λ (l : Linked). l.row.index) dead_links) key) (index_dropped key) (dropped_index key))
      ∙ (length-map dead_links (λ (l : Linked). l.row.index)
      ∙ sym (ap (λ ns. length (filter (λ n. not (is_kept st n)) ns)) keys.indexes
      ∙ (ap (λ (ns : List ℕ). length ns) (filter_mapped (λ n. not (is_kept st n)) (λ (l : Linked). l.row.version) (filter (has_index old) (links old symbol)))
      ∙ length-map dead_links (λ (l : Linked). l.row.version))))

  -- ---- tiles

  -- a key of a slot of a link is that of a block of its version
  block_of_slot : (l : Linked) (x : ℕ × List Block) (key : Key) → Pairs keys.names old st (links old symbol) s.versions l x → is_among (map (λ (y : Slot). y.key) l.index.slots) key ≡ true
      → (b : Block) × Contains x.1 b × (is_among (keys.names b.version b.number) key ≡ true)
  block_of_slot l x key pair there = among_named keys.names x.1 key (subst (λ ks. is_among ks key ≡ true) pair.keys there)

  -- and the other way round
  slot_of_block : (l : Linked) (x : ℕ × List Block) (b : Block) (key : Key) → Pairs keys.names old st (links old symbol) s.versions l x → has_block x.1 b ≡ true → is_among (keys.names b.version b.number) key ≡ true
      → Contains (reached l) key
  slot_of_block l x b key pair there named =
      let a = block_among x.1 b there in
      slot_reached l key (subst (λ ks. is_among ks key ≡ true) (sym pair.keys) (named_among keys.names x.1 a.0 key a.1 (subst (λ ks. is_among ks key ≡ true) (same_keys keys.names b a.0 a.2) named)))

  -- a block with a key that no live or held link reaches is not needed
  block_unneeded : (b : Block) (key : Key) → key.name ≡ symbol → IsUnneeded old key → is_among (keys.names b.version b.number) key ≡ true → is_unneeded st s b ≡ true
  block_unneeded b key name dead named = ap not (not_passing (has_block (kept_blocks st s.versions) b) (λ needed.
      let r = kept_in keys.names old st (links old symbol) s.versions has keys.named b needed in
      no_needed old symbol key name dead.no_more r.0 r.2.there (ap (is_kept st) r.2.number ∙ r.3) (slot_of_block r.0 r.1 b key r.2 r.4 named)))

  tile_dropped : (key : Key) → is_among tiles key ≡ true → is_among (keys_named keys.names (dead_blocks st s)) key ≡ true
  tile_dropped key there =
      let dead = all_at (IsDeadTile old symbol) tiles key frees.dead_tiles there in
      let l : Linked = dead.2.0 in
      let v = version_of keys.names old st (links old symbol) s.versions has keys.named l dead.2.1 in
      elim (reached_cases symbol l key (table_at l dead.2.1) (no_pages l dead.2.1) dead.2.3) [
        | inl same ↦ absurd (data_is_no_index key dead.0.0 (ap (λ (k : Key). k.kind) same ∙ (table_at l dead.2.1).0.0))
        | inr slot ↦
            let b = block_of_slot l v.0 key v.1 slot.0 in
            let a = block_among s.blocks b.0 (keys.blocks b.0 ∙ v.1.standing dead.2.2.2 b.0 (block_there v.0.1 b.0 b.1)) in
            let named = subst (λ ks. is_among ks key ≡ true) (same_keys keys.names b.0 a.0 a.2) b.2 in
            named_among keys.names (dead_blocks st s) a.0 key (in_filter (is_unneeded st s) s.blocks a.0 a.1 (block_unneeded a.0 key dead.0.1 dead.1 named)) named
      ]

  -- a key of a stored block that is not needed is reached by no live or held link
  key_unneeded : (b : Block) (key : Key) → Contains s.blocks b → is_unneeded st s b ≡ true → IsKeyOf kinds.TableData symbol key → is_among (keys.names b.version b.number) key ≡ true
      → (k : Linked) → Contains (links old symbol) k → is_kept st k.row.version ≡ true → Contains (reached k) key → ⊥
  key_unneeded b key there unneeded table named k link kept reach = elim (reached_cases symbol k key (table_at k link) (no_pages k link) reach) [
    | inl same ↦ data_is_no_index key table.0 (ap (λ (z : Key). z.kind) same ∙ (table_at k link).0.0)
    | inr slot ↦
        let v = version_of keys.names old st (links old symbol) s.versions has keys.named k link in
        let d = block_of_slot k v.0 key v.1 slot.0 in
        let held = block_there v.0.1 d.0 d.1 in
        let needed = v.1.kept (ap (is_kept st) (sym v.1.number) ∙ kept) d.0 held in
        let a = block_among s.blocks d.0 (keys.blocks d.0 ∙ v.1.standing (needed_stands old symbol k k.row.index lawful_old link kept (index_reached k)) d.0 held) in
        let same : b ≡ a.0 = one_named keys.names s.blocks b a.0 key keys.distinct there a.1 named (subst (λ ks. is_among ks key ≡ true) (same_keys keys.names d.0 a.0 a.2) d.2) in
        not_not (has_block (kept_blocks st s.versions) b) unneeded (ap (has_block (kept_blocks st s.versions)) same ∙ (same_there d.0 a.0 (kept_blocks st s.versions) a.2 ∙ needed))
  ]

  dropped_tile : (key : Key) → is_among (keys_named keys.names (dead_blocks st s)) key ≡ true → is_among tiles key ≡ true
  dropped_tile key there =
      let b = among_named keys.names (dead_blocks st s) key there in
      let inside = filter_in (is_unneeded st s) s.blocks b.0 b.1 in
      let stand = all_at (λ k. IsKeyOf kinds.TableData symbol k × (is_some (stored old k) ≡ true)) (keys_named keys.names s.blocks) key keys.stand (named_among keys.names s.blocks b.0 key inside.0 b.2) in
      let home = standing_in keys.names old st (links old symbol) s.versions has keys.named b.0 (sym (keys.blocks b.0) ∙ block_there s.blocks b.0 inside.0) in
      let unkept : is_kept st home.1.0 ≡ false = not_passing (is_kept st home.1.0) (λ kept. not_not (has_block (kept_blocks st s.versions) b.0) inside.1 (home.2.kept kept b.0 home.4)) in
      let dead = dead_index home.0 home.2.there home.3 (ap (is_kept st) home.2.number ∙ unkept) in
      let reach = slot_of_block home.0 home.1 b.0 key home.2 home.4 b.2 in
      let gone = frees.no_tile home.0 key home.2.there dead reach stand.0 (record {
        once = reaching old symbol key stand.0.1 home.0 home.2.there reach;
        no_more = not_needed old symbol key stand.0.1 (key_unneeded b.0 key inside.0 inside.1 stand.0 b.2);
      }) in
      among_tiles key stand.0.0 (was_dropped client ((tiles ++ indexes) ++ pieces) old key stand.1 gone)

  pub tiles_counted : length tiles ≡ tiles_in (dead_blocks st s)
  tiles_counted =
      length-from_same_keys same_key_equiv tiles (keys_named keys.names (dead_blocks st s)) (rising_distinct tiles frees.tiles_rise) (distinct_some keys.names (is_unneeded st s) s.blocks keys.distinct)
      (λ key. same_test (is_among tiles key) (is_among (keys_named keys.names (dead_blocks st s)) key) (tile_dropped key) (dropped_tile key))
      ∙ named_counted keys.names (dead_blocks st s) (sizes_of s.blocks keys.sizes)
    where
      sizes_of : (bs : List Block) → AllByRecursion (λ (b : Block). length (keys.names b.version b.number) ≡ b.tiles) bs → AllByRecursion (λ (b : Block). length (keys.names b.version b.number) ≡ b.tiles) (filter (is_unneeded st s) bs)
      sizes_of [] all = tt
      sizes_of (b ∷ bs) all = elim (is_unneeded st s b) as (λ t. AllByRecursion (λ (x : Block). length (keys.names x.version x.number) ≡ x.tiles) (cond t (b ∷ filter (is_unneeded st s) bs) (filter (is_unneeded st s) bs))) [
        | true ↦ (all.0, sizes_of bs all.1)
        | false ↦ sizes_of bs all.1
      ]

  -- ---- what stands behind it

  kept_indexes : (ls : List Linked) → ((l : Linked) → Contains ls l → Contains (links old symbol) l) → filter (λ (l : Linked). is_kept st l.row.version) (filter (has_index old) ls) ≡ filter (has_index new) ls
  kept_indexes [] inside = refl
  kept_indexes (l ∷ ls) inside =
      let there = inside l (contains_first l ls) in
      let more = kept_indexes ls (λ k c. inside k (contains_later k l ls c)) in
      elim (is_kept st l.row.version) as (λ t. is_kept st l.row.version ≡ t
      → filter (λ (k : Linked). is_kept st k.row.version) (cond (has_index old l) (l ∷ filter (has_index old) ls) (filter (has_index old) ls)) ≡ cond (has_index new l) (l ∷ filter (has_index new) ls) (filter (has_index new) ls)) [
        | true ↦ λ kept.
            ap (λ t. filter (λ (k : Linked). is_kept st k.row.version) (cond t (l ∷ filter (has_index old) ls) (filter (has_index old) ls))) (needed_stands old symbol l l.row.index lawful_old there kept (index_reached l))
            ∙ (ap (λ t. cond t (l ∷ filter (λ (k : Linked). is_kept st k.row.version) (filter (has_index old) ls)) (filter (λ (k : Linked). is_kept st k.row.version) (filter (has_index old) ls))) kept
            ∙ (ap (λ ks. l ∷ ks) more ∙ ap (λ t. cond t (l ∷ filter (has_index new) ls) (filter (has_index new) ls)) (sym (index_behind l there ∙ kept))))
        | false ↦ λ unkept.
            let skipped : (t : Bool) → filter (λ (k : Linked). is_kept st k.row.version) (cond t (l ∷ filter (has_index old) ls) (filter (has_index old) ls)) ≡ filter (λ (k : Linked). is_kept st k.row.version) (filter (has_index old) ls) =
            λ t. elim t as (λ u. filter (λ (k : Linked). is_kept st k.row.version) (cond u (l ∷ filter (has_index old) ls) (filter (has_index old) ls)) ≡ filter (λ (k : Linked). is_kept st k.row.version) (filter (has_index old) ls)) [
              | true ↦ ap (λ u. cond u (l ∷ filter (λ (k : Linked). is_kept st k.row.version) (filter (has_index old) ls)) (filter (λ (k : Linked). is_kept st k.row.version) (filter (has_index old) ls))) unkept
              | false ↦ refl
            ] in
            skipped (has_index old l) ∙ (more ∙ ap (λ t. cond t (l ∷ filter (has_index new) ls) (filter (has_index new) ls)) (sym (index_behind l there ∙ unkept)))
      ] refl

  -- a block that is needed is stored
  needed_is_stored : (b : Block) → has_block (kept_blocks st s.versions) b ≡ true → has_block s.blocks b ≡ true
  needed_is_stored b needed =
      let r = kept_in keys.names old st (links old symbol) s.versions has keys.named b needed in
      keys.blocks b ∙ r.2.standing (needed_stands old symbol r.0 r.0.row.index lawful_old r.2.there (ap (is_kept st) r.2.number ∙ r.3) (index_reached r.0)) b r.4

  abbrev stays : Block → Bool
  stays b = not (is_unneeded st s b)

  stays_is : (x : Bool) → not (not x) ≡ x
  stays_is true = refl
  stays_is false = refl

  blocks_behind : (b : Block) → has_block (filter stays s.blocks) b ≡ has_block (kept_blocks st s.versions) b
  blocks_behind b = same_test (has_block (filter stays s.blocks) b) (has_block (kept_blocks st s.versions) b)
      (λ there.
      let a = block_among (filter stays s.blocks) b there in
      same_there a.0 b (kept_blocks st s.versions) (same_back b a.0 a.2) ∙ (sym (stays_is (has_block (kept_blocks st s.versions) a.0)) ∙ (filter_in stays s.blocks a.0 a.1).1))
      (λ needed.
      let a = block_among s.blocks b (needed_is_stored b needed) in
      same_there a.0 b (filter stays s.blocks) (same_back b a.0 a.2)
      ∙ block_there (filter stays s.blocks) a.0 (in_filter stays s.blocks a.0 a.1 (stays_is (has_block (kept_blocks st s.versions) a.0) ∙ (same_there b a.0 (kept_blocks st s.versions) a.2 ∙ needed))))

  -- the keys of the blocks that stay are stored
  keys_stand : (bs : List Block) → ((b : Block) → Contains bs b → Contains s.blocks b) → AllByRecursion (λ key. IsKeyOf kinds.TableData symbol key × (is_some (stored new key) ≡ true)) (keys_named keys.names (filter stays bs))
  keys_stand bs inside = all_from (λ key. IsKeyOf kinds.TableData symbol key × (is_some (stored new key) ≡ true)) (keys_named keys.names (filter stays bs)) (λ key there.
      let b = among_named keys.names (filter stays bs) key there in
      let within = filter_in stays bs b.0 b.1 in
      let stand = all_at (λ k. IsKeyOf kinds.TableData symbol k × (is_some (stored old k) ≡ true)) (keys_named keys.names s.blocks) key keys.stand (named_among keys.names s.blocks b.0 key (inside b.0 within.0) b.2) in
      let r = kept_in keys.names old st (links old symbol) s.versions has keys.named b.0 (sym (stays_is (has_block (kept_blocks st s.versions) b.0)) ∙ within.1) in (
        stand.0,
        needed_stands new symbol r.0 key lawful (subst (λ ls. Contains ls r.0) (sym (links_behind_drops client ((tiles ++ indexes) ++ pieces) old symbol)) r.2.there)
            (ap (λ (x : State). is_kept x r.0.row.version) (state_behind_drops client ((tiles ++ indexes) ++ pieces) old symbol) ∙ (ap (is_kept st) r.2.number ∙ r.3)) (slot_of_block r.0 r.1 b.0 key r.2 r.4 b.2),
      ))

  sizes_stay : (bs : List Block) → AllByRecursion (λ (b : Block). length (keys.names b.version b.number) ≡ b.tiles) bs → AllByRecursion (λ (b : Block). length (keys.names b.version b.number) ≡ b.tiles) (filter stays bs)
  sizes_stay [] all = tt
  sizes_stay (b ∷ bs) all = elim (stays b) as (λ t. AllByRecursion (λ (x : Block). length (keys.names x.version x.number) ≡ x.tiles) (cond t (b ∷ filter stays bs) (filter stays bs))) [
    | true ↦ (all.0, sizes_stay bs all.1)
    | false ↦ sizes_stay bs all.1
  ]

  -- the shape behind the reclaim has the keys of the links
  pub keys_behind : HasKeys new symbol (swept st s)
  keys_behind =
      let same : links new symbol ≡ links old symbol = links_behind_drops client ((tiles ++ indexes) ++ pieces) old symbol in
      record {
        names = keys.names;
        named = subst (λ ls. AllZip (HasNames keys.names) ls s.versions) (sym same) keys.named;
        tables = subst (λ ls. AllByRecursion (NamesTable symbol) ls) (sym same) keys.tables;
        apart = subst (λ ls. IsDistinct same_key (map (λ (l : Linked). l.row.index) ls)) (sym same) keys.apart;
        sizes = sizes_stay s.blocks keys.sizes;
        distinct = distinct_some keys.names stays s.blocks keys.distinct;
        stand = keys_stand s.blocks (λ b c. c);
        indexes = ap (filter (is_kept st)) keys.indexes ∙ (filter_mapped (is_kept st) (λ (l : Linked). l.row.version) (filter (has_index old) (links old symbol))
            ∙ (ap (map (λ (l : Linked). l.row.version)) (kept_indexes (links old symbol) (λ l c. c)) ∙ ap (λ ls. map (λ (l : Linked). l.row.version) (filter (has_index new) ls)) (sym same)));
        blocks = λ b. blocks_behind b ∙ (ap (λ bs. has_block bs b) (sym (standing_is_kept new st (links old symbol) s.versions has index_behind)) ∙ ap (λ ls. has_block (standing_blocks new ls s.versions) b) (sym same));
        pieces = ap (λ ps. filter (λ p. not (is_consumed st p)) ps) keys.pieces;
      }
