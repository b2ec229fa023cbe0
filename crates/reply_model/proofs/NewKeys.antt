-- Behind the commit of a version the shape has the keys of the links.
use Rattle.std.proofs.Common.{◌≡◌, ◌⊎◌, ℕ, suc, ◌+◌, ◌<◌, Bool, true, false, List, [], ◌∷◌, ◌++◌, map, length, Option, Some, None, refl, sym, ◌∙◌, ap, subst, inl, inr, arith, cond}
use Rattle.std.specs.Prelude.{not, filter, find, reverse, nat_eq, Contains, is_some, option_and_then}
use Rattle.std.specs.Option.{option_map_or}
use Rattle.std.specs.List.{AllByRecursion, AllZip, IsDistinct}
use Rattle.std.proofs.lemmas.Bool.{true≢false, or_left, and_from, eq-eqb, eqb-true, ne_eqb}
use Rattle.std.proofs.lemmas.List.{length-map}
use Rattle.byte_fields.specs.Reading.{read_of}
use Rattle.index_tree.specs.declared.index.Slot.{Slot}
use Rattle.key_kind.specs.Names.{Name}
use Rattle.key_kind.specs.declared.key.Key.{Key}
use Rattle.key_kind.specs.declared.key.KeyKind.TheVariants as kinds
use Rattle.key_kind.specs.Keys.{same_key, is_put}
use Rattle.key_kind.specs.KeyText.{key_text}
use Rattle.key_kind.proofs.KeyTests.{same_key_is, put_is_no_reference}
use Rattle.bucket_core.specs.declared.event.Change.{Change}
use Rattle.bucket_core.specs.declared.event.Change.TheVariants as changes
use Rattle.bucket_core.specs.declared.event.Event.TheVariants as events
use Rattle.bucket_core.specs.History.{History, Bytes, stored, body_put, PutOnce}
use Rattle.store_model.specs.declared.chain.LinkRow.{LinkRow}
use Rattle.store_model.specs.declared.chain.Entry.{Entry}
use Rattle.store_model.specs.ChainText.{entry_of}
use Rattle.store_model.specs.Library.{State, Version, state_of, base_of, first_of, next_number, is_kept, is_live, is_buried, is_linked}
use Rattle.store_model.specs.Law.{IsLawful}
use Rattle.store_model.specs.Links.{Linked, links, reached, element, index_put}
use Rattle.store_model.specs.Commits.{FitsLink, MayChange, MayNameKey, is_version, marks_of}
use Rattle.store_model.proofs.Lists.{contains_first, contains_later, contains_cases, contains_none, contains_right, filter_in, passes}
use Rattle.store_model.proofs.Histories.{stands_from}
use Rattle.store_model.proofs.Lawful.{lawful_is_intact, beginning_lawful}
use Rattle.store_model.proofs.Referring.{linked_row}
use Rattle.store_model.proofs.Plainly.{is_commit, lawful_links}
use Rattle.store_model.proofs.PlainLinks.{flat as flat_index, flat_is_put, index_in_reach}
use Rattle.reply_model.specs.Tries.{put_of, keys_of_puts, IsKeyOf, index_linked}
use Rattle.reply_model.specs.Blocks.{Cutting, Block, Part, shared, fresh, Shape, base_blocks, blocks_from, made_for}
use Rattle.reply_model.specs.Keyed.{block_keys, has_index, standing_blocks, keys_named, HasNames, NamesTable, HasKeys, IsKeyedPart}
use Rattle.reply_model.specs.Standing.{HasBlocks, HasShape}
use Rattle.reply_model.proofs.TryCounts.{PutsVersion}
use Rattle.reply_model.proofs.DropCounts.{is_among}
use Rattle.reply_model.proofs.Among.{all_at, all_from, among_left, among_contains, contains_among, distinct_first, distinct_more, distinct_both, named_among, named_cons, named_append, has_block, block_there, block_among, block_at, same_block_is, same_keys}
use Rattle.reply_model.proofs.KeyedShapes.{flat, blocks_flat, Pairs, pairs_first, pairs_later, has_append, has_left, has_right, has_same, link_at, reached_cases, slot_reached, reached_was_put}
use Rattle.reply_model.proofs.ReachedKeys.{same_test, not_passing, reaching, needed_stands}
use Rattle.reply_model.proofs.Makings.{AreMade, SharesBlocks, MakesVersion}
use Rattle.reply_model.proofs.FreshKeys.{index_is, behind_puts, puts_reversed, puts_new, puts_distinct, puts_found, stored_behind_puts, fresh_keys, SharedFail, fresh_are_put}
use Rattle.reply_model.proofs.NewBlocks.{keys_at, blocks_named, made_named, made_sized, new_or_shared, made_is_block}

-- ---- what was put before

-- a key that was put is of a kind that clients put
put_kind : (h : History) (key : Key) → IsLawful h → is_some (body_put h key) ≡ true → is_put key.kind ≡ true
put_kind h key lawful put = by (body_put h key) refl put
  where
    by : (o : Option Bytes) → body_put h key ≡ o → is_some o ≡ true → is_put key.kind ≡ true
    by None e f = absurd (true≢false (sym f))
    by (Some body) e f = ((lawful_is_intact h lawful).numbered key body e).1

-- behind puts and a Refer it stands as before
pub stored_behind_commit : (client other : ℕ) (symbol : Name) (old behind : History) (was : Option Key) (entry : Key) (list : List Change) (ps : List (Key × Bytes)) (key : Key) → behind ≡ reverse (map (put_of other) ps)
    → IsLawful old → IsLawful (behind ++ old) → is_some (body_put old key) ≡ true → is_some (stored (events.Refer client symbol was entry list ∷ (behind ++ old)) key) ≡ is_some (stored old key)
stored_behind_commit client other symbol old behind was entry list ps key is lawful_old lawful put =
    let before_is : behind ++ old ≡ behind_puts other ps old = ap (λ es. es ++ old) is ∙ puts_reversed other ps old in
    let once = subst PutOnce before_is (lawful_is_intact (behind ++ old) lawful).once in
    ap (λ b. is_some (cond b (Some (key_text entry)) (stored (behind ++ old) key))) (put_is_no_reference symbol key (put_kind old key lawful_old put))
    ∙ ap (λ o. is_some o) (ap (λ g. stored g key) before_is ∙ stored_behind_puts other ps old key once put)

-- ---- the base

-- the base is live
base_live : (st : State) (v : Version) → base_of st ≡ Some v → is_kept st v.number ≡ true
base_live st v is =
    let r = filter_in (λ (x : Version). not (is_buried st x.number)) st.versions v (first_there (filter (λ (x : Version). not (is_buried st x.number)) st.versions) is) in
    or_left (is_live st v.number) _ (and_from (is_linked st v.number) (not (is_buried st v.number)) (passes (λ (x : Version). nat_eq v.number x.number) st.versions v r.0 (eq-eqb v.number v.number refl)) r.1)
  where
    first_there : (xs : List Version) → first_of xs ≡ Some v → Contains xs v
    first_there [] e = absurd cc
    first_there (x ∷ xs) e = subst (λ y. Contains (x ∷ xs) y) (same x v e) (contains_first x xs)
      where
        same : (a b : Version) → Some a ≡ Some b → a ≡ b
        same a b f = cc

-- a block of the base is one of a live version
base_pair : (names : ℕ → ℕ → List Key) (h : History) (st : State) (ls : List Linked) (s : Shape) (b : Block) → AllZip HasBlocks ls s.versions → AllZip (HasNames names) ls s.versions → has_block (base_blocks s (base_of st)) b ≡ true
    → (l : Linked) × (x : ℕ × List Block) × Pairs names h st ls s.versions l x × (is_kept st x.0 ≡ true) × (has_block x.1 b ≡ true)
base_pair names h st ls s b has named there = by (base_of st) refl there
  where
    found : (v : Version) → is_kept st v.number ≡ true → (ks : List Linked) (xs : List (ℕ × List Block)) → AllZip HasBlocks ks xs → AllZip (HasNames names) ks xs
        → has_block (option_map_or (λ (x : ℕ × List Block). x.1) (find (λ (x : ℕ × List Block). nat_eq v.number x.0) xs) []) b ≡ true
        → (l : Linked) × (x : ℕ × List Block) × Pairs names h st ks xs l x × (is_kept st x.0 ≡ true) × (has_block x.1 b ≡ true)
    found v kept [] [] a n e = absurd (true≢false (sym e))
    found v kept [] (y ∷ ys) a n e = absurd a
    found v kept (k ∷ ks) [] a n e = absurd a
    found v kept (k ∷ ks) (y ∷ ys) a n e =
        elim (nat_eq v.number y.0) as (λ t. nat_eq v.number y.0 ≡ t
        → has_block (option_map_or (λ (x : ℕ × List Block). x.1) (cond t (Some y) (find (λ (x : ℕ × List Block). nat_eq v.number x.0) ys)) []) b ≡ true
        → (l : Linked) × (x : ℕ × List Block) × Pairs names h st (k ∷ ks) (y ∷ ys) l x × (is_kept st x.0 ≡ true) × (has_block x.1 b ≡ true)) [
          | true ↦ λ same f. (k, y, pairs_first names h st k y ks ys a.0 n.0, ap (is_kept st) (sym (eqb-true v.number y.0 same)) ∙ kept, f)
          | false ↦ λ other f. let r = found v kept ks ys a.1 n.1 f in (r.0, r.1, pairs_later names h st k y ks ys r.0 r.1 r.2, r.3, r.4)
        ] refl e

    by : (o : Option Version) → base_of st ≡ o → has_block (base_blocks s o) b ≡ true → (l : Linked) × (x : ℕ × List Block) × Pairs names h st ls s.versions l x × (is_kept st x.0 ≡ true) × (has_block x.1 b ≡ true)
    by None is e = absurd (true≢false (sym e))
    by (Some v) is e = found v (base_live st v is) ls s.versions has named e

-- ---- the puts

contains_left : {X : Type 0} (xs ys : List X) (x : X) → Contains xs x → Contains (xs ++ ys) x
contains_left [] ys x c = absurd (contains_none x c)
contains_left (z ∷ xs) ys x c = elim (contains_cases x z xs c) [
  | inl same ↦ subst (λ w. Contains (z ∷ xs ++ ys) w) same (contains_first z (xs ++ ys))
  | inr later ↦ contains_later x z (xs ++ ys) (contains_left xs ys x later)
]

keys_append : (xs ys : List (Key × Bytes)) → keys_of_puts (xs ++ ys) ≡ keys_of_puts xs ++ keys_of_puts ys
keys_append [] ys = refl
keys_append (x ∷ xs) ys = ap (λ ks. x.0 ∷ ks) (keys_append xs ys)

row_linked : (row : LinkRow) (first : Change) (rest : List Change) → is_version first ≡ true → index_linked (marks_of row (first ∷ rest)) ≡ Some row.index
row_linked row (changes.Wrote frame at) rest e = refl
row_linked row (changes.Appended frame at) rest e = refl
row_linked row (changes.Updated frame range at) rest e = refl
row_linked row (changes.Removed versions) rest e = absurd (true≢false (sym e))
row_linked row (changes.Held holder version) rest e = absurd (true≢false (sym e))
row_linked row (changes.Released holder) rest e = absurd (true≢false (sym e))
row_linked row (changes.Discarded pieces) rest e = absurd (true≢false (sym e))
row_linked row changes.Restated rest e = absurd (true≢false (sym e))

same_entry : (a b : Entry) → Some a ≡ Some b → a ≡ b
same_entry a b e = cc

same_some_key : (a b : Key) → Some a ≡ Some b → a ≡ b
same_some_key a b e = cc

module _ (c : Cutting) (client other : ℕ) (symbol : Name) (old behind : History) (was : Option Key) (entry : Key) (first : Change) (rest : List Change) (s : Shape) (shape : HasShape old symbol s) (tiles : ℕ) (ps : List (Key × Bytes))
    (behind_is : behind ≡ reverse (map (put_of other) ps)) (table : PutsVersion entry tiles ps) (lawful : IsLawful (events.Refer client symbol was entry (first ∷ rest) ∷ (behind ++ old)))
    (made : MakesVersion c (state_of old symbol) s (links old symbol) (first_of (links (events.Refer client symbol was entry (first ∷ rest) ∷ (behind ++ old)) symbol)) tiles first rest)
    (v : Version) (fits : FitsLink (behind ++ old) client symbol (is_commit (behind ++ old) client symbol was entry (first ∷ rest) lawful.0.1).row v) (link_is : fits.link ≡ made.link) (links_before : links (behind ++ old) symbol ≡ links old symbol)
    (links_are : links (events.Refer client symbol was entry (first ∷ rest) ∷ (behind ++ old)) symbol ≡ made.link ∷ links old symbol) (number : made.link.row.version ≡ next_number (state_of old symbol)) where
  abbrev before : History
  before = behind ++ old

  abbrev new : History
  new = events.Refer client symbol was entry (first ∷ rest) ∷ (behind ++ old)

  abbrev st : State
  st = state_of old symbol

  abbrev next : ℕ
  next = next_number st

  abbrev keys : HasKeys old symbol s
  keys = shape.keys

  lawful_old : IsLawful old
  lawful_old = beginning_lawful behind old lawful.1

  before_is : before ≡ behind_puts other ps old
  before_is = ap (λ es. es ++ old) behind_is ∙ puts_reversed other ps old

  once : PutOnce (behind_puts other ps old)
  once = subst PutOnce before_is (lawful_is_intact before lawful.1).once

  stands : (key : Key) → is_some (body_put old key) ≡ true → is_some (stored new key) ≡ is_some (stored old key)
  stands key put = stored_behind_commit client other symbol old behind was entry (first ∷ rest) ps key behind_is lawful_old lawful.1 put

  -- the keys of the tiles that are put
  abbrev put_keys : List Key
  put_keys = keys_of_puts table.tile_puts

  list_keys : keys_of_puts ps ≡ (put_keys ++ table.key ∷ []) ++ entry ∷ []
  list_keys = ap keys_of_puts table.is ∙ (keys_append (table.tile_puts ++ (table.key, table.body) ∷ []) ((entry, table.element_body) ∷ [])
      ∙ ap (λ ks. ks ++ entry ∷ []) (keys_append table.tile_puts ((table.key, table.body) ∷ [])))

  keys_new : (key : Key) → is_among put_keys key ≡ true → body_put old key ≡ None
  keys_new key there =
      all_at (λ k. body_put old k ≡ None) (keys_of_puts ps) key (puts_new other ps old once)
      (subst (λ ks. is_among ks key ≡ true) (sym list_keys) (among_left (put_keys ++ table.key ∷ []) (entry ∷ []) key (among_left put_keys (table.key ∷ []) key there)))

  keys_distinct : IsDistinct same_key put_keys
  keys_distinct =
      distinct_first put_keys (table.key ∷ []) (distinct_first (put_keys ++ table.key ∷ []) (entry ∷ []) (subst (λ ks. IsDistinct same_key ks) list_keys (puts_distinct other ps old once)))

  found : (p : Key × Bytes) → Contains ps p → body_put before p.0 ≡ Some p.1
  found p there = subst (λ h. body_put h p.0 ≡ Some p.1) (sym before_is) (puts_found other ps old p once there)

  entry_found : body_put before entry ≡ Some table.element_body
  entry_found =
      found (entry, table.element_body) (subst (λ xs. Contains xs (entry, table.element_body)) (sym table.is)
      (contains_right (table.tile_puts ++ (table.key, table.body) ∷ []) ((entry, table.element_body) ∷ []) (entry, table.element_body) (contains_first (entry, table.element_body) [])))

  index_found : body_put before table.key ≡ Some table.body
  index_found =
      found (table.key, table.body) (subst (λ xs. Contains xs (table.key, table.body)) (sym table.is)
      (contains_left (table.tile_puts ++ (table.key, table.body) ∷ []) ((entry, table.element_body) ∷ []) (table.key, table.body)
      (contains_right table.tile_puts ((table.key, table.body) ∷ []) (table.key, table.body) (contains_first (table.key, table.body) []))))

  abbrev may : MayChange before client symbol was entry (first ∷ rest)
  may = is_commit before client symbol was entry (first ∷ rest) lawful.0.1

  key_is : table.key ≡ may.row.index
  key_is =
      let read : element before entry ≡ Some table.element = ap (λ o. option_and_then (λ body. read_of (entry_of body)) o) entry_found ∙ ap (λ r. read_of r) table.element_spelled in
      let element_is = same_entry table.element (record { prev = was; changes = marks_of may.row (first ∷ rest) }) (sym read ∙ may.spelled) in
      same_some_key table.key may.row.index (sym table.linked ∙ (ap (λ (e : Entry). index_linked e.changes) element_is ∙ row_linked may.row first rest made.version))

  index_same : made.link.index ≡ table.index
  index_same =
      ap (λ (l : Linked). l.index) (sym link_is)
      ∙ index_is before may.row fits.link table.index fits.link_is
      (subst (λ k. index_put before k ≡ Some (flat_index table.index)) key_is (flat_is_put before table.key table.body table.index index_found table.spelled))

  row_same : made.link.row ≡ may.row
  row_same = ap (λ (l : Linked). l.row) (sym link_is) ∙ linked_row before may.row fits.link fits.link_is

  abbrev slots : List Slot
  slots = made.link.index.slots

  abbrev blocks : List (List Key)
  blocks = block_keys slots

  abbrev zip : AllZip (IsKeyedPart (λ (b : Block). keys.names b.version b.number) made.slices) made.parts blocks
  zip = made.keyed keys.names keys.named

  -- ---- the base's keys were put

  base_put : (b : Block) (key : Key) → has_block (base_blocks s (base_of st)) b ≡ true → is_among (keys.names b.version b.number) key ≡ true → is_some (body_put old key) ≡ true
  base_put b key there named =
      let r = base_pair keys.names old st (links old symbol) s b shape.versions keys.named there in
      let a = block_among r.1.1 b r.4 in
      let slot = subst (λ ks. is_among ks key ≡ true) (sym r.2.keys) (named_among keys.names r.1.1 a.0 key a.1 (subst (λ ks. is_among ks key ≡ true) (same_keys keys.names b a.0 a.2) named)) in
      let reach = slot_reached r.0 key slot in
      let names_table = link_at (NamesTable symbol) (links old symbol) r.0 keys.tables r.2.there in
      reached_was_put old symbol r.0 key lawful_old r.2.there reach (name_of r.0 names_table (reached_cases symbol r.0 key names_table (lawful_links old lawful_old symbol r.0 r.2.there) reach))
    where
      name_of : (l : Linked) → NamesTable symbol l → (key ≡ l.row.index) ⊎ ((is_among (map (λ (x : Slot). x.key) l.index.slots) key ≡ true) × IsKeyOf kinds.TableData symbol key) → key.name ≡ symbol
      name_of l t (inl same) = ap (λ (k : Key). k.name) same ∙ t.0.1
      name_of l t (inr slot) = slot.1.1

  shared_fail : (parts : List Part) → SharesBlocks next (base_blocks s (base_of st)) parts → AllByRecursion (SharedFail (is_among put_keys) (λ (b : Block). keys.names b.version b.number)) parts
  shared_fail [] share = tt
  shared_fail (shared x ∷ parts) share = (
    all_from (λ k. is_among put_keys k ≡ false) (keys.names x.version x.number) (λ key there. not_passing (is_among put_keys key) (λ e.
        true≢false (sym (base_put x key share.0.0 there) ∙ ap (λ o. is_some o) (keys_new key e)))),
    shared_fail parts share.1,
  )
  shared_fail (fresh rows ∷ parts) share = (tt, shared_fail parts share.1)

  ordered : put_keys ≡ filter (is_among put_keys) (flat blocks)
  ordered = table.order ∙ ap (filter (is_among put_keys)) (ap (λ i. map (λ (x : Slot). x.key) i.slots) (sym index_same) ∙ sym (blocks_flat slots))

  fresh_is : flat (fresh_keys made.parts blocks) ≡ put_keys
  fresh_is =
      fresh_are_put (λ (b : Block). keys.names b.version b.number) made.slices made.parts blocks put_keys zip (shared_fail made.parts made.based) ordered
      (length-map table.tile_puts (λ (p : Key × Bytes). p.0) ∙ (sym table.counted ∙ made.fresh))

  -- ---- the names behind the commit

  new_names : ℕ → ℕ → List Key
  new_names version n = cond (nat_eq version next) (keys_at n (fresh_keys made.parts blocks)) (keys.names version n)

  older : (version n : ℕ) → version < next → new_names version n ≡ keys.names version n
  unfolding new_names
  older version n below = ap (λ t. cond t (keys_at n (fresh_keys made.parts blocks)) (keys.names version n)) (ne_eqb version next (λ e. omega (arith, e, below)))

  newest : (i : ℕ) → new_names next (0 + i) ≡ keys_at i (fresh_keys made.parts blocks)
  unfolding new_names
  newest i =
      let same : 0 + i ≡ i = omega arith in
      ap (λ t. cond t (keys_at (0 + i) (fresh_keys made.parts blocks)) (keys.names next (0 + i))) (eq-eqb next next refl) ∙ ap (λ k. keys_at k (fresh_keys made.parts blocks)) same

  -- blocks that were made before keep their names
  older_named : (bs : List Block) → AreMade next bs → map (λ (b : Block). new_names b.version b.number) bs ≡ map (λ (b : Block). keys.names b.version b.number) bs
  older_named [] low = refl
  older_named (b ∷ bs) low = ap (λ ks. ks ∷ map (λ (x : Block). new_names x.version x.number) bs) (older b.version b.number low.0) ∙ ap (λ kss. keys.names b.version b.number ∷ kss) (older_named bs low.1)

  older_links : (ls : List Linked) (xs : List (ℕ × List Block)) → AllByRecursion (λ (x : ℕ × List Block). AreMade next x.1) xs → AllZip (HasNames keys.names) ls xs → AllZip (HasNames new_names) ls xs
  older_links [] [] low zipped = tt
  older_links [] (x ∷ xs) low zipped = absurd zipped
  older_links (l ∷ ls) [] low zipped = absurd zipped
  older_links (l ∷ ls) (x ∷ xs) low zipped = (zipped.0 ∙ sym (older_named x.1 low.0), older_links ls xs low.1 zipped.1)

  version_at : (xs : List (ℕ × List Block)) (x : ℕ × List Block) → AllByRecursion (λ (y : ℕ × List Block). AreMade next y.1) xs → Contains xs x → AreMade next x.1
  version_at [] x low there = absurd (contains_none x there)
  version_at (y ∷ xs) x low there = elim (contains_cases x y xs there) [ inl same ↦ subst (λ (z : ℕ × List Block). AreMade next z.1) same low.0 | inr later ↦ version_at xs x low.1 later ]

  -- a block among those of the versions was made before
  standing_below : (ls : List Linked) (xs : List (ℕ × List Block)) → AllByRecursion (λ (y : ℕ × List Block). AreMade next y.1) xs → (b : Block) → has_block (standing_blocks old ls xs) b ≡ true → b.version < next
  standing_below [] xs low b e = absurd (true≢false (sym e))
  standing_below (l ∷ ls) [] low b e = absurd (true≢false (sym e))
  standing_below (l ∷ ls) (x ∷ xs) low b e = elim (has_append (cond (has_index old l) x.1 []) (standing_blocks old ls xs) b e) [
    | inl here ↦ by (has_index old l) here
    | inr later ↦ standing_below ls xs low.1 b later
  ]
    where
      by : (t : Bool) → has_block (cond t x.1 []) b ≡ true → b.version < next
      by true f = let a = block_among x.1 b f in subst (λ n. n < next) (sym (same_block_is b a.0 a.2).0) (block_at (λ (y : Block). y.version < next) x.1 a.0 low.0 a.1)
      by false f = absurd (true≢false (sym f))

  block_below : (b : Block) → Contains s.blocks b → b.version < next
  block_below b there = standing_below (links old symbol) s.versions shape.made b (sym (keys.blocks b) ∙ block_there s.blocks b there)

  stored_below : (bs : List Block) → ((b : Block) → Contains bs b → Contains s.blocks b) → AreMade next bs
  stored_below [] inside = tt
  stored_below (b ∷ bs) inside = (block_below b (inside b (contains_first b bs)), stored_below bs (λ x d. inside x (contains_later x b bs d)))

  older_keys : (bs : List Block) → AreMade next bs → keys_named new_names bs ≡ keys_named keys.names bs
  older_keys [] low = refl
  older_keys (b ∷ bs) low =
      named_cons new_names b bs ∙ (ap (λ ks. ks ++ keys_named new_names bs) (older b.version b.number low.0)
      ∙ (ap (λ ks. keys.names b.version b.number ++ ks) (older_keys bs low.1) ∙ sym (named_cons keys.names b bs)))

  older_sizes : (bs : List Block) → AreMade next bs → AllByRecursion (λ (b : Block). length (keys.names b.version b.number) ≡ b.tiles) bs → AllByRecursion (λ (b : Block). length (new_names b.version b.number) ≡ b.tiles) bs
  older_sizes [] low all = tt
  older_sizes (b ∷ bs) low all = (ap (λ (ks : List Key). length ks) (older b.version b.number low.0) ∙ all.0, older_sizes bs low.1 all.1)

  -- ---- the shape behind it

  abbrev made_blocks : List Block
  made_blocks = made_for next made.blocks

  parts_blocks : made_blocks ≡ made_for next (blocks_from next made.slices 0 made.parts)
  parts_blocks = ap (made_for next) made.blocks_are

  made_keys : keys_named new_names made_blocks ≡ put_keys
  made_keys = ap (keys_named new_names) parts_blocks ∙ (made_named next made.slices keys.names new_names older (base_blocks s (base_of st)) made.parts blocks 0 made.based zip newest ∙ fresh_is)

  all_keys : keys_named new_names (made_blocks ++ s.blocks) ≡ put_keys ++ keys_named keys.names s.blocks
  all_keys = named_append new_names made_blocks s.blocks
      ∙ (ap (λ ks. ks ++ keys_named new_names s.blocks) made_keys ∙ ap (λ ks. put_keys ++ ks) (older_keys s.blocks (stored_below s.blocks (λ b d. d))))

  -- a slot's key is a stored tile of the symbol
  slots_stand : (xs : List Slot) → AllByRecursion (λ (x : Slot). MayNameKey before client may.row.version symbol x.key) xs → AllByRecursion (λ (x : Slot). IsKeyOf kinds.TableData symbol x.key × (is_some (stored new x.key) ≡ true)) xs
  slots_stand [] all = tt
  slots_stand (x ∷ xs) all = (
    ((all.0.kind, all.0.name), ap (λ b. is_some (cond b (Some (key_text entry)) (stored before x.key))) (put_is_no_reference symbol x.key (ap is_put all.0.kind)) ∙ all.0.stands),
    slots_stand xs all.1,
  )

  table_slots : AllByRecursion (λ (x : Slot). IsKeyOf kinds.TableData symbol x.key × (is_some (stored new x.key) ≡ true)) slots
  table_slots = subst (λ (l : Linked). AllByRecursion (λ (x : Slot). IsKeyOf kinds.TableData symbol x.key × (is_some (stored new x.key) ≡ true)) l.index.slots) link_is (slots_stand fits.link.index.slots fits.keys)

  slot_kinds : (xs : List Slot) → AllByRecursion (λ (x : Slot). IsKeyOf kinds.TableData symbol x.key × (is_some (stored new x.key) ≡ true)) xs → AllByRecursion (λ (x : Slot). IsKeyOf kinds.TableData symbol x.key) xs
  slot_kinds [] all = tt
  slot_kinds (x ∷ xs) all = (all.0.0, slot_kinds xs all.1)

  slot_keys : (xs : List Slot) → AllByRecursion (λ (x : Slot). IsKeyOf kinds.TableData symbol x.key × (is_some (stored new x.key) ≡ true)) xs
      → AllByRecursion (λ key. IsKeyOf kinds.TableData symbol key × (is_some (stored new key) ≡ true)) (map (λ (x : Slot). x.key) xs)
  slot_keys [] all = tt
  slot_keys (x ∷ xs) all = (all.0, slot_keys xs all.1)

  put_stand : AllByRecursion (λ key. IsKeyOf kinds.TableData symbol key × (is_some (stored new key) ≡ true)) put_keys
  put_stand = all_from (λ key. IsKeyOf kinds.TableData symbol key × (is_some (stored new key) ≡ true)) put_keys (λ key there.
      let inside = filter_in (is_among put_keys) (flat blocks) key (subst (λ ks. Contains ks key) ordered (among_contains put_keys key there)) in
      all_at (λ k. IsKeyOf kinds.TableData symbol k × (is_some (stored new k) ≡ true)) (map (λ (x : Slot). x.key) slots) key (slot_keys slots table_slots)
      (contains_among (map (λ (x : Slot). x.key) slots) key (subst (λ ks. Contains ks key) (blocks_flat slots) inside.0)))

  old_put : (key : Key) → IsKeyOf kinds.TableData symbol key → is_some (stored old key) ≡ true → is_some (body_put old key) ≡ true
  old_put key table_key stood = ap (λ o. is_some o) (stands_from old key (ap is_put table_key.0) stood).put

  old_stand : AllByRecursion (λ key. IsKeyOf kinds.TableData symbol key × (is_some (stored new key) ≡ true)) (keys_named keys.names s.blocks)
  old_stand = all_from (λ key. IsKeyOf kinds.TableData symbol key × (is_some (stored new key) ≡ true)) (keys_named keys.names s.blocks) (λ key there.
      let stood = all_at (λ k. IsKeyOf kinds.TableData symbol k × (is_some (stored old k) ≡ true)) (keys_named keys.names s.blocks) key keys.stand there in
      (stood.0, stands key (old_put key stood.0 stood.1) ∙ stood.1))

  both_stand : (xs ys : List Key) → AllByRecursion (λ key. IsKeyOf kinds.TableData symbol key × (is_some (stored new key) ≡ true)) xs → AllByRecursion (λ key. IsKeyOf kinds.TableData symbol key × (is_some (stored new key) ≡ true)) ys
      → AllByRecursion (λ key. IsKeyOf kinds.TableData symbol key × (is_some (stored new key) ≡ true)) (xs ++ ys)
  both_stand [] ys a b = b
  both_stand (x ∷ xs) ys a b = (a.0, both_stand xs ys a.1 b)

  both_sizes : (xs ys : List Block) → AllByRecursion (λ (b : Block). length (new_names b.version b.number) ≡ b.tiles) xs → AllByRecursion (λ (b : Block). length (new_names b.version b.number) ≡ b.tiles) ys
      → AllByRecursion (λ (b : Block). length (new_names b.version b.number) ≡ b.tiles) (xs ++ ys)
  both_sizes [] ys a b = b
  both_sizes (x ∷ xs) ys a b = (a.0, both_sizes xs ys a.1 b)

  -- the new index is another one
  index_apart : (ls : List Linked) → ((l : Linked) → Contains ls l → Contains (links old symbol) l) → AllByRecursion (λ y. same_key made.link.row.index y ≡ false) (map (λ (l : Linked). l.row.index) ls)
  index_apart [] inside = tt
  index_apart (l ∷ ls) inside = (
    not_passing (same_key made.link.row.index l.row.index) (λ e.
        let same : l.row.index ≡ may.row.index = sym (same_key_is made.link.row.index l.row.index e) ∙ ap (λ (r : LinkRow). r.index) row_same in
        true≢false (sym (reaching before symbol may.row.index fits.new_index.name l (subst (λ xs. Contains xs l) (sym links_before) (inside l (contains_first l ls)))
        (subst (λ k. Contains (reached l) k) same (index_in_reach l))) ∙ fits.new_index.fresh.unreached)),
    index_apart ls (λ k d. inside k (contains_later k l ls d)),
  )

  index_stands : has_index new made.link ≡ true
  index_stands =
      ap (λ (r : LinkRow). is_some (stored new r.index)) row_same
      ∙ (ap (λ b. is_some (cond b (Some (key_text entry)) (stored before may.row.index))) (put_is_no_reference symbol may.row.index (ap is_put fits.new_index.kind)) ∙ fits.new_index.stands)

  old_indexes : (l : Linked) → Contains (links old symbol) l → has_index new l ≡ has_index old l
  old_indexes l there =
      let names_table = link_at (NamesTable symbol) (links old symbol) l keys.tables there in
      stands l.row.index (reached_was_put old symbol l l.row.index lawful_old there (index_in_reach l) names_table.0.1)

  -- the blocks of the base are stored
  base_stored : (b : Block) → has_block (base_blocks s (base_of st)) b ≡ true → has_block s.blocks b ≡ true
  base_stored b there =
      let r = base_pair keys.names old st (links old symbol) s b shape.versions keys.named there in
      keys.blocks b ∙ r.2.standing (needed_stands old symbol r.0 r.0.row.index lawful_old r.2.there (ap (is_kept st) r.2.number ∙ r.3) (index_in_reach r.0)) b r.4

  blocks_behind : (b : Block) → has_block (made_blocks ++ s.blocks) b ≡ has_block (made.blocks ++ standing_blocks new (links old symbol) s.versions) b
  blocks_behind b =
      let standing : has_block s.blocks b ≡ has_block (standing_blocks new (links old symbol) s.versions) b = keys.blocks b ∙ ap (λ bs. has_block bs b) (has_same old new (links old symbol) s.versions old_indexes).1 in
      same_test (has_block (made_blocks ++ s.blocks) b) (has_block (made.blocks ++ standing_blocks new (links old symbol) s.versions) b)
      (λ e. elim (has_append made_blocks s.blocks b e) [
        | inl fresh_one ↦ has_left made.blocks (standing_blocks new (links old symbol) s.versions) b (made_is_block next made.blocks b fresh_one)
        | inr old_one ↦ has_right made.blocks (standing_blocks new (links old symbol) s.versions) b (sym standing ∙ old_one)
      ])
      (λ e. elim (has_append made.blocks (standing_blocks new (links old symbol) s.versions) b e) [
        | inl own ↦ elim (new_or_shared next made.slices keys.names new_names older (base_blocks s (base_of st)) made.parts 0 b made.based (subst (λ bs. has_block bs b ≡ true) made.blocks_are own)) [
          | inl fresh_one ↦ has_left made_blocks s.blocks b (subst (λ bs. has_block bs b ≡ true) (sym parts_blocks) fresh_one)
          | inr base_one ↦ has_right made_blocks s.blocks b (base_stored b base_one)
        ]
        | inr old_one ↦ has_right made_blocks s.blocks b (standing ∙ old_one)
      ])

  pub keys_of_version_behind : HasKeys new symbol (record s { versions = (next, made.blocks) ∷ s.versions; indexes = next ∷ s.indexes; blocks = made_blocks ++ s.blocks; elements = suc s.elements })
  keys_of_version_behind = record {
    names = new_names;
    named = subst (λ ls. AllZip (HasNames new_names) ls ((next, made.blocks) ∷ s.versions)) (sym links_are) (
      blocks_named next made.slices keys.names new_names older (base_blocks s (base_of st)) made.parts blocks 0 made.based zip newest ∙ ap (map (λ (b : Block). new_names b.version b.number)) (sym made.blocks_are),
      older_links (links old symbol) s.versions shape.made keys.named,
    );
    tables = subst (λ ls. AllByRecursion (NamesTable symbol) ls) (sym links_are) (
      (subst (λ (r : LinkRow). IsKeyOf kinds.TableIndex symbol r.index) (sym row_same) (fits.new_index.kind, fits.new_index.name), slot_kinds slots table_slots),
      keys.tables,
    );
    apart = subst (λ ls. IsDistinct same_key (map (λ (l : Linked). l.row.index) ls)) (sym links_are) (distinct_more made.link.row.index (map (λ (l : Linked). l.row.index) (links old symbol)) (index_apart (links old symbol) (λ l d. d)) keys.apart);
    sizes = both_sizes made_blocks s.blocks
        (subst (λ bs. AllByRecursion (λ (b : Block). length (new_names b.version b.number) ≡ b.tiles) bs) (sym parts_blocks)
        (made_sized next made.slices keys.names new_names older (base_blocks s (base_of st)) made.parts blocks 0 made.based zip newest))
        (older_sizes s.blocks (stored_below s.blocks (λ b d. d)) keys.sizes);
    distinct = subst (λ ks. IsDistinct same_key ks) (sym all_keys) (distinct_both put_keys (keys_named keys.names s.blocks) keys_distinct keys.distinct (λ key e f.
        let stood = all_at (λ k. IsKeyOf kinds.TableData symbol k × (is_some (stored old k) ≡ true)) (keys_named keys.names s.blocks) key keys.stand f in
        true≢false (sym (old_put key stood.0 stood.1) ∙ ap (λ o. is_some o) (keys_new key e))));
    stand = subst (λ ks. AllByRecursion (λ key. IsKeyOf kinds.TableData symbol key × (is_some (stored new key) ≡ true)) ks) (sym all_keys) (both_stand put_keys (keys_named keys.names s.blocks) put_stand old_stand);
    indexes = ap (λ n. n ∷ s.indexes) (sym number) ∙ (ap (λ ns. made.link.row.version ∷ ns) (keys.indexes ∙ ap (map (λ (l : Linked). l.row.version)) (has_same old new (links old symbol) s.versions old_indexes).0)
        ∙ (ap (λ t. map (λ (l : Linked). l.row.version) (cond t (made.link ∷ filter (has_index new) (links old symbol)) (filter (has_index new) (links old symbol)))) (sym index_stands)
        ∙ ap (λ ls. map (λ (l : Linked). l.row.version) (filter (has_index new) ls)) (sym links_are)));
    blocks = λ b. blocks_behind b ∙ (ap (λ t. has_block (cond t made.blocks [] ++ standing_blocks new (links old symbol) s.versions) b) (sym index_stands)
        ∙ ap (λ ls. has_block (standing_blocks new ls ((next, made.blocks) ∷ s.versions)) b) (sym links_are));
    pieces = keys.pieces;
  }
