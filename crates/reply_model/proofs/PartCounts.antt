-- The blocks of a new version by its parts: how many tiles are new, and the rows of each block.
use Rattle.std.proofs.Common.{◌≡◌, ℕ, suc, ◌+◌, ◌-◌, ◌<◌, Bool, true, false, List, [], ◌∷◌, ◌++◌, map, length, Option, Some, None, refl, sym, ◌∙◌, ap, subst, arith, cond}
use Rattle.std.specs.Prelude.{◌*◌, ⊤, Contains, nat_eq, nat_le, find}
use Rattle.std.specs.Option.{option_map_or}
use Rattle.std.specs.List.{list_any, AllByRecursion, AllZip}
use Rattle.std.proofs.Math.Nat.{suc-mul}
use Rattle.std.proofs.lemmas.Bool.{eqb-true, eq-eqb}
use Rattle.std.proofs.lemmas.List.Sums.{sum_by-cons}
use Rattle.frame_core.specs.Frames.{rows_between}
use Rattle.key_kind.specs.declared.key.Key.{Key}
use Rattle.bucket_core.specs.declared.event.Change.{Change}
use Rattle.bucket_core.specs.declared.event.Change.TheVariants as changes
use Rattle.store_model.specs.Library.{Version}
use Rattle.store_model.specs.Links.{Linked}
use Rattle.reply_model.specs.Blocks.{Cutting, Block, Part, shared, fresh, some_rows, block_sizes, cut_rows, parts_before, parts_behind, parts_of, blocks_from, Shape, base_blocks, same_block, tiles_in, made_for}
use Rattle.reply_model.specs.Keyed.{block_keys, HasNames}
use Rattle.reply_model.specs.Standing.{row_sizes, HasBlocks, rows_of_version, keys_of_version, bare_block, part_rows, fresh_in}
use Rattle.reply_model.proofs.Among.{block_there, block_at}
use Rattle.store_model.proofs.Lists.{contains_first, contains_later}
use Rattle.reply_model.proofs.Makings.{AreMade, shares, SharesBlocks}

-- ---- parts

-- the block by its rows alone
abbrev pub bare : Block → Block
bare x = bare_block x.rows

-- the part, with its block by its rows alone
abbrev pub bare_part : Part → Part
bare_part (shared x) = shared (bare x)
bare_part (fresh rows) = fresh rows

bare_append : (xs ys : List Part) → map bare_part (xs ++ ys) ≡ map bare_part xs ++ map bare_part ys
bare_append [] ys = refl
bare_append (x ∷ xs) ys = ap (λ ps. bare_part x ∷ ps) (bare_append xs ys)

bare_fresh : (sizes : List ℕ) → map bare_part (map fresh sizes) ≡ map fresh sizes
bare_fresh [] = refl
bare_fresh (n ∷ sizes) = ap (λ ps. fresh n ∷ ps) (bare_fresh sizes)

bare_shared : (blocks : List Block) → map bare_part (map shared blocks) ≡ map shared (map bare blocks)
bare_shared [] = refl
bare_shared (x ∷ blocks) = ap (λ ps. shared (bare x) ∷ ps) (bare_shared blocks)

bare_before : (a b start : ℕ) (blocks : List Block) → parts_before a b start (map bare blocks) ≡ map bare_part (parts_before a b start blocks)
bare_before a b start [] = refl
bare_before a b start (x ∷ blocks) =
    ap (λ ps. (cond (nat_le (start + x.rows) a) (shared (bare x) ∷ []) (cond (nat_le b start) [] (map fresh (some_rows (a - start))))) ++ ps) (bare_before a b (start + x.rows) blocks)
    ∙ (ap (λ ps. ps ++ map bare_part (parts_before a b (start + x.rows) blocks)) (first (nat_le (start + x.rows) a) (nat_le b start))
    ∙ sym (bare_append (cond (nat_le (start + x.rows) a) (shared x ∷ []) (cond (nat_le b start) [] (map fresh (some_rows (a - start))))) (parts_before a b (start + x.rows) blocks)))
  where
    first : (p q : Bool) → cond p (shared (bare x) ∷ []) (cond q [] (map fresh (some_rows (a - start)))) ≡ map bare_part (cond p (shared x ∷ []) (cond q [] (map fresh (some_rows (a - start)))))
    first true q = refl
    first false true = refl
    first false false = sym (bare_fresh (some_rows (a - start)))

bare_behind : (a b start : ℕ) (blocks : List Block) → parts_behind a b start (map bare blocks) ≡ map bare_part (parts_behind a b start blocks)
bare_behind a b start [] = refl
bare_behind a b start (x ∷ blocks) =
    ap (λ ps. (cond (nat_le (start + x.rows) a) [] (cond (nat_le b start) (shared (bare x) ∷ []) (map fresh (some_rows (start + x.rows - b))))) ++ ps) (bare_behind a b (start + x.rows) blocks)
    ∙ (ap (λ ps. ps ++ map bare_part (parts_behind a b (start + x.rows) blocks)) (first (nat_le (start + x.rows) a) (nat_le b start))
    ∙ sym (bare_append (cond (nat_le (start + x.rows) a) [] (cond (nat_le b start) (shared x ∷ []) (map fresh (some_rows (start + x.rows - b))))) (parts_behind a b (start + x.rows) blocks)))
  where
    first : (p q : Bool) → cond p [] (cond q (shared (bare x) ∷ []) (map fresh (some_rows (start + x.rows - b)))) ≡ map bare_part (cond p [] (cond q (shared x ∷ []) (map fresh (some_rows (start + x.rows - b)))))
    first true q = refl
    first false true = refl
    first false false = sym (bare_fresh (some_rows (start + x.rows - b)))

-- what a change makes of blocks goes by their rows
pub bare_parts : (c : Cutting) (base : Option Version) (blocks : List Block) (change : Change) → parts_of c base (map bare blocks) change ≡ map bare_part (parts_of c base blocks change)
bare_parts c base blocks (changes.Wrote frame at) = sym (bare_fresh (block_sizes c (length frame.rows)))
bare_parts c base blocks (changes.Appended frame at) =
    sym (bare_append (map shared blocks) (cut_rows c (length frame.rows)) ∙ (ap (λ ps. ps ++ map bare_part (cut_rows c (length frame.rows))) (bare_shared blocks)
    ∙ ap (λ ps. map shared (map bare blocks) ++ ps) (bare_fresh (block_sizes c (length frame.rows)))))
bare_parts c None blocks (changes.Updated frame range at) = sym (bare_fresh (block_sizes c (length frame.rows)))
bare_parts c (Some v) blocks (changes.Updated frame range at) =
    let between = rows_between range v.frame in
    let before = parts_before between.0 between.1 0 blocks in
    let behind = parts_behind between.0 between.1 0 blocks in
    let cut = cut_rows c (length frame.rows) in
    ap (λ ps. (ps ++ cut) ++ parts_behind between.0 between.1 0 (map bare blocks)) (bare_before between.0 between.1 0 blocks)
    ∙ (ap (λ ps. (map bare_part before ++ cut) ++ ps) (bare_behind between.0 between.1 0 blocks)
    ∙ sym (bare_append (before ++ cut) behind ∙ (ap (λ ps. ps ++ map bare_part behind) (bare_append before cut)
    ∙ ap (λ ps. (map bare_part before ++ ps) ++ map bare_part behind) (bare_fresh (block_sizes c (length frame.rows))))))
bare_parts c base blocks (changes.Removed versions) = refl
bare_parts c base blocks (changes.Held holder version) = refl
bare_parts c base blocks (changes.Released holder) = refl
bare_parts c base blocks (changes.Discarded pieces) = refl
bare_parts c base blocks changes.Restated = refl

pub fresh_bare : (ps : List Part) → fresh_in (map bare_part ps) ≡ fresh_in ps
fresh_bare [] = refl
fresh_bare (shared x ∷ ps) = fresh_bare ps
fresh_bare (fresh n ∷ ps) = ap (λ k. suc k) (fresh_bare ps)

pub rows_bare : (ps : List Part) → map part_rows (map bare_part ps) ≡ map part_rows ps
rows_bare [] = refl
rows_bare (shared x ∷ ps) = ap (λ ns. x.rows ∷ ns) (rows_bare ps)
rows_bare (fresh n ∷ ps) = ap (λ ns. n ∷ ns) (rows_bare ps)

-- ---- the blocks of parts

-- the blocks that are shared were made for versions below a number
abbrev pub AreShared : ℕ → List Part → Type 0
AreShared n [] = ⊤
AreShared n (shared x ∷ ps) = (x.version < n) × AreShared n ps
AreShared n (fresh rows ∷ ps) = AreShared n ps

shared_append : (n : ℕ) (xs ys : List Part) → AreShared n xs → AreShared n ys → AreShared n (xs ++ ys)
shared_append n [] ys a b = b
shared_append n (shared x ∷ xs) ys a b = (a.0, shared_append n xs ys a.1 b)
shared_append n (fresh k ∷ xs) ys a b = shared_append n xs ys a b

shared_fresh : (n : ℕ) (sizes : List ℕ) → AreShared n (map fresh sizes)
shared_fresh n [] = tt
shared_fresh n (k ∷ sizes) = shared_fresh n sizes

shared_all : (n : ℕ) (blocks : List Block) → AreMade n blocks → AreShared n (map shared blocks)
shared_all n [] a = tt
shared_all n (x ∷ blocks) a = (a.0, shared_all n blocks a.1)

shared_before : (n a b start : ℕ) (blocks : List Block) → AreMade n blocks → AreShared n (parts_before a b start blocks)
shared_before n a b start [] made = tt
shared_before n a b start (x ∷ blocks) made =
    shared_append n (cond (nat_le (start + x.rows) a) (shared x ∷ []) (cond (nat_le b start) [] (map fresh (some_rows (a - start))))) (parts_before a b (start + x.rows) blocks)
    (first (nat_le (start + x.rows) a) (nat_le b start)) (shared_before n a b (start + x.rows) blocks made.1)
  where
    first : (p q : Bool) → AreShared n (cond p (shared x ∷ []) (cond q [] (map fresh (some_rows (a - start)))))
    first true q = (made.0, tt)
    first false true = tt
    first false false = shared_fresh n (some_rows (a - start))

shared_behind : (n a b start : ℕ) (blocks : List Block) → AreMade n blocks → AreShared n (parts_behind a b start blocks)
shared_behind n a b start [] made = tt
shared_behind n a b start (x ∷ blocks) made =
    shared_append n (cond (nat_le (start + x.rows) a) [] (cond (nat_le b start) (shared x ∷ []) (map fresh (some_rows (start + x.rows - b))))) (parts_behind a b (start + x.rows) blocks)
    (first (nat_le (start + x.rows) a) (nat_le b start)) (shared_behind n a b (start + x.rows) blocks made.1)
  where
    first : (p q : Bool) → AreShared n (cond p [] (cond q (shared x ∷ []) (map fresh (some_rows (start + x.rows - b)))))
    first true q = tt
    first false true = (made.0, tt)
    first false false = shared_fresh n (some_rows (start + x.rows - b))

pub shared_parts : (n : ℕ) (c : Cutting) (base : Option Version) (blocks : List Block) (change : Change) → AreMade n blocks → AreShared n (parts_of c base blocks change)
shared_parts n c base blocks (changes.Wrote frame at) made = shared_fresh n (block_sizes c (length frame.rows))
shared_parts n c base blocks (changes.Appended frame at) made = shared_append n (map shared blocks) (cut_rows c (length frame.rows)) (shared_all n blocks made) (shared_fresh n (block_sizes c (length frame.rows)))
shared_parts n c None blocks (changes.Updated frame range at) made = shared_fresh n (block_sizes c (length frame.rows))
shared_parts n c (Some v) blocks (changes.Updated frame range at) made =
    let between = rows_between range v.frame in
    shared_append n (parts_before between.0 between.1 0 blocks ++ cut_rows c (length frame.rows)) (parts_behind between.0 between.1 0 blocks)
    (shared_append n (parts_before between.0 between.1 0 blocks) (cut_rows c (length frame.rows)) (shared_before n between.0 between.1 0 blocks made) (shared_fresh n (block_sizes c (length frame.rows))))
    (shared_behind n between.0 between.1 0 blocks made)
shared_parts n c base blocks (changes.Removed versions) made = tt
shared_parts n c base blocks (changes.Held holder version) made = tt
shared_parts n c base blocks (changes.Released holder) made = tt
shared_parts n c base blocks (changes.Discarded pieces) made = tt
shared_parts n c base blocks changes.Restated made = tt

-- the new blocks have so many tiles
pub parts_counted : (version tiles k : ℕ) (ps : List Part) → AreShared version ps → tiles_in (made_for version (blocks_from version tiles k ps)) ≡ fresh_in ps * tiles
parts_counted version tiles k [] a = omega arith
parts_counted version tiles k (shared x ∷ ps) a =
    elim (nat_eq version x.version) as (λ b. nat_eq version x.version ≡ b
    → tiles_in (cond b (x ∷ made_for version (blocks_from version tiles k ps)) (made_for version (blocks_from version tiles k ps))) ≡ fresh_in ps * tiles) [
      | true ↦ λ e. absurd (omega (arith, a.0, eqb-true version x.version e))
      | false ↦ λ e. parts_counted version tiles k ps a.1
    ] refl
parts_counted version tiles k (fresh rows ∷ ps) a =
    let block : Block = record { version = version; number = k; rows = rows; tiles = tiles } in
    let more = made_for version (blocks_from version tiles (suc k) ps) in
    ap (λ b. tiles_in (cond b (block ∷ more) more)) (eq-eqb version version refl)
    ∙ (sum_by-cons (λ (x : Block). x.tiles) block more ∙ omega (arith, parts_counted version tiles (suc k) ps a, suc-mul (fresh_in ps) tiles))

-- each was made for a version below the next number
pub parts_made : (version tiles k m : ℕ) (ps : List Part) → version < m → AreShared version ps → AreMade m (blocks_from version tiles k ps)
parts_made version tiles k m [] low a = tt
parts_made version tiles k m (shared x ∷ ps) low a = (omega (arith, low, a.0), parts_made version tiles k m ps low a.1)
parts_made version tiles k m (fresh rows ∷ ps) low a = (low, parts_made version tiles (suc k) m ps low a)

-- and has its part's rows
pub parts_rows : (version tiles k : ℕ) (ps : List Part) → map (λ (b : Block). b.rows) (blocks_from version tiles k ps) ≡ map part_rows ps
parts_rows version tiles k [] = refl
parts_rows version tiles k (shared x ∷ ps) = ap (λ ns. x.rows ∷ ns) (parts_rows version tiles k ps)
parts_rows version tiles k (fresh rows ∷ ps) = ap (λ ns. rows ∷ ns) (parts_rows version tiles (suc k) ps)

-- ---- the base

-- the base's blocks have the rows of its index
pub base_has_rows : (ls : List Linked) (s : Shape) (base : Option Version) → AllZip HasBlocks ls s.versions → map (λ (b : Block). b.rows) (base_blocks s base) ≡ rows_of_version ls base
base_has_rows ls s None all = refl
base_has_rows ls s (Some v) all = found ls s.versions all
  where
    found : (xs : List Linked) (ys : List (ℕ × List Block)) → AllZip HasBlocks xs ys
        → map (λ (b : Block). b.rows) (option_map_or (λ (x : ℕ × List Block). x.1) (find (λ (x : ℕ × List Block). nat_eq v.number x.0) ys) [])
        ≡ option_map_or (λ (l : Linked). row_sizes l.index.slots) (find (λ (l : Linked). nat_eq v.number l.row.version) xs) []
    found [] [] a = refl
    found [] (y ∷ ys) a = absurd a
    found (x ∷ xs) [] a = absurd a
    found (x ∷ xs) (y ∷ ys) a =
        subst (λ n. map (λ (b : Block). b.rows) (option_map_or (λ (z : ℕ × List Block). z.1) (cond (nat_eq v.number n) (Some y) (find (λ (z : ℕ × List Block). nat_eq v.number z.0) ys)) [])
        ≡ option_map_or (λ (l : Linked). row_sizes l.index.slots) (cond (nat_eq v.number x.row.version) (Some x) (find (λ (l : Linked). nat_eq v.number l.row.version) xs)) []) a.0.0
        (elim (nat_eq v.number x.row.version) as (λ t. map (λ (b : Block). b.rows) (option_map_or (λ (z : ℕ × List Block). z.1) (cond t (Some y) (find (λ (z : ℕ × List Block). nat_eq v.number z.0) ys)) [])
        ≡ option_map_or (λ (l : Linked). row_sizes l.index.slots) (cond t (Some x) (find (λ (l : Linked). nat_eq v.number l.row.version) xs)) []) [
          | true ↦ a.0.1
          | false ↦ found xs ys a.1
        ])

-- and their keys
pub base_has_keys : (names : ℕ → ℕ → List Key) (ls : List Linked) (s : Shape) (base : Option Version) → AllZip HasBlocks ls s.versions → AllZip (HasNames names) ls s.versions
    → map (λ (b : Block). names b.version b.number) (base_blocks s base) ≡ keys_of_version ls base
base_has_keys names ls s None all named = refl
base_has_keys names ls s (Some v) all named = found ls s.versions all named
  where
    keys : Block → List Key
    keys b = names b.version b.number

    found : (xs : List Linked) (ys : List (ℕ × List Block)) → AllZip HasBlocks xs ys → AllZip (HasNames names) xs ys
        → map keys (option_map_or (λ (x : ℕ × List Block). x.1) (find (λ (x : ℕ × List Block). nat_eq v.number x.0) ys) [])
        ≡ option_map_or (λ (l : Linked). block_keys l.index.slots) (find (λ (l : Linked). nat_eq v.number l.row.version) xs) []
    found [] [] a n = refl
    found [] (y ∷ ys) a n = absurd a
    found (x ∷ xs) [] a n = absurd a
    found (x ∷ xs) (y ∷ ys) a n =
        subst (λ k. map keys (option_map_or (λ (z : ℕ × List Block). z.1) (cond (nat_eq v.number k) (Some y) (find (λ (z : ℕ × List Block). nat_eq v.number z.0) ys)) [])
        ≡ option_map_or (λ (l : Linked). block_keys l.index.slots) (cond (nat_eq v.number x.row.version) (Some x) (find (λ (l : Linked). nat_eq v.number l.row.version) xs)) []) a.0.0
        (elim (nat_eq v.number x.row.version) as (λ t. map keys (option_map_or (λ (z : ℕ × List Block). z.1) (cond t (Some y) (find (λ (z : ℕ × List Block). nat_eq v.number z.0) ys)) [])
        ≡ option_map_or (λ (l : Linked). block_keys l.index.slots) (cond t (Some x) (find (λ (l : Linked). nat_eq v.number l.row.version) xs)) []) [
          | true ↦ sym n.0
          | false ↦ found xs ys a.1 n.1
        ])

-- ---- which blocks are shared

all_append : (P : Part → Type 0) (xs ys : List Part) → AllByRecursion P xs → AllByRecursion P ys → AllByRecursion P (xs ++ ys)
all_append P [] ys a b = b
all_append P (x ∷ xs) ys a b = (a.0, all_append P xs ys a.1 b)

shares_fresh : (n : ℕ) (blocks : List Block) (sizes : List ℕ) → AllByRecursion (shares n blocks) (map fresh sizes)
shares_fresh n blocks [] = tt
shares_fresh n blocks (k ∷ sizes) = (tt, shares_fresh n blocks sizes)

module _ (n : ℕ) (blocks : List Block) (made : AreMade n blocks) where
  one_shares : (x : Block) → Contains blocks x → (list_any (same_block x) blocks ≡ true) × (x.version < n)
  one_shares x there = (block_there blocks x there, block_at (λ (b : Block). b.version < n) blocks x made there)

  shares_all : (bs : List Block) → ((b : Block) → Contains bs b → Contains blocks b) → AllByRecursion (shares n blocks) (map shared bs)
  shares_all [] inside = tt
  shares_all (b ∷ bs) inside = (one_shares b (inside b (contains_first b bs)), shares_all bs (λ x c. inside x (contains_later x b bs c)))

  shares_before : (a b start : ℕ) (bs : List Block) → ((x : Block) → Contains bs x → Contains blocks x) → AllByRecursion (shares n blocks) (parts_before a b start bs)
  shares_before a b start [] inside = tt
  shares_before a b start (x ∷ bs) inside =
      all_append (shares n blocks) (cond (nat_le (start + x.rows) a) (shared x ∷ []) (cond (nat_le b start) [] (map fresh (some_rows (a - start))))) (parts_before a b (start + x.rows) bs)
      (first (nat_le (start + x.rows) a) (nat_le b start)) (shares_before a b (start + x.rows) bs (λ y c. inside y (contains_later y x bs c)))
    where
      first : (p q : Bool) → AllByRecursion (shares n blocks) (cond p (shared x ∷ []) (cond q [] (map fresh (some_rows (a - start)))))
      first true q = (one_shares x (inside x (contains_first x bs)), tt)
      first false true = tt
      first false false = shares_fresh n blocks (some_rows (a - start))

  shares_behind : (a b start : ℕ) (bs : List Block) → ((x : Block) → Contains bs x → Contains blocks x) → AllByRecursion (shares n blocks) (parts_behind a b start bs)
  shares_behind a b start [] inside = tt
  shares_behind a b start (x ∷ bs) inside =
      all_append (shares n blocks) (cond (nat_le (start + x.rows) a) [] (cond (nat_le b start) (shared x ∷ []) (map fresh (some_rows (start + x.rows - b))))) (parts_behind a b (start + x.rows) bs)
      (first (nat_le (start + x.rows) a) (nat_le b start)) (shares_behind a b (start + x.rows) bs (λ y c. inside y (contains_later y x bs c)))
    where
      first : (p q : Bool) → AllByRecursion (shares n blocks) (cond p [] (cond q (shared x ∷ []) (map fresh (some_rows (start + x.rows - b)))))
      first true q = tt
      first false true = (one_shares x (inside x (contains_first x bs)), tt)
      first false false = shares_fresh n blocks (some_rows (start + x.rows - b))

  -- the parts of a new version share blocks of its base
  pub parts_share : (c : Cutting) (base : Option Version) (change : Change) → SharesBlocks n blocks (parts_of c base blocks change)
  parts_share c base (changes.Wrote frame at) = shares_fresh n blocks (block_sizes c (length frame.rows))
  parts_share c base (changes.Appended frame at) = all_append (shares n blocks) (map shared blocks) (cut_rows c (length frame.rows)) (shares_all blocks (λ x d. d)) (shares_fresh n blocks (block_sizes c (length frame.rows)))
  parts_share c None (changes.Updated frame range at) = shares_fresh n blocks (block_sizes c (length frame.rows))
  parts_share c (Some v) (changes.Updated frame range at) =
      let between = rows_between range v.frame in
      all_append (shares n blocks) (parts_before between.0 between.1 0 blocks ++ cut_rows c (length frame.rows)) (parts_behind between.0 between.1 0 blocks)
      (all_append (shares n blocks) (parts_before between.0 between.1 0 blocks) (cut_rows c (length frame.rows)) (shares_before between.0 between.1 0 blocks (λ x d. d)) (shares_fresh n blocks (block_sizes c (length frame.rows))))
      (shares_behind between.0 between.1 0 blocks (λ x d. d))
  parts_share c base (changes.Removed versions) = tt
  parts_share c base (changes.Held holder version) = tt
  parts_share c base (changes.Released holder) = tt
  parts_share c base (changes.Discarded pieces) = tt
  parts_share c base changes.Restated = tt
