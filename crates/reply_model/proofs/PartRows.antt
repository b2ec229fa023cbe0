-- The parts of a new version have no more rows than a full block, where the base's blocks have not.
use Rattle.std.proofs.Common.{◌≡◌, ℕ, zero, suc, ◌+◌, ◌-◌, ◌≤◌, Bool, true, false, List, [], ◌∷◌, ◌++◌, map, length, Option, Some, None, refl, arith, cond, subst, sym}
use Rattle.std.specs.Prelude.{◌/◌, ◌%◌, replicate, nat_eq, nat_le, find}
use Rattle.std.specs.Option.{option_map_or}
use Rattle.std.specs.List.{AllByRecursion}
use Rattle.std.proofs.Math.Nat.{mod-lt}
use Rattle.frame_core.specs.Frames.{rows_between}
use Rattle.key_kind.specs.Names.{Name}
use Rattle.bucket_core.specs.declared.event.Change.{Change}
use Rattle.bucket_core.specs.declared.event.Change.TheVariants as changes
use Rattle.bucket_core.specs.History.{History}
use Rattle.store_model.specs.Library.{Version, state_of, base_of}
use Rattle.store_model.specs.Links.{Linked, links}
use Rattle.reply_model.specs.Blocks.{Cutting, Part, shared, fresh, some_rows, block_sizes, cut_rows, parts_before, parts_behind, parts_of}
use Rattle.reply_model.specs.Standing.{row_sizes, IsCutBy, rows_of_version, base_rows, bare_block, part_rows, parts_laid, IsLaid}

-- none of these is greater
abbrev pub AreWithin : ℕ → List ℕ → Type 0
AreWithin most ns = AllByRecursion (λ n. n ≤ most) ns

abbrev PartsWithin : ℕ → List Part → Type 0
PartsWithin most ps = AllByRecursion (λ p. part_rows p ≤ most) ps

numbers_append : (most : ℕ) (xs ys : List ℕ) → AreWithin most xs → AreWithin most ys → AreWithin most (xs ++ ys)
numbers_append most [] ys a b = b
numbers_append most (x ∷ xs) ys a b = (a.0, numbers_append most xs ys a.1 b)

within_append : (most : ℕ) (xs ys : List Part) → PartsWithin most xs → PartsWithin most ys → PartsWithin most (xs ++ ys)
within_append most [] ys a b = b
within_append most (x ∷ xs) ys a b = (a.0, within_append most xs ys a.1 b)

within_fresh : (most : ℕ) (sizes : List ℕ) → AreWithin most sizes → PartsWithin most (map fresh sizes)
within_fresh most [] a = tt
within_fresh most (n ∷ sizes) a = (a.0, within_fresh most sizes a.1)

within_some : (most n : ℕ) → n ≤ most → AreWithin most (some_rows n)
within_some most zero le = tt
within_some most (suc n) le = (le, tt)

sizes_within : (c : Cutting) (rows : ℕ) → 1 ≤ c.rows → AreWithin c.rows (block_sizes c rows)
sizes_within c rows some =
    let less : suc (rows % c.rows) ≤ c.rows = mod-lt rows some in
    numbers_append c.rows (replicate (rows / c.rows) c.rows) (some_rows (rows % c.rows)) (full (rows / c.rows)) (within_some c.rows (rows % c.rows) (omega (arith, less)))
  where
    full : (n : ℕ) → AreWithin c.rows (replicate n c.rows)
    full zero = tt
    full (suc n) = (omega arith, full n)

within_shared : (most : ℕ) (rows : List ℕ) → AreWithin most rows → PartsWithin most (map shared (map bare_block rows))
within_shared most [] a = tt
within_shared most (n ∷ rows) a = (a.0, within_shared most rows a.1)

within_before : (most a b start : ℕ) (rows : List ℕ) → AreWithin most rows → PartsWithin most (parts_before a b start (map bare_block rows))
within_before most a b start [] all = tt
within_before most a b start (n ∷ rows) all =
    within_append most (cond (nat_le (start + n) a) (shared (bare_block n) ∷ []) (cond (nat_le b start) [] (map fresh (some_rows (a - start))))) (parts_before a b (start + n) (map bare_block rows))
    (first (nat_le (start + n) a) (nat_le b start) refl) (within_before most a b (start + n) rows all.1)
  where
    first : (p q : Bool) → nat_le (start + n) a ≡ p → PartsWithin most (cond p (shared (bare_block n) ∷ []) (cond q [] (map fresh (some_rows (a - start)))))
    first true q e = (all.0, tt)
    first false true e = tt
    first false false e =
        let cut : suc a ≤ start + n = grind (arith, e) in
        within_fresh most (some_rows (a - start)) (within_some most (a - start) (omega (arith, cut, all.0)))

within_behind : (most a b start : ℕ) (rows : List ℕ) → AreWithin most rows → PartsWithin most (parts_behind a b start (map bare_block rows))
within_behind most a b start [] all = tt
within_behind most a b start (n ∷ rows) all =
    within_append most (cond (nat_le (start + n) a) [] (cond (nat_le b start) (shared (bare_block n) ∷ []) (map fresh (some_rows (start + n - b))))) (parts_behind a b (start + n) (map bare_block rows))
    (first (nat_le (start + n) a) (nat_le b start) refl) (within_behind most a b (start + n) rows all.1)
  where
    first : (p q : Bool) → nat_le b start ≡ q → PartsWithin most (cond p [] (cond q (shared (bare_block n) ∷ []) (map fresh (some_rows (start + n - b)))))
    first true q e = tt
    first false true e = (all.0, tt)
    first false false e =
        let cut : suc start ≤ b = grind (arith, e) in
        within_fresh most (some_rows (start + n - b)) (within_some most (start + n - b) (omega (arith, cut, all.0)))

parts_within : (c : Cutting) (base : Option Version) (rows : List ℕ) (change : Change) → 1 ≤ c.rows → AreWithin c.rows rows → PartsWithin c.rows (parts_of c base (map bare_block rows) change)
parts_within c base rows (changes.Wrote frame at) some all = within_fresh c.rows (block_sizes c (length frame.rows)) (sizes_within c (length frame.rows) some)
parts_within c base rows (changes.Appended frame at) some all =
    within_append c.rows (map shared (map bare_block rows)) (cut_rows c (length frame.rows)) (within_shared c.rows rows all)
    (within_fresh c.rows (block_sizes c (length frame.rows)) (sizes_within c (length frame.rows) some))
parts_within c None rows (changes.Updated frame range at) some all = within_fresh c.rows (block_sizes c (length frame.rows)) (sizes_within c (length frame.rows) some)
parts_within c (Some v) rows (changes.Updated frame range at) some all =
    let between = rows_between range v.frame in
    within_append c.rows (parts_before between.0 between.1 0 (map bare_block rows) ++ cut_rows c (length frame.rows)) (parts_behind between.0 between.1 0 (map bare_block rows))
    (within_append c.rows (parts_before between.0 between.1 0 (map bare_block rows)) (cut_rows c (length frame.rows)) (within_before c.rows between.0 between.1 0 rows all)
    (within_fresh c.rows (block_sizes c (length frame.rows)) (sizes_within c (length frame.rows) some)))
    (within_behind c.rows between.0 between.1 0 rows all)
parts_within c base rows (changes.Removed versions) some all = tt
parts_within c base rows (changes.Held holder version) some all = tt
parts_within c base rows (changes.Released holder) some all = tt
parts_within c base rows (changes.Discarded pieces) some all = tt
parts_within c base rows changes.Restated some all = tt

rows_within : (most : ℕ) (ps : List Part) → PartsWithin most ps → AreWithin most (map part_rows ps)
rows_within most [] a = tt
rows_within most (p ∷ ps) a = (a.0, rows_within most ps a.1)

pub base_within : (most : ℕ) (ls : List Linked) (base : Option Version) → AllByRecursion (λ (l : Linked). AreWithin most (row_sizes l.index.slots)) ls → AreWithin most (rows_of_version ls base)
base_within most ls None all = tt
base_within most ls (Some v) all = found ls all
  where
    found : (xs : List Linked) → AllByRecursion (λ (l : Linked). AreWithin most (row_sizes l.index.slots)) xs
        → AreWithin most (option_map_or (λ (l : Linked). row_sizes l.index.slots) (find (λ (l : Linked). nat_eq v.number l.row.version) xs) [])
    found [] a = tt
    found (x ∷ xs) a = elim (nat_eq v.number x.row.version) as (λ t. AreWithin most (option_map_or (λ (l : Linked). row_sizes l.index.slots) (cond t (Some x) (find (λ (l : Linked). nat_eq v.number l.row.version) xs)) [])) [
      | true ↦ a.0
      | false ↦ found xs a.1
    ]

-- a version that is laid out is cut so
pub laid_within : (c : Cutting) (symbol : Name) (change : Change) (place : ℕ) (old new : History) → IsCutBy c old → (laid : IsLaid c symbol change place old new) → AreWithin c.rows (row_sizes laid.link.index.slots)
laid_within c symbol change place old new cut laid =
    subst (AreWithin c.rows) (sym laid.rows) (rows_within c.rows (parts_laid c old symbol change)
    (parts_within c (base_of (state_of old symbol)) (base_rows old symbol) change laid.some_rows (base_within c.rows (links old symbol) (base_of (state_of old symbol)) (cut symbol))))
