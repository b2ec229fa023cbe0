-- The keys of the row blocks of slots, one behind the other.
use Rattle.std.proofs.Common.{◌≡◌, ℕ, zero, suc, ◌≤◌, true, false, List, [], ◌∷◌, ◌++◌, map, length, take, refl, sym, ap, ◌∙◌, arith, cond}
use Rattle.std.specs.Prelude.{nat_eq}
use Rattle.std.specs.List.{AllByRecursion}
use Rattle.std.proofs.lemmas.Bool.{eq-eqb, ne_eqb}
use Rattle.index_tree.specs.declared.index.Slot.{Slot}
use Rattle.key_kind.specs.declared.key.Key.{Key}
use Rattle.reply_model.specs.Keyed.{with_key, begins_block, block_keys}
use Rattle.reply_model.specs.Standing.{row_sizes}
use Rattle.index_tree.specs.SlotTexts.{moved}
use Rattle.frame_write.specs.Pieces.{IsRun}
use Rattle.append_update.proofs.SlotSizes.{begins, row_sizes-cons}

-- ---- where row blocks begin

pub begins-append : (xs ys : List Slot) → begins_block xs ≡ true → begins_block ys ≡ true → begins_block (xs ++ ys) ≡ true
begins-append [] ys first later = later
begins-append (x ∷ xs) ys first later = first

pub begins-take : (n : ℕ) (slots : List Slot) → begins_block slots ≡ true → begins_block (take n slots) ≡ true
begins-take zero slots first = refl
begins-take (suc n) [] first = refl
begins-take (suc n) (s ∷ slots) first = first

pub begins-moved : (from to : ℕ) (run : List Slot) → begins_block run ≡ true → begins_block (map (moved from to) run) ≡ true
begins-moved from to [] first = refl
begins-moved from to (s ∷ run) first = first

-- a run begins with one
pub run_begins_block : (columns : ℕ) (run : List Slot) → IsRun columns run → begins_block run ≡ true
run_begins_block columns [] run = refl
run_begins_block columns (s ∷ more) run = eq-eqb s.part.first_col 0 run.0

-- ---- keys

-- a slot has a row block
some_keys : (s : Slot) (slots : List Slot) → (keys : List Key) × (more : List (List Key)) × (block_keys (s ∷ slots) ≡ keys ∷ more)
some_keys s slots = elim (begins_block slots) as (λ b. (keys : List Key) × (more : List (List Key)) × (cond b ((s.key ∷ []) ∷ block_keys slots) (with_key s.key (block_keys slots)) ≡ keys ∷ more)) [
  | true ↦ (s.key ∷ [], block_keys slots, refl)
  | false ↦ first (block_keys slots)
]
  where
    first : (blocks : List (List Key)) → (keys : List Key) × (more : List (List Key)) × (with_key s.key blocks ≡ keys ∷ more)
    first [] = (s.key ∷ [], [], refl)
    first (keys ∷ more) = (s.key ∷ keys, more, refl)

one_more : (key : Key) (blocks rest : List (List Key)) (keys : List Key) (more : List (List Key)) → blocks ≡ keys ∷ more → with_key key (blocks ++ rest) ≡ with_key key blocks ++ rest
one_more key blocks rest keys more is = ap (λ l. with_key key (l ++ rest)) is ∙ sym (ap (λ l. with_key key l ++ rest) is)

-- the row blocks of slots, and of others behind them of which the first begins one
pub block_keys-append : (xs ys : List Slot) → begins_block ys ≡ true → block_keys (xs ++ ys) ≡ block_keys xs ++ block_keys ys
block_keys-append [] ys begins = refl
block_keys-append (x ∷ []) ys begins = ap (λ b. cond b ((x.key ∷ []) ∷ block_keys ys) (with_key x.key (block_keys ys))) begins
block_keys-append (x ∷ z ∷ xs) ys begins =
    let rest = block_keys-append (z ∷ xs) ys begins in
    let some = some_keys z xs in
    elim (nat_eq z.part.first_col 0) as (λ b. cond b ((x.key ∷ []) ∷ block_keys (z ∷ (xs ++ ys))) (with_key x.key (block_keys (z ∷ (xs ++ ys)))) ≡ cond b ((x.key ∷ []) ∷ block_keys (z ∷ xs)) (with_key x.key (block_keys (z ∷ xs))) ++ block_keys ys) [
      | true ↦ ap (λ l. (x.key ∷ []) ∷ l) rest
      | false ↦ ap (with_key x.key) rest ∙ one_more x.key (block_keys (z ∷ xs)) (block_keys ys) some.0 some.1 some.2
    ]

-- a run that is moved keeps its keys
pub moved_keys : (from to : ℕ) (run : List Slot) → block_keys (map (moved from to) run) ≡ block_keys run
moved_keys from to [] = refl
moved_keys from to (x ∷ []) = refl
moved_keys from to (x ∷ z ∷ run) = ap (λ l. cond (nat_eq z.part.first_col 0) ((x.key ∷ []) ∷ l) (with_key x.key l)) (moved_keys from to (z ∷ run))

-- slots of which only the first begins a row block have one, of all their keys
pub one_block : (x : Slot) (xs ys : List Slot) → AllByRecursion (λ (s : Slot). 1 ≤ s.part.first_col) xs → begins_block ys ≡ true → block_keys (x ∷ (xs ++ ys)) ≡ map (λ (s : Slot). s.key) (x ∷ xs) ∷ block_keys ys
one_block x [] ys behind begins = ap (λ b. cond b ((x.key ∷ []) ∷ block_keys ys) (with_key x.key (block_keys ys))) begins
one_block x (z ∷ xs) ys behind begins =
    ap (λ b. cond b ((x.key ∷ []) ∷ block_keys (z ∷ (xs ++ ys))) (with_key x.key (block_keys (z ∷ (xs ++ ys))))) (ne_eqb z.part.first_col 0 (λ e. omega (arith, behind.0, e)))
    ∙ ap (with_key x.key) (one_block z xs ys behind.1 begins)

-- ---- as many row blocks have keys as have rows

same_many : (key : Key) (blocks : List (List Key)) (keys : List Key) (more : List (List Key)) → blocks ≡ keys ∷ more → length (with_key key blocks) ≡ length blocks
same_many key blocks keys more is = ap (λ l. length (with_key key l)) is ∙ sym (ap length is)

blocks_from : (s : Slot) (slots : List Slot) → length (block_keys (s ∷ slots)) ≡ suc (length (row_sizes slots))
blocks_from s [] = refl
blocks_from s (z ∷ slots) =
    let some = some_keys z slots in
    let rest = blocks_from z slots in
    elim (begins z) as (λ b. length (cond b ((s.key ∷ []) ∷ block_keys (z ∷ slots)) (with_key s.key (block_keys (z ∷ slots)))) ≡ suc (length (cond b (z.part.rows ∷ row_sizes slots) (row_sizes slots)))) [
      | true ↦ ap suc rest
      | false ↦ same_many s.key (block_keys (z ∷ slots)) some.0 some.1 some.2 ∙ rest
    ] ∙ ap (λ ns. suc (length ns)) (sym (row_sizes-cons z slots))

pub keys_for_rows : (slots : List Slot) → begins_block slots ≡ true → length (block_keys slots) ≡ length (row_sizes slots)
keys_for_rows [] first = refl
keys_for_rows (s ∷ slots) first =
    blocks_from s slots ∙ (ap (λ b. length (cond b (s.part.rows ∷ row_sizes slots) (row_sizes slots))) (sym first) ∙ ap length (sym (row_sizes-cons s slots)))
