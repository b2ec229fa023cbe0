-- The keys of the blocks of a new version, by its parts.
use Rattle.std.proofs.Common.{◌≡◌, ◌⊎◌, ℕ, zero, suc, ◌+◌, ◌<◌, Bool, true, false, List, [], ◌∷◌, ◌++◌, map, length, refl, sym, ◌∙◌, ap, subst, inl, inr, arith, cond}
use Rattle.std.specs.Prelude.{◌||◌, nat_eq}
use Rattle.std.specs.List.{list_any, AllByRecursion, AllZip}
use Rattle.std.proofs.lemmas.Bool.{true≢false, eq-eqb, ne_eqb, or_cases}
use Rattle.std.proofs.lemmas.List.Concat.{flat_map-cons}
use Rattle.key_kind.specs.declared.key.Key.{Key}
use Rattle.store_model.proofs.Lists.{filter_in}
use Rattle.reply_model.specs.Blocks.{Block, Part, shared, fresh, same_block, blocks_from, made_for}
use Rattle.reply_model.specs.Keyed.{IsKeyedPart, keys_named}
use Rattle.reply_model.proofs.Makings.{SharesBlocks}
use Rattle.reply_model.proofs.Among.{named_cons, has_block, same_there, same_back, block_there, block_among}
use Rattle.reply_model.proofs.KeyedShapes.{flat}
use Rattle.reply_model.proofs.FreshKeys.{fresh_keys}

-- the keys at a place of a list
abbrev pub keys_at : ℕ → List (List Key) → List Key
keys_at n [] = []
keys_at zero (keys ∷ more) = keys
keys_at (suc n) (keys ∷ more) = keys_at n more

module _ (next slices : ℕ) (names new_names : ℕ → ℕ → List Key) (older : (v n : ℕ) → v < next → new_names v n ≡ names v n) (base : List Block) where
  abbrev Names : ℕ → List Part → List (List Key) → Type 0
  Names k parts blocks = (i : ℕ) → new_names next (k + i) ≡ keys_at i (fresh_keys parts blocks)

  next_names : (k rows : ℕ) (parts : List Part) (keys : List Key) (blocks : List (List Key)) → Names k (fresh rows ∷ parts) (keys ∷ blocks) → Names (suc k) parts blocks
  next_names k rows parts keys blocks f i = let same : suc k + i ≡ k + suc i = omega arith in ap (new_names next) same ∙ f (suc i)

  first_name : (k rows : ℕ) (parts : List Part) (keys : List Key) (blocks : List (List Key)) → Names k (fresh rows ∷ parts) (keys ∷ blocks) → new_names next k ≡ keys
  first_name k rows parts keys blocks f = let same : k ≡ k + 0 = omega arith in ap (new_names next) same ∙ f 0

  not_next : (x : Block) → x.version < next → nat_eq next x.version ≡ false
  not_next x below = ne_eqb next x.version (λ e. omega (arith, e, below))

  -- each block has its part's keys
  pub blocks_named : (parts : List Part) (blocks : List (List Key)) (k : ℕ) → SharesBlocks next base parts → AllZip (IsKeyedPart (λ (b : Block). names b.version b.number) slices) parts blocks → Names k parts blocks
      → blocks ≡ map (λ (b : Block). new_names b.version b.number) (blocks_from next slices k parts)
  blocks_named [] [] k share zip f = refl
  blocks_named [] (keys ∷ blocks) k share zip f = absurd zip
  blocks_named (p ∷ parts) [] k share zip f = absurd zip
  blocks_named (shared x ∷ parts) (keys ∷ blocks) k share zip f =
      ap (λ ks. ks ∷ blocks) (zip.0 ∙ sym (older x.version x.number share.0.1)) ∙ ap (λ bs. new_names x.version x.number ∷ bs) (blocks_named parts blocks k share.1 zip.1 f)
  blocks_named (fresh rows ∷ parts) (keys ∷ blocks) k share zip f =
      ap (λ ks. ks ∷ blocks) (sym (first_name k rows parts keys blocks f)) ∙ ap (λ bs. new_names next k ∷ bs) (blocks_named parts blocks (suc k) share.1 zip.1 (next_names k rows parts keys blocks f))

  made_fresh : (rows k : ℕ) (parts : List Part) → made_for next (blocks_from next slices k (fresh rows ∷ parts))
      ≡ record { version = next; number = k; rows = rows; tiles = slices } ∷ made_for next (blocks_from next slices (suc k) parts)
  made_fresh rows k parts =
      let block : Block = record { version = next; number = k; rows = rows; tiles = slices } in
      ap (λ b. cond b (block ∷ made_for next (blocks_from next slices (suc k) parts)) (made_for next (blocks_from next slices (suc k) parts))) (eq-eqb next next refl)

  made_shared : (x : Block) (k : ℕ) (parts : List Part) → x.version < next → made_for next (blocks_from next slices k (shared x ∷ parts)) ≡ made_for next (blocks_from next slices k parts)
  made_shared x k parts below = ap (λ b. cond b (x ∷ made_for next (blocks_from next slices k parts)) (made_for next (blocks_from next slices k parts))) (not_next x below)

  -- the new blocks have the keys of the new parts
  pub made_named : (parts : List Part) (blocks : List (List Key)) (k : ℕ) → SharesBlocks next base parts → AllZip (IsKeyedPart (λ (b : Block). names b.version b.number) slices) parts blocks → Names k parts blocks
      → keys_named new_names (made_for next (blocks_from next slices k parts)) ≡ flat (fresh_keys parts blocks)
  made_named [] [] k share zip f = refl
  made_named [] (keys ∷ blocks) k share zip f = absurd zip
  made_named (p ∷ parts) [] k share zip f = absurd zip
  made_named (shared x ∷ parts) (keys ∷ blocks) k share zip f = ap (keys_named new_names) (made_shared x k parts share.0.1) ∙ made_named parts blocks k share.1 zip.1 f
  made_named (fresh rows ∷ parts) (keys ∷ blocks) k share zip f =
      let block : Block = record { version = next; number = k; rows = rows; tiles = slices } in
      ap (keys_named new_names) (made_fresh rows k parts)
      ∙ (named_cons new_names block (made_for next (blocks_from next slices (suc k) parts))
      ∙ (ap (λ ks. ks ++ keys_named new_names (made_for next (blocks_from next slices (suc k) parts))) (first_name k rows parts keys blocks f)
      ∙ (ap (λ ks. keys ++ ks) (made_named parts blocks (suc k) share.1 zip.1 (next_names k rows parts keys blocks f)) ∙ sym (flat_map-cons (λ (ks : List Key). ks) keys (fresh_keys parts blocks)))))

  -- as many as their tiles
  pub made_sized : (parts : List Part) (blocks : List (List Key)) (k : ℕ) → SharesBlocks next base parts → AllZip (IsKeyedPart (λ (b : Block). names b.version b.number) slices) parts blocks → Names k parts blocks
      → AllByRecursion (λ (b : Block). length (new_names b.version b.number) ≡ b.tiles) (made_for next (blocks_from next slices k parts))
  made_sized [] [] k share zip f = tt
  made_sized [] (keys ∷ blocks) k share zip f = absurd zip
  made_sized (p ∷ parts) [] k share zip f = absurd zip
  made_sized (shared x ∷ parts) (keys ∷ blocks) k share zip f =
      subst (λ bs. AllByRecursion (λ (b : Block). length (new_names b.version b.number) ≡ b.tiles) bs) (sym (made_shared x k parts share.0.1)) (made_sized parts blocks k share.1 zip.1 f)
  made_sized (fresh rows ∷ parts) (keys ∷ blocks) k share zip f =
      subst (λ bs. AllByRecursion (λ (b : Block). length (new_names b.version b.number) ≡ b.tiles) bs) (sym (made_fresh rows k parts))
      (ap (λ (ks : List Key). length ks) (first_name k rows parts keys blocks f) ∙ zip.0, made_sized parts blocks (suc k) share.1 zip.1 (next_names k rows parts keys blocks f))

  -- a block of the version is new, or one of the base
  pub new_or_shared : (parts : List Part) (k : ℕ) (b : Block) → SharesBlocks next base parts → has_block (blocks_from next slices k parts) b ≡ true
      → (has_block (made_for next (blocks_from next slices k parts)) b ≡ true) ⊎ (has_block base b ≡ true)
  new_or_shared [] k b share e = absurd (true≢false (sym e))
  new_or_shared (shared x ∷ parts) k b share e = elim (or_cases (same_block b x) (list_any (same_block b) (blocks_from next slices k parts)) e) [
    | inl same ↦ inr (same_there x b base (same_back b x same) ∙ share.0.0)
    | inr later ↦ elim (new_or_shared parts k b share.1 later) [
      | inl made ↦ inl (ap (λ bs. has_block bs b) (made_shared x k parts share.0.1) ∙ made)
      | inr old ↦ inr old
    ]
  ]
  new_or_shared (fresh rows ∷ parts) k b share e =
      let block : Block = record { version = next; number = k; rows = rows; tiles = slices } in
      let more = made_for next (blocks_from next slices (suc k) parts) in
      elim (or_cases (same_block b block) (list_any (same_block b) (blocks_from next slices (suc k) parts)) e) [
        | inl same ↦ inl (ap (λ bs. has_block bs b) (made_fresh rows k parts) ∙ ap (λ t. t || list_any (same_block b) more) same)
        | inr later ↦ elim (new_or_shared parts (suc k) b share.1 later) [
          | inl made ↦ inl (ap (λ bs. has_block bs b) (made_fresh rows k parts) ∙ or_second (same_block b block) (list_any (same_block b) more) made)
          | inr old ↦ inr old
        ]
      ]
    where
      or_second : (x y : Bool) → y ≡ true → (x || y) ≡ true
      or_second true y e = refl
      or_second false y e = e

-- a new block is one of the version
pub made_is_block : (next : ℕ) (blocks : List Block) (b : Block) → has_block (made_for next blocks) b ≡ true → has_block blocks b ≡ true
made_is_block next blocks b e =
    let a = block_among (made_for next blocks) b e in
    same_there a.0 b blocks (same_back b a.0 a.2) ∙ block_there blocks a.0 (filter_in (λ (x : Block). nat_eq next x.version) blocks a.0 a.1).0
