-- The shapes of a run behind a reclaim count the keys that are then stored.
use Rattle.std.proofs.Common.{◌≡◌, ℕ, ◌+◌, Bool, true, false, List, [], ◌∷◌, ◌++◌, length, refl, sym, ◌∙◌, ap, subst, inl, inr, arith, cond}
use Rattle.std.specs.Prelude.{◌&&◌, ◌<◌, not, count_by, is_some}
use Rattle.std.specs.List.{list_any, AllByRecursion, AllZip}
use Rattle.std.proofs.lemmas.Bool.{true≢false, or_cases}
use Rattle.std.proofs.lemmas.List.Sums.{sum_by-append}
use Rattle.std.proofs.lemmas.List.Filters.{sum_by-filter_both, length-filter_both}
use Rattle.segment_cut.proofs.Lists.{count_by-cons}
use Rattle.key_kind.specs.Names.{Name, same_name}
use Rattle.key_kind.specs.declared.key.Key.{Key}
use Rattle.key_kind.specs.declared.key.KeyKind.{KeyKind}
use Rattle.key_kind.specs.declared.key.KeyKind.TheVariants as kinds
use Rattle.key_kind.specs.Keys.{same_kind, same_key}
use Rattle.key_kind.proofs.KeyTests.{same_name_self, same_key_is}
use Rattle.bucket_core.specs.declared.event.Event.TheVariants as events
use Rattle.bucket_core.specs.History.{History, stored_keys}
use Rattle.store_model.specs.Library.{State, state_of, is_kept, next_number}
use Rattle.store_model.specs.Law.{IsLawful}
use Rattle.store_model.specs.Links.{Linked, links}
use Rattle.store_model.proofs.Lists.{all_weaker}
use Rattle.reply_model.specs.Tries.{IsKeyOf}
use Rattle.reply_model.specs.Drops.{IsDeadIndex, IsDeadTile, IsDeadPiece}
use Rattle.reply_model.specs.Rows.{keys_of}
use Rattle.reply_model.specs.Blocks.{Block, Shape, is_unneeded, dead_blocks, dead_indexes, tiles_in, swept}
use Rattle.reply_model.specs.Standing.{HasBlocks, HasShape}
use Rattle.reply_model.proofs.StoredCounts.{is_of, stored_there}
use Rattle.reply_model.proofs.DropCounts.{behind_drops, is_among, lawful_behind, stored_beside, links_behind_drops, state_behind_drops, keys_behind_drops, counted_of}
use Rattle.reply_model.proofs.Among.{all_from, all_at, among_append}
use Rattle.reply_model.proofs.KeyedShapes.{keys_stay}
use Rattle.reply_model.proofs.ReachedKeys.{not_passing}
use Rattle.reply_model.proofs.Reclaimed.{Frees, indexes_counted, tiles_counted, keys_behind}

counted_append : (p : Key → Bool) (xs ys : List Key) → count_by p (xs ++ ys) ≡ count_by p xs + count_by p ys
counted_append p xs ys = sum_by-append (λ x. cond (p x) 1 0) xs ys

-- a key that passes counts
counted_some : (p : Key → Bool) (keys : List Key) (key : Key) → list_any (same_key key) keys ≡ true → p key ≡ true → count_by p keys ≡ 0 → ⊥
counted_some p [] key there pass none = true≢false (sym there)
counted_some p (k ∷ keys) key there pass none =
    let one : count_by p (k ∷ keys) ≡ cond (p k) 1 0 + count_by p keys = count_by-cons p k keys in
    elim (or_cases (same_key key k) (list_any (same_key key) keys) there) [
      | inl same ↦
          let counts : cond {A = ℕ} (p k) 1 0 ≡ 1 = ap (λ b. cond b 1 0) (ap p (sym (same_key_is key k same)) ∙ pass) in
          omega (arith, one, counts, none)
      | inr later ↦ counted_some p keys key later pass (omega (arith, one, none))
    ]

pub length_behind_drops : (client : ℕ) (keys : List Key) (old : History) → length (behind_drops client keys old) ≡ length keys + length old
length_behind_drops client [] old = omega arith
length_behind_drops client (k ∷ keys) old = omega (arith, length_behind_drops client keys (events.Drop client k ∷ old))

module _ (client : ℕ) (symbol : Name) (old : History) (s : Shape) (tiles indexes pieces : List Key) (shape : HasShape old symbol s)
    (lawful : IsLawful (behind_drops client ((tiles ++ indexes) ++ pieces) old)) (frees : Frees old (behind_drops client ((tiles ++ indexes) ++ pieces) old) symbol tiles indexes pieces) where
  abbrev new : History
  new = behind_drops client ((tiles ++ indexes) ++ pieces) old

  abbrev st : State
  st = state_of old symbol

  tile_kinds : AllByRecursion (IsKeyOf kinds.TableData symbol) tiles
  tile_kinds = all_weaker (IsDeadTile old symbol) (IsKeyOf kinds.TableData symbol) (λ k d. d.0) tiles frees.dead_tiles

  index_kinds : AllByRecursion (IsKeyOf kinds.TableIndex symbol) indexes
  index_kinds = all_weaker (IsDeadIndex old symbol) (IsKeyOf kinds.TableIndex symbol) (λ k d. d.0) indexes frees.dead_indexes

  -- no piece is staged, so none is dropped
  pub no_pieces : pieces ≡ []
  no_pieces = none_of pieces frees.dead_pieces
    where
      none_of : (ks : List Key) → AllByRecursion (IsDeadPiece old symbol) ks → ks ≡ []
      none_of [] all = refl
      none_of (k ∷ ks) all =
          absurd (counted_some (is_of symbol kinds.Staged) (stored_keys old) k (stored_there old k ∙ all.0.2)
          (ap (λ x. same_kind x kinds.Staged && same_name k.name symbol) all.0.1.staged ∙ (ap (λ n. same_name n symbol) all.0.0 ∙ same_name_self symbol))
          (shape.pieces ∙ ap (λ (ps : List _). length ps) shape.keys.pieces))

  -- how many keys of a kind were dropped
  dropped_of : (other : Name) (kind : KeyKind) → count_by (is_of other kind) ((tiles ++ indexes) ++ pieces)
      ≡ cond (same_kind kinds.TableData kind && same_name symbol other) (length tiles) 0 + cond (same_kind kinds.TableIndex kind && same_name symbol other) (length indexes) 0
  dropped_of other kind =
      ap (λ ps. count_by (is_of other kind) ((tiles ++ indexes) ++ ps)) no_pieces
      ∙ omega (
        arith,
        counted_append (is_of other kind) (tiles ++ indexes) [],
        counted_append (is_of other kind) tiles indexes,
        counted_of symbol other kinds.TableData kind tiles tile_kinds,
        counted_of symbol other kinds.TableIndex kind indexes index_kinds,
      )

  keys_are : (other : Name) (kind : KeyKind) → keys_of old other kind
      ≡ cond (same_kind kinds.TableData kind && same_name symbol other) (length tiles) 0 + cond (same_kind kinds.TableIndex kind && same_name symbol other) (length indexes) 0 + keys_of new other kind
  keys_are other kind = omega (arith, keys_behind_drops client ((tiles ++ indexes) ++ pieces) old other kind lawful, dropped_of other kind)

  state_same : (other : Name) → state_of new other ≡ state_of old other
  state_same other = state_behind_drops client ((tiles ++ indexes) ++ pieces) old other

  links_same : (other : Name) → links new other ≡ links old other
  links_same other = links_behind_drops client ((tiles ++ indexes) ++ pieces) old other

  all_own : (n : ℕ) → cond {A = ℕ} (same_name symbol symbol) n 0 ≡ n
  all_own n = ap (λ b. cond b n 0) (same_name_self symbol)

  pub tiles_are : length tiles ≡ tiles_in (dead_blocks st s)
  tiles_are = tiles_counted client symbol old s tiles indexes pieces shape.versions shape.keys lawful frees

  pub indexes_are : length indexes ≡ length (dead_indexes st s)
  indexes_are = indexes_counted client symbol old s tiles indexes pieces shape.versions shape.keys lawful frees

  pub own_shape : HasShape new symbol (swept st s)
  own_shape = record {
    tiles = omega (
      arith,
      keys_are symbol kinds.TableData,
      all_own (length tiles),
      shape.tiles,
      tiles_are,
      sum_by-filter_both (is_unneeded st s) (λ x. not (is_unneeded st s x)) (λ x. refl) (λ (b : Block). b.tiles) s.blocks,
    );
    indexes = omega (
      arith,
      keys_are symbol kinds.TableIndex,
      all_own (length indexes),
      shape.indexes,
      indexes_are,
      length-filter_both (λ n. not (is_kept st n)) (is_kept st) (λ n. sym (twice (is_kept st n))) s.indexes,
    );
    elements = omega (arith, keys_are symbol kinds.Version, shape.elements);
    references = omega (arith, keys_are symbol kinds.VersionRef) ∙ (shape.references ∙ ap (λ (x : State). cond x.has_reference 1 0) (sym (state_same symbol)));
    pieces = omega (arith, keys_are symbol kinds.Staged, shape.pieces, ap (λ (ps : List _). length ps) shape.keys.pieces)
        ∙ sym (ap (λ (ps : List _). length ps) (keys_behind client symbol old s tiles indexes pieces shape.versions shape.keys lawful frees).pieces);
    made = subst (λ (x : State). AllByRecursion (λ (v : ℕ × List Block). AllByRecursion (λ (b : Block). b.version < next_number x) v.1) s.versions) (sym (state_same symbol)) shape.made;
    versions = subst (λ (ls : List Linked). AllZip HasBlocks ls s.versions) (sym (links_same symbol)) shape.versions;
    keys = keys_behind client symbol old s tiles indexes pieces shape.versions shape.keys lawful frees;
  }
    where
      twice : (b : Bool) → not (not b) ≡ b
      twice true = refl
      twice false = refl

  -- each key that is dropped is of the symbol
  drops_named : AllByRecursion (λ (k : Key). k.name ≡ symbol) ((tiles ++ indexes) ++ pieces)
  drops_named = all_from (λ (k : Key). k.name ≡ symbol) ((tiles ++ indexes) ++ pieces) (λ k there. elim (among_append (tiles ++ indexes) pieces k there) [
    | inl first ↦ elim (among_append tiles indexes k first) [
      | inl tile ↦ (all_at (IsKeyOf kinds.TableData symbol) tiles k tile_kinds tile).1
      | inr index ↦ (all_at (IsKeyOf kinds.TableIndex symbol) indexes k index_kinds index).1
    ]
    | inr piece ↦ (all_at (IsDeadPiece old symbol) pieces k frees.dead_pieces piece).0
  ])

  pub other_shape : (other : Name) (o : Shape) → same_name symbol other ≡ false → HasShape old other o → HasShape new other o
  other_shape other o differs was =
      let none : (n : ℕ) → cond {A = ℕ} (same_name symbol other) n 0 ≡ 0 = λ n. ap (λ b. cond b n 0) differs in
      let beside : (key : Key) → key.name ≡ other → is_among ((tiles ++ indexes) ++ pieces) key ≡ false =
      λ key name. not_passing (is_among ((tiles ++ indexes) ++ pieces) key) (λ e.
      let own = all_at (λ (k : Key). k.name ≡ symbol) ((tiles ++ indexes) ++ pieces) key drops_named e in
      true≢false (sym (same_name_self symbol) ∙ (ap (same_name symbol) (sym own ∙ name) ∙ differs))) in
      record {
        tiles = omega (arith, keys_are other kinds.TableData, none (length tiles), was.tiles);
        indexes = omega (arith, keys_are other kinds.TableIndex, none (length indexes), was.indexes);
        elements = omega (arith, keys_are other kinds.Version, was.elements);
        references = omega (arith, keys_are other kinds.VersionRef) ∙ (was.references ∙ ap (λ (x : State). cond x.has_reference 1 0) (sym (state_same other)));
        pieces = omega (arith, keys_are other kinds.Staged, was.pieces);
        made = subst (λ (x : State). AllByRecursion (λ (v : ℕ × List Block). AllByRecursion (λ (b : Block). b.version < next_number x) v.1) o.versions) (sym (state_same other)) was.made;
        versions = subst (λ (ls : List Linked). AllZip HasBlocks ls o.versions) (sym (links_same other)) was.versions;
        keys = keys_stay old new other o (lawful_behind client ((tiles ++ indexes) ++ pieces) old lawful) was.keys (links_same other)
            (λ key name put. ap (λ o. is_some o) (stored_beside client ((tiles ++ indexes) ++ pieces) old key (beside key name)));
      }
