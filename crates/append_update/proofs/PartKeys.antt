-- The keys that the parts of a version keep.
use Rattle.std.proofs.Common.{◌≡◌, ℕ, ℤ, List, [], ◌∷◌, ◌++◌, length, map, take, drop, refl, sym, ap, ◌∙◌, Some, None}
use Rattle.std.proofs.Math.Seq.{take-append_seam, drop-append_seam}
use Rattle.std.proofs.lemmas.List.{append-nil, map-append, take-map, drop-map}
use Rattle.frame_core.specs.Ranges.{Range}
use Rattle.frame_core.specs.Frames.{Frame}
use Rattle.index_tree.specs.declared.index.Slot.{Slot}
use Rattle.key_kind.specs.declared.key.Key.{Key}
use Rattle.key_kind.specs.Names.{Name}
use Rattle.bucket_core.specs.declared.event.Change.TheVariants as changes
use Rattle.bucket_core.specs.History.{History}
use Rattle.store_model.specs.Library.{state_of, base_of}
use Rattle.store_model.specs.Links.{links}
use Rattle.reply_model.specs.Blocks.{Cutting, Block, shared, fresh, block_sizes, cut_rows, parts_of}
use Rattle.reply_model.specs.Keyed.{block_keys}
use Rattle.reply_model.specs.Standing.{base_rows, base_keys, rows_of_version}
use Rattle.frame_write.specs.declared.pieces.Piece.TheVariants as pieces
use Rattle.append_update.specs.Replacing.{appended}
use Rattle.append_update.specs.RowBlocks.{kept_keys, KeepKeys}
use Rattle.append_update.proofs.PieceBlocks.{none_of}

-- ---- blocks told apart

-- what the first of them have, and the others
pub front_has : {X Y : Type 0} (f : X → Y) (n : ℕ) (list : List X) (xs ys : List Y) → length xs ≡ n → map f list ≡ xs ++ ys → map f (take n list) ≡ xs
front_has f n list xs ys count is = sym (take-map f n list) ∙ (ap (take n) is ∙ (ap (λ k. take k (xs ++ ys)) (sym count) ∙ take-append_seam xs ys))

pub back_has : {X Y : Type 0} (f : X → Y) (n : ℕ) (list : List X) (xs ys : List Y) → length xs ≡ n → map f list ≡ xs ++ ys → map f (drop n list) ≡ ys
back_has f n list xs ys count is = sym (drop-map f n list) ∙ (ap (drop n) is ∙ (ap (λ k. drop k (xs ++ ys)) (sym count) ∙ drop-append_seam xs ys))

-- ---- the keys of parts

pub kept_shared : (names : Block → List Key) (xs : List Block) → map (kept_keys names) (map shared xs) ≡ map (λ keys. Some keys) (map names xs)
kept_shared names [] = refl
kept_shared names (x ∷ xs) = ap (λ l. Some (names x) ∷ l) (kept_shared names xs)

pub kept_fresh : (names : Block → List Key) (sizes : List ℕ) → map (kept_keys names) (map fresh sizes) ≡ none_of sizes
kept_fresh names [] = refl
kept_fresh names (n ∷ sizes) = ap (λ l. None ∷ l) (kept_fresh names sizes)

-- all new rows keep none
none_kept : (c : Cutting) (names : Block → List Key) (frame : Frame) → none_of (block_sizes c (length frame.rows)) ++ [] ≡ map (kept_keys names) (cut_rows c (length frame.rows))
none_kept c names frame = append-nil (none_of (block_sizes c (length frame.rows))) ∙ sym (kept_fresh names (block_sizes c (length frame.rows)))

module _ (c : Cutting) (h : History) (symbol : Name) where
  -- all row blocks of the base keep their keys, and those of the frame are new
  pub appended_keep : (slots : List Slot) (frame : Frame) (at : ℤ) → base_keys h symbol ≡ block_keys slots → KeepKeys c h symbol (changes.Appended frame at) (appended slots frame)
  appended_keep slots frame at are blocks names rows_is names_is =
      ap (λ l. l ++ (none_of (block_sizes c (length frame.rows)) ++ [])) (ap (map (λ keys. Some keys)) (sym are ∙ sym names_is) ∙ sym (kept_shared names blocks))
      ∙ (ap (λ l. map (kept_keys names) (map shared blocks) ++ l) (none_kept c names frame) ∙ sym (map-append (kept_keys names) (map shared blocks) (cut_rows c (length frame.rows))))

  -- without a base all are new
  module _ (none : base_of (state_of h symbol) ≡ None) where
    no_blocks : (blocks : List Block) → map (λ (b : Block). b.rows) blocks ≡ base_rows h symbol → blocks ≡ []
    no_blocks blocks is = by blocks (is ∙ ap (rows_of_version (links h symbol)) none)
      where
        by : (xs : List Block) → map (λ (b : Block). b.rows) xs ≡ [] → xs ≡ []
        by [] e = refl
        by (x ∷ xs) e = absurd cc

    pub appended_alone_keep : (frame : Frame) (at : ℤ) → KeepKeys c h symbol (changes.Appended frame at) (pieces.Fresh frame ∷ [])
    appended_alone_keep frame at blocks names rows_is names_is =
        none_kept c names frame ∙ ap (λ xs. map (kept_keys names) (map shared xs ++ cut_rows c (length frame.rows))) (sym (no_blocks blocks rows_is))

    pub updated_alone_keep : (frame : Frame) (range : Range) (at : ℤ) → KeepKeys c h symbol (changes.Updated frame range at) (pieces.Fresh frame ∷ [])
    updated_alone_keep frame range at blocks names rows_is names_is =
        none_kept c names frame ∙ ap (λ v. map (kept_keys names) (parts_of c v blocks (changes.Updated frame range at))) (sym none)
