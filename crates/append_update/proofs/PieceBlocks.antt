-- What is told of each row block of pieces, one behind the other; and of the pieces of an update.
use Rattle.std.proofs.Common.{◌≡◌, ℕ, suc, ◌≤◌, List, [], ◌∷◌, ◌++◌, length, map, take, drop, refl, sym, ap, ◌∙◌, Option, Some, None}
use Rattle.std.specs.Prelude.{◌%◌, replicate}
use Rattle.std.proofs.Math.Nat.{div-eq_of_lt, mod-eq_of_lt}
use Rattle.std.proofs.lemmas.List.{append-nil, append_assoc, map-append}
use Rattle.frame_core.specs.Frames.{Frame}
use Rattle.index_tree.specs.declared.index.Slot.{Slot}
use Rattle.key_kind.specs.declared.key.Key.{Key}
use Rattle.reply_model.specs.Blocks.{Cutting, some_rows, block_sizes}
use Rattle.reply_model.specs.Keyed.{block_keys}
use Rattle.reply_model.specs.Standing.{row_sizes}
use Rattle.frame_write.specs.declared.pieces.Piece.{Piece}
use Rattle.frame_write.specs.declared.pieces.Piece.TheVariants as pieces
use Rattle.append_update.specs.declared.cuts.Cuts.{Cuts}
use Rattle.append_update.specs.declared.pieces.Edges.{Edges}
use Rattle.append_update.specs.Replacing.{fresh, replaced, left_rows}
use Rattle.append_update.specs.RowBlocks.{sizes_in, keys_in}

-- ---- five lists, one behind the other

abbrev pub five : {X : Type 0} → List X → List X → List X → List X → List X → List X
five a b c d e = ((a ++ b) ++ c) ++ (d ++ e)

pub five_mapped : {X Y : Type 0} (f : X → Y) (a b c d e : List X) → map f (five a b c d e) ≡ five (map f a) (map f b) (map f c) (map f d) (map f e)
five_mapped f a b c d e =
    map-append f ((a ++ b) ++ c) (d ++ e)
    ∙ (ap (λ l. l ++ map f (d ++ e)) (map-append f (a ++ b) c ∙ ap (λ l. l ++ map f c) (map-append f a b)) ∙ ap (λ l. ((map f a ++ map f b) ++ map f c) ++ l) (map-append f d e))

pub five_same : {X : Type 0} (a b c d e p q r s t : List X) → a ≡ p → b ≡ q → c ≡ r → d ≡ s → e ≡ t → five a b c d e ≡ five p q r s t
five_same a b c d e p q r s t is_a is_b is_c is_d is_e = rw (is_a, is_b, is_c, is_d, is_e) refl

-- ---- rows that make no full block make one

pub small_block : (c : Cutting) (rows : ℕ) → suc rows ≤ c.rows → block_sizes c rows ≡ some_rows rows
small_block c rows less = ap (λ q. replicate q c.rows ++ some_rows (rows % c.rows)) (div-eq_of_lt less) ∙ ap some_rows (mod-eq_of_lt less)

-- ---- of each row block

-- what is told of the row blocks of a run, and of new ones by their rows
module _ {X : Type 0} (kept : List Slot → List X) (new : List ℕ → List X) (c : Cutting) where
  abbrev pub told_in : List Piece → List X
  told_in [] = []
  told_in (pieces.Shared run ∷ list) = kept run ++ told_in list
  told_in (pieces.Fresh frame ∷ list) = new (block_sizes c (length frame.rows)) ++ told_in list

  told_in-append : (xs ys : List Piece) → told_in (xs ++ ys) ≡ told_in xs ++ told_in ys
  told_in-append [] ys = refl
  told_in-append (pieces.Shared run ∷ xs) ys = ap (λ l. kept run ++ l) (told_in-append xs ys) ∙ sym (append_assoc (kept run) (told_in xs) (told_in ys))
  told_in-append (pieces.Fresh frame ∷ xs) ys =
      ap (λ l. new (block_sizes c (length frame.rows)) ++ l) (told_in-append xs ys) ∙ sym (append_assoc (new (block_sizes c (length frame.rows))) (told_in xs) (told_in ys))

  module _ (none : new [] ≡ []) where
    -- of a block of which rows are left
    edge_told : (o : Option Frame) → suc (left_rows o) ≤ c.rows → told_in (fresh o) ≡ new (some_rows (left_rows o))
    edge_told None less = sym none
    edge_told (Some f) less = append-nil (new (block_sizes c (length f.rows))) ∙ ap new (small_block c (length f.rows) less)

    -- of the pieces of an update: whole blocks, what is left of one, the new ones, what is left of another, and whole ones
    pub replaced_told : (slots : List Slot) (cuts : Cuts) (edges : Edges) (frame : Frame) → suc (left_rows edges.below) ≤ c.rows → suc (left_rows edges.above) ≤ c.rows
        → told_in (replaced slots cuts edges frame)
        ≡ five (kept (take cuts.below slots)) (new (some_rows (left_rows edges.below))) (new (block_sizes c (length frame.rows))) (new (some_rows (left_rows edges.above))) (kept (drop cuts.reached slots))
    replaced_told slots cuts edges frame few_below few_above =
        let first = kept (take cuts.below slots) in
        let low = new (some_rows (left_rows edges.below)) in
        let mid = new (block_sizes c (length frame.rows)) in
        let high = new (some_rows (left_rows edges.above)) in
        let last = kept (drop cuts.reached slots) in
        let tail : List Piece = fresh edges.above ++ (pieces.Shared (drop cuts.reached slots) ∷ []) in
        let tail_is : told_in tail ≡ high ++ last =
        told_in-append (fresh edges.above) (pieces.Shared (drop cuts.reached slots) ∷ []) ∙ (ap (λ l. l ++ (last ++ [])) (edge_told edges.above few_above) ∙ ap (λ l. high ++ l) (append-nil last)) in
        ap (λ l. first ++ l) (told_in-append (fresh edges.below) (pieces.Fresh frame ∷ tail) ∙ (ap (λ l. l ++ (mid ++ told_in tail)) (edge_told edges.below few_below) ∙ ap (λ l. low ++ (mid ++ l)) tail_is))
        ∙ (sym (append_assoc first low (mid ++ (high ++ last))) ∙ sym (append_assoc (first ++ low) mid (high ++ last)))

-- its rows
pub sizes_told : (c : Cutting) (list : List Piece) → sizes_in c list ≡ told_in row_sizes (λ sizes. sizes) c list
sizes_told c [] = refl
sizes_told c (pieces.Shared run ∷ list) = ap (λ ns. row_sizes run ++ ns) (sizes_told c list)
sizes_told c (pieces.Fresh frame ∷ list) = ap (λ ns. block_sizes c (length frame.rows) ++ ns) (sizes_told c list)

-- the keys that it keeps
abbrev pub kept_of : List Slot → List (Option (List Key))
kept_of run = map (λ keys. Some keys) (block_keys run)

abbrev pub none_of : List ℕ → List (Option (List Key))
none_of sizes = map (λ rows. None) sizes

pub keys_told : (c : Cutting) (list : List Piece) → keys_in c list ≡ told_in kept_of none_of c list
keys_told c [] = refl
keys_told c (pieces.Shared run ∷ list) = ap (λ l. kept_of run ++ l) (keys_told c list)
keys_told c (pieces.Fresh frame ∷ list) = ap (λ l. none_of (block_sizes c (length frame.rows)) ++ l) (keys_told c list)
