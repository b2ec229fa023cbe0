-- Values kept by key: merging parts in order, and in any order.
use Rattle.std.proofs.Common.{◌≡◌, ℕ, zero, suc, ◌<◌, length, refl, ap, ap₂, sym, ◌∙◌, arith}
use Rattle.std.specs.List.{AllByRecursion}
use Rattle.std.specs.Prelude.{List, [], ◌∷◌, ◌++◌, swap, IsPermutation}
use lib.ListN.{get_or, set}
use Rattle.std.proofs.lemmas.List.Sorted.{IsPermutation-keeps}
use Rattle.std.specs.declared.cmp.Ordering.{Ordering}
use Rattle.std.specs.declared.cmp.Ordering.TheVariants.{Less, Equal, Greater}
use Rattle.std.specs.Ordering.{ordering_reverse}
use Rattle.std.proofs.lemmas.Cmp.{tied_itself, alike_right}
use Rattle.frame_core.specs.declared.cell.Cell.{Cell}
use Rattle.expr_clause.specs.Cells.{cell_cmp}
use Rattle.group_clause.specs.Tallies.{placed, insert_at, merge_by, join_lists}
use Rattle.group_clause.specs.CellOrder.{cell_cmp_total, cells_equal}

-- the other way round
pub turned_less : (a b : Cell) → cell_cmp a b ≡ Less → cell_cmp b a ≡ Greater
turned_less a b e = cell_cmp_total.antisymm b a ∙ ap ordering_reverse e

pub turned_greater : (a b : Cell) → cell_cmp a b ≡ Greater → cell_cmp b a ≡ Less
turned_greater a b e = cell_cmp_total.antisymm b a ∙ ap ordering_reverse e

module _ {V : Type 0} (join : V → V → V) where
  -- where g stands, told by the order
  pub placing : (g h : Cell × V) (more : List (Cell × V)) (o : Ordering) → cell_cmp g.0 h.0 ≡ o → insert_at join g (h ∷ more) ≡ placed join o g h more (insert_at join g more)
  placing g h more o e = ap (λ q. placed join q g h more (insert_at join g more)) e

  -- what stands before g stays in front, as a search for g's place finds it
  pub insert-front : (g : Cell × V) (front more : List (Cell × V)) → AllByRecursion (λ (h : Cell × V). cell_cmp g.0 h.0 ≡ Greater) front → insert_at join g (front ++ more) ≡ front ++ insert_at join g more
  insert-front g [] more all = refl
  insert-front g (h ∷ front) more all = placing g h (front ++ more) Greater all.0 ∙ ap (λ l. h ∷ l) (insert-front g front more all.1)

  -- two insertions at keys of which the first stands before
  pub swapped : (g h : Cell × V) → cell_cmp g.0 h.0 ≡ Less → (s : List (Cell × V)) → insert_at join g (insert_at join h s) ≡ insert_at join h (insert_at join g s)
  swapped g h less [] = placing g h [] Less less ∙ sym (placing h g [] Greater (turned_less g.0 h.0 less))
  swapped g h less (m ∷ ms) = by (swapped g h less ms) (cell_cmp h.0 m.0) (cell_cmp g.0 m.0) refl refl
    where
      -- g stands before m
      early : cell_cmp g.0 m.0 ≡ Less → insert_at join h (insert_at join g (m ∷ ms)) ≡ g ∷ insert_at join h (m ∷ ms)
      early e = ap (insert_at join h) (placing g m ms Less e) ∙ placing h g (m ∷ ms) Greater (turned_less g.0 h.0 less)

      by : insert_at join g (insert_at join h ms) ≡ insert_at join h (insert_at join g ms) → (o p : Ordering) → cell_cmp h.0 m.0 ≡ o → cell_cmp g.0 m.0 ≡ p → insert_at join g (insert_at join h (m ∷ ms)) ≡ insert_at join h (insert_at join g (m ∷ ms))
      by later Less p e d =
          let before = cell_cmp_total.trans g.0 h.0 m.0 less e in
          ap (insert_at join g) (placing h m ms Less e) ∙ placing g h (m ∷ ms) Less less ∙ sym (early before ∙ ap (λ l. g ∷ l) (placing h m ms Less e))
      by later Equal p e d =
          let before = sym (alike_right cell_cmp_total h.0 m.0 g.0 e) ∙ less in
          ap (insert_at join g) (placing h m ms Equal e) ∙ placing g (m.0, join h.1 m.1) ms Less before ∙ sym (early before ∙ ap (λ l. g ∷ l) (placing h m ms Equal e))
      by later Greater Less e d =
          ap (insert_at join g) (placing h m ms Greater e) ∙ placing g m (insert_at join h ms) Less d ∙ sym (early d ∙ ap (λ l. g ∷ l) (placing h m ms Greater e))
      by later Greater Equal e d =
          ap (insert_at join g) (placing h m ms Greater e) ∙ placing g m (insert_at join h ms) Equal d
          ∙ sym (ap (insert_at join h) (placing g m ms Equal d) ∙ placing h (m.0, join g.1 m.1) ms Greater e)
      by later Greater Greater e d =
          ap (insert_at join g) (placing h m ms Greater e) ∙ placing g m (insert_at join h ms) Greater d ∙ ap (λ l. m ∷ l) later
          ∙ sym (ap (insert_at join h) (placing g m ms Greater d) ∙ placing h m (insert_at join g ms) Greater e)

  module _ (assoc : (x y z : V) → join (join x y) z ≡ join x (join y z)) where
    -- joined values go in one after the other
    pub joined : (k : Cell) (x y : V) (s : List (Cell × V)) → insert_at join (k, join x y) s ≡ insert_at join (k, x) (insert_at join (k, y) s)
    joined k x y [] = sym (placing (k, x) (k, y) [] Equal (tied_itself cell_cmp_total k))
    joined k x y (h ∷ hs) = by (joined k x y hs) (cell_cmp k h.0) refl
      where
        by : insert_at join (k, join x y) hs ≡ insert_at join (k, x) (insert_at join (k, y) hs) → (o : Ordering) → cell_cmp k h.0 ≡ o → insert_at join (k, join x y) (h ∷ hs) ≡ insert_at join (k, x) (insert_at join (k, y) (h ∷ hs))
        by later Less e =
            placing (k, join x y) h hs Less e
            ∙ sym (ap (insert_at join (k, x)) (placing (k, y) h hs Less e) ∙ placing (k, x) (k, y) (h ∷ hs) Equal (tied_itself cell_cmp_total k))
        by later Equal e =
            placing (k, join x y) h hs Equal e ∙ ap (λ v. (h.0, v) ∷ hs) (assoc x y h.1)
            ∙ sym (ap (insert_at join (k, x)) (placing (k, y) h hs Equal e) ∙ placing (k, x) (h.0, join y h.1) hs Equal e)
        by later Greater e =
            placing (k, join x y) h hs Greater e ∙ ap (λ l. h ∷ l) later
            ∙ sym (ap (insert_at join (k, x)) (placing (k, y) h hs Greater e) ∙ placing (k, x) h (insert_at join (k, y) hs) Greater e)

    -- an insertion into the first part
    pub merge-insert : (g : Cell × V) (a b : List (Cell × V)) → merge_by join (insert_at join g a) b ≡ insert_at join g (merge_by join a b)
    merge-insert g [] b = refl
    merge-insert g (h ∷ hs) b = by (merge-insert g hs b) (cell_cmp g.0 h.0) refl
      where
        by : merge_by join (insert_at join g hs) b ≡ insert_at join g (merge_by join hs b) → (o : Ordering) → cell_cmp g.0 h.0 ≡ o → merge_by join (insert_at join g (h ∷ hs)) b ≡ insert_at join g (merge_by join (h ∷ hs) b)
        by later Less e = ap (λ l. merge_by join l b) (placing g h hs Less e)
        by later Equal e =
            ap (λ l. merge_by join l b) (placing g h hs Equal e) ∙ joined h.0 g.1 h.1 (merge_by join hs b)
            ∙ ap (λ k. insert_at join (k, g.1) (insert_at join h (merge_by join hs b))) (sym (cells_equal g.0 h.0 e))
        by later Greater e =
            ap (λ l. merge_by join l b) (placing g h hs Greater e) ∙ ap (insert_at join h) later
            ∙ swapped h g (turned_greater g.0 h.0 e) (merge_by join hs b)

    module _ (comm : (x y : V) → join x y ≡ join y x) where
      -- insertions in either order
      pub either_order : (g h : Cell × V) (s : List (Cell × V)) → insert_at join g (insert_at join h s) ≡ insert_at join h (insert_at join g s)
      either_order g h s = by (cell_cmp g.0 h.0) refl
        where
          by : (o : Ordering) → cell_cmp g.0 h.0 ≡ o → insert_at join g (insert_at join h s) ≡ insert_at join h (insert_at join g s)
          by Less e = swapped g h e s
          by Greater e = sym (swapped h g (turned_greater g.0 h.0 e) s)
          by Equal e =
              let same = cells_equal g.0 h.0 e in
              ap (λ k. insert_at join (k, g.1) (insert_at join h s)) same ∙ sym (joined h.0 g.1 h.1 s) ∙ ap (λ v. insert_at join (h.0, v) s) (comm g.1 h.1) ∙ joined h.0 h.1 g.1 s
              ∙ ap (λ k. insert_at join h (insert_at join (k, g.1) s)) (sym same)

-- ---- lists of values, place by place

module _ {V : Type 0} (join : V → V → V) where
  pub lists_assoc : ((x y z : V) → join (join x y) z ≡ join x (join y z)) → (xs ys zs : List V) → join_lists join (join_lists join xs ys) zs ≡ join_lists join xs (join_lists join ys zs)
  lists_assoc f [] ys zs = refl
  lists_assoc f (x ∷ xs) [] zs = refl
  lists_assoc f (x ∷ xs) (y ∷ ys) [] = refl
  lists_assoc f (x ∷ xs) (y ∷ ys) (z ∷ zs) = ap₂ ◌∷◌ (f x y z) (lists_assoc f xs ys zs)

  pub lists_comm : ((x y : V) → join x y ≡ join y x) → (xs ys : List V) → join_lists join xs ys ≡ join_lists join ys xs
  lists_comm f [] [] = refl
  lists_comm f [] (y ∷ ys) = refl
  lists_comm f (x ∷ xs) [] = refl
  lists_comm f (x ∷ xs) (y ∷ ys) = ap₂ ◌∷◌ (f x y) (lists_comm f xs ys)

-- ---- a right fold by steps that may change places

module _ {X S : Type 0} (f : X → S → S) (s : S) where
  abbrev pub folded : List X → S
  folded [] = s
  folded (x ∷ xs) = f x (folded xs)

  module _ (either : (x y : X) (t : S) → f x (f y t) ≡ f y (f x t)) where
    -- what is taken out of a place may come first
    moved : (xs : List X) (i : ℕ) (v d : X) → i < length xs → f (get_or xs i d) (folded (set xs i v)) ≡ f v (folded xs)
    moved [] i v d h = absurd (omega (arith, h))
    moved (x ∷ xs) zero v d h = either x v (folded xs)
    moved (x ∷ xs) (suc i) v d h =
        either (get_or xs i d) x (folded (set xs i v)) ∙ ap (f x) (moved xs i v d (omega (arith, h))) ∙ either x v (folded xs)

    exchanged : (xs : List X) (i j : ℕ) (d : X) → i < length xs → j < length xs → folded (set (set xs i (get_or xs j d)) j (get_or xs i d)) ≡ folded xs
    exchanged [] i j d p q = absurd (omega (arith, p))
    exchanged (x ∷ xs) zero zero d p q = refl
    exchanged (x ∷ xs) zero (suc j) d p q = moved xs j x d (omega (arith, q))
    exchanged (x ∷ xs) (suc i) zero d p q = moved xs i x d (omega (arith, p))
    exchanged (x ∷ xs) (suc i) (suc j) d p q = ap (f x) (exchanged xs i j d (omega (arith, p)) (omega (arith, q)))

    swap_keeps : (xs l : List X) (i j : ℕ) → i < length l → j < length l → folded l ≡ folded xs → folded (swap l i j) ≡ folded xs
    swap_keeps xs [] i j p q h = absurd (omega (arith, p))
    swap_keeps xs (d ∷ l) i j p q h = exchanged (d ∷ l) i j d p q ∙ h

    pub folded-permutation : (xs ys : List X) → IsPermutation xs ys → folded ys ≡ folded xs
    folded-permutation xs ys = IsPermutation-keeps xs (λ l. folded l ≡ folded xs) refl (swap_keeps xs) ys
