-- Two parts whose keys rise are merged by their first keys.
use Rattle.std.proofs.Common.{◌≡◌, refl, ap, sym, ◌∙◌, subst}
use Rattle.std.specs.Prelude.{List, [], ◌∷◌}
use Rattle.std.specs.List.{AllByRecursion}
use Rattle.std.specs.declared.cmp.Ordering.{Ordering}
use Rattle.std.specs.declared.cmp.Ordering.TheVariants.{Less, Equal, Greater}
use Rattle.frame_core.specs.declared.cell.Cell.{Cell}
use Rattle.expr_clause.specs.Cells.{cell_cmp}
use Rattle.group_clause.specs.Tallies.{insert_at, merge_by}
use Rattle.group_clause.proofs.Merging.{placing}

module _ {V : Type 0} (join : V → V → V) where
  -- what holds of a key and of those of a part holds of the part with the key
  keys_inserted : (P : Cell → Type 0) (g : Cell × V) (s : List (Cell × V)) → P g.0 → AllByRecursion (λ (h : Cell × V). P h.0) s → AllByRecursion (λ (h : Cell × V). P h.0) (insert_at join g s)
  keys_inserted P g [] p all = (p, tt)
  keys_inserted P g (h ∷ s) p all = by (keys_inserted P g s p all.1) (cell_cmp g.0 h.0) refl
    where
      by : AllByRecursion (λ (h : Cell × V). P h.0) (insert_at join g s) → (o : Ordering) → cell_cmp g.0 h.0 ≡ o → AllByRecursion (λ (h : Cell × V). P h.0) (insert_at join g (h ∷ s))
      by later Less e = subst (AllByRecursion (λ (h : Cell × V). P h.0)) (sym (placing join g h s Less e)) (p, all)
      by later Equal e = subst (AllByRecursion (λ (h : Cell × V). P h.0)) (sym (placing join g h s Equal e)) all
      by later Greater e = subst (AllByRecursion (λ (h : Cell × V). P h.0)) (sym (placing join g h s Greater e)) (all.0, later)

  keys_merged : (P : Cell → Type 0) (a b : List (Cell × V)) → AllByRecursion (λ (h : Cell × V). P h.0) a → AllByRecursion (λ (h : Cell × V). P h.0) b → AllByRecursion (λ (h : Cell × V). P h.0) (merge_by join a b)
  keys_merged P [] b p q = q
  keys_merged P (g ∷ a) b p q = keys_inserted P g (merge_by join a b) p.0 (keys_merged P a b p.1 q)

  -- a key below all of a part stands in front of it
  goes_first : (g : Cell × V) (s : List (Cell × V)) → AllByRecursion (λ (h : Cell × V). cell_cmp g.0 h.0 ≡ Less) s → insert_at join g s ≡ g ∷ s
  goes_first g [] all = refl
  goes_first g (h ∷ s) all = placing join g h s Less all.0

  -- the first key of the left part is the least
  pub left_first : (g : Cell × V) (a b : List (Cell × V)) → AllByRecursion (λ (h : Cell × V). cell_cmp g.0 h.0 ≡ Less) a → AllByRecursion (λ (h : Cell × V). cell_cmp g.0 h.0 ≡ Less) b
      → merge_by join (g ∷ a) b ≡ g ∷ merge_by join a b
  left_first g a b p q = goes_first g (merge_by join a b) (keys_merged (λ k. cell_cmp g.0 k ≡ Less) a b p q)

  -- the first key of the right part is the least
  pub right_first : (h : Cell × V) (a b : List (Cell × V)) → AllByRecursion (λ (g : Cell × V). cell_cmp g.0 h.0 ≡ Greater) a → merge_by join a (h ∷ b) ≡ h ∷ merge_by join a b
  right_first h [] b all = refl
  right_first h (g ∷ a) b all = ap (insert_at join g) (right_first h a b all.1) ∙ placing join g h (merge_by join a b) Greater all.0

  -- both have it: its values are joined
  pub both_first : (g h : Cell × V) (a b : List (Cell × V)) → cell_cmp g.0 h.0 ≡ Equal → AllByRecursion (λ (m : Cell × V). cell_cmp m.0 h.0 ≡ Greater) a
      → merge_by join (g ∷ a) (h ∷ b) ≡ (h.0, join g.1 h.1) ∷ merge_by join a b
  both_first g h a b e all = ap (insert_at join g) (right_first h a b all) ∙ placing join g h (merge_by join a b) Equal e
