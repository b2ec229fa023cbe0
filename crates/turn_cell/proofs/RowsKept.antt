-- The words of the rows, where the history or a view changes.
use Rattle.std.proofs.Common.{◌≡◌, ◌≢◌, ℕ, ◌+◌, ◌<◌, ◌⊎◌, Bool, true, false, List, [], ◌∷◌, ◌++◌, length, get_or, set, sym, refl, ap, ◌∙◌, inl, inr, ⊎_elim, arith, subst, length-set, get_or-set_same, get_or-set_other}
use Rattle.std.specs.Prelude.{Option, Some, None, if◌then◌else◌, nat_lt}
use Rattle.std.proofs.lemmas.Bool.Decides.{nat_tests}
use mathlib.Core.List.{IsPrefix}
use mathlib.Core.Logic.{dite}
use mathlib.Core.Option.{some}
use native.Mathlib.Decide.{ℕ_discrete}
use lib.ListN.{get_elem?}
use Rattle.atomic_table.proofs.Lists.{at_snoc, at_longer, at_last, set_here, set_else}
use Rattle.turn_cell.specs.declared.view.View.{View}
use Rattle.turn_cell.specs.declared.view.Note.{Note}
use Rattle.turn_cell.specs.Badges.{Among}
use Rattle.turn_cell.specs.Entries.{IsRowAt}
use Rattle.turn_cell.specs.Views.{note_at, joining_view, spent_view, begun_view, noted_view, checked_view, Confirmed}
use Rattle.turn_cell.specs.Rows.{IsBegunAt, Rowed}
use Rattle.turn_cell.proofs.Prefixes.{prefix_length, at_shorter}
use Rattle.turn_cell.proofs.Places.{each_set, one_at, at_below, at_end, slice_get_of, at_slice_get}
use Rattle.turn_cell.proofs.Membership.{among_either}

module _ {E : Type 0} (row : E → Option ℕ) where
  row_at_longer : (log : List E) (x : E) (q n : ℕ) → IsRowAt row log q n → IsRowAt row (log ++ x ∷ []) q n
  row_at_longer log x q n t = (t.0, t.1, t.2, slice_get_of (log ++ x ∷ []) t.0 t.1 (at_longer log (x ∷ []) t.0 t.1 (at_slice_get log t.0 t.1 t.3)), t.4)

  -- a row that is begun is the one that the holder's view names
  begun_by : (log : List E) (begun : List ℕ) (vs : List (View E)) → Rowed row log begun vs → (id : ℕ) (v : View E) → get_elem? vs id ≡ some v → ((j : ℕ) (u : View E) → get_elem? vs j ≡ some u → u.turn ≡ true → j ≡ id)
      → (q n : ℕ) → IsBegunAt log vs q n → (n ≡ length log + 1) × (v.begun ≡ Some q)
  begun_by log begun vs r id v at only q n p = (p.0, ap (λ (z : View E). z.begun) (one_at vs id p.1 v p.2 (sym (only p.1 p.2 p.3 (r.holds p.1 q p.2 p.3 p.4).0)) at p.3) ∙ p.4)

  -- one view changes, and not in what it has begun
  pub rowed_set : (log : List E) (begun : List ℕ) (vs : List (View E)) → Rowed row log begun vs → (id : ℕ) (v w : View E) → get_elem? vs id ≡ some v → w.begun ≡ v.begun → ((q n : ℕ) → Among (note_at q n) w.notes → IsRowAt row log q n ⊎ IsBegunAt log vs q n)
      → ((q : ℕ) → w.begun ≡ Some q → w.turn ≡ true) → Rowed row log begun (set vs id w)
  rowed_set log begun vs r id v w at same notes turn = record {
    rows = r.rows;
    over = r.over;
    last = λ q. ⊎_elim (λ z. inl z) (λ (t : IsRowAt row log q (get_or begun q 0) ⊎ IsBegunAt log vs q (get_or begun q 0)). inr (⊎_elim (λ s. inl s) (λ p. inr (begins q (get_or begun q 0) p)) t)) (r.last q);
    holds = λ j q u. each_set (λ _ x. x.begun ≡ Some q → (x.turn ≡ true) × (get_or begun q 0 ≡ length log + 1)) vs id w (λ e. (turn q e, (r.holds id q v at (sym same ∙ e)).1)) (λ j u _ p e. r.holds j q u p e) j u;
    noted = λ j q n u. each_set (λ _ x. Among (note_at q n) x.notes → IsRowAt row log q n ⊎ IsBegunAt log (set vs id w) q n) vs id w (λ a. ⊎_elim (λ s. inl s) (λ p. inr (begins q n p)) (notes q n a))
        (λ j u _ p a. ⊎_elim (λ s. inl s) (λ p. inr (begins q n p)) (r.noted j q n u p a)) j u;
  }
    where
      begins : (q n : ℕ) → IsBegunAt log vs q n → IsBegunAt log (set vs id w) q n
      begins q n p = dite (ℕ_discrete p.1 id) (λ e. (p.0, id, w, set_here vs id w (at_below vs id v at), same ∙ (ap (λ (z : View E). z.begun) (one_at vs id p.1 v p.2 (sym e) at p.3) ∙ p.4)))
          (λ ne. (p.0, p.1, p.2, set_else vs id p.1 w ne ∙ p.3, p.4))

  -- a new view comes, which has begun and noted nothing
  pub rowed_more : (log : List E) (begun : List ℕ) (vs : List (View E)) → Rowed row log begun vs → (u : View E) → u.begun ≡ None → u.notes ≡ [] → Rowed row log begun (vs ++ u ∷ [])
  rowed_more log begun vs r u none empty = record {
    rows = r.rows;
    over = r.over;
    last = λ q. ⊎_elim (λ z. inl z) (λ (t : IsRowAt row log q (get_or begun q 0) ⊎ IsBegunAt log vs q (get_or begun q 0)). inr (⊎_elim (λ s. inl s) (λ p. inr (begins q (get_or begun q 0) p)) t)) (r.last q);
    holds = λ j q x p e. ⊎_elim (λ o. r.holds j q x o e) (λ (is : u ≡ x). absurd (let a : x.begun ≡ None = ap (λ (z : View E). z.begun) (sym is) ∙ none in cc)) (at_snoc vs u x j p);
    noted = λ j q n x p a. ⊎_elim (λ o. ⊎_elim (λ s. inl s) (λ p. inr (begins q n p)) (r.noted j q n x o a))
        (λ (is : u ≡ x). absurd (subst (λ (l : List Note). Among (note_at q n) l) (ap (λ (z : View E). z.notes) (sym is) ∙ empty) a)) (at_snoc vs u x j p);
  }
    where
      begins : (q n : ℕ) → IsBegunAt log vs q n → IsBegunAt log (vs ++ u ∷ []) q n
      begins q n p = (p.0, p.1, p.2, at_longer vs (u ∷ []) p.1 p.2 p.3, p.4)

  -- the seat other is joined into the seat id, and neither has the turn
  pub rowed_join : (log : List E) (begun : List ℕ) (vs : List (View E)) → Rowed row log begun vs → (id : ℕ) (v : View E) (other : ℕ) (w : View E) → get_elem? vs id ≡ some v → get_elem? vs other ≡ some w → other ≢ id → v.turn ≡ false → w.turn ≡ false
      → Rowed row log begun (set (set vs id (joining_view v w)) other spent_view)
  rowed_join log begun vs r id v other w at there two off rest = record {
    rows = r.rows;
    over = r.over;
    last = λ q. ⊎_elim (λ z. inl z) (λ (t : IsRowAt row log q (get_or begun q 0) ⊎ IsBegunAt log (set vs id (joining_view v w)) q (get_or begun q 0)). inr (⊎_elim (λ s. inl s) (λ p. inr (begins q (get_or begun q 0) p)) t)) (mid.last q);
    holds = λ j q u. each_set (λ _ x. x.begun ≡ Some q → (x.turn ≡ true) × (get_or begun q 0 ≡ length log + 1)) (set vs id (joining_view v w)) other spent_view (λ e. absurd (let f : None ≡ Some q = e in cc)) (λ j u _ p e. mid.holds j q u p e) j u;
    noted = λ j q n u. each_set (λ _ x. Among (note_at q n) x.notes → IsRowAt row log q n ⊎ IsBegunAt log (set (set vs id (joining_view v w)) other spent_view) q n) (set vs id (joining_view v w)) other spent_view (λ none. absurd none)
        (λ j u _ p a. ⊎_elim (λ s. inl s) (λ p. inr (begins q n p)) (mid.noted j q n u p a)) j u;
  }
    where
      mid : Rowed row log begun (set vs id (joining_view v w))
      mid = rowed_set log begun vs r id v (joining_view v w) at refl (λ q n a. ⊎_elim (λ p. r.noted id q n v at p) (λ p. r.noted other q n w there p) (among_either (note_at q n) v.notes w.notes a)) (λ q e. (r.holds id q v at e).0)

      begins : (q n : ℕ) → IsBegunAt log (set vs id (joining_view v w)) q n → IsBegunAt log (set (set vs id (joining_view v w)) other spent_view) q n
      begins q n p = (
        p.0,
        p.1,
        p.2,
        set_else (set vs id (joining_view v w)) other p.1 spent_view (λ e. let h = mid.holds p.1 q p.2 p.3 p.4 in
            let at' : get_elem? (set vs id (joining_view v w)) other ≡ some w = set_else vs id other (joining_view v w) two ∙ there in let same : w ≡ p.2 = one_at (set vs id (joining_view v w)) other p.1 w p.2 (sym e) at' p.3 in
            let on : w.turn ≡ true = ap (λ (z : View E). z.turn) same ∙ h.0 in cc) ∙ p.3,
        p.4,
      )

  -- the holder adds an entry of the row that it has begun, or of none
  pub rowed_longer : (log : List E) (begun : List ℕ) (vs : List (View E)) → Rowed row log begun vs → (id : ℕ) (v w : View E) (x : E) → get_elem? vs id ≡ some v → w.begun ≡ None → w.notes ≡ v.notes → row x ≡ v.begun
      → ((j : ℕ) (u : View E) → get_elem? vs j ≡ some u → u.turn ≡ true → j ≡ id) → Rowed row (log ++ x ∷ []) begun (set vs id w)
  rowed_longer log begun vs r id v w x at none notes is only = record {
    rows = r.rows;
    over = λ q k e p here. ⊎_elim (λ old. r.over q k e old here)
        (λ (t : (k ≡ length log) × (x ≡ e)). let h = (r.holds id q v at (sym is ∙ (ap row t.1 ∙ here))).1 in let a : k ≡ length log = t.0 in omega arith) (at_end log x e k p);
    last = λ q. ⊎_elim (λ z. inl z) (λ (t : IsRowAt row log q (get_or begun q 0) ⊎ IsBegunAt log vs q (get_or begun q 0)). inr (inl (stands q (get_or begun q 0) t))) (r.last q);
    holds = λ j q u. each_set (λ _ y. y.begun ≡ Some q → (y.turn ≡ true) × (get_or begun q 0 ≡ length (log ++ x ∷ []) + 1)) vs id w (λ e. absurd (cc)) (λ j u other p e. absurd (other (only j u p (r.holds j q u p e).0))) j u;
    noted = λ j q n u. each_set (λ _ y. Among (note_at q n) y.notes → IsRowAt row (log ++ x ∷ []) q n ⊎ IsBegunAt (log ++ x ∷ []) (set vs id w) q n) vs id w
        (λ a. inl (stands q n (r.noted id q n v at (subst (λ (l : List Note). Among (note_at q n) l) notes a)))) (λ j u _ p a. inl (stands q n (r.noted j q n u p a))) j u;
  }
    where
      stands : (q n : ℕ) → IsRowAt row log q n ⊎ IsBegunAt log vs q n → IsRowAt row (log ++ x ∷ []) q n
      stands q n t = ⊎_elim (λ s. row_at_longer log x q n s)
          (λ (p : IsBegunAt log vs q n). let m = begun_by log begun vs r id v at only q n p in (length log, x, m.0, slice_get_of (log ++ x ∷ []) (length log) x (at_last log x (length log) refl), is ∙ m.1)) t

  -- the holder begins a row, and had begun none
  pub rowed_begun : (log : List E) (begun : List ℕ) (vs : List (View E)) → Rowed row log begun vs → (id : ℕ) (v : View E) (q : ℕ) → get_elem? vs id ≡ some v → v.begun ≡ None → v.turn ≡ true → q < 256
      → ((j : ℕ) (u : View E) → get_elem? vs j ≡ some u → u.turn ≡ true → j ≡ id) → Rowed row log (set begun q (length log + 1)) (set vs id (begun_view v q))
  rowed_begun log begun vs r id v q at none on inside only = record {
    rows = length-set begun q (length log + 1) ∙ r.rows;
    over = λ p k e there is. dite (ℕ_discrete p q) (λ same. subst (λ (z : ℕ). k < z) (sym (now p same)) (let l = at_below log k e there in omega arith)) (λ other. subst (λ (z : ℕ). k < z) (sym (elsewhere p other)) (r.over p k e there is));
    last = λ p. dite (ℕ_discrete p q) (λ same. inr (inr (subst (λ (z : ℕ). IsBegunAt log (set vs id (begun_view v q)) z (get_or (set begun q (length log + 1)) z 0)) (sym same) (now q refl, id, begun_view v q, set_here vs id (begun_view v q) (at_below vs id v at), refl))))
        (λ other. subst (λ (z : ℕ). (z ≡ 0) ⊎ (IsRowAt row log p z ⊎ IsBegunAt log (set vs id (begun_view v q)) p z)) (sym (elsewhere p other))
        (⊎_elim (λ z. inl z) (λ (t : IsRowAt row log p (get_or begun p 0) ⊎ IsBegunAt log vs p (get_or begun p 0)). inr (inl (stands p (get_or begun p 0) t))) (r.last p)));
    holds = λ j p u. each_set (λ _ y. y.begun ≡ Some p → (y.turn ≡ true) × (get_or (set begun q (length log + 1)) p 0 ≡ length log + 1)) vs id (begun_view v q) (λ e. (on, now p (let f : Some q ≡ Some p = e in cc)))
        (λ j u other at' e. absurd (other (only j u at' (r.holds j p u at' e).0))) j u;
    noted = λ j p n u. each_set (λ _ y. Among (note_at p n) y.notes → IsRowAt row log p n ⊎ IsBegunAt log (set vs id (begun_view v q)) p n) vs id (begun_view v q) (λ a. inl (stands p n (r.noted id p n v at a))) (λ j u _ at' a. inl (stands p n (r.noted j p n u at' a))) j u;
  }
    where
      now : (p : ℕ) → p ≡ q → get_or (set begun q (length log + 1)) p 0 ≡ length log + 1
      now p e = ap (λ (z : ℕ). get_or (set begun q (length log + 1)) z 0) e ∙ get_or-set_same begun q (length log + 1) 0 (let l = r.rows in omega arith)

      elsewhere : (p : ℕ) → p ≢ q → get_or (set begun q (length log + 1)) p 0 ≡ get_or begun p 0
      elsewhere p other = get_or-set_other begun q p (length log + 1) 0 other

      stands : (p n : ℕ) → IsRowAt row log p n ⊎ IsBegunAt log vs p n → IsRowAt row log p n
      stands p n t = ⊎_elim (λ s. s) (λ (s : IsBegunAt log vs p n). absurd (let m = (begun_by log begun vs r id v at only p n s).1 in cc)) t

  -- the notes of a seat that found the word of a row
  pub notes_kept : (log : List E) (begun : List ℕ) (vs : List (View E)) → Rowed row log begun vs → (id : ℕ) (v : View E) (q place : ℕ) → get_elem? vs id ≡ some v → (p n : ℕ) → Among (note_at p n) (checked_view v q place (get_or begun q 0)).notes → IsRowAt row log p n ⊎ IsBegunAt log vs p n
  notes_kept log begun vs r id v q place at p n a = go (nat_lt place (get_or begun q 0)) refl a
    where
      go : (b : Bool) → nat_lt place (get_or begun q 0) ≡ b → Among (note_at p n) (if b then noted_view v q (get_or begun q 0) else v).notes → IsRowAt row log p n ⊎ IsBegunAt log vs p n
      go true e c = ⊎_elim (λ (is : note_at p n ≡ note_at q (get_or begun q 0)). subst (λ (z : Note). IsRowAt row log z.row z.place ⊎ IsBegunAt log vs z.row z.place) (sym is)
          (⊎_elim (λ (z : get_or begun q 0 ≡ 0). absurd (let l : place < get_or begun q 0 = grind (arith, nat_tests) in omega arith)) (λ t. t) (r.last q))) (λ o. r.noted id p n v at o) c
      go false e c = r.noted id p n v at c

  -- a note is true of the seat's own list, as far as this goes
  pub notes_confirmed : (log : List E) (vs : List (View E)) (w : View E) → IsPrefix w.seen log → ((q n : ℕ) → Among (note_at q n) w.notes → IsRowAt row log q n ⊎ IsBegunAt log vs q n) → Confirmed row w
  notes_confirmed log vs w begins kept q n a within = ⊎_elim
      (λ (t : IsRowAt row log q n). let is = t.2 in (t.0, t.1, t.2, slice_get_of w.seen t.0 t.1 (at_shorter w.seen log t.0 t.1 begins (omega arith) (at_slice_get log t.0 t.1 t.3)), t.4))
      (λ (p : IsBegunAt log vs q n). let is = p.0 in let l = prefix_length w.seen log begins in absurd (omega arith)) (kept q n a)
