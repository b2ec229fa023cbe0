-- A load of the count and one of the word of a row keep the rule.
use Rattle.std.proofs.Common.{◌≡◌, ◌≢◌, ℕ, suc, ◌+◌, ◌-◌, ◌<◌, ◌≤◌, Bool, true, false, List, [], length, get_or, drop, set, sym, refl, ap, ◌∙◌, inl, inr, ⊎_elim, arith, subst, ◌⊎◌}
use mathlib.Core.List.{IsPrefix}
use mathlib.Core.Option.{some, none}
use lib.ListN.{get_elem?}
use lib.Seq.{set-get_or}
use Rattle.std.specs.Prelude.{Option, Some, All, if◌then◌else◌, nat_lt}
use Rattle.atomic_table.specs.Table.{State, Me, step, keeps, Allows}
use Rattle.atomic_table.proofs.Lists.{at_map}
use Rattle.turn_cell.specs.declared.view.View.{View}
use Rattle.turn_cell.specs.declared.view.Note.{Note}
use Rattle.turn_cell.specs.Badges.{Among}
use Rattle.turn_cell.specs.Entries.{IsRowAt}
use Rattle.turn_cell.specs.Numbers.{Had, Numbered}
use Rattle.turn_cell.specs.Rows.{IsBegunAt}
use Rattle.turn_cell.specs.Rule.{badge_of, Fits, IsHome, IsOut, Turned}
use Rattle.turn_cell.specs.Views.{note_at, untold_view, noted_view, checked_view}
use Rattle.turn_cell.specs.Steps.{LoadsCount, LoadsRow}
use Rattle.turn_cell.proofs.Places.{each_set, all_at, at_drop}
use Rattle.turn_cell.proofs.Prefixes.{prefix_between, at_prefix}
use Rattle.turn_cell.proofs.NumbersKept.{had_below}
use Rattle.turn_cell.proofs.RowsKept.{rowed_set, notes_kept, notes_confirmed}
use Rattle.turn_cell.proofs.ViewsKept.{same_badges, still}

module _ {V E : Type 0} (stands : V → List E → Type 0) (author : E → ℕ) (row : E → Option ℕ) (greatest : V → ℕ) where
  abbrev St : Type 0
  St = State (Option V) (View E)

  abbrev Sa : Type 0
  Sa = Me (Option V) (View E)

  abbrev Rule : St → Type 0
  Rule = Turned stands author row greatest

  -- the same view, but for what it is told of and its notes
  abbrev quiet : View E → List E → List Note → View E
  quiet v told notes = record { badge = v.badge; seen = v.seen; told = told; until = v.until; turn = v.turn; top = v.top; begun = v.begun; notes = notes }

  quiet_at : (s : St) (r : Rule s) (id : ℕ) (v : View E) (told : List E) (notes : List Note) → get_elem? s.views id ≡ some v → IsPrefix told r.log → ((q n : ℕ) → Among (note_at q n) notes → IsRowAt row r.log q n ⊎ IsBegunAt r.log s.views q n)
      → Rule record { words = s.words; homes = s.homes; views = set s.views id (quiet v told notes) }
  quiet_at s r id v told notes at begins kept = let w : View E = quiet v told notes in let f = r.each id v at in let same = same_badges s.views id v w at refl in record {
    log = r.log;
    first = r.first;
    top = r.top;
    begun = r.begun;
    rowed = rowed_set row r.log r.begun s.views r.rowed id v w at refl kept (λ q e. (r.rowed.holds id q v at e).0);
    place = ⊎_elim
        (λ (h : IsHome stands greatest r.log r.top r.begun s). inl record { value = h.value; words_are = h.words_are; home = h.home; right = h.right; most = h.most; free = each_set (λ _ u. u.turn ≡ false) s.views id w (h.free id v at) (λ j u _ p. h.free j u p) })
        (λ (h : IsOut r.log r.top r.begun s). let stay = still s.views id v w at refl h.holder h.view h.there h.holds in inr record {
          holder = h.holder;
          view = stay.0;
          words_are = h.words_are;
          away = h.away;
          there = stay.1;
          holds = stay.2;
          only = each_set (λ j u. u.turn ≡ true → (j ≡ h.holder) × (u.seen ≡ r.log) × (u.top ≡ r.top)) s.views id w (h.only id v at) (λ j u _ p. h.only j u p);
        }) r.place;
    numbered = subst (Numbered r.first r.top) (sym same) r.numbered;
    authored = λ k e there. subst (λ bs. Had bs (author e)) (sym same) (r.authored k e there);
    each = each_set (λ _ u. Fits author r.log u) s.views id w record { is_seen = f.is_seen; is_told = begins; until_seen = f.until_seen; own = f.own; kept = f.kept } (λ j u _ p. r.each j u p);
  }

  -- a look at the count
  pub loads_count : (slots id : ℕ) (me : Sa) → me.0.badge.in_use ≡ true → Allows Rule slots id me 0 (λ n. n) (LoadsCount author row (step slots 0 0 0 none) me)
  loads_count slots id me live s r wide at small = let f = r.each id me.0 at in let v : View E = me.0 in
      let words : s.words ≡ set s.words 0 (get_or s.words 0 0) = sym (set-get_or s.words 0 0) in (
        untold_view v,
        keeps,
        tt,
        subst (λ (ws : List ℕ). Rule record { words = ws; homes = s.homes; views = set s.views id (untold_view v) }) words (quiet_at s r id v [] v.notes at (r.log, refl) (λ q n a. r.rowed.noted id q n v at a)),
        record {
          after = refl;
          told = prefix_between v.told v.seen r.log f.is_told f.is_seen;
          owns = record {
            until_seen = f.until_seen;
            own = λ k e p is. f.own live k e (at_prefix v.seen r.log k e f.is_seen p) is;
            kept = λ n l a. let old = f.kept n l a in (old.0, λ k e p is. old.1 k e (at_prefix v.seen r.log k e f.is_seen p) is);
          };
          apart = λ n l a. r.numbered.apart id n l v.badge (at_map badge_of s.views id v at) a;
          confirmed = notes_confirmed row r.log s.views v f.is_seen (λ q n a. r.rowed.noted id q n v at a);
          count = λ on. (holds_all s r id v at on).0;
          authors = λ on. subst (λ (top : ℕ). All (λ e. author e ≤ top) v.seen) (sym (holds_all s r id v at on).1)
              (all_at (λ e. author e ≤ r.top) v.seen (λ k e p. let a = r.authored k e (at_prefix v.seen r.log k e f.is_seen p) in had_below r.numbered a.0 (author e) a.1 a.2 a.3));
        },
      )
    where
      -- the holder of the turn has seen as much as the count says, and knows the greatest number
      holds_all : (s : St) (r : Rule s) (id : ℕ) (v : View E) → get_elem? s.views id ≡ some v → v.turn ≡ true → (get_or s.words 0 0 ≡ length v.seen) × (v.top ≡ r.top)
      holds_all s r id v at on = ⊎_elim (λ (h : IsHome stands greatest r.log r.top r.begun s). absurd (let off = h.free id v at in cc))
          (λ (h : IsOut r.log r.top r.begun s). let holder = h.only id v at on in (ap (λ (ws : List ℕ). get_or ws 0 0) h.words_are ∙ ap length (sym holder.1), holder.2)) r.place

  -- the word of a row
  row_word : (s : St) (r : Rule s) (i q : ℕ) → i ≡ suc (suc q) → get_or s.words i 0 ≡ get_or r.begun q 0
  row_word s r i q is = ap (λ (z : ℕ). get_or s.words z 0) is ∙ ⊎_elim (λ (h : IsHome stands greatest r.log r.top r.begun s). ap (λ (ws : List ℕ). get_or ws (suc (suc q)) 0) h.words_are)
      (λ (h : IsOut r.log r.top r.begun s). ap (λ (ws : List ℕ). get_or ws (suc (suc q)) 0) h.words_are) r.place

  -- what is found at the row of a view is a quiet change
  checked_quiet : (v : View E) (q place n : ℕ) → checked_view v q place n ≡ quiet v v.told (checked_view v q place n).notes
  checked_quiet v q place n = go (nat_lt place n)
    where
      go : (b : Bool) → (if b then noted_view v q n else v) ≡ quiet v v.told (if b then noted_view v q n else v).notes
      go true = refl
      go false = refl

  -- a look at the word of a row
  pub loads_row : (place slots id : ℕ) (me : Sa) (i : ℕ) → 2 ≤ i → Allows Rule slots id me i (λ n. n) (LoadsRow row place (step slots i 0 0 none) me)
  loads_row place slots id me i low s r wide at small = let f = r.each id me.0 at in let v : View E = me.0 in let q : ℕ = i - 2 in let n : ℕ = get_or s.words i 0 in let found : n ≡ get_or r.begun q 0 = row_word s r i q (omega arith) in
      let words : s.words ≡ set s.words i n = sym (set-get_or s.words i 0) in let w : View E = checked_view v q place n in let is = checked_quiet v q place n in
      let kept : (p m : ℕ) → Among (note_at p m) w.notes → IsRowAt row r.log p m ⊎ IsBegunAt r.log s.views p m =
      subst (λ (z : ℕ). (p m : ℕ) → Among (note_at p m) (checked_view v q place z).notes → IsRowAt row r.log p m ⊎ IsBegunAt r.log s.views p m) (sym found) (notes_kept row r.log r.begun s.views r.rowed id v q place at) in (
        w,
        keeps,
        tt,
        subst (λ (z : List ℕ × View E). Rule record { words = z.0; homes = s.homes; views = set s.views id z.1 }) (λ k. (words k, sym is k)) (quiet_at s r id v v.told w.notes at f.is_told kept),
        record {
          after = refl;
          none_after = λ least. all_at (λ e. row e ≢ Some q) (drop place v.seen) (λ k e p of. let lt : place + k < get_or r.begun q 0 = r.rowed.over q (place + k) e (at_prefix v.seen r.log (place + k) e f.is_seen (at_drop place v.seen k e p)) of in omega arith);
          confirmed = notes_confirmed row r.log s.views w (subst (λ (l : List E). IsPrefix l r.log) (sym (ap (λ (z : View E). z.seen) is)) f.is_seen) kept;
        },
      )
