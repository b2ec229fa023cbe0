-- The rule holds at the start, and where a seat splits or two are joined.
use Rattle.std.proofs.Common.{◌≡◌, ◌≢◌, ℕ, zero, suc, ◌+◌, ◌≤◌, true, false, List, [], ◌∷◌, ◌++◌, map, length, get_or, set, sym, refl, ap, ◌∙◌, inl, inr, ⊎_elim, arith, subst, le_refl, zero-le}
use Rattle.std.proofs.Math.ListN.{length-replicate}
use mathlib.Core.List.{IsPrefix, map-append}
use mathlib.Core.Option.{some, some-injective, some-ne-none}
use lib.ListN.{get_elem?}
use lib.Seq.{map-set}
use Rattle.std.specs.Prelude.{Option, Some, None, replicate}
use Rattle.atomic_table.specs.Table.{State, Me, opening, Splits, Joins}
use Rattle.atomic_table.proofs.Lists.{at_map, at_snoc, set_else, set_here, at_longer}
use Rattle.turn_cell.specs.declared.view.View.{View}
use Rattle.turn_cell.specs.declared.view.Note.{Note}
use Rattle.turn_cell.specs.declared.badge.Badge.{Badge}
use Rattle.turn_cell.specs.declared.badge.Joined.{Joined}
use Rattle.turn_cell.specs.Badges.{Among, Has, joined_at, badge_after_split, new_badge, spent_badge}
use Rattle.turn_cell.specs.Numbers.{Had, Numbered}
use Rattle.turn_cell.specs.Rule.{badge_of, Fits, IsHome, IsOut, Turned}
use Rattle.turn_cell.specs.Views.{note_at, first_view, view_after_split, view_of_new_seat, joining_view, spent_view}
use Rattle.turn_cell.proofs.Places.{at_below, one_at, each_set}
use Rattle.turn_cell.proofs.Prefixes.{prefix_refl}
use Rattle.turn_cell.proofs.Membership.{among_either}
use Rattle.turn_cell.proofs.Longer.{long_is, short_is, long_most}
use Rattle.turn_cell.proofs.NumbersKept.{had_below, split_still_had, numbered_split, join_still_had, numbered_join}
use Rattle.turn_cell.proofs.RowsKept.{rowed_set, rowed_more, rowed_join}
use Rattle.turn_cell.proofs.ViewsKept.{still}

module _ {V E : Type 0} (stands : V → List E → Type 0) (author : E → ℕ) (row : E → Option ℕ) (greatest : V → ℕ) where
  abbrev St : Type 0
  St = State (Option V) (View E)

  abbrev Sa : Type 0
  Sa = Me (Option V) (View E)

  abbrev Rule : St → Type 0
  Rule = Turned stands author row greatest

  -- a new cell
  pub starts : (x : V) (n : ℕ) → n ≡ greatest x → stands x [] → Rule (opening (replicate 258 0) (Some x ∷ []) (first_view n))
  starts x n is right = record {
    log = [];
    first = n;
    top = n;
    begun = replicate 256 0;
    rowed = record {
      rows = let z : ℕ = 0 in length-replicate 256 z;
      over = λ q k e there _. absurd (some-ne-none e (sym there));
      last = λ q. inl (zeros 256 q);
      holds = λ j q u e is. absurd (let none_begun = only (λ (z : View E). z.begun ≡ None) refl j u e in cc);
      noted = λ j q m u e a. absurd (subst (λ (l : List Note). Among (note_at q m) l) (only (λ (z : View E). z.notes ≡ []) refl j u e) a);
    };
    place = inl record { value = x; words_are = refl; home = refl; right = right; most = sym is; free = λ j u e. only (λ (z : View E). z.turn ≡ false) refl j u e };
    numbered = record {
      one_first = λ i b e _. ap (λ (z : Badge). z.first) (sym (only_badge i b e).1);
      had_once = λ i j n b c e f _ _. (only_badge j c f).0 ∙ sym (only_badge i b e).0;
      apart = λ i n l b e a. absurd (subst (λ (z : Badge). Among (joined_at n l) z.joined) (sym (only_badge i b e).1) a);
      up = le_refl n;
      topmost = inl refl;
      given_first = λ i m b e h. ⊎_elim (λ (o : (true ≡ true) × (m ≡ n)). inl o.1) (λ (o : (l : ℕ) × Among (joined_at m l) []). absurd o.1) (subst (λ (z : Badge). Has z m) (sym (only_badge i b e).1) h);
      given = λ i m b e a. absurd (subst (λ (z : Badge). Among m z.gave) (sym (only_badge i b e).1) a);
      gave_once = λ i j m b c e f a _. absurd (subst (λ (z : Badge). Among m z.gave) (sym (only_badge i b e).1) a);
      given_had = λ i m b e a. absurd (subst (λ (z : Badge). Among m z.gave) (sym (only_badge i b e).1) a);
    };
    authored = λ k e there. absurd (some-ne-none e (sym there));
    each = only (Fits author []) record { is_seen = prefix_refl []; is_told = prefix_refl []; until_seen = zero-le; own = λ _ k e there _. absurd (some-ne-none e (sym there)); kept = λ n l none. absurd none };
  }
    where
      zeros : (m q : ℕ) → get_or {A = ℕ} (replicate m 0) q 0 ≡ 0
      zeros zero q = refl
      zeros (suc m) zero = refl
      zeros (suc m) (suc q) = zeros m q

      only_badge : (i : ℕ) (b : Badge) → get_elem? ((first_view {E = E} n).badge ∷ []) i ≡ some b → (i ≡ 0) × ((first_view {E = E} n).badge ≡ b)
      only_badge zero b e = (refl, some-injective _ b e)
      only_badge (suc i) b e = absurd (some-ne-none b (sym e))

      only : (P : View E → Type 0) → P (first_view n) → (j : ℕ) (u : View E) → get_elem? (first_view n ∷ []) j ≡ some u → P u
      only P p zero u e = subst P (some-injective _ u e) p
      only P p (suc j) u e = absurd (some-ne-none u (sym e))

  -- the holder of the turn, which has begun no row, gives out the next number
  pub splits_seat : (id : ℕ) (v : View E) → v.badge.in_use ≡ true → v.turn ≡ true → Splits Rule id v (view_after_split v) (view_of_new_seat v)
  splits_seat id v live on s r at = let f = r.each id v at in let log : List E = r.log in let vs : List (View E) = s.views in let w : View E = view_after_split v in let u : View E = view_of_new_seat v in let b_at = at_map badge_of vs id v at in ⊎_elim
      (λ (h : IsHome stands greatest r.log r.top r.begun s). absurd (let off = h.free id v at in cc))
      (λ (h : IsOut r.log r.top r.begun s). let holder = h.only id v at on in let top : v.top ≡ r.top = holder.2 in
      let same : map badge_of (set vs id w ++ u ∷ []) ≡ set (map badge_of vs) id w.badge ++ u.badge ∷ [] = map-append badge_of (set vs id w) (u ∷ []) ∙ ap (λ (l : List Badge). l ++ u.badge ∷ []) (map-set badge_of vs id w) in
      let wide : (P : ℕ → View E → Type 0) → P id w → ((j : ℕ) (x : View E) → j ≢ id → get_elem? vs j ≡ some x → P j x) → ((j : ℕ) → P j u) → (j : ℕ) (x : View E) → get_elem? (set vs id w ++ u ∷ []) j ≡ some x → P j x =
      λ P mine others new j x e. ⊎_elim (λ p. each_set P vs id w mine others j x p) (λ (t : u ≡ x). subst (P j) t (new j)) (at_snoc (set vs id w) u x j e) in
      record {
        log = log;
        first = r.first;
        top = r.top + 1;
        begun = r.begun;
        rowed = rowed_more row log r.begun (set vs id w) (rowed_set row log r.begun vs r.rowed id v w at refl (λ q n a. r.rowed.noted id q n v at a) (λ q e. (r.rowed.holds id q v at e).0)) u refl refl;
        place = inr record {
          holder = id;
          view = w;
          words_are = h.words_are;
          away = h.away;
          there = at_longer (set vs id w) (u ∷ []) id w (set_here vs id w (at_below vs id v at));
          holds = on;
          only = wide (λ j x. x.turn ≡ true → (j ≡ id) × (x.seen ≡ log) × (x.top ≡ r.top + 1)) (λ _. (refl, holder.1, ap (λ (z : ℕ). z + 1) top))
              (λ j x other p turn. absurd (other ((h.only j x p turn).0 ∙ sym holder.0))) (λ j turn. absurd (let e : false ≡ true = turn in cc));
        };
        numbered = subst (Numbered r.first (r.top + 1)) (sym same)
            (subst (λ (n : ℕ). Numbered r.first (r.top + 1) (set (map badge_of vs) id (badge_after_split v.badge (n + 1)) ++ new_badge v.badge (n + 1) ∷ [])) (sym top) (numbered_split r.numbered id v.badge b_at live));
        authored = λ k e there. subst (λ bs. Had bs (author e)) (sym same)
            (subst (λ (n : ℕ). Had (set (map badge_of vs) id (badge_after_split v.badge (n + 1)) ++ new_badge v.badge (n + 1) ∷ []) (author e)) (sym top) (split_still_had r.numbered id v.badge b_at live (author e) (r.authored k e there)));
        each = wide (λ _ x. Fits author log x) record { is_seen = f.is_seen; is_told = (log, refl); until_seen = f.until_seen; own = f.own; kept = f.kept } (λ j x _ p. r.each j x p)
            (λ _. record {
              is_seen = f.is_seen;
              is_told = (log, refl);
              until_seen = zero-le;
              own = λ _ k e there is. let a = r.authored k e there in let low = had_below r.numbered a.0 (author e) a.1 a.2 a.3 in let e' : author e ≡ v.top + 1 = is in absurd (omega arith);
              kept = λ n l none. absurd none;
            });
      }) r.place

  -- a seat takes in another, and neither holds the turn
  pub joins_seats : (id : ℕ) (v : View E) (other : ℕ) (w : View E) → v.badge.in_use ≡ true → v.turn ≡ false → w.badge.in_use ≡ true → w.turn ≡ false → Joins Rule id v other w (joining_view v w) spent_view
  joins_seats id v other w live off alive rest s r at apart there = let log : List E = r.log in let vs : List (View E) = s.views in let both : View E = joining_view v w in
      let two : other ≢ id = apart in let there' : get_elem? vs other ≡ some w = sym (set_else vs id other both two) ∙ there in let f = r.each id v at in let g = r.each other w there' in
      let b_at = at_map badge_of vs id v at in let c_at = at_map badge_of vs other w there' in let most = long_most v.seen w.seen in
      let same : map badge_of (set (set vs id both) other spent_view) ≡ set (set (map badge_of vs) id both.badge) other spent_badge = map-set badge_of (set vs id both) other spent_view ∙ ap (λ (l : List Badge). set l other spent_badge) (map-set badge_of vs id both) in
      let wide : (P : ℕ → View E → Type 0) → P id both → P other spent_view → ((j : ℕ) (x : View E) → get_elem? vs j ≡ some x → P j x) → (j : ℕ) (x : View E) → get_elem? (set (set vs id both) other spent_view) j ≡ some x → P j x =
      λ P mine spent others. each_set P (set vs id both) other spent_view spent (λ j x _ p. each_set P vs id both mine (λ k y _ q. others k y q) j x p) in
      record {
        log = log;
        first = r.first;
        top = r.top;
        begun = r.begun;
        rowed = rowed_join row log r.begun vs r.rowed id v other w at there' two off rest;
        place = ⊎_elim
            (λ (h : IsHome stands greatest r.log r.top r.begun s). inl record { value = h.value; words_are = h.words_are; home = h.home; right = h.right; most = h.most; free = wide (λ _ x. x.turn ≡ false) off refl (λ j x p. h.free j x p) })
            (λ (h : IsOut r.log r.top r.begun s). let stay = still vs id v both at refl h.holder h.view h.there h.holds in inr record {
              holder = h.holder;
              view = stay.0;
              words_are = h.words_are;
              away = h.away;
              there = set_else (set vs id both) other h.holder spent_view (λ e. let on : w.turn ≡ true = ap (λ (z : View E). z.turn) (one_at vs other h.holder w h.view (sym e) there' h.there) ∙ h.holds in let no : w.turn ≡ false = rest in cc) ∙ stay.1;
              holds = stay.2;
              only = wide (λ j x. x.turn ≡ true → (j ≡ h.holder) × (x.seen ≡ log) × (x.top ≡ r.top)) (λ on. absurd (let e : v.turn ≡ true = on in cc)) (λ on. absurd (let e : false ≡ true = on in cc)) (λ j x p. h.only j x p);
            }) r.place;
        numbered = subst (Numbered r.first r.top) (sym same) (numbered_join r.numbered id other (length w.seen) v.badge w.badge b_at c_at two live alive);
        authored = λ k e p. subst (λ bs. Had bs (author e)) (sym same) (join_still_had r.numbered id other (length w.seen) v.badge w.badge b_at c_at two live alive (author e) (r.authored k e p));
        each = wide (λ _ x. Fits author log x) record {
          is_seen = long_is v.seen w.seen (λ l. IsPrefix l log) f.is_seen g.is_seen;
          is_told = short_is v.seen w.seen (λ l. IsPrefix l log) f.is_seen g.is_seen;
          until_seen = let a = f.until_seen in let m = most.0 in omega arith;
          own = λ _ k e p is. f.own live k e p is;
          kept = λ n l a. ⊎_elim (λ (p : Among (joined_at n l) v.badge.joined). let old = f.kept n l p in let x : l ≤ length v.seen = old.0 in let m = most.0 in (omega arith, old.1))
              (λ (q : Among (joined_at n l) (joined_at w.badge.number (length w.seen) ∷ w.badge.joined)). ⊎_elim
              (λ (e : joined_at n l ≡ joined_at w.badge.number (length w.seen)). let x : l ≡ length w.seen = ap (λ (z : Joined). z.length) e in let m = most.1 in (omega arith, λ k y p is. let b = g.own alive k y p (is ∙ ap (λ (z : Joined). z.number) e) in let u = g.until_seen in omega arith))
              (λ (p : Among (joined_at n l) w.badge.joined). let old = g.kept n l p in let x : l ≤ length w.seen = old.0 in let m = most.1 in (omega arith, old.1)) q)
              (among_either (joined_at n l) v.badge.joined (joined_at w.badge.number (length w.seen) ∷ w.badge.joined) a);
        } record { is_seen = (log, refl); is_told = (log, refl); until_seen = zero-le; own = λ on. absurd (let e : false ≡ true = on in cc); kept = λ n l none. absurd none } (λ j x p. r.each j x p);
      }
