-- The steps of the turn keep the rule: a seat takes it, and gives it.
use Rattle.std.proofs.Common.{◌≡◌, ℕ, ◌<◌, ◌≤◌, eqb, Bool, true, false, List, [], ◌∷◌, map, length, get_or, sym, refl, ◌∙◌, inl, inr, ⊎_elim, arith, subst}
use mathlib.Core.Option.{some, none}
use native.Mathlib.Decide.{dec_le}
use lib.ListN.{get_elem?}
use prog.Atomic.{either}
use Rattle.std.specs.Prelude.{Option, Some, None}
use Rattle.atomic_table.specs.Table.{State, Act, Me, step, keeps, takes, gives, stepped, Valid, carried_after, Allows}
use Rattle.atomic_table.proofs.Lists.{at_map, set_again, set_here}
use Rattle.turn_cell.specs.declared.view.View.{View}
use Rattle.turn_cell.specs.declared.badge.Badge.{Badge}
use Rattle.turn_cell.specs.Badges.{Has, IsSole}
use Rattle.turn_cell.specs.Numbers.{Had, Numbered}
use Rattle.turn_cell.specs.Rows.{IsBegunAt}
use Rattle.turn_cell.specs.Rule.{badge_of, Fits, IsHome, IsOut, Turned}
use Rattle.turn_cell.specs.Views.{taken_view, resting_view}
use Rattle.turn_cell.specs.Steps.{Owns, TakesTurn, GivesTurn}
use Rattle.turn_cell.proofs.Places.{at_below, at_some, one_at, each_set, all_at}
use Rattle.turn_cell.proofs.Prefixes.{prefix_refl, prefix_length, prefix_whole}
use Rattle.turn_cell.proofs.NumbersKept.{had_below, alone, sole_topmost}
use Rattle.turn_cell.proofs.RowsKept.{rowed_set}
use Rattle.turn_cell.proofs.ViewsKept.{same_badges}

module _ {V E : Type 0} (stands : V → List E → Type 0) (author : E → ℕ) (row : E → Option ℕ) (greatest : V → ℕ) where
  abbrev St : Type 0
  St = State (Option V) (View E)

  abbrev Sa : Type 0
  Sa = Me (Option V) (View E)

  abbrev Rule : St → Type 0
  Rule = Turned stands author row greatest

  -- a sole seat has the author of each entry
  sole_authors : (s : St) (r : Rule s) (id : ℕ) (v : View E) → get_elem? s.views id ≡ some v → IsSole v.badge → (k : ℕ) (e : E) → get_elem? r.log k ≡ some e → Has v.badge (author e)
  sole_authors s r id v at sole k e there = let h = r.authored k e there in let b_at = at_map badge_of s.views id v at in
      subst (λ (b : Badge). Has b (author e)) (one_at (map badge_of s.views) h.0 id h.1 v.badge (alone r.numbered id v.badge b_at sole h.0 (author e) h.1 h.2 h.3) h.2 b_at) h.3

  -- what a sole seat has seen is the whole list
  sole_whole : (s : St) (r : Rule s) (id : ℕ) (v : View E) → get_elem? s.views id ≡ some v → IsSole v.badge → r.log ≡ v.seen
  sole_whole s r id v at sole = let f = r.each id v at in sym (prefix_whole v.seen r.log f.is_seen (by_cases (dec_le (length r.log) (length v.seen))))
    where
      by_cases : Dec (length r.log ≤ length v.seen) → length r.log ≤ length v.seen
      by_cases (yes d) = d
      by_cases (no d) = let f = r.each id v at in let k : ℕ = length v.seen in let x = at_some r.log k (omega arith) in
          absurd (⊎_elim (λ o. let l : k < v.until = f.own o.0 k x.0 x.1 o.1 in let u : v.until ≤ length v.seen = f.until_seen in omega arith)
          (λ j. let a = f.kept (author x.0) j.0 j.1 in let b : j.0 ≤ length v.seen = a.0 in let l : k < j.0 = a.1 k x.0 x.1 refl in omega arith) (sole_authors s r id v at sole k x.0 x.1))

  owns : (log : List E) (v : View E) → Fits author log v → v.badge.in_use ≡ true → Owns author v log
  owns log v f live = record { until_seen = f.until_seen; own = f.own live; kept = f.kept }

  -- while the turn is free, no seat has begun a row
  none_begun : (s : St) (r : Rule s) → IsHome stands greatest r.log r.top r.begun s → (id : ℕ) (v : View E) → get_elem? s.views id ≡ some v → v.begun ≡ None
  none_begun s r h id v at = go v.begun refl
    where
      go : (o : Option ℕ) → v.begun ≡ o → o ≡ None
      go None e = refl
      go (Some q) e = absurd (let on = (r.rowed.holds id q v at e).0 in let off = h.free id v at in cc)

  abbrev TakeGoal : ℕ → ℕ → Sa → St → Type 0
  TakeGoal slots id me z = (w : View E) × (a : Act (Option V)) × Valid z.homes me.1 a × Rule (stepped z 1 (either (eqb (get_or z.words 1 0) 0) 1 (get_or z.words 1 0)) id me.1 w a)
      × TakesTurn stands author row greatest (step slots 1 0 1 none) me (get_or z.words 1 0) (w, carried_after me.1 a)

  -- a seat that finds the turn free takes it and the slot, and one that finds it taken changes nothing
  pub takes_turn : (slots id : ℕ) (me : Sa) → me.0.badge.in_use ≡ true → Allows Rule slots id me 1 (λ n. either (eqb n 0) 1 n) (TakesTurn stands author row greatest (step slots 1 0 1 none) me)
  takes_turn slots id me live s r wide at small = let f = r.each id me.0 at in let b_at = at_map badge_of s.views id me.0 at in let log : List E = r.log in let top : ℕ = r.top in ⊎_elim
      (λ (h : IsHome stands greatest r.log r.top r.begun s). let words_are = h.words_are in let homes_are = h.home in let w : View E = taken_view me.0 log top in let same = same_badges s.views id me.0 w at refl in
      subst (TakeGoal slots id me) (λ i. record { words = sym words_are i; homes = sym homes_are i; views = s.views }) (
        w,
        takes 0 (Some h.value),
        refl,
        record {
          log = log;
          first = r.first;
          top = top;
          begun = r.begun;
          rowed = rowed_set row log r.begun s.views r.rowed id me.0 w at (sym (none_begun s r h id me.0 at)) (λ q n a. r.rowed.noted id q n me.0 at a) (λ _ _. refl);
          place = inr record {
            holder = id;
            view = w;
            words_are = refl;
            away = refl;
            there = set_here s.views id w (at_below s.views id me.0 at);
            holds = refl;
            only = each_set (λ j u. u.turn ≡ true → (j ≡ id) × (u.seen ≡ log) × (u.top ≡ top)) s.views id w (λ _. (refl, refl, refl)) (λ j u _ e on. absurd (let off = h.free j u e in cc));
          };
          numbered = subst (Numbered r.first top) (sym same) r.numbered;
          authored = λ k e there. subst (λ bs. Had bs (author e)) (sym same) (r.authored k e there);
          each = each_set (λ _ u. Fits author log u) s.views id w record {
            is_seen = prefix_refl log;
            is_told = f.is_told;
            until_seen = let x = f.until_seen in let y = prefix_length me.0.seen log f.is_seen in omega arith;
            own = f.own;
            kept = λ n l a. let k = f.kept n l a in let x : l ≤ length me.0.seen = k.0 in let y = prefix_length me.0.seen log f.is_seen in (omega arith, k.1);
          } (λ j u _. r.each j u);
        },
        record {
          free = λ _. record {
            value = h.value;
            held = refl;
            right = h.right;
            most = h.most;
            owns = owns log me.0 f live;
            finds = record {
              same = refl;
              later = f.is_seen;
              authors = all_at (λ e. author e ≤ top) log (λ k e there. let a = r.authored k e there in had_below r.numbered a.0 (author e) a.1 a.2 a.3);
              number = had_below r.numbered id me.0.badge.number me.0.badge b_at (inl (live, refl));
              first = subst (λ (n : ℕ). n ≤ top) (sym (r.numbered.one_first id me.0.badge b_at live)) r.numbered.up;
              gave = λ n a. (r.numbered.given id n me.0.badge b_at a).0;
              noted = λ q n a. ⊎_elim (λ t. t) (λ (p : IsBegunAt log s.views q n). absurd (let on = (r.rowed.holds p.1 q p.2 p.3 p.4).0 in let off = h.free p.1 p.2 p.3 in cc)) (r.rowed.noted id q n me.0 at a);
              sole_seen = sole_whole s r id me.0 at;
              sole_authors = λ sole. all_at (λ e. Has me.0.badge (author e)) log (sole_authors s r id me.0 at sole);
              sole_top = sole_topmost r.numbered id me.0.badge b_at;
            };
          };
          taken = λ ne. absurd (ne refl);
        },
      ))
      (λ (h : IsOut r.log r.top r.begun s). let words_are = h.words_are in let homes_are = h.away in
      subst (TakeGoal slots id me) (λ i. record { words = sym words_are i; homes = sym homes_are i; views = s.views }) (
        me.0,
        keeps,
        tt,
        subst (λ vs. Rule record { words = length log ∷ 1 ∷ r.begun; homes = none ∷ []; views = vs }) (sym (set_again s.views id me.0 at))
            (subst Rule (λ i. record { words = words_are i; homes = homes_are i; views = s.views }) r),
        record { free = λ z. absurd (let e : 1 ≡ 0 = z in omega arith); taken = λ _. refl },
      )) r.place

  off_unless : (b : Bool) → (b ≡ true → ⊥) → b ≡ false
  off_unless true n = absurd (n refl)
  off_unless false n = refl

  abbrev GiveGoal : ℕ → ℕ → View E → List (ℕ × Option V) → St → Type 0
  GiveGoal slots id v c z = (w : View E) × (a : Act (Option V)) × Valid z.homes c a × Rule (stepped z 1 0 id c w a)
      × GivesTurn (step slots 1 0 0 none) (v, c) 0 (w, carried_after c a)

  gives_here : (slots id : ℕ) (v : View E) (x : V) → v.turn ≡ true → v.begun ≡ None → stands x v.seen → greatest x ≡ v.top
      → Allows Rule slots id (v, (0, Some x) ∷ []) 1 (λ _. 0) (λ _ m. GivesTurn (step slots 1 0 0 none) (v, (0, Some x) ∷ []) 0 m)
  gives_here slots id v x on none_begun right most s r wide at small = let f = r.each id v at in let log : List E = r.log in let top : ℕ = r.top in let c : List (ℕ × Option V) = (0, Some x) ∷ [] in ⊎_elim
      (λ (h : IsHome stands greatest r.log r.top r.begun s). absurd (let off = h.free id v at in cc))
      (λ (h : IsOut r.log r.top r.begun s). let words_are = h.words_are in let homes_are = h.away in let w : View E = resting_view v in let same = same_badges s.views id v w at refl in let holder = h.only id v at on in
      subst (GiveGoal slots id v c) (λ i. record { words = sym words_are i; homes = sym homes_are i; views = s.views }) (
        w,
        gives,
        tt,
        record {
          log = log;
          first = r.first;
          top = top;
          begun = r.begun;
          rowed = rowed_set row log r.begun s.views r.rowed id v w at refl (λ q n a. r.rowed.noted id q n v at a) (λ q e. absurd (let f : v.begun ≡ Some q = e in cc));
          place = inl record {
            value = x;
            words_are = refl;
            home = refl;
            right = subst (stands x) holder.1 right;
            most = most ∙ holder.2;
            free = each_set (λ _ u. u.turn ≡ false) s.views id w refl (λ j u other p. off_unless u.turn (λ turn. other ((h.only j u p turn).0 ∙ sym holder.0)));
          };
          numbered = subst (Numbered r.first top) (sym same) r.numbered;
          authored = λ k e there. subst (λ bs. Had bs (author e)) (sym same) (r.authored k e there);
          each = each_set (λ _ u. Fits author log u) s.views id w record { is_seen = f.is_seen; is_told = f.is_told; until_seen = f.until_seen; own = f.own; kept = f.kept } (λ j u _. r.each j u);
        },
        refl,
      )) r.place

  -- the holder of the turn gives it, with the value in the slot
  pub gives_turn : (slots id : ℕ) (me : Sa) (x : V) → me.1 ≡ (0, Some x) ∷ [] → me.0.turn ≡ true → me.0.begun ≡ None → stands x me.0.seen → greatest x ≡ me.0.top
      → Allows Rule slots id me 1 (λ _. 0) (λ _ m. GivesTurn (step slots 1 0 0 none) me 0 m)
  gives_turn slots id me x has on none_begun right most = subst (λ (c : List (ℕ × Option V)). Allows Rule slots id (me.0, c) 1 (λ _. 0) (λ _ m. GivesTurn (step slots 1 0 0 none) (me.0, c) 0 m)) (sym has)
      (gives_here slots id me.0 x on none_begun right most)
