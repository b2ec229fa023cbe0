-- Each step of a pass keeps the rule.
use Rattle.std.proofs.Common.{◌≡◌, ◌≢◌, ◌<◌, ◌+◌, ◌-◌, ℕ, zero, suc, List, [], ◌∷◌, ◌++◌, set, sym, refl, ap, ◌∙◌, subst, ⊎_elim, arith}
use Rattle.std.specs.Prelude.{Contains}
use Rattle.std.specs.List.{sum_by, flat_map}
use Rattle.std.specs.List.Sorted.{IsPermutation}
use Rattle.std.proofs.lemmas.List.Sums.{sum_by-cons, sum_by-append, sum_by_push}
use Rattle.std.proofs.lemmas.List.Elements.{Contains-append_right}
use mathlib.Core.Option.{some, some-ne-none}
use lib.ListN.{get_elem?}
use Rattle.crossbeam_queue.specs.Fifo.{Pushes, Pops, Forks, Merges, Learns}
use Rattle.crossbeam_queue.proofs.Lists.{at_set, at_snoc, set_else}
use Rattle.task_queue.specs.declared.hand.Hand.{Hand}
use Rattle.task_queue.specs.Hands.{hand, Knows, AreDealt}
use Rattle.task_queue.proofs.Balance.{total_set, at_most_total, together, same_weights, one_at, stands, weighs_one}

abbrev shares : Hand → ℕ
shares v = v.shares

abbrev weight : (ℕ → ℕ) → Hand → ℕ
weight h v = sum_by h v.taken

abbrev none : Hand
none = hand 0 [] []

abbrev EachKnows : List ℕ → List Hand → Type 0
EachKnows all views = (port : ℕ) (v : Hand) → get_elem? views port ≡ some v → Knows all v

each_set : (all : List ℕ) (views : List Hand) (port : ℕ) (w : Hand) → Knows all w → ((j : ℕ) (u : Hand) → j ≢ port → get_elem? views j ≡ some u → Knows all u) → EachKnows all (set views port w)
each_set all views port w mine others j u e = ⊎_elim (λ (x : (j ≡ port) × (w ≡ u)). subst (Knows all) x.1 mine) (λ (x : (j ≢ port) × (get_elem? views j ≡ some u)). others j u x.0 x.1) (at_set views port j w u e)

-- beside a pass with all shares no other has one
alone : (views : List Hand) (port j : ℕ) (v u : Hand) → sum_by shares views ≡ 64 → get_elem? views port ≡ some v → v.shares ≡ 64 → j ≢ port → get_elem? views j ≡ some u → u.shares ≡ 0
alone views port j v u all at mine apart there = omega (arith, total_set shares views port v none at, at_most_total shares (set views port none) j u (set_else views port j none apart ∙ there))

-- where no view has taken a number, all have taken none
none_taken : (h : ℕ → ℕ) (views : List Hand) → ((port : ℕ) (v : Hand) → get_elem? views port ≡ some v → v.taken ≡ []) → sum_by (weight h) views ≡ 0
none_taken h [] each = refl
none_taken h (v ∷ views) each = let first : weight h v ≡ 0 = ap (sum_by h) (each 0 v refl) in omega (arith, sum_by-cons (weight h) v views, none_taken h views (λ port u e. each (suc port) u e))

pub begins : AreDealt [] (hand 64 [] [] ∷ [])
begins = ([], refl, (λ h. refl), each_set [] (none ∷ []) 0 (hand 64 [] []) ((λ e. refl), λ _. refl) (λ j u apart e. absurd (nowhere j u apart e)))
  where
    nowhere : (j : ℕ) (u : Hand) → j ≢ 0 → get_elem? (none ∷ []) j ≡ some u → ⊥
    nowhere zero u apart e = apart refl
    nowhere (suc j) u apart e = some-ne-none u (sym e)

-- a number is queued by the pass with all shares
pub queues : (n port : ℕ) (v : Hand) (x : ℕ) → v.shares ≡ 64 → Pushes AreDealt n port v x (λ w. w ≡ hand v.shares (v.queued ++ x ∷ []) v.taken)
queues n port v x mine items views room h at = let w = hand v.shares (v.queued ++ x ∷ []) v.taken in let knows = h.3 port v at in (
  w,
  (
    h.0 ++ x ∷ [],
    (let t = total_set shares views port v w at in omega (arith, h.1)),
    (λ f. omega (arith, total_set (weight f) views port v w at, h.2 f, sum_by_push f h.0 x, sum_by_push f items x)),
    each_set (h.0 ++ x ∷ []) views port w (knows.0, λ _. ap (λ l. l ++ x ∷ []) (knows.1 (omega (arith, mine)))) (λ j u apart e. let idle : u.shares ≡ 0 = alone views port j v u h.1 at mine apart e in ((h.3 j u e).0, λ some_share. absurd (omega (arith, idle)))),
  ),
  refl,
)

-- a number is taken
pub pulls : (port : ℕ) (v : Hand) → 0 < v.shares → Pops AreDealt port v (λ x w. (w ≡ hand v.shares v.queued (v.taken ++ x ∷ [])) × Contains v.queued x)
pulls port v mine x items views h at = let w = hand v.shares v.queued (v.taken ++ x ∷ []) in let knows = h.3 port v at in (
  w,
  (
    h.0,
    (let t = total_set shares views port v w at in omega (arith, h.1)),
    (λ f. omega (arith, total_set (weight f) views port v w at, h.2 f, sum_by_push f v.taken x, sum_by-cons f x items)),
    each_set h.0 views port w ((λ idle. absurd (omega (arith, mine))), knows.1) (λ j u apart e. h.3 j u e),
  ),
  (refl, let p = stands x h.0 (omega (arith, h.2 (one_at x), weighs_one x items)) in subst (λ l. Contains l x) (sym (knows.1 mine ∙ p.2)) (Contains-append_right p.0 (x ∷ p.1) x (0, omega arith, refl))),
)

-- what the queue does not hold was taken, by this pass or others
pub others : (port : ℕ) (v : Hand) → 0 < v.shares → Learns AreDealt port v (λ items. (others : List ℕ) × IsPermutation v.queued ((v.taken ++ others) ++ items))
others port v mine items views h at = let rest = set views port none in let theirs = flat_map (λ u. u.taken) rest in (
  theirs,
  same_weights v.queued ((v.taken ++ theirs) ++ items)
      (λ f. let same : sum_by f v.queued ≡ sum_by f h.0 = ap (sum_by f) ((h.3 port v at).1 mine) in
      omega (arith, h.2 f, total_set (weight f) views port v none at, together (λ (u : Hand). u.taken) f rest, sum_by-append f (v.taken ++ theirs) items, sum_by-append f v.taken theirs)),
)

-- with all shares: what the queue does not hold was taken by this pass
pub knows_left : (port : ℕ) (v : Hand) → v.shares ≡ 64 → Learns AreDealt port v (λ items. IsPermutation v.queued (v.taken ++ items))
knows_left port v mine items views h at = let rest = set views port none in
    let idle : (j : ℕ) (u : Hand) → get_elem? rest j ≡ some u → u.taken ≡ [] = λ j u e.
    ⊎_elim (λ (x : (j ≡ port) × (none ≡ u)). ap (λ (y : Hand). y.taken) (sym x.1)) (λ (x : (j ≢ port) × (get_elem? views j ≡ some u)). (h.3 j u x.1).0 (alone views port j v u h.1 at mine x.0 x.1)) (at_set views port j none u e) in
    same_weights v.queued (v.taken ++ items)
    (λ f. let same : sum_by f v.queued ≡ sum_by f h.0 = ap (sum_by f) ((h.3 port v at).1 (omega (arith, mine))) in
    omega (arith, h.2 f, total_set (weight f) views port v none at, none_taken f rest idle, sum_by-append f v.taken items))

-- a share is given to a new pass
pub gives : (port : ℕ) (v : Hand) → 0 < v.shares → v.taken ≡ [] → Forks AreDealt port v (hand (v.shares - 1) v.queued v.taken) (hand 1 v.queued [])
gives port v mine empty items views h at = let left = hand (v.shares - 1) v.queued v.taken in let right = hand 1 v.queued [] in let knows = h.3 port v at in let rest = set views port left in (
  h.0,
  (let t = total_set shares views port v left at in omega (arith, h.1, sum_by_push shares rest right)),
  (λ f. omega (arith, h.2 f, total_set (weight f) views port v left at, sum_by_push (weight f) rest right)),
  λ j u e. ⊎_elim (λ there. each_set h.0 views port left ((λ _. empty), λ _. knows.1 mine) (λ i y apart x. h.3 i y x) j u there) (λ (is : right ≡ u). subst (Knows h.0) is ((λ _. refl), λ _. knows.1 mine)) (at_snoc rest right u j e),
)

-- two passes come together
pub joins : (port : ℕ) (v : Hand) (other : ℕ) (w : Hand) → 0 < w.shares → Merges AreDealt port v other w (hand (v.shares + w.shares) w.queued (v.taken ++ w.taken)) (hand 0 [] [])
joins port v other w mine items views h at apart at' = let both = hand (v.shares + w.shares) w.queued (v.taken ++ w.taken) in let rest = set views port both in
    let was : get_elem? views other ≡ some w = ⊎_elim (λ (x : (other ≡ port) × (both ≡ w)). absurd (apart x.0)) (λ (x : (other ≢ port) × (get_elem? views other ≡ some w)). x.1) (at_set views port other both w at') in
    let queued : w.queued ≡ h.0 = (h.3 other w was).1 mine in (
      h.0,
      omega (arith, h.1, total_set shares views port v both at, total_set shares rest other w none at'),
      (λ f. omega (arith, h.2 f, total_set (weight f) views port v both at, total_set (weight f) rest other w none at', sum_by-append f v.taken w.taken)),
      each_set h.0 rest other none ((λ _. refl), λ some_share. absurd (omega arith)) (λ j u _ e. each_set h.0 views port both ((λ idle. absurd (omega (arith, mine))), λ _. queued) (λ i y _ x. h.3 i y x) j u e),
    )
