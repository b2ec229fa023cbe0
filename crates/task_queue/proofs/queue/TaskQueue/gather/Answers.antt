use Rattle.std.proofs.Common.{rules, arith, ◌≡◌, ◌+◌, ◌++◌, ◌∷◌, [], ℕ, List, length, sym, ap, refl, ◌∙◌, subst, append_assoc, append-nil, length-append}
use Rattle.std.specs.Prelude.{All}
use Rattle.std.specs.Vec.{vec_len}
use Rattle.std.specs.List.{flat_map}
use Rattle.std.proofs.lemmas.List.Elements.{All-contains, Contains-append_right}
use Rattle.std.proofs.lemmas.List.Concat.{flat_map-append}
use Rattle.task_queue.specs.declared.puller.Puller.{Puller}
use Rattle.task_queue.specs.declared.hand.Hand.{Hand}
use Rattle.task_queue.specs.Tasks.{IsOf, taken}
use Rattle.task_queue.proofs.Dealing.{joins}
use Rattle.task_queue.proofs.queue.TaskQueue.gather.Goals as goal

at_middle : (P : Puller → Type 0) (xs : List Puller) (y : Puller) (ys : List Puller) → All P (xs ++ y ∷ ys) → P y
at_middle P xs y ys all = All-contains P (xs ++ y ∷ ys) y all (Contains-append_right xs (y ∷ ys) y (0, omega arith, refl))

-- the next puller is of the queue
next_of : (c : goal.After-rest-1) → IsOf c.args.self.now c.in-Some.puller
next_of c = let inv = c.loop-puller.invariant.3 in at_middle (IsOf c.args.self.now) inv.0 c.in-Some.puller c.next.new.self.rest.items (subst (All (IsOf c.args.self.now)) (sym inv.1 ∙ ap (λ l. inv.0 ++ l) c.in-Some.ensures.steps.0) c.requires.pullers.1)

pub absorb-requires-clause-queue : goal.absorb-requires-clause-queue
absorb-requires-clause-queue c = (c.loop-puller.invariant.2, ((next_of c).0, c.in-Some.puller.rests))

pub absorb-requires-clause-rule : goal.absorb-requires-clause-rule
absorb-requires-clause-rule c = joins _ _ _ _ (omega (arith, c.in-Some.puller.share))

pub loop-puller-preserved : goal.loop-puller-preserved
loop-puller-preserved c = let inv = c.loop-puller.invariant.3 in let done = inv.0 in let p = c.in-Some.puller in let rest = c.next.new.self.rest.items in (
  tt,
  tt,
  (search rules),
  (
    done ++ p ∷ [],
    append_assoc done (p ∷ []) rest ∙ ap (λ l. done ++ l) (sym c.in-Some.ensures.steps.0) ∙ inv.1,
    (let now = ap (λ (v : Hand). v.shares) c.absorb.ensures.rule in omega (arith, inv.2, p.share, length-append done (p ∷ []))),
    ap (λ (v : Hand). v.queued) c.absorb.ensures.rule ∙ (next_of c.before).1,
    ap (λ (v : Hand). v.taken) c.absorb.ensures.rule ∙ (λ i. inv.4 i ++ sym (append-nil (taken p)) i) ∙ sym (flat_map-append taken done (p ∷ [])),
    omega (arith, inv.5, c.in-Some.ensures.steps.1, length-append done (p ∷ [])),
  ),
)

-- at the end all are absorbed
all_done : (done left all : List Puller) (len : ℕ) → done ++ left ≡ all → len + length done ≡ length all → len ≡ 0 → done ≡ all
all_done done [] all len split count none = sym (append-nil done) ∙ split
all_done done (p ∷ left) all len split count none = absurd (let e = ap length split in omega (arith, length-append done (p ∷ left)))

pub loop-puller-init : goal.loop-puller-init
loop-puller-init c = let ps = c.args.pullers in (tt, tt, (c.requires.pullers.0.0, ps.idle), ([], c.into_iter-puller-iterator.ensures.into_iter_gives.0, omega (arith, ps.shares), c.requires.pullers.0.1, ps.none, (let e = c.into_iter-puller-iterator.ensures.into_iter_gives.1 in let l : vec_len c.args.pullers.pullers ≡ length c.args.pullers.pullers.items = search rules in omega (arith, e, l))))

pub invariant_of-result-clause-shares : goal.invariant_of-result-clause-shares
invariant_of-result-clause-shares c = let inv = c.loop-puller.invariant.3 in omega (arith, inv.2, inv.5, c.in-None.ensures.steps.0, c.requires.pullers.2)

pub returns-clause-gathered : goal.returns-clause-gathered
returns-clause-gathered c = let inv = c.loop-puller.invariant.3 in
    inv.4 ∙ ap (flat_map taken) (all_done inv.0 c.loop-puller.puller-iterator.rest.items c.args.pullers.pullers.items c.loop-puller.puller-iterator.rest.len inv.1 inv.5 c.in-None.ensures.steps.0)
