use Rattle.std.proofs.Common.{◌≤◌, inl, inr, length, map, subst, sym, ◌∙◌, ap, ◌∷◌}
use Rattle.index_tree.specs.declared.index.Slot.{Slot}
use Rattle.index_tree.specs.declared.index.Index.{Index}
use Rattle.bucket_core.specs.History.{AllByOthers}
use Rattle.bucket_core.specs.declared.event.Change.TheVariants as changes
use Rattle.store_model.specs.Library.{state_of}
use Rattle.frame_write.specs.Plans.{IsPlan, IsPlanned, IsMadeBy}
use Rattle.frame_write.specs.Tries.{Made, DidTry}
use Rattle.frame_write.specs.Writes.{IsWritten}
use Rattle.version_chain.proofs.SteadyLemmas.{on_err}
use Rattle.version_chain.proofs.TraceLemmas.{went_looks}
use Rattle.frame_write.proofs.MeetLemmas.{later_not_own}
use Rattle.frame_write.proofs.CommitLemmas.{walk_stops, plan_stops}
use Rattle.frame_write.proofs.TriesLemmas.{try_steady, try_weaker, try_from}
use Rattle.frame_write.proofs.StateLemmas.{walked_lawful, was_told, rising_buried, same_pruned}
use Rattle.frame_write.proofs.attempt.attempt.Goals as goal

pub plan_write-requires : goal.plan_write-requires
plan_write-requires g c =
    let walked = c.in_ok-tip.ensures.tip in
    let lawful = walked_lawful _ walked.later walked.before walked.split (g.met.B.Bucket.lawful c.walk_tip.new.bucket) in
    record {
      storable = c.requires.storable;
      tiles = c.requires.tiles;
      was = was_told walked.before c.args.symbol.now c.args.options.now.prune c.in_ok-tip.tip lawful walked.is;
      rising = rising_buried walked.before c.args.symbol.now c.args.options.now.prune c.in_ok-tip.tip walked.is;
    }

pub commit-requires : goal.commit-requires
commit-requires g c =
    let walked = c.in_ok-tip.ensures.tip in
    let made = c.in-Ok.ensures walked.before walked.is in
    record {
      planned = (
        made.index,
        (record {
          later = walked.later;
          before = walked.before;
          split = walked.split;
          none_own = later_not_own (g.B.Bucket.number c.walk_tip.new.bucket) c.args.symbol.now (g.B.Bucket.seen c.args.bucket.now) (g.B.Bucket.seen c.walk_tip.new.bucket) walked.later walked.before (sym walked.split) c.walk_tip.ensures.looks.others c.walk_tip.ensures.looks.is
              (subst (λ n. AllByOthers n c.walk_tip.ensures.looks.others) (sym c.walk_tip.ensures.steady.same_number) c.walk_tip.ensures.looks.by_others) (subst (λ n. length (g.B.Bucket.seen c.args.bucket.now) ≤ n) walked.place c.in_ok-tip.ensures.place.from);
          is_plan = subst (λ n. IsPlan (g.B.Bucket.number c.walk_tip.new.bucket) n walked.before c.args.symbol.now made.index c.in-Ok.plan) c.serial.ensures (subst (λ n. IsPlan n c.serial.result walked.before c.args.symbol.now made.index c.in-Ok.plan) c.client.ensures made.is_plan);
        }),
      );
    }

pub returns-in_err-tip-clause-did : goal.returns-in_err-tip-clause-did
returns-in_err-tip-clause-did g c =
    on_err (DidTry _ _ c.args.symbol.now (IsWritten c.args.symbol.now c.args.frame.now c.args.options.now) _ _ _ _ _ _) c.from_residual.result c.in_err-tip.field-0.0 c.from_residual.ensures.0 c.from_residual.ensures.1
    (inr (inl (walk_stops (g.B.Bucket.number c.args.bucket.now) (g.B.Bucket.sole c.args.bucket.now) c.args.symbol.now (g.B.Bucket.limit c.args.bucket.now) (g.B.Bucket.faults c.args.bucket.now) (g.B.Bucket.faults c.walk_tip.new.bucket) (length (g.B.Bucket.seen c.args.bucket.now)) (g.B.Bucket.seen c.args.bucket.now) (g.B.Bucket.seen c.walk_tip.new.bucket) c.in_err-tip.field-0.0 c.walk_tip.ensures.looks c.in_err-tip.ensures.refused)))

pub returns-in_default-clause-did : goal.returns-in_default-clause-did
returns-in_default-clause-did g c = inr (inl (plan_stops _ _ _ _ _ _ _ _ _ _ c.walk_tip.ensures.looks c.place.ensures))

pub returns-clause-did : goal.returns-clause-did
returns-clause-did g c =
    let walked = c.in_ok-tip.ensures.tip in
    let made = c.in-Ok.ensures walked.before walked.is in
    let planned : IsPlanned (g.B.Bucket.number c.walk_tip.new.bucket) (g.B.Bucket.seen c.walk_tip.new.bucket) c.args.symbol.now made.index c.in-Ok.plan = (record {
      later = walked.later;
      before = walked.before;
      split = walked.split;
      none_own = later_not_own (g.B.Bucket.number c.walk_tip.new.bucket) c.args.symbol.now (g.B.Bucket.seen c.args.bucket.now) (g.B.Bucket.seen c.walk_tip.new.bucket) walked.later walked.before (sym walked.split) c.walk_tip.ensures.looks.others c.walk_tip.ensures.looks.is
          (subst (λ n. AllByOthers n c.walk_tip.ensures.looks.others) (sym c.walk_tip.ensures.steady.same_number) c.walk_tip.ensures.looks.by_others) (subst (λ n. length (g.B.Bucket.seen c.args.bucket.now) ≤ n) walked.place c.in_ok-tip.ensures.place.from);
      is_plan = subst (λ n. IsPlan (g.B.Bucket.number c.walk_tip.new.bucket) n walked.before c.args.symbol.now made.index c.in-Ok.plan) c.serial.ensures (subst (λ n. IsPlan n c.serial.result walked.before c.args.symbol.now made.index c.in-Ok.plan) c.client.ensures made.is_plan);
    }) in
    let follows : (m : Made) → IsMadeBy c.args.symbol.now (state_of walked.before c.args.symbol.now) made.index c.in-Ok.plan m → IsWritten c.args.symbol.now c.args.frame.now c.args.options.now m = λ m b. record {
      list = b.list ∙ (made.changes ∙ ap (λ cs. changes.Wrote c.args.frame.now c.args.options.now.at ∷ cs) (same_pruned (state_of walked.before c.args.symbol.now) (state_of m.before c.args.symbol.now) c.args.options.now.prune b.unmoved));
      puts = ap length b.puts ∙ made.puts;
      parts_are = ap (λ (i : Index). map (λ (x : Slot). x.part) i.slots) b.index_is ∙ made.parts_are;
    } in
    try_from (g.B.Bucket.number c.args.bucket.now) (g.B.Bucket.sole c.args.bucket.now) c.args.symbol.now (IsWritten c.args.symbol.now c.args.frame.now c.args.options.now) (g.B.Bucket.limit c.args.bucket.now) (g.B.Bucket.faults c.args.bucket.now) (g.B.Bucket.faults c.commit.new.bucket) (length walked.before) (length (g.B.Bucket.seen c.args.bucket.now)) (g.B.Bucket.seen c.args.bucket.now) (g.B.Bucket.seen c.walk_tip.new.bucket) (g.B.Bucket.seen c.commit.new.bucket) (subst (λ n. length (g.B.Bucket.seen c.args.bucket.now) ≤ n) walked.place c.in_ok-tip.ensures.place.from)
    (went_looks (g.B.Bucket.number c.args.bucket.now) (g.B.Bucket.sole c.args.bucket.now) (g.B.Bucket.seen c.args.bucket.now) (g.B.Bucket.seen c.walk_tip.new.bucket) c.walk_tip.ensures.looks) c.commit.result
    (try_steady g.B.Bucket.number g.B.Bucket.limit g.B.Bucket.faults g.B.Bucket.sole c.args.bucket.now c.walk_tip.new.bucket c.walk_tip.ensures.steady c.args.symbol.now (g.B.Bucket.faults c.commit.new.bucket) (length walked.before) (g.B.Bucket.seen c.walk_tip.new.bucket) (g.B.Bucket.seen c.commit.new.bucket) (λ n. (IsWritten c.args.symbol.now c.args.frame.now c.args.options.now)) c.commit.result
    (try_weaker (g.B.Bucket.number c.walk_tip.new.bucket) (g.B.Bucket.sole c.walk_tip.new.bucket) c.args.symbol.now (IsMadeBy c.args.symbol.now (state_of walked.before c.args.symbol.now) made.index c.in-Ok.plan) (IsWritten c.args.symbol.now c.args.frame.now c.args.options.now) follows (g.B.Bucket.limit c.walk_tip.new.bucket) (g.B.Bucket.faults c.walk_tip.new.bucket) (g.B.Bucket.faults c.commit.new.bucket) (length walked.before) (g.B.Bucket.seen c.walk_tip.new.bucket) (g.B.Bucket.seen c.commit.new.bucket) c.commit.result
    (c.commit.ensures.did made.index planned)))
