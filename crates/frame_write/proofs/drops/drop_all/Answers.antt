use Rattle.std.proofs.Common.{sym, subst, ◌<◌, length, rules, ℕ, [], ◌∷◌}
use Rattle.std.specs.Prelude.{map}
use Rattle.std.specs.List.{take-map}
use Rattle.std.specs.Arc.{arc_value}
use Rattle.store_model.specs.OwnPuts.{IsOwnPut}
use Rattle.reply_model.specs.Tries.{drop_of}
use Rattle.version_chain.specs.Traces.{Went}
use Rattle.frame_write.specs.PutCalls.{DidDrops}
use Rattle.frame_write.specs.Plans.{put_seen, puts_seen}
use Rattle.frame_write.proofs.ListLemmas.{map_at, read_at}
use Rattle.frame_write.proofs.LoopLemmas.{drop_next, drop_more, stop_after}
use Rattle.version_chain.proofs.SteadyLemmas.{on_err, grown_steady, stop_steady, steady_then}
use Rattle.frame_write.proofs.drops.drop_all.Goals as goal

pub drop_one-requires : goal.drop_one-requires
drop_one-requires g c =
    let within : c.loop-put.put-index < length c.args.puts.now = search rules in
    let at = map_at put_seen c.args.puts.now c.loop-put.put-index c.put-item.result (read_at c.args.puts.now c.loop-put.put-index c.put-item.result within c.put-item.is) in
    record {
      own = subst (λ n. IsOwnPut (g.B.Bucket.seen c.loop-put.bucket) n c.put-item.result.key (arc_value c.put-item.result.body)) (sym c.loop-put.invariant.steady.same_number)
          (drop_next _ _ _ _ _ _ _ at c.loop-put.invariant.so_far);
    }

pub returns-in_err-drop_one-clause-did : goal.returns-in_err-drop_one-clause-did
returns-in_err-drop_one-clause-did g c =
    let within : c.loop-put.put-index < length c.args.puts.now = search rules in
    let at = map_at put_seen c.args.puts.now c.loop-put.put-index c.put-item.result (read_at c.args.puts.now c.loop-put.put-index c.put-item.result within c.put-item.is) in
    let number : ℕ = g.B.Bucket.number c.args.bucket.now in
    let went = c.loop-put.invariant.so_far.went in
    on_err (DidDrops number (g.B.Bucket.sole c.args.bucket.now) (g.B.Bucket.limit c.args.bucket.now) (g.B.Bucket.faults c.args.bucket.now) (g.B.Bucket.faults c.drop_one.new.bucket)
    (g.B.Bucket.seen c.args.bucket.now) (g.B.Bucket.seen c.drop_one.new.bucket) (puts_seen c.args.puts.now))
    c.from_residual.result c.in_err-drop_one.field-0.0 c.from_residual.ensures.0 c.from_residual.ensures.1
    (stop_after number _ _ _ _ _ _ _ (map (drop_of number) (puts_seen c.args.puts.now)) c.loop-put.put-index (drop_of number (put_seen c.put-item.result)) _
    (map_at (drop_of number) (puts_seen c.args.puts.now) c.loop-put.put-index (put_seen c.put-item.result) at)
    (subst (Went number (g.B.Bucket.sole c.args.bucket.now) (g.B.Bucket.seen c.args.bucket.now) (g.B.Bucket.seen c.loop-put.bucket)) (sym (take-map (drop_of number) c.loop-put.put-index (puts_seen c.args.puts.now))) went)
    (stop_steady g.B.Bucket.number g.B.Bucket.limit g.B.Bucket.faults g.B.Bucket.sole c.args.bucket.now c.loop-put.bucket c.loop-put.invariant.steady _ _ _ (λ n. drop_of n (put_seen c.put-item.result)) _ c.in_err-drop_one.ensures.did))

pub loop-put-preserved : goal.loop-put-preserved
loop-put-preserved g c =
    let within : c.loop-put.put-index < length c.args.puts.now = search rules in
    let at = map_at put_seen c.args.puts.now c.loop-put.put-index c.put-item.result (read_at c.args.puts.now c.loop-put.put-index c.put-item.result within c.put-item.is) in
    record {
      steady = steady_then g.B.Bucket.number g.B.Bucket.limit g.B.Bucket.faults g.B.Bucket.sole c.args.bucket.now c.loop-put.bucket c.loop-put.invariant.steady _ c.in_ok-drop_one.ensures.steady;
      so_far = drop_more _ _ _ _ _ _ _ _ at c.loop-put.invariant.so_far (g.met.B.Bucket.lawful c.drop_one.new.bucket)
          (grown_steady g.B.Bucket.number g.B.Bucket.limit g.B.Bucket.faults g.B.Bucket.sole c.args.bucket.now c.loop-put.bucket c.loop-put.invariant.steady _ _ (λ n. drop_of n (put_seen c.put-item.result) ∷ []) c.in_ok-drop_one.ensures.did);
    }
