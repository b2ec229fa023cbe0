use Rattle.std.proofs.Common.{sym, subst, ◌<◌, length, rules, ℕ, [], ◌∷◌}
use Rattle.std.specs.Prelude.{map}
use Rattle.std.specs.List.{take-map}
use Rattle.bucket_core.specs.History.{puts_by}
use Rattle.reply_model.specs.Tries.{put_of}
use Rattle.version_chain.specs.Traces.{Went}
use Rattle.frame_write.specs.PutCalls.{DidPuts}
use Rattle.frame_write.specs.Plans.{IsPutAt, put_seen, puts_seen}
use Rattle.frame_write.proofs.ListLemmas.{map_at, read_at}
use Rattle.frame_write.proofs.LoopLemmas.{put_next, put_more, stop_after}
use Rattle.version_chain.proofs.SteadyLemmas.{on_err, grown_steady, stop_steady, steady_then}
use Rattle.frame_write.proofs.puts.put_all.Goals as goal

pub put_one-requires : goal.put_one-requires
put_one-requires g c =
    let within : c.loop-put.put-index < length c.args.puts.now = search rules in
    let at = map_at put_seen c.args.puts.now c.loop-put.put-index c.put-item.result (read_at c.args.puts.now c.loop-put.put-index c.put-item.result within c.put-item.is) in
    record {
      put = subst (λ n. IsPutAt n (puts_by n (g.B.Bucket.seen c.loop-put.bucket)) (put_seen c.put-item.result)) (sym c.loop-put.invariant.steady.same_number)
          (put_next _ _ _ _ _ _ _ at c.loop-put.invariant.so_far);
    }

pub returns-in_err-put_one-clause-did : goal.returns-in_err-put_one-clause-did
returns-in_err-put_one-clause-did g c =
    let within : c.loop-put.put-index < length c.args.puts.now = search rules in
    let at = map_at put_seen c.args.puts.now c.loop-put.put-index c.put-item.result (read_at c.args.puts.now c.loop-put.put-index c.put-item.result within c.put-item.is) in
    let number : ℕ = g.B.Bucket.number c.args.bucket.now in
    let went = c.loop-put.invariant.so_far.went in
    on_err (DidPuts number (g.B.Bucket.sole c.args.bucket.now) (g.B.Bucket.limit c.args.bucket.now) (g.B.Bucket.faults c.args.bucket.now) (g.B.Bucket.faults c.put_one.new.bucket)
    (g.B.Bucket.seen c.args.bucket.now) (g.B.Bucket.seen c.put_one.new.bucket) (puts_seen c.args.puts.now))
    c.from_residual.result c.in_err-put_one.field-0.0 c.from_residual.ensures.0 c.from_residual.ensures.1
    (stop_after number _ _ _ _ _ _ _ (map (put_of number) (puts_seen c.args.puts.now)) c.loop-put.put-index (put_of number (put_seen c.put-item.result)) _
    (map_at (put_of number) (puts_seen c.args.puts.now) c.loop-put.put-index (put_seen c.put-item.result) at)
    (subst (Went number (g.B.Bucket.sole c.args.bucket.now) (g.B.Bucket.seen c.args.bucket.now) (g.B.Bucket.seen c.loop-put.bucket)) (sym (take-map (put_of number) c.loop-put.put-index (puts_seen c.args.puts.now))) went)
    (stop_steady g.B.Bucket.number g.B.Bucket.limit g.B.Bucket.faults g.B.Bucket.sole c.args.bucket.now c.loop-put.bucket c.loop-put.invariant.steady _ _ _ (λ n. put_of n (put_seen c.put-item.result)) _ c.in_err-put_one.ensures.did))

pub loop-put-preserved : goal.loop-put-preserved
loop-put-preserved g c =
    let within : c.loop-put.put-index < length c.args.puts.now = search rules in
    let at = map_at put_seen c.args.puts.now c.loop-put.put-index c.put-item.result (read_at c.args.puts.now c.loop-put.put-index c.put-item.result within c.put-item.is) in
    record {
      steady = steady_then g.B.Bucket.number g.B.Bucket.limit g.B.Bucket.faults g.B.Bucket.sole c.args.bucket.now c.loop-put.bucket c.loop-put.invariant.steady _ c.in_ok-put_one.ensures.steady;
      so_far = put_more _ _ _ _ _ _ _ _ at c.loop-put.invariant.so_far (g.met.B.Bucket.lawful c.put_one.new.bucket)
          (grown_steady g.B.Bucket.number g.B.Bucket.limit g.B.Bucket.faults g.B.Bucket.sole c.args.bucket.now c.loop-put.bucket c.loop-put.invariant.steady _ _ (λ n. put_of n (put_seen c.put-item.result) ∷ []) c.in_ok-put_one.ensures.did);
    }
