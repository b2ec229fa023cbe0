use Rattle.std.proofs.Common.{refl}
use Rattle.frame_core.specs.declared.refusal.Asked.TheVariants as asks
use Rattle.bucket_core.specs.History.{history_at}
use Rattle.expr_clause.specs.declared.command.AsOf.TheVariants as moments
use Rattle.frame_read.proofs.ResolvingLemmas.{lawful_at, refusal_told, made_target}
use Rattle.frame_read.proofs.NewestLemmas.{tip_at}
use Rattle.frame_read.proofs.resolving.by_tip.Goals as goal

pub returns-clause-refused : goal.returns-clause-refused
returns-clause-refused g c =
    let new = g.B.Bucket.seen c.walk_tip.new.bucket in
    let tip = c.in_ok-tip.tip in
    record {
      why = refusal_told (g.B.Bucket.faults c.args.bucket.now) (g.B.Bucket.faults c.walk_tip.new.bucket) (history_at new tip.place) c.args.symbol.now (asks.Back 1) c.in-Err.why
          (c.in-Err.ensures.refused (history_at new tip.place) c.args.symbol.now (lawful_at new tip.place (g.met.B.Bucket.lawful c.walk_tip.new.bucket)) (tip_at new c.args.symbol.now tip c.in_ok-tip.ensures.tip));
      place = c.in_ok-tip.ensures.place;
    }

pub returns-in-Ok-clause-target : goal.returns-in-Ok-clause-target
returns-in-Ok-clause-target g c =
    let new = g.B.Bucket.seen c.walk_tip.new.bucket in
    let tip = c.in_ok-tip.tip in
    made_target (g.B.Bucket.seen c.args.bucket.now) new c.args.symbol.now (moments.Back 1) c.target.result
    (record { symbol = c.args.symbol.now; version = c.in-Ok.row.now.version; index = c.in-Ok.row.now.index; place = tip.place })
    c.target.ensures.target
    (record {
      symbol_is = refl;
      place = c.in_ok-tip.ensures.place;
      is = c.in-Ok.ensures.chosen (history_at new tip.place) c.args.symbol.now (lawful_at new tip.place (g.met.B.Bucket.lawful c.walk_tip.new.bucket))
          (tip_at new c.args.symbol.now tip c.in_ok-tip.ensures.tip);
    })
