use Rattle.std.proofs.Common.{refl}
use Rattle.bucket_core.specs.History.{history_at}
use Rattle.frame_read.proofs.ResolvingLemmas.{state_at, lawful_at, refusal_told, made_target}
use Rattle.frame_read.specs.Targets.{asked_as}
use Rattle.frame_read.proofs.resolving.by_walk.Goals as goal

pub returns-clause-refused : goal.returns-clause-refused
returns-clause-refused g c =
    let new = g.B.Bucket.seen c.walk.new.bucket in
    let state = c.in_ok-state.state in
    record {
      why = refusal_told (g.B.Bucket.faults c.args.bucket.now) (g.B.Bucket.faults c.walk.new.bucket) (history_at new state.place) c.args.symbol.now c.args.asked c.in-Err.why
          (c.in-Err.ensures.refused (history_at new state.place) c.args.symbol.now (lawful_at new state.place (g.met.B.Bucket.lawful c.walk.new.bucket)) (state_at new c.args.symbol.now state c.in_ok-state.ensures.state));
      place = c.in_ok-state.ensures.place;
    }

pub returns-in-Ok-clause-target : goal.returns-in-Ok-clause-target
returns-in-Ok-clause-target g c =
    let new = g.B.Bucket.seen c.walk.new.bucket in
    let state = c.in_ok-state.state in
    made_target (g.B.Bucket.seen c.args.bucket.now) new c.args.symbol.now (asked_as c.args.asked) c.target.result
    (record { symbol = c.args.symbol.now; version = c.in-Ok.row.now.version; index = c.in-Ok.row.now.index; place = state.place })
    c.target.ensures.target
    (record {
      symbol_is = refl;
      place = c.in_ok-state.ensures.place;
      is = c.in-Ok.ensures.chosen (history_at new state.place) c.args.symbol.now (lawful_at new state.place (g.met.B.Bucket.lawful c.walk.new.bucket))
          (state_at new c.args.symbol.now state c.in_ok-state.ensures.state);
    })
