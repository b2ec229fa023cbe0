use Rattle.std.proofs.Common.{◌∙◌, map, subst, arith}
use Rattle.frame_core.specs.RawFrames.{table_of}
use Rattle.program_run.specs.Causes.{GivesTable}
use Rattle.program_run.specs.Preparing.{LoadHalts}
use Rattle.program_run.proofs.Loading.{fails_at, loaded-more}
use Rattle.program_run.proofs.prepare.load_frames.Goals as goal

pub returns-in-Err-clause-halts : goal.returns-in-Err-clause-halts
returns-in-Err-clause-halts g c =
    fails_at _ _ _ _ c.args.loads.now c.loop-load.load-index c.load-item.result (map table_of c.loop-load.frames) c.in-Err.halt c.loop-load-test.true c.load-item.is (omega (arith, c.loop-load.invariant.kept)) c.loop-load.invariant.loaded
    (subst (λ h. LoadHalts h (g.F.Shelf.faults c.loop-load.shelf) (g.F.Shelf.faults c.load_frame.new.shelf) c.load-item.result c.in-Err.halt) c.loop-load.invariant.same c.in-Err.ensures.halts)

pub loop-load-preserved : goal.loop-load-preserved
loop-load-preserved g c = record {
  loaded = loaded-more _ c.args.loads.now c.loop-load.load-index c.load-item.result c.loop-load.frames c.push.new.self c.in-Ok.frame c.loop-load-test.true c.load-item.is c.loop-load.invariant.loaded
      (subst (λ h. GivesTable h c.load-item.result (table_of c.in-Ok.frame)) c.loop-load.invariant.same c.in-Ok.ensures.loaded) c.in_ok-push-in-Ok.ensures.ok;
  same = c.load_frame.ensures.same ∙ c.loop-load.invariant.same;
  kept = c.in-Ok.ensures.kept ∙ c.loop-load.invariant.kept;
}
