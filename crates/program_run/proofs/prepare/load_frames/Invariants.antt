use Rattle.std.proofs.Common.{◌≡◌, take, map}
use Rattle.std.specs.List.{AllZip}
use Rattle.frame_core.specs.RawFrames.{table_of}
use Rattle.program_run.specs.Causes.{GivesTable}
use Rattle.program_run.proofs.prepare.load_frames.Given as goal

-- the loads so far are good
abbrev pub invariant-loop-load : goal.invariant-loop-load
invariant-loop-load g l = record {
  loaded : AllZip (GivesTable (g.F.Shelf.holds l.fn.shelf)) (take l.load-index l.loads) (map table_of l.frames);
  same : g.F.Shelf.holds l.shelf ≡ g.F.Shelf.holds l.fn.shelf;
  kept : g.F.Shelf.faults l.shelf ≡ g.F.Shelf.faults l.fn.shelf;
}
