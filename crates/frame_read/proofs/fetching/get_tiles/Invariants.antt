use Rattle.std.proofs.Common.{take}
use Rattle.std.specs.List.{AllZip}
use Rattle.bucket_core.specs.Laws.{Looks}
use Rattle.bucket_core.specs.Calls.{IsSteady}
use Rattle.store_model.specs.Law.{IsClaimed}
use Rattle.frame_read.specs.TileSets.{IsGot}
use Rattle.frame_read.proofs.fetching.get_tiles.Given as goal

-- the bucket has only looked, and the tiles so far were got
abbrev pub invariant-loop-slot : goal.invariant-loop-slot
invariant-loop-slot g l = record {
  looks : Looks IsClaimed (g.B.Bucket.number l.fn.bucket) (g.B.Bucket.sole l.fn.bucket) (g.B.Bucket.seen l.fn.bucket) (g.B.Bucket.seen l.bucket);
  steady : IsSteady g.B.Bucket.number g.B.Bucket.limit g.B.Bucket.faults g.B.Bucket.sole l.fn.bucket l.bucket;
  tiles : AllZip (IsGot (g.B.Bucket.seen l.bucket)) (take l.slot-index l.slots) l.tiles;
}
