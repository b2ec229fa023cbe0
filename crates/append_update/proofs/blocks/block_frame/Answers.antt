use Rattle.std.proofs.Common.{◌≡◌, List, sym, subst, inl, inr, None}
use Rattle.std.specs.Prelude.{Contains, slice_range}
use Rattle.std.specs.List.{AllByRecursion, AllZip}
use Rattle.frame_core.specs.Frames.{Frame, IsFrame}
use Rattle.index_tree.specs.declared.index.Slot.{Slot}
use Rattle.index_tree.specs.declared.index.Index.{Index}
use Rattle.bucket_core.specs.History.{AllByOthers}
use Rattle.store_model.specs.Law.{IsClaimed}
use Rattle.store_model.specs.Links.{reached}
use Rattle.store_model.proofs.PlainLinks.{slot_in_reach}
use Rattle.frame_read.specs.Fetches.{IsSlotKey, LacksKey}
use Rattle.frame_read.proofs.LoopLemmas.{key_of_all}
use Rattle.frame_read.specs.TileSets.{IsGot}
use Rattle.frame_read.specs.Wholes.{AreTilesOf}
use Rattle.frame_read.specs.Gathers.{AreOfFrame}
use Rattle.frame_read.proofs.LoopLemmas.{looks_more}
use Rattle.frame_write.specs.Pieces.{begin_of}
use Rattle.append_update.specs.Blocks.{whole, tiles_from}
use Rattle.append_update.specs.Looking.{AnyBase, MetAt}
use Rattle.append_update.proofs.BaseLemmas.{walk_wider, base_gone}
use Rattle.append_update.proofs.BlockFrames.{run_contained, of_frame, block_is}
use Rattle.append_update.proofs.blocks.block_frame.Goals as goal

pub get_tiles-requires : goal.get_tiles-requires
get_tiles-requires g c =
    let all : List Slot = c.args.base.now.index.slots in
    record {
      slots = (
        c.args.base.now.index,
        c.requires.base.target,
        subst (λ (xs : List Slot). AllByRecursion (Contains all) (slice_range xs c.args.from c.args.to)) (sym c.items.ensures) (run_contained all c.args.from c.args.to),
      );
    }

pub run_frame-requires : goal.run_frame-requires
run_frame-requires g c =
    let got = subst (λ (xs : List Slot). AllZip (IsGot (g.B.Bucket.seen c.get_tiles.new.bucket)) (slice_range xs c.args.from c.args.to) c.in-Ok.tiles) c.items.ensures c.in-Ok.ensures.tiles in
    subst (λ (xs : List Slot). AreOfFrame (tiles_from c.args.base.now.index.schema (begin_of (slice_range xs c.args.from c.args.to)) c.in-Ok.tiles)) (sym c.items.ensures)
    (of_frame (g.B.Bucket.number c.args.bucket.now) c.args.symbol.now c.args.base.now (g.B.Bucket.seen c.args.bucket.now) c.get_tiles.ensures.looks.others (g.B.Bucket.seen c.get_tiles.new.bucket) c.get_tiles.ensures.looks.is (g.met.B.Bucket.lawful c.get_tiles.new.bucket)
    c.args.from c.args.to c.requires.run c.in-Ok.tiles got c.requires.base)

pub returns-in-Ok-run_frame-clause-frame : goal.returns-in-Ok-run_frame-clause-frame
returns-in-Ok-run_frame-clause-frame g c = λ b.
    let got = subst (λ (xs : List Slot). AllZip (IsGot (g.B.Bucket.seen c.get_tiles.new.bucket)) (slice_range xs c.args.from c.args.to) c.in-Ok.tiles) c.items.ensures c.in-Ok.ensures.tiles in
    block_is (g.B.Bucket.number c.args.bucket.now) c.args.symbol.now c.args.base.now (g.B.Bucket.seen c.args.bucket.now) c.get_tiles.ensures.looks.others (g.B.Bucket.seen c.get_tiles.new.bucket) c.get_tiles.ensures.looks.is (g.met.B.Bucket.lawful c.get_tiles.new.bucket)
    c.args.from c.args.to c.requires.run c.in-Ok.tiles got b c.in-Ok-run_frame.frame
    (subst (λ (xs : List Slot). (f : Frame) → IsFrame f → AreTilesOf f whole None (tiles_from c.args.base.now.index.schema (begin_of (slice_range xs c.args.from c.args.to)) c.in-Ok.tiles) → f ≡ c.in-Ok-run_frame.frame) c.items.ensures c.in-Ok-run_frame.ensures)

pub returns-in-VersionGone-clause-looks : goal.returns-in-VersionGone-clause-looks
returns-in-VersionGone-clause-looks g c =
    looks_more IsClaimed (g.B.Bucket.number c.args.bucket.now) (g.B.Bucket.sole c.args.bucket.now) (g.B.Bucket.number c.get_tiles.new.bucket) (g.B.Bucket.sole c.get_tiles.new.bucket)
    (g.B.Bucket.seen c.args.bucket.now) (g.B.Bucket.seen c.get_tiles.new.bucket) (g.B.Bucket.seen c.met_commit.new.bucket)
    c.get_tiles.ensures.steady.same_number c.get_tiles.ensures.steady.stays_sole c.get_tiles.ensures.looks c.met_commit.ensures.looks

pub returns-in-VersionGone-clause-refused : goal.returns-in-VersionGone-clause-refused
returns-in-VersionGone-clause-refused g c = elim c.met_commit.ensures.refused [
  | inl w ↦ inl (walk_wider (g.B.Bucket.faults c.args.bucket.now) (g.B.Bucket.faults c.get_tiles.new.bucket) (g.B.Bucket.faults c.met_commit.new.bucket) c.get_tiles.ensures.looks.others
      (g.B.Bucket.seen c.args.bucket.now) (g.B.Bucket.seen c.get_tiles.new.bucket) (g.B.Bucket.seen c.met_commit.new.bucket) c.met_commit.result c.get_tiles.ensures.steady.faults_rise c.get_tiles.ensures.looks.is w)
  | inr m ↦
      let b = c.requires.base in
      inr (subst (λ n. MetAt (g.B.Bucket.number c.args.bucket.now) c.args.symbol.now AnyBase n (g.B.Bucket.seen c.met_commit.new.bucket) c.met_commit.result) (sym b.place)
      (base_gone (g.B.Bucket.number c.args.bucket.now) (g.B.Bucket.faults c.args.bucket.now) (g.B.Bucket.faults c.get_tiles.new.bucket) c.args.symbol.now AnyBase (IsSlotKey c.args.base.now.index (slice_range c.args.base.now.index.slots c.args.from c.args.to)) b.version b.later b.before
      (g.B.Bucket.seen c.args.bucket.now) (g.B.Bucket.seen c.get_tiles.new.bucket) (g.B.Bucket.seen c.met_commit.new.bucket) c.get_tiles.ensures.looks.others c.met_commit.ensures.looks.others
      b.split b.none_own (g.met.B.Bucket.lawful c.met_commit.new.bucket) c.get_tiles.ensures.looks.is c.met_commit.ensures.looks.is
      c.get_tiles.ensures.looks.by_others (subst (λ n. AllByOthers n c.met_commit.ensures.looks.others) c.get_tiles.ensures.steady.same_number c.met_commit.ensures.looks.by_others)
      c.args.base.now.target b.symbol_is b.live b.newest.is b.number_is
      (λ link key is. (
        subst (λ (i : Index). Contains (reached link) key) is.0 (slot_in_reach link key
            (key_of_all (slice_range c.args.base.now.index.slots c.args.from c.args.to) link.index.slots key
            (subst (λ (i : Index). AllByRecursion (Contains i.slots) (slice_range c.args.base.now.index.slots c.args.from c.args.to)) (sym is.0) (run_contained c.args.base.now.index.slots c.args.from c.args.to)) is.1)),
        inr tt,
      ))
      c.in-Err.refused c.met_commit.result _ c.in-VersionGone.is c.in-Err.ensures.refused
      (subst (λ (xs : List Slot). LacksKey (g.B.Bucket.seen c.get_tiles.new.bucket) c.args.base.now.target (IsSlotKey c.args.base.now.index (slice_range xs c.args.from c.args.to)) c.in-Err.refused) c.items.ensures
      (c.in-Err.ensures.lacks c.args.base.now.index b.target (subst (λ (xs : List Slot). AllByRecursion (Contains c.args.base.now.index.slots) (slice_range xs c.args.from c.args.to)) (sym c.items.ensures) (run_contained c.args.base.now.index.slots c.args.from c.args.to)))) m))
]
