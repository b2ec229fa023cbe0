use Rattle.std.proofs.Common.{inl}
use Rattle.frame_core.specs.Frames.{replace_range}
use Rattle.store_model.specs.Law.{IsClaimed}
use Rattle.frame_read.proofs.LoopLemmas.{looks_more, steady_more}
use Rattle.append_update.specs.Looking.{AnyBase, RefusesBase}
use Rattle.append_update.specs.Replacing.{AreEdges}
use Rattle.append_update.proofs.LaterLemmas.{base_later, base_wider}
use Rattle.append_update.proofs.ReplacePlans.{same_edges, judged_small, judged_large}
use Rattle.append_update.proofs.fitting.small_edges.Goals as goal

pub edges_of-requires-clause-base : goal.edges_of-requires-clause-base
edges_of-requires-clause-base g c =
    base_later (g.B.Bucket.number c.args.bucket.now) (g.B.Bucket.number c.exceeds_texts.new.bucket) (g.B.Bucket.seen c.args.bucket.now) (g.B.Bucket.seen c.exceeds_texts.new.bucket) c.exceeds_texts.ensures.looks.others c.args.symbol.now c.args.base.now c.exceeds_texts.ensures.steady.same_number c.exceeds_texts.ensures.looks.is c.exceeds_texts.ensures.looks.by_others c.requires.base

pub returns-in-Err-clause-looks : goal.returns-in-Err-clause-looks
returns-in-Err-clause-looks g c =
    looks_more IsClaimed (g.B.Bucket.number c.args.bucket.now) (g.B.Bucket.sole c.args.bucket.now) (g.B.Bucket.number c.exceeds_texts.new.bucket) (g.B.Bucket.sole c.exceeds_texts.new.bucket) (g.B.Bucket.seen c.args.bucket.now) (g.B.Bucket.seen c.exceeds_texts.new.bucket) (g.B.Bucket.seen c.edges_of.new.bucket) c.exceeds_texts.ensures.steady.same_number c.exceeds_texts.ensures.steady.stays_sole c.exceeds_texts.ensures.looks c.edges_of.ensures.looks

pub returns-in-Err-clause-steady : goal.returns-in-Err-clause-steady
returns-in-Err-clause-steady g c = steady_more g.B.Bucket.number g.B.Bucket.limit g.B.Bucket.faults g.B.Bucket.sole c.args.bucket.now c.exceeds_texts.new.bucket c.edges_of.new.bucket c.exceeds_texts.ensures.steady c.edges_of.ensures.steady

pub returns-in-Err-clause-refused : goal.returns-in-Err-clause-refused
returns-in-Err-clause-refused g c = λ b.
    inl (base_wider (g.B.Bucket.number c.args.bucket.now) (g.B.Bucket.number c.exceeds_texts.new.bucket) c.args.symbol.now AnyBase c.args.base.now.target.place (g.B.Bucket.faults c.args.bucket.now) (g.B.Bucket.faults c.exceeds_texts.new.bucket) (g.B.Bucket.faults c.edges_of.new.bucket) c.exceeds_texts.ensures.looks.others (g.B.Bucket.seen c.args.bucket.now) (g.B.Bucket.seen c.exceeds_texts.new.bucket) (g.B.Bucket.seen c.edges_of.new.bucket) c.in-Err.refused
    c.exceeds_texts.ensures.steady.same_number c.exceeds_texts.ensures.steady.faults_rise c.exceeds_texts.ensures.looks.is c.in-Err.ensures.refused)

pub unless_too_large-requires-clause-replaces : goal.unless_too_large-requires-clause-replaces
unless_too_large-requires-clause-replaces g c =
    let b = c.requires.base in (
      b.version.frame,
      c.args.range,
      record {
        index_of = b.newest.index_of;
        divides = c.requires.cuts;
        are = c.in-Ok.ensures.edges (base_later (g.B.Bucket.number c.args.bucket.now) (g.B.Bucket.number c.exceeds_texts.new.bucket) (g.B.Bucket.seen c.args.bucket.now) (g.B.Bucket.seen c.exceeds_texts.new.bucket) c.exceeds_texts.ensures.looks.others c.args.symbol.now c.args.base.now c.exceeds_texts.ensures.steady.same_number c.exceeds_texts.ensures.looks.is c.exceeds_texts.ensures.looks.by_others b);
      },
    )

pub returns-clause-looks : goal.returns-clause-looks
returns-clause-looks g c =
    looks_more IsClaimed (g.B.Bucket.number c.args.bucket.now) (g.B.Bucket.sole c.args.bucket.now) (g.B.Bucket.number c.exceeds_texts.new.bucket) (g.B.Bucket.sole c.exceeds_texts.new.bucket) (g.B.Bucket.seen c.args.bucket.now) (g.B.Bucket.seen c.exceeds_texts.new.bucket) (g.B.Bucket.seen c.edges_of.new.bucket) c.exceeds_texts.ensures.steady.same_number c.exceeds_texts.ensures.steady.stays_sole c.exceeds_texts.ensures.looks c.edges_of.ensures.looks

pub returns-clause-steady : goal.returns-clause-steady
returns-clause-steady g c = steady_more g.B.Bucket.number g.B.Bucket.limit g.B.Bucket.faults g.B.Bucket.sole c.args.bucket.now c.exceeds_texts.new.bucket c.edges_of.new.bucket c.exceeds_texts.ensures.steady c.edges_of.ensures.steady

pub returns-clause-edges : goal.returns-clause-edges
returns-clause-edges g c = λ b.
    same_edges (AreEdges b.version.frame c.args.range c.args.base.now.index.slots c.args.cuts) c.in-Ok.edges c.unless_too_large.result
    (c.in-Ok.ensures.edges (base_later (g.B.Bucket.number c.args.bucket.now) (g.B.Bucket.number c.exceeds_texts.new.bucket) (g.B.Bucket.seen c.args.bucket.now) (g.B.Bucket.seen c.exceeds_texts.new.bucket) c.exceeds_texts.ensures.looks.others c.args.symbol.now c.args.base.now c.exceeds_texts.ensures.steady.same_number c.exceeds_texts.ensures.looks.is c.exceeds_texts.ensures.looks.by_others b)) c.unless_too_large.ensures.same

pub returns-clause-small : goal.returns-clause-small
returns-clause-small g c = λ b.
    judged_small c.args.base.now.target.place (record c.args.frame.now { rows = replace_range c.args.range c.args.frame.now.rows b.version.frame.rows }) c.unless_too_large.result (c.unless_too_large.ensures.judged b.version.frame c.args.range (record {
      index_of = b.newest.index_of;
      divides = c.requires.cuts;
      are = c.in-Ok.ensures.edges (base_later (g.B.Bucket.number c.args.bucket.now) (g.B.Bucket.number c.exceeds_texts.new.bucket) (g.B.Bucket.seen c.args.bucket.now) (g.B.Bucket.seen c.exceeds_texts.new.bucket) c.exceeds_texts.ensures.looks.others c.args.symbol.now c.args.base.now c.exceeds_texts.ensures.steady.same_number c.exceeds_texts.ensures.looks.is c.exceeds_texts.ensures.looks.by_others b);
    }) (c.in_ok-many.ensures.exceeds b))

pub returns-clause-refused : goal.returns-clause-refused
returns-clause-refused g c = λ b.
    judged_large
    (RefusesBase (g.B.Bucket.number c.args.bucket.now) c.args.symbol.now AnyBase c.args.base.now.target.place (g.B.Bucket.faults c.args.bucket.now) (g.B.Bucket.faults c.edges_of.new.bucket) (g.B.Bucket.seen c.args.bucket.now) (g.B.Bucket.seen c.edges_of.new.bucket))
    c.args.base.now.target.place (record c.args.frame.now { rows = replace_range c.args.range c.args.frame.now.rows b.version.frame.rows }) c.unless_too_large.result (c.unless_too_large.ensures.judged b.version.frame c.args.range (record {
      index_of = b.newest.index_of;
      divides = c.requires.cuts;
      are = c.in-Ok.ensures.edges (base_later (g.B.Bucket.number c.args.bucket.now) (g.B.Bucket.number c.exceeds_texts.new.bucket) (g.B.Bucket.seen c.args.bucket.now) (g.B.Bucket.seen c.exceeds_texts.new.bucket) c.exceeds_texts.ensures.looks.others c.args.symbol.now c.args.base.now c.exceeds_texts.ensures.steady.same_number c.exceeds_texts.ensures.looks.is c.exceeds_texts.ensures.looks.by_others b);
    }) (c.in_ok-many.ensures.exceeds b))
