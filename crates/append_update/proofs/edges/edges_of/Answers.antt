use Rattle.store_model.specs.Law.{IsClaimed}
use Rattle.frame_read.proofs.LoopLemmas.{looks_more}
use Rattle.append_update.specs.Looking.{AnyBase}
use Rattle.append_update.proofs.LaterLemmas.{base_later, base_wider}
use Rattle.append_update.proofs.edges.edges_of.Goals as goal

pub edge_above-requires-clause-base : goal.edge_above-requires-clause-base
edge_above-requires-clause-base g c =
    base_later (g.B.Bucket.number c.args.bucket.now) (g.B.Bucket.number c.edge_below.new.bucket) (g.B.Bucket.seen c.args.bucket.now) (g.B.Bucket.seen c.edge_below.new.bucket) c.edge_below.ensures.looks.others c.args.symbol.now c.args.base.now c.edge_below.ensures.steady.same_number c.edge_below.ensures.looks.is c.edge_below.ensures.looks.by_others c.requires.base

pub returns-in-Ok-clause-looks : goal.returns-in-Ok-clause-looks
returns-in-Ok-clause-looks g c =
    looks_more IsClaimed (g.B.Bucket.number c.args.bucket.now) (g.B.Bucket.sole c.args.bucket.now) (g.B.Bucket.number c.edge_below.new.bucket) (g.B.Bucket.sole c.edge_below.new.bucket) (g.B.Bucket.seen c.args.bucket.now) (g.B.Bucket.seen c.edge_below.new.bucket) (g.B.Bucket.seen c.edge_above.new.bucket)
    c.edge_below.ensures.steady.same_number c.edge_below.ensures.steady.stays_sole c.edge_below.ensures.looks c.edge_above.ensures.looks

pub returns-in-Ok-clause-edges : goal.returns-in-Ok-clause-edges
returns-in-Ok-clause-edges g c = λ b. record {
  below = c.in_ok-below.ensures.left b;
  above = c.in-Ok.ensures.left
      (base_later (g.B.Bucket.number c.args.bucket.now) (g.B.Bucket.number c.edge_below.new.bucket) (g.B.Bucket.seen c.args.bucket.now) (g.B.Bucket.seen c.edge_below.new.bucket) c.edge_below.ensures.looks.others c.args.symbol.now c.args.base.now c.edge_below.ensures.steady.same_number c.edge_below.ensures.looks.is c.edge_below.ensures.looks.by_others b);
}

pub returns-in-Err-clause-looks : goal.returns-in-Err-clause-looks
returns-in-Err-clause-looks g c =
    looks_more IsClaimed (g.B.Bucket.number c.args.bucket.now) (g.B.Bucket.sole c.args.bucket.now) (g.B.Bucket.number c.edge_below.new.bucket) (g.B.Bucket.sole c.edge_below.new.bucket) (g.B.Bucket.seen c.args.bucket.now) (g.B.Bucket.seen c.edge_below.new.bucket) (g.B.Bucket.seen c.edge_above.new.bucket)
    c.edge_below.ensures.steady.same_number c.edge_below.ensures.steady.stays_sole c.edge_below.ensures.looks c.edge_above.ensures.looks

pub returns-in-Err-clause-refused : goal.returns-in-Err-clause-refused
returns-in-Err-clause-refused g c =
    base_wider (g.B.Bucket.number c.args.bucket.now) (g.B.Bucket.number c.edge_below.new.bucket) c.args.symbol.now AnyBase c.args.base.now.target.place (g.B.Bucket.faults c.args.bucket.now) (g.B.Bucket.faults c.edge_below.new.bucket) (g.B.Bucket.faults c.edge_above.new.bucket) c.edge_below.ensures.looks.others (g.B.Bucket.seen c.args.bucket.now) (g.B.Bucket.seen c.edge_below.new.bucket) (g.B.Bucket.seen c.edge_above.new.bucket) c.in-Err.refused
    c.edge_below.ensures.steady.same_number c.edge_below.ensures.steady.faults_rise c.edge_below.ensures.looks.is c.in-Err.ensures.refused
