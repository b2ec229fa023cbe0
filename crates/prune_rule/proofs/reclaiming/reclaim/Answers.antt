use Rattle.version_chain.proofs.SteadyLemmas.{on_err}
use Rattle.version_chain.proofs.TraceLemmas.{went_looks}
use Rattle.prune_rule.specs.Reclaims.{IsLegalReclaim}
use Rattle.prune_rule.proofs.LegalBurials.{went_goes_on}
use Rattle.prune_rule.proofs.ReclaimLemmas.{found_droppable, done_steady, stop_steady, find_legal, stop_legal, done_legal, whole_went, drops_these, found_alone}
use Rattle.prune_rule.proofs.reclaiming.reclaim.Goals as goal

pub returns-in_err-dead-clause-grown : goal.returns-in_err-dead-clause-grown
returns-in_err-dead-clause-grown g c = went_goes_on _ _ _ _ _ (went_looks _ _ _ _ c.find_dead.ensures.looks)

pub returns-in_err-dead-clause-legal : goal.returns-in_err-dead-clause-legal
returns-in_err-dead-clause-legal g c =
    on_err (IsLegalReclaim (g.B.Bucket.limit c.args.bucket.now) (g.B.Bucket.number c.args.bucket.now) c.args.tries c.args.symbol.now (g.B.Bucket.faults c.args.bucket.now) (g.B.Bucket.faults c.find_dead.new.bucket) (g.B.Bucket.seen c.args.bucket.now) (g.B.Bucket.seen c.find_dead.new.bucket))
    c.from_residual.result c.in_err-dead.field-0.0 c.from_residual.ensures.0 c.from_residual.ensures.1
    (find_legal _ _ (g.B.Bucket.sole c.args.bucket.now) _ _ _ _ _ _ _ c.find_dead.ensures.looks c.in_err-dead.ensures.refused)

pub drop_all-requires : goal.drop_all-requires
drop_all-requires g c = record { dead = found_droppable (g.B.Bucket.seen c.args.bucket.now) (g.B.Bucket.seen c.find_dead.new.bucket) c.args.symbol.now c.in_ok-dead.dead (g.met.B.Bucket.lawful c.find_dead.new.bucket) c.in_ok-dead.ensures.found }

pub returns-in_err-keys-clause-grown : goal.returns-in_err-keys-clause-grown
returns-in_err-keys-clause-grown g c =
    let d = stop_steady g.B.Bucket.number g.B.Bucket.limit g.B.Bucket.faults g.B.Bucket.sole c.args.bucket.now c.find_dead.new.bucket c.find_dead.ensures.steady (g.B.Bucket.faults c.drop_all.new.bucket)
    (g.B.Bucket.seen c.find_dead.new.bucket) (g.B.Bucket.seen c.drop_all.new.bucket) c.in_ok-dead.dead.keys.keys c.in_err-keys.field-0.0 c.in_err-keys.ensures.did in
    went_goes_on _ _ _ _ _ (whole_went _ _ _ _ _ _ c.find_dead.ensures.looks d.went)

pub returns-in_err-keys-clause-legal : goal.returns-in_err-keys-clause-legal
returns-in_err-keys-clause-legal g c =
    on_err (IsLegalReclaim (g.B.Bucket.limit c.args.bucket.now) (g.B.Bucket.number c.args.bucket.now) c.args.tries c.args.symbol.now (g.B.Bucket.faults c.args.bucket.now) (g.B.Bucket.faults c.drop_all.new.bucket) (g.B.Bucket.seen c.args.bucket.now) (g.B.Bucket.seen c.drop_all.new.bucket))
    c.from_residual-in_err-keys.result c.in_err-keys.field-0.0 c.from_residual-in_err-keys.ensures.0 c.from_residual-in_err-keys.ensures.1
    (stop_legal _ _ (g.B.Bucket.sole c.args.bucket.now) _ _ _ _ _ _ _ c.in_ok-dead.dead c.find_dead.ensures.looks c.in_ok-dead.ensures.found c.drop_all.ensures.rising (g.met.B.Bucket.lawful c.drop_all.new.bucket) c.in_err-keys.field-0.0
    (stop_steady g.B.Bucket.number g.B.Bucket.limit g.B.Bucket.faults g.B.Bucket.sole c.args.bucket.now c.find_dead.new.bucket c.find_dead.ensures.steady (g.B.Bucket.faults c.drop_all.new.bucket)
    (g.B.Bucket.seen c.find_dead.new.bucket) (g.B.Bucket.seen c.drop_all.new.bucket) c.in_ok-dead.dead.keys.keys c.in_err-keys.field-0.0 c.in_err-keys.ensures.did))

pub returns-clause-grown : goal.returns-clause-grown
returns-clause-grown g c =
    let d = done_steady g.B.Bucket.number g.B.Bucket.limit g.B.Bucket.faults g.B.Bucket.sole c.args.bucket.now c.find_dead.new.bucket c.find_dead.ensures.steady
    (g.B.Bucket.seen c.find_dead.new.bucket) (g.B.Bucket.seen c.drop_all.new.bucket) c.in_ok-dead.dead.keys.keys c.in_ok-keys.keys c.in_ok-keys.ensures.did in
    went_goes_on _ _ _ _ _ (whole_went _ _ _ _ _ _ c.find_dead.ensures.looks d.went)

pub returns-clause-dropped : goal.returns-clause-dropped
returns-clause-dropped g c =
    let d = done_steady g.B.Bucket.number g.B.Bucket.limit g.B.Bucket.faults g.B.Bucket.sole c.args.bucket.now c.find_dead.new.bucket c.find_dead.ensures.steady
    (g.B.Bucket.seen c.find_dead.new.bucket) (g.B.Bucket.seen c.drop_all.new.bucket) c.in_ok-dead.dead.keys.keys c.in_ok-keys.keys c.in_ok-keys.ensures.did in
    drops_these _ _ _ _ _ (whole_went _ _ _ _ _ _ c.find_dead.ensures.looks d.went)

pub returns-clause-legal : goal.returns-clause-legal
returns-clause-legal g c =
    done_legal _ _ (g.B.Bucket.sole c.args.bucket.now) _ _ _ _ _ _ _ c.in_ok-dead.dead c.find_dead.ensures.looks c.in_ok-dead.ensures.found c.drop_all.ensures.rising (g.met.B.Bucket.lawful c.drop_all.new.bucket) c.in_ok-keys.keys
    (done_steady g.B.Bucket.number g.B.Bucket.limit g.B.Bucket.faults g.B.Bucket.sole c.args.bucket.now c.find_dead.new.bucket c.find_dead.ensures.steady
    (g.B.Bucket.seen c.find_dead.new.bucket) (g.B.Bucket.seen c.drop_all.new.bucket) c.in_ok-dead.dead.keys.keys c.in_ok-keys.keys c.in_ok-keys.ensures.did)

pub returns-clause-looked : goal.returns-clause-looked
returns-clause-looked g c grows =
    let d = done_steady g.B.Bucket.number g.B.Bucket.limit g.B.Bucket.faults g.B.Bucket.sole c.args.bucket.now c.find_dead.new.bucket c.find_dead.ensures.steady
    (g.B.Bucket.seen c.find_dead.new.bucket) (g.B.Bucket.seen c.drop_all.new.bucket) c.in_ok-dead.dead.keys.keys c.in_ok-keys.keys c.in_ok-keys.ensures.did in
    found_alone _ _ _ _ _ _ _ _ c.find_dead.ensures.looks c.in_ok-dead.ensures.found d.went grows
