use Rattle.std.proofs.Common.{arith, ap, ◌∙◌, None, Some, Ok}
use Rattle.std.proofs.lemmas.Result.{err_from_is_err_and}
use Rattle.byte_fields.specs.Reading.{◌>>=◌}
use Rattle.version_chain.proofs.Steps.{so_far_more, so_far_fails, so_far_ends, piece_step, pieces_step}
use Rattle.version_chain.proofs.pieces.read_pieces.Goals as goal

pub returns-in_err-piece : goal.returns-in_err-piece
returns-in_err-piece c =
    let p = err_from_is_err_and c.from_residual.result c.from_residual.ensures.1 in
    rw (p.1, p.2) (pieces_step None c.args.count c.args.bytes.now
    ∙ so_far_fails piece_step None c.args.count c.args.bytes.now c.loop.counter c.loop.pieces c.loop.before c.loop.rest.now _ c.loop-test.true
    (ap (λ r. r >>= λ x. Ok ((x.0, Some x.0), x.1)) c.in_err-piece.ensures) c.loop.invariant)

pub loop-preserved : goal.loop-preserved
loop-preserved c = rw (c.in_ok-push.ensures.ok) (so_far_more piece_step None c.args.count c.args.bytes.now c.loop.counter c.loop.pieces c.loop.before c.loop.rest.now c.in_ok-piece.piece (Some c.in_ok-piece.piece) c.in_ok-piece.after.now c.loop-test.true
    (ap (λ r. r >>= λ x. Ok ((x.0, Some x.0), x.1)) c.in_ok-piece.ensures) c.loop.invariant)

pub returns : goal.returns
returns c = pieces_step None c.args.count c.args.bytes.now ∙ so_far_ends piece_step None c.args.count c.args.bytes.now c.loop.counter c.loop.pieces c.loop.before c.loop.rest.now (omega (arith, c.loop-test.false)) c.loop.invariant
