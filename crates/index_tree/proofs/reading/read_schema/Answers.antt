use Rattle.std.proofs.Common.{◌∙◌, ℕ, List, [], ap, sym}
use Rattle.std.proofs.lemmas.Result.{err_from_is_err_and}
use Rattle.frame_core.specs.declared.cell.ColType.{ColType}
use Rattle.frame_core.specs.Schemas.{Schema, Head}
use Rattle.index_tree.proofs.IndexLoops.{behind, is_named, heads_more, heads_stopped}
use Rattle.index_tree.proofs.NameNotes.{noted_push, noted_behind}
use denote.Ref.{Bor}
use Rattle.index_tree.proofs.reading.read_schema.Goals as goal

pub returns-in_err-kind-clause-columns : goal.returns-in_err-kind-clause-columns
returns-in_err-kind-clause-columns c =
    let p = err_from_is_err_and c.from_residual.result c.from_residual.ensures.1 in
    rw (p.1, p.2) (heads_stopped (λ (x : ColType × Bor (List ℕ) × Bor (List ℕ)). ((x.1.now, x.0), x.2.now)) (λ (x : Schema × Bor (List ℕ)). (x.0.columns, x.1.now)) c.args.count c.loop.counter c.args.bytes.now c.loop.rest.now c.loop.schema.columns _ c.loop-test.true c.loop.invariant.so_far
    (c.in_err-kind.ensures.head (behind [] c.loop.schema.columns) (noted_behind c.loop.names c.loop.schema.columns c.loop.invariant.noted)))

pub loop-preserved : goal.loop-preserved
loop-preserved c =
    let earlier = behind [] c.loop.schema.columns in
    let read = c.in_ok-kind.ensures.head earlier (noted_behind c.loop.names c.loop.schema.columns c.loop.invariant.noted) in
    let so_far = heads_more c.args.count c.loop.counter c.args.bytes.now c.loop.rest.now c.loop.schema.columns c.in_ok-kind.name.now c.in_ok-kind.kind c.in_ok-kind.after.now c.loop-test.true c.loop.invariant.so_far read in
    let columns = ap (λ (s : Schema). s.columns) c.in_ok-push_column.ensures in
    let noted = noted_push c.loop.names c.read_new_head.new.names c.loop.schema.columns c.in_ok-kind.name.now c.in_ok-kind.kind c.loop.invariant.noted c.in_ok-kind.ensures.noted in
    record {
      timed = ap (λ (s : Schema). s.timed) c.in_ok-push_column.ensures ∙ c.loop.invariant.timed;
      noted = λ other. noted other ∙ ap (λ (heads : List Head). is_named other heads) (sym columns);
      so_far = rw columns so_far;
    }
