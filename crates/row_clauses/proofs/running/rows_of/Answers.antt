use Rattle.std.proofs.Common.{[], ap, sym, ◌∙◌}
use Rattle.std.specs.Prelude.{Ok}
use Rattle.frame_core.specs.Making.{Making}
use Rattle.frame_core.specs.Selecting.{then_map}
use Rattle.frame_core.specs.Schemas.{Schema, are_new}
use Rattle.expr_clause.specs.Asking.{pass, pass_rows}
use Rattle.row_clauses.proofs.NameLaws.{names, new_after_all}
use Rattle.row_clauses.proofs.RunLaws.{plain_run}
use Rattle.row_clauses.proofs.ThroughLaws.{made_frame}
use Rattle.row_clauses.proofs.running.rows_of.Goals as goal

pub make-requires : goal.make-requires
make-requires c = record {
  distinct =
      ap (λ (s : Schema). are_new [] (names s.columns)) c.requires.way.plan_is.schema
      ∙ new_after_all c.args.clauses.now c.args.frame.now.schema c.requires.way.plain c.requires.way.frame.columns.distinct;
}

pub returns : goal.returns
returns c =
    plain_run c.args.first c.args.clauses.now c.args.frame.now c.requires.way.plain
    ∙ ap (λ s. then_map (made_frame s) (pass_rows (pass c.args.first c.args.frame.now.schema c.args.clauses.now) 1 c.args.frame.now.rows)) (sym c.requires.way.plan_is.schema)
    ∙ ap (then_map (made_frame c.args.plan.now.schema)) c.in_ok-rows_through.ensures.rows
    ∙ ap (λ s. Ok (made_frame s c.rows_through.new.out.rows)) (sym (ap (λ (m : Making). m.schema) c.in_ok-out.ensures) ∙ sym c.in_ok-rows_through.ensures.schema)
    ∙ ap Ok (sym c.done.ensures)
