use Rattle.std.proofs.Common.{◌≡◌, ◌+◌, ◌-◌, length, ◌++◌, ◌∷◌, [], take, drop, subst}
use Rattle.std.specs.Prelude.{IfOk}
use Rattle.expr_clause.proofs.ColumnLemmas.{put_in_place}
use Rattle.expr_clause.proofs.typing.replaced.Goals as goal

pub returns : goal.returns
returns c = subst (λ all. IfOk c.between.result (λ given. given ≡ record { timed = c.args.timed; columns = all })) (put_in_place c.args.columns.now c.args.place (c.args.name.now, c.args.kind) c.requires)
    (subst (λ empty. IfOk c.between.result (λ given. given ≡ record empty { columns = ((empty.columns ++ take c.args.place c.args.columns.now) ++ (c.args.name.now, c.args.kind) ∷ []) ++ take (length c.args.columns.now - (c.args.place + 1)) (drop (c.args.place + 1) c.args.columns.now) })) c.empty-given.ensures c.between.ensures)
