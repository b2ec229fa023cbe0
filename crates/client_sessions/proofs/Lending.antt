-- Commands may be lent to other threads.
use denote.Param.Send.{IsSend, IsSync, AllSend, plain_sync, enum_sync, recorded_sync, recorded_send, struct_send}
use denote.RattleType.{RattleType}
use denote.Struct.Field.{rows}
use denote.Struct.Tuple.{TupleAt, type_at, parts}
use mathlib.Core.List.{List, [], ◌∷◌}
use mir.Syntax.{Sym}
use denote.Builtin as builtin
use denote.Enum.Declared as declared
use denote.Struct.Declared as structs
use Rattle.base_types.specs.contracts.items.Items
use Rattle.frame_core.specs.contracts.name.ColName
use Rattle.frame_core.specs.contracts.range.Range
use Rattle.expr_clause.specs.contracts.command.Command
use Rattle.expr_clause.specs.contracts.command.Pick
use Rattle.expr_clause.proofs.command.AsOf.TheSendSync as as_of
use Rattle.expr_clause.proofs.command.Pick.TheSendSync as pick
use Rattle.key_kind.proofs.name.SnapName.TheSendSync as snap
use Rattle.key_kind.proofs.name.Symbol.TheSendSync as symbol
use Rattle.std.proofs.option.Option.TheSendSync as option
use Rattle.base_types.proofs.text.Text.TheSendSync as text
use Rattle.base_types.proofs.items.Items.TheSendSync as items
use Rattle.frame_core.proofs.name.ColName.TheSendSync as name
use Rattle.frame_core.proofs.range.Range.TheSendSync as range
use Rattle.sqlite_items.proofs.boxed.Boxed.TheSendSync as boxed
use Rattle.expr_clause.proofs.expr.UnOp.TheSendSync as unop
use Rattle.expr_clause.proofs.expr.BinOp.TheSendSync as binop
use Rattle.expr_clause.proofs.expr.Literal.TheSendSync as literal
use Rattle.expr_clause.proofs.clause.Out.TheSendSync as out
use Rattle.expr_clause.specs.contracts.expr.Expr as e
use Rattle.expr_clause.specs.contracts.expr.Literal as l
use Rattle.expr_clause.specs.contracts.clause.Out as o
use Rattle.expr_clause.specs.contracts.clause.Clause as c
use Rattle.expr_clause.proofs.expr.Expr.TheLaws.TheKnot as knot

pub expr_sync : IsSync (e.the_field).row
expr_sync = knot.sync-Expr (plain_sync _ _ _ _ _) (plain_sync _ _ _ _ _) text.the_sync name.the_sync unop.the_field_sync boxed.the_sync binop.the_field_sync (items.the_sync l.the_row literal.the_sync)

pub clause_sync : IsSync (c.the_field).row
clause_sync = enum_sync (declared.shape c.the_type) (
  (range.the_sync, tt),
  ((expr_sync, tt), ((name.the_sync, (expr_sync, tt)), ((name.the_sync, (items.the_sync o.the_row out.the_sync, tt)), tt))),
)

clause_row_sync : IsSync c.the_row
clause_row_sync = recorded_sync (c.the_field).row _ _ (c.the_type).to_one clause_sync

pub command_sync : IsSync (Command.the_field).row
command_sync = enum_sync (declared.shape Command.the_type) (
  (
    symbol.the_sync,
    (
      plain_sync _ _ _ _ _,
      (
        option.the_field_sync builtin.i64 (plain_sync _ _ _ _ _),
        (plain_sync _ _ _ _ _, tt),
      ),
    ),
  ),
  (
    (
      symbol.the_sync,
      (
        plain_sync _ _ _ _ _,
        (
          option.the_field_sync builtin.i64 (plain_sync _ _ _ _ _),
          (plain_sync _ _ _ _ _, tt),
        ),
      ),
    ),
    (
      (
        symbol.the_sync,
        (
          plain_sync _ _ _ _ _,
          (
            option.the_field_sync Range.the_row range.the_sync,
            (
              plain_sync _ _ _ _ _,
              (
                option.the_field_sync builtin.i64 (plain_sync _ _ _ _ _),
                (plain_sync _ _ _ _ _, tt),
              ),
            ),
          ),
        ),
      ),
      (
        (
          symbol.the_sync,
          (
            range.the_sync,
            (
              option.the_field_sync builtin.i64 (plain_sync _ _ _ _ _),
              (plain_sync _ _ _ _ _, tt),
            ),
          ),
        ),
        (
          (symbol.the_sync, (plain_sync _ _ _ _ _, tt)),
          (
            (
              symbol.the_sync,
              (
                plain_sync _ _ _ _ _,
                (
                  plain_sync _ _ _ _ _,
                  (
                    option.the_field_sync builtin.i64 (plain_sync _ _ _ _ _),
                    (plain_sync _ _ _ _ _, tt),
                  ),
                ),
              ),
            ),
            (
              (symbol.the_sync, tt),
              (
                (
                  symbol.the_sync,
                  (
                    option.the_field_sync
                        (Items.the_row builtin.u64)
                        (items.the_sync builtin.u64 (plain_sync _ _ _ _ _)),
                    tt,
                  ),
                ),
                (
                  (symbol.the_sync, tt),
                  (
                    (symbol.the_sync, tt),
                    (
                      (symbol.the_sync, tt),
                      (
                        (symbol.the_sync, tt),
                        (
                          (
                            snap.the_sync,
                            (items.the_sync Pick.the_row pick.the_sync, tt),
                          ),
                          (
                            (snap.the_sync, tt),
                            (
                              tt,
                              (
                                tt,
                                (
                                  (
                                    symbol.the_sync,
                                    (
                                      as_of.the_field_sync,
                                      (
                                        range.the_sync,
                                        (
                                          option.the_field_sync
                                              (Items.the_row ColName.the_row)
                                              (items.the_sync
                                              ColName.the_row
                                              name.the_sync),
                                          (items.the_sync c.the_row clause_row_sync, tt),
                                        ),
                                      ),
                                    ),
                                  ),
                                  tt,
                                ),
                              ),
                            ),
                          ),
                        ),
                      ),
                    ),
                  ),
                ),
              ),
            ),
          ),
        ),
      ),
    ),
  ),
)

pub command_row_sync : IsSync Command.the_row
command_row_sync = recorded_sync (Command.the_field).row _ _ (Command.the_type).to_one command_sync

-- A closure may go to another thread where all that it captures may.
module _ (ν : Sym) where
  captures_send : (Ts : List RattleType) → AllSend Ts → AllSend (rows (parts Ts))
  captures_send [] s = tt
  captures_send (T ∷ Ts) s = (s.0, captures_send Ts s.1)

  pub closure_send : (Ts : List RattleType) → AllSend Ts → IsSend (TupleAt ν Ts)
  closure_send Ts s = recorded_send _ _ _ (type_at ν Ts).to_one (struct_send (structs.shape (type_at ν Ts)) (captures_send Ts s))

pub blocks_sync : IsSync (Items.the_row Command.the_row)
blocks_sync = items.the_sync Command.the_row command_row_sync
