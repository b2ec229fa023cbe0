-- What the one-thread library answers to each command, over whole frames.
--     made_answer, finalized_answer, read_answer, list_answer      the answers of kinds with several commands
--     answer_of, answer       the answer; `keys` and `reclaim` have clauses of their own, `snapshot` and `delete_snapshot` answers of their own
use Rattle.std.specs.Prelude.{ℕ, [], map, Option, Some, None, Ok, option_map}
use Rattle.key_kind.specs.Names.{Name}
use Rattle.bucket_core.specs.declared.event.Change.TheVariants as changes
use Rattle.store_model.specs.Library.{State, base_of}
use Rattle.store_model.specs.Snapshots.{Library}
use Rattle.reply_model.specs.declared.outcome.SymbolRow.{SymbolRow}
use Rattle.expr_clause.specs.declared.command.Command.{Command}
use Rattle.expr_clause.specs.declared.command.Command.TheVariants as commands
use Rattle.reply_model.specs.declared.outcome.Outcome.TheVariants as outcomes
use Rattle.reply_model.specs.Kinds.{Kind, kind_of, Makes, Finalizes, Buries, Discards, Stages, Reads, Lists}
use Rattle.reply_model.specs.Answering.{Session, Answer, answered, ◌then◌, with_frame, stamp_of, committed}
use Rattle.reply_model.specs.CommitAnswers.{append_answer, update_answer, clear_answer, burial_answer}
use Rattle.reply_model.specs.ReadAnswers.{versions_answer, read_version, version_answer}
use Rattle.reply_model.specs.PieceAnswers.{finalize_answer, discard_answer}

-- a symbol with its base, at a place
abbrev pub symbol_row : Library → ℕ → Name → SymbolRow
symbol_row l place symbol = record { symbol = symbol; newest = option_map (λ v. v.number) (base_of (l.state symbol)); place = place }

-- the answer to a command that makes a version, by the state of its symbol
abbrev pub made_answer : Session → State → Command → Option Answer
made_answer s st (commands.Write symbol frame at prune) = with_frame s frame (λ f. Ok (committed st prune (changes.Wrote f (stamp_of s at))))
made_answer s st (commands.Append symbol frame at prune) = with_frame s frame (λ f. append_answer st prune (stamp_of s at) f)
made_answer s st (commands.Update symbol frame range upsert at prune) = with_frame s frame (λ f. update_answer st upsert prune (stamp_of s at) range f)
made_answer s st (commands.DeleteRange symbol range at prune) = Some (answered (clear_answer range prune (stamp_of s at) st))
made_answer s st _ = None

-- to one that finalizes, also by the state when its list was made
abbrev pub finalized_answer : Session → State → State → Command → Option Answer
finalized_answer s listed st (commands.Finalize symbol append sorted at prune) = Some (answered (finalize_answer listed st append sorted prune (stamp_of s at)))
finalized_answer s listed st _ = None

-- to one that reads a symbol
abbrev pub read_answer : Library → Command → Option Answer
read_answer l (commands.Versions symbol) = Some (answered (versions_answer (l.state symbol)))
read_answer l (commands.Read symbol as_of range columns clauses) = Some (answered (read_version l symbol as_of then λ v. version_answer v range columns clauses))
read_answer l _ = None

-- to one that lists
abbrev pub list_answer : Library → ℕ → Command → Option Answer
list_answer l place commands.Symbols = Some (record { outcome = outcomes.Symbols (map (symbol_row l place) l.symbols); marks = [] })
list_answer l place commands.Snapshots = Some (record { outcome = outcomes.Snapshots (map (λ y. y.0) l.snapshots); marks = [] })
list_answer l place _ = None

-- the answer to a command of a kind in a library, in the library of its list, and at a place. `keys` and `reclaim`, `snapshot` and `delete_snapshot` have
-- clauses of their own
abbrev pub answer_of : Session → Library → Library → ℕ → Command → Kind → Option Answer
answer_of s listed l place c (Makes symbol) = made_answer s (l.state symbol) c
answer_of s listed l place c (Finalizes symbol) = finalized_answer s (listed.state symbol) (l.state symbol) c
answer_of s listed l place c (Buries symbol burial) = Some (answered (burial_answer burial (l.state symbol)))
answer_of s listed l place c (Discards symbol) = Some (answered (discard_answer (listed.state symbol) (l.state symbol)))
answer_of s listed l place c (Stages symbol frame) = with_frame s frame (λ f. Ok (record { outcome = outcomes.Staged; marks = [] }))
answer_of s listed l place c (Reads symbol) = read_answer l c
answer_of s listed l place c Lists = list_answer l place c
answer_of s listed l place c _ = None

-- the answer to a command
abbrev pub answer : Session → Library → Library → ℕ → Command → Option Answer
answer s listed l place c = answer_of s listed l place c (kind_of c)
