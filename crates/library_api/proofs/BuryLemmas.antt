-- The replies of deletes, prunes and reclaims are legal.
use Rattle.std.proofs.Common.{◌≡◌, ℕ, true, List, Result, length}
use Rattle.frame_core.specs.declared.refusal.Refused.{Refused}
use Rattle.frame_core.specs.declared.refusal.Refusal.TheVariants as refusals
use Rattle.key_kind.specs.declared.key.Key.{Key}
use Rattle.key_kind.specs.declared.key.KeyKind.TheVariants as kinds
use Rattle.key_kind.specs.Names.{Name}
use Rattle.bucket_core.specs.History.{History}
use Rattle.expr_clause.specs.declared.command.Command.{Command}
use Rattle.expr_clause.specs.declared.command.Command.TheVariants as commands
use Rattle.reply_model.specs.Kinds.{Burial, burial_command}
use Rattle.reply_model.specs.CommitAnswers.{buried_outcome}
use Rattle.reply_model.specs.declared.outcome.Outcome.{Outcome}
use Rattle.reply_model.specs.declared.outcome.Outcome.TheVariants as outcomes
use Rattle.prune_rule.specs.declared.burying.Buried.{Buried}
use Rattle.prune_rule.specs.declared.reclaiming.Freed.{Freed}
use Rattle.prune_rule.specs.Replies.{reply_to, IsLegalBurial}
use Rattle.prune_rule.specs.Reclaims.{keys_of_kind, reply_of, IsLegalReclaim}
use Rattle.library_api.specs.Steps.{is_carried_out, plain_reply, IsLegalWithTries}
use Rattle.library_api.proofs.NoEvents.{wants_memory}

pub burial_legal : (limit number tries before now : ℕ) (old new : History) (symbol : Name) (burial : Burial) (result : Result Buried Refused) → IsLegalBurial limit number tries symbol burial before now old new result
    → IsLegalWithTries limit number tries before now old new (burial_command symbol burial) (reply_to (buried_outcome burial) result)
burial_legal limit number tries before now old new symbol burial result legal s client same faulted rose = legal s faulted client same rose

pub burial_wants_memory : (limit number tries faults : ℕ) (old : History) (command : Command) (place : ℕ) → is_carried_out command ≡ true → place ≡ length old
    → IsLegalWithTries limit number tries faults faults old old command (plain_reply place (outcomes.Refused refusals.NoMemory))
burial_wants_memory limit number tries faults old command place served here s client same = wants_memory (record { session = s; limit = limit }) command served faults faults old place here

-- ---- reclaims

-- the numbers of dropped keys
abbrev pub freed_outcome : List Key → Outcome
freed_outcome keys = outcomes.Freed (keys_of_kind kinds.TableData keys) (keys_of_kind kinds.TableIndex keys) (keys_of_kind kinds.Staged keys)

pub reclaim_legal : (limit number tries before now : ℕ) (old new : History) (symbol : Name) (result : Result Freed Refused) → IsLegalReclaim limit number tries symbol before now old new result
    → IsLegalWithTries limit number tries before now old new (commands.Reclaim symbol) (reply_of result)
reclaim_legal limit number tries before now old new symbol result legal s client same faulted rose = legal s faulted client same rose
