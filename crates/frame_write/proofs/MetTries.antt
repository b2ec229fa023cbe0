-- Tries that were met, as the reader of the history sees them.
use Rattle.std.proofs.Common.{ℕ, true, Bool, ◌≤◌, length}
use Rattle.frame_core.specs.declared.refusal.Refused.{Refused}
use Rattle.key_kind.specs.Names.{Name}
use Rattle.bucket_core.specs.History.{History, history_at}
use Rattle.reply_model.specs.Moves.{IsMetTry}
use Rattle.reply_model.proofs.MetTries as tries
use Rattle.frame_write.specs.Tries.{DidMeet}

-- a try that left its keys
pub met_one : (client : ℕ) (sole : Bool) (symbol : Name) (Wants : History → Type 0) (Loses : History → ℕ → ℕ → Type 0) (from : ℕ) (old new : History) (refused : Refused) → length old ≤ from
    → DidMeet client sole symbol from old new refused → Wants (history_at new from) → IsMetTry new client symbol true (λ q. Wants (history_at new q)) (Loses new) (length old) (length new) refused.place
met_one client sole symbol Wants Loses from old new refused le m wants =
    tries.met_one client symbol true Wants Loses from refused.place old m.showed new m.put.more m.dropped.more m.puts m.entry le m.met.added m.is_try m.put.is m.put.own_are m.shown m.dropped.is m.dropped.own_are wants
