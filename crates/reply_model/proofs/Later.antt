-- Replies that are legal in a history are legal in each longer one.
use Rattle.std.proofs.Common.{◌≡◌, ℕ, suc, ◌-◌, ◌≤◌, List, [], ◌∷◌, ◌++◌, length, drop, refl, ap, sym, ◌∙◌, subst, arith, length-append}
use Rattle.bucket_core.specs.History.{History, history_at}
use Rattle.expr_clause.specs.declared.command.Command.{Command}
use Rattle.reply_model.specs.declared.reply.Reply.{Reply}
use Rattle.reply_model.specs.Windows.{Client, Window}
use Rattle.reply_model.specs.Legal.{IsLegalSeen, LegalFrom, LegalStays}

-- the history at a place stays what it is
pub history_at_later : (h more : History) (n : ℕ) → n ≤ length h → history_at (more ++ h) n ≡ history_at h n
history_at_later h [] n le = refl
history_at_later h (e ∷ more) n le =
    let longer : n ≤ length (more ++ h) = omega (arith, le, length-append more h) in
    let step : suc (length (more ++ h)) - n ≡ suc (length (more ++ h) - n) = omega (arith, longer) in
    ap (λ k. drop k (e ∷ (more ++ h))) step ∙ history_at_later h more n le

legal_from_later : (h more : History) (client : Client) (from : ℕ) (cs : List Command) (rs : List Reply) (ws : List Window) → LegalFrom h client from cs rs ws → LegalFrom (more ++ h) client from cs rs ws
legal_from_later h more client from [] [] [] l = tt
legal_from_later h more client from (c ∷ cs) (r ∷ rs) (w ∷ ws) l = (
  l.0,
  (omega (arith, l.1.0, length-append more h), subst (λ g. IsLegalSeen g client c r w) (sym (history_at_later h more w.stop l.1.0)) l.1.1),
  legal_from_later h more client w.stop cs rs ws l.2,
)
legal_from_later h more client from [] [] (w ∷ ws) l = absurd l
legal_from_later h more client from [] (r ∷ rs) ws l = absurd l
legal_from_later h more client from (c ∷ cs) [] ws l = absurd l
legal_from_later h more client from (c ∷ cs) (r ∷ rs) [] l = absurd l

pub legal_stays : LegalStays
legal_stays h more client from cs rs faulted l = (l.0, l.1, legal_from_later h more client from cs rs l.0 l.2)
