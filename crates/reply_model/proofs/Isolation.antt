-- Each command that is alone on its symbol answers what it would answer where its window begins.
use Rattle.std.proofs.Common.{◌≡◌, ℕ, ◌-◌, ◌≤◌, false, [], length, Option, Some, None, refl, sym, ◌∙◌, subst, inl, inr, arith}
use Rattle.std.specs.Prelude.{option_map}
use Rattle.std.proofs.lemmas.Bool.{true≢false}
use Rattle.std.proofs.lemmas.List.{length-drop}
use Rattle.frame_core.specs.declared.refusal.Refusal.{Refusal}
use Rattle.frame_core.specs.declared.refusal.Refusal.TheVariants as refusals
use Rattle.key_kind.specs.Names.{Name}
use Rattle.bucket_core.specs.History.{History, history_at}
use Rattle.expr_clause.specs.declared.command.Command.{Command}
use Rattle.expr_clause.specs.declared.command.Command.TheVariants as commands
use Rattle.reply_model.specs.declared.outcome.Outcome.{Outcome}
use Rattle.reply_model.specs.declared.outcome.Outcome.TheVariants as outcomes
use Rattle.reply_model.specs.declared.reply.Reply.{Reply}
use Rattle.reply_model.specs.Answering.{Answer}
use Rattle.reply_model.specs.Answers.{answer}
use Rattle.reply_model.specs.Windows.{Window, Client, library_at, own_events, is_cut}
use Rattle.reply_model.specs.Rows.{keys_outcome}
use Rattle.reply_model.specs.Legal.{IsLegalRefusal, IsLegalOutcome, IsLegalSeen}
use Rattle.reply_model.specs.Runs.{IsAlone, IsIsolated, LegalIsIsolated}
use Rattle.reply_model.proofs.Isolated.{some_name, own_events_are, answer_is_told}
use Rattle.reply_model.proofs.SymbolKeys.{keys_kept}
use Rattle.reply_model.proofs.DeadKeys.{reclaim_is_told}

some_outcome : (a b : Outcome) → Some a ≡ Some b → a ≡ b
some_outcome a b e = cc

no_answer : {A : Type 0} (a : A) → None ≡ Some a → ⊥
no_answer a e = cc

-- ---- keys

refused_keys : (h : History) (client : Client) (symbol : Name) (reply : Reply) (w : Window) (why : Refusal) → is_cut (outcomes.Refused why) ≡ false → IsLegalRefusal h client (commands.Keys symbol) reply w why → ⊥
refused_keys h client symbol reply w refusals.NoMemory cut l = true≢false cut
refused_keys h client symbol reply w refusals.StoreFault cut l = true≢false cut
refused_keys h client symbol reply w (refusals.Spent count) cut l = true≢false cut
refused_keys h client symbol reply w (refusals.Moved now) cut l = true≢false (sym l.1.0)
refused_keys h client symbol reply w (refusals.VersionGone number) cut l = l
refused_keys h client symbol reply w why cut l = elim l [ inl told ↦ no_answer _ told.0 | inr made ↦ no_answer _ made.3 ]

keys_are_told : (h : History) (client : Client) (symbol : Name) (reply : Reply) (w : Window) (o : Outcome) → is_cut o ≡ false → IsLegalOutcome h client (commands.Keys symbol) reply w o → o ≡ keys_outcome (history_at h reply.place) symbol
keys_are_told h client symbol reply w (outcomes.Refused why) cut l = absurd (refused_keys h client symbol reply w why cut l)
keys_are_told h client symbol reply w o cut l = l

-- keys that are alone count what is stored where the window begins
keys_alone : (h : History) (client : Client) (symbol : Name) (reply : Reply) (w : Window) → w.stop ≡ length h → IsLegalSeen h client (commands.Keys symbol) reply w → is_cut reply.outcome ≡ false
    → IsAlone h client.session.client symbol w → reply.outcome ≡ keys_outcome (history_at h w.start) symbol
keys_alone h client symbol reply w ends legal cut alone =
    let none : own_events h client.session.client w ≡ [] = own_events_are h client.session (commands.Keys symbol) reply w legal.own cut in
    keys_are_told h client symbol reply w reply.outcome cut legal.outcome
    ∙ keys_kept h client.session.client symbol w reply.place ends alone none legal.after (omega (arith, legal.before, ends))

-- ---- all commands

-- the outcome of an answer is that of some answer
answered : (o : Outcome) (a : Option Answer) → option_map (λ (b : Answer). b.outcome) a ≡ Some o → (b : Answer) × (a ≡ Some b) × (b.outcome ≡ o)
answered o None e = absurd (no_answer o e)
answered o (Some b) e = (b, refl, some_outcome b.outcome o e)

isolated : (h : History) (client : Client) (c : Command) (reply : Reply) (w : Window) → w.stop ≡ length h → IsLegalSeen h client c reply w → IsIsolated h client c reply w
isolated h client (commands.Keys a) reply w ends legal symbol o named snap cut alone lawful told =
    keys_alone h client a reply w ends legal cut (subst (λ n. IsAlone h client.session.client n w) (sym (some_name a symbol named)) alone) ∙ some_outcome (keys_outcome (history_at h w.start) a) o told
isolated h client (commands.Reclaim a) reply w ends legal symbol o named snap cut alone lawful told =
    reclaim_is_told h client a reply w lawful ends legal cut (subst (λ n. IsAlone h client.session.client n w) (sym (some_name a symbol named)) alone) ∙ some_outcome _ o told
isolated h client c reply w ends legal symbol o named snap cut alone lawful told =
    let r = answered o (answer client.session (library_at h w.start) (library_at h w.start) w.start c) told in
    answer_is_told h client c reply w symbol r.0 ends legal named snap cut alone r.1 ∙ r.2

-- so each legal reply is isolated
pub legal_is_isolated : LegalIsIsolated
legal_is_isolated h client c reply w legal = isolated (history_at h w.stop) client c reply w (sym (length_at h w.stop legal.0)) legal.1
  where
    length_at : (h : History) (n : ℕ) → n ≤ length h → length (history_at h n) ≡ n
    length_at h n le = let rest : length h - (length h - n) ≡ n = omega (arith, le) in length-drop (length h - n) h ∙ rest
