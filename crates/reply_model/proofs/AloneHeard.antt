-- What is known of a legal reply in a window without events of others.
use Rattle.std.proofs.Common.{◌≡◌, Bool, false, [], ◌++◌, length, Some, None, sym, ◌∙◌, ap, subst, arith}
use Rattle.store_model.specs.Law.{IsLawful}
use Rattle.bucket_core.specs.History.{History, history_at}
use Rattle.expr_clause.specs.declared.command.Command.{Command}
use Rattle.reply_model.specs.declared.outcome.Outcome.{Outcome}
use Rattle.reply_model.specs.declared.reply.Reply.{Reply}
use Rattle.reply_model.specs.Windows.{Client, refer_places, is_cut, own_events, AreCommits}
use Rattle.reply_model.specs.OwnEvents.{IsOwn, is_done}
use Rattle.reply_model.specs.Legal.{IsLegalSeen}
use Rattle.reply_model.specs.Blocks.{Cutting}
use Rattle.reply_model.specs.Sole.{Alone, plain_reply, next_turn}
use Rattle.reply_model.specs.Standing.{StandsAs, StepsTo}
use Rattle.reply_model.proofs.Places.{history_at_end}
use Rattle.reply_model.proofs.Isolated.{Met, uncut_is_no_fault, own_events_are}
use Rattle.reply_model.proofs.AloneWindows.{AreBy, added, own_at, own_is_all, none_added, none_behind}
use Rattle.reply_model.proofs.AloneSteps.{reply_is}

-- ---- what is known of a legal reply

-- a legal reply for what was added, which no failure cut
pub record Heard (client : Client) (command : Command) (reply : Reply) (more old : History) (faulted : Bool) : Type 0 where
  pub lawful : IsLawful (more ++ old)
  pub own : AreBy client.session.client more
  pub seen : IsLegalSeen (more ++ old) client command reply (added more old faulted)
  pub cut : is_cut reply.outcome ≡ false

pub commits_are : (client : Client) (command : Command) (reply : Reply) (more old : History) (faulted : Bool) → Heard client command reply more old faulted
    → reply.commits ≡ refer_places client.session.client (length old) (more ++ old)
commits_are client command reply more old faulted heard =
    subst (λ b. AreCommits b reply.commits (refer_places client.session.client (length old) (history_at (more ++ old) (length (more ++ old))))) (uncut_is_no_fault reply.outcome heard.cut) heard.seen.own.commits
    ∙ ap (refer_places client.session.client (length old)) (history_at_end (more ++ old))

pub own_are : (client : Client) (command : Command) (reply : Reply) (more old : History) (faulted : Bool) → Heard client command reply more old faulted
    → IsOwn (more ++ old) client.session (added more old faulted) command reply (is_done reply) (own_events (more ++ old) client.session.client (added more old faulted))
own_are client command reply more old faulted heard = own_events_are (more ++ old) client.session command reply (added more old faulted) heard.seen.own heard.cut

-- a command without own events adds none
pub adds_none : (client : Client) (command : Command) (reply : Reply) (more old : History) (faulted : Bool) → Heard client command reply more old faulted
    → own_events (more ++ old) client.session.client (added more old faulted) ≡ [] → more ≡ []
adds_none client command reply more old faulted heard none = none_added more (sym (own_is_all more old client.session.client faulted heard.own) ∙ none)

-- no Refer of others is met
pub not_met : (client : Client) (command : Command) (reply : Reply) (more old : History) (faulted : Bool) → Heard client command reply more old faulted
    → Met (more ++ old) client command reply (added more old faulted) → ⊥
not_met client command reply more old faulted heard m =
    m.3.others (own_at more old client.session.client reply.place m.3.event heard.own m.3.inside heard.seen.before m.3.at)

-- a reply to a list has its outcome, at the place where the window begins and ends
pub listed_step : (c : Cutting) (client : Client) (command : Command) (reply : Reply) (r : Alone) (old : History) (faulted : Bool) (outcome : Outcome) → StandsAs c old r → Heard client command reply [] old faulted
    → reply.listed ≡ None → reply.left ≡ [] → reply.outcome ≡ outcome → StepsTo c (Some (next_turn (plain_reply r.events None outcome, r))) reply old
listed_step c client command reply r old faulted outcome stands heard unlisted unleft is =
    let here : reply.place ≡ length old = omega (arith, heard.seen.after, heard.seen.before) in (
      reply_is reply r.events None [] (here ∙ sym stands.events) unlisted
          (commits_are client command reply [] old faulted heard ∙ none_behind client.session.client (length old) old (omega arith)) unleft
          ∙ ap (λ o. plain_reply r.events None o) is,
      record { events = stands.events; symbols = stands.symbols; states = stands.states; snapshots = stands.snapshots; shapes = stands.shapes; cut = stands.cut },
    )
