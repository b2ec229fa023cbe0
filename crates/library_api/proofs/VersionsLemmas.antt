-- The reply of `versions` is legal.
use Rattle.std.proofs.Common.{◌≡◌, ℕ, Bool, true, refl, ap, sym, subst, inl, Option, Some, Result, length}
use Rattle.base_types.specs.Faults.{Rose}
use Rattle.frame_core.specs.declared.refusal.Refusal.{Refusal}
use Rattle.frame_core.specs.declared.refusal.Refusal.TheVariants as refusals
use Rattle.frame_core.specs.declared.refusal.Refused.{Refused}
use Rattle.key_kind.specs.Names.{Name}
use Rattle.bucket_core.specs.History.{History, history_at}
use Rattle.bucket_core.specs.Laws.{Looks}
use Rattle.store_model.specs.Law.{IsClaimed}
use Rattle.version_chain.specs.States.{IsWithin}
use Rattle.expr_clause.specs.declared.command.Command.TheVariants as commands
use Rattle.reply_model.specs.declared.outcome.Outcome.{Outcome}
use Rattle.reply_model.specs.declared.outcome.Outcome.TheVariants as outcomes
use Rattle.reply_model.specs.Answering.{Answer, answered}
use Rattle.reply_model.specs.Windows.{Client}
use Rattle.reply_model.specs.Legal.{IsLegalOutcome}
use Rattle.frame_read.specs.declared.versions.VersionList.{VersionList}
use Rattle.frame_read.specs.Versions.{IsVersionList, IsVersionsRefusal, RefusesVersions}
use Rattle.library_api.specs.Steps.{plain_reply, refusal_reply, IsLegalForAll}
use Rattle.library_api.proofs.NoEvents.{served_has_none, legal_without_events}

-- what the one-thread library answers
abbrev from_answer : Result Answer Refusal → Option Answer
from_answer r = Some (answered r)

module _ (number : ℕ) (sole : Bool) (before now : ℕ) (old new : History) (looks : Looks IsClaimed number sole old new) (symbol : Name) where
  legal_where : (place : ℕ) (outcome : Outcome) → IsWithin old new place
      → ((client : Client) (faulted : Bool) → (Rose before now → faulted ≡ true) → IsLegalOutcome new client (commands.Versions symbol) (plain_reply place outcome) (record { start = length old; stop = length new; faulted = faulted }) outcome)
      → IsLegalForAll number before now old new (commands.Versions symbol) (plain_reply place outcome)
  legal_where place outcome within clause client own faulted rose =
      legal_without_events client (commands.Versions symbol) (plain_reply place outcome) old new faulted (served_has_none (commands.Versions symbol) refl) sole (subst (λ n. Looks IsClaimed n sole old new) (sym own) looks)
      refl refl refl within (λ cut. refl) (clause client faulted rose)

  pub versions_legal : (list : VersionList) → IsVersionList old new symbol list → IsLegalForAll number before now old new (commands.Versions symbol) (plain_reply list.place (outcomes.Versions list.rows))
  versions_legal list is = legal_where list.place (outcomes.Versions list.rows) is.place (λ client faulted rose. inl (ap from_answer is.rows, refl))

  refused_by : (place : ℕ) (why : Refusal) → IsWithin old new place → IsVersionsRefusal before now (history_at new place) symbol why → IsLegalForAll number before now old new (commands.Versions symbol) (plain_reply place (outcomes.Refused why))
  refused_by place refusals.NoMemory within e = legal_where place (outcomes.Refused refusals.NoMemory) within (λ client faulted rose. tt)
  refused_by place refusals.StoreFault within e = legal_where place (outcomes.Refused refusals.StoreFault) within (λ client faulted rose. rose e)
  refused_by place refusals.NoSuchSymbol within e = legal_where place (outcomes.Refused refusals.NoSuchSymbol) within (λ client faulted rose. inl (ap from_answer e, refl))
  refused_by place why within e = absurd e

  pub versions_refused_legal : (refused : Refused) → RefusesVersions before now old new symbol refused → IsLegalForAll number before now old new (commands.Versions symbol) (refusal_reply refused)
  versions_refused_legal refused r = refused_by refused.place refused.why r.place r.why
