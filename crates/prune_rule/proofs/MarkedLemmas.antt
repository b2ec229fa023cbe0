-- How a try of a burial ends, from what it did over its walked state.
use Rattle.std.proofs.Common.{◌≡◌, ℕ, Bool, length, refl, sym, ◌∙◌, subst, inl, inr, Some, None, Result, Ok, Err}
use Rattle.frame_core.specs.declared.refusal.Refused.{Refused}
use Rattle.key_kind.specs.Names.{Name}
use Rattle.bucket_core.specs.declared.event.Change.TheVariants as changes
use Rattle.bucket_core.specs.History.{History}
use Rattle.bucket_core.specs.Laws.{Looks}
use Rattle.bucket_core.specs.Calls.{IsSteady}
use Rattle.store_model.specs.Library.{state_of}
use Rattle.store_model.specs.Law.{IsClaimed}
use Rattle.version_chain.specs.declared.state.SymbolState.{SymbolState}
use Rattle.version_chain.specs.States.{IsStateAt, IsWithin}
use Rattle.version_chain.specs.Marking.{DidMark}
use Rattle.prune_rule.specs.declared.choosing.Wish.{Wish}
use Rattle.prune_rule.specs.declared.burying.Tried.{Tried}
use Rattle.reply_model.specs.Kinds.{Burial}
use Rattle.reply_model.specs.CommitAnswers.{bury_answer}
use Rattle.prune_rule.specs.Burials.{state_answer}
use Rattle.prune_rule.specs.Tries.{DidEnd, DidAttempt}
use Rattle.prune_rule.specs.Marked.{IsTriedBy, DidDecline, DidFindNone, DidCommit, DidOn}
use Rattle.prune_rule.proofs.AttemptLemmas.{choice_refused, choice_stops, nothing_chosen, mark_buries, mark_judged, mark_steady}

-- what was done, of the bucket as it was before the walk
pub on_steady : {B : Type 0} (number limit faults : B → ℕ) (sole : B → Bool) (a b : B) → IsSteady number limit faults sole a b → (symbol : Name) (wish : Wish) (state : SymbolState) (now : ℕ) (x y : History) (r : Result Tried Refused)
    → DidOn (number b) (sole b) symbol wish state (limit b) (faults b) now x y r → DidOn (number a) (sole a) symbol wish state (limit a) (faults a) now x y r
on_steady number limit faults sole a b steady symbol wish state now x y r d = elim d [
  | inl declined ↦ inl declined
  | inr rest ↦ elim rest [
    | inl none ↦ inr (inl none)
    | inr m ↦ inr (inr (record {
      numbers = m.numbers;
      filled = m.filled;
      answered = m.answered;
      marked = m.marked;
      did = mark_steady number limit faults sole a b steady symbol state.place (changes.Removed m.numbers) now x y m.marked m.did;
      judged = m.judged;
    }))
  ]
]

module _ (client : ℕ) (sole : Bool) (symbol : Name) (wish : Wish) (burial : Burial) (limit before : ℕ) (old walked : History) (state : SymbolState) (looks : Looks IsClaimed client sole old walked) (seen : IsStateAt walked symbol state) (place : IsWithin old walked state.place)
    (told : state_answer wish state ≡ bury_answer burial (state_of seen.before symbol)) (now : ℕ) (new : History) (result : Result Tried Refused) where
  declined_ends : DidDecline wish state walked new result → DidAttempt client sole symbol burial limit before now old new result
  declined_ends d =
      let end : DidEnd client sole symbol burial limit before now old walked (Err (record { place = state.place; why = d.why })) = elim d.declined [
        | inl memory ↦ choice_stops client sole symbol burial limit before old walked state looks seen place now d.why memory
        | inr refuses ↦ choice_refused client sole symbol burial limit before old walked state looks seen place now d.why (sym told ∙ refuses)
      ] in
      subst (DidAttempt client sole symbol burial limit before now old new) (sym d.is) (subst (λ h. DidEnd client sole symbol burial limit before now old h (Err (record { place = state.place; why = d.why }))) (sym d.same) end)

  none_ends : DidFindNone wish state walked new result → DidAttempt client sole symbol burial limit before now old new result
  none_ends n =
      let end : DidEnd client sole symbol burial limit before now old walked (Ok (record { versions = 0; place = state.place; commit = None })) =
      nothing_chosen client sole symbol burial limit before old walked state looks seen place now (record { versions = 0; place = state.place; commit = None }) (sym told ∙ n.answered) refl refl refl in
      subst (DidAttempt client sole symbol burial limit before now old new) (sym n.is) (subst (λ h. DidEnd client sole symbol burial limit before now old h (Ok (record { versions = 0; place = state.place; commit = None }))) (sym n.same) end)

  commit_ends : DidCommit client sole symbol wish state limit before now walked new result → DidAttempt client sole symbol burial limit before now old new result
  commit_ends m = by m.marked m.did m.judged
    where
      by : (marked : Result ℕ Refused) → DidMark client sole symbol state.place (changes.Removed m.numbers) limit before now walked new marked → IsTriedBy (length m.numbers) marked result → DidAttempt client sole symbol burial limit before now old new result
      by (Ok at) did is =
          subst (DidAttempt client sole symbol burial limit before now old new) (sym is)
          (inl (mark_buries client sole symbol burial limit before old walked state looks seen place m.numbers m.filled (sym told ∙ m.answered) new at did (record { versions = length m.numbers; place = at; commit = Some at }) refl refl refl))
      by (Err refused) did met = mark_judged client sole symbol burial limit before old walked state looks seen place m.numbers m.filled (sym told ∙ m.answered) now new refused result did met

  pub attempt_ends : DidOn client sole symbol wish state limit before now walked new result → DidAttempt client sole symbol burial limit before now old new result
  attempt_ends d = elim d [
    | inl declined ↦ declined_ends declined
    | inr rest ↦ elim rest [
      | inl none ↦ none_ends none
      | inr m ↦ commit_ends m
    ]
  ]
