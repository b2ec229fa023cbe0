-- The reply of `keys` is legal.
use Rattle.std.proofs.Common.{◌≡◌, ℕ, Bool, true, false, ◌&&◌, List, [], ◌∷◌, refl, ap, sym, ◌∙◌, subst, cond, Some, None, length, arith}
use Rattle.std.specs.Prelude.{count_by, filter}
use Rattle.std.proofs.lemmas.Bool.{and_from}
use Rattle.base_types.specs.Faults.{Rose}
use Rattle.frame_core.specs.declared.refusal.Refusal.TheVariants as refusals
use Rattle.segment_cut.proofs.Lists.{count_by-yes, count_by-no}
use Rattle.key_kind.specs.declared.key.KeyKind.{KeyKind}
use Rattle.key_kind.specs.declared.key.KeyKind.TheVariants as kinds
use Rattle.key_kind.specs.declared.key.Key.{Key}
use Rattle.key_kind.specs.Names.{Name, same_name}
use Rattle.key_kind.specs.Keys.{same_kind}
use Rattle.bucket_core.specs.History.{History, history_at, stored_keys}
use Rattle.bucket_core.specs.Laws.{Looks}
use Rattle.bucket_core.specs.Calls.{keys_that_match}
use Rattle.store_model.specs.Law.{IsClaimed}
use Rattle.version_chain.specs.States.{IsWithin}
use Rattle.version_chain.proofs.Walked.{looks_length}
use Rattle.expr_clause.specs.declared.command.Command.TheVariants as commands
use Rattle.reply_model.specs.declared.outcome.Outcome.{Outcome}
use Rattle.reply_model.specs.declared.outcome.Outcome.TheVariants as outcomes
use Rattle.reply_model.specs.Windows.{Client}
use Rattle.reply_model.specs.Rows.{keys_of, keys_outcome}
use Rattle.reply_model.specs.Legal.{IsLegalOutcome}
use Rattle.reply_model.proofs.Places.{history_at_end}
use Rattle.library_api.specs.Steps.{plain_reply, IsLegalForAll}
use Rattle.library_api.proofs.NoEvents.{served_has_none, legal_without_events}

and_false : (b : Bool) → (b && false) ≡ false
and_false true = refl
and_false false = refl

-- how many of those that pass one test pass another
count_both : {X : Type 0} (p q : X → Bool) (xs : List X) → count_by p (filter q xs) ≡ count_by (λ x. p x && q x) xs
count_both p q [] = refl
count_both {X} p q (x ∷ xs) = by (p x) (q x) refl refl (count_both p q xs)
  where
    kept : (b : Bool) → q x ≡ b → filter q (x ∷ xs) ≡ cond b (x ∷ filter q xs) (filter q xs)
    kept b e = ap (λ t. cond t (x ∷ filter q xs) (filter q xs)) e

    both : X → Bool
    both y = p y && q y

    by : (a b : Bool) → p x ≡ a → q x ≡ b → count_by p (filter q xs) ≡ count_by both xs → count_by p (filter q (x ∷ xs)) ≡ count_by both (x ∷ xs)
    by true true is also more =
        let one = count_by-yes both x xs (and_from (p x) (q x) is also) in
        let other = count_by-yes p x (filter q xs) is in
        ap (count_by p) (kept true also) ∙ (omega (arith, one, other, more))
    by true false is also more =
        let one = count_by-no both x xs (ap (λ t. p x && t) also ∙ and_false (p x)) in
        ap (count_by p) (kept false also) ∙ (omega (arith, one, more))
    by false true is also more =
        let one = count_by-no both x xs (ap (λ t. t && q x) is) in
        let other = count_by-no p x (filter q xs) is in
        ap (count_by p) (kept true also) ∙ (omega (arith, one, other, more))
    by false false is also more =
        let one = count_by-no both x xs (ap (λ t. t && q x) is) in
        ap (count_by p) (kept false also) ∙ (omega (arith, one, more))

counted : (h : History) (symbol : Name) (kind : KeyKind) → count_by (λ (k : Key). same_kind k.kind kind) (keys_that_match h None (Some symbol)) ≡ keys_of h symbol kind
counted h symbol kind = count_both (λ (k : Key). same_kind k.kind kind) (λ (k : Key). same_name k.name symbol) (stored_keys h)

-- the numbers of listed keys
abbrev pub numbers_of : List Key → Outcome
numbers_of keys = outcomes.Keys (count_by (λ (k : Key). same_kind k.kind kinds.TableData) keys) (count_by (λ (k : Key). same_kind k.kind kinds.TableIndex) keys)
    (count_by (λ (k : Key). same_kind k.kind kinds.Version) keys) (count_by (λ (k : Key). same_kind k.kind kinds.VersionRef) keys) (count_by (λ (k : Key). same_kind k.kind kinds.Staged) keys)

numbers_are : (h : History) (symbol : Name) → numbers_of (keys_that_match h None (Some symbol)) ≡ keys_outcome h symbol
numbers_are h symbol i = outcomes.Keys (counted h symbol kinds.TableData i) (counted h symbol kinds.TableIndex i) (counted h symbol kinds.Version i) (counted h symbol kinds.VersionRef i) (counted h symbol kinds.Staged i)

module _ (number : ℕ) (sole : Bool) (before now : ℕ) (old new : History) (looks : Looks IsClaimed number sole old new) (symbol : Name) where
  keys_legal_where : (place : ℕ) (outcome : Outcome) → IsWithin old new place
      → ((client : Client) (faulted : Bool) → (Rose before now → faulted ≡ true) → IsLegalOutcome new client (commands.Keys symbol) (plain_reply place outcome) (record { start = length old; stop = length new; faulted = faulted }) outcome)
      → IsLegalForAll number before now old new (commands.Keys symbol) (plain_reply place outcome)
  keys_legal_where place outcome within clause client own faulted rose =
      legal_without_events client (commands.Keys symbol) (plain_reply place outcome) old new faulted (served_has_none (commands.Keys symbol) refl) sole (subst (λ n. Looks IsClaimed n sole old new) (sym own) looks)
      refl refl refl within (λ cut. refl) (clause client faulted rose)

  pub keys_want_memory : (place : ℕ) → place ≡ length old → IsLegalForAll number before now old new (commands.Keys symbol) (plain_reply place (outcomes.Refused refusals.NoMemory))
  keys_want_memory place here = keys_legal_where place (outcomes.Refused refusals.NoMemory) (record { from = omega (arith, here); to = omega (arith, here, looks_length number sole old new looks) }) (λ client faulted rose. tt)

  pub keys_fault : (place : ℕ) → place ≡ length old → Rose before now → IsLegalForAll number before now old new (commands.Keys symbol) (plain_reply place (outcomes.Refused refusals.StoreFault))
  keys_fault place here rose = keys_legal_where place (outcomes.Refused refusals.StoreFault) (record { from = omega (arith, here); to = omega (arith, here, looks_length number sole old new looks) }) (λ client faulted flag. flag rose)

  pub keys_legal : (place : ℕ) (keys : List Key) → place ≡ length new → keys ≡ keys_that_match new None (Some symbol) → IsLegalForAll number before now old new (commands.Keys symbol) (plain_reply place (numbers_of keys))
  keys_legal place keys here are =
      keys_legal_where place (numbers_of keys) (record { from = omega (arith, here, looks_length number sole old new looks); to = omega (arith, here) }) (λ client faulted rose.
      ap numbers_of are ∙ (numbers_are new symbol ∙ ap (λ h. keys_outcome h symbol) (sym (ap (history_at new) here ∙ history_at_end new))))
