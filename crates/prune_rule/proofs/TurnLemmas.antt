-- The own events of all tries are those of a turn, or the beginning of one.
use Rattle.std.proofs.Common.{◌≡◌, ◌⊎◌, ℕ, ◌+◌, ◌-◌, ◌≤◌, ◌<◌, Bool, true, false, List, [], ◌∷◌, ◌++◌, length, refl, ap, sym, ◌∙◌, subst, inl, inr, None, Option, arith, length-append}
use Rattle.std.specs.Prelude.{map}
use Rattle.std.specs.List.{flat_map, AllByRecursion}
use Rattle.key_kind.specs.declared.key.Key.{Key}
use Rattle.key_kind.specs.Names.{Name}
use Rattle.bucket_core.specs.declared.event.Event.{Event}
use Rattle.bucket_core.specs.declared.event.Event.TheVariants as events
use Rattle.bucket_core.specs.declared.event.Change.{Change}
use Rattle.bucket_core.specs.History.{History, Bytes}
use Rattle.reply_model.specs.Answering.{Session}
use Rattle.reply_model.specs.Windows.{Window, refers_by_others}
use Rattle.reply_model.specs.Tries.{put_of, one_if, IsTry, IsRefused, IsTurn}
use Rattle.reply_model.specs.OwnEvents.{AnyMarks, IsBeginning}
use Rattle.prune_rule.specs.Tries.{IsPart, no_event, one_put, one_drop}
use Rattle.version_chain.proofs.TraceLemmas.{append_assoc}
use Rattle.prune_rule.proofs.TriesLemmas.{flat_last, all_last}

pub append_none : {X : Type 0} (xs : List X) → xs ++ [] ≡ xs
append_none [] = refl
append_none (x ∷ xs) = ap (λ l. x ∷ l) (append_none xs)

module _ (h : History) (s : Session) (w : Window) (symbol : Name) (tries : List (List Event)) (refused : AllByRecursion (IsRefused s.client symbol false) tries) where
  -- refused tries and a commit
  pub done_turn : {told : Bool} → length tries ≤ refers_by_others h s.client symbol w → length tries < s.tries → (puts : List (Key × Bytes)) (was : Option Key) (entry : Key) (list : List Change) → IsTry symbol false puts entry
      → IsTurn h s w symbol false true told AnyMarks (flat_map (λ t. t) tries ++ (map (put_of s.client) puts ++ events.Refer s.client symbol was entry list ∷ []))
  done_turn met few puts was entry list is_try = record {
    tries = tries;
    last = map (put_of s.client) puts ++ events.Refer s.client symbol was entry list ∷ [];
    is = refl;
    refused = refused;
    met = met;
    few = omega (arith, few);
    ends = (puts, was, entry, list, is_try, tt, refl);
  }

  -- refused tries alone
  pub open_turn : {told : Bool} → length tries ≤ refers_by_others h s.client symbol w → length tries ≤ s.tries - one_if told → IsTurn h s w symbol false false told AnyMarks (flat_map (λ t. t) tries)
  open_turn met few = record { tries = tries; last = []; is = sym (append_none (flat_map (λ t. t) tries)); refused = refused; met = met; few = omega (arith, few); ends = refl }

  -- refused tries and a part of one more
  pub cut_turn : (own : List Event) (met_in_part : ℕ) → length tries < s.tries → length tries + met_in_part ≤ refers_by_others h s.client symbol w → IsPart s.client symbol met_in_part own
      → IsBeginning (IsTurn h s w symbol false true false AnyMarks) (flat_map (λ t. t) tries ++ own) ⊎ IsBeginning (IsTurn h s w symbol false false false AnyMarks) (flat_map (λ t. t) tries ++ own)
  cut_turn _ m few met no_event = inr (record {
    more = [];
    whole = subst (IsTurn h s w symbol false false false AnyMarks) (sym (append_none (flat_map (λ t. t) tries ++ []) ∙ append_none (flat_map (λ t. t) tries))) (open_turn (omega (arith, met)) (omega (arith, few)));
  })
  cut_turn _ m few met (one_put entry body is_try) = inl (record {
    more = events.Refer s.client symbol None entry [] ∷ [];
    whole = subst (IsTurn h s w symbol false true false AnyMarks) (sym (append_assoc (flat_map (λ t. t) tries) (events.Put s.client entry body ∷ []) (events.Refer s.client symbol None entry [] ∷ [])))
        (done_turn (omega (arith, met)) few ((entry, body) ∷ []) None entry [] is_try);
  })
  cut_turn _ m few met (one_drop entry body is_try one) =
      let last : List Event = events.Put s.client entry body ∷ events.Drop s.client entry ∷ [] in
      let size : length (tries ++ last ∷ []) ≡ length tries + 1 = length-append tries (last ∷ []) in
      inr (record {
        more = [];
        whole = record {
          tries = tries ++ last ∷ [];
          last = [];
          is = append_none (flat_map (λ t. t) tries ++ last) ∙ (sym (flat_last tries last) ∙ sym (append_none (flat_map (λ t. t) (tries ++ last ∷ []))));
          refused = all_last (IsRefused s.client symbol false) tries last refused ((entry, body) ∷ [], entry, is_try, refl);
          met = omega (arith, size, met, one);
          few = omega (arith, size, few);
          ends = refl;
        };
      })
