-- The own events of all tries are those of a turn, or the beginning of one.
use Rattle.std.proofs.Common.{◌≡◌, ◌⊎◌, ℕ, ◌+◌, ◌-◌, ◌≤◌, ◌<◌, Bool, true, false, List, [], ◌∷◌, ◌++◌, length, take, drop, refl, ap, sym, ◌∙◌, subst, inl, inr, None, Option, arith, length-append}
use Rattle.std.specs.Prelude.{map}
use Rattle.std.specs.List.{flat_map, AllByRecursion}
use Rattle.std.proofs.lemmas.List.{take-append-drop}
use Rattle.key_kind.specs.declared.key.Key.{Key}
use Rattle.key_kind.specs.Names.{Name}
use Rattle.bucket_core.specs.declared.event.Event.{Event}
use Rattle.bucket_core.specs.declared.event.Event.TheVariants as events
use Rattle.bucket_core.specs.declared.event.Change.{Change}
use Rattle.bucket_core.specs.History.{History, Bytes}
use Rattle.reply_model.specs.Answering.{Session}
use Rattle.reply_model.specs.Windows.{Window, refers_by_others}
use Rattle.reply_model.specs.Tries.{put_of, drop_of, one_if, IsTry, IsRefused, IsTurn}
use Rattle.reply_model.specs.OwnEvents.{AnyMarks, IsBeginning}
use Rattle.frame_write.specs.Tries.{IsMet, IsPart, no_event, some_puts, some_drops}
use Rattle.frame_write.proofs.ListLemmas.{all_last, map_append}
use Rattle.version_chain.proofs.TraceLemmas.{append_assoc}
use Rattle.frame_write.proofs.TriesLemmas.{flat_last}

pub append_none : {X : Type 0} (xs : List X) → xs ++ [] ≡ xs
append_none [] = refl
append_none (x ∷ xs) = ap (λ l. x ∷ l) (append_none xs)

split_at_count : {X : Type 0} (n : ℕ) (xs : List X) → take n xs ++ drop n xs ≡ xs
split_at_count n xs = take-append-drop n xs

module _ (h : History) (s : Session) (w : Window) (symbol : Name) (tries : List (List Event)) (refused : AllByRecursion (IsRefused s.client symbol true) tries) where
  -- refused tries and a commit
  pub done_turn : {told : Bool} → length tries ≤ refers_by_others h s.client symbol w → length tries < s.tries → (puts : List (Key × Bytes)) (was : Option Key) (entry : Key) (list : List Change) → IsTry symbol true puts entry
      → IsTurn h s w symbol true true told AnyMarks (flat_map (λ t. t) tries ++ (map (put_of s.client) puts ++ events.Refer s.client symbol was entry list ∷ []))
  done_turn met few puts was entry list is_try = record {
    tries = tries;
    last = map (put_of s.client) puts ++ events.Refer s.client symbol was entry list ∷ [];
    is = refl;
    refused = refused;
    met = met;
    few = omega (arith, few);
    ends = (puts, was, entry, list, is_try, tt, refl);
  }

  -- refused tries alone
  pub open_turn : {told : Bool} → length tries ≤ refers_by_others h s.client symbol w → length tries ≤ s.tries - one_if told → IsTurn h s w symbol true false told AnyMarks (flat_map (λ t. t) tries)
  open_turn met few = record { tries = tries; last = []; is = sym (append_none (flat_map (λ t. t) tries)); refused = refused; met = met; few = omega (arith, few); ends = refl }

  -- refused tries and a part of one more
  pub cut_turn : (own : List Event) (from : ℕ) (new : History) → length tries < s.tries → length tries ≤ refers_by_others h s.client symbol w → ((at : ℕ) → IsMet s.client symbol from new at → length tries + 1 ≤ refers_by_others h s.client symbol w)
      → IsPart s.client symbol from new own
      → IsBeginning (IsTurn h s w symbol true true false AnyMarks) (flat_map (λ t. t) tries ++ own) ⊎ IsBeginning (IsTurn h s w symbol true false false AnyMarks) (flat_map (λ t. t) tries ++ own)
  cut_turn _ from new few met more no_event = inr (record {
    more = [];
    whole = subst (IsTurn h s w symbol true false false AnyMarks) (sym (append_none (flat_map (λ t. t) tries ++ []) ∙ append_none (flat_map (λ t. t) tries))) (open_turn met (omega (arith, few)));
  })
  cut_turn _ from new few met more (some_puts n puts entry is_try) = inl (record {
    more = map (put_of s.client) (drop n puts) ++ events.Refer s.client symbol None entry [] ∷ [];
    whole = subst (IsTurn h s w symbol true true false AnyMarks)
        (sym (append_assoc (flat_map (λ t. t) tries) (map (put_of s.client) (take n puts)) (map (put_of s.client) (drop n puts) ++ events.Refer s.client symbol None entry [] ∷ [])
        ∙ ap (λ l. flat_map (λ t. t) tries ++ l) (sym (append_assoc (map (put_of s.client) (take n puts)) (map (put_of s.client) (drop n puts)) (events.Refer s.client symbol None entry [] ∷ []))
        ∙ ap (λ l. l ++ events.Refer s.client symbol None entry [] ∷ []) (sym (map_append (put_of s.client) (take n puts) (drop n puts)) ∙ ap (map (put_of s.client)) (split_at_count n puts)))))
        (done_turn met few puts None entry [] is_try);
  })
  cut_turn _ from new few met more (some_drops n puts entry is_try at m) = inr (record {
    more = map (drop_of s.client) (drop n puts);
    whole = record {
      tries = tries ++ (map (put_of s.client) puts ++ map (drop_of s.client) puts) ∷ [];
      last = [];
      is = append_assoc (flat_map (λ t. t) tries) (map (put_of s.client) puts ++ map (drop_of s.client) (take n puts)) (map (drop_of s.client) (drop n puts))
          ∙ (ap (λ l. flat_map (λ t. t) tries ++ l) (append_assoc (map (put_of s.client) puts) (map (drop_of s.client) (take n puts)) (map (drop_of s.client) (drop n puts))
          ∙ ap (λ l. map (put_of s.client) puts ++ l) (sym (map_append (drop_of s.client) (take n puts) (drop n puts)) ∙ ap (map (drop_of s.client)) (split_at_count n puts)))
          ∙ (sym (flat_last tries (map (put_of s.client) puts ++ map (drop_of s.client) puts)) ∙ sym (append_none (flat_map (λ t. t) (tries ++ (map (put_of s.client) puts ++ map (drop_of s.client) puts) ∷ [])))));
      refused = all_last (IsRefused s.client symbol true) tries (map (put_of s.client) puts ++ map (drop_of s.client) puts) refused (puts, entry, is_try, refl);
      met = let size : length (tries ++ (map (put_of s.client) puts ++ map (drop_of s.client) puts) ∷ []) ≡ length tries + 1 = length-append tries ((map (put_of s.client) puts ++ map (drop_of s.client) puts) ∷ []) in let one = more at m in omega (arith, size, one);
      few = let size : length (tries ++ (map (put_of s.client) puts ++ map (drop_of s.client) puts) ∷ []) ≡ length tries + 1 = length-append tries ((map (put_of s.client) puts ++ map (drop_of s.client) puts) ∷ []) in omega (arith, size, few);
      ends = refl;
    };
  })
