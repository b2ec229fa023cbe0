-- The calls of a try to commit one change, one bucket after another: what each may do, and what it leaves.
use Rattle.std.proofs.Common.{◌≡◌, ℕ, pos, Bool, List, [], ◌∷◌, length, refl, ap, sym, ◌∙◌, subst, inl, inr, Option, Result, Ok, Err}
use Rattle.std.specs.Prelude.{IsOk}
use Rattle.std.specs.Arc.{arc_value}
use Rattle.frame_core.specs.declared.refusal.Refusal.TheVariants as refusals
use Rattle.frame_core.specs.declared.refusal.Refused.{Refused}
use Rattle.key_kind.specs.declared.key.Key.{Key}
use Rattle.key_kind.specs.Names.{Name}
use Rattle.bucket_core.specs.declared.event.Change.{Change}
use Rattle.bucket_core.specs.declared.event.Event.TheVariants as events
use Rattle.bucket_core.specs.declared.answer.StoreErr.{StoreErr}
use Rattle.bucket_core.specs.declared.answer.StoreErr.TheVariants as errs
use Rattle.bucket_core.specs.History.{History, puts_by}
use Rattle.bucket_core.specs.Laws.{Adds}
use Rattle.bucket_core.specs.Calls.{IsSteady, MayTryRefer, DidChange, RefusesRefer, put_event, refer_event, drop_event}
use Rattle.store_model.specs.declared.chain.LinkRow.{LinkRow}
use Rattle.store_model.specs.Law.{IsClaimed, IsLawful, MayPut}
use Rattle.store_model.specs.OwnPuts.{IsOwnPut}
use Rattle.version_chain.specs.declared.marking.Marking.{Marking}
use Rattle.version_chain.specs.declared.state.SymbolState.{SymbolState}
use Rattle.version_chain.specs.Stops.{refused_by}
use Rattle.version_chain.specs.StoreCalls.{StoppedCall}
use Rattle.version_chain.specs.Marking.{element_key, MayMark, IsMarkEntry, Marked, MarkMet, MarkStopped, DidMark}
use Rattle.version_chain.specs.MarkPlans.{IsMarking, IsOwnEntry}
use Rattle.version_chain.proofs.SteadyLemmas.{change_steady, grown_steady, stop_steady, steady_then}
use Rattle.version_chain.proofs.ElementForms.{element_key_rules}
use Rattle.version_chain.proofs.MarkEnds.{put_stops, refer_may, commit_stands, refer_fails, still_own, mark_met, drop_stops}

module _ (client serial : ℕ) (symbol : Name) (was : Option Key) (c : Change) (m : Marking) (is : IsMarking client serial symbol was c m) where
  -- any row, since none is spelled
  some_row : LinkRow
  some_row = record { version = 0; stamp = pos 0; rows = 0; index = element_key client symbol serial }

  pub marking_entry : IsMarkEntry symbol was m.entry (arc_value m.body) c
  marking_entry = record { kind = ap (λ (k : Key). k.kind) is.entry; name = ap (λ (k : Key). k.name) is.entry; row = some_row; spelled = is.spelled some_row }

  -- the element may be put
  pub marking_may_put : (h : History) (n : ℕ) → client ≡ n → serial ≡ puts_by n h → MayPut h n m.key (arc_value m.body)
  marking_may_put h n own next = subst (λ k. MayPut h n k (arc_value m.body)) (sym is.key) (record {
    key_is = element_key_rules client serial symbol is.is_name;
    fits = is.fits;
    own = own;
    next = next;
    spelled = subst IsOk (sym (is.spelled some_row)) refl;
  })

module _ {B : Type 0} (number limit faults : B → ℕ) (sole : B → Bool) (seen : B → History) (symbol : Name) (state : SymbolState) (c : Change) (client serial : ℕ) (m : Marking) (is : IsMarking client serial symbol state.was c m)
    (a b : B) (may : MayMark (seen a) (number a) symbol state c) where
  abbrev did_mark : B → Result ℕ Refused → Type 0
  did_mark z r = DidMark (number a) (sole a) symbol state.place c (limit a) (faults a) (faults z) (seen a) (seen z) r

  same_key : m.key ≡ m.entry
  same_key = is.key ∙ sym is.entry

  entry : IsMarkEntry symbol state.was m.entry (arc_value m.body) c
  entry = marking_entry client serial symbol state.was c m is

  -- the Put was refused
  pub flow_put_stops : (refused : Refused) → StoppedCall (number a) (sole a) (limit a) (faults a) (faults b) (seen a) (seen b) (put_event (number a) m.key (arc_value m.body)) refused → did_mark b (Err refused)
  flow_put_stops refused s = inr (inl (put_stops (number a) (sole a) symbol state.place state.was m.entry (arc_value m.body) c (limit a) (faults a) (faults b) (seen a) (seen b) refused entry
      (subst (λ k. StoppedCall (number a) (sole a) (limit a) (faults a) (faults b) (seen a) (seen b) (events.Put (number a) k (arc_value m.body)) refused) same_key s)))

  module _ (s1 : IsSteady number limit faults sole a b) (lawful1 : ∥ IsLawful (seen b) ∥₁) (did : Adds IsClaimed (number a) (sole a) (seen a) (seen b) (put_event (number a) m.key (arc_value m.body))) (w : Option Key) (w_is : w ≡ state.was) where
    added : Adds IsClaimed (number a) (sole a) (seen a) (seen b) (events.Put (number a) m.entry (arc_value m.body))
    added = subst (λ k. Adds IsClaimed (number a) (sole a) (seen a) (seen b) (events.Put (number a) k (arc_value m.body))) same_key did

    -- the Refer may be tried
    pub flow_may : MayTryRefer IsClaimed (seen b) (number b) symbol w m.entry (arc_value m.changes)
    flow_may =
        subst (λ n. MayTryRefer IsClaimed (seen b) n symbol w m.entry (arc_value m.changes)) (sym s1.same_number)
        (subst (λ x. MayTryRefer IsClaimed (seen b) (number a) symbol x m.entry (arc_value m.changes)) (sym w_is)
        (subst (λ cs. MayTryRefer IsClaimed (seen b) (number a) symbol state.was m.entry cs) (sym is.changes)
        (refer_may (number a) (sole a) symbol state c (limit a) (faults a) (seen a) (seen b) m.entry (arc_value m.body) may entry added lawful1)))

    module _ (d : B) (s2 : IsSteady number limit faults sole b d) (lawful2 : ∥ IsLawful (seen d) ∥₁) where
      abbrev referred : Result ℕ StoreErr → Type 0
      referred r = DidChange IsClaimed (number b) (sole b) (limit b) (faults b) (faults d) (seen b) (seen d) (refer_event (number b) symbol w m.entry (arc_value m.changes)) (RefusesRefer (limit b) symbol w) r

      changed : (r : Result ℕ StoreErr) → referred r → DidChange IsClaimed (number a) (sole a) (limit a) (faults a) (faults d) (seen b) (seen d) (refer_event (number a) symbol state.was m.entry (c ∷ [])) (RefusesRefer (limit a) symbol state.was) r
      changed r x =
          change_steady number limit faults sole a b s1 (faults d) (seen b) (seen d) (λ n. refer_event n symbol state.was m.entry (c ∷ [])) (λ l. RefusesRefer l symbol state.was) r
          (subst (λ v. DidChange IsClaimed (number b) (sole b) (limit b) (faults b) (faults d) (seen b) (seen d) (refer_event (number b) symbol v m.entry (c ∷ [])) (RefusesRefer (limit b) symbol v) r) w_is
          (subst (λ cs. DidChange IsClaimed (number b) (sole b) (limit b) (faults b) (faults d) (seen b) (seen d) (refer_event (number b) symbol w m.entry cs) (RefusesRefer (limit b) symbol w) r) is.changes x))

      -- the commit stands
      pub flow_done : (place : ℕ) → referred (Ok place) → Marked (number a) (sole a) symbol state.place c (seen a) (seen d) place
      flow_done place x =
          let y = changed (Ok place) x in
          commit_stands (number a) (sole a) symbol state c (limit a) (faults a) (seen a) (seen b) m.entry (arc_value m.body) may entry added (seen d) y.0 lawful2 place y.1

      -- the Refer was refused, and not for another's commit
      pub flow_fails : (err : StoreErr) (place : ℕ) (refused : Refused) → ((moved : ℕ) → err ≡ errs.Moved moved → ⊥) → place ≡ length (seen b) → refused ≡ refused_by place err → referred (Err err) → did_mark d (Err refused)
      flow_fails err place refused met placed refused_is x =
          subst (λ r. did_mark d (Err r)) (sym (refused_is ∙ ap (λ n. refused_by n err) placed))
          (refer_fails (number a) (sole a) symbol state c (limit a) (faults a) (seen a) (seen b) m.entry (arc_value m.body) may entry added (faults d) (seen d) err met lawful2 (changed (Err err) x))

      module _ (now : ℕ) (err : StoreErr) (err_is : err ≡ errs.Moved now) (x : referred (Err err)) where
        moved : DidChange IsClaimed (number a) (sole a) (limit a) (faults a) (faults d) (seen b) (seen d) (refer_event (number a) symbol state.was m.entry (c ∷ [])) (RefusesRefer (limit a) symbol state.was) (Err (errs.Moved now))
        moved = subst (λ y. DidChange IsClaimed (number a) (sole a) (limit a) (faults a) (faults d) (seen b) (seen d) (refer_event (number a) symbol state.was m.entry (c ∷ [])) (RefusesRefer (limit a) symbol state.was) (Err y)) err_is (changed (Err err) x)

        both_steady : IsSteady number limit faults sole a d
        both_steady = steady_then number limit faults sole a b s1 d s2

        -- the element may be dropped again
        pub flow_own : IsOwnEntry (seen d) (number d) m.entry
        flow_own = (
          arc_value m.body,
          subst (λ n. IsOwnPut (seen d) n m.entry (arc_value m.body)) (sym both_steady.same_number)
              (still_own (number a) (sole a) symbol state c (limit a) (faults a) (seen a) (seen b) m.entry (arc_value m.body) may entry added (seen d) moved.0 now moved.1 lawful2),
        )

        -- it was
        pub flow_met : (z : B) → Adds IsClaimed (number d) (sole d) (seen d) (seen z) (drop_event (number d) m.entry) → MarkMet (number a) (sole a) symbol state.place c (seen a) (seen z) (record { place = now; why = refusals.Moved now })
        flow_met z dropped = mark_met (number a) (sole a) symbol state c (limit a) (faults a) (seen a) (seen b) m.entry (arc_value m.body) may entry added (seen d) moved.0 now moved.1 (seen z)
            (grown_steady number limit faults sole a d both_steady (seen d) (seen z) (λ n. drop_event n m.entry ∷ []) dropped)

        -- or its Drop was refused
        pub flow_drop_stops : (z : B) (refused : Refused) → StoppedCall (number d) (sole d) (limit d) (faults d) (faults z) (seen d) (seen z) (drop_event (number d) m.entry) refused → did_mark z (Err refused)
        flow_drop_stops z refused s = inr (inl (drop_stops (number a) (sole a) symbol state c (limit a) (faults a) (seen a) (seen b) m.entry (arc_value m.body) may entry added (seen d) moved.0 now moved.1 (faults z) (seen z) refused
            (stop_steady number limit faults sole a d both_steady (faults z) (seen d) (seen z) (λ n. drop_event n m.entry) refused s)))
