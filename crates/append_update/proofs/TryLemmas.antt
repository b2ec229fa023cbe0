-- One try: what a walk, a plan and a commit over it did.
use Rattle.std.proofs.Common.{◌≡◌, ℕ, ◌≤◌, Bool, List, [], ◌++◌, length, map, sym, ap, ◌∙◌, subst, inl, inr, arith, Option, Result, Ok, Err, length-append}
use Rattle.std.specs.Prelude.{◌+◌, ◌*◌}
use Rattle.std.specs.Option.{option_map_or}
use Rattle.std.specs.List.{AllZip}
use Rattle.std.proofs.lemmas.List.{append_assoc}
use Rattle.frame_core.specs.declared.refusal.Refusal.{Refusal}
use Rattle.frame_core.specs.declared.refusal.Refusal.TheVariants as refusals
use Rattle.frame_core.specs.declared.refusal.Refused.{Refused}
use Rattle.segment_cut.specs.Cuttings.{IsCutting}
use Rattle.index_tree.specs.declared.index.Slot.{Slot}
use Rattle.key_kind.specs.declared.key.Key.{Key}
use Rattle.key_kind.specs.Names.{Name}
use Rattle.bucket_core.specs.History.{History, history_at, puts_by}
use Rattle.bucket_core.specs.Laws.{Looks}
use Rattle.store_model.specs.Library.{State, Version, state_of, base_of, next_number}
use Rattle.store_model.specs.Law.{IsClaimed}
use Rattle.reply_model.specs.Answering.{Answer, committed}
use Rattle.reply_model.specs.Tries.{put_of}
use Rattle.reply_model.specs.Blocks.{tiles_across, parts_of}
use Rattle.reply_model.specs.Keyed.{block_keys, IsKeyedPart}
use Rattle.reply_model.specs.Standing.{row_sizes, fresh_in, slices, parts_laid}
use Rattle.version_chain.specs.declared.tip.ChainTip.{ChainTip}
use Rattle.version_chain.specs.States.{IsLookRefusal, RefusesWalk}
use Rattle.version_chain.specs.Tips.{IsTipAt}
use Rattle.version_chain.specs.Traces.{Went}
use Rattle.version_chain.proofs.TraceLemmas.{went_looks}
use Rattle.frame_write.specs.declared.options.Options.{Options}
use Rattle.frame_write.specs.declared.options.Committed.{Committed}
use Rattle.frame_write.specs.declared.pieces.LinkPlan.{LinkPlan}
use Rattle.frame_write.specs.Plans.{IsUnmoved}
use Rattle.frame_write.specs.Pieces.{laid}
use Rattle.frame_write.specs.Links.{IsLinkMade}
use Rattle.frame_write.specs.Tries.{Made, DidTry, DidFail, IsBusy}
use Rattle.frame_write.proofs.MeetLemmas.{met_sooner}
use Rattle.frame_write.proofs.CommitLemmas.{walk_stops}
use Rattle.frame_write.proofs.TriesLemmas.{try_from, met_from, fail_from}
use Rattle.append_update.specs.declared.wish.Wish.{Wish}
use Rattle.append_update.specs.Asking.{answer_to, IsAnswered, Declines, Wants, FitsBase, IsPlanOf}
use Rattle.append_update.specs.Attempts.{DidAttempt}
use Rattle.append_update.specs.Looking.{RefusesPlan}
use Rattle.append_update.proofs.BaseLemmas.{walked_here, walk_wider}
use Rattle.append_update.specs.RowBlocks.{kept_keys, AreSmall, HavePartKeys}
use Rattle.append_update.specs.Shares.{MakesSlots}
use Rattle.reply_model.specs.Blocks.{run_cutting}
use Rattle.append_update.proofs.AskedLemmas.{answer_unmoved}
use Rattle.append_update.proofs.MadeLemmas.{makes_version, try_on}
use Rattle.append_update.proofs.LaidKeys.{HasKept, laid_keys, parts_keyed}
use Rattle.append_update.proofs.PutCounts.{puts_counted}
use Rattle.append_update.proofs.RowSizes.{laid_rows, tiles_counted}

-- ---- a tip that was walked, later

abbrev pub tip_later : (old new others : History) (symbol : Name) (prune : Bool) (tip : ChainTip) → new ≡ others ++ old → IsTipAt old symbol prune tip → IsTipAt new symbol prune tip
tip_later old new others symbol prune tip is at = record {
  later = others ++ at.later;
  before = at.before;
  split = is ∙ (ap (λ h. others ++ h) at.split ∙ sym (append_assoc others at.later at.before));
  place = at.place;
  is = at.is;
}

-- a refusal of a look is one of the whole try
pub plan_wider : (client : ℕ) (symbol : Name) (Fits : Version → Type 0) (answer : State → Result Answer Refusal) (h : History) (before mid now : ℕ) (others old between new : History) (refused : Refused) → before ≤ mid → between ≡ others ++ old
    → RefusesPlan client symbol Fits answer h mid now between new refused → RefusesPlan client symbol Fits answer h before now old new refused
plan_wider client symbol Fits answer h before mid now others old between new refused le is r = elim r [
  | inl look ↦ elim look [
    | inl w ↦ inl (inl (walk_wider before mid now others old between new refused le is w))
    | inr m ↦ inl (inr m)
  ]
  | inr d ↦ inr d
]

-- ---- where the store was full

busy_else : (Busy : History → Type 0) (old new : History) (place : ℕ) (why : Refusal) → (q : ℕ) × (length old ≤ q) × (q ≤ place) × Busy (history_at new q) → IsBusy Busy old new place why
busy_else busy old new place (refusals.Spent count) some = some
busy_else busy old new place why some = tt

look_busy : (Busy : History → Type 0) (before now : ℕ) (old new : History) (place : ℕ) (why : Refusal) → IsLookRefusal before now why → IsBusy Busy old new place why
look_busy busy before now old new place (refusals.Spent count) is = absurd is
look_busy busy before now old new place why is = tt

-- ---- the ends of a try

module _ (client : ℕ) (sole : Bool) (symbol : Name) (wish : Wish) (options : Options) (limit before now : ℕ) (old : History) where
  abbrev pub Did : History → Result Committed Refused → Type 0
  Did new r = DidAttempt client sole symbol (IsAnswered client symbol wish options) (Declines symbol wish options) (Wants symbol wish options) (FitsBase wish) limit before now old new r

  -- a look failed
  pub look_ends : (new : History) (refused : Refused) → Looks IsClaimed client sole old new → RefusesWalk before now old new refused → Did new (Err refused)
  look_ends new refused looks r =
      inr (inr (inl (inl (walk_stops client sole symbol limit before now (length old) old new refused looks r), look_busy (Wants symbol wish options) before now old new refused.place refused.why r.why)))

  -- there is no plan
  pub plan_ends : (new : History) (tip : ChainTip) (refused : Refused) → Looks IsClaimed client sole old new → (at : IsTipAt new symbol options.prune tip) → length old ≤ tip.place
      → RefusesPlan client symbol (FitsBase wish) (answer_to wish options.prune options.at) at.before before now old new refused → Did new (Err refused)
  plan_ends new tip refused looks at from r = elim r [
    | inl look ↦ elim look [
      | inl w ↦ look_ends new refused looks w
      | inr m ↦ inr (inl (record {
        went = went_looks client sole old new looks;
        met = met_sooner client symbol (length at.before) (length old) new refused.place (subst (λ n. length old ≤ n) at.place from) m.met;
        why = m.why;
        shown = m.shown;
        look = length at.before;
        from = subst (λ n. length old ≤ n) at.place from;
        between = m.met.added;
        lost = m.lost;
      }))
    ]
    | inr d ↦
        let size : length new ≡ length at.later + length at.before = ap length at.split ∙ length-append at.later at.before in
        let here : history_at new refused.place ≡ at.before = ap (history_at new) (d.place ∙ sym at.place) ∙ walked_here new symbol options.prune tip at in
        inr (inr (inr (record {
          went = went_looks client sole old new looks;
          place = record { from = omega (arith, from, at.place, d.place); to = omega (arith, size, d.place) };
          refuses = subst (λ h. Declines symbol wish options h refused.why) (sym here) d.answered;
        })))
  ]

  -- a commit was tried
  module _ (mid new : History) (looks : Went client sole old mid []) (tip : ChainTip) (at : IsTipAt mid symbol options.prune tip) (from : length old ≤ tip.place)
      (plan : LinkPlan) (of : IsPlanOf at.before symbol options (answer_to wish options.prune options.at) plan) (more : History) (is : new ≡ more ++ mid) where
    abbrev across : ℕ
    across = tiles_across (run_cutting options.cutting) (length of.fits.version.frame.schema.columns)

    slices_are : across ≡ slices (run_cutting options.cutting) (state_of at.before symbol) plan.change
    slices_are = ap (λ o. option_map_or (λ (v : Version). tiles_across (run_cutting options.cutting) (length v.frame.schema.columns)) o 0) (sym of.fits.makes)

    -- the index that was made has the keys of its parts
    keys_made : (serial : ℕ) (m : Made) → IsCutting options.cutting → AreSmall (run_cutting options.cutting) at.before symbol → IsLinkMade client serial symbol (state_of (history_at mid tip.place) symbol) plan options m
        → HavePartKeys (run_cutting options.cutting) at.before symbol plan.change m.index.slots
    keys_made serial m cut small i blocks names rows_is names_is =
        let parts = parts_of (run_cutting options.cutting) (base_of (state_of at.before symbol)) blocks plan.change in
        let version : ℕ = next_number (state_of (history_at mid tip.place) symbol) in
        let keys : List (List Key) = block_keys (laid options.cutting client symbol version 0 serial plan.pieces) in
        let kept : AllZip (HasKept across) (map (kept_keys names) parts) keys =
        subst (λ (l : List (Option (List Key))). AllZip (HasKept across) l keys) (of.keys cut small blocks names rows_is names_is)
        (laid_keys options.cutting cut client symbol version of.fits.version.frame.schema of.fits.pieces.slots 0 serial plan.pieces of.fits.pieces.each) in
        subst (λ (slots : List Slot). AllZip (IsKeyedPart names (slices (run_cutting options.cutting) (state_of at.before symbol) plan.change)) parts (block_keys slots)) (sym i.slots)
        (subst (λ k. AllZip (IsKeyedPart names k) parts keys) slices_are (parts_keyed names across parts keys kept))

    made : (m : Made) → Went client sole mid m.before (map (put_of client) m.puts) → IsLinkMade client (puts_by client mid) symbol (state_of (history_at mid tip.place) symbol) plan options m → IsAnswered client symbol wish options m
    made m went i =
        let same : state_of (history_at mid tip.place) symbol ≡ state_of at.before symbol = ap (λ h. state_of h symbol) (walked_here mid symbol options.prune tip at) in
        record {
          change = plan.change;
          list = i.list;
          answered = answer_unmoved wish options (state_of at.before symbol) (state_of m.before symbol) plan.change (subst (λ st. IsUnmoved st (state_of m.before symbol)) same i.unmoved) of.answered;
          built = record {
            version = makes_version (state_of at.before symbol) plan.change of.fits.version of.fits.makes;
            walked = at.before;
            later = went.more ++ at.later;
            split = went.is ∙ (ap (λ h. went.more ++ h) at.split ∙ sym (append_assoc went.more at.later at.before));
            unmoved = subst (λ st. IsUnmoved st (state_of m.before symbol)) same i.unmoved;
            put = λ cut small.
                let are = of.blocks cut small in
                let c = run_cutting options.cutting in
                record {
                  tiles = i.puts ∙ ap (λ n. n + 2) (tiles_counted options.cutting of.fits.version.frame.schema of.fits.pieces.slots plan.pieces of.fits.pieces.each
                      ∙ (ap (λ n. n * across) are.fresh ∙ ap (λ n. fresh_in (parts_laid c at.before symbol plan.change) * n) slices_are));
                  rows = ap row_sizes i.slots ∙ (laid_rows options.cutting cut client symbol _ 0 (puts_by client mid) plan.pieces ∙ are.rows);
                  keys = keys_made (puts_by client mid) m cut small i;
                };
            serial = puts_by client mid;
            counted = sym (puts_counted client sole mid m.before m.puts went);
            slots = subst (MakesSlots plan.change symbol options.cutting client (puts_by client mid) at.before) (sym (i.slots ∙ ap (λ st. laid options.cutting client symbol (next_number st) 0 (puts_by client mid) plan.pieces) same))
                (of.slots client (puts_by client mid));
          };
        }

    within : (Asked : Made → Type 0) (refused : Refused) → DidFail client sole symbol Asked limit before now tip.place mid new refused → length mid ≤ refused.place
    within Asked refused f = elim f [
      | inl s ↦ omega (arith, s.stops.place, s.stops.later)
      | inr s ↦ omega (arith, s.stops.place, s.stops.later)
    ]

    pub commit_ends : (r : Result Committed Refused)
        → DidTry client sole symbol (IsLinkMade client (puts_by client mid) symbol (state_of (history_at mid tip.place) symbol) plan options) limit before now tip.place mid new r → Did new r
    commit_ends r d = by r (try_on client sole symbol _ (IsAnswered client symbol wish options) mid made limit before now tip.place new r d)
      where
        by : (r : Result Committed Refused) → DidTry client sole symbol (IsAnswered client symbol wish options) limit before now tip.place mid new r → Did new r
        by (Ok done) d = try_from client sole symbol (IsAnswered client symbol wish options) limit before now tip.place (length old) old mid new from looks (Ok done) d
        by (Err refused) d =
            let size : length mid ≡ length at.later + length at.before = ap length at.split ∙ length-append at.later at.before in
            let here : history_at new tip.place ≡ at.before = walked_here new symbol options.prune tip (tip_later mid new more symbol options.prune tip is at) in
            let wants : Wants symbol wish options (history_at new tip.place) =
            (plan.change, subst (λ h. answer_to wish options.prune options.at (state_of h symbol) ≡ Ok (committed (state_of h symbol) options.prune plan.change)) (sym here) of.answered) in
            let busy : IsBusy (Wants symbol wish options) old new refused.place refused.why = elim d [
              | inl m ↦ subst (IsBusy (Wants symbol wish options) old new refused.place) (sym m.why) tt
              | inr f ↦ busy_else (Wants symbol wish options) old new refused.place refused.why (tip.place, from, omega (arith, within (IsAnswered client symbol wish options) refused f, size, at.place), wants)
            ] in
            elim d [
              | inl m ↦ inl (record { look = tip.place; from = from; wants = wants; met = met_from client sole symbol tip.place tip.place old mid new (omega arith) looks refused m })
              | inr f ↦ inr (inr (inl (fail_from client sole symbol (IsAnswered client symbol wish options) limit before now tip.place (length old) old mid new from looks refused f, busy)))
            ]
