-- The tries of what is asked, one after another.
use Rattle.std.proofs.Common.{◌≡◌, ℕ, ◌+◌, Bool, true, List, [], ◌++◌, length, refl, sym, ◌∙◌, ap, subst, inl, inr, Result, Ok, Err}
use Rattle.std.specs.Prelude.{◌⊎◌}
use Rattle.std.proofs.lemmas.Bool.{true≢false}
use Rattle.std.proofs.lemmas.List.{append_assoc}
use Rattle.frame_core.specs.declared.refusal.Refusal.TheVariants as refusals
use Rattle.frame_core.specs.declared.refusal.Refused.{Refused}
use Rattle.key_kind.specs.Names.{Name}
use Rattle.bucket_core.specs.declared.event.Event.{Event}
use Rattle.bucket_core.specs.History.{History, history_at}
use Rattle.bucket_core.specs.Calls.{IsSteady}
use Rattle.store_model.specs.Library.{state_of}
use Rattle.frame_write.specs.declared.options.Options.{Options}
use Rattle.frame_write.specs.declared.options.Committed.{Committed}
use Rattle.version_chain.specs.Traces.{Went}
use Rattle.version_chain.specs.Stops.{HasCause}
use Rattle.reply_model.specs.Moves.{IsMetTry}
use Rattle.reply_model.proofs.MetTries as met_more_of
use Rattle.reply_model.proofs.MetTries.{met_quiet}
use Rattle.frame_write.specs.Tries.{Made, DidMeet, DidFail, DidTry, DidEnd, DidRefused, IsMet, MetTries}
use Rattle.frame_write.proofs.CommandLemmas.{is_answer}
use Rattle.frame_write.proofs.TriesLemmas.{try_steady, met_from, moved_place, tries_more, last_met}
use Rattle.frame_write.proofs.MetTries.{met_one}
use Rattle.append_update.specs.declared.wish.Wish.{Wish}
use Rattle.append_update.specs.Asking.{IsAnswered, Declines, Wants, FitsBase, Loses}
use Rattle.append_update.specs.Attempts.{DidGone, DidMeetWanted, DidAttempt}
use Rattle.append_update.proofs.AskedLemmas.{good_answer}
use Rattle.append_update.proofs.AttemptLemmas.{tries_gone, gone_met}
use Rattle.append_update.proofs.LaterLemmas.{lost_later}

-- a failed try is not refused with Moved
failed_not_moved : (client : ℕ) (sole : Bool) (symbol : Name) (Asked : Made → Type 0) (limit before now from : ℕ) (old new : History) (refused : Refused) → DidFail client sole symbol Asked limit before now from old new refused
    → (at : ℕ) → refused.why ≡ refusals.Moved at → ⊥
failed_not_moved client sole symbol Asked limit before now from old new refused d at is = elim d [
  | inl s ↦ subst (HasCause limit before now new refused) is s.cause
  | inr s ↦ clash (sym s.why ∙ is)
]
  where
    clash : refusals.StoreFault ≡ refusals.Moved at → ⊥
    clash e = cc

-- what a try did, of the bucket as it was before earlier calls
module _ {B : Type 0} (number limit faults : B → ℕ) (sole : B → Bool) (a b : B) (steady : IsSteady number limit faults sole a b) (symbol : Name) (wish : Wish) (options : Options) (now : ℕ) (x y : History) where
  abbrev Did : ℕ → Bool → ℕ → ℕ → Result Committed Refused → Type 0
  Did client alone most before r = DidAttempt client alone symbol (IsAnswered client symbol wish options) (Declines symbol wish options) (Wants symbol wish options) (FitsBase wish) most before now x y r

  abbrev Tried : ℕ → Bool → ℕ → ℕ → Result Committed Refused → Type 0
  Tried client alone most before r = DidTry client alone symbol (IsAnswered client symbol wish options) most before now (length x) x y r

  tried : (r : Result Committed Refused) → Tried (number b) (sole b) (limit b) (faults b) r → Tried (number a) (sole a) (limit a) (faults a) r
  tried r d = try_steady number limit faults sole a b steady symbol now (length x) x y (λ n. IsAnswered n symbol wish options) r d

  went_steady : (u v : History) (own : List Event) → Went (number b) (sole b) u v own → Went (number b) (sole a) u v own
  went_steady u v own w = record { more = w.more; is = w.is; own_are = w.own_are; alone = λ t. w.alone (steady.stays_sole t); lawful = w.lawful }

  met_steady : (look : ℕ) (refused : Refused) → DidMeet (number b) (sole b) symbol look x y refused → DidMeet (number b) (sole a) symbol look x y refused
  met_steady look refused m = record {
    puts = m.puts;
    entry = m.entry;
    is_try = m.is_try;
    showed = m.showed;
    put = went_steady x m.showed _ m.put;
    shown = m.shown;
    dropped = went_steady m.showed y _ m.dropped;
    met = m.met;
    why = m.why;
  }

  pub attempt_steady : (r : Result Committed Refused) → Did (number b) (sole b) (limit b) (faults b) r → Did (number a) (sole a) (limit a) (faults a) r
  attempt_steady (Ok done) d = tried (Ok done) d
  attempt_steady (Err refused) d = elim d [
    | inl m ↦ inl (subst (λ n. DidMeetWanted n (sole a) symbol (Wants symbol wish options) x y refused) steady.same_number (record { look = m.look; from = m.from; wants = m.wants; met = met_steady m.look refused m.met }))
    | inr rest ↦ elim rest [
      | inl g ↦ inr (inl (subst (λ n. DidGone n (sole a) symbol (FitsBase wish) x y refused) steady.same_number (record {
        went = went_steady x y [] g.went;
        met = g.met;
        why = g.why;
        shown = g.shown;
        look = g.look;
        from = g.from;
        between = g.between;
        lost = g.lost;
      })))
      | inr end ↦ elim end [
        | inl f ↦ inr (inr (elim (tried (Err refused) (inr f.0)) [ inl m ↦ absurd (failed_not_moved (number b) (sole b) symbol _ (limit b) (faults b) now (length x) x y refused f.0 refused.place m.why) | inr e ↦ inl (e, f.1) ]))
        | inr r ↦ inr (inr (subst (λ n. DidEnd n (sole a) symbol (IsAnswered n symbol wish options) (Declines symbol wish options) (Wants symbol wish options) (limit a) (faults a) now x y refused) steady.same_number (inr (record {
          went = went_steady x y [] r.went;
          place = r.place;
          refuses = r.refuses;
        }))))
      ]
    ]
  ]

module _ (client : ℕ) (sole : Bool) (symbol : Name) (wish : Wish) (options : Options) (limit before now : ℕ) (mid new : History) (refused : Refused)
    (d : DidAttempt client sole symbol (IsAnswered client symbol wish options) (Declines symbol wish options) (Wants symbol wish options) (FitsBase wish) limit before now mid new (Err refused)) where
  -- a try that was not met came to its end
  pub end_else : ((at : ℕ) → refused.why ≡ refusals.Moved at → ⊥) → DidEnd client sole symbol (IsAnswered client symbol wish options) (Declines symbol wish options) (Wants symbol wish options) limit before now mid new refused
  end_else apart = elim d [
    | inl m ↦ absurd (apart refused.place m.met.why)
    | inr rest ↦ elim rest [ inl g ↦ absurd (apart refused.place g.why) | inr e ↦ e ]
  ]

  -- one that was refused with Moved was met
  met_again : (at : ℕ) → refused.why ≡ refusals.Moved at → DidMeetWanted client sole symbol (Wants symbol wish options) mid new refused ⊎ DidGone client sole symbol (FitsBase wish) mid new refused
  met_again at is = elim d [
    | inl m ↦ inl m
    | inr rest ↦ elim rest [
      | inl g ↦ inr g
      | inr e ↦ elim e [
        | inl f ↦ absurd (failed_not_moved client sole symbol (IsAnswered client symbol wish options) limit before now (length mid) mid new refused f.0 at is)
        | inr r ↦ absurd (true≢false (sym (good_answer wish options.prune options.at (state_of (history_at new refused.place) symbol) refused.why r.refuses) ∙ ap is_answer is))
      ]
    ]
  ]

  -- seen from where the try began
  met_mid : DidMeetWanted client sole symbol (Wants symbol wish options) mid new refused → DidMeet client sole symbol (length mid) mid new refused
  met_mid m = met_from client sole symbol m.look (length mid) mid mid new m.from (record { more = []; is = refl; own_are = refl; alone = λ e. refl; lawful = λ l. l }) refused m.met

  pub met_place : (at : ℕ) → refused.why ≡ refusals.Moved at → refused.place ≡ at
  met_place at is = elim (met_again at is) [
    | inl m ↦ moved_place client sole symbol (length mid) mid new refused at is (met_mid m)
    | inr g ↦ same (sym g.why ∙ is)
  ]
    where
      same : refusals.Moved refused.place ≡ refusals.Moved at → refused.place ≡ at
      same e = cc

  pub met_more : (old : History) (n at : ℕ) → refused.why ≡ refusals.Moved at → DidRefused client sole symbol old mid n → DidRefused client sole symbol old new (n + 1)
  met_more old n at is so_far = elim (met_again at is) [
    | inl m ↦ tries_more client sole symbol old mid new n refused so_far (met_mid m)
    | inr g ↦ tries_gone client sole symbol (FitsBase wish) old mid new n refused so_far g
  ]

  pub met_last : (old : History) (n at : ℕ) → refused.why ≡ refusals.Moved at → DidRefused client sole symbol old mid n → IsMet client symbol (length old) new refused.place
  met_last old n at is so_far = elim (met_again at is) [
    | inl m ↦ last_met client sole symbol old mid new n refused so_far (met_mid m)
    | inr g ↦ gone_met client sole symbol (FitsBase wish) old mid new n refused so_far g
  ]

  -- as the reader of the history sees it
  pub met_seen : (at : ℕ) → refused.why ≡ refusals.Moved at → IsMetTry new client symbol true (λ q. Wants symbol wish options (history_at new q)) (Loses symbol wish new) (length mid) (length new) refused.place
  met_seen at is = elim (met_again at is) [
    | inl m ↦ met_one client sole symbol (Wants symbol wish options) (Loses symbol wish) m.look mid new refused m.from m.met m.wants
    | inr g ↦ met_quiet client symbol true (Wants symbol wish options) (Loses symbol wish) g.look refused.place mid new g.went.more g.from g.between g.went.is g.went.own_are g.shown g.lost
  ]

  pub met_each : (old : History) (n last at : ℕ) → refused.why ≡ refusals.Moved at → MetTries client symbol (Wants symbol wish options) (Loses symbol wish) n old mid last
      → MetTries client symbol (Wants symbol wish options) (Loses symbol wish) (n + 1) old new refused.place
  met_each old n last at is so_far =
      let w : (more : History) × (new ≡ more ++ mid) = elim (met_again at is) [
        | inl m ↦ (m.met.dropped.more ++ m.met.put.more, m.met.dropped.is ∙ (ap (λ h. m.met.dropped.more ++ h) m.met.put.is ∙ sym (append_assoc m.met.dropped.more m.met.put.more mid)))
        | inr g ↦ (g.went.more, g.went.is)
      ] in
      met_more_of.met_more client symbol true (Wants symbol wish options) (Loses symbol wish) (lost_later symbol (FitsBase wish)) n old mid new w.0 last refused.place w.1 so_far (met_seen at is)
