-- A try that made no event counts as met.
use Rattle.std.proofs.Common.{◌≡◌, ℕ, ◌+◌, ◌≤◌, Bool, [], ◌++◌, length, ap, sym, ◌∙◌, subst, arith}
use Rattle.std.specs.List.{flat_map}
use Rattle.std.proofs.lemmas.List.{append-nil}
use Rattle.frame_core.specs.declared.refusal.Refused.{Refused}
use Rattle.key_kind.specs.Names.{Name}
use Rattle.bucket_core.specs.History.{History}
use Rattle.store_model.specs.Library.{Version}
use Rattle.version_chain.specs.Traces.{met_in, Went}
use Rattle.frame_write.specs.Tries.{DidRefused, IsMet}
use Rattle.version_chain.proofs.TraceLemmas.{append_assoc, went_then, went_as, went_longer, same_front, met_in-append}
use Rattle.frame_write.proofs.MeetLemmas.{met_sooner, met_once}
use Rattle.append_update.specs.Attempts.{DidGone}

pub tries_gone : (client : ℕ) (sole : Bool) (symbol : Name) (Fits : Version → Type 0) (old mid new : History) (n : ℕ) (refused : Refused) → DidRefused client sole symbol old mid n → DidGone client sole symbol Fits mid new refused → DidRefused client sole symbol old new (n + 1)
tries_gone client sole symbol Fits old mid new n refused a b =
    let w : Went client sole old new (flat_map (λ t. t) a.tries) =
    went_as client sole old new (flat_map (λ t. t) a.tries ++ []) (flat_map (λ t. t) a.tries) (append-nil (flat_map (λ t. t) a.tries)) (went_then client sole old mid new (flat_map (λ t. t) a.tries) [] a.went b.went) in
    let is : new ≡ (b.went.more ++ a.went.more) ++ old = b.went.is ∙ (ap (λ h. b.went.more ++ h) a.went.is ∙ sym (append_assoc b.went.more a.went.more old)) in
    let same : w.more ≡ b.went.more ++ a.went.more = same_front w.more (b.went.more ++ a.went.more) old (sym w.is ∙ is) in
    let count : met_in client symbol w.more ≡ met_in client symbol b.went.more + met_in client symbol a.went.more = ap (met_in client symbol) same ∙ met_in-append client symbol b.went.more a.went.more in
    let some : 1 ≤ met_in client symbol b.went.more = met_once client symbol mid b.went.more refused.place (subst (λ h. IsMet client symbol (length mid) h refused.place) b.went.is b.met) in
    record {
      tries = a.tries;
      refused = a.refused;
      counted = omega (arith, a.counted);
      went = w;
      met = omega (arith, count, a.met, some);
    }

-- the commit that it met stands behind the place at which the first try began
pub gone_met : (client : ℕ) (sole : Bool) (symbol : Name) (Fits : Version → Type 0) (old mid new : History) (n : ℕ) (refused : Refused) → DidRefused client sole symbol old mid n → DidGone client sole symbol Fits mid new refused → IsMet client symbol (length old) new refused.place
gone_met client sole symbol Fits old mid new n refused a b = met_sooner client symbol (length mid) (length old) new refused.place (went_longer client sole old mid (flat_map (λ t. t) a.tries) a.went) b.met
