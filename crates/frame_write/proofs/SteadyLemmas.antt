-- What is said of several calls of a bucket as it is after a call before them holds of it as it was before that call.
use Rattle.std.proofs.Common.{ℕ, Bool, List, subst}
use Rattle.std.specs.Prelude.{map}
use Rattle.frame_core.specs.declared.refusal.Refused.{Refused}
use Rattle.bucket_core.specs.declared.event.Event.{Event}
use Rattle.bucket_core.specs.History.{History, Bytes}
use Rattle.bucket_core.specs.Calls.{IsSteady}
use Rattle.key_kind.specs.declared.key.Key.{Key}
use Rattle.store_model.specs.OwnPuts.{AreOwnPuts}
use Rattle.reply_model.specs.Tries.{put_of}
use Rattle.version_chain.specs.Stops.{HasCause}
use Rattle.version_chain.proofs.SteadyLemmas.{cause_sooner, went_steady}
use Rattle.frame_write.specs.PutCalls.{StoppedCalls, PutAll}

module _ {B : Type 0} (number limit faults : B → ℕ) (sole : B → Bool) (a b : B) (steady : IsSteady number limit faults sole a b) where
  pub puts_steady : (x y : History) (puts : List (Key × Bytes)) → PutAll (number b) (sole b) x y puts → PutAll (number a) (sole a) x y puts
  puts_steady x y puts d = record { went = went_steady number limit faults sole a b steady x y (λ n. map (put_of n) puts) d.went; own = subst (λ n. AreOwnPuts y n puts) steady.same_number d.own }

  pub stops_steady : (now : ℕ) (x y : History) (es : ℕ → List Event) (refused : Refused) → StoppedCalls (number b) (sole b) (limit b) (faults b) now x y (es (number b)) refused
      → StoppedCalls (number a) (sole a) (limit a) (faults a) now x y (es (number a)) refused
  stops_steady now x y es refused s = subst (λ n. StoppedCalls n (sole a) (limit a) (faults a) now x y (es n) refused) steady.same_number (record {
    count = s.count;
    went = record { more = s.went.more; is = s.went.is; own_are = s.went.own_are; alone = λ t. s.went.alone (steady.stays_sole t); lawful = s.went.lawful };
    stops = s.stops;
    cause = subst (λ l. HasCause l (faults a) now y refused refused.why) steady.same_limit (cause_sooner (faults a) (faults b) now (limit b) y steady.faults_rise refused refused.why s.cause);
  })
