-- How several puts and drops go on, one by one.
use Rattle.std.proofs.Common.{◌≡◌, ℕ, suc, ◌+◌, ◌≤◌, Bool, false, List, [], ◌∷◌, ◌++◌, length, take, drop, refl, ap, sym, ◌∙◌, subst, inl, inr, Some, cond, arith}
use Rattle.std.specs.Prelude.{map, slice_get}
use Rattle.std.specs.List.{AllByRecursion}
use Rattle.std.proofs.lemmas.Bool.{eq-eqb}
use mathlib.Core.Logic.{∥∥₁_map}
use Rattle.frame_core.specs.declared.refusal.Refused.{Refused}
use Rattle.key_kind.specs.declared.key.Key.{Key}
use Rattle.key_kind.specs.Keys.{same_key}
use Rattle.key_kind.proofs.KeyTests.{same_key_is}
use Rattle.bucket_core.specs.declared.event.Event.{Event}
use Rattle.bucket_core.specs.History.{History, Bytes, puts_by, AllByOthers}
use Rattle.bucket_core.specs.Laws.{Adds}
use Rattle.bucket_core.specs.Calls.{put_event, drop_event}
use Rattle.store_model.specs.Law.{IsClaimed, IsLawful}
use Rattle.store_model.specs.OwnPuts.{IsOwnPut, AreOwnPuts}
use Rattle.store_model.proofs.Stability.{is_false, puts_other}
use Rattle.store_model.proofs.Told.{own_puts_stay, own_puts_grow}
use Rattle.store_model.proofs.OwnPuts.{own_at_drop}
use Rattle.reply_model.specs.Tries.{put_of, drop_of}
use Rattle.version_chain.specs.Traces.{Went}
use Rattle.version_chain.specs.Stops.{StopsAt}
use Rattle.version_chain.specs.StoreCalls.{StoppedCall}
use Rattle.frame_write.specs.PutCalls.{StoppedCalls}
use Rattle.frame_write.specs.Plans.{IsPutAt, ArePutsFrom}
use Rattle.frame_write.specs.Loops.{PutSoFar, DroppedSoFar}
use Rattle.frame_write.proofs.ListLemmas.{drop_at, take_at, all_last, map_append}
use Rattle.version_chain.proofs.TraceLemmas.{went_none, went_then, went_adds, went_as, went_longer}

-- others' events leave the number of the client's puts
puts_beside : (client : ℕ) (h more : History) → AllByOthers client more → puts_by client (more ++ h) ≡ puts_by client h
puts_beside client h [] others = refl
puts_beside client h (e ∷ more) others = puts_other (more ++ h) e client others.0 ∙ puts_beside client h more others.1

module _ (client : ℕ) (sole : Bool) (old : History) (puts : List (Key × Bytes)) where
  pub put_none : ArePutsFrom client (puts_by client old) puts → PutSoFar client sole old old puts 0
  put_none may = record { went = went_none client sole old; own = tt; rest = may }

  pub put_next : (now : History) (i : ℕ) (p : Key × Bytes) → slice_get puts i ≡ Some p → PutSoFar client sole old now puts i → IsPutAt client (puts_by client now) p
  put_next now i p at s = (subst (ArePutsFrom client (puts_by client now)) (drop_at puts i p at) s.rest).0

  pub put_more : (now new : History) (i : ℕ) (p : Key × Bytes) → slice_get puts i ≡ Some p → PutSoFar client sole old now puts i → ∥ IsLawful new ∥₁ → Adds IsClaimed client sole now new (put_event client p.0 p.1)
      → PutSoFar client sole old new puts (i + 1)
  put_more now new i p at s lawful g =
      let from : ArePutsFrom client (puts_by client now) (p ∷ drop (i + 1) puts) = subst (ArePutsFrom client (puts_by client now)) (drop_at puts i p at) s.rest in
      let taken : take i puts ++ p ∷ [] ≡ take (i + 1) puts = sym (take_at puts i p at) in
      let owned = own_puts_grow now g.others client p.0 p.1 (take i puts) (subst (λ h. ∥ IsLawful h ∥₁) g.is lawful) g.by_others from.0.table s.own in
      let counted : puts_by client new ≡ suc (puts_by client now) =
      ap (puts_by client) g.is ∙ (ap (λ b. cond b (suc (puts_by client (g.others ++ now))) (puts_by client (g.others ++ now))) (eq-eqb client client refl) ∙ ap suc (puts_beside client now g.others g.by_others)) in
      record {
        went = went_as client sole old new (map (put_of client) (take i puts) ++ put_of client p ∷ []) (map (put_of client) (take (i + 1) puts))
            (sym (map_append (put_of client) (take i puts) (p ∷ [])) ∙ ap (map (put_of client)) taken)
            (went_then client sole old now new (map (put_of client) (take i puts)) (put_of client p ∷ []) s.went (went_adds client sole now new (put_event client p.0 p.1) refl g));
        own = subst (AreOwnPuts new client) taken (subst (λ h. AreOwnPuts h client (take i puts ++ p ∷ [])) (sym g.is)
            (all_last (λ (q : Key × Bytes). IsOwnPut (put_event client p.0 p.1 ∷ (g.others ++ now)) client q.0 q.1) (take i puts) p owned.0 owned.1));
        rest = subst (λ n. ArePutsFrom client n (drop (i + 1) puts)) (sym counted) from.1;
      }

-- some calls stand, and the next was refused: the first ones stand
pub stop_after : (client : ℕ) (sole : Bool) (limit before now : ℕ) (old mid new : History) (es : List Event) (i : ℕ) (e : Event) (refused : Refused) → slice_get es i ≡ Some e
    → Went client sole old mid (take i es) → StoppedCall client sole limit before now mid new e refused → StoppedCalls client sole limit before now old new es refused
stop_after client sole limit before now old mid new es i e refused at w s = elim s.is [
  | inl none ↦ record {
    count = i;
    went = went_as client sole old new (take i es ++ s.own) (take i es) (ap (λ l. take i es ++ l) none ∙ append_none (take i es)) (went_then client sole old mid new (take i es) s.own w s.went);
    stops = stops;
    cause = s.cause;
  }
  | inr one ↦ record {
    count = i + 1;
    went = went_as client sole old new (take i es ++ s.own) (take (i + 1) es) (ap (λ l. take i es ++ l) one ∙ sym (take_at es i e at)) (went_then client sole old mid new (take i es) s.own w s.went);
    stops = stops;
    cause = s.cause;
  }
]
  where
    append_none : (xs : List Event) → xs ++ [] ≡ xs
    append_none [] = refl
    append_none (x ∷ xs) = ap (λ l. x ∷ l) (append_none xs)

    stops : StopsAt client old new refused
    stops =
        let longer : length old ≤ length mid = went_longer client sole old mid (take i es) w in
        record { after = s.stops.after; before = s.stops.before; split = s.stops.split; place = s.stops.place; later = omega (arith, longer, s.stops.later); few = s.stops.few }

-- ---- drops

-- keys of two serials differ
other_serial : (a b : Key) → (a.serial ≡ b.serial → ⊥) → same_key a b ≡ false
other_serial a b apart = is_false _ (λ e. apart (ap (λ (k : Key). k.serial) (same_key_is a b e)))

-- the key of a serial is none of those of later ones
apart_from : (client from serial : ℕ) (key : Key) (puts : List (Key × Bytes)) → key.serial ≡ from → suc from ≤ serial → ArePutsFrom client serial puts
    → AllByRecursion (λ (p : Key × Bytes). same_key key p.0 ≡ false) puts
apart_from client from serial key [] is less all = tt
apart_from client from serial key (p ∷ puts) is less all = (
  other_serial key p.0 (λ e. let same : from ≡ serial = sym is ∙ (e ∙ all.0.serial_is) in omega (arith, less, same)),
  apart_from client from (suc serial) key puts is (omega (arith, less)) all.1,
)

both : {X : Type 0} (P Q R : X → Type 0) → ((x : X) → P x → Q x → R x) → (xs : List X) → AllByRecursion P xs → AllByRecursion Q xs → AllByRecursion R xs
both P Q R f [] ps qs = tt
both P Q R f (x ∷ xs) ps qs = (f x ps.0 qs.0, both P Q R f xs ps.1 qs.1)

module _ (client : ℕ) (sole : Bool) (old : History) (puts : List (Key × Bytes)) where
  pub drop_none : AreOwnPuts old client puts → (serial : ℕ) × ArePutsFrom client serial puts → DroppedSoFar client sole old old puts 0
  drop_none own apart = record { went = went_none client sole old; own = own; serial = apart.0; apart = apart.1 }

  pub drop_next : (now : History) (i : ℕ) (p : Key × Bytes) → slice_get puts i ≡ Some p → DroppedSoFar client sole old now puts i → IsOwnPut now client p.0 p.1
  drop_next now i p at s = (subst (AreOwnPuts now client) (drop_at puts i p at) s.own).0

  pub drop_more : (now new : History) (i : ℕ) (p : Key × Bytes) → slice_get puts i ≡ Some p → DroppedSoFar client sole old now puts i → ∥ IsLawful new ∥₁
      → Adds IsClaimed client sole now new (drop_event client p.0) → DroppedSoFar client sole old new puts (i + 1)
  drop_more now new i p at s lawful g =
      let rest : drop i puts ≡ p ∷ drop (i + 1) puts = drop_at puts i p at in
      let from : ArePutsFrom client s.serial (p ∷ drop (i + 1) puts) = subst (ArePutsFrom client s.serial) rest s.apart in
      let owned : AreOwnPuts now client (p ∷ drop (i + 1) puts) = subst (AreOwnPuts now client) rest s.own in
      let kept : AreOwnPuts (g.others ++ now) client (drop (i + 1) puts) = own_puts_stay now g.others client (drop (i + 1) puts) (∥∥₁_map (subst (λ h. ∥ IsLawful h ∥₁) g.is lawful) (λ (l : IsLawful (drop_event client p.0 ∷ (g.others ++ now))). l.1)) g.by_others owned.1 in
      let others = apart_from client s.serial (suc s.serial) p.0 (drop (i + 1) puts) from.0.serial_is (omega arith) from.1 in
      record {
        went = went_as client sole old new (map (drop_of client) (take i puts) ++ drop_of client p ∷ []) (map (drop_of client) (take (i + 1) puts))
            (sym (map_append (drop_of client) (take i puts) (p ∷ [])) ∙ ap (map (drop_of client)) (sym (take_at puts i p at)))
            (went_then client sole old now new (map (drop_of client) (take i puts)) (drop_of client p ∷ []) s.went (went_adds client sole now new (drop_event client p.0) refl g));
        own = subst (λ h. AreOwnPuts h client (drop (i + 1) puts)) (sym g.is)
            (both (λ (q : Key × Bytes). IsOwnPut (g.others ++ now) client q.0 q.1) (λ (q : Key × Bytes). same_key p.0 q.0 ≡ false) (λ (q : Key × Bytes). IsOwnPut (drop_event client p.0 ∷ (g.others ++ now)) client q.0 q.1)
            (λ q o other. own_at_drop (g.others ++ now) client p.0 client q.0 q.1 other o) (drop (i + 1) puts) kept others);
        serial = suc s.serial;
        apart = from.1;
      }
