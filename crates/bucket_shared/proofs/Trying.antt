-- What a changing call did, from what its turn showed.
use Rattle.std.proofs.Common.{◌≡◌, ℕ, suc, ◌∷◌, ◌<◌, ◌^◌, cond, nat_eq, length, drop, Option, IfSome, refl, sym, ap, ◌∙◌, subst, arith}
use Rattle.std.specs.Prelude.{Result, Ok, Err}
use Rattle.std.proofs.lemmas.List.{length-reverse}
use Rattle.turn_cell.specs.declared.badge.Badge.{Badge}
use Rattle.turn_cell.specs.declared.view.View.{View}
use Rattle.turn_cell.specs.Views.{resting_view}
use Rattle.key_kind.specs.declared.key.Key.{Key}
use Rattle.bucket_core.specs.declared.event.Event.{Event}
use Rattle.bucket_core.specs.declared.event.Event.TheVariants as events
use Rattle.bucket_core.specs.declared.answer.StoreErr.{StoreErr}
use Rattle.bucket_core.specs.declared.contents.Contents.{Contents}
use Rattle.bucket_core.specs.History.{History, Bytes, author, puts_by}
use Rattle.bucket_core.specs.Calls.{put_event}
use Rattle.store_model.specs.Law.{IsClaimed}
use Rattle.bucket_shared.specs.declared.seated.Seated.{Seated}
use Rattle.bucket_shared.specs.declared.store.Store.{Store}
use Rattle.bucket_shared.specs.Changes.{IsMade, IsClaimedLater, AddsTested, DidTry}
use Rattle.bucket_shared.specs.Notes.{KeepsNotes}
use Rattle.bucket_shared.specs.SeatCalls.{Stays, number_at, badge_at, seen_at}
use Rattle.bucket_shared.specs.Sole.{is_sole}
use Rattle.bucket_shared.specs.Stories.{event_row, history}
use Rattle.bucket_shared.specs.Turns.{StoreSeat, HasTurn, MayAdd, HasAdded}
use Rattle.bucket_shared.proofs.Adding.{Adds-look}
use Rattle.bucket_shared.proofs.NotesKept.{KeepsNotes-add}
use Rattle.std.specs.Prelude.{true, is_ok, Bool, ◌==◌}
use Rattle.std.proofs.lemmas.Bool.{true≢false, eq-eqb}
use Rattle.bucket_core.proofs.BucketLemmas.{puts_by-le-length}

-- ---- in the turn

-- the change that was made, by the name of its event
pub made_as : (now : Contents) (limit : ℕ) (h : History) (tested : History → Type 0) {e f : Event} → e ≡ f → IsMade now limit f tested h → IsMade now limit e tested h
made_as now limit h tested is made = subst (λ (x : Event). IsMade now limit x tested h) (sym is) made

module _ (s : Seated) (mid : StoreSeat) (store : Store) (e : Event) (tested : History → Type 0) (turn : HasTurn s.seat mid store) (claim : IsClaimedLater s e) where
  -- the claim holds of the whole history
  pub claimed : (now : Contents) → IsMade now s.limit e tested (history mid) → IsClaimed (history mid) e
  claimed now made = claim (history mid) turn.looks turn.stands.lawful made.may

  -- so the event may be added
  pub may_add : (after : Store) (row : Option ℕ) → IsMade after.contents s.limit e tested (history mid) → after.given ≡ store.given → author e ≡ number_at s → event_row e ≡ row → IfSome row (λ n. n < 256) → MayAdd mid after row e
  may_add after row made given by is bound = record {
    holds = turn.holds;
    none_begun = turn.none_begun;
    author = by ∙ sym (ap (λ (b : Badge). b.number) turn.badge);
    row_is = is;
    bound = bound;
    room = omega (arith, made.room, s.limited, length-reverse mid.me.0.seen);
    shows = made.shows;
    lawful = ((made.may, claimed after.contents made), turn.stands.lawful);
    given = given ∙ turn.given;
    ended = turn.ended;
    had = turn.had;
  }

  -- and what was added followed what was tested
  pub adds_tested : (new : Seated) (now : Contents) (place : ℕ) → IsMade now s.limit e tested (history mid) → seen_at new ≡ e ∷ history mid → place ≡ length (seen_at new) → AddsTested s new e tested place
  adds_tested new now place made is at = record {
    adds = Adds-look (number_at s) (is_sole (badge_at s)) (seen_at s) (history mid) (seen_at new) e turn.looks is made.may (claimed now made);
    place_is = at;
    within = omega (arith, at, ap length is, made.room);
    test = subst (λ (h : History). tested (drop 1 h)) (sym is) made.test;
    served = ap (puts_by (number_at s)) is ∙ one_more e turn.served;
  }
    where
      one_more : (event : Event) → puts_by (number_at s) (history mid) ≡ puts_by (number_at s) (seen_at s) → puts_by (number_at s) (event ∷ history mid) ≡ puts_by (number_at s) (event ∷ seen_at s)
      one_more (events.Put c key body) same = ap (λ (z : ℕ). cond (nat_eq c (number_at s)) (suc z) z) same
      one_more (events.Refer c symbol was entry list) same = same
      one_more (events.Name c snap body) same = same
      one_more (events.Unname c snap) same = same
      one_more (events.Drop c key) same = same

-- the turn was given again without an event
pub stays_given : (old new : Seated) (mid : StoreSeat) (store : Store) → HasTurn old.seat mid store → new.seat.table_id ≡ mid.table_id → new.seat.me.0 ≡ resting_view mid.me.0 → new.limit ≡ old.limit → Stays old new
stays_given old new mid store turn cell view limit = record {
  store = cell ∙ turn.same_cell;
  badge = ap (λ (v : View Event). v.badge) view ∙ turn.badge;
  limit = limit;
  noted = subst (λ (v : View Event). KeepsNotes old.seat.me.0.notes v) (sym view) turn.noted;
}

-- the turn was given with an event
pub stays_added : (old new : Seated) (mid : StoreSeat) (store : Store) (e : Event) → HasTurn old.seat mid store → HasAdded mid new.seat e → new.limit ≡ old.limit → Stays old new
stays_added old new mid store e turn added limit = record {
  store = added.same_cell ∙ turn.same_cell;
  badge = added.badge ∙ turn.badge;
  limit = limit;
  noted = KeepsNotes-add old.seat.me.0.notes mid.me.0 new.seat.me.0 e turn.noted added.seen added.notes;
}

-- ---- the client's serial

-- the client made one more put, and its puts fit a number
pub record HasPut (old new : Seated) : Type 0 where
  pub one_more : puts_by (number_at old) (seen_at new) ≡ suc (puts_by (number_at old) (seen_at old))
  pub room : puts_by (number_at old) (seen_at old) < 2 ^ 62

-- of a put
pub served_put : (old new : Seated) (key : Key) (body : Bytes) (tested : History → Type 0) (refuses : History → StoreErr → Type 0) (r : Result ℕ StoreErr) → is_ok r ≡ true → DidTry old new (put_event (number_at old) key body) tested refuses r → HasPut old new
served_put old new key body tested refuses (Ok place) is did =
    let n = number_at old in
    let own : (n == n) ≡ true = eq-eqb n n refl in
    let more : puts_by n (seen_at new) ≡ suc (puts_by n (seen_at old)) = did.served ∙ ap (λ (b : Bool). cond b (suc (puts_by n (seen_at old))) (puts_by n (seen_at old))) own in
    record { one_more = more; room = omega (arith, more, did.place_is, did.within, old.limited, puts_by-le-length n (seen_at new)) }
served_put old new key body tested refuses (Err why) is did = absurd (true≢false (sym is))
