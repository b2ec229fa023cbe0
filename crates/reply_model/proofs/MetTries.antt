-- From what the calls of a try added to a history to a met try, as its reader sees it.
use Rattle.std.proofs.Common.{◌≡◌, ℕ, suc, ◌+◌, ◌-◌, ◌≤◌, ◌<◌, Bool, List, [], ◌++◌, length, take, ap, sym, ◌∙◌, subst, inl, inr, arith, length-append}
use Rattle.std.specs.Prelude.{map, filter, reverse, nat_eq}
use Rattle.std.proofs.Math.Seq.{take-append_seam}
use Rattle.key_kind.specs.declared.key.Key.{Key}
use Rattle.key_kind.specs.Names.{Name}
use Rattle.bucket_core.specs.declared.event.Event.{Event}
use Rattle.bucket_core.specs.History.{History, Bytes, author, history_at, events_within, referred_at}
use Rattle.reply_model.specs.Tries.{put_of, drop_of, IsTry}
use Rattle.reply_model.specs.Moves.{own_between, IsMetTry, AreMetTries}
use Rattle.reply_model.proofs.Later.{history_at_later}
use Rattle.reply_model.proofs.Moves.{own_later, tries_later}
use Rattle.reply_model.proofs.Places.{within_is_behind, history_at_end}

-- a history went on with these own events, the oldest first, and with events of others
record Went (client : ℕ) (old new : History) (own : List Event) : Type 0 where
  more : History
  is : new ≡ more ++ old
  own_are : reverse (filter (λ e. nat_eq (author e) client) more) ≡ own

-- it holds them between its ends
own_went : (client : ℕ) (old new : History) (own : List Event) → Went client old new own → own_between new client (length old) (length new) ≡ own
own_went client old new own w = ap (λ (es : History). reverse (filter (λ e. nat_eq (author e) client) es)) (window_is w.more new w.is) ∙ w.own_are
  where
    window_is : (more new : History) → new ≡ more ++ old → events_within new (length old) (length new) ≡ more
    window_is more new is =
        within_is_behind new (length old)
        ∙ subst (λ h. take (length h - length old) h ≡ more) (sym is)
        (let size : length (more ++ old) - length old ≡ length more = omega (arith, length-append more old) in
        ap (λ n. take n (more ++ old)) size ∙ take-append_seam more old)

module _ (client : ℕ) (symbol : Name) (makes : Bool) (Wants : History → Type 0) (Loses : History → ℕ → ℕ → Type 0) where
  -- so many tries were met up to this history
  abbrev Met : ℕ → History → ℕ → ℕ → ℕ → Type 0
  Met n h start stop now = AreMetTries h client symbol makes (λ q. Wants (history_at h q)) (Loses h) n start stop now

  -- a try that left its keys
  pub met_one : (from now : ℕ) (old showed new put dropped : History) (puts : List (Key × Bytes)) (entry : Key) → length old ≤ from → from < now → IsTry symbol makes puts entry
      → showed ≡ put ++ old → reverse (filter (λ e. nat_eq (author e) client) put) ≡ map (put_of client) puts → referred_at showed symbol ≡ now
      → new ≡ dropped ++ showed → reverse (filter (λ e. nat_eq (author e) client) dropped) ≡ map (drop_of client) puts → Wants (history_at new from)
      → IsMetTry new client symbol makes (λ q. Wants (history_at new q)) (Loses new) (length old) (length new) now
  met_one from now old showed new put dropped puts entry le between is_try put_is put_own shown dropped_is dropped_own wants =
      let longer : length showed ≤ length new = omega (arith, ap length dropped_is, length-append dropped showed) in
      record {
        look = from;
        showed = length showed;
        begins = le;
        between = between;
        shown = ap (λ h. referred_at (history_at h (length showed)) symbol) dropped_is
            ∙ (ap (λ h. referred_at h symbol) (history_at_later showed dropped (length showed) (omega arith) ∙ history_at_end showed) ∙ shown);
        ends = longer;
        own = inl (
          record {
            puts = puts;
            entry = entry;
            is_try = is_try;
            put = ap (λ h. own_between h client (length old) (length showed)) dropped_is
                ∙ (own_later showed dropped client (length old) (length showed) (omega arith) ∙ own_went client old showed (map (put_of client) puts) (record { more = put; is = put_is; own_are = put_own }));
            dropped = own_went client showed new (map (drop_of client) puts) (record { more = dropped; is = dropped_is; own_are = dropped_own });
          },
          wants,
        );
      }

  -- a try without events, which found something lost
  pub met_quiet : (from now : ℕ) (old new more : History) → length old ≤ from → from < now → new ≡ more ++ old → reverse (filter (λ e. nat_eq (author e) client) more) ≡ [] → referred_at new symbol ≡ now → Loses new from (length new)
      → IsMetTry new client symbol makes (λ q. Wants (history_at new q)) (Loses new) (length old) (length new) now
  met_quiet from now old new more le between is own shown lost = record {
    look = from;
    showed = length new;
    begins = le;
    between = between;
    shown = ap (λ h. referred_at h symbol) (history_at_end new) ∙ shown;
    ends = omega arith;
    own = inr (own_went client old new [] (record { more = more; is = is; own_are = own }), lost);
  }

  -- one met try more
  pub met_more : ((h more : History) (q z : ℕ) → q ≤ length h → z ≤ length h → Loses h q z → Loses (more ++ h) q z)
      → (n : ℕ) (old mid new more : History) (at now : ℕ) → new ≡ more ++ mid → Met n mid (length old) (length mid) at
      → IsMetTry new client symbol makes (λ q. Wants (history_at new q)) (Loses new) (length mid) (length new) now → Met (n + 1) new (length old) (length new) now
  met_more stays n old mid new more at now is before last =
      let next : suc n ≡ n + 1 = omega arith in
      subst (λ k. Met k new (length old) (length new) now) next (
        length mid,
        at,
        subst (λ h. Met n h (length old) (length mid) at) (sym is)
            (tries_later client symbol makes mid more (λ q. Wants (history_at mid q)) (λ q. Wants (history_at (more ++ mid) q)) (Loses mid) (Loses (more ++ mid))
            (λ q le w. subst Wants (sym (history_at_later mid more q le)) w) (λ q z a b l. stays mid more q z a b l) n (length old) (length mid) at (omega arith) before),
        last,
      )
