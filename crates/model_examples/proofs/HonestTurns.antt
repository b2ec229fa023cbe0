-- Honest replies are legal: two snapshots under one name, of which the second releases its hold; a snapshot that is moved in the middle; and snapshot ends that leave a hold.
use Rattle.byte_fields.specs.Reading.{signed_text}
use Rattle.std.proofs.Common.{ℕ, pos, true, false, List, [], ◌∷◌, Some, None, refl, inl, inr, lit≤, lit<}
use Rattle.frame_core.specs.declared.refusal.Refusal.TheVariants as refusals
use Rattle.bucket_core.specs.declared.event.Event.{Event}
use Rattle.bucket_core.specs.declared.event.Event.TheVariants as events
use Rattle.bucket_core.specs.declared.event.Change.{Change}
use Rattle.bucket_core.specs.declared.event.Change.TheVariants as changes
use Rattle.bucket_core.specs.History.{History, Bytes}
use Rattle.key_kind.specs.Names.{Name}
use Rattle.expr_clause.specs.declared.command.Pick.{Pick}
use Rattle.key_kind.specs.declared.key.Key.{Key}
use Rattle.key_kind.specs.declared.key.Holder.{Holder}
use Rattle.key_kind.specs.declared.key.KeyKind.TheVariants as kinds
use Rattle.key_kind.specs.KeyText.{key_at, key_text}
use Rattle.store_model.specs.declared.chain.ChainMark.{ChainMark}
use Rattle.store_model.specs.declared.chain.ChainMark.TheVariants as marks
use Rattle.store_model.specs.declared.chain.Entry.{Entry}
use Rattle.store_model.specs.declared.snapshot.SnapBody.{SnapBody}
use Rattle.store_model.specs.ChainText.{entry_of, entry_text, snap_of, snap_text}
use Rattle.model_examples.proofs.SmallFrames.{S, k}
use Rattle.model_examples.proofs.Witness as w
use Rattle.model_examples.proofs.WitnessKept as kept
use Rattle.model_examples.proofs.WitnessShared.{element_key}
use Rattle.expr_clause.specs.declared.command.Command.{Command}
use Rattle.expr_clause.specs.declared.command.Command.TheVariants as commands
use Rattle.reply_model.specs.declared.outcome.Outcome.TheVariants as outcomes
use Rattle.reply_model.specs.Tries.{IsTry, of_mark}
use Rattle.reply_model.specs.Legal.{IsLegalSeen}
use Rattle.model_examples.proofs.HonestWrites.{client, window, reply}

abbrev holder : ℕ → Holder
holder number = record { client = number; serial = 0 }

-- an element of one mark, its puts and its commit
abbrev element : Key → ChainMark → Entry
element before mark = record { prev = Some before; changes = mark ∷ [] }

abbrev puts : Key → Key → ChainMark → List (Key × Bytes)
puts key before mark = (key, entry_text (element before mark)) ∷ []

abbrev commits : ℕ → Key → Key → ChainMark → Change → List Event
commits number key before mark change = events.Put number key (entry_text (element before mark)) ∷ events.Refer number S (Some before) key (change ∷ []) ∷ []

abbrev named : Command
named = commands.Snapshot k (record { symbol = S; version = None } ∷ [])

abbrev body : SnapBody
body = record { holder = holder 2; rows = record { symbol = S; version = 0; index = w.table_key kinds.TableIndex 1 } ∷ [] }

-- client 3 holds; client 2 holds and names; client 3 finds the name taken, and releases
abbrev taken : History
taken = events.Name 2 k (snap_text body)
    ∷ events.Refer 2 S (Some (element_key 3 0)) (element_key 2 0) (changes.Held (holder 2) 0 ∷ []) ∷ events.Put 2 (element_key 2 0) (entry_text (element (element_key 3 0) (marks.Hold (holder 2) 0)))
    ∷ events.Refer 3 S (Some (w.key kinds.Version 2)) (element_key 3 0) (changes.Held (holder 3) 0 ∷ []) ∷ events.Put 3 (element_key 3 0) (entry_text (element (w.key kinds.Version 2) (marks.Hold (holder 3) 0)))
    ∷ w.written

abbrev released : History
released = events.Refer 3 S (Some (element_key 2 0)) (element_key 3 1) (changes.Released (holder 3) ∷ []) ∷ events.Put 3 (element_key 3 1) (entry_text (element (element_key 2 0) (marks.Release (holder 3)))) ∷ taken

hold_2 : IsTry S false (puts (element_key 2 0) (element_key 3 0) (marks.Hold (holder 2) 0)) (element_key 2 0)
unfolding entry_of key_at key_text signed_text
hold_2 = record { first = []; body = _; element = element (element_key 3 0) (marks.Hold (holder 2) 0); is = refl; entry_is = (refl, refl); spelled = refl; before = of_mark; of_kind = refl }

hold_3 : IsTry S false (puts (element_key 3 0) (w.key kinds.Version 2) (marks.Hold (holder 3) 0)) (element_key 3 0)
unfolding entry_of key_at key_text signed_text
hold_3 = record { first = []; body = _; element = element (w.key kinds.Version 2) (marks.Hold (holder 3) 0); is = refl; entry_is = (refl, refl); spelled = refl; before = of_mark; of_kind = refl }

release_3 : IsTry S false (puts (element_key 3 1) (element_key 2 0) (marks.Release (holder 3))) (element_key 3 1)
unfolding entry_of key_at key_text signed_text
release_3 = record { first = []; body = _; element = element (element_key 2 0) (marks.Release (holder 3)); is = refl; entry_is = (refl, refl); spelled = refl; before = of_mark; of_kind = refl }

pub first_snapshot_is_legal : IsLegalSeen taken (client 2 8) named (reply 9 (8 ∷ []) (outcomes.Kept (record { symbol = S; version = 0; place = 8 } ∷ []))) (window 6 9)
unfolding snap_of key_at key_text signed_text
first_snapshot_is_legal = record {
  after = lit≤ tt;
  before = lit≤ tt;
  listed = refl;
  listed_within = tt;
  own = record {
    events = record {
      holds = commits 2 (element_key 2 0) (element_key 3 0) (marks.Hold (holder 2) 0) (changes.Held (holder 2) 0);
      rest = _;
      is = refl;
      each_hold = record {
        turns = record {
          symbol = S;
          done = true;
          own = commits 2 (element_key 2 0) (element_key 3 0) (marks.Hold (holder 2) 0) (changes.Held (holder 2) 0);
          is = record {
            tries = [];
            last = _;
            is = refl;
            refused = tt;
            met = lit≤ tt;
            few = lit≤ tt;
            ends = (puts (element_key 2 0) (element_key 3 0) (marks.Hold (holder 2) 0), Some (element_key 3 0), element_key 2 0, _, hold_2, (changes.Held (holder 2) 0, refl, refl), refl);
          };
        } ∷ [];
        asked = (refl, tt);
        rising = tt;
        is = refl;
      };
      ends = (snap_text body, refl);
    };
    commits = refl;
    short = λ e f. absurd cc;
    meant = tt;
    late = tt;
  };
  left = record { left = refl; causes = tt };
  outcome = record {
    inside = lit< tt;
    body = snap_text body;
    snapshot = body;
    event = refl;
    spelled = refl;
    rows = refl;
    each = (record { after = lit< tt; before = lit≤ tt; event = (Some (element_key 3 0), element_key 2 0, refl); asked = refl }, tt);
    counted = refl;
    asked = ((λ e. absurd cc), (λ symbol. refl));
  };
}

pub second_snapshot_is_legal : IsLegalSeen released (client 3 8) named (reply 9 (6 ∷ 11 ∷ []) (outcomes.Refused refusals.SnapshotExists)) (window 4 11)
unfolding snap_of key_at key_text signed_text
second_snapshot_is_legal = record {
  after = lit≤ tt;
  before = lit≤ tt;
  listed = refl;
  listed_within = tt;
  own = record {
    events = record {
      holds = commits 3 (element_key 3 0) (w.key kinds.Version 2) (marks.Hold (holder 3) 0) (changes.Held (holder 3) 0);
      rest = commits 3 (element_key 3 1) (element_key 2 0) (marks.Release (holder 3)) (changes.Released (holder 3));
      is = refl;
      each_hold = record {
        turns = record {
          symbol = S;
          done = true;
          own = commits 3 (element_key 3 0) (w.key kinds.Version 2) (marks.Hold (holder 3) 0) (changes.Held (holder 3) 0);
          is = record {
            tries = [];
            last = _;
            is = refl;
            refused = tt;
            met = lit≤ tt;
            few = lit≤ tt;
            ends = (puts (element_key 3 0) (w.key kinds.Version 2) (marks.Hold (holder 3) 0), Some (w.key kinds.Version 2), element_key 3 0, _, hold_3, (changes.Held (holder 3) 0, refl, refl), refl);
          };
        } ∷ [];
        asked = (refl, tt);
        rising = tt;
        is = refl;
      };
      ends = record {
        turns = record {
          symbol = S;
          done = true;
          own = commits 3 (element_key 3 1) (element_key 2 0) (marks.Release (holder 3)) (changes.Released (holder 3));
          is = record {
            tries = [];
            last = _;
            is = refl;
            refused = tt;
            met = lit≤ tt;
            few = lit≤ tt;
            ends = (puts (element_key 3 1) (element_key 2 0) (marks.Release (holder 3)), Some (element_key 2 0), element_key 3 1, _, release_3, (changes.Released (holder 3), refl, refl), refl);
          };
        } ∷ [];
        asked = (refl, tt);
        rising = tt;
        is = refl;
      };
    };
    commits = refl;
    short = λ e f. absurd cc;
    meant = tt;
    late = tt;
  };
  left = record { left = refl; causes = tt };
  outcome = refl;
}

-- ---- with one try, a release that met another's Refer leaves its hold

abbrev mark_put : List (Key × Bytes)
mark_put = puts (w.key kinds.Version 4) (w.key kinds.Version 3) (marks.Release kept.holder)

release_try : IsTry S false mark_put (w.key kinds.Version 4)
unfolding entry_of key_at key_text signed_text
release_try = record { first = []; body = _; element = element (w.key kinds.Version 3) (marks.Release kept.holder); is = refl; entry_is = (refl, refl); spelled = refl; before = of_mark; of_kind = refl }

abbrev left : History
left = events.Drop 1 (w.key kinds.Version 4) ∷ events.Refer 2 S (Some (w.key kinds.Version 3)) (element_key 2 0) (changes.Removed (0 ∷ []) ∷ [])
    ∷ events.Put 1 (w.key kinds.Version 4) (entry_text (element (w.key kinds.Version 3) (marks.Release kept.holder))) ∷ events.Unname 1 k ∷ kept.kept

pub hold_is_left : IsLegalSeen left (client 1 1) (commands.DeleteSnapshot k) (record { place = 8; listed = None; commits = []; left = S ∷ []; outcome = outcomes.Unkept }) (window 7 11)
unfolding snap_of key_at key_text signed_text
hold_is_left = record {
  after = lit≤ tt;
  before = lit≤ tt;
  listed = refl;
  listed_within = tt;
  own = record {
    events = record {
      holder = kept.holder;
      rest = _ ∷ _ ∷ [];
      is = refl;
      held = refl;
      each = record {
        turns = record {
          symbol = S;
          done = false;
          own = _ ∷ _ ∷ [];
          is = record { tries = (_ ∷ _ ∷ []) ∷ []; last = []; is = refl; refused = ((mark_put, w.key kinds.Version 4, release_try, refl), tt); met = lit≤ tt; few = lit≤ tt; ends = refl };
        } ∷ [];
        asked = (refl, tt);
        rising = tt;
        is = refl;
      };
    };
    commits = refl;
    short = λ e f. absurd cc;
    meant = tt;
    late = tt;
  };
  left = record { left = refl; causes = (inr (lit≤ tt), tt) };
  outcome = record { inside = lit< tt; event = refl; snapshot = kept.snapshot; stood = refl; each = (inr (0, lit< tt, refl), tt) };
}

-- ---- a delete_snapshot that wants memory behind its Unname names the hold as left

pub cut_end_is_legal : IsLegalSeen (events.Unname 1 k ∷ kept.kept) (client 1 8) (commands.DeleteSnapshot k)
    (record { place = 8; listed = None; commits = []; left = S ∷ []; outcome = outcomes.Refused refusals.NoMemory }) (window 7 8)
unfolding snap_of key_at key_text signed_text
cut_end_is_legal = record {
  after = lit≤ tt;
  before = lit≤ tt;
  listed = refl;
  listed_within = tt;
  own = record {
    events = inl (record { more = []; whole = record { holder = kept.holder; rest = []; is = refl; held = refl; each = record { turns = []; asked = tt; rising = tt; is = refl } } });
    commits = refl;
    short = λ e f. refl;
    meant = tt;
    late = lit≤ tt;
  };
  left = record { left = refl; causes = (inl refl, tt) };
  outcome = tt;
}

-- ---- with one try, a snapshot of two symbols that is Moved at the second releases the first

abbrev X : Name
X = 88 ∷ []

abbrev x_key : ℕ → ℕ → Key
x_key number serial = record (element_key number serial) { name = X }

abbrev both : List Pick
both = record { symbol = S; version = None } ∷ record { symbol = X; version = Some 0 } ∷ []

abbrev begun : History
begun = events.Refer 2 X None (x_key 2 0) (changes.Wrote w.table (pos 60) ∷ []) ∷ w.written

abbrev moved : History
moved = events.Refer 1 S (Some (w.key kinds.Version 3)) (w.key kinds.Version 5) (changes.Released kept.holder ∷ [])
    ∷ events.Put 1 (w.key kinds.Version 5) (entry_text (element (w.key kinds.Version 3) (marks.Release kept.holder)))
    ∷ events.Drop 1 (x_key 1 4) ∷ events.Refer 2 X (Some (x_key 2 0)) (x_key 2 1) (changes.Wrote w.table (pos 60) ∷ []) ∷ events.Put 1 (x_key 1 4) (entry_text (element (x_key 2 0) (marks.Hold kept.holder 0)))
    ∷ events.Refer 1 S (Some (w.key kinds.Version 2)) (w.key kinds.Version 3) (changes.Held kept.holder 0 ∷ []) ∷ events.Put 1 (w.key kinds.Version 3) (entry_text (element (w.key kinds.Version 2) (marks.Hold kept.holder 0))) ∷ begun

hold_S : IsTry S false (puts (w.key kinds.Version 3) (w.key kinds.Version 2) (marks.Hold kept.holder 0)) (w.key kinds.Version 3)
unfolding entry_of key_at key_text signed_text
hold_S = record { first = []; body = _; element = element (w.key kinds.Version 2) (marks.Hold kept.holder 0); is = refl; entry_is = (refl, refl); spelled = refl; before = of_mark; of_kind = refl }

hold_X : IsTry X false (puts (x_key 1 4) (x_key 2 0) (marks.Hold kept.holder 0)) (x_key 1 4)
unfolding entry_of key_at key_text signed_text
hold_X = record { first = []; body = _; element = element (x_key 2 0) (marks.Hold kept.holder 0); is = refl; entry_is = (refl, refl); spelled = refl; before = of_mark; of_kind = refl }

release_S : IsTry S false (puts (w.key kinds.Version 5) (w.key kinds.Version 3) (marks.Release kept.holder)) (w.key kinds.Version 5)
unfolding entry_of key_at key_text signed_text
release_S = record { first = []; body = _; element = element (w.key kinds.Version 3) (marks.Release kept.holder); is = refl; entry_is = (refl, refl); spelled = refl; before = of_mark; of_kind = refl }

pub moved_snapshot_is_legal : IsLegalSeen moved (client 1 1) (commands.Snapshot k both) (reply 9 (7 ∷ 12 ∷ []) (outcomes.Refused (refusals.Moved 9))) (window 5 12)
moved_snapshot_is_legal = record {
  after = lit≤ tt;
  before = lit≤ tt;
  listed = refl;
  listed_within = tt;
  own = record {
    events = record {
      holds = _ ∷ _ ∷ _ ∷ _ ∷ [];
      rest = _ ∷ _ ∷ [];
      is = refl;
      each_hold = record {
        turns = record {
          symbol = S;
          done = true;
          own = _ ∷ _ ∷ [];
          is = record {
            tries = [];
            last = _;
            is = refl;
            refused = tt;
            met = lit≤ tt;
            few = lit≤ tt;
            ends = (puts (w.key kinds.Version 3) (w.key kinds.Version 2) (marks.Hold kept.holder 0), Some (w.key kinds.Version 2), w.key kinds.Version 3, _, hold_S, (changes.Held kept.holder 0, refl, refl), refl);
          };
        }
            ∷ record {
              symbol = X;
              done = false;
              own = _ ∷ _ ∷ [];
              is = record { tries = (_ ∷ _ ∷ []) ∷ []; last = []; is = refl; refused = ((puts (x_key 1 4) (x_key 2 0) (marks.Hold kept.holder 0), x_key 1 4, hold_X, refl), tt); met = lit≤ tt; few = lit≤ tt; ends = refl };
            } ∷ [];
        asked = (refl, (refl, tt));
        rising = (refl, tt);
        is = refl;
      };
      ends = record {
        turns = record {
          symbol = S;
          done = true;
          own = _ ∷ _ ∷ [];
          is = record {
            tries = [];
            last = _;
            is = refl;
            refused = tt;
            met = lit≤ tt;
            few = lit≤ tt;
            ends = (puts (w.key kinds.Version 5) (w.key kinds.Version 3) (marks.Release kept.holder), Some (w.key kinds.Version 3), w.key kinds.Version 5, _, release_S, (changes.Released kept.holder, refl, refl), refl);
          };
        } ∷ [];
        asked = (refl, tt);
        rising = tt;
        is = refl;
      };
    };
    commits = refl;
    short = λ e f. absurd cc;
    meant = tt;
    late = tt;
  };
  left = record { left = refl; causes = tt };
  outcome = (
    X,
    (1, record { symbol = X; version = Some 0 }, lit< tt, refl, refl),
    record {
      here = refl;
      inside = lit< tt;
      event = _;
      at = refl;
      refers = refl;
      others = λ e. absurd cc;
      enough = lit≤ tt;
      start = 7;
      from = lit≤ tt;
      listed = lit≤ tt;
      stop = 10;
      to = lit≤ tt;
      beside = record {
        looked = 5;
        from = lit≤ tt;
        to = lit≤ tt;
        free = refl;
        held = (λ e. (0, 7, record { after = lit< tt; before = lit≤ tt; event = (Some (w.key kinds.Version 2), w.key kinds.Version 3, refl); asked = refl }), (λ e. absurd cc, tt));
        never = refl;
      };
      tries = (
        7,
        0,
        refl,
        record {
          look = 7;
          showed = 9;
          begins = lit≤ tt;
          between = lit< tt;
          shown = refl;
          ends = lit≤ tt;
          own = inl (record { puts = puts (x_key 1 4) (x_key 2 0) (marks.Hold kept.holder 0); entry = x_key 1 4; is_try = hold_X; put = refl; dropped = refl }, refl);
        },
      );
    },
  );
}
