-- The reply of a reclaim is legal.
use Rattle.std.proofs.Common.{◌≡◌, ℕ, ◌+◌, ◌≤◌, Bool, true, false, List, [], ◌∷◌, ◌++◌, map, length, refl, ap, sym, ◌∙◌, subst, inl, inr, arith, cond, None, Result, Ok, Err, length-append}
use Rattle.std.specs.Prelude.{◌⊎◌, ⊤, Contains, MatchBool, is_some, count_by, filter}
use Rattle.std.specs.List.{list_any, AllByRecursion}
use Rattle.std.specs.List.Sorted.{IsStrictlySortedBy}
use Rattle.std.proofs.lemmas.Bool.{true≢false}
use Rattle.std.proofs.lemmas.List.Kept.{IsStrictlySortedBy-filter}
use Rattle.base_types.specs.Faults.{Rose}
use Rattle.frame_core.specs.declared.refusal.Refusal.{Refusal}
use Rattle.frame_core.specs.declared.refusal.Refusal.TheVariants as refusals
use Rattle.frame_core.specs.declared.refusal.Refused.{Refused}
use Rattle.segment_cut.proofs.Lists.{count_by-cons}
use Rattle.key_kind.specs.declared.key.KeyKind.{KeyKind}
use Rattle.key_kind.specs.declared.key.KeyKind.TheVariants as kinds
use Rattle.key_kind.specs.declared.key.Key.{Key}
use Rattle.key_kind.specs.Keys.{is_put, same_kind, key_cmp}
use Rattle.key_kind.specs.Names.{Name}
use Rattle.key_kind.proofs.KeyTests.{same_kind_is}
use Rattle.store_model.proofs.Lists.{contains_first, contains_later, all_weaker}
use Rattle.bucket_core.specs.declared.event.Event.{Event}
use Rattle.bucket_core.specs.declared.event.Event.TheVariants as events
use Rattle.bucket_core.specs.Calls.{drop_event, IsFull}
use Rattle.bucket_core.specs.History.{History, stored, body_put, history_at, event_at, AllByOthers}
use Rattle.bucket_core.specs.Laws.{Looks}
use Rattle.expr_clause.specs.declared.command.Command.TheVariants as commands
use Rattle.store_model.specs.Law.{IsClaimed, IsLawful}
use Rattle.store_model.specs.Library.{state_of}
use Rattle.store_model.specs.Links.{Linked, links, reached, IsUnneeded}
use Rattle.version_chain.specs.States.{IsWithin}
use Rattle.version_chain.specs.Traces.{own_of, Went}
use Rattle.version_chain.specs.Stops.{HasCause, is_fault}
use Rattle.version_chain.proofs.TraceLemmas.{append_assoc, went_looks, went_then, went_longer, split_more, split_at, others_first, own_of-others}
use Rattle.version_chain.proofs.MeetLemmas.{event_at_later}
use Rattle.reply_model.specs.declared.outcome.Outcome.TheVariants as outcomes
use Rattle.reply_model.specs.declared.reply.Reply.{Reply}
use Rattle.reply_model.specs.Answering.{Session}
use Rattle.reply_model.specs.Windows.{Window, own_events, refer_places, is_cut, is_store_fault, is_refused, AreCommits}
use Rattle.reply_model.specs.Tries.{one_if, IsKeyOf}
use Rattle.reply_model.specs.OwnEvents.{IsBeginning, IsOwn, is_done, is_last}
use Rattle.reply_model.specs.Drops.{IsDeadTile, IsDeadIndex, IsDeadPiece, IsDropping, IsReclaiming, HasDeadKey, DroppedByAnother, drops_kind}
use Rattle.reply_model.specs.Legal.{IsLegalOutcome, IsLegalSeen, IsLegalReply}
use Rattle.reply_model.proofs.Places.{history_at_end}
use Rattle.reply_model.proofs.Later.{history_at_later}
use Rattle.prune_rule.specs.declared.finding.Dead.{Dead}
use Rattle.prune_rule.specs.declared.reclaiming.Freed.{Freed}
use Rattle.prune_rule.specs.DeadKeys.{IsDeadKey, FoundDead}
use Rattle.prune_rule.specs.DropCalls.{IsPartOf, Dropped, StoppedDrops}
use Rattle.reply_model.specs.Losses.{LosesIndex}
use Rattle.reply_model.proofs.Moves.{own_nowhere, tries_later}
use Rattle.prune_rule.specs.Finding.{IsFindRefusal, RefusesFinding, MetAll}
use Rattle.prune_rule.specs.Reclaims.{keys_of_kind, reply_of}
use Rattle.prune_rule.proofs.KeySets.{has_is_among, among_is_had, rise_of, of_kind, split_kinds, IsDropKind}
use Rattle.prune_rule.proofs.GoneLemmas.{stays_gone, stood_before, still_put, dropped_by}
use Rattle.prune_rule.proofs.DeadLemmas.{unneeded_put, stored_was_put}
use Rattle.version_chain.proofs.ElementForms.{walked_lawful}
use Rattle.prune_rule.proofs.DropLemmas.{part_all, part_sorted}
use Rattle.prune_rule.proofs.TurnLemmas.{append_none}
use Rattle.prune_rule.proofs.WindowLemmas.{own_in_window, met_in_window, no_places, no_own_refer, is_refer}

-- ---- own events that are drops

drops_no_refer : (client : ℕ) (keys : List Key) → list_any is_refer (map (drop_event client) keys) ≡ false
drops_no_refer client [] = refl
drops_no_refer client (key ∷ keys) = drops_no_refer client keys

drops_no_end : (symbol : Name) (client : ℕ) (keys : List Key) → list_any (is_last (commands.Reclaim symbol)) (map (drop_event client) keys) ≡ false
drops_no_end symbol client [] = refl
drops_no_end symbol client (key ∷ keys) = drops_no_end symbol client keys

drops_counted : (client : ℕ) (kind : KeyKind) (keys : List Key) → keys_of_kind kind keys ≡ count_by (drops_kind kind) (map (drop_event client) keys)
drops_counted client kind [] = refl
drops_counted client kind (key ∷ keys) =
    count_by-cons (λ (k : Key). same_kind k.kind kind) key keys ∙ (ap (λ n. cond (same_kind key.kind kind) 1 0 + n) (drops_counted client kind keys) ∙ sym (count_by-cons (drops_kind kind) (drop_event client key) (map (drop_event client) keys)))

-- the drops, written out
pub drops_are : (client : ℕ) (keys : List Key) → map (drop_event client) keys ≡ map (λ key. events.Drop client key) keys
drops_are client [] = refl
drops_are client (key ∷ keys) = ap (λ l. events.Drop client key ∷ l) (drops_are client keys)

commits_are : (fault : Bool) (places : List ℕ) → places ≡ [] → AreCommits fault [] places
commits_are true places none = inl (sym none)
commits_are false places none = sym none

meant_none : (P : ℕ → Type 0) (fault : Bool) (places : List ℕ) → places ≡ [] → MatchBool fault (AllByRecursion P places) ⊤
meant_none P true places none = subst (AllByRecursion P) (sym none) tt
meant_none P false places none = tt

-- ---- the reply, from facts about its own events

abbrev window : History → History → Bool → Window
window old new faulted = record { start = length old; stop = length new; faulted = faulted }

-- what is to be shown of a reply
record ReplyFacts (new : History) (s : Session) (limit : ℕ) (symbol : Name) (reply : Reply) (w : Window) : Type 0 where
  pub after : w.start ≤ reply.place
  pub before : reply.place ≤ w.stop
  pub events : MatchBool (is_cut reply.outcome)
      (IsBeginning (IsOwn new s w (commands.Reclaim symbol) reply true) (own_events new s.client w) ⊎ IsBeginning (IsOwn new s w (commands.Reclaim symbol) reply false) (own_events new s.client w))
      (IsOwn new s w (commands.Reclaim symbol) reply (is_done reply) (own_events new s.client w))
  pub late : MatchBool (is_cut reply.outcome) (length (own_events new s.client (record w { start = reply.place })) ≤ one_if (is_store_fault reply.outcome)) ⊤
  pub outcome : IsLegalOutcome new (record { session = s; limit = limit }) (commands.Reclaim symbol) reply w reply.outcome

module _ (old new : History) (s : Session) (limit : ℕ) (symbol : Name) (sole : Bool) (faulted : Bool) (freed : List Key) (went : Went s.client sole old new (map (drop_event s.client) freed)) where
  own_is : own_events new s.client (window old new faulted) ≡ map (drop_event s.client) freed
  own_is = own_in_window s.client old new went.more faulted went.is ∙ went.own_are

  places_none : refer_places s.client (length old) (history_at new (length new)) ≡ []
  places_none =
      ap (refer_places s.client (length old)) (history_at_end new)
      ∙ subst (λ h. refer_places s.client (length old) h ≡ []) (sym went.is) (no_places s.client old went.more (no_own_refer s.client went.more (map (drop_event s.client) freed) went.own_are (drops_no_refer s.client freed)))

  reply_legal : (result : Result Freed Refused) → ReplyFacts new s limit symbol (reply_of result) (window old new faulted) → IsLegalReply new (record { session = s; limit = limit }) (commands.Reclaim symbol) (reply_of result) (window old new faulted)
  reply_legal result f = (
    omega arith,
    subst (λ g. IsLegalSeen g (record { session = s; limit = limit }) (commands.Reclaim symbol) (reply_of result) (window old new faulted)) (sym (history_at_end new)) (seen result f),
  )
    where
      seen : (result : Result Freed Refused) → ReplyFacts new s limit symbol (reply_of result) (window old new faulted) → IsLegalSeen new (record { session = s; limit = limit }) (commands.Reclaim symbol) (reply_of result) (window old new faulted)
      seen (Ok freed') f = record {
        after = f.after;
        before = f.before;
        listed = refl;
        listed_within = tt;
        own = record {
          events = f.events;
          commits = sym places_none;
          short = λ cut fault. ap (list_any (is_last (commands.Reclaim symbol))) own_is ∙ drops_no_end symbol s.client freed;
          meant = tt;
          late = f.late;
        };
        left = record { left = refl; causes = tt };
        outcome = f.outcome;
      }
      seen (Err refused) f = record {
        after = f.after;
        before = f.before;
        listed = refl;
        listed_within = tt;
        own = record {
          events = f.events;
          commits = commits_are (is_store_fault (outcomes.Refused refused.why)) _ places_none;
          short = λ cut fault. ap (list_any (is_last (commands.Reclaim symbol))) own_is ∙ drops_no_end symbol s.client freed;
          meant = meant_none _ (is_store_fault (outcomes.Refused refused.why)) _ places_none;
          late = f.late;
        };
        left = record { left = refl; causes = tt };
        outcome = f.outcome;
      }

-- ---- places

event_at_more : (more h : History) (n : ℕ) → n ≤ length h → event_at (more ++ h) n ≡ event_at h n
event_at_more [] h n le = refl
event_at_more (x ∷ more) h n le =
    let size : length (more ++ h) ≡ length more + length h = length-append more h in
    event_at_later x (more ++ h) n (omega (arith, le, size)) ∙ event_at_more more h n le

-- the history at the length of a beginning
pub at_beginning : (new more before : History) (place : ℕ) → new ≡ more ++ before → place ≡ length before → history_at new place ≡ before
at_beginning new more before place is at = (λ i. history_at (is i) (at i)) ∙ (history_at_later before more (length before) (omega arith) ∙ history_at_end before)

-- a dead key is of a kind that clients put, and was put
module _ (old mid : History) (symbol : Name) (dead : Dead) (found : FoundDead old mid symbol dead) where
  pub each_dead : AllByRecursion (IsDeadKey found.before symbol) dead.keys.keys
  each_dead = by dead.keys.keys (λ key c. found.each key (among_is_had dead.keys key c))
    where
      by : (keys : List Key) → ((key : Key) → Contains keys key → IsDeadKey found.before symbol key) → AllByRecursion (IsDeadKey found.before symbol) keys
      by [] f = tt
      by (key ∷ keys) f = (f key (contains_first key keys), by keys (λ k c. f k (contains_later k key keys c)))

  found_is_put : (key : Key) → IsDeadKey found.before symbol key → is_put key.kind ≡ true
  found_is_put key d = elim d [ inl tile ↦ ap is_put tile.0.0 | inr rest ↦ elim rest [ inl index ↦ ap is_put index.0.0 | inr piece ↦ ap is_put piece.1.staged ] ]

  pub found_was_put : (new more : History) → new ≡ more ++ found.before → ∥ IsLawful new ∥₁ → (key : Key) → IsDeadKey found.before symbol key → is_some (body_put found.before key) ≡ true
  found_was_put new more is lawful key d =
      let was : ∥ IsLawful found.before ∥₁ = walked_lawful new more found.before is lawful in
      elim d [
        | inl tile ↦ unneeded_put found.before key was tile.1
        | inr rest ↦ elim rest [
          | inl index ↦ unneeded_put found.before key was index.1
          | inr piece ↦ stored_was_put found.before key (ap is_put piece.1.staged) piece.2
        ]
      ]

-- ---- what is dropped

module _ (old mid : History) (client : ℕ) (symbol : Name) (dead : Dead) (found : FoundDead old mid symbol dead) (sorted : IsStrictlySortedBy key_cmp dead.keys.keys) where
  kind_of : (key : Key) → IsDeadKey found.before symbol key → IsDropKind key.kind
  kind_of key d = elim d [ inl tile ↦ inl tile.0.0 | inr rest ↦ elim rest [ inl index ↦ inr (inl index.0.0) | inr piece ↦ inr (inr piece.1.staged) ] ]

  tile_of : (key : Key) → IsDeadKey found.before symbol key → same_kind key.kind kinds.TableData ≡ true → IsDeadTile found.before symbol key
  tile_of key d e = let kind : key.kind ≡ kinds.TableData = same_kind_is key.kind kinds.TableData e in
      elim d [ inl tile ↦ tile | inr rest ↦ elim rest [ inl index ↦ absurd (index_tile (sym index.0.0 ∙ kind)) | inr piece ↦ absurd (piece_tile (sym piece.1.staged ∙ kind)) ] ]
    where
      index_tile : kinds.TableIndex ≡ kinds.TableData → ⊥
      index_tile e = cc

      piece_tile : kinds.Staged ≡ kinds.TableData → ⊥
      piece_tile e = cc

  index_of : (key : Key) → IsDeadKey found.before symbol key → same_kind key.kind kinds.TableIndex ≡ true → IsDeadIndex found.before symbol key
  index_of key d e = let kind : key.kind ≡ kinds.TableIndex = same_kind_is key.kind kinds.TableIndex e in
      elim d [ inl tile ↦ absurd (tile_index (sym tile.0.0 ∙ kind)) | inr rest ↦ elim rest [ inl index ↦ index | inr piece ↦ absurd (piece_index (sym piece.1.staged ∙ kind)) ] ]
    where
      tile_index : kinds.TableData ≡ kinds.TableIndex → ⊥
      tile_index e = cc

      piece_index : kinds.Staged ≡ kinds.TableIndex → ⊥
      piece_index e = cc

  piece_of : (key : Key) → IsDeadKey found.before symbol key → same_kind key.kind kinds.Staged ≡ true → IsDeadPiece found.before symbol key
  piece_of key d e = let kind : key.kind ≡ kinds.Staged = same_kind_is key.kind kinds.Staged e in
      elim d [ inl tile ↦ absurd (tile_piece (sym tile.0.0 ∙ kind)) | inr rest ↦ elim rest [ inl index ↦ absurd (index_piece (sym index.0.0 ∙ kind)) | inr piece ↦ piece ] ]
    where
      tile_piece : kinds.TableData ≡ kinds.Staged → ⊥
      tile_piece e = cc

      index_piece : kinds.TableIndex ≡ kinds.Staged → ⊥
      index_piece e = cc

  -- the keys that were dropped are dead tiles, then indexes, then pieces, in order
  dropping_of : (freed : List Key) → IsPartOf freed dead.keys.keys → IsDropping found.before client symbol (map (drop_event client) freed)
  dropping_of freed part =
      let rises = part_sorted freed dead.keys.keys part sorted in
      let deads = part_all (IsDeadKey found.before symbol) freed dead.keys.keys part (each_dead old mid symbol dead found) in
      record {
        tiles = of_kind kinds.TableData freed;
        indexes = of_kind kinds.TableIndex freed;
        pieces = of_kind kinds.Staged freed;
        is = ap (map (drop_event client)) (split_kinds freed rises (all_weaker (IsDeadKey found.before symbol) (λ (k : Key). IsDropKind k.kind) kind_of freed deads)) ∙ (drops_are client _
            ∙ ap (map (λ key. events.Drop client key)) (sym (append_assoc (of_kind kinds.TableData freed) (of_kind kinds.TableIndex freed) (of_kind kinds.Staged freed))));
        tiles_rise = rise_of (of_kind kinds.TableData freed) (IsStrictlySortedBy-filter key_cmp (λ (k : Key). same_kind k.kind kinds.TableData) freed rises);
        indexes_rise = rise_of (of_kind kinds.TableIndex freed) (IsStrictlySortedBy-filter key_cmp (λ (k : Key). same_kind k.kind kinds.TableIndex) freed rises);
        pieces_rise = rise_of (of_kind kinds.Staged freed) (IsStrictlySortedBy-filter key_cmp (λ (k : Key). same_kind k.kind kinds.Staged) freed rises);
        dead_tiles = of_those (IsDeadKey found.before symbol) (IsDeadTile found.before symbol) (λ (k : Key). same_kind k.kind kinds.TableData) tile_of freed deads;
        dead_indexes = of_those (IsDeadKey found.before symbol) (IsDeadIndex found.before symbol) (λ (k : Key). same_kind k.kind kinds.TableIndex) index_of freed deads;
        dead_pieces = of_those (IsDeadKey found.before symbol) (IsDeadPiece found.before symbol) (λ (k : Key). same_kind k.kind kinds.Staged) piece_of freed deads;
      }
    where
      of_those : (P Q : Key → Type 0) (p : Key → Bool) → ((key : Key) → P key → p key ≡ true → Q key) → (keys : List Key) → AllByRecursion P keys → AllByRecursion Q (filter p keys)
      of_those P Q p f [] all = tt
      of_those P Q p f (key ∷ keys) all =
          elim (p key) as (λ b. p key ≡ b → AllByRecursion Q (cond b (key ∷ filter p keys) (filter p keys))) [
            | true ↦ λ e. (f key all.0 e, of_those P Q p f keys all.1)
            | false ↦ λ e. of_those P Q p f keys all.1
          ] refl

-- ---- the cases of a refusal

-- the refusals of one try
find_cases : (before now : ℕ) (h : History) (symbol : Name) (why : Refusal) → IsFindRefusal before now h symbol why
    → ((why ≡ refusals.NoSuchSymbol) × ((state_of h symbol).has_reference ≡ false)) ⊎ ((why ≡ refusals.StoreFault) × Rose before now) ⊎ (why ≡ refusals.NoMemory)
find_cases before now h symbol refusals.NoSuchSymbol f = inl (refl, f)
find_cases before now h symbol refusals.StoreFault f = inr (inl (refl, f))
find_cases before now h symbol refusals.NoMemory f = inr (inr refl)
find_cases before now h symbol why f = absurd f

-- the refusals of a drop
cause_cases : (limit before now : ℕ) (h : History) (refused : Refused) (why : Refusal) → HasCause limit before now h refused why
    → (why ≡ refusals.NoMemory) ⊎ ((why ≡ refusals.StoreFault) × Rose before now) ⊎ ((count : ℕ) × (why ≡ refusals.Spent count) × IsFull limit h count × (refused.place ≡ count))
cause_cases limit before now h refused refusals.NoMemory c = inl refl
cause_cases limit before now h refused refusals.StoreFault c = inr (inl (refl, c))
cause_cases limit before now h refused (refusals.Spent count) c = inr (inr (count, refl, c.0, c.1))
cause_cases limit before now h refused why c = absurd c

-- ---- a refused reply

module _ (s : Session) (limit : ℕ) (sole : Bool) (symbol : Name) (before now : ℕ) (old new : History) (faulted : Bool) (rises : Rose before now → faulted ≡ true) where
  -- the reply of a refusal
  abbrev refusing : ℕ → Refusal → Reply
  refusing place why = reply_of (Err (record { place = place; why = why }))

  -- own events behind the place of a refusal
  late_is : (after mid : History) (place : ℕ) → new ≡ after ++ mid → place ≡ length mid → own_events new s.client (record { start = place; stop = length new; faulted = faulted }) ≡ own_of s.client after
  late_is after mid place is at = subst (λ p. own_events new s.client (record { start = p; stop = length new; faulted = faulted }) ≡ own_of s.client after) (sym at) (own_in_window s.client mid new after faulted is)

  -- no own event stands behind a place of what others did
  none_late : Looks IsClaimed s.client sole old new → (place : ℕ) → IsWithin old new place → length (own_events new s.client (record { start = place; stop = length new; faulted = faulted })) ≡ 0
  none_late g place w =
      let r = split_at s.client g.others old place g.by_others w.from (subst (λ h. place ≤ length h) g.is w.to) in
      ap length (late_is r.0 r.1 place (g.is ∙ r.2) r.3 ∙ own_of-others s.client r.0 r.4)

  own_none : Looks IsClaimed s.client sole old new → own_events new s.client (window old new faulted) ≡ []
  own_none g = own_is old new s limit symbol sole faulted [] (went_looks s.client sole old new g)

  -- a refusal of a try without an event of its own, by its cause
  pub find_refused : Looks IsClaimed s.client sole old new → (refused : Refused) → RefusesFinding before now old new symbol refused
      → IsLegalReply new (record { session = s; limit = limit }) (commands.Reclaim symbol) (reply_of (Err refused)) (window old new faulted)
  find_refused g refused f = reply_legal old new s limit symbol sole faulted [] (went_looks s.client sole old new g) (Err refused) (elim (find_cases before now (history_at new refused.place) symbol refused.why f.why) [
    | inl unknown ↦ subst (λ why. ReplyFacts new s limit symbol (refusing refused.place why) (window old new faulted)) (sym unknown.0)
        (record { after = f.place.from; before = f.place.to; events = own_none g; late = tt; outcome = unknown.1 })
    | inr rest ↦ elim rest [
      | inl fault ↦ subst (λ why. ReplyFacts new s limit symbol (refusing refused.place why) (window old new faulted)) (sym fault.0)
          (record { after = f.place.from; before = f.place.to; events = inr (record { more = []; whole = ap (λ es. es ++ []) (own_none g) }); late = omega (arith, none_late g refused.place f.place); outcome = rises fault.1 })
      | inr memory ↦ subst (λ why. ReplyFacts new s limit symbol (refusing refused.place why) (window old new faulted)) (sym memory)
          (record { after = f.place.from; before = f.place.to; events = inr (record { more = []; whole = ap (λ es. es ++ []) (own_none g) }); late = omega (arith, none_late g refused.place f.place); outcome = tt })
    ]
  ])

  -- all tries were met
  pub all_met : (refused : Refused) → MetAll s.client sole symbol s.tries old new refused → IsLegalReply new (record { session = s; limit = limit }) (commands.Reclaim symbol) (reply_of (Err refused)) (window old new faulted)
  all_met refused m = reply_legal old new s limit symbol sole faulted [] (went_looks s.client sole old new m.looks) (Err refused)
      (subst (λ why. ReplyFacts new s limit symbol (refusing refused.place why) (window old new faulted)) (sym m.why) (record {
        after = omega (arith, m.met.added);
        before = m.met.within;
        events = own_none m.looks;
        late = tt;
        outcome = (
          symbol,
          (refl, refl),
          record {
            here = refl;
            inside = m.met.added;
            event = m.met.event;
            at = m.met.at;
            refers = m.met.refers;
            others = m.met.others;
            enough = subst (λ n. s.tries ≤ n) (sym (met_in_window s.client symbol old new m.looks.others faulted m.looks.is)) m.enough;
            start = length old;
            from = omega arith;
            listed = omega arith;
            stop = length new;
            to = omega arith;
            beside = (own_nowhere new s.client (length old), own_nowhere new s.client (length new));
            tries = tries_later s.client symbol false new [] (λ q. ⊥) _ (LosesIndex new symbol) _ (λ q le b. absurd b) (λ q z a b l. l) s.tries (length old) (length new) refused.place (omega arith) m.each;
          },
        );
      }))

  -- ---- behind the looks

  module _ (mid : History) (looks : Looks IsClaimed s.client sole old mid) (dead : Dead) (found : FoundDead old mid symbol dead) (sorted : IsStrictlySortedBy key_cmp dead.keys.keys) (lawful : ∥ IsLawful new ∥₁) where
    mid_later : (freed : List Key) → Went s.client sole mid new (map (drop_event s.client) freed) → (m : History) × (new ≡ m ++ found.before) × (length mid ≤ length new)
    mid_later freed w = (w.more ++ found.later, w.is ∙ (ap (λ h. w.more ++ h) found.split ∙ sym (append_assoc w.more found.later found.before)), went_longer s.client sole mid new _ w)

    before_shorter : length found.before ≤ length mid
    before_shorter = let size : length mid ≡ length found.later + length found.before = ap length found.split ∙ length-append found.later found.before in omega (arith, size)

    both_went : (freed : List Key) → Went s.client sole mid new (map (drop_event s.client) freed) → Went s.client sole old new (map (drop_event s.client) freed)
    both_went freed w = went_then s.client sole old mid new [] (map (drop_event s.client) freed) (went_looks s.client sole old mid looks) w

    -- the own events are the drops of a reclaim
    reclaiming_of : (reply : Reply) (freed : List Key) (w : Went s.client sole mid new (map (drop_event s.client) freed)) → IsPartOf freed dead.keys.keys → dead.place ≤ reply.place → (is_refused reply.outcome ≡ false → dead.place ≡ reply.place)
        → (es : List Event) → es ≡ map (drop_event s.client) freed → IsReclaiming new s.client symbol reply (window old new faulted) es
    reclaiming_of reply freed w part early same es is = (
      dead.place,
      omega (arith, found.from, found.place),
      early,
      same,
      subst (λ g. IsDropping g s.client symbol es) (sym (at_beginning new (mid_later freed w).0 found.before dead.place (mid_later freed w).1 found.place))
          (subst (IsDropping found.before s.client symbol) (sym is) (dropping_of old mid s.client symbol dead found sorted freed part)),
    )

    -- a call of the drops failed
    pub drops_refused : (refused : Refused) → StoppedDrops s.client sole limit before now mid new dead.keys.keys refused
        → IsLegalReply new (record { session = s; limit = limit }) (commands.Reclaim symbol) (reply_of (Err refused)) (window old new faulted)
    drops_refused refused d =
        reply_legal old new s limit symbol sole faulted d.freed (both_went d.freed d.went) (Err refused) (elim (cause_cases limit before now new refused refused.why d.cause) [
          | inl memory ↦ subst (λ why. ReplyFacts new s limit symbol (refusing refused.place why) (window old new faulted)) (sym memory) (record { after = after; before = to; events = inl (begun refusals.NoMemory); late = late_of refusals.NoMemory memory; outcome = tt })
          | inr rest ↦ elim rest [
            | inl fault ↦ subst (λ why. ReplyFacts new s limit symbol (refusing refused.place why) (window old new faulted)) (sym fault.0) (record { after = after; before = to; events = inl (begun refusals.StoreFault); late = late_of refusals.StoreFault fault.0; outcome = rises fault.1 })
            | inr full ↦ subst (λ why. ReplyFacts new s limit symbol (refusing refused.place why) (window old new faulted)) (sym full.1) (record {
              after = after;
              before = to;
              events = inl (begun (refusals.Spent full.0));
              late = late_of (refusals.Spent full.0) full.1;
              outcome = record { here = full.3; full = full.2.1; busy = inr (to_make full.0 full.1) };
            })
          ]
        ])
      where
        early : dead.place ≤ refused.place
        early = omega (arith, found.place, before_shorter, d.stops.place, d.stops.later)

        after : length old ≤ refused.place
        after = omega (arith, found.from, found.place, early)

        to : refused.place ≤ length new
        to = let size : length new ≡ length d.stops.after + length d.stops.before = ap length d.stops.split ∙ length-append d.stops.after d.stops.before in omega (arith, size, d.stops.place)

        begun : (why : Refusal) → IsBeginning (IsOwn new s (window old new faulted) (commands.Reclaim symbol) (refusing refused.place why) true) (own_events new s.client (window old new faulted))
        begun why = record {
          more = [];
          whole = reclaiming_of (refusing refused.place why) d.freed d.went d.part early (λ e. absurd (true≢false e)) _
              (ap (λ es. es ++ []) (own_is old new s limit symbol sole faulted d.freed (both_went d.freed d.went)) ∙ append_none (map (drop_event s.client) d.freed));
        }

        late_of : (why : Refusal) → refused.why ≡ why → length (own_events new s.client (record { start = refused.place; stop = length new; faulted = faulted })) ≤ (cond (is_fault why) 1 0)
        late_of why is = subst (λ w. length (own_events new s.client (record { start = refused.place; stop = length new; faulted = faulted })) ≤ (cond (is_fault w) 1 0)) is
            (subst (λ es. length es ≤ (cond (is_fault refused.why) 1 0)) (sym (late_is d.stops.after d.stops.before refused.place d.stops.split d.stops.place)) d.stops.few)

        to_make : (count : ℕ) → refused.why ≡ refusals.Spent count → (q : ℕ) × (length old ≤ q) × (q ≤ refused.place) × HasDeadKey (history_at new q) symbol
        to_make count e =
            let there = d.busy count e in
            let deadly = found.each there.0 (among_is_had dead.keys there.0 there.1) in
            let m = mid_later d.freed d.went in (
              dead.place,
              omega (arith, found.from, found.place),
              early,
              subst (λ g. HasDeadKey g symbol) (sym (at_beginning new m.0 found.before dead.place m.1 found.place))
                  (there.0, stood_before m.0 found.before new there.0 m.1 (found_is_put old mid symbol dead found there.0 deadly) lawful (found_was_put old mid symbol dead found new m.0 m.1 lawful there.0 deadly) there.2, deadly),
            )

    -- the keys were dropped
    pub drops_done : (freed : List Key) → Dropped s.client sole mid new dead.keys.keys freed
        → IsLegalReply new (record { session = s; limit = limit }) (commands.Reclaim symbol) (reply_of (Ok (record { keys = freed; place = dead.place }))) (window old new faulted)
    drops_done freed d =
        let m = mid_later freed d.went in
        let own = own_is old new s limit symbol sole faulted freed (both_went freed d.went) in
        let here : history_at new dead.place ≡ found.before = at_beginning new m.0 found.before dead.place m.1 found.place in
        let end : history_at new (length new) ≡ new = history_at_end new in
        reply_legal old new s limit symbol sole faulted freed (both_went freed d.went) (Ok (record { keys = freed; place = dead.place })) (record {
          after = omega (arith, found.from, found.place);
          before = omega (arith, found.place, before_shorter, m.2);
          events = reclaiming_of (reply_of (Ok (record { keys = freed; place = dead.place }))) freed d.went d.part (omega arith) (λ e. refl) _ own;
          late = tt;
          outcome = record {
            referred = ap (λ h. (state_of h symbol).has_reference) here ∙ found.referred;
            tiles_are = drops_counted s.client kinds.TableData freed ∙ sym (ap (count_by (drops_kind kinds.TableData)) own);
            indexes_are = drops_counted s.client kinds.TableIndex freed ∙ sym (ap (count_by (drops_kind kinds.TableIndex)) own);
            pieces_are = drops_counted s.client kinds.Staged freed ∙ sym (ap (count_by (drops_kind kinds.Staged)) own);
            no_index = λ key is_dead. ap (λ h. stored h key) end ∙ index_gone freed d key (subst (λ g. IsDeadIndex g symbol key) here is_dead);
            no_tile = λ l key there index reach kind unneeded. tile_gone freed d end l key
                (subst (λ g. Contains (links g symbol) l) here there) (subst (λ g. IsDeadIndex g symbol l.row.index) here index) reach kind (subst (λ g. IsUnneeded g key) here unneeded);
            no_piece = λ key is_dead. ap (λ h. stored h key) end ∙ piece_gone freed d key (subst (λ g. IsDeadPiece g symbol key) here is_dead);
          };
        })
      where
        -- what was gone before the first drop stays gone
        stays : (freed : List Key) (d : Dropped s.client sole mid new dead.keys.keys freed) (key : Key) → IsDeadKey found.before symbol key → stored mid key ≡ None → stored new key ≡ None
        stays freed d key deadly none =
            let m = mid_later freed d.went in
            let put = found_was_put old mid symbol dead found new m.0 m.1 lawful key deadly in
            let now : is_some (body_put mid key) ≡ true = still_put found.later found.before mid key found.split (walked_lawful new d.went.more mid d.went.is lawful) put in
            stays_gone d.went.more mid new key d.went.is (found_is_put old mid symbol dead found key deadly) lawful now none

        index_gone : (freed : List Key) (d : Dropped s.client sole mid new dead.keys.keys freed) (key : Key) → IsDeadIndex found.before symbol key → stored new key ≡ None
        index_gone freed d key deadly = elim (found.no_index key deadly) [
          | inl has ↦ d.gone key (has_is_among dead.keys key has)
          | inr none ↦ stays freed d key (inr (inl deadly)) none
        ]

        piece_gone : (freed : List Key) (d : Dropped s.client sole mid new dead.keys.keys freed) (key : Key) → IsDeadPiece found.before symbol key → stored new key ≡ None
        piece_gone freed d key deadly = elim (found.no_piece key deadly) [
          | inl has ↦ d.gone key (has_is_among dead.keys key has)
          | inr none ↦ stays freed d key (inr (inr deadly)) none
        ]

        -- another dropped an index that is gone
        by_another : (freed : List Key) (d : Dropped s.client sole mid new dead.keys.keys freed) (index : Key) → IsDeadIndex found.before symbol index → stored mid index ≡ None → DroppedByAnother new s.client (window old new faulted) index
        by_another freed d index deadly none =
            let parts = split_more found.later found.before looks.others old (sym found.split ∙ looks.is) found.from in
            let others : AllByOthers s.client found.later = others_first s.client found.later parts.0 (subst (AllByOthers s.client) parts.2 looks.by_others) in
            let drop = dropped_by s.client found.later found.before index (ap is_put deadly.0.0) others deadly.2 (sym (ap (λ h. stored h index) found.split) ∙ none) in
            let size : drop.place ≤ length mid = subst (λ h. drop.place ≤ length h) (sym found.split) drop.within in (
              drop.place,
              omega (arith, size, (mid_later freed d.went).2),
              drop.event,
              (ap (λ h. event_at h drop.place) d.went.is ∙ (event_at_more d.went.more mid drop.place size ∙ (ap (λ h. event_at h drop.place) found.split ∙ drop.at))),
              drop.drops_it,
              inr drop.others,
            )

        tile_gone : (freed : List Key) (d : Dropped s.client sole mid new dead.keys.keys freed) → history_at new (length new) ≡ new → (l : Linked) (key : Key) → Contains (links found.before symbol) l → IsDeadIndex found.before symbol l.row.index
            → Contains (reached l) key → IsKeyOf kinds.TableData symbol key → IsUnneeded found.before key
            → (stored (history_at new (length new)) key ≡ None) ⊎ DroppedByAnother new s.client (window old new faulted) l.row.index
        tile_gone freed d end l key there index reach kind unneeded = elim (found.no_tile l key there index reach kind unneeded) [
          | inl has ↦ inl (ap (λ h. stored h key) end ∙ d.gone key (has_is_among dead.keys key has))
          | inr none ↦ inr (by_another freed d l.row.index index none)
        ]
