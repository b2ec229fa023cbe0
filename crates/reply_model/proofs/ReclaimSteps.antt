-- The theorem for a reclaim: its drops, its reply and where the run then stands.
use Rattle.std.proofs.Common.{◌≡◌, ◌⊎◌, ℕ, zero, suc, ◌+◌, ◌-◌, ◌≤◌, ◌<◌, Bool, true, false, List, [], ◌∷◌, ◌++◌, map, length, drop, Some, None, refl, sym, ◌∙◌, ap, subst, inl, inr, arith, cond, length-append}
use Rattle.std.specs.Prelude.{◌&&◌, not, filter, reverse, count_by, Contains, nat_le, is_some}
use Rattle.std.specs.List.{list_any, AllByRecursion}
use Rattle.std.proofs.lemmas.Bool.{true≢false, leb-true, leb-false}
use Rattle.std.proofs.lemmas.List.{reverse-reverse}
use Rattle.std.proofs.lemmas.List.Sums.{sum_by-append}
use Rattle.segment_cut.proofs.Lists.{count_by-cons}
use Rattle.frame_core.specs.declared.refusal.Refusal.{Refusal}
use Rattle.frame_core.specs.declared.refusal.Refusal.TheVariants as refusals
use Rattle.key_kind.specs.Names.{Name, same_name}
use Rattle.key_kind.specs.declared.key.Key.{Key}
use Rattle.key_kind.specs.declared.key.KeyKind.{KeyKind}
use Rattle.key_kind.specs.declared.key.KeyKind.TheVariants as kinds
use Rattle.key_kind.specs.Keys.{same_kind, same_key, is_put}
use Rattle.key_kind.proofs.KeyTests.{same_name_is, same_key_is, put_is_no_reference, put_is_no_snapshot}
use Rattle.bucket_core.specs.declared.event.Event.{Event}
use Rattle.bucket_core.specs.declared.event.Event.TheVariants as events
use Rattle.bucket_core.specs.History.{History, newest, stored, body_put, history_at, event_at}
use Rattle.store_model.specs.Library.{State, state_of, is_consumed}
use Rattle.store_model.specs.Law.{IsLawful}
use Rattle.store_model.specs.Links.{Linked, links, IsUnneeded}
use Rattle.store_model.proofs.Histories.{choose_false, stands_from}
use Rattle.store_model.proofs.Lawful.{lawful_is_intact}
use Rattle.expr_clause.specs.declared.command.Command.TheVariants as commands
use Rattle.reply_model.specs.declared.outcome.Outcome.{Outcome}
use Rattle.reply_model.specs.declared.outcome.Outcome.TheVariants as outcomes
use Rattle.reply_model.specs.declared.reply.Reply.{Reply}
use Rattle.reply_model.specs.Windows.{Window, Client, own_events, is_refused, is_cut, refer_places}
use Rattle.reply_model.specs.Drops.{IsDropping, IsDeadIndex, IsDeadTile, IsDeadPiece, DroppedByAnother, IsFreedAt, drops, drops_kind}
use Rattle.reply_model.specs.OwnEvents.{IsOwn, is_done, is_empty_burial}
use Rattle.reply_model.specs.Legal.{IsLegalRefusal, IsLegalOutcome, IsLegalSeen}
use Rattle.reply_model.specs.Blocks.{Cutting, Shape, dead_blocks, dead_indexes, dead_pieces, tiles_in, swept}
use Rattle.reply_model.specs.Sole.{Alone, set_of, plain_reply, refusal, freed_alone, drops_alone, reclaiming, next_turn}
use Rattle.reply_model.specs.Standing.{row_sizes, HasShape, StandsAs, StepsTo, IsStep, LegalReclaimsAlone}
use Rattle.reply_model.proofs.Places.{history_at_end}
use Rattle.reply_model.proofs.Covering.{event_at_later, event_at_end, some_is}
use Rattle.reply_model.proofs.Isolated.{Met}
use Rattle.reply_model.proofs.AloneWindows.{added, history_at_start, own_at, own_is_all, IsKept, tells, kept_behind}
use Rattle.reply_model.proofs.AloneSteps.{reply_is}
use Rattle.reply_model.proofs.DropCounts.{behind_drops, drops_reversed, lawful_behind, links_behind_drops}
use Rattle.reply_model.proofs.Reclaimed.{Frees}
use Rattle.reply_model.proofs.ReclaimShapes.{length_behind_drops, no_pieces, tiles_are, indexes_are, own_shape, other_shape}
use Rattle.reply_model.proofs.AloneHeard.{Heard, commits_are, own_are, adds_none, not_met, listed_step}
use Rattle.reply_model.proofs.TryCounts.{reversed_none}

-- ---- the outcome

-- a reclaim that is not cut was met, found no reference, or freed
abbrev pub Reclaims : History → Client → Name → Reply → Window → Outcome → Type 0
Reclaims h client symbol reply w o =
    Met h client (commands.Reclaim symbol) reply w
    ⊎ ((o ≡ outcomes.Refused refusals.NoSuchSymbol) × ((state_of (history_at h reply.place) symbol).has_reference ≡ false))
    ⊎ ((tiles : ℕ) × (indexes : ℕ) × (pieces : ℕ) × (o ≡ outcomes.Freed tiles indexes pieces) × IsFreedAt h client.session.client symbol tiles indexes pieces reply w)

refused_reclaim : (h : History) (client : Client) (symbol : Name) (reply : Reply) (w : Window) (why : Refusal) → is_cut (outcomes.Refused why) ≡ false → IsLegalRefusal h client (commands.Reclaim symbol) reply w why
    → Reclaims h client symbol reply w (outcomes.Refused why)
refused_reclaim h client symbol reply w refusals.NoMemory cut l = absurd (true≢false cut)
refused_reclaim h client symbol reply w refusals.StoreFault cut l = absurd (true≢false cut)
refused_reclaim h client symbol reply w (refusals.Spent count) cut l = absurd (true≢false cut)
refused_reclaim h client symbol reply w (refusals.Moved now) cut l = inl (l.0, now, l.1, l.2)
refused_reclaim h client symbol reply w (refusals.VersionGone number) cut l = absurd l
refused_reclaim h client symbol reply w refusals.NoSuchSymbol cut l = inr (inl (refl, l))
refused_reclaim h client symbol reply w why cut l = absurd l

pub reclaim_is : (h : History) (client : Client) (symbol : Name) (reply : Reply) (w : Window) (o : Outcome) → is_cut o ≡ false → IsLegalOutcome h client (commands.Reclaim symbol) reply w o
    → Reclaims h client symbol reply w o
reclaim_is h client symbol reply w (outcomes.Refused why) cut l = refused_reclaim h client symbol reply w why cut l
reclaim_is h client symbol reply w (outcomes.Freed tiles indexes pieces) cut l = inr (inr (tiles, indexes, pieces, refl, l))
reclaim_is h client symbol reply w o cut l = absurd l

-- ---- a dropped key does not come back

drops_put : (h : History) (key : Key) (e : Event) → IsLawful (e ∷ h) → is_put key.kind ≡ true → drops key e ≡ true → (stored (e ∷ h) key ≡ None) × (is_some (body_put (e ∷ h) key) ≡ true)
drops_put h key (events.Drop c k) lawful put is =
    let same : k ≡ key = same_key_is k key is in (
      ap (λ b. cond b None (stored h key)) is,
      ap (λ o. is_some o) (stands_from h key put (subst (λ x. is_some (stored h x) ≡ true) same lawful.0.0)).put,
    )
drops_put h key (events.Put c k body) lawful put is = absurd (true≢false (sym is))
drops_put h key (events.Refer c s was entry list) lawful put is = absurd (true≢false (sym is))
drops_put h key (events.Name c snap body) lawful put is = absurd (true≢false (sym is))
drops_put h key (events.Unname c snap) lawful put is = absurd (true≢false (sym is))

gone_behind : (h : History) (key : Key) (e : Event) → IsLawful (e ∷ h) → is_put key.kind ≡ true → (stored h key ≡ None) × (is_some (body_put h key) ≡ true) → (stored (e ∷ h) key ≡ None) × (is_some (body_put (e ∷ h) key) ≡ true)
gone_behind h key (events.Put c k body) lawful put gone =
    elim (same_key k key) as (λ t. same_key k key ≡ t → (cond t (Some body) (stored h key) ≡ None) × (is_some (cond t (Some body) (body_put h key)) ≡ true)) [
      | true ↦ λ e. absurd (true≢false (sym gone.1 ∙ ap (λ o. is_some o) (subst (λ x. body_put h x ≡ None) (same_key_is k key e) (lawful_is_intact (events.Put c k body ∷ h) lawful).once.0)))
      | false ↦ λ e. gone
    ] refl
gone_behind h key (events.Refer c s was entry list) lawful put gone = (choose_false _ _ _ _ (put_is_no_reference s key put) gone.0, gone.1)
gone_behind h key (events.Name c snap body) lawful put gone = (choose_false _ _ _ _ (put_is_no_snapshot snap key put) gone.0, gone.1)
gone_behind h key (events.Unname c snap) lawful put gone = (choose_false _ _ _ _ (put_is_no_snapshot snap key put) gone.0, gone.1)
gone_behind h key (events.Drop c k) lawful put gone = (by (same_key k key), gone.1)
  where
    by : (t : Bool) → cond t None (stored h key) ≡ None
    by true = refl
    by false = gone.0

-- a key that an event of the history dropped is not stored
pub dropped_is_gone : (h : History) (key : Key) (q : ℕ) (e : Event) → IsLawful h → is_put key.kind ≡ true → q ≤ length h → event_at h q ≡ Some e → drops key e ≡ true → (stored h key ≡ None) × (is_some (body_put h key) ≡ true)
dropped_is_gone [] key q e lawful put low at is = absurd (none_at (nat_le q 0) (0 - q) at)
  where
    none_at : (b : Bool) (n : ℕ) → cond b (newest (drop n [])) None ≡ Some e → ⊥
    none_at true zero f = cc
    none_at true (suc n) f = cc
    none_at false n f = cc
dropped_is_gone (x ∷ h) key q e lawful put low at is =
    elim (nat_le q (length h)) as (λ b. nat_le q (length h) ≡ b → (stored (x ∷ h) key ≡ None) × (is_some (body_put (x ∷ h) key) ≡ true)) [
      | true ↦ λ f.
          let below : q ≤ length h = leb-true q (length h) f in
          gone_behind h key x lawful put (dropped_is_gone h key q e lawful.1 put below (sym (event_at_later x h q below) ∙ at) is)
      | false ↦ λ f.
          let above : length h < q = leb-false q (length h) f in
          let here : q ≡ suc (length h) = omega (arith, above, low) in
          let same : x ≡ e = some_is x e (sym (event_at_end x h) ∙ (ap (event_at (x ∷ h)) (sym here) ∙ at)) in
          drops_put h key x lawful put (ap (drops key) same ∙ is)
    ] refl

-- ---- the drops

-- all drops tell nothing
drops_tell_nothing : (client : ℕ) (keys : List Key) (old : History) → IsKept client old old → IsKept client old (behind_drops client keys old)
drops_tell_nothing client keys old kept = subst (λ h. IsKept client old h) (drops_reversed client keys old) (kept_behind client old (reverse (map (events.Drop client) keys)) (none_told keys))
  where
    none_mapped : (ks : List Key) → list_any tells (map (events.Drop client) ks) ≡ false
    none_mapped [] = refl
    none_mapped (k ∷ ks) = none_mapped ks

    none_told : (ks : List Key) → list_any tells (reverse (map (events.Drop client) ks)) ≡ false
    none_told ks = none_reversed (map (events.Drop client) ks) (none_mapped ks)
      where
        none_reversed : (es : List Event) → list_any tells es ≡ false → list_any tells (reverse es) ≡ false
        none_reversed es none = reversed_none tells es none

-- drops of one kind count all, or none
pub counted_drops : (client : ℕ) (is kind : KeyKind) (keys : List Key) → AllByRecursion (λ (k : Key). k.kind ≡ is) keys → count_by (drops_kind kind) (map (events.Drop client) keys) ≡ cond (same_kind is kind) (length keys) 0
counted_drops client is kind [] all = both (same_kind is kind)
  where
    both : (b : Bool) → ◌≡◌ {A = ℕ} 0 (cond b 0 0)
    both true = refl
    both false = refl
counted_drops client is kind (k ∷ keys) all =
    one_more (same_kind is kind) (ap (λ x. cond {A = ℕ} (same_kind x kind) 1 0) all.0) (count_by-cons (drops_kind kind) (events.Drop client k) (map (events.Drop client) keys)) (counted_drops client is kind keys all.1)
  where
    one_more : (b : Bool) {all one rest : ℕ} → one ≡ cond b 1 0 → all ≡ one + rest → rest ≡ cond b (length keys) 0 → all ≡ cond b (length (k ∷ keys)) 0
    one_more true f g h = omega (arith, f, g, h)
    one_more false f g h = omega (arith, f, g, h)

pub mapped_append : (client : ℕ) (xs ys : List Key) → map (events.Drop client) (xs ++ ys) ≡ map (events.Drop client) xs ++ map (events.Drop client) ys
mapped_append client [] ys = refl
mapped_append client (x ∷ xs) ys = ap (λ es. events.Drop client x ∷ es) (mapped_append client xs ys)

pub kinds_of : (P : Key → Type 0) (is : KeyKind) → ((k : Key) → P k → k.kind ≡ is) → (keys : List Key) → AllByRecursion P keys → AllByRecursion (λ (k : Key). k.kind ≡ is) keys
kinds_of P is f [] all = tt
kinds_of P is f (k ∷ keys) all = (f k all.0, kinds_of P is f keys all.1)

-- ---- the step

-- events behind a history change none of its own
event_before : (more old : History) (n : ℕ) → n ≤ length old → event_at (more ++ old) n ≡ event_at old n
event_before [] old n low = refl
event_before (e ∷ more) old n low = event_at_later e (more ++ old) n (omega (arith, low, length-append more old)) ∙ event_before more old n low

module _ (c : Cutting) (client : Client) (symbol : Name) (reply : Reply) (more old : History) (faulted : Bool) (heard : Heard client (commands.Reclaim symbol) reply more old faulted) (placed : is_refused reply.outcome ≡ false → reply.place ≡ length old) where
  abbrev h : History
  h = more ++ old

  abbrev own : ℕ
  own = client.session.client

  at_place : reply.place ≡ length old → history_at h reply.place ≡ old
  at_place here = ap (history_at h) here ∙ history_at_start more old

  -- no index that was stored at the place was dropped by another event
  not_by_another : (index : Key) → IsDeadIndex old symbol index → IsLawful old → DroppedByAnother h own (added more old faulted) index → ⊥
  not_by_another index dead lawful a =
      elim (nat_le a.0 (length old)) as (λ b. nat_le a.0 (length old) ≡ b → ⊥) [
        | true ↦ λ f.
            let low : a.0 ≤ length old = leb-true a.0 (length old) f in
            let gone = dropped_is_gone old index a.0 a.2 lawful (ap is_put dead.0.0) low (sym (event_before more old a.0 low) ∙ a.3) a.4 in
            true≢false (sym dead.2 ∙ ap (λ o. is_some o) gone.0)
        | false ↦ λ f.
            let above : length old < a.0 = leb-false a.0 (length old) f in
            elim a.5 [
              | inl early ↦ omega (arith, early, above)
              | inr other ↦ other (own_at more old own a.0 a.2 heard.own above a.1 a.3)
            ]
      ] refl

  -- what was dropped, and what is then not stored
  frees_of : reply.place ≡ length old → (tiles indexes pieces : ℕ) → IsFreedAt h own symbol tiles indexes pieces reply (added more old faulted) → IsLawful old → (es : List Event) (d : IsDropping old own symbol es) → Frees old h symbol d.tiles d.indexes d.pieces
  frees_of here tiles indexes pieces freed lawful es d =
      let dead_then : (key : Key) → IsDeadIndex old symbol key → IsDeadIndex (history_at h reply.place) symbol key = λ key dead. subst (λ g. IsDeadIndex g symbol key) (sym (at_place here)) dead in
      record {
        tiles_rise = d.tiles_rise;
        indexes_rise = d.indexes_rise;
        dead_tiles = d.dead_tiles;
        dead_indexes = d.dead_indexes;
        dead_pieces = d.dead_pieces;
        no_index = λ key dead. ap (λ g. stored g key) (sym (history_at_end h)) ∙ freed.no_index key (dead_then key dead);
        no_tile = λ l key there dead reach table unneeded.
            elim (freed.no_tile l key (subst (λ g. Contains (links g symbol) l) (sym (at_place here)) there) (dead_then l.row.index dead) reach table (subst (λ g. IsUnneeded g key) (sym (at_place here)) unneeded)) [
              | inl gone ↦ ap (λ g. stored g key) (sym (history_at_end h)) ∙ gone
              | inr another ↦ absurd (not_by_another l.row.index dead lawful another)
            ];
      }

  module _ (r : Alone) (stands : StandsAs c old r) where
    abbrev st : State
    st = state_of old symbol

    abbrev s : Shape
    s = r.shape symbol

    -- where the run stands behind these drops
    stands_behind_drops : (tiles indexes pieces : List Key) → IsLawful (behind_drops own ((tiles ++ indexes) ++ pieces) old) → Frees old (behind_drops own ((tiles ++ indexes) ++ pieces) old) symbol tiles indexes pieces
        → StandsAs c (behind_drops own ((tiles ++ indexes) ++ pieces) old) (record r { turn = suc r.turn; events = r.events + drops_alone st s; shape = set_of symbol (swept st s) r.shape })
    stands_behind_drops tiles indexes pieces lawful frees =
        let kept = drops_tell_nothing own ((tiles ++ indexes) ++ pieces) old (kept_behind own old [] refl) in
        let shape = stands.shapes symbol in
        record {
          events = omega (
            arith,
            stands.events,
            length_behind_drops own ((tiles ++ indexes) ++ pieces) old,
            length-append (tiles ++ indexes) pieces,
            length-append tiles indexes,
            tiles_are own symbol old s tiles indexes pieces shape lawful frees,
            indexes_are own symbol old s tiles indexes pieces shape lawful frees,
            ap (λ (ps : List _). length ps) (no_pieces own symbol old s tiles indexes pieces shape lawful frees),
            ap (λ (ps : List _). length (filter (λ p. is_consumed st p) ps)) shape.keys.pieces,
          );
          symbols = stands.symbols ∙ sym kept.symbols;
          states = λ other. stands.states other ∙ sym (kept.states other);
          snapshots = stands.snapshots ∙ sym kept.snapshots;
          shapes = λ other.
              elim (same_name symbol other) as (λ b. same_name symbol other ≡ b → HasShape (behind_drops own ((tiles ++ indexes) ++ pieces) old) other (cond b (swept st s) (r.shape other))) [
                | true ↦ λ e. subst (λ n. HasShape (behind_drops own ((tiles ++ indexes) ++ pieces) old) n (swept st s)) (same_name_is symbol other e) (own_shape own symbol old s tiles indexes pieces shape lawful frees)
                | false ↦ λ e. other_shape own symbol old s tiles indexes pieces shape lawful frees other (r.shape other) e (stands.shapes other)
              ] refl;
          cut = λ other. subst (λ (ls : List Linked). AllByRecursion (λ (l : Linked). AllByRecursion (λ n. n ≤ c.rows) (row_sizes l.index.slots)) ls) (sym (links_behind_drops own ((tiles ++ indexes) ++ pieces) old other)) (stands.cut other);
        }

    -- how many drops of each kind there are
    drops_counted : (kind : KeyKind) (tiles indexes pieces : List Key) → AllByRecursion (IsDeadTile old symbol) tiles → AllByRecursion (IsDeadIndex old symbol) indexes → AllByRecursion (IsDeadPiece old symbol) pieces
        → count_by (drops_kind kind) (map (events.Drop own) ((tiles ++ indexes) ++ pieces))
        ≡ cond (same_kind kinds.TableData kind) (length tiles) 0 + cond (same_kind kinds.TableIndex kind) (length indexes) 0 + cond (same_kind kinds.Staged kind) (length pieces) 0
    drops_counted kind tiles indexes pieces dead_tiles dead_indexes dead_pieces =
        ap (count_by (drops_kind kind)) (mapped_append own (tiles ++ indexes) pieces ∙ ap (λ es. es ++ map (events.Drop own) pieces) (mapped_append own tiles indexes))
        ∙ omega (
          arith,
          sum_by-append (λ e. cond (drops_kind kind e) 1 0) (map (events.Drop own) tiles ++ map (events.Drop own) indexes) (map (events.Drop own) pieces),
          sum_by-append (λ e. cond (drops_kind kind e) 1 0) (map (events.Drop own) tiles) (map (events.Drop own) indexes),
          counted_drops own kinds.TableData kind tiles (kinds_of (IsDeadTile old symbol) kinds.TableData (λ k d. d.0.0) tiles dead_tiles),
          counted_drops own kinds.TableIndex kind indexes (kinds_of (IsDeadIndex old symbol) kinds.TableIndex (λ k d. d.0.0) indexes dead_indexes),
          counted_drops own kinds.Staged kind pieces (kinds_of (IsDeadPiece old symbol) kinds.Staged (λ k d. d.1.staged) pieces dead_pieces),
        )

    -- a reclaim of a symbol that has a reference
    freed_step : (tiles indexes pieces : ℕ) → reply.outcome ≡ outcomes.Freed tiles indexes pieces → IsFreedAt h own symbol tiles indexes pieces reply (added more old faulted)
        → StepsTo c (Some (next_turn (reclaiming symbol r))) reply h
    freed_step tiles indexes pieces is freed =
        let here : reply.place ≡ length old = placed (ap is_refused is) in
        let w : Window = added more old faulted in
        let done : is_done reply ≡ true = ap (λ o. not (is_refused o) && not (is_empty_burial reply o)) is in
        let dropping = subst (λ b. IsOwn h client.session w (commands.Reclaim symbol) reply b (own_events h own w)) done (own_are client (commands.Reclaim symbol) reply more old faulted heard) in
        let looked : dropping.0 ≡ length old = dropping.3 (ap is_refused is) ∙ here in
        let d = subst (λ g. IsDropping g own symbol (own_events h own w)) (ap (history_at h) looked ∙ history_at_start more old) dropping.4 in
        let keys : List Key = (d.tiles ++ d.indexes) ++ d.pieces in
        let all : more ≡ reverse (map (events.Drop own) keys) = sym (reverse-reverse more) ∙ ap (λ es. reverse es) (sym (own_is_all more old own faulted heard.own) ∙ d.is) in
        let new_is : h ≡ behind_drops own keys old = ap (λ es. es ++ old) all ∙ drops_reversed own keys old in
        let lawful = subst (λ g. IsLawful g) new_is heard.lawful in
        let frees = subst (λ g. Frees old g symbol d.tiles d.indexes d.pieces) new_is (frees_of here tiles indexes pieces freed (lawful_behind own keys old lawful) (own_events h own w) d) in
        let shape = stands.shapes symbol in
        let referred : st.has_reference ≡ true = ap (λ g. (state_of g symbol).has_reference) (sym (at_place here)) ∙ freed.referred in
        let counted : (kind : KeyKind) → count_by (drops_kind kind) (own_events h own w) ≡ cond (same_kind kinds.TableData kind) (length d.tiles) 0 + cond (same_kind kinds.TableIndex kind) (length d.indexes) 0 + cond (same_kind kinds.Staged kind) (length d.pieces) 0 =
        λ kind. ap (count_by (drops_kind kind)) d.is ∙ drops_counted kind d.tiles d.indexes d.pieces d.dead_tiles d.dead_indexes d.dead_pieces in
        let tiles_is : tiles ≡ tiles_in (dead_blocks st s) = omega (arith, freed.tiles_are, counted kinds.TableData, tiles_are own symbol old s d.tiles d.indexes d.pieces shape lawful frees) in
        let indexes_is : indexes ≡ length (dead_indexes st s) = omega (arith, freed.indexes_are, counted kinds.TableIndex, indexes_are own symbol old s d.tiles d.indexes d.pieces shape lawful frees) in
        let pieces_is : pieces ≡ length (dead_pieces st s) =
        omega (
          arith,
          freed.pieces_are,
          counted kinds.Staged,
          ap (λ (ps : List _). length ps) (no_pieces own symbol old s d.tiles d.indexes d.pieces shape lawful frees),
          ap (λ (ps : List _). length (filter (λ p. is_consumed st p) ps)) shape.keys.pieces,
        ) in
        let outcome_is : reply.outcome ≡ freed_alone st s =
        is ∙ (ap (λ n. outcomes.Freed n indexes pieces) tiles_is ∙ (ap (λ n. outcomes.Freed (tiles_in (dead_blocks st s)) n pieces) indexes_is ∙ ap (λ n. outcomes.Freed (tiles_in (dead_blocks st s)) (length (dead_indexes st s)) n) pieces_is)) in
        let kept = drops_tell_nothing own keys old (kept_behind own old [] refl) in
        let commits : reply.commits ≡ [] = commits_are client (commands.Reclaim symbol) reply more old faulted heard ∙ (ap (refer_places own (length old)) new_is ∙ kept.refers) in
        let reply_now : reply ≡ plain_reply r.events None (freed_alone st s) =
        reply_is reply r.events None [] (here ∙ sym stands.events) heard.seen.listed commits heard.seen.left.left ∙ ap (λ o. plain_reply r.events None o) outcome_is in
        let step : Reply × Alone = (plain_reply r.events None (freed_alone st s), record r { events = r.events + drops_alone st s; shape = set_of symbol (swept st s) r.shape }) in
        let reclaims : reclaiming symbol r ≡ step =
        ap (λ (x : State). cond x.has_reference (plain_reply r.events None (freed_alone x s), record r { events = r.events + drops_alone x s; shape = set_of symbol (swept x s) r.shape }) (refusal r.events None refusals.NoSuchSymbol, r)) (stands.states symbol)
        ∙ ap (λ b. cond b step (refusal r.events None refusals.NoSuchSymbol, r)) referred in
        subst (λ (x : Reply × Alone). StepsTo c (Some (next_turn x)) reply h) (sym reclaims)
        (subst (λ g. StepsTo c (Some (next_turn step)) reply g) (sym new_is) (reply_now, stands_behind_drops d.tiles d.indexes d.pieces lawful frees))

    -- a reclaim of a symbol that has none
    unreferred_step : reply.outcome ≡ outcomes.Refused refusals.NoSuchSymbol → (state_of (history_at h reply.place) symbol).has_reference ≡ false → StepsTo c (Some (next_turn (reclaiming symbol r))) reply h
    unreferred_step is none =
        let w : Window = added more old faulted in
        let command = commands.Reclaim symbol in
        let undone : is_done reply ≡ false = ap (λ o. not (is_refused o) && not (is_empty_burial reply o)) is in
        let nothing : more ≡ [] = adds_none client command reply more old faulted heard
        (subst (λ b. IsOwn h client.session w command reply b (own_events h own w)) undone (own_are client command reply more old faulted heard)) in
        let here : reply.place ≡ length old = omega (arith, heard.seen.after, heard.seen.before, ap (λ (es : List Event). length (es ++ old)) nothing) in
        let unreferred : (r.library.state symbol).has_reference ≡ false = ap (λ (x : State). x.has_reference) (stands.states symbol) ∙ (ap (λ g. (state_of g symbol).has_reference) (sym (at_place here)) ∙ none) in
        let reclaims : reclaiming symbol r ≡ (refusal r.events None refusals.NoSuchSymbol, r) =
        ap (λ b. cond b (plain_reply r.events None (freed_alone (r.library.state symbol) s), record r { events = r.events + drops_alone (r.library.state symbol) s; shape = set_of symbol (swept (r.library.state symbol) s) r.shape })
        (refusal r.events None refusals.NoSuchSymbol, r)) unreferred in
        let still = subst (λ es. Heard client command reply es old faulted) nothing heard in
        subst (λ (x : Reply × Alone). StepsTo c (Some (next_turn x)) reply h) (sym reclaims)
        (subst (λ es. StepsTo c (Some (next_turn (refusal r.events None refusals.NoSuchSymbol, r))) reply (es ++ old)) (sym nothing)
        (listed_step c client command reply r old faulted (outcomes.Refused refusals.NoSuchSymbol) stands still heard.seen.listed heard.seen.left.left is))

  -- a legal reclaim whose place is where the window begins, if it is done, is a step of the run alone
  pub reclaim_step : IsStep c client.session (commands.Reclaim symbol) reply old h
  reclaim_step r stands =
      elim (reclaim_is h client symbol reply (added more old faulted) reply.outcome heard.cut heard.seen.outcome) [
        | inl met ↦ absurd (not_met client (commands.Reclaim symbol) reply more old faulted heard met)
        | inr rest ↦ elim rest [
          | inl none ↦ unreferred_step r stands none.0 none.1
          | inr freed ↦ freed_step r stands freed.0 freed.1 freed.2 freed.3 freed.4
        ]
      ]

pub legal_reclaims_alone : LegalReclaimsAlone
legal_reclaims_alone old new c client symbol reply faulted lawful grows legal cut placed =
    let command = commands.Reclaim symbol in
    let seen : IsLegalSeen new client command reply (record { start = length old; stop = length new; faulted = faulted }) =
    subst (λ h. IsLegalSeen h client command reply (record { start = length old; stop = length new; faulted = faulted })) (history_at_end new) legal.1 in
    subst (λ h. IsStep c client.session command reply old h) (sym grows.is) (reclaim_step c client symbol reply grows.more old faulted
    (record { lawful = subst (λ h. IsLawful h) grows.is lawful; own = grows.own; seen = subst (λ h. IsLegalSeen h client command reply (record { start = length old; stop = length h; faulted = faulted })) grows.is seen; cut = cut }) placed)
