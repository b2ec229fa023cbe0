-- A reclaim that is alone on its symbol frees what is dead where its window begins.
use Rattle.std.proofs.Common.{◌≡◌, ◌⊎◌, ℕ, suc, ◌+◌, ◌≤◌, Bool, true, false, List, [], ◌∷◌, ◌++◌, map, length, Some, None, refl, sym, ◌∙◌, ap, subst, inl, inr, arith, cond}
use Rattle.std.specs.Prelude.{◌&&◌, not, filter, count_by, Contains, is_some}
use Rattle.std.specs.List.{list_any, AllByRecursion, IsDistinct}
use Rattle.std.proofs.lemmas.Bool.{true≢false, and_from, cases_lt, eq-eqb}
use Rattle.std.proofs.lemmas.List.Sums.{sum_by-append, length-filter}
use Rattle.std.proofs.lemmas.Map.Made.{length-from_same_keys}
use Rattle.frame_core.specs.declared.refusal.Refusal.TheVariants as refusals
use Rattle.key_kind.specs.Names.{Name, same_name}
use Rattle.key_kind.specs.declared.key.Key.{Key}
use Rattle.key_kind.specs.declared.key.KeyKind.{KeyKind}
use Rattle.key_kind.specs.declared.key.KeyKind.TheVariants as kinds
use Rattle.key_kind.specs.Keys.{is_put, kind_code, same_kind, same_key, key_before}
use Rattle.key_kind.specs.KeyOrder.{same_key_equiv}
use Rattle.key_kind.proofs.KeyTests.{same_kind_is, same_name_is, same_name_self}
use Rattle.bucket_core.specs.declared.event.Event.{Event}
use Rattle.bucket_core.specs.declared.event.Event.TheVariants as events
use Rattle.bucket_core.specs.Laws.{refers}
use Rattle.bucket_core.specs.History.{History, author, stored, stored_keys, history_at, event_at}
use Rattle.store_model.specs.Library.{State, state_of, is_consumed}
use Rattle.store_model.specs.Law.{IsLawful}
use Rattle.store_model.specs.Links.{Linked, links, reaches, is_needed, is_reached, is_reached_by_needed, IsUnneeded}
use Rattle.store_model.proofs.Lists.{filter_in, in_filter, one_passes, passes}
use Rattle.store_model.proofs.Dropping.{reaches_it, it_is_reached}
use Rattle.expr_clause.specs.declared.command.Command.TheVariants as commands
use Rattle.reply_model.specs.declared.outcome.Outcome.{Outcome}
use Rattle.reply_model.specs.declared.outcome.Outcome.TheVariants as outcomes
use Rattle.reply_model.specs.declared.reply.Reply.{Reply}
use Rattle.reply_model.specs.Windows.{Window, Client, own_events, is_refused, is_cut}
use Rattle.reply_model.specs.Tries.{IsKeyOf}
use Rattle.reply_model.specs.Drops.{KeysRise, IsDropping, IsDeadIndex, IsDeadTile, IsDeadPiece, DroppedByAnother, IsFreedAt, drops, drops_kind, is_unneeded_of, is_dead_index, is_dead_tile, is_dead_piece, freed_outcome, reclaim_outcome}
use Rattle.reply_model.specs.OwnEvents.{IsOwn, is_done, is_empty_burial}
use Rattle.reply_model.specs.Legal.{IsLegalSeen}
use Rattle.reply_model.specs.Runs.{IsAlone}
use Rattle.reply_model.proofs.Later.{history_at_later}
use Rattle.reply_model.proofs.Covering.{event_at_later}
use Rattle.reply_model.proofs.Places.{history_at_end}
use Rattle.reply_model.proofs.Quiet.{others_unnamed}
use Rattle.reply_model.proofs.Isolated.{some_name, not_same, refers_names, own_events_are}
use Rattle.reply_model.proofs.StoredCounts.{Ascending, before_is_other, stored_ascending, ascending_filtered, stored_there}
use Rattle.reply_model.proofs.DropCounts.{is_among, rising_distinct}
use Rattle.reply_model.proofs.Among.{all_at, among_contains, contains_among, among_append, among_left}
use Rattle.reply_model.proofs.ReachedKeys.{both_true, same_test}
use Rattle.reply_model.proofs.Reclaimed.{data_is_no_index, data_is_no_piece, index_is_no_piece}
use Rattle.reply_model.proofs.ReclaimSteps.{reclaim_is, dropped_is_gone, counted_drops, mapped_append, kinds_of}
use Rattle.reply_model.proofs.SymbolKeys.{OnlyDrops, state_stays, links_stay, stood_before, stored_as_before, dropped_stood, dropped_by_own}

-- ---- what the tests tell

kind_self : (kind : KeyKind) → same_kind kind kind ≡ true
kind_self kind = eq-eqb (kind_code kind) (kind_code kind) refl

flipped : (b : Bool) → not b ≡ true → b ≡ false
flipped true e = absurd (true≢false (sym e))
flipped false e = refl

unneeded_tells : (kind : KeyKind) (g : History) (symbol : Name) (key : Key) → is_unneeded_of kind g symbol key ≡ true → IsKeyOf kind symbol key × IsUnneeded g key
unneeded_tells kind g symbol key e =
    let last = both_true _ (not (is_reached_by_needed g key)) e in
    let once = both_true _ (is_reached g key) last.0 in
    let own = both_true (same_kind key.kind kind) (same_name key.name symbol) once.0 in
    ((same_kind_is key.kind kind own.0, same_name_is key.name symbol own.1), record { once = once.1; no_more = flipped (is_reached_by_needed g key) last.1 })

unneeded_told : (kind : KeyKind) (g : History) (symbol : Name) (key : Key) → IsKeyOf kind symbol key → IsUnneeded g key → is_unneeded_of kind g symbol key ≡ true
unneeded_told kind g symbol key own u =
    and_from _ _ (and_from _ _ (and_from _ _ (ap (λ k. same_kind k kind) own.0 ∙ kind_self kind) (ap (λ n. same_name n symbol) own.1 ∙ same_name_self symbol)) u.once) (ap not u.no_more)

index_tells : (g : History) (symbol : Name) (key : Key) → is_dead_index g symbol key ≡ true → IsDeadIndex g symbol key
index_tells g symbol key e =
    let parts = both_true (is_unneeded_of kinds.TableIndex g symbol key) (is_some (stored g key)) e in
    let u = unneeded_tells kinds.TableIndex g symbol key parts.0 in
    (u.0, u.1, parts.1)

index_told : (g : History) (symbol : Name) (key : Key) → IsDeadIndex g symbol key → is_dead_index g symbol key ≡ true
index_told g symbol key dead = and_from _ _ (unneeded_told kinds.TableIndex g symbol key dead.0 dead.1) dead.2

tile_tells : (g : History) (symbol : Name) (key : Key) → is_dead_tile g symbol key ≡ true → IsDeadTile g symbol key
tile_tells g symbol key e =
    let parts = both_true (is_unneeded_of kinds.TableData g symbol key) _ e in
    let u = unneeded_tells kinds.TableData g symbol key parts.0 in
    let r = one_passes (λ (l : Linked). reaches l key && is_dead_index g symbol l.row.index) (links g symbol) parts.1 in
    let both = both_true (reaches r.0 key) (is_dead_index g symbol r.0.row.index) r.2 in
    (u.0, u.1, (r.0, r.1, index_tells g symbol r.0.row.index both.1, it_is_reached r.0 key both.0))

tile_told : (g : History) (symbol : Name) (key : Key) → IsDeadTile g symbol key → is_dead_tile g symbol key ≡ true
tile_told g symbol key dead =
    let l : Linked = dead.2.0 in
    and_from _ _ (unneeded_told kinds.TableData g symbol key dead.0 dead.1)
    (passes (λ (x : Linked). reaches x key && is_dead_index g symbol x.row.index) (links g symbol) l dead.2.1 (and_from _ _ (reaches_it l key dead.2.3) (index_told g symbol l.row.index dead.2.2)))

piece_tells : (g : History) (symbol : Name) (key : Key) → is_dead_piece g symbol key ≡ true → IsDeadPiece g symbol key
piece_tells g symbol key e =
    let last = both_true _ (is_some (stored g key)) e in
    let consumed = both_true _ (is_consumed (state_of g key.name) (record { client = key.client; serial = key.serial })) last.0 in
    let own = both_true (same_kind key.kind kinds.Staged) (same_name key.name symbol) consumed.0 in
    (same_name_is key.name symbol own.1, record { staged = same_kind_is key.kind kinds.Staged own.0; consumed = consumed.1 }, last.1)

piece_told : (g : History) (symbol : Name) (key : Key) → IsDeadPiece g symbol key → is_dead_piece g symbol key ≡ true
piece_told g symbol key dead =
    and_from _ _ (and_from _ _ (and_from _ _ (ap (λ k. same_kind k kinds.Staged) dead.1.staged) (ap (λ n. same_name n symbol) dead.0 ∙ same_name_self symbol)) dead.1.consumed) dead.2

-- ---- what is dead stays so

-- the symbol has the same links and the same state in both histories
record AreAlike (g k : History) (symbol : Name) : Type 0 where
  links_are : links g symbol ≡ links k symbol
  state_is : state_of g symbol ≡ state_of k symbol

alike_back : (g k : History) (symbol : Name) → AreAlike g k symbol → AreAlike k g symbol
alike_back g k symbol a = record { links_are = sym a.links_are; state_is = sym a.state_is }

unneeded_alike : (g k : History) (symbol : Name) (key : Key) → key.name ≡ symbol → AreAlike g k symbol → IsUnneeded g key → IsUnneeded k key
unneeded_alike g k symbol key name a u =
    let same_links : links g key.name ≡ links k key.name = subst (λ n. links g n ≡ links k n) (sym name) a.links_are in
    let same_state : state_of g key.name ≡ state_of k key.name = subst (λ n. state_of g n ≡ state_of k n) (sym name) a.state_is in
    record {
      once = ap (λ (ls : List Linked). list_any (λ l. reaches l key) ls) (sym same_links) ∙ u.once;
      no_more = ap (λ (ls : List Linked). list_any (λ l. is_needed (state_of k key.name) l && reaches l key) ls) (sym same_links)
          ∙ (ap (λ (st : State). list_any (λ l. is_needed st l && reaches l key) (links g key.name)) (sym same_state) ∙ u.no_more);
    }

index_alike : (g k : History) (symbol : Name) (key : Key) → AreAlike g k symbol → is_some (stored k key) ≡ true → IsDeadIndex g symbol key → IsDeadIndex k symbol key
index_alike g k symbol key a stands dead = (dead.0, unneeded_alike g k symbol key dead.0.1 a dead.1, stands)

tile_alike : (g k : History) (symbol : Name) (key : Key) → AreAlike g k symbol → ((index : Key) → IsDeadIndex g symbol index → is_some (stored k index) ≡ true) → IsDeadTile g symbol key → IsDeadTile k symbol key
tile_alike g k symbol key a stands dead =
    let l : Linked = dead.2.0 in (
      dead.0,
      unneeded_alike g k symbol key dead.0.1 a dead.1,
      (l, subst (λ ls. Contains ls l) a.links_are dead.2.1, index_alike g k symbol l.row.index a (stands l.row.index dead.2.2) dead.2.2, dead.2.3),
    )

piece_alike : (g k : History) (symbol : Name) (key : Key) → AreAlike g k symbol → is_some (stored k key) ≡ true → IsDeadPiece g symbol key → IsDeadPiece k symbol key
piece_alike g k symbol key a stands dead =
    let same_state : state_of g key.name ≡ state_of k key.name = subst (λ n. state_of g n ≡ state_of k n) (sym dead.0) a.state_is in
    (dead.0, record { staged = dead.1.staged; consumed = ap (λ (st : State). is_consumed st (record { client = key.client; serial = key.serial })) (sym same_state) ∙ dead.1.consumed }, stands)

-- ---- counts

ascending_distinct : (ks : List Key) → Ascending ks → IsDistinct same_key ks
unfolding IsDistinct
ascending_distinct [] up = tt
ascending_distinct (k ∷ ks) up = (others ks up.0, ascending_distinct ks up.1)
  where
    others : (xs : List Key) → AllByRecursion (λ (x : Key). key_before k x ≡ true) xs → AllByRecursion (λ (x : Key). same_key k x ≡ false) xs
    others [] all = tt
    others (x ∷ xs) all = (before_is_other k x all.0, others xs all.1)

-- rising keys that are those stored ones which pass are as many
counted_stored : (test : Key → Bool) (keys : List Key) (g : History) → KeysRise keys → ((key : Key) → is_among keys key ≡ true → (is_some (stored g key) ≡ true) × (test key ≡ true))
    → ((key : Key) → is_some (stored g key) ≡ true → test key ≡ true → is_among keys key ≡ true) → length keys ≡ count_by test (stored_keys g)
counted_stored test keys g rise inside all =
    length-from_same_keys same_key_equiv keys (filter test (stored_keys g)) (rising_distinct keys rise) (ascending_distinct (filter test (stored_keys g)) (ascending_filtered test (stored_keys g) (stored_ascending g)))
    (λ key. same_test (is_among keys key) (is_among (filter test (stored_keys g)) key)
    (λ there. let r = inside key there in
    contains_among (filter test (stored_keys g)) key (in_filter test (stored_keys g) key (among_contains (stored_keys g) key (stored_there g key ∙ r.0)) r.1))
    (λ there. let r = filter_in test (stored_keys g) key (among_contains (filter test (stored_keys g)) key there) in
    all key (sym (stored_there g key) ∙ contains_among (stored_keys g) key r.0) r.1))
    ∙ length-filter test (stored_keys g)

-- ---- the drops of a reclaim

-- what was dropped before a place is not stored there
gone_at : (h : History) (key : Key) (q p : ℕ) (e : Event) → IsLawful h → is_put key.kind ≡ true → q ≤ p → p ≤ length h → event_at h q ≡ Some e → drops key e ≡ true → stored (history_at h p) key ≡ None
gone_at [] key q p e lawful put first last at is = let none : p ≡ 0 = omega (arith, last) in ap (λ m. stored (history_at [] m) key) none
gone_at (x ∷ h) key q p e lawful put first last at is = elim (cases_lt (length h) p) [
  | inl beyond ↦
      let end : p ≡ suc (length h) = omega (arith, beyond, last) in
      ap (λ m. stored (history_at (x ∷ h) m) key) end ∙ (ap (λ g. stored g key) (history_at_end (x ∷ h)) ∙ (dropped_is_gone (x ∷ h) key q e lawful put (omega (arith, first, end)) at is).0)
  | inr within ↦
      ap (λ g. stored g key) (history_at_later h (x ∷ []) p within)
      ∙ gone_at h key q p e lawful.1 put first within (sym (event_at_later x h q (omega (arith, first, within))) ∙ at) is
]

module _ (h : History) (client : ℕ) (symbol : Name) (w : Window) (place : ℕ) (lawful : IsLawful h) (ends : w.stop ≡ length h) (alone : IsAlone h client symbol w)
    (first : w.start ≤ place) (last : place ≤ length h) (d : IsDropping (history_at h place) client symbol (own_events h client w)) where
  abbrev start : History
  start = history_at h w.start

  abbrev looked : History
  looked = history_at h place

  abbrev keys : List Key
  keys = d.tiles ++ d.indexes ++ d.pieces

  only : OnlyDrops h client symbol w keys
  only = record { ends = ends; alone = alone; own = d.is }

  alike : AreAlike looked start symbol
  alike = record { links_are = links_stay h client symbol w keys only place first last; state_is = state_stays h client symbol w keys only place first last }

  tile_at : (key : Key) → is_among d.tiles key ≡ true → IsDeadTile looked symbol key
  tile_at key there = all_at (IsDeadTile looked symbol) d.tiles key d.dead_tiles there

  index_at : (key : Key) → is_among d.indexes key ≡ true → IsDeadIndex looked symbol key
  index_at key there = all_at (IsDeadIndex looked symbol) d.indexes key d.dead_indexes there

  piece_at : (key : Key) → is_among d.pieces key ≡ true → IsDeadPiece looked symbol key
  piece_at key there = all_at (IsDeadPiece looked symbol) d.pieces key d.dead_pieces there

  cases : (key : Key) → is_among keys key ≡ true → (is_among d.tiles key ≡ true) ⊎ (is_among d.indexes key ≡ true) ⊎ (is_among d.pieces key ≡ true)
  cases key there = elim (among_append (d.tiles ++ d.indexes) d.pieces key there) [
    | inl both ↦ elim (among_append d.tiles d.indexes key both) [ inl tile ↦ inl tile | inr index ↦ inr (inl index) ]
    | inr piece ↦ inr (inr piece)
  ]

  among_tiles : (key : Key) → key.kind ≡ kinds.TableData → is_among keys key ≡ true → is_among d.tiles key ≡ true
  among_tiles key kind there = elim (cases key there) [
    | inl tile ↦ tile
    | inr (inl index) ↦ absurd (data_is_no_index key kind (index_at key index).0.0)
    | inr (inr piece) ↦ absurd (data_is_no_piece key kind (piece_at key piece).1.staged)
  ]

  among_indexes : (key : Key) → key.kind ≡ kinds.TableIndex → is_among keys key ≡ true → is_among d.indexes key ≡ true
  among_indexes key kind there = elim (cases key there) [
    | inl tile ↦ absurd (data_is_no_index key (tile_at key tile).0.0 kind)
    | inr (inl index) ↦ index
    | inr (inr piece) ↦ absurd (index_is_no_piece key kind (piece_at key piece).1.staged)
  ]

  among_pieces : (key : Key) → key.kind ≡ kinds.Staged → is_among keys key ≡ true → is_among d.pieces key ≡ true
  among_pieces key kind there = elim (cases key there) [
    | inl tile ↦ absurd (data_is_no_piece key (tile_at key tile).0.0 kind)
    | inr (inl index) ↦ absurd (index_is_no_piece key (index_at key index).0.0 kind)
    | inr (inr piece) ↦ piece
  ]

  -- an index that is dead at the look was stored where the window begins
  index_stood : (key : Key) → IsDeadIndex looked symbol key → is_some (stored start key) ≡ true
  index_stood key dead = stood_before h client symbol w keys only key place dead.0.1 (ap is_put dead.0.0) first last dead.2

  -- and one that is dead there is stored at the look
  index_stays : (key : Key) → IsDeadIndex start symbol key → IsDeadIndex looked symbol key
  index_stays key dead =
      elim (is_among keys key) as (λ b. is_among keys key ≡ b → IsDeadIndex looked symbol key) [
        | true ↦ λ there. index_at key (among_indexes key dead.0.0 there)
        | false ↦ λ out.
            let same : stored looked key ≡ stored start key = stored_as_before h client symbol w keys only key place dead.0.1 (ap is_put dead.0.0) first last out in
            index_alike start looked symbol key (alike_back looked start symbol alike) (ap (λ o. is_some o) same ∙ dead.2) dead
      ] refl

  -- what was stored there, and is not at the end, was dropped
  was_dropped : (key : Key) → key.name ≡ symbol → is_put key.kind ≡ true → is_some (stored start key) ≡ true → stored h key ≡ None → is_among keys key ≡ true
  was_dropped key name put stood gone =
      elim (is_among keys key) as (λ b. is_among keys key ≡ b → b ≡ true) [
        | true ↦ λ e. refl
        | false ↦ λ out.
            let same : stored h key ≡ stored start key =
            ap (λ g. stored g key) (sym (history_at_end h)) ∙ stored_as_before h client symbol w keys only key (length h) name put (omega (arith, first, last)) (omega arith) out in
            absurd (true≢false (sym stood ∙ ap (λ o. is_some o) (sym same ∙ gone)))
      ] refl

  -- no index that is dead there was dropped by another event
  not_by_another : (key : Key) → IsDeadIndex start symbol key → DroppedByAnother h client w key → ⊥
  not_by_another key dead a = elim (cases_lt w.start a.0) [
    | inl inside ↦ elim a.5 [
      | inl early ↦ omega (arith, early, inside)
      | inr other ↦ dropped_by_own h client symbol w keys only key a.0 a.2 dead.0.1 inside (omega (arith, a.1, ends)) a.3 a.4 (not_same (author a.2) client other)
    ]
    | inr early ↦
        let gone = gone_at h key a.0 w.start a.2 lawful (ap is_put dead.0.0) early (omega (arith, first, last)) a.3 a.4 in
        true≢false (sym dead.2 ∙ ap (λ o. is_some o) gone)
  ]

  module _ (tiles indexes pieces : ℕ) (reply : Reply) (here : reply.place ≡ place) (freed : IsFreedAt h client symbol tiles indexes pieces reply w) where
    abbrev end_is : history_at h w.stop ≡ h
    end_is = ap (λ m. history_at h m) ends ∙ history_at_end h

    look_is : looked ≡ history_at h reply.place
    look_is = ap (λ m. history_at h m) (sym here)

    indexes_are : length d.indexes ≡ count_by (is_dead_index start symbol) (stored_keys start)
    indexes_are = counted_stored (is_dead_index start symbol) d.indexes start d.indexes_rise
        (λ key there.
        let dead = index_at key there in
        let stood = index_stood key dead in
        (stood, index_told start symbol key (index_alike looked start symbol key alike stood dead)))
        (λ key stood test.
        let dead = index_tells start symbol key test in
        let gone : stored h key ≡ None = ap (λ g. stored g key) (sym end_is) ∙ freed.no_index key (subst (λ g. IsDeadIndex g symbol key) look_is (index_stays key dead)) in
        among_indexes key dead.0.0 (was_dropped key dead.0.1 (ap is_put dead.0.0) stood gone))

    tiles_are : length d.tiles ≡ count_by (is_dead_tile start symbol) (stored_keys start)
    tiles_are = counted_stored (is_dead_tile start symbol) d.tiles start d.tiles_rise
        (λ key there.
        let dead = tile_at key there in
        let stood = dropped_stood h client symbol w keys only key lawful dead.0.1 (ap is_put dead.0.0) (among_left (d.tiles ++ d.indexes) d.pieces key (among_left d.tiles d.indexes key there)) in
        (stood, tile_told start symbol key (tile_alike looked start symbol key alike index_stood dead)))
        (λ key stood test.
        let dead = tile_tells start symbol key test in
        let l : Linked = dead.2.0 in
        let index = index_stays l.row.index dead.2.2 in
        let back = alike_back looked start symbol alike in
        let gone : stored h key ≡ None = elim (freed.no_tile l key (subst (λ g. Contains (links g symbol) l) look_is (subst (λ ls. Contains ls l) back.links_are dead.2.1)) (subst (λ g. IsDeadIndex g symbol l.row.index) look_is index) dead.2.3 dead.0
        (subst (λ g. IsUnneeded g key) look_is (unneeded_alike start looked symbol key dead.0.1 back dead.1))) [
          | inl none ↦ ap (λ g. stored g key) (sym end_is) ∙ none
          | inr another ↦ absurd (not_by_another l.row.index dead.2.2 another)
        ] in
        among_tiles key dead.0.0 (was_dropped key dead.0.1 (ap is_put dead.0.0) stood gone))

    pieces_are : length d.pieces ≡ count_by (is_dead_piece start symbol) (stored_keys start)
    pieces_are = counted_stored (is_dead_piece start symbol) d.pieces start d.pieces_rise
        (λ key there.
        let dead = piece_at key there in
        let stood = stood_before h client symbol w keys only key place dead.0 (ap is_put dead.1.staged) first last dead.2 in
        (stood, piece_told start symbol key (piece_alike looked start symbol key alike stood dead)))
        (λ key stood test. piece_dropped key stood (piece_tells start symbol key test))
      where
        piece_dropped : (key : Key) → is_some (stored start key) ≡ true → IsDeadPiece start symbol key → is_among d.pieces key ≡ true
        piece_dropped key stood dead = elim (is_among keys key) as (λ b. is_among keys key ≡ b → is_among d.pieces key ≡ true) [
          | true ↦ λ there. among_pieces key dead.1.staged there
          | false ↦ λ out.
              let same : stored looked key ≡ stored start key = stored_as_before h client symbol w keys only key place dead.0 (ap is_put dead.1.staged) first last out in
              let dead_then = piece_alike start looked symbol key (alike_back looked start symbol alike) (ap (λ o. is_some o) same ∙ stood) dead in
              let gone : stored h key ≡ None = ap (λ g. stored g key) (sym end_is) ∙ freed.no_piece key (subst (λ g. IsDeadPiece g symbol key) look_is dead_then) in
              among_pieces key dead.1.staged (was_dropped key dead.0 (ap is_put dead.1.staged) stood gone)
        ] refl

    drops_counted : (kind : KeyKind) → count_by (drops_kind kind) (own_events h client w)
        ≡ cond (same_kind kinds.TableData kind) (length d.tiles) 0 + cond (same_kind kinds.TableIndex kind) (length d.indexes) 0 + cond (same_kind kinds.Staged kind) (length d.pieces) 0
    drops_counted kind =
        ap (count_by (drops_kind kind)) (d.is ∙ (mapped_append client (d.tiles ++ d.indexes) d.pieces ∙ ap (λ es. es ++ map (events.Drop client) d.pieces) (mapped_append client d.tiles d.indexes)))
        ∙ omega (
          arith,
          sum_by-append (λ e. cond (drops_kind kind e) 1 0) (map (events.Drop client) d.tiles ++ map (events.Drop client) d.indexes) (map (events.Drop client) d.pieces),
          sum_by-append (λ e. cond (drops_kind kind e) 1 0) (map (events.Drop client) d.tiles) (map (events.Drop client) d.indexes),
          counted_drops client kinds.TableData kind d.tiles (kinds_of (IsDeadTile looked symbol) kinds.TableData (λ k t. t.0.0) d.tiles d.dead_tiles),
          counted_drops client kinds.TableIndex kind d.indexes (kinds_of (IsDeadIndex looked symbol) kinds.TableIndex (λ k t. t.0.0) d.indexes d.dead_indexes),
          counted_drops client kinds.Staged kind d.pieces (kinds_of (IsDeadPiece looked symbol) kinds.Staged (λ k t. t.1.staged) d.pieces d.dead_pieces),
        )

    freed_is : outcomes.Freed tiles indexes pieces ≡ freed_outcome start symbol
    freed_is =
        let t : tiles ≡ count_by (is_dead_tile start symbol) (stored_keys start) = omega (arith, freed.tiles_are, drops_counted kinds.TableData, tiles_are) in
        let i : indexes ≡ count_by (is_dead_index start symbol) (stored_keys start) = omega (arith, freed.indexes_are, drops_counted kinds.TableIndex, indexes_are) in
        let p : pieces ≡ count_by (is_dead_piece start symbol) (stored_keys start) = omega (arith, freed.pieces_are, drops_counted kinds.Staged, pieces_are) in
        λ j. outcomes.Freed (t j) (i j) (p j)

    told : outcomes.Freed tiles indexes pieces ≡ reclaim_outcome start symbol
    told =
        let referred : (state_of start symbol).has_reference ≡ true = ap (λ (st : State). st.has_reference) (sym alike.state_is) ∙ (ap (λ g. (state_of g symbol).has_reference) look_is ∙ freed.referred) in
        freed_is ∙ sym (ap (λ b. cond b (freed_outcome start symbol) (outcomes.Refused refusals.NoSuchSymbol)) referred)

-- ---- each legal reclaim that is alone

module _ (h : History) (client : Client) (symbol : Name) (reply : Reply) (w : Window) (lawful : IsLawful h) (ends : w.stop ≡ length h) (legal : IsLegalSeen h client (commands.Reclaim symbol) reply w)
    (cut : is_cut reply.outcome ≡ false) (alone : IsAlone h client.session.client symbol w) where
  abbrev own : ℕ
  own = client.session.client

  last : reply.place ≤ length h
  last = omega (arith, legal.before, ends)

  own_are : (done : Bool) → is_done reply ≡ done → IsOwn h client.session w (commands.Reclaim symbol) reply done (own_events h own w)
  own_are done is = subst (λ b. IsOwn h client.session w (commands.Reclaim symbol) reply b (own_events h own w)) is (own_events_are h client.session (commands.Reclaim symbol) reply w legal.own cut)

  done_is : (o : Outcome) → reply.outcome ≡ o → is_done reply ≡ (not (is_refused o) && not (is_empty_burial reply o))
  done_is o is = ap (λ x. not (is_refused x) && not (is_empty_burial reply x)) is

  -- without a reference there is none where the window begins
  unreferred : reply.outcome ≡ outcomes.Refused refusals.NoSuchSymbol → (state_of (history_at h reply.place) symbol).has_reference ≡ false → reply.outcome ≡ reclaim_outcome (history_at h w.start) symbol
  unreferred is none =
      let nothing : own_events h own w ≡ [] = own_are false (done_is (outcomes.Refused refusals.NoSuchSymbol) is) in
      let same = state_stays h own symbol w [] (record { ends = ends; alone = alone; own = nothing }) reply.place legal.after last in
      let there : (state_of (history_at h w.start) symbol).has_reference ≡ false = ap (λ (st : State). st.has_reference) (sym same) ∙ none in
      is ∙ sym (ap (λ b. cond b (freed_outcome (history_at h w.start) symbol) (outcomes.Refused refusals.NoSuchSymbol)) there)

  freed_told : (tiles indexes pieces : ℕ) → reply.outcome ≡ outcomes.Freed tiles indexes pieces → IsFreedAt h own symbol tiles indexes pieces reply w → reply.outcome ≡ reclaim_outcome (history_at h w.start) symbol
  freed_told tiles indexes pieces is freed =
      let dropping = own_are true (done_is (outcomes.Freed tiles indexes pieces) is) in
      let here : reply.place ≡ dropping.0 = sym (dropping.3 (ap is_refused is)) in
      is ∙ told h own symbol w dropping.0 lawful ends alone dropping.1 (omega (arith, here, last)) dropping.4 tiles indexes pieces reply here freed

  pub reclaim_is_told : reply.outcome ≡ reclaim_outcome (history_at h w.start) symbol
  reclaim_is_told = elim (reclaim_is h client symbol reply w reply.outcome cut legal.outcome) [
    | inl met ↦
        let is : met.0 ≡ symbol = sym (some_name symbol met.0 met.2.1) in
        let unnamed = others_unnamed h own symbol w ends alone reply.place met.3.event met.3.inside last met.3.at (not_same _ _ met.3.others) in
        absurd (true≢false (sym (refers_names symbol met.3.event (subst (λ n. refers n met.3.event ≡ true) is met.3.refers)) ∙ unnamed))
    | inr rest ↦ elim rest [
      | inl none ↦ unreferred none.0 none.1
      | inr freed ↦ freed_told freed.0 freed.1 freed.2 freed.3 freed.4
    ]
  ]
