-- What is claimed of a Refer stays so while others add lawful events that are no Refer of its symbol.
use Rattle.std.proofs.Common.{◌≡◌, ℕ, ◌<◌, true, false, not, List, [], ◌∷◌, ◌++◌, refl, ap, sym, ◌∙◌, subst, inl, inr, Option, Some, None, cond}
use Rattle.std.specs.Prelude.{IfSome, is_some, map, reverse}
use Rattle.std.specs.List.{list_any}
use Rattle.std.proofs.lemmas.Bool.{true≢false, or_right, or_from, and_left}
use Rattle.store_model.proofs.Lists.{filter_in, in_filter, all_weaker, one_passes, passes, contains_right}
use Rattle.index_tree.specs.declared.index.Slot.{Slot}
use Rattle.index_tree.specs.PageRules.{Page}
use Rattle.key_kind.specs.declared.key.KeyKind.TheVariants as kinds
use Rattle.key_kind.specs.declared.key.Key.{Key}
use Rattle.key_kind.specs.declared.key.Holder.{Holder}
use Rattle.key_kind.specs.Names.{Name}
use Rattle.key_kind.specs.Keys.{is_put, same_key, same_holder}
use Rattle.key_kind.specs.KeyText.{key_text}
use Rattle.key_kind.proofs.KeyTests.{same_key_is, put_is_no_reference, put_is_no_snapshot}
use Rattle.bucket_core.specs.declared.event.PieceName.{PieceName}
use Rattle.bucket_core.specs.declared.event.Change.{Change}
use Rattle.bucket_core.specs.declared.event.Change.TheVariants as changes
use Rattle.bucket_core.specs.declared.event.Event.{Event}
use Rattle.bucket_core.specs.declared.event.Event.TheVariants as events
use Rattle.bucket_core.specs.History.{History, author, stored, PutOnce}
use Rattle.bucket_core.specs.Laws.{refers}
use Rattle.store_model.proofs.Histories.{put_stays}
use Rattle.store_model.specs.declared.chain.LinkRow.{LinkRow}
use Rattle.store_model.specs.declared.chain.WholeState.{WholeState}
use Rattle.store_model.specs.Library.{State, Version, Hold, Piece, hold_of, state_of, after_changes, new_version, open_pieces, is_consumed, is_live, same_piece, piece_staged}
use Rattle.store_model.specs.Links.{Linked, links, links_at, reaches, is_reached, entries, is_entry}
use Rattle.store_model.specs.Holders.{has_hold, has_unnamed}
use Rattle.store_model.specs.Commits.{MayRefer, FitsLink, FitsMark, FitsChange, FitsRemoved, FitsDiscarded, IsFresh, IsNewIndex, MayNameKey, newest_reaches, BuriesAll, AsOften, told_link, TellsState}
use Rattle.store_model.specs.Law.{IsClaimed, IsDead}
use Rattle.store_model.specs.Intact.{IsIntact, IsTableKey}
use Rattle.store_model.proofs.Dropping.{needed_is_not_dead, reached_is_table, table_is_not_version, table_is_not_staged, retold_is_version, it_is_reached}
use Rattle.store_model.proofs.AsPut.{linked_stays, element_stays}
use Rattle.store_model.proofs.Stability.{is_false, puts_other, unnamed_stays, newest_is_needed}

-- the state with more staged pieces
abbrev pub staging : List Piece → State → State
staging more st = record st { staged = more ++ st.staged }

-- ---- an event that is no Refer of the symbol

module _ (h : History) (symbol : Name) where
  -- it leaves the state as it was, but for staged pieces
  pub state_stays : (x : Event) → refers symbol x ≡ false → (more : List Piece) × (state_of (x ∷ h) symbol ≡ staging more (state_of h symbol))
  state_stays (events.Put c key body) e = (piece_staged symbol key body, refl)
  state_stays (events.Refer c s was entry list) e = ([], ap (λ t. cond t (after_changes (state_of h symbol) list) (state_of h symbol)) e)
  state_stays (events.Name c snap body) e = ([], refl)
  state_stays (events.Unname c snap) e = ([], refl)
  state_stays (events.Drop c key) e = ([], refl)

  pub links_stay : (x : Event) → refers symbol x ≡ false → links (x ∷ h) symbol ≡ links h symbol
  links_stay (events.Put c key body) e = refl
  links_stay (events.Refer c s was entry list) e = ap (λ t. cond t (links_at h entry ++ links h symbol) (links h symbol)) e
  links_stay (events.Name c snap body) e = refl
  links_stay (events.Unname c snap) e = refl
  links_stay (events.Drop c key) e = refl

  pub entries_stay : (x : Event) → refers symbol x ≡ false → entries (x ∷ h) symbol ≡ entries h symbol
  entries_stay (events.Put c key body) e = refl
  entries_stay (events.Refer c s was entry list) e = ap (λ t. cond t (entry ∷ entries h symbol) (entries h symbol)) e
  entries_stay (events.Name c snap body) e = refl
  entries_stay (events.Unname c snap) e = refl
  entries_stay (events.Drop c key) e = refl

  pub has_hold_stays : (x : Event) (holder : Holder) → refers symbol x ≡ false → has_hold h symbol holder ≡ false → has_hold (x ∷ h) symbol holder ≡ false
  has_hold_stays (events.Put c key body) holder e f = f
  has_hold_stays (events.Refer c s was entry list) holder e f = or_from _ _ (and_left _ _ e) f
  has_hold_stays (events.Name c snap body) holder e f = f
  has_hold_stays (events.Unname c snap) holder e f = f
  has_hold_stays (events.Drop c key) holder e f = f

pub has_unnamed_stays : (h : History) (x : Event) (client : ℕ) (holder : Holder) → has_unnamed h client holder ≡ true → has_unnamed (x ∷ h) client holder ≡ true
has_unnamed_stays h (events.Put c key body) client holder e = e
has_unnamed_stays h (events.Refer c s was entry list) client holder e = e
has_unnamed_stays h (events.Name c snap body) client holder e = e
has_unnamed_stays h (events.Unname c snap) client holder e = or_right _ _ e
has_unnamed_stays h (events.Drop c key) client holder e = e

-- a key that clients put stays stored where the event may not drop it
pub stored_stays : (h : History) (x : Event) (key : Key) → is_put key.kind ≡ true → ((k : Key) → IsClaimed h x → x ≡ events.Drop (author x) k → same_key k key ≡ false) → IsClaimed h x
    → is_some (stored h key) ≡ true → is_some (stored (x ∷ h) key) ≡ true
stored_stays h (events.Put c k body) key kind kept claim e =
    elim (same_key k key) as (λ t. is_some (cond t (Some body) (stored h key)) ≡ true) [ true ↦ refl | false ↦ e ]
stored_stays h (events.Refer c s was entry list) key kind kept claim e = subst (λ t. is_some (cond t (Some (key_text entry)) (stored h key)) ≡ true) (sym (put_is_no_reference s key kind)) e
stored_stays h (events.Name c snap body) key kind kept claim e = subst (λ t. is_some (cond t (Some body) (stored h key)) ≡ true) (sym (put_is_no_snapshot snap key kind)) e
stored_stays h (events.Unname c snap) key kind kept claim e = subst (λ t. is_some (cond t None (stored h key)) ≡ true) (sym (put_is_no_snapshot snap key kind)) e
stored_stays h (events.Drop c k) key kind kept claim e = subst (λ t. is_some (cond t None (stored h key)) ≡ true) (sym (kept k claim refl)) e

-- ---- keys that others may not drop

-- the key that a Drop by another names is dead, and so another key
not_dead_here : (h : History) (x : Event) (key : Key) → (IsDead h key (author x) → ⊥) → (k : Key) → IsClaimed h x → x ≡ events.Drop (author x) k → same_key k key ≡ false
not_dead_here h x key alive k claim is =
    is_false (same_key k key) (λ s. alive (subst (λ d. IsDead h d (author x)) (same_key_is k key s) (dead_of claim)))
  where
    dead_of : IsClaimed h x → IsDead h k (author x)
    dead_of claim = subst (IsClaimed h) is claim

-- an own key of a table that no link reached is not dead to others
pub fresh_is_not_dead : (h : History) (other client version : ℕ) (symbol : Name) (key : Key) → IsIntact h → (other ≡ client → ⊥) → IsTableKey symbol key → IsFresh h client version key → IsDead h key other → ⊥
fresh_is_not_dead h other client version symbol key i apart table fresh dead = elim dead [
  | inl u ↦ true≢false (sym u.once ∙ fresh.unreached)
  | inr rest ↦ elim rest [
    | inl p ↦ table_is_not_staged symbol key table p.staged
    | inr later ↦ elim later [
      | inl o ↦ apart (sym o.own ∙ fresh.own)
      | inr r ↦ table_is_not_version symbol key table (retold_is_version h key i r)
    ]
  ]
]

pub shared_is_not_dead : (h : History) (other : ℕ) (symbol : Name) (key : Key) → IsIntact h → newest_reaches (state_of h symbol) (links h symbol) key ≡ true → IsDead h key other → ⊥
shared_is_not_dead h other symbol key i newest dead =
    let n = newest_is_needed (state_of h symbol) (links h symbol) key newest in
    needed_is_not_dead h other symbol n.0 key i n.1 n.2 (it_is_reached n.0 key n.3) dead

-- a new entry of a client's own is not dead to others
pub own_entry_is_not_dead : (h : History) (other client : ℕ) (key : Key) → IsIntact h → (other ≡ client → ⊥) → key.kind ≡ kinds.Version → key.client ≡ client → is_entry h key.name key ≡ false → IsDead h key other → ⊥
own_entry_is_not_dead h other client key i apart kind own fresh dead = elim dead [
  | inl u ↦ table_is_not_version key.name key (reached_is_table h key i u.once) kind
  | inr rest ↦ elim rest [
    | inl p ↦ cc (p.staged, kind)
    | inr later ↦ elim later [ inl o ↦ apart (sym o.own ∙ own) | inr r ↦ true≢false (sym r.once ∙ fresh) ]
  ]
]

-- ---- the claim

module _ (h : History) (x : Event) (client : ℕ) (symbol : Name) (claim : IsClaimed h x) (i : IsIntact h) (once : PutOnce (x ∷ h)) (apart : author x ≡ client → ⊥) (other : refers symbol x ≡ false) where
  unreached_of : (key : Key) → key.name ≡ symbol → is_reached h key ≡ false → is_reached (x ∷ h) key ≡ false
  unreached_of key name e =
      let at : refers key.name x ≡ false = subst (λ s. refers s x ≡ false) (sym name) other in
      subst (λ ls. list_any (λ l. reaches l key) ls ≡ false) (sym (links_stay h key.name x at)) e

  fresh_of : (version : ℕ) (key : Key) → key.name ≡ symbol → IsFresh h client version key → IsFresh (x ∷ h) client version key
  fresh_of version key name f = record { own = f.own; made_for = f.made_for; unreached = unreached_of key name f.unreached }

  newest_of : (key : Key) → newest_reaches (state_of h symbol) (links h symbol) key ≡ true → newest_reaches (state_of (x ∷ h) symbol) (links (x ∷ h) symbol) key ≡ true
  newest_of key e =
      let st = state_stays h symbol x other in
      subst (λ s. newest_reaches s (links (x ∷ h) symbol) key ≡ true) (sym st.1)
      (subst (λ ls. newest_reaches (staging st.0 (state_of h symbol)) ls key ≡ true) (sym (links_stay h symbol x other)) (unstaged st.0 (links h symbol) e))
    where
      unstaged : (more : List Piece) (ls : List Linked) → newest_reaches (state_of h symbol) ls key ≡ true → newest_reaches (staging more (state_of h symbol)) ls key ≡ true
      unstaged more [] e = e
      unstaged more (l ∷ ls) e =
          elim (is_live (state_of h symbol) l.row.version) as (λ t. cond t (reaches l key) (newest_reaches (state_of h symbol) ls key) ≡ true → cond t (reaches l key) (newest_reaches (staging more (state_of h symbol)) ls key) ≡ true) [
            | true ↦ λ f. f
            | false ↦ λ f. unstaged more ls f
          ] e

  new_index_of : (version : ℕ) (key : Key) → IsNewIndex h client version symbol key → IsNewIndex (x ∷ h) client version symbol key
  new_index_of version key n = record {
    kind = n.kind;
    name = n.name;
    stands = stored_stays h x key (ap is_put n.kind) (not_dead_here h x key (λ dead. fresh_is_not_dead h (author x) client version symbol key i apart (record { name = n.name; kind = inr n.kind }) n.fresh dead)) claim n.stands;
    fresh = fresh_of version key n.name n.fresh;
  }

  key_of_link : (version : ℕ) (key : Key) → MayNameKey h client version symbol key → MayNameKey (x ∷ h) client version symbol key
  key_of_link version key m = record {
    kind = m.kind;
    name = m.name;
    stands = stored_stays h x key (ap is_put m.kind) (not_dead_here h x key (λ dead. elim m.fresh_or_shared [
      | inl fresh ↦ fresh_is_not_dead h (author x) client version symbol key i apart (record { name = m.name; kind = inl m.kind }) fresh dead
      | inr shared ↦ shared_is_not_dead h (author x) symbol key i shared dead
    ])) claim m.stands;
    fresh_or_shared = elim m.fresh_or_shared [ inl fresh ↦ inl (fresh_of version key m.name fresh) | inr shared ↦ inr (newest_of key shared) ];
  }

  link_of : (row : LinkRow) (v : Version) → v.number ≡ v.number → FitsLink h client symbol row v → FitsLink (x ∷ h) client symbol row v
  link_of row v e f = record {
    number = f.number;
    stamp = f.stamp;
    rows = f.rows;
    storable = f.storable;
    new_index = new_index_of row.version row.index f.new_index;
    index_stamps = f.index_stamps;
    link = f.link;
    link_is = linked_stays h (x ∷ h) (put_stays h x once) row f.link f.link_is;
    new_pages = all_weaker (λ (p : Page). IsNewIndex h client row.version symbol p.row.key) (λ (p : Page). IsNewIndex (x ∷ h) client row.version symbol p.row.key) (λ p n. new_index_of row.version p.row.key n) f.link.pages f.new_pages;
    pages_before = f.pages_before;
    pages_fit = f.pages_fit;
    schema = f.schema;
    index_rows = f.index_rows;
    keys = all_weaker (λ (s : Slot). MayNameKey h client row.version symbol s.key) (λ (s : Slot). MayNameKey (x ∷ h) client row.version symbol s.key) (λ s m. key_of_link row.version s.key m) f.link.index.slots f.keys;
    tiled = f.tiled;
    stamps = f.stamps;
  }

  -- the version of a change does not depend on what is staged
  version_of_staging : (more : List Piece) (c : Change) → new_version (staging more (state_of h symbol)) c ≡ new_version (state_of h symbol) c
  version_of_staging more (changes.Wrote frame at) = refl
  version_of_staging more (changes.Appended frame at) = refl
  version_of_staging more (changes.Updated frame range at) = refl
  version_of_staging more (changes.Removed versions) = refl
  version_of_staging more (changes.Held holder version) = refl
  version_of_staging more (changes.Released holder) = refl
  version_of_staging more (changes.Discarded pieces) = refl
  version_of_staging more changes.Restated = refl

  open_of : (more : List Piece) (st : State) (name : PieceName) → list_any (λ (p : Piece). same_piece name p.name) (open_pieces st) ≡ true → list_any (λ (p : Piece). same_piece name p.name) (open_pieces (staging more st)) ≡ true
  open_of more st name e =
      let r = one_passes (λ (p : Piece). same_piece name p.name) (open_pieces st) e in
      let q = filter_in (λ (p : Piece). not (is_consumed st p.name)) st.staged r.0 r.1 in
      passes (λ (p : Piece). same_piece name p.name) (open_pieces (staging more st)) r.0
      (in_filter (λ (p : Piece). not (is_consumed st p.name)) (more ++ st.staged) r.0 (contains_right more st.staged r.0 q.0) q.1) r.2

  mark_of : (c : Change) → FitsMark h client symbol c → FitsMark (x ∷ h) client symbol c
  mark_of (changes.Wrote frame at) f = tt
  mark_of (changes.Appended frame at) f = tt
  mark_of (changes.Updated frame range at) f = f
  mark_of (changes.Removed versions) f =
      let st = state_stays h symbol x other in
      subst (λ s. FitsRemoved s versions) (sym st.1) (record { some = f.some; rising = f.rising; live = f.live })
  mark_of (changes.Held holder version) f =
      let st = state_stays h symbol x other in
      record {
        live = subst (λ s. is_live s version ≡ true) (sym st.1) f.live;
        own = f.own;
        begun = subst (λ n. holder.serial < n) (sym (puts_other h x client apart)) f.begun;
        unused = has_hold_stays h symbol x holder other f.unused;
        unnamed = unnamed_stays h x holder claim (λ e. apart (e ∙ f.own)) f.unnamed;
      }
  mark_of (changes.Released holder) f =
      let st = state_stays h symbol x other in
      record {
        held = subst (λ s. list_any (λ (w : Hold). same_holder holder w.holder) s.holds ≡ true) (sym st.1) f.held;
        allowed = elim f.allowed [
          | inl own ↦ inl (own.0, unnamed_stays h x holder claim (λ e. apart (e ∙ own.0)) own.1)
          | inr gone ↦ inr (has_unnamed_stays h x client holder gone)
        ];
      }
  mark_of changes.Restated f = f
  mark_of (changes.Discarded pieces) f =
      let st = state_stays h symbol x other in
      subst (λ s. FitsDiscarded s pieces) (sym st.1) (record {
        some = f.some;
        rising = f.rising;
        staged = all_weaker (λ name. list_any (λ (p : Piece). same_piece name p.name) (open_pieces (state_of h symbol)) ≡ true)
            (λ name. list_any (λ (p : Piece). same_piece name p.name) (open_pieces (staging st.0 (state_of h symbol))) ≡ true) (open_of st.0 (state_of h symbol)) pieces f.staged;
      })

  change_of : (row : LinkRow) (c : Change) → FitsChange h client symbol row c → FitsChange (x ∷ h) client symbol row c
  change_of row c f =
      let st = state_stays h symbol x other in (
        subst (λ s. IfSome (new_version s c) (FitsLink (x ∷ h) client symbol row)) (sym st.1)
            (subst (λ o. IfSome o (FitsLink (x ∷ h) client symbol row)) (sym (version_of_staging st.0 c)) (if_some (new_version (state_of h symbol) c) f.0)),
        mark_of c f.1,
      )
    where
      if_some : (o : Option Version) → IfSome o (FitsLink h client symbol row) → IfSome o (FitsLink (x ∷ h) client symbol row)
      if_some None g = tt
      if_some (Some v) g = link_of row v refl g

  buries_of : (list : List Change) (more : List Piece) → BuriesAll (state_of h symbol) list → BuriesAll (staging more (state_of h symbol)) list
  buries_of list more b = b

  -- what the state tells does not depend on what is staged
  tells_of : (told : WholeState) → TellsState h symbol told → TellsState (x ∷ h) symbol told
  tells_of told t =
      let st = state_stays h symbol x other in
      record {
        links = t.links ∙ ((λ i. reverse (map (told_link (staging st.0 (state_of h symbol))) (sym (links_stay h symbol x other) i))) ∙ ap (λ s. reverse (map (told_link s) (links (x ∷ h) symbol))) (sym st.1));
        holds = subst (λ s. AsOften (map hold_of told.holds) s.holds) (sym st.1) t.holds;
        pieces = subst (λ s. AsOften told.pieces s.consumed) (sym st.1) t.pieces;
      }

  pub refer_claim_stays : (was : Option Key) (entry : Key) (list : List Change) → MayRefer h client symbol was entry list → MayRefer (x ∷ h) client symbol was entry list
  refer_claim_stays was entry list may = record {
    kind = may.kind;
    name = may.name;
    own = may.own;
    stands = stored_stays h x entry (ap is_put may.kind)
        (not_dead_here h x entry (own_entry_is_not_dead h (author x) client entry i apart may.kind may.own (subst (λ s. is_entry h s entry ≡ false) (sym may.name) may.fresh))) claim may.stands;
    fresh = subst (λ ks. list_any (λ k. same_key k entry) ks ≡ false) (sym (entries_stay h symbol x other)) may.fresh;
    how = elim may.how [
      | inl change ↦ inl (record {
        form = change.form;
        row = change.row;
        spelled = element_stays h (x ∷ h) (put_stays h x once) entry _ change.spelled;
        fits = all_weaker (FitsChange h client symbol change.row) (FitsChange (x ∷ h) client symbol change.row) (change_of change.row) list change.fits;
        prunes = let st = state_stays h symbol x other in subst (λ s. BuriesAll s list) (sym st.1) (buries_of list st.0 change.prunes);
      })
      | inr restate ↦ inr (record {
        not_yet = restate.not_yet;
        alone = restate.alone;
        told = restate.told;
        spelled = element_stays h (x ∷ h) (put_stays h x once) entry _ restate.spelled;
        tells = tells_of restate.told restate.tells;
      })
    ];
  }
