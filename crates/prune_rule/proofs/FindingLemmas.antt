-- What the looks of a reclaim find is dead, and all of it; and that a try was met.
use Rattle.std.proofs.Common.{◌≡◌, ℕ, ◌≤◌, Bool, true, false, ◌||◌, ◌&&◌, not, List, [], ◌∷◌, ◌++◌, map, length, reverse, refl, ap, sym, ◌∙◌, subst, inl, inr, arith, cond, nat_eq, Option, Some, None, length-append}
use Rattle.std.specs.Prelude.{◌⊎◌, Contains, find, is_some}
use Rattle.std.specs.List.{list_any, AllByRecursion}
use Rattle.std.specs.BTreeSet.{BTreeSet}
use Rattle.std.proofs.lemmas.Bool.{true≢false, or_cases, or_left, or_right, and_parts, and_from, not-true, eq-eqb}
use Rattle.std.proofs.lemmas.List.{reverse-append}
use Rattle.std.proofs.lemmas.List.Elements.{Contains-append_left}
use Rattle.std.proofs.lemmas.List.Folds.{list_any-append}
use denote.Struct.Props.{props}
use mathlib.Core.HLevel.{⊥_prop}
use mathlib.Core.Logic.{∥∥₁_elim}
use Rattle.index_tree.specs.declared.index.Index.{Index}
use Rattle.key_kind.specs.declared.key.KeyKind.TheVariants as kinds
use Rattle.key_kind.specs.declared.key.Key.{Key}
use Rattle.key_kind.specs.Names.{Name, same_name}
use Rattle.key_kind.specs.Keys.{is_put, same_kind}
use Rattle.key_kind.proofs.KeyTests.{same_kind_is, same_name_is, same_name_self}
use Rattle.bucket_core.specs.History.{History, Bytes, stored, body_put, referred_at, AllByOthers, history_at}
use Rattle.bucket_core.specs.Laws.{refers}
use Rattle.store_model.specs.declared.chain.LinkRow.{LinkRow}
use Rattle.store_model.specs.declared.hold.HoldRow.{HoldRow}
use Rattle.store_model.specs.Law.{IsLawful}
use Rattle.store_model.specs.Library.{Hold, state_of, is_live, is_held, is_kept, is_consumed, same_piece}
use Rattle.store_model.specs.Links.{Linked, links, reached, reaches, is_needed, is_reached_by_needed, IsUnneeded, IsConsumedPiece}
use Rattle.store_model.specs.PlainLinks.{flat_put}
use Rattle.store_model.proofs.Plainly.{lawful_links}
use Rattle.store_model.proofs.PlainLinks.{flat_stays, plain_reach}
use Rattle.store_model.proofs.Dropping.{reaches_it, it_is_reached}
use Rattle.store_model.proofs.Following.{puts_stay}
use Rattle.store_model.proofs.Lawful.{lawful_is_intact, beginning_lawful}
use Rattle.store_model.proofs.Lists.{contains_first, contains_later, contains_cases, contains_none, contains_append, contains_right, one_passes, none_passes, passes, filter_in, in_filter}
use Rattle.store_model.proofs.Stability.{is_false, none_pass}
use Rattle.store_model.proofs.Untouched.{as_it_was}
use Rattle.version_chain.specs.declared.state.SymbolState.{SymbolState}
use Rattle.version_chain.specs.States.{hold_of, is_tomb, IsStateOf, IsStateAt}
use Rattle.version_chain.specs.Marking.{IsMet}
use Rattle.version_chain.proofs.ElementForms.{walked_lawful}
use Rattle.version_chain.proofs.MeetLemmas.{others_refer_not, met_here, met_sooner}
use Rattle.version_chain.proofs.Walked.{others_append}
use Rattle.version_chain.proofs.TraceLemmas.{append_assoc, split_more, others_first}
use Rattle.frame_read.proofs.ChoosingLemmas.{has_reference_told}
use Rattle.reply_model.specs.Drops.{IsDeadIndex, IsDeadPiece}
use Rattle.reply_model.proofs.Later.{history_at_later}
use Rattle.reply_model.proofs.Places.{history_at_end}
use Rattle.prune_rule.specs.Finding.{LooksLost}
use Rattle.prune_rule.specs.declared.parting.Rows.{Rows}
use Rattle.prune_rule.specs.declared.reaching.Reached.{Reached}
use Rattle.prune_rule.specs.DeadKeys.{has_key, IsDeadKey, reached_keys, IsIndexPut, Reaches, keeps, AreParted, NotesStaged, FoundDead}
use Rattle.prune_rule.proofs.StateLemmas.{link_told}
use Rattle.prune_rule.proofs.GoneLemmas.{stays_gone, stood_before, still_put, none_and_some}
use Rattle.prune_rule.proofs.DeadLemmas.{link_kinds, own_index, index_once, reached_put, index_is}
use Rattle.prune_rule.proofs.PieceLemmas.{piece_was_put}

-- ---- lists

reversed_in : {X : Type 0} (xs : List X) (x : X) → Contains xs x → Contains (reverse xs) x
reversed_in [] x c = absurd (contains_none x c)
reversed_in (y ∷ xs) x c =
    subst (λ l. Contains l x) (sym (reverse-append (y ∷ []) xs)) (elim (contains_cases x y xs c) [
      | inl is ↦ contains_right (reverse xs) (y ∷ []) x (subst (λ z. Contains (z ∷ []) x) (sym is) (contains_first x []))
      | inr later ↦ Contains-append_left (reverse xs) (y ∷ []) x (reversed_in xs x later)
    ])

in_reversed : {X : Type 0} (xs : List X) (x : X) → Contains (reverse xs) x → Contains xs x
in_reversed [] x c = c
in_reversed (y ∷ xs) x c = elim (contains_append (reverse xs) (y ∷ []) x (subst (λ l. Contains l x) (reverse-append (y ∷ []) xs) c)) [
  | inl later ↦ contains_later x y xs (in_reversed xs x later)
  | inr last ↦ elim (contains_cases x y [] last) [ inl is ↦ subst (λ z. Contains (z ∷ xs) x) (sym is) (contains_first x xs) | inr d ↦ absurd (contains_none x d) ]
]

mapped_in : {X Y : Type 0} (f : X → Y) (xs : List X) (x : X) → Contains xs x → Contains (map f xs) (f x)
mapped_in f [] x c = absurd (contains_none x c)
mapped_in f (y ∷ xs) x c = elim (contains_cases x y xs c) [ inl is ↦ subst (λ z. Contains (f z ∷ map f xs) (f x)) (sym is) (contains_first (f x) (map f xs)) | inr d ↦ contains_later (f x) (f y) (map f xs) (mapped_in f xs x d) ]

image_of : {X Y : Type 0} (f : X → Y) (xs : List X) (y : Y) → Contains (map f xs) y → (x : X) × Contains xs x × (f x ≡ y)
image_of f [] y c = absurd (contains_none y c)
image_of f (x ∷ xs) y c = elim (contains_cases y (f x) (map f xs) c) [ inl is ↦ (x, contains_first x xs, is) | inr d ↦ let r = image_of f xs y d in (r.0, contains_later r.0 x xs r.1, r.2) ]

any_mapped : {X Y : Type 0} (p : Y → Bool) (f : X → Y) (xs : List X) → list_any p (map f xs) ≡ list_any (λ x. p (f x)) xs
any_mapped p f [] = refl
any_mapped p f (x ∷ xs) = ap (λ b. p (f x) || b) (any_mapped p f xs)

-- ---- a walked state

module _ (h : History) (symbol : Name) (state : SymbolState) (lawful : ∥ IsLawful h ∥₁) (told : IsStateOf h symbol state) where
  -- the row of a link is in the state
  row_there : (l : Linked) → Contains (links h symbol) l → Contains (reverse state.links) l.row
  row_there l c = reversed_in state.links l.row (subst (λ rows. Contains rows l.row) (sym told.links) (reversed_in (map (λ (m : Linked). m.row) (links h symbol)) l.row (mapped_in (λ (m : Linked). m.row) (links h symbol) l c)))

  -- and each row is that of a link
  link_there : (row : LinkRow) → Contains (reverse state.links) row → (l : Linked) × Contains (links h symbol) l × (l.row ≡ row)
  link_there row c = image_of (λ (m : Linked). m.row) (links h symbol) row (in_reversed (map (λ (m : Linked). m.row) (links h symbol)) row (subst (λ rows. Contains rows row) told.links (in_reversed state.links row c)))

  -- a version is kept where the library says so
  keeps_told : (l : Linked) → Contains (links h symbol) l → keeps state.tombs state.holds l.row ≡ is_needed (state_of h symbol) l
  keeps_told l c = λ i. live i || held i
    where
      found_some : (rows : List LinkRow) → list_any (λ (row : LinkRow). nat_eq l.row.version row.version) rows ≡ true → is_some (find (λ (row : LinkRow). nat_eq l.row.version row.version) rows) ≡ true
      found_some [] e = absurd (true≢false (sym e))
      found_some (row ∷ rows) e =
          elim (nat_eq l.row.version row.version) as (λ b. (b || list_any (λ (r : LinkRow). nat_eq l.row.version r.version) rows) ≡ true → is_some (cond b (Some row) (find (λ (r : LinkRow). nat_eq l.row.version r.version) rows)) ≡ true) [
            | true ↦ λ f. refl
            | false ↦ λ f. found_some rows f
          ] e

      there : is_some (find (λ (row : LinkRow). nat_eq l.row.version row.version) state.links) ≡ true
      there = found_some state.links (passes (λ (row : LinkRow). nat_eq l.row.version row.version) state.links l.row (in_reversed state.links l.row (row_there l c)) (eq-eqb l.row.version l.row.version refl))

      by_tomb : (b : Bool) → not b ≡ is_some (cond b None (find (λ (row : LinkRow). nat_eq l.row.version row.version) state.links))
      by_tomb true = refl
      by_tomb false = sym there

      live : not (is_tomb state.tombs l.row.version) ≡ is_live (state_of h symbol) l.row.version
      live = by_tomb (is_tomb state.tombs l.row.version) ∙ link_told h symbol state l.row.version lawful told

      held : list_any (λ (hold : HoldRow). nat_eq l.row.version hold.version) state.holds ≡ is_held (state_of h symbol) l.row.version
      held = sym (any_mapped (λ (w : Hold). nat_eq l.row.version w.version) hold_of state.holds) ∙ ap (list_any (λ (w : Hold). nat_eq l.row.version w.version)) told.holds

  module _ (rows : Rows) (parted : AreParted state.links state.tombs state.holds rows) where
    kept_row : (l : Linked) → Contains (links h symbol) l → is_needed (state_of h symbol) l ≡ true → Contains rows.kept l.row
    kept_row l c need = subst (λ rs. Contains rs l.row) (sym parted.kept) (in_filter (keeps state.tombs state.holds) (reverse state.links) l.row (row_there l c) (keeps_told l c ∙ need))

    row_kept : (row : LinkRow) → Contains rows.kept row → (l : Linked) × Contains (links h symbol) l × (l.row ≡ row) × (is_needed (state_of h symbol) l ≡ true)
    row_kept row c =
        let f = filter_in (keeps state.tombs state.holds) (reverse state.links) row (subst (λ rs. Contains rs row) parted.kept c) in
        let l = link_there row f.0 in
        (l.0, l.1, l.2, sym (keeps_told l.0 l.1) ∙ (ap (keeps state.tombs state.holds) l.2 ∙ f.1))

    dead_row : (l : Linked) → Contains (links h symbol) l → is_needed (state_of h symbol) l ≡ false → Contains rows.dead l.row
    dead_row l c need = subst (λ rs. Contains rs l.row) (sym parted.dead) (in_filter (λ row. not (keeps state.tombs state.holds row)) (reverse state.links) l.row (row_there l c) (ap not (keeps_told l c ∙ need)))

    row_dead : (row : LinkRow) → Contains rows.dead row → (l : Linked) × Contains (links h symbol) l × (l.row ≡ row) × (is_needed (state_of h symbol) l ≡ false)
    row_dead row c =
        let f = filter_in (λ row. not (keeps state.tombs state.holds row)) (reverse state.links) row (subst (λ rs. Contains rs row) parted.dead c) in
        let l = link_there row f.0 in
        (l.0, l.1, l.2, sym (keeps_told l.0 l.1) ∙ (ap (keeps state.tombs state.holds) l.2 ∙ not-true _ f.1))

-- ---- indexes

-- the indexes of links were put
index_put_of : (h : History) (symbol : Name) (l : Linked) → ∥ IsLawful h ∥₁ → Contains (links h symbol) l → IsIndexPut h l.row
index_put_of h symbol l lawful c = record {
  kind = ∥∥₁_elim lawful (hlevel props) (λ w. (link_kinds h w symbol l c).index);
  put = ∥∥₁_elim lawful (hlevel props) (λ w. reached_put h w symbol l l.row.index c (contains_first l.row.index _));
}

pub index_put_later : (more h new : History) (row : LinkRow) → new ≡ more ++ h → ∥ IsLawful new ∥₁ → IsIndexPut h row → IsIndexPut new row
index_put_later more h new row is lawful p = record { kind = p.kind; put = still_put more h new row.index is lawful p.put }

index_prop : (a b : Index) → IsProp (a ≡ b)
index_prop a b = hlevel props

keys_prop : (a b : List Key) → IsProp (a ≡ b)
keys_prop a b = hlevel props

-- the index that is found under a link's key later is its own
same_index : (more h new : History) (symbol : Name) (l : Linked) (index : Index) → new ≡ more ++ h → ∥ IsLawful new ∥₁ → Contains (links h symbol) l → flat_put new l.row.index ≡ Some index → l.index ≡ index
same_index more h new symbol l index is lawful c put = ∥∥₁_elim (subst (λ g. ∥ IsLawful g ∥₁) is lawful) (index_prop l.index index) (λ w.
    some_same (sym (flat_stays h (more ++ h) (puts_stay more h w) l.row.index l.index (index_is h (beginning_lawful more h w) symbol l c)) ∙ (ap (λ g. flat_put g l.row.index) (sym is) ∙ put)))
  where
    some_same : {x y : Index} → Some x ≡ Some y → x ≡ y
    some_same e = cc

-- ---- what is dead

key_prop : (a b : Key) → IsProp (a ≡ b)
key_prop a b = hlevel props

module _ (h : History) (symbol : Name) (lawful : ∥ IsLawful h ∥₁) where
  name_of : (l : Linked) (key : Key) → Contains (links h symbol) l → Contains (reached l) key → key.name ≡ symbol
  name_of l key c reach = ∥∥₁_elim lawful (hlevel props) (λ w. ((lawful_is_intact h w).table_keys symbol l key c reach).name)

  -- no needed link reaches the key
  not_needed : (key : Key) → key.name ≡ symbol → ((l : Linked) → Contains (links h symbol) l → is_needed (state_of h symbol) l ≡ true → Contains (reached l) key → ⊥) → is_reached_by_needed h key ≡ false
  not_needed key name none = subst (λ s. list_any (λ l. is_needed (state_of h s) l && reaches l key) (links h s) ≡ false) (sym name)
      (none_pass (λ l. is_needed (state_of h symbol) l && reaches l key) (links h symbol) (λ l c. is_false _ (λ both.
      let p = and_parts (is_needed (state_of h symbol) l) (reaches l key) both in none l c p.0 (it_is_reached l key p.1))))

  -- a link reaches it, and no needed one
  unneeded_of : (l : Linked) (key : Key) → Contains (links h symbol) l → Contains (reached l) key → ((m : Linked) → Contains (links h symbol) m → is_needed (state_of h symbol) m ≡ true → Contains (reached m) key → ⊥) → IsUnneeded h key
  unneeded_of l key c reach none = record {
    once = subst (λ s. list_any (λ k. reaches k key) (links h s) ≡ true) (sym (name_of l key c reach)) (passes (λ k. reaches k key) (links h symbol) l c (reaches_it l key reach));
    no_more = not_needed key (name_of l key c reach) none;
  }

  -- a link that reaches an unneeded key is not needed
  unneeded_link : (l : Linked) (key : Key) → Contains (links h symbol) l → Contains (reached l) key → IsUnneeded h key → is_needed (state_of h symbol) l ≡ false
  unneeded_link l key c reach u = is_false _ (λ need.
      true≢false (sym (and_from _ _ need (reaches_it l key reach))
      ∙ none_passes (λ l. is_needed (state_of h symbol) l && reaches l key) (links h symbol) l (subst (λ s. list_any (λ l. is_needed (state_of h s) l && reaches l key) (links h s) ≡ false) (name_of l key c reach) u.no_more) c))

  -- the index of a link that is not needed
  index_unneeded : (l : Linked) → Contains (links h symbol) l → is_needed (state_of h symbol) l ≡ false → IsUnneeded h l.row.index
  index_unneeded l c dead = unneeded_of l l.row.index c (contains_first l.row.index _) (λ m d need reach. ∥∥₁_elim lawful ⊥_prop (λ w.
      let same : m.row.index ≡ l.row.index = own_index m l.row.index (link_kinds h w symbol m d) (lawful_links h w symbol m d) reach (link_kinds h w symbol l c).index in
      true≢false (sym need ∙ (ap (λ (r : LinkRow). is_kept (state_of h symbol) r.version) (index_once h w symbol m l d c same) ∙ dead))))

  -- a dead index is that of a link which is not needed
  dead_index_link : (key : Key) → IsDeadIndex h symbol key → (l : Linked) × Contains (links h symbol) l × (l.row.index ≡ key) × (is_needed (state_of h symbol) l ≡ false)
  dead_index_link key d =
      let r = one_passes (λ k. reaches k key) (links h symbol) (subst (λ s. list_any (λ k. reaches k key) (links h s) ≡ true) d.0.1 d.1.once) in
      let reach = it_is_reached r.0 key r.2 in
      (r.0, r.1, ∥∥₁_elim lawful (key_prop r.0.row.index key) (λ w. own_index r.0 key (link_kinds h w symbol r.0 r.1) (lawful_links h w symbol r.0 r.1) reach d.0.0), unneeded_link r.0 key r.1 reach d.1)

  -- a key that a link which is not needed reaches, and no needed one, is dead where the index is there
  dead_of : (l : Linked) (key : Key) → Contains (links h symbol) l → is_needed (state_of h symbol) l ≡ false → Contains (reached l) key → IsUnneeded h key → is_some (stored h l.row.index) ≡ true → IsDeadKey h symbol key
  dead_of l key c dead reach u stands =
      elim (same_kind key.kind kinds.TableData) as (λ b. same_kind key.kind kinds.TableData ≡ b → IsDeadKey h symbol key) [
        | true ↦ λ e. inl (
          (same_kind_is key.kind kinds.TableData e, name_of l key c reach),
          u,
          (l, c, ((∥∥₁_elim lawful (hlevel props) (λ w. (link_kinds h w symbol l c).index), name_of l l.row.index c (contains_first l.row.index _)), index_unneeded l c dead, stands), reach),
        )
        | false ↦ λ e.
            let kind = index_kind e in
            inr (inl ((kind, name_of l key c reach), u, subst (λ x. is_some (stored h x) ≡ true) (∥∥₁_elim lawful (key_prop l.row.index key) (λ w. own_index l key (link_kinds h w symbol l c) (lawful_links h w symbol l c) reach kind)) stands))
      ] refl
    where
      index_kind : same_kind key.kind kinds.TableData ≡ false → key.kind ≡ kinds.TableIndex
      index_kind e = ∥∥₁_elim lawful (hlevel props) (λ w. elim ((lawful_is_intact h w).table_keys symbol l key c reach).kind [
        | inl tile ↦ absurd (true≢false (sym (ap (λ k. same_kind k kinds.TableData) tile) ∙ e))
        | inr index ↦ index
      ])

all_of : (P : LinkRow → Type 0) (rows : List LinkRow) → ((row : LinkRow) → Contains rows row → P row) → AllByRecursion P rows
all_of P [] f = tt
all_of P (row ∷ rows) f = (f row (contains_first row rows), all_of P rows (λ r c. f r (contains_later r row rows c)))

-- the indexes of the rows were put
pub kept_rows_put : (h1 : History) (symbol : Name) (state : SymbolState) (at : IsStateAt h1 symbol state) → ∥ IsLawful h1 ∥₁ → (rows : Rows) → AreParted state.links state.tombs state.holds rows → AllByRecursion (IsIndexPut h1) rows.kept
kept_rows_put h1 symbol state at law rows parted = all_of (IsIndexPut h1) rows.kept (λ row c.
    let lawful = walked_lawful h1 at.later at.before at.split law in
    let l = row_kept at.before symbol state lawful at.is rows parted row c in
    index_put_later at.later at.before h1 row at.split law (subst (IsIndexPut at.before) l.2 (index_put_of at.before symbol l.0 lawful l.1)))

pub dead_rows_put : (h1 h2 o2 : History) (symbol : Name) (state : SymbolState) (at : IsStateAt h1 symbol state) → h2 ≡ o2 ++ h1 → ∥ IsLawful h1 ∥₁ → ∥ IsLawful h2 ∥₁ → (rows : Rows) → AreParted state.links state.tombs state.holds rows → AllByRecursion (IsIndexPut h2) rows.dead
dead_rows_put h1 h2 o2 symbol state at is2 law law2 rows parted = all_of (IsIndexPut h2) rows.dead (λ row c.
    let lawful = walked_lawful h1 at.later at.before at.split law in
    let l = row_dead at.before symbol state lawful at.is rows parted row c in
    index_put_later o2 h1 h2 row is2 law2 (index_put_later at.later at.before h1 row at.split law (subst (IsIndexPut at.before) l.2 (index_put_of at.before symbol l.0 lawful l.1))))

-- and still are later
pub rows_put_later : (more h new : History) (rows : List LinkRow) → new ≡ more ++ h → ∥ IsLawful new ∥₁ → AllByRecursion (IsIndexPut h) rows → AllByRecursion (IsIndexPut new) rows
rows_put_later more h new [] is lawful p = tt
rows_put_later more h new (row ∷ rows) is lawful p = (index_put_later more h new row is lawful p.0, rows_put_later more h new rows is lawful p.1)

module _ (h0 h1 h2 h3 h4 : History) (symbol : Name) (state : SymbolState) (o2 o3 o4 : History) (from : length h0 ≤ state.place)
    (at : IsStateAt h1 symbol state) (is2 : h2 ≡ o2 ++ h1) (is3 : h3 ≡ o3 ++ h2) (is4 : h4 ≡ o4 ++ h3)
    (law1 : ∥ IsLawful h1 ∥₁) (law2 : ∥ IsLawful h2 ∥₁) (law3 : ∥ IsLawful h3 ∥₁) (law4 : ∥ IsLawful h4 ∥₁) (rows : Rows) (parted : AreParted state.links state.tombs state.holds rows) where
  abbrev before : History
  before = at.before

  lawful : ∥ IsLawful before ∥₁
  lawful = walked_lawful h1 at.later before at.split law1

  since2 : h2 ≡ (o2 ++ at.later) ++ before
  since2 = is2 ∙ (ap (λ h. o2 ++ h) at.split ∙ sym (append_assoc o2 at.later before))

  since3 : h3 ≡ (o3 ++ (o2 ++ at.later)) ++ before
  since3 = is3 ∙ (ap (λ h. o3 ++ h) since2 ∙ sym (append_assoc o3 (o2 ++ at.later) before))

  since4 : h4 ≡ (o4 ++ (o3 ++ (o2 ++ at.later))) ++ before
  since4 = is4 ∙ (ap (λ h. o4 ++ h) since3 ∙ sym (append_assoc o4 (o3 ++ (o2 ++ at.later)) before))

  told : IsStateOf before symbol state
  told = at.is

  -- a link reaches its index key and the keys of its slots
  reached_is : (l : Linked) → Contains (links before symbol) l → reached l ≡ reached_keys l.row.index l.index
  reached_is l c = ∥∥₁_elim lawful (keys_prop (reached l) (reached_keys l.row.index l.index)) (λ w. plain_reach l (lawful_links before w symbol l c))

  -- what is found under a link's index later is its own
  own : (more new : History) → new ≡ more ++ before → ∥ IsLawful new ∥₁ → (l : Linked) (index : Index) → Contains (links before symbol) l → flat_put new l.row.index ≡ Some index → l.index ≡ index
  own more new is law l index c put = same_index more before new symbol l index is law c put

  -- the set of what is kept has each key that a needed link reaches
  module _ (none : BTreeSet Key) (empty : (key : Key) → has_key none key ≡ false) (kept : Reached) (reached2 : Reaches h1 h2 rows.kept none kept) where
    kept_has : kept.gone ≡ false → (l : Linked) (key : Key) → Contains (links before symbol) l → is_needed (state_of before symbol) l ≡ true → Contains (reached l) key → has_key kept.keys key ≡ true
    kept_has there l key c need reach = elim (reached2.each l.row (kept_row before symbol state lawful told rows parted l c need)) [
      | inl missing ↦ absurd (true≢false (sym missing.1 ∙ there))
      | inr found ↦ found.2 key (subst (λ i. Contains (reached_keys l.row.index i) key) (own (o2 ++ at.later) h2 since2 law2 l found.0 c found.1) (subst (λ ks. Contains ks key) (reached_is l c) reach)) (empty key)
    ]

    -- and no other
    kept_only : (key : Key) → has_key kept.keys key ≡ true → (l : Linked) × Contains (links before symbol) l × (is_needed (state_of before symbol) l ≡ true) × Contains (reached l) key
    kept_only key has =
        let r = reached2.only key has in
        let l = row_kept before symbol state lawful told rows parted r.1.0 r.1.1 in
        let by = r.1.2 in
        let put : flat_put h2 l.0.row.index ≡ Some by.index = ap (λ (x : LinkRow). flat_put h2 x.index) l.2 ∙ by.put in (
          l.0,
          l.1,
          l.3,
          subst (λ ks. Contains ks key) (sym (reached_is l.0 l.1)) (subst (λ i. Contains (reached_keys l.0.row.index i) key) (sym (own (o2 ++ at.later) h2 since2 law2 l.0 by.index l.1 put))
              (subst (λ (x : LinkRow). Contains (reached_keys x.index by.index) key) (sym l.2) by.reaches)),
        )

    -- an unneeded key is not kept
    unneeded_not_kept : (key : Key) → IsUnneeded before key → has_key kept.keys key ≡ false
    unneeded_not_kept key u = is_false _ (λ has.
        let l = kept_only key has in
        true≢false (sym l.2 ∙ unneeded_link before symbol lawful l.0 key l.1 l.3 u))

    -- the try was met where an index of a needed link is gone
    pub referred_since : kept.gone ≡ true → list_any (refers symbol) (o2 ++ at.later) ≡ true
    referred_since gone =
        let r = reached2.gone gone in
        let l = row_kept before symbol state lawful told rows parted r.0 r.1 in
        elim (list_any (refers symbol) (o2 ++ at.later)) as (λ b. list_any (refers symbol) (o2 ++ at.later) ≡ b → b ≡ true) [
          | true ↦ λ e. refl
          | false ↦ λ e. absurd (∥∥₁_elim (subst (λ g. ∥ IsLawful g ∥₁) since2 law2) ⊥_prop (λ law.
              let same = as_it_was before (o2 ++ at.later) symbol e in
              let there : Contains (links ((o2 ++ at.later) ++ before) symbol) l.0 = subst (λ ls. Contains ls l.0) (sym same.links_are) l.1 in
              let need : is_needed (state_of ((o2 ++ at.later) ++ before) symbol) l.0 ≡ true = ap (λ st. is_needed st l.0) same.state_is ∙ l.3 in
              let stands = (lawful_is_intact ((o2 ++ at.later) ++ before) law).needed symbol l.0 l.0.row.index there need (contains_first l.0.row.index _) in
              let missing : stored ((o2 ++ at.later) ++ before) l.0.row.index ≡ None = ap (λ h. stored h l.0.row.index) (sym since2) ∙ (ap (λ (x : LinkRow). stored h2 x.index) l.2 ∙ r.2) in
              none_and_some (stored ((o2 ++ at.later) ++ before) l.0.row.index) stands.body missing stands.stands))
        ] refl

    -- which a needed link has
    pub index_lost : kept.gone ≡ true → (l : Linked) × Contains (links before symbol) l × (is_needed (state_of before symbol) l ≡ true) × (stored h2 l.row.index ≡ None)
    index_lost gone =
        let r = reached2.gone gone in
        let l = row_kept before symbol state lawful told rows parted r.0 r.1 in
        (l.0, l.1, l.3, ap (λ (x : LinkRow). stored h2 x.index) l.2 ∙ r.2)

    module _ (there : kept.gone ≡ false) (dead : Reached) (reached3 : Reaches h2 h3 rows.dead kept.keys dead) (keys : BTreeSet Key) (noted : NotesStaged h4 symbol state.consumed dead.keys keys) where
      has_more : (key : Key) → has_key dead.keys key ≡ true → has_key keys key ≡ true
      has_more key has = noted key ∙ or_left (has_key dead.keys key) ((is_some (stored h4 key) && (same_kind key.kind kinds.Staged && same_name key.name symbol)) && list_any (same_piece (record { client = key.client; serial = key.serial })) state.consumed) has

      -- a key that a dead link reaches is dead
      each_reached : (key : Key) → has_key dead.keys key ≡ true → IsDeadKey before symbol key
      each_reached key has =
          let r = reached3.only key has in
          let l = row_dead before symbol state lawful told rows parted r.1.0 r.1.1 in
          let by = r.1.2 in
          let put : flat_put h3 l.0.row.index ≡ Some by.index = ap (λ (x : LinkRow). flat_put h3 x.index) l.2 ∙ by.put in
          let reach : Contains (reached l.0) key = subst (λ ks. Contains ks key) (sym (reached_is l.0 l.1)) (subst (λ i. Contains (reached_keys l.0.row.index i) key) (sym (own (o3 ++ (o2 ++ at.later)) h3 since3 law3 l.0 by.index l.1 put))
          (subst (λ (x : LinkRow). Contains (reached_keys x.index by.index) key) (sym l.2) by.reaches)) in
          let was = index_put_of before symbol l.0 lawful l.1 in
          let stood : is_some (stored before l.0.row.index) ≡ true =
          stood_before (o2 ++ at.later) before h2 l.0.row.index since2 (ap is_put was.kind) law2 was.put (ap (λ (x : LinkRow). is_some (stored h2 x.index)) l.2 ∙ by.stood) in
          dead_of before symbol lawful l.0 key l.1 l.3 reach
          (unneeded_of before symbol lawful l.0 key l.1 reach (λ m c need also. true≢false (sym (kept_has there m key c need also) ∙ r.0))) stood

      -- and a consumed piece is
      each_piece : (key : Key) → ((is_some (stored h4 key) && (same_kind key.kind kinds.Staged && same_name key.name symbol)) && list_any (same_piece (record { client = key.client; serial = key.serial })) state.consumed) ≡ true → IsDeadKey before symbol key
      each_piece key e =
          let p = and_parts (is_some (stored h4 key) && (same_kind key.kind kinds.Staged && same_name key.name symbol)) (list_any (same_piece (record { client = key.client; serial = key.serial })) state.consumed) e in
          let q = and_parts (is_some (stored h4 key)) (same_kind key.kind kinds.Staged && same_name key.name symbol) p.0 in
          let r = and_parts (same_kind key.kind kinds.Staged) (same_name key.name symbol) q.1 in
          let kind : key.kind ≡ kinds.Staged = same_kind_is key.kind kinds.Staged r.0 in
          let name : key.name ≡ symbol = same_name_is key.name symbol r.1 in
          let piece : IsConsumedPiece before key = record {
            staged = kind;
            consumed = ap (λ s. is_consumed (state_of before s) (record { client = key.client; serial = key.serial })) name ∙ (ap (list_any (same_piece (record { client = key.client; serial = key.serial }))) (sym told.consumed) ∙ p.1);
          } in
          let put = piece_was_put (o4 ++ (o3 ++ (o2 ++ at.later))) before h4 key since4 law4 piece q.0 in
          inr (inr (name, piece, stood_before (o4 ++ (o3 ++ (o2 ++ at.later))) before h4 key since4 (ap is_put kind) law4 put q.0))

      -- a dead link was read, or its index is gone
      read_or_gone : (l : Linked) (key : Key) → Contains (links before symbol) l → is_needed (state_of before symbol) l ≡ false → Contains (reached l) key → IsUnneeded before key → (has_key keys key ≡ true) ⊎ (stored h4 l.row.index ≡ None)
      read_or_gone l key c dead_link reach u = elim (reached3.each l.row (dead_row before symbol state lawful told rows parted l c dead_link)) [
        | inl missing ↦
            let was = index_put_of before symbol l lawful c in
            let put : is_some (body_put h3 l.row.index) ≡ true = still_put (o3 ++ (o2 ++ at.later)) before h3 l.row.index since3 law3 was.put in
            inr (stays_gone o4 h3 h4 l.row.index is4 (ap is_put was.kind) law4 put missing.0)
        | inr found ↦ inl (has_more key (found.2 key (subst (λ i. Contains (reached_keys l.row.index i) key) (own (o3 ++ (o2 ++ at.later)) h3 since3 law3 l found.0 c found.1) (subst (λ ks. Contains ks key) (reached_is l c) reach)) (unneeded_not_kept key u)))
      ]

      found_index : (key : Key) → IsDeadIndex before symbol key → (has_key keys key ≡ true) ⊎ (stored h4 key ≡ None)
      found_index key d =
          let l = dead_index_link before symbol lawful key d in
          subst (λ k. (has_key keys k ≡ true) ⊎ (stored h4 k ≡ None)) l.2
          (read_or_gone l.0 l.0.row.index l.1 l.3 (contains_first l.0.row.index _) (subst (IsUnneeded before) (sym l.2) d.1))

      found_piece : (key : Key) → IsDeadPiece before symbol key → (has_key keys key ≡ true) ⊎ (stored h4 key ≡ None)
      found_piece key d = by (stored h4 key) refl
        where
          by : (o : Option Bytes) → stored h4 key ≡ o → (has_key keys key ≡ true) ⊎ (stored h4 key ≡ None)
          by None is = inr is
          by (Some body) is = inl (noted key ∙ or_right (has_key dead.keys key) _ (and_from _ _ (and_from _ _ (ap is_some is)
              (and_from _ _ (ap (λ k. same_kind k kinds.Staged) d.1.staged) (ap (λ n. same_name n symbol) d.0 ∙ same_name_self symbol)))
              (ap (list_any (same_piece (record { client = key.client; serial = key.serial }))) told.consumed ∙ (ap (λ s. is_consumed (state_of before s) (record { client = key.client; serial = key.serial })) (sym d.0) ∙ d.1.consumed))))

      -- all dead keys are found
      pub found_all : (was : is_some state.was ≡ true) → FoundDead h0 h4 symbol (record { keys = keys; place = state.place })
      found_all was = record {
        later = o4 ++ (o3 ++ (o2 ++ at.later));
        before = before;
        split = since4;
        place = at.place;
        from = omega (arith, from, at.place);
        referred = has_reference_told before symbol ∙ (ap is_some (sym told.was) ∙ was);
        each = λ key has. elim (or_cases (has_key dead.keys key) ((is_some (stored h4 key) && (same_kind key.kind kinds.Staged && same_name key.name symbol)) && list_any (same_piece (record { client = key.client; serial = key.serial })) state.consumed) (sym (noted key) ∙ has)) [
          | inl reached_key ↦ each_reached key reached_key
          | inr piece ↦ each_piece key piece
        ];
        no_index = found_index;
        no_tile = λ l key c index reach kind u. read_or_gone l key c (unneeded_link before symbol lawful l l.row.index c (contains_first l.row.index _) index.1) reach u;
        no_piece = found_piece;
      }

-- ---- a try that was met

pub met_behind : (client : ℕ) (symbol : Name) (h0 h1 h2 h5 : History) (state : SymbolState) (place : ℕ) (at : IsStateAt h1 symbol state) → length h0 ≤ state.place → (walked middle front : History) → h1 ≡ walked ++ h0 → AllByOthers client walked
    → h2 ≡ middle ++ h1 → AllByOthers client middle → h5 ≡ front ++ h2 → AllByOthers client front → list_any (refers symbol) (middle ++ at.later) ≡ true → place ≡ referred_at h5 symbol → IsMet client symbol (length at.before) h5 place
met_behind client symbol h0 h1 h2 h5 state place at from walked middle front is1 by1 is2 by2 is5 by5 referred place_is =
    let long : length h0 ≤ length at.before = omega (arith, from, at.place) in
    let parts = split_more at.later at.before walked h0 (sym at.split ∙ is1) long in
    let later : AllByOthers client at.later = others_first client at.later parts.0 (subst (AllByOthers client) parts.2 by1) in
    let back : h2 ≡ (middle ++ at.later) ++ at.before = is2 ∙ (ap (λ h. middle ++ h) at.split ∙ sym (append_assoc middle at.later at.before)) in
    let whole : h5 ≡ (front ++ (middle ++ at.later)) ++ at.before = is5 ∙ (ap (λ h. front ++ h) back ∙ sym (append_assoc front (middle ++ at.later) at.before)) in
    let none = others_refer_not client symbol (front ++ (middle ++ at.later)) (others_append client front (middle ++ at.later) by5 (others_append client middle at.later by2 later)) in
    let among : list_any (refers symbol) (front ++ (middle ++ at.later)) ≡ true =
    list_any-append (refers symbol) front (middle ++ at.later) ∙ or_right (list_any (refers symbol) front) (list_any (refers symbol) (middle ++ at.later)) referred in
    subst (IsMet client symbol (length at.before) h5) (sym place_is) (subst (λ h. IsMet client symbol (length at.before) h (referred_at h symbol)) (sym whole)
    (met_here client symbol at.before (front ++ (middle ++ at.later)) none among))

-- what it had lost
pub look_met : (client : ℕ) (symbol : Name) (h0 h1 h2 h5 : History) (state : SymbolState) (place : ℕ) (at : IsStateAt h1 symbol state) → length h0 ≤ state.place → (walked middle front : History) → h1 ≡ walked ++ h0 → AllByOthers client walked
    → h2 ≡ middle ++ h1 → AllByOthers client middle → h5 ≡ front ++ h2 → AllByOthers client front → list_any (refers symbol) (middle ++ at.later) ≡ true → place ≡ referred_at h5 symbol
    → (l : Linked) × Contains (links at.before symbol) l × (is_needed (state_of at.before symbol) l ≡ true) × (stored h2 l.row.index ≡ None) → IsMet client symbol (length h0) h5 place × LooksLost symbol h0 h5 place
look_met client symbol h0 h1 h2 h5 state place at from walked middle front is1 by1 is2 by2 is5 by5 referred place_is l =
    let m = met_behind client symbol h0 h1 h2 h5 state place at from walked middle front is1 by1 is2 by2 is5 by5 referred place_is in
    let long : length h0 ≤ length at.before = omega (arith, from, at.place) in
    let whole : h5 ≡ (front ++ (middle ++ at.later)) ++ at.before =
    is5 ∙ (ap (λ h. front ++ h) (is2 ∙ (ap (λ h. middle ++ h) at.split ∙ sym (append_assoc middle at.later at.before))) ∙ sym (append_assoc front (middle ++ at.later) at.before)) in
    let here : history_at h5 (length at.before) ≡ at.before =
    ap (λ h. history_at h (length at.before)) whole ∙ (history_at_later at.before (front ++ (middle ++ at.later)) (length at.before) (omega arith) ∙ history_at_end at.before) in
    let there : history_at h5 (length h2) ≡ h2 = ap (λ h. history_at h (length h2)) is5 ∙ (history_at_later h2 front (length h2) (omega arith) ∙ history_at_end h2) in (
      met_sooner client symbol (length at.before) (length h0) h5 place long m,
      record {
        look = length at.before;
        begins = long;
        between = m.added;
        shown = sym place_is;
        lost = record {
          link = l.0;
          link_is = subst (λ h. Contains (links h symbol) l.0) (sym here) l.1;
          needed = ap (λ h. is_needed (state_of h symbol) l.0) here ∙ l.2;
          place = length h2;
          behind = omega (arith, ap length is2, length-append middle h1, ap length at.split, length-append at.later at.before);
          before = omega (arith, ap length is5, length-append front h2);
          gone = ap (λ h. stored h l.0.row.index) there ∙ l.3;
        };
      },
    )
