-- A Drop keeps a history intact: a dead key is none that is needed.
use Rattle.std.proofs.Common.{◌≡◌, ℕ, true, false, ◌||◌, ◌&&◌, List, [], ◌∷◌, refl, sym, ◌∙◌, subst, inl, inr, not, cond}
use Rattle.std.specs.Prelude.{Contains}
use Rattle.std.proofs.lemmas.Bool.{true≢false, and_from, not-true}
use Rattle.store_model.proofs.Lists.{passes, none_passes, one_passes, filter_in, contains_none, contains_first, contains_later, contains_cases}
use Rattle.key_kind.specs.declared.key.KeyKind.{KeyKind}
use Rattle.key_kind.specs.declared.key.KeyKind.TheVariants as kinds
use Rattle.key_kind.specs.declared.key.Key.{Key}
use Rattle.key_kind.specs.Names.{Name, same_name}
use Rattle.key_kind.specs.Keys.{same_key, same_kind}
use Rattle.key_kind.proofs.KeyTests.{same_key_is, same_key_self}
use Rattle.bucket_core.specs.declared.event.Change.{Change}
use Rattle.bucket_core.specs.declared.event.Event.TheVariants as events
use Rattle.bucket_core.specs.History.{History}
use Rattle.store_model.proofs.Histories.{stands_at_drop}
use Rattle.store_model.specs.Library.{Piece, state_of, is_consumed, open_pieces, staged_key}
use Rattle.store_model.specs.Links.{Linked, links, reached, reaches, is_needed, is_reached, entries, restates, left_behind, chain_entries, IsRetold}
use Rattle.store_model.specs.Law.{IsDead}
use Rattle.store_model.specs.Intact.{IsIntact, IsTableKey}

-- ---- kinds

pub table_is_not_staged : (symbol : Name) (key : Key) → IsTableKey symbol key → key.kind ≡ kinds.Staged → ⊥
table_is_not_staged symbol key t e = elim t.kind [ inl d ↦ cc | inr d ↦ cc ]

pub table_is_not_version : (symbol : Name) (key : Key) → IsTableKey symbol key → key.kind ≡ kinds.Version → ⊥
table_is_not_version symbol key t e = elim t.kind [ inl d ↦ cc | inr d ↦ cc ]

-- ---- what is reached

pub reaches_it : (l : Linked) (key : Key) → Contains (reached l) key → reaches l key ≡ true
reaches_it l key c = passes (λ k. same_key k key) (reached l) key c (same_key_self key)

pub it_is_reached : (l : Linked) (key : Key) → reaches l key ≡ true → Contains (reached l) key
it_is_reached l key h =
    let r = one_passes (λ k. same_key k key) (reached l) h in subst (λ k. Contains (reached l) k) (same_key_is r.0 key r.2) r.1

-- a key that some link of its symbol reached is a table key
pub reached_is_table : (h : History) (key : Key) → IsIntact h → is_reached h key ≡ true → IsTableKey key.name key
reached_is_table h key i is =
    let r = one_passes (λ l. reaches l key) (links h key.name) is in i.table_keys key.name r.0 key r.1 (it_is_reached r.0 key r.2)

-- a key that an element was told anew under is one of an element
pub retold_is_version : (h : History) (key : Key) → IsIntact h → IsRetold h key → key.kind ≡ kinds.Version
retold_is_version h key i r =
    let found = one_passes (λ k. same_key k key) (entries h key.name) r.once in
    subst (λ (k : Key). k.kind ≡ kinds.Version) (same_key_is found.0 key found.2) (i.element_keys key.name found.0 found.1).1

-- an entry of a chain is an entry of its symbol
pub left_is_there : {X : Type 0} (list : List Change) (xs : List X) (x : X) → Contains (left_behind list xs) x → Contains xs x
left_is_there list xs x = elim (restates list) as (λ b. Contains (cond b [] xs) x → Contains xs x) [ true ↦ λ c. absurd (contains_none x c) | false ↦ λ c. c ]

pub chained_is_entry : (h : History) (symbol : Name) (key : Key) → Contains (chain_entries h symbol) key → Contains (entries h symbol) key
chained_is_entry [] symbol key c = c
chained_is_entry (events.Refer d s was entry list ∷ h) symbol key c =
    elim (same_name s symbol) as (λ b. Contains (cond b (entry ∷ left_behind list (chain_entries h symbol)) (chain_entries h symbol)) key → Contains (cond b (entry ∷ entries h symbol) (entries h symbol)) key) [
      | true ↦ λ c. elim (contains_cases key entry (left_behind list (chain_entries h symbol)) c) [
        | inl is ↦ subst (λ k. Contains (entry ∷ entries h symbol) k) is (contains_first entry (entries h symbol))
        | inr left ↦ contains_later key entry (entries h symbol) (chained_is_entry h symbol key (left_is_there list (chain_entries h symbol) key left))
      ]
      | false ↦ λ c. chained_is_entry h symbol key c
    ] c
chained_is_entry (events.Put d k body ∷ h) symbol key c = chained_is_entry h symbol key c
chained_is_entry (events.Name d snap body ∷ h) symbol key c = chained_is_entry h symbol key c
chained_is_entry (events.Unname d snap ∷ h) symbol key c = chained_is_entry h symbol key c
chained_is_entry (events.Drop d k ∷ h) symbol key c = chained_is_entry h symbol key c

-- ---- dead keys are not needed

pub needed_is_not_dead : (h : History) (client : ℕ) (symbol : Name) (l : Linked) (key : Key) → IsIntact h
    → Contains (links h symbol) l → is_needed (state_of h symbol) l ≡ true → Contains (reached l) key → IsDead h key client → ⊥
needed_is_not_dead h client symbol l key i there need reach dead =
    let t : IsTableKey symbol key = i.table_keys symbol l key there reach in
    let there' : Contains (links h key.name) l = subst (λ s. Contains (links h s) l) (sym t.name) there in
    let need' : is_needed (state_of h key.name) l ≡ true = subst (λ s. is_needed (state_of h s) l ≡ true) (sym t.name) need in
    elim dead [
      | inl u ↦ true≢false (sym (and_from _ _ need' (reaches_it l key reach)) ∙ none_passes (λ l. is_needed (state_of h key.name) l && reaches l key) (links h key.name) l u.no_more there')
      | inr rest ↦ elim rest [
        | inl c ↦ table_is_not_staged symbol key t c.staged
        | inr later ↦ elim later [
          | inl o ↦ true≢false (sym (reaches_it l key reach) ∙ none_passes (λ l. reaches l key) (links h key.name) l o.unreached there')
          | inr r ↦ table_is_not_version symbol key t (retold_is_version h key i r)
        ]
      ]
    ]

pub entry_is_not_dead : (h : History) (client : ℕ) (symbol : Name) (key : Key) → IsIntact h → Contains (chain_entries h symbol) key → IsDead h key client → ⊥
entry_is_not_dead h client symbol key i chained dead =
    let there : Contains (entries h symbol) key = chained_is_entry h symbol key chained in
    let e = i.element_keys symbol key there in
    let there' : Contains (entries h key.name) key = subst (λ s. Contains (entries h s) key) (sym e.0) there in
    let chained' : Contains (chain_entries h key.name) key = subst (λ s. Contains (chain_entries h s) key) (sym e.0) chained in
    elim dead [
      | inl u ↦ table_is_not_version key.name key (reached_is_table h key i u.once) e.1
      | inr rest ↦ elim rest [
        | inl c ↦ cc (c.staged, e.1)
        | inr later ↦ elim later [
          | inl o ↦ true≢false (sym (passes (λ k. same_key k key) (entries h key.name) key there' (same_key_self key)) ∙ o.no_entry)
          | inr r ↦ true≢false (sym (passes (λ k. same_key k key) (chain_entries h key.name) key chained' (same_key_self key)) ∙ r.no_more)
        ]
      ]
    ]

-- a kind that is put for tables or chains is not Staged
staged_is_no_table : (same_kind kinds.Staged kinds.TableData || same_kind kinds.Staged kinds.TableIndex || same_kind kinds.Staged kinds.Version) ≡ true → ⊥
staged_is_no_table h = true≢false (sym h)

staged_is_no_version : ◌≡◌ {A = KeyKind} kinds.Staged kinds.Version → ⊥
staged_is_no_version e = cc

pub open_is_not_dead : (h : History) (client : ℕ) (symbol : Name) (p : Piece) → IsIntact h → Contains (open_pieces (state_of h symbol)) p → IsDead h (staged_key symbol p) client → ⊥
open_is_not_dead h client symbol p i there dead =
    let r = filter_in (λ p. not (is_consumed (state_of h symbol) p.name)) (state_of h symbol).staged p there in
    elim dead [
      | inl u ↦ table_is_not_staged symbol (staged_key symbol p) (reached_is_table h (staged_key symbol p) i u.once) refl
      | inr rest ↦ elim rest [
        | inl c ↦ true≢false (sym c.consumed ∙ not-true _ r.1)
        | inr later ↦ elim later [
          | inl o ↦ staged_is_no_table o.table
          | inr w ↦ staged_is_no_version (retold_is_version h (staged_key symbol p) i w)
        ]
      ]
    ]

-- so the dropped key is another
other_key : (key needed : Key) → (same_key key needed ≡ true → ⊥) → same_key key needed ≡ false
other_key key needed f = elim (same_key key needed) as (λ b. same_key key needed ≡ b → b ≡ false) [ true ↦ λ e. absurd (f e) | false ↦ λ e. refl ] refl

pub drop_keeps : (h : History) (client : ℕ) (key : Key) → IsDead h key client → IsIntact h → IsIntact (events.Drop client key ∷ h)
drop_keeps h client key dead i =
    let apart = λ (k : Key) (f : IsDead h k client → ⊥). other_key key k (λ e. f (subst (λ d. IsDead h d client) (same_key_is key k e) dead)) in
    record {
      once = i.once;
      numbered = i.numbered;
      table_keys = i.table_keys;
      needed = λ s l k there need reach. stands_at_drop h client key k (apart k (needed_is_not_dead h client s l k i there need reach)) (i.needed s l k there need reach);
      element_keys = i.element_keys;
      elements = λ s k there. stands_at_drop h client key k (apart k (entry_is_not_dead h client s k i there)) (i.elements s k there);
      pieces = λ s p there. stands_at_drop h client key (staged_key s p) (apart (staged_key s p) (open_is_not_dead h client s p i there)) (i.pieces s p there);
      versions = i.versions;
      below = i.below;
      chain = i.chain;
      buried = i.buried;
      held = i.held;
      one_name = i.one_name;
      unnamed = i.unnamed;
    }
