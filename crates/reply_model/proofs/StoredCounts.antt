-- How many keys are stored of each kind of a symbol, behind puts and behind a Refer.
use Rattle.std.proofs.Common.{◌≡◌, ℕ, ◌+◌, Bool, true, false, List, [], ◌∷◌, Option, Some, None, refl, sym, ◌∙◌, ap, subst, arith, cond}
use Rattle.std.specs.Prelude.{◌&&◌, ◌||◌, ⊤, not, filter, count_by, map, is_some, option_map}
use Rattle.std.specs.List.{list_any, AllByRecursion}
use Rattle.std.specs.Map.{lookup}
use Rattle.std.specs.Ordering.{is_lt, is_eq, ordering_reverse}
use Rattle.std.specs.declared.cmp.Ordering.{Ordering}
use Rattle.std.specs.declared.cmp.Ordering.TheVariants.{Less, Equal, Greater}
use Rattle.std.proofs.lemmas.Bool.{true≢false, or_parts, or_from}
use Rattle.segment_cut.proofs.Lists.{count_by-cons}
use Rattle.key_kind.specs.Names.{Name, same_name}
use Rattle.key_kind.specs.declared.key.Key.{Key}
use Rattle.key_kind.specs.declared.key.KeyKind.{KeyKind}
use Rattle.key_kind.specs.declared.key.KeyKind.TheVariants as kinds
use Rattle.key_kind.specs.Keys.{is_put, same_kind, same_key, key_cmp, key_before, reference_key, snapshot_key}
use Rattle.key_kind.specs.KeyOrder.{key_cmp_total, same_key_ties}
use Rattle.key_kind.proofs.KeyTests.{same_key_is, same_key_self, same_name_self, put_is_no_reference, put_is_no_snapshot}
use Rattle.bucket_core.specs.declared.event.Change.{Change}
use Rattle.bucket_core.specs.declared.event.Event.TheVariants as events
use Rattle.bucket_core.specs.History.{History, Bytes, key_of, body_of, stored, stored_keys, insert_key, without_key, body_put, reference}
use Rattle.key_kind.specs.KeyText.{key_text}
use Rattle.bucket_core.specs.Contents.{Shown, contents_of}
use Rattle.bucket_core.proofs.ContentsLemmas.{keys-contents_of, body_found}
use Rattle.store_model.specs.Library.{state_of, after_changes}
use Rattle.store_model.specs.Law.{IsLawful}
use Rattle.store_model.proofs.Standing.{lawful_is_shown}
use Rattle.reply_model.specs.Rows.{keys_of}

-- ---- keys in order

less_of : (o : Ordering) → is_lt o ≡ true → o ≡ Less
less_of Less e = refl
less_of Equal e = absurd (true≢false (sym e))
less_of Greater e = absurd (true≢false (sym e))

greater_of : (o : Ordering) → is_lt o ≡ false → is_eq o ≡ false → o ≡ Greater
greater_of Less e f = absurd (true≢false e)
greater_of Equal e f = absurd (true≢false f)
greater_of Greater e f = refl

pub before_trans : (a b c : Key) → key_before a b ≡ true → key_before b c ≡ true → key_before a c ≡ true
before_trans a b c p q = ap is_lt (key_cmp_total.trans a b c (less_of (key_cmp a b) p) (less_of (key_cmp b c) q))

before_back : (a b : Key) → key_before a b ≡ true → key_before b a ≡ false
before_back a b p = ap is_lt (key_cmp_total.antisymm b a ∙ ap ordering_reverse (less_of (key_cmp a b) p))

pub before_is_other : (a b : Key) → key_before a b ≡ true → same_key a b ≡ false
before_is_other a b p = same_key_ties a b ∙ ap is_eq (less_of (key_cmp a b) p)

before_other : (a b : Key) → same_key a b ≡ false → key_before a b ≡ false → key_before b a ≡ true
before_other a b differ not_before =
    ap is_lt (key_cmp_total.antisymm b a ∙ ap ordering_reverse (greater_of (key_cmp a b) not_before (sym (same_key_ties a b) ∙ differ)))

-- each key stands before those behind it
abbrev pub Ascending : List Key → Type 0
Ascending [] = ⊤
Ascending (k ∷ ks) = AllByRecursion (λ (x : Key). key_before k x ≡ true) ks × Ascending ks

all_inserted : (P : Key → Type 0) (key : Key) (ks : List Key) → P key → AllByRecursion P ks → AllByRecursion P (insert_key key ks)
all_inserted P key [] p all = (p, tt)
all_inserted P key (k ∷ ks) p all =
    elim (same_key key k) as (λ t. AllByRecursion P (cond t (k ∷ ks) (cond (key_before key k) (key ∷ k ∷ ks) (k ∷ insert_key key ks)))) [
      | true ↦ all
      | false ↦ elim (key_before key k) as (λ t. AllByRecursion P (cond t (key ∷ k ∷ ks) (k ∷ insert_key key ks))) [
        | true ↦ (p, all)
        | false ↦ (all.0, all_inserted P key ks p all.1)
      ]
    ]

all_before : (a b : Key) (ks : List Key) → key_before a b ≡ true → AllByRecursion (λ (x : Key). key_before b x ≡ true) ks → AllByRecursion (λ (x : Key). key_before a x ≡ true) ks
all_before a b [] before all = tt
all_before a b (k ∷ ks) before all = (before_trans a b k before all.0, all_before a b ks before all.1)

ascending_inserted : (key : Key) (ks : List Key) → Ascending ks → Ascending (insert_key key ks)
ascending_inserted key [] up = (tt, tt)
ascending_inserted key (k ∷ ks) up =
    elim (same_key key k) as (λ t. same_key key k ≡ t → Ascending (cond t (k ∷ ks) (cond (key_before key k) (key ∷ k ∷ ks) (k ∷ insert_key key ks)))) [
      | true ↦ λ e. up
      | false ↦ λ differ. elim (key_before key k) as (λ t. key_before key k ≡ t → Ascending (cond t (key ∷ k ∷ ks) (k ∷ insert_key key ks))) [
        | true ↦ λ e. ((e, all_before key k ks e up.0), up)
        | false ↦ λ e. (all_inserted (λ (x : Key). key_before k x ≡ true) key ks (before_other key k differ e) up.0, ascending_inserted key ks up.1)
      ] refl
    ] refl

all_filtered : (P : Key → Type 0) (p : Key → Bool) (ks : List Key) → AllByRecursion P ks → AllByRecursion P (filter p ks)
all_filtered P p [] all = tt
all_filtered P p (k ∷ ks) all = elim (p k) as (λ t. AllByRecursion P (cond t (k ∷ filter p ks) (filter p ks))) [ true ↦ (all.0, all_filtered P p ks all.1) | false ↦ all_filtered P p ks all.1 ]

pub ascending_filtered : (p : Key → Bool) (ks : List Key) → Ascending ks → Ascending (filter p ks)
ascending_filtered p [] up = tt
ascending_filtered p (k ∷ ks) up =
    elim (p k) as (λ t. Ascending (cond t (k ∷ filter p ks) (filter p ks))) [
      | true ↦ (all_filtered (λ (x : Key). key_before k x ≡ true) p ks up.0, ascending_filtered p ks up.1)
      | false ↦ ascending_filtered p ks up.1
    ]

pub stored_ascending : (h : History) → Ascending (stored_keys h)
stored_ascending [] = tt
stored_ascending (e ∷ h) = elim (is_some (body_of e)) as (λ t. Ascending (cond t (insert_key (key_of e) (stored_keys h)) (without_key (key_of e) (stored_keys h)))) [
  | true ↦ ascending_inserted (key_of e) (stored_keys h) (stored_ascending h)
  | false ↦ ascending_filtered (λ k. not (same_key (key_of e) k)) (stored_keys h) (stored_ascending h)
]

-- a key that is there comes to no new place
present_stays : (key : Key) (ks : List Key) → Ascending ks → list_any (same_key key) ks ≡ true → insert_key key ks ≡ ks
present_stays key [] up there = absurd (true≢false (sym there))
present_stays key (k ∷ ks) up there =
    elim (same_key key k) as (λ t. (t || list_any (same_key key) ks) ≡ true → cond t (k ∷ ks) (cond (key_before key k) (key ∷ k ∷ ks) (k ∷ insert_key key ks)) ≡ k ∷ ks) [
      | true ↦ λ e. refl
      | false ↦ λ e. ap (λ t. cond t (key ∷ k ∷ ks) (k ∷ insert_key key ks)) (before_back k key (first_before key k ks up.0 e)) ∙ ap (λ xs. k ∷ xs) (present_stays key ks up.1 e)
    ] there
  where
    first_before : (x first : Key) (xs : List Key) → AllByRecursion (λ (y : Key). key_before first y ≡ true) xs → list_any (same_key x) xs ≡ true → key_before first x ≡ true
    first_before x first [] all e = absurd (true≢false (sym e))
    first_before x first (y ∷ xs) all e = elim (same_key x y) as (λ t. same_key x y ≡ t → (t || list_any (same_key x) xs) ≡ true → key_before first x ≡ true) [
      | true ↦ λ same f. ap (key_before first) (same_key_is x y same) ∙ all.0
      | false ↦ λ other f. first_before x first xs all.1 f
    ] refl e

-- ---- counting

-- one key more counts where it passes, and was not there
count_inserted : (p : Key → Bool) (key : Key) (ks : List Key) → list_any (same_key key) ks ≡ false → count_by p (insert_key key ks) ≡ cond (p key) 1 0 + count_by p ks
count_inserted p key [] none = count_by-cons p key []
count_inserted p key (k ∷ ks) none =
    let parts = or_parts (same_key key k) (list_any (same_key key) ks) none in
    ap (λ t. count_by p (cond t (k ∷ ks) (cond (key_before key k) (key ∷ k ∷ ks) (k ∷ insert_key key ks)))) parts.0
    ∙ elim (key_before key k) as (λ t. count_by p (cond t (key ∷ k ∷ ks) (k ∷ insert_key key ks)) ≡ cond (p key) 1 0 + count_by p (k ∷ ks)) [
      | true ↦ count_by-cons p key (k ∷ ks)
      | false ↦ omega (arith, count_by-cons p k (insert_key key ks), count_by-cons p k ks, count_inserted p key ks parts.1)
    ]

-- a key that does not pass does not count
pub count_other : (p : Key → Bool) (key : Key) (ks : List Key) → p key ≡ false → count_by p (insert_key key ks) ≡ count_by p ks
count_other p key [] fails = count_by-cons p key [] ∙ ap (λ (b : Bool). cond {A = ℕ} b 1 0 + 0) fails
count_other p key (k ∷ ks) fails =
    let one : cond {A = ℕ} (p key) 1 0 ≡ 0 = ap (λ b. cond b 1 0) fails in
    elim (same_key key k) as (λ t. count_by p (cond t (k ∷ ks) (cond (key_before key k) (key ∷ k ∷ ks) (k ∷ insert_key key ks))) ≡ count_by p (k ∷ ks)) [
      | true ↦ refl
      | false ↦ elim (key_before key k) as (λ t. count_by p (cond t (key ∷ k ∷ ks) (k ∷ insert_key key ks)) ≡ count_by p (k ∷ ks)) [
        | true ↦ omega (arith, count_by-cons p key (k ∷ ks), one)
        | false ↦ omega (arith, count_by-cons p k (insert_key key ks), count_by-cons p k ks, count_other p key ks fails)
      ]
    ]

-- ---- which keys are stored

none_inserted : (p : Key → Bool) (key : Key) (ks : List Key) → p key ≡ false → list_any p ks ≡ false → list_any p (insert_key key ks) ≡ false
none_inserted p key [] fails none = or_from (p key) false fails refl
none_inserted p key (k ∷ ks) fails none =
    let parts = or_parts (p k) (list_any p ks) none in
    elim (same_key key k) as (λ t. list_any p (cond t (k ∷ ks) (cond (key_before key k) (key ∷ k ∷ ks) (k ∷ insert_key key ks))) ≡ false) [
      | true ↦ none
      | false ↦ elim (key_before key k) as (λ t. list_any p (cond t (key ∷ k ∷ ks) (k ∷ insert_key key ks)) ≡ false) [
        | true ↦ or_from (p key) (list_any p (k ∷ ks)) fails none
        | false ↦ or_from (p k) (list_any p (insert_key key ks)) parts.0 (none_inserted p key ks fails parts.1)
      ]
    ]

none_filtered : (p q : Key → Bool) (ks : List Key) → list_any p ks ≡ false → list_any p (filter q ks) ≡ false
none_filtered p q [] none = refl
none_filtered p q (k ∷ ks) none =
    let parts = or_parts (p k) (list_any p ks) none in
    elim (q k) as (λ t. list_any p (cond t (k ∷ filter q ks) (filter q ks)) ≡ false) [ true ↦ or_from (p k) (list_any p (filter q ks)) parts.0 (none_filtered p q ks parts.1) | false ↦ none_filtered p q ks parts.1 ]

pub same_key_back : (a b : Key) → same_key a b ≡ false → same_key b a ≡ false
same_key_back a b other = elim (same_key b a) as (λ t. same_key b a ≡ t → t ≡ false) [
  | true ↦ λ e. absurd (true≢false (sym (subst (λ x. same_key a x ≡ true) (sym (same_key_is b a e)) (same_key_self a)) ∙ other))
  | false ↦ λ e. refl
] refl

pub no_body : (b : Bool) (body : Bytes) (o : Option Bytes) → cond b (Some body) o ≡ None → (b ≡ false) × (o ≡ None)
no_body true body o e = absurd cc
no_body false body o e = (refl, e)

-- what was never put is not stored
unput_is_unstored : (h : History) (key : Key) → is_put key.kind ≡ true → body_put h key ≡ None → list_any (same_key key) (stored_keys h) ≡ false
unput_is_unstored [] key put none = refl
unput_is_unstored (events.Put c k body ∷ h) key put none =
    let parts = no_body (same_key k key) body (body_put h key) none in
    none_inserted (same_key key) k (stored_keys h) (same_key_back k key parts.0) (unput_is_unstored h key put parts.1)
unput_is_unstored (events.Refer c s was entry list ∷ h) key put none =
    none_inserted (same_key key) (reference_key s) (stored_keys h) (same_key_back (reference_key s) key (put_is_no_reference s key put)) (unput_is_unstored h key put none)
unput_is_unstored (events.Name c snap body ∷ h) key put none =
    none_inserted (same_key key) (snapshot_key snap) (stored_keys h) (same_key_back (snapshot_key snap) key (put_is_no_snapshot snap key put)) (unput_is_unstored h key put none)
unput_is_unstored (events.Unname c snap ∷ h) key put none = none_filtered (same_key key) (λ k. not (same_key (snapshot_key snap) k)) (stored_keys h) (unput_is_unstored h key put none)
unput_is_unstored (events.Drop c k ∷ h) key put none = none_filtered (same_key key) (λ x. not (same_key k x)) (stored_keys h) (unput_is_unstored h key put none)

-- a key of this kind of the symbol
abbrev pub is_of : Name → KeyKind → Key → Bool
is_of symbol kind key = same_kind key.kind kind && same_name key.name symbol

-- a put counts for its own kind and symbol
pub keys_behind_put : (h : History) (c : ℕ) (key : Key) (body : Bytes) (symbol : Name) (kind : KeyKind) → is_put key.kind ≡ true → body_put h key ≡ None
    → keys_of (events.Put c key body ∷ h) symbol kind ≡ cond (is_of symbol kind key) 1 0 + keys_of h symbol kind
keys_behind_put h c key body symbol kind put none = count_inserted (is_of symbol kind) key (stored_keys h) (unput_is_unstored h key put none)

-- ---- behind a Refer

-- a key is stored where something stands under it
pub stored_there : (h : History) (key : Key) → list_any (same_key key) (stored_keys h) ≡ is_some (stored h key)
stored_there h key = ap (list_any (same_key key)) (sym (keys-contents_of h)) ∙ (found (contents_of h) ∙ ap (λ o. is_some o) (body_found h key))
  where
    found : (es : List Shown) → list_any (same_key key) (map (λ (e : Shown). e.0) es) ≡ is_some (option_map (λ (v : Bytes × ℕ). v.0) (lookup (same_key key) es))
    found [] = refl
    found (e ∷ es) = elim (same_key key e.0) as (λ t. (t || list_any (same_key key) (map (λ (x : Shown). x.0) es)) ≡ is_some (option_map (λ (v : Bytes × ℕ). v.0) (cond t (Some e.1) (lookup (same_key key) es)))) [
      | true ↦ refl
      | false ↦ found es
    ]

-- a symbol has a reference where its newest Refer set one
referred : (h : History) (symbol : Name) → is_some (reference h symbol) ≡ (state_of h symbol).has_reference
referred [] symbol = refl
referred (events.Refer c s was entry list ∷ h) symbol =
    elim (same_name s symbol) as (λ t. is_some (cond t (Some entry) (reference h symbol)) ≡ (cond t (after_changes (state_of h symbol) list) (state_of h symbol)).has_reference) [
      | true ↦ refl
      | false ↦ referred h symbol
    ]
referred (events.Put c key body ∷ h) symbol = referred h symbol
referred (events.Name c snap body ∷ h) symbol = referred h symbol
referred (events.Unname c snap ∷ h) symbol = referred h symbol
referred (events.Drop c key ∷ h) symbol = referred h symbol

-- so under its reference something stands
reference_there : (h : History) (symbol : Name) → IsLawful h → list_any (same_key (reference_key symbol)) (stored_keys h) ≡ (state_of h symbol).has_reference
reference_there h symbol lawful =
    stored_there h (reference_key symbol) ∙ (ap (λ o. is_some o) ((lawful_is_shown h lawful).references symbol) ∙ (mapped (reference h symbol) ∙ referred h symbol))
  where
    mapped : (o : Option Key) → is_some (option_map key_text o) ≡ is_some o
    mapped None = refl
    mapped (Some key) = refl

-- a Refer counts for no other kind, and for no other symbol
pub keys_behind_refer : (h : History) (c : ℕ) (s : Name) (was : Option Key) (entry : Key) (list : List Change) (symbol : Name) (kind : KeyKind) → (same_kind kinds.VersionRef kind && same_name s symbol) ≡ false
    → keys_of (events.Refer c s was entry list ∷ h) symbol kind ≡ keys_of h symbol kind
keys_behind_refer h c s was entry list symbol kind other = count_other (is_of symbol kind) (reference_key s) (stored_keys h) other

-- and one reference is stored behind it
pub reference_behind : (h : History) (c : ℕ) (symbol : Name) (was : Option Key) (entry : Key) (list : List Change) → IsLawful h
    → keys_of h symbol kinds.VersionRef ≡ cond (state_of h symbol).has_reference 1 0 → keys_of (events.Refer c symbol was entry list ∷ h) symbol kinds.VersionRef ≡ 1
reference_behind h c symbol was entry list lawful counted =
    elim (state_of h symbol).has_reference as (λ t. (state_of h symbol).has_reference ≡ t → keys_of h symbol kinds.VersionRef ≡ cond t 1 0 → keys_of (events.Refer c symbol was entry list ∷ h) symbol kinds.VersionRef ≡ 1) [
      | true ↦ λ e n. ap (count_by (is_of symbol kinds.VersionRef)) (present_stays (reference_key symbol) (stored_keys h) (stored_ascending h) (reference_there h symbol lawful ∙ e)) ∙ n
      | false ↦ λ e n.
          let one : cond {A = ℕ} (is_of symbol kinds.VersionRef (reference_key symbol)) 1 0 ≡ 1 = ap (λ b. cond b 1 0) (same_name_self symbol) in
          omega (arith, n, one, count_inserted (is_of symbol kinds.VersionRef) (reference_key symbol) (stored_keys h) (reference_there h symbol lawful ∙ e))
    ] refl counted
