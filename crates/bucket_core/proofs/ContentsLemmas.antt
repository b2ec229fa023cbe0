-- What the contents of a history show under each key, and that their keys are the stored ones.
use Rattle.std.proofs.Common.{◌≡◌, ℕ, suc, Bool, true, false, cond, not, List, [], ◌∷◌, length, map, filter, Option, Some, None, refl, ap, sym, ◌∙◌, subst}
use Rattle.std.specs.Prelude.{is_some, option_map, unwrap_or}
use Rattle.std.specs.Arc.{arc_value}
use Rattle.std.specs.Map.{lookup, keys_of}
use Rattle.std.specs.BTreeMap.{insert_entry, is_at}
use Rattle.std.specs.declared.cmp.Ordering.{Ordering}
use Rattle.std.specs.declared.cmp.Ordering.TheVariants.{Less, Equal, Greater}
use Rattle.std.specs.Ordering.{is_eq, is_lt, match_ordering}
use Rattle.std.proofs.lemmas.Bool.{true≢false}
use Rattle.key_kind.specs.declared.key.Key.{Key}
use Rattle.key_kind.specs.Keys.{same_key, key_cmp}
use Rattle.key_kind.specs.KeyOrder.{same_key_equiv, same_key_ties}
use Rattle.key_kind.proofs.KeyTests.{same_key_is, same_key_self}
use Rattle.bucket_core.specs.declared.entry.Entry.{Entry}
use Rattle.bucket_core.specs.History.{History, Bytes, key_of, body_of, stored, since, stored_keys, insert_key, without_key}
use Rattle.bucket_core.specs.Contents.{Shown, shown, with_event, contents_of}

-- the key of an entry
abbrev key_part : Shown → Key
key_part e = e.0

-- ---- the keys

-- a choice by an order, as two tests
by_tests : {A : Type 0} (o : Ordering) (before same after : A) → match_ordering o before same after ≡ cond (is_eq o) same (cond (is_lt o) before after)
by_tests Less before same after = refl
by_tests Equal before same after = refl
by_tests Greater before same after = refl

-- a map commutes with a choice
map_choice : (o : Ordering) (before same after : List Shown) → map key_part (match_ordering o before same after) ≡ match_ordering o (map key_part before) (map key_part same) (map key_part after)
map_choice Less before same after = refl
map_choice Equal before same after = refl
map_choice Greater before same after = refl

-- the keys with one entry more
keys_inserted : (key : Key) (v : Bytes × ℕ) (es : List Shown) → map key_part (insert_entry key_cmp es key v) ≡ insert_key key (map key_part es)
keys_inserted key v [] = refl
keys_inserted key v (e ∷ es) =
    map_choice (key_cmp key e.0) ((key, v) ∷ e ∷ es) ((e.0, v) ∷ es) (e ∷ insert_entry key_cmp es key v)
    ∙ (by_tests (key_cmp key e.0) (key ∷ e.0 ∷ map key_part es) (e.0 ∷ map key_part es) (e.0 ∷ map key_part (insert_entry key_cmp es key v))
    ∙ (ap (λ b. cond b (e.0 ∷ map key_part es) (cond (is_lt (key_cmp key e.0)) (key ∷ e.0 ∷ map key_part es) (e.0 ∷ map key_part (insert_entry key_cmp es key v)))) (sym (same_key_ties key e.0))
    ∙ ap (λ ks. cond (same_key key e.0) (e.0 ∷ map key_part es) (cond (is_lt (key_cmp key e.0)) (key ∷ e.0 ∷ map key_part es) (e.0 ∷ ks))) (keys_inserted key v es)))

-- the keys without one
keys_filtered : (key : Key) (es : List Shown) → map key_part (filter (λ (e : Shown). not (same_key key e.0)) es) ≡ without_key key (map key_part es)
keys_filtered key [] = refl
keys_filtered key (e ∷ es) =
    elim (same_key key e.0) as (λ b. map key_part (cond (not b) (e ∷ filter (λ (x : Shown). not (same_key key x.0)) es) (filter (λ (x : Shown). not (same_key key x.0)) es)) ≡ cond (not b) (e.0 ∷ without_key key (map key_part es)) (without_key key (map key_part es))) [
      | true ↦ keys_filtered key es
      | false ↦ ap (λ ks. e.0 ∷ ks) (keys_filtered key es)
    ]

-- the keys of the contents are the stored ones
pub keys-contents_of : (h : History) → map key_part (contents_of h) ≡ stored_keys h
keys-contents_of [] = refl
keys-contents_of (e ∷ h) = after (key_of e) (body_of e) (suc (length h)) (contents_of h) (stored_keys h) (keys-contents_of h)
  where
    after : (key : Key) (body : Option Bytes) (place : ℕ) (es : List Shown) (ks : List Key) → map key_part es ≡ ks → map key_part (with_event key body place es) ≡ cond (is_some body) (insert_key key ks) (without_key key ks)
    after key None place es ks is = keys_filtered key es ∙ ap (without_key key) is
    after key (Some body) place es ks is = keys_inserted key (body, place) es ∙ ap (insert_key key) is

-- ---- the lookup

-- one test twice
twice : (b : Bool) (x y z : Option (Bytes × ℕ)) → cond b x z ≡ cond b x (cond b y z)
twice true x y z = refl
twice false x y z = refl

-- two tests that do not both hold, in either order
apart : (a b : Bool) (x y z : Option (Bytes × ℕ)) → (a ≡ true → b ≡ true → ⊥) → cond a x (cond b y z) ≡ cond b y (cond a x z)
apart true true x y z never = absurd (never refl refl)
apart true false x y z never = refl
apart false b x y z never = refl

-- no key is two others
not_both : (q a b : Key) → same_key a b ≡ false → same_key q b ≡ true → same_key q a ≡ true → ⊥
not_both q a b differ x y =
    true≢false (sym (same_key_self b) ∙ (ap (λ k. same_key k b) (sym (same_key_is q b x) ∙ same_key_is q a y) ∙ differ))

-- what is found with one entry more
found_inserted : (q key : Key) (v : Bytes × ℕ) (es : List Shown) → lookup (same_key q) (insert_entry key_cmp es key v) ≡ cond (same_key q key) (Some v) (lookup (same_key q) es)
found_inserted q key v [] = refl
found_inserted q key v (e ∷ es) =
    elim (key_cmp key e.0) as (λ o. key_cmp key e.0 ≡ o → lookup (same_key q) (match_ordering o ((key, v) ∷ e ∷ es) ((e.0, v) ∷ es) (e ∷ insert_entry key_cmp es key v)) ≡ cond (same_key q key) (Some v) (cond (same_key q e.0) (Some e.1) (lookup (same_key q) es))) [
      | Less ↦ λ o. refl
      | Equal ↦ λ o. subst (λ k. cond (same_key q k) (Some v) (lookup (same_key q) es) ≡ cond (same_key q key) (Some v) (cond (same_key q k) (Some e.1) (lookup (same_key q) es))) (same_key_is key e.0 (same_key_ties key e.0 ∙ ap is_eq o)) (twice (same_key q key) (Some v) (Some e.1) (lookup (same_key q) es))
      | Greater ↦ λ o. ap (λ (r : Option (Bytes × ℕ)). cond (same_key q e.0) (Some e.1) r) (found_inserted q key v es)
          ∙ apart (same_key q e.0) (same_key q key) (Some e.1) (Some v) (lookup (same_key q) es) (not_both q key e.0 (same_key_ties key e.0 ∙ ap is_eq o))
    ] refl

-- nothing is found under any key
none_found : (b : Bool) → ◌≡◌ {A = Option (Bytes × ℕ)} None (cond b None None)
none_found true = refl
none_found false = refl

-- what is found without a key
found_filtered : (q key : Key) (es : List Shown) → lookup (same_key q) (filter (λ (e : Shown). not (same_key key e.0)) es) ≡ cond (same_key q key) None (lookup (same_key q) es)
found_filtered q key [] = none_found (same_key q key)
found_filtered q key (e ∷ es) =
    elim (same_key key e.0) as (λ b. same_key key e.0 ≡ b → lookup (same_key q) (cond (not b) (e ∷ filter (λ (x : Shown). not (same_key key x.0)) es) (filter (λ (x : Shown). not (same_key key x.0)) es)) ≡ cond (same_key q key) None (cond (same_key q e.0) (Some e.1) (lookup (same_key q) es))) [
      | true ↦ λ h. found_filtered q key es
          ∙ (twice (same_key q key) None (Some e.1) (lookup (same_key q) es)
          ∙ ap (λ k. cond (same_key q key) None (cond (same_key q k) (Some e.1) (lookup (same_key q) es))) (same_key_is key e.0 h))
      | false ↦ λ h. ap (λ (r : Option (Bytes × ℕ)). cond (same_key q e.0) (Some e.1) r) (found_filtered q key es)
          ∙ apart (same_key q e.0) (same_key q key) (Some e.1) None (lookup (same_key q) es) (not_both q key e.0 h)
    ] refl

-- what is found after one event more
found_after : (q key : Key) (body : Option Bytes) (place : ℕ) (es : List Shown) → lookup (same_key q) (with_event key body place es) ≡ cond (same_key key q) (option_map (λ bytes. (bytes, place)) body) (lookup (same_key q) es)
found_after q key None place es = found_filtered q key es ∙ ap (λ b. cond b None (lookup (same_key q) es)) (same_key_equiv.symm q key)
found_after q key (Some body) place es = found_inserted q key (body, place) es ∙ ap (λ b. cond b (Some (body, place)) (lookup (same_key q) es)) (same_key_equiv.symm q key)

-- the body that is found is the stored one
pub body_found : (h : History) (q : Key) → option_map (λ (v : Bytes × ℕ). v.0) (lookup (same_key q) (contents_of h)) ≡ stored h q
body_found [] q = refl
body_found (e ∷ h) q =
    ap (option_map (λ (v : Bytes × ℕ). v.0)) (found_after q (key_of e) (body_of e) (suc (length h)) (contents_of h))
    ∙ by (same_key (key_of e) q) (body_of e) (suc (length h)) (lookup (same_key q) (contents_of h)) (stored h q) (body_found h q)
  where
    by : (b : Bool) (body : Option Bytes) (place : ℕ) (found : Option (Bytes × ℕ)) (rest : Option Bytes) → option_map (λ (v : Bytes × ℕ). v.0) found ≡ rest → option_map (λ (v : Bytes × ℕ). v.0) (cond b (option_map (λ bytes. (bytes, place)) body) found) ≡ cond b body rest
    by true None place found rest is = refl
    by true (Some body) place found rest is = refl
    by false body place found rest is = is

-- the place that is found is that of the event which set the body
pub since_found : (h : History) (q : Key) → unwrap_or (option_map (λ (v : Bytes × ℕ). v.1) (lookup (same_key q) (contents_of h))) 0 ≡ since h q
since_found [] q = refl
since_found (e ∷ h) q =
    ap (λ (found : Option (Bytes × ℕ)). unwrap_or (option_map (λ (v : Bytes × ℕ). v.1) found) 0) (found_after q (key_of e) (body_of e) (suc (length h)) (contents_of h))
    ∙ by (same_key (key_of e) q) (body_of e) (suc (length h)) (lookup (same_key q) (contents_of h)) (since h q) (since_found h q)
  where
    by : (b : Bool) (body : Option Bytes) (place : ℕ) (found : Option (Bytes × ℕ)) (rest : ℕ) → unwrap_or (option_map (λ (v : Bytes × ℕ). v.1) found) 0 ≡ rest → unwrap_or (option_map (λ (v : Bytes × ℕ). v.1) (cond b (option_map (λ bytes. (bytes, place)) body) found)) 0 ≡ cond b (cond (is_some body) place 0) rest
    by true None place found rest is = refl
    by true (Some body) place found rest is = refl
    by false body place found rest is = is

-- a lookup among entries is one among what contracts see of them
lookup-shown : (q : Key) (es : List (Key × Entry)) → option_map (λ (v : Entry). (arc_value v.body, v.since)) (lookup (is_at (key_cmp q)) es) ≡ lookup (is_at (key_cmp q)) (map shown es)
lookup-shown q [] = refl
lookup-shown q (e ∷ es) =
    elim (is_eq (key_cmp q e.0)) as (λ b. option_map (λ (v : Entry). (arc_value v.body, v.since)) (cond b (Some e.1) (lookup (is_at (key_cmp q)) es)) ≡ cond b (Some (arc_value e.1.body, e.1.since)) (lookup (is_at (key_cmp q)) (map shown es))) [
      | true ↦ refl
      | false ↦ lookup-shown q es
    ]

-- what the order finds is what equality finds
lookup-same : (q : Key) (es : List Shown) → lookup (is_at (key_cmp q)) es ≡ lookup (same_key q) es
lookup-same q es i = lookup (λ k. sym (same_key_ties q k) i) es

-- what the entries that show a history's contents have under a key
shown_under : (q : Key) (es : List (Key × Entry)) (h : History) → map shown es ≡ contents_of h → option_map (λ (v : Entry). (arc_value v.body, v.since)) (lookup (is_at (key_cmp q)) es) ≡ lookup (same_key q) (contents_of h)
shown_under q es h is = lookup-shown q es ∙ (ap (lookup (is_at (key_cmp q))) is ∙ lookup-same q (contents_of h))

-- under a key without an entry nothing stands
pub none_stands : (q : Key) (es : List (Key × Entry)) (h : History) → map shown es ≡ contents_of h → None ≡ lookup (is_at (key_cmp q)) es → (None ≡ stored h q) × (0 ≡ since h q)
none_stands q es h is none =
    let under : None ≡ lookup (same_key q) (contents_of h) = ap (option_map (λ (v : Entry). (arc_value v.body, v.since))) none ∙ shown_under q es h is in
    (ap (option_map (λ (v : Bytes × ℕ). v.0)) under ∙ body_found h q, ap (λ (found : Option (Bytes × ℕ)). unwrap_or (option_map (λ (v : Bytes × ℕ). v.1) found) 0) under ∙ since_found h q)

-- under a key with an entry its body stands
pub entry_stands : (q : Key) (es : List (Key × Entry)) (h : History) (entry : Entry) → map shown es ≡ contents_of h → Some entry ≡ lookup (is_at (key_cmp q)) es → (Some (arc_value entry.body) ≡ stored h q) × (entry.since ≡ since h q)
entry_stands q es h entry is some =
    let under : Some (arc_value entry.body, entry.since) ≡ lookup (same_key q) (contents_of h) = ap (option_map (λ (v : Entry). (arc_value v.body, v.since))) some ∙ shown_under q es h is in
    (ap (option_map (λ (v : Bytes × ℕ). v.0)) under ∙ body_found h q, ap (λ (found : Option (Bytes × ℕ)). unwrap_or (option_map (λ (v : Bytes × ℕ). v.1) found) 0) under ∙ since_found h q)

-- ---- the whole contents

-- the entries' keys are the stored ones
pub keys-shown : (es : List (Key × Entry)) (h : History) → map shown es ≡ contents_of h → keys_of es ≡ stored_keys h
keys-shown es h is = parts es ∙ (ap (map key_part) is ∙ keys-contents_of h)
  where
    parts : (es : List (Key × Entry)) → keys_of es ≡ map key_part (map shown es)
    parts [] = refl
    parts (e ∷ es) = ap (λ ks. e.0 ∷ ks) (parts es)

-- a map commutes with a choice
shown_choice : (o : Ordering) (before same after : List (Key × Entry)) → map shown (match_ordering o before same after) ≡ match_ordering o (map shown before) (map shown same) (map shown after)
shown_choice Less before same after = refl
shown_choice Equal before same after = refl
shown_choice Greater before same after = refl

-- what contracts see of entries with one more
pub shown-insert_entry : (es : List (Key × Entry)) (key : Key) (entry : Entry) → map shown (insert_entry key_cmp es key entry) ≡ insert_entry key_cmp (map shown es) key (arc_value entry.body, entry.since)
shown-insert_entry [] key entry = refl
shown-insert_entry (e ∷ es) key entry =
    shown_choice (key_cmp key e.0) ((key, entry) ∷ e ∷ es) ((e.0, entry) ∷ es) (e ∷ insert_entry key_cmp es key entry)
    ∙ ap (λ rest. match_ordering (key_cmp key e.0) ((key, (arc_value entry.body, entry.since)) ∷ shown e ∷ map shown es) ((e.0, (arc_value entry.body, entry.since)) ∷ map shown es) (shown e ∷ rest)) (shown-insert_entry es key entry)
