-- What contents have after one event more.
use Rattle.std.proofs.Common.{◌≡◌, ℕ, suc, true, false, cond, not, List, [], ◌∷◌, ◌++◌, length, map, filter, reverse, Option, Some, None, refl, ap, sym, ◌∙◌}
use Rattle.std.specs.Arc.{arc_value}
use Rattle.std.specs.Map.{keys_of, remove_entry}
use Rattle.std.specs.BTreeMap.{insert_entry, is_at}
use Rattle.std.specs.List.{AllByRecursion}
use Rattle.std.specs.List.Sorted.{IsStrictlySortedBy}
use Rattle.std.specs.declared.cmp.Ordering.TheVariants.{Less}
use Rattle.std.specs.Ordering.{is_eq}
use Rattle.std.proofs.lemmas.List.{reverse-append, length-reverse}
use Rattle.std.proofs.lemmas.Map.Keys.{sorted_head, sorted_tail}
use Rattle.key_kind.specs.declared.key.Key.{Key}
use Rattle.key_kind.specs.Names.{Name, same_name}
use Rattle.key_kind.specs.Keys.{same_key, key_cmp}
use Rattle.key_kind.specs.KeyOrder.{same_key_ties}
use Rattle.key_kind.proofs.KeyTests.{same_key_is}
use Rattle.bucket_core.specs.declared.entry.Entry.{Entry}
use Rattle.bucket_core.specs.declared.head.Head.{Head}
use Rattle.bucket_core.specs.declared.event.Change.{Change}
use Rattle.bucket_core.specs.declared.event.Event.{Event}
use Rattle.bucket_core.specs.History.{History, Bytes, key_of, body_of, reference, referred_at}
use Rattle.bucket_core.specs.Calls.{refer_event}
use Rattle.bucket_core.specs.Contents.{Shown, shown}
use Rattle.bucket_core.specs.Heads.{head_in, head_of}
use Rattle.bucket_core.proofs.ContentsLemmas.{shown-insert_entry}

-- ---- without one key

-- keys after one that is the key are others
others_differ : (key head : Key) (ks : List Key) → same_key key head ≡ true → AllByRecursion (λ k. key_cmp head k ≡ Less) ks → AllByRecursion (λ k. same_key key k ≡ false) ks
others_differ key head [] same all = tt
others_differ key head (k ∷ ks) same all =
    (ap (λ x. same_key x k) (same_key_is key head same) ∙ (same_key_ties head k ∙ ap is_eq all.0), others_differ key head ks same all.1)

-- where the key is none of the entries', they stay
none_dropped : (key : Key) (es : List (Key × Entry)) → AllByRecursion (λ k. same_key key k ≡ false) (keys_of es) → filter (λ (e : Shown). not (same_key key e.0)) (map shown es) ≡ map shown es
none_dropped key [] all = refl
none_dropped key (e ∷ es) all =
    ap (λ b. cond (not b) (shown e ∷ filter (λ (x : Shown). not (same_key key x.0)) (map shown es)) (filter (λ (x : Shown). not (same_key key x.0)) (map shown es))) all.0
    ∙ ap (λ (rest : List Shown). shown e ∷ rest) (none_dropped key es all.1)

-- what contracts see of ordered entries without one
pub shown-remove_entry : (key : Key) (es : List (Key × Entry)) → IsStrictlySortedBy key_cmp (keys_of es) → map shown (remove_entry (is_at (key_cmp key)) es) ≡ filter (λ (e : Shown). not (same_key key e.0)) (map shown es)
shown-remove_entry key [] sorted = refl
shown-remove_entry key (e ∷ es) sorted =
    ap (λ b. map shown (cond b es (e ∷ remove_entry (is_at (key_cmp key)) es))) (sym (same_key_ties key e.0))
    ∙ elim (same_key key e.0) as (λ b. same_key key e.0 ≡ b → map shown (cond b es (e ∷ remove_entry (is_at (key_cmp key)) es)) ≡ cond (not b) (shown e ∷ filter (λ (x : Shown). not (same_key key x.0)) (map shown es)) (filter (λ (x : Shown). not (same_key key x.0)) (map shown es))) [
      | true ↦ λ same. sym (none_dropped key es (others_differ key e.0 (keys_of es) same (sorted_head key_cmp e.0 (keys_of es) sorted)))
      | false ↦ λ same. ap (λ (rest : List Shown). shown e ∷ rest) (shown-remove_entry key es (sorted_tail key_cmp e.0 (keys_of es) sorted))
    ] refl

-- ---- the history

-- the newest event first
pub history_after : (events later : List Event) (event : Event) → later ≡ events ++ event ∷ [] → reverse later ≡ event ∷ reverse events
history_after events later event more = ap reverse more ∙ reverse-append events (event ∷ [])

-- the heads after a Refer
pub head_of-refer : (client : ℕ) (symbol : Name) (was : Option Key) (entry : Key) (list : List Change) (h : History) (other : Name) → cond (same_name symbol other) (record { entry = Some entry; since = suc (length h) }) (head_of h other) ≡ head_of (refer_event client symbol was entry list ∷ h) other
head_of-refer client symbol was entry list h other =
    elim (same_name symbol other) as (λ b. ◌≡◌ {A = Head} (cond b (record { entry = Some entry; since = suc (length h) }) (head_of h other)) (record { entry = cond b (Some entry) (reference h other); since = cond b (suc (length h)) (referred_at h other) })) [ true ↦ refl | false ↦ refl ]

-- the heads that are kept, after a Refer set one
pub head_in-refer : (before later : List (Name × Head)) (name : Name) (head : Head) (client : ℕ) (symbol : Name) (was : Option Key) (entry : Key) (list : List Change) (h : History) → ((other : Name) → head_in later other ≡ cond (same_name name other) head (head_in before other)) → ((other : Name) → head_in before other ≡ head_of h other) → name ≡ symbol → head ≡ record { entry = Some entry; since = suc (length h) } → (other : Name) → head_in later other ≡ head_of (refer_event client symbol was entry list ∷ h) other
head_in-refer before later name head client symbol was entry list h set known named is other =
    set other
    ∙ (ap (λ (n : Name). cond (same_name n other) head (head_in before other)) named
    ∙ (ap (λ (x : Head). cond (same_name symbol other) x (head_in before other)) is
    ∙ (ap (λ (x : Head). cond (same_name symbol other) (record { entry = Some entry; since = suc (length h) }) x) (known other)
    ∙ head_of-refer client symbol was entry list h other)))
