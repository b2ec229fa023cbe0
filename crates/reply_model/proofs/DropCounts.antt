-- Behind drops of keys: what is then stored, and how many keys there are.
use Rattle.std.proofs.Common.{◌≡◌, ℕ, ◌+◌, Bool, true, false, List, [], ◌∷◌, ◌++◌, map, length, None, refl, sym, ◌∙◌, ap, subst, arith, cond, append_assoc}
use Rattle.std.specs.Prelude.{◌&&◌, ◌||◌, not, reverse, count_by, is_some}
use Rattle.std.specs.List.{list_any, AllByRecursion, IsDistinct}
use Rattle.std.proofs.lemmas.Bool.{true≢false, or_parts}
use Rattle.std.proofs.lemmas.List.{reverse-append}
use Rattle.segment_cut.proofs.Lists.{count_by-cons}
use Rattle.key_kind.specs.Names.{Name, same_name}
use Rattle.key_kind.specs.declared.key.Key.{Key}
use Rattle.key_kind.specs.declared.key.KeyKind.{KeyKind}
use Rattle.key_kind.specs.Keys.{same_key, same_kind, key_before}
use Rattle.key_kind.proofs.KeyTests.{same_key_is, same_key_self}
use Rattle.bucket_core.specs.declared.event.Event.TheVariants as events
use Rattle.bucket_core.specs.History.{History, stored, stored_keys, without_key}
use Rattle.store_model.specs.Library.{state_of}
use Rattle.store_model.specs.Law.{IsLawful}
use Rattle.store_model.specs.Links.{links}
use Rattle.reply_model.specs.Tries.{IsKeyOf}
use Rattle.reply_model.specs.Drops.{KeysRise}
use Rattle.reply_model.specs.Rows.{keys_of}
use Rattle.reply_model.proofs.StoredCounts.{before_trans, before_is_other, Ascending, stored_ascending, stored_there, is_of, same_key_back}

-- the history behind drops of these keys, the first one first
abbrev pub behind_drops : ℕ → List Key → History → History
behind_drops client [] old = old
behind_drops client (key ∷ keys) old = behind_drops client keys (events.Drop client key ∷ old)

pub drops_reversed : (client : ℕ) (keys : List Key) (old : History) → reverse (map (events.Drop client) keys) ++ old ≡ behind_drops client keys old
drops_reversed client [] old = refl
drops_reversed client (key ∷ keys) old =
    ap (λ es. es ++ old) (reverse-append (events.Drop client key ∷ []) (map (events.Drop client) keys))
    ∙ (append_assoc (reverse (map (events.Drop client) keys)) (events.Drop client key ∷ []) old ∙ drops_reversed client keys (events.Drop client key ∷ old))

-- the key is among these
abbrev pub is_among : List Key → Key → Bool
is_among keys key = list_any (same_key key) keys

-- ---- what is stored

pub lawful_behind : (client : ℕ) (keys : List Key) (old : History) → IsLawful (behind_drops client keys old) → IsLawful old
lawful_behind client [] old lawful = lawful
lawful_behind client (key ∷ keys) old lawful = (lawful_behind client keys (events.Drop client key ∷ old) lawful).1

-- what is not there comes not back
pub none_stays : (client : ℕ) (keys : List Key) (old : History) (key : Key) → stored old key ≡ None → stored (behind_drops client keys old) key ≡ None
none_stays client [] old key none = none
none_stays client (k ∷ keys) old key none = none_stays client keys (events.Drop client k ∷ old) key (by (same_key k key))
  where
    by : (b : Bool) → cond b None (stored old key) ≡ None
    by true = refl
    by false = none

-- a key that is not dropped stands as before
pub stored_beside : (client : ℕ) (keys : List Key) (old : History) (key : Key) → is_among keys key ≡ false → stored (behind_drops client keys old) key ≡ stored old key
stored_beside client [] old key out = refl
stored_beside client (k ∷ keys) old key out =
    let parts = or_parts (same_key key k) (list_any (same_key key) keys) out in
    stored_beside client keys (events.Drop client k ∷ old) key parts.1 ∙ ap (λ b. cond b None (stored old key)) (same_key_back key k parts.0)

-- and one that is dropped stands no more
pub stored_dropped : (client : ℕ) (keys : List Key) (old : History) (key : Key) → is_among keys key ≡ true → stored (behind_drops client keys old) key ≡ None
stored_dropped client [] old key there = absurd (true≢false (sym there))
stored_dropped client (k ∷ keys) old key there =
    elim (same_key key k) as (λ b. same_key key k ≡ b → (b || list_any (same_key key) keys) ≡ true → stored (behind_drops client keys (events.Drop client k ∷ old)) key ≡ None) [
      | true ↦ λ e f. none_stays client keys (events.Drop client k ∷ old) key
          (ap (λ b. cond b None (stored old key)) (ap (λ x. same_key x key) (sym (same_key_is key k e)) ∙ same_key_self key))
      | false ↦ λ e f. stored_dropped client keys (events.Drop client k ∷ old) key f
    ] refl there

-- so what was stored and is so no more was dropped
pub was_dropped : (client : ℕ) (keys : List Key) (old : History) (key : Key) → is_some (stored old key) ≡ true → stored (behind_drops client keys old) key ≡ None → is_among keys key ≡ true
was_dropped client keys old key some none =
    elim (is_among keys key) as (λ b. is_among keys key ≡ b → b ≡ true) [
      | true ↦ λ e. refl
      | false ↦ λ e. absurd (true≢false (sym some ∙ ap (λ o. is_some o) (sym (stored_beside client keys old key e) ∙ none)))
    ] refl

-- each key that is dropped was stored
pub each_was_stored : (client : ℕ) (keys : List Key) (old : History) → IsLawful (behind_drops client keys old) → AllByRecursion (λ key. is_some (stored old key) ≡ true) keys
each_was_stored client [] old lawful = tt
each_was_stored client (k ∷ keys) old lawful =
    ((lawful_behind client keys (events.Drop client k ∷ old) lawful).0.0, before keys (each_was_stored client keys (events.Drop client k ∷ old) lawful))
  where
    back : (key : Key) (b : Bool) → is_some (cond b None (stored old key)) ≡ true → is_some (stored old key) ≡ true
    back key true e = absurd (true≢false (sym e))
    back key false e = e

    before : (xs : List Key) → AllByRecursion (λ key. is_some (stored (events.Drop client k ∷ old) key) ≡ true) xs → AllByRecursion (λ key. is_some (stored old key) ≡ true) xs
    before [] all = tt
    before (x ∷ xs) all = (back x (same_key k x) all.0, before xs all.1)

pub links_behind_drops : (client : ℕ) (keys : List Key) (old : History) (symbol : Name) → links (behind_drops client keys old) symbol ≡ links old symbol
links_behind_drops client [] old symbol = refl
links_behind_drops client (k ∷ keys) old symbol = links_behind_drops client keys (events.Drop client k ∷ old) symbol

pub state_behind_drops : (client : ℕ) (keys : List Key) (old : History) (symbol : Name) → state_of (behind_drops client keys old) symbol ≡ state_of old symbol
state_behind_drops client [] old symbol = refl
state_behind_drops client (k ∷ keys) old symbol = state_behind_drops client keys (events.Drop client k ∷ old) symbol

-- ---- how many keys there are

-- keys behind a key in order are other ones
others_stay : (key : Key) (ks : List Key) → AllByRecursion (λ (x : Key). key_before key x ≡ true) ks → without_key key ks ≡ ks
others_stay key [] all = refl
others_stay key (k ∷ ks) all =
    ap (λ b. cond (not b) (k ∷ without_key key ks) (without_key key ks)) (before_is_other key k all.0) ∙ ap (λ xs. k ∷ xs) (others_stay key ks all.1)

count_without : (p : Key → Bool) (key : Key) (ks : List Key) → Ascending ks → list_any (same_key key) ks ≡ true → count_by p ks ≡ cond (p key) 1 0 + count_by p (without_key key ks)
count_without p key [] up there = absurd (true≢false (sym there))
count_without p key (k ∷ ks) up there =
    elim (same_key key k) as (λ b. same_key key k ≡ b → (b || list_any (same_key key) ks) ≡ true
    → count_by p (k ∷ ks) ≡ cond (p key) 1 0 + count_by p (cond (not b) (k ∷ without_key key ks) (without_key key ks))) [
      | true ↦ λ e f.
          let same : key ≡ k = same_key_is key k e in
          count_by-cons p k ks ∙ (ap (λ x. cond (p x) 1 0 + count_by p ks) (sym same)
          ∙ ap (λ xs. cond (p key) 1 0 + count_by p xs) (sym (others_stay key ks (subst (λ x. AllByRecursion (λ (y : Key). key_before x y ≡ true) ks) (sym same) up.0))))
      | false ↦ λ e f. omega (arith, count_by-cons p k ks, count_by-cons p k (without_key key ks), count_without p key ks up.1 f)
    ] refl there

-- each drop takes one key away
pub keys_behind_drops : (client : ℕ) (keys : List Key) (old : History) (symbol : Name) (kind : KeyKind) → IsLawful (behind_drops client keys old)
    → keys_of old symbol kind ≡ count_by (is_of symbol kind) keys + keys_of (behind_drops client keys old) symbol kind
keys_behind_drops client [] old symbol kind lawful = omega arith
keys_behind_drops client (k ∷ keys) old symbol kind lawful =
    let tested = (lawful_behind client keys (events.Drop client k ∷ old) lawful).0.0 in
    omega (
      arith,
      count_without (is_of symbol kind) k (stored_keys old) (stored_ascending old) (stored_there old k ∙ tested),
      count_by-cons (is_of symbol kind) k keys,
      keys_behind_drops client keys (events.Drop client k ∷ old) symbol kind lawful,
    )

-- keys of one kind and symbol count all, or none
pub counted_of : (own symbol : Name) (is kind : KeyKind) (keys : List Key) → AllByRecursion (IsKeyOf is own) keys → count_by (is_of symbol kind) keys ≡ cond (same_kind is kind && same_name own symbol) (length keys) 0
counted_of own symbol is kind [] all = both (same_kind is kind && same_name own symbol)
  where
    both : (b : Bool) → ◌≡◌ {A = ℕ} 0 (cond b 0 0)
    both true = refl
    both false = refl
counted_of own symbol is kind (k ∷ keys) all =
    let same : is_of symbol kind k ≡ (same_kind is kind && same_name own symbol) =
    ap (λ x. same_kind x kind && same_name k.name symbol) all.0.0 ∙ ap (λ n. same_kind is kind && same_name n symbol) all.0.1 in
    one_more (same_kind is kind && same_name own symbol) (ap (λ (b : Bool). cond {A = ℕ} b 1 0) same) (count_by-cons (is_of symbol kind) k keys) (counted_of own symbol is kind keys all.1)
  where
    one_more : (b : Bool) {all one rest : ℕ} → one ≡ cond b 1 0 → all ≡ one + rest → rest ≡ cond b (length keys) 0 → all ≡ cond b (length (k ∷ keys)) 0
    one_more true f g h = omega (arith, f, g, h)
    one_more false f g h = omega (arith, f, g, h)

-- ---- keys that rise

rising_all : (a : Key) (ks : List Key) → KeysRise (a ∷ ks) → AllByRecursion (λ (x : Key). key_before a x ≡ true) ks
rising_all a [] rise = tt
rising_all a (b ∷ ks) rise = (rise.0, below ks (rising_all b ks rise.1))
  where
    below : (xs : List Key) → AllByRecursion (λ (x : Key). key_before b x ≡ true) xs → AllByRecursion (λ (x : Key). key_before a x ≡ true) xs
    below [] all = tt
    below (x ∷ xs) all = (before_trans a b x rise.0 all.0, below xs all.1)

-- are all other ones
pub rising_distinct : (ks : List Key) → KeysRise ks → IsDistinct same_key ks
unfolding IsDistinct
rising_distinct [] rise = tt
rising_distinct (a ∷ []) rise = (tt, tt)
rising_distinct (a ∷ b ∷ ks) rise = (others (b ∷ ks) (rising_all a (b ∷ ks) rise), rising_distinct (b ∷ ks) rise.1)
  where
    others : (xs : List Key) → AllByRecursion (λ (x : Key). key_before a x ≡ true) xs → AllByRecursion (λ (x : Key). same_key a x ≡ false) xs
    others [] all = tt
    others (x ∷ xs) all = (before_is_other a x all.0, others xs all.1)
