-- Keys among lists of keys, and blocks among lists of blocks.
use Rattle.std.proofs.Common.{◌≡◌, ◌⊎◌, ℕ, Bool, true, false, List, [], ◌∷◌, ◌++◌, length, refl, sym, ◌∙◌, ap, subst, inl, inr, arith, cond}
use Rattle.std.specs.Prelude.{◌&&◌, filter, Contains, nat_eq, sum_by}
use Rattle.std.specs.List.{list_any, AllByRecursion, IsDistinct}
use Rattle.std.proofs.lemmas.Bool.{true≢false, or_left, or_right, or_cases, eqb-true, eq-eqb}
use Rattle.std.proofs.lemmas.List.Concat.{flat_map-cons, length-flat_map}
use Rattle.std.proofs.lemmas.List.Sums.{sum_by-cons}
use Rattle.std.proofs.lemmas.List.Folds.{list_any-append}
use Rattle.key_kind.specs.declared.key.Key.{Key}
use Rattle.key_kind.specs.Keys.{same_key}
use Rattle.key_kind.proofs.KeyTests.{same_key_is, same_key_self}
use Rattle.store_model.proofs.Lists.{contains_first, contains_later, contains_cases, contains_none, filter_in}
use Rattle.reply_model.specs.Blocks.{Block, same_block}
use Rattle.reply_model.specs.Keyed.{keys_named}
use Rattle.reply_model.proofs.DropCounts.{is_among}

-- ---- keys

-- what is among a list is contained in it, and the other way round
pub among_contains : (keys : List Key) (key : Key) → is_among keys key ≡ true → Contains keys key
among_contains [] key e = absurd (true≢false (sym e))
among_contains (k ∷ keys) key e = elim (or_cases (same_key key k) (list_any (same_key key) keys) e) [
  | inl same ↦ subst (λ x. Contains (k ∷ keys) x) (sym (same_key_is key k same)) (contains_first k keys)
  | inr later ↦ contains_later key k keys (among_contains keys key later)
]

pub contains_among : (keys : List Key) (key : Key) → Contains keys key → is_among keys key ≡ true
contains_among [] key c = absurd (contains_none key c)
contains_among (k ∷ keys) key c = elim (contains_cases key k keys c) [
  | inl same ↦ or_left (same_key key k) (list_any (same_key key) keys) (ap (λ x. same_key key x) same ∙ same_key_self key)
  | inr later ↦ or_right (same_key key k) (list_any (same_key key) keys) (contains_among keys key later)
]

-- what holds of all keys holds of each, and the other way round
pub all_at : (P : Key → Type 0) (keys : List Key) (key : Key) → AllByRecursion P keys → is_among keys key ≡ true → P key
all_at P [] key all e = absurd (true≢false (sym e))
all_at P (k ∷ keys) key all e = elim (or_cases (same_key key k) (list_any (same_key key) keys) e) [
  | inl same ↦ subst P (sym (same_key_is key k same)) all.0
  | inr later ↦ all_at P keys key all.1 later
]

pub all_from : (P : Key → Type 0) (keys : List Key) → ((key : Key) → is_among keys key ≡ true → P key) → AllByRecursion P keys
all_from P [] each = tt
all_from P (k ∷ keys) each = (
  each k (or_left (same_key k k) (list_any (same_key k) keys) (same_key_self k)),
  all_from P keys (λ key there. each key (or_right (same_key key k) (list_any (same_key key) keys) there)),
)

-- a key of the one list or of the other
pub among_left : (xs ys : List Key) (key : Key) → is_among xs key ≡ true → is_among (xs ++ ys) key ≡ true
among_left xs ys key e = list_any-append (same_key key) xs ys ∙ or_left (is_among xs key) (is_among ys key) e

pub among_right : (xs ys : List Key) (key : Key) → is_among ys key ≡ true → is_among (xs ++ ys) key ≡ true
among_right xs ys key e = list_any-append (same_key key) xs ys ∙ or_right (is_among xs key) (is_among ys key) e

pub among_append : (xs ys : List Key) (key : Key) → is_among (xs ++ ys) key ≡ true → (is_among xs key ≡ true) ⊎ (is_among ys key ≡ true)
among_append xs ys key e = or_cases (is_among xs key) (is_among ys key) (sym (list_any-append (same_key key) xs ys) ∙ e)

-- ---- distinct keys

pub distinct_second : (xs ys : List Key) → IsDistinct same_key (xs ++ ys) → IsDistinct same_key ys
unfolding IsDistinct
distinct_second [] ys d = d
distinct_second (x ∷ xs) ys d = distinct_second xs ys d.1

pub distinct_first : (xs ys : List Key) → IsDistinct same_key (xs ++ ys) → IsDistinct same_key xs
unfolding IsDistinct
distinct_first [] ys d = tt
distinct_first (x ∷ xs) ys d = (part xs d.0, distinct_first xs ys d.1)
  where
    part : (zs : List Key) → AllByRecursion (λ y. same_key x y ≡ false) (zs ++ ys) → AllByRecursion (λ y. same_key x y ≡ false) zs
    part [] all = tt
    part (z ∷ zs) all = (all.0, part zs all.1)

-- no key is in both parts
pub distinct_apart : (xs ys : List Key) (key : Key) → IsDistinct same_key (xs ++ ys) → is_among xs key ≡ true → is_among ys key ≡ true → ⊥
unfolding IsDistinct
distinct_apart [] ys key d e f = true≢false (sym e)
distinct_apart (x ∷ xs) ys key d e f = elim (or_cases (same_key key x) (list_any (same_key key) xs) e) [
  | inl same ↦
      let other : same_key x key ≡ false = all_at (λ y. same_key x y ≡ false) (xs ++ ys) key d.0 (among_right xs ys key f) in
      true≢false (sym (ap (λ z. same_key z key) (sym (same_key_is key x same)) ∙ same_key_self key) ∙ other)
  | inr later ↦ distinct_apart xs ys key d.1 later f
]

-- one more key that is another one
pub distinct_more : (key : Key) (keys : List Key) → AllByRecursion (λ y. same_key key y ≡ false) keys → IsDistinct same_key keys → IsDistinct same_key (key ∷ keys)
unfolding IsDistinct
distinct_more key keys other d = (other, d)

-- two lists of distinct keys without a common one
pub distinct_both : (xs ys : List Key) → IsDistinct same_key xs → IsDistinct same_key ys → ((key : Key) → is_among xs key ≡ true → is_among ys key ≡ true → ⊥) → IsDistinct same_key (xs ++ ys)
unfolding IsDistinct
distinct_both [] ys d f apart = f
distinct_both (x ∷ xs) ys d f apart = (
  all_from (λ y. same_key x y ≡ false) (xs ++ ys) (λ key there. elim (among_append xs ys key there) [
    | inl e ↦ all_at (λ y. same_key x y ≡ false) xs key d.0 e
    | inr e ↦ other key e
  ]),
  distinct_both xs ys d.1 f (λ key e g. apart key (or_right (same_key key x) (list_any (same_key key) xs) e) g),
)
  where
    other : (key : Key) → is_among ys key ≡ true → same_key x key ≡ false
    other key e = elim (same_key x key) as (λ b. same_key x key ≡ b → b ≡ false) [
      | true ↦ λ same. absurd (apart key (or_left (same_key key x) (list_any (same_key key) xs) (ap (λ z. same_key key z) (same_key_is x key same) ∙ same_key_self key)) e)
      | false ↦ λ same. refl
    ] refl

-- ---- the keys of blocks

abbrev keys_at : (ℕ → ℕ → List Key) → Block → List Key
keys_at names b = names b.version b.number

pub named_cons : (names : ℕ → ℕ → List Key) (b : Block) (blocks : List Block) → keys_named names (b ∷ blocks) ≡ names b.version b.number ++ keys_named names blocks
named_cons names b blocks = flat_map-cons (keys_at names) b blocks

pub named_append : (names : ℕ → ℕ → List Key) (xs ys : List Block) → keys_named names (xs ++ ys) ≡ keys_named names xs ++ keys_named names ys
named_append names [] ys = refl
named_append names (b ∷ xs) ys =
    named_cons names b (xs ++ ys) ∙ (ap (λ ks. names b.version b.number ++ ks) (named_append names xs ys)
    ∙ (assoc (names b.version b.number) (keys_named names xs) (keys_named names ys) ∙ ap (λ ks. ks ++ keys_named names ys) (sym (named_cons names b xs))))
  where
    assoc : (xs bs cs : List Key) → xs ++ (bs ++ cs) ≡ (xs ++ bs) ++ cs
    assoc [] bs cs = refl
    assoc (x ∷ xs) bs cs = ap (λ ks. x ∷ ks) (assoc xs bs cs)

-- a key of some of them is that of one
pub among_named : (names : ℕ → ℕ → List Key) (blocks : List Block) (key : Key) → is_among (keys_named names blocks) key ≡ true
    → (b : Block) × Contains blocks b × (is_among (names b.version b.number) key ≡ true)
among_named names [] key e = absurd (true≢false (sym e))
among_named names (b ∷ blocks) key e = elim (among_append (names b.version b.number) (keys_named names blocks) key (subst (λ ks. is_among ks key ≡ true) (named_cons names b blocks) e)) [
  | inl first ↦ (b, contains_first b blocks, first)
  | inr later ↦ let r = among_named names blocks key later in (r.0, contains_later r.0 b blocks r.1, r.2)
]

pub named_among : (names : ℕ → ℕ → List Key) (blocks : List Block) (b : Block) (key : Key) → Contains blocks b → is_among (names b.version b.number) key ≡ true → is_among (keys_named names blocks) key ≡ true
named_among names [] b key c e = absurd (contains_none b c)
named_among names (x ∷ blocks) b key c e = subst (λ ks. is_among ks key ≡ true) (sym (named_cons names x blocks)) (elim (contains_cases b x blocks c) [
  | inl same ↦ among_left (names x.version x.number) (keys_named names blocks) key (subst (λ (y : Block). is_among (names y.version y.number) key ≡ true) (sym same) e)
  | inr later ↦ among_right (names x.version x.number) (keys_named names blocks) key (named_among names blocks b key later e)
])

-- a key of two blocks whose keys are distinct is that of one
pub one_named : (names : ℕ → ℕ → List Key) (blocks : List Block) (a b : Block) (key : Key) → IsDistinct same_key (keys_named names blocks) → Contains blocks a → Contains blocks b
    → is_among (names a.version a.number) key ≡ true → is_among (names b.version b.number) key ≡ true → a ≡ b
one_named names [] a b key d ca cb e f = absurd (contains_none a ca)
one_named names (x ∷ blocks) a b key d ca cb e f =
    let d' = subst (λ ks. IsDistinct same_key ks) (named_cons names x blocks) d in
    elim (contains_cases a x blocks ca) [
      | inl first ↦ elim (contains_cases b x blocks cb) [
        | inl second ↦ sym first ∙ second
        | inr later ↦ absurd (distinct_apart (names x.version x.number) (keys_named names blocks) key d'
            (subst (λ (y : Block). is_among (names y.version y.number) key ≡ true) (sym first) e) (named_among names blocks b key later f))
      ]
      | inr la ↦ elim (contains_cases b x blocks cb) [
        | inl second ↦ absurd (distinct_apart (names x.version x.number) (keys_named names blocks) key d'
            (subst (λ (y : Block). is_among (names y.version y.number) key ≡ true) (sym second) f) (named_among names blocks a key la e))
        | inr lb ↦ one_named names blocks a b key (distinct_second (names x.version x.number) (keys_named names blocks) d') la lb e f
      ]
    ]

-- some of the blocks have distinct keys too
pub distinct_some : (names : ℕ → ℕ → List Key) (p : Block → Bool) (blocks : List Block) → IsDistinct same_key (keys_named names blocks) → IsDistinct same_key (keys_named names (filter p blocks))
unfolding IsDistinct
distinct_some names p [] d = tt
distinct_some names p (x ∷ blocks) d =
    let d' = subst (λ ks. IsDistinct same_key ks) (named_cons names x blocks) d in
    let more = distinct_some names p blocks (distinct_second (names x.version x.number) (keys_named names blocks) d') in
    elim (p x) as (λ t. IsDistinct same_key (keys_named names (cond t (x ∷ filter p blocks) (filter p blocks)))) [
      | true ↦ subst (λ ks. IsDistinct same_key ks) (sym (named_cons names x (filter p blocks)))
          (distinct_both (names x.version x.number) (keys_named names (filter p blocks)) (distinct_first (names x.version x.number) (keys_named names blocks) d') more
          (λ key e f. distinct_apart (names x.version x.number) (keys_named names blocks) key d' e (some_among key f)))
      | false ↦ more
    ]
  where
    some_among : (key : Key) → is_among (keys_named names (filter p blocks)) key ≡ true → is_among (keys_named names blocks) key ≡ true
    some_among key f = let r = among_named names (filter p blocks) key f in named_among names blocks r.0 key (filter_in p blocks r.0 r.1).0 r.2

-- blocks have as many keys as tiles
pub named_counted : (names : ℕ → ℕ → List Key) (blocks : List Block) → AllByRecursion (λ (b : Block). length (names b.version b.number) ≡ b.tiles) blocks
    → length (keys_named names blocks) ≡ sum_by (λ (b : Block). b.tiles) blocks
named_counted names blocks all = length-flat_map (keys_at names) blocks ∙ same blocks all
  where
    same : (bs : List Block) → AllByRecursion (λ (b : Block). length (names b.version b.number) ≡ b.tiles) bs → sum_by (λ (b : Block). length (names b.version b.number)) bs ≡ sum_by (λ (b : Block). b.tiles) bs
    same [] a = refl
    same (b ∷ bs) a = omega (arith, sum_by-cons (λ (x : Block). length (names x.version x.number)) b bs, sum_by-cons (λ (x : Block). x.tiles) b bs, a.0, same bs a.1)

-- ---- the same block

pub same_block_is : (a b : Block) → same_block a b ≡ true → (a.version ≡ b.version) × (a.number ≡ b.number)
same_block_is a b e = let parts = both (nat_eq a.version b.version) (nat_eq a.number b.number) e in (eqb-true a.version b.version parts.0, eqb-true a.number b.number parts.1)
  where
    both : (x y : Bool) → (x && y) ≡ true → (x ≡ true) × (y ≡ true)
    both true y f = (refl, f)
    both false y f = absurd (true≢false (sym f))

pub same_block_self : (a : Block) → same_block a a ≡ true
same_block_self a = ap (λ x. x && nat_eq a.number a.number) (eq-eqb a.version a.version refl) ∙ eq-eqb a.number a.number refl

pub same_back : (a b : Block) → same_block a b ≡ true → same_block b a ≡ true
same_back a b e =
    let is = same_block_is a b e in
    ap (λ v. nat_eq b.version v && nat_eq b.number a.number) is.0 ∙ (ap (λ n. nat_eq b.version b.version && nat_eq b.number n) is.1 ∙ same_block_self b)

-- the block is among these
abbrev pub has_block : List Block → Block → Bool
has_block blocks b = list_any (same_block b) blocks

-- the same block is where the other is
pub same_there : (a b : Block) (blocks : List Block) → same_block a b ≡ true → has_block blocks b ≡ has_block blocks a
same_there a b blocks same =
    let is = same_block_is a b same in
    ap (λ v. list_any (λ (x : Block). nat_eq v x.version && nat_eq b.number x.number) blocks) (sym is.0)
    ∙ ap (λ n. list_any (λ (x : Block). nat_eq a.version x.version && nat_eq n x.number) blocks) (sym is.1)

-- and has the same keys
pub same_keys : (names : ℕ → ℕ → List Key) (a b : Block) → same_block a b ≡ true → names a.version a.number ≡ names b.version b.number
same_keys names a b same = let is = same_block_is a b same in ap (λ v. names v a.number) is.0 ∙ ap (λ n. names b.version n) is.1

pub block_there : (blocks : List Block) (b : Block) → Contains blocks b → has_block blocks b ≡ true
block_there [] b c = absurd (contains_none b c)
block_there (x ∷ blocks) b c = elim (contains_cases b x blocks c) [
  | inl same ↦ or_left (same_block b x) (list_any (same_block b) blocks) (ap (λ y. same_block b y) same ∙ same_block_self b)
  | inr later ↦ or_right (same_block b x) (list_any (same_block b) blocks) (block_there blocks b later)
]

-- what holds of all blocks holds of each
pub block_at : (P : Block → Type 0) (blocks : List Block) (b : Block) → AllByRecursion P blocks → Contains blocks b → P b
block_at P [] b all c = absurd (contains_none b c)
block_at P (x ∷ blocks) b all c = elim (contains_cases b x blocks c) [ inl same ↦ subst P same all.0 | inr later ↦ block_at P blocks b all.1 later ]

pub block_among : (blocks : List Block) (b : Block) → has_block blocks b ≡ true → (a : Block) × Contains blocks a × (same_block b a ≡ true)
block_among [] b e = absurd (true≢false (sym e))
block_among (x ∷ blocks) b e = elim (or_cases (same_block b x) (list_any (same_block b) blocks) e) [
  | inl same ↦ (x, contains_first x blocks, same)
  | inr later ↦ let r = block_among blocks b later in (r.0, contains_later r.0 x blocks r.1, r.2)
]
