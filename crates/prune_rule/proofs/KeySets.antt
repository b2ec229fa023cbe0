-- Sets of keys: their members, their order, and their parts by kind.
use Rattle.std.proofs.Common.{◌≡◌, ℕ, ◌≤◌, true, false, List, [], ◌∷◌, ◌++◌, refl, ap, sym, ◌∙◌, subst, inl, inr, arith, cond}
use Rattle.std.specs.Prelude.{◌⊎◌, Contains, filter}
use Rattle.std.specs.List.{AllByRecursion}
use Rattle.std.specs.List.Sorted.{IsStrictlySortedBy}
use Rattle.std.specs.BTreeSet.{BTreeSet}
use Rattle.std.specs.Ordering.{nat_cmp, is_eq, is_lt, ordering_then}
use Rattle.std.specs.declared.cmp.Ordering.{Ordering}
use Rattle.std.specs.declared.cmp.Ordering.TheVariants as orders
use Rattle.key_kind.specs.declared.key.KeyKind.{KeyKind}
use Rattle.key_kind.specs.declared.key.KeyKind.TheVariants as kinds
use Rattle.key_kind.specs.declared.key.Key.{Key}
use Rattle.key_kind.specs.Keys.{kind_code, same_kind, key_cmp}
use Rattle.key_kind.specs.KeyOrder.{same_key_ties}
use Rattle.key_kind.proofs.KeyTests.{same_key_is, same_key_self, same_kind_is}
use Rattle.store_model.proofs.Lists.{one_passes, passes}
use Rattle.reply_model.specs.Drops.{KeysRise}
use Rattle.prune_rule.specs.DeadKeys.{has_key}

-- ---- members

-- what a set has is among its keys, and the other way round
pub has_is_among : (keys : BTreeSet Key) (key : Key) → has_key keys key ≡ true → Contains keys.keys key
has_is_among keys key has =
    let r = one_passes (λ (k : Key). is_eq (key_cmp key k)) keys.keys has in
    subst (λ k. Contains keys.keys k) (sym (same_key_is key r.0 (same_key_ties key r.0 ∙ r.2))) r.1

pub among_is_had : (keys : BTreeSet Key) (key : Key) → Contains keys.keys key → has_key keys key ≡ true
among_is_had keys key c = passes (λ (k : Key). is_eq (key_cmp key k)) keys.keys key c (sym (same_key_ties key key) ∙ same_key_self key)

-- ---- order

pub rise_of : (keys : List Key) → IsStrictlySortedBy key_cmp keys → KeysRise keys
unfolding IsStrictlySortedBy
rise_of [] s = tt
rise_of (a ∷ []) s = tt
rise_of (a ∷ b ∷ more) s = (ap is_lt s.0.0, rise_of (b ∷ more) s.1)

-- ---- kinds

abbrev pub of_kind : KeyKind → List Key → List Key
of_kind kind = filter (λ (k : Key). same_kind k.kind kind)

-- a key that stands before another is of no later kind
kinds_rise : (a b : Key) → key_cmp a b ≡ orders.Less → kind_code a.kind ≤ kind_code b.kind
kinds_rise a b less = by (kind_code a.kind) (kind_code b.kind) _ _ _ _ _ _ less
  where
    by : (m n : ℕ) (o p q r s t : Ordering) → ordering_then (ordering_then (ordering_then (ordering_then (ordering_then (ordering_then (nat_cmp m n) o) p) q) r) s) t ≡ orders.Less → m ≤ n
    by m n o p q r s t e = grind arith

-- the kinds of keys that are dropped
abbrev pub IsDropKind : KeyKind → Type 0
IsDropKind kind = (kind ≡ kinds.TableData) ⊎ (kind ≡ kinds.TableIndex) ⊎ (kind ≡ kinds.Staged)

-- keys behind one of a later kind have none of an earlier one
none_earlier : (kind : KeyKind) (keys : List Key) → AllByRecursion (λ (k : Key). same_kind k.kind kind ≡ false) keys → of_kind kind keys ≡ []
none_earlier kind [] all = refl
none_earlier kind (k ∷ keys) all = ap (λ b. cond b (k ∷ of_kind kind keys) (of_kind kind keys)) all.0 ∙ none_earlier kind keys all.1

later_kinds : (kind : KeyKind) (x : Key) (keys : List Key) → (kind_code x.kind ≤ kind_code kind → ⊥) → AllByRecursion (λ y. key_cmp x y ≡ orders.Less) keys → of_kind kind keys ≡ []
later_kinds kind x keys apart all = none_earlier kind keys (each keys all)
  where
    each : (keys : List Key) → AllByRecursion (λ y. key_cmp x y ≡ orders.Less) keys → AllByRecursion (λ (k : Key). same_kind k.kind kind ≡ false) keys
    each [] all = tt
    each (k ∷ keys) all = (
      elim (same_kind k.kind kind) as (λ b. same_kind k.kind kind ≡ b → b ≡ false) [
        | true ↦ λ e. absurd (apart (omega (arith, kinds_rise x k all.0, ap kind_code (same_kind_is k.kind kind e))))
        | false ↦ λ e. refl
      ] refl,
      each keys all.1,
    )

-- keys in order are those of tiles, then those of indexes, then those of pieces
pub split_kinds : (keys : List Key) → IsStrictlySortedBy key_cmp keys → AllByRecursion (λ (k : Key). IsDropKind k.kind) keys → keys ≡ of_kind kinds.TableData keys ++ (of_kind kinds.TableIndex keys ++ of_kind kinds.Staged keys)
unfolding IsStrictlySortedBy
split_kinds [] s all = refl
split_kinds (x ∷ keys) s all =
    let more = split_kinds keys s.1 all.1 in
    elim all.0 [
      | inl data_is ↦ by data_is more
      | inr rest ↦ elim rest [
        | inl index_is ↦ index index_is more
        | inr staged_is ↦ staged staged_is more
      ]
    ]
  where
    by : x.kind ≡ kinds.TableData → keys ≡ of_kind kinds.TableData keys ++ (of_kind kinds.TableIndex keys ++ of_kind kinds.Staged keys)
        → x ∷ keys ≡ of_kind kinds.TableData (x ∷ keys) ++ (of_kind kinds.TableIndex (x ∷ keys) ++ of_kind kinds.Staged (x ∷ keys))
    by is more =
        subst (λ kind. x ∷ keys ≡ cond (same_kind kind kinds.TableData) (x ∷ of_kind kinds.TableData keys) (of_kind kinds.TableData keys)
        ++ (cond (same_kind kind kinds.TableIndex) (x ∷ of_kind kinds.TableIndex keys) (of_kind kinds.TableIndex keys) ++ cond (same_kind kind kinds.Staged) (x ∷ of_kind kinds.Staged keys) (of_kind kinds.Staged keys))) (sym is) (ap (λ l. x ∷ l) more)

    index : x.kind ≡ kinds.TableIndex → keys ≡ of_kind kinds.TableData keys ++ (of_kind kinds.TableIndex keys ++ of_kind kinds.Staged keys)
        → x ∷ keys ≡ of_kind kinds.TableData (x ∷ keys) ++ (of_kind kinds.TableIndex (x ∷ keys) ++ of_kind kinds.Staged (x ∷ keys))
    index is more =
        let none : of_kind kinds.TableData keys ≡ [] = later_kinds kinds.TableData x keys (λ le. omega (arith, le, ap kind_code is)) s.0 in
        subst (λ kind. x ∷ keys ≡ cond (same_kind kind kinds.TableData) (x ∷ of_kind kinds.TableData keys) (of_kind kinds.TableData keys)
        ++ (cond (same_kind kind kinds.TableIndex) (x ∷ of_kind kinds.TableIndex keys) (of_kind kinds.TableIndex keys) ++ cond (same_kind kind kinds.Staged) (x ∷ of_kind kinds.Staged keys) (of_kind kinds.Staged keys))) (sym is)
        (ap (λ l. x ∷ l) more ∙ ((λ i. x ∷ (none i ++ (of_kind kinds.TableIndex keys ++ of_kind kinds.Staged keys))) ∙ sym (ap (λ l. l ++ (x ∷ (of_kind kinds.TableIndex keys ++ of_kind kinds.Staged keys))) none)))

    staged : x.kind ≡ kinds.Staged → keys ≡ of_kind kinds.TableData keys ++ (of_kind kinds.TableIndex keys ++ of_kind kinds.Staged keys)
        → x ∷ keys ≡ of_kind kinds.TableData (x ∷ keys) ++ (of_kind kinds.TableIndex (x ∷ keys) ++ of_kind kinds.Staged (x ∷ keys))
    staged is more =
        let none : of_kind kinds.TableData keys ≡ [] = later_kinds kinds.TableData x keys (λ le. omega (arith, le, ap kind_code is)) s.0 in
        let no_index : of_kind kinds.TableIndex keys ≡ [] = later_kinds kinds.TableIndex x keys (λ le. omega (arith, le, ap kind_code is)) s.0 in
        subst (λ kind. x ∷ keys ≡ cond (same_kind kind kinds.TableData) (x ∷ of_kind kinds.TableData keys) (of_kind kinds.TableData keys)
        ++ (cond (same_kind kind kinds.TableIndex) (x ∷ of_kind kinds.TableIndex keys) (of_kind kinds.TableIndex keys) ++ cond (same_kind kind kinds.Staged) (x ∷ of_kind kinds.Staged keys) (of_kind kinds.Staged keys))) (sym is)
        (ap (λ l. x ∷ l) more ∙ ((λ i. x ∷ (none i ++ (no_index i ++ of_kind kinds.Staged keys))) ∙ sym (λ i. none i ++ (no_index i ++ (x ∷ of_kind kinds.Staged keys)))))
