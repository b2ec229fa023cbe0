-- Keys are totally ordered by `key_cmp`, which ties exactly the keys that `same_key` finds equal.
--     same_key_equiv      `same_key` is an equivalence
--     key_cmp_total, key_cmp_po      `key_cmp` is a total order
--     same_key_ties       both agree on which keys are equal
use Rattle.std.specs.Prelude.{◌≡◌, Some}
use Rattle.std.specs.Cmp.{IsEquivalence, IsTotalOrder, IsPartialOrder, and_equiv, on_equiv, then_total, on_total, nat_eq_equiv, int_eq_equiv, nat_cmp_total, int_cmp_total, both_tied, unsigned_ties, po}
use Rattle.std.specs.Cmp.Lexicographic.{slice_cmp, nat_list_eq_equiv, nat_list_cmp_total, texts_ties}
use Rattle.std.specs.Ordering.{nat_cmp, int_cmp, eq_by_cmp}
use Rattle.std.proofs.Common.{refl}
use Rattle.key_kind.specs.Keys.{kind_code, same_key, key_cmp}
use Rattle.key_kind.specs.declared.key.Key.{Key}

-- equal keys are equal both ways, and to the same keys
pub same_key_equiv : IsEquivalence same_key
same_key_equiv =
    and_equiv (and_equiv (and_equiv (and_equiv (and_equiv (and_equiv
    (on_equiv (λ (k : Key). kind_code k.kind) nat_eq_equiv)
    (on_equiv (λ (k : Key). k.name) nat_list_eq_equiv))
    (on_equiv (λ (k : Key). k.client) nat_eq_equiv))
    (on_equiv (λ (k : Key). k.serial) nat_eq_equiv))
    (on_equiv (λ (k : Key). k.version) nat_eq_equiv))
    (on_equiv (λ (k : Key). k.first) int_eq_equiv))
    (on_equiv (λ (k : Key). k.last) int_eq_equiv)

-- the fields' orders, one after another
pub key_cmp_total : IsTotalOrder key_cmp
key_cmp_total =
    then_total (then_total (then_total (then_total (then_total (then_total
    (on_total (λ (k : Key). kind_code k.kind) nat_cmp_total)
    (on_total (λ (k : Key). k.name) nat_list_cmp_total))
    (on_total (λ (k : Key). k.client) nat_cmp_total))
    (on_total (λ (k : Key). k.serial) nat_cmp_total))
    (on_total (λ (k : Key). k.version) nat_cmp_total))
    (on_total (λ (k : Key). k.first) int_cmp_total))
    (on_total (λ (k : Key). k.last) int_cmp_total)

-- two keys are equal exactly where neither stands before the other
pub same_key_ties : (a b : Key) → same_key a b ≡ eq_by_cmp key_cmp a b
same_key_ties a b =
    both_tied _ _ _ (int_cmp a.last b.last) (both_tied _ _ _ (int_cmp a.first b.first) (both_tied _ _ _ (nat_cmp a.version b.version)
    (both_tied _ _ _ (nat_cmp a.serial b.serial) (both_tied _ _ _ (nat_cmp a.client b.client) (both_tied _ _ _ (slice_cmp nat_cmp a.name b.name)
    (unsigned_ties (kind_code a.kind) (kind_code b.kind)) (texts_ties a.name b.name)) (unsigned_ties a.client b.client)) (unsigned_ties a.serial b.serial))
    (unsigned_ties a.version b.version)) refl) refl

-- the same order, as a comparison that always has an answer
pub key_cmp_po : IsPartialOrder same_key (λ a b. Some (key_cmp a b))
key_cmp_po = po key_cmp_total same_key_ties
