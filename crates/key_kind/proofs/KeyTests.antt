-- What the tests of keys and names tell.
use Rattle.std.proofs.Common.{◌≡◌, true, false, refl, ap, sym, ◌∙◌, Some, nat_eq}
use Rattle.std.proofs.lemmas.Bool.{true≢false, eqb-true, eq-eqb, and_parts, and_from}
use Rattle.std.proofs.lemmas.Bool.Decides.{Decides-int_eq}
use Rattle.std.specs.Ordering.{int_eq}
use Rattle.std.specs.Cmp.Lexicographic.{bytes_decides}
use Rattle.key_kind.specs.declared.key.KeyKind.{KeyKind}
use Rattle.key_kind.specs.declared.key.KeyKind.TheVariants as kinds
use Rattle.key_kind.specs.declared.key.Key.{Key}
use Rattle.key_kind.specs.declared.key.Holder.{Holder}
use Rattle.key_kind.specs.Names.{Name, same_name}
use Rattle.key_kind.specs.Keys.{kind_code, same_kind, same_key, same_holder, is_put, reference_key, snapshot_key}
use Rattle.key_kind.specs.KeyText.{kind_of}

-- a kind is found again by its number
pub kind_back : (kind : KeyKind) → kind_of (kind_code kind) ≡ Some kind
kind_back kinds.TableData = refl
kind_back kinds.TableIndex = refl
kind_back kinds.Version = refl
kind_back kinds.VersionRef = refl
kind_back kinds.Snapshot = refl
kind_back kinds.Staged = refl

-- equal kinds
pub same_kind_is : (a b : KeyKind) → same_kind a b ≡ true → a ≡ b
same_kind_is a b h =
    let codes : kind_code a ≡ kind_code b = eqb-true (kind_code a) (kind_code b) h in
    let found : Some a ≡ Some b = sym (kind_back a) ∙ (ap kind_of codes ∙ kind_back b) in
    cc

-- equal names
pub same_name_is : (a b : Name) → same_name a b ≡ true → a ≡ b
same_name_is a b h = (bytes_decides a b).0 h

-- a name is equal to itself
pub same_name_self : (a : Name) → same_name a a ≡ true
same_name_self a = (bytes_decides a a).1 refl

-- equal keys, field by field
pub same_key_is : (a b : Key) → same_key a b ≡ true → a ≡ b
same_key_is a b h =
    let p6 = and_parts _ (int_eq a.last b.last) h in
    let p5 = and_parts _ (int_eq a.first b.first) p6.0 in
    let p4 = and_parts _ (nat_eq a.version b.version) p5.0 in
    let p3 = and_parts _ (nat_eq a.serial b.serial) p4.0 in
    let p2 = and_parts _ (nat_eq a.client b.client) p3.0 in
    let p1 = and_parts (same_kind a.kind b.kind) (same_name a.name b.name) p2.0 in
    let kind : a.kind ≡ b.kind = same_kind_is a.kind b.kind p1.0 in
    let name : a.name ≡ b.name = same_name_is a.name b.name p1.1 in
    let client : a.client ≡ b.client = eqb-true a.client b.client p2.1 in
    let serial : a.serial ≡ b.serial = eqb-true a.serial b.serial p3.1 in
    let version : a.version ≡ b.version = eqb-true a.version b.version p4.1 in
    let first : a.first ≡ b.first = (Decides-int_eq a.first b.first).0 p5.1 in
    let last : a.last ≡ b.last = (Decides-int_eq a.last b.last).0 p6.1 in
    λ i. record { kind = kind i; name = name i; client = client i; serial = serial i; version = version i; first = first i; last = last i }

-- a key is equal to itself
pub same_key_self : (a : Key) → same_key a a ≡ true
same_key_self a =
    and_from _ _ (and_from _ _ (and_from _ _ (and_from _ _ (and_from _ _ (and_from _ _
    (eq-eqb (kind_code a.kind) (kind_code a.kind) refl) (same_name_self a.name)) (eq-eqb a.client a.client refl)) (eq-eqb a.serial a.serial refl))
    (eq-eqb a.version a.version refl)) ((Decides-int_eq a.first a.first).1 refl)) ((Decides-int_eq a.last a.last).1 refl)

-- a key that is put is no reference
pub put_is_no_reference : (symbol : Name) (key : Key) → is_put key.kind ≡ true → same_key (reference_key symbol) key ≡ false
put_is_no_reference symbol key h =
    elim (same_key (reference_key symbol) key) as (λ b. same_key (reference_key symbol) key ≡ b → b ≡ false) [
      | true ↦ λ e. absurd (true≢false (sym h ∙ ap (λ (k : Key). is_put k.kind) (sym (same_key_is (reference_key symbol) key e))))
      | false ↦ λ e. refl
    ] refl

-- a key that is put is no snapshot
pub put_is_no_snapshot : (snap : Name) (key : Key) → is_put key.kind ≡ true → same_key (snapshot_key snap) key ≡ false
put_is_no_snapshot snap key h =
    elim (same_key (snapshot_key snap) key) as (λ b. same_key (snapshot_key snap) key ≡ b → b ≡ false) [
      | true ↦ λ e. absurd (true≢false (sym h ∙ ap (λ (k : Key). is_put k.kind) (sym (same_key_is (snapshot_key snap) key e))))
      | false ↦ λ e. refl
    ] refl

-- equal holders
pub same_holder_is : (a b : Holder) → same_holder a b ≡ true → a ≡ b
same_holder_is a b h =
    let r = and_parts (nat_eq a.client b.client) (nat_eq a.serial b.serial) h in
    let client : a.client ≡ b.client = eqb-true a.client b.client r.0 in
    let serial : a.serial ≡ b.serial = eqb-true a.serial b.serial r.1 in
    λ i. record { client = client i; serial = serial i }

-- a holder is equal to itself
pub same_holder_self : (a : Holder) → same_holder a a ≡ true
same_holder_self a = and_from _ _ (eq-eqb a.client a.client refl) (eq-eqb a.serial a.serial refl)
