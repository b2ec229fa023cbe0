-- The lists of a library name exactly what is there, in ascending order.
use Rattle.std.proofs.Common.{◌≡◌, Bool, true, false, List, [], ◌∷◌, map, refl, ap, sym, ◌∙◌, subst, Some, None, Option, cond}
use Rattle.std.specs.Prelude.{◌||◌, not, filter, find, option_map}
use Rattle.std.specs.List.{list_any}
use Rattle.std.specs.Ordering.{nat_cmp, is_lt, ordering_reverse}
use Rattle.std.specs.Cmp.Lexicographic.{slice_cmp}
use Rattle.std.specs.declared.cmp.Ordering.TheVariants.{Less, Equal, Greater}
use Rattle.std.proofs.lemmas.Cmp.{nat_list_cmp_total}
use Rattle.std.proofs.lemmas.Map.Lookups.{exact_bytes}
use Rattle.std.proofs.lemmas.Bool.{true≢false}
use Rattle.byte_fields.specs.Reading.{read_of}
use Rattle.key_kind.specs.Names.{Name, same_name, name_before}
use Rattle.key_kind.proofs.KeyTests.{same_name_is, same_name_self}
use Rattle.bucket_core.specs.declared.event.Event.TheVariants as events
use Rattle.bucket_core.specs.History.{History}
use Rattle.store_model.specs.declared.snapshot.SnapBody.{SnapBody}
use Rattle.store_model.specs.ChainText.{snap_of}
use Rattle.store_model.specs.Library.{state_of, after_changes}
use Rattle.store_model.specs.Snapshots.{Snapshot, insert_name, insert_named, without_named, with_snapshot, snapshot_from, snap_body, snapshots_of, symbols_of}
use Rattle.store_model.specs.Listings.{NamesRise, names_standing, AllListsAgree}

-- ---- names

pub same_name_sym : (a b : Name) → same_name a b ≡ same_name b a
same_name_sym a b =
    elim (same_name a b) as (λ t. same_name a b ≡ t → t ≡ same_name b a) [
      | true ↦ λ e. sym (subst (λ x. same_name x a ≡ true) (same_name_is a b e) (same_name_self a))
      | false ↦ λ e. elim (same_name b a) as (λ u. same_name b a ≡ u → false ≡ u) [
        | true ↦ λ d. absurd (true≢false (sym (subst (λ x. same_name x b ≡ true) (same_name_is b a d) (same_name_self b)) ∙ e))
        | false ↦ λ d. refl
      ] refl
    ] refl

-- of two names that are not the same the one stands before the other
pub one_before : (a b : Name) → same_name a b ≡ false → name_before a b ≡ false → name_before b a ≡ true
one_before a b other not_before =
    elim (slice_cmp nat_cmp a b) as (λ o. slice_cmp nat_cmp a b ≡ o → name_before b a ≡ true) [
      | Less ↦ λ e. absurd (true≢false (sym (ap is_lt e) ∙ not_before))
      | Equal ↦ λ e. absurd (true≢false (sym (subst (λ x. same_name a x ≡ true) (exact_bytes a b e) (same_name_self a)) ∙ other))
      | Greater ↦ λ e. ap is_lt (nat_list_cmp_total.antisymm b a ∙ ap ordering_reverse e)
    ] refl

-- a name that stands before another stands before each that is behind it
before_all : (a b c : Name) → name_before a b ≡ true → name_before b c ≡ true → name_before a c ≡ true
before_all a b c first second = ap is_lt (nat_list_cmp_total.trans a b c (less a b first) (less b c second))
  where
    less : (x y : Name) → name_before x y ≡ true → slice_cmp nat_cmp x y ≡ Less
    less x y e = elim (slice_cmp nat_cmp x y) as (λ o. slice_cmp nat_cmp x y ≡ o → is_lt o ≡ true → o ≡ Less) [
      | Less ↦ λ d t. refl
      | Equal ↦ λ d t. absurd (true≢false (sym t))
      | Greater ↦ λ d t. absurd (true≢false (sym t))
    ] refl e

-- ---- tests

-- a test that is asked twice
twice : (a b : Bool) → (a || b) ≡ (a || (a || b))
twice true b = refl
twice false b = refl

-- two tests in another order
swapped : (a b c : Bool) → (a || (b || c)) ≡ (b || (a || c))
swapped true true c = refl
swapped true false c = refl
swapped false b c = refl

-- ---- a name in its place

-- a list with one name more has this name and those that it had
any-insert_name : (x name : Name) (ns : List Name) → list_any (same_name x) (insert_name name ns) ≡ (same_name x name || list_any (same_name x) ns)
any-insert_name x name [] = refl
any-insert_name x name (n ∷ ns) =
    elim (same_name name n) as (λ t. same_name name n ≡ t
    → list_any (same_name x) (cond t (n ∷ ns) (cond (name_before name n) (name ∷ n ∷ ns) (n ∷ insert_name name ns))) ≡ (same_name x name || (same_name x n || list_any (same_name x) ns))) [
      | true ↦ λ e. subst (λ m. (same_name x n || list_any (same_name x) ns) ≡ (same_name x m || (same_name x n || list_any (same_name x) ns))) (sym (same_name_is name n e)) (twice (same_name x n) (list_any (same_name x) ns))
      | false ↦ λ e. elim (name_before name n) as (λ u. list_any (same_name x) (cond u (name ∷ n ∷ ns) (n ∷ insert_name name ns)) ≡ (same_name x name || (same_name x n || list_any (same_name x) ns))) [
        | true ↦ refl
        | false ↦ ap (λ b. same_name x n || b) (any-insert_name x name ns) ∙ swapped (same_name x n) (same_name x name) (list_any (same_name x) ns)
      ]
    ] refl

-- names that rise do so with one more, which stands behind a name before them
rise_behind : (p name : Name) (ns : List Name) → name_before p name ≡ true → NamesRise (p ∷ ns) → NamesRise (p ∷ insert_name name ns)
rise_behind p name [] first rise = (first, tt)
rise_behind p name (n ∷ ns) first rise =
    elim (same_name name n) as (λ t. same_name name n ≡ t → NamesRise (p ∷ cond t (n ∷ ns) (cond (name_before name n) (name ∷ n ∷ ns) (n ∷ insert_name name ns)))) [
      | true ↦ λ e. rise
      | false ↦ λ e. elim (name_before name n) as (λ u. name_before name n ≡ u → NamesRise (p ∷ cond u (name ∷ n ∷ ns) (n ∷ insert_name name ns))) [
        | true ↦ λ d. (first, (d, rise.1))
        | false ↦ λ d. (rise.0, rise_behind n name ns (one_before name n e d) rise.1)
      ] refl
    ] refl

rise-insert_name : (name : Name) (ns : List Name) → NamesRise ns → NamesRise (insert_name name ns)
rise-insert_name name [] rise = tt
rise-insert_name name (n ∷ ns) rise =
    elim (same_name name n) as (λ t. same_name name n ≡ t → NamesRise (cond t (n ∷ ns) (cond (name_before name n) (name ∷ n ∷ ns) (n ∷ insert_name name ns)))) [
      | true ↦ λ e. rise
      | false ↦ λ e. elim (name_before name n) as (λ u. name_before name n ≡ u → NamesRise (cond u (name ∷ n ∷ ns) (n ∷ insert_name name ns))) [
        | true ↦ λ d. (d, rise)
        | false ↦ λ d. rise_behind n name ns (one_before name n e d) rise
      ] refl
    ] refl

-- names that rise do so without one
rise_without : (a b : Name) (ns : List Name) → NamesRise (a ∷ b ∷ ns) → NamesRise (a ∷ ns)
rise_without a b [] rise = tt
rise_without a b (c ∷ ns) rise = (before_all a b c rise.0 rise.1.0, rise.1.1)

filter_behind : (keep : Name → Bool) (a : Name) (ns : List Name) → NamesRise (a ∷ ns) → NamesRise (a ∷ filter keep ns)
filter_behind keep a [] rise = tt
filter_behind keep a (n ∷ ns) rise =
    elim (keep n) as (λ t. NamesRise (a ∷ cond t (n ∷ filter keep ns) (filter keep ns))) [
      | true ↦ (rise.0, filter_behind keep n ns rise.1)
      | false ↦ filter_behind keep a ns (rise_without a n ns rise)
    ]

rise-filter : (keep : Name → Bool) (ns : List Name) → NamesRise ns → NamesRise (filter keep ns)
rise-filter keep [] rise = tt
rise-filter keep (n ∷ ns) rise =
    elim (keep n) as (λ t. NamesRise (cond t (n ∷ filter keep ns) (filter keep ns))) [
      | true ↦ filter_behind keep n ns rise
      | false ↦ rise-filter keep ns (tail_rises n ns rise)
    ]
  where
    tail_rises : (a : Name) (more : List Name) → NamesRise (a ∷ more) → NamesRise more
    tail_rises a [] r = tt
    tail_rises a (b ∷ more) r = r.1

-- ---- snapshots by name

abbrev Named : Type 0
Named = Name × Snapshot

abbrev names : List Named → List Name
names ys = map {B = Name} (λ (y : Named). y.0) ys

-- what stands under a name in a list
abbrev under : Name → List Named → Option Snapshot
under snap ys = option_map (λ (y : Named). y.1) (find (λ (y : Named). same_name snap y.0) ys)

names-insert_named : (name : Name) (x : Snapshot) (ys : List Named) → names (insert_named name x ys) ≡ insert_name name (names ys)
names-insert_named name x [] = refl
names-insert_named name x (y ∷ ys) =
    elim (same_name name y.0) as (λ t. same_name name y.0 ≡ t
    → names (cond t ((name, x) ∷ ys) (cond (name_before name y.0) ((name, x) ∷ y ∷ ys) (y ∷ insert_named name x ys)))
    ≡ cond t (y.0 ∷ names ys) (cond (name_before name y.0) (name ∷ y.0 ∷ names ys) (y.0 ∷ insert_name name (names ys)))) [
      | true ↦ λ e. ap (λ n. n ∷ names ys) (same_name_is name y.0 e)
      | false ↦ λ e. elim (name_before name y.0) as (λ u. names (cond u ((name, x) ∷ y ∷ ys) (y ∷ insert_named name x ys)) ≡ cond u (name ∷ y.0 ∷ names ys) (y.0 ∷ insert_name name (names ys))) [
        | true ↦ refl
        | false ↦ ap (λ ns. y.0 ∷ ns) (names-insert_named name x ys)
      ]
    ] refl

names-without_named : (name : Name) (ys : List Named) → names (without_named name ys) ≡ filter (λ n. not (same_name name n)) (names ys)
names-without_named name [] = refl
names-without_named name (y ∷ ys) =
    elim (not (same_name name y.0)) as (λ t. names (cond t (y ∷ without_named name ys) (without_named name ys))
    ≡ cond t (y.0 ∷ filter (λ n. not (same_name name n)) (names ys)) (filter (λ n. not (same_name name n)) (names ys))) [
      | true ↦ ap (λ ns. y.0 ∷ ns) (names-without_named name ys)
      | false ↦ names-without_named name ys
    ]

-- what is found first
abbrev first_found : Name → Named → List Named → Option Snapshot
first_found snap y ys = option_map (λ (z : Named). z.1) (cond (same_name snap y.0) (Some y) (find (λ (z : Named). same_name snap z.0) ys))

under-insert_named : (snap name : Name) (x : Snapshot) (ys : List Named) → under snap (insert_named name x ys) ≡ cond (same_name snap name) (Some x) (under snap ys)
under-insert_named snap name x [] = elim (same_name snap name) as (λ t. option_map (λ (z : Named). z.1) (cond t (Some (name, x)) None) ≡ cond t (Some x) None) [ true ↦ refl | false ↦ refl ]
under-insert_named snap name x (y ∷ ys) =
    elim (same_name name y.0) as (λ t. same_name name y.0 ≡ t
    → under snap (cond t ((name, x) ∷ ys) (cond (name_before name y.0) ((name, x) ∷ y ∷ ys) (y ∷ insert_named name x ys))) ≡ cond (same_name snap name) (Some x) (under snap (y ∷ ys))) [
      | true ↦ λ e. replaced e
      | false ↦ λ e. elim (name_before name y.0) as (λ u. under snap (cond u ((name, x) ∷ y ∷ ys) (y ∷ insert_named name x ys)) ≡ cond (same_name snap name) (Some x) (under snap (y ∷ ys))) [
        | true ↦ put_first (y ∷ ys)
        | false ↦ elim (same_name snap y.0) as (λ v. same_name snap y.0 ≡ v
            → option_map (λ (z : Named). z.1) (cond v (Some y) (find (λ (z : Named). same_name snap z.0) (insert_named name x ys)))
            ≡ cond (same_name snap name) (Some x) (option_map (λ (z : Named). z.1) (cond v (Some y) (find (λ (z : Named). same_name snap z.0) ys)))) [
              | true ↦ λ d. sym (ap (λ w. cond w (Some x) (Some y.1)) (elsewhere e d))
              | false ↦ λ d. under-insert_named snap name x ys
            ] refl
      ]
    ] refl
  where
    put_first : (zs : List Named) → under snap ((name, x) ∷ zs) ≡ cond (same_name snap name) (Some x) (under snap zs)
    put_first zs = elim (same_name snap name) as (λ t. option_map (λ (z : Named). z.1) (cond t (Some (name, x)) (find (λ (z : Named). same_name snap z.0) zs)) ≡ cond t (Some x) (under snap zs)) [ true ↦ refl | false ↦ refl ]

    replaced : same_name name y.0 ≡ true → under snap ((name, x) ∷ ys) ≡ cond (same_name snap name) (Some x) (under snap (y ∷ ys))
    replaced e = put_first ys ∙ elim (same_name snap name) as (λ t. same_name snap name ≡ t → cond t (Some x) (under snap ys) ≡ cond t (Some x) (under snap (y ∷ ys))) [
      | true ↦ λ d. refl
      | false ↦ λ d. sym (ap (λ w. option_map (λ (z : Named). z.1) (cond w (Some y) (find (λ (z : Named). same_name snap z.0) ys))) (subst (λ n. same_name snap n ≡ false) (same_name_is name y.0 e) d))
    ] refl

    elsewhere : same_name name y.0 ≡ false → same_name snap y.0 ≡ true → same_name snap name ≡ false
    elsewhere e d = elim (same_name snap name) as (λ t. same_name snap name ≡ t → t ≡ false) [
      | true ↦ λ f. absurd (true≢false (sym (subst (λ n. same_name n y.0 ≡ true) (same_name_is snap name f) d) ∙ e))
      | false ↦ λ f. refl
    ] refl

under-without_named : (snap name : Name) (ys : List Named) → under snap (without_named name ys) ≡ cond (same_name name snap) None (under snap ys)
under-without_named snap name [] = elim (same_name name snap) as (λ t. ◌≡◌ {A = Option Snapshot} None (cond t None None)) [ true ↦ refl | false ↦ refl ]
under-without_named snap name (y ∷ ys) =
    elim (same_name name y.0) as (λ t. same_name name y.0 ≡ t → under snap (cond (not t) (y ∷ without_named name ys) (without_named name ys)) ≡ cond (same_name name snap) None (under snap (y ∷ ys))) [
      | true ↦ λ e. under-without_named snap name ys ∙ elim (same_name name snap) as (λ u. same_name name snap ≡ u → cond u None (under snap ys) ≡ cond u None (under snap (y ∷ ys))) [
        | true ↦ λ d. refl
        | false ↦ λ d. sym (ap (λ w. option_map (λ (z : Named). z.1) (cond w (Some y) (find (λ (z : Named). same_name snap z.0) ys)))
            (same_name_sym snap y.0 ∙ subst (λ n. same_name n snap ≡ false) (same_name_is name y.0 e) d))
      ] refl
      | false ↦ λ e. elim (same_name snap y.0) as (λ v. same_name snap y.0 ≡ v
          → option_map (λ (z : Named). z.1) (cond v (Some y) (find (λ (z : Named). same_name snap z.0) (without_named name ys)))
          ≡ cond (same_name name snap) None (option_map (λ (z : Named). z.1) (cond v (Some y) (find (λ (z : Named). same_name snap z.0) ys)))) [
            | true ↦ λ d. sym (ap (λ w. cond w None (Some y.1)) (subst (λ n. same_name name n ≡ false) (sym (same_name_is snap y.0 d)) e))
            | false ↦ λ d. under-without_named snap name ys
          ] refl
    ] refl

-- ---- all histories

symbols_listed : (h : History) (symbol : Name) → list_any (same_name symbol) (symbols_of h) ≡ (state_of h symbol).has_reference
symbols_listed [] symbol = refl
symbols_listed (events.Refer c s was entry list ∷ h) symbol =
    any-insert_name symbol s (symbols_of h)
    ∙ (ap (λ b. b || list_any (same_name symbol) (symbols_of h)) (same_name_sym symbol s)
    ∙ elim (same_name s symbol) as (λ t. (t || list_any (same_name symbol) (symbols_of h)) ≡ (cond t (after_changes (state_of h symbol) list) (state_of h symbol)).has_reference) [
      | true ↦ refl
      | false ↦ symbols_listed h symbol
    ])
symbols_listed (events.Put c key body ∷ h) symbol = symbols_listed h symbol
symbols_listed (events.Name c snap body ∷ h) symbol = symbols_listed h symbol
symbols_listed (events.Unname c snap ∷ h) symbol = symbols_listed h symbol
symbols_listed (events.Drop c key ∷ h) symbol = symbols_listed h symbol

symbols_do_rise : (h : History) → NamesRise (symbols_of h)
symbols_do_rise [] = tt
symbols_do_rise (events.Refer c s was entry list ∷ h) = rise-insert_name s (symbols_of h) (symbols_do_rise h)
symbols_do_rise (events.Put c key body ∷ h) = symbols_do_rise h
symbols_do_rise (events.Name c snap body ∷ h) = symbols_do_rise h
symbols_do_rise (events.Unname c snap ∷ h) = symbols_do_rise h
symbols_do_rise (events.Drop c key ∷ h) = symbols_do_rise h

-- a name over a body
under-with_snapshot : (snap name : Name) (body : Option SnapBody) (ys : List Named) → under snap (with_snapshot name body ys) ≡ cond (same_name name snap) (option_map snapshot_from body) (under snap ys)
under-with_snapshot snap name None ys = under-without_named snap name ys
under-with_snapshot snap name (Some s) ys = under-insert_named snap name (snapshot_from s) ys ∙ ap (λ b. cond b (Some (snapshot_from s)) (under snap ys)) (same_name_sym snap name)

names-with_snapshot : (name : Name) (body : Option SnapBody) (ys : List Named) → NamesRise (names ys) → NamesRise (names (with_snapshot name body ys))
names-with_snapshot name None ys rise = subst NamesRise (sym (names-without_named name ys)) (rise-filter (λ n. not (same_name name n)) (names ys) rise)
names-with_snapshot name (Some s) ys rise = subst NamesRise (sym (names-insert_named name (snapshot_from s) ys)) (rise-insert_name name (names ys) rise)

snapshots_listed : (h : History) (snap : Name) → under snap (snapshots_of h) ≡ option_map snapshot_from (snap_body h snap)
snapshots_listed [] snap = refl
snapshots_listed (events.Name c name body ∷ h) snap =
    under-with_snapshot snap name (read_of (snap_of body)) (snapshots_of h)
    ∙ elim (same_name name snap) as (λ t. cond t (option_map snapshot_from (read_of (snap_of body))) (under snap (snapshots_of h)) ≡ option_map snapshot_from (cond t (read_of (snap_of body)) (snap_body h snap))) [
      | true ↦ refl
      | false ↦ snapshots_listed h snap
    ]
snapshots_listed (events.Unname c name ∷ h) snap =
    under-without_named snap name (snapshots_of h)
    ∙ elim (same_name name snap) as (λ t. cond t None (under snap (snapshots_of h)) ≡ option_map snapshot_from (cond t None (snap_body h snap))) [
      | true ↦ refl
      | false ↦ snapshots_listed h snap
    ]
snapshots_listed (events.Put c key body ∷ h) snap = snapshots_listed h snap
snapshots_listed (events.Refer c s was entry list ∷ h) snap = snapshots_listed h snap
snapshots_listed (events.Drop c key ∷ h) snap = snapshots_listed h snap

snapshots_do_rise : (h : History) → NamesRise (names_standing h)
snapshots_do_rise [] = tt
snapshots_do_rise (events.Name c name body ∷ h) = names-with_snapshot name (read_of (snap_of body)) (snapshots_of h) (snapshots_do_rise h)
snapshots_do_rise (events.Unname c name ∷ h) = subst NamesRise (sym (names-without_named name (snapshots_of h))) (rise-filter (λ n. not (same_name name n)) (names_standing h) (snapshots_do_rise h))
snapshots_do_rise (events.Put c key body ∷ h) = snapshots_do_rise h
snapshots_do_rise (events.Refer c s was entry list ∷ h) = snapshots_do_rise h
snapshots_do_rise (events.Drop c key ∷ h) = snapshots_do_rise h

pub lists_agree : AllListsAgree
lists_agree h = record { symbols = symbols_listed h; snapshots = snapshots_listed h; symbols_rise = symbols_do_rise h; snapshots_rise = snapshots_do_rise h }
