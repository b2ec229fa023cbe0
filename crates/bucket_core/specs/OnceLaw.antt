-- A law for tests: it claims of a Refer that its entry was no entry of the symbol before, and of other events nothing.
--     once_claimed         what it claims
--     once_claims_stay, once_tests_tell, once_moves_on      what it shows of its claims
use Rattle.std.specs.Prelude.{◌≡◌, ◌≢◌, ℕ, Bool, true, false, cond, ◌&&◌, ◌||◌, List, [], ◌∷◌, ◌++◌, Option, Some, None, ⊤, refl, is_some}
use Rattle.std.specs.Option.{unwrap_or}
use Rattle.std.specs.List.{list_any}
use Rattle.std.proofs.Common.{sym, ap, ◌∙◌, subst}
use Rattle.std.proofs.lemmas.Bool.{true≢false}
use Rattle.key_kind.specs.declared.key.Key.{Key}
use Rattle.key_kind.specs.Names.{Name, same_name}
use Rattle.key_kind.specs.Keys.{same_key}
use Rattle.key_kind.proofs.KeyTests.{same_name_is, same_key_is, same_key_self}
use Rattle.bucket_core.specs.declared.event.Change.{Change}
use Rattle.bucket_core.specs.declared.event.Event.{Event}
use Rattle.bucket_core.specs.declared.event.Event.TheVariants as events
use Rattle.bucket_core.specs.History.{History, reference}
use Rattle.bucket_core.specs.Laws.{refers, IsLawful, ClaimsStay, TestsTell}
use Rattle.bucket_core.specs.Calls.{was_entry, HasMovedOn, MovesOn}

-- the entry of a Refer was no entry of the symbol before
abbrev pub once_claimed : History → Event → Type 0
once_claimed h (events.Put client key body) = ⊤
once_claimed h (events.Refer client symbol was entry list) = was_entry h symbol entry ≡ false
once_claimed h (events.Name client snap body) = ⊤
once_claimed h (events.Unname client snap) = ⊤
once_claimed h (events.Drop client key) = ⊤

-- a test that does not hold is false
is_false : (b : Bool) → (b ≡ true → ⊥) → b ≡ false
is_false true h = absurd (h refl)
is_false false h = refl

-- the second of two holds
second : (a b : Bool) → b ≡ true → (a || b) ≡ true
second true b h = refl
second false b h = h

-- neither of two holds
neither : (a b : Bool) → (a || b) ≡ false → (a ≡ false) × (b ≡ false)
neither true b h = absurd (true≢false h)
neither false b h = (refl, h)

-- an entry stays one
entry_stays : (h more : History) (symbol : Name) (key : Key) → was_entry h symbol key ≡ true → was_entry (more ++ h) symbol key ≡ true
entry_stays h [] symbol key is = is
entry_stays h (events.Put c k body ∷ more) symbol key is = entry_stays h more symbol key is
entry_stays h (events.Refer c s was entry list ∷ more) symbol key is = second (same_name s symbol && same_key entry key) (was_entry (more ++ h) symbol key) (entry_stays h more symbol key is)
entry_stays h (events.Name c snap body ∷ more) symbol key is = entry_stays h more symbol key is
entry_stays h (events.Unname c snap ∷ more) symbol key is = entry_stays h more symbol key is
entry_stays h (events.Drop c k ∷ more) symbol key is = entry_stays h more symbol key is

-- the reference is an entry
reference_was : (h : History) (symbol : Name) (key : Key) → reference h symbol ≡ Some key → was_entry h symbol key ≡ true
reference_was [] symbol key is = absurd (true≢false (sym (ap is_some is)))
reference_was (events.Put c k body ∷ h) symbol key is = reference_was h symbol key is
reference_was (events.Refer c s was entry list ∷ h) symbol key is = by (same_name s symbol) (reference_was h symbol key) is
  where
    by : (b : Bool) → (reference h symbol ≡ Some key → was_entry h symbol key ≡ true) → cond b (Some entry) (reference h symbol) ≡ Some key → ((b && same_key entry key) || was_entry h symbol key) ≡ true
    by true rest e =
        ap (λ t. t || was_entry h symbol key) (ap (λ (o : Option Key). same_key entry (unwrap_or o entry)) (sym e) ∙ same_key_self entry)
    by false rest e = rest e
reference_was (events.Name c snap body ∷ h) symbol key is = reference_was h symbol key is
reference_was (events.Unname c snap ∷ h) symbol key is = reference_was h symbol key is
reference_was (events.Drop c k ∷ h) symbol key is = reference_was h symbol key is

-- a new entry of the symbol is no earlier one
is_new : (h : History) (s symbol : Name) (entry key : Key) → was_entry h s entry ≡ false → same_name s symbol ≡ true → was_entry h symbol key ≡ true → Some entry ≡ Some key → ⊥
is_new h s symbol entry key fresh same is e =
    let keys : entry ≡ key = ap (λ (o : Option Key). unwrap_or o entry) e in
    true≢false (sym is ∙ (ap (λ (n : Name). was_entry h n key) (sym (same_name_is s symbol same)) ∙ (ap (was_entry h s) (sym keys) ∙ fresh)))

-- after a Refer of the symbol its reference has moved on from an earlier one
moved_by : (h : History) (c : ℕ) (s symbol : Name) (w was : Option Key) (entry : Key) (list : List Change) → was_entry h s entry ≡ false → same_name s symbol ≡ true → ((key : Key) → was ≡ Some key → was_entry h symbol key ≡ true) → HasMovedOn (events.Refer c s w entry list ∷ h) symbol was
moved_by h c s symbol w None entry list fresh same was_one =
    subst (λ b. cond b (Some entry) (reference h symbol) ≢ None) (sym same) (λ e. true≢false (ap is_some e))
moved_by h c s symbol w (Some key) entry list fresh same was_one = (
  subst (λ b. cond b (Some entry) (reference h symbol) ≢ Some key) (sym same) (is_new h s symbol entry key fresh same (was_one key refl)),
  second (same_name s symbol && same_key entry key) (was_entry h symbol key) (was_one key refl),
)

-- a Refer of another symbol changes nothing of this one
moved_beside : (h : History) (c : ℕ) (s symbol : Name) (w was : Option Key) (entry : Key) (list : List Change) → same_name s symbol ≡ false → HasMovedOn h symbol was → HasMovedOn (events.Refer c s w entry list ∷ h) symbol was
moved_beside h c s symbol w None entry list other moved = subst (λ b. cond b (Some entry) (reference h symbol) ≢ None) (sym other) moved
moved_beside h c s symbol w (Some key) entry list other moved = (
  subst (λ b. cond b (Some entry) (reference h symbol) ≢ Some key) (sym other) moved.0,
  second (same_name s symbol && same_key entry key) (was_entry h symbol key) moved.1,
)

-- an entry that the reference has moved on from
was_one : (h : History) (symbol : Name) (was : Option Key) → HasMovedOn h symbol was → (key : Key) → was ≡ Some key → was_entry h symbol key ≡ true
was_one h symbol None moved key e = absurd (true≢false (sym (ap is_some e)))
was_one h symbol (Some k) moved key e = ap (λ (o : Option Key). was_entry h symbol (unwrap_or o k)) (sym e) ∙ moved.1

-- a reference that has moved on does not come back with one event more
moves_one : (h : History) (e : Event) (symbol : Name) (was : Option Key) → once_claimed h e → HasMovedOn h symbol was → HasMovedOn (e ∷ h) symbol was
moves_one h (events.Put c k body) symbol None claim moved = moved
moves_one h (events.Put c k body) symbol (Some key) claim moved = moved
moves_one h (events.Refer c s w entry list) symbol was claim moved =
    elim (same_name s symbol) as (λ b. same_name s symbol ≡ b → HasMovedOn (events.Refer c s w entry list ∷ h) symbol was) [
      | true ↦ λ same. moved_by h c s symbol w was entry list claim same (was_one h symbol was moved)
      | false ↦ λ other. moved_beside h c s symbol w was entry list other moved
    ] refl
moves_one h (events.Name c snap body) symbol None claim moved = moved
moves_one h (events.Name c snap body) symbol (Some key) claim moved = moved
moves_one h (events.Unname c snap) symbol None claim moved = moved
moves_one h (events.Unname c snap) symbol (Some key) claim moved = moved
moves_one h (events.Drop c k) symbol None claim moved = moved
moves_one h (events.Drop c k) symbol (Some key) claim moved = moved

-- a reference that has moved on does not come back
pub once_moves_on : MovesOn once_claimed
once_moves_on h [] symbol was lawful moved = moved
once_moves_on h (e ∷ more) symbol was lawful moved = moves_one (more ++ h) e symbol was lawful.0.1 (once_moves_on h more symbol was lawful.1 moved)

-- where the symbol was referred, its reference has moved on
touched : (h more : History) (symbol : Name) (was : Option Key) → IsLawful once_claimed (more ++ h) → reference h symbol ≡ was → list_any (refers symbol) more ≡ true → HasMovedOn (more ++ h) symbol was
touched h [] symbol was lawful is any = absurd (true≢false (sym any))
touched h (events.Put c k body ∷ more) symbol was lawful is any = moves_one (more ++ h) (events.Put c k body) symbol was tt (touched h more symbol was lawful.1 is any)
touched h (events.Refer c s w entry list ∷ more) symbol was lawful is any =
    by (same_name s symbol) refl (touched h more symbol was lawful.1 is) any
  where
    by : (b : Bool) → same_name s symbol ≡ b → (list_any (refers symbol) more ≡ true → HasMovedOn (more ++ h) symbol was) → (b || list_any (refers symbol) more) ≡ true → HasMovedOn (events.Refer c s w entry list ∷ (more ++ h)) symbol was
    by true same rest some =
        moved_by (more ++ h) c s symbol w was entry list lawful.0.1 same (λ key e. entry_stays h more symbol key (reference_was h symbol key (is ∙ e)))
    by false other rest some = moved_beside (more ++ h) c s symbol w was entry list other (rest some)
touched h (events.Name c snap body ∷ more) symbol was lawful is any = moves_one (more ++ h) (events.Name c snap body) symbol was tt (touched h more symbol was lawful.1 is any)
touched h (events.Unname c snap ∷ more) symbol was lawful is any = moves_one (more ++ h) (events.Unname c snap) symbol was tt (touched h more symbol was lawful.1 is any)
touched h (events.Drop c k ∷ more) symbol was lawful is any = moves_one (more ++ h) (events.Drop c k) symbol was tt (touched h more symbol was lawful.1 is any)

-- a reference is not one that it has moved on from
not_back : (h : History) (symbol : Name) (was : Option Key) → HasMovedOn h symbol was → reference h symbol ≡ was → ⊥
not_back h symbol None moved is = moved is
not_back h symbol (Some key) moved is = moved.0 is

-- the store's test shows that the symbol was not referred
pub once_tests_tell : TestsTell once_claimed
once_tests_tell h more (events.Put c key body) lawful tested after = tt
once_tests_tell h more (events.Refer c symbol was entry list) lawful tested after =
    is_false (list_any (refers symbol) more) (λ any. not_back (more ++ h) symbol was (touched h more symbol was lawful tested any) after)
once_tests_tell h more (events.Name c snap body) lawful tested after = tt
once_tests_tell h more (events.Unname c snap) lawful tested after = tt
once_tests_tell h more (events.Drop c key) lawful tested after = tt

-- without a Refer of the symbol its entries are the same
entries_same : (h more : History) (symbol : Name) (key : Key) → list_any (refers symbol) more ≡ false → was_entry (more ++ h) symbol key ≡ was_entry h symbol key
entries_same h [] symbol key free = refl
entries_same h (events.Put c k body ∷ more) symbol key free = entries_same h more symbol key free
entries_same h (events.Refer c s was entry list ∷ more) symbol key free =
    let both = neither (same_name s symbol) (list_any (refers symbol) more) free in
    ap (λ b. (b && same_key entry key) || was_entry (more ++ h) symbol key) both.0 ∙ entries_same h more symbol key both.1
entries_same h (events.Name c snap body ∷ more) symbol key free = entries_same h more symbol key free
entries_same h (events.Unname c snap ∷ more) symbol key free = entries_same h more symbol key free
entries_same h (events.Drop c k ∷ more) symbol key free = entries_same h more symbol key free

-- what is claimed stays so
pub once_claims_stay : ClaimsStay once_claimed
once_claims_stay h more (events.Put c key body) lawful others free may = tt
once_claims_stay h more (events.Refer c symbol was entry list) lawful others free may = entries_same h more symbol entry free ∙ may
once_claims_stay h more (events.Name c snap body) lawful others free may = tt
once_claims_stay h more (events.Unname c snap) lawful others free may = tt
once_claims_stay h more (events.Drop c key) lawful others free may = tt
