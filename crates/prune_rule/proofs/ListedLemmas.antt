-- What a list of stored keys has.
use Rattle.std.proofs.Common.{◌≡◌, Bool, true, false, ◌||◌, ◌&&◌, not, List, [], ◌∷◌, refl, ap, sym, ◌∙◌, subst, cond, nat_eq, length, arith, Option, Some, None}
use Rattle.std.proofs.lemmas.Bool.{eqb-true}
use Rattle.std.specs.Prelude.{filter, is_some}
use Rattle.std.specs.List.{list_any}
use Rattle.key_kind.specs.declared.key.KeyKind.TheVariants as kinds
use Rattle.key_kind.specs.declared.key.Key.{Key}
use Rattle.key_kind.specs.Names.{Name, same_name}
use Rattle.key_kind.specs.Keys.{same_key, same_kind, key_before}
use Rattle.key_kind.proofs.KeyTests.{same_key_is}
use Rattle.bucket_core.specs.declared.event.PieceName.{PieceName}
use Rattle.bucket_core.specs.History.{History, Bytes, stored, stored_keys, insert_key, without_key, key_of, body_of}
use Rattle.bucket_core.specs.Calls.{keys_that_match, matches}
use Rattle.store_model.specs.Library.{same_piece}
use Rattle.prune_rule.specs.DeadKeys.{has_key, piece_name, NotesPieces, NotesStaged}

-- the key is among these
abbrev among : Key → List Key → Bool
among key = list_any (λ k. same_key k key)

twice : (a b : Bool) → (a || b) ≡ (a || (a || b))
twice true b = refl
twice false b = refl

swap : (a b c : Bool) → (a || (b || c)) ≡ (b || (a || c))
swap true true c = refl
swap true false c = refl
swap false true c = refl
swap false false c = refl

insert_has : (k : Key) (keys : List Key) (key : Key) → among key (insert_key k keys) ≡ (same_key k key || among key keys)
insert_has k [] key = refl
insert_has k (x ∷ keys) key =
    elim (same_key k x) as (λ b. same_key k x ≡ b → among key (cond b (x ∷ keys) (cond (key_before k x) (k ∷ x ∷ keys) (x ∷ insert_key k keys))) ≡ (same_key k key || (same_key x key || among key keys))) [
      | true ↦ λ e. subst (λ z. (same_key x key || among key keys) ≡ (same_key z key || (same_key x key || among key keys))) (sym (same_key_is k x e)) (twice (same_key x key) (among key keys))
      | false ↦ λ e. elim (key_before k x) as (λ c. among key (cond c (k ∷ x ∷ keys) (x ∷ insert_key k keys)) ≡ (same_key k key || (same_key x key || among key keys))) [
        | true ↦ refl
        | false ↦ ap (λ b. same_key x key || b) (insert_has k keys key) ∙ swap (same_key x key) (same_key k key) (among key keys)
      ]
    ] refl

without_has : (k : Key) (keys : List Key) (key : Key) → among key (without_key k keys) ≡ (not (same_key k key) && among key keys)
without_has k [] key = none (not (same_key k key))
  where
    none : (b : Bool) → false ≡ (b && false)
    none true = refl
    none false = refl
without_has k (x ∷ keys) key =
    elim (same_key k x) as (λ b. same_key k x ≡ b → among key (cond (not b) (x ∷ without_key k keys) (without_key k keys)) ≡ (not (same_key k key) && (same_key x key || among key keys))) [
      | true ↦ λ e. without_has k keys key ∙ subst (λ z. (not (same_key k key) && among key keys) ≡ (not (same_key k key) && (same_key z key || among key keys))) (same_key_is k x e) (gone (same_key k key) (among key keys))
      | false ↦ λ e. ap (λ b. same_key x key || b) (without_has k keys key) ∙ kept e
    ] refl
  where
    gone : (a b : Bool) → (not a && b) ≡ (not a && (a || b))
    gone true b = refl
    gone false b = refl

    kept : same_key k x ≡ false → (same_key x key || (not (same_key k key) && among key keys)) ≡ (not (same_key k key) && (same_key x key || among key keys))
    kept e = elim (same_key x key) as (λ b. same_key x key ≡ b → (b || (not (same_key k key) && among key keys)) ≡ (not (same_key k key) && (b || among key keys))) [
      | true ↦ λ f. ap (λ b. not b && true) (sym (subst (λ z. same_key k z ≡ false) (same_key_is x key f) e))
      | false ↦ λ f. refl
    ] refl

-- a key is listed exactly where something is stored under it
stored_listed : (h : History) (key : Key) → among key (stored_keys h) ≡ is_some (stored h key)
stored_listed [] key = refl
stored_listed (e ∷ h) key = by (stored_listed h key) (body_of e) refl
  where
    by : among key (stored_keys h) ≡ is_some (stored h key) → (o : Option Bytes) → body_of e ≡ o → among key (cond (is_some (body_of e)) (insert_key (key_of e) (stored_keys h)) (without_key (key_of e) (stored_keys h))) ≡ is_some (cond (same_key (key_of e) key) (body_of e) (stored h key))
    by before (Some body) is = subst (λ o. among key (cond (is_some o) (insert_key (key_of e) (stored_keys h)) (without_key (key_of e) (stored_keys h))) ≡ is_some (cond (same_key (key_of e) key) o (stored h key))) (sym is)
        (insert_has (key_of e) (stored_keys h) key ∙ elim (same_key (key_of e) key) as (λ b. (b || among key (stored_keys h)) ≡ is_some (cond b (Some body) (stored h key))) [ true ↦ refl | false ↦ before ])
    by before None is = subst (λ o. among key (cond (is_some o) (insert_key (key_of e) (stored_keys h)) (without_key (key_of e) (stored_keys h))) ≡ is_some (cond (same_key (key_of e) key) o (stored h key))) (sym is)
        (without_has (key_of e) (stored_keys h) key ∙ elim (same_key (key_of e) key) as (λ b. (not b && among key (stored_keys h)) ≡ is_some (cond b None (stored h key))) [ true ↦ refl | false ↦ before ])

-- of a filtered list
filter_has : (p : Key → Bool) (keys : List Key) (key : Key) → among key (filter p keys) ≡ (among key keys && p key)
filter_has p [] key = refl
filter_has p (x ∷ keys) key =
    elim (p x) as (λ b. p x ≡ b → among key (cond b (x ∷ filter p keys) (filter p keys)) ≡ ((same_key x key || among key keys) && p key)) [
      | true ↦ λ e. ap (λ b. same_key x key || b) (filter_has p keys key) ∙ elim (same_key x key) as (λ b. same_key x key ≡ b → (b || (among key keys && p key)) ≡ ((b || among key keys) && p key)) [
        | true ↦ λ f. sym (subst (λ z. p z ≡ true) (same_key_is x key f) e)
        | false ↦ λ f. refl
      ] refl
      | false ↦ λ e. filter_has p keys key ∙ elim (same_key x key) as (λ b. same_key x key ≡ b → (among key keys && p key) ≡ ((b || among key keys) && p key)) [
        | true ↦ λ f. ap (λ b. among key keys && b) (subst (λ z. p z ≡ false) (same_key_is x key f) e) ∙ (no (among key keys) ∙ sym (subst (λ z. p z ≡ false) (same_key_is x key f) e))
        | false ↦ λ f. refl
      ] refl
    ] refl
  where
    no : (b : Bool) → (b && false) ≡ false
    no true = refl
    no false = refl

-- the notes of a list of staged keys are those of what is stored
pub staged_noted : (h : History) (symbol : Name) (listed : List Key) (consumed : List PieceName) (old new : _) → listed ≡ keys_that_match h (Some kinds.Staged) (Some symbol) → NotesPieces listed consumed old new → NotesStaged h symbol consumed old new
staged_noted h symbol listed consumed old new is notes other =
    notes other ∙ ap (λ b. has_key old other || (b && list_any (same_piece (piece_name other)) consumed))
    (ap (among other) is ∙ (filter_has (matches (Some kinds.Staged) (Some symbol)) (stored_keys h) other ∙ ap (λ b. b && (same_kind other.kind kinds.Staged && same_name other.name symbol)) (stored_listed h other)))

-- where nothing is consumed there is none to note
pub none_noted : (h : History) (symbol : Name) (consumed : List PieceName) (keys : _) → consumed ≡ [] → NotesStaged h symbol consumed keys keys
none_noted h symbol consumed keys none other =
    no_more (has_key keys other) (is_some (stored h other) && (same_kind other.kind kinds.Staged && same_name other.name symbol))
    ∙ ap (λ l. has_key keys other || ((is_some (stored h other) && (same_kind other.kind kinds.Staged && same_name other.name symbol)) && list_any (same_piece (piece_name other)) l)) (sym none)
  where
    no_more : (a x : Bool) → a ≡ (a || (x && false))
    no_more true x = refl
    no_more false true = refl
    no_more false false = refl

-- a slice of which the test says that it has no items
pub no_items : {X : Type 0} (xs : List X) (b : Bool) → b ≡ nat_eq (length xs) 0 → b ≡ true → xs ≡ []
no_items [] b is on = refl
no_items (x ∷ xs) b is on = let none = eqb-true (length (x ∷ xs)) 0 (sym is ∙ on) in absurd (omega (arith, none))
