-- Sets that grow, element by element, and the looks of a reclaim.
use Rattle.std.proofs.Common.{◌≡◌, ℕ, ◌≤◌, Bool, true, false, ◌||◌, ◌&&◌, not, List, [], ◌∷◌, ◌++◌, map, length, refl, ap, sym, ◌∙◌, subst, arith, cond, nat_eq, Some, Ok}
use Rattle.std.specs.Prelude.{filter, reverse, is_some, option_and_then}
use Rattle.std.specs.List.{list_any}
use Rattle.std.specs.BTreeSet.{BTreeSet}
use Rattle.std.specs.Ordering.{nat_cmp, is_eq, ordering_then}
use Rattle.std.specs.Cmp.{both_tied, unsigned_ties}
use Rattle.std.proofs.lemmas.Bool.{eq-eqb, eqb-true}
use Rattle.std.proofs.lemmas.List.Folds.{list_any-append}
use Rattle.std.proofs.lemmas.List.{reverse-append}
use Rattle.std.proofs.lemmas.List.Elements.{filter-append}
use Rattle.frame_core.specs.declared.refusal.Refusal.TheVariants as refusals
use Rattle.frame_core.specs.declared.refusal.Refused.{Refused}
use Rattle.byte_fields.specs.Reading.{read_of}
use Rattle.index_tree.specs.declared.index.Slot.{Slot}
use Rattle.index_tree.specs.declared.index.Index.{Index}
use Rattle.index_tree.specs.IndexText.{index_of}
use Rattle.key_kind.specs.declared.key.KeyKind.TheVariants as kinds
use Rattle.key_kind.specs.declared.key.Key.{Key}
use Rattle.key_kind.specs.Keys.{is_put, same_key, key_cmp}
use Rattle.key_kind.specs.KeyOrder.{same_key_ties}
use Rattle.key_kind.proofs.KeyTests.{same_key_is}
use Rattle.bucket_core.specs.declared.event.PieceName.{PieceName}
use Rattle.bucket_core.specs.declared.answer.StoreErr.{StoreErr}
use Rattle.bucket_core.specs.declared.answer.StoreErr.TheVariants as errs
use Rattle.bucket_core.specs.Calls.{RefusesLook}
use Rattle.bucket_core.specs.History.{History, Bytes, stored}
use Rattle.bucket_core.specs.Laws.{Looks}
use Rattle.store_model.specs.declared.chain.LinkRow.{LinkRow}
use Rattle.store_model.specs.Law.{IsClaimed}
use Rattle.store_model.specs.Library.{same_piece}
use Rattle.store_model.specs.PlainLinks.{flat_put}
use Rattle.store_model.proofs.Histories.{stands_was_put}
use Rattle.version_chain.specs.States.{RefusesWalk}
use Rattle.version_chain.specs.Stops.{refused_by}
use Rattle.version_chain.proofs.TraceLemmas.{append_assoc}
use Rattle.version_chain.proofs.Walked.{looks_length}
use Rattle.prune_rule.proofs.TurnLemmas.{append_none}
use Rattle.prune_rule.specs.declared.parting.Rows.{Rows}
use Rattle.prune_rule.specs.DeadKeys.{has_key, reached_keys, keeps_in, PartsFrom}

-- ---- one key more

-- the note of a key, as a test
key_noted : (key other : Key) (old : Bool) → cond (is_eq (key_cmp key other)) true old ≡ (same_key key other || old)
key_noted key other old = ap (λ (b : Bool). cond b true old) (sym (same_key_ties key other)) ∙ or_is (same_key key other)
  where
    or_is : (b : Bool) → cond b true old ≡ (b || old)
    or_is true = refl
    or_is false = refl

swapped : (a b : Bool) → (a || b) ≡ (b || a)
swapped true true = refl
swapped true false = refl
swapped false true = refl
swapped false false = refl

-- a key is put into a set
pub key_added : (old new : BTreeSet Key) (key : Key) → ((other : Key) → has_key new other ≡ cond (is_eq (key_cmp key other)) true (has_key old other)) → (other : Key) → has_key new other ≡ (has_key old other || same_key key other)
key_added old new key noted other = noted other ∙ (key_noted key other (has_key old other) ∙ swapped (same_key key other) (has_key old other))

-- unless another set has it
pub kept_already : (keys kept : BTreeSet Key) (key : Key) → has_key kept key ≡ true → (other : Key) → has_key keys other ≡ (has_key keys other || (same_key key other && not (has_key kept other)))
kept_already keys kept key has other =
    elim (same_key key other) as (λ b. same_key key other ≡ b → has_key keys other ≡ (has_key keys other || (b && not (has_key kept other)))) [
      | true ↦ λ e. no_more (has_key keys other) ∙ ap (λ b. has_key keys other || not b) (sym (subst (λ k. has_key kept k ≡ true) (same_key_is key other e) has))
      | false ↦ λ e. no_more (has_key keys other)
    ] refl
  where
    no_more : (b : Bool) → b ≡ (b || false)
    no_more true = refl
    no_more false = refl

pub key_noted_unless : (old new kept : BTreeSet Key) (key : Key) → has_key kept key ≡ false → ((other : Key) → has_key new other ≡ cond (is_eq (key_cmp key other)) true (has_key old other))
    → (other : Key) → has_key new other ≡ (has_key old other || (same_key key other && not (has_key kept other)))
key_noted_unless old new kept key lacks noted other =
    key_added old new key noted other ∙ elim (same_key key other) as (λ b. same_key key other ≡ b → (has_key old other || b) ≡ (has_key old other || (b && not (has_key kept other)))) [
      | true ↦ λ e. ap (λ b. has_key old other || not b) (sym (subst (λ k. has_key kept k ≡ false) (same_key_is key other e) lacks))
      | false ↦ λ e. refl
    ] refl

-- an empty set has none
pub empty_lacks : (set : BTreeSet Key) → set.keys ≡ [] → (key : Key) → has_key set key ≡ false
empty_lacks set none key = ap (list_any (λ (k : Key). is_eq (key_cmp key k))) none

-- ---- numbers and pieces

same_number : (a b : ℕ) → nat_eq a b ≡ nat_eq b a
same_number a b = both (nat_eq a b) (nat_eq b a) (λ e. eq-eqb b a (sym (eqb-true a b e))) (λ e. eq-eqb a b (sym (eqb-true b a e)))
  where
    both : (a b : Bool) → (a ≡ true → b ≡ true) → (b ≡ true → a ≡ true) → a ≡ b
    both true b f g = sym (f refl)
    both false true f g = g refl
    both false false f g = refl

as_or : (b old : Bool) → cond b true old ≡ (b || old)
as_or true old = refl
as_or false old = refl

pub number_noted : (number n : ℕ) (old : Bool) → cond (is_eq (nat_cmp number n)) true old ≡ (nat_eq n number || old)
number_noted number n old = ap (λ (b : Bool). cond b true old) (sym (unsigned_ties number n) ∙ same_number number n) ∙ as_or (nat_eq n number) old

pub piece_noted : (piece name : PieceName) (old : Bool) → cond (is_eq (ordering_then (nat_cmp piece.client name.client) (nat_cmp piece.serial name.serial))) true old ≡ (same_piece name piece || old)
piece_noted piece name old =
    ap (λ (b : Bool). cond b true old) (sym (both_tied _ _ (nat_cmp piece.client name.client) (nat_cmp piece.serial name.serial) (unsigned_ties piece.client name.client) (unsigned_ties piece.serial name.serial))
    ∙ (λ i. same_number piece.client name.client i && same_number piece.serial name.serial i)) ∙ as_or (same_piece name piece) old

-- ---- several keys

map_slot : (slots : List Slot) (slot : Slot) → map (λ (s : Slot). s.key) (slots ++ slot ∷ []) ≡ map (λ (s : Slot). s.key) slots ++ slot.key ∷ []
map_slot [] slot = refl
map_slot (s ∷ slots) slot = ap (λ l. s.key ∷ l) (map_slot slots slot)

-- what is in the set, and what is left to note
abbrev pub noting : BTreeSet Key → BTreeSet Key → List Slot → Key → Bool
noting keys kept slots other = has_key keys other || (list_any (λ k. same_key k other) (map (λ (s : Slot). s.key) slots) && not (has_key kept other))

pub noting_first : (old keys kept : BTreeSet Key) (key : Key) (index : Index) (slots : List Slot) → slots ≡ index.slots → ((other : Key) → has_key keys other ≡ (has_key old other || (same_key key other && not (has_key kept other))))
    → (other : Key) → noting keys kept slots other ≡ (has_key old other || (list_any (λ k. same_key k other) (reached_keys key index) && not (has_key kept other)))
noting_first old keys kept key index slots is noted other =
    ap (λ ss. noting keys kept ss other) is
    ∙ (ap (λ b. b || (list_any (λ k. same_key k other) (map (λ (s : Slot). s.key) index.slots) && not (has_key kept other))) (noted other)
    ∙ spread (has_key old other) (same_key key other) (list_any (λ k. same_key k other) (map (λ (s : Slot). s.key) index.slots)) (not (has_key kept other)))
  where
    spread : (a s x n : Bool) → ((a || (s && n)) || (x && n)) ≡ (a || ((s || x) && n))
    spread true s x n = refl
    spread false true true true = refl
    spread false true true false = refl
    spread false true false true = refl
    spread false true false false = refl
    spread false false x n = refl

pub noting_next : (old keys kept : BTreeSet Key) (slots rest : List Slot) (slot : Slot) → slots ≡ rest ++ slot ∷ [] → ((other : Key) → has_key keys other ≡ (has_key old other || (same_key slot.key other && not (has_key kept other))))
    → (other : Key) → noting keys kept rest other ≡ noting old kept slots other
noting_next old keys kept slots rest slot is noted other =
    ap (λ b. b || (list_any (λ k. same_key k other) (map (λ (s : Slot). s.key) rest) && not (has_key kept other))) (noted other)
    ∙ (spread (has_key old other) (same_key slot.key other) (list_any (λ k. same_key k other) (map (λ (s : Slot). s.key) rest)) (not (has_key kept other))
    ∙ ap (λ b. has_key old other || (b && not (has_key kept other))) (sym (ap (λ l. list_any (λ k. same_key k other) l) (ap (map (λ (s : Slot). s.key)) is ∙ map_slot rest slot)
    ∙ list_any-append (λ k. same_key k other) (map (λ (s : Slot). s.key) rest) (slot.key ∷ []))))
  where
    spread : (a s x n : Bool) → ((a || (s && n)) || (x && n)) ≡ (a || ((x || (s || false)) && n))
    spread true s x n = refl
    spread false true true true = refl
    spread false true true false = refl
    spread false true false true = refl
    spread false true false false = refl
    spread false false true true = refl
    spread false false true false = refl
    spread false false false n = refl

pub noting_last : (keys kept : BTreeSet Key) (slots : List Slot) (other : Key) → slots ≡ [] → noting keys kept slots other ≡ has_key keys other
noting_last keys kept slots other none = ap (λ ss. noting keys kept ss other) none ∙ no_more (has_key keys other)
  where
    no_more : (b : Bool) → (b || false) ≡ b
    no_more true = refl
    no_more false = refl

-- ---- looks

-- the refusal of a look
pub look_refused : (client : ℕ) (sole : Bool) (before now : ℕ) (old new : History) (place : ℕ) (refused : Refused) (err : StoreErr) → place ≡ length old → refused ≡ refused_by place err → Looks IsClaimed client sole old new → RefusesLook before now err → RefusesWalk before now old new refused
look_refused client sole before now old new place refused err at is g r = subst (RefusesWalk before now old new) (sym is) (by err r)
  where
    long : length old ≤ length new
    long = looks_length client sole old new g

    by : (err : StoreErr) → RefusesLook before now err → RefusesWalk before now old new (refused_by place err)
    by errs.Fault r = record { why = r; place = record { from = omega (arith, at); to = omega (arith, at, long) } }
    by errs.NoMemory r = record { why = tt; place = record { from = omega (arith, at); to = omega (arith, at, long) } }
    by (errs.Spent count) r = absurd r
    by (errs.Moved count) r = absurd r
    by (errs.Taken count) r = absurd r
    by (errs.Missing count) r = absurd r

-- want of memory behind looks
pub want_refused : (client : ℕ) (sole : Bool) (before now : ℕ) (old new : History) (place : ℕ) (refused : Refused) → place ≡ length new → refused ≡ record { place = place; why = refusals.NoMemory } → Looks IsClaimed client sole old new → RefusesWalk before now old new refused
want_refused client sole before now old new place refused at is g =
    let long = looks_length client sole old new g in
    subst (RefusesWalk before now old new) (sym is) (record { why = tt; place = record { from = omega (arith, at, long); to = omega (arith, at) } })

-- what stands under the key of an index was put there
pub index_found : (h : History) (key : Key) (body : Bytes) (index : Index) → key.kind ≡ kinds.TableIndex → stored h key ≡ Some body → index_of body ≡ Ok index → (is_some (stored h key) ≡ true) × (flat_put h key ≡ Some index)
index_found h key body index kind stands spelled = (
  ap is_some stands,
  ap (option_and_then (λ b. read_of (index_of b))) (stands_was_put h key body (ap is_put kind) stands) ∙ ap read_of spelled,
)

-- ---- rows

-- a row of its kind
pub parts_kept : (tombs held : BTreeSet ℕ) (row : LinkRow) (old new : Rows) → keeps_in tombs held row ≡ true → new.kept ≡ old.kept ++ row ∷ [] → new.dead ≡ old.dead → PartsFrom tombs held row old new
parts_kept tombs held row old new on kept dead = record {
  kept = kept ∙ ap (λ b. old.kept ++ cond b (row ∷ []) []) (sym on);
  dead = dead ∙ (sym (append_none old.dead) ∙ ap (λ b. old.dead ++ cond (not b) (row ∷ []) []) (sym on));
}

pub parts_dead : (tombs held : BTreeSet ℕ) (row : LinkRow) (old new : Rows) → keeps_in tombs held row ≡ false → new.kept ≡ old.kept → new.dead ≡ old.dead ++ row ∷ [] → PartsFrom tombs held row old new
parts_dead tombs held row old new off kept dead = record {
  kept = kept ∙ (sym (append_none old.kept) ∙ ap (λ b. old.kept ++ cond b (row ∷ []) []) (sym off));
  dead = dead ∙ ap (λ b. old.dead ++ cond (not b) (row ∷ []) []) (sym off);
}

-- rows of one kind so far, and those that are left
pub parted_more : (p : LinkRow → Bool) (before after rest left total : List LinkRow) (row : LinkRow) → after ≡ before ++ filter p (row ∷ []) → rest ≡ left ++ row ∷ [] → before ++ filter p (reverse rest) ≡ total → after ++ filter p (reverse left) ≡ total
parted_more p before after rest left total row added back is =
    ap (λ l. l ++ filter p (reverse left)) added
    ∙ (append_assoc before (filter p (row ∷ [])) (filter p (reverse left))
    ∙ (ap (λ l. before ++ l) (sym (filter-append p (row ∷ []) (reverse left)) ∙ ap (filter p) (sym (ap reverse back ∙ reverse-append left (row ∷ [])))) ∙ is))

filter_same : (p q : LinkRow → Bool) → ((row : LinkRow) → p row ≡ q row) → (rows : List LinkRow) → filter p rows ≡ filter q rows
filter_same p q same [] = refl
filter_same p q same (row ∷ rows) = (λ i. cond (same row i) (row ∷ filter_same p q same rows i) (filter_same p q same rows i))

pub parted_end : (p q : LinkRow → Bool) → ((row : LinkRow) → p row ≡ q row) → (rows rest links : List LinkRow) → rest ≡ [] → rows ++ filter p (reverse rest) ≡ filter p (reverse links) → rows ≡ filter q (reverse links)
parted_end p q same rows rest links none is =
    sym (append_none rows) ∙ (ap (λ l. rows ++ filter p (reverse l)) (sym none) ∙ (is ∙ filter_same p q same (reverse links)))

-- ---- pieces

pub piece_added : (old new : BTreeSet Key) (key : Key) (test : Key → Bool) → test key ≡ true → ((other : Key) → has_key new other ≡ cond (is_eq (key_cmp key other)) true (has_key old other)) → (other : Key) → has_key new other ≡ (has_key old other || (same_key key other && test other))
piece_added old new key test on noted other =
    key_added old new key noted other ∙ elim (same_key key other) as (λ b. same_key key other ≡ b → (has_key old other || b) ≡ (has_key old other || (b && test other))) [
      | true ↦ λ e. ap (λ b. has_key old other || b) (sym (subst (λ k. test k ≡ true) (same_key_is key other e) on))
      | false ↦ λ e. refl
    ] refl

pub piece_passed : (keys : BTreeSet Key) (key : Key) (test : Key → Bool) → test key ≡ false → (other : Key) → has_key keys other ≡ (has_key keys other || (same_key key other && test other))
piece_passed keys key test off other =
    elim (same_key key other) as (λ b. same_key key other ≡ b → has_key keys other ≡ (has_key keys other || (b && test other))) [
      | true ↦ λ e. no_more (has_key keys other) ∙ ap (λ b. has_key keys other || b) (sym (subst (λ k. test k ≡ false) (same_key_is key other e) off))
      | false ↦ λ e. no_more (has_key keys other)
    ] refl
  where
    no_more : (b : Bool) → b ≡ (b || false)
    no_more true = refl
    no_more false = refl

pub pieces_next : (old new : BTreeSet Key) (test : Key → Bool) (rest left : List Key) (key : Key) → rest ≡ left ++ key ∷ [] → ((other : Key) → has_key new other ≡ (has_key old other || (same_key key other && test other)))
    → (other : Key) → (has_key new other || (list_any (λ k. same_key k other) left && test other)) ≡ (has_key old other || (list_any (λ k. same_key k other) rest && test other))
pieces_next old new test rest left key back noted other =
    ap (λ b. b || (list_any (λ k. same_key k other) left && test other)) (noted other)
    ∙ (spread (has_key old other) (same_key key other) (list_any (λ k. same_key k other) left) (test other)
    ∙ ap (λ b. has_key old other || (b && test other)) (sym (ap (list_any (λ k. same_key k other)) back ∙ list_any-append (λ k. same_key k other) left (key ∷ []))))
  where
    spread : (a s x n : Bool) → ((a || (s && n)) || (x && n)) ≡ (a || ((x || (s || false)) && n))
    spread true s x n = refl
    spread false true true true = refl
    spread false true true false = refl
    spread false true false true = refl
    spread false true false false = refl
    spread false false true true = refl
    spread false false true false = refl
    spread false false false n = refl

pub pieces_end : (keys : BTreeSet Key) (test : Key → Bool) (rest : List Key) (other : Key) → rest ≡ [] → (has_key keys other || (list_any (λ k. same_key k other) rest && test other)) ≡ has_key keys other
pieces_end keys test rest other none = ap (λ l. has_key keys other || (list_any (λ k. same_key k other) l && test other)) none ∙ no_more (has_key keys other)
  where
    no_more : (b : Bool) → (b || false) ≡ b
    no_more true = refl
    no_more false = refl
