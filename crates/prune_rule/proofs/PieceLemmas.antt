-- Consumed pieces were staged before, and a staged key with the name of one was put before.
use Rattle.std.proofs.Common.{◌≡◌, ℕ, ◌≤◌, ◌<◌, Bool, true, false, List, [], ◌∷◌, ◌++◌, refl, ap, sym, ◌∙◌, subst, inl, inr, arith, cond, Option, Some, None}
use Rattle.std.specs.Prelude.{◌⊎◌, fold, is_some, option_and_then}
use Rattle.std.specs.List.{list_any, AllByRecursion}
use Rattle.std.proofs.lemmas.Bool.{true≢false, or_cases}
use Rattle.std.proofs.lemmas.List.Folds.{list_any-append}
use denote.Struct.Props.{props}
use mathlib.Core.Logic.{∥∥₁_elim}
use Rattle.key_kind.specs.declared.key.Key.{Key}
use Rattle.key_kind.specs.Names.{Name, same_name}
use Rattle.key_kind.specs.Keys.{is_put, same_key}
use Rattle.key_kind.proofs.KeyTests.{same_key_is, same_name_is}
use Rattle.bucket_core.specs.declared.event.PieceName.{PieceName}
use Rattle.bucket_core.specs.declared.event.Change.{Change}
use Rattle.bucket_core.specs.declared.event.Change.TheVariants as changes
use Rattle.bucket_core.specs.declared.event.Event.TheVariants as events
use Rattle.bucket_core.specs.History.{History, Bytes, stored, body_put, puts_by}
use Rattle.store_model.specs.Library.{State, Piece, state_of, after_change, after_changes, is_consumed, same_piece, staged_key, piece_staged}
use Rattle.byte_fields.specs.Reading.{read_of}
use Rattle.segment_bytes.specs.Segments.{segment_of}
use Rattle.store_model.specs.Links.{frame_put, IsConsumedPiece}
use Rattle.store_model.specs.Once.{ConsumesNew, PiecesOnce}
use Rattle.store_model.specs.Law.{IsLawful}
use Rattle.store_model.proofs.Lists.{one_passes, passes, contains_right}
use Rattle.store_model.proofs.Lawful.{lawful_is_intact, lawful_as_put, beginning_lawful, pieces_once, same_piece_is}
use Rattle.store_model.proofs.Histories.{stands_from, puts_more}

-- a piece of this name was staged
abbrev is_staged : State → PieceName → Bool
is_staged st name = list_any (λ (p : Piece). same_piece name p.name) st.staged

-- a piece that changes consume was consumed before, or was staged
changes_consume : (first : State) (list : List Change) (st : State) (name : PieceName) → AllByRecursion (ConsumesNew first) list → list_any (same_piece name) (fold after_change st list).consumed ≡ true
    → (list_any (same_piece name) st.consumed ≡ true) ⊎ (is_staged first name ≡ true)
changes_consume first [] st name all e = inl e
changes_consume first (changes.Discarded pieces ∷ list) st name all e = elim (changes_consume first list (after_change st (changes.Discarded pieces)) name all.1 e) [
  | inr staged ↦ inr staged
  | inl before ↦ elim (or_cases (list_any (same_piece name) pieces) (list_any (same_piece name) st.consumed) (sym (list_any-append (same_piece name) pieces st.consumed) ∙ before)) [
    | inl new ↦ inr (fresh pieces all.0 new)
    | inr old ↦ inl old
  ]
]
  where
    fresh : (pieces : List PieceName) → ConsumesNew first (changes.Discarded pieces) → list_any (same_piece name) pieces ≡ true → is_staged first name ≡ true
    fresh [] all e = absurd (true≢false (sym e))
    fresh (p ∷ pieces) all e = elim (or_cases (same_piece name p) (list_any (same_piece name) pieces) e) [
      | inl is ↦ subst (λ n. is_staged first n ≡ true) (sym (same_piece_is name p is)) all.0.1
      | inr later ↦ fresh pieces all.1 later
    ]
changes_consume first (changes.Wrote frame at ∷ list) st name all e = changes_consume first list (after_change st (changes.Wrote frame at)) name all.1 e
changes_consume first (changes.Appended frame at ∷ list) st name all e = changes_consume first list (after_change st (changes.Appended frame at)) name all.1 e
changes_consume first (changes.Updated frame range at ∷ list) st name all e = changes_consume first list (after_change st (changes.Updated frame range at)) name all.1 e
changes_consume first (changes.Removed versions ∷ list) st name all e = changes_consume first list (after_change st (changes.Removed versions)) name all.1 e
changes_consume first (changes.Held holder version ∷ list) st name all e = changes_consume first list (after_change st (changes.Held holder version)) name all.1 e
changes_consume first (changes.Released holder ∷ list) st name all e = changes_consume first list (after_change st (changes.Released holder)) name all.1 e
changes_consume first (changes.Restated ∷ list) st name all e = changes_consume first list (after_change st changes.Restated) name all.1 e

staged_same : (st : State) (list : List Change) → (fold after_change st list).staged ≡ st.staged
staged_same st [] = refl
staged_same st (c ∷ list) = staged_same (after_change st c) list

-- a consumed piece was staged
consumed_staged : (h : History) → PiecesOnce h → (symbol : Name) (name : PieceName) → is_consumed (state_of h symbol) name ≡ true → is_staged (state_of h symbol) name ≡ true
consumed_staged [] once symbol name e = absurd (true≢false (sym e))
consumed_staged (events.Put c key body ∷ h) once symbol name e =
    let r = one_passes (λ (p : Piece). same_piece name p.name) (state_of h symbol).staged (consumed_staged h once symbol name e) in
    passes (λ (p : Piece). same_piece name p.name) (piece_staged symbol key body ++ (state_of h symbol).staged) r.0 (contains_right (piece_staged symbol key body) (state_of h symbol).staged r.0 r.1) r.2
consumed_staged (events.Refer c s was entry list ∷ h) once symbol name e =
    elim (same_name s symbol) as (λ b. same_name s symbol ≡ b → is_consumed (cond b (after_changes (state_of h symbol) list) (state_of h symbol)) name ≡ true
    → is_staged (cond b (after_changes (state_of h symbol) list) (state_of h symbol)) name ≡ true) [
      | true ↦ λ is f.
          let all : AllByRecursion (ConsumesNew (state_of h symbol)) list = subst (λ n. AllByRecursion (ConsumesNew (state_of h n)) list) (same_name_is s symbol is) once.0 in
          ap (list_any (λ (p : Piece). same_piece name p.name)) (staged_same (state_of h symbol) list) ∙ elim (changes_consume (state_of h symbol) list (state_of h symbol) name all f) [
            | inl before ↦ consumed_staged h once.1 symbol name before
            | inr staged ↦ staged
          ]
      | false ↦ λ is f. consumed_staged h once.1 symbol name f
    ] refl e
consumed_staged (events.Name c snap body ∷ h) once symbol name e = consumed_staged h once symbol name e
consumed_staged (events.Unname c snap ∷ h) once symbol name e = consumed_staged h once symbol name e
consumed_staged (events.Drop c key ∷ h) once symbol name e = consumed_staged h once symbol name e

-- so its serial lies below its client's next one
consumed_below : (h : History) → IsLawful h → (symbol : Name) (name : PieceName) → is_consumed (state_of h symbol) name ≡ true → name.serial < puts_by name.client h
consumed_below h lawful symbol name e =
    let r = one_passes (λ (p : Piece). same_piece name p.name) (state_of h symbol).staged (consumed_staged h (pieces_once h lawful) symbol name e) in
    let frame = (lawful_as_put h lawful).pieces symbol r.0 r.1 in
    let below = by r.0 (body_put h (staged_key symbol r.0)) refl frame in
    subst (λ (n : PieceName). n.serial < puts_by n.client h) (sym (same_piece_is name r.0.name r.2)) below
  where
    by : (p : Piece) (o : Option Bytes) → body_put h (staged_key symbol p) ≡ o → frame_put h (staged_key symbol p) ≡ Some p.frame → p.name.serial < puts_by p.name.client h
    by p (Some body) is f = ((lawful_is_intact h lawful).numbered (staged_key symbol p) body is).0
    by p None is f = absurd (clash (sym (ap (option_and_then (λ body. read_of (segment_of body))) is) ∙ f))
      where
        clash : None ≡ Some p.frame → ⊥
        clash e = cc

-- a key that was put later has a serial from then on
put_later : (more h : History) (key : Key) (body : Bytes) → IsLawful (more ++ h) → body_put h key ≡ None → body_put (more ++ h) key ≡ Some body → puts_by key.client h ≤ key.serial
put_later [] h key body lawful none put = absurd (clash (sym none ∙ put))
  where
    clash : None ≡ Some body → ⊥
    clash e = cc
put_later (events.Put c k b ∷ more) h key body lawful none put =
    elim (same_key k key) as (λ t. same_key k key ≡ t → cond t (Some b) (body_put (more ++ h) key) ≡ Some body → puts_by key.client h ≤ key.serial) [
      | true ↦ λ e f.
          let is : k ≡ key = same_key_is k key e in
          let serial : key.serial ≡ puts_by c (more ++ h) = ap (λ (x : Key). x.serial) (sym is) ∙ lawful.0.1.next in
          let client : key.client ≡ c = ap (λ (x : Key). x.client) (sym is) ∙ lawful.0.1.own in
          subst (λ n. puts_by n h ≤ key.serial) (sym client) (omega (arith, serial, more_puts more c))
      | false ↦ λ e f. put_later more h key body lawful.1 none f
    ] refl put
  where
    more_puts : (more : History) (client : ℕ) → puts_by client h ≤ puts_by client (more ++ h)
    more_puts [] client = omega arith
    more_puts (x ∷ more) client = omega (arith, more_puts more client, puts_more (more ++ h) client x)
put_later (events.Refer c s was entry list ∷ more) h key body lawful none put = put_later more h key body lawful.1 none put
put_later (events.Name c snap b ∷ more) h key body lawful none put = put_later more h key body lawful.1 none put
put_later (events.Unname c snap ∷ more) h key body lawful none put = put_later more h key body lawful.1 none put
put_later (events.Drop c k ∷ more) h key body lawful none put = put_later more h key body lawful.1 none put

-- a stored key of a piece that was consumed before was put before
piece_put : (more h : History) (key : Key) → IsLawful (more ++ h) → IsLawful h → IsConsumedPiece h key → is_some (stored (more ++ h) key) ≡ true → is_some (body_put h key) ≡ true
piece_put more h key lawful was piece stands = by (body_put h key) refl
  where
    by : (o : Option Bytes) → body_put h key ≡ o → is_some (body_put h key) ≡ true
    by (Some body) is = ap is_some is
    by None is =
        let s = stands_from (more ++ h) key (ap is_put piece.staged) stands in
        absurd (omega (arith, put_later more h key s.body lawful is s.put, consumed_below h was key.name (record { client = key.client; serial = key.serial }) piece.consumed))

pub piece_was_put : (more h new : History) (key : Key) → new ≡ more ++ h → ∥ IsLawful new ∥₁ → IsConsumedPiece h key → is_some (stored new key) ≡ true → is_some (body_put h key) ≡ true
piece_was_put more h new key is lawful piece stands =
    ∥∥₁_elim (subst (λ g. ∥ IsLawful g ∥₁) is lawful) (hlevel props) (λ l. piece_put more h key l (beginning_lawful more h l) piece (ap (λ g. is_some (stored g key)) (sym is) ∙ stands))
