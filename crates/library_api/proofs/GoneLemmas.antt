-- A version that was read through a snapshot is released only where the snapshot's name was taken away.
use Rattle.std.proofs.Common.{◌≡◌, ℕ, zero, suc, ◌-◌, ◌≤◌, Bool, true, false, ◌&&◌, List, [], ◌∷◌, ◌++◌, length, take, refl, ap, sym, ◌∙◌, subst, cond, nat_eq, Option, Some, None, Result, Ok, Err, arith}
use Rattle.std.specs.Prelude.{Contains, find, is_some, option_map, map}
use Rattle.std.specs.List.{list_any}
use Rattle.std.proofs.lemmas.Bool.{true≢false, and_parts, or_parts, or_from, eqb-true}
use Rattle.std.proofs.lemmas.List.{take-append-drop}
use Rattle.std.proofs.lemmas.List.Elements.{All-from_recursion, All-contains}
use mathlib.Core.Logic.{∥∥₁_elim}
use mathlib.Core.HLevel.{⊥_prop}
use Rattle.byte_fields.specs.Reading.{read_of}
use Rattle.key_kind.specs.Names.{Name, same_name}
use Rattle.key_kind.specs.Keys.{snapshot_key, same_holder}
use Rattle.key_kind.proofs.KeyTests.{same_name_is}
use Rattle.key_kind.specs.declared.key.Holder.{Holder}
use Rattle.bucket_core.specs.declared.event.Event.TheVariants as events
use Rattle.bucket_core.specs.History.{History, Bytes, stored, history_at, events_within}
use Rattle.store_model.specs.declared.snapshot.SnapRow.{SnapRow}
use Rattle.store_model.specs.declared.snapshot.SnapBody.{SnapBody}
use Rattle.store_model.specs.ChainText.{snap_of}
use Rattle.store_model.specs.Library.{State, Version, Hold, state_of, is_held}
use Rattle.store_model.specs.Holders.{is_held_by, IsHeldRow}
use Rattle.store_model.specs.Snapshots.{library_of, snap_body, snapshot_from}
use Rattle.store_model.specs.Law.{IsLawful}
use Rattle.store_model.proofs.Lawful.{lawful_is_intact}
use Rattle.store_model.proofs.Standing.{snapshot_stands}
use Rattle.store_model.proofs.Listing.{lists_agree}
use Rattle.store_model.proofs.Lists.{contains_first, contains_later, one_passes, passes}
use Rattle.expr_clause.specs.declared.command.AsOf.{AsOf}
use Rattle.expr_clause.specs.declared.command.AsOf.TheVariants as moments
use Rattle.frame_core.specs.declared.refusal.Refusal.{Refusal}
use Rattle.frame_core.specs.declared.refusal.Refusal.TheVariants as refusals
use Rattle.reply_model.specs.Answering.{◌then◌, or_refuse}
use Rattle.reply_model.specs.ReadAnswers.{read_version, picked, numbered}
use Rattle.reply_model.specs.Windows.{unnames}
use Rattle.reply_model.specs.Causes.{UnnamedUpTo}

-- ---- a name stands until it is taken away

some_body : (h : History) (snap : Name) (s : SnapBody) → IsLawful h → snap_body h snap ≡ Some s → is_some (stored h (snapshot_key snap)) ≡ false → ⊥
some_body h snap s lawful stands free = by (stored h (snapshot_key snap)) refl
  where
    clash : (r : Result SnapBody ℕ) → None ≡ Some r → ⊥
    clash r e = cc

    by : (o : Option Bytes) → stored h (snapshot_key snap) ≡ o → ⊥
    by None none = clash (Ok s) (sym (ap (option_map (λ body. snap_of body)) none) ∙ (snapshot_stands h lawful snap ∙ ap (option_map Ok) stands))
    by (Some body) some = true≢false (sym (ap is_some some) ∙ free)

pub name_stands : (more h : History) (snap : Name) (s : SnapBody) → IsLawful (more ++ h) → snap_body h snap ≡ Some s → list_any (unnames snap) more ≡ false → snap_body (more ++ h) snap ≡ Some s
name_stands [] h snap s lawful stands none = stands
name_stands (events.Put c key body ∷ more) h snap s lawful stands none = name_stands more h snap s lawful.1 stands none
name_stands (events.Refer c symbol was entry list ∷ more) h snap s lawful stands none = name_stands more h snap s lawful.1 stands none
name_stands (events.Drop c key ∷ more) h snap s lawful stands none = name_stands more h snap s lawful.1 stands none
name_stands (events.Unname c name ∷ more) h snap s lawful stands none =
    let parts = or_parts (same_name name snap) (list_any (unnames snap) more) none in
    ap (λ b. cond b None (snap_body (more ++ h) snap)) parts.0 ∙ name_stands more h snap s lawful.1 stands parts.1
name_stands (events.Name c name body ∷ more) h snap s lawful stands none =
    let before = name_stands more h snap s lawful.1 stands none in
    elim (same_name name snap) as (λ b. same_name name snap ≡ b → cond b (read_of (snap_of body)) (snap_body (more ++ h) snap) ≡ Some s) [
      | true ↦ λ e. absurd (some_body (more ++ h) snap s lawful.1 before (subst (λ n. is_some (stored (more ++ h) (snapshot_key n)) ≡ false) (same_name_is name snap e) lawful.0.0))
      | false ↦ λ e. before
    ] refl

-- ---- what it holds is held

held_by_is_held : (st : State) (holder : Holder) (n : ℕ) → is_held_by st holder n ≡ true → is_held st n ≡ true
held_by_is_held st holder n e =
    let found = one_passes (λ (w : Hold). same_holder holder w.holder && nat_eq n w.version) st.holds e in
    passes (λ (w : Hold). nat_eq n w.version) st.holds found.0 found.1 (and_parts (same_holder holder found.0.holder) (nat_eq n found.0.version) found.2).1

-- a row of a standing snapshot is held
row_held : (h : History) (snap symbol : Name) (s : SnapBody) (r : SnapRow) → IsLawful h → snap_body h snap ≡ Some s → Contains s.rows r → r.symbol ≡ symbol → is_held (state_of h symbol) r.version ≡ true
row_held h snap symbol s r lawful stands there name =
    subst (λ n. is_held (state_of h n) r.version ≡ true) name
    (held_by_is_held (state_of h r.symbol) s.holder r.version
    (All-contains (IsHeldRow h s.holder) s.rows r (All-from_recursion (IsHeldRow h s.holder) s.rows ((lawful_is_intact h lawful).held snap s stands)) there).0)

-- ---- a read through a snapshot

find_passes : {X : Type 0} (p : X → Bool) (xs : List X) (x : X) → find p xs ≡ Some x → p x ≡ true
find_passes {X} p [] x e = absurd cc
find_passes {X} p (y ∷ ys) x e =
    (elim (p y) as (λ b. p y ≡ b → cond b (Some y) (find p ys) ≡ Some x → p x ≡ true) [
      | true ↦ λ passes e. subst (λ z. p z ≡ true) (same y x e) passes
      | false ↦ λ fails e. find_passes p ys x e
    ]) refl e
  where
    same : (y x : X) → Some y ≡ Some x → y ≡ x
    same y x e = cc

-- the row that a read through a snapshot takes
record TakesRow (h : History) (snap symbol : Name) (n : ℕ) : Type 0 where
  body : SnapBody
  stands : snap_body h snap ≡ Some body
  row : SnapRow
  there : Contains body.rows row
  name : row.symbol ≡ symbol
  version : row.version ≡ n

not_ok : (why : Refusal) (v : Version) → ◌≡◌ {A = Result Version Refusal} (Err why) (Ok v) → ⊥
not_ok why v e = absurd cc

ok_is : (v w : Version) → ◌≡◌ {A = Result Version Refusal} (Ok v) (Ok w) → v ≡ w
ok_is v w e = cc

picked_row : (symbol : Name) (rows : List SnapRow) (n : ℕ) → option_map (λ (p : Name × ℕ). p.1) (find (λ (p : Name × ℕ). same_name symbol p.0) (map (λ (r : SnapRow). (r.symbol, r.version)) rows)) ≡ Some n
    → (r : SnapRow) × Contains rows r × (r.symbol ≡ symbol) × (r.version ≡ n)
picked_row symbol [] n e = absurd cc
picked_row symbol (r ∷ rows) n e =
    (elim (same_name symbol r.symbol) as (λ b. same_name symbol r.symbol ≡ b
    → option_map (λ (p : Name × ℕ). p.1) (cond b (Some (r.symbol, r.version)) (find (λ (p : Name × ℕ). same_name symbol p.0) (map (λ (r : SnapRow). (r.symbol, r.version)) rows))) ≡ Some n
    → (r' : SnapRow) × Contains (r ∷ rows) r' × (r'.symbol ≡ symbol) × (r'.version ≡ n)) [
      | true ↦ λ same e. (r, contains_first r rows, sym (same_name_is symbol r.symbol same), some_is r.version n e)
      | false ↦ λ other e. let found = picked_row symbol rows n e in (found.0, contains_later found.0 r rows found.1, found.2, found.3)
    ]) refl e
  where
    some_is : (a b : ℕ) → Some a ≡ Some b → a ≡ b
    some_is a b e = cc

takes_row : (h : History) (snap symbol : Name) (v : Version) → read_version (library_of h) symbol (moments.Snapshot snap) ≡ Ok v → TakesRow h snap symbol v.number
takes_row h snap symbol v e = of_body (snap_body h snap) refl (sym (ap (λ o. or_refuse o refusals.NoSuchSnapshot then λ s. or_refuse (picked s symbol) refusals.NoSuchSymbol then λ n. or_refuse (numbered (state_of h symbol) n) refusals.NoSuchSymbol) ((lists_agree h).snapshots snap)) ∙ e)
  where
    of_version : (n : ℕ) (o : Option Version) → numbered (state_of h symbol) n ≡ o → or_refuse o refusals.NoSuchSymbol ≡ Ok v → n ≡ v.number
    of_version n None is e = absurd (not_ok refusals.NoSuchSymbol v e)
    of_version n (Some w) is e = sym (eqb-true w.number n (find_passes (λ (x : Version). nat_eq x.number n) (state_of h symbol).versions w is)) ∙ ap (λ (x : Version). x.number) (ok_is w v e)

    of_number : (s : SnapBody) (o : Option ℕ) → snap_body h snap ≡ Some s → picked (snapshot_from s) symbol ≡ o → (or_refuse o refusals.NoSuchSymbol then λ n. or_refuse (numbered (state_of h symbol) n) refusals.NoSuchSymbol) ≡ Ok v → TakesRow h snap symbol v.number
    of_number s None stands is e = absurd (not_ok refusals.NoSuchSymbol v e)
    of_number s (Some n) stands is e =
        let found = picked_row symbol s.rows n is in
        record { body = s; stands = stands; row = found.0; there = found.1; name = found.2; version = found.3 ∙ of_version n (numbered (state_of h symbol) n) refl e }

    of_body : (o : Option SnapBody) → snap_body h snap ≡ o → (or_refuse (option_map snapshot_from o) refusals.NoSuchSnapshot then λ s. or_refuse (picked s symbol) refusals.NoSuchSymbol then λ n. or_refuse (numbered (state_of h symbol) n) refusals.NoSuchSymbol) ≡ Ok v → TakesRow h snap symbol v.number
    of_body None is e = absurd (not_ok refusals.NoSuchSnapshot v e)
    of_body (Some s) is e = of_number s (picked (snapshot_from s) symbol) is refl e

-- ---- the window

any_of_take : {X : Type 0} (p : X → Bool) (m n : ℕ) (xs : List X) → m ≤ n → list_any p (take n xs) ≡ false → list_any p (take m xs) ≡ false
any_of_take p zero n xs le none = refl
any_of_take p (suc m) zero xs le none = absurd (omega (arith, le))
any_of_take p (suc m) (suc n) [] le none = refl
any_of_take p (suc m) (suc n) (x ∷ xs) le none =
    let parts = or_parts (p x) (list_any p (take n xs)) none in
    or_from (p x) (list_any p (take m xs)) parts.0 (any_of_take p m n xs (omega (arith, le)) parts.1)

-- the history at a place is what stood at an earlier one, and what came between
earlier_first : (h : History) (place : ℕ) → place ≤ length h → h ≡ take (length h - place) h ++ history_at h place
earlier_first h place le = sym (take-append-drop (length h - place) h)

-- where the version is not held at the end of the window, the name was taken away in it
pub unnamed_up_to : (h g : History) (symbol : Name) (as_of : AsOf) (v : Version) (start read_at p : ℕ) → ∥ IsLawful g ∥₁ → g ≡ history_at h p → length g ≡ p
    → start ≤ read_at → read_at ≤ p → read_version (library_of (history_at g read_at)) symbol as_of ≡ Ok v → is_held (state_of g symbol) v.number ≡ false → UnnamedUpTo h as_of start p
unnamed_up_to h g symbol (moments.Back k) v start read_at p lawful is size early late read free = tt
unnamed_up_to h g symbol (moments.Number n) v start read_at p lawful is size early late read free = tt
unnamed_up_to h g symbol (moments.Moment t) v start read_at p lawful is size early late read free = tt
unnamed_up_to h g symbol (moments.Snapshot snap) v start read_at p lawful is size early late read free =
    by (list_any (unnames snap) (events_within h start p)) refl
  where
    contradiction : list_any (unnames snap) (events_within h start p) ≡ false → IsLawful g → ⊥
    contradiction none l =
        let row = takes_row (history_at g read_at) snap symbol v read in
        let window : list_any (unnames snap) (take (p - start) g) ≡ false = subst (λ x. list_any (unnames snap) (take (p - start) x) ≡ false) (sym is) none in
        let between : list_any (unnames snap) (take (length g - read_at) g) ≡ false = any_of_take (unnames snap) (length g - read_at) (p - start) g (omega (arith, size, early, late)) window in
        let split = earlier_first g read_at (omega (arith, size, late)) in
        let stands : snap_body g snap ≡ Some row.body =
        ap (λ x. snap_body x snap) split ∙ name_stands (take (length g - read_at) g) (history_at g read_at) snap row.body (subst IsLawful split l) row.stands between in
        true≢false (sym (row_held g snap symbol row.body row.row l stands row.there row.name) ∙ (ap (is_held (state_of g symbol)) row.version ∙ free))

    by : (b : Bool) → list_any (unnames snap) (events_within h start p) ≡ b → list_any (unnames snap) (events_within h start p) ≡ true
    by true e = e
    by false e = absurd (∥∥₁_elim lawful ⊥_prop (contradiction e))
