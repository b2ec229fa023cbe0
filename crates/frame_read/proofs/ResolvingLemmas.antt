-- Targets at the places of a call, and the versions of snapshots.
use Rattle.std.proofs.Common.{◌≡◌, ℕ, zero, suc, ◌-◌, Bool, true, false, ◌&&◌, List, [], ◌∷◌, ◌++◌, map, length, drop, refl, sym, ap, ◌∙◌, subst, cond, inl, inr, arith, Option, Some, None, Result, Ok, Err, nat_eq}
use Rattle.std.specs.Prelude.{◌⊎◌, find, option_map, IfOk}
use Rattle.std.specs.List.{AllZip}
use Rattle.std.proofs.lemmas.Bool.{true≢false, and_parts, or_cases, eqb-true, eq-eqb}
use Rattle.std.proofs.lemmas.Result.{IfOk-weaker}
use Rattle.std.proofs.lemmas.List.Elements.{All-from_recursion, All-contains}
use mathlib.Core.Logic.{∥∥₁_elim, ∥∥₁_map}
use mathlib.Core.HLevel.{⊥_prop}
use denote.Struct.Props.{props}
use Rattle.frame_core.specs.declared.refusal.Asked.{Asked}
use Rattle.frame_core.specs.declared.refusal.Refusal.{Refusal}
use Rattle.frame_core.specs.declared.refusal.Refusal.TheVariants as refusals
use Rattle.frame_core.specs.declared.refusal.Refused.{Refused}
use Rattle.key_kind.specs.declared.key.Key.{Key}
use Rattle.key_kind.specs.Names.{Name, same_name}
use Rattle.key_kind.specs.Keys.{same_key, snapshot_key}
use Rattle.key_kind.proofs.KeyTests.{same_name_is}
use Rattle.bucket_core.specs.History.{History, Bytes, stored, history_at}
use Rattle.store_model.specs.declared.snapshot.SnapRow.{SnapRow}
use Rattle.store_model.specs.declared.snapshot.SnapBody.{SnapBody}
use Rattle.store_model.specs.ChainText.{snap_of}
use Rattle.store_model.specs.Library.{Version, State, state_of}
use Rattle.store_model.specs.Links.{Linked, links}
use Rattle.store_model.specs.Holders.{has_index, IsHeldRow}
use Rattle.store_model.specs.Snapshots.{Snapshot, Library, library_of, snap_body, snapshot_from}
use Rattle.store_model.specs.Law.{IsLawful}
use Rattle.store_model.proofs.Lawful.{lawful_is_intact}
use Rattle.store_model.proofs.Standing.{snapshot_stands}
use Rattle.store_model.proofs.Listing.{lists_agree}
use Rattle.version_chain.specs.declared.state.SymbolState.{SymbolState}
use Rattle.version_chain.specs.States.{IsStateOf, IsStateAt}
use Rattle.expr_clause.specs.declared.command.AsOf.{AsOf}
use Rattle.expr_clause.specs.declared.command.AsOf.TheVariants as moments
use Rattle.reply_model.specs.Answering.{◌then◌, version_or, or_refuse}
use Rattle.reply_model.specs.ReadAnswers.{read_version, picked, numbered}
use Rattle.reply_model.proofs.Later.{history_at_later}
use Rattle.reply_model.proofs.Places.{history_at_end}
use Rattle.frame_read.specs.declared.target.Target.{Target}
use Rattle.frame_read.specs.Targets.{asked_as, IsOfNumber, IsChosen, IsTarget, IsResolveRefusal}
use Rattle.frame_read.proofs.ChoosingLemmas.{IsLike, row_in, alike_told, truth_prop, version_asked, read_asked, find_in}

-- ---- at the place of a walk

-- the history at a place is what came before it
pub place_at : (h later before : History) (place : ℕ) → h ≡ later ++ before → place ≡ length before → history_at h place ≡ before
place_at h later before place split is =
    ap (λ g. history_at g place) split
    ∙ (ap (λ n. history_at (later ++ before) n) is
    ∙ (history_at_later before later (length before) (omega arith) ∙ history_at_end before))

-- the state is that of the history at its place
pub state_at : (h : History) (symbol : Name) (state : SymbolState) → IsStateAt h symbol state → IsStateOf (history_at h state.place) symbol state
state_at h symbol state at = subst (λ g. IsStateOf g symbol state) (sym (place_at h at.later at.before state.place at.split at.place)) at.is

lawful_before : (n : ℕ) (h : History) → IsLawful h → IsLawful (drop n h)
lawful_before zero h lawful = lawful
lawful_before (suc n) [] lawful = lawful
lawful_before (suc n) (e ∷ h) lawful = lawful_before n h lawful.1

-- the history at a place is lawful where the whole is
pub lawful_at : (h : History) (n : ℕ) → ∥ IsLawful h ∥₁ → ∥ IsLawful (history_at h n) ∥₁
lawful_at h n lawful = ∥∥₁_map lawful (λ l. lawful_before (length h - n) h l)

-- ---- refusals of a version

abbrev ok_version : Version → Result Version Refusal
ok_version v = Ok v

abbrev err_version : Refusal → Result Version Refusal
err_version why = Err why

abbrev ok_body : SnapBody → Result SnapBody ℕ
ok_body s = Ok s

why_none : (st : State) (asked : Asked) (found : Option Version) (why : Refusal) → version_or st asked found ≡ Err why → (refusals.NoSuchSymbol ≡ why) ⊎ (refusals.NoSuchVersion asked ≡ why)
why_none st asked found why e =
    (elim st.has_reference as (λ b. version_or (record st { has_reference = b }) asked found ≡ Err why → (refusals.NoSuchSymbol ≡ why) ⊎ (refusals.NoSuchVersion asked ≡ why)) [
      | false ↦ λ e. inl (same refusals.NoSuchSymbol why e)
      | true ↦ λ e. inr (missing found why e)
    ]) e
  where
    same : (a b : Refusal) → err_version a ≡ err_version b → a ≡ b
    same a b e = cc

    missing : (found : Option Version) (why : Refusal) → or_refuse found (refusals.NoSuchVersion asked) ≡ Err why → refusals.NoSuchVersion asked ≡ why
    missing None why e = cc
    missing (Some v) why e = absurd (clash v why e)
      where
        clash : (v : Version) (why : Refusal) → ok_version v ≡ err_version why → ⊥
        clash v why e = cc

-- where a version that is not a snapshot's is refused, there is no symbol or no such version
pub refusal_told : (before now : ℕ) (h : History) (symbol : Name) (asked : Asked) (why : Refusal) → read_version (library_of h) symbol (asked_as asked) ≡ Err why
    → IsResolveRefusal before now h symbol (asked_as asked) why
refusal_told before now h symbol asked why e =
    elim (why_none (state_of h symbol) asked (version_asked (state_of h symbol) asked) why (sym (read_asked h symbol asked) ∙ e)) [
      | inl is ↦ subst (λ y. IsResolveRefusal before now h symbol (asked_as asked) y) is (e ∙ ap Err (sym is))
      | inr is ↦ subst (λ y. IsResolveRefusal before now h symbol (asked_as asked) y) is (e ∙ ap Err (sym is))
    ]

-- ---- snapshots

-- what a read by a snapshot answers, by what stands under its name
abbrev read_from : Library → Name → Option Snapshot → Result Version Refusal
read_from l symbol standing =
    or_refuse standing refusals.NoSuchSnapshot then λ s.
    or_refuse (picked s symbol) refusals.NoSuchSymbol then λ n.
    or_refuse (numbered (l.state symbol) n) refusals.NoSuchSymbol

read_snapshot : (h : History) (symbol snap : Name) → read_version (library_of h) symbol (moments.Snapshot snap) ≡ read_from (library_of h) symbol (option_map snapshot_from (snap_body h snap))
read_snapshot h symbol snap = ap (read_from (library_of h) symbol) ((lists_agree h).snapshots snap)

-- nothing stands under the key where no snapshot stands
none_stands : (h : History) (snap : Name) → ∥ IsLawful h ∥₁ → stored h (snapshot_key snap) ≡ None → snap_body h snap ≡ None
none_stands h snap lawful none =
    elim (snap_body h snap) as (λ o. snap_body h snap ≡ o → o ≡ None) [
      | None ↦ λ e. refl
      | Some s ↦ λ e. absurd (∥∥₁_elim lawful ⊥_prop (λ l. clash s (sym (ap (λ o. option_map (λ body. snap_of body) o) none) ∙ (snapshot_stands h l snap ∙ ap (λ o. option_map Ok o) e))))
    ] refl
  where
    clash : (s : SnapBody) → None ≡ Some (ok_body s) → ⊥
    clash s e = cc

body_prop : (a b : SnapBody) → IsProp (a ≡ b)
body_prop a b = hlevel props

-- what stands there is what its bytes spell
body_stands : (h : History) (snap : Name) (body : Bytes) (s : SnapBody) → ∥ IsLawful h ∥₁ → stored h (snapshot_key snap) ≡ Some body → snap_of body ≡ Ok s → snap_body h snap ≡ Some s
body_stands h snap body s lawful stands spelled =
    elim (snap_body h snap) as (λ o. snap_body h snap ≡ o → o ≡ Some s) [
      | None ↦ λ e. absurd (∥∥₁_elim lawful ⊥_prop (λ l. clash (snap_of body) (sym (ap (λ o. option_map (λ body. snap_of body) o) stands) ∙ (snapshot_stands h l snap ∙ ap (λ o. option_map Ok o) e))))
      | Some t ↦ λ e. ap Some (∥∥₁_elim lawful (body_prop t s) (λ l.
          same t s (sym (sym (ap (λ o. option_map (λ body. snap_of body) o) stands) ∙ (snapshot_stands h l snap ∙ ap (λ o. option_map Ok o) e)) ∙ ap Some spelled)))
    ] refl
  where
    clash : (r : Result SnapBody ℕ) → Some r ≡ None → ⊥
    clash r e = cc

    same : (t s : SnapBody) → Some (ok_body t) ≡ Some (ok_body s) → t ≡ s
    same t s e = cc

-- the version of a symbol in a snapshot is that of its row
picked_row : (symbol : Name) (rows : List SnapRow) → option_map (λ (p : Name × ℕ). p.1) (find (λ (p : Name × ℕ). same_name symbol p.0) (map (λ (r : SnapRow). (r.symbol, r.version)) rows))
    ≡ option_map (λ (r : SnapRow). r.version) (find (λ (r : SnapRow). same_name symbol r.symbol) rows)
picked_row symbol [] = refl
picked_row symbol (r ∷ rows) =
    elim (same_name symbol r.symbol) as (λ b. option_map (λ (p : Name × ℕ). p.1) (cond b (Some (r.symbol, r.version)) (find (λ (p : Name × ℕ). same_name symbol p.0) (map (λ (r : SnapRow). (r.symbol, r.version)) rows)))
    ≡ option_map (λ (r : SnapRow). r.version) (cond b (Some r) (find (λ (r : SnapRow). same_name symbol r.symbol) rows))) [
      | true ↦ refl
      | false ↦ picked_row symbol rows
    ]

-- what is read where the body stands
read_body : (h : History) (symbol snap : Name) (body : Bytes) (s : SnapBody) → ∥ IsLawful h ∥₁ → stored h (snapshot_key snap) ≡ Some body → snap_of body ≡ Ok s
    → read_version (library_of h) symbol (moments.Snapshot snap)
    ≡ (or_refuse (option_map (λ (r : SnapRow). r.version) (find (λ (r : SnapRow). same_name symbol r.symbol) s.rows)) refusals.NoSuchSymbol then λ n. or_refuse (numbered (state_of h symbol) n) refusals.NoSuchSymbol)
read_body h symbol snap body s lawful stands spelled =
    read_snapshot h symbol snap
    ∙ (ap (λ o. read_from (library_of h) symbol (option_map snapshot_from o)) (body_stands h snap body s lawful stands spelled)
    ∙ ap (λ o. or_refuse o refusals.NoSuchSymbol then λ n. or_refuse (numbered (state_of h symbol) n) refusals.NoSuchSymbol) (picked_row symbol s.rows))

-- where no name stands
pub unnamed_refuses : (h : History) (symbol snap : Name) → ∥ IsLawful h ∥₁ → stored h (snapshot_key snap) ≡ None → read_version (library_of h) symbol (moments.Snapshot snap) ≡ Err refusals.NoSuchSnapshot
unnamed_refuses h symbol snap lawful none = read_snapshot h symbol snap ∙ ap (λ o. read_from (library_of h) symbol (option_map snapshot_from o)) (none_stands h snap lawful none)

-- where the snapshot has no row of the symbol
pub unpicked_refuses : (h : History) (symbol snap : Name) (body : Bytes) (s : SnapBody) → ∥ IsLawful h ∥₁ → stored h (snapshot_key snap) ≡ Some body → snap_of body ≡ Ok s
    → find (λ (r : SnapRow). same_name symbol r.symbol) s.rows ≡ None → read_version (library_of h) symbol (moments.Snapshot snap) ≡ Err refusals.NoSuchSymbol
unpicked_refuses h symbol snap body s lawful stands spelled none =
    read_body h symbol snap body s lawful stands spelled
    ∙ ap (λ o. or_refuse (option_map (λ (r : SnapRow). r.version) o) refusals.NoSuchSymbol then λ n. or_refuse (numbered (state_of h symbol) n) refusals.NoSuchSymbol) none

find_passes : {X : Type 0} (p : X → Bool) (xs : List X) (x : X) → find p xs ≡ Some x → p x ≡ true
find_passes {X} p [] x e = absurd (none_some x e)
  where
    none_some : (x : X) → None ≡ Some x → ⊥
    none_some x e = cc
find_passes {X} p (y ∷ ys) x e =
    (elim (p y) as (λ b. p y ≡ b → cond b (Some y) (find p ys) ≡ Some x → p x ≡ true) [
      | true ↦ λ passes e. subst (λ z. p z ≡ true) (same y x e) passes
      | false ↦ λ passes e. find_passes p ys x e
    ]) refl e
  where
    same : (y x : X) → Some y ≡ Some x → y ≡ x
    same y x e = cc

-- a version of the number of a link is there
numbered_there : (n : ℕ) (key : Key) (ls : List Linked) (vs : List Version) → AllZip IsLike (map row_in ls) vs → has_index ls n key ≡ true
    → IsOfNumber n (or_refuse (find (λ v. nat_eq v.number n) vs) refusals.NoSuchSymbol)
numbered_there n key [] [] z there = absurd (true≢false (sym there))
numbered_there n key [] (v ∷ vs) z there = absurd z
numbered_there n key (l ∷ ls) [] z there = absurd z
numbered_there n key (l ∷ ls) (v ∷ vs) z there =
    elim (nat_eq v.number n) as (λ b. nat_eq v.number n ≡ b → IsOfNumber n (or_refuse (cond b (Some v) (find (λ v. nat_eq v.number n) vs)) refusals.NoSuchSymbol)) [
      | true ↦ λ e. eqb-true v.number n e
      | false ↦ λ e. elim (or_cases (nat_eq n l.row.version && same_key key l.row.index) (has_index ls n key) there) [
        | inl here ↦ absurd (true≢false (sym (eq-eqb v.number n (sym z.0.0 ∙ sym (eqb-true n l.row.version (and_parts (nat_eq n l.row.version) (same_key key l.row.index) here).0))) ∙ e))
        | inr later ↦ numbered_there n key ls vs z.1 later
      ]
    ] refl

-- where it has one
pub picked_is_chosen : (h : History) (symbol snap : Name) (body : Bytes) (s : SnapBody) (r : SnapRow) → ∥ IsLawful h ∥₁ → stored h (snapshot_key snap) ≡ Some body → snap_of body ≡ Ok s
    → find (λ (r : SnapRow). same_name symbol r.symbol) s.rows ≡ Some r → IsChosen h symbol (moments.Snapshot snap) r.version r.index
picked_is_chosen h symbol snap body s r lawful stands spelled found = record {
  read = subst (λ x. IsOfNumber r.version x) (sym (read_body h symbol snap body s lawful stands spelled
      ∙ ap (λ o. or_refuse (option_map (λ (r : SnapRow). r.version) o) refusals.NoSuchSymbol then λ n. or_refuse (numbered (state_of h symbol) n) refusals.NoSuchSymbol) found))
      (numbered_there r.version r.index (links h symbol) (state_of h symbol).versions (alike_told h symbol lawful) linked);
  link = linked;
}
  where
    linked : has_index (links h symbol) r.version r.index ≡ true
    linked = ∥∥₁_elim lawful (truth_prop (has_index (links h symbol) r.version r.index) true) (λ l.
        subst (λ (n : Name). has_index (links h n) r.version r.index ≡ true) (sym (same_name_is symbol r.symbol (find_passes (λ (r : SnapRow). same_name symbol r.symbol) s.rows r found)))
        (All-contains (IsHeldRow h s.holder) s.rows r
        (All-from_recursion (IsHeldRow h s.holder) s.rows ((lawful_is_intact h l).held snap s (body_stands h snap body s lawful stands spelled)))
        (find_in (λ (r : SnapRow). same_name symbol r.symbol) s.rows r found)).1)

-- ---- answers

-- what is said of the made target holds of the one that is answered
pub made_target : (old new : History) (symbol : Name) (as_of : AsOf) (result : Result Target Refused) (target : Target) → IfOk result (λ made. made ≡ target) → IsTarget old new symbol as_of target
    → IfOk result (IsTarget old new symbol as_of)
made_target old new symbol as_of result target made is = IfOk-weaker result (λ made. made ≡ target) (IsTarget old new symbol as_of) (λ made e. subst (IsTarget old new symbol as_of) (sym e) is) made

-- at the end of the history is the whole of it
end_is : (h : History) (place : ℕ) → place ≡ length h → history_at h place ≡ h
end_is h place e = ap (history_at h) e ∙ history_at_end h

pub refuses_here : (why : Refusal) (h : History) (place : ℕ) (symbol : Name) (as_of : AsOf) → place ≡ length h → read_version (library_of h) symbol as_of ≡ Err why
    → read_version (library_of (history_at h place)) symbol as_of ≡ Err why
refuses_here why h place symbol as_of e is = subst (λ g. read_version (library_of g) symbol as_of ≡ Err why) (sym (end_is h place e)) is

pub chosen_here : (h : History) (place : ℕ) (symbol : Name) (as_of : AsOf) (version : ℕ) (index : Key) → place ≡ length h → IsChosen h symbol as_of version index
    → IsChosen (history_at h place) symbol as_of version index
chosen_here h place symbol as_of version index e is = subst (λ g. IsChosen g symbol as_of version index) (sym (end_is h place e)) is
