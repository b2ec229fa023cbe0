-- A commit of one change may be tried: it fits wherever no Refer of the symbol came between; and how the try ends.
use Rattle.std.proofs.Common.{◌≡◌, ℕ, suc, pos, ◌≤◌, ◌<◌, Bool, true, false, ◌&&◌, not, List, [], ◌∷◌, ◌++◌, length, refl, ap, sym, ◌∙◌, subst, inl, inr, cond, Option, Some, None, arith, length-append}
use Rattle.std.specs.Prelude.{is_some, map, ◌≢◌, IfSome, take, ◌-◌, option_and_then}
use Rattle.std.specs.List.{list_any, AllByRecursion}
use Rattle.std.proofs.Math.Seq.{take-append_seam}
use Rattle.std.proofs.lemmas.Bool.{true≢false, or_parts, eq-eqb}
use Rattle.std.proofs.lemmas.List.Folds.{list_any-append}
use mathlib.Core.Logic.{∥∥₁_elim, ∥∥₁_map}
use denote.Struct.Props.{props}
use Rattle.byte_fields.specs.Reading.{read_of}
use Rattle.key_kind.specs.declared.key.KeyKind.TheVariants as kinds
use Rattle.key_kind.specs.declared.key.Key.{Key}
use Rattle.key_kind.specs.declared.key.Holder.{Holder}
use Rattle.key_kind.specs.Names.{Name}
use Rattle.key_kind.specs.Keys.{same_key, same_holder}
use Rattle.bucket_core.specs.declared.event.PieceName.{PieceName}
use Rattle.bucket_core.specs.declared.event.Change.{Change}
use Rattle.bucket_core.specs.declared.event.Change.TheVariants as changes
use Rattle.bucket_core.specs.declared.event.Event.{Event}
use Rattle.bucket_core.specs.declared.event.Event.TheVariants as events
use Rattle.bucket_core.specs.History.{History, Bytes, author, stored, body_put, reference, puts_by, AllByOthers}
use Rattle.bucket_core.specs.Laws.{refers}
use Rattle.bucket_core.specs.Calls.{HasMovedOn, MayTryRefer, refers_after}
use Rattle.store_model.specs.declared.chain.LinkRow.{LinkRow}
use Rattle.store_model.specs.ChainText.{entry_of}
use Rattle.store_model.specs.Library.{State, Hold, Piece, state_of, is_live, is_consumed, open_pieces, same_piece, new_version}
use Rattle.store_model.specs.Links.{element, entries}
use Rattle.store_model.specs.Holders.{has_hold, has_name, has_unnamed}
use Rattle.store_model.specs.Commits.{MayRefer, FitsLink, FitsMark, FitsRemoved, FitsDiscarded, marking, is_version}
use Rattle.store_model.specs.Law.{IsClaimed, IsLawful}
use Rattle.store_model.specs.OwnPuts.{IsOwnPut}
use Rattle.store_model.proofs.Lists.{filter_in, in_filter, all_weaker, one_passes, passes, contains_right}
use Rattle.store_model.proofs.Stability.{puts_other, unnamed_stays}
use Rattle.store_model.proofs.StableRefer.{staging, has_hold_stays, has_unnamed_stays}
use Rattle.store_model.proofs.Untouched.{as_it_was}
use Rattle.store_model.proofs.Told.{has_moved_on_told, unreferred_told}
use Rattle.version_chain.specs.Marking.{FitsOn, IsMarkEntry}
use Rattle.version_chain.proofs.TraceLemmas.{append_assoc}

-- ---- what others add does not touch what the client has seen of holders

puts_beside : (client : ℕ) (h others : History) → AllByOthers client others → puts_by client (others ++ h) ≡ puts_by client h
puts_beside client h [] all = refl
puts_beside client h (x ∷ others) all = puts_other (others ++ h) x client all.0 ∙ puts_beside client h others all.1

unheld_beside : (h others : History) (symbol : Name) (holder : Holder) → list_any (refers symbol) others ≡ false → has_hold h symbol holder ≡ false → has_hold (others ++ h) symbol holder ≡ false
unheld_beside h [] symbol holder none e = e
unheld_beside h (x ∷ others) symbol holder none e =
    let parts = or_parts (refers symbol x) (list_any (refers symbol) others) none in
    has_hold_stays (others ++ h) symbol x holder parts.0 (unheld_beside h others symbol holder parts.1 e)

unnamed_beside : (h others : History) (client : ℕ) (holder : Holder) → IsLawful (others ++ h) → AllByOthers client others → holder.client ≡ client → has_name h holder ≡ false → has_name (others ++ h) holder ≡ false
unnamed_beside h [] client holder lawful all own e = e
unnamed_beside h (x ∷ others) client holder lawful all own e =
    unnamed_stays (others ++ h) x holder lawful.0.1 (λ same. all.0 (same ∙ own)) (unnamed_beside h others client holder lawful.1 all.1 own e)

gone_beside : (h others : History) (client : ℕ) (holder : Holder) → has_unnamed h client holder ≡ true → has_unnamed (others ++ h) client holder ≡ true
gone_beside h [] client holder e = e
gone_beside h (x ∷ others) client holder e = has_unnamed_stays (others ++ h) x client holder (gone_beside h others client holder e)

open_stays : (more : List Piece) (st : State) (name : PieceName) → list_any (λ (p : Piece). same_piece name p.name) (open_pieces st) ≡ true → list_any (λ (p : Piece). same_piece name p.name) (open_pieces (staging more st)) ≡ true
open_stays more st name e =
    let r = one_passes (λ (p : Piece). same_piece name p.name) (open_pieces st) e in
    let q = filter_in (λ (p : Piece). not (is_consumed st p.name)) st.staged r.0 r.1 in
    passes (λ (p : Piece). same_piece name p.name) (open_pieces (staging more st)) r.0
    (in_filter (λ (p : Piece). not (is_consumed st p.name)) (more ++ st.staged) r.0 (contains_right more st.staged r.0 q.0) q.1) r.2

-- ---- the change fits

-- behind others' events and the Put of the element, where the state is the walked one but for staged pieces
module _ (st : State) (seen others : History) (client : ℕ) (symbol : Name) (entry : Key) (body : Bytes) (more : List Piece) (by_others : AllByOthers client others) (unreferred : list_any (refers symbol) others ≡ false)
    (lawful : ∥ IsLawful (others ++ seen) ∥₁) (state_is : state_of (events.Put client entry body ∷ (others ++ seen)) symbol ≡ staging more st) where
  abbrev put : History
  put = events.Put client entry body ∷ (others ++ seen)

  counted : puts_by client put ≡ suc (puts_by client seen)
  counted = ap (λ b. cond b (suc (puts_by client (others ++ seen))) (puts_by client (others ++ seen))) (eq-eqb client client refl) ∙ ap suc (puts_beside client seen others by_others)

  unnamed : (holder : Holder) → holder.client ≡ client → has_name seen holder ≡ false → has_name put holder ≡ false
  unnamed holder own e = ∥∥₁_elim lawful (hlevel props) (λ l. unnamed_beside seen others client holder l by_others own e)

  pub mark_fits : (c : Change) → FitsOn st seen client symbol c → FitsMark put client symbol c
  mark_fits (changes.Removed versions) f = subst (λ s. FitsRemoved s versions) (sym state_is) (record { some = f.some; rising = f.rising; live = f.live })
  mark_fits (changes.Held holder version) f = record {
    live = subst (λ s. is_live s version ≡ true) (sym state_is) f.live;
    own = f.own;
    begun = omega (arith, f.begun, counted);
    unused = unheld_beside seen others symbol holder unreferred f.unused;
    unnamed = unnamed holder f.own f.unnamed;
  }
  mark_fits (changes.Released holder) f = record {
    held = subst (λ s. list_any (λ (w : Hold). same_holder holder w.holder) s.holds ≡ true) (sym state_is) f.held;
    allowed = elim f.allowed [
      | inl own ↦ inl (own.0, unnamed holder own.0 own.1)
      | inr gone ↦ inr (gone_beside seen others client holder gone)
    ];
  }
  mark_fits (changes.Discarded pieces) f = subst (λ s. FitsDiscarded s pieces) (sym state_is) (record {
    some = f.some;
    rising = f.rising;
    staged = all_weaker (λ name. list_any (λ (p : Piece). same_piece name p.name) (open_pieces st) ≡ true)
        (λ name. list_any (λ (p : Piece). same_piece name p.name) (open_pieces (staging more st)) ≡ true) (open_stays more st) pieces f.staged;
  })
  mark_fits (changes.Wrote frame at) f = absurd f
  mark_fits (changes.Appended frame at) f = absurd f
  mark_fits (changes.Updated frame range at) f = absurd f
  mark_fits changes.Restated f = absurd f

pub makes_none : (st : State) (seen : History) (client : ℕ) (symbol : Name) (c : Change) → FitsOn st seen client symbol c → is_version c ≡ false
makes_none st seen client symbol (changes.Removed versions) f = refl
makes_none st seen client symbol (changes.Held holder version) f = refl
makes_none st seen client symbol (changes.Released holder) f = refl
makes_none st seen client symbol (changes.Discarded pieces) f = refl
makes_none st seen client symbol (changes.Wrote frame at) f = absurd f
makes_none st seen client symbol (changes.Appended frame at) f = absurd f
makes_none st seen client symbol (changes.Updated frame range at) f = absurd f
makes_none st seen client symbol changes.Restated f = absurd f

-- ---- the Refer

-- what is read of a body that was put
read_put : {A : Type 0} (f : Bytes → Option A) (o : Option Bytes) (body : Bytes) (a : A) → o ≡ Some body → f body ≡ Some a → option_and_then f o ≡ Some a
read_put f o body a put is = ap (option_and_then f) put ∙ is

-- an own element that spells the change may be referred
mark_may_follow : (h : History) (client : ℕ) (symbol : Name) (was : Option Key) (entry : Key) (body : Bytes) (c : Change) → is_version c ≡ false
    → IsMarkEntry symbol was entry body c → IsOwnPut h client entry body → FitsMark h client symbol c → MayRefer h client symbol was entry (c ∷ [])
mark_may_follow h client symbol was entry body c none e own fits = record {
  kind = e.kind;
  name = e.name;
  own = own.unlinked.own;
  stands = ap is_some own.stands;
  fresh = subst (λ s. list_any (λ k. same_key k entry) (entries h s) ≡ false) e.name own.unlinked.no_entry;
  how = inl (record {
    form = marking c none;
    row = e.row;
    spelled = read_put (λ b. read_of (entry_of b)) (body_put h entry) body _ own.put (ap read_of e.spelled);
    fits = ((no_version c none, fits), tt);
    prunes = tt;
  });
}
  where
    no_version : (c : Change) → is_version c ≡ false → IfSome (new_version (state_of h symbol) c) (FitsLink h client symbol e.row)
    no_version (changes.Removed versions) n = tt
    no_version (changes.Held holder version) n = tt
    no_version (changes.Released holder) n = tt
    no_version (changes.Discarded pieces) n = tt
    no_version (changes.Wrote frame at) n = absurd (true≢false n)
    no_version (changes.Appended frame at) n = absurd (true≢false n)
    no_version (changes.Updated frame range at) n = absurd (true≢false n)
    no_version changes.Restated n = tt

-- so the Refer may be tried: it may follow, or the reference has moved on
pub mark_may_be_tried : (before later others : History) (client : ℕ) (symbol : Name) (was : Option Key) (entry : Key) (body : Bytes) (c : Change)
    → AllByOthers client others → ∥ IsLawful (events.Put client entry body ∷ (others ++ (later ++ before))) ∥₁ → was ≡ reference before symbol
    → FitsOn (state_of before symbol) (later ++ before) client symbol c → IsMarkEntry symbol was entry body c → IsOwnPut (events.Put client entry body ∷ (others ++ (later ++ before))) client entry body
    → MayTryRefer IsClaimed (events.Put client entry body ∷ (others ++ (later ++ before))) client symbol was entry (c ∷ [])
mark_may_be_tried before later others client symbol was entry body c by_others lawful was_is fits e own =
    elim (list_any (refers symbol) front) as (λ t. list_any (refers symbol) front ≡ t → MayTryRefer IsClaimed put client symbol was entry (c ∷ [])) [
      | true ↦ λ referred. inr (subst (HasMovedOn put symbol) (sym was_is) (subst (λ h. HasMovedOn h symbol (reference before symbol)) is (has_moved_on_told before front symbol (subst (λ h. ∥ IsLawful h ∥₁) (sym is) lawful) referred)))
      | false ↦ λ unreferred.
          let same = as_it_was before front symbol unreferred in
          let between : list_any (refers symbol) others ≡ false = (or_parts (list_any (refers symbol) others) (list_any (refers symbol) later) (sym (list_any-append (refers symbol) others later) ∙ unreferred)).0 in
          let state_is : state_of put symbol ≡ staging same.more (state_of before symbol) = ap (λ h. state_of h symbol) (sym is) ∙ same.state_is in
          inl (
            ap (λ h. reference h symbol) (sym is) ∙ (same.reference_is ∙ sym was_is),
            mark_may_follow put client symbol was entry body c (makes_none (state_of before symbol) (later ++ before) client symbol c fits) e own
                (mark_fits (state_of before symbol) (later ++ before) others client symbol entry body same.more by_others between (∥∥₁_map lawful (λ (l : IsLawful put). l.1)) state_is c fits),
          )
    ] refl
  where
    put : History
    put = events.Put client entry body ∷ (others ++ (later ++ before))

    front : History
    front = events.Put client entry body ∷ (others ++ later)

    is : front ++ before ≡ put
    is = ap (λ h. events.Put client entry body ∷ h) (append_assoc others later before)

-- nobody referred the symbol since a place, where its reference is still the one that was there
pub quiet_since : (before front : History) (symbol : Name) (place : ℕ) → place ≡ length before → ∥ IsLawful (front ++ before) ∥₁ → reference (front ++ before) symbol ≡ reference before symbol
    → refers_after (front ++ before) symbol place ≡ false
quiet_since before front symbol place at lawful same =
    let size : length (front ++ before) - place ≡ length front = omega (arith, at, length-append front before) in
    ap (λ n. list_any (refers symbol) (take n (front ++ before))) size
    ∙ (ap (list_any (refers symbol)) (take-append_seam front before) ∙ unreferred_told before front symbol lawful same)

-- and then its state is the same, but for staged pieces
pub quiet_state : (before front : History) (symbol : Name) (place : ℕ) → place ≡ length before → refers_after (front ++ before) symbol place ≡ false → (more : List Piece) × (state_of (front ++ before) symbol ≡ staging more (state_of before symbol))
quiet_state before front symbol place at quiet =
    let size : length (front ++ before) - place ≡ length front = omega (arith, at, length-append front before) in
    let none : list_any (refers symbol) front ≡ false = ap (list_any (refers symbol)) (sym (take-append_seam front before)) ∙ (ap (λ n. list_any (refers symbol) (take n (front ++ before))) (sym size) ∙ quiet) in
    let same = as_it_was before front symbol none in
    (same.more, same.state_is)
