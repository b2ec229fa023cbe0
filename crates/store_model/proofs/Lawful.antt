-- Every lawful history is intact, and what follows from it.
use Rattle.std.proofs.Common.{◌≡◌, ℕ, true, false, [], ◌∷◌, ◌++◌, refl, sym, ◌∙◌, subst, inl, inr, not, nat_eq, Ok, Result}
use Rattle.std.specs.List.{list_any, AllByRecursion}
use Rattle.std.proofs.lemmas.Bool.{not-true, and_parts, eqb-true}
use Rattle.store_model.proofs.Lists.{contains_none, all_weaker, one_passes, filter_in, passes}
use Rattle.bucket_core.specs.declared.event.Event.{Event}
use Rattle.bucket_core.specs.declared.event.Event.TheVariants as events
use Rattle.bucket_core.specs.History.{History}
use Rattle.store_model.specs.Law.{IsLawful, IsClaimed}
use Rattle.bucket_core.specs.Laws.{MayFollow}
use Rattle.store_model.specs.Holders.{has_name}
use Rattle.store_model.specs.Commits.{FitsMark, FitsChange}
use Rattle.store_model.specs.Library.{Piece, state_of, is_consumed, same_piece, open_pieces}
use Rattle.store_model.specs.declared.snapshot.SnapBody.{SnapBody}
use Rattle.bucket_core.specs.declared.event.PieceName.{PieceName}
use Rattle.bucket_core.specs.declared.event.Change.{Change}
use Rattle.bucket_core.specs.declared.event.Change.TheVariants as changes
use Rattle.key_kind.specs.Names.{Name}
use Rattle.store_model.specs.Intact.{IsIntact, IsAsPut}
use Rattle.store_model.specs.Once.{PiecesOnce, NamedOnce, ConsumesNew}
use Rattle.store_model.proofs.Dropping.{drop_keeps}
use Rattle.store_model.proofs.Putting.{put_keeps}
use Rattle.store_model.proofs.Naming.{name_keeps, unname_keeps}
use Rattle.store_model.proofs.Referring.{refer_keeps}
use Rattle.store_model.proofs.AsPut.{links_as_put, pieces_as_put, elements_as_put}

pub same_piece_is : (a b : PieceName) → same_piece a b ≡ true → a ≡ b
same_piece_is a b h =
    let r = and_parts (nat_eq a.client b.client) (nat_eq a.serial b.serial) h in
    let client : a.client ≡ b.client = eqb-true a.client b.client r.0 in
    let serial : a.serial ≡ b.serial = eqb-true a.serial b.serial r.1 in
    λ i. record { client = client i; serial = serial i }

-- nothing is needed at the start
nothing_intact : IsIntact []
nothing_intact = record {
  once = tt;
  numbered = λ key body e. absurd cc;
  table_keys = λ s l key c. absurd (contains_none l c);
  needed = λ s l key c. absurd (contains_none l c);
  element_keys = λ s key c. absurd (contains_none key c);
  elements = λ s key c. absurd (contains_none key c);
  pieces = λ s p c. absurd (contains_none p c);
  versions = λ s. tt;
  below = λ s l c. absurd (contains_none l c);
  chain = λ s. record { rows = refl; tombs = λ n. refl; holds = λ test. refl; pieces = λ test. refl };
  buried = λ s n e. e;
  held = λ snap body e. absurd cc;
  one_name = λ a b x y e. absurd cc;
  unnamed = λ snap body c e. refl;
}

-- each lawful event keeps a history intact
pub step_keeps : (h : History) (e : Event) → MayFollow IsClaimed h e → IsIntact h → IsIntact (e ∷ h)
step_keeps h (events.Put c key body) may i = put_keeps h c key body may.1 i
step_keeps h (events.Refer c symbol was entry list) may i = refer_keeps h c symbol was entry list may.1 may.0 i
step_keeps h (events.Name c snap body) may i = name_keeps h c snap body may.1 i
step_keeps h (events.Unname c snap) may i = unname_keeps h c snap i
step_keeps h (events.Drop c key) may i = drop_keeps h c key may.1 i

-- so each lawful history is intact
pub lawful_is_intact : (h : History) → IsLawful h → IsIntact h
lawful_is_intact [] lawful = nothing_intact
lawful_is_intact (e ∷ h) lawful = step_keeps h e lawful.0 (lawful_is_intact h lawful.1)

-- each beginning of a lawful history is lawful
pub beginning_lawful : (more h : History) → IsLawful (more ++ h) → IsLawful h
beginning_lawful [] h lawful = lawful
beginning_lawful (e ∷ more) h lawful = beginning_lawful more h lawful.1

pub lawful_as_put : (h : History) → IsLawful h → IsAsPut h
lawful_as_put h lawful =
    let once = (lawful_is_intact h lawful).once in
    record { links = links_as_put h once; pieces = pieces_as_put h lawful once; elements = elements_as_put h lawful once }

-- ---- pieces and holders once

pub consumes_new : (h : History) (client : ℕ) (symbol : Name) (c : Change) → FitsMark h client symbol c → ConsumesNew (state_of h symbol) c
consumes_new h client symbol (changes.Discarded pieces) f =
    all_weaker (λ name. list_any (λ (p : Piece). same_piece name p.name) (open_pieces (state_of h symbol)) ≡ true)
    (λ name. (is_consumed (state_of h symbol) name ≡ false) × (list_any (λ (p : Piece). same_piece name p.name) (state_of h symbol).staged ≡ true)) one pieces f.staged
  where
    one : (name : PieceName) → list_any (λ (p : Piece). same_piece name p.name) (open_pieces (state_of h symbol)) ≡ true
        → (is_consumed (state_of h symbol) name ≡ false) × (list_any (λ (p : Piece). same_piece name p.name) (state_of h symbol).staged ≡ true)
    one name e =
        let r = one_passes (λ (p : Piece). same_piece name p.name) (open_pieces (state_of h symbol)) e in
        let q = filter_in (λ (p : Piece). not (is_consumed (state_of h symbol) p.name)) (state_of h symbol).staged r.0 r.1 in (
          subst (λ n. is_consumed (state_of h symbol) n ≡ false) (sym (same_piece_is name r.0.name r.2)) (not-true _ q.1),
          passes (λ (p : Piece). same_piece name p.name) (state_of h symbol).staged r.0 q.0 r.2,
        )
consumes_new h client symbol (changes.Wrote frame at) f = tt
consumes_new h client symbol (changes.Appended frame at) f = tt
consumes_new h client symbol (changes.Updated frame range at) f = tt
consumes_new h client symbol (changes.Removed versions) f = tt
consumes_new h client symbol (changes.Held holder version) f = tt
consumes_new h client symbol (changes.Released holder) f = tt
consumes_new h client symbol changes.Restated f = tt

pub pieces_once : (h : History) → IsLawful h → PiecesOnce h
pieces_once [] lawful = tt
pieces_once (events.Refer c symbol was entry list ∷ h) lawful = (
  elim lawful.0.1.how [
    | inl change ↦ all_weaker (FitsChange h c symbol change.row) (ConsumesNew (state_of h symbol)) (λ x f. consumes_new h c symbol x f.1) list change.fits
    | inr restate ↦ subst (AllByRecursion (ConsumesNew (state_of h symbol))) (sym restate.alone) (tt, tt)
  ],
  pieces_once h lawful.1,
)
pieces_once (events.Put c key body ∷ h) lawful = pieces_once h lawful.1
pieces_once (events.Name c snap body ∷ h) lawful = pieces_once h lawful.1
pieces_once (events.Unname c snap ∷ h) lawful = pieces_once h lawful.1
pieces_once (events.Drop c key ∷ h) lawful = pieces_once h lawful.1

pub named_once : (h : History) → IsLawful h → NamedOnce h
named_once [] lawful = tt
named_once (events.Name c snap body ∷ h) lawful = (λ s e. subst (λ (b : SnapBody). has_name h b.holder ≡ false) (same_ok lawful.0.1.snapshot s (sym lawful.0.1.spelled ∙ e)) lawful.0.1.unnamed, named_once h lawful.1)
  where
    same_ok : (a b : SnapBody) → ◌≡◌ {A = Result SnapBody ℕ} (Ok a) (Ok b) → a ≡ b
    same_ok a b e = cc
named_once (events.Refer c symbol was entry list ∷ h) lawful = named_once h lawful.1
named_once (events.Put c key body ∷ h) lawful = named_once h lawful.1
named_once (events.Unname c snap ∷ h) lawful = named_once h lawful.1
named_once (events.Drop c key ∷ h) lawful = named_once h lawful.1
