-- The rows of a walked state are those that the library answers.
use Rattle.std.proofs.Common.{◌≡◌, ℕ, ◌+◌, Bool, true, false, not, ◌||◌, List, [], ◌∷◌, ◌++◌, map, reverse, refl, ap, sym, ◌∙◌, cond, nat_eq, Ok, Err, arith}
use Rattle.std.specs.Prelude.{count_by, is_some}
use Rattle.std.specs.List.{AllZip, list_any}
use Rattle.std.proofs.lemmas.List.{reverse-append}
use Rattle.std.proofs.lemmas.Bool.Decides.{nat_tests}
use denote.Struct.Props.{props}
use mathlib.Core.Logic.{∥∥₁_elim}
use Rattle.segment_cut.proofs.Lists.{count_by-cons, count_by-map}
use Rattle.frame_core.specs.declared.refusal.Refusal.{Refusal}
use Rattle.frame_core.specs.declared.refusal.Refusal.TheVariants as refusals
use Rattle.key_kind.specs.Names.{Name}
use Rattle.bucket_core.specs.History.{History}
use Rattle.store_model.specs.declared.chain.LinkRow.{LinkRow}
use Rattle.store_model.specs.declared.hold.HoldRow.{HoldRow}
use Rattle.store_model.specs.Intact.{IsLinkOf}
use Rattle.store_model.specs.Library.{State, Version, Hold, state_of}
use Rattle.store_model.specs.Links.{Linked, links}
use Rattle.store_model.specs.Law.{IsLawful}
use Rattle.store_model.proofs.Lawful.{lawful_is_intact}
use Rattle.version_chain.specs.declared.state.SymbolState.{SymbolState}
use Rattle.version_chain.specs.States.{IsStateOf, IsLookRefusal, hold_of}
use Rattle.reply_model.specs.declared.outcome.VersionRow.{VersionRow}
use Rattle.reply_model.specs.declared.outcome.Outcome.TheVariants as outcomes
use Rattle.reply_model.specs.Answering.{Answer, refuse_if}
use Rattle.reply_model.specs.ReadAnswers.{version_row, versions_answer}
use Rattle.frame_read.specs.Versions.{row_in, IsVersionsRefusal}
use Rattle.frame_read.proofs.ChoosingLemmas.{has_reference_told}

-- ---- the rows

none_counted : (n : ℕ) (ns : List ℕ) → nat_eq (count_by (nat_eq n) ns) 0 ≡ not (list_any (nat_eq n) ns)
none_counted n [] = refl
none_counted n (m ∷ ns) =
    ap (λ k. nat_eq k 0) (count_by-cons (nat_eq n) m ns)
    ∙ (elim (nat_eq n m) as (λ b. nat_eq (cond b 1 0 + count_by (nat_eq n) ns) 0 ≡ not (b || list_any (nat_eq n) ns)) [
      | true ↦ grind (arith, nat_tests)
      | false ↦ ap (λ k. nat_eq k 0) (zero_plus (count_by (nat_eq n) ns)) ∙ none_counted n ns
    ])
  where
    zero_plus : (k : ℕ) → 0 + k ≡ k
    zero_plus k = omega arith

map_reversed : {X Y : Type 0} (f : X → Y) (xs : List X) → map f (reverse xs) ≡ reverse (map f xs)
map_reversed f [] = refl
map_reversed f (x ∷ xs) =
    ap (map f) (reverse-append (x ∷ []) xs)
    ∙ (map_append f (reverse xs) (x ∷ [])
    ∙ (ap (λ l. l ++ f x ∷ []) (map_reversed f xs) ∙ sym (reverse-append (f x ∷ []) (map f xs))))
  where
    map_append : {X Y : Type 0} (f : X → Y) (xs ys : List X) → map f (xs ++ ys) ≡ map f xs ++ map f ys
    map_append f [] ys = refl
    map_append f (x ∷ xs) ys = ap (λ l. f x ∷ l) (map_append f xs ys)

module _ (st : State) (state : SymbolState) (tombs : state.tombs ≡ st.buried) (holds : map hold_of state.holds ≡ st.holds) where
  row_is : (row : LinkRow) (v : Version) → row.version ≡ v.number → row.stamp ≡ v.stamp → row_in state row ≡ version_row st v
  row_is row v number stamp = λ i. record { version = number i; stamp = stamp i; live = (live ∙ alive) i; holds = (held ∙ counted) i }
    where
      live : nat_eq (count_by (nat_eq row.version) state.tombs) 0 ≡ not (list_any (nat_eq row.version) st.buried)
      live = none_counted row.version state.tombs ∙ ap (λ ts. not (list_any (nat_eq row.version) ts)) tombs

      alive : not (list_any (nat_eq row.version) st.buried) ≡ not (list_any (nat_eq v.number) st.buried)
      alive = ap (λ n. not (list_any (nat_eq n) st.buried)) number

      held : count_by (λ (hold : HoldRow). nat_eq row.version hold.version) state.holds ≡ count_by (λ (w : Hold). nat_eq row.version w.version) st.holds
      held = sym (count_by-map (λ (w : Hold). nat_eq row.version w.version) hold_of state.holds) ∙ ap (count_by (λ (w : Hold). nat_eq row.version w.version)) holds

      counted : count_by (λ (w : Hold). nat_eq row.version w.version) st.holds ≡ count_by (λ (w : Hold). nat_eq v.number w.version) st.holds
      counted = ap (λ n. count_by (λ (w : Hold). nat_eq n w.version) st.holds) number

  rows_zip : (ls : List Linked) (vs : List Version) → AllZip IsLinkOf ls vs → map (row_in state) (map (λ (l : Linked). l.row) ls) ≡ map (version_row st) vs
  rows_zip [] [] z = refl
  rows_zip [] (v ∷ vs) z = absurd z
  rows_zip (l ∷ ls) [] z = absurd z
  rows_zip (l ∷ ls) (v ∷ vs) z = λ i. row_is l.row v z.0.number z.0.stamp i ∷ rows_zip ls vs z.1 i

-- the library's answer, from the rows
abbrev pub answer_of : List VersionRow → Answer
answer_of rows = record { outcome = outcomes.Versions rows; marks = [] }

pub versions_told : (h : History) (symbol : Name) (state : SymbolState) → ∥ IsLawful h ∥₁ → IsStateOf h symbol state → is_some state.was ≡ true → versions_answer (state_of h symbol) ≡ Ok (answer_of (map (row_in state) state.links))
versions_told h symbol state lawful is some =
    ap (λ (b : Bool). refuse_if (not b) refusals.NoSuchSymbol (Ok (answer_of (reverse (map (version_row (state_of h symbol)) (state_of h symbol).versions))))) (has_reference_told h symbol ∙ (ap is_some (sym is.was) ∙ some))
    ∙ ap (λ rows. Ok (answer_of rows)) (sym rows_are)
  where
    prop : IsProp (map (row_in state) (map (λ (l : Linked). l.row) (links h symbol)) ≡ map (version_row (state_of h symbol)) (state_of h symbol).versions)
    prop = hlevel props

    rows_are : map (row_in state) state.links ≡ reverse (map (version_row (state_of h symbol)) (state_of h symbol).versions)
    rows_are =
        ap (map (row_in state)) is.links
        ∙ (map_reversed (row_in state) (map (λ (l : Linked). l.row) (links h symbol))
        ∙ ap reverse (∥∥₁_elim lawful prop (λ l. rows_zip (state_of h symbol) state is.tombs is.holds (links h symbol) (state_of h symbol).versions ((lawful_is_intact h l).versions symbol))))

pub unreferred_told : (h : History) (symbol : Name) (state : SymbolState) → IsStateOf h symbol state → is_some state.was ≡ false → versions_answer (state_of h symbol) ≡ Err refusals.NoSuchSymbol
unreferred_told h symbol state is none =
    ap (λ (b : Bool). refuse_if (not b) refusals.NoSuchSymbol (Ok (answer_of (reverse (map (version_row (state_of h symbol)) (state_of h symbol).versions))))) (has_reference_told h symbol ∙ (ap is_some (sym is.was) ∙ none))

-- ---- the walk was refused

pub look_refuses : (before now : ℕ) (h : History) (symbol : Name) (why : Refusal) → IsLookRefusal before now why → IsVersionsRefusal before now h symbol why
look_refuses before now h symbol refusals.NoMemory c = tt
look_refuses before now h symbol refusals.StoreFault c = c
look_refuses before now h symbol why c = absurd c
