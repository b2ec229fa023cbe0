-- The live links of a symbol's state are the live versions of the library.
use Rattle.std.proofs.Common.{◌≡◌, ℕ, true, false, cond, not, List, [], ◌∷◌, map, reverse, refl, ap, ◌∙◌, Some, nat_eq}
use Rattle.std.specs.Prelude.{find, filter, option_map}
use Rattle.std.specs.List.{AllZip, list_any}
use mathlib.Core.List.{reverse_aux}
use Rattle.key_kind.specs.Names.{Name}
use Rattle.bucket_core.specs.History.{History}
use Rattle.store_model.specs.declared.chain.LinkRow.{LinkRow}
use Rattle.store_model.specs.Intact.{IsLinkOf}
use Rattle.store_model.specs.Library.{Version, state_of, base_of, first_of}
use Rattle.store_model.specs.Links.{Linked, links}
use Rattle.store_model.specs.Law.{IsLawful}
use Rattle.store_model.proofs.Lawful.{lawful_is_intact}
use Rattle.version_chain.specs.declared.state.SymbolState.{SymbolState}
use Rattle.version_chain.specs.States.{IsStateOf, is_tomb, newest_link}

reverse_reverse : {A : Type 0} (xs : List A) → reverse (reverse xs) ≡ xs
reverse_reverse {A} xs = onto xs []
  where
    onto : (xs more : List A) → reverse_aux (reverse_aux xs more) [] ≡ reverse_aux more xs
    onto [] more = refl
    onto (x ∷ xs) more = onto xs (x ∷ more)

-- the first live link has the number of the first live version
first_live : (tombs : List ℕ) (ls : List Linked) (vs : List Version) → AllZip IsLinkOf ls vs
    → option_map (λ (row : LinkRow). row.version) (find (λ (row : LinkRow). not (is_tomb tombs row.version)) (map (λ (l : Linked). l.row) ls))
    ≡ option_map (λ (v : Version). v.number) (first_of (filter (λ (v : Version). not (list_any (nat_eq v.number) tombs)) vs))
first_live tombs [] [] z = refl
first_live tombs [] (v ∷ vs) z = absurd z
first_live tombs (l ∷ ls) [] z = absurd z
first_live tombs (l ∷ ls) (v ∷ vs) z =
    let same : not (is_tomb tombs l.row.version) ≡ not (list_any (nat_eq v.number) tombs) = ap (λ n. not (list_any (nat_eq n) tombs)) z.0.number in
    ap (λ b. option_map (λ (row : LinkRow). row.version) (cond b (Some l.row) (find (λ (row : LinkRow). not (is_tomb tombs row.version)) (map (λ (k : Linked). k.row) ls)))) same
    ∙ (elim (not (list_any (nat_eq v.number) tombs)) as (λ b. option_map (λ (row : LinkRow). row.version) (cond b (Some l.row) (find (λ (row : LinkRow). not (is_tomb tombs row.version)) (map (λ (k : Linked). k.row) ls)))
    ≡ option_map (λ (w : Version). w.number) (first_of (cond b (v ∷ filter (λ (w : Version). not (list_any (nat_eq w.number) tombs)) vs) (filter (λ (w : Version). not (list_any (nat_eq w.number) tombs)) vs)))) [
      | true ↦ ap (λ (n : ℕ). Some n) z.0.number
      | false ↦ first_live tombs ls vs z.1
    ])

-- the newest live link is the base of the library
pub newest_is_base : (g : History) (symbol : Name) (state : SymbolState) → IsLawful g → IsStateOf g symbol state
    → option_map (λ (row : LinkRow). row.version) (newest_link state) ≡ option_map (λ (v : Version). v.number) (base_of (state_of g symbol))
newest_is_base g symbol state lawful s =
    let tombs : state.tombs ≡ (state_of g symbol).buried = s.tombs in
    ap (λ (rows : List LinkRow). option_map (λ (row : LinkRow). row.version) (find (λ (row : LinkRow). not (is_tomb state.tombs row.version)) rows))
    (ap reverse s.links ∙ reverse_reverse (map (λ (l : Linked). l.row) (links g symbol)))
    ∙ (ap (λ (ts : List ℕ). option_map (λ (row : LinkRow). row.version) (find (λ (row : LinkRow). not (is_tomb ts row.version)) (map (λ (l : Linked). l.row) (links g symbol)))) tombs
    ∙ first_live (state_of g symbol).buried (links g symbol) (state_of g symbol).versions ((lawful_is_intact g lawful).versions symbol))
