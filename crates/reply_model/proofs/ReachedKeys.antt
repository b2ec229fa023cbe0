-- Which links reach a key of the symbol.
use Rattle.std.proofs.Common.{◌≡◌, Bool, true, false, refl, sym, ◌∙◌, ap, subst}
use Rattle.std.specs.Prelude.{◌&&◌, Contains, is_some}
use Rattle.std.proofs.lemmas.Bool.{true≢false, and_from}
use Rattle.key_kind.specs.Names.{Name}
use Rattle.key_kind.specs.declared.key.Key.{Key}
use Rattle.bucket_core.specs.History.{History, stored}
use Rattle.store_model.specs.Library.{state_of, is_kept}
use Rattle.store_model.specs.Law.{IsLawful}
use Rattle.store_model.specs.Links.{Linked, links, reached, reaches, is_needed, is_reached, is_reached_by_needed}
use Rattle.store_model.proofs.Lists.{one_passes, passes}
use Rattle.store_model.proofs.Dropping.{reaches_it, it_is_reached}
use Rattle.store_model.proofs.Lawful.{lawful_is_intact}

pub both_true : (x y : Bool) → (x && y) ≡ true → (x ≡ true) × (y ≡ true)
both_true true y f = (refl, f)
both_true false y f = absurd (true≢false (sym f))

-- two tests that pass together are the same
pub same_test : (a b : Bool) → (a ≡ true → b ≡ true) → (b ≡ true → a ≡ true) → a ≡ b
same_test true b f g = sym (f refl)
same_test false true f g = g refl
same_test false false f g = refl

pub not_passing : (a : Bool) → (a ≡ true → ⊥) → a ≡ false
not_passing true f = absurd (f refl)
not_passing false f = refl

module _ (h : History) (symbol : Name) (key : Key) (name : key.name ≡ symbol) where
  pub reaching : (l : Linked) → Contains (links h symbol) l → Contains (reached l) key → is_reached h key ≡ true
  reaching l there reach = passes (λ (x : Linked). reaches x key) (links h key.name) l (subst (λ n. Contains (links h n) l) (sym name) there) (reaches_it l key reach)

  pub reached_by : is_reached h key ≡ true → (l : Linked) × Contains (links h symbol) l × Contains (reached l) key
  reached_by e =
      let r = one_passes (λ (x : Linked). reaches x key) (links h key.name) e in (r.0, subst (λ n. Contains (links h n) r.0) name r.1, it_is_reached r.0 key r.2)

  pub not_needed : ((l : Linked) → Contains (links h symbol) l → is_kept (state_of h symbol) l.row.version ≡ true → Contains (reached l) key → ⊥) → is_reached_by_needed h key ≡ false
  not_needed none = not_passing (is_reached_by_needed h key) (λ e.
      let r = one_passes (λ (x : Linked). is_needed (state_of h key.name) x && reaches x key) (links h key.name) e in
      let parts = both_true (is_needed (state_of h key.name) r.0) (reaches r.0 key) r.2 in
      none r.0 (subst (λ n. Contains (links h n) r.0) name r.1) (subst (λ n. is_kept (state_of h n) r.0.row.version ≡ true) name parts.0) (it_is_reached r.0 key parts.1))

  pub no_needed : is_reached_by_needed h key ≡ false → (l : Linked) → Contains (links h symbol) l → is_kept (state_of h symbol) l.row.version ≡ true → Contains (reached l) key → ⊥
  no_needed unneeded l there kept reach =
      true≢false (sym (passes (λ (x : Linked). is_needed (state_of h key.name) x && reaches x key) (links h key.name) l (subst (λ n. Contains (links h n) l) (sym name) there)
      (and_from (is_needed (state_of h key.name) l) (reaches l key) (subst (λ n. is_kept (state_of h n) l.row.version ≡ true) (sym name) kept) (reaches_it l key reach))) ∙ unneeded)

-- what a live or held link reaches is stored
pub needed_stands : (h : History) (symbol : Name) (l : Linked) (key : Key) → IsLawful h → Contains (links h symbol) l → is_kept (state_of h symbol) l.row.version ≡ true → Contains (reached l) key
    → is_some (stored h key) ≡ true
needed_stands h symbol l key lawful there kept reach = let s = (lawful_is_intact h lawful).needed symbol l key there kept reach in ap (λ o. is_some o) s.stands
