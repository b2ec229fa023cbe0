-- The slots of each link have the stamps of their rows.
use Rattle.std.proofs.Common.{◌≡◌, ℕ, List, [], ◌∷◌, ◌++◌, sym, ap, ◌∙◌, subst, cond, inl, inr, Option}
use Rattle.std.specs.Prelude.{fold}
use Rattle.std.specs.List.{AllZip, AllByRecursion}
use Rattle.frame_core.specs.Limits.{IsStorable}
use Rattle.key_kind.specs.declared.key.Key.{Key}
use Rattle.key_kind.specs.Names.{Name}
use Rattle.bucket_core.specs.declared.event.Change.{Change}
use Rattle.bucket_core.specs.declared.event.Event.TheVariants as events
use Rattle.bucket_core.specs.History.{History}
use Rattle.store_model.specs.Library.{Version, state_of, after_change, after_changes}
use Rattle.store_model.specs.Links.{Linked, links, links_at, links_of}
use Rattle.store_model.specs.Commits.{MayRefer, HasSlotStamps, MayChange}
use Rattle.store_model.specs.Law.{IsLawful}
use Rattle.store_model.proofs.Linking.{refer_makes}
use Rattle.store_model.proofs.Referring.{at_symbol}
use Rattle.store_model.proofs.Plainly.{is_commit}

-- the version's frame may be stored, and each slot of the link has the first and last stamp of its rows
pub record IsStamped (l : Linked) (v : Version) : Type 0 where
  pub storable : IsStorable v.frame
  pub stamps : AllByRecursion (HasSlotStamps v.frame) l.index.slots

stamped_here : (h : History) (client : ℕ) (symbol : Name) (was : Option Key) (entry : Key) (list : List Change) → MayChange h client symbol was entry list
    → AllZip IsStamped (links h symbol) (state_of h symbol).versions → AllZip IsStamped (links_at h entry ++ links h symbol) (fold after_change (state_of h symbol) list).versions
stamped_here h client symbol was entry list may before = elim (refer_makes h client symbol may.row list may.form may.fits) [
  | inl none ↦
      let no : links_at h entry ++ links h symbol ≡ links h symbol = ap (λ ls. ls ++ links h symbol) (ap (links_of h) may.spelled ∙ none.links) in
      subst (λ vs. AllZip IsStamped (links_at h entry ++ links h symbol) vs) (sym none.versions) (subst (λ ls. AllZip IsStamped ls (state_of h symbol).versions) (sym no) before)
  | inr one ↦
      let more : links_at h entry ++ links h symbol ≡ one.fits.link ∷ links h symbol = ap (λ ls. ls ++ links h symbol) (ap (links_of h) may.spelled ∙ one.links) in
      subst (λ vs. AllZip IsStamped (links_at h entry ++ links h symbol) vs) (sym one.versions)
      (subst (λ ls. AllZip IsStamped ls (one.made ∷ (state_of h symbol).versions)) (sym more) (record { storable = one.fits.storable; stamps = one.fits.stamps }, before))
]

-- in a lawful history each link is so
pub lawful_is_stamped : (h : History) → IsLawful h → (symbol : Name) → AllZip IsStamped (links h symbol) (state_of h symbol).versions
lawful_is_stamped [] lawful symbol = tt
lawful_is_stamped (events.Put c key body ∷ h) lawful symbol = lawful_is_stamped h lawful.1 symbol
lawful_is_stamped (events.Refer c s was entry list ∷ h) lawful symbol =
    at_symbol s symbol (λ t. AllZip IsStamped (cond t (links_at h entry ++ links h symbol) (links h symbol)) (cond t (after_changes (state_of h symbol) list) (state_of h symbol)).versions)
    (λ e. stamped_here h c symbol was entry list (is_commit h c symbol was entry list (subst (λ n. MayRefer h c n was entry list) e lawful.0.1)) (lawful_is_stamped h lawful.1 symbol))
    (lawful_is_stamped h lawful.1 symbol)
lawful_is_stamped (events.Name c snap body ∷ h) lawful symbol = lawful_is_stamped h lawful.1 symbol
lawful_is_stamped (events.Unname c snap ∷ h) lawful symbol = lawful_is_stamped h lawful.1 symbol
lawful_is_stamped (events.Drop c key ∷ h) lawful symbol = lawful_is_stamped h lawful.1 symbol
