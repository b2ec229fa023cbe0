-- The link of the newest live version: its slots have the stamps of the version's rows, and a new link may share its keys.
use Rattle.std.proofs.Common.{◌≡◌, ℕ, ◌<◌, Bool, true, false, ◌&&◌, not, List, [], ◌∷◌, ◌++◌, refl, ap, sym, ◌∙◌, subst, inl, inr, Option, Some, cond, nat_eq, arith}
use Rattle.std.specs.Prelude.{Contains, filter, fold}
use Rattle.std.specs.List.{AllZip, AllByRecursion, list_any}
use Rattle.std.proofs.lemmas.Bool.{and_from, eq-eqb}
use Rattle.frame_core.specs.Limits.{IsStorable}
use Rattle.key_kind.specs.declared.key.Key.{Key}
use Rattle.key_kind.specs.Names.{Name}
use Rattle.bucket_core.specs.declared.event.Change.{Change}
use Rattle.bucket_core.specs.declared.event.Event.TheVariants as events
use Rattle.bucket_core.specs.History.{History}
use Rattle.store_model.specs.Library.{State, Version, state_of, after_changes, after_change, number_after, is_buried, is_live, first_of}
use Rattle.store_model.specs.Links.{Linked, links, links_at, links_of, reaches}
use Rattle.store_model.specs.Commits.{MayRefer, HasSlotStamps, newest_reaches, MayChange}
use Rattle.store_model.specs.Law.{IsLawful}
use Rattle.store_model.proofs.Lists.{contains_first, contains_later, contains_cases, contains_none, filter_in, passes}
use Rattle.store_model.proofs.Linking.{refer_makes}
use Rattle.store_model.proofs.Referring.{at_symbol}
use Rattle.store_model.proofs.Numbering.{AreNumbered}
use Rattle.store_model.proofs.Plainly.{is_commit}

-- ---- stamps

-- the slots of a version's link have the stamps of their rows, in a frame that may be written
abbrev pub IsStamped : Linked → Version → Type 0
IsStamped l v = AllByRecursion (HasSlotStamps v.frame) l.index.slots × IsStorable v.frame

refer_stamps : (h : History) (client : ℕ) (symbol : Name) (was : Option Key) (entry : Key) (list : List Change) → MayChange h client symbol was entry list → AllZip IsStamped (links h symbol) (state_of h symbol).versions
    → AllZip IsStamped (links_at h entry ++ links h symbol) (fold after_change (state_of h symbol) list).versions
refer_stamps h client symbol was entry list may z =
    let here = ap (links_of h) may.spelled in
    elim (refer_makes h client symbol may.row list may.form may.fits) [
      | inl none ↦
          let no : links_at h entry ++ links h symbol ≡ links h symbol = ap (λ ls. ls ++ links h symbol) (here ∙ none.links) in
          subst (λ vs. AllZip IsStamped (links_at h entry ++ links h symbol) vs) (sym none.versions) (subst (λ ls. AllZip IsStamped ls (state_of h symbol).versions) (sym no) z)
      | inr one ↦
          let more : links_at h entry ++ links h symbol ≡ one.fits.link ∷ links h symbol = ap (λ ls. ls ++ links h symbol) (here ∙ one.links) in
          subst (λ vs. AllZip IsStamped (links_at h entry ++ links h symbol) vs) (sym one.versions)
          (subst (λ ls. AllZip IsStamped ls (one.made ∷ (state_of h symbol).versions)) (sym more) ((one.fits.stamps, one.fits.storable), z))
    ]

-- each link of a lawful history has its slots' stamps
pub links_stamped : (h : History) (symbol : Name) → IsLawful h → AllZip IsStamped (links h symbol) (state_of h symbol).versions
links_stamped [] symbol l = tt
links_stamped (events.Refer c s was entry list ∷ h) symbol l =
    at_symbol s symbol (λ t. AllZip IsStamped (cond t (links_at h entry ++ links h symbol) (links h symbol)) (cond t (after_changes (state_of h symbol) list) (state_of h symbol)).versions)
    (λ e. refer_stamps h c symbol was entry list (is_commit h c symbol was entry list (subst (λ n. MayRefer h c n was entry list) e l.0.1)) (links_stamped h symbol l.1)) (links_stamped h symbol l.1)
links_stamped (events.Put c key body ∷ h) symbol l = links_stamped h symbol l.1
links_stamped (events.Name c snap body ∷ h) symbol l = links_stamped h symbol l.1
links_stamped (events.Unname c snap ∷ h) symbol l = links_stamped h symbol l.1
links_stamped (events.Drop c key ∷ h) symbol l = links_stamped h symbol l.1

-- ---- the newest live link

-- the number of each version is below the one behind the newest
below_after : (vs : List Version) (v : Version) → AreNumbered vs → Contains vs v → v.number < number_after vs
below_after [] v n c = absurd (contains_none v c)
below_after (w ∷ older) v n c = elim (contains_cases v w older c) [
  | inl e ↦ let same : w.number ≡ v.number = ap (λ (x : Version). x.number) e in omega (arith, same)
  | inr d ↦ let less = below_after older v n.1 d in omega (arith, less, n.0)
]

-- each link that is zipped with versions has the number of one of them
zipped_version : (ls : List Linked) (vs : List Version) (l : Linked) → AllZip (λ (l : Linked) (v : Version). l.row.version ≡ v.number) ls vs → Contains ls l → (v : Version) × Contains vs v × (l.row.version ≡ v.number)
zipped_version [] vs l z c = absurd (contains_none l c)
zipped_version (k ∷ ls) [] l z c = absurd z
zipped_version (k ∷ ls) (v ∷ vs) l z c = elim (contains_cases l k ls c) [
  | inl e ↦ (v, contains_first v vs, ap (λ (x : Linked). x.row.version) (sym e) ∙ z.0)
  | inr d ↦ let r = zipped_version ls vs l z.1 d in (r.0, contains_later r.0 v vs r.1, r.2)
]

-- the newest live version is among those that are not buried
pub first_in : (xs : List Version) (v : Version) → first_of xs ≡ Some v → Contains xs v
first_in [] v e = absurd cc
first_in (x ∷ xs) v e = let same : x ≡ v = cc in subst (λ y. Contains (x ∷ xs) y) same (contains_first x xs)

-- what is said of each link and its version holds of the newest live version's link; and the newest live link is that one
module _ (R : Linked → Version → Type 0) (st : State) (base : Version) (l : Linked) (number : l.row.version ≡ base.number) where
  abbrev not_buried : Version → Bool
  not_buried v = not (is_buried st v.number)

  -- the link of the first version that is not buried goes with it, and reaches what the newest live link reaches
  pub base_link : (ls : List Linked) (vs : List Version) → AllZip R ls vs → AllZip (λ (l : Linked) (v : Version). l.row.version ≡ v.number) ls vs → ((v : Version) → Contains vs v → Contains st.versions v) → AreNumbered vs
      → first_of (filter not_buried vs) ≡ Some base → Contains ls l → R l base × ((key : Key) → newest_reaches st ls key ≡ reaches l key)
  base_link [] vs r z among n first c = absurd (contains_none l c)
  base_link (k ∷ ls) [] r z among n first c = absurd z
  base_link (k ∷ ls) (v ∷ vs) r z among n first c =
      elim (not_buried v) as (λ t. not_buried v ≡ t → first_of (cond t (v ∷ filter not_buried vs) (filter not_buried vs)) ≡ Some base → R l base × ((key : Key) → newest_reaches st (k ∷ ls) key ≡ reaches l key)) [
        | true ↦ λ live e.
            let is : v ≡ base = cc in
            let linked : list_any (λ (w : Version). nat_eq k.row.version w.number) st.versions ≡ true = passes (λ (w : Version). nat_eq k.row.version w.number) st.versions v (among v (contains_first v vs)) (eq-eqb k.row.version v.number z.0) in
            let lives : is_live st k.row.version ≡ true = and_from _ _ linked (ap (λ m. not (is_buried st m)) z.0 ∙ live) in
            elim (contains_cases l k ls c) [
              | inl same ↦ (
                subst (λ w. R l w) is (subst (λ x. R x v) same r.0),
                λ key. ap (λ t. cond t (reaches k key) (newest_reaches st ls key)) lives ∙ ap (λ (x : Linked). reaches x key) same,
              )
              | inr older ↦
                  let w = zipped_version ls vs l z.1 older in
                  let less = below_after vs w.0 n.1 w.1 in
                  let at : v.number ≡ base.number = ap (λ (x : Version). x.number) is in
                  absurd (omega (arith, less, w.2, number, at, n.0))
            ]
        | false ↦ λ dead e.
            let buried : is_live st k.row.version ≡ false = and_last _ _ (ap (λ m. not (is_buried st m)) z.0 ∙ dead) in
            let in_rest = (filter_in not_buried vs base (first_in (filter not_buried vs) base e)).0 in
            let less = below_after vs base n.1 in_rest in
            elim (contains_cases l k ls c) [
              | inl same ↦
                  let at : k.row.version ≡ l.row.version = ap (λ (x : Linked). x.row.version) same in
                  absurd (omega (arith, less, at, number, z.0, n.0))
              | inr older ↦
                  let rest = base_link ls vs r.1 z.1 (λ w d. among w (contains_later w v vs d)) n.1 e older in
                  (rest.0, λ key. ap (λ t. cond t (reaches k key) (newest_reaches st ls key)) buried ∙ rest.1 key)
            ]
      ] refl first
    where
      and_last : (a b : Bool) → b ≡ false → (a && b) ≡ false
      and_last true b e = e
      and_last false b e = refl
