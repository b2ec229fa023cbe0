-- The newest live link is that of the newest live version, whose frame its index tells.
use Rattle.std.proofs.Common.{◌≡◌, ℕ, Bool, true, false, not, List, [], ◌∷◌, ◌++◌, length, map, cond, refl, sym, ap, ◌∙◌, subst, inl, inr, Option, Some, None}
use Rattle.std.specs.Prelude.{Contains, find, filter, fold, nat_eq}
use Rattle.std.specs.Option.{option_map_or}
use Rattle.std.specs.List.{AllZip, AllByRecursion}
use Rattle.std.proofs.lemmas.Bool.{true≢false, eq-eqb, ne_eqb}
use mathlib.Core.Logic.{∥∥₁_elim, ∥∥₁_map}
use mathlib.Core.HLevel.{⊥_prop}
use denote.Struct.Props.{props}
use Rattle.frame_core.specs.Schemas.{Schema}
use Rattle.index_tree.specs.declared.index.Index.{Index}
use Rattle.index_tree.specs.IndexRules.{IsIndex}
use Rattle.key_kind.specs.declared.key.Key.{Key}
use Rattle.key_kind.specs.Names.{Name}
use Rattle.bucket_core.specs.declared.event.Change.{Change}
use Rattle.bucket_core.specs.declared.event.Event.TheVariants as events
use Rattle.bucket_core.specs.History.{History}
use Rattle.store_model.specs.declared.chain.LinkRow.{LinkRow}
use Rattle.store_model.specs.Library.{Version, state_of, base_of, first_of, is_buried, after_change, after_changes}
use Rattle.store_model.specs.Links.{Linked, links, links_at, links_of}
use Rattle.store_model.specs.Commits.{MayRefer, HasSlotStamps, MayChange}
use Rattle.store_model.specs.Intact.{IsLinkOf}
use Rattle.store_model.specs.Law.{IsLawful}
use Rattle.store_model.proofs.Lawful.{lawful_is_intact}
use Rattle.store_model.proofs.Linking.{refer_makes}
use Rattle.store_model.proofs.Referring.{at_symbol}
use Rattle.store_model.proofs.Lists.{contains_first, contains_later}
use Rattle.store_model.proofs.Plainly.{is_commit}
use Rattle.version_chain.specs.declared.tip.ChainTip.{ChainTip}
use Rattle.version_chain.specs.States.{is_tomb}
use Rattle.version_chain.specs.Tips.{IsTipOf}
use Rattle.reply_model.specs.Keyed.{block_keys}
use Rattle.reply_model.specs.Standing.{row_sizes, rows_of_version, base_rows, keys_of_version, base_keys}
use Rattle.frame_read.proofs.StampLemmas.{IsStamped, lawful_is_stamped}
use Rattle.append_update.specs.Shares.{slots_of_version, base_slots}
use Rattle.append_update.specs.Newest.{IsNewest}
use Rattle.append_update.proofs.ToldLemmas.{Told, told_prop, told_all, storable_told, stamps_told}

-- ---- the index of each link has the rows of its version's frame

-- the index tells the number of rows
pub record IsCounted (l : Linked) (v : Version) : Type 0 where
  pub rows : l.index.rows ≡ length v.frame.rows

counted_here : (h : History) (client : ℕ) (symbol : Name) (was : Option Key) (entry : Key) (list : List Change) → MayChange h client symbol was entry list
    → AllZip IsCounted (links h symbol) (state_of h symbol).versions → AllZip IsCounted (links_at h entry ++ links h symbol) (fold after_change (state_of h symbol) list).versions
counted_here h client symbol was entry list may before = elim (refer_makes h client symbol may.row list may.form may.fits) [
  | inl none ↦
      let no : links_at h entry ++ links h symbol ≡ links h symbol = ap (λ ls. ls ++ links h symbol) (ap (links_of h) may.spelled ∙ none.links) in
      subst (λ vs. AllZip IsCounted (links_at h entry ++ links h symbol) vs) (sym none.versions) (subst (λ ls. AllZip IsCounted ls (state_of h symbol).versions) (sym no) before)
  | inr one ↦
      let more : links_at h entry ++ links h symbol ≡ one.fits.link ∷ links h symbol = ap (λ ls. ls ++ links h symbol) (ap (links_of h) may.spelled ∙ one.links) in
      subst (λ vs. AllZip IsCounted (links_at h entry ++ links h symbol) vs) (sym one.versions)
      (subst (λ ls. AllZip IsCounted ls (one.made ∷ (state_of h symbol).versions)) (sym more) (record { rows = one.fits.index_rows }, before))
]

lawful_is_counted : (h : History) → IsLawful h → (symbol : Name) → AllZip IsCounted (links h symbol) (state_of h symbol).versions
lawful_is_counted [] lawful symbol = tt
lawful_is_counted (events.Put c key body ∷ h) lawful symbol = lawful_is_counted h lawful.1 symbol
lawful_is_counted (events.Refer c s was entry list ∷ h) lawful symbol =
    at_symbol s symbol (λ t. AllZip IsCounted (cond t (links_at h entry ++ links h symbol) (links h symbol)) (cond t (after_changes (state_of h symbol) list) (state_of h symbol)).versions)
    (λ e. counted_here h c symbol was entry list (is_commit h c symbol was entry list (subst (λ n. MayRefer h c n was entry list) e lawful.0.1)) (lawful_is_counted h lawful.1 symbol))
    (lawful_is_counted h lawful.1 symbol)
lawful_is_counted (events.Name c snap body ∷ h) lawful symbol = lawful_is_counted h lawful.1 symbol
lawful_is_counted (events.Unname c snap ∷ h) lawful symbol = lawful_is_counted h lawful.1 symbol
lawful_is_counted (events.Drop c key ∷ h) lawful symbol = lawful_is_counted h lawful.1 symbol

-- ---- links one for one with versions

-- all that is known of a link and its version
pub record IsPaired (l : Linked) (v : Version) : Type 0 where
  pub link : IsLinkOf l v
  pub stamped : IsStamped l v
  pub counted : IsCounted l v

paired : (ls : List Linked) (vs : List Version) → AllZip IsLinkOf ls vs → AllZip IsStamped ls vs → AllZip IsCounted ls vs → AllZip IsPaired ls vs
paired [] [] a b c = tt
paired [] (v ∷ vs) a b c = absurd a
paired (l ∷ ls) [] a b c = absurd a
paired (l ∷ ls) (v ∷ vs) a b c = (record { link = a.0; stamped = b.0; counted = c.0 }, paired ls vs a.1 b.1 c.1)

lawful_is_paired : (h : History) (symbol : Name) → ∥ IsLawful h ∥₁ → ∥ AllZip IsPaired (links h symbol) (state_of h symbol).versions ∥₁
lawful_is_paired h symbol lawful = ∥∥₁_map lawful (λ l. paired (links h symbol) (state_of h symbol).versions ((lawful_is_intact h l).versions symbol) (lawful_is_stamped h l symbol) (lawful_is_counted h l symbol))

nat_told : (a b : ℕ) → Told (a ≡ b)
nat_told a b = told_prop (hlevel props)

schema_told : (a b : Schema) → Told (a ≡ b)
schema_told a b = told_prop (hlevel props)

-- ---- the first that is not buried, in both

module _ (tombs : List ℕ) where
  abbrev lives : ℕ → Bool
  lives n = not (is_tomb tombs n)

  -- the newest live link, with its version
  record First (ls : List Linked) (vs : List Version) (row : LinkRow) : Type 0 where
    pub link : Linked
    pub version : Version
    pub link_is : Contains ls link
    pub row_is : link.row ≡ row
    pub first : first_of (filter (λ (v : Version). lives v.number) vs) ≡ Some version
    pub pair : ∥ IsPaired link version ∥₁
    pub live : lives row.version ≡ true
    pub found : find (λ (l : Linked). nat_eq row.version l.row.version) ls ≡ Some link

  first_live : (ls : List Linked) (vs : List Version) → ∥ AllZip IsPaired ls vs ∥₁ → (row : LinkRow) → find (λ (r : LinkRow). lives r.version) (map (λ (l : Linked). l.row) ls) ≡ Some row → First ls vs row
  first_live [] vs pairs row e = absurd cc
  first_live (l ∷ ls) [] pairs row e = absurd (∥∥₁_elim pairs ⊥_prop (λ x. x))
  first_live (l ∷ ls) (v ∷ vs) pairs row e = by (first_live ls vs (∥∥₁_map pairs (λ p. p.1)) row) (lives l.row.version) refl
    where
      same : l.row.version ≡ v.number
      same = nat_told l.row.version v.number (∥∥₁_map pairs (λ p. p.0.link.number))

      by : (find (λ (r : LinkRow). lives r.version) (map (λ (l : Linked). l.row) ls) ≡ Some row → First ls vs row) → (b : Bool) → lives l.row.version ≡ b → First (l ∷ ls) (v ∷ vs) row
      by rest true live =
          let here : lives v.number ≡ true = ap lives (sym same) ∙ live in
          let found : Some l.row ≡ Some row = sym (ap (λ b. cond b (Some l.row) (find (λ (r : LinkRow). lives r.version) (map (λ (l : Linked). l.row) ls))) live) ∙ e in
          record {
            link = l;
            version = v;
            link_is = contains_first l ls;
            row_is = some_same found;
            first = ap (λ b. first_of (cond b (v ∷ filter (λ (v : Version). lives v.number) vs) (filter (λ (v : Version). lives v.number) vs))) here;
            pair = ∥∥₁_map pairs (λ p. p.0);
            live = subst (λ (r : LinkRow). lives r.version ≡ true) (some_same found) live;
            found = ap (λ b. cond b (Some l) (find (λ (l : Linked). nat_eq row.version l.row.version) ls)) (eq-eqb row.version l.row.version (ap (λ (r : LinkRow). r.version) (sym (some_same found))));
          }
        where
          some_same : {x y : LinkRow} → Some x ≡ Some y → x ≡ y
          some_same e = cc
      by rest false dead =
          let gone : lives v.number ≡ false = ap lives (sym same) ∙ dead in
          let found = rest (sym (ap (λ b. cond b (Some l.row) (find (λ (r : LinkRow). lives r.version) (map (λ (l : Linked). l.row) ls))) dead) ∙ e) in
          record {
            link = found.link;
            version = found.version;
            link_is = contains_later found.link l ls found.link_is;
            row_is = found.row_is;
            first = ap (λ b. first_of (cond b (v ∷ filter (λ (v : Version). lives v.number) vs) (filter (λ (v : Version). lives v.number) vs))) gone ∙ found.first;
            pair = found.pair;
            live = found.live;
            found = ap (λ b. cond b (Some l) (find (λ (l : Linked). nat_eq row.version l.row.version) ls)) (ne_eqb row.version l.row.version (λ e. true≢false (sym found.live ∙ (ap lives e ∙ dead)))) ∙ found.found;
          }

  none_live : (ls : List Linked) (vs : List Version) → ∥ AllZip IsPaired ls vs ∥₁ → find (λ (r : LinkRow). lives r.version) (map (λ (l : Linked). l.row) ls) ≡ None → first_of (filter (λ (v : Version). lives v.number) vs) ≡ None
  none_live [] [] pairs e = refl
  none_live [] (v ∷ vs) pairs e = absurd (∥∥₁_elim pairs ⊥_prop (λ x. x))
  none_live (l ∷ ls) [] pairs e = refl
  none_live (l ∷ ls) (v ∷ vs) pairs e = by (none_live ls vs (∥∥₁_map pairs (λ p. p.1))) (lives l.row.version) refl
    where
      same : l.row.version ≡ v.number
      same = nat_told l.row.version v.number (∥∥₁_map pairs (λ p. p.0.link.number))

      by : (find (λ (r : LinkRow). lives r.version) (map (λ (l : Linked). l.row) ls) ≡ None → first_of (filter (λ (v : Version). lives v.number) vs) ≡ None) → (b : Bool) → lives l.row.version ≡ b
          → first_of (filter (λ (v : Version). lives v.number) (v ∷ vs)) ≡ None
      by rest true live = absurd (clash (sym (ap (λ b. cond b (Some l.row) (find (λ (r : LinkRow). lives r.version) (map (λ (l : Linked). l.row) ls))) live) ∙ e))
        where
          clash : {x : LinkRow} → Some x ≡ None → ⊥
          clash e = cc
      by rest false dead =
          let gone : lives v.number ≡ false = ap lives (sym same) ∙ dead in
          ap (λ b. first_of (cond b (v ∷ filter (λ (v : Version). lives v.number) vs) (filter (λ (v : Version). lives v.number) vs))) gone
          ∙ rest (sym (ap (λ b. cond b (Some l.row) (find (λ (r : LinkRow). lives r.version) (map (λ (l : Linked). l.row) ls))) dead) ∙ e)

-- ---- of a walked tip

newest_found : (h : History) (symbol : Name) (prune : Bool) (tip : ChainTip) → IsTipOf h symbol prune tip → (o : Option LinkRow) → tip.newest ≡ o
    → find (λ (r : LinkRow). not (is_tomb (state_of h symbol).buried r.version)) (map (λ (l : Linked). l.row) (links h symbol)) ≡ o
newest_found h symbol prune tip is o e = sym is.newest ∙ e

-- the newest live version where the tip has none
pub no_newest : (h : History) (symbol : Name) (prune : Bool) (tip : ChainTip) → ∥ IsLawful h ∥₁ → IsTipOf h symbol prune tip → tip.newest ≡ None → base_of (state_of h symbol) ≡ None
no_newest h symbol prune tip lawful is e = none_live (state_of h symbol).buried (links h symbol) (state_of h symbol).versions (lawful_is_paired h symbol lawful) (newest_found h symbol prune tip is None e)

-- what the index of the base's link tells
module _ (h : History) (symbol : Name) (v : Version) (link : Linked) (index : Index) (is : base_of (state_of h symbol) ≡ Some v) (number : link.row.version ≡ v.number)
    (found : find (λ (l : Linked). nat_eq link.row.version l.row.version) (links h symbol) ≡ Some link) (index_is : link.index ≡ index) where
  told_of_base : {X : Type 0} (f : Index → List X) → option_map_or (λ (l : Linked). f l.index) (find (λ (l : Linked). nat_eq v.number l.row.version) (links h symbol)) [] ≡ f index
  told_of_base f =
      ap (λ n. option_map_or (λ (l : Linked). f l.index) (find (λ (l : Linked). nat_eq n l.row.version) (links h symbol)) []) (sym number)
      ∙ (ap (λ o. option_map_or (λ (l : Linked). f l.index) o []) found ∙ ap f index_is)

  -- the base's slots
  base_shows : base_slots h symbol ≡ index.slots
  base_shows = ap (slots_of_version (links h symbol)) is ∙ told_of_base (λ i. i.slots)

  -- the rows of its row blocks
  base_has : base_rows h symbol ≡ row_sizes index.slots
  base_has = ap (rows_of_version (links h symbol)) is ∙ told_of_base (λ i. row_sizes i.slots)

  -- and their keys
  base_keeps : base_keys h symbol ≡ block_keys index.slots
  base_keeps = ap (keys_of_version (links h symbol)) is ∙ told_of_base (λ i. block_keys i.slots)

-- and with one, whose index was put under its key
pub newest_is : (h : History) (symbol : Name) (prune : Bool) (tip : ChainTip) (row : LinkRow) (index : Index) → ∥ IsLawful h ∥₁ → IsTipOf h symbol prune tip → tip.newest ≡ Some row
    → IsIndex index → ((l : Linked) → Contains (links h symbol) l → l.row ≡ row → l.index ≡ index) → (v : Version) × IsNewest h symbol v index × (row.version ≡ v.number)
newest_is h symbol prune tip row index lawful is e rules same =
    let found = first_live (state_of h symbol).buried (links h symbol) (state_of h symbol).versions (lawful_is_paired h symbol lawful) row (newest_found h symbol prune tip is (Some row) e) in
    let index_is : found.link.index ≡ index = same found.link found.link_is found.row_is in
    let v = found.version in
    let number : found.link.row.version ≡ v.number = nat_told found.link.row.version v.number (∥∥₁_map found.pair (λ p. p.link.number)) in
    let link_is : find (λ (l : Linked). nat_eq found.link.row.version l.row.version) (links h symbol) ≡ Some found.link =
    subst (λ n. find (λ (l : Linked). nat_eq n l.row.version) (links h symbol) ≡ Some found.link) (ap (λ (r : LinkRow). r.version) (sym found.row_is)) found.found in (
      v,
      record {
        is = found.first;
        index_of = record {
          storable = storable_told v.frame (∥∥₁_map found.pair (λ p. p.stamped.storable));
          rules = rules;
          schema = schema_told index.schema v.frame.schema (∥∥₁_map found.pair (λ p. ap (λ (i : Index). i.schema) (sym index_is) ∙ p.link.schema));
          rows = nat_told index.rows (length v.frame.rows) (∥∥₁_map found.pair (λ p. ap (λ (i : Index). i.rows) (sym index_is) ∙ p.counted.rows));
          stamps = told_all (HasSlotStamps v.frame) (stamps_told v.frame) index.slots (∥∥₁_map found.pair (λ p. subst (λ (i : Index). AllByRecursion (HasSlotStamps v.frame) i.slots) index_is p.stamped.stamps));
        };
        link = found.link;
        link_is = found.link_is;
        number = number;
        index_is = index_is;
        slots_are = base_shows h symbol v found.link index found.first number link_is index_is;
        rows_are = base_has h symbol v found.link index found.first number link_is index_is;
        keys_are = base_keeps h symbol v found.link index found.first number link_is index_is;
        tiled = ∥∥₁_map found.pair (λ p. p.link.assembled);
      },
      sym (ap (λ (r : LinkRow). r.version) found.row_is) ∙ number,
    )

-- also where its index was not read
pub newest_numbered : (h : History) (symbol : Name) (prune : Bool) (tip : ChainTip) (row : LinkRow) → ∥ IsLawful h ∥₁ → IsTipOf h symbol prune tip → tip.newest ≡ Some row
    → (v : Version) × (base_of (state_of h symbol) ≡ Some v) × (row.version ≡ v.number)
newest_numbered h symbol prune tip row lawful is e =
    let found = first_live (state_of h symbol).buried (links h symbol) (state_of h symbol).versions (lawful_is_paired h symbol lawful) row (newest_found h symbol prune tip is (Some row) e) in
    let number : found.link.row.version ≡ found.version.number = nat_told found.link.row.version found.version.number (∥∥₁_map found.pair (λ p. p.link.number)) in
    (found.version, found.first, sym (ap (λ (r : LinkRow). r.version) found.row_is) ∙ number)

-- the newest live link is a link of the symbol, and its version is not buried
pub newest_linked : (h : History) (symbol : Name) (prune : Bool) (tip : ChainTip) (row : LinkRow) → ∥ IsLawful h ∥₁ → IsTipOf h symbol prune tip → tip.newest ≡ Some row
    → ((l : Linked) × Contains (links h symbol) l × (l.row ≡ row)) × (is_buried (state_of h symbol) row.version ≡ false)
newest_linked h symbol prune tip row lawful is e =
    let found = first_live (state_of h symbol).buried (links h symbol) (state_of h symbol).versions (lawful_is_paired h symbol lawful) row (newest_found h symbol prune tip is (Some row) e) in
    ((found.link, found.link_is, found.row_is), not_true (is_tomb (state_of h symbol).buried row.version) found.live)
  where
    not_true : (b : Bool) → not b ≡ true → b ≡ false
    not_true true e = absurd (true≢false (sym e))
    not_true false e = refl
