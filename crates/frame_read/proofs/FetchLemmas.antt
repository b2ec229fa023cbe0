-- The objects that a link reaches, and what it means that one is gone.
use Rattle.std.proofs.Common.{◌≡◌, ℕ, ◌+◌, true, false, not, ◌&&◌, List, [], ◌∷◌, ◌++◌, map, length, refl, sym, ap, ◌∙◌, subst, cond, inl, inr, arith, Option, Some, None, Result, Ok, Err, nat_eq}
use Rattle.std.specs.Prelude.{Contains, option_and_then}
use Rattle.std.specs.List.{AllZip, list_any}
use Rattle.std.proofs.lemmas.List.{length-append}
use Rattle.std.proofs.lemmas.Bool.{true≢false, and_parts, or_parts, or_left, or_right, eq-eqb, eqb-true}
use mathlib.Core.Logic.{∥∥₁_elim}
use mathlib.Core.HLevel.{⊥_prop}
use denote.Struct.Props.{props}
use Rattle.byte_fields.specs.Reading.{read_of}
use Rattle.frame_core.specs.declared.refusal.Refusal.{Refusal}
use Rattle.frame_core.specs.declared.refusal.Refusal.TheVariants as refusals
use Rattle.frame_core.specs.declared.refusal.Refused.{Refused}
use Rattle.index_tree.specs.declared.index.Index.{Index}
use Rattle.index_tree.specs.IndexText.{index_of}
use Rattle.key_kind.specs.declared.key.Key.{Key}
use Rattle.key_kind.specs.Names.{Name, same_name}
use Rattle.key_kind.specs.Keys.{is_put, same_key}
use Rattle.key_kind.proofs.KeyTests.{same_key_is}
use Rattle.bucket_core.specs.declared.event.Event.TheVariants as events
use Rattle.bucket_core.specs.History.{History, Bytes, stored, body_put, history_at}
use Rattle.store_model.specs.Library.{Version, State, state_of, is_live, is_linked, is_held, is_kept, is_buried}
use Rattle.store_model.specs.Links.{Linked, linked, links, links_at, reached}
use Rattle.store_model.specs.Holders.{has_index}
use Rattle.store_model.specs.Law.{IsLawful}
use Rattle.store_model.specs.Intact.{IsTableKey}
use Rattle.store_model.proofs.Lawful.{lawful_is_intact}
use Rattle.store_model.proofs.Lists.{contains_cases, contains_none, contains_right, one_passes}
use Rattle.store_model.proofs.Histories.{stands_was_put}
use Rattle.store_model.specs.PlainLinks.{flat_put}
use Rattle.store_model.proofs.PlainLinks.{index_in_reach, linked_flat}
use Rattle.version_chain.specs.States.{IsWithin}
use Rattle.reply_model.proofs.Places.{history_at_end}
use Rattle.frame_read.specs.declared.target.Target.{Target}
use Rattle.frame_read.specs.Fetches.{Reaches, IsGone, LacksAt, LacksKey, IsReached, IsIndexKey, IsTargetIndex}
use Rattle.frame_read.proofs.ChoosingLemmas.{IsLike, row_in, alike_told, truth_prop}

-- ---- later histories

-- a link stays
pub links_later : (more h : History) (symbol : Name) (l : Linked) → Contains (links h symbol) l → Contains (links (more ++ h) symbol) l
links_later [] h symbol l there = there
links_later (events.Put c key body ∷ more) h symbol l there = links_later more h symbol l there
links_later (events.Refer c s was entry list ∷ more) h symbol l there =
    elim (same_name s symbol) as (λ b. Contains (cond b (links_at (more ++ h) entry ++ links (more ++ h) symbol) (links (more ++ h) symbol)) l) [
      | true ↦ contains_right (links_at (more ++ h) entry) (links (more ++ h) symbol) l (links_later more h symbol l there)
      | false ↦ links_later more h symbol l there
    ]
links_later (events.Name c snap body ∷ more) h symbol l there = links_later more h symbol l there
links_later (events.Unname c snap ∷ more) h symbol l there = links_later more h symbol l there
links_later (events.Drop c key ∷ more) h symbol l there = links_later more h symbol l there

-- what a link reaches it reaches in each longer history
abbrev pub reaches_later : (more h new : History) (symbol : Name) (version : ℕ) (key : Key) → new ≡ more ++ h → Reaches h symbol version key → Reaches new symbol version key
reaches_later more h new symbol version key is r = record {
  link = r.link;
  link_is = subst (λ g. Contains (links g symbol) r.link) (sym is) (links_later more h symbol r.link r.link_is);
  number = r.number;
  reached_by = r.reached_by;
}

-- ---- keys of tables

table_is_put : (symbol : Name) (key : Key) → IsTableKey symbol key → is_put key.kind ≡ true
table_is_put symbol key t = elim t.kind [ inl d ↦ ap is_put d | inr d ↦ ap is_put d ]

-- what stands under a key that a link reaches was put there
pub reached_was_put : (h : History) (symbol : Name) (version : ℕ) (key : Key) (body : Bytes) → ∥ IsLawful h ∥₁ → Reaches h symbol version key → stored h key ≡ Some body → body_put h key ≡ Some body
reached_was_put h symbol version key body lawful r stands =
    stands_was_put h key body (∥∥₁_elim lawful (truth_prop (is_put key.kind) true) (λ l. table_is_put symbol key ((lawful_is_intact h l).table_keys symbol r.link key r.link_is r.reached_by))) stands

-- ---- versions that are gone

version_there : (l : Linked) (ls : List Linked) (vs : List Version) → AllZip IsLike (map row_in ls) vs → Contains ls l → list_any (λ (v : Version). nat_eq l.row.version v.number) vs ≡ true
version_there l [] vs z there = absurd (contains_none l there)
version_there l (m ∷ ls) [] z there = absurd z
version_there l (m ∷ ls) (v ∷ vs) z there = elim (contains_cases l m ls there) [
  | inl is ↦ or_left (nat_eq l.row.version v.number) (list_any (λ (v : Version). nat_eq l.row.version v.number) vs) (eq-eqb l.row.version v.number (ap (λ (k : Linked). k.row.version) (sym is) ∙ z.0.0))
  | inr later ↦ or_right (nat_eq l.row.version v.number) (list_any (λ (v : Version). nat_eq l.row.version v.number) vs) (version_there l ls vs z.1 later)
]

-- a version that is made and not kept is buried
not_kept : (st : State) (n : ℕ) → is_linked st n ≡ true → is_live st n ≡ false → is_buried st n ≡ true
not_kept st n linked dead =
    elim (is_buried st n) as (λ b. (is_linked st n && not b) ≡ false → b ≡ true) [
      | true ↦ λ e. refl
      | false ↦ λ e. absurd (true≢false (sym (ap (λ b. b && true) linked) ∙ e))
    ] dead

-- a version of which a key is gone is not kept
pub gone_told : (h : History) (symbol : Name) (version : ℕ) (key : Key) → ∥ IsLawful h ∥₁ → Reaches h symbol version key → stored h key ≡ None → IsGone h symbol version
gone_told h symbol version key lawful r none =
    let parts = or_parts (is_live (state_of h symbol) version) (is_held (state_of h symbol) version) unkept in
    record {
      buried = not_kept (state_of h symbol) version made parts.0;
      released = parts.1;
      key = key;
      reaches = r;
      gone = none;
    }
  where
    made : is_linked (state_of h symbol) version ≡ true
    made = subst (λ (n : ℕ). is_linked (state_of h symbol) n ≡ true) r.number (version_there r.link (links h symbol) (state_of h symbol).versions (alike_told h symbol lawful) r.link_is)

    clash : (o : Option Bytes) (b : Bytes) → o ≡ Some b → o ≡ None → ⊥
    clash o b p q = cc

    unkept : is_kept (state_of h symbol) version ≡ false
    unkept = elim (is_kept (state_of h symbol) version) as (λ b. is_kept (state_of h symbol) version ≡ b → b ≡ false) [
      | true ↦ λ e. absurd (∥∥₁_elim lawful ⊥_prop (λ l.
          let stands = (lawful_is_intact h l).needed symbol r.link key r.link_is (ap (is_kept (state_of h symbol)) r.number ∙ e) r.reached_by in
          clash (stored h key) stands.body stands.stands none))
      | false ↦ λ e. refl
    ] refl

-- the key of a link that was got, and is not there, is the one that is gone
pub lacks_here : (h : History) (place : ℕ) (symbol : Name) (version : ℕ) (key : Key) → place ≡ length h → (r : Reaches h symbol version key) → stored h key ≡ None → LacksAt h symbol version (IsReached r.link key) place (refusals.VersionGone version)
lacks_here h place symbol version key e r none =
    let here : history_at h place ≡ h = ap (history_at h) e ∙ history_at_end h in
    (r.link, subst (λ g. Contains (links g symbol) r.link) (sym here) r.link_is, r.number, key, (refl, refl), ap (λ g. stored g key) here ∙ none)

-- a key of one sort is one of another
pub lacks_weaker : (h : History) (symbol : Name) (version : ℕ) (One Other : Linked → Key → Type 0) (place : ℕ) → ((link : Linked) (key : Key) → One link key → Other link key)
    → (why : Refusal) → LacksAt h symbol version One place why → LacksAt h symbol version Other place why
lacks_weaker h symbol version One Other place weaker (refusals.VersionGone number) l = (l.0, l.1, l.2, l.3, weaker l.0 l.3 l.4, l.5)
lacks_weaker h symbol version One Other place weaker why l = tt

-- ---- indexes

-- the link with the target's index key
pub target_reaches : (h : History) (target : Target) → has_index (links h target.symbol) target.version target.index ≡ true → Reaches h target.symbol target.version target.index
target_reaches h target there =
    let found = one_passes (λ (l : Linked). nat_eq target.version l.row.version && same_key target.index l.row.index) (links h target.symbol) there in
    let parts = and_parts (nat_eq target.version found.0.row.version) (same_key target.index found.0.row.index) found.2 in
    record {
      link = found.0;
      link_is = found.1;
      number = sym (eqb-true target.version found.0.row.version parts.0);
      reached_by = subst (λ key. Contains (reached found.0) key) (sym (same_key_is target.index found.0.row.index parts.1)) (index_in_reach found.0);
    }

-- which has that key
pub target_named : (h : History) (target : Target) (there : has_index (links h target.symbol) target.version target.index ≡ true) → target.index ≡ (target_reaches h target there).link.row.index
unfolding target_reaches
target_named h target there =
    let found = one_passes (λ (l : Linked). nat_eq target.version l.row.version && same_key target.index l.row.index) (links h target.symbol) there in
    let parts = and_parts (nat_eq target.version found.0.row.version) (same_key target.index found.0.row.index) found.2 in
    same_key_is target.index found.0.row.index parts.1

-- so where it is not got, the key of an index is gone
pub lacks_index : (h new : History) (target : Target) (there : has_index (links h target.symbol) target.version target.index ≡ true) (refused : Refused)
    → LacksKey new target (IsReached (target_reaches h target there).link target.index) refused → LacksKey new target IsIndexKey refused
lacks_index h new target there refused =
    lacks_weaker new target.symbol target.version _ IsIndexKey refused.place (λ link key s. s.1 ∙ (target_named h target there ∙ ap (λ (l : Linked). l.row.index) (sym s.0))) refused.why

index_prop : (a b : Index) → IsProp (a ≡ b)
index_prop a b = hlevel props

-- what the bytes under the target's key spell is the index of its link
pub target_index : (old more new : History) (target : Target) (body : Bytes) (index : Index) → ∥ IsLawful new ∥₁ → new ≡ more ++ old → has_index (links old target.symbol) target.version target.index ≡ true
    → body_put new target.index ≡ Some body → index_of body ≡ Ok index → IsTargetIndex new target index
target_index old more new target body index lawful is there put spelled =
    let found = one_passes (λ (l : Linked). nat_eq target.version l.row.version && same_key target.index l.row.index) (links old target.symbol) there in
    let parts = and_parts (nat_eq target.version found.0.row.version) (same_key target.index found.0.row.index) found.2 in
    let key : found.0.row.index ≡ target.index = sym (same_key_is target.index found.0.row.index parts.1) in
    let link_is : Contains (links new target.symbol) found.0 = subst (λ g. Contains (links g target.symbol) found.0) (sym is) (links_later more old target.symbol found.0 found.1) in
    record {
      link = found.0;
      link_is = link_is;
      number = sym (eqb-true target.version found.0.row.version parts.0);
      key = key;
      is = ∥∥₁_elim lawful (index_prop found.0.index index) (λ l.
          some_same (sym (linked_flat new l target.symbol found.0 link_is)
          ∙ (ap (flat_put new) key ∙ (ap (λ o. option_and_then (λ body. read_of (index_of body)) o) put ∙ ap read_of spelled))));
    }
  where
    some_same : {x y : Index} → Some x ≡ Some y → x ≡ y
    some_same e = cc

-- and they do spell one
pub target_spelled : (old more new : History) (target : Target) (body : Bytes) → ∥ IsLawful new ∥₁ → new ≡ more ++ old → has_index (links old target.symbol) target.version target.index ≡ true
    → body_put new target.index ≡ Some body → (index : Index) × (index_of body ≡ Ok index)
target_spelled old more new target body lawful is there put =
    let found = one_passes (λ (l : Linked). nat_eq target.version l.row.version && same_key target.index l.row.index) (links old target.symbol) there in
    let parts = and_parts (nat_eq target.version found.0.row.version) (same_key target.index found.0.row.index) found.2 in
    let key : found.0.row.index ≡ target.index = sym (same_key_is target.index found.0.row.index parts.1) in
    let link_is : Contains (links new target.symbol) found.0 = subst (λ g. Contains (links g target.symbol) found.0) (sym is) (links_later more old target.symbol found.0 found.1) in (
      found.0.index,
      ∥∥₁_elim lawful (reading_prop (index_of body) (Ok found.0.index)) (λ l.
          read_back (index_of body) found.0.index (sym (ap (flat_put new) key ∙ ap (λ o. option_and_then (λ body. read_of (index_of body)) o) put)
          ∙ linked_flat new l target.symbol found.0 link_is)),
    )
  where
    reading_prop : (a b : Result Index ℕ) → IsProp (a ≡ b)
    reading_prop a b = hlevel props

    read_back : (r : Result Index ℕ) (i : Index) → read_of r ≡ Some i → r ≡ Ok i
    read_back (Ok x) i e = let same : x ≡ i = cc in ap (λ (y : Index). Ok y) same
    read_back (Err n) i e = absurd cc

-- ---- at the end of a call

pub gone_here : (h : History) (place : ℕ) (symbol : Name) (version : ℕ) (key : Key) → place ≡ length h → ∥ IsLawful h ∥₁ → Reaches h symbol version key → stored h key ≡ None → IsGone (history_at h place) symbol version
gone_here h place symbol version key e lawful r none = subst (λ g. IsGone g symbol version) (sym (ap (history_at h) e ∙ history_at_end h)) (gone_told h symbol version key lawful r none)

pub within_end : (others old new : History) (place : ℕ) → new ≡ others ++ old → place ≡ length new → IsWithin old new place
within_end others old new place is e =
    let longer : length new ≡ length others + length old = ap length is ∙ length-append others old in
    record { from = omega (arith, longer, e); to = omega (arith, e) }
