-- The newest elements of a chain tell what the whole chain tells of a new version: older Tombs bury only older links.
use Rattle.std.proofs.Common.{◌≡◌, ℕ, suc, ◌<◌, ◌≤◌, Bool, true, false, cond, ◌||◌, not, List, [], ◌∷◌, ◌++◌, map, reverse, refl, ap, sym, ◌∙◌, subst, arith, Option, Some, inl, inr, nat_eq}
use Rattle.std.specs.Prelude.{⊤, ◌⊎◌, length, filter, filter_map, find, if◌then◌else◌}
use Rattle.std.specs.List.{AllZip, AllByRecursion, list_any, cons_option}
use Rattle.std.proofs.lemmas.Bool.{true≢false, and_parts, or_cases, eqb-true, ne_eqb}
use Rattle.std.proofs.lemmas.List.{append-nil, reverse-append}
use Rattle.std.proofs.lemmas.List.Elements.{filter-append}
use Rattle.std.proofs.lemmas.List.Folds.{list_any-append}
use mathlib.Core.Logic.{∥∥₁_elim}
use denote.Struct.Props.{props}
use Rattle.key_kind.specs.declared.key.Key.{Key}
use Rattle.key_kind.specs.Names.{Name}
use Rattle.bucket_core.specs.declared.event.Change.{Change}
use Rattle.bucket_core.specs.declared.event.Change.TheVariants as changes
use Rattle.bucket_core.specs.declared.event.Event.TheVariants as events
use Rattle.bucket_core.specs.History.{History, reference}
use Rattle.bucket_core.specs.Laws.{Looks}
use Rattle.store_model.specs.declared.chain.LinkRow.{LinkRow}
use Rattle.store_model.specs.declared.chain.ChainMark.{ChainMark}
use Rattle.store_model.specs.declared.chain.ChainMark.TheVariants as marks
use Rattle.store_model.specs.declared.chain.Entry.{Entry}
use Rattle.store_model.specs.ChainText.{tomb_of}
use Rattle.store_model.specs.Intact.{IsLinkOf}
use Rattle.store_model.specs.Library.{Version, state_of, number_after, next_number, is_buried, is_live, is_linked, live_versions}
use Rattle.store_model.specs.Links.{Linked, links, element}
use Rattle.store_model.specs.Commits.{FitsChange, MayRefer, MayChange, marks_of}
use Rattle.store_model.specs.PlainWalks.{row_of, chain, tombs_in, rows_in}
use Rattle.store_model.specs.Law.{IsClaimed, IsLawful}
use Rattle.store_model.proofs.Lawful.{lawful_is_intact}
use Rattle.store_model.proofs.Lists.{all_weaker}
use Rattle.store_model.proofs.Numbering.{AreNumbered, versions_numbered}
use Rattle.store_model.proofs.Referring.{at_symbol}
use Rattle.store_model.proofs.Plainly.{is_commit}
use Rattle.store_model.proofs.PlainWalking.{walk_is_state}
use Rattle.version_chain.specs.declared.tip.ChainTip.{ChainTip}
use Rattle.version_chain.specs.States.{is_tomb}
use Rattle.version_chain.specs.Tips.{newest_live, IsTipOf, IsTipAt, is_unburied, has_live, IsNewestPart, number_behind, live_among, IsTipIn}
use Rattle.version_chain.proofs.Collected.{rows_in-append, tombs_in-append}
use Rattle.version_chain.proofs.Walked.{Falls, links_fall, map_map}

-- ---- rows whose versions fall, the newest first

abbrev RowsFall : List LinkRow → Type 0
RowsFall rows = Falls (map (λ (row : LinkRow). row.version) rows)

falls_first : (row : LinkRow) (older : List LinkRow) → RowsFall (row ∷ older) → (number_behind older ≤ row.version) × RowsFall older
falls_first row [] f = (omega arith, tt)
falls_first row (next ∷ older) f = (omega (arith, f.0), f.1)

falls_behind : (xs ys : List LinkRow) → RowsFall (xs ++ ys) → RowsFall ys
falls_behind [] ys f = f
falls_behind (x ∷ xs) ys f = falls_behind xs ys (falls_first x (xs ++ ys) f).1

-- with newer rows the next number is no lower
behind_rises : (xs ys : List LinkRow) → RowsFall (xs ++ ys) → number_behind ys ≤ number_behind (xs ++ ys)
behind_rises [] ys f = omega arith
behind_rises (x ∷ xs) ys f =
    let first = falls_first x (xs ++ ys) f in
    let later = behind_rises xs ys first.1 in
    omega (arith, first.0, later)

-- the newer rows have this number or higher ones
rows_above : (xs ys : List LinkRow) → RowsFall (xs ++ ys) → AllByRecursion (λ (row : LinkRow). number_behind ys ≤ row.version) xs
rows_above [] ys f = tt
rows_above (x ∷ xs) ys f =
    let first = falls_first x (xs ++ ys) f in
    let later = behind_rises xs ys first.1 in
    (omega (arith, first.0, later), rows_above xs ys first.1)

-- ---- Tombs of a lawful chain

-- the Tombs of each element bury links of older ones
abbrev TombsFollow : List Entry → Type 0
TombsFollow [] = ⊤
TombsFollow (e ∷ older) = AllByRecursion (λ n. n < number_behind (rows_in older)) (filter_map tomb_of e.changes) × TombsFollow older

-- a version that was made is below the next number
linked_below : (versions : List Version) (n : ℕ) → AreNumbered versions → list_any (λ (v : Version). nat_eq n v.number) versions ≡ true → n < number_after versions
linked_below [] n numbered e = absurd (true≢false (sym e))
linked_below (v ∷ older) n numbered e = elim (or_cases (nat_eq n v.number) (list_any (λ (w : Version). nat_eq n w.number) older) e) [
  | inl here ↦ omega (arith, eqb-true n v.number here)
  | inr there ↦ omega (arith, linked_below older n numbered.1 there, numbered.0)
]

tombs_of_tombs : (ns : List ℕ) (more : List ChainMark) → filter_map tomb_of (map marks.Tomb ns ++ more) ≡ ns ++ filter_map tomb_of more
tombs_of_tombs [] more = refl
tombs_of_tombs (n ∷ ns) more = ap (λ xs. n ∷ xs) (tombs_of_tombs ns more)

all_append : {X : Type 0} (P : X → Type 0) (xs ys : List X) → AllByRecursion P xs → AllByRecursion P ys → AllByRecursion P (xs ++ ys)
all_append P [] ys all more = more
all_append P (x ∷ xs) ys all more = (all.0, all_append P xs ys all.1 more)

-- the Tombs of changes that fit bury versions that were live
commit_tombs : (h : History) (client : ℕ) (symbol : Name) (row : LinkRow) (list : List Change) → AllByRecursion (FitsChange h client symbol row) list
    → AllByRecursion (λ n. is_live (state_of h symbol) n ≡ true) (filter_map tomb_of (marks_of row list))
commit_tombs h client symbol row [] fits = tt
commit_tombs h client symbol row (changes.Wrote frame at ∷ list) fits = commit_tombs h client symbol row list fits.1
commit_tombs h client symbol row (changes.Appended frame at ∷ list) fits = commit_tombs h client symbol row list fits.1
commit_tombs h client symbol row (changes.Updated frame range at ∷ list) fits = commit_tombs h client symbol row list fits.1
commit_tombs h client symbol row (changes.Removed versions ∷ list) fits =
    subst (AllByRecursion (λ n. is_live (state_of h symbol) n ≡ true)) (sym (tombs_of_tombs versions (marks_of row list)))
    (all_append (λ n. is_live (state_of h symbol) n ≡ true) versions (filter_map tomb_of (marks_of row list)) fits.0.1.live (commit_tombs h client symbol row list fits.1))
commit_tombs h client symbol row (changes.Held holder version ∷ list) fits = commit_tombs h client symbol row list fits.1
commit_tombs h client symbol row (changes.Released holder ∷ list) fits = commit_tombs h client symbol row list fits.1
commit_tombs h client symbol row (changes.Discarded pieces ∷ list) fits = commit_tombs h client symbol row list fits.1
commit_tombs h client symbol row (changes.Restated ∷ list) fits = commit_tombs h client symbol row list fits.1

next_zip : (ls : List Linked) (vs : List Version) → AllZip IsLinkOf ls vs → number_behind (map (λ (l : Linked). l.row) ls) ≡ number_after vs
next_zip [] [] z = refl
next_zip [] (v ∷ vs) z = absurd z
next_zip (l ∷ ls) [] z = absurd z
next_zip (l ∷ ls) (v ∷ vs) z = ap suc z.0.number

-- the number behind the chain's rows is the next one
behind_is_next : (h : History) (symbol : Name) → IsLawful h → number_behind (rows_in (chain h symbol)) ≡ next_number (state_of h symbol)
behind_is_next h symbol l = ap number_behind (walk_is_state h l symbol).rows ∙ next_zip (links h symbol) (state_of h symbol).versions ((lawful_is_intact h l).versions symbol)

commit_follows : (h : History) (client : ℕ) (symbol : Name) (was : Option Key) (entry : Key) (list : List Change) → IsLawful h → MayChange h client symbol was entry list → TombsFollow (chain h symbol)
    → TombsFollow (cons_option (element h entry) (chain h symbol))
commit_follows h client symbol was entry list l may old =
    subst (λ o. TombsFollow (cons_option o (chain h symbol))) (sym may.spelled) (
      all_weaker (λ n. is_live (state_of h symbol) n ≡ true) (λ n. n < number_behind (rows_in (chain h symbol)))
          (λ n live. subst (λ k. n < k) (sym (behind_is_next h symbol l))
          (linked_below (state_of h symbol).versions n (versions_numbered h symbol) (and_parts (is_linked (state_of h symbol) n) (not (is_buried (state_of h symbol) n)) live).0))
          (filter_map tomb_of (marks_of may.row list)) (commit_tombs h client symbol may.row list may.fits),
      old,
    )

-- the Tombs of a lawful chain bury links of older elements
tombs_follow : (h : History) → IsLawful h → (symbol : Name) → TombsFollow (chain h symbol)
tombs_follow [] l symbol = tt
tombs_follow (events.Put c key body ∷ h) l symbol = tombs_follow h l.1 symbol
tombs_follow (events.Refer c s was entry list ∷ h) l symbol =
    at_symbol s symbol (λ b. TombsFollow (cond b (cons_option (element h entry) (chain h symbol)) (chain h symbol)))
    (λ e. commit_follows h c symbol was entry list l.1 (is_commit h c symbol was entry list (subst (λ n. MayRefer h c n was entry list) e l.0.1)) (tombs_follow h l.1 symbol))
    (tombs_follow h l.1 symbol)
tombs_follow (events.Name c snap body ∷ h) l symbol = tombs_follow h l.1 symbol
tombs_follow (events.Unname c snap ∷ h) l symbol = tombs_follow h l.1 symbol
tombs_follow (events.Drop c key ∷ h) l symbol = tombs_follow h l.1 symbol

chain_falls : (h : History) → IsLawful h → (symbol : Name) → RowsFall (rows_in (chain h symbol))
chain_falls h l symbol = subst RowsFall (sym (walk_is_state h l symbol).rows)
    (subst Falls (sym (map_map (λ (k : Linked). k.row) (λ (row : LinkRow). row.version) (links h symbol))) (links_fall h symbol l))

-- ---- a part of such elements

follow_behind : (xs ys : List Entry) → TombsFollow (xs ++ ys) → TombsFollow ys
follow_behind [] ys t = t
follow_behind (x ∷ xs) ys t = follow_behind xs ys t.1

-- the Tombs of elements bury versions below the next number
tombs_below : (es : List Entry) → RowsFall (rows_in es) → TombsFollow es → AllByRecursion (λ n. n < number_behind (rows_in es)) (tombs_in es)
tombs_below [] f t = tt
tombs_below (e ∷ older) f t =
    let up = behind_rises (filter_map row_of e.changes) (rows_in older) f in
    let more : (n : ℕ) → n < number_behind (rows_in older) → n < number_behind (rows_in (e ∷ older)) = λ n b. omega (arith, b, up) in
    all_append (λ n. n < number_behind (rows_in (e ∷ older))) (filter_map tomb_of e.changes) (tombs_in older)
    (all_weaker (λ n. n < number_behind (rows_in older)) (λ n. n < number_behind (rows_in (e ∷ older))) more (filter_map tomb_of e.changes) t.0)
    (all_weaker (λ n. n < number_behind (rows_in older)) (λ n. n < number_behind (rows_in (e ∷ older))) more (tombs_in older) (tombs_below older (falls_behind (filter_map row_of e.changes) (rows_in older) f) t.1))

no_tomb : (n k : ℕ) (tombs : List ℕ) → AllByRecursion (λ t. t < k) tombs → k ≤ n → is_tomb tombs n ≡ false
no_tomb n k [] below le = refl
no_tomb n k (t ∷ tombs) below le = ap (λ b. b || is_tomb tombs n) (ne_eqb n t (λ e. omega (arith, e, below.0, le))) ∙ no_tomb n k tombs below.1 le

or_false : (b : Bool) → (b || false) ≡ b
or_false true = refl
or_false false = refl

-- where two tests agree on a front that passes, the first of all is that of the front
find_front : {X : Type 0} (p q : X → Bool) (xs ys : List X) → AllByRecursion (λ (x : X). q x ≡ p x) xs → list_any p xs ≡ true → find q (xs ++ ys) ≡ find p xs
find_front p q [] ys same e = absurd (true≢false (sym e))
find_front p q (x ∷ xs) ys same e =
    ap (λ b. cond b (Some x) (find q (xs ++ ys))) same.0
    ∙ elim (p x) as (λ b. (b || list_any p xs) ≡ true → cond b (Some x) (find q (xs ++ ys)) ≡ cond b (Some x) (find p xs)) [
      | true ↦ λ found. refl
      | false ↦ λ found. find_front p q xs ys same.1 found
    ] e

-- the first live link of newest elements is that of all
front_newest : (es older : List Entry) → RowsFall (rows_in (es ++ older)) → TombsFollow (es ++ older) → has_live es ≡ true
    → find (is_unburied (tombs_in (es ++ older))) (rows_in (es ++ older)) ≡ find (is_unburied (tombs_in es)) (rows_in es)
front_newest es older f t live =
    let falls : RowsFall (rows_in es ++ rows_in older) = subst RowsFall (rows_in-append es older) f in
    let below = tombs_below older (falls_behind (rows_in es) (rows_in older) falls) (follow_behind es older t) in
    let same : AllByRecursion (λ (row : LinkRow). is_unburied (tombs_in es ++ tombs_in older) row ≡ is_unburied (tombs_in es) row) (rows_in es) =
    all_weaker (λ (row : LinkRow). number_behind (rows_in older) ≤ row.version) (λ (row : LinkRow). is_unburied (tombs_in es ++ tombs_in older) row ≡ is_unburied (tombs_in es) row)
    (λ row above. ap not (list_any-append (nat_eq row.version) (tombs_in es) (tombs_in older)
    ∙ (ap (λ b. is_tomb (tombs_in es) row.version || b) (no_tomb row.version (number_behind (rows_in older)) (tombs_in older) below above) ∙ or_false (is_tomb (tombs_in es) row.version))))
    (rows_in es) (rows_above (rows_in es) (rows_in older) falls) in
    (λ i. find (is_unburied (tombs_in-append es older i)) (rows_in-append es older i))
    ∙ find_front (is_unburied (tombs_in es)) (is_unburied (tombs_in es ++ tombs_in older)) (rows_in es) (rows_in older) same live

front_number : (p : LinkRow → Bool) (xs ys : List LinkRow) → list_any p xs ≡ true → number_behind (xs ++ ys) ≡ number_behind xs
front_number p [] ys e = absurd (true≢false (sym e))
front_number p (x ∷ xs) ys e = refl

-- ---- the tip of a lawful chain

module _ (g : History) (symbol : Name) (l : IsLawful g) where
  part_newest : (whole : Bool) (es : List Entry) → IsNewestPart (chain g symbol) whole es → find (is_unburied (tombs_in es)) (rows_in es) ≡ newest_live g symbol
  part_newest whole es p =
      by p.ends
      ∙ (λ i. find (is_unburied ((walk_is_state g l symbol).tombs i)) ((walk_is_state g l symbol).rows i))
    where
      by : (p.older ≡ []) ⊎ ((whole ≡ false) × (has_live es ≡ true)) → find (is_unburied (tombs_in es)) (rows_in es) ≡ find (is_unburied (tombs_in (chain g symbol))) (rows_in (chain g symbol))
      by (inl none) = ap (λ xs. find (is_unburied (tombs_in xs)) (rows_in xs)) (sym (p.is ∙ (ap (λ xs. es ++ xs) none ∙ append-nil es)))
      by (inr live) =
          sym (front_newest es p.older (subst (λ xs. RowsFall (rows_in xs)) p.is (chain_falls g l symbol)) (subst TombsFollow p.is (tombs_follow g l symbol)) live.1)
          ∙ ap (λ xs. find (is_unburied (tombs_in xs)) (rows_in xs)) (sym p.is)

  part_next : (whole : Bool) (es : List Entry) → IsNewestPart (chain g symbol) whole es → number_behind (rows_in es) ≡ next_number (state_of g symbol)
  part_next whole es p = by p.ends ∙ behind_is_next g symbol l
    where
      by : (p.older ≡ []) ⊎ ((whole ≡ false) × (has_live es ≡ true)) → number_behind (rows_in es) ≡ number_behind (rows_in (chain g symbol))
      by (inl none) = ap (λ xs. number_behind (rows_in xs)) (sym (p.is ∙ (ap (λ xs. es ++ xs) none ∙ append-nil es)))
      by (inr live) =
          sym (front_number (is_unburied (tombs_in es)) (rows_in es) (rows_in p.older) live.1)
          ∙ (ap number_behind (sym (rows_in-append es p.older)) ∙ ap (λ xs. number_behind (rows_in xs)) (sym p.is))

  part_whole : (es : List Entry) → IsNewestPart (chain g symbol) true es → es ≡ chain g symbol
  part_whole es p = by p.ends
    where
      by : (p.older ≡ []) ⊎ ((true ≡ false) × (has_live es ≡ true)) → es ≡ chain g symbol
      by (inl none) = sym (p.is ∙ (ap (λ xs. es ++ xs) none ∙ append-nil es))
      by (inr live) = absurd (true≢false live.0)

-- ---- the live numbers

map_append : {A B : Type 0} (f : A → B) (xs ys : List A) → map f (xs ++ ys) ≡ map f xs ++ map f ys
map_append f [] ys = refl
map_append f (x ∷ xs) ys = ap (λ l. f x ∷ l) (map_append f xs ys)

live_append : (tombs : List ℕ) (xs ys : List LinkRow) → live_among tombs (xs ++ ys) ≡ live_among tombs xs ++ live_among tombs ys
live_append tombs xs ys = ap (map (λ (row : LinkRow). row.version)) (filter-append (is_unburied tombs) xs ys) ∙ map_append (λ (row : LinkRow). row.version) (filter (is_unburied tombs) xs) (filter (is_unburied tombs) ys)

live_zip : (tombs : List ℕ) (ls : List Linked) (vs : List Version) → AllZip IsLinkOf ls vs
    → live_among tombs (reverse (map (λ (l : Linked). l.row) ls)) ≡ reverse (map (λ (v : Version). v.number) (filter (λ (v : Version). not (list_any (nat_eq v.number) tombs)) vs))
live_zip tombs [] [] z = refl
live_zip tombs [] (v ∷ vs) z = absurd z
live_zip tombs (l ∷ ls) [] z = absurd z
live_zip tombs (l ∷ ls) (v ∷ vs) z =
    let numbers : List ℕ = map (λ (w : Version). w.number) (filter (λ (w : Version). not (list_any (nat_eq w.number) tombs)) vs) in
    let same : not (is_tomb tombs l.row.version) ≡ not (list_any (nat_eq v.number) tombs) = ap (λ n. not (list_any (nat_eq n) tombs)) z.0.number in
    ap (live_among tombs) (reverse-append (l.row ∷ []) (map (λ (k : Linked). k.row) ls))
    ∙ (live_append tombs (reverse (map (λ (k : Linked). k.row) ls)) (l.row ∷ [])
    ∙ (ap (λ xs. xs ++ live_among tombs (l.row ∷ [])) (live_zip tombs ls vs z.1)
    ∙ (ap (λ b. reverse numbers ++ map (λ (row : LinkRow). row.version) (cond b (l.row ∷ []) [])) same
    ∙ (elim (not (list_any (nat_eq v.number) tombs)) as (λ b. reverse numbers ++ map (λ (row : LinkRow). row.version) (cond b (l.row ∷ []) [])
    ≡ reverse (map (λ (w : Version). w.number) (cond b (v ∷ filter (λ (w : Version). not (list_any (nat_eq w.number) tombs)) vs) (filter (λ (w : Version). not (list_any (nat_eq w.number) tombs)) vs)))) [
      | true ↦ ap (λ n. reverse numbers ++ n ∷ []) z.0.number ∙ sym (reverse-append (v.number ∷ []) numbers)
      | false ↦ append-nil (reverse numbers)
    ]))))

-- what a new version buries
part_buried : (g : History) (symbol : Name) (prune : Bool) (es : List Entry) → ∥ IsLawful g ∥₁ → IsNewestPart (chain g symbol) prune es
    → (if prune then live_among (tombs_in es) (reverse (rows_in es)) else []) ≡ (if prune then reverse (map (λ (v : Version). v.number) (live_versions (state_of g symbol))) else [])
part_buried g symbol false es lawful p = refl
part_buried g symbol true es lawful p = ∥∥₁_elim lawful (hlevel props) (λ l.
    let w = walk_is_state g l symbol in
    ap (λ xs. live_among (tombs_in xs) (reverse (rows_in xs))) (part_whole g symbol l es p)
    ∙ ((λ i. live_among (w.tombs i) (reverse (w.rows i)))
    ∙ live_zip (state_of g symbol).buried (links g symbol) (state_of g symbol).versions ((lawful_is_intact g l).versions symbol)))

-- the tip that a part of the chain gives is the symbol's
tip_told : (g : History) (symbol : Name) (was : Option Key) (es : List Entry) (place : ℕ) (prune : Bool) (tip : ChainTip) → ∥ IsLawful g ∥₁ → was ≡ reference g symbol → IsNewestPart (chain g symbol) prune es → IsTipIn was es place prune tip → IsTipOf g symbol prune tip
tip_told g symbol was es place prune tip lawful is_was p t = record {
  was = t.was ∙ is_was;
  next = t.next ∙ ∥∥₁_elim lawful (hlevel props) (λ l. part_next g symbol l prune es p);
  newest = t.newest_is ∙ ∥∥₁_elim lawful (hlevel props) (λ l. part_newest g symbol l prune es p);
  buried = t.buried ∙ part_buried g symbol prune es lawful p;
}

-- the tip at the place of the look at the reference
pub tip_at : (client : ℕ) (sole : Bool) (g h : History) (symbol : Name) (was : Option Key) (es : List Entry) (place : ℕ) (prune : Bool) (tip : ChainTip) → Looks IsClaimed client sole g h → place ≡ length g → ∥ IsLawful g ∥₁ → was ≡ reference g symbol → IsNewestPart (chain g symbol) prune es → IsTipIn was es place prune tip → IsTipAt h symbol prune tip
tip_at client sole g h symbol was es place prune tip a is_place lawful is_was p t = record {
  later = a.others;
  before = g;
  split = a.is;
  place = t.place ∙ is_place;
  is = tip_told g symbol was es place prune tip lawful is_was p t;
}
