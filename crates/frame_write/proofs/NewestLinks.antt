-- The newest link of a history behind a commit has the index that the commit put.
use Rattle.std.proofs.Common.{◌≡◌, ℕ, Bool, true, false, cond, List, [], ◌∷◌, ◌++◌, map, refl, ap, sym, ◌∙◌, subst, Option, Some, None}
use Rattle.std.specs.Prelude.{⊤, filter, reverse, nat_eq, option_map, option_and_then}
use Rattle.std.specs.List.{AllByRecursion}
use Rattle.std.proofs.lemmas.Bool.{true≢false}
use Rattle.std.proofs.lemmas.List.{reverse-append}
use mathlib.Core.Logic.{∥∥₁_elim}
use mathlib.Core.List.{reverse_aux}
use denote.Struct.Props.{props}
use Rattle.byte_fields.specs.Reading.{read_of}
use Rattle.index_tree.specs.declared.index.Index.{Index}
use Rattle.key_kind.specs.declared.key.Key.{Key}
use Rattle.key_kind.specs.Names.{Name}
use Rattle.key_kind.proofs.KeyTests.{same_key_self}
use Rattle.bucket_core.specs.declared.event.Change.{Change}
use Rattle.bucket_core.specs.declared.event.Change.TheVariants as changes
use Rattle.bucket_core.specs.declared.event.Event.{Event}
use Rattle.bucket_core.specs.declared.event.Event.TheVariants as events
use Rattle.bucket_core.specs.History.{History, Bytes, author, body_put, PutOnce}
use Rattle.store_model.specs.declared.chain.LinkRow.{LinkRow}
use Rattle.store_model.specs.declared.chain.Entry.{Entry}
use Rattle.store_model.specs.ChainText.{entry_of}
use Rattle.store_model.specs.Law.{IsLawful}
use Rattle.store_model.specs.Links.{Linked, element, index_put}
use Rattle.store_model.specs.Commits.{is_version, marks_of}
use Rattle.store_model.proofs.Lawful.{lawful_is_intact}
use Rattle.store_model.proofs.Lists.{all_weaker}
use Rattle.store_model.proofs.Histories.{put_stays, once_before}
use Rattle.store_model.proofs.PlainLinks.{flat, flat_is_put}
use Rattle.store_model.proofs.Plainly.{is_commit}
use Rattle.reply_model.specs.Tries.{put_of, index_linked, Before, of_mark, of_version, IsTry}
use Rattle.reply_model.proofs.LaidWrites.{newest_link}
use Rattle.version_chain.specs.Traces.{Went}
use Rattle.frame_write.specs.declared.options.Committed.{Committed}
use Rattle.frame_write.specs.Tries.{Made, PutsIndex, DidCommit}
use Rattle.frame_write.specs.Writes.{newest_index}

-- ---- what was put has its body

-- the body of a Put was put under its key
abbrev HasBody : History → Event → Type 0
HasBody h (events.Put client key body) = body_put h key ≡ Some body
HasBody h e = ⊤

body_stays : (h : History) (e x : Event) → PutOnce (e ∷ h) → HasBody h x → HasBody (e ∷ h) x
body_stays h e (events.Put client key body) once is = put_stays h e once key body is
body_stays h e (events.Refer client symbol was entry list) once is = tt
body_stays h e (events.Name client snap body) once is = tt
body_stays h e (events.Unname client snap) once is = tt
body_stays h e (events.Drop client key) once is = tt

body_here : (h : History) (e : Event) → HasBody (e ∷ h) e
body_here h (events.Put client key body) = ap (λ b. cond b (Some body) (body_put h key)) (same_key_self key)
body_here h (events.Refer client symbol was entry list) = tt
body_here h (events.Name client snap body) = tt
body_here h (events.Unname client snap) = tt
body_here h (events.Drop client key) = tt

all_have_bodies : (more old : History) → PutOnce (more ++ old) → AllByRecursion (HasBody (more ++ old)) more
all_have_bodies [] old once = tt
all_have_bodies (e ∷ more) old once = (
  body_here (more ++ old) e,
  all_weaker (HasBody (more ++ old)) (HasBody (e ∷ (more ++ old))) (λ x is. body_stays (more ++ old) e x once is) more (all_have_bodies more old (once_before (more ++ old) e once)),
)

-- what holds of all events holds of the client's among them
all_filtered : (P : Event → Type 0) (client : ℕ) (es : List Event) → AllByRecursion P es → AllByRecursion P (filter (λ e. nat_eq (author e) client) es)
all_filtered P client [] all = tt
all_filtered P client (e ∷ es) all = elim (nat_eq (author e) client) as (λ b. AllByRecursion P (cond b (e ∷ filter (λ x. nat_eq (author x) client) es) (filter (λ x. nat_eq (author x) client) es))) [
  | true ↦ (all.0, all_filtered P client es all.1)
  | false ↦ all_filtered P client es all.1
]

all_reversed : (P : Event → Type 0) (es : List Event) → AllByRecursion P es → AllByRecursion P (reverse es)
all_reversed P es all = onto es [] all tt
  where
    onto : (xs ys : List Event) → AllByRecursion P xs → AllByRecursion P ys → AllByRecursion P (reverse_aux xs ys)
    onto [] ys all more = more
    onto (x ∷ xs) ys all more = onto xs (x ∷ ys) all.1 (all.0, more)

-- each put of a try has its body
pub puts_have_bodies : (client : ℕ) (sole : Bool) (old before : History) (puts : List (Key × Bytes)) → Went client sole old before (map (put_of client) puts) → IsLawful before
    → AllByRecursion (λ (p : Key × Bytes). body_put before p.0 ≡ Some p.1) puts
puts_have_bodies client sole old before puts went lawful = of_events puts (subst (AllByRecursion (HasBody before)) went.own_are (all_reversed (HasBody before) _ (all_filtered (HasBody before) client went.more bodies)))
  where
    bodies : AllByRecursion (HasBody before) went.more
    bodies = subst (λ h. AllByRecursion (HasBody h) went.more) (sym went.is) (all_have_bodies went.more old (subst PutOnce went.is (lawful_is_intact before lawful).once))

    of_events : (ps : List (Key × Bytes)) → AllByRecursion (HasBody before) (map (put_of client) ps) → AllByRecursion (λ (p : Key × Bytes). body_put before p.0 ≡ Some p.1) ps
    of_events [] all = tt
    of_events (p ∷ ps) all = (all.0, of_events ps all.1)

-- ---- the index of a try

-- what a version puts before its element ends with the index that its link names
ends_with : (symbol : Name) (o : Option Key) (first : List (Key × Bytes)) (key : Key) → Before symbol o first → o ≡ Some key
    → (tiles : List (Key × Bytes)) × (body : Bytes) × (first ≡ tiles ++ (key, body) ∷ [])
ends_with symbol _ _ key of_mark e = absurd (none_some e)
  where
    none_some : None ≡ Some key → ⊥
    none_some f = cc
ends_with symbol _ _ key (of_version tiles named body index named_is tiles_are spelled order) e = (tiles, body, ap (λ k. tiles ++ (k, body) ∷ []) (same named key e))
  where
    same : (a b : Key) → Some a ≡ Some b → a ≡ b
    same a b f = cc

second_is : {X : Type 0} (a b c d : X) (r s : List X) → b ∷ a ∷ r ≡ d ∷ c ∷ s → a ≡ c
second_is a b c d r s e = cc

-- the last but one
last_but_one : {X : Type 0} (xs ys : List X) (a b c d : X) → (xs ++ a ∷ []) ++ b ∷ [] ≡ ys ++ c ∷ d ∷ [] → a ≡ c
last_but_one xs ys a b c d e =
    second_is a b c d (reverse xs) (reverse ys)
    (sym (reverse-append (xs ++ a ∷ []) (b ∷ []) ∙ ap (λ l. b ∷ l) (reverse-append xs (a ∷ []))) ∙ (ap reverse e ∙ reverse-append ys (c ∷ d ∷ [])))

all_behind : {X : Type 0} (P : X → Type 0) (xs ys : List X) → AllByRecursion P (xs ++ ys) → AllByRecursion P ys
all_behind P [] ys all = all
all_behind P (x ∷ xs) ys all = all_behind P xs ys all.1

-- the index that the marks of a version link
marks_link : (row : LinkRow) (first : Change) (rest : List Change) → is_version first ≡ true → index_linked (marks_of row (first ∷ rest)) ≡ Some row.index
marks_link row (changes.Wrote frame at) rest version = refl
marks_link row (changes.Appended frame at) rest version = refl
marks_link row (changes.Updated frame range at) rest version = refl
marks_link row (changes.Removed versions) rest version = absurd (true≢false (sym version))
marks_link row (changes.Held holder number) rest version = absurd (true≢false (sym version))
marks_link row (changes.Released holder) rest version = absurd (true≢false (sym version))
marks_link row (changes.Discarded pieces) rest version = absurd (true≢false (sym version))
marks_link row changes.Restated rest version = absurd (true≢false (sym version))

same_entry : (a b : Entry) → Some a ≡ Some b → a ≡ b
same_entry a b e = cc

-- the index of the puts was put under the key of the link
index_of_try : (h : History) (symbol : Name) (was : Option Key) (entry : Key) (row : LinkRow) (first : Change) (rest : List Change) (puts : List (Key × Bytes)) (index : Index) → is_version first ≡ true
    → element h entry ≡ Some (record { prev = was; changes = marks_of row (first ∷ rest) }) → IsTry symbol true puts entry → PutsIndex puts index
    → AllByRecursion (λ (p : Key × Bytes). body_put h p.0 ≡ Some p.1) puts → index_put h row.index ≡ Some (flat index)
index_of_try h symbol was entry row first rest puts index version spelled t i bodies =
    let here = all_behind (λ (p : Key × Bytes). body_put h p.0 ≡ Some p.1) t.first ((entry, t.body) ∷ []) (subst (AllByRecursion (λ (p : Key × Bytes). body_put h p.0 ≡ Some p.1)) t.is bodies) in
    let read : element h entry ≡ Some t.element = ap (option_and_then (λ body. read_of (entry_of body))) here.0 ∙ ap read_of t.spelled in
    let marks : t.element.changes ≡ marks_of row (first ∷ rest) = ap (λ (x : Entry). x.changes) (same_entry t.element (record { prev = was; changes = marks_of row (first ∷ rest) }) (sym read ∙ spelled)) in
    let ends = ends_with symbol (index_linked t.element.changes) t.first row.index t.before (ap index_linked marks ∙ marks_link row first rest version) in
    let two : (row.index, ends.1) ≡ (i.key, i.body) = last_but_one ends.0 i.tiles (row.index, ends.1) (entry, t.body) (i.key, i.body) i.element (ap (λ ps. ps ++ (entry, t.body) ∷ []) (sym ends.2) ∙ (sym t.is ∙ i.is)) in
    let put = all_behind (λ (p : Key × Bytes). body_put h p.0 ≡ Some p.1) i.tiles ((i.key, i.body) ∷ i.element ∷ []) (subst (AllByRecursion (λ (p : Key × Bytes). body_put h p.0 ≡ Some p.1)) i.is bodies) in
    subst (λ k. index_put h k ≡ Some (flat index)) (sym (ap (λ (p : Key × Bytes). p.0) two)) (flat_is_put h i.key i.body index put.0 i.spelled)

-- ---- the newest link

pub commit_newest : (client : ℕ) (sole : Bool) (symbol : Name) (Asked : Made → Type 0) (old new : History) (done : Committed) → (d : DidCommit client sole symbol Asked old new done) → (first : Change) (rest : List Change)
    → d.made.list ≡ first ∷ rest → is_version first ≡ true → ∥ IsLawful new ∥₁ → newest_index new symbol ≡ Some d.made.index
commit_newest client sole symbol Asked old new done d first rest list_is version lawful = ∥∥₁_elim lawful (hlevel props) (λ l. linked l)
  where
    last : new ≡ events.Refer client symbol d.was d.entry (first ∷ rest) ∷ d.made.before
    last = d.newest ∙ ap (λ list. events.Refer client symbol d.was d.entry list ∷ d.made.before) list_is

    linked : IsLawful new → newest_index new symbol ≡ Some d.made.index
    linked l =
        let lawful_there = subst (λ h. IsLawful h) last l in
        let may = is_commit d.made.before client symbol d.was d.entry (first ∷ rest) lawful_there.0.1 in
        let put = index_of_try d.made.before symbol d.was d.entry may.row first rest d.made.puts d.made.index version may.spelled d.is_try d.index
        (puts_have_bodies client sole old d.made.before d.made.puts d.went lawful_there.1) in
        let newest = newest_link client symbol d.was d.entry first rest d.made.before lawful_there version d.made.index put in
        subst (λ h. newest_index h symbol ≡ Some d.made.index) (sym last) (ap (option_map (λ (x : Linked). x.index)) newest.1 ∙ ap some newest.2)
      where
        some : Index → Option Index
        some i = Some i
