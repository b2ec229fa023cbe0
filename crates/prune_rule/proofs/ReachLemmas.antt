-- Rows whose indexes are read, one after another, and tries that are met.
use Rattle.std.proofs.Common.{◌≡◌, ℕ, ◌+◌, ◌≤◌, Bool, true, false, ◌&&◌, not, List, [], ◌∷◌, ◌++◌, length, ap, sym, ◌∙◌, subst, inl, inr, arith, Some, None}
use Rattle.std.specs.Prelude.{◌⊎◌, Contains}
use Rattle.std.specs.List.{list_any, AllByRecursion}
use Rattle.std.specs.BTreeSet.{BTreeSet}
use Rattle.std.proofs.lemmas.Bool.{true≢false, and_parts, and_from, or_cases, or_left, or_right, not-true}
use denote.Struct.Props.{props}
use mathlib.Core.Logic.{∥∥₁_elim}
use Rattle.index_tree.specs.declared.index.Index.{Index}
use Rattle.key_kind.specs.declared.key.Key.{Key}
use Rattle.key_kind.specs.Names.{Name}
use Rattle.key_kind.specs.Keys.{is_put, same_key}
use Rattle.key_kind.proofs.KeyTests.{same_key_is, same_key_self}
use Rattle.bucket_core.specs.History.{History, stored}
use Rattle.bucket_core.specs.Laws.{Looks}
use Rattle.store_model.specs.declared.chain.LinkRow.{LinkRow}
use Rattle.store_model.specs.Law.{IsClaimed, IsLawful}
use Rattle.store_model.specs.PlainLinks.{flat_put}
use Rattle.store_model.proofs.PlainLinks.{flat_stays}
use Rattle.store_model.proofs.Following.{puts_stay}
use Rattle.store_model.proofs.Lists.{contains_first, contains_later, contains_cases, contains_none, contains_right, one_passes, passes}
use Rattle.version_chain.specs.Marking.{IsMet}
use Rattle.version_chain.specs.Traces.{met_in}
use Rattle.version_chain.proofs.MeetLemmas.{met_counts}
use Rattle.version_chain.proofs.TraceLemmas.{append_assoc, met_in-append}
use Rattle.version_chain.proofs.Walked.{others_append, looks_none}
use Rattle.prune_rule.specs.declared.reaching.Reached.{Reached}
use Rattle.prune_rule.specs.DeadKeys.{has_key, reached_keys, IsIndexPut, IsReachedBy, DidReach, Reaches}
use Rattle.prune_rule.proofs.TurnLemmas.{append_none}
use Rattle.prune_rule.proofs.GoneLemmas.{stays_gone, stood_before, still_put}
use Rattle.prune_rule.proofs.DropLemmas.{all_in}

-- an index that was put stays put
pub index_later : (more h new : History) (key : Key) (index : Index) → new ≡ more ++ h → ∥ IsLawful new ∥₁ → flat_put h key ≡ Some index → flat_put new key ≡ Some index
index_later more h new key index is lawful put =
    subst (λ g. flat_put g key ≡ Some index) (sym is) (∥∥₁_elim (subst (λ g. ∥ IsLawful g ∥₁) is lawful) (hlevel props) (λ l. flat_stays h (more ++ h) (puts_stay more h l) key index put))

-- the last of these rows were read, and the first are left
pub record ReachesSoFar (old cur : History) (rows rest : List LinkRow) (kept : BTreeSet Key) (reached : Reached) : Type 0 where
  pub passed : List LinkRow
  pub is : rows ≡ rest ++ passed
  pub reaches : Reaches old cur passed kept reached

pub reaches_none : (h : History) (rows rest : List LinkRow) (kept : BTreeSet Key) (reached : Reached) → rest ≡ rows → reached.gone ≡ false → ((key : Key) → has_key reached.keys key ≡ false) → ReachesSoFar h h rows rest kept reached
reaches_none h rows rest kept reached same not_gone lacks = record {
  passed = [];
  is = sym same ∙ sym (append_none rest);
  reaches = record {
    each = λ row c. absurd (contains_none row c);
    only = λ key has. absurd (true≢false (sym has ∙ lacks key));
    gone = λ g. absurd (true≢false (sym g ∙ not_gone));
  };
}

-- the next row may be read
pub row_put : (old cur first : History) (rows rest left : List LinkRow) (row : LinkRow) (kept : BTreeSet Key) (reached : Reached) → cur ≡ first ++ old → ∥ IsLawful cur ∥₁ → AllByRecursion (IsIndexPut old) rows → rest ≡ left ++ row ∷ []
    → ReachesSoFar old cur rows rest kept reached → IsIndexPut cur row
row_put old cur first rows rest left row kept reached was here put back s =
    let there : Contains rows row = subst (λ l. Contains l row) (sym (s.is ∙ (ap (λ l. l ++ s.passed) back ∙ append_assoc left (row ∷ []) s.passed))) (contains_right left (row ∷ s.passed) row (contains_first row s.passed)) in
    let p = all_in (IsIndexPut old) rows row put there in
    record { kind = p.kind; put = still_put first old cur row.index was here p.put }

module _ (old cur new first more : History) (rows rest left : List LinkRow) (row : LinkRow) (kept : BTreeSet Key) (before after : Reached)
    (was : cur ≡ first ++ old) (is : new ≡ more ++ cur) (here : ∥ IsLawful cur ∥₁) (lawful : ∥ IsLawful new ∥₁) (put : AllByRecursion (IsIndexPut old) rows)
    (back : rest ≡ left ++ row ∷ []) (so_far : ReachesSoFar old cur rows rest kept before) where
  whole : rows ≡ left ++ (row ∷ so_far.passed)
  whole = so_far.is ∙ (ap (λ l. l ++ so_far.passed) back ∙ append_assoc left (row ∷ []) so_far.passed)

  put_at : (r : LinkRow) → Contains (row ∷ so_far.passed) r → IsIndexPut old r
  put_at r c = all_in (IsIndexPut old) rows r put (subst (λ l. Contains l r) (sym whole) (contains_right left (row ∷ so_far.passed) r c))

  since_old : new ≡ (more ++ first) ++ old
  since_old = is ∙ (ap (λ h. more ++ h) was ∙ sym (append_assoc more first old))

  -- an index that is gone stays gone
  still_none : (r : LinkRow) → Contains so_far.passed r → stored cur r.index ≡ None → stored new r.index ≡ None
  still_none r c none =
      let p = put_at r (contains_later r row so_far.passed c) in
      stays_gone more cur new r.index is (ap is_put p.kind) lawful (still_put first old cur r.index was here p.put) none

  lifted : (key : Key) → (has_key kept key ≡ false) × ((r : LinkRow) × Contains so_far.passed r × IsReachedBy old cur r key) → (has_key kept key ≡ false) × ((r : LinkRow) × Contains (row ∷ so_far.passed) r × IsReachedBy old new r key)
  lifted key o = (o.0, (o.1.0, contains_later o.1.0 row so_far.passed o.1.1, record { stood = o.1.2.stood; index = o.1.2.index; put = index_later more cur new o.1.0.index o.1.2.index is lawful o.1.2.put; reaches = o.1.2.reaches }))

  more_keys : DidReach new row kept before after → (key : Key) → has_key before.keys key ≡ true → has_key after.keys key ≡ true
  more_keys did key has = elim did [
    | inl miss ↦ ap (λ ks. has_key ks key) miss.keys ∙ has
    | inr hit ↦ hit.keys key ∙ or_left (has_key before.keys key) (list_any (λ k. same_key k key) (reached_keys row.index hit.index) && not (has_key kept key)) has
  ]

  still_gone : DidReach new row kept before after → before.gone ≡ true → after.gone ≡ true
  still_gone did g = elim did [ inl miss ↦ miss.gone | inr hit ↦ hit.gone ∙ g ]

  passed_each : DidReach new row kept before after → (r : LinkRow) → Contains so_far.passed r
      → ((stored new r.index ≡ None) × (after.gone ≡ true))
      ⊎ ((index : Index) × (flat_put new r.index ≡ Some index) × ((key : Key) → Contains (reached_keys r.index index) key → has_key kept key ≡ false → has_key after.keys key ≡ true))
  passed_each did r c = elim (so_far.reaches.each r c) [
    | inl none ↦ inl (still_none r c none.0, still_gone did none.1)
    | inr found ↦ inr (found.0, index_later more cur new r.index found.0 is lawful found.1, λ key reach lacks. more_keys did key (found.2 key reach lacks))
  ]

  row_each : DidReach new row kept before after
      → ((stored new row.index ≡ None) × (after.gone ≡ true))
      ⊎ ((index : Index) × (flat_put new row.index ≡ Some index) × ((key : Key) → Contains (reached_keys row.index index) key → has_key kept key ≡ false → has_key after.keys key ≡ true))
  row_each did = elim did [
    | inl miss ↦ inl (miss.none, miss.gone)
    | inr hit ↦ inr (
      hit.index,
      hit.put,
      λ key reach lacks.
          hit.keys key ∙ or_right (has_key before.keys key) (list_any (λ k. same_key k key) (reached_keys row.index hit.index) && not (has_key kept key))
          (and_from _ _ (passes (λ k. same_key k key) (reached_keys row.index hit.index) key reach (same_key_self key)) (ap not lacks)),
    )
  ]

  each_only : DidReach new row kept before after → (key : Key) → has_key after.keys key ≡ true → (has_key kept key ≡ false) × ((r : LinkRow) × Contains (row ∷ so_far.passed) r × IsReachedBy old new r key)
  each_only did key has = elim did [
    | inl miss ↦ lifted key (so_far.reaches.only key (sym (ap (λ ks. has_key ks key) miss.keys) ∙ has))
    | inr hit ↦ elim (or_cases (has_key before.keys key) (list_any (λ k. same_key k key) (reached_keys row.index hit.index) && not (has_key kept key)) (sym (hit.keys key) ∙ has)) [
      | inl earlier ↦ lifted key (so_far.reaches.only key earlier)
      | inr now ↦
          let parts = and_parts (list_any (λ k. same_key k key) (reached_keys row.index hit.index)) (not (has_key kept key)) now in
          let r = one_passes (λ k. same_key k key) (reached_keys row.index hit.index) parts.0 in
          let p = put_at row (contains_first row so_far.passed) in (
            not-true _ parts.1,
            (
              row,
              contains_first row so_far.passed,
              record {
                stood = stood_before (more ++ first) old new row.index since_old (ap is_put p.kind) lawful p.put hit.stands;
                index = hit.index;
                put = hit.put;
                reaches = subst (λ k. Contains (reached_keys row.index hit.index) k) (same_key_is r.0 key r.2) r.1;
              },
            ),
          )
    ]
  ]

  each_gone : DidReach new row kept before after → after.gone ≡ true → (r : LinkRow) × Contains (row ∷ so_far.passed) r × (stored new r.index ≡ None)
  each_gone did g = elim did [
    | inl miss ↦ (row, contains_first row so_far.passed, miss.none)
    | inr hit ↦ let r = so_far.reaches.gone (sym hit.gone ∙ g) in (r.0, contains_later r.0 row so_far.passed r.1, still_none r.0 r.1 r.2)
  ]

  -- one row more
  pub reaches_more : DidReach new row kept before after → ReachesSoFar old new rows left kept after
  reaches_more did = record {
    passed = row ∷ so_far.passed;
    is = whole;
    reaches = record {
      each = λ r c. elim (contains_cases r row so_far.passed c) [
        | inl same ↦ subst (λ (x : LinkRow). ((stored new x.index ≡ None) × (after.gone ≡ true))
            ⊎ ((index : Index) × (flat_put new x.index ≡ Some index) × ((key : Key) → Contains (reached_keys x.index index) key → has_key kept key ≡ false → has_key after.keys key ≡ true))) same (row_each did)
        | inr earlier ↦ passed_each did r earlier
      ];
      only = each_only did;
      gone = each_gone did;
    };
  }

-- all rows were read
pub reaches_end : (old cur : History) (rows rest : List LinkRow) (kept : BTreeSet Key) (reached : Reached) → rest ≡ [] → ReachesSoFar old cur rows rest kept reached → Reaches old cur rows kept reached
reaches_end old cur rows rest kept reached none s = subst (λ rs. Reaches old cur rs kept reached) (sym (s.is ∙ ap (λ l. l ++ s.passed) none)) s.reaches

-- ---- tries

-- so many tries met a Refer of another's
pub record MetSoFar (client : ℕ) (sole : Bool) (symbol : Name) (count : ℕ) (old cur : History) : Type 0 where
  pub looks : Looks IsClaimed client sole old cur
  pub enough : count ≤ met_in client symbol looks.others

pub met_none : (client : ℕ) (sole : Bool) (symbol : Name) (h : History) → MetSoFar client sole symbol 0 h h
met_none client sole symbol h = record { looks = looks_none client sole h; enough = omega arith }

-- one more
pub met_more : (client : ℕ) (sole : Bool) (symbol : Name) (count place : ℕ) (old cur new : History) → MetSoFar client sole symbol count old cur → Looks IsClaimed client sole cur new → IsMet client symbol (length cur) new place → MetSoFar client sole symbol (count + 1) old new
met_more client sole symbol count place old cur new s g m = record {
  looks = record {
    others = g.others ++ s.looks.others;
    is = g.is ∙ (ap (λ h. g.others ++ h) s.looks.is ∙ sym (append_assoc g.others s.looks.others old));
    by_others = others_append client g.others s.looks.others g.by_others s.looks.by_others;
    alone = λ e. (λ i. g.alone e i ++ s.looks.alone e i);
    lawful = λ l. g.lawful (s.looks.lawful l);
  };
  enough =
      let one : 1 ≤ met_in client symbol g.others = met_counts client symbol (length cur) cur g.others place (omega arith) (subst (λ h. IsMet client symbol (length cur) h place) g.is m) in
      omega (arith, one, s.enough, met_in-append client symbol g.others s.looks.others);
}
