-- What a look at a base finds.
use Rattle.std.proofs.Common.{◌≡◌, ℕ, zero, suc, ◌+◌, ◌-◌, ◌≤◌, Bool, true, false, ◌&&◌, List, [], ◌∷◌, ◌++◌, length, take, drop, refl, sym, ap, ◌∙◌, subst, arith, Some, None, nat_eq, length-append}
use Rattle.std.specs.Prelude.{◌⊎◌, Contains}
use Rattle.std.specs.List.{list_any}
use Rattle.std.proofs.lemmas.Bool.{and_from, eq-eqb, or_right}
use Rattle.std.proofs.lemmas.List.{take-append-drop, append_assoc}
use mathlib.Core.Logic.{∥∥₁_map}
use denote.Struct.Props.{props}
use Rattle.frame_core.specs.declared.refusal.Refusal.TheVariants as refusals
use Rattle.frame_core.specs.declared.refusal.Refusal.{Refusal}
use Rattle.frame_core.specs.declared.refusal.Refused.{Refused}
use Rattle.index_tree.specs.declared.index.Index.{Index}
use Rattle.index_tree.specs.IndexRules.{IsIndex}
use Rattle.key_kind.specs.Names.{Name}
use Rattle.key_kind.specs.Keys.{same_key, reference_key}
use Rattle.key_kind.proofs.KeyTests.{same_key_self}
use Rattle.key_kind.specs.declared.key.Key.{Key}
use Rattle.bucket_core.specs.History.{History, AllByOthers, stored, history_at, since, referred_at}
use Rattle.bucket_core.specs.Laws.{refers}
use Rattle.store_model.specs.declared.chain.LinkRow.{LinkRow}
use Rattle.store_model.specs.Library.{Version, state_of, base_of, is_buried}
use Rattle.store_model.specs.Links.{Linked, links, reached}
use Rattle.store_model.specs.Holders.{has_index}
use Rattle.store_model.specs.Law.{IsLawful}
use Rattle.store_model.proofs.Lists.{passes}
use Rattle.store_model.specs.PlainLinks.{flat_put}
use Rattle.store_model.proofs.PlainLinks.{linked_flat}
use Rattle.version_chain.specs.declared.tip.ChainTip.{ChainTip}
use Rattle.version_chain.specs.States.{IsLookRefusal, RefusesWalk}
use Rattle.version_chain.specs.Tips.{IsTipOf, IsTipAt}
use Rattle.frame_read.specs.declared.target.Target.{Target}
use Rattle.frame_read.specs.Fetches.{IsTargetIndex}
use Rattle.frame_read.proofs.FetchLemmas.{links_later}
use Rattle.frame_read.proofs.ResolvingLemmas.{lawful_at}
use Rattle.version_chain.specs.Marking.{own_refers}
use Rattle.frame_write.specs.Tries.{IsMet}
use Rattle.frame_write.proofs.MeetLemmas.{met_here, none_in_both, others_refer_not}
use Rattle.append_update.specs.Newest.{IsNewest}
use Rattle.frame_read.specs.Fetches.{IsGone, IsGetRefusal, RefusesGet, LacksAt, LacksKey}
use Rattle.reply_model.specs.Losses.{LosesBase}
use Rattle.reply_model.proofs.Later.{history_at_later}
use Rattle.reply_model.proofs.Places.{history_at_end}
use Rattle.append_update.specs.Looking.{MetCommit, MetAt}
use Rattle.append_update.proofs.GoneLemmas.{since_referred, referred_since}
use Rattle.append_update.proofs.ToldLemmas.{Told, told_prop}
use Rattle.append_update.proofs.NewestLemmas.{no_newest, newest_is, newest_linked, newest_numbered}

index_told : (a b : Index) → Told (a ≡ b)
index_told a b = told_prop (hlevel props)

-- ---- the index of a link is what was put under its key

-- links with one index key have one index
same_index : (h : History) (symbol : Name) (a b : Linked) → ∥ IsLawful h ∥₁ → Contains (links h symbol) a → Contains (links h symbol) b → a.row.index ≡ b.row.index → a.index ≡ b.index
same_index h symbol a b lawful in_a in_b key = index_told a.index b.index (∥∥₁_map lawful (λ l.
    some_same (sym (linked_flat h l symbol a in_a) ∙ (ap (flat_put h) key ∙ linked_flat h l symbol b in_b))))
  where
    some_same : {x y : Index} → Some x ≡ Some y → x ≡ y
    some_same e = cc

-- ---- a link that is looked up later

row_indexed : (ls : List Linked) (l : Linked) → Contains ls l → has_index ls l.row.version l.row.index ≡ true
row_indexed ls l there = passes (λ (m : Linked). nat_eq l.row.version m.row.version && same_key l.row.index m.row.index) ls l there (and_from _ _ (eq-eqb l.row.version l.row.version refl) (same_key_self l.row.index))

-- the history goes on from each of its places
goes_on : (h : History) (place : ℕ) → h ≡ take (length h - place) h ++ history_at h place
goes_on h place = sym (take-append-drop (length h - place) h)

-- the history at the place of a walk
pub walked_here : (h : History) (symbol : Name) (prune : Bool) (tip : ChainTip) (at : IsTipAt h symbol prune tip) → history_at h tip.place ≡ at.before
walked_here h symbol prune tip at =
    ap (λ g. history_at g tip.place) at.split
    ∙ (ap (history_at (at.later ++ at.before)) at.place
    ∙ (history_at_later at.before at.later (length at.before) (omega arith) ∙ history_at_end at.before))

module _ (h : History) (symbol : Name) (prune : Bool) (tip : ChainTip) (at : IsTipAt h symbol prune tip) (lawful : ∥ IsLawful h ∥₁) where
  tip_there : IsTipOf (history_at h tip.place) symbol prune tip
  tip_there = subst (λ g. IsTipOf g symbol prune tip) (sym (walked_here h symbol prune tip at)) at.is

  pub none_found : tip.newest ≡ None → base_of (state_of (history_at h tip.place) symbol) ≡ None
  none_found e = no_newest (history_at h tip.place) symbol prune tip (lawful_at h tip.place lawful) tip_there e

  module _ (row : LinkRow) (newest : tip.newest ≡ Some row) where
    -- a link of the symbol has the row's index
    pub is_linked : has_index (links h symbol) row.version row.index ≡ true
    is_linked =
        let found = (newest_linked (history_at h tip.place) symbol prune tip row (lawful_at h tip.place lawful) tip_there newest).0 in
        let there : Contains (links h symbol) found.0 = subst (λ g. Contains (links g symbol) found.0) (sym (goes_on h tip.place)) (links_later (take (length h - tip.place) h) (history_at h tip.place) symbol found.0 found.1) in
        subst (λ (r : LinkRow). has_index (links h symbol) r.version r.index ≡ true) found.2 (row_indexed (links h symbol) found.0 there)

    -- and its version is live
    pub lives : is_buried (state_of (history_at h tip.place) symbol) row.version ≡ false
    lives = (newest_linked (history_at h tip.place) symbol prune tip row (lawful_at h tip.place lawful) tip_there newest).1

    -- it is the newest live one
    pub numbered : (v : Version) × (base_of (state_of (history_at h tip.place) symbol) ≡ Some v) × (row.version ≡ v.number)
    numbered = newest_numbered (history_at h tip.place) symbol prune tip row (lawful_at h tip.place lawful) tip_there newest

    -- the index that was got is that of the newest live version
    pub one_found : (more new : History) (target : Target) (index : Index) → new ≡ more ++ h → ∥ IsLawful new ∥₁ → target.symbol ≡ symbol → target.index ≡ row.index → IsIndex index → IsTargetIndex new target index
        → (v : Version) × IsNewest (history_at h tip.place) symbol v index × (row.version ≡ v.number)
    one_found more new target index is lawful_new symbol_is key rules got =
        newest_is (history_at h tip.place) symbol prune tip row index (lawful_at h tip.place lawful) tip_there newest rules (λ l there row_is.
        let whole : new ≡ (more ++ take (length h - tip.place) h) ++ history_at h tip.place =
        is ∙ (ap (λ g. more ++ g) (goes_on h tip.place) ∙ sym (append_assoc more (take (length h - tip.place) h) (history_at h tip.place))) in
        let later : Contains (links new symbol) l = subst (λ g. Contains (links g symbol) l) (sym whole) (links_later (more ++ take (length h - tip.place) h) (history_at h tip.place) symbol l there) in
        let link : Contains (links new symbol) got.link = subst (λ n. Contains (links new n) got.link) symbol_is got.link_is in
        same_index new symbol l got.link lawful_new later link (ap (λ (r : LinkRow). r.index) row_is ∙ (sym key ∙ sym got.key)) ∙ got.is)

-- ---- refusals of a look, as those of the call that made it

look_wider : (before mid now : ℕ) (why : Refusal) → before ≤ mid → IsLookRefusal mid now why → IsLookRefusal before now why
look_wider before mid now refusals.NoMemory le is = is
look_wider before mid now refusals.StoreFault le is = omega (arith, le, is)
look_wider before mid now why le is = absurd is

-- a look that refuses refuses the whole call
pub walk_wider : (before mid now : ℕ) (others old between new : History) (refused : Refused) → before ≤ mid → between ≡ others ++ old → RefusesWalk mid now between new refused → RefusesWalk before now old new refused
walk_wider before mid now others old between new refused le is r =
    let longer : length between ≡ length others + length old = ap length is ∙ length-append others old in
    record {
      why = look_wider before mid now refused.why le r.why;
      place = record { from = omega (arith, longer, r.place.from); to = r.place.to };
    }

-- ---- a base that is gone was buried by another's commit

since_told : (h : History) (symbol : Name) → ∥ IsLawful h ∥₁ → since h (reference_key symbol) ≡ referred_at h symbol
since_told h symbol lawful = told_prop (hlevel props) (∥∥₁_map lawful (λ l. since_referred h l symbol))

-- the history at a place that does not lie before an earlier one
at_place : (more before : History) (place : ℕ) → length before ≤ place → history_at (more ++ before) place ≡ drop (length (more ++ before) - place) more ++ before
at_place more before place le = front (length (more ++ before) - place) more (omega (arith, le, length-append more before))
  where
    front : (n : ℕ) (xs : History) → n ≤ length xs → drop n (xs ++ before) ≡ drop n xs ++ before
    front zero xs le = refl
    front (suc n) [] le = absurd (omega (arith, le))
    front (suc n) (x ∷ xs) le = front n xs (omega (arith, le))

any_later : {X : Type 0} (p : X → Bool) (n : ℕ) (xs : List X) → list_any p (drop n xs) ≡ true → list_any p xs ≡ true
any_later p zero xs e = e
any_later p (suc n) [] e = e
any_later p (suc n) (x ∷ xs) e = or_right (p x) (list_any p xs) (any_later p n xs e)

pub gone_was_met : (client : ℕ) (symbol : Name) (Fits : Version → Type 0) (before more : History) (place number : ℕ) (refused : Refused) → ∥ IsLawful (more ++ before) ∥₁ → list_any (own_refers client symbol) more ≡ false
    → length before ≤ place → is_buried (state_of before symbol) number ≡ false → is_buried (state_of (history_at (more ++ before) place) symbol) number ≡ true
    → LosesBase (more ++ before) symbol Fits (length before) (length (more ++ before)) → MetCommit (more ++ before) symbol refused → MetAt client symbol Fits (length before) (more ++ before) refused
gone_was_met client symbol Fits before more place number refused lawful none le live buried lost m =
    let cut = drop (length (more ++ before) - place) more in
    let some : list_any (refers symbol) cut ≡ true = referred_since cut before symbol number live (subst (λ h. is_buried (state_of h symbol) number ≡ true) (at_place more before place le) buried) in
    let all : list_any (refers symbol) more ≡ true = any_later (refers symbol) (length (more ++ before) - place) more some in
    record {
      met = subst (IsMet client symbol (length before) (more ++ before)) (sym (m.place ∙ since_told (more ++ before) symbol lawful)) (met_here client symbol before more none all);
      why = m.why;
      shown = sym (m.place ∙ since_told (more ++ before) symbol lawful);
      lost = lost;
    }

gone_of : (before now : ℕ) (h : History) (symbol : Name) (version number : ℕ) (why : Refusal) → IsGetRefusal before now h symbol version why → why ≡ refusals.VersionGone number → IsGone h symbol version
gone_of before now h symbol version number why is e = (subst (IsGetRefusal before now h symbol version) e is).1

-- the key that was found gone is one of the base
lost_of : (symbol : Name) (Fits : Version → Type 0) (IsSought : Linked → Key → Type 0) (before mid new more : History) (v : Version) (version place : ℕ) (why : Refusal) (number : ℕ) → new ≡ more ++ mid → history_at new (length before) ≡ before
    → length before ≤ place → place ≤ length mid → base_of (state_of before symbol) ≡ Some v → version ≡ v.number
    → ((link : Linked) (key : Key) → IsSought link key → Contains (reached link) key × ((key ≡ link.row.index) ⊎ Fits v))
    → why ≡ refusals.VersionGone number → LacksAt mid symbol version IsSought place why → LosesBase new symbol Fits (length before) (length new)
lost_of symbol Fits IsSought before mid new more v version place why number is there low high base number_is sorts e l =
    let lacks = subst (LacksAt mid symbol version IsSought place) e l in
    let here : history_at new place ≡ history_at mid place = ap (λ h. history_at h place) is ∙ history_at_later mid more place high in
    let sort = sorts lacks.0 lacks.3 lacks.4 in
    record {
      version = v;
      base = ap (λ h. base_of (state_of h symbol)) there ∙ base;
      place = place;
      behind = low;
      before = omega (arith, high, ap length is, length-append more mid);
      link = lacks.0;
      link_is = subst (λ h. Contains (links h symbol) lacks.0) (sym here) lacks.1;
      number = lacks.2 ∙ number_is;
      key = lacks.3;
      reached_by = sort.0;
      gone = ap (λ h. stored h lacks.3) here ∙ lacks.5;
      judged = sort.1;
    }

-- so the look at the reference tells that commit
pub base_gone : (client faults now : ℕ) (symbol : Name) (Fits : Version → Type 0) (IsSought : Linked → Key → Type 0) (v : Version) (later before old mid new first more : History) → old ≡ later ++ before → list_any (own_refers client symbol) later ≡ false
    → ∥ IsLawful new ∥₁ → mid ≡ first ++ old → new ≡ more ++ mid → AllByOthers client first → AllByOthers client more
    → (target : Target) → target.symbol ≡ symbol → is_buried (state_of before symbol) target.version ≡ false → base_of (state_of before symbol) ≡ Some v → target.version ≡ v.number
    → ((link : Linked) (key : Key) → IsSought link key → Contains (reached link) key × ((key ≡ link.row.index) ⊎ Fits v))
    → (got refused : Refused) (number : ℕ) → got.why ≡ refusals.VersionGone number → RefusesGet faults now old mid target.symbol target.version got → LacksKey mid target IsSought got
    → MetCommit new symbol refused → MetAt client symbol Fits (length before) new refused
base_gone client faults now symbol Fits IsSought v later before old mid new first more split none lawful_new is_mid is_new by_first by_more target symbol_is live base number_is sorts got refused number why r lacks m =
    let gone = gone_of faults now (history_at mid got.place) target.symbol target.version number got.why r.why why in
    let all : History = more ++ (first ++ later) in
    let whole : new ≡ all ++ before =
    is_new ∙ (ap (λ h. more ++ h) (is_mid ∙ (ap (λ h. first ++ h) split ∙ sym (append_assoc first later before))) ∙ sym (append_assoc more (first ++ later) before)) in
    let no_own : list_any (own_refers client symbol) all ≡ false =
    none_in_both (own_refers client symbol) more (first ++ later) (others_refer_not client symbol more by_more)
    (none_in_both (own_refers client symbol) first later (others_refer_not client symbol first by_first) none) in
    let size : length old ≡ length later + length before = ap length split ∙ length-append later before in
    let low : length before ≤ got.place = omega (arith, size, r.place.from) in
    let buried_mid : is_buried (state_of (history_at mid got.place) symbol) target.version ≡ true =
    subst (λ s. is_buried (state_of (history_at mid got.place) s) target.version ≡ true) symbol_is gone.buried in
    let here : history_at (all ++ before) got.place ≡ history_at mid got.place =
    ap (λ h. history_at h got.place) (sym whole ∙ is_new) ∙ history_at_later mid more got.place r.place.to in
    let buried : is_buried (state_of (history_at (all ++ before) got.place) symbol) target.version ≡ true = subst (λ h. is_buried (state_of h symbol) target.version ≡ true) (sym here) buried_mid in
    let there : history_at new (length before) ≡ before = ap (λ h. history_at h (length before)) whole ∙ (history_at_later before all (length before) (omega arith) ∙ history_at_end before) in
    let lost = lost_of symbol Fits IsSought before mid new more v target.version got.place got.why number is_new there low r.place.to base number_is sorts why
    (subst (λ s. LacksAt mid s target.version IsSought got.place got.why) symbol_is lacks) in
    let met = gone_was_met client symbol Fits before all got.place target.version refused (subst (λ h. ∥ IsLawful h ∥₁) whole lawful_new) no_own low live buried
    (subst (λ h. LosesBase h symbol Fits (length before) (length h)) whole lost) (subst (λ h. MetCommit h symbol refused) whole m) in
    subst (λ h. MetAt client symbol Fits (length before) h refused) (sym whole) met
