-- Where nobody else makes events, a commit stands right behind its puts, and lays out the version that the library answers.
use Rattle.std.proofs.Common.{◌≡◌, ℕ, suc, ◌+◌, ◌≤◌, Bool, true, false, List, [], ◌∷◌, ◌++◌, length, map, refl, sym, ap, ◌∙◌, subst, arith, Result, Ok, Err, length-append}
use Rattle.std.specs.Prelude.{◌*◌, reverse, IfOk}
use Rattle.std.specs.List.{list_any, flat_map, AllByRecursion, AllZip}
use Rattle.std.proofs.lemmas.List.{length-map, length-reverse}
use mathlib.Core.Logic.{∥∥₁_map}
use Rattle.frame_core.specs.declared.refusal.Refusal.{Refusal}
use Rattle.frame_core.specs.declared.refusal.Refused.{Refused}
use Rattle.segment_cut.specs.Cuttings.{IsCutting}
use Rattle.index_tree.specs.declared.index.Slot.{Slot}
use Rattle.index_tree.specs.declared.index.Index.{Index}
use Rattle.key_kind.specs.Names.{Name}
use Rattle.bucket_core.specs.declared.event.Change.{Change}
use Rattle.bucket_core.specs.declared.event.Change.TheVariants as changes
use Rattle.bucket_core.specs.declared.event.Event.{Event}
use Rattle.bucket_core.specs.declared.event.Event.TheVariants as events
use Rattle.bucket_core.specs.History.{History, author}
use Rattle.bucket_core.specs.Laws.{refers}
use Rattle.store_model.specs.Law.{IsLawful}
use Rattle.store_model.specs.Library.{State, Piece, state_of, base_of, first_of}
use Rattle.store_model.specs.Links.{links}
use Rattle.store_model.proofs.Untouched.{IsAsItWas, as_it_was}
use Rattle.version_chain.specs.Traces.{own_of, met_in}
use Rattle.version_chain.proofs.TraceLemmas.{append_assoc, same_front}
use Rattle.reply_model.specs.declared.outcome.Outcome.{Outcome}
use Rattle.reply_model.specs.Tries.{put_of}
use Rattle.reply_model.specs.Answering.{Answer, pruned}
use Rattle.reply_model.specs.Blocks.{Cutting, parts_of}
use Rattle.reply_model.specs.Keyed.{block_keys, IsKeyedPart}
use Rattle.reply_model.specs.Standing.{GrowsAlone, row_sizes, IsCutBy, rows_of_version, base_rows, keys_of_version, base_keys, bare_block, part_rows, fresh_in, slices, parts_laid, IsLaid}
use Rattle.reply_model.proofs.AloneWindows.{own_is_all, none_met, none_added}
use Rattle.reply_model.proofs.LaidWrites.{link_with}
use Rattle.reply_model.proofs.PartRows.{base_within}
use Rattle.reply_model.proofs.Places.{none_of_reversed}
use Rattle.frame_write.specs.declared.options.Options.{Options}
use Rattle.frame_write.specs.declared.options.Committed.{Committed}
use Rattle.frame_write.specs.Tries.{DidRefused, DidTries}
use Rattle.frame_write.proofs.LegalLemmas.{own_in_window, met_in_window}
use Rattle.frame_write.proofs.MeetLemmas.{puts_refer_not}
use Rattle.frame_write.proofs.NewestLinks.{commit_newest}
use Rattle.append_update.specs.declared.wish.Wish.{Wish}
use Rattle.append_update.specs.Asking.{answer_to, IsAnswered, Declines, Wants, Loses}
use Rattle.append_update.specs.RowBlocks.{AreSmall, HavePartKeys, IsPutAs, IsBuiltOn, LaysAs}
use Rattle.reply_model.specs.Blocks.{run_cutting}
use Rattle.append_update.proofs.AskedLemmas.{answer_staged}
use Rattle.append_update.proofs.SameLinks.{links_unmoved}

-- ---- events of one client

abbrev AreOwn : ℕ → History → Type 0
AreOwn client more = AllByRecursion (λ (e : Event). author e ≡ client) more

own_parts : (client : ℕ) (xs ys : History) → AreOwn client (xs ++ ys) → AreOwn client xs × AreOwn client ys
own_parts client [] ys all = (tt, all)
own_parts client (x ∷ xs) ys all = let parts = own_parts client xs ys all.1 in ((all.0, parts.0), parts.1)

-- what one client added are its own events
all_own : (client : ℕ) (old more : History) → AreOwn client more → own_of client more ≡ reverse more
all_own client old more own = sym (own_in_window client old (more ++ old) more true refl) ∙ own_is_all more old client true own

-- so none of its tries was met
none_tried : (client : ℕ) (sole : Bool) (symbol : Name) (old mid : History) (count : ℕ) → (r : DidRefused client sole symbol old mid count) → AreOwn client r.went.more → mid ≡ old
none_tried client sole symbol old mid count r own =
    let unmet : met_in client symbol r.went.more ≡ 0 = sym (met_in_window client symbol old (r.went.more ++ old) r.went.more true refl) ∙ none_met r.went.more old client symbol true own in
    let empty : r.tries ≡ [] = nothing r.tries (omega (arith, r.counted, r.met, unmet)) in
    let none : r.went.more ≡ [] = none_added r.went.more (sym (all_own client old r.went.more own) ∙ (r.went.own_are ∙ ap (λ ts. flat_map (λ t. t) ts) empty)) in
    r.went.is ∙ ap (λ h. h ++ old) none
  where
    nothing : (ts : List (List Event)) → length ts ≤ 0 → ts ≡ []
    nothing [] le = refl
    nothing (t ∷ ts) le = absurd (omega (arith, le))

-- ---- the row blocks of the base

-- they are small where those of all links are
pub base_small : (c : Cutting) (h : History) (symbol : Name) → IsCutBy c h → AreSmall c h symbol
base_small c h symbol cut = base_within c.rows (links h symbol) (base_of (state_of h symbol)) (cut symbol)

-- staged pieces make no tiles
slices_staged : (c : Cutting) (st : State) (more : List Piece) (change : Change) → slices c (record st { staged = more }) change ≡ slices c st change
slices_staged c st more (changes.Wrote frame at) = refl
slices_staged c st more (changes.Appended frame at) = refl
slices_staged c st more (changes.Updated frame range at) = refl
slices_staged c st more (changes.Removed versions) = refl
slices_staged c st more (changes.Held holder version) = refl
slices_staged c st more (changes.Released holder) = refl
slices_staged c st more (changes.Discarded pieces) = refl
slices_staged c st more changes.Restated = refl

-- ---- the answer

ok_same : {a b : Answer} → ◌≡◌ {A = Result Answer Refusal} (Ok a) (Ok b) → a ≡ b
ok_same e = cc

first_same : {x y : Change} {xs ys : List Change} → x ∷ xs ≡ y ∷ ys → x ≡ y
first_same e = cc

-- ---- a commit

module _ (client : ℕ) (sole : Bool) (symbol : Name) (wish : Wish) (options : Options) (limit before now : ℕ) (old new : History) (done : Committed) (cut : IsCutting options.cutting) (lawful : ∥ IsLawful new ∥₁)
    (grows : GrowsAlone client old new) (d : DidTries client sole symbol (IsAnswered client symbol wish options) (Declines symbol wish options) (Wants symbol wish options) (Loses symbol wish) options.tries limit before now old new (Ok done)) where
  abbrev c : Cutting
  c = run_cutting options.cutting

  abbrev refer : Event
  refer = events.Refer client symbol d.last.was d.last.entry d.last.made.list

  own : AreOwn client (refer ∷ d.last.went.more) × AreOwn client d.refused.went.more
  own =
      let whole : new ≡ ((refer ∷ d.last.went.more) ++ d.refused.went.more) ++ old =
      d.last.newest ∙ ap (λ h. refer ∷ h) (d.last.went.is ∙ (ap (λ h. d.last.went.more ++ h) d.refused.went.is ∙ sym (append_assoc d.last.went.more d.refused.went.more old))) in
      own_parts client (refer ∷ d.last.went.more) d.refused.went.more (subst (AreOwn client) (same_front grows.more ((refer ∷ d.last.went.more) ++ d.refused.went.more) old (sym grows.is ∙ whole)) grows.own)

  -- the commit's puts were added, and nothing else
  puts_are : reverse d.last.went.more ≡ map (put_of client) d.last.made.puts
  puts_are = sym (all_own client d.mid d.last.went.more own.0.1) ∙ d.last.went.own_are

  quiet : list_any (refers symbol) d.last.went.more ≡ false
  quiet = none_of_reversed (refers symbol) d.last.went.more (subst (λ es. list_any (refers symbol) es ≡ false) (sym puts_are) (puts_refer_not client symbol d.last.made.puts))

  size : length d.last.went.more ≡ length d.last.made.puts
  size = sym (length-reverse d.last.went.more) ∙ (ap length puts_are ∙ length-map d.last.made.puts (put_of client))

  before_is : d.last.made.before ≡ d.last.went.more ++ old
  before_is = d.last.went.is ∙ ap (λ h. d.last.went.more ++ h) (none_tried client sole symbol old d.mid d.count d.refused own.1)

  same : IsAsItWas old d.last.made.before symbol
  same = subst (λ h. IsAsItWas old h symbol) (sym before_is) (as_it_was old d.last.went.more symbol quiet)

  -- the base that was walked is that of the old history
  abbrev built : IsBuiltOn client options.cutting symbol d.last.asked.change d.last.made
  built = d.last.asked.built

  links_same : links old symbol ≡ links built.walked symbol
  links_same =
      sym same.links_are
      ∙ (ap (λ h. links h symbol) built.split
      ∙ links_unmoved built.later built.walked symbol (∥∥₁_map lawful (λ l. subst IsLawful built.split (subst IsLawful d.last.newest l).1)) (ap (λ h. (state_of h symbol).versions) (sym built.split) ∙ ap (λ (st : State). st.versions) built.unmoved.is))

  base_same : base_of (state_of old symbol) ≡ base_of (state_of built.walked symbol)
  base_same = sym (ap base_of same.state_is) ∙ ap base_of built.unmoved.is

  rows_same : base_rows old symbol ≡ base_rows built.walked symbol
  rows_same = ap (λ ls. rows_of_version ls (base_of (state_of old symbol))) links_same ∙ ap (rows_of_version (links built.walked symbol)) base_same

  keys_same : base_keys old symbol ≡ base_keys built.walked symbol
  keys_same = ap (λ ls. keys_of_version ls (base_of (state_of old symbol))) links_same ∙ ap (keys_of_version (links built.walked symbol)) base_same

  parts_same : (change : Change) → parts_laid c built.walked symbol change ≡ parts_laid c old symbol change
  parts_same change =
      ap (λ v. parts_of c v (map bare_block (base_rows built.walked symbol)) change) (sym base_same) ∙ ap (λ ns. parts_of c (base_of (state_of old symbol)) (map bare_block ns) change) (sym rows_same)

  slices_same : (change : Change) → slices c (state_of built.walked symbol) change ≡ slices c (state_of old symbol) change
  slices_same change =
      sym (slices_staged c (state_of built.walked symbol) (built.unmoved.more ++ (state_of built.walked symbol).staged) change)
      ∙ (ap (λ st. slices c st change) (sym built.unmoved.is ∙ same.state_is) ∙ slices_staged c (state_of old symbol) (same.more ++ (state_of old symbol).staged) change)

  -- so are the keys of the parts
  part_keys_same : (change : Change) (slots : List Slot) → HavePartKeys c built.walked symbol change slots → HavePartKeys c old symbol change slots
  part_keys_same change slots have blocks names rows_is names_is =
      subst (λ n. AllZip (IsKeyedPart names n) (parts_of c (base_of (state_of old symbol)) blocks change) (block_keys slots)) (slices_same change)
      (subst (λ v. AllZip (IsKeyedPart names (slices c (state_of built.walked symbol) change)) (parts_of c v blocks change) (block_keys slots)) (sym base_same) (have blocks names (rows_is ∙ rows_same) (names_is ∙ keys_same)))

  laid : AreSmall c old symbol → IsLaid c symbol d.last.asked.change done.place old new
  laid small =
      let change = d.last.asked.change in
      let put : IsPutAs c built.walked symbol change d.last.made = built.put cut (subst (AllByRecursion (λ n. n ≤ c.rows)) rows_same small) in
      let newest = commit_newest client sole symbol (IsAnswered client symbol wish options) d.mid new done d.last change (pruned (state_of d.last.made.before symbol) options.prune) d.last.asked.list built.version lawful in
      let link = link_with (first_of (links new symbol)) d.last.made.index newest in
      let tiles : fresh_in (parts_laid c built.walked symbol change) * slices c (state_of built.walked symbol) change ≡ fresh_in (parts_laid c old symbol change) * slices c (state_of old symbol) change =
      ap (λ ps. fresh_in ps * slices c (state_of built.walked symbol) change) (parts_same change) ∙ ap (λ k. fresh_in (parts_laid c old symbol change) * k) (slices_same change) in
      let last : length new ≡ suc (length d.last.made.before) = ap length d.last.newest in
      let behind : length d.last.made.before ≡ length d.last.went.more + length old = ap length before_is ∙ length-append d.last.went.more old in
      record {
        some_rows = cut.some_rows;
        tiles = omega (arith, d.last.place, last, behind, size, put.tiles, tiles);
        link = link.0;
        newest = link.1;
        rows = ap (λ (i : Index). row_sizes i.slots) link.2 ∙ (put.rows ∙ ap (map part_rows) (parts_same change));
        keys = part_keys_same change link.0.index.slots (subst (λ (i : Index). HavePartKeys c built.walked symbol change i.slots) (sym link.2) put.keys);
      }

  -- the change is the one that the library answers
  change_is : (change : Change) (rest : List Change) (outcome : Outcome) → answer_to wish options.prune options.at (state_of old symbol) ≡ Ok (record { outcome = outcome; marks = change ∷ rest }) → d.last.asked.change ≡ change
  change_is change rest outcome e =
      let here : answer_to wish options.prune options.at (state_of d.last.made.before symbol) ≡ answer_to wish options.prune options.at (state_of old symbol) =
      ap (answer_to wish options.prune options.at) same.state_is ∙ answer_staged wish options.prune options.at (state_of old symbol) (same.more ++ (state_of old symbol).staged) in
      first_same (ap (λ (a : Answer). a.marks) (ok_same (sym d.last.asked.answered ∙ (here ∙ e))))

  pub commit_lays : (answer : State → Result Answer Refusal) → ((st : State) → answer st ≡ answer_to wish options.prune options.at st) → LaysAs c symbol answer done.place old new
  commit_lays answer same_as small change rest outcome e =
      subst (λ x. IsLaid c symbol x done.place old new) (change_is change rest outcome (sym (same_as (state_of old symbol)) ∙ e)) (laid small)

-- a commit of all tries
pub tries_lay : (client : ℕ) (sole : Bool) (symbol : Name) (wish : Wish) (options : Options) (limit before now : ℕ) (old new : History) (r : Result Committed Refused) → IsCutting options.cutting → ∥ IsLawful new ∥₁ → GrowsAlone client old new
    → DidTries client sole symbol (IsAnswered client symbol wish options) (Declines symbol wish options) (Wants symbol wish options) (Loses symbol wish) options.tries limit before now old new r
    → (answer : State → Result Answer Refusal) → ((st : State) → answer st ≡ answer_to wish options.prune options.at st) → IfOk r (λ done. LaysAs (run_cutting options.cutting) symbol answer done.place old new)
tries_lay client sole symbol wish options limit before now old new (Err refused) cut lawful grows d answer same_as = tt
tries_lay client sole symbol wish options limit before now old new (Ok done) cut lawful grows d answer same_as = commit_lays client sole symbol wish options limit before now old new done cut lawful grows d answer same_as
