-- Whatever other clients do, the newest link behind a commit has the base's slots and new ones.
use Rattle.std.proofs.Common.{◌≡◌, ℕ, ◌≤◌, Bool, List, ◌++◌, sym, ap, ◌∙◌, subst, arith, Option, Result, Ok, Err}
use Rattle.std.specs.Prelude.{IfOk}
use Rattle.std.specs.Option.{option_map_or}
use mathlib.Core.Logic.{∥∥₁_map}
use Rattle.frame_core.specs.declared.refusal.Refused.{Refused}
use Rattle.frame_core.specs.Ranges.{Range}
use Rattle.frame_core.specs.Frames.{Frame}
use Rattle.segment_cut.specs.Cuttings.{Cutting}
use Rattle.segment_cut.specs.Grids.{parts, grid_of}
use Rattle.index_tree.specs.declared.index.Slot.{Slot}
use Rattle.key_kind.specs.Names.{Name}
use Rattle.bucket_core.specs.declared.event.Change.{Change}
use Rattle.bucket_core.specs.declared.event.Change.TheVariants as changes
use Rattle.bucket_core.specs.History.{History, puts_by}
use Rattle.store_model.specs.Law.{IsLawful}
use Rattle.store_model.specs.Library.{State, Version, state_of, base_of, next_number}
use Rattle.store_model.specs.Links.{links}
use Rattle.reply_model.specs.Answering.{pruned}
use Rattle.reply_model.specs.CommitAnswers.{update_range}
use Rattle.frame_write.specs.declared.options.Committed.{Committed}
use Rattle.frame_write.specs.declared.options.Options.{Options}
use Rattle.frame_write.specs.Pieces.{end_of, fresh_slots, laid}
use Rattle.frame_write.specs.Plans.{IsUnmoved}
use Rattle.frame_write.proofs.NewestLinks.{commit_newest}
use Rattle.append_update.specs.declared.wish.Wish.{Wish}
use Rattle.append_update.specs.declared.wish.Wish.TheVariants as wishes
use Rattle.append_update.specs.Asking.{IsAnswered}
use Rattle.append_update.specs.Bases.{Divides}
use Rattle.append_update.specs.Replacing.{replaced, AreEdges}
use Rattle.append_update.specs.RowBlocks.{IsBuiltOn}
use Rattle.append_update.specs.Shares.{slots_of_version, base_slots, base_frame, AppendsSlots, ReplacesSlots, UpdatesSlots, ClearsSlots, MakesSlots, SharesAs}
use Rattle.append_update.proofs.AskedChanges.{appended_change, updated_change, cleared_change}
use Rattle.append_update.proofs.PutCounts.{puts_grow, puts_counted}
use Rattle.append_update.proofs.SameLinks.{links_unmoved}
use Rattle.append_update.proofs.ReplyLemmas.{AllTries}

-- ---- the base where it was walked is that just before the commit

module _ (later walked : History) (symbol : Name) (lawful : ∥ IsLawful (later ++ walked) ∥₁) (unmoved : IsUnmoved (state_of walked symbol) (state_of (later ++ walked) symbol)) where
  abbrev before : History
  before = later ++ walked

  base_same : base_of (state_of walked symbol) ≡ base_of (state_of before symbol)
  base_same = sym (ap base_of unmoved.is)

  number_same : next_number (state_of walked symbol) ≡ next_number (state_of before symbol)
  number_same = sym (ap next_number unmoved.is)

  slots_same : base_slots walked symbol ≡ base_slots before symbol
  slots_same =
      ap (λ ls. slots_of_version ls (base_of (state_of walked symbol))) (sym (links_unmoved later walked symbol lawful (ap (λ (st : State). st.versions) unmoved.is)))
      ∙ ap (slots_of_version (links before symbol)) base_same

  frame_same : (other : Frame) → base_frame walked symbol other ≡ base_frame before symbol other
  frame_same other = ap (λ (o : Option Version). option_map_or (λ (v : Version). v.frame) o other) base_same

  module _ (cutting : Cutting) (client serial : ℕ) (slots : List Slot) where
    appends_later : (frame : Frame) → AppendsSlots symbol cutting frame client serial walked slots → AppendsSlots symbol cutting frame client serial before slots
    appends_later frame is =
        is
        ∙ (ap (λ bs. bs ++ fresh_slots client symbol (next_number (state_of walked symbol)) (end_of bs) serial frame (parts (grid_of frame cutting))) slots_same
        ∙ ap (λ n. base_slots before symbol ++ fresh_slots client symbol n (end_of (base_slots before symbol)) serial frame (parts (grid_of frame cutting))) number_same)

    replaces_later : (range : Range) (frame : Frame) → ReplacesSlots symbol cutting range frame client serial walked slots → ReplacesSlots symbol cutting range frame client serial before slots
    replaces_later range frame r = record {
      cuts = r.cuts;
      edges = r.edges;
      divides = subst (λ bs. Divides range bs r.cuts) slots_same r.divides;
      are = subst (λ f. AreEdges f range (base_slots before symbol) r.cuts r.edges) (frame_same frame) (subst (λ bs. AreEdges (base_frame walked symbol frame) range bs r.cuts r.edges) slots_same r.are);
      is = r.is
          ∙ (ap (λ bs. laid cutting client symbol (next_number (state_of walked symbol)) 0 serial (replaced bs r.cuts r.edges frame)) slots_same
          ∙ ap (λ n. laid cutting client symbol n 0 serial (replaced (base_slots before symbol) r.cuts r.edges frame)) number_same);
    }

    makes_later : (c : Change) → MakesSlots c symbol cutting client serial walked slots → MakesSlots c symbol cutting client serial before slots
    makes_later (changes.Wrote frame at) is = absurd is
    makes_later (changes.Appended frame at) is = appends_later frame is
    makes_later (changes.Updated frame range at) is = replaces_later range frame is
    makes_later (changes.Removed versions) is = absurd is
    makes_later (changes.Held holder version) is = absurd is
    makes_later (changes.Released holder) is = absurd is
    makes_later (changes.Discarded pieces) is = absurd is
    makes_later changes.Restated is = absurd is

-- ---- a commit

module _ (client : ℕ) (sole : Bool) (symbol : Name) (wish : Wish) (options : Options) (limit before now : ℕ) (old new : History) (done : Committed) (lawful : ∥ IsLawful new ∥₁)
    (d : AllTries client sole symbol wish options options.tries limit before now old new (Ok done)) where
  abbrev built : IsBuiltOn client options.cutting symbol d.last.asked.change d.last.made
  built = d.last.asked.built

  made_slots : MakesSlots d.last.asked.change symbol options.cutting client built.serial d.last.made.before d.last.made.index.slots
  made_slots =
      subst (λ h. MakesSlots d.last.asked.change symbol options.cutting client built.serial h d.last.made.index.slots) (sym built.split)
      (makes_later built.later built.walked symbol (∥∥₁_map lawful (λ l. subst IsLawful built.split (subst IsLawful d.last.newest l).1)) (subst (λ h. IsUnmoved (state_of built.walked symbol) (state_of h symbol)) built.split built.unmoved)
      options.cutting client built.serial d.last.made.index.slots d.last.asked.change built.slots)

  -- the serials of the new slots are behind those of the call's beginning
  unused : puts_by client old ≤ built.serial
  unused =
      let call : puts_by client old ≤ puts_by client d.mid = subst (λ h. puts_by client old ≤ puts_by client h) (sym d.refused.went.is) (puts_grow client d.refused.went.more old) in
      omega (arith, call, built.counted, puts_counted client sole d.mid d.last.made.before d.last.made.puts d.last.went)

  shares : (Slots : ℕ → ℕ → History → List Slot → Type 0) → Slots client built.serial d.last.made.before d.last.made.index.slots → SharesAs client symbol Slots done.place old new
  shares Slots slots = record {
    was = d.last.was;
    entry = d.last.entry;
    list = d.last.made.list;
    before = d.last.made.before;
    last = d.last.newest;
    place_is = d.last.place;
    index = d.last.made.index;
    newest = commit_newest client sole symbol (IsAnswered client symbol wish options) d.mid new done d.last d.last.asked.change (pruned (state_of d.last.made.before symbol) options.prune) d.last.asked.list built.version lawful;
    serial = built.serial;
    unused = unused;
    slots = slots;
  }

-- ---- the calls

module _ (client : ℕ) (sole : Bool) (symbol : Name) (options : Options) (limit before now : ℕ) (old new : History) (lawful : ∥ IsLawful new ∥₁) where
  pub append_shares : (frame : _) (r : Result Committed Refused) → AllTries client sole symbol (wishes.Append frame) options options.tries limit before now old new r
      → IfOk r (λ done. SharesAs client symbol (AppendsSlots symbol options.cutting frame.now) done.place old new)
  append_shares frame (Err refused) d = tt
  append_shares frame (Ok done) d =
      let change = appended_change (state_of d.last.made.before symbol) options.prune options.at frame.now d.last.asked.change d.last.asked.answered in
      shares client sole symbol (wishes.Append frame) options limit before now old new done lawful d (AppendsSlots symbol options.cutting frame.now)
      (subst (λ c. MakesSlots c symbol options.cutting client d.last.asked.built.serial d.last.made.before d.last.made.index.slots) change (made_slots client sole symbol (wishes.Append frame) options limit before now old new done lawful d))

  pub update_shares : (frame : _) (asked : Option Range) (range : Range) (upsert : Bool) (r : Result Committed Refused) → AllTries client sole symbol (wishes.Replace frame range upsert) options options.tries limit before now old new r
      → update_range asked frame.now ≡ Ok range → IfOk r (λ done. SharesAs client symbol (UpdatesSlots symbol options.cutting asked frame.now) done.place old new)
  update_shares frame asked range upsert (Err refused) d range_is = tt
  update_shares frame asked range upsert (Ok done) d range_is =
      let change = updated_change (state_of d.last.made.before symbol) options.prune options.at upsert range frame.now d.last.asked.change d.last.asked.answered in
      shares client sole symbol (wishes.Replace frame range upsert) options limit before now old new done lawful d (UpdatesSlots symbol options.cutting asked frame.now)
      (range, range_is, subst (λ c. MakesSlots c symbol options.cutting client d.last.asked.built.serial d.last.made.before d.last.made.index.slots) change (made_slots client sole symbol (wishes.Replace frame range upsert) options limit before now old new done lawful d))

  pub clear_shares : (range : Range) (r : Result Committed Refused) → AllTries client sole symbol (wishes.Clear range) options options.tries limit before now old new r
      → IfOk r (λ done. SharesAs client symbol (ClearsSlots symbol options.cutting range) done.place old new)
  clear_shares range (Err refused) d = tt
  clear_shares range (Ok done) d =
      let base = cleared_change (state_of d.last.made.before symbol) options.prune options.at range d.last.asked.change d.last.asked.answered in
      shares client sole symbol (wishes.Clear range) options limit before now old new done lawful d (ClearsSlots symbol options.cutting range)
      (base.0, base.1, subst (λ c. MakesSlots c symbol options.cutting client d.last.asked.built.serial d.last.made.before d.last.made.index.slots) base.2 (made_slots client sole symbol (wishes.Clear range) options limit before now old new done lawful d))
