use Rattle.std.proofs.Common.{◌≡◌, ℕ, ◌≤◌, Bool, [], length, refl, inl, inr, arith, Ok, Err, Result}
use Rattle.std.specs.Prelude.{IfOk}
use Rattle.frame_core.specs.Frames.{Frame}
use Rattle.frame_core.specs.declared.refusal.Refusal.TheVariants as refusals
use Rattle.frame_core.specs.declared.refusal.Refused.{Refused}
use Rattle.segment_cut.specs.Cuttings.{IsCutting}
use Rattle.segment_cut.specs.Grids.{parts, grid_of}
use Rattle.key_kind.specs.Names.{Name}
use Rattle.bucket_core.specs.declared.event.Change.TheVariants as changes
use Rattle.bucket_core.specs.History.{History}
use Rattle.store_model.specs.Library.{state_of}
use Rattle.store_model.specs.Law.{IsLawful}
use Rattle.version_chain.proofs.Walked.{looks_none}
use Rattle.reply_model.specs.Answering.{pruned}
use Rattle.reply_model.specs.Standing.{GrowsAlone}
use Rattle.frame_write.specs.declared.options.Options.{Options}
use Rattle.frame_write.specs.declared.options.Committed.{Committed}
use Rattle.frame_write.specs.Tries.{DidTries}
use Rattle.frame_write.specs.Writes.{IsWritten, Never, Always, Whole, StandsAlone, IsGridLinked}
use Rattle.version_chain.proofs.TraceLemmas.{went_looks}
use Rattle.frame_write.proofs.CommitLemmas.{plan_stops}
use Rattle.frame_write.proofs.ReplyLemmas.{goes_on, stands_alone}
use Rattle.frame_write.proofs.LegalWrites.{write_is_legal}
use Rattle.frame_write.proofs.NewestLinks.{commit_newest}
use Rattle.frame_write.proofs.write.write_link.Goals as goal

-- no try was made
none_tried : (client : ℕ) (sole : Bool) (symbol : Name) (frame : Frame) (options : Options) (most limit before now : ℕ) (old : History) (place : ℕ) → 1 ≤ most → place ≡ length old
    → DidTries client sole symbol (IsWritten symbol frame options) Never Always Whole most limit before now old old (Err (record { place = place; why = refusals.NoMemory }))
none_tried client sole symbol frame options most limit before now old place some is = inr (record {
  count = 0;
  few = some;
  mid = old;
  refused = record { tries = []; refused = tt; counted = omega arith; went = went_looks client sole old old (looks_none client sole old); met = omega arith };
  last = inl (inl (plan_stops client sole symbol limit before now (length old) old old place (looks_none client sole old) is), tt);
})

-- where nobody else makes events, a commit stands behind its puts
placed_alone : (client : ℕ) (sole : Bool) (symbol : Name) (frame : Frame) (options : Options) (most limit before now : ℕ) (old new : History) (r : Result Committed Refused) → GrowsAlone client old new
    → DidTries client sole symbol (IsWritten symbol frame options) Never Always Whole most limit before now old new r → IfOk r (StandsAlone (length (parts (grid_of frame options.cutting))) old)
placed_alone client sole symbol frame options most limit before now old new (Err refused) grows d = tt
placed_alone client sole symbol frame options most limit before now old new (Ok done) grows d =
    stands_alone client sole symbol (IsWritten symbol frame options) most limit before now Never Always Whole old new done (length (parts (grid_of frame options.cutting))) (λ m w. w.puts) grows d

-- the newest link of a commit has the tiles of the frame's grid
linked_grid : (client : ℕ) (sole : Bool) (symbol : Name) (frame : Frame) (options : Options) (most limit before now : ℕ) (old new : History) (r : Result Committed Refused) → IsCutting options.cutting → ∥ IsLawful new ∥₁
    → DidTries client sole symbol (IsWritten symbol frame options) Never Always Whole most limit before now old new r → IfOk r (λ done. IsGridLinked new symbol frame options.cutting)
linked_grid client sole symbol frame options most limit before now old new (Err refused) cutting lawful d = tt
linked_grid client sole symbol frame options most limit before now old new (Ok done) cutting lawful d = record {
  cutting_is = cutting;
  index = d.last.made.index;
  newest = commit_newest client sole symbol (IsWritten symbol frame options) d.mid new done d.last (changes.Wrote frame options.at) (pruned (state_of d.last.made.before symbol) options.prune) d.last.asked.list refl lawful;
  parts_are = d.last.asked.parts_are;
}

pub returns-in_default-clause-grown : goal.returns-in_default-clause-grown
returns-in_default-clause-grown g c = record { more = []; is = refl; alone = λ e. tt; lawful = λ l. l }

pub returns-in_default-clause-legal : goal.returns-in_default-clause-legal
returns-in_default-clause-legal g c = write_is_legal _ (g.B.Bucket.sole c.args.bucket.now) c.args.symbol.now c.args.frame.now c.args.options.now _ _ _ _ _ (Err (record { place = c.place.result; why = refusals.NoMemory }))
    (none_tried (g.B.Bucket.number c.args.bucket.now) (g.B.Bucket.sole c.args.bucket.now) c.args.symbol.now c.args.frame.now c.args.options.now c.args.options.now.tries (g.B.Bucket.limit c.args.bucket.now) (g.B.Bucket.faults c.args.bucket.now) (g.B.Bucket.faults c.args.bucket.now) (g.B.Bucket.seen c.args.bucket.now) c.place.result c.requires.some_tries c.place.ensures)

pub returns-clause-grown : goal.returns-clause-grown
returns-clause-grown g c = goes_on _ _ _ (IsWritten c.args.symbol.now c.args.frame.now c.args.options.now) Never Always Whole _ _ _ _ _ _ _ c.try_all.ensures.did

pub returns-clause-legal : goal.returns-clause-legal
returns-clause-legal g c = write_is_legal _ _ c.args.symbol.now c.args.frame.now c.args.options.now _ _ _ _ _ _ c.try_all.ensures.did

pub returns-clause-alone : goal.returns-clause-alone
returns-clause-alone g c = λ grows. placed_alone (g.B.Bucket.number c.args.bucket.now) (g.B.Bucket.sole c.args.bucket.now) c.args.symbol.now c.args.frame.now c.args.options.now _ _ _ _ _ _ _ grows c.try_all.ensures.did

pub returns-clause-linked : goal.returns-clause-linked
returns-clause-linked g c = linked_grid (g.B.Bucket.number c.args.bucket.now) (g.B.Bucket.sole c.args.bucket.now) c.args.symbol.now c.args.frame.now c.args.options.now _ _ _ _ _ _ _ c.in-Ok.ensures.cutting_is (g.met.B.Bucket.lawful c.try_all.new.bucket) c.try_all.ensures.did
