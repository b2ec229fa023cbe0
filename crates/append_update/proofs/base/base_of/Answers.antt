use Rattle.std.proofs.Common.{◌≡◌, sym, ap, ◌∙◌, subst, inl, inr, Some, true, false}
use Rattle.std.specs.Prelude.{Contains}
use Rattle.bucket_core.specs.History.{AllByOthers, history_at}
use Rattle.store_model.specs.Library.{state_of, base_of, is_buried}
use Rattle.store_model.specs.Law.{IsClaimed}
use Rattle.store_model.specs.Links.{links, reached}
use Rattle.store_model.proofs.PlainLinks.{index_in_reach}
use Rattle.store_model.specs.Holders.{has_index}
use Rattle.frame_read.specs.declared.target.Target.{Target}
use Rattle.frame_read.specs.Fetches.{IsIndexKey}
use Rattle.frame_read.proofs.LoopLemmas.{looks_more}
use Rattle.append_update.specs.Looking.{NoBase, MetAt}
use Rattle.append_update.proofs.BaseLemmas.{none_found, is_linked, numbered, one_found, lives, walked_here, walk_wider, base_gone}
use Rattle.append_update.proofs.base.base_of.Goals as goal

pub returns-in_default-clause-base : goal.returns-in_default-clause-base
returns-in_default-clause-base g c =
    none_found (g.B.Bucket.seen c.args.bucket.now) c.args.symbol.now c.requires.walked.0 c.args.tip.now c.requires.walked.1 (g.met.B.Bucket.lawful c.args.bucket.now) c.in_default.is

pub packed_index_of-requires : goal.packed_index_of-requires
packed_index_of-requires g c = record {
  linked = subst (λ (t : Target). has_index (links (g.B.Bucket.seen c.args.bucket.now) t.symbol) t.version t.index ≡ true) (sym c.in-Ok.ensures)
      (is_linked (g.B.Bucket.seen c.args.bucket.now) c.args.symbol.now c.requires.walked.0 c.args.tip.now c.requires.walked.1 (g.met.B.Bucket.lawful c.args.bucket.now) c.in-Some.row c.in-Some.is);
}

pub returns-in-Ok-packed_index_of-clause-base : goal.returns-in-Ok-packed_index_of-clause-base
returns-in-Ok-packed_index_of-clause-base g c =
    let found = one_found (g.B.Bucket.seen c.args.bucket.now) c.args.symbol.now c.requires.walked.0 c.args.tip.now c.requires.walked.1 (g.met.B.Bucket.lawful c.args.bucket.now) c.in-Some.row c.in-Some.is
    c.packed_index_of.ensures.looks.others (g.B.Bucket.seen c.packed_index_of.new.bucket) c.in-Ok.target c.in-Ok-packed_index_of.index c.packed_index_of.ensures.looks.is (g.met.B.Bucket.lawful c.packed_index_of.new.bucket)
    (ap (λ (t : Target). t.symbol) c.in-Ok.ensures) (ap (λ (t : Target). t.index) c.in-Ok.ensures) c.in-Ok-packed_index_of.ensures.rules c.in-Ok-packed_index_of.ensures.index in
    (found.0, found.1, ap (λ (t : Target). t.version) c.in-Ok.ensures ∙ found.2)

pub returns-in-VersionGone-clause-looks : goal.returns-in-VersionGone-clause-looks
returns-in-VersionGone-clause-looks g c =
    looks_more IsClaimed (g.B.Bucket.number c.args.bucket.now) (g.B.Bucket.sole c.args.bucket.now) (g.B.Bucket.number c.packed_index_of.new.bucket) (g.B.Bucket.sole c.packed_index_of.new.bucket)
    (g.B.Bucket.seen c.args.bucket.now) (g.B.Bucket.seen c.packed_index_of.new.bucket) (g.B.Bucket.seen c.met_commit.new.bucket)
    c.packed_index_of.ensures.steady.same_number c.packed_index_of.ensures.steady.stays_sole c.packed_index_of.ensures.looks c.met_commit.ensures.looks

pub returns-in-VersionGone-clause-refused : goal.returns-in-VersionGone-clause-refused
returns-in-VersionGone-clause-refused g c = elim c.met_commit.ensures.refused [
  | inl w ↦ inl (walk_wider (g.B.Bucket.faults c.args.bucket.now) (g.B.Bucket.faults c.packed_index_of.new.bucket) (g.B.Bucket.faults c.met_commit.new.bucket) c.packed_index_of.ensures.looks.others
      (g.B.Bucket.seen c.args.bucket.now) (g.B.Bucket.seen c.packed_index_of.new.bucket) (g.B.Bucket.seen c.met_commit.new.bucket) c.met_commit.result c.packed_index_of.ensures.steady.faults_rise c.packed_index_of.ensures.looks.is w)
  | inr m ↦
      let at = c.requires.walked.1 in
      let row = c.in-Some.row in
      let live = subst (λ n. is_buried (state_of at.before c.args.symbol.now) n ≡ false) (sym (ap (λ (t : Target). t.version) c.in-Ok.ensures))
      (subst (λ h. is_buried (state_of h c.args.symbol.now) row.version ≡ false) (walked_here (g.B.Bucket.seen c.args.bucket.now) c.args.symbol.now c.requires.walked.0 c.args.tip.now at)
      (lives (g.B.Bucket.seen c.args.bucket.now) c.args.symbol.now c.requires.walked.0 c.args.tip.now at (g.met.B.Bucket.lawful c.args.bucket.now) row c.in-Some.is)) in
      let numbered = numbered (g.B.Bucket.seen c.args.bucket.now) c.args.symbol.now c.requires.walked.0 c.args.tip.now at (g.met.B.Bucket.lawful c.args.bucket.now) row c.in-Some.is in
      let base = subst (λ h. base_of (state_of h c.args.symbol.now) ≡ Some numbered.0) (walked_here (g.B.Bucket.seen c.args.bucket.now) c.args.symbol.now c.requires.walked.0 c.args.tip.now at) numbered.1 in
      inr (subst (λ n. MetAt (g.B.Bucket.number c.args.bucket.now) c.args.symbol.now NoBase n (g.B.Bucket.seen c.met_commit.new.bucket) c.met_commit.result) (sym at.place)
      (base_gone (g.B.Bucket.number c.args.bucket.now) (g.B.Bucket.faults c.args.bucket.now) (g.B.Bucket.faults c.packed_index_of.new.bucket) c.args.symbol.now NoBase IsIndexKey numbered.0 at.later at.before
      (g.B.Bucket.seen c.args.bucket.now) (g.B.Bucket.seen c.packed_index_of.new.bucket) (g.B.Bucket.seen c.met_commit.new.bucket) c.packed_index_of.ensures.looks.others c.met_commit.ensures.looks.others
      at.split c.requires.walked.2 (g.met.B.Bucket.lawful c.met_commit.new.bucket) c.packed_index_of.ensures.looks.is c.met_commit.ensures.looks.is
      c.packed_index_of.ensures.looks.by_others (subst (λ n. AllByOthers n c.met_commit.ensures.looks.others) c.packed_index_of.ensures.steady.same_number c.met_commit.ensures.looks.by_others)
      c.in-Ok.target (ap (λ (t : Target). t.symbol) c.in-Ok.ensures) live base (ap (λ (t : Target). t.version) c.in-Ok.ensures ∙ numbered.2)
      (λ link key is. (subst (Contains (reached link)) (sym is) (index_in_reach link), inl is))
      c.in-Err.refused c.met_commit.result _ c.in-VersionGone.is c.in-Err.ensures.refused c.in-Err.ensures.lacks m))
]

pub returns-in-Ok-packed_index_of-clause-live : goal.returns-in-Ok-packed_index_of-clause-live
returns-in-Ok-packed_index_of-clause-live g c =
    subst (λ n. is_buried (state_of (history_at (g.B.Bucket.seen c.args.bucket.now) c.args.tip.now.place) c.args.symbol.now) n ≡ false) (sym (ap (λ (t : Target). t.version) c.in-Ok.ensures))
    (lives (g.B.Bucket.seen c.args.bucket.now) c.args.symbol.now c.requires.walked.0 c.args.tip.now c.requires.walked.1 (g.met.B.Bucket.lawful c.args.bucket.now) c.in-Some.row c.in-Some.is)
