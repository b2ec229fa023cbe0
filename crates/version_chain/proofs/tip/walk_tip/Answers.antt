use Rattle.std.proofs.Common.{◌≡◌, ◌∙◌, sym, subst, Some, None}
use Rattle.std.proofs.lemmas.Result.{IfOk-weaker}
use Rattle.bucket_core.specs.History.{reference}
use Rattle.store_model.specs.PlainWalks.{chain}
use Rattle.version_chain.specs.Tips.{IsNewestPart}
use Rattle.version_chain.proofs.TipLaws.{tip_at}
use Rattle.version_chain.proofs.TipReads.{whole_read}
use Rattle.version_chain.proofs.Walked.{looks_then, looks_none, reference_name_told, no_elements_told}
use Rattle.version_chain.proofs.tip.walk_tip.Goals as goal

pub read_part-requires : goal.read_part-requires
read_part-requires g c =
    let h = g.B.Bucket.seen c.read_reference.new.bucket in
    let is : reference h c.args.symbol.now ≡ Some c.in-Some.newest = sym c.in-Ok.ensures.reference ∙ c.in-Some.is in
    subst (λ s. reference h s ≡ Some c.in-Some.newest) (sym (reference_name_told h c.args.symbol.now c.in-Some.newest (g.met.B.Bucket.lawful c.read_reference.new.bucket) is)) is

pub returns-in-None-clause-tip : goal.returns-in-None-clause-tip
returns-in-None-clause-tip g c =
    let h = g.B.Bucket.seen c.read_reference.new.bucket in
    let lawful = g.met.B.Bucket.lawful c.read_reference.new.bucket in
    let is : reference h c.args.symbol.now ≡ None = sym c.in-Ok.ensures.reference ∙ c.in-None.is in
    IfOk-weaker c.finish.result _ _ (λ tip told.
    tip_at (g.B.Bucket.number c.args.bucket.now) (g.B.Bucket.sole c.args.bucket.now) h h c.args.symbol.now None c.new.result c.in-Ok.found.1 c.args.prune tip (looks_none _ _ h) c.in-Ok.ensures.place lawful (sym is)
    (whole_read (chain h c.args.symbol.now) c.new.result c.args.prune (c.new.ensures ∙ sym (no_elements_told h c.args.symbol.now lawful is))) told) c.finish.ensures.tip

pub returns-in-Ok-read_part-clause-looks : goal.returns-in-Ok-read_part-clause-looks
returns-in-Ok-read_part-clause-looks g c = looks_then _ _ _ _ _ _ _ c.in-Ok.ensures.steady.same_number c.in-Ok.ensures.steady.stays_sole c.in-Ok.ensures.looks c.in-Ok-read_part.ensures.looks

pub returns-in-Ok-read_part-clause-tip : goal.returns-in-Ok-read_part-clause-tip
returns-in-Ok-read_part-clause-tip g c =
    let h = g.B.Bucket.seen c.read_reference.new.bucket in
    let lawful = g.met.B.Bucket.lawful c.read_reference.new.bucket in
    let is : reference h c.args.symbol.now ≡ Some c.in-Some.newest = sym c.in-Ok.ensures.reference ∙ c.in-Some.is in
    let name = reference_name_told h c.args.symbol.now c.in-Some.newest lawful is in
    IfOk-weaker c.finish-in-Ok-read_part.result _ _ (λ tip told.
    tip_at _ _ h (g.B.Bucket.seen c.read_part.new.bucket) c.args.symbol.now (Some c.in-Some.newest) c.in-Ok-read_part.elements c.in-Ok.found.1 c.args.prune tip c.in-Ok-read_part.ensures.looks c.in-Ok.ensures.place lawful (sym is)
    (subst (λ s. IsNewestPart (chain h s) c.args.prune c.in-Ok-read_part.elements) name c.in-Ok-read_part.ensures.part) told) c.finish-in-Ok-read_part.ensures.tip

pub returns-in-Err-read_part-clause-looks : goal.returns-in-Err-read_part-clause-looks
returns-in-Err-read_part-clause-looks g c = looks_then _ _ _ _ _ _ _ c.in-Ok.ensures.steady.same_number c.in-Ok.ensures.steady.stays_sole c.in-Ok.ensures.looks c.in-Err-read_part.ensures.looks
