use Rattle.std.proofs.Common.{◌≡◌, ◌∙◌, sym, ap, subst, Some, None}
use Rattle.std.proofs.lemmas.Result.{IfOk-weaker}
use Rattle.bucket_core.specs.History.{reference}
use Rattle.store_model.specs.PlainWalks.{chain}
use Rattle.version_chain.proofs.Walked.{looks_then, looks_none, reference_name_told, no_elements_told, collected_told, rising_told, state_at}
use Rattle.version_chain.proofs.walking.walk.Goals as goal

pub read_elements-requires : goal.read_elements-requires
read_elements-requires g c =
    let h = g.B.Bucket.seen c.read_reference.new.bucket in
    let is : reference h c.args.symbol.now ≡ Some c.in-Some.newest = sym c.in-Ok.ensures.reference ∙ c.in-Some.is in
    subst (λ s. reference h s ≡ Some c.in-Some.newest) (sym (reference_name_told h c.args.symbol.now c.in-Some.newest (g.met.B.Bucket.lawful c.read_reference.new.bucket) is)) is

pub returns-in-None-clause-state : goal.returns-in-None-clause-state
returns-in-None-clause-state g c =
    let h = g.B.Bucket.seen c.read_reference.new.bucket in
    let lawful = g.met.B.Bucket.lawful c.read_reference.new.bucket in
    let is : reference h c.args.symbol.now ≡ None = sym c.in-Ok.ensures.reference ∙ c.in-None.is in
    IfOk-weaker c.finish.result _ _ (λ state collected.
    state_at (g.B.Bucket.number c.args.bucket.now) (g.B.Bucket.sole c.args.bucket.now) h h c.args.symbol.now None c.new.result c.in-Ok.found.1 state (looks_none _ _ h) c.in-Ok.ensures.place lawful (sym is)
    (c.new.ensures ∙ sym (no_elements_told h c.args.symbol.now lawful is)) collected) c.finish.ensures.collected

pub returns-in-Ok-read_elements-clause-looks : goal.returns-in-Ok-read_elements-clause-looks
returns-in-Ok-read_elements-clause-looks g c = looks_then _ _ _ _ _ _ _ c.in-Ok.ensures.steady.same_number c.in-Ok.ensures.steady.stays_sole c.in-Ok.ensures.looks c.in-Ok-read_elements.ensures.looks

pub returns-in-Ok-read_elements-clause-state : goal.returns-in-Ok-read_elements-clause-state
returns-in-Ok-read_elements-clause-state g c =
    let h = g.B.Bucket.seen c.read_reference.new.bucket in
    let lawful = g.met.B.Bucket.lawful c.read_reference.new.bucket in
    let is : reference h c.args.symbol.now ≡ Some c.in-Some.newest = sym c.in-Ok.ensures.reference ∙ c.in-Some.is in
    let name = reference_name_told h c.args.symbol.now c.in-Some.newest lawful is in
    IfOk-weaker c.finish-in-Ok-read_elements.result _ _ (λ state collected.
    state_at _ _ h (g.B.Bucket.seen c.read_elements.new.bucket) c.args.symbol.now (Some c.in-Some.newest) c.in-Ok-read_elements.elements c.in-Ok.found.1 state c.in-Ok-read_elements.ensures.looks c.in-Ok.ensures.place lawful (sym is)
    (c.in-Ok-read_elements.ensures.elements ∙ ap (chain h) name) collected) c.finish-in-Ok-read_elements.ensures.collected

pub returns-in-Ok-read_elements-clause-rising : goal.returns-in-Ok-read_elements-clause-rising
returns-in-Ok-read_elements-clause-rising g c =
    let h = g.B.Bucket.seen c.read_reference.new.bucket in
    let lawful = g.met.B.Bucket.lawful c.read_reference.new.bucket in
    let is : reference h c.args.symbol.now ≡ Some c.in-Some.newest = sym c.in-Ok.ensures.reference ∙ c.in-Some.is in
    let name = reference_name_told h c.args.symbol.now c.in-Some.newest lawful is in
    IfOk-weaker c.finish-in-Ok-read_elements.result _ _ (λ state collected.
    rising_told h c.args.symbol.now state lawful
    (collected_told h c.args.symbol.now (Some c.in-Some.newest) c.in-Ok-read_elements.elements c.in-Ok.found.1 state lawful (sym is) (c.in-Ok-read_elements.ensures.elements ∙ ap (chain h) name) collected))
    c.finish-in-Ok-read_elements.ensures.collected

pub returns-in-Err-read_elements-clause-looks : goal.returns-in-Err-read_elements-clause-looks
returns-in-Err-read_elements-clause-looks g c = looks_then _ _ _ _ _ _ _ c.in-Ok.ensures.steady.same_number c.in-Ok.ensures.steady.stays_sole c.in-Ok.ensures.looks c.in-Err-read_elements.ensures.looks
