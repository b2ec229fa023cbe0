use Rattle.std.proofs.Common.{◌≡◌, ◌∙◌, refl, sym, ap, arith, length, Some, None}
use Rattle.std.specs.Option.{option_copied}
use Rattle.std.proofs.lemmas.List.{length-append}
use Rattle.version_chain.specs.Elements.{next_of}
use Rattle.version_chain.proofs.TipReads.{tombs_more, live_last, part_read, whole_read}
use Rattle.version_chain.proofs.Walked.{looks_then, steady_then, looks_none, so_far_start, so_far_within, so_far_is_entry, so_far_more, so_far_ends}
use Rattle.version_chain.proofs.tip.read_to_live.Goals as goal

pub loop-key-init : goal.loop-key-init
loop-key-init g c = record {
  looks = looks_none _ _ _;
  steady = record { same_number = refl; same_limit = refl; faults_rise = omega arith; stays_sole = λ e. e };
  so_far = rw c.new-elements.ensures (so_far_start _ _ c.requires);
  tombs = rw (c.new-elements.ensures, c.new-tombs.ensures) refl;
}

pub read_element-requires : goal.read_element-requires
read_element-requires g c =
    let next : next_of c.args.newest.now c.loop-key.elements ≡ Some c.in-Some.key.now = ap (next_of c.args.newest.now) (sym c.items.ensures) ∙ (sym c.next_entry.ensures ∙ ap option_copied c.in-Some.is) in
    so_far_is_entry _ _ _ _ _ _ _ c.loop-key.invariant.looks (g.met.B.Bucket.lawful c.loop-key.bucket) c.loop-key.invariant.so_far next

pub returns-in-Err-clause-looks : goal.returns-in-Err-clause-looks
returns-in-Err-clause-looks g c = looks_then _ _ _ _ _ _ _ c.loop-key.invariant.steady.same_number c.loop-key.invariant.steady.stays_sole c.loop-key.invariant.looks c.in-Err.ensures.looks

pub returns-in-Err-add_element-clause-looks : goal.returns-in-Err-add_element-clause-looks
returns-in-Err-add_element-clause-looks g c = looks_then _ _ _ _ _ _ _ c.loop-key.invariant.steady.same_number c.loop-key.invariant.steady.stays_sole c.loop-key.invariant.looks c.in-Ok.ensures.looks

pub returns-in-Ok-true-clause-looks : goal.returns-in-Ok-true-clause-looks
returns-in-Ok-true-clause-looks g c = looks_then _ _ _ _ _ _ _ c.loop-key.invariant.steady.same_number c.loop-key.invariant.steady.stays_sole c.loop-key.invariant.looks c.in-Ok.ensures.looks

pub returns-in-Ok-true-clause-part : goal.returns-in-Ok-true-clause-part
returns-in-Ok-true-clause-part g c =
    let next : next_of c.args.newest.now c.loop-key.elements ≡ Some c.in-Some.key.now = ap (next_of c.args.newest.now) (sym c.items.ensures) ∙ (sym c.next_entry.ensures ∙ ap option_copied c.in-Some.is) in
    let looks = looks_then _ _ _ _ _ _ _ c.loop-key.invariant.steady.same_number c.loop-key.invariant.steady.stays_sole c.loop-key.invariant.looks c.in-Ok.ensures.looks in
    let more = so_far_more _ _ _ _ _ _ _ _ looks c.loop-key.invariant.so_far next c.in-Ok.ensures.element (g.met.B.Bucket.lawful c.read_element.new.bucket) in
    let tombs = tombs_more _ _ _ _ _ c.loop-key.invariant.tombs c.in-Ok-true.ensures.tombs c.in-Ok-true.ensures.elements in
    part_read _ _ (rw c.in-Ok-true.ensures.elements more.elements)
    (live_last c.add_element.new.tombs c.loop-key.elements c.add_element.new.elements c.in-Ok.element tombs c.in-Ok-true.ensures.elements (sym c.in-Ok-true.ensures.live ∙ c.in-Ok-true.field-0-test))

pub loop-key-smaller : goal.loop-key-smaller
loop-key-smaller g c =
    let next : next_of c.args.newest.now c.loop-key.elements ≡ Some c.in-Some.key.now = ap (next_of c.args.newest.now) (sym c.items.ensures) ∙ (sym c.next_entry.ensures ∙ ap option_copied c.in-Some.is) in
    let within = so_far_within _ _ _ _ c.loop-key.invariant.so_far next in
    let more = ap length c.in-Ok-false.ensures.elements ∙ length-append c.loop-key.elements _ in
    omega (arith, within, more)

pub loop-key-preserved : goal.loop-key-preserved
loop-key-preserved g c =
    let next : next_of c.args.newest.now c.loop-key.elements ≡ Some c.in-Some.key.now = ap (next_of c.args.newest.now) (sym c.items.ensures) ∙ (sym c.next_entry.ensures ∙ ap option_copied c.in-Some.is) in
    let looks = looks_then _ _ _ _ _ _ _ c.loop-key.invariant.steady.same_number c.loop-key.invariant.steady.stays_sole c.loop-key.invariant.looks c.in-Ok.ensures.looks in
    record {
      looks = looks;
      steady = steady_then _ _ _ _ _ _ _ c.loop-key.invariant.steady c.in-Ok.ensures.steady;
      so_far = rw c.in-Ok-false.ensures.elements (so_far_more _ _ _ _ _ _ _ _ looks c.loop-key.invariant.so_far next c.in-Ok.ensures.element (g.met.B.Bucket.lawful c.read_element.new.bucket));
      tombs = tombs_more _ _ _ _ _ c.loop-key.invariant.tombs c.in-Ok-false.ensures.tombs c.in-Ok-false.ensures.elements;
    }

pub returns-clause-part : goal.returns-clause-part
returns-clause-part g c =
    let next : next_of c.args.newest.now c.loop-key.elements ≡ None = ap (next_of c.args.newest.now) (sym c.items.ensures) ∙ (sym c.next_entry.ensures ∙ ap option_copied c.in_default.is) in
    whole_read _ _ _ (so_far_ends _ _ _ _ _ _ c.loop-key.invariant.looks (g.met.B.Bucket.lawful c.loop-key.bucket) c.loop-key.invariant.so_far next)
