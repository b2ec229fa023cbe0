use Rattle.std.proofs.Common.{◌≡◌, ◌∙◌, ◌-◌, ℕ, List, length, drop, Ok, arith, rules, ap, sym, subst}
use Rattle.std.specs.Arc.{arc_value}
use Rattle.index_tree.specs.IndexRules.{IsIndex}
use Rattle.index_tree.specs.IndexText.{index_of}
use Rattle.index_tree.specs.SlotTexts.{SpellFrom, slots_in}
use Rattle.index_tree.proofs.IndexLaws.{index_spelled}
use Rattle.index_tree.proofs.IndexPartLaws.{index_by_parts, parts_opened}
use Rattle.index_tree.proofs.packed.open_front.Goals as goal

pub overflow_sub-from : goal.overflow_sub-from
overflow_sub-from c =
    let o = parts_opened c.args.bytes.now c.in_ok-schema.rest.now c.in_ok-rows.rest.now _ c.in_ok-rows.rows c.in_ok-rows.count c.in_ok-schema.schema c.requires.spelled.0
    (λ i. omega (arith, c.type_inv.bytes i)) c.in_ok-schema.ensures.timed c.in_ok-schema.ensures.columns c.in_ok-rows.ensures (ap index_of (c.requires.bytes) ∙ c.requires.spelled.1) in
    o.within

pub within-requires : goal.within-requires
within-requires c =
    let o = parts_opened c.args.bytes.now c.in_ok-schema.rest.now c.in_ok-rows.rest.now _ c.in_ok-rows.rows c.in_ok-rows.count c.in_ok-schema.schema c.requires.spelled.0
    (λ i. omega (arith, c.type_inv.bytes i)) c.in_ok-schema.ensures.timed c.in_ok-schema.ensures.columns c.in_ok-rows.ensures (ap index_of (c.requires.bytes) ∙ c.requires.spelled.1) in
    let same : c.args.bytes.now ≡ arc_value c.in_ok-shared.shared = c.requires.bytes ∙ sym c.in_ok-shared.ensures in
    record { spelled = subst (λ (b : List ℕ). SpellFrom (length c.args.bytes.now - length c.in_ok-rows.rest.now) c.in_ok-rows.count b) same o.from }

pub returns-clause-found : goal.returns-clause-found
returns-clause-found c =
    let o = parts_opened c.args.bytes.now c.in_ok-schema.rest.now c.in_ok-rows.rest.now _ c.in_ok-rows.rows c.in_ok-rows.count c.in_ok-schema.schema c.requires.spelled.0
    (λ i. omega (arith, c.type_inv.bytes i)) c.in_ok-schema.ensures.timed c.in_ok-schema.ensures.columns c.in_ok-rows.ensures (ap index_of (c.requires.bytes) ∙ c.requires.spelled.1) in
    let same : c.args.bytes.now ≡ arc_value c.in_ok-shared.shared = c.requires.bytes ∙ sym c.in_ok-shared.ensures in
    let slots = c.within.ensures ∙ (ap (λ (b : List ℕ). slots_in c.in_ok-rows.count (drop (length c.args.bytes.now - length c.in_ok-rows.rest.now) b)) (sym same) ∙ o.slots_are) in
    ap index_of (sym (c.requires.bytes)) ∙ (o.is ∙ (λ j. Ok (record { schema = c.in_ok-schema.schema; rows = c.in_ok-rows.rows; slots = sym slots j })))

pub returns-clause-is_index : goal.returns-clause-is_index
returns-clause-is_index c =
    let o = parts_opened c.args.bytes.now c.in_ok-schema.rest.now c.in_ok-rows.rest.now _ c.in_ok-rows.rows c.in_ok-rows.count c.in_ok-schema.schema c.requires.spelled.0
    (λ i. omega (arith, c.type_inv.bytes i)) c.in_ok-schema.ensures.timed c.in_ok-schema.ensures.columns c.in_ok-rows.ensures (ap index_of (c.requires.bytes) ∙ c.requires.spelled.1) in
    let same : c.args.bytes.now ≡ arc_value c.in_ok-shared.shared = c.requires.bytes ∙ sym c.in_ok-shared.ensures in
    let slots = c.within.ensures ∙ (ap (λ (b : List ℕ). slots_in c.in_ok-rows.count (drop (length c.args.bytes.now - length c.in_ok-rows.rest.now) b)) (sym same) ∙ o.slots_are) in
    let is = (index_spelled _ _ (λ i. omega (arith, c.type_inv.bytes i)) o.is).is in
    subst IsIndex (λ j. record { schema = c.in_ok-schema.schema; rows = c.in_ok-rows.rows; slots = sym slots j }) is

pub returns-in_err-schema-clause-found : goal.returns-in_err-schema-clause-found
returns-in_err-schema-clause-found c = rw (sym c.requires.bytes, index_by_parts c.args.bytes.now) (search rules)

pub returns-in_err-rows-clause-found : goal.returns-in_err-rows-clause-found
returns-in_err-rows-clause-found c = rw (sym c.requires.bytes, index_by_parts c.args.bytes.now) (search rules)
