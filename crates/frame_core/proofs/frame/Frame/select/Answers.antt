use Rattle.std.proofs.Common.{◌∙◌, refl}
use Rattle.frame_core.proofs.SelectLemmas.{asked_all, within_columns, whole_picked, picked_is}
use Rattle.frame_core.proofs.frame.Frame.select.Goals as goal

pub picked_schema-requires : goal.picked_schema-requires
picked_schema-requires c = rw c.items.ensures (asked_all _ _ _ _ c.columns.ensures c.in_ok-places.ensures).within

pub picked_columns-requires : goal.picked_columns-requires
picked_columns-requires c =
    let within = within_columns _ _ _ _ _ c.self.invariant (asked_all _ _ _ _ c.columns.ensures c.in_ok-places.ensures) in
    rw (c.items-3.ensures, c.items-4.ensures) within

pub invariant_of-result : goal.invariant_of-result
invariant_of-result c =
    whole_picked _ _ _ _ _ _ _ _ c.self.invariant (asked_all _ _ _ _ c.columns.ensures c.in_ok-places.ensures) (c.in_ok-schema.ensures ∙ rw c.items.ensures refl) (c.in_ok-stamps.ensures ∙ c.items-2.ensures) (c.in_ok-columns.ensures ∙ rw (c.items-3.ensures, c.items-4.ensures) refl)

pub returns : goal.returns
returns c =
    picked_is _ _ _ _ _ _ _ _ _ _ c.self.view_is c.self.invariant c.columns.ensures c.in_ok-places.ensures (c.in_ok-schema.ensures ∙ rw c.items.ensures refl) (c.in_ok-stamps.ensures ∙ c.items-2.ensures) (c.in_ok-columns.ensures ∙ rw (c.items-3.ensures, c.items-4.ensures) refl)
