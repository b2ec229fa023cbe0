use Rattle.std.proofs.Common.{rules, ◌≡◌, w64, to_z, of_z, List, ◌++◌, length, sym, ap, ◌∙◌, subst, inl, inr, Some, Err}
use Rattle.bucket_core.specs.declared.event.Change.TheVariants as changes
use Rattle.frame_core.specs.Schemas.{Schema, schemas_differ}
use Rattle.index_tree.specs.declared.index.Slot.{Slot}
use Rattle.store_model.specs.Library.{state_of}
use Rattle.append_update.specs.Bases.{Divides}
use Rattle.append_update.specs.Asking.{HasColumnsOf}
use Rattle.append_update.specs.Looking.{AnyBase, RefusesBase}
use Rattle.append_update.specs.Replacing.{replaced}
use Rattle.append_update.proofs.LaterLemmas.{base_fits, base_before}
use Rattle.append_update.proofs.EdgeLemmas.{below_within, reached_within}
use Rattle.append_update.proofs.PlanLemmas.{inside_range, columns_fit}
use Rattle.append_update.proofs.UpdateLemmas.{all_within}
use Rattle.append_update.proofs.UpdateAnswers.{update_differs, update_large}
use Rattle.append_update.proofs.ReplacePlans.{replace_over_is}
use Rattle.append_update.proofs.asking.replace_over.Goals as goal

pub returns-in-Some-clause-refused : goal.returns-in-Some-clause-refused
returns-in-Some-clause-refused g c = λ b upsert. inr (record {
  place = b.place;
  answered = update_differs (state_of b.before c.args.symbol.now) upsert c.args.options.now.prune c.args.options.now.at (Some c.args.range) c.args.frame.now c.args.range (inside_range c.args.range c.args.frame.now c.requires.inside) b.version _ b.newest.is
      (ap (λ (s : Schema). schemas_differ s c.args.frame.now.schema) (sym b.newest.index_of.schema) ∙ (ap (schemas_differ c.args.base.now.index.schema) (sym c.schema.ensures.schema) ∙ (sym c.first_difference.ensures ∙ c.in-Some.is)));
})

pub small_edges-requires-clause-cuts : goal.small_edges-requires-clause-cuts
small_edges-requires-clause-cuts g c = subst (λ (slots : List Slot). Divides c.args.range slots c.of-cuts.result) c.items.ensures c.of-cuts.ensures

pub returns-in-Err-clause-refused : goal.returns-in-Err-clause-refused
returns-in-Err-clause-refused g c = λ b upsert. elim (c.in-Err.ensures.refused b) [
  | inl met ↦
      let same = ap (λ (s : Schema). schemas_differ s c.args.frame.now.schema) (sym b.newest.index_of.schema) ∙ (ap (schemas_differ c.args.base.now.index.schema) (sym c.schema.ensures.schema) ∙ (sym c.first_difference.ensures ∙ c.in_default.is)) in
      inl (base_fits (g.B.Bucket.number c.args.bucket.now) c.args.symbol.now AnyBase (HasColumnsOf c.args.frame.now) (length b.before) (g.B.Bucket.faults c.args.bucket.now) (g.B.Bucket.faults c.small_edges.new.bucket) (g.B.Bucket.seen c.args.bucket.now) (g.B.Bucket.seen c.small_edges.new.bucket) c.in-Err.refused
      (λ v e any. subst (HasColumnsOf c.args.frame.now) (base_before c.small_edges.ensures.looks.others b.later b.before (g.B.Bucket.seen c.small_edges.new.bucket) c.args.symbol.now b.version v (c.small_edges.ensures.looks.is ∙ ap (λ h. c.small_edges.ensures.looks.others ++ h) b.split) b.newest.is e)
      (columns_fit b.version c.args.frame.now same))
      (subst (λ n. RefusesBase (g.B.Bucket.number c.args.bucket.now) c.args.symbol.now AnyBase n (g.B.Bucket.faults c.args.bucket.now) (g.B.Bucket.faults c.small_edges.new.bucket) (g.B.Bucket.seen c.args.bucket.now) (g.B.Bucket.seen c.small_edges.new.bucket) c.in-Err.refused) b.place met))
  | inr large ↦ inr (record {
    place = large.place_is ∙ b.place;
    answered = update_large (state_of b.before c.args.symbol.now) upsert c.args.options.now.prune c.args.options.now.at (Some c.args.range) c.args.frame.now c.args.range (inside_range c.args.range c.args.frame.now c.requires.inside) b.version large.what b.newest.is
        (ap (λ (s : Schema). schemas_differ s c.args.frame.now.schema) (sym b.newest.index_of.schema) ∙ (ap (schemas_differ c.args.base.now.index.schema) (sym c.schema.ensures.schema) ∙ (sym c.first_difference.ensures ∙ c.in_default.is))) large.large
        ∙ ap Err large.why_is;
  })
]

pub plan_update-requires-clause-below : goal.plan_update-requires-clause-below
plan_update-requires-clause-below g c = let b = c.requires.base in below_within b.version.frame c.args.base.now.index b.newest.index_of c.args.range c.of-cuts.result (subst (λ (slots : List Slot). Divides c.args.range slots c.of-cuts.result) c.items.ensures c.of-cuts.ensures)

pub plan_update-requires-clause-reached : goal.plan_update-requires-clause-reached
plan_update-requires-clause-reached g c = let b = c.requires.base in reached_within b.version.frame c.args.base.now.index b.newest.index_of c.args.range c.of-cuts.result (subst (λ (slots : List Slot). Divides c.args.range slots c.of-cuts.result) c.items.ensures c.of-cuts.ensures)

pub returns-in-Ok-plan_update-clause-plan : goal.returns-in-Ok-plan_update-clause-plan
returns-in-Ok-plan_update-clause-plan g c = λ b upsert.
    let cut = subst (λ (slots : List Slot). Divides c.args.range slots c.of-cuts.result) c.items.ensures c.of-cuts.ensures in
    let at : to_z w64 (of_z w64 c.stamp_of-at.result) ≡ c.args.options.now.at = search rules in
    replace_over_is b.before c.args.symbol.now c.args.options.now b.version c.args.base.now c.args.range c.of-cuts.result c.in-Ok.edges c.args.frame.now _ b.newest cut (c.in-Ok.ensures.edges b) c.requires.storable
    (record {
      order = c.requires.order;
      within = all_within 1 c.args.range c.args.frame.now.rows c.requires.inside;
      same = ap (λ (s : Schema). schemas_differ s c.args.frame.now.schema) (sym b.newest.index_of.schema) ∙ (ap (schemas_differ c.args.base.now.index.schema) (sym c.schema.ensures.schema) ∙ (sym c.first_difference.ensures ∙ c.in_default.is));
      small = c.in-Ok.ensures.small b;
    }) c.requires.inside upsert
    (c.in-Ok-plan_update.ensures ∙ ap (λ at. record { schema = c.args.frame.now.schema; pieces = replaced c.args.base.now.index.slots c.of-cuts.result c.in-Ok.edges c.args.frame.now; change = changes.Updated c.args.frame.now c.args.range at }) at)
