use Rattle.std.proofs.Common.{◌≡◌, ◌+◌, ◌≤◌, List, length, take, drop, sym, ap, ◌∙◌, subst, inl, inr, Some}
use Rattle.std.specs.Prelude.{option_map}
use Rattle.std.proofs.lemmas.Bool.{true≢false, cases_lt}
use Rattle.frame_core.specs.Schemas.{Schema}
use Rattle.frame_core.specs.Frames.{replace_range}
use Rattle.frame_core.specs.Limits.{too_large, refuse_large}
use Rattle.index_tree.specs.declared.index.Slot.{Slot}
use Rattle.frame_write.specs.Pieces.{end_of, size_of}
use Rattle.append_update.specs.Replacing.{left_rows}
use Rattle.append_update.specs.Sizes.{text_total, kept_rows}
use Rattle.append_update.proofs.EdgeLemmas.{below_within, reached_within}
use Rattle.append_update.proofs.CountLemmas.{first_few, last_few, below_left, above_left, replaced_count}
use Rattle.append_update.proofs.ReplacedSizes.{replaced_many, replaced_texts, replaced_small}
use Rattle.append_update.proofs.sizes.replaced_too_large.Goals as goal

pub replaced_rows-rows-requires-clause-below : goal.replaced_rows-rows-requires-clause-below
replaced_rows-rows-requires-clause-below c = subst (λ (slots : List Slot). c.args.cuts.below ≤ length slots) (sym c.items.ensures) (below_within c.requires.replaces.0 c.args.index.now c.requires.replaces.2.index_of c.requires.replaces.1 c.args.cuts c.requires.replaces.2.divides)

pub replaced_rows-rows-requires-clause-reached : goal.replaced_rows-rows-requires-clause-reached
replaced_rows-rows-requires-clause-reached c = subst (λ (slots : List Slot). c.args.cuts.reached ≤ length slots) (sym c.items.ensures) (reached_within c.requires.replaces.0 c.args.index.now c.requires.replaces.2.index_of c.requires.replaces.1 c.args.cuts c.requires.replaces.2.divides)

pub replaced_rows-rows-requires-clause-first_few : goal.replaced_rows-rows-requires-clause-first_few
replaced_rows-rows-requires-clause-first_few c = subst (λ (slots : List Slot). end_of (take c.args.cuts.below slots) ≤ 2000000) (sym c.items.ensures) (first_few c.requires.replaces.0 c.requires.replaces.1 c.args.index.now c.args.cuts c.args.edges.now c.requires.replaces.2)

pub replaced_rows-rows-requires-clause-last_few : goal.replaced_rows-rows-requires-clause-last_few
replaced_rows-rows-requires-clause-last_few c = subst (λ (slots : List Slot). end_of (drop c.args.cuts.reached slots) ≤ 2000000) (sym c.items.ensures) (last_few c.requires.replaces.0 c.requires.replaces.1 c.args.index.now c.args.cuts c.args.edges.now c.requires.replaces.2)

pub replaced_rows-rows-requires-clause-below_few : goal.replaced_rows-rows-requires-clause-below_few
replaced_rows-rows-requires-clause-below_few c = below_left c.requires.replaces.0 c.requires.replaces.1 c.args.index.now c.args.cuts c.args.edges.now c.requires.replaces.2

pub replaced_rows-rows-requires-clause-above_few : goal.replaced_rows-rows-requires-clause-above_few
replaced_rows-rows-requires-clause-above_few c = above_left c.requires.replaces.0 c.requires.replaces.1 c.args.index.now c.args.cuts c.args.edges.now c.requires.replaces.2

pub returns-in-Some : goal.returns-in-Some
returns-in-Some c = λ base range r iff.
    let count : length (replace_range range c.args.frame.now.rows base.rows) ≡ c.replaced_rows-rows.result =
    replaced_count base range c.args.index.now c.args.cuts c.args.edges.now r c.args.frame.now.rows
    ∙ (ap (λ (slots : List Slot). size_of (take c.args.cuts.below slots) + left_rows c.args.edges.now.below + length c.args.frame.now.rows + left_rows c.args.edges.now.above + size_of (drop c.args.cuts.reached slots)) (sym c.items.ensures) ∙ sym c.replaced_rows-rows.ensures) in
    let told : too_large c.replaced_rows-rows.result (length c.args.frame.now.schema.columns) 0 0 ≡ c.exceeded.result =
    ap (λ k. too_large c.replaced_rows-rows.result k 0 0) (sym (c.len-columns.ensures ∙ ap (λ (s : Schema). length s.columns) c.schema.ensures.schema)) ∙ sym c.exceeded.ensures in
    sym (ap (option_map refuse_large) (replaced_many base c.args.frame.now range r.index_of.storable c.requires.storable c.replaced_rows-rows.result count _ (told ∙ c.in-Some.is)))

pub returns-then-many : goal.returns-then-many
returns-then-many c = λ base range r iff.
    let count : length (replace_range range c.args.frame.now.rows base.rows) ≡ c.replaced_rows-rows.result =
    replaced_count base range c.args.index.now c.args.cuts c.args.edges.now r c.args.frame.now.rows
    ∙ (ap (λ (slots : List Slot). size_of (take c.args.cuts.below slots) + left_rows c.args.edges.now.below + length c.args.frame.now.rows + left_rows c.args.edges.now.above + size_of (drop c.args.cuts.reached slots)) (sym c.items.ensures) ∙ sym c.replaced_rows-rows.ensures) in
    let told : too_large c.replaced_rows-rows.result (length c.args.frame.now.schema.columns) 0 0 ≡ c.exceeded.result =
    ap (λ k. too_large c.replaced_rows-rows.result k 0 0) (sym (c.len-columns.ensures ∙ ap (λ (s : Schema). length s.columns) c.schema.ensures.schema)) ∙ sym c.exceeded.ensures in
    ap Some c.too_many_texts.ensures
    ∙ sym (ap (option_map refuse_large) (replaced_texts base c.args.frame.now range r.index_of.storable c.requires.storable c.replaced_rows-rows.result count (told ∙ c.in_default.is) (iff.0 c.if-many.true)))

pub returns : goal.returns
returns c = λ base range r iff.
    let count : length (replace_range range c.args.frame.now.rows base.rows) ≡ c.replaced_rows-rows.result =
    replaced_count base range c.args.index.now c.args.cuts c.args.edges.now r c.args.frame.now.rows
    ∙ (ap (λ (slots : List Slot). size_of (take c.args.cuts.below slots) + left_rows c.args.edges.now.below + length c.args.frame.now.rows + left_rows c.args.edges.now.above + size_of (drop c.args.cuts.reached slots)) (sym c.items.ensures) ∙ sym c.replaced_rows-rows.ensures) in
    let told : too_large c.replaced_rows-rows.result (length c.args.frame.now.schema.columns) 0 0 ≡ c.exceeded.result =
    ap (λ k. too_large c.replaced_rows-rows.result k 0 0) (sym (c.len-columns.ensures ∙ ap (λ (s : Schema). length s.columns) c.schema.ensures.schema)) ∙ sym c.exceeded.ensures in
    let less : text_total (kept_rows (Some range) base.rows) + text_total c.args.frame.now.rows ≤ 67108864 = elim (cases_lt 67108864 (text_total (kept_rows (Some range) base.rows) + text_total c.args.frame.now.rows)) [
      | inl many ↦ absurd (true≢false (sym (iff.1 many) ∙ c.if-many.false))
      | inr few ↦ few
    ] in
    sym (ap (option_map refuse_large) (replaced_small base c.args.frame.now range r.index_of.storable c.requires.storable c.replaced_rows-rows.result count (told ∙ c.in_default.is) less))
