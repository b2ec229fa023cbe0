use Rattle.std.proofs.Common.{◌≡◌, ◌∙◌, ◌<◌, sym, length, arith, rules, Some, option_copied}
use Rattle.std.specs.Prelude.{slice_get}
use Rattle.std.proofs.lemmas.Option.{slice_get-get_or}
use Rattle.frame_core.specs.Schemas.{Head}
use Rattle.index_tree.proofs.Covers.{places_taken, places_left}
use Rattle.reply_model.specs.ReadAnswers.{is_asked}
use Rattle.frame_read.proofs.fetching.asked_places.Goals as goal
use Rattle.frame_read.proofs.fetching.asked_places.Goals.{then-is_among+in_ok-push, else-is_among}

pub loop-place-preserved : goal.loop-place-preserved
loop-place-preserved c =
    let within : c.loop-place.place < length c.args.schema.now = omega (arith, c.loop-place-test.true) in
    let at : slice_get c.args.schema.now c.loop-place.place ≡ Some c.index-schema-place.result = search (rules, slice_get-get_or) in
    let tested : c.is_among.result ≡ is_asked (option_copied c.args.columns) c.index-schema-place.result.0 = search rules in
    elim c.if-is_among.branch [
      | then-is_among+in_ok-push w ↦ w.places-is ∙ w.in_ok-push.ensures.ok ∙ places_taken (λ (head : Head). is_asked (option_copied c.args.columns) head.0) c.args.schema.now c.loop-place.place c.index-schema-place.result c.loop-place.places within at (sym w.if-is_among.true ∙ tested) c.loop-place.invariant
      | else-is_among w ↦ w.places-is ∙ places_left (λ (head : Head). is_asked (option_copied c.args.columns) head.0) c.args.schema.now c.loop-place.place c.index-schema-place.result c.loop-place.places within at (sym w.if-is_among.false ∙ tested) c.loop-place.invariant
    ]
