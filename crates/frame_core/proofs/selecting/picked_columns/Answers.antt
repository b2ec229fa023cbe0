use Rattle.std.proofs.Common.{◌∙◌, ◌<◌, ap, sym, length, Some, get_or, refl}
use Rattle.std.proofs.lemmas.Option.{slice_get_read}
use Rattle.frame_core.proofs.SelectLemmas.{picked_more, fits_at}
use Rattle.frame_core.proofs.selecting.picked_columns.Goals as goal

pub loop-place-preserved : goal.loop-place-preserved
loop-place-preserved c =
    let within : get_or c.args.places.now c.loop-place.place-index 0 < length c.args.columns.now = fits_at (length c.args.columns.now) c.args.places.now c.loop-place.place-index c.requires c.loop-place-test.true in
    let read = slice_get_read c.args.columns.now (length c.args.columns.now) (get_or c.args.places.now c.loop-place.place-index 0) c.index-columns-place.result refl within c.index-columns-place.is in
    picked_more _ _ _ _ _ _ c.loop-place-test.true (read ∙ ap Some (sym c.in_ok-copy.ensures)) c.loop-place.invariant c.in_ok-push.ensures.ok
