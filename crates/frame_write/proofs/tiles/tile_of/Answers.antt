use Rattle.std.proofs.Common.{rules, ◌≡◌, ℤ, pos, sym, subst, ap, ◌∙◌, Option, Some}
use Rattle.std.specs.Prelude.{unwrap_or, slice_range, ◌+◌}
use Rattle.frame_core.specs.Frames.{Frame, first_stamp, last_stamp}
use Rattle.frame_core.specs.Limits.{IsStorable}
use Rattle.frame_write.proofs.GridSlots.{storable_cut, first_cut, last_cut, has_stamps}
use Rattle.frame_write.proofs.tiles.tile_of.Goals as goal

some_of : (o : Option ℤ) (k x : ℤ) → o ≡ Some k → x ≡ unwrap_or o (pos 0) → o ≡ Some x
some_of o k x is e = is ∙ ap (λ (n : ℤ). Some n) (sym (e ∙ ap (λ p. unwrap_or p (pos 0)) is))

pub segment_body-requires : goal.segment_body-requires
segment_body-requires c = subst IsStorable (sym c.in_ok-tile.ensures) (storable_cut c.args.frame.now c.args.part c.requires.storable c.requires.lies)

pub returns-clause-tile : goal.returns-clause-tile
returns-clause-tile c =
    let stamps = has_stamps c.args.frame.now c.args.part c.requires.storable.is_frame c.requires.lies c.requires.some_rows in
    let part = c.args.part in
    let one : first_stamp (slice_range c.args.frame.now.rows part.first_row (part.first_row + part.rows)) ≡ Some c.unwrap_or-first.result =
    some_of _ stamps.first _ stamps.first_is (c.unwrap_or-first.ensures ∙ ap (λ o. unwrap_or o (pos 0)) (c.first_stamp.ensures ∙ (ap (λ (f : Frame). first_stamp f.rows) c.in_ok-tile.ensures ∙ first_cut c.args.frame.now c.args.part))) in
    let two : last_stamp (slice_range c.args.frame.now.rows part.first_row (part.first_row + part.rows)) ≡ Some c.unwrap_or-last.result =
    some_of _ stamps.last _ stamps.last_is (c.unwrap_or-last.ensures ∙ ap (λ o. unwrap_or o (pos 0)) (c.last_stamp.ensures ∙ (ap (λ (f : Frame). last_stamp f.rows) c.in_ok-tile.ensures ∙ last_cut c.args.frame.now c.args.part))) in
    record { first = search rules; last = search rules; spelled = search rules; first_fits = search rules; last_fits = search rules }
