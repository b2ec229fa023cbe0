use Rattle.std.proofs.Common.{◌≡◌, ◌+◌, ◌-◌, ◌<◌, length, ap, ◌∙◌, arith}
use Rattle.std.specs.Prelude.{sum_by}
use Rattle.frame_core.specs.Columns.{columns_from, cells_of}
use Rattle.frame_core.specs.Limits.{all_text_bytes}
use Rattle.frame_core.specs.Schemas.{Schema}
use Rattle.append_update.specs.Sizes.{text_total}
use Rattle.append_update.proofs.SizeLemmas.{columns_total, columns_more}
use Rattle.append_update.proofs.sizes.text_bytes.Goals as goal

pub loop-place-init : goal.loop-place-init
loop-place-init c =
    let whole : length c.args.frame.now.schema.columns - 0 ≡ length c.args.frame.now.schema.columns = omega arith in
    let all = ap (λ n. sum_by all_text_bytes (columns_from 0 n c.args.frame.now.rows)) whole ∙ columns_total c.args.frame.now c.requires.storable.is_frame in
    omega (arith, all)

pub loop-place-preserved : goal.loop-place-preserved
loop-place-preserved c =
    let size = c.len-place-end.ensures ∙ ap (λ (s : Schema). length s.columns) c.schema.ensures.schema in
    let less : c.loop-place.place < length c.args.frame.now.schema.columns = omega (arith, size, c.loop-place-test.true) in
    let here : c.text_bytes.result ≡ all_text_bytes (cells_of c.loop-place.place c.args.frame.now.rows) = c.text_bytes.ensures ∙ ap all_text_bytes c.column.ensures.cells in
    let done : (c.loop-place.bytes + c.text_bytes.result) + sum_by all_text_bytes (columns_from (c.loop-place.place + 1) (length c.args.frame.now.schema.columns - (c.loop-place.place + 1)) c.args.frame.now.rows) ≡ text_total c.args.frame.now.rows =
    omega (arith, here, c.loop-place.invariant, columns_more c.loop-place.place (length c.args.frame.now.schema.columns) c.args.frame.now.rows less) in
    done
