use Rattle.std.proofs.Common.{length, sym, subst, ap, ◌∙◌}
use Rattle.std.specs.Prelude.{slice_range}
use Rattle.frame_core.specs.Frames.{Frame}
use Rattle.frame_core.specs.Limits.{IsStorable}
use Rattle.frame_write.specs.Pieces.{IsRun}
use Rattle.append_update.specs.Sizes.{text_total, kept_rows}
use Rattle.append_update.proofs.WholeBase.{whole_run, whole_is}
use Rattle.append_update.proofs.asking.base_text_bytes.Goals as goal

pub block_frame-requires-clause-run : goal.block_frame-requires-clause-run
block_frame-requires-clause-run g c =
    subst (λ n. IsRun (length c.args.base.now.index.schema.columns) (slice_range c.args.base.now.index.slots 0 n)) (sym c.len-slots.ensures) (whole_run c.requires.base.version.frame c.args.base.now.index c.requires.base.newest.index_of)

pub kept_text_bytes-requires : goal.kept_text_bytes-requires
kept_text_bytes-requires g c = record {
  storable = subst IsStorable (sym (c.in_ok-whole.ensures.frame c.requires.base ∙ whole_is c.requires.base.version.frame c.args.base.now.index c.requires.base.newest.index_of c.len-slots.result c.len-slots.ensures)) c.requires.base.newest.index_of.storable;
}

pub returns-in-Ok-clause-bytes : goal.returns-in-Ok-clause-bytes
returns-in-Ok-clause-bytes g c = λ b.
    let whole = c.in_ok-whole.ensures.frame b ∙ whole_is b.version.frame c.args.base.now.index b.newest.index_of c.len-slots.result c.len-slots.ensures in
    c.in-Ok.ensures.bytes ∙ ap (λ (f : Frame). text_total (kept_rows c.args.range f.rows)) whole
