use Rattle.std.proofs.Common.{◌≡◌, ◌∙◌, ◌++◌, Bool, map, subst, ap}
use Rattle.std.specs.Prelude.{codes}
use Rattle.std.proofs.lemmas.Result.{on_ok_weaker}
use Rattle.frame_core.specs.Schemas.{Head, Schema}
use Rattle.reply_text.specs.FrameText.{index_text}
use Rattle.reply_text.proofs.Commas.{record-made}
use Rattle.reply_text.proofs.frame_lines.push_header.Goals as goal

pub returns : goal.returns
returns c = on_ok_weaker c.push_end.result (λ made.
    record-made c.args.frame.now.schema.timed c.args.line.now.items c.push_index_name.new.line.items c.push_names.new.line.items c.push_end.new.line.items (codes "time") (map (λ (h : Head). h.0) c.args.frame.now.schema.columns)
    (subst (λ (b : Bool). c.push_index_name.new.line.items ≡ c.args.line.now.items ++ index_text b (codes "time")) (c.timed.ensures ∙ ap (λ (s : Schema). s.timed) c.schema.ensures.schema) c.in_ok-push_index_name.ensures)
    c.in_ok-push_names.ensures made) c.push_end.ensures
