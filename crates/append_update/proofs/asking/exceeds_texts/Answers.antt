use Rattle.std.proofs.Common.{◌≡◌, ◌+◌, ◌≤◌, sym, ap, ◌∙◌, inl, inr, arith, false, rules}
use Rattle.std.specs.List.{list_any}
use Rattle.std.proofs.lemmas.Bool.{true≢false, ltb-true, lt-ltb}
use Rattle.frame_core.specs.Schemas.{Head, Schema}
use Rattle.append_update.specs.Sizes.{text_total, kept_rows, is_text}
use Rattle.append_update.proofs.SizeLemmas.{few_texts}
use Rattle.append_update.proofs.asking.exceeds_texts.Goals as goal
use Rattle.append_update.proofs.asking.exceeds_texts.Goals.{then-rows-eq0-via-then-rows-eq0, then-rows-eq0-via-else-rows-eq0+then-not-has_texts}

pub returns-then-rows-eq0-clause-exceeds : goal.returns-then-rows-eq0-clause-exceeds
returns-then-rows-eq0-clause-exceeds g c = λ b.
    let few : text_total (kept_rows c.args.range b.version.frame.rows) + text_total c.args.frame.now.rows ≤ 67108864 =
    few_texts c.args.range c.requires.range b.version.frame c.args.frame.now b.newest.index_of.storable c.requires.storable (elim c.then-rows-eq0.branch [
      | then-rows-eq0-via-then-rows-eq0 w ↦ inl (sym c.rows.ensures.rows ∙ w.if-rows-eq0.true)
      | then-rows-eq0-via-else-rows-eq0+then-not-has_texts w ↦
          let off : w.has_texts.result ≡ false = search rules in
          inr (ap (λ (s : Schema). list_any (λ (h : Head). is_text h.1) s.columns) (sym b.newest.index_of.schema) ∙ (ap (list_any (λ (h : Head). is_text h.1)) (sym w.columns.ensures) ∙ (sym w.has_texts.ensures ∙ off)))
    ]) in
    (λ yes. absurd (true≢false (sym yes)), λ many. absurd (omega (arith, few, many)))

pub returns-clause-exceeds : goal.returns-clause-exceeds
returns-clause-exceeds g c = λ b.
    let kept : c.in_ok-kept.kept ≡ text_total (kept_rows c.args.range b.version.frame.rows) = c.in_ok-kept.ensures.bytes b in
    let total : c.in_ok-kept.kept + c.text_bytes.result ≡ text_total (kept_rows c.args.range b.version.frame.rows) + text_total c.args.frame.now.rows = omega (arith, kept, c.text_bytes.ensures.bytes) in
    (λ yes. omega (arith, total, ltb-true 67108864 (c.in_ok-kept.kept + c.text_bytes.result) yes), λ many. lt-ltb 67108864 (c.in_ok-kept.kept + c.text_bytes.result) (omega (arith, total, many)))
