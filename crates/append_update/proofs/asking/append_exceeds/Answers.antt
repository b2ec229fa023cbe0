use Rattle.std.proofs.Common.{◌≡◌, ◌+◌, ◌<◌, ◌≤◌, ◌∙◌, Bool, None, false, sym, subst, ap, inl, inr, arith, rules}
use Rattle.std.specs.Prelude.{◌↔◌, IsTrue, IfOk}
use Rattle.std.specs.List.{list_any}
use Rattle.std.proofs.lemmas.Bool.{true≢false}
use Rattle.frame_core.specs.Schemas.{Head, Schema}
use Rattle.index_tree.specs.declared.index.Index.{Index}
use Rattle.append_update.specs.declared.base.Base.{Base}
use Rattle.append_update.specs.Newest.{IsBaseAt}
use Rattle.append_update.specs.Sizes.{text_total, kept_rows, is_text}
use Rattle.append_update.proofs.SizeLemmas.{few_texts}
use Rattle.append_update.proofs.asking.append_exceeds.Goals as goal
use Rattle.append_update.proofs.asking.append_exceeds.Goals.{then-rows-eq0-via-then-rows-eq0, then-rows-eq0-via-else-rows-eq0+then-not-has_texts}

pub returns-then-rows-eq0-clause-exceeds : goal.returns-then-rows-eq0-clause-exceeds
returns-then-rows-eq0-clause-exceeds g c = λ b.
    let few : text_total (kept_rows None b.version.frame.rows) + text_total c.args.frame.now.rows ≤ 67108864 =
    few_texts None tt b.version.frame c.args.frame.now b.newest.index_of.storable c.requires.storable (elim c.then-rows-eq0.branch [
      | then-rows-eq0-via-then-rows-eq0 w ↦ inl (sym c.rows.ensures.rows ∙ w.if-rows-eq0.true)
      | then-rows-eq0-via-else-rows-eq0+then-not-has_texts w ↦
          let off : w.has_texts.result ≡ false = search rules in
          inr (ap (λ (s : Schema). list_any (λ (h : Head). is_text h.1) s.columns) (sym b.newest.index_of.schema) ∙ (ap (λ (i : Index). list_any (λ (h : Head). is_text h.1) i.schema.columns) (sym w.index.ensures)
          ∙ (ap (λ (s : Schema). list_any (λ (h : Head). is_text h.1) s.columns) (sym w.schema.ensures) ∙ (ap (list_any (λ (h : Head). is_text h.1)) (sym w.columns.ensures) ∙ (sym w.has_texts.ensures ∙ off)))))
    ]) in
    (λ yes. absurd (true≢false (sym yes)), λ many. absurd (omega (arith, few, many)))

pub returns-in-Ok-clause-exceeds : goal.returns-in-Ok-clause-exceeds
returns-in-Ok-clause-exceeds g c =
    subst (λ (x : Base). (b : IsBaseAt (g.B.Bucket.number c.args.bucket.now) (g.B.Bucket.seen c.args.bucket.now) c.args.symbol.now x)
    → IfOk c.exceeds_texts.result (λ (exceeds : Bool). IsTrue exceeds ↔ (67108864 < text_total (kept_rows None b.version.frame.rows) + text_total c.args.frame.now.rows))) c.in-Ok.ensures c.exceeds_texts.ensures.exceeds
