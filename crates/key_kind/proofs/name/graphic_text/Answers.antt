use Rattle.std.proofs.Common.{sym, ap, ◌∙◌, cond, Some, None, List, ℕ}
use Rattle.key_kind.proofs.NameRules.{IsUtf8-graphic}
use Rattle.key_kind.proofs.name.graphic_text.Goals as goal

pub returns-in-Ok : goal.returns-in-Ok
returns-in-Ok c = ap (λ (t : List ℕ). Some t) c.in-Ok.ensures.cases.0 ∙ ap (λ b. cond b (Some c.args.bytes.now) None) c.if-not-all_graphic.ensures

pub returns-in-Err : goal.returns-in-Err
returns-in-Err c = absurd (c.in-Err.ensures.cases.0 (IsUtf8-graphic c.args.bytes.now (sym c.if-not-all_graphic.ensures)))
