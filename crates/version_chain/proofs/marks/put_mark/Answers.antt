use Rattle.std.proofs.Common.{ap, sym, ◌∙◌, ◌++◌, ◌∷◌, [], List, ℕ, append_assoc, w64}
use Rattle.std.proofs.lemmas.Result.{on_ok_weaker}
use Rattle.std.specs.Int.{to_be_bytes}
use Rattle.store_model.specs.declared.chain.ChainMark.{ChainMark}
use Rattle.store_model.specs.ChainText.{holder_text, mark_text}
use Rattle.version_chain.proofs.marks.put_mark.Goals as goal

pub returns-in_ok-put_holder-in-Hold-clause-text : goal.returns-in_ok-put_holder-in-Hold-clause-text
returns-in_ok-put_holder-in-Hold-clause-text c =
    let old = c.args.out.now.items in
    let holder = holder_text c.in-Hold.holder in
    let version = to_be_bytes w64 c.in-Hold.version in
    on_ok_weaker c.put_u64-in-Hold.result
    (λ e. e ∙ (ap (λ (t : List ℕ). t ++ version) (c.in_ok-put_holder-in-Hold.ensures.text ∙ ap (λ (t : List ℕ). t ++ holder) c.in_ok-put_u8-in-Hold.ensures)
    ∙ (ap (λ (t : List ℕ). t ++ version) (append_assoc old (3 ∷ []) holder) ∙ (append_assoc old (3 ∷ holder) version ∙ ap (λ (m : ChainMark). old ++ mark_text m) (sym c.in-Hold.is)))))
    c.put_u64-in-Hold.ensures

pub returns-in_ok-put_u8-in-Release-clause-text : goal.returns-in_ok-put_u8-in-Release-clause-text
returns-in_ok-put_u8-in-Release-clause-text c =
    let old = c.args.out.now.items in
    let holder = holder_text c.in-Release.holder in
    on_ok_weaker c.put_holder-in-Release.result
    (λ e. e ∙ (ap (λ (t : List ℕ). t ++ holder) c.in_ok-put_u8-in-Release.ensures ∙ (append_assoc old (4 ∷ []) holder ∙ ap (λ (m : ChainMark). old ++ mark_text m) (sym c.in-Release.is))))
    c.put_holder-in-Release.ensures.text
