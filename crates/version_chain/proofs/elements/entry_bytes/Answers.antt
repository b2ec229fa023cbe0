use Rattle.std.proofs.Common.{◌≡◌, ap, ◌∙◌, subst, List, arith, rules}
use Rattle.std.specs.List.{AllByRecursion}
use Rattle.store_model.specs.declared.chain.ChainMark.{ChainMark}
use Rattle.store_model.specs.ChainText.{entry_text, entry_of}
use Rattle.version_chain.specs.Entries.{FitsMark, FitsEntry}
use Rattle.version_chain.proofs.ElementLaws.{entry_again}
use Rattle.version_chain.proofs.elements.entry_bytes.Goals as goal

text : (c : goal.In_ok-put_marks) → c.put_marks.new.out.items ≡ entry_text c.args.entry.now
text c = search rules

fits : (c : goal.In_ok-put_marks) → FitsEntry c.args.entry.now
fits c = record {
  prev = c.in_ok-put_prev.ensures.fits;
  count = omega (arith, c.len.ensures, c.len.type_inv);
  marks = subst (λ (ms : List ChainMark). AllByRecursion FitsMark ms) c.items.ensures c.in_ok-put_marks.ensures.fits;
}

pub returns-clause-read : goal.returns-clause-read
returns-clause-read c = ap entry_of (text c) ∙ entry_again c.args.entry.now c.requires (fits c)
