use Rattle.std.proofs.Common.{◌≡◌, ap, ◌∙◌, subst, List, arith, rules}
use Rattle.std.specs.List.{AllByRecursion}
use Rattle.store_model.specs.declared.snapshot.SnapRow.{SnapRow}
use Rattle.store_model.specs.ChainText.{snap_text, snap_of}
use Rattle.version_chain.specs.SnapBodies.{FitsSnapRow, FitsSnap}
use Rattle.version_chain.proofs.SnapLaws.{snap_again}
use Rattle.version_chain.proofs.snapshots.snap_bytes.Goals as goal

text : (c : goal.In_ok-put_rows) → c.put_rows.new.out.items ≡ snap_text c.args.body.now
text c = search rules

fits : (c : goal.In_ok-put_rows) → FitsSnap c.args.body.now
fits c = record {
  holder = c.put_holder.ensures.fits;
  count = omega (arith, c.len.ensures, c.len.type_inv);
  rows = subst (λ (rs : List SnapRow). AllByRecursion FitsSnapRow rs) c.items.ensures c.in_ok-put_rows.ensures.fits;
}

pub returns-clause-read : goal.returns-clause-read
returns-clause-read c = ap snap_of (text c) ∙ snap_again c.args.body.now c.requires (fits c)
