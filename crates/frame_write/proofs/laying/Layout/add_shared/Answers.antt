use Rattle.std.proofs.Common.{ℕ, arith, sym, subst}
use Rattle.std.specs.List.{AllByRecursion}
use Rattle.index_tree.specs.SlotTexts.{MayMove}
use Rattle.frame_write.proofs.LayoutLemmas.{run_moves}
use Rattle.frame_write.proofs.laying.Layout.add_shared.Goals as goal

pub push_moved-requires : goal.push_moved-requires
push_moved-requires c = record {
  may = subst (λ (from : ℕ). AllByRecursion (MayMove from c.args.self.now.rows) c.args.run.now) (sym c.begin_of-from.ensures) (run_moves c.args.run.now c.args.self.now.rows c.requires.run c.requires.few);
}

pub overflow_add-self : goal.overflow_add-self
overflow_add-self c = omega (arith, c.end_of.ensures, c.begin_of-from.ensures, c.requires.few)
